-- A script that is made for a stack's shape names what the stack has.
use Rattle.std.specs.Prelude.{Contains}
use Rattle.std.specs.Option.{option_map, option_or}
use Rattle.std.specs.List.{AllByRecursion, position_from}
use Rattle.std.specs.Str.{bytes_eq}
use Rattle.std.proofs.Common.{◌≡◌, ℕ, zero, suc, ◌+◌, ◌%◌, length, arith, Bool, true, false, cond, not, List, [], ◌∷◌, Option, Some, None, Result, Ok, Err, IfOk, IsTrue, refl, sym, ap, subst, ◌∙◌}
use Rattle.std.proofs.lemmas.Iterator.Adapters.{position_from-zero}
use Rattle.std.proofs.lemmas.List.Folds.{list_any_at}
use Rattle.std.proofs.lemmas.Nat.{mod_below}
use Rattle.script_text.specs.declared.script.Call.{Call}
use Rattle.script_text.specs.declared.script.Call.TheVariants as calls
use Rattle.script_text.specs.declared.script.CallLine.{CallLine}
use Rattle.script_text.specs.declared.script.ClientLine.{ClientLine}
use Rattle.script_text.specs.declared.script.Script.{Script}
use Rattle.script_gen.specs.declared.shape.Shape.{Shape}
use Rattle.script_gen.specs.Shape.{IsShape, no_seat, seat_of}
use Rattle.script_gen.specs.Access.{client_name}
use Rattle.script_gen.specs.Made.{clients_of, generated}
use Rattle.script_gen.specs.Laws.{is_made, AreMade}
use Rattle.stack_accept.specs.Mount.{Mount}
use Rattle.stack_seats.specs.Seats.{AreNames, AreOnMachines}
use Rattle.stack_seats.proofs.Lists.{all-at, all-append}
use Rattle.stack_seats.proofs.NameLaws.{mounted-named}
use Rattle.idl_check.proofs.NameTests.{text_same}
use Rattle.spr_io.specs.Texts.{ShelfSeen}
use Rattle.run_texts.specs.Known.{has_machine, is_known, unknown_client, unknown_in, unknown_call, unknown_line}
use Rattle.run_texts.specs.Stacks.{IsMounted}

-- a machine of the stack is one that it has
machine-known : (mount : Mount) (name : List ℕ) → Contains mount.machines name → has_machine mount name ≡ true
machine-known mount name in-it = list_any_at (λ own. bytes_eq own name) mount.machines in-it.0 name in-it.1 (text_same _ name in-it.2)

clients-known : (mount : Mount) (shape : Shape) → IsShape shape → AreOnMachines mount shape.seats → (clients : ℕ) → AllByRecursion (λ client. has_machine mount client.machine ≡ true) (clients_of shape clients)
clients-known mount shape is on zero = tt
clients-known mount shape is on (suc client) =
    let some = is.some_seat in
    let seat = all-at (λ seat. Contains mount.machines seat.machine) shape.seats (client % length shape.seats) no_seat (mod_below client (length shape.seats) (omega arith)) on in
    all-append (λ client. has_machine mount client.machine ≡ true) (clients_of shape client) (record { name = client_name client; machine = (seat_of shape client).machine } ∷ []) (clients-known mount shape is on client) (machine-known mount (seat_of shape client).machine seat, tt)

none-else : {A : Type 0} (b : Bool) (x : A) (o : Option A) → b ≡ true → o ≡ None → cond (not b) (Some x) o ≡ None
none-else true x o e none = none
none-else false x o e none = absurd cc

clients-none : (mount : Mount) (number : ℕ) (clients : List ClientLine) → AllByRecursion (λ client. has_machine mount client.machine ≡ true) clients
    → position_from (λ client. not (has_machine mount client.machine)) number clients ≡ None
clients-none mount number [] all = refl
clients-none mount number (client ∷ clients) all = none-else (has_machine mount client.machine) number _ all.0 (clients-none mount (number + 1) clients all.1)

client-none : (mount : Mount) (clients : List ClientLine) → AllByRecursion (λ client. has_machine mount client.machine ≡ true) clients → unknown_client mount clients ≡ None
client-none mount clients all = ap (option_map (λ place. place + 1)) (position_from-zero (λ client. not (has_machine mount client.machine)) clients ∙ clients-none mount 0 clients all)

call-known : (mount : Mount) (call : Call) → IsTrue (is_made call) → is_known mount call ≡ true
call-known mount (calls.Bind path sub view file) made = absurd cc
call-known mount (calls.Replicate path file views) made = absurd cc
call-known mount (calls.Revoke layer file) made = absurd cc
call-known mount (calls.Release layer file) made = absurd cc
call-known mount call made = refl

lines-none : (mount : Mount) (lines : List CallLine) → AreMade lines → unknown_in mount lines ≡ None
lines-none mount [] made = refl
lines-none mount (line ∷ lines) made = none-else (is_known mount line.call) line (unknown_in mount lines) (call-known mount line.call made.0) (lines-none mount lines made.1)

phases-none : (mount : Mount) (phases : List (List CallLine)) → AllByRecursion AreMade phases → unknown_call mount phases ≡ None
phases-none mount [] made = refl
phases-none mount (phase ∷ phases) made = ap (λ (o : Option CallLine). option_or o (unknown_call mount phases)) (lines-none mount phase made.0) ∙ phases-none mount phases made.1

both-none : (a : Option ℕ) (b : Option CallLine) → a ≡ None → b ≡ None → option_or a (option_map {T = CallLine} (λ l. l.line) b) ≡ None
both-none None None p q = refl
both-none None (Some l) p q = absurd cc
both-none (Some n) b p q = absurd cc

-- such a script has no line that names what the stack does not have
pub generated-known : (mount : Mount) (shape : Shape) (seed calls : ℕ) → IsShape shape → AreOnMachines mount shape.seats → AllByRecursion AreMade (generated shape seed calls).phases → unknown_line mount (generated shape seed calls) ≡ None
generated-known mount shape seed calls is on made =
    both-none (unknown_client mount (clients_of shape 8)) (unknown_call mount (generated shape seed calls).phases) (client-none mount (clients_of shape 8) (clients-known mount shape is on 8))
    (phases-none mount (generated shape seed calls).phases made)

pub known-if : {E : Type 0} (r : Result Script E) (mount : Mount) (shape : Shape) (seed calls : ℕ) → IsShape shape → AreOnMachines mount shape.seats
    → IfOk r (λ script. script ≡ generated shape seed calls) → IfOk r (λ script. AllByRecursion AreMade script.phases) → IfOk r (λ script. unknown_line mount script ≡ None)
known-if (Ok script) mount shape seed calls is on e made =
    subst (λ (s : Script). unknown_line mount s ≡ None) (sym e) (generated-known mount shape seed calls is on (subst (λ (s : Script). AllByRecursion AreMade s.phases) e made))
known-if (Err why) mount shape seed calls is on e made = tt

-- the names of a stack of a text are names
pub names-of : (shelf : ShelfSeen) (name : List ℕ) (mount : Mount) → IsMounted shelf name mount → AreNames mount
names-of shelf name mount is = subst (λ (m : Mount). AreNames m) (sym is.mount_is) (mounted-named is.stack.lines is.stack_is.accepts.spells.is_stack.lines)
