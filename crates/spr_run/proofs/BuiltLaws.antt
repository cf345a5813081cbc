-- Where the stack has what each line of a script names, the program makes its calls.
use Rattle.std.proofs.Common.{◌≡◌, ℕ, suc, ◌+◌, ◌≤◌, length, drop, arith, Bool, true, false, cond, not, ◌&&◌, ◌||◌, leb, position, IsSome, List, [], ◌∷◌, Option, Some, None, refl, sym, subst}
use Rattle.std.specs.Option.{option_and_then, option_map, option_or}
use Rattle.std.proofs.lemmas.Bool.{and_parts, leb-true}
use Rattle.std.specs.Str.{bytes_eq}
use Rattle.std.specs.List.{AllByRecursion, list_any, list_all, position_from}
use Rattle.std.proofs.lemmas.Iterator.Adapters.{position_from-zero}
use Rattle.text_words.specs.Words.{IsPath, is_name}
use Rattle.script_text.specs.declared.script.Call.{Call}
use Rattle.script_text.specs.declared.script.Call.TheVariants as calls
use Rattle.script_text.specs.declared.script.CallLine.{CallLine}
use Rattle.script_text.specs.declared.script.Script.{Script}
use Rattle.script_text.specs.Grammar.{AreCalls as AreCallLines, ArePhases, IsCall, IsScript}
use Rattle.stack_accept.specs.declared.entries.FileEntry.{FileEntry}
use Rattle.stack_accept.specs.declared.entries.NodeEntry.{NodeEntry}
use Rattle.stack_accept.specs.Mount.{Mount, is_view}
use Rattle.name_context.specs.Names.{HasParts}
use Rattle.marshal_buf.specs.declared.door.Door.{Door}
use Rattle.script_meaning.specs.Plan.{doors_at, replica_doors}
use Rattle.script_meaning.specs.Stack.{view_of, layer_of, file_named}
use Rattle.spr_client.specs.Lines.{AreCalls, IsCallOf}
use Rattle.run_texts.specs.Known.{has_view, has_file, has_layer, is_known, unknown_client, unknown_in, unknown_call, unknown_line}

-- a path of a text has its parts
parts-of : (path : List (List ℕ)) → IsPath path → HasParts path
parts-of path is =
    let outer = and_parts (leb 1 (length path) && leb (length path) 8) (list_all is_name path) is in
    let inner = and_parts (leb 1 (length path)) (leb (length path) 8) outer.0 in
    let some : 1 ≤ length path = leb-true 1 (length path) inner.0 in
    let few : length path ≤ 8 = leb-true (length path) 8 inner.1 in
    record { some = omega (arith, some); few = omega (arith, few) }

some-if : (b c : Bool) (n : ℕ) (rest : Option ℕ) → (b || c) ≡ true → (c ≡ true → IsSome rest) → IsSome (cond b (Some n) rest)
some-if true c n rest e f = refl
some-if false c n rest e f = f e

-- what an item passes is found at a place
found-from : {A : Type 0} (p : A → Bool) (n : ℕ) (xs : List A) → list_any p xs ≡ true → IsSome (position_from p n xs)
found-from p n [] e = absurd cc
found-from p n (x ∷ xs) e = some-if (p x) (list_any p xs) n (position_from p (n + 1) xs) e (found-from p (n + 1) xs)

found : {A : Type 0} (p : A → Bool) (xs : List A) → list_any p xs ≡ true → IsSome (position p xs)
found p xs e = subst (λ (o : Option ℕ). IsSome o) (sym (position_from-zero p xs)) (found-from p 0 xs e)

one-more : (o : Option ℕ) → IsSome o → IsSome (option_map (λ place. place + 1) o)
one-more (Some place) some = refl
one-more None some = absurd cc

-- a layer and a file that the stack has
names-of : (mount : Mount) (layer file : List ℕ) → (has_layer mount layer && has_file mount file) ≡ true → IsSome (layer_of mount layer) × IsSome (file_named mount file)
names-of mount layer file known =
    let named = and_parts (has_layer mount layer) (has_file mount file) known in (
      one-more (position (λ (node : NodeEntry). bytes_eq node.name layer) (drop 1 mount.nodes)) (found (λ (node : NodeEntry). bytes_eq node.name layer) (drop 1 mount.nodes) named.0),
      found (λ (f : FileEntry). bytes_eq f.name file) mount.files named.1,
    )

-- the doors of a replicon object at views that the stack has
both-some : (mount : Mount) (file : ℕ) (views : List (List ℕ)) (node : Option ℕ) → IsSome node → IsSome (doors_at mount file views)
    → IsSome (option_and_then {T = ℕ} (λ n. option_map {T = List Door} (λ doors. record { node = n; file = file } ∷ doors) (doors_at mount file views)) node)
both-some mount file views (Some node) some rest = by (doors_at mount file views) rest
  where
    by : (o : Option (List Door)) → IsSome o → IsSome (option_map {T = List Door} (λ doors. record { node = node; file = file } ∷ doors) o)
    by (Some doors) there = refl
    by None there = absurd cc
both-some mount file views None some rest = absurd cc

doors-of : (mount : Mount) (views : List (List ℕ)) → list_all (has_view mount) views ≡ true → (file : ℕ) → IsSome (doors_at mount file views)
doors-of mount [] known file = refl
doors-of mount (view ∷ views) known file =
    let parts = and_parts (has_view mount view) (list_all (has_view mount) views) known in
    both-some mount file views (view_of mount view) (found (λ (node : NodeEntry). is_view node.kind && bytes_eq node.name view) mount.nodes parts.0) (doors-of mount views parts.1 file)

doors-behind : (mount : Mount) (file : Option ℕ) (views : List (List ℕ)) → IsSome file → ((number : ℕ) → IsSome (doors_at mount number views)) → IsSome (replica_doors mount file views)
doors-behind mount (Some number) views some there = there number
doors-behind mount None views some there = absurd cc

call-of : (mount : Mount) (call : Call) → IsCall call → is_known mount call ≡ true → IsCallOf mount call
call-of mount (calls.Context path) is known = parts-of path is
call-of mount (calls.Bind path sub view file) is known =
    let named = and_parts (has_view mount view) (has_file mount file) known in (
      is.0,
      found (λ (node : NodeEntry). is_view node.kind && bytes_eq node.name view) mount.nodes named.0,
      found (λ (f : FileEntry). bytes_eq f.name file) mount.files named.1,
    )
call-of mount (calls.Replicate path file views) is known =
    let named = and_parts (has_file mount file) (list_all (has_view mount) views) known in
    (is.0, is.2, doors-behind mount (file_named mount file) views (found (λ (f : FileEntry). bytes_eq f.name file) mount.files named.0) (doors-of mount views named.1))
call-of mount (calls.Unbind path) is known = parts-of path is
call-of mount (calls.List None) is known = refl
call-of mount (calls.List (Some path)) is known = parts-of path is
call-of mount (calls.Open name path) is known = parts-of path is.1
call-of mount (calls.Copy name other) is known = tt
call-of mount (calls.Drop name) is known = tt
call-of mount (calls.Read name page off len) is known = tt
call-of mount (calls.Write name page off bytes) is known = tt
call-of mount (calls.Clear name page) is known = tt
call-of mount (calls.Sync name) is known = tt
call-of mount (calls.Clean name) is known = tt
call-of mount (calls.Map region name address pages write) is known = let low = is.2 in omega (arith, low)
call-of mount (calls.Unmap region) is known = tt
call-of mount (calls.Load address len) is known = let low = is.0 in omega (arith, low)
call-of mount (calls.Store address bytes) is known = let low = is.0 in omega (arith, low)
call-of mount (calls.Revoke layer file) is known = names-of mount layer file known
call-of mount (calls.Release layer file) is known = names-of mount layer file known

passes-or : (b : Bool) (l : CallLine) (o : Option CallLine) → cond (not b) (Some l) o ≡ None → (b ≡ true) × (o ≡ None)
passes-or true l o e = (refl, e)
passes-or false l o e = absurd cc

or-none : (a b : Option CallLine) → option_or a b ≡ None → (a ≡ None) × (b ≡ None)
or-none None b e = (refl, e)
or-none (Some x) b e = absurd cc

lines-of : (mount : Mount) (count number : ℕ) (lines : List CallLine) → AreCallLines count number lines → unknown_in mount lines ≡ None → AreCalls mount lines
lines-of mount count number [] are unknown = tt
lines-of mount count number (l ∷ lines) are unknown =
    let known = passes-or (is_known mount l.call) l (unknown_in mount lines) unknown in
    (call-of mount l.call are.2 known.0, lines-of mount count (suc number) lines are.3 known.1)

phases-of : (mount : Mount) (count number : ℕ) (phases : List (List CallLine)) → ArePhases count number phases → unknown_call mount phases ≡ None → AllByRecursion (AreCalls mount) phases
phases-of mount count number [] are unknown = tt
phases-of mount count number (phase ∷ phases) are unknown =
    let known = or-none (unknown_in mount phase) (unknown_call mount phases) unknown in
    (lines-of mount count (suc number) phase are.0 known.0, phases-of mount count (suc number + length phase) phases are.1 known.1)

line-none : (o : Option CallLine) → option_map {T = CallLine} (λ l. l.line) o ≡ None → o ≡ None
line-none None e = refl
line-none (Some l) e = absurd cc

numbers-none : (a b : Option ℕ) → option_or a b ≡ None → b ≡ None
numbers-none None b e = e
numbers-none (Some n) b e = absurd cc

-- a script that names what the stack has, has calls that the program makes
pub phases-built : (mount : Mount) (script : Script) → IsScript script → unknown_line mount script ≡ None → AllByRecursion (AreCalls mount) script.phases
phases-built mount script is unknown =
    phases-of mount (length script.clients) (suc (length script.clients)) script.phases is.phases
    (line-none (unknown_call mount script.phases) (numbers-none (unknown_client mount script.clients) (option_map {T = CallLine} (λ l. l.line) (unknown_call mount script.phases)) unknown))
