-- Laws of open objects.
use Rattle.std.proofs.Common.{◌≡◌, ℕ, ◌<◌, List, [], ◌∷◌, length, Bool, true, false, cond, Option, Some, None, refl, sym, ap, subst}
use Rattle.std.specs.Prelude.{find, is_some, IsSome}
use Rattle.std.specs.List.{AllByRecursion}
use Rattle.std.specs.Option.{option_map}
use Rattle.std.specs.Str.{bytes_eq}
use Rattle.std.proofs.lemmas.Slice.Eq.{bytes_eq-Decides}
use Rattle.stack_accept.specs.Mount.{Mount, is_view_in}
use Rattle.client_objects.specs.declared.target.Target.{Target}
use Rattle.client_objects.specs.Found.{IsChosen}
use Rattle.client_objects.specs.Objects.{OpenObject, IsOnStack, object_of, with_object, without, with_target, word_of}

-- the target of an object that was found
abbrev target_found : Option OpenObject → Option Target
target_found found = option_map (λ (o : OpenObject). o.target) found

-- the first object of a name
abbrev first_named : List ℕ → List OpenObject → Option OpenObject
first_named name objects = find (λ (o : OpenObject). bytes_eq o.name name) objects

held_if : (b : Bool) (o : OpenObject) (rest more : Option OpenObject) (t : Target) → (target_found rest ≡ Some t → target_found more ≡ Some t) → target_found (cond b (Some o) rest) ≡ Some t → target_found (cond b (Some o) more) ≡ Some t
held_if true o rest more t then is = is
held_if false o rest more t then is = then is

-- an object that is found is found again if one more is opened
pub object_of-held : (objects : List OpenObject) (name other word : List ℕ) (target t : Target) → object_of name objects ≡ Some t → object_of name (with_object objects other target word) ≡ Some t
object_of-held [] name other word target t is = absurd cc
object_of-held (o ∷ os) name other word target t is =
    held_if (bytes_eq o.name name) o (first_named name os) (first_named name (with_object os other target word)) t (object_of-held os name other word target t) is

new_if : (b : Bool) (o : OpenObject) (rest more : Option OpenObject) (t : Target) → (target_found rest ≡ None → target_found more ≡ Some t) → target_found (cond b (Some o) rest) ≡ None → target_found (cond b (Some o) more) ≡ Some t
new_if true o rest more t then is = absurd cc
new_if false o rest more t then is = then is

-- an object is found that was opened under a name that was free
pub object_of-new : (objects : List OpenObject) (name word : List ℕ) (target : Target) → object_of name objects ≡ None → object_of name (with_object objects name target word) ≡ Some target
object_of-new [] name word target none =
    let new : OpenObject = record { name = name; target = target; word = word } in
    ap (λ (b : Bool). target_found (cond b (Some new) None)) ((bytes_eq-Decides name name).1 refl)
object_of-new (o ∷ os) name word target none =
    new_if (bytes_eq o.name name) o (first_named name os) (first_named name (with_object os name target word)) target (object_of-new os name word target) none

same_if : (b : Bool) (o : OpenObject) (rest more : Option OpenObject) → target_found more ≡ target_found rest → target_found (cond b (Some o) more) ≡ target_found (cond b (Some o) rest)
same_if true o rest more same = refl
same_if false o rest more same = same

-- what a name finds stays as it is if an object is opened under another name
pub object_of-other : (objects : List OpenObject) (name other word : List ℕ) (target : Target) → bytes_eq other name ≡ false → object_of name (with_object objects other target word) ≡ object_of name objects
object_of-other [] name other word target differ =
    let new : OpenObject = record { name = other; target = target; word = word } in
    ap (λ (b : Bool). target_found (cond b (Some new) None)) differ
object_of-other (o ∷ os) name other word target differ =
    same_if (bytes_eq o.name name) o (first_named name os) (first_named name (with_object os other target word)) (object_of-other os name other word target differ)

-- an object that leads onto the stack does so under any name and of any life
pub on_stack-renamed : (mount : Mount) (object : OpenObject) (name : List ℕ) (life : ℕ) → IsOnStack mount object → IsOnStack mount (record { name = name; target = record object.target { life = life }; word = object.word })
on_stack-renamed mount object name life on = record { view = on.view; file = on.file; chosen = on.chosen }

-- all lead onto the stack, with one more that does
pub on_stack-with_object : (mount : Mount) (objects : List OpenObject) (name word : List ℕ) (target : Target) → AllByRecursion (IsOnStack mount) objects → is_view_in mount.nodes target.view ≡ true → target.file < length mount.files → IsChosen target
    → AllByRecursion (IsOnStack mount) (with_object objects name target word)
on_stack-with_object mount [] name word target all view file chosen = (record { view = view; file = file; chosen = chosen }, tt)
on_stack-with_object mount (o ∷ os) name word target all view file chosen = (all.0, on_stack-with_object mount os name word target all.1 view file chosen)

all_if : (P : OpenObject → Type 0) (b : Bool) (xs ys : List OpenObject) → AllByRecursion P xs → AllByRecursion P ys → AllByRecursion P (cond b xs ys)
all_if P true xs ys here there = here
all_if P false xs ys here there = there

-- and with one less
pub on_stack-without : (mount : Mount) (objects : List OpenObject) (name : List ℕ) → AllByRecursion (IsOnStack mount) objects → AllByRecursion (IsOnStack mount) (without name objects)
on_stack-without mount [] name all = tt
on_stack-without mount (o ∷ os) name all =
    all_if (IsOnStack mount) (bytes_eq o.name name) os (o ∷ without name os) all.1 (all.0, on_stack-without mount os name all.1)

on_stack_if : (mount : Mount) (b : Bool) (o : OpenObject) (rest : Option OpenObject) (name : List ℕ) (t : Target) → IsOnStack mount o → (target_found rest ≡ Some t → IsOnStack mount (record { name = name; target = t; word = [] })) → target_found (cond b (Some o) rest) ≡ Some t
    → IsOnStack mount (record { name = name; target = t; word = [] })
on_stack_if mount true o rest name t on then is =
    let same : o.target ≡ t = cc in
    subst (λ (at : Target). IsOnStack mount (record { name = name; target = at; word = [] })) same (record { view = on.view; file = on.file; chosen = on.chosen })
on_stack_if mount false o rest name t on then is = then is

-- where the calls of an object go that is found
pub on_stack-object_of : (mount : Mount) (objects : List OpenObject) (name : List ℕ) (t : Target) → AllByRecursion (IsOnStack mount) objects → object_of name objects ≡ Some t → IsOnStack mount (record { name = name; target = t; word = [] })
on_stack-object_of mount [] name t all is = absurd cc
on_stack-object_of mount (o ∷ os) name t all is =
    on_stack_if mount (bytes_eq o.name name) o (first_named name os) name t all.0 (on_stack-object_of mount os name t all.1) is

-- all lead onto the stack, with one more that leads where one of them does
pub on_stack-copied : (mount : Mount) (objects : List OpenObject) (name other word : List ℕ) (t : Target) → AllByRecursion (IsOnStack mount) objects → object_of name objects ≡ Some t → AllByRecursion (IsOnStack mount) (with_object objects other t word)
on_stack-copied mount objects name other word t all is =
    let on = on_stack-object_of mount objects name t all is in
    on_stack-with_object mount objects other word t all on.view on.file on.chosen

copied_by : (mount : Mount) (old new : List OpenObject) (name other : List ℕ) (found : Option Target) → found ≡ object_of name old → IsSome found → AllByRecursion (IsOnStack mount) old → ((t : Target) → object_of name old ≡ Some t → new ≡ with_object old other t (word_of name old))
    → AllByRecursion (IsOnStack mount) new
copied_by mount old new name other (Some t) is some all now =
    subst (λ (os : List OpenObject). AllByRecursion (IsOnStack mount) os) (sym (now t (sym is))) (on_stack-copied mount old name other (word_of name old) t all (sym is))
copied_by mount old new name other None is some all now = absurd cc

-- the same, from what a copy ensures
pub on_stack-copy : (mount : Mount) (old new : List OpenObject) (name other : List ℕ) → IsSome (object_of name old) → AllByRecursion (IsOnStack mount) old → ((t : Target) → object_of name old ≡ Some t → new ≡ with_object old other t (word_of name old)) → AllByRecursion (IsOnStack mount) new
on_stack-copy mount old new name other some all now = copied_by mount old new name other (object_of name old) refl some all now

-- where the calls of an object go that leads elsewhere
led_if : (mount : Mount) (b : Bool) (o : OpenObject) (target : Target) (os rest : List OpenObject) → IsOnStack mount o → AllByRecursion (IsOnStack mount) os → IsOnStack mount (record o { target = target }) → AllByRecursion (IsOnStack mount) rest
    → AllByRecursion (IsOnStack mount) (cond b (record o { target = target } ∷ os) (o ∷ rest))
led_if mount true o target os rest first all new more = (new, all)
led_if mount false o target os rest first all new more = (first, more)

pub on_stack-with_target : (mount : Mount) (name : List ℕ) (target : Target) (objects : List OpenObject) → AllByRecursion (IsOnStack mount) objects → is_view_in mount.nodes target.view ≡ true → target.file < length mount.files → IsChosen target
    → AllByRecursion (IsOnStack mount) (with_target name target objects)
on_stack-with_target mount name target [] all view file chosen = tt
on_stack-with_target mount name target (o ∷ os) all view file chosen =
    led_if mount (bytes_eq o.name name) o target os (with_target name target os) all.0 all.1 (record { view = view; file = file; chosen = chosen })
    (on_stack-with_target mount name target os all.1 view file chosen)

-- the object of the name leads there
led_here : (b : Bool) (o : OpenObject) (rest : Option OpenObject) (others : List OpenObject) (target : Target) (name : List ℕ) (os : List OpenObject) → bytes_eq o.name name ≡ b → (is_some (target_found rest) ≡ true → object_of name others ≡ Some target)
    → is_some (target_found (cond b (Some o) rest)) ≡ true → object_of name (cond b (record o { target = target } ∷ os) (o ∷ others)) ≡ Some target
led_here true o rest others target name os is then some = rw is refl
led_here false o rest others target name os is then some = rw is (then some)

pub object_of-with_target : (name : List ℕ) (target : Target) (objects : List OpenObject) → IsSome (object_of name objects) → object_of name (with_target name target objects) ≡ Some target
object_of-with_target name target [] some = absurd cc
object_of-with_target name target (o ∷ os) some =
    led_here (bytes_eq o.name name) o (first_named name os) (with_target name target os) target name os refl (object_of-with_target name target os) some
