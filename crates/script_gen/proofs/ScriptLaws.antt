-- A generated script is one that some text spells.
use Rattle.std.proofs.Common.{◌≡◌, ℕ, suc, ◌+◌, ◌≤◌, List, [], ◌∷◌, length, refl, sym, subst, arith, length-append}
use Rattle.std.specs.List.{AllByRecursion}
use Rattle.std.proofs.lemmas.List.{length-map}
use Rattle.text_words.specs.Words.{IsName}
use Rattle.script_text.specs.declared.script.CallLine.{CallLine}
use Rattle.script_text.specs.declared.script.ClientLine.{ClientLine}
use Rattle.script_text.specs.Grammar.{IsClient, AreDistinct, AreCalls, ArePhases, IsScript, script_lines}
use Rattle.script_gen.specs.declared.shape.Shape.{Shape}
use Rattle.script_gen.specs.Shape.{IsShape, seat_of}
use Rattle.script_gen.specs.Made.{clients_of, first_phase, second_phase, generated}
use Rattle.script_gen.specs.Laws.{AreMade}
use Rattle.script_gen.proofs.ShapeLaws.{seat-is}
use Rattle.script_gen.proofs.NameLaws.{client-named}
use Rattle.script_gen.proofs.PhaseLaws.{opened-good, called-good, called-many, opened-many}

-- a client by its digit
abbrev named : Shape → ℕ → ClientLine
named shape client = record { name = 103 ∷ (48 + client) ∷ []; machine = (seat_of shape client).machine }

abbrev eight : Shape → List ClientLine
eight shape = named shape 0 ∷ named shape 1 ∷ named shape 2 ∷ named shape 3 ∷ named shape 4 ∷ named shape 5 ∷ named shape 6 ∷ named shape 7 ∷ []

machine-is : (shape : Shape) (client : ℕ) → IsShape shape → IsName (seat_of shape client).machine
machine-is shape client is = (seat-is shape client is).machine

clients-eight : (shape : Shape) → clients_of shape 8 ≡ eight shape
clients-eight shape =
    let e0 = client-named 0 (omega arith) in
    let e1 = client-named 1 (omega arith) in
    let e2 = client-named 2 (omega arith) in
    let e3 = client-named 3 (omega arith) in
    let e4 = client-named 4 (omega arith) in
    let e5 = client-named 5 (omega arith) in
    let e6 = client-named 6 (omega arith) in
    let e7 = client-named 7 (omega arith) in
    cc

eight-are : (shape : Shape) → IsShape shape → AllByRecursion IsClient (eight shape)
eight-are shape is = (
  (refl, machine-is shape 0 is),
  (
    (refl, machine-is shape 1 is),
    (
      (refl, machine-is shape 2 is),
      (
        (refl, machine-is shape 3 is),
        ((refl, machine-is shape 4 is), ((refl, machine-is shape 5 is), ((refl, machine-is shape 6 is), ((refl, machine-is shape 7 is), tt)))),
      ),
    ),
  ),
)

eight-distinct : (shape : Shape) → AreDistinct (eight shape)
eight-distinct shape = (refl, (refl, (refl, (refl, (refl, (refl, (refl, (refl, tt))))))))

lines-many : (clients : List ClientLine) (first second : List CallLine)
    → length (script_lines (record { clients = clients; phases = first ∷ second ∷ [] })) ≡ length clients + (length first + 1) + (length second + 1)
lines-many clients first second = simp (length-append, length-map) (omega arith)

script-is : (clients : List ClientLine) (first second : List CallLine) → AllByRecursion IsClient clients → AreDistinct clients → length clients ≡ 8
    → AreCalls 8 10 first → AreCalls 8 (11 + length first) second → length first ≤ 256 → length second ≤ 1000000
    → IsScript (record { clients = clients; phases = first ∷ second ∷ [] })
script-is clients first second each distinct many one two few most =
    let at : 11 + length first ≡ suc (suc 9 + length first) = omega arith in
    let both : ArePhases 8 9 (first ∷ second ∷ []) = (one, (subst (λ (n : ℕ). AreCalls 8 n second) at two, tt)) in
    let lines = lines-many clients first second in
    record {
      clients = each;
      distinct = distinct;
      few = omega arith;
      phases = subst (λ (n : ℕ). ArePhases n (suc n) (first ∷ second ∷ [])) (sym many) both;
      lines = omega arith;
    }

pub generated-is : (shape : Shape) (seed calls : ℕ) → IsShape shape → calls ≤ 1000000 → IsScript (generated shape seed calls)
generated-is shape seed calls is few =
    let first = opened-good shape 10 8 is (omega arith) in
    let second = called-good shape (11 + length (first_phase shape)) seed calls is in
    let many = opened-many shape 10 8 is.few_files in
    let most = called-many shape (11 + length (first_phase shape)) seed calls in
    subst (λ (cs : List ClientLine). IsScript (record { clients = cs; phases = first_phase shape ∷ second_phase shape seed calls ∷ [] })) (sym (clients-eight shape))
    (script-is (eight shape) (first_phase shape) (second_phase shape seed calls) (eight-are shape is) (eight-distinct shape) refl first.calls second.calls (omega arith) (omega arith))

pub generated-made : (shape : Shape) (seed calls : ℕ) → IsShape shape → AllByRecursion AreMade (generated shape seed calls).phases
generated-made shape seed calls is = ((opened-good shape 10 8 is (omega arith)).made, ((called-good shape (11 + length (first_phase shape)) seed calls is).made, tt))
