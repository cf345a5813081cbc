-- Going from a node towards the ground, and counting lives.
use Rattle.std.proofs.Common.{◌≡◌, ◌≢◌, ℕ, zero, suc, ◌+◌, ◌<◌, ◌≤◌, ◌^◌, Bool, true, false, cond, List, [], ◌∷◌, ◌++◌, length, get_or, set, take, drop, refl, sym, ap, ◌∙◌, arith, eqb, eq-eqb, append_assoc, add-one, All}
use Rattle.std.specs.List.{AllByRecursion}
use Rattle.std.specs.Int.{from_bool}
use Rattle.std.proofs.lemmas.List.Elements.{All-from_recursion, recursion_from_All}
use Rattle.std.proofs.lemmas.List.{drop-set-lt}
use Rattle.std.proofs.lemmas.Bool.{eqb-true}
use Rattle.std.proofs.Math.Seq.{take-suc-set, drop-cons}
use Rattle.hist_plain.specs.Plain.{IsTree, reaches, is_within, lives_from}

same_cond : {A : Type 0} (b : Bool) (x y z : A) → (b ≡ false → y ≡ z) → cond b x y ≡ cond b x z
same_cond true x y z h = refl
same_cond false x y z h = h refl

cond_same : {A : Type 0} (b : Bool) (x y z : A) → (b ≡ true → x ≡ z) → (b ≡ false → y ≡ z) → cond b x y ≡ z
cond_same true x y z h k = h refl
cond_same false x y z h k = k refl

-- the ground is reached from the ground alone
from_ground : (parents : List ℕ) (top : ℕ) → IsTree parents → (steps : ℕ) → reaches steps parents 0 top ≡ eqb 0 top
from_ground parents top tree zero = refl
from_ground parents top tree (suc steps) =
    cond_same (eqb 0 top) true (reaches steps parents (get_or parents 0 0) top) (eqb 0 top) (λ yes. sym yes) (λ no. rw tree.ground (from_ground parents top tree steps))

-- as many steps as the node's number are enough
pub enough : (parents : List ℕ) (top : ℕ) → IsTree parents → (j k node : ℕ) → node ≤ j → node ≤ k → node < length parents → reaches j parents node top ≡ reaches k parents node top
enough parents top tree j k zero a b lt = from_ground parents top tree j ∙ sym (from_ground parents top tree k)
enough parents top tree zero k (suc node) a b lt = absurd (omega arith)
enough parents top tree (suc j) zero (suc node) a b lt = absurd (omega arith)
enough parents top tree (suc j) (suc k) (suc node) a b lt =
    let below : get_or parents (suc node) 0 < suc node = tree.below (suc node) (omega arith) lt in
    same_cond (eqb (suc node) top) true (reaches j parents (get_or parents (suc node) 0) top) (reaches k parents (get_or parents (suc node) 0) top)
    (λ no. enough parents top tree j k (get_or parents (suc node) 0) (omega arith) (omega arith) (omega arith))

-- a step towards the ground
pub step_up : (parents : List ℕ) (top node : ℕ) → IsTree parents → node < length parents → node ≢ top → node ≢ 0 → is_within parents (get_or parents node 0) top ≡ is_within parents node top
step_up parents top zero tree lt other inner = absurd (inner refl)
step_up parents top (suc node) tree lt other inner =
    let below : get_or parents (suc node) 0 < suc node = tree.below (suc node) (omega arith) lt in
    sym (cond_same (eqb (suc node) top) true (reaches node parents (get_or parents (suc node) 0) top) (is_within parents (get_or parents (suc node) 0) top)
    (λ yes. absurd (other (eqb-true _ _ yes)))
    (λ no. enough parents top tree node (get_or parents (suc node) 0) (get_or parents (suc node) 0) (omega arith) (omega arith) (omega arith)))

-- at the top the node is within it
pub at_top : (parents : List ℕ) (node top : ℕ) → node ≡ top → is_within parents node top ≡ true
at_top parents zero top is = eq-eqb zero top is
at_top parents (suc node) top is = rw (eq-eqb (suc node) top is) refl

-- one more in its place, where the flag is set
added : (b : Bool) (life : ℕ) → life + from_bool b ≡ cond b (life + 1) life
added true life = refl
added false life = omega arith

-- one more life in its place
pub raises : (parents : List ℕ) (top i : ℕ) (lives total : List ℕ) (b : Bool) → i < length lives → b ≡ is_within parents i top
    → take i lives ++ lives_from parents top i (drop i lives) ≡ total
    → take (i + 1) (set lives i (get_or lives i 0 + from_bool b)) ++ lives_from parents top (i + 1) (drop (i + 1) (set lives i (get_or lives i 0 + from_bool b))) ≡ total
raises parents top i lives total b lt is whole =
    let life : ℕ = get_or lives i 0 in
    let parts : drop i lives ≡ life ∷ drop (suc i) lives = drop-cons lives i 0 lt in
    let new : life + from_bool b ≡ cond (is_within parents i top) (life + 1) life = rw is (added (is_within parents i top) life) in
    rw (add-one, take-suc-set lives i (life + from_bool b) lt, drop-set-lt (suc i) lives i (life + from_bool b) (omega arith), append_assoc, new, ← whole, parts) refl

pub length-lives_from : (parents : List ℕ) (top first : ℕ) (lives : List ℕ) → length (lives_from parents top first lives) ≡ length lives
length-lives_from parents top first [] = refl
length-lives_from parents top first (life ∷ lives) = ap suc (length-lives_from parents top (suc first) lives)

cond_le : (b : Bool) (life len : ℕ) → life ≤ len → cond b (life + 1) life ≤ len + 1
cond_le true life len le = omega arith
cond_le false life len le = omega arith

raised_le : (parents : List ℕ) (top first len : ℕ) (lives : List ℕ) → AllByRecursion (λ life. life ≤ len) lives → AllByRecursion (λ life. life ≤ len + 1) (lives_from parents top first lives)
raised_le parents top first len [] small = tt
raised_le parents top first len (life ∷ lives) small = (cond_le (is_within parents first top) life len small.0, raised_le parents top (suc first) len lives small.1)

-- no life is above the number of events
pub lives_le : (parents : List ℕ) (top first len : ℕ) (lives : List ℕ) → All (λ life. life ≤ len) lives → All (λ life. life ≤ len + 1) (lives_from parents top first lives)
lives_le parents top first len lives small =
    All-from_recursion (λ life. life ≤ len + 1) _ (raised_le parents top first len lives (recursion_from_All (λ life. life ≤ len) lives small))

-- what is left begins with the life that was there
pub get_or_here : (xs ys : List ℕ) (i : ℕ) → i < length xs → i < length ys → drop i xs ≡ drop i ys → get_or xs i 0 ≡ get_or ys i 0
get_or_here xs ys i a b same =
    let first : (get_or xs i 0 ∷ drop (suc i) xs) ≡ (get_or ys i 0 ∷ drop (suc i) ys) = sym (drop-cons xs i 0 a) ∙ same ∙ drop-cons ys i 0 b in
    cc

pub drop_next : (xs ys : List ℕ) (i : ℕ) → i < length xs → i < length ys → drop i xs ≡ drop i ys → drop (suc i) xs ≡ drop (suc i) ys
drop_next xs ys i a b same =
    let first : (get_or xs i 0 ∷ drop (suc i) xs) ≡ (get_or ys i 0 ∷ drop (suc i) ys) = sym (drop-cons xs i 0 a) ∙ same ∙ drop-cons ys i 0 b in
    cc

pub left_next : (xs ys : List ℕ) (i life : ℕ) → i < length xs → i < length ys → drop i xs ≡ drop i ys → drop (i + 1) (set xs i life) ≡ drop (i + 1) ys
left_next xs ys i life a b same = rw (add-one, drop-set-lt (suc i) xs i life (omega arith)) (drop_next xs ys i a b same)

pub flag_le : (b : Bool) (life : ℕ) → life + 1 < 2 ^ 32 → life + from_bool b < 2 ^ 32
flag_le true life lt = lt
flag_le false life lt = omega arith
