-- Entries in blocks of 256: how many there are, where each stands, and what one more makes of the blocks.
use Rattle.std.proofs.Common.{◌≡◌, ℕ, zero, suc, ◌+◌, ◌-◌, ◌*◌, ◌/◌, ◌%◌, ◌<◌, ◌≤◌, List, [], ◌∷◌, ◌++◌, length, get_or, set, None, refl, sym, ap, subst, ◌∙◌, arith, length-append, append-nil, append_assoc}
use Rattle.std.specs.List.{slice_get}
use Rattle.std.proofs.lemmas.Option.{slice_get_past, slice_get_within, slice_get-get_or}
use Rattle.std.proofs.lemmas.List.{get_or_default}
use Rattle.hist_plain.specs.declared.event.Event.{Event}
use Rattle.tower_log.specs.declared.logged.Entry.{Entry}
use Rattle.tower_log.specs.Blocks.{entries_in, AreFilled, IsFresh}

-- a list before another: what stands in the first
pub slice_get-append_left : {X : Type 0} (xs ys : List X) (i : ℕ) → i < length xs → slice_get (xs ++ ys) i ≡ slice_get xs i
slice_get-append_left [] ys i lt = absurd (omega arith)
slice_get-append_left (x ∷ xs) ys zero lt = refl
slice_get-append_left (x ∷ xs) ys (suc i) lt = slice_get-append_left xs ys i (omega arith)

-- and what stands in the second
pub slice_get-append_right : {X : Type 0} (xs ys : List X) (i k : ℕ) → k ≡ length xs + i → slice_get (xs ++ ys) k ≡ slice_get ys i
slice_get-append_right [] ys i k e = ap (slice_get ys) (e ∙ omega arith)
slice_get-append_right (x ∷ xs) ys i zero e = absurd (omega arith)
slice_get-append_right (x ∷ xs) ys i (suc k) e = slice_get-append_right xs ys i k (omega arith)

-- no block has more than 256 entries
pub entries-most : (blocks : List (List Entry)) → AreFilled blocks → length (entries_in blocks) ≤ 256 * length blocks
entries-most [] f = omega arith
entries-most (block ∷ blocks) f = omega (arith, entries-most blocks f.3, length-append block (entries_in blocks), f.1)

-- only the last one may have fewer
pub entries-least : (blocks : List (List Entry)) → AreFilled blocks → 256 * length blocks < length (entries_in blocks) + 256
entries-least [] f = omega arith
entries-least (block ∷ []) f = omega (arith, length-append block [], f.0)
entries-least (block ∷ next ∷ blocks) f =
    omega (arith, entries-least (next ∷ blocks) f.3, length-append block (entries_in (next ∷ blocks)), f.2 (omega arith))

-- the entry at a place stands in the block of its place
pub entry-at : (blocks : List (List Entry)) → AreFilled blocks → (q r k : ℕ) → r < 256 → k ≡ q * 256 + r → slice_get (entries_in blocks) k ≡ slice_get (get_or blocks q []) r
entry-at [] f q r k lt e = refl
entry-at (block ∷ []) f zero r k lt e = ap (λ (es : List Entry). slice_get es k) (append-nil block) ∙ ap (slice_get block) (e ∙ omega arith)
entry-at (block ∷ []) f (suc q) r k lt e = slice_get_past (block ++ []) k (omega (arith, length-append block [], f.1))
entry-at (block ∷ next ∷ blocks) f zero r k lt e =
    slice_get-append_left block (entries_in (next ∷ blocks)) k (omega (arith, f.2 (omega arith))) ∙ ap (slice_get block) (e ∙ omega arith)
entry-at (block ∷ next ∷ blocks) f (suc q) r k lt e =
    slice_get-append_right block (entries_in (next ∷ blocks)) (q * 256 + r) k (omega (arith, f.2 (omega arith)))
    ∙ entry-at (next ∷ blocks) f.3 q r (q * 256 + r) lt refl

-- how many entries stand before the last block
pub entries-last : (blocks : List (List Entry)) → AreFilled blocks → (last : ℕ) → last + 1 ≡ length blocks → length (entries_in blocks) ≡ 256 * last + length (get_or blocks last [])
entries-last [] f last e = absurd (omega arith)
entries-last (block ∷ []) f zero e = omega (arith, length-append block [])
entries-last (block ∷ []) f (suc last) e = absurd (omega arith)
entries-last (block ∷ next ∷ blocks) f zero e = absurd (omega arith)
entries-last (block ∷ next ∷ blocks) f (suc last) e =
    omega (arith, entries-last (next ∷ blocks) f.3 last (omega arith), length-append block (entries_in (next ∷ blocks)), f.2 (omega arith))

-- where all blocks are full, the next entry begins one
pub filled-begun : (blocks : List (List Entry)) (entry : Entry) → AreFilled blocks → length (entries_in blocks) ≡ 256 * length blocks → AreFilled (blocks ++ (entry ∷ []) ∷ [])
filled-begun [] entry f full = (omega arith, omega arith, λ more. absurd (omega arith), tt)
filled-begun (block ∷ blocks) entry f full =
    let most = entries-most blocks f.3 in
    let all = length-append block (entries_in blocks) in
    (f.0, f.1, λ more. omega (arith, f.1), filled-begun blocks entry f.3 (omega (arith, f.1)))

pub entries-begun : (blocks : List (List Entry)) (block : List Entry) → entries_in (blocks ++ block ∷ []) ≡ entries_in blocks ++ block
entries-begun [] block = append-nil block
entries-begun (first ∷ blocks) block = ap (λ (es : List Entry). first ++ es) (entries-begun blocks block) ∙ sym (append_assoc first (entries_in blocks) block)

-- where the last one is not full, the next entry goes there
pub filled-more : (blocks : List (List Entry)) (last : ℕ) (entry : Entry) → last + 1 ≡ length blocks → AreFilled blocks → length (get_or blocks last []) < 256 → AreFilled (set blocks last (get_or blocks last [] ++ entry ∷ []))
filled-more [] last entry e f lt = absurd (omega arith)
filled-more (block ∷ []) zero entry e f lt = (omega (arith, length-append block (entry ∷ [])), omega (arith, length-append block (entry ∷ [])), λ more. absurd (omega arith), tt)
filled-more (block ∷ []) (suc last) entry e f lt = absurd (omega arith)
filled-more (block ∷ next ∷ blocks) zero entry e f lt = absurd (omega arith)
filled-more (block ∷ next ∷ blocks) (suc last) entry e f lt = (f.0, f.1, λ more. f.2 (omega arith), filled-more (next ∷ blocks) last entry (omega arith) f.3 lt)

pub entries-more : (blocks : List (List Entry)) (last : ℕ) (entry : Entry) → last + 1 ≡ length blocks → entries_in (set blocks last (get_or blocks last [] ++ entry ∷ [])) ≡ entries_in blocks ++ entry ∷ []
entries-more [] last entry e = absurd (omega arith)
entries-more (block ∷ []) zero entry e = append-nil (block ++ entry ∷ []) ∙ ap (λ (es : List Entry). es ++ entry ∷ []) (sym (append-nil block))
entries-more (block ∷ []) (suc last) entry e = absurd (omega arith)
entries-more (block ∷ next ∷ blocks) zero entry e = absurd (omega arith)
entries-more (block ∷ next ∷ blocks) (suc last) entry e =
    ap (λ (es : List Entry). block ++ es) (entries-more (next ∷ blocks) last entry (omega arith)) ∙ sym (append_assoc block (entries_in (next ∷ blocks)) (entry ∷ []))

-- the block of a place, where this is below the length
pub entry-in : (blocks : List (List Entry)) (place : ℕ) (block : List Entry) → AreFilled blocks → place < length (entries_in blocks) → block ≡ get_or blocks (place / 256) block
    → slice_get (entries_in blocks) place ≡ slice_get block (place % 256)
entry-in blocks place block f lt is =
    let most = entries-most blocks f in
    let at : block ≡ get_or blocks (place / 256) [] = is ∙ get_or_default blocks (place / 256) block [] (omega arith) in
    entry-at blocks f (place / 256) (place % 256) place (omega arith) (omega arith) ∙ ap (λ (es : List Entry). slice_get es (place % 256)) (sym at)

pub place-in : (blocks : List (List Entry)) (place : ℕ) (block : List Entry) → AreFilled blocks → place < length (entries_in blocks) → block ≡ get_or blocks (place / 256) block → place % 256 < length block
place-in blocks place block f lt is =
    slice_get_within block (place % 256) _ (sym (entry-in blocks place block f lt is) ∙ slice_get-get_or (entries_in blocks) place (record { event = Event.SyncOut 0 0; answer = None; bytes = [] }) lt)

-- how many places are free in the last block
pub open-places : (len blocks : ℕ) → len ≤ 256 * blocks → 256 * blocks < len + 256 → (256 - len % 256) % 256 ≡ 256 * blocks - len
open-places len blocks most least = omega arith

-- the last block, where it is not full
pub last-open : (blocks : List (List Entry)) (last : ℕ) (block : List Entry) → AreFilled blocks → last + 1 ≡ length blocks → block ≡ get_or blocks last block → 0 < length (entries_in blocks) % 256 → length block < 256
last-open blocks last block f e is begun =
    let at : block ≡ get_or blocks last [] = is ∙ get_or_default blocks last block [] (omega arith) in
    let len = ap length at in
    let most = entries-most blocks f in
    omega (arith, entries-last blocks f last e)

-- an entry in that block
pub filled-extended : (blocks : List (List Entry)) (last : ℕ) (block block' : List Entry) (entry : Entry) → AreFilled blocks → last + 1 ≡ length blocks → block ≡ get_or blocks last block → length block < 256
    → block' ≡ block ++ entry ∷ [] → AreFilled (set blocks last block')
filled-extended blocks last block block' entry f e is lt more =
    let at : block ≡ get_or blocks last [] = is ∙ get_or_default blocks last block [] (omega arith) in
    subst (λ (b : List Entry). AreFilled (set blocks last b)) (sym (more ∙ ap (λ (es : List Entry). es ++ entry ∷ []) at))
    (filled-more blocks last entry e f (subst (λ (b : List Entry). length b < 256) at lt))

pub entries-extended : (blocks : List (List Entry)) (last : ℕ) (block block' : List Entry) (entry : Entry) → last + 1 ≡ length blocks → block ≡ get_or blocks last block
    → block' ≡ block ++ entry ∷ [] → entries_in (set blocks last block') ≡ entries_in blocks ++ entry ∷ []
entries-extended blocks last block block' entry e is more =
    let at : block ≡ get_or blocks last [] = is ∙ get_or_default blocks last block [] (omega arith) in
    ap (λ (b : List Entry). entries_in (set blocks last b)) (more ∙ ap (λ (es : List Entry). es ++ entry ∷ []) at) ∙ entries-more blocks last entry e

-- an entry that begins a block
pub block-begun : (blocks blocks' : List (List Entry)) (block block' : List Entry) (entry : Entry) → AreFilled blocks → length (entries_in blocks) % 256 ≡ 0 → IsFresh block
    → block' ≡ block ++ entry ∷ [] → blocks' ≡ blocks ++ block' ∷ [] → AreFilled blocks' × (entries_in blocks' ≡ entries_in blocks ++ entry ∷ [])
block-begun blocks blocks' block block' entry f full fresh more begun =
    let most = entries-most blocks f in
    let least = entries-least blocks f in
    let is : blocks' ≡ blocks ++ (entry ∷ []) ∷ [] = begun ∙ ap (λ (b : List Entry). blocks ++ b ∷ []) (more ∙ ap (λ (b : List Entry). b ++ entry ∷ []) fresh) in
    (subst AreFilled (sym is) (filled-begun blocks entry f (omega arith)), ap entries_in is ∙ entries-begun blocks (entry ∷ []))

-- an entry that stands in the last block
pub block-extended : (blocks : List (List Entry)) (last : ℕ) (block block' : List Entry) (entry : Entry) → AreFilled blocks → 0 < length (entries_in blocks) % 256 → last + 1 ≡ length blocks → block ≡ get_or blocks last block
    → block' ≡ block ++ entry ∷ [] → AreFilled (set blocks last block') × (entries_in (set blocks last block') ≡ entries_in blocks ++ entry ∷ [])
block-extended blocks last block block' entry f begun e is more =
    (filled-extended blocks last block block' entry f e is (last-open blocks last block f e is begun) more, entries-extended blocks last block block' entry e is more)
