-- Bytes cut into blocks, and a block written over.
use Rattle.std.proofs.Common.{◌≡◌, ◌<◌, ◌≤◌, ◌+◌, ◌-◌, ◌*◌, ◌++◌, ◌∷◌, ℕ, zero, suc, List, Some, length, take, drop, replicate, set, All, refl, sym, ap, ◌∙◌, arith}
use Rattle.std.specs.List.{slice_get}
use Rattle.std.proofs.Math.Nat.{mul-le-mul_right}
use Rattle.std.proofs.Math.Seq.{take-add}
use Rattle.std.proofs.lemmas.List.{length-take-le, length-drop, take-take, take-append-le, drop-append-le, take_at, drop_at, drop-drop, drop-take, length-append, length-take, length-replicate}
use Rattle.std.proofs.lemmas.List.Elements.{All-nil, All-cons}
use Rattle.spr_io.specs.Raw.{overwritten, resized}
use Rattle.spr_io.specs.Host.{cut}

pub length-cut : (size number : ℕ) (bytes : List ℕ) → length (cut size number bytes) ≡ number
length-cut size zero bytes = refl
length-cut size (suc number) bytes = ap suc (length-cut size number (drop size bytes))

pub cut_sizes : (size number : ℕ) (bytes : List ℕ) → length bytes ≡ number * size → All (λ b. length b ≡ size) (cut size number bytes)
cut_sizes size zero bytes long = All-nil (λ b. length b ≡ size)
cut_sizes size (suc number) bytes long =
    let room : size ≤ length bytes = omega arith in
    let rest : length (drop size bytes) ≡ number * size = omega (arith, length-drop size bytes) in
    All-cons (λ b. length b ≡ size) (take size bytes) (cut size number (drop size bytes)) (length-take-le size bytes room) (cut_sizes size number (drop size bytes) rest)

pub get_cut : (size number block : ℕ) (bytes : List ℕ) → block < number → slice_get (cut size number bytes) block ≡ Some (take size (drop (block * size) bytes))
get_cut size zero block bytes within = absurd (omega arith)
get_cut size (suc number) zero bytes within =
    let at : 0 ≡ zero * size = omega arith in
    ap (λ (n : ℕ). Some (take size (drop n bytes))) at
get_cut size (suc number) (suc block) bytes within =
    let at : size + block * size ≡ suc block * size = omega arith in
    get_cut size number block (drop size bytes) (omega arith) ∙ ap (λ (b : List ℕ). Some (take size b)) (drop-drop (block * size) size bytes) ∙ ap (λ (n : ℕ). Some (take size (drop n bytes))) at

-- what is written behind a front leaves the front, and the rest is written over
pub front_written : (size offset : ℕ) (new bytes : List ℕ) → size + offset ≤ length bytes → take size (overwritten (size + offset) new bytes) ≡ take size bytes
front_written size offset new bytes room =
    let inside : size ≤ length (take (size + offset) bytes) = omega (arith, length-take-le (size + offset) bytes room) in
    take-append-le size (take (size + offset) bytes) (new ++ drop (size + offset + length new) bytes) inside ∙ take-take size (size + offset) bytes (omega arith)

pub rest_written : (size offset : ℕ) (new bytes : List ℕ) → size + offset ≤ length bytes → drop size (overwritten (size + offset) new bytes) ≡ overwritten offset new (drop size bytes)
rest_written size offset new bytes room =
    let inside : size ≤ length (take (size + offset) bytes) = omega (arith, length-take-le (size + offset) bytes room) in
    let after : size + offset + length new ≡ size + (offset + length new) = omega arith in
    drop-append-le size (take (size + offset) bytes) (new ++ drop (size + offset + length new) bytes) inside
    ∙ ap (λ (b : List ℕ). b ++ (new ++ drop (size + offset + length new) bytes)) (drop-take size offset bytes)
    ∙ ap (λ (n : ℕ). take offset (drop size bytes) ++ (new ++ drop n bytes)) after
    ∙ ap (λ (b : List ℕ). take offset (drop size bytes) ++ (new ++ b)) (sym (drop-drop (offset + length new) size bytes))

-- the bytes up to the end of a block
pub block_end : (size number block : ℕ) → block < number → block * size + size ≤ number * size
block_end size number block within =
    let more : suc block ≤ number = omega arith in
    omega (arith, mul-le-mul_right {m = suc block} {n = number} size more)

pub set_cut : (size number block : ℕ) (bytes new : List ℕ) → block < number → length bytes ≡ number * size → length new ≡ size → cut size number (overwritten (block * size) new bytes) ≡ set (cut size number bytes) block new
set_cut size zero block bytes new within long fits = absurd (omega arith)
set_cut size (suc number) zero bytes new within long fits =
    let at : zero * size ≡ 0 = omega arith in
    let written : overwritten (zero * size) new bytes ≡ new ++ drop (length new) bytes = ap (λ (n : ℕ). overwritten n new bytes) at ∙ ap (λ (n : ℕ). new ++ drop n bytes) (let e : 0 + length new ≡ length new = omega arith in e) in
    let here : take size (new ++ drop (length new) bytes) ≡ new = take_at new (drop (length new) bytes) size fits in
    let rest : drop size (new ++ drop (length new) bytes) ≡ drop size bytes = drop_at new (drop (length new) bytes) size fits ∙ ap (λ (n : ℕ). drop n bytes) fits in
    ap (λ (b : List ℕ). take size b ∷ cut size number (drop size b)) written ∙ ap (λ (b : List ℕ). b ∷ cut size number (drop size (new ++ drop (length new) bytes))) here ∙ ap (λ (b : List ℕ). new ∷ cut size number b) rest
set_cut size (suc number) (suc block) bytes new within long fits =
    let at : suc block * size ≡ size + block * size = omega arith in
    let below : block < number = omega arith in
    let room : size + block * size ≤ length bytes = omega (arith, block_end size (suc number) (suc block) within) in
    let rest : length (drop size bytes) ≡ number * size = omega (arith, length-drop size bytes) in
    ap (λ (n : ℕ). take size (overwritten n new bytes) ∷ cut size number (drop size (overwritten n new bytes))) at
    ∙ ap (λ (b : List ℕ). b ∷ cut size number (drop size (overwritten (size + block * size) new bytes))) (front_written size (block * size) new bytes room)
    ∙ ap (λ (b : List ℕ). take size bytes ∷ cut size number b) (rest_written size (block * size) new bytes room)
    ∙ ap (λ (bs : List (List ℕ)). take size bytes ∷ bs) (set_cut size number block (drop size bytes) new below rest fits)

-- one more piece of what is read
pub read_more : (done count start : ℕ) (out piece rest bytes : List ℕ) → done ≤ length out → count ≤ length piece → take done out ≡ take done (drop start bytes) → take count piece ≡ take count (drop (start + done) bytes) → take (done + count) (take done out ++ (piece ++ rest)) ≡ take (done + count) (drop start bytes)
read_more done count start out piece rest bytes room within before here =
    let front : length (take done out) ≡ done = length-take-le done out room in
    take-add done count (take done out ++ (piece ++ rest))
    ∙ ap (λ (b : List ℕ). b ++ take count (drop done (take done out ++ (piece ++ rest)))) (take_at (take done out) (piece ++ rest) done front ∙ before)
    ∙ ap (λ (b : List ℕ). take done (drop start bytes) ++ take count b) (drop_at (take done out) (piece ++ rest) done front)
    ∙ ap (λ (b : List ℕ). take done (drop start bytes) ++ b) (take-append-le count piece rest within ∙ here)
    ∙ ap (λ (b : List ℕ). take done (drop start bytes) ++ take count b) (sym (drop-drop done start bytes))
    ∙ sym (take-add done count (drop start bytes))

pub length-resized : (len : ℕ) (bytes : List ℕ) → length (resized len bytes) ≡ len
length-resized len bytes =
    let zero' : ℕ = 0 in
    omega (arith, length-append (take len bytes) (replicate (len - length bytes) zero'), length-take len bytes, length-replicate {A = ℕ} (len - length bytes) zero')

pub length-overwritten : (offset : ℕ) (new bytes : List ℕ) → offset + length new ≤ length bytes → length (overwritten offset new bytes) ≡ length bytes
length-overwritten offset new bytes room =
    omega (arith, length-append (take offset bytes) (new ++ drop (offset + length new) bytes), length-append new (drop (offset + length new) bytes), length-take-le offset bytes (omega arith), length-drop (offset + length new) bytes)

pub room_after : (done count : ℕ) (out piece rest : List ℕ) → done ≤ length out → count ≤ length piece → done + count ≤ length (take done out ++ (piece ++ rest))
room_after done count out piece rest room within =
    omega (arith, length-append (take done out) (piece ++ rest), length-append piece rest, length-take-le done out room)
