-- How a header is written.
use Rattle.std.proofs.Common.{◌≡◌, ℕ, ◌+◌, ◌-◌, List, ◌++◌, ◌≤◌, [], length, take, drop, replicate, refl, arith}
use Rattle.byteorder.specs.Endian.{big_bytes}
use Rattle.disk_format.specs.declared.shape.ImageShape.{ImageShape}
use Rattle.disk_format.specs.VersionOne.{header}
use Rattle.std.proofs.lemmas.List.{length-drop, take_rest, drop-drop, drop_all, append-nil}
use borrow.Rule.Slice.PartMut.{put_mid}

-- the fields one after another, and zeros at last
pub header-written : (shape : ImageShape) (g : ℕ) (s0 s1 s2 s3 s4 s5 s6 : List ℕ)
    → s1 ≡ take 0 s0 ++ (big_bytes 4 0x53505247 ++ drop 4 s0)
    → s2 ≡ take 4 s1 ++ (big_bytes 4 1 ++ drop 8 s1)
    → s3 ≡ take 8 s2 ++ (big_bytes 4 shape.page_size ++ drop 12 s2)
    → s4 ≡ take 12 s3 ++ (big_bytes 4 shape.pages ++ drop 16 s3)
    → s5 ≡ take 16 s4 ++ (big_bytes 8 g ++ drop 24 s4)
    → s6 ≡ take 24 s5 ++ replicate (shape.page_size - 24) 0
    → s6 ≡ header shape g
header-written shape g s0 s1 s2 s3 s4 s5 s6 e1 e2 e3 e4 e5 e6 = rw (e6, e5, e4, e3, e2, e1) refl

-- a number that was written at a place
pub put-tail : (place n : ℕ) (out buf number : List ℕ) → place ≤ length out → buf ≡ number ++ drop n (take (length out - place) (drop place out))
    → put_mid place (length out - place) out buf ≡ take place out ++ (number ++ drop (place + n) out)
put-tail place n out buf number le e =
    let t : take (length out - place) (drop place out) ≡ drop place out = take_rest out place in
    let d : drop n (drop place out) ≡ drop (place + n) out = drop-drop n place out in
    let z : drop (length out - place) (drop place out) ≡ [] = drop_all (length out - place) (drop place out) (omega (arith, length-drop place out)) in
    rw (e, t, d, z, append-nil) refl
