-- The only disk of a file.
use Rattle.std.proofs.Common.{◌≡◌, ℕ, zero, suc, [], ◌∷◌, List, sym, ap, arith}
use Rattle.std.specs.Prelude.{Contains}
use Rattle.page_ground.specs.Seen.{numbers_in}
use Rattle.spr_volume.specs.Later.{IsOnDisk}
use Rattle.file_stores.specs.WholeDisk.{Alone, seen_whole}
use Rattle.file_stores.proofs.WholeLaws.{is-live}

one-live : (x n : ℕ) → Contains (x ∷ []) n → n ≡ x
one-live x n (zero, lt, is) = sym is
one-live x n (suc k, lt, is) = absurd (omega arith)

-- it alone is live
pub on-disk : (a : Alone) → IsOnDisk a.disk.disk (seen_whole a)
on-disk a = record { live = is-live a; alone = λ other live. one-live a.disk.disk other live }

-- disks of the same numbers are one
pub same-number-under : (a b : Alone) → numbers_in (seen_whole b).disks ≡ numbers_in (seen_whole a).disks → a.disk.disk ≡ b.disk.disk
same-number-under a b same = sym (ap first same)
  where
    first : List ℕ → ℕ
    first [] = 0
    first (n ∷ ns) = n
