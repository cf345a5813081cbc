-- A head written in two parts.
use Rattle.std.proofs.Common.{◌≡◌, ◌≤◌, ◌++◌, ℕ, List, length, refl}
use Rattle.std.proofs.lemmas.List.{take_at, drop_at, drop_all, append-nil}
use borrow.Rule.Slice.PartMut.{put_mid}

-- the other eight bytes behind the first sixteen leave nothing of what was there
pub joined : (first second rest : List ℕ) → length first ≡ 16 → length rest ≤ 8 → put_mid 16 8 (first ++ rest) second ≡ first ++ second
joined first second rest len few = rw (take_at first rest 16 len, drop_at first rest 16 len, drop_all 8 rest few, append-nil second) refl
