use Rattle.std.proofs.Common.{◌≡◌, ◌<◌, ◌≤◌, ℕ, None, get_or}
use Rattle.file_stores.specs.Notices.{notice_at}
use Rattle.file_stores.proofs.notices.end_notices.Given as goal

-- the disks so far are told of, and the others are as they were
abbrev pub invariant-loop-notice : goal.invariant-loop-notice
invariant-loop-notice g l = record {
  at : l.disk ≡ l.notice-index;
  done : (n : ℕ) → n < l.notice-index → get_or l.notices n None ≡ notice_at l.ground n (get_or l.initial.notices n None);
  rest : (n : ℕ) → l.notice-index ≤ n → get_or l.notices n None ≡ get_or l.initial.notices n None;
}
