-- What is known of whatever lies under a file.
use Rattle.std.proofs.Common.{ℕ, ◌≤◌, ◌==◌, Bool, true, false, cond, List, ◌∷◌, arith}
use Rattle.page_ground.specs.Seen.{opened_in, faults_in}
use Rattle.mirror_rules.specs.Tree.{Seat, In, Out}
use Rattle.mirror_rules.specs.Claims.{Pairs, pairs_none, pairs_more}
use Rattle.mirror_layer.specs.View.{Beside}
use Rattle.mirror_layer.specs.Ground.{Counted, counted, disks_seen}
use Rattle.file_stores.specs.Under.{Under, One, Many, seen_under, IsSound}

-- one of two numbers, and one of two others
both : (b : Bool) (m n o p : ℕ) → m ≤ n → o ≤ p → cond b m o ≤ cond b n p
both true m n o p h i = h
both false m n o p h i = i

one-counted : (n : ℕ) (b : Beside) (x : Seat) (bs : List Beside) (xs : List Seat) → Counted b x → opened_in (disks_seen bs xs) n ≤ faults_in (disks_seen bs xs) n → opened_in (disks_seen (b ∷ bs) (x ∷ xs)) n ≤ faults_in (disks_seen (b ∷ bs) (x ∷ xs)) n
one-counted n b (In live c) bs xs (counted e l) rest = both (n == c.disk) b.opened c.faults (opened_in (disks_seen bs xs) n) (faults_in (disks_seen bs xs) n) l rest
one-counted n b (Out bad s) bs xs (counted e l) rest = both (n == s.disk) b.opened s.faults (opened_in (disks_seen bs xs) n) (faults_in (disks_seen bs xs) n) l rest

all-counted : (n : ℕ) {bs : List Beside} {xs : List Seat} → Pairs Counted bs xs → opened_in (disks_seen bs xs) n ≤ faults_in (disks_seen bs xs) n
all-counted n pairs_none = omega arith
all-counted n (pairs_more {x = b} {y = x} {xs = bs} {ys = xs} c h) = one-counted n b x bs xs c (all-counted n h)

-- no disk has fewer faults than when it was opened
pub counts-under : (u : Under) → IsSound u → (n : ℕ) → opened_in (seen_under u).disks n ≤ faults_in (seen_under u).disks n
counts-under (One a) sound n =
    let none = both (n == a.disk.disk) a.disk.opened a.disk.faults 0 0 sound.1 (omega arith) in
    let once = both (n == a.disk.disk) a.disk.opened a.disk.faults (cond (n == a.disk.disk) a.disk.opened 0) (cond (n == a.disk.disk) a.disk.faults 0) sound.1 none in
    both (n == a.disk.disk) a.disk.opened a.disk.faults (cond (n == a.disk.disk) a.disk.opened (cond (n == a.disk.disk) a.disk.opened 0)) (cond (n == a.disk.disk) a.disk.faults (cond (n == a.disk.disk) a.disk.faults 0)) sound.1 once
counts-under (Many g) sound n = all-counted n sound.0.counts
