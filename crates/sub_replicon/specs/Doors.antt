-- What the bytes of a replicon object say.
use Rattle.std.specs.Prelude.{◌≡◌, drop, ℕ, ◌*◌, ◌==◌, ◌&&◌, ◌++◌, nat_le, Bool, true, List, [], ◌∷◌, zero, suc, Result, Ok, Err, if◌then◌else◌}
use Rattle.marshal_buf.specs.declared.door.Door.{Door}
use Rattle.marshal_buf.specs.declared.why.Short.{Short}
use Rattle.marshal_buf.specs.declared.why.BadDoor.{BadDoor}
use Rattle.marshal_buf.specs.Reading.{Reading, number_at, door_at, past}
use Rattle.sub_replicon.specs.declared.TheConstants.{MAX_DOORS}

-- the doors that are left
abbrev pub doors_left : Reading → List Door
doors_left r = drop r.next r.doors

-- these doors are the next ones, and the reading goes on behind them
abbrev pub TakesDoors : List Door → Reading → Reading → Type 0
TakesDoors doors old new = doors_left old ≡ doors ++ doors_left new

-- whether the door may stand behind these: it is the first, or of the first one's file
abbrev pub may_follow : List Door → Door → Bool
may_follow [] door = true
may_follow (first ∷ doors) door = door.file == first.file

abbrev pub with_door : ℕ → List Door → Result Door BadDoor → Result (List Door) ℕ
with_door at doors (Ok door) = if may_follow doors door then Ok (doors ++ door ∷ []) else Err at
with_door at doors (Err bad) = Err bad.at

abbrev pub and_door : Reading → Result (List Door) ℕ → Result (List Door) ℕ
and_door r (Ok doors) = with_door r.at doors (door_at r)
and_door r (Err at) = Err at

-- the next n doors, or the byte at which the first of them stands that cannot
abbrev pub doors_at : ℕ → Reading → Result (List Door) ℕ
doors_at zero r = Ok []
doors_at (suc n) r = and_door (past (4 * n) n r) (doors_at n r)

-- whether an object may have so many doors
abbrev pub may_have : ℕ → Bool
may_have n = nat_le 1 n && nat_le n MAX_DOORS

abbrev pub so_many_at : Reading → Result ℕ Short → Result (List Door) ℕ
so_many_at r (Ok n) = if may_have n then doors_at n (past 4 0 r) else Err r.at
so_many_at r (Err short) = Err short.at

-- the number of doors that comes next, and behind it the doors; or the byte at which the first part stands that cannot
abbrev pub replicas_at : Reading → Result (List Door) ℕ
replicas_at r = so_many_at r (number_at 4 r)

-- the same behind an identifier
abbrev pub replicas_behind : Reading → Result (List Door) ℕ
replicas_behind r = replicas_at (past 2 0 r)
