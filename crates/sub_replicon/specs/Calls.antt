-- What the calls on a replicon object do.
use Rattle.std.specs.Prelude.{◌≡◌, ◌<◌, ℕ, ◌+◌, Bool, true, false, List, ◌∷◌, length, drop, Result, Ok, Err, IsOk, IsSome, None}
use Rattle.marshal_buf.specs.declared.door.Door.{Door}
use Rattle.marshal_buf.specs.Held.{Held, Puts}
use Rattle.marshal_buf.specs.Reading.{Reading, Takes}
use Rattle.domain_doors.specs.Doors.{Doors, door_at, Updates}
use Rattle.sub_core.specs.declared.why.ObjectErr.{ObjectErr}
use Rattle.sub_core.specs.declared.why.ObjectErr.TheVariants as whys
use Rattle.sub_replicon.specs.Replicas.{Replicas, AreReplicas, new_lives}
use Rattle.sub_replicon.specs.Domains.{Holds, AreHeld, Enter, Leave, FirstLacking}
use Rattle.sub_replicon.specs.Forms.{replicon_bytes, replicon_len}
use Rattle.sub_replicon.specs.Doors.{replicas_behind, TakesDoors}

-- the object has these doors, which came into the domain, and each has the life 0
pub record Begins (doors : List Door) (old new : Doors) (object : Replicas) : Type 0 where
  pub enter : Enter object.doors doors old new
  pub lives : object.lives ≡ new_lives object.doors

-- the bytes of the object of these identifiers and its doors stand in the buffer, in order, and the doors have left the domain
pub record Marshals (ids : List ℕ) (old_domain new_domain : Doors) (old new : Held) : Type 0 where
  pub doors : List Door
  pub held : Holds old_domain ids doors
  pub puts : Puts (replicon_bytes (length old.doors) (length doors)) doors old new
  pub len : length new.bytes ≡ length old.bytes + replicon_len (length ids)
  pub leave : Leave ids old_domain new_domain

-- the domain lacks one of the doors, and the first that it lacks is named; or memory ran out for doors that it holds
abbrev pub RefusesHeld : Doors → List ℕ → ObjectErr → Type 0
RefusesHeld domain ids (whys.NoDoor id) = FirstLacking domain ids (record { id = id })
RefusesHeld domain ids (whys.BadObject at) = ⊥
RefusesHeld domain ids whys.Memory = AreHeld domain ids

-- an object was read, of the doors that come next, and the reading goes on behind it; its doors are in the domain
pub record Unmarshals (old_domain new_domain : Doors) (old new : Reading) (object : Replicas) : Type 0 where
  pub doors : List Door
  pub read : replicas_behind old ≡ Ok doors
  pub of : AreReplicas doors
  pub begins : Begins doors old_domain new_domain object
  pub taken : Takes (replicon_bytes old.next (length doors)) (length doors) old new
  pub there : TakesDoors doors old new

-- the doors cannot be read, or memory ran out for an object whose doors can
abbrev pub Refuses : Result (List Door) ℕ → ObjectErr → Type 0
Refuses doors (whys.NoDoor id) = ⊥
Refuses doors (whys.BadObject at) = doors ≡ Err at
Refuses doors whys.Memory = IsOk doors

-- the copy has the object's doors, under identifiers of its own, and their lives
pub record CopiesReplicon (object copy : Replicas) (old new : Doors) : Type 0 where
  pub doors : List Door
  pub held : Holds old object.doors doors
  pub enter : Enter copy.doors doors old new
  pub lives : copy.lives ≡ object.lives
  pub kept : Holds new object.doors doors

-- the copy has the object's doors in another domain, and their lives
pub record CopiesInto (object copy : Replicas) (from old new : Doors) : Type 0 where
  pub doors : List Door
  pub held : Holds from object.doors doors
  pub enter : Enter copy.doors doors old new
  pub lives : copy.lives ≡ object.lives

-- the domain held the doors of the identifiers, which have left it
pub record GivesUp (ids : List ℕ) (old new : Doors) : Type 0 where
  pub held : AreHeld old ids
  pub leave : Leave ids old new

-- the object and the domain lost the object's first door, and another is left
pub record DropsFirst (old_object new_object : Replicas) (old new : Doors) : Type 0 where
  pub id : ℕ
  pub doors : old_object.doors ≡ id ∷ new_object.doors
  pub lives : new_object.lives ≡ drop 1 old_object.lives
  pub held : IsSome (door_at old id)
  pub leaves : Updates old new id None
  pub left : 1 < length old_object.doors

-- one door is left, and nothing changed
pub record KeepsLast (old_object new_object : Replicas) (old new : Doors) : Type 0 where
  pub last : length old_object.doors ≡ 1
  pub object : new_object ≡ old_object
  pub domain : new ≡ old

-- what the answer says: whether the first door was dropped
abbrev pub DropsUnlessLast : Replicas → Replicas → Doors → Doors → Bool → Type 0
DropsUnlessLast old_object new_object old new true = DropsFirst old_object new_object old new
DropsUnlessLast old_object new_object old new false = KeepsLast old_object new_object old new
