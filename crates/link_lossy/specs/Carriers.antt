-- What carries a caller's calls to other machines, and what it makes of one.
use Rattle.std.specs.Prelude.{◌≡◌, ◌⊎◌, ℕ, ◌+◌, ◌/◌, ◌%◌, ◌<◌, ◌==◌, Bool, true, false, List, Result, Err}
use Rattle.link_lossy.specs.declared.request.Request.{Request}
use Rattle.link_lossy.specs.declared.serve.Served.{Served}
use Rattle.link_lossy.specs.declared.serve.ServeErr.{ServeErr}
use Rattle.link_lossy.specs.declared.refusal.LinkErr.{LinkErr}
use Rattle.link_lossy.specs.declared.refusal.LinkErr.TheVariants as errs
use Rattle.link_lossy.specs.declared.calling.TheConstants.{TRIES}
use Rattle.link_lossy.specs.Links.{LinkSeen, Sends, every_seen}
use Rattle.link_lossy.specs.Tries.{Arrives, LoseAll, all_lost, packets_after, packets_before}
use Rattle.link_lossy.specs.Services.{answer_to, shown}

-- a carrier: its link loses the packets whose number this number divides, and was given so many over both ways; and whether a request
-- has arrived whose reply is not sent yet
pub record CarrierSeen : Type 0 where
  pub every : ℕ
  pub packets : ℕ
  pub waits : Bool

-- which packets it loses, by their numbers from 1
abbrev pub loses : CarrierSeen → ℕ → Bool
loses c = λ packet. packet % c.every == 0

-- how many it lost
abbrev pub losses : CarrierSeen → ℕ
losses c = c.packets / c.every

-- WHETHER A CALL IS LOST: each of its tries loses its request or its reply
abbrev pub is_lost_by : CarrierSeen → Bool
is_lost_by c = all_lost (loses c) c.packets TRIES

-- the carrier after so many packets, between two calls
abbrev pub with_packets : CarrierSeen → ℕ → CarrierSeen
with_packets c packets = record { every = c.every; packets = packets; waits = false }

-- the carrier after a call that was tried until its reply came, or as often as a call is tried
abbrev pub after_call : CarrierSeen → CarrierSeen
after_call c = with_packets c (packets_after (loses c) c.packets TRIES)

-- some tries of a call lost theirs, and the request of the next one arrived; so many packets there are then
pub record Reaches (old : CarrierSeen) (tries packets : ℕ) : Type 0 where
  pub few : tries < TRIES
  pub lost : all_lost (loses old) old.packets tries ≡ true
  pub arrived : loses old (packets_before (loses old) old.packets tries + 1) ≡ false
  pub is : packets ≡ packets_before (loses old) old.packets tries + 1

-- what its link tells
abbrev pub link_of : CarrierSeen → LinkSeen
link_of c = every_seen c.every c.packets

-- A REQUEST ARRIVED, behind so many tries that lost theirs
pub record Arrived (old : CarrierSeen) (tries : ℕ) (new : CarrierSeen) : Type 0 where
  pub few : tries < TRIES
  pub mid : LinkSeen
  pub lost : LoseAll tries (link_of old) mid
  pub came : Sends false mid (link_of new)
  pub waits_now : new.waits ≡ true

-- the carrier after a call that arrived, and for which memory lacked as it was served
pub record Starves (old new : CarrierSeen) : Type 0 where
  pub tries : ℕ
  pub packets : ℕ
  pub reaches : Reaches old tries packets
  pub is : new ≡ with_packets old packets

-- THE CALL IS LOST, and answers how many packets were lost so far
pub record IsLost (old new : CarrierSeen) (r : Result Served LinkErr) : Type 0 where
  pub lost : is_lost_by old ≡ true
  pub carrier : new ≡ after_call old
  pub result : r ≡ Err (errs.Link (losses new))

-- no request of it arrived, since memory ran out or each was lost
abbrev pub Fails : CarrierSeen → CarrierSeen → LinkErr → Type 0
Fails old new e = ((e ≡ errs.Memory) × (new ≡ old)) ⊎ IsLost old new (Err e)

-- THE REPLY COMES to what serving it gave
pub record IsBack (old new : CarrierSeen) (served : Result Served ServeErr) (out_old out_new : List ℕ) (r : Result Served LinkErr) : Type 0 where
  pub came : is_lost_by old ≡ false
  pub carrier : new ≡ after_call old
  pub result : r ≡ answer_to served
  pub out : out_new ≡ shown served out_old out_old

-- what a call answers whose request arrived, by whether serving it lacked memory
abbrev pub Answers : Bool → CarrierSeen → CarrierSeen → Result Served ServeErr → List ℕ → List ℕ → Result Served LinkErr → Type 0
Answers true old new served out_old out_new r = (r ≡ Err errs.Memory) × Starves old new × (out_new ≡ out_old)
Answers false old new served out_old out_new r = (IsLost old new r × (out_new ≡ out_old)) ⊎ IsBack old new served out_old out_new r

-- whether the reply of a call comes that began with this link
abbrev pub Comes : LinkSeen → Bool → LinkSeen → Type 0
Comes first false after = LoseAll TRIES first after
Comes first true after = (tries : ℕ) × (tries < TRIES) × ((mid : LinkSeen) × LoseAll tries first mid × Arrives mid after)
