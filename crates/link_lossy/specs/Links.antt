-- What a link tells, and what becomes of a packet that it is given.
use Rattle.std.specs.Prelude.{◌≡◌, ℕ, ◌+◌, ◌/◌, ◌%◌, ◌<◌, ◌≤◌, ◌==◌, Bool, true, false, Option, Some, IfSome}

-- how many packets it was given, over both ways; which it loses, by their numbers from 1, if that is told; and its count of losses
pub record LinkSeen : Type 0 where
  pub packets : ℕ
  pub loses : Option (ℕ → Bool)
  pub count : ℕ

-- A PACKET IS SENT, and is lost or not: the count never falls, and rises if it is lost; a link that tells which it loses keeps to that
pub record Sends (lost : Bool) (before after : LinkSeen) : Type 0 where
  pub packets : after.packets ≡ before.packets + 1
  pub test : after.loses ≡ before.loses
  pub count : before.count ≤ after.count
  pub rose : lost ≡ true → before.count < after.count
  pub told : IfSome before.loses (λ loses. lost ≡ loses after.packets)

-- a link that loses none of so many packets
abbrev pub sure_seen : ℕ → LinkSeen
sure_seen given = record { packets = given; loses = Some (λ packet. false); count = 0 }

-- a link that loses exactly the packets whose numbers n divides: of so many it lost this many
abbrev pub every_seen : ℕ → ℕ → LinkSeen
every_seen n given = record { packets = given; loses = Some (λ packet. packet % n == 0); count = given / n }
