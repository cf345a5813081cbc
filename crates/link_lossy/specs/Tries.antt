-- The tries of a call, and what they lose.
use Rattle.std.specs.Prelude.{◌≡◌, ℕ, zero, suc, ◌+◌, Bool, true, false, ◌&&◌, ◌||◌, if◌then◌else◌}
use Rattle.std.specs.Prelude.{◌⊎◌}
use Rattle.link_lossy.specs.Links.{LinkSeen, Sends}

-- A TRY LOSES its request, or its request arrives and it loses its reply
abbrev pub Loses : LinkSeen → LinkSeen → Type 0
Loses before after = Sends true before after ⊎ ((mid : LinkSeen) × Sends false before mid × Sends true mid after)

-- a try's request and its reply arrive
abbrev pub Arrives : LinkSeen → LinkSeen → Type 0
Arrives before after = (mid : LinkSeen) × Sends false before mid × Sends false mid after

-- each of so many tries loses its request or its reply
unfoldable pub LoseAll : ℕ → LinkSeen → LinkSeen → Type 0
LoseAll zero before after = after ≡ before
LoseAll (suc tries) before after = (mid : LinkSeen) × LoseAll tries before mid × Loses mid after

-- the same by the packets' numbers. Whether a try whose request has this number loses it or its reply, which is the next packet
abbrev pub is_lost : (ℕ → Bool) → ℕ → Bool
is_lost loses request = loses request || loses (request + 1)

-- how many packets such a try sends: its reply only if its request arrives
abbrev pub sent_by : (ℕ → Bool) → ℕ → ℕ
sent_by loses request = if loses request then 1 else 2

-- how many packets there were before a try, the tries counted from 0, if each one before it loses its request or its reply
unfoldable pub packets_before : (ℕ → Bool) → ℕ → ℕ → ℕ
packets_before loses packets zero = packets
packets_before loses packets (suc tries) = packets_before loses packets tries + sent_by loses (packets_before loses packets tries + 1)

-- WHETHER EACH of so many tries loses its request or its reply, where so many packets went before
unfoldable pub all_lost : (ℕ → Bool) → ℕ → ℕ → Bool
all_lost loses packets zero = true
all_lost loses packets (suc tries) = all_lost loses packets tries && is_lost loses (packets_before loses packets tries + 1)

-- HOW MANY PACKETS there are after a call of at most so many tries, where so many went before: it is tried until its request and its
-- reply arrive
unfoldable pub packets_after : (ℕ → Bool) → ℕ → ℕ → ℕ
packets_after loses packets zero = packets
packets_after loses packets (suc tries) = if is_lost loses (packets + 1) then packets_after loses (packets + sent_by loses (packets + 1)) tries else packets + 2
