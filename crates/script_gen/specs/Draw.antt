-- The draws: a linear congruence, whose state is below 2,147,483,648.
use Rattle.std.specs.Prelude.{ℕ, zero, suc, ◌+◌, ◌*◌, ◌/◌, ◌%◌}

-- the state after one more draw
unfoldable pub next_state : ℕ → ℕ
next_state state = (state * 1103515245 + 12345) % 2147483648

-- what a draw gives, by the state that it makes: its upper 15 bits
unfoldable pub given_by : ℕ → ℕ
given_by state = state / 65536

-- the state after so many draws
abbrev pub state_after : ℕ → ℕ → ℕ
state_after state zero = state
state_after state (suc draws) = next_state (state_after state draws)

-- what the draw of a number gives, counted from 1 behind this state
abbrev pub draw : ℕ → ℕ → ℕ
draw state number = given_by (state_after state number)
