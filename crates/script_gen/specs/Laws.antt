-- What holds of every generated script.
use Rattle.std.specs.Prelude.{ℕ, zero, suc, ◌+◌, List, Bool, true, false, IsTrue, if◌then◌else◌}
use Rattle.std.specs.List.{AllByRecursion}
use Rattle.script_text.specs.declared.script.Call.{Call}
use Rattle.script_text.specs.declared.script.Call.TheVariants.{Open, Map, Read, Write, Load, Store}
use Rattle.script_text.specs.declared.script.CallLine.{CallLine}
use Rattle.script_gen.specs.declared.shape.Shape.{Shape}
use Rattle.script_gen.specs.declared.aim.Aim.{Aim}
use Rattle.script_gen.specs.Aim.{aim_at}
use Rattle.script_gen.specs.Made.{client_of, writes_at, state_before}

-- where the call of a number goes
abbrev pub aim_of : Shape → ℕ → ℕ → Aim
aim_of shape seed number = aim_at shape (client_of number) (state_before shape seed number)

-- whether the call of a number writes
abbrev pub is_write : Shape → ℕ → ℕ → Bool
is_write shape seed number = writes_at shape number (state_before shape seed number)

-- how many of the calls before this number write
abbrev pub writes_before : Shape → ℕ → ℕ → ℕ
writes_before shape seed zero = 0
writes_before shape seed (suc number) = if is_write shape seed number then writes_before shape seed number + 1 else writes_before shape seed number

-- a call that opens, maps, or reads or writes bytes; no other is generated
abbrev pub is_made : Call → Bool
is_made (Open object path) = true
is_made (Map region object address pages write) = true
is_made (Read object page off len) = true
is_made (Write object page off bytes) = true
is_made (Load address len) = true
is_made (Store address bytes) = true
is_made call = false

abbrev pub AreMade : List CallLine → Type 0
AreMade lines = AllByRecursion (λ line. IsTrue (is_made line.call)) lines
