-- Room for what is put.
use Rattle.std.specs.Prelude.{◌<◌, ◌≤◌, ℕ, ◌+◌, ◌^◌, length}
use Rattle.marshal_buf.specs.Held.{Held}

-- so many bytes and doors stay within a buffer's limits
pub record IsWithin (bytes doors : ℕ) (held : Held) : Type 0 where
  pub bytes_fit : length held.bytes + bytes < 2 ^ 32
  pub doors_fit : length held.doors + doors < 2 ^ 32

-- and there is room for them
pub record HasRoom (bytes doors : ℕ) (held : Held) : Type 0 where
  pub within : IsWithin bytes doors held
  pub spare : bytes ≤ held.spare
  pub spare_doors : doors ≤ held.spare_doors
