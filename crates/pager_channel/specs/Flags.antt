-- The flags of a head.
use Rattle.std.specs.Prelude.{ℕ, Bool, not, ◌==◌, bit_and}
use Rattle.pager_channel.specs.declared.flags.TheConstants.{DATA, TO_CACHE, TO_FILE}

abbrev pub flag : ℕ → ℕ → Bool
flag bit flags = not (bit_and flags bit == 0)

abbrev pub has_data : ℕ → Bool
has_data flags = flag DATA flags

abbrev pub is_to_cache : ℕ → Bool
is_to_cache flags = flag TO_CACHE flags

abbrev pub is_to_file : ℕ → Bool
is_to_file flags = flag TO_FILE flags
