-- How many bytes of data follow a head.
use Rattle.std.specs.Prelude.{ℕ, if◌then◌else◌}
use Rattle.pager_channel.specs.declared.front.Head.{Head}
use Rattle.pager_channel.specs.Flags.{has_data}

abbrev pub data_size : Head → ℕ
data_size h = if has_data h.flags then h.size else 0
