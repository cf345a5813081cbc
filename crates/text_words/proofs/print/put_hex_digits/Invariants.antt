use Rattle.std.proofs.Common.{◌≡◌, ◌+◌, ◌-◌, ◌*◌, ◌≤◌, ◌++◌, length, drop, vec_len, vec_capacity}
use Rattle.hex.specs.Hex.{encode_lower}
use Rattle.text_words.proofs.print.put_hex_digits.Given as goal

-- what is written, and what is left to write, for which there is room
abbrev pub invariant-loop-byte : goal.invariant-loop-byte
invariant-loop-byte l = record {
  written : l.out.items ++ encode_lower (drop l.byte-index l.bytes) ≡ l.fn.out.items ++ encode_lower l.bytes;
  room : vec_len l.out + 2 * (length l.bytes - l.byte-index) ≤ vec_capacity l.out;
}
