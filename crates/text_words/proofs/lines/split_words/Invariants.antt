use Rattle.std.proofs.Common.{◌≡◌, ◌≤◌, ◌++◌, ◌&&◌, length, map}
use Rattle.std.specs.List.{list_all}
use Rattle.text_words.specs.Lines.{has_bytes, is_line_byte, words_in}
use Rattle.text_words.proofs.lines.split_words.Given as goal

-- the words so far, and those that are left; the bytes that are left decide
abbrev pub invariant-loop-end : goal.invariant-loop-end
invariant-loop-end l = record {
  words : map (λ word. word.now) l.words.items ++ words_in l.rest ≡ map (λ word. word.now) l.fn.words.items ++ words_in l.fn.body;
  bytes : list_all is_line_byte l.fn.body ≡ list_all is_line_byte l.rest;
  full : list_all has_bytes (words_in l.fn.body) ≡ (l.full && list_all has_bytes (words_in l.rest));
  within : length l.rest ≤ length l.fn.body;
}

abbrev pub decreases-loop-end : goal.decreases-loop-end
decreases-loop-end l = length l.rest
