use Rattle.std.proofs.Common.{◌∙◌}
use Rattle.text_words.proofs.Printing.{path_put}
use Rattle.text_words.proofs.print.put_path.Goals as goal

pub returns-in_ok-put_word-in-len1-up : goal.returns-in_ok-put_word-in-len1-up
returns-in_ok-put_word-in-len1-up c =
    path_put c.put_parts.result c.args.out.now.items c.put_word.new.out.items c.put_parts.new.out.items c.as_bytes.result.now c.first-item.result c.args.path.now c.as_slice.result.now c.in-len1-up.len_at_least c.as_slice.ensures
    c.in_ok-put_word-in-len1-up.ensures (c.as_bytes.ensures.value ∙ c.as_str.ensures ∙ c.first-item.is) c.put_parts.ensures
