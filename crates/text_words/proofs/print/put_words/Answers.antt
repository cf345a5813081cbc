use Rattle.text_words.proofs.Printing.{words_put}
use Rattle.text_words.proofs.print.put_words.Goals as goal

pub returns-in_ok-put-in-len1-up : goal.returns-in_ok-put-in-len1-up
returns-in_ok-put-in-len1-up c = words_put c.put_spaced.result c.args.out.now.items c.put.new.out.items c.put_spaced.new.out.items c.args.words.now _ c.in-len1-up.len_at_least c.in_ok-put-in-len1-up.ensures.ok c.put_spaced.ensures
