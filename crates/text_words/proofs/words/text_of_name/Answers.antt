use Rattle.std.proofs.Common.{◌≡◌, IfOk, List, ℕ, Result, Ok, Err}
use Rattle.text_words.proofs.Bytes.{name_utf8}
use Rattle.text_words.proofs.words.text_of_name.Goals as goal

-- what holds under a premise of an `Ok` holds where the premise does
under : {E P : Type 0} (r : Result (List ℕ) E) (w : List ℕ) → P → IfOk r (λ t. P → t ≡ w) → IfOk r (λ t. t ≡ w)
under (Ok t) w p h = h p
under (Err e) w p h = h

pub returns : goal.returns
returns c = under c.of_ascii.result c.args.word.now (name_utf8 c.args.word.now c.requires) c.of_ascii.ensures
