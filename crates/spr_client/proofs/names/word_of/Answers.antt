use Rattle.std.proofs.Common.{◌≡◌, ◌++◌, ◌∷◌, ℕ, List, ap, subst, ◌∙◌}
use Rattle.std.specs.Str.{IsUtf8}
use Rattle.text_words.specs.Words.{path_word}
use Rattle.spr_client.proofs.BoundLaws.{behind_space, word_utf8}
use Rattle.spr_client.proofs.ReconnectLaws.{if-ok}
use Rattle.spr_client.proofs.names.word_of.Goals as goal

pub returns : goal.returns
returns c =
    let word = path_word c.args.path.now in
    let written : c.deref.result.now ≡ 32 ∷ word = c.deref.ensures.value ∙ (c.in_ok-put_path.ensures ∙ ap (λ (xs : List ℕ). xs ++ 32 ∷ word) c.new-out.ensures.items) in
    if-ok c.of_ascii.result c.of_ascii.ensures (λ t is. subst (λ (bytes : List ℕ). IsUtf8 bytes → t ≡ bytes) (behind_space c.deref.result.now word written) is (word_utf8 c.args.path.now c.requires))
