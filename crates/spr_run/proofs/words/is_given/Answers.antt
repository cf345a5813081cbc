use Rattle.std.proofs.Common.{rules, ◌≡◌, ◌∙◌, sym, ap, Option, Some, None, false, codes, List, ℕ}
use Rattle.std.specs.Option.{option_map_or}
use Rattle.std.specs.Str.{bytes_eq}
use Rattle.clap.specs.Words.{first_of, first_value, found_of, rows_of}
use Rattle.clap.proofs.WalkLemmas.{first_value-rows}
use Rattle.spr_run.proofs.words.is_given.Goals as goal

pub returns-in-Some : goal.returns-in-Some
returns-in-Some c =
    let is : first_value (found_of c.args.found.now) c.args.id.now ≡ Some c.in-Some.word.now = search rules in
    let first : first_of c.args.id.now (rows_of (found_of c.args.found.now)) ≡ Some c.in-Some.word.now = sym (first_value-rows (found_of c.args.found.now) c.args.id.now) ∙ is in
    let eq : c.eq.result ≡ bytes_eq c.in-Some.word.now (codes "true") = search rules in
    eq ∙ ap (λ (o : Option (List ℕ)). option_map_or (λ word. bytes_eq word (codes "true")) o false) (sym first)

pub returns-in-None : goal.returns-in-None
returns-in-None c =
    let is : first_value (found_of c.args.found.now) c.args.id.now ≡ None = search rules in
    let first : first_of c.args.id.now (rows_of (found_of c.args.found.now)) ≡ None = sym (first_value-rows (found_of c.args.found.now) c.args.id.now) ∙ is in
    ap (λ (o : Option (List ℕ)). option_map_or (λ word. bytes_eq word (codes "true")) o false) (sym first)
