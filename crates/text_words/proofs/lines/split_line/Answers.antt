use Rattle.std.proofs.Common.{sym}
use Rattle.std.proofs.lemmas.Bool.{eqb-true}
use Rattle.std.proofs.lemmas.List.Quantifiers.{position-Some}
use Rattle.text_words.proofs.LineLaws.{cut_split, cut_none}
use Rattle.text_words.proofs.lines.split_line.Goals as goal

pub returns-in-Some-clause-lines : goal.returns-in-Some-clause-lines
returns-in-Some-clause-lines c =
    let p = position-Some _ c.args.text.now c.in-Some.end 0 (sym c.in-Some.ensures) in
    cut_split c.args.text.now c.in-Some.end p.0 (eqb-true _ 10 p.1) p.2

pub returns-in-None-clause-lines : goal.returns-in-None-clause-lines
returns-in-None-clause-lines c = cut_none c.args.text.now c.requires (sym c.in-None.ensures)
