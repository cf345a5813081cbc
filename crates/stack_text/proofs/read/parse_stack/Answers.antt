use Rattle.std.proofs.Common.{◌≡◌, List, sym, subst, ap, ◌∙◌}
use Rattle.stack_text.specs.declared.stack.StackLine.{StackLine}
use Rattle.stack_text.specs.Grammar.{IsStack, spelling}
use Rattle.stack_text.proofs.Laws.{stack_at_is, stack_at_again, refused_memory, lines_same}
use Rattle.stack_text.proofs.read.parse_stack.Goals as goal

pub returns-in-Ok-clause-found : goal.returns-in-Ok-clause-found
returns-in-Ok-clause-found c =
    let text = c.args.text.now in
    let Reads : List StackLine → Type 0 = λ lines. IsStack (record { lines = lines }) × (text ≡ spelling (record { lines = lines })) in
    subst Reads (sym c.from_vec.ensures) (stack_at_is text c.in-Ok.lines.items c.in-Ok.ensures)

pub returns-in-Ok-clause-only : goal.returns-in-Ok-clause-only
returns-in-Ok-clause-only c stack is spelled =
    ap (λ (lines : List StackLine). record { lines = lines }) (c.from_vec.ensures ∙ lines_same c.in-Ok.lines.items stack.lines (sym c.in-Ok.ensures ∙ stack_at_again c.args.text.now stack is spelled))

pub returns-in-Err-clause-only : goal.returns-in-Err-clause-only
returns-in-Err-clause-only c stack is spelled =
    refused_memory c.in-Err.refused.why c.in-Err.refused.line stack.lines _ (stack_at_again c.args.text.now stack is spelled) c.in-Err.ensures
