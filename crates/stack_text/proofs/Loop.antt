-- Reading line by line.
use Rattle.std.proofs.Common.{◌≡◌, ◌+◌, ◌≤◌, List, [], ◌∷◌, ◌++◌, length, Result, Ok, Err, refl, sym, ap, subst, ◌∙◌, append_assoc, length-append, arith}
use Rattle.text_words.specs.Lines.{Row}
use Rattle.stack_text.specs.declared.stack.StackLine.{StackLine}
use Rattle.stack_text.specs.declared.why.Refused.{Refused}
use Rattle.stack_text.specs.Reading.{◌>>=◌, in_line, line_at, lines_at}
use Rattle.stack_text.proofs.Laws.{bind_again, line_at_is}

-- the lines so far, and those that follow
abbrev pub onto : List StackLine → Result (List StackLine) Refused → Result (List StackLine) Refused
onto front (Ok lines) = Ok (front ++ lines)
onto front (Err refused) = Err refused

abbrev all_of : List StackLine → Result (List StackLine) Refused
all_of lines = Ok lines

onto_cons : (front : List StackLine) (line : StackLine) (more : Result (List StackLine) Refused) → onto front (more >>= λ lines. all_of (line ∷ lines)) ≡ onto (front ++ line ∷ []) more
onto_cons front line (Ok lines) = ap all_of (sym (append_assoc front (line ∷ []) lines))
onto_cons front line (Err refused) = refl

-- what the loop keeps: the lines so far, of at most 128, go on as the text does
pub record GoesOn (whole : Result (List StackLine) Refused) (front : List StackLine) (rows : List Row) : Type 0 where
  pub read : whole ≡ onto front (lines_at (length front + 1) rows)
  pub few : length front ≤ 128

pub one_more : (whole : Result (List StackLine) Refused) (front next : List StackLine) (row : Row) (rows left : List Row) (line : StackLine)
    → GoesOn whole front left → left ≡ row ∷ rows → line_at (length front + 1) row ≡ Ok line → next ≡ front ++ line ∷ [] → GoesOn whole next rows
one_more whole front next row rows left line goes split is pushed =
    let few = line_at_is (length front + 1) row line is in
    let low = few.few in
    let longer = length-append front (line ∷ []) in
    let read : whole ≡ onto (front ++ line ∷ []) (lines_at (length front + 1 + 1) rows) =
    goes.read ∙ ap (λ rs. onto front (lines_at (length front + 1) rs)) split
    ∙ ap (onto front) (bind_again (in_line (length front + 1) (line_at (length front + 1) row)) (λ l. lines_at (length front + 1 + 1) rows >>= λ lines. all_of (l ∷ lines)) line (ap (in_line (length front + 1)) is))
    ∙ onto_cons front line (lines_at (length front + 1 + 1) rows) in
    let place : length front + 1 + 1 ≡ length (front ++ line ∷ []) + 1 = omega (arith, longer) in
    subst (λ ls. GoesOn whole ls rows) (sym pushed)
    (record { read = read ∙ ap (λ n. onto (front ++ line ∷ []) (lines_at n rows)) place; few = omega (arith, longer, low) })
