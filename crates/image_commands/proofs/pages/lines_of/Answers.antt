use Rattle.std.proofs.Common.{◌≡◌, ◌+◌, ◌-◌, ◌*◌, ◌++◌, ℕ, List, take, drop, ap, sym, ◌∙◌, arith}
use Rattle.page_ground.specs.Pages.{cut}
use Rattle.image_commands.specs.Pages.{page_line, page_lines}
use Rattle.image_commands.proofs.LineLaws.{lines-next}
use Rattle.image_commands.proofs.pages.lines_of.Goals as goal

pub loop-number-preserved : goal.loop-number-preserved
loop-number-preserved c =
    let size = c.args.shape.now.page_size in
    let k = c.loop-number.number in
    let bytes = c.args.bytes.now in
    let n : k * size + size - k * size ≡ size = omega arith in
    c.in_ok-put_page.ensures
    ∙ (ap (λ (l : List ℕ). l ++ page_line k (take (k * size + size - k * size) (drop (k * size) bytes))) c.loop-number.invariant
    ∙ (ap (λ m. page_lines 0 (cut size k bytes) ++ page_line k (take m (drop (k * size) bytes))) n ∙ sym (lines-next size k bytes)))
