use Rattle.std.proofs.Common.{◌≡◌, ◌≤◌, ◌+◌, ◌-◌, ◌*◌, ℕ, length, take, Some, IfSome, sym, ap, ◌∙◌, subst, arith}
use Rattle.std.specs.Prelude.{slice_get}
use Rattle.std.proofs.lemmas.List.{length-take, length-drop}
use Rattle.std.proofs.lemmas.Nat.{mul-le}
use Rattle.disk_format.specs.declared.shape.ImageShape.{ImageShape}
use Rattle.disk_layer.specs.Disk.{Disk, pages_on, counting}
use Rattle.page_ground.specs.Seen.{ReadsPage}
use Rattle.page_ground.specs.Pages.{cut}
use borrow.Rule.Slice.PartMut.{put_mid}
use Rattle.disk_layer.proofs.PageLaws.{read-next}
use Rattle.disk_layer.proofs.pages.read_pages.Goals as goal

le-self : (n : ℕ) → n ≤ n
le-self n = omega arith

one-more : (k p : ℕ) → (k + 1) * p ≡ k * p + p
one-more k p = grind arith

pub loop-page-preserved : goal.loop-page-preserved
loop-page-preserved g c =
    let d : Disk = c.args.disk.now in
    let e = c.in_ok-read.ensures in
    let i = c.loop-page.invariant in
    let k = c.loop-page.page in
    let size = c.shape-shape.result.page_size in
    let out = c.loop-page.out in
    let page = c.read.new.out in
    let q : size ≡ d.shape.page_size = ap (λ (s : ImageShape). s.page_size) c.shape-shape.ensures.shape in
    let so_far : IfSome (pages_on d) (λ pages. take k pages ≡ cut size k out) = subst (λ s. IfSome (pages_on d) (λ pages. take k pages ≡ cut s k out)) (sym q) i.read in
    let n : k * size + size - k * size ≡ size = omega arith in
    let rows = mul-le (k + 1) size c.shape-shape.result.pages size (omega (arith, c.loop-page-test.true)) (le-self size) in
    let whole : length out ≡ c.shape-shape.result.pages * size = c.loop-page.auto.out ∙ (c.requires ∙ ap (λ (s : ImageShape). s.pages * s.page_size) (sym c.shape-shape.ensures.shape)) in
    let room : k * size + size ≤ length out = omega (arith, rows, one-more k size, whole) in
    let long : length page ≡ size = c.read.auto.out ∙ simp (length-take, length-drop) (omega (arith, room)) in
    let next : IfSome (pages_on d) (λ pages. slice_get pages k ≡ Some page) = subst (λ (x : Disk). ReadsPage (pages_on x) k page) i.same e.bytes in
    record {
      same = c.read.ensures.rest ∙ (ap (λ v. counting v c.loop-page.disk) e.count ∙ i.same);
      read = subst (λ s. IfSome (pages_on d) (λ pages. take (k + 1) pages ≡ cut s (k + 1) (put_mid (k * size) (k * size + size - k * size) out page))) q
          (read-next size k (k * size + size - k * size) out page (pages_on d) long (omega (arith, room)) next so_far);
    }
