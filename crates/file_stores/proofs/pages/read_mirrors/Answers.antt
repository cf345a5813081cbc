use Rattle.std.proofs.Common.{◌≡◌, ◌≤◌, ◌+◌, ◌-◌, ◌*◌, ℕ, List, length, take, Option, Some, None, IfSome, refl, sym, ap, ◌∙◌, subst, arith}
use Rattle.std.specs.Prelude.{slice_get}
use Rattle.std.proofs.lemmas.List.{length-take, length-drop}
use Rattle.std.proofs.lemmas.Nat.{mul-le}
use Rattle.std.proofs.lemmas.Result.{err_from_is_err_and}
use Rattle.disk_format.specs.declared.shape.ImageShape.{ImageShape}
use Rattle.page_ground.specs.Seen.{ReadsPage}
use Rattle.page_ground.specs.Pages.{cut}
use Rattle.disk_layer.proofs.PageLaws.{read-next, read-all}
use Rattle.mirror_layer.specs.Ground.{Ground, seen_of}
use Rattle.file_stores.proofs.ReadLaws.{all-self, all-read, all-refused, ground-many}
use Rattle.file_stores.proofs.pages.read_mirrors.Goals as goal

none-read : (pages : Option (List (List ℕ))) (size : ℕ) (out : List ℕ) → IfSome pages (λ ps. take 0 ps ≡ cut size 0 out)
none-read None size out = tt
none-read (Some ps) size out = refl

le-self : (n : ℕ) → n ≤ n
le-self n = omega arith

one-more : (k p : ℕ) → (k + 1) * p ≡ k * p + p
one-more k p = grind arith

pub loop-page-init : goal.loop-page-init
loop-page-init g c = record { stay = all-self c.args.mirrors.now; same = refl; read = none-read (seen_of c.args.mirrors.now).pages c.args.shape.now.page_size c.args.out.now }

pub returns-in_err-read-clause-fault : goal.returns-in_err-read-clause-fault
returns-in_err-read-clause-fault g c =
    let told = err_from_is_err_and c.from_residual.result c.from_residual.ensures.1 in
    rw (told.1, told.2)
    (all-refused c.args.mirrors.now c.loop-page.mirrors c.read.new.self c.in_err-read.field-0.0 c.loop-page.invariant.stay c.in_err-read.ensures.look.1 c.read.ensures.rest)

pub loop-page-preserved : goal.loop-page-preserved
loop-page-preserved g c =
    let e = c.in_ok-read.ensures in
    let i = c.loop-page.invariant in
    let a : Ground = c.args.mirrors.now in
    let k = c.loop-page.page in
    let size = c.args.shape.now.page_size in
    let out = c.loop-page.out in
    let page = c.read.new.out in
    let n : k * size + size - k * size ≡ size = omega arith in
    let rows = mul-le (k + 1) size c.args.shape.now.pages size (omega (arith, c.loop-page-test.true)) (le-self size) in
    let whole : length out ≡ c.args.shape.now.pages * size = c.loop-page.auto.out ∙ c.requires.size in
    let room : k * size + size ≤ length out = omega (arith, rows, one-more k size, whole) in
    let long : length page ≡ size = c.read.auto.out ∙ simp (length-take, length-drop) (omega (arith, room)) in
    let next : IfSome (seen_of a).pages (λ pages. slice_get pages k ≡ Some page) = subst (λ (ps : Option (List (List ℕ))). ReadsPage ps k page) i.same e.bytes in
    record {
      stay = all-read a c.loop-page.mirrors c.read.new.self i.stay e.look.1 c.read.ensures.rest;
      same = c.read.ensures.same ∙ i.same;
      read = read-next size k (k * size + size - k * size) out page (seen_of a).pages long (omega (arith, room)) next i.read;
    }

pub returns-clause-read : goal.returns-clause-read
returns-clause-read g c =
    let i = c.loop-page.invariant in
    let a : Ground = c.args.mirrors.now in
    let shape : ImageShape = c.args.shape.now in
    let end = c.loop-page-test.false in
    let most = c.loop-page.auto.page-end in
    let at : c.loop-page.page ≡ shape.pages = omega (arith, end, most) in
    let many : IfSome (seen_of a).pages (λ ps. length ps ≡ shape.pages) = subst (λ n. IfSome (seen_of a).pages (λ ps. length ps ≡ n)) (ap (λ (s : ImageShape). s.pages) c.requires.shape) (ground-many a c.sound.ensures.is) in
    let read : IfSome (seen_of a).pages (λ ps. take shape.pages ps ≡ cut shape.page_size shape.pages c.loop-page.out) = subst (λ n. IfSome (seen_of a).pages (λ ps. take n ps ≡ cut shape.page_size n c.loop-page.out)) at i.read in (
      i.stay,
      subst (λ (s : ImageShape). IfSome (seen_of a).pages (λ ps. ps ≡ cut s.page_size s.pages c.loop-page.out)) (sym c.requires.shape) (read-all shape.page_size shape.pages c.loop-page.out (seen_of a).pages many read),
    )
