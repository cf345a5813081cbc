use Rattle.std.proofs.Common.{◌≡◌, ◌≤◌, ◌+◌, ◌-◌, ◌*◌, ℕ, List, [], length, take, Option, Some, None, IfSome, refl, sym, ap, ◌∙◌, subst, arith}
use Rattle.std.specs.Prelude.{slice_get}
use Rattle.std.proofs.lemmas.List.{length-take, length-drop}
use Rattle.std.proofs.lemmas.Nat.{mul-le}
use Rattle.page_ground.specs.Seen.{ReadsPage}
use Rattle.page_ground.specs.Pages.{cut}
use Rattle.disk_layer.proofs.PageLaws.{read-next}
use Rattle.page_messages.specs.declared.paged.PagedFile.{PagedFile}
use Rattle.stack_engine.specs.Engine.{EngineSeen, log_in}
use Rattle.spr_volume.proofs.Laters.{later_refl, later_trans}
use Rattle.run_files.proofs.BeginLaws.{every, le-self, one-more, read-later, tried-cut}
use Rattle.run_files.proofs.beginning.read_pages.Goals as goal

pub loop-page-init : goal.loop-page-init
loop-page-init g c = record { sound = c.sound.ensures; later = later_refl c.args.tower.now.engine; log = refl; same = refl; read = every c.args.tower.now.engine.ground.pages _ (λ ps. refl) }

pub returns-in_err-read-clause-tried : goal.returns-in_err-read-clause-tried
returns-in_err-read-clause-tried g c =
    let i = c.loop-page.invariant in
    (tried-cut c.args.caller c.args.tower.now c.loop-page.tower c.read_ground-read.new.self c.in_err-read.field-0.0 c.requires.unwritten i.later i.log i.sound c.sound-in-loop-page.ensures c.in_err-read.ensures.fails.refused).0

pub loop-page-preserved : goal.loop-page-preserved
loop-page-preserved g c =
    let e = c.in_ok-read.ensures.reads in
    let i = c.loop-page.invariant in
    let a : EngineSeen = c.args.tower.now.engine in
    let m : EngineSeen = c.loop-page.tower.engine in
    let n : EngineSeen = c.read_ground-read.new.self.engine in
    let empty : log_in m ≡ [] = i.log ∙ c.requires.unwritten in
    let k = c.loop-page.page in
    let size = c.file-file.result.page_size in
    let pages = c.file-file.result.pages in
    let out = c.loop-page.bytes in
    let page = c.read_ground-read.new.out in
    let same : k * size + size - k * size ≡ size = omega arith in
    let low = c.loop-page-test.true in
    let rows = mul-le (k + 1) size pages size (omega (arith, low)) (le-self size) in
    let file = c.file-file.ensures.value in
    let whole : length out ≡ pages * size = c.loop-page.auto.bytes ∙ (c.requires.size ∙ ap (λ (f : PagedFile). f.pages * f.page_size) (sym file)) in
    let next_row = one-more k size in
    let room : k * size + size ≤ length out = omega (arith, rows, next_row, whole) in
    let long : length page ≡ size = c.read_ground-read.auto.out ∙ simp (length-take, length-drop) (omega (arith, room)) in
    let next : IfSome a.ground.pages (λ ps. slice_get ps k ≡ Some page) = subst (λ (ps : Option (List (List ℕ))). ReadsPage ps k page) i.same e.read in
    record {
      sound = c.sound-in-loop-page.ensures;
      later = later_trans a m n i.later (read-later k page m n i.sound c.sound-in-loop-page.ensures empty e);
      log = e.log ∙ i.log;
      same = e.pages ∙ i.same;
      read = read-next size k (k * size + size - k * size) out page a.ground.pages long (omega (arith, room)) next i.read;
    }

pub returns-clause-read : goal.returns-clause-read
returns-clause-read g c =
    let i = c.loop-page.invariant in
    let a : EngineSeen = c.args.tower.now.engine in
    let end = c.loop-page-test.false in
    let most = c.loop-page.auto.page-end in
    let at : c.loop-page.page ≡ c.file-file.result.pages = omega (arith, end, most) in
    record {
      later = i.later;
      log = i.log;
      sized = c.loop-page.auto.bytes ∙ c.requires.size;
      told = subst (λ (f : PagedFile). IfSome a.ground.pages (λ ps. take f.pages ps ≡ cut f.page_size f.pages c.loop-page.bytes)) c.file-file.ensures.value
          (subst (λ n. IfSome a.ground.pages (λ ps. take n ps ≡ cut c.file-file.result.page_size n c.loop-page.bytes)) at i.read);
    }
