-- A ground of disks that were opened well, over plain variables.
use Rattle.std.proofs.Common.{◌≡◌, ℕ, ◌<◌, Bool, List, length, Option, refl, sym, subst, ◌∙◌}
use Rattle.std.specs.List.Sorted.{IsPermutation}
use Rattle.spr_io.specs.Content.{Content}
use Rattle.disk_format.specs.declared.shape.ImageShape.{ImageShape}
use Rattle.stack_accept.specs.Plan.{Plan, disks_in, numbers_below}
use Rattle.mirror_rules.specs.Claims.{Every}
use Rattle.mirror_rules.specs.Tree.{Seat}
use Rattle.mirror_rules.specs.Guards.{Direct}
use Rattle.mirror_rules.specs.Opening.{Opens, Good}
use Rattle.mirror_rules.proofs.GenLaws.{levels-near}
use Rattle.mirror_rules.proofs.OpenLaws.{state-pages, wins-size}
use Rattle.mirror_rules.proofs.GivesLaws.{opens-answer, always}
use Rattle.mirror_rules.proofs.LevelLaws.{opens-level, opens-even}
use Rattle.mirror_layer.specs.View.{Beside}
use Rattle.mirror_layer.specs.Ground.{Ground, IsGround}
use Rattle.mirror_layer.specs.declared.came.Notice.{Notice}
use Rattle.mirror_layer.specs.Coming.{Listed}
use Rattle.mirror_layer.specs.Bringing.{IsReady, OpenedOver}
use Rattle.mirror_layer.specs.Came.{OpenedWith}
use Rattle.mirror_layer.proofs.EnterSteps.{told-every}
use Rattle.mirror_layer.proofs.SizeSteps.{sizes}
use Rattle.mirror_layer.proofs.LastSteps.{lasting, given, blames}
use Rattle.mirror_layer.proofs.BringSteps.{lies-there, lies-shapes, lies-ordered}
use Rattle.mirror_layer.proofs.CameSteps.{are-came}

pub is-ground : {T : Type 0} {content : T → Option Content} {faults : T → ℕ} {shape : ImageShape} {stores : List T} {plan : Plan} {beside : List Beside} {us : List Seat} {owed : Bool} {g : ℕ} {words : List (Option Notice)} {places : List (Option T)} {emptied : List T} {room : ℕ}
    → IsReady content faults shape stores plan beside us owed g words places emptied room → IsGround (record { shape = shape; owed = owed; generation = g; row = us; beside = beside })
is-ground {shape = shape} {beside = beside} {us = us} {owed = owed} {g = g} r = record {
  live = r.live;
  there = lies-there r.seen.lies;
  shapes = lies-shapes r.seen.lies;
  differ = r.differ;
  counts = r.counts;
  pages = λ told.
      let z = sizes r.seen.brought r.seen.lies (told-every beside told) in
      let a = opens-answer Direct (subst (λ t. Opens t shape.pages r.seen.row (Good owed g) us) told r.opens) r.seen.meets z (always z) in
      (a.0.w.pages, state-pages a.2, wins-size a.0.met a.0.wins z);
  near = levels-near r.within (opens-level r.opens r.seen.meets).0;
  even = opens-even r.opens r.seen.meets;
  within = r.within;
}

abbrev pub over-ready : {T : Type 0} {content : T → Option Content} {faults : T → ℕ} {shape : ImageShape} {stores : List T} {plan : Plan} {beside : List Beside} {us : List Seat} {owed : Bool} {k : ℕ} {words : List (Option Notice)} {places : List (Option T)} {emptied : List T} {room : ℕ}
    → IsReady content faults shape stores plan beside us owed k words places emptied room → OpenedOver content faults shape stores plan (record { shape = shape; owed = owed; generation = k; row = us; beside = beside })
over-ready {content = content} {faults = faults} {shape = shape} {stores = stores} {plan = plan} {beside = beside} {us = us} {owed = owed} {k = k} r = record {
  seen = r.seen;
  opens = r.opens;
  shaped = refl;
  fair = blames (Good owed k) r.opens r.seen.meets;
  lasting = λ told. lasting (subst (λ t. Opens t shape.pages r.seen.row (Good owed k) us) told r.opens) r.seen.meets (sizes r.seen.brought r.seen.lies (told-every beside told));
  given = λ told. given (subst (λ t. Opens t shape.pages r.seen.row (Good owed k) us) told r.opens) r.seen.meets (sizes r.seen.brought r.seen.lies (told-every beside told));
}

pub opened-with : {T : Type 0} {content : T → Option Content} {faults : T → ℕ} {shape : ImageShape} {stores : List T} {plan : Plan} {beside : List Beside} {us : List Seat} {owed : Bool} {k : ℕ} {words : List (Option Notice)} {places : List (Option T)} {emptied : List T} {room : ℕ} (g : Ground) (came : List (Option Notice))
    → IsReady content faults shape stores plan beside us owed k words places emptied room → Listed came words 0 beside us → g ≡ record { shape = shape; owed = owed; generation = k; row = us; beside = beside } → OpenedWith content faults shape stores plan came g
opened-with {content = content} {faults = faults} {shape = shape} {stores = stores} {plan = plan} {beside = beside} {words = words} g came r t e =
    subst (OpenedWith content faults shape stores plan came) (sym e) (record { over = over-ready r; came_so = are-came came words (λ told. sizes r.seen.brought r.seen.lies (told-every beside told)) r.seen.meets t r.came })

-- there is a place for each number
pub came-below : {T : Type 0} {content : T → Option Content} {faults : T → ℕ} {shape : ImageShape} {stores : List T} {plan : Plan} {beside : List Beside} {us : List Seat} {owed : Bool} {k : ℕ} {words : List (Option Notice)} {places : List (Option T)} {emptied : List T} {room : ℕ} (came : List (Option Notice))
    → IsReady content faults shape stores plan beside us owed k words places emptied room → IsPermutation (disks_in plan) (numbers_below (length stores)) → length came ≡ length stores → Every (λ (b : Beside). b.disk < length came) beside
came-below {beside = beside} came r p e =
    let o = lies-ordered r.seen.lies p in
    subst (λ n. Every (λ (b : Beside). b.disk < n) beside) (o.many ∙ sym e) o.numbered.below
