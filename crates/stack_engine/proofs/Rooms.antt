-- An engine in which room was made is the same in all that is said of it.
use Rattle.std.proofs.Common.{◌≡◌, inl, ℕ, ◌<◌, List, Result, Ok, Err, Bool, true, false, nat_lt, arith, refl, sym, ap, subst, ◌∙◌}
use Rattle.std.specs.Prelude.{IfErr, IsErrAnd}
use Rattle.hist_plain.specs.declared.TheConstants.{MAX_EVENTS}
use Rattle.hist_plain.specs.declared.event.Answer.{Answer}
use Rattle.hist_plain.specs.declared.event.Event.{Event}
use Rattle.hist_plain.specs.declared.event.Event.TheVariants as events
use Rattle.hist_plain.specs.declared.event.Op.{Op}
use Rattle.std.proofs.lemmas.Bool.Decides.{nat_tests}
use Rattle.page_ground.specs.Seen.{Seen}
use Rattle.page_exchange.specs.declared.tables.Tables.{Tables}
use Rattle.tower_core.specs.declared.sheet.Sheet.{Sheet}
use Rattle.tower_core.specs.Sheet.{seen}
use Rattle.tower_core.specs.Trail.{State}
use Rattle.tower_core.proofs.Trails.{trail_len}
use Rattle.tower_log.specs.declared.logged.Entry.{Entry}
use Rattle.tower_log.specs.Log.{place_of}
use Rattle.tower_log.specs.Trail.{TrailSeen}
use Rattle.stack_engine.specs.declared.refusal.StepErr.{StepErr}
use Rattle.stack_engine.specs.declared.refusal.StepErr.TheVariants as errors
use Rattle.stack_engine.specs.Engine.{EngineSeen, IsEngine, IsSheetOf, events_in, log_in, tree_in}
use Rattle.stack_engine.specs.Messages.{NeedsDisks}
use Rattle.stack_engine.specs.Moves.{AreCarried, Enters, GoesOver, IsRefused, IsWhy, Makes, Sends, StandsFor}
use Rattle.stack_engine.specs.Opened.{IsOf}
use Rattle.stack_engine.specs.Start.{IsFullOrNoMemory}

abbrev pub roomy : EngineSeen → ℕ → EngineSeen
roomy e r = record e { trail = record e.trail { room = r } }

pub of_roomy : (opening : List ℕ) (old : EngineSeen) (r : ℕ) → IsOf opening old → IsOf opening (roomy old r)
of_roomy opening old r of = record {
  began = of.began;
  keeps = of.keeps;
  answers = of.answers;
  synced = λ from last. let s = of.synced from last in record { reached = s.reached; ground = s.ground; disks = s.disks; behind = s.behind };
}

-- with another number of spare reads, too
pub of_spare : (opening : List ℕ) (old new : EngineSeen) (spare room : ℕ) → new ≡ record old { trail = record old.trail { spare = spare; room = room } } → IsOf opening old → IsOf opening new
of_spare opening old new spare room is of = subst (IsOf opening) (sym is) (record {
  began = of.began;
  keeps = of.keeps;
  answers = of.answers;
  synced = λ from last. let s = of.synced from last in record { reached = s.reached; ground = s.ground; disks = s.disks; behind = s.behind };
})

-- and so is all that holds of it
pub engine_spare : (old new : EngineSeen) (sheet : Sheet) (spare room : ℕ) → new ≡ record old { trail = record old.trail { spare = spare; room = room } } → IsEngine old sheet → IsEngine new sheet
engine_spare old new sheet spare room is kept = subst (λ (e : EngineSeen). IsEngine e sheet) (sym is) (record {
  sound = record {
    true_to = kept.sound.true_to;
    under = kept.sound.under;
    listed = kept.sound.listed;
    few = kept.sound.few;
    numbered = kept.sound.numbered;
    notes = kept.sound.notes;
    page_size = kept.sound.page_size;
    shows = kept.sound.shows;
    keeps = kept.sound.keeps;
  };
  sheet_is = record { nodes_are = kept.sheet_is.nodes_are; pages_are = kept.sheet_is.pages_are; state_is = kept.sheet_is.state_is };
})

pub engine_room : (old new : EngineSeen) (sheet : Sheet) (room : ℕ) → new ≡ record old { trail = record old.trail { room = room } } → IsEngine old sheet → IsEngine new sheet
engine_room old new sheet room is kept = engine_spare old new sheet old.trail.spare room is kept

-- THE SHEET counts the events
pub counted : (e : EngineSeen) (sheet : Sheet) → IsSheetOf e sheet → (seen sheet).len ≡ place_of (log_in e)
counted e sheet is = ap (λ (s : State). s.len) is.state_is ∙ trail_len (tree_in e) (events_in e)

-- what was done after room was made was done
module _ (old mid new : EngineSeen) (r : ℕ) (is : mid ≡ roomy old r) where
  pub enters_room : (entry : Entry) → Enters entry mid new → Enters entry old new
  enters_room entry = subst (λ (e : EngineSeen). Enters entry e new → Enters entry old new) (sym is) (λ h. record {
    goes = record { file = h.goes.file; call = h.goes.call; of = λ opening of. h.goes.of opening (of_roomy opening old r of) };
    log = h.log;
    calm = h.calm;
  })

  stands_room : (asked event : Event) → StandsFor (roomy old r) new asked event → StandsFor old new asked event
  stands_room (events.PageIn node page write) event h =
      ((λ z. h.0 (record { nothing = z.nothing; zeros = z.zeros })), (λ nz. h.1 (λ z. nz (record { nothing = z.nothing; zeros = z.zeros }))))
  stands_room _ event h = h

  carried_room : (event : Event) → AreCarried (roomy old r) new event → AreCarried old new event
  carried_room (events.FlushBack node page) h = h
  carried_room (events.DenyWrites node page) h = h
  carried_room (events.WriteBack node page) h = h
  carried_room (events.DeleteRange node page) h = h
  carried_room _ h = h

  over_room : (event : Event) → GoesOver (roomy old r) new event → GoesOver old new event
  over_room event h = record { base = h.base; came = h.came; went = h.went; carried = carried_room event h.carried }

  pub sends_room : (asked event : Event) → Sends asked mid new event → Sends asked old new event
  sends_room asked event = subst (λ (e : EngineSeen). Sends asked e new event → Sends asked old new event) (sym is) (λ h. by asked h)
    where
      by : (asked : Event) → Sends asked (roomy old r) new event → Sends asked old new event
      by (events.PageIn node page write) h = record {
        stands = stands_room (events.PageIn node page write) event h.stands;
        enters = record { goes = record { file = h.enters.goes.file; call = h.enters.goes.call; of = λ opening of. h.enters.goes.of opening (of_roomy opening old r of) }; log = h.enters.log; calm = h.enters.calm };
        frames = over_room event h.frames;
        spare = h.spare;
        idle = h.idle;
      }
      by (events.ZeroFill node page write) h = record { stands = h.stands; enters = record { goes = record { file = h.enters.goes.file; call = h.enters.goes.call; of = λ opening of. h.enters.goes.of opening (of_roomy opening old r of) }; log = h.enters.log; calm = h.enters.calm }; frames = over_room event h.frames; spare = h.spare; idle = h.idle }
      by (events.Access caller number node life op) h = record { stands = h.stands; enters = record { goes = record { file = h.enters.goes.file; call = h.enters.goes.call; of = λ opening of. h.enters.goes.of opening (of_roomy opening old r of) }; log = h.enters.log; calm = h.enters.calm }; frames = over_room event h.frames; spare = h.spare; idle = h.idle }
      by _ h = record { stands = h.stands; enters = record { goes = record { file = h.enters.goes.file; call = h.enters.goes.call; of = λ opening of. h.enters.goes.of opening (of_roomy opening old r of) }; log = h.enters.log; calm = h.enters.calm }; frames = over_room event h.frames; spare = h.spare; idle = h.idle }

  pub makes_room : (caller number node life : ℕ) (op : Op) (answer : Answer) → Makes caller number node life op mid new answer → Makes caller number node life op old new answer
  makes_room caller number node life op answer = subst (λ (e : EngineSeen). Makes caller number node life op e new answer → Makes caller number node life op old new answer) (sym is) (λ h. by op h)
    where
      by : (op : Op) → Makes caller number node life op (roomy old r) new answer → Makes caller number node life op old new answer
      by (Op.Read page off len) h = record { is = h.is; enters = record { goes = record { file = h.enters.goes.file; call = h.enters.goes.call; of = λ opening of. h.enters.goes.of opening (of_roomy opening old r of) }; log = h.enters.log; calm = h.enters.calm }; ground = h.ground }
      by _ h = record { is = h.is; enters = record { goes = record { file = h.enters.goes.file; call = h.enters.goes.call; of = λ opening of. h.enters.goes.of opening (of_roomy opening old r of) }; log = h.enters.log; calm = h.enters.calm }; ground = h.ground }

  -- what a message that needs no disk leaves
  pub idle_room : (event : Event) (after : Seen) → ((NeedsDisks mid event → ⊥) → after ≡ mid.ground) → (NeedsDisks old event → ⊥) → after ≡ old.ground
  idle_room event after = subst (λ (e : EngineSeen). ((NeedsDisks e event → ⊥) → after ≡ e.ground) → (NeedsDisks old event → ⊥) → after ≡ old.ground) (sym is) (λ h. h)

  why_room : (caller : ℕ) (err : StepErr) → IsWhy caller (roomy old r) new err → IsWhy caller old new err
  why_room caller (errors.StoreFault disk count) h = h
  why_room caller errors.TrailFull h = h
  why_room caller errors.Memory h = h

  pub refused_room : (caller : ℕ) (err : StepErr) → IsRefused caller mid new err → IsRefused caller old new err
  refused_room caller err = subst (λ (e : EngineSeen). IsRefused caller e new err → IsRefused caller old new err) (sym is) (λ h. record {
    goes = record { file = h.goes.file; call = h.goes.call; of = λ opening of. h.goes.of opening (of_roomy opening old r of) };
    tables = h.tables;
    pages = h.pages;
    why = why_room caller err h.why;
    spare = h.spare;
  })

-- a full trail, and want of memory before anything was done
pub full_refused : (caller : ℕ) (old new : EngineSeen) (r : ℕ) (err : StepErr) → new ≡ roomy old r → IsFullOrNoMemory old err → IsRefused caller old new err
full_refused caller old new r err is h = subst (λ (e : EngineSeen). IsRefused caller old e err) (sym is) (record {
  goes = record { file = record { tree = refl; file = refl; machines = refl; ops = refl }; call = inl refl; of = λ opening of. of_roomy opening old r of };
  tables = record { sides = λ page node. refl; uses = λ node. refl };
  pages = refl;
  why = why err h;
  spare = refl;
})
  where
    why : (err : StepErr) → IsFullOrNoMemory old err → IsWhy caller old (roomy old r) err
    why errors.TrailFull h = (refl, h, refl)
    why errors.Memory h = (refl, h, inl refl)
    why (errors.StoreFault disk count) h = absurd h

pub if_err : {A : Type 0} (q : Result A StepErr) (err : StepErr) (P : StepErr → Type 0) → IsErrAnd q (λ e. e ≡ err) → P err → IfErr q P
if_err {A = A} (Ok x) err P is h = tt
if_err {A = A} (Err e) err P is h = subst P (sym is) h

-- no room for the bytes of a read
pub lacking_read : (caller : ℕ) (old mid new : EngineSeen) → mid ≡ old → new.ground ≡ mid.ground → new.tables ≡ mid.tables → new.trail ≡ record mid.trail { spare = new.trail.spare; room = new.trail.room }
    → (0 < mid.trail.spare → ⊥) → (mid.trail.spare ≡ 0 → new.trail.spare ≡ 0) → place_of (log_in mid) < MAX_EVENTS → IsRefused caller old new errors.Memory
lacking_read caller old mid new is ground tables trail no_spare none few =
    subst (λ (e : EngineSeen). IsRefused caller e new errors.Memory) is
    (subst (λ (e : EngineSeen). IsRefused caller mid e errors.Memory) (sym all) (record {
      goes = record {
        file = record { tree = refl; file = refl; machines = refl; ops = refl };
        call = inl refl;
        of = λ opening of. record {
          began = of.began;
          keeps = of.keeps;
          answers = of.answers;
          synced = λ from last. let s = of.synced from last in record { reached = s.reached; ground = s.ground; disks = s.disks; behind = s.behind };
        };
      };
      tables = record { sides = λ page node. refl; uses = λ node. refl };
      pages = refl;
      why = (refl, few, inl refl);
      spare = same_spare;
    }))
  where
    zero : mid.trail.spare ≡ 0
    zero = by (nat_lt 0 mid.trail.spare) refl
      where
        by : (b : Bool) → nat_lt 0 mid.trail.spare ≡ b → mid.trail.spare ≡ 0
        by true e = absurd (no_spare (grind (arith, nat_tests)))
        by false e = grind (arith, nat_tests)

    same_spare : new.trail.spare ≡ mid.trail.spare
    same_spare = none zero ∙ sym zero

    all : new ≡ record mid { trail = record mid.trail { spare = new.trail.spare; room = new.trail.room } }
    all = ap (λ (s : Seen). record { ground = s; tables = new.tables; trail = new.trail }) ground
        ∙ ap (λ (t : Tables). record { ground = mid.ground; tables = t; trail = new.trail }) tables
        ∙ ap (λ (t : TrailSeen). record { ground = mid.ground; tables = mid.tables; trail = t }) trail
