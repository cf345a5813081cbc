-- A call that a store ended, or want of memory: what is left as it was.
use Rattle.std.proofs.Common.{◌≡◌, inr, ℕ, ◌<◌, List, [], ◌∷◌, ◌++◌, Err, refl, sym, ap, subst, ◌∙◌}
use Rattle.hist_plain.specs.declared.TheConstants.{MAX_EVENTS}
use Rattle.page_ground.specs.Seen.{IsCalm, IsFault, Keeps, ReadsPage, Seen}
use Rattle.tower_core.specs.declared.sheet.Sheet.{Sheet}
use Rattle.layer_laws.specs.Side.{Side}
use Rattle.page_exchange.specs.declared.ground.GroundErr.{GroundErr}
use Rattle.page_exchange.specs.declared.ground.GroundErr.TheVariants as causes
use Rattle.page_exchange.specs.Ground.{IsCalmCall, IsOneCall, UnlessFault}
use Rattle.page_exchange.specs.declared.tables.Tables.{Tables}
use Rattle.page_exchange.specs.Tables.{AreLeft, IsCause, IsSameFile}
use Rattle.tower_log.specs.declared.logged.Logged.{Logged}
use Rattle.tower_log.specs.declared.logged.Logged.TheVariants.{Noted}
use Rattle.tower_log.specs.Log.{entries_of, kept_in, place_of, trail_of}
use Rattle.tower_log.specs.Trail.{TrailSeen}
use Rattle.stack_engine.specs.declared.refusal.StepErr.{StepErr}
use Rattle.stack_engine.specs.declared.refusal.StepErr.TheVariants as errors
use Rattle.stack_engine.specs.Beside.{ReadsGround}
use Rattle.stack_engine.specs.Engine.{EngineSeen, IsEngine, IsSound, NotesRise, events_in, log_in}
use Rattle.stack_engine.specs.Messages.{Refuses}
use Rattle.stack_engine.specs.Moves.{IsRefused}
use Rattle.stack_engine.proofs.Entering.{notes_noted, notes_same, of_left, sheet_left, sound_left}
use Rattle.stack_engine.proofs.Rooms.{refused_room, roomy}
use Rattle.stack_engine.proofs.Logs.{entries_of-noted, kept_in-noted, trail_of-noted}

-- nothing was done but one call of the ground at most
pub record IsUndone (old new : EngineSeen) : Type 0 where
  pub file : IsSameFile old.tables new.tables
  pub left : AreLeft old.tables new.tables
  pub call : IsOneCall old.ground new.ground
  pub pages : new.ground.pages ≡ old.ground.pages

module _ (caller : ℕ) (old new : EngineSeen) (undone : IsUndone old new) (trail : new.trail ≡ old.trail) where
  events_are : events_in new ≡ events_in old
  events_are = ap (λ (t : TrailSeen). trail_of t.log) trail

  pub lacking_engine : (sheet : Sheet) → IsEngine old sheet → IsEngine new sheet
  lacking_engine sheet is = record {
    sound = sound_left old new is.sound undone.file undone.left undone.call undone.pages (ap (λ (t : TrailSeen). t.page_size) trail) events_are
        (subst (λ (log : List Logged). NotesRise new.ground.disks log) (sym (ap (λ (t : TrailSeen). t.log) trail)) (notes_same old.ground new.ground (log_in old) undone.call is.sound.notes))
        (ap (λ (t : TrailSeen). entries_of t.log) trail) (λ page. ap (λ (t : TrailSeen). kept_in page t.log) trail);
    sheet_is = sheet_left old new is.sound undone.file undone.left undone.call undone.pages (ap (λ (t : TrailSeen). t.page_size) trail) events_are sheet is.sheet_is;
  }

  pub lacking_refused : IsSound old → place_of (log_in old) < MAX_EVENTS → IsCalmCall old.ground new.ground → IsRefused caller old new errors.Memory
  lacking_refused sound few calm = record {
    goes = record {
      file = undone.file;
      call = undone.call;
      of = λ opening of. of_left old new sound undone.file undone.left undone.call undone.pages (ap (λ (t : TrailSeen). t.page_size) trail) events_are opening of
          (λ page. ap (λ (t : TrailSeen). kept_in page t.log) trail) (ap (λ (t : TrailSeen). entries_of t.log) trail);
    };
    tables = undone.left;
    pages = undone.pages;
    why = (ap (λ (t : TrailSeen). t.log) trail, few, calm);
    spare = ap (λ (t : TrailSeen). t.spare) trail;
  }

module _ (caller disk count : ℕ) (old new : EngineSeen) (undone : IsUndone old new) (log : log_in new ≡ log_in old ++ Noted (record { caller = caller; disk = disk; count = count }) ∷ []) (size : new.trail.page_size ≡ old.trail.page_size)
    (fault : IsFault old.ground new.ground (record { disk = disk; count = count })) where
  noted_events : events_in new ≡ events_in old
  noted_events = ap trail_of log ∙ trail_of-noted (log_in old) (record { caller = caller; disk = disk; count = count })

  pub noted_engine : (sheet : Sheet) → IsEngine old sheet → IsEngine new sheet
  noted_engine sheet is = record {
    sound = sound_left old new is.sound undone.file undone.left undone.call undone.pages size noted_events
        (subst (λ (l : List Logged). NotesRise new.ground.disks l) (sym log) (notes_noted old.ground new.ground (log_in old) caller disk count undone.call fault is.sound.notes))
        (ap entries_of log ∙ entries_of-noted (log_in old) (record { caller = caller; disk = disk; count = count }))
        (λ page. ap (kept_in page) log ∙ kept_in-noted page (log_in old) (record { caller = caller; disk = disk; count = count }));
    sheet_is = sheet_left old new is.sound undone.file undone.left undone.call undone.pages size noted_events sheet is.sheet_is;
  }

  pub noted_refused : IsSound old → new.trail.spare ≡ old.trail.spare → IsRefused caller old new (errors.StoreFault disk count)
  noted_refused sound spare = record {
    goes = record {
      file = undone.file;
      call = undone.call;
      of = λ opening of. of_left old new sound undone.file undone.left undone.call undone.pages size noted_events opening of
          (λ page. ap (kept_in page) log ∙ kept_in-noted page (log_in old) (record { caller = caller; disk = disk; count = count }))
          (ap entries_of log ∙ entries_of-noted (log_in old) (record { caller = caller; disk = disk; count = count }));
    };
    tables = undone.left;
    pages = undone.pages;
    why = (log, fault);
    spare = spare;
  }

-- WHAT THE GROUND SAID

module _ (caller : ℕ) (old new : EngineSeen) (undone : IsUndone old new) (s : Side) where
  pub ground_engine : (cause : GroundErr) (err : StepErr) → Refuses caller old.trail new.trail cause err → IsCause old.ground new.ground s cause → (sheet : Sheet) → IsEngine old sheet → IsEngine new sheet
  ground_engine (causes.Store fault) err h fails sheet is = noted_engine caller fault.disk fault.count old new undone h.1 (ap (λ (t : TrailSeen). t.page_size) h.2) fails sheet is
  ground_engine causes.Memory err h lacks sheet is = lacking_engine caller old new undone h.1 sheet is

  pub ground_refused : (cause : GroundErr) (err : StepErr) → Refuses caller old.trail new.trail cause err → IsCause old.ground new.ground s cause → IsSound old → place_of (log_in old) < MAX_EVENTS
      → UnlessFault {A = Unit {0}} (Err cause) (IsCalmCall old.ground new.ground) → IsRefused caller old new err
  ground_refused (causes.Store fault) err h fails sound few calm = subst (IsRefused caller old new) (sym h.0) (noted_refused caller fault.disk fault.count old new undone h.1 (ap (λ (t : TrailSeen). t.page_size) h.2) fails sound (ap (λ (t : TrailSeen). t.spare) h.2))
  ground_refused causes.Memory err h lacks sound few calm = subst (IsRefused caller old new) (sym h.0) (lacking_refused caller old new undone h.1 sound few calm)

-- A LOOK AT THE GROUND
pub looked : (caller page : ℕ) (bytes : List ℕ) (old mid new : EngineSeen) (r : ℕ) → mid ≡ roomy old r → IsSound mid → place_of (log_in old) < MAX_EVENTS → Keeps mid.ground new.ground → new.tables ≡ mid.tables → new.trail ≡ mid.trail
    → new.ground.pages ≡ mid.ground.pages → ReadsPage mid.ground.pages page bytes → IsCalm mid.ground new.ground → ReadsGround page bytes old new
looked caller page bytes old mid new r is sound few keeps tables trail pages read calm =
    let undone : IsUndone mid new = record { file = at_same_tables; left = left_tables; call = inr keeps; pages = pages } in
    let refused : IsRefused caller old new errors.Memory = refused_room old mid new r is caller errors.Memory (lacking_refused caller mid new undone trail sound (subst (λ (e : EngineSeen). place_of (log_in e) < MAX_EVENTS) (sym is) few) (inr calm)) in
    let ground : mid.ground ≡ old.ground = ap (λ (e : EngineSeen). e.ground) is in
    record {
      goes = refused.goes;
      tables = tables ∙ ap (λ (e : EngineSeen). e.tables) is;
      log = refused.why.0;
      spare = refused.spare;
      pages = refused.pages;
      read = subst (λ (s : Seen). ReadsPage s.pages page bytes) ground read;
      calm = subst (λ (s : Seen). IsCalm s new.ground) ground calm;
    }
  where
    at_same_tables : IsSameFile mid.tables new.tables
    at_same_tables = subst (λ (t : Tables). IsSameFile mid.tables t) (sym tables) (record { tree = refl; file = refl; machines = refl; ops = refl })

    left_tables : AreLeft mid.tables new.tables
    left_tables = subst (λ (t : Tables). AreLeft mid.tables t) (sym tables) (record { sides = λ page node. refl; uses = λ node. refl })
