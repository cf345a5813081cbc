-- Files whose pages are read before any event: they stay the same files.
use Rattle.std.proofs.Common.{◌≡◌, inl, inr, ℕ, zero, suc, true, ◌+◌, ◌*◌, ◌<◌, ◌≤◌, List, [], ◌∷◌, ◌++◌, length, Option, Some, None, IfSome, refl, sym, ap, subst, ◌∙◌, arith}
use Rattle.std.specs.Prelude.{slice_get, is_some, leb, ltb, ◌&&◌}
use Rattle.std.specs.List.{AllByRecursion}
use Rattle.std.proofs.lemmas.List.{append-nil}
use Rattle.std.proofs.lemmas.Bool.Decides.{nat_tests}
use Rattle.hist_plain.specs.declared.TheConstants.{MAX_EVENTS}
use Rattle.page_exchange.specs.declared.tables.Tables.{Tables}
use Rattle.page_exchange.specs.Tables.{AreLeft}
use Rattle.page_messages.specs.declared.paged.PagedFile.{PagedFile}
use Rattle.hist_lock.specs.Ranges.{Each, may_add}
use Rattle.tower_log.specs.declared.logged.Logged.{Logged}
use Rattle.tower_log.specs.declared.logged.Logged.TheVariants.{Noted}
use Rattle.tower_log.specs.declared.logged.Note.{Note}
use Rattle.tower_log.specs.Log.{place_of, trail_of}
use Rattle.stack_engine.specs.declared.refusal.StepErr.{StepErr}
use Rattle.stack_engine.specs.declared.refusal.StepErr.TheVariants as errors
use Rattle.stack_engine.specs.Beside.{ReadsGround}
use Rattle.stack_engine.specs.Engine.{EngineSeen, IsSound, events_in, file_in, log_in}
use Rattle.stack_engine.specs.Moves.{IsRefused}
use Rattle.stack_engine.specs.Tower.{TowerSeen}
use Rattle.spr_volume.specs.Later.{IsLater}
use Rattle.spr_volume.specs.TowerShared.{by}
use Rattle.spr_volume.specs.Passes.{AreBack, IsBack}
use Rattle.spr_volume.proofs.Laters.{later_refl, later_trans, later_try, noted_by, try_refused}
use Rattle.file_stores.specs.declared.stop.Stop.{Stop}
use Rattle.file_stores.proofs.Lists.{at-last, at-longer, no-item, some-is}
use Rattle.file_stores.specs.declared.stop.Stop.TheVariants as stops
use Rattle.run_files.specs.Beginning.{AreRead, AreTried, AreUnread, IsCut, IsRead, IsTried, IsUnread, no_room, failed}
use Rattle.run_files.specs.Play.{IsUnwritten}

pub every : {A : Type 0} (o : Option A) (P : A → Type 0) → ((x : A) → P x) → IfSome o P
every None P h = tt
every (Some x) P h = h x

pub le-self : (n : ℕ) → n ≤ n
le-self n = omega arith

pub one-more : (k p : ℕ) → (k + 1) * p ≡ k * p + p
one-more k p = grind arith

-- A PAGE WAS READ: the same file, later on
pub read-later : (page : ℕ) (bytes : List ℕ) (old new : EngineSeen) → IsSound old → IsSound new → log_in old ≡ [] → ReadsGround page bytes old new → IsLater old new
read-later page bytes old new sound sound_new none r =
    let tables : AreLeft old.tables new.tables = subst (λ (t : Tables). AreLeft old.tables t) (sym r.tables) (record { sides = λ p n. refl; uses = λ n. refl }) in
    let few : place_of (log_in old) < MAX_EVENTS = subst (λ (l : List Logged). place_of l < MAX_EVENTS) (sym none) (omega arith) in
    later_try (noted_by 0 errors.Memory) old new sound sound_new (try_refused 0 old new errors.Memory (record { goes = r.goes; tables = tables; pages = r.pages; why = (r.log, few, inr r.calm); spare = r.spare }))

-- a page was not read
pub refused-later : (caller : ℕ) (old new : EngineSeen) (err : StepErr) → IsSound old → IsSound new → IsRefused caller old new err → IsLater old new
refused-later caller old new err sound sound_new refused = later_try (noted_by caller err) old new sound sound_new (try_refused caller old new err refused)

own-below : (caller : ℕ) → may_add 0 (suc caller) (Some caller) ≡ true
own-below caller = grind (arith, nat_tests)

-- nothing was added to a log
pub none-added : (end : ℕ) (old new : TowerSeen) → IsLater old.engine new.engine → log_in new.engine ≡ log_in old.engine → IsBack end old new
none-added end old new later log = record { later = later; callers = record { more = []; whole = log ∙ sym (append-nil (log_in old.engine)); callers = tt } }

pub tried-read : (caller : ℕ) (old new : TowerSeen) (bytes : List ℕ) → IsRead old new bytes → IsTried caller old new
tried-read caller old new bytes read = record { back = none-added (suc caller) old new read.later read.log; events = ap trail_of read.log }

pub tried-self : (caller : ℕ) (t : TowerSeen) → IsTried caller t t
tried-self caller t = record { back = none-added (suc caller) t t (later_refl t.engine) refl; events = refl }

pub all-self : (caller : ℕ) (ts : List TowerSeen) → AreTried caller ts ts
all-self caller [] = tt
all-self caller (t ∷ ts) = (tried-self caller t, all-self caller ts)

-- the log of a file without events that was refused a page
pub tried-cut : (caller : ℕ) (old mid new : TowerSeen) (err : StepErr) → IsUnwritten old → IsLater old.engine mid.engine → log_in mid.engine ≡ log_in old.engine → IsSound mid.engine → IsSound new.engine → IsRefused caller mid.engine new.engine err
    → IsTried caller old new × IsCut caller new err
tried-cut caller old mid new err none later log sound sound_new refused = by err refused
  where
    empty : log_in mid.engine ≡ []
    empty = log ∙ none

    all : (err : StepErr) → IsRefused caller mid.engine new.engine err → IsLater old.engine new.engine
    all err refused = later_trans old.engine mid.engine new.engine later (refused-later caller mid.engine new.engine err sound sound_new refused)

    same : (err : StepErr) → IsRefused caller mid.engine new.engine err → log_in new.engine ≡ log_in mid.engine → IsTried caller old new
    same err refused unchanged = record { back = none-added (suc caller) old new (all err refused) (unchanged ∙ log); events = ap trail_of (unchanged ∙ log) }

    by : (err : StepErr) → IsRefused caller mid.engine new.engine err → IsTried caller old new × IsCut caller new err
    by (errors.StoreFault disk count) refused =
        let note : Logged = Noted (record { caller = caller; disk = disk; count = count }) in
        let is : log_in new.engine ≡ note ∷ [] = refused.why.0 ∙ ap (λ (l : List Logged). l ++ note ∷ []) empty in
        let added : log_in new.engine ≡ log_in old.engine ++ note ∷ [] = refused.why.0 ∙ ap (λ (l : List Logged). l ++ note ∷ []) log in (
          record {
            back = record { later = all (errors.StoreFault disk count) refused; callers = record { more = note ∷ []; whole = added; callers = (own-below caller, tt) } };
            events = ap trail_of is ∙ sym (ap trail_of none);
          },
          is,
        )
    by errors.TrailFull refused = absurd (let full = refused.why.1 in let none_here : place_of (log_in mid.engine) ≡ 0 = ap place_of empty in omega (arith, full, none_here))
    by errors.Memory refused = (same errors.Memory refused refused.why.0, tt)

-- THE FILES SO FAR: all were read, or one was not
abbrev pub Beginning : ℕ → List TowerSeen → List TowerSeen → List (List ℕ) → Option Stop → Type 0
Beginning caller olds news bytes None = AreRead olds news bytes
Beginning caller olds news bytes (Some stop) = AreTried caller olds news × AreUnread caller news stop

pub read-more : (olds news : List TowerSeen) (bytes : List (List ℕ)) (old new : TowerSeen) (b : List ℕ) → AreRead olds news bytes → IsRead old new b → AreRead (olds ++ old ∷ []) (news ++ new ∷ []) (bytes ++ b ∷ [])
read-more [] [] [] old new b are is = (is, tt)
read-more (t ∷ ts) (u ∷ us) (c ∷ cs) old new b are is = (are.0, read-more ts us cs old new b are.1 is)
read-more [] [] (c ∷ cs) old new b are is = absurd are
read-more [] (u ∷ us) [] old new b are is = absurd are
read-more [] (u ∷ us) (c ∷ cs) old new b are is = absurd are
read-more (t ∷ ts) [] [] old new b are is = absurd are
read-more (t ∷ ts) [] (c ∷ cs) old new b are is = absurd are
read-more (t ∷ ts) (u ∷ us) [] old new b are is = absurd are

pub tried-more : (caller : ℕ) (olds news : List TowerSeen) (old new : TowerSeen) → AreTried caller olds news → IsTried caller old new → AreTried caller (olds ++ old ∷ []) (news ++ new ∷ [])
tried-more caller [] [] old new are is = (is, tt)
tried-more caller (t ∷ ts) (u ∷ us) old new are is = (are.0, tried-more caller ts us old new are.1 is)
tried-more caller [] (u ∷ us) old new are is = absurd are
tried-more caller (t ∷ ts) [] old new are is = absurd are

pub tried-all : (caller : ℕ) (olds news : List TowerSeen) (bytes : List (List ℕ)) → AreRead olds news bytes → AreTried caller olds news
tried-all caller [] [] [] are = tt
tried-all caller (t ∷ ts) (u ∷ us) (c ∷ cs) are = (tried-read caller t u c are.0, tried-all caller ts us cs are.1)
tried-all caller [] [] (c ∷ cs) are = absurd are
tried-all caller [] (u ∷ us) [] are = absurd are
tried-all caller [] (u ∷ us) (c ∷ cs) are = absurd are
tried-all caller (t ∷ ts) [] [] are = absurd are
tried-all caller (t ∷ ts) [] (c ∷ cs) are = absurd are
tried-all caller (t ∷ ts) (u ∷ us) [] are = absurd are

pub length-tried : (caller : ℕ) (olds news : List TowerSeen) → AreTried caller olds news → length news ≡ length olds
length-tried caller [] [] are = refl
length-tried caller (t ∷ ts) (u ∷ us) are = ap suc (length-tried caller ts us are.1)
length-tried caller [] (u ∷ us) are = absurd are
length-tried caller (t ∷ ts) [] are = absurd are

pub length-read : (olds news : List TowerSeen) (bytes : List (List ℕ)) → AreRead olds news bytes → (length news ≡ length olds) × (length bytes ≡ length olds)
length-read [] [] [] are = (refl, refl)
length-read (t ∷ ts) (u ∷ us) (c ∷ cs) are = let rest = length-read ts us cs are.1 in (ap suc rest.0, ap suc rest.1)
length-read [] [] (c ∷ cs) are = absurd are
length-read [] (u ∷ us) [] are = absurd are
length-read [] (u ∷ us) (c ∷ cs) are = absurd are
length-read (t ∷ ts) [] [] are = absurd are
length-read (t ∷ ts) [] (c ∷ cs) are = absurd are
length-read (t ∷ ts) (u ∷ us) [] are = absurd are

pub unwritten-at : (ts : List TowerSeen) (k : ℕ) (t : TowerSeen) → AllByRecursion IsUnwritten ts → slice_get ts k ≡ Some t → IsUnwritten t
unwritten-at [] k t all is = absurd (no-item k t is)
unwritten-at (x ∷ ts) zero t all is = subst IsUnwritten (some-is x t is) all.0
unwritten-at (x ∷ ts) (suc k) t all is = unwritten-at ts k t all.1 is

-- all files so far, with one more that was read
pub begun-next : (caller : ℕ) (olds news : List TowerSeen) (bytes : List (List ℕ)) (stopped : Option Stop) (old new : TowerSeen) (b : List ℕ) → stopped ≡ None → Beginning caller olds news bytes stopped → IsRead old new b
    → Beginning caller (olds ++ old ∷ []) (news ++ new ∷ []) (bytes ++ b ∷ []) stopped
begun-next caller olds news bytes None old new b none are is = read-more olds news bytes old new b are is
begun-next caller olds news bytes (Some stop) old new b none are is = absurd cc

-- with one that was not
pub begun-stops : (caller : ℕ) (olds news : List TowerSeen) (bytes : List (List ℕ)) (stopped : Option Stop) (old new : TowerSeen) (stop : Stop) → stopped ≡ None → Beginning caller olds news bytes stopped → IsTried caller old new → IsUnread caller new stop
    → Beginning caller (olds ++ old ∷ []) (news ++ new ∷ []) bytes (Some stop)
begun-stops caller olds news bytes None old new stop none are tried why =
    (tried-more caller olds news old new (tried-all caller olds news bytes are) tried, record { at = length news; new = new; there = at-last news new; why = why })
begun-stops caller olds news bytes (Some was) old new stop none are tried why = absurd cc

-- with one that is left as it was
pub begun-left : (caller : ℕ) (olds news : List TowerSeen) (bytes : List (List ℕ)) (stopped : Option Stop) (t : TowerSeen) → (stopped ≡ None → ⊥) → Beginning caller olds news bytes stopped
    → Beginning caller (olds ++ t ∷ []) (news ++ t ∷ []) bytes stopped
begun-left caller olds news bytes None t some are = absurd (some refl)
begun-left caller olds news bytes (Some stop) t some are =
    (tried-more caller olds news t t are.0 (tried-self caller t), record { at = are.1.at; new = are.1.new; there = at-longer news (t ∷ []) are.1.at are.1.new are.1.there; why = are.1.why })

pub begun-tried : (caller : ℕ) (olds news : List TowerSeen) (bytes : List (List ℕ)) (stopped : Option Stop) → Beginning caller olds news bytes stopped → AreTried caller olds news
begun-tried caller olds news bytes None are = tried-all caller olds news bytes are
begun-tried caller olds news bytes (Some stop) are = are.0

-- THE FILES CAME BACK from a volume that they were handed to when they were read
pub back-since : (end : ℕ) (olds mids news : List TowerSeen) (bytes : List (List ℕ)) → AreRead olds mids bytes → AreBack end mids news → AreBack end olds news
back-since end [] [] [] [] are back = tt
back-since end [] [] (n ∷ ns) [] are back = absurd back
back-since end (t ∷ ts) (u ∷ us) [] (b ∷ bs) are back = absurd back
back-since end (t ∷ ts) (u ∷ us) (n ∷ ns) (b ∷ bs) are back = (
  record {
    later = later_trans t.engine u.engine n.engine are.0.later back.0.later;
    callers = record { more = back.0.callers.more; whole = back.0.callers.whole ∙ ap (λ (l : List Logged). l ++ back.0.callers.more) are.0.log; callers = back.0.callers.callers };
  },
  back-since end ts us ns bs are.1 back.1,
)
back-since end [] [] news (b ∷ bs) are back = absurd are
back-since end [] (u ∷ us) news [] are back = absurd are
back-since end [] (u ∷ us) news (b ∷ bs) are back = absurd are
back-since end (t ∷ ts) [] news [] are back = absurd are
back-since end (t ∷ ts) [] news (b ∷ bs) are back = absurd are
back-since end (t ∷ ts) (u ∷ us) news [] are back = absurd are

-- or they were only tried
pub back-tried : (caller : ℕ) (olds news : List TowerSeen) → AreTried caller olds news → AreBack (suc caller) olds news
back-tried caller [] [] are = tt
back-tried caller (t ∷ ts) (u ∷ us) are = (are.0.back, back-tried caller ts us are.1)
back-tried caller [] (u ∷ us) are = absurd are
back-tried caller (t ∷ ts) [] are = absurd are
