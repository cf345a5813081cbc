-- What an access of a replicon object says of its doors.
use Rattle.std.proofs.Common.{◌≡◌, ◌⊎◌, inl, inr, ℕ, List, [], ◌∷◌, ◌++◌, Bool, true, false, cond, Option, Some, None, refl, sym, ap, subst, ◌∙◌}
use Rattle.std.specs.Prelude.{IsSome, find}
use Rattle.std.specs.Option.{option_map}
use Rattle.std.specs.Str.{bytes_eq}
use Rattle.hist_plain.specs.declared.event.Answer.{Answer}
use Rattle.hist_plain.specs.declared.event.Answer.TheVariants as answers
use Rattle.hist_plain.specs.declared.event.Op.{Op}
use Rattle.hist_plain.specs.Event.{fits_page}
use Rattle.hist_plain.specs.History.{Entry}
use Rattle.hist_plain.specs.Plain.{Told}
use Rattle.script_text.specs.declared.script.Reply.{Reply}
use Rattle.script_text.specs.declared.script.Reply.TheVariants as replies
use Rattle.stack_accept.specs.Mount.{Mount}
use Rattle.link_lossy.specs.Carriers.{CarrierSeen}
use Rattle.client_objects.specs.declared.state.ClientState.{ClientState}
use Rattle.client_objects.specs.declared.target.Target.{Target}
use Rattle.client_replicas.specs.declared.door.OpenDoor.{OpenDoor}
use Rattle.client_replicas.specs.declared.replicas.OpenReplicon.{OpenReplicon}
use Rattle.client_replicas.specs.Objects.{doors_of, with_doors}
use Rattle.client_replicas.proofs.NamedLaws.{doors_of-with_doors}
use Rattle.script_meaning.specs.Stack.{pages_of}
use Rattle.script_meaning.specs.Log.{IsFull, entered, noted}
use Rattle.script_meaning.specs.Plan.{Asks, Goes, Hears, Made, Plan, Refuses, RefusesOver, Request, Unmade, access, at_file, by_door, calls, comes, ends, heard, is_revoked, lost_reply, over, plan_by_doors, plan_next, plan_try, replicating, reply_of, sent, trial_of, with_names}
use Rattle.script_meaning.specs.Doors.{Drops, DropsOver, EachIsTold, EachOver, FirstOver, IsLink, IsOver, RevokedByEach, ToldOver}

-- an access whose reply came, and what the line did then
record Answered (Full : ℕ → Type 0) (caller : ℕ) (request : Request) (state : ClientState) (go : Told → Plan) (made : List Made) (said : Reply) (left : ClientState) : Type 0 where
  file : ℕ
  e : Entry
  rest : List Made
  made_is : made ≡ at_file file (entered e) ∷ rest
  file_is : file ≡ request.file
  asks : Asks caller request.ask e.event
  told : Told
  told_is : e.told ≡ Some told
  goes : Goes Full caller (go told) rest said left

-- what was made was lost, or is no access that was answered
abbrev IsNone : Made → Reply → Type 0
IsNone m said = IsLink said ⊎ ((caller : ℕ) (op : Op) (door : OpenDoor) (n : ℕ) → IsOver caller op door m n → ⊥)

-- the line ended
record Stops (state : ClientState) (made : List Made) (said : Reply) (left : ClientState) : Type 0 where
  other : (n : ℕ) → said ≡ replies.Revoked n → ⊥
  kept : left.replicas ≡ state.replicas
  none : (made ≡ []) ⊎ ((m : Made) × (made ≡ m ∷ []) × IsNone m said)

refuses_kept : (c : CarrierSeen) (Full : Type 0) (request : Request) (state : ClientState) (said : Reply) (left : ClientState) → RefusesOver c Full request state said left → left.replicas ≡ state.replicas
refuses_kept c Full request state (replies.Link count) left h = ap (λ (s : ClientState). s.replicas) h.2
refuses_kept c Full request state replies.TrailFull left h = ap (λ (s : ClientState). s.replicas) h.2
refuses_kept c Full request state replies.Memory left (inl same) = ap (λ (s : ClientState). s.replicas) same
refuses_kept c Full request state replies.Memory left (inr (after, starves, same)) = ap (λ (s : ClientState). s.replicas) same
refuses_kept c Full request state _ left h = absurd h

unmade_stops : (o : Option CarrierSeen) (Full : Type 0) (request : Request) (state : ClientState) (said : Reply) (left : ClientState) → Unmade o Full request state said left → Stops state [] said left
unmade_stops None Full request state said left h = record {
  other = λ n e. subst (λ (r : Reply). Refuses Full r) e h.0;
  kept = ap (λ (s : ClientState). s.replicas) h.1;
  none = inl refl;
}
unmade_stops (Some c) Full request state said left h = record {
  other = λ n e. subst (λ (r : Reply). RefusesOver c Full request state r left) e h;
  kept = refuses_kept c Full request state said left h;
  none = inl refl;
}

lost_other : (o : Option CarrierSeen) (n : ℕ) → lost_reply o ≡ replies.Revoked n → ⊥
lost_other None n e = absurd cc
lost_other (Some c) n e = absurd cc

lost_link : (o : Option CarrierSeen) → comes o ≡ false → IsLink (lost_reply o)
lost_link None e = absurd cc
lost_link (Some c) e = tt

heard_other : (b : Bool) (o : Option CarrierSeen) (disk count n : ℕ) → cond b (replies.Store disk count) (lost_reply o) ≡ replies.Revoked n → ⊥
heard_other true o disk count n e = absurd cc
heard_other false o disk count n e = lost_other o n e

module _ (Full : ℕ → Type 0) (caller : ℕ) (request : Request) (state : ClientState) (go : Told → Plan) where
  heard_by : (b : Bool) (file : ℕ) (e : Entry) (rest : List Made) (said : Reply) (left : ClientState) (told : Told) → comes (over request state) ≡ b → file ≡ request.file → Asks caller request.ask e.event → e.told ≡ Some told
      → Hears b (Goes Full caller (go told) rest said left) ((rest ≡ []) × (said ≡ lost_reply (over request state)) × (left ≡ sent request state))
      → Answered Full caller request state go (at_file file (entered e) ∷ rest) said left ⊎ Stops state (at_file file (entered e) ∷ rest) said left
  heard_by true file e rest said left told came same asks is h = inl (record { file = file; e = e; rest = rest; made_is = refl; file_is = same; asks = asks; told = told; told_is = is; goes = h })
  heard_by false file e rest said left told came same asks is h = inr (record {
    other = λ n r. lost_other (over request state) n (sym h.1 ∙ r);
    kept = ap (λ (s : ClientState). s.replicas) h.2;
    none = inr (at_file file (entered e), ap (λ (ms : List Made). at_file file (entered e) ∷ ms) h.0, inl (subst IsLink (sym h.1) (lost_link (over request state) came)));
  })

  called : (made : List Made) (said : Reply) (left : ClientState) → Goes Full caller (calls request state go) made said left → Answered Full caller request state go made said left ⊎ Stops state made said left
  called [] said left h = inr (unmade_stops (over request state) (Full request.file) request state said left h)
  called (at_file file (entered e) ∷ rest) said left h = heard_by (comes (over request state)) file e rest said left h.1.1.0 refl h.0 h.1.0 h.1.1.1 h.1.1.2
  called (at_file file (noted by disk count) ∷ rest) said left h = inr (record {
    other = λ n r. heard_other (comes (over request state)) (over request state) disk count n (sym h.1.1.1 ∙ r);
    kept = ap (λ (s : ClientState). s.replicas) h.1.1.2;
    none = inr (at_file file (noted by disk count), ap (λ (ms : List Made). at_file file (noted by disk count) ∷ ms) h.1.1.0, inr (λ c op door n is. is));
  })
  called (with_names item ∷ rest) said left h = absurd h

  tested : (b : Bool) (made : List Made) (said : Reply) (left : ClientState) → Goes Full caller (cond b (calls request state go) (ends replies.NotOnePage state)) made said left → Answered Full caller request state go made said left ⊎ Stops state made said left
  tested true made said left h = called made said left h
  tested false [] said left h = inr (record {
    other = λ n r. (let never = sym h.0 ∙ r in absurd cc);
    kept = ap (λ (s : ClientState). s.replicas) h.1;
    none = inl refl;
  })
  tested false (m ∷ made) said left h = absurd h

-- one access by a door
tried : (Full : ℕ → Type 0) (caller : ℕ) (mount : Mount) (op : Op) (go_on : ClientState → Told → Plan) (state : ClientState) (target : Target) (made : List Made) (said : Reply) (left : ClientState) → Goes Full caller (plan_try mount op go_on state target) made said left
    → Answered Full caller (trial_of mount state target op) state (go_on (sent (trial_of mount state target op) state)) made said left ⊎ Stops state made said left
tried Full caller mount op go_on state target made said left h =
    tested Full caller (trial_of mount state target op) state (go_on (sent (trial_of mount state target op) state)) (fits_page mount.page_size (pages_of mount target.file) op) made said left h

-- an answer that tells of a life that is over
over_is : (told : Told) (n : ℕ) → reply_of told ≡ replies.Revoked n → told.answer ≡ answers.Revoked n
over_is told n e = by told.answer told.bytes e
  where
    by : (answer : Answer) (bytes : List ℕ) → reply_of (record { answer = answer; bytes = bytes }) ≡ replies.Revoked n → answer ≡ answers.Revoked n
    by answers.Bytes bytes e = absurd cc
    by answers.Done bytes e = absurd cc
    by (answers.Life life) bytes e = absurd cc
    by (answers.Revoked life) bytes e = cc

revoked_is : (told : Told) → is_revoked told.answer ≡ true → (k : ℕ) × (told.answer ≡ answers.Revoked k)
revoked_is told e = by told.answer e
  where
    by : (answer : Answer) → is_revoked answer ≡ true → (k : ℕ) × (answer ≡ answers.Revoked k)
    by answers.Bytes e = absurd cc
    by answers.Done e = absurd cc
    by (answers.Life life) e = absurd cc
    by (answers.Revoked life) e = (life, refl)

said_over : (told : Told) (n : ℕ) → told.answer ≡ answers.Revoked n → reply_of told ≡ replies.Revoked n
said_over told n e = ap (λ (a : Answer). reply_of (record { answer = a; bytes = told.bytes })) e

over_flag : (answer : Answer) (n : ℕ) → answer ≡ answers.Revoked n → is_revoked answer ≡ true
over_flag answer n e = ap is_revoked e

-- the end of a line, where no call was made behind
ended_said : (Full : ℕ → Type 0) (caller : ℕ) (reply : Reply) (state : ClientState) (made : List Made) (said : Reply) (left : ClientState) → Goes Full caller (ends reply state) made said left → (made ≡ []) × (said ≡ reply) × (left ≡ state)
ended_said Full caller reply state [] said left h = (refl, h.0, h.1)
ended_said Full caller reply state (m ∷ made) said left h = absurd h

is_over : (Full : ℕ → Type 0) (caller : ℕ) (mount : Mount) (state : ClientState) (op : Op) (door : OpenDoor) (go : Told → Plan) (made : List Made) (said : Reply) (left : ClientState) (a : Answered Full caller (trial_of mount state (by_door door) op) state go made said left) (n : ℕ)
    → a.told.answer ≡ answers.Revoked n → IsOver caller op door (at_file a.file (entered a.e)) n
is_over Full caller mount state op door go made said left a n e = (a.file_is, a.asks, record { told = a.told; is = a.told_is; over = e })

split_on : (b : Bool) (Full : ℕ → Type 0) (caller : ℕ) (p q : Plan) (made : List Made) (said : Reply) (left : ClientState) → Goes Full caller (cond b p q) made said left → ((b ≡ true) × Goes Full caller p made said left) ⊎ ((b ≡ false) × Goes Full caller q made said left)
split_on true Full caller p q made said left h = inl (refl, h)
split_on false Full caller p q made said left h = inr (refl, h)

by_each : (Full : ℕ → Type 0) (caller : ℕ) (mount : Mount) (name : List ℕ) (op : Op) (more : List OpenDoor) (door : OpenDoor) (state left : ClientState) (made : List Made) (n : ℕ)
    → Goes Full caller (plan_try mount op (plan_next mount name op more) state (by_door door)) made (replies.Revoked n) left → EachOver caller op (door ∷ more) made n
by_each Full caller mount name op [] door state left made n h = by (tried Full caller mount op (plan_next mount name op []) state (by_door door) made (replies.Revoked n) left h)
  where
    request : Request
    request = trial_of mount state (by_door door) op

    by : Answered Full caller request state (plan_next mount name op [] (sent request state)) made (replies.Revoked n) left ⊎ Stops state made (replies.Revoked n) left → EachOver caller op (door ∷ []) made n
    by (inl a) =
        let end = ended_said Full caller (reply_of a.told) (sent request state) a.rest (replies.Revoked n) left a.goes in
        let over = over_is a.told n (sym end.1) in
        subst (λ (ms : List Made). EachOver caller op (door ∷ []) ms n) (sym (a.made_is ∙ ap (λ (ms : List Made). at_file a.file (entered a.e) ∷ ms) end.0))
        (is_over Full caller mount state op door (plan_next mount name op [] (sent request state)) made (replies.Revoked n) left a n over)
    by (inr s) = absurd (s.other n refl)
by_each Full caller mount name op (next ∷ more) door state left made n h =
    by (λ at rest goes. by_each Full caller mount name op more next at left rest n goes) (tried Full caller mount op (plan_next mount name op (next ∷ more)) state (by_door door) made (replies.Revoked n) left h)
  where
    request : Request
    request = trial_of mount state (by_door door) op

    after : ClientState
    after = sent request state

    then_state : ClientState
    then_state = replicating after (with_doors name (next ∷ more) after.replicas)

    by : ((at : ClientState) (rest : List Made) → Goes Full caller (plan_try mount op (plan_next mount name op more) at (by_door next)) rest (replies.Revoked n) left → EachOver caller op (next ∷ more) rest n)
        → Answered Full caller request state (plan_next mount name op (next ∷ more) after) made (replies.Revoked n) left ⊎ Stops state made (replies.Revoked n) left → EachOver caller op (door ∷ next ∷ more) made n
    by further (inr s) = absurd (s.other n refl)
    by further (inl a) =
        elim (split_on (is_revoked a.told.answer) Full caller (plan_try mount op (plan_next mount name op more) then_state (by_door next)) (ends (reply_of a.told) after) a.rest (replies.Revoked n) left a.goes) [
          | inl both ↦
              let k = revoked_is a.told both.0 in
              subst (λ (ms : List Made). EachOver caller op (door ∷ next ∷ more) ms n) (sym a.made_is)
              ((k.0, is_over Full caller mount state op door (plan_next mount name op (next ∷ more) after) made (replies.Revoked n) left a k.0 k.1), further then_state a.rest both.1)
          | inr both ↦
              let end = ended_said Full caller (reply_of a.told) after a.rest (replies.Revoked n) left both.1 in
              let over = over_is a.told n (sym end.1) in
              let never : true ≡ false = sym (over_flag a.told.answer n over) ∙ both.0 in
              absurd cc
        ]

pub revoked-by_each : RevokedByEach
revoked-by_each new caller mount state left name op door more made n h = by_each (IsFull new) caller mount name op more door state left made n h

-- what was told is one answer
same_told : (e : Entry) (a b : Told) → e.told ≡ Some a → e.told ≡ Some b → a ≡ b
same_told e a b is was = let both : ◌≡◌ {A = Option Told} (Some a) (Some b) = sym is ∙ was in cc

none_made : (caller : ℕ) (op : Op) (doors : List OpenDoor) (n : ℕ) → EachOver caller op doors [] n → ⊥
none_made caller op [] n h = h
none_made caller op (door ∷ []) n h = h
none_made caller op (door ∷ next ∷ doors) n h = h

told_over : (Full : ℕ → Type 0) (caller : ℕ) (mount : Mount) (state : ClientState) (op : Op) (door : OpenDoor) (go : Told → Plan) (made : List Made) (said : Reply) (left : ClientState) (a : Answered Full caller (trial_of mount state (by_door door) op) state go made said left) (n : ℕ)
    → IsOver caller op door (at_file a.file (entered a.e)) n → a.told.answer ≡ answers.Revoked n
told_over Full caller mount state op door go made said left a n h = ap (λ (t : Told). t.answer) (same_told a.e a.told h.2.told a.told_is h.2.is) ∙ h.2.over

each_told : (Full : ℕ → Type 0) (caller : ℕ) (mount : Mount) (name : List ℕ) (op : Op) (more : List OpenDoor) (door : OpenDoor) (state left : ClientState) (made : List Made) (said : Reply) (n : ℕ)
    → Goes Full caller (plan_try mount op (plan_next mount name op more) state (by_door door)) made said left → EachOver caller op (door ∷ more) made n → (said ≡ replies.Revoked n) ⊎ IsLink said
each_told Full caller mount name op [] door state left made said n h each = by (tried Full caller mount op (plan_next mount name op []) state (by_door door) made said left h)
  where
    request : Request
    request = trial_of mount state (by_door door) op

    by : Answered Full caller request state (plan_next mount name op [] (sent request state)) made said left ⊎ Stops state made said left → (said ≡ replies.Revoked n) ⊎ IsLink said
    by (inl a) =
        let end = ended_said Full caller (reply_of a.told) (sent request state) a.rest said left a.goes in
        let one = subst (λ (ms : List Made). EachOver caller op (door ∷ []) ms n) (a.made_is ∙ ap (λ (ms : List Made). at_file a.file (entered a.e) ∷ ms) end.0) each in
        inl (end.1 ∙ said_over a.told n (told_over Full caller mount state op door (plan_next mount name op [] (sent request state)) made said left a n one))
    by (inr s) = stopped s.none
      where
        stopped : (made ≡ []) ⊎ ((m : Made) × (made ≡ m ∷ []) × IsNone m said) → (said ≡ replies.Revoked n) ⊎ IsLink said
        stopped (inl none) = absurd (none_made caller op (door ∷ []) n (subst (λ (ms : List Made). EachOver caller op (door ∷ []) ms n) none each))
        stopped (inr (m, is, inl link)) = inr link
        stopped (inr (m, is, inr not)) = absurd (not caller op door n (subst (λ (ms : List Made). EachOver caller op (door ∷ []) ms n) is each))
each_told Full caller mount name op (next ∷ more) door state left made said n h each =
    by (λ at rest goes over. each_told Full caller mount name op more next at left rest said n goes over) (tried Full caller mount op (plan_next mount name op (next ∷ more)) state (by_door door) made said left h)
  where
    request : Request
    request = trial_of mount state (by_door door) op

    after : ClientState
    after = sent request state

    then_state : ClientState
    then_state = replicating after (with_doors name (next ∷ more) after.replicas)

    stopped : (made ≡ []) ⊎ ((m : Made) × (made ≡ m ∷ []) × IsNone m said) → (said ≡ replies.Revoked n) ⊎ IsLink said
    stopped (inl none) = absurd (none_made caller op (door ∷ next ∷ more) n (subst (λ (ms : List Made). EachOver caller op (door ∷ next ∷ more) ms n) none each))
    stopped (inr (m, is, none)) = absurd (none_made caller op (next ∷ more) n (subst (λ (ms : List Made). EachOver caller op (door ∷ next ∷ more) ms n) is each).1)

    by : ((at : ClientState) (rest : List Made) → Goes Full caller (plan_try mount op (plan_next mount name op more) at (by_door next)) rest said left → EachOver caller op (next ∷ more) rest n → (said ≡ replies.Revoked n) ⊎ IsLink said)
        → Answered Full caller request state (plan_next mount name op (next ∷ more) after) made said left ⊎ Stops state made said left → (said ≡ replies.Revoked n) ⊎ IsLink said
    by further (inr s) = stopped s.none
    by further (inl a) =
        let two = subst (λ (ms : List Made). EachOver caller op (door ∷ next ∷ more) ms n) a.made_is each in
        let over = told_over Full caller mount state op door (plan_next mount name op (next ∷ more) after) made said left a two.0.0 two.0.1 in
        elim (split_on (is_revoked a.told.answer) Full caller (plan_try mount op (plan_next mount name op more) then_state (by_door next)) (ends (reply_of a.told) after) a.rest said left a.goes) [
          | inl both ↦ further then_state a.rest both.1 two.1
          | inr both ↦ let never : true ≡ false = sym (over_flag a.told.answer two.0.0 over) ∙ both.0 in absurd cc
        ]

pub each-is_told : EachIsTold
each-is_told new caller mount state left name op door more made said n h each = each_told (IsFull new) caller mount name op more door state left made said n h each

-- which doors are dropped
keeps_all : (caller : ℕ) (op : Op) (name : List ℕ) (doors : List OpenDoor) (made : List Made) (state left : ClientState) → doors_of name state.replicas ≡ Some doors → left.replicas ≡ state.replicas → Drops caller op name doors made left
keeps_all caller op name doors made state left has same = record {
  dropped = [];
  kept = doors;
  parts = refl;
  has = ap (λ (rs : List OpenReplicon). doors_of name rs) same ∙ has;
  over = tt;
}

drops : (Full : ℕ → Type 0) (caller : ℕ) (mount : Mount) (name : List ℕ) (op : Op) (more : List OpenDoor) (door : OpenDoor) (state left : ClientState) (made : List Made) (said : Reply)
    → doors_of name state.replicas ≡ Some (door ∷ more) → Goes Full caller (plan_try mount op (plan_next mount name op more) state (by_door door)) made said left → Drops caller op name (door ∷ more) made left
drops Full caller mount name op [] door state left made said has h = by (tried Full caller mount op (plan_next mount name op []) state (by_door door) made said left h)
  where
    request : Request
    request = trial_of mount state (by_door door) op

    by : Answered Full caller request state (plan_next mount name op [] (sent request state)) made said left ⊎ Stops state made said left → Drops caller op name (door ∷ []) made left
    by (inl a) = keeps_all caller op name (door ∷ []) made state left has (ap (λ (s : ClientState). s.replicas) (ended_said Full caller (reply_of a.told) (sent request state) a.rest said left a.goes).2)
    by (inr s) = keeps_all caller op name (door ∷ []) made state left has s.kept
drops Full caller mount name op (next ∷ more) door state left made said has h =
    by (λ at rest there goes. drops Full caller mount name op more next at left rest said there goes) (tried Full caller mount op (plan_next mount name op (next ∷ more)) state (by_door door) made said left h)
  where
    request : Request
    request = trial_of mount state (by_door door) op

    after : ClientState
    after = sent request state

    then_state : ClientState
    then_state = replicating after (with_doors name (next ∷ more) after.replicas)

    there : IsSome (doors_of name state.replicas)
    there = rw has refl

    by : ((at : ClientState) (rest : List Made) → doors_of name at.replicas ≡ Some (next ∷ more) → Goes Full caller (plan_try mount op (plan_next mount name op more) at (by_door next)) rest said left → Drops caller op name (next ∷ more) rest left)
        → Answered Full caller request state (plan_next mount name op (next ∷ more) after) made said left ⊎ Stops state made said left → Drops caller op name (door ∷ next ∷ more) made left
    by further (inr s) = keeps_all caller op name (door ∷ next ∷ more) made state left has s.kept
    by further (inl a) =
        elim (split_on (is_revoked a.told.answer) Full caller (plan_try mount op (plan_next mount name op more) then_state (by_door next)) (ends (reply_of a.told) after) a.rest said left a.goes) [
          | inl both ↦
              let k = revoked_is a.told both.0 in
              let rest = further then_state a.rest (doors_of-with_doors name (next ∷ more) state.replicas there) both.1 in
              record {
                dropped = door ∷ rest.dropped;
                kept = rest.kept;
                parts = ap (λ (ds : List OpenDoor). door ∷ ds) rest.parts;
                has = rest.has;
                over = subst (λ (ms : List Made). FirstOver caller op (door ∷ rest.dropped) ms) (sym a.made_is)
                    ((k.0, is_over Full caller mount state op door (plan_next mount name op (next ∷ more) after) made said left a k.0 k.1), rest.over);
              }
          | inr both ↦ keeps_all caller op name (door ∷ next ∷ more) made state left has (ap (λ (s : ClientState). s.replicas) (ended_said Full caller (reply_of a.told) after a.rest said left both.1).2)
        ]

pub drops-over : DropsOver
drops-over new caller mount state left name op door more made said has h = drops (IsFull new) caller mount name op more door state left made said has h
