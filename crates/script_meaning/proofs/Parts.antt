-- How what a caller did is put together.
use Rattle.std.proofs.Common.{◌≡◌, ℕ, suc, ◌+◌, ◌≤◌, ◌<◌, ◌==◌, Bool, true, false, cond, List, [], ◌∷◌, ◌++◌, length, map, Option, Some, None, refl, sym, ap, subst, ◌∙◌, arith, append_assoc, inl, inr, ⊎_elim}
use Rattle.std.specs.List.{flat_map}
use Rattle.std.specs.Option.{option_map}
use Rattle.std.proofs.lemmas.List.{append-nil, map-append}
use Rattle.std.proofs.lemmas.Grind.{flat_map-append}
use Rattle.hist_plain.specs.declared.event.Event.{Event}
use Rattle.hist_plain.specs.declared.event.Event.TheVariants as events
use Rattle.hist_plain.specs.Plain.{Told}
use Rattle.hist_plain.specs.History.{Entry, is_by}
use Rattle.script_text.specs.declared.script.CallLine.{CallLine}
use Rattle.script_text.specs.declared.script.Said.{Said}
use Rattle.script_text.specs.declared.script.Reply.{Reply}
use Rattle.script_text.specs.declared.script.Reply.TheVariants as replies
use Rattle.tower_log.specs.declared.logged.Logged.{Logged}
use Rattle.tower_log.specs.declared.logged.Logged.TheVariants.{Entered, Noted}
use Rattle.tower_log.specs.Log.{trail_of, place_of}
use Rattle.stack_accept.specs.Mount.{Mount}
use Rattle.name_context.specs.declared.entry.NameEntry.{NameEntry}
use Rattle.name_context.specs.History.{NamesSeen}
use Rattle.script_meaning.specs.Log.{Histories, items_from, items, Item, NameItem, entered, noted, who, by_caller, name_items, names_by, log_at, IsFull}
use Rattle.client_objects.specs.declared.state.ClientState.{ClientState}
use Rattle.link_lossy.specs.Carriers.{CarrierSeen, Starves, after_call, is_lost_by, losses}
use Rattle.script_meaning.specs.Plan.{Plan, ends, calls, asks_names, unknown, Request, Ask, NamesAsk, NamesTold, Made, at_file, with_names, Makes, Asks, AsksNames, Hears, Unmade, carrying, comes, heard, lost_reply, over, sent, told_names, Goes, Refuses, RefusesOver, plan}
use Rattle.script_meaning.specs.Fits.{made_on, made_with_names, SyncsFrom, SyncsInOrder, GoesOn, NamesGoOn, AllGoOn, Did, Gone, Went, Worked, Phased, Does, Line, Acts, InOrder, last_cut, lines_of, IsAnswered}
use Rattle.script_meaning.proofs.Logs.{length-trail_of-append}

pub goes_on_same : (h k : List Logged) → k ≡ h → GoesOn h k
goes_on_same h k e = record { more = []; log = e ∙ sym (append-nil h) }

pub goes_on_then : (a b c : List Logged) → GoesOn a b → GoesOn b c → GoesOn a c
goes_on_then a b c f g = record {
  more = f.more ++ g.more;
  log = g.log ∙ (ap (λ (l : List Logged). l ++ g.more) f.log ∙ append_assoc a f.more g.more);
}

pub place_later : (a b : List Logged) → GoesOn a b → place_of a ≤ place_of b
place_later a b g =
    let e : length (trail_of b) ≡ length (trail_of a) + length (trail_of g.more) = ap (λ (l : List Logged). length (trail_of l)) g.log ∙ length-trail_of-append a g.more in
    omega arith

pub names_go_on_same : (m n : NamesSeen) → n ≡ m → NamesGoOn m n
names_go_on_same m n e = record {
  more = [];
  began = ap (λ (s : NamesSeen). s.began) e;
  history = ap (λ (s : NamesSeen). s.history) e ∙ sym (append-nil m.history);
}

pub names_go_on_then : (a b c : NamesSeen) → NamesGoOn a b → NamesGoOn b c → NamesGoOn a c
names_go_on_then a b c f g = record {
  more = f.more ++ g.more;
  began = g.began ∙ f.began;
  history = g.history ∙ (ap (λ (l : List NameEntry). l ++ g.more) f.history ∙ append_assoc a.history f.more g.more);
}

pub all_go_on_same : (old new : Histories) → new ≡ old → AllGoOn old new
all_go_on_same old new e = record {
  logs = λ file. goes_on_same (log_at old file) (log_at new file) (ap (λ (h : Histories). log_at h file) e);
  names = names_go_on_same old.names new.names (ap (λ (h : Histories). h.names) e);
}

pub all_go_on_then : (a b c : Histories) → AllGoOn a b → AllGoOn b c → AllGoOn a c
all_go_on_then a b c f g = record {
  logs = λ file. goes_on_then (log_at a file) (log_at b file) (log_at c file) (f.logs file) (g.logs file);
  names = names_go_on_then a.names b.names c.names f.names g.names;
}

pub full_later : (old new : Histories) → AllGoOn old new → (file : ℕ) → IsFull old file → IsFull new file
full_later old new g file full = let e = place_later (log_at old file) (log_at new file) (g.logs file) in omega arith

pub made_on-append : (file : ℕ) (xs ys : List Made) → made_on file (xs ++ ys) ≡ made_on file xs ++ made_on file ys
made_on-append file [] ys = refl
made_on-append file (at_file at item ∷ xs) ys = let here : List Item = cond (at == file) (item ∷ []) [] in
    ap (λ (is : List Item). here ++ is) (made_on-append file xs ys) ∙ sym (append_assoc here (made_on file xs) (made_on file ys))
made_on-append file (with_names item ∷ xs) ys = made_on-append file xs ys

pub made_with_names-append : (xs ys : List Made) → made_with_names (xs ++ ys) ≡ made_with_names xs ++ made_with_names ys
made_with_names-append [] ys = refl
made_with_names-append (at_file at item ∷ xs) ys = made_with_names-append xs ys
made_with_names-append (with_names item ∷ xs) ys = ap (λ (is : List NameItem). item ∷ is) (made_with_names-append xs ys)

-- each entry stands before this place
abbrev Before : ℕ → List Item → Type 0
Before n [] = Unit {0}
Before n (entered e ∷ is) = (e.place < n) × Before n is
Before n (noted caller disk count ∷ is) = Before n is

before_items : (place n : ℕ) (log : List Logged) → place + length (trail_of log) ≤ n → Before n (items_from place log)
before_items place n [] le = tt
before_items place n (Entered entry ∷ log) le = (omega arith, before_items (suc place) n log (omega arith))
before_items place n (Noted note ∷ log) le = before_items place n log le

before_cond : (n : ℕ) (b : Bool) (i : Item) (is : List Item) → Before n (i ∷ []) → Before n is → Before n (cond b (i ∷ is) is)
before_cond n true (entered e) is h t = (h.0, t)
before_cond n true (noted caller disk count) is h t = t
before_cond n false i is h t = t

before_by : (n c : ℕ) (is : List Item) → Before n is → Before n (by_caller c is)
before_by n c [] h = tt
before_by n c (entered e ∷ is) h = before_cond n (is_by c (who (entered e))) (entered e) (by_caller c is) (h.0, tt) (before_by n c is h.1)
before_by n c (noted caller disk count ∷ is) h = before_cond n (is_by c (Some caller)) (noted caller disk count) (by_caller c is) tt (before_by n c is h)

before_right : (n : ℕ) (xs ys : List Item) → Before n (xs ++ ys) → Before n ys
before_right n [] ys h = h
before_right n (entered e ∷ xs) ys h = before_right n xs ys h.1
before_right n (noted caller disk count ∷ xs) ys h = before_right n xs ys h

-- what was made stands before the end of the history
made_before : (c : ℕ) (old new : Histories) (made : List Made) → Did c old new made → (file : ℕ) → Before (place_of (log_at new file)) (made_on file made)
made_before c old new made did file =
    let h : List Logged = log_at new file in
    let all : Before (place_of h) (by_caller c (items h)) = before_by (place_of h) c (items h) (before_items 0 (place_of h) h (omega arith)) in
    before_right (place_of h) (by_caller c (items (log_at old file))) (made_on file made) (subst (Before (place_of h)) (did.part file) all)

pub syncs_from_le : (least least' : ℕ) (event : Event) → least' ≤ least → SyncsFrom least event → SyncsFrom least' event
syncs_from_le least least' (events.Synced caller number node from keep) le h = omega (arith, le, h)
syncs_from_le least least' _ le h = tt

syncs_le : (least least' : ℕ) (is : List Item) → least' ≤ least → SyncsInOrder least is → SyncsInOrder least' is
syncs_le least least' [] le h = tt
syncs_le least least' (entered e ∷ is) le h = (syncs_from_le least least' e.event le h.0, h.1)
syncs_le least least' (noted caller disk count ∷ is) le h = syncs_le least least' is le h

syncs_then : (least mid : ℕ) (xs ys : List Item) → least ≤ mid → Before mid xs → SyncsInOrder least xs → SyncsInOrder mid ys → SyncsInOrder least (xs ++ ys)
syncs_then least mid [] ys le b h k = syncs_le mid least ys le k
syncs_then least mid (entered e ∷ xs) ys le b h k = (h.0, syncs_then (suc e.place) mid xs ys (omega (arith, b.0)) b.1 h.1 k)
syncs_then least mid (noted caller disk count ∷ xs) ys le b h k = syncs_then least mid xs ys le b h k

-- one thing after another
pub did_then : (c : ℕ) (old mid new : Histories) (xs ys : List Made) → Did c old mid xs → Did c mid new ys → Did c old new (xs ++ ys)
did_then c old mid new xs ys f g = record {
  later = all_go_on_then old mid new f.later g.later;
  part = λ file. g.part file ∙ (ap (λ (is : List Item). is ++ made_on file ys) (f.part file)
      ∙ (append_assoc (by_caller c (items (log_at old file))) (made_on file xs) (made_on file ys) ∙ ap (λ (is : List Item). by_caller c (items (log_at old file)) ++ is) (sym (made_on-append file xs ys))));
  syncs = λ file. subst (SyncsInOrder (place_of (log_at old file))) (sym (made_on-append file xs ys))
      (syncs_then (place_of (log_at old file)) (place_of (log_at mid file)) (made_on file xs) (made_on file ys) (place_later (log_at old file) (log_at mid file) (f.later.logs file)) (made_before c old mid xs f file) (f.syncs file) (g.syncs file));
  names = g.names ∙ (ap (λ (is : List NameItem). is ++ made_with_names ys) f.names
      ∙ (append_assoc (names_by c (name_items old.names)) (made_with_names xs) (made_with_names ys) ∙ ap (λ (is : List NameItem). names_by c (name_items old.names) ++ is) (sym (made_with_names-append xs ys))));
}

pub did_nothing : (c : ℕ) (old new : Histories) → new ≡ old → Did c old new []
did_nothing c old new e = record {
  later = all_go_on_same old new e;
  part = λ file. ap (λ (h : Histories). by_caller c (items (log_at h file))) e ∙ sym (append-nil (by_caller c (items (log_at old file))));
  syncs = λ file. tt;
  names = ap (λ (h : Histories). names_by c (name_items h.names)) e ∙ sym (append-nil (names_by c (name_items old.names)));
}

-- what a caller did, and then nothing
pub did_after : (c : ℕ) (old mid new : Histories) (made : List Made) → Did c old mid made → Did c mid new [] → Did c old new made
did_after c old mid new made f g = subst (Did c old new) (append-nil made) (did_then c old mid new made [] f g)

refuses_later : (A B : Type 0) (said : Reply) → (A → B) → Refuses A said → Refuses B said
refuses_later A B replies.TrailFull f h = f h
refuses_later A B replies.Memory f h = tt
refuses_later A B _ f h = h

makes_later : (c : ℕ) (ask : Ask) (item : Item) (T T' : Told → Type 0) (E : Reply → Type 0) → ((t : Told) → T t → T' t) → Makes c ask item T E → Makes c ask item T' E
makes_later c ask (entered e) T T' E f h = (h.0, (h.1.0, h.1.1, f h.1.0 h.1.2))
makes_later c ask (noted by disk count) T T' E f h = h

refuses_over-later : (A B : Type 0) (c : CarrierSeen) (request : Request) (state : ClientState) (said : Reply) (left : ClientState) → (A → B) → RefusesOver c A request state said left → RefusesOver c B request state said left
refuses_over-later A B c request state (replies.Link count) left f h = h
refuses_over-later A B c request state replies.TrailFull left f h = (h.0, f h.1, h.2)
refuses_over-later A B c request state replies.Memory left f h = h
refuses_over-later A B c request state _ left f h = h

unmade_later : (A B : Type 0) (o : Option CarrierSeen) (request : Request) (state : ClientState) (said : Reply) (left : ClientState) → (A → B) → Unmade o A request state said left → Unmade o B request state said left
unmade_later A B None request state said left f h = (refuses_later A B said f h.0, h.1)
unmade_later A B (Some c) request state said left f h = refuses_over-later A B c request state said left f h

hears_later : (b : Bool) (T T' E : Type 0) → (T → T') → Hears b T E → Hears b T' E
hears_later true T T' E f h = f h
hears_later false T T' E f h = h

pub goes_later : (F G : ℕ → Type 0) → ((file : ℕ) → F file → G file) → (c : ℕ) (p : Plan) (made : List Made) (said : Reply) (left : ClientState) → Goes F c p made said left → Goes G c p made said left
goes_later F G f c (ends reply state) [] said left h = h
goes_later F G f c (ends reply state) (m ∷ made) said left h = h
goes_later F G f c (calls request state go_on) [] said left h = unmade_later (F request.file) (G request.file) (over request state) request state said left (f request.file) h
goes_later F G f c (calls request state go_on) (at_file at item ∷ made) said left h =
    (h.0, makes_later c request.ask item _ _ _ (λ t k. hears_later (comes (over request state)) _ _ _ (λ g. goes_later F G f c (go_on t) made said left g) k) h.1)
goes_later F G f c (calls request state go_on) (with_names item ∷ made) said left h = h
goes_later F G f c (asks_names ask state go_on) [] said left h = h
goes_later F G f c (asks_names ask state go_on) (at_file at item ∷ made) said left h = h
goes_later F G f c (asks_names ask state go_on) (with_names item ∷ made) said left h =
    (h.0, goes_later F G f c (go_on (told_names item)) made said left h.1)
goes_later F G f c unknown made said left h = h

line_later : (F G : ℕ → Type 0) → ((file : ℕ) → F file → G file) → (c : ℕ) (kept : ClientState) (p : Plan) (made : List Made) (said : Reply) (left : ClientState) → Line F c kept p made said left → Line G c kept p made said left
line_later F G f c kept p made said left h = ⊎_elim (λ goes. inl (goes_later F G f c p made said left goes)) (λ lacks. inr lacks) h

does_later : (mount : Mount) (F G : ℕ → Type 0) → ((file : ℕ) → F file → G file) → (c : ℕ) (state : ClientState) (lines : List CallLine) (made : List Made) (said : List Said) (left : ClientState) → Does mount F c state lines made said left → Does mount G c state lines made said left
does_later mount F G f c state [] made said left h = h
does_later mount F G f c state (line ∷ lines) made [] left h = h
does_later mount F G f c state (line ∷ lines) made (s ∷ said) left h =
    (h.0, h.1, h.2, h.3, h.4, line_later F G f c state (plan mount state line.call) h.0 s.reply h.2 h.5, does_later mount F G f c h.2 lines h.1 said left h.6)

-- a line follows its plan
pub went_of : (c : ℕ) (kept : ClientState) (p : Plan) (old new : Histories) (said : Reply) (left : ClientState) → Gone c p old new said left → Went c kept p old new said left
went_of c kept p old new said left gone = record { made = gone.made; did = gone.did; goes = inl gone.goes }

-- the same plan, written otherwise
pub gone_as : (c : ℕ) (p q : Plan) (old new : Histories) (said : Reply) (left : ClientState) → q ≡ p → Gone c p old new said left → Gone c q old new said left
gone_as c p q old new said left is gone = subst (λ (x : Plan). Gone c x old new said left) (sym is) gone

-- a plan that makes no call
pub gone_none : (c : ℕ) (p : Plan) (old : Histories) (reply : Reply) (left : ClientState) → p ≡ ends reply left → Gone c p old old reply left
gone_none c p old reply left is = record {
  made = [];
  did = did_nothing c old old refl;
  goes = subst (λ (q : Plan). Goes (IsFull old) c q [] reply left) (sym is) (refl, refl);
}

-- a line for which memory lacked
pub went_lacks : (c : ℕ) (kept : ClientState) (p : Plan) (old : Histories) → Went c kept p old old replies.Memory kept
went_lacks c kept p old = record { made = []; did = did_nothing c old old refl; goes = inr (record { nothing = refl; memory = refl; same = refl }) }

-- a reply that comes is heard
hears_came : (b : Bool) (T E : Type 0) → b ≡ true → T → Hears b T E
hears_came b T E is t = subst (λ (x : Bool). Hears x T E) (sym is) t

hears_lost : (b : Bool) (T E : Type 0) → b ≡ false → E → Hears b T E
hears_lost b T E is e = subst (λ (x : Bool). Hears x T E) (sym is) e

heard_if : (b : Bool) (o : Option CarrierSeen) (reply : Reply) → comes o ≡ b → heard o reply ≡ cond b reply (lost_reply o)
heard_if b o reply is = ap (λ (x : Bool). cond x reply (lost_reply o)) is

-- a call that stays on its client's machine comes back, and leaves the state
pub comes_here : (o : Option CarrierSeen) → o ≡ None → comes o ≡ true
comes_here o none = ap (λ (x : Option CarrierSeen). comes x) none

sent_by : (far : Bool) (o : Option CarrierSeen) → cond far o None ≡ None → cond far (option_map {T = CarrierSeen} (λ c. after_call c) o) o ≡ o
sent_by true None none = refl
sent_by true (Some c) none = absurd cc
sent_by false o none = refl

pub sent_here : (request : Request) (state : ClientState) → over request state ≡ None → sent request state ≡ state
sent_here request state none = ap (carrying state) (sent_by request.far state.carrier none)

-- a call that was answered, and what the plan does then, if the answer comes
pub gone_call : (c : ℕ) (p : Plan) (request : Request) (state : ClientState) (go_on : Told → Plan) (old mid new : Histories) (e : Entry) (told : Told) (rest : List Made) (reply : Reply) (left : ClientState)
    → p ≡ calls request state go_on → comes (over request state) ≡ true → Did c old mid (at_file request.file (entered e) ∷ []) → Asks c request.ask e.event → e.told ≡ Some told
    → Did c mid new rest → Goes (IsFull new) c (go_on told) rest reply left → Gone c p old new reply left
gone_call c p request state go_on old mid new e told rest reply left is came did asks answered more goes = record {
  made = at_file request.file (entered e) ∷ rest;
  did = did_then c old mid new (at_file request.file (entered e) ∷ []) rest did more;
  goes = subst (λ (q : Plan). Goes (IsFull new) c q (at_file request.file (entered e) ∷ rest) reply left) (sym is)
      (refl, (asks, (told, answered, hears_came (comes (over request state)) (Goes (IsFull new) c (go_on told) rest reply left) ((rest ≡ []) × (reply ≡ lost_reply (over request state)) × (left ≡ sent request state)) came goes)));
}

-- a call that was answered, whose answer was lost
pub gone_lost : (c : ℕ) (p : Plan) (request : Request) (state : ClientState) (go_on : Told → Plan) (old new : Histories) (e : Entry) (told : Told)
    → p ≡ calls request state go_on → comes (over request state) ≡ false → Did c old new (at_file request.file (entered e) ∷ []) → Asks c request.ask e.event → e.told ≡ Some told
    → Gone c p old new (lost_reply (over request state)) (sent request state)
gone_lost c p request state go_on old new e told is lost did asks answered = record {
  made = at_file request.file (entered e) ∷ [];
  did = did;
  goes = subst (λ (q : Plan). Goes (IsFull new) c q (at_file request.file (entered e) ∷ []) (lost_reply (over request state)) (sent request state)) (sym is) (
    refl,
    (
      asks,
      (
        told,
        answered,
        hears_lost (comes (over request state)) (Goes (IsFull new) c (go_on told) [] (lost_reply (over request state)) (sent request state))
            ((◌≡◌ {A = List Made} [] []) × (lost_reply (over request state) ≡ lost_reply (over request state)) × (sent request state ≡ sent request state)) lost (refl, refl, refl),
      ),
    ),
  );
}

-- a call whose store failed, whether that comes or not
pub gone_fault : (c : ℕ) (p : Plan) (request : Request) (state : ClientState) (go_on : Told → Plan) (old new : Histories) (disk count : ℕ)
    → p ≡ calls request state go_on → Did c old new (at_file request.file (noted c disk count) ∷ []) → Gone c p old new (heard (over request state) (replies.Store disk count)) (sent request state)
gone_fault c p request state go_on old new disk count is did = record {
  made = at_file request.file (noted c disk count) ∷ [];
  did = did;
  goes = subst (λ (q : Plan). Goes (IsFull new) c q (at_file request.file (noted c disk count) ∷ []) (heard (over request state) (replies.Store disk count)) (sent request state)) (sym is) (refl, (refl, (refl, refl, refl)));
}

-- a call that did nothing
pub gone_unmade : (c : ℕ) (p : Plan) (request : Request) (state : ClientState) (go_on : Told → Plan) (old new : Histories) (reply : Reply) (left : ClientState)
    → p ≡ calls request state go_on → Did c old new [] → Unmade (over request state) (IsFull new request.file) request state reply left → Gone c p old new reply left
gone_unmade c p request state go_on old new reply left is did unmade = record {
  made = [];
  did = did;
  goes = subst (λ (q : Plan). Goes (IsFull new) c q [] reply left) (sym is) unmade;
}

-- one that stays on its client's machine
pub gone_refused : (c : ℕ) (p : Plan) (request : Request) (state : ClientState) (go_on : Told → Plan) (old new : Histories) (reply : Reply)
    → p ≡ calls request state go_on → over request state ≡ None → Did c old new [] → Refuses (IsFull new request.file) reply → Gone c p old new reply state
gone_refused c p request state go_on old new reply is here did refused =
    gone_unmade c p request state go_on old new reply state is did (subst (λ (o : Option CarrierSeen). Unmade o (IsFull new request.file) request state reply state) (sym here) (refused, refl))

unmade_lacks : (o : Option CarrierSeen) (Full : Type 0) (request : Request) (state : ClientState) → Unmade o Full request state replies.Memory state
unmade_lacks None Full request state = (tt, refl)
unmade_lacks (Some c) Full request state = inl refl

-- one for which memory lacked before it was sent
pub gone_lacks : (c : ℕ) (p : Plan) (request : Request) (state : ClientState) (go_on : Told → Plan) (old new : Histories) → p ≡ calls request state go_on → Did c old new [] → Gone c p old new replies.Memory state
gone_lacks c p request state go_on old new is did =
    gone_unmade c p request state go_on old new replies.Memory state is did (unmade_lacks (over request state) (IsFull new request.file) request state)

-- a call on the names that was made, and what the plan does then
pub gone_named : (c : ℕ) (p : Plan) (ask : NamesAsk) (state : ClientState) (go_on : NamesTold → Plan) (old mid new : Histories) (item : NameItem) (reply : Reply) (left : ClientState)
    → p ≡ asks_names ask state go_on → Did c old mid (with_names item ∷ []) → AsksNames c ask item.entry → Gone c (go_on (told_names item)) mid new reply left → Gone c p old new reply left
gone_named c p ask state go_on old mid new item reply left is did asks onward = record {
  made = with_names item ∷ onward.made;
  did = did_then c old mid new (with_names item ∷ []) onward.made did onward.did;
  goes = subst (λ (q : Plan). Goes (IsFull new) c q (with_names item ∷ onward.made) reply left) (sym is) (asks, onward.goes);
}

-- a call on the names for which memory lacked
pub gone_unnamed : (c : ℕ) (p : Plan) (ask : NamesAsk) (state : ClientState) (go_on : NamesTold → Plan) (old new : Histories)
    → p ≡ asks_names ask state go_on → Did c old new [] → Gone c p old new replies.Memory state
gone_unnamed c p ask state go_on old new is did = record {
  made = [];
  did = did;
  goes = subst (λ (q : Plan). Goes (IsFull new) c q [] replies.Memory state) (sym is) (refl, refl);
}

-- no line yet
pub worked_none : (mount : Mount) (c : ℕ) (state : ClientState) (old : Histories) → Worked mount c state [] old old [] state
worked_none mount c state old = record { made = []; did = did_nothing c old old refl; does = (refl, refl, refl) }

-- lines done, and one more
does_more : (mount : Mount) (F : ℕ → Type 0) (c : ℕ) (state : ClientState) (lines : List CallLine) (made : List Made) (said : List Said) (mid : ClientState) (line : CallLine) (next : List Made) (reply : Reply) (left : ClientState)
    → Does mount F c state lines made said mid → Line F c mid (plan mount mid line.call) next reply left
    → Does mount F c state (lines ++ line ∷ []) (made ++ next) (said ++ record { line = line.line; reply = reply } ∷ []) left
does_more mount F c state [] made said mid line next reply left does goes =
    rw (does.0, does.1) (next, [], left, sym (append-nil next), refl, subst (λ (st : ClientState). Line F c st (plan mount st line.call) next reply left) does.2 goes, (refl, refl, refl))
does_more mount F c state (l ∷ lines) made [] mid line next reply left does goes = absurd does
does_more mount F c state (l ∷ lines) made (s ∷ said) mid line next reply left does goes =
    (does.0, does.1 ++ next, does.2, ap (λ (ms : List Made). ms ++ next) does.3 ∙ append_assoc does.0 does.1 next, does.4, does.5, does_more mount F c does.2 lines does.1 said mid line next reply left does.6 goes)

pub worked_more : (mount : Mount) (c : ℕ) (state : ClientState) (lines : List CallLine) (old mid new : Histories) (said : List Said) (kept : ClientState) (line : CallLine) (reply : Reply) (left : ClientState)
    → Worked mount c state lines old mid said kept → Went c kept (plan mount kept line.call) mid new reply left
    → Worked mount c state (lines ++ line ∷ []) old new (said ++ record { line = line.line; reply = reply } ∷ []) left
worked_more mount c state lines old mid new said kept line reply left worked went = record {
  made = worked.made ++ went.made;
  did = did_then c old mid new worked.made went.made worked.did went.did;
  does = does_more mount (IsFull new) c state lines worked.made said kept line went.made reply left
      (does_later mount (IsFull mid) (IsFull new) (full_later mid new went.did.later) c state lines worked.made said kept worked.does) went.goes;
}

does_append : (mount : Mount) (F : ℕ → Type 0) (c : ℕ) (state : ClientState) (xs ys : List CallLine) (made made' : List Made) (said said' : List Said) (mid left : ClientState)
    → Does mount F c state xs made said mid → Does mount F c mid ys made' said' left → Does mount F c state (xs ++ ys) (made ++ made') (said ++ said') left
does_append mount F c state [] ys made made' said said' mid left f g =
    rw (f.0, f.1) (subst (λ (st : ClientState). Does mount F c st ys made' said' left) f.2 g)
does_append mount F c state (l ∷ xs) ys made made' [] said' mid left f g = absurd f
does_append mount F c state (l ∷ xs) ys made made' (s ∷ said) said' mid left f g =
    (f.0, f.1 ++ made', f.2, ap (λ (ms : List Made). ms ++ made') f.3 ∙ append_assoc f.0 f.1 made', f.4, f.5, does_append mount F c f.2 xs ys f.1 made' said said' mid left f.6 g)

-- lines done, and then more lines
pub worked_append : (mount : Mount) (c : ℕ) (state : ClientState) (xs ys : List CallLine) (old mid new : Histories) (said said' : List Said) (kept left : ClientState)
    → Worked mount c state xs old mid said kept → Worked mount c kept ys mid new said' left → Worked mount c state (xs ++ ys) old new (said ++ said') left
worked_append mount c state xs ys old mid new said said' kept left f g = record {
  made = f.made ++ g.made;
  did = did_then c old mid new f.made g.made f.did g.did;
  does = does_append mount (IsFull new) c state xs ys f.made g.made said said' kept left
      (does_later mount (IsFull mid) (IsFull new) (full_later mid new g.did.later) c state xs f.made said kept f.does) g.does;
}

-- nothing, and then lines done
pub worked_before : (mount : Mount) (c : ℕ) (state : ClientState) (lines : List CallLine) (old mid new : Histories) (said : List Said) (left : ClientState)
    → Did c old mid [] → Worked mount c state lines mid new said left → Worked mount c state lines old new said left
worked_before mount c state lines old mid new said left did worked = record {
  made = worked.made;
  did = did_then c old mid new [] worked.made did worked.did;
  does = worked.does;
}

-- lines done, and nothing more
pub worked_then : (mount : Mount) (c : ℕ) (state : ClientState) (lines : List CallLine) (old mid new : Histories) (said : List Said) (left : ClientState)
    → Worked mount c state lines old mid said left → Did c mid new [] → Worked mount c state lines old new said left
worked_then mount c state lines old mid new said left worked did = record {
  made = worked.made;
  did = did_after c old mid new worked.made worked.did did;
  does = does_later mount (IsFull mid) (IsFull new) (full_later mid new did.later) c state lines worked.made said left worked.does;
}

-- a phase, and nothing more
pub phased_then : (mount : Mount) (c : ℕ) (kept : ClientState) (lines : List CallLine) (old mid new : Histories) (said : List Said) (left : ClientState)
    → Phased mount c kept lines old mid said left → Did c mid new [] → Phased mount c kept lines old new said left
phased_then mount c kept lines old mid new said left phased did =
    ⊎_elim (λ worked. inl (worked_then mount c kept lines old mid new said left worked did))
    (λ idled. inr (record { nothing = did_after c old mid new [] idled.nothing did; silent = idled.silent; same = idled.same })) phased

-- phases done, and one more
pub acts_more : (mount : Mount) (c : ℕ) (kept : ClientState) (phases : List (List CallLine)) (start : Histories) (cuts : List Histories) (said : List Said) (mid : ClientState)
    (phase : List CallLine) (last cut : Histories) (one : List Said) (left : ClientState)
    → Acts mount c kept phases start cuts said mid → last ≡ last_cut start cuts → Phased mount c mid (lines_of c phase) last cut one left
    → Acts mount c kept (phases ++ phase ∷ []) start (cuts ++ cut ∷ []) (said ++ one) left
acts_more mount c kept [] start [] said mid phase last cut one left acts is phased =
    rw acts.0 (one, [], left, sym (append-nil one), subst (λ (st : ClientState). Phased mount c st (lines_of c phase) start cut one left) acts.1 (subst (λ (hs : Histories). Phased mount c mid (lines_of c phase) hs cut one left) is phased), (refl, refl))
acts_more mount c kept [] start (k ∷ cuts) said mid phase last cut one left acts is phased = absurd acts
acts_more mount c kept (p ∷ phases) start [] said mid phase last cut one left acts is phased = absurd acts
acts_more mount c kept (p ∷ phases) start (k ∷ cuts) said mid phase last cut one left acts is phased =
    (acts.0, acts.1 ++ one, acts.2, ap (λ (s : List Said). s ++ one) acts.3 ∙ append_assoc acts.0 acts.1 one, acts.4, acts_more mount c acts.2 phases k cuts acts.1 mid phase last cut one left acts.5 is phased)

-- lines that were done were answered, each in its turn
pub does-lines : (mount : Mount) (F : ℕ → Type 0) (c : ℕ) (kept : ClientState) (lines : List CallLine) (made : List Made) (said : List Said) (left : ClientState)
    → Does mount F c kept lines made said left → map (λ s. s.line) said ≡ map (λ l. l.line) lines
does-lines mount F c kept [] made said left does = ap (map (λ s. s.line)) does.1
does-lines mount F c kept (l ∷ lines) made [] left does = absurd does
does-lines mount F c kept (l ∷ lines) made (s ∷ said) left does =
    let rest : map (λ s. s.line) said ≡ map (λ l. l.line) lines = does-lines mount F c does.2 lines does.1 said left does.6 in
    let head : s.line ≡ l.line = does.4 in
    cc

-- phases answered, and one more whose lines were done
pub answered_more : (mount : Mount) (c : ℕ) (phases : List (List CallLine)) (said : List Said) (phase : List CallLine) (kept : ClientState) (old new : Histories) (one : List Said) (left : ClientState)
    → IsAnswered phases c said → Worked mount c kept (lines_of c phase) old new one left → IsAnswered (phases ++ phase ∷ []) c (said ++ one)
answered_more mount c phases said phase kept old new one left answered worked =
    let number = λ (l : CallLine). l.line in
    map-append (λ (s : Said). s.line) said one
    ∙ (ap (λ (ns : List ℕ). ns ++ map (λ (s : Said). s.line) one) answered
    ∙ (ap (λ (ns : List ℕ). map number (flat_map (lines_of c) phases) ++ ns) (does-lines mount (IsFull new) c kept (lines_of c phase) worked.made one left worked.does)
    ∙ (sym (map-append number (flat_map (lines_of c) phases) (lines_of c phase))
    ∙ ap (map number) (sym (flat_map-append (lines_of c) phases (phase ∷ []) ∙ ap (λ (ls : List CallLine). flat_map (lines_of c) phases ++ ls) (append-nil (lines_of c phase)))))))

pub in_order_more : (start : Histories) (cuts : List Histories) (last cut : Histories) → InOrder start cuts → last ≡ last_cut start cuts
    → AllGoOn last cut → InOrder start (cuts ++ cut ∷ [])
in_order_more start [] last cut h is g = (subst (λ (hs : Histories). AllGoOn hs cut) is g, tt)
in_order_more start (k ∷ cuts) last cut h is g = (h.0, in_order_more k cuts last cut h.1 is g)

pub last_cut-more : (start : Histories) (cuts : List Histories) (cut : Histories) → cut ≡ last_cut start (cuts ++ cut ∷ [])
last_cut-more start [] cut = refl
last_cut-more start (k ∷ cuts) cut = last_cut-more k cuts cut
