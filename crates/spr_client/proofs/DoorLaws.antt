-- The doors of a client's replicon objects, and the calls by them.
use Rattle.std.proofs.Common.{◌≡◌, ◌⊎◌, inl, inr, ℕ, zero, suc, ◌+◌, ◌<◌, ◌≤◌, List, [], ◌∷◌, ◌++◌, length, map, Bool, true, false, cond, get_or, leb, ◌&&◌, Option, Some, None, refl, sym, ap, subst, ◌∙◌, arith, lit≤}
use Rattle.std.specs.Prelude.{IfSome, IsSome, find}
use Rattle.std.specs.List.{AllByRecursion, list_all}
use Rattle.std.proofs.lemmas.Bool.{and_parts, leb-true}
use Rattle.std.specs.Option.{option_and_then, option_map}
use Rattle.std.specs.Str.{bytes_eq}
use Rattle.hist_plain.specs.declared.event.Answer.{Answer}
use Rattle.hist_plain.specs.declared.event.Answer.TheVariants as answers
use Rattle.hist_plain.specs.declared.event.Op.{Op}
use Rattle.hist_plain.specs.Event.{fits_page}
use Rattle.hist_plain.specs.Plain.{Told}
use Rattle.marshal_buf.specs.declared.door.Door.{Door}
use Rattle.script_text.specs.declared.script.Reply.{Reply}
use Rattle.script_text.specs.declared.script.Reply.TheVariants as replies
use Rattle.stack_accept.specs.Mount.{Mount}
use Rattle.stack_accept.specs.Sound.{IsMount}
use Rattle.name_context.specs.Names.{Kept}
use Rattle.client_objects.specs.declared.state.ClientState.{ClientState}
use Rattle.client_objects.specs.declared.target.Target.{Target}
use Rattle.client_objects.specs.declared.target.Way.{Way}
use Rattle.client_objects.specs.Laws.{LeadsOntoStack}
use Rattle.client_objects.specs.Stored.{received}
use Rattle.client_objects.proofs.FoundLaws.{found_leads}
use Rattle.client_objects.proofs.ReceivedLaws.{received_leads}
use Rattle.client_replicas.specs.declared.door.OpenDoor.{OpenDoor}
use Rattle.client_replicas.specs.declared.replicas.OpenReplicon.{OpenReplicon}
use Rattle.client_replicas.specs.Objects.{doors_of, with_doors, with_replicon, without_replicon}
use Rattle.client_replicas.specs.OpenDoors.{fresh, open_door, with_life}
use Rattle.client_replicas.specs.Received.{LeadsOnto, received_doors}
use Rattle.client_replicas.proofs.NamedLaws.{doors_of-with_doors}
use Rattle.client_replicas.proofs.ReceivedLaws.{received-lead}
use Rattle.text_words.specs.Words.{IsPath, is_name}
use Rattle.sub_replicon.specs.Replicas.{AreOfOneFile, AreReplicas}
use Rattle.script_meaning.specs.Stack.{pages_of, view_of}
use Rattle.script_meaning.specs.Plan.{Plan, Request, by_door, calls, doors_at, ends, is_revoked, life_in, opening, plan_doors, plan_next, plan_opens, plan_try, reached, reached_by, replicating, reply_of, sent, trial_of}
use Rattle.spr_volume.specs.Passes.{Knows}
use Rattle.spr_client.specs.Doors.{found_by, replica_way}
use Rattle.spr_client.specs.Lines.{IsDoorOn, IsOnMachine, IsReplicatedOn, IsTarget, LineDone, PlanDone}
use Rattle.spr_client.specs.Serving.{CameBack, IsWayTo}
use Rattle.spr_client.proofs.LineLaws.{done-as, plan-lacks, plan-none}

-- what a reconnectable object finds leads to a view and a file of the stack
leads_by : (mount : Mount) (kept : Option Kept) (o : Option (List Door)) (target : Target) → received_doors mount kept ≡ o → reached_by mount kept o ≡ Some target → LeadsOntoStack mount target
leads_by mount kept (Some (door ∷ doors)) target found is =
    let lead = (received-lead mount kept (door ∷ doors) found).0 in
    let same : by_door (fresh door) ≡ target = cc in
    subst (λ (t : Target). LeadsOntoStack mount t) same (record { view = lead.view; file = lead.file; chosen = refl })
leads_by mount kept (Some []) target found is = received_leads mount kept target is
leads_by mount kept None target found is = received_leads mount kept target is

pub reached_leads : (mount : Mount) (kept : Option Kept) (target : Target) → reached mount kept ≡ Some target → LeadsOntoStack mount target
reached_leads mount kept target is = leads_by mount kept (received_doors mount kept) target refl is

-- and so does what is received
pub received-if : (mount : Mount) (kept : Option Kept) (o : Option Target) → o ≡ received mount kept → IfSome o (LeadsOntoStack mount)
received-if mount kept None is = tt
received-if mount kept (Some target) is = received_leads mount kept target (sym is)

-- a line on the object of a name that has doors, and one on another
pub line-doors : (mount : Mount) (caller : ℕ) (state : ClientState) (objects : List OpenReplicon) (name : List ℕ) (go_on : OpenDoor → List OpenDoor → Plan) (otherwise : Plan) (door : OpenDoor) (more : List OpenDoor) (old new : Knows) (said : Reply) (left : ClientState)
    → doors_of name objects ≡ Some (door ∷ more) → LineDone mount caller state (go_on door more) old new said left → LineDone mount caller state (plan_doors (doors_of name objects) go_on otherwise) old new said left
line-doors mount caller state objects name go_on otherwise door more old new said left is done =
    done-as mount caller state (go_on door more) (plan_doors (doors_of name objects) go_on otherwise) old new said left (ap (λ (o : Option (List OpenDoor)). plan_doors o go_on otherwise) is) done

pub line-no_doors : (mount : Mount) (caller : ℕ) (state : ClientState) (objects : List OpenReplicon) (name : List ℕ) (go_on : OpenDoor → List OpenDoor → Plan) (otherwise : Plan) (old new : Knows) (said : Reply) (left : ClientState)
    → doors_of name objects ≡ None → LineDone mount caller state otherwise old new said left → LineDone mount caller state (plan_doors (doors_of name objects) go_on otherwise) old new said left
line-no_doors mount caller state objects name go_on otherwise old new said left is done =
    done-as mount caller state otherwise (plan_doors (doors_of name objects) go_on otherwise) old new said left (ap (λ (o : Option (List OpenDoor)). plan_doors o go_on otherwise) is) done

-- ONE TRY, and whatever comes behind it
module _ (mount : Mount) (caller : ℕ) (op : Op) (go_on : ClientState → Told → Plan) (state : ClientState) (target : Target) where
  abbrev Tries : Plan
  Tries = plan_try mount op go_on state target

  pub any-unfit : (pass : Knows) → fits_page mount.page_size (pages_of mount target.file) op ≡ false → PlanDone mount caller Tries pass pass replies.NotOnePage state
  any-unfit pass unfit = plan-none mount caller Tries pass replies.NotOnePage state (rw unfit refl)

  fits_so : fits_page mount.page_size (pages_of mount target.file) op ≡ true → Tries ≡ calls (trial_of mount state target op) state (go_on (sent (trial_of mount state target op) state))
  fits_so fit = rw fit refl

  pub any-lacks : (pass : Knows) → fits_page mount.page_size (pages_of mount target.file) op ≡ true → PlanDone mount caller Tries pass pass replies.Memory state
  any-lacks pass fit = plan-lacks mount caller Tries (trial_of mount state target op) state (go_on (sent (trial_of mount state target op) state)) pass (fits_so fit)

  pub any-fails : (old new : Knows) (said : Reply) (end : ClientState) → fits_page mount.page_size (pages_of mount target.file) op ≡ true
      → ((next : Told → Plan) → PlanDone mount caller (calls (trial_of mount state target op) state next) old new said end) → PlanDone mount caller Tries old new said end
  any-fails old new said end fit made = subst (λ (p : Plan). PlanDone mount caller p old new said end) (sym (fits_so fit)) (made (go_on (sent (trial_of mount state target op) state)))

  pub any-leads : (old mid new : Knows) (out : List ℕ) (answer : Answer) (said : Reply) (back end : ClientState) → fits_page mount.page_size (pages_of mount target.file) op ≡ true → CameBack mount caller (trial_of mount state target op) old mid state back out answer
      → ((t : Told) → t.answer ≡ answer → (answer ≡ answers.Bytes → t.bytes ≡ out) → PlanDone mount caller (go_on back t) mid new said end) → PlanDone mount caller Tries old new said end
  any-leads old mid new out answer said back end fit came onward =
      subst (λ (p : Plan). PlanDone mount caller p old new said end) (sym (fits_so fit))
      (came.onward (go_on (sent (trial_of mount state target op) state)) new said end
      (subst (λ (s : ClientState). PlanDone mount caller (go_on s came.told) mid new said end) came.left_is (onward came.told came.answer_is came.bytes_are)))

-- what comes behind an access by a door
pub next-ends : (mount : Mount) (name : List ℕ) (op : Op) (more : List OpenDoor) (state : ClientState) (t : Told) → (more ≡ []) ⊎ (is_revoked t.answer ≡ false) → plan_next mount name op more state t ≡ ends (reply_of t) state
next-ends mount name op [] state t why = refl
next-ends mount name op (next ∷ more) state t (inl none) = absurd cc
next-ends mount name op (next ∷ more) state t (inr other) = rw other refl

pub next-goes : (mount : Mount) (name : List ℕ) (op : Op) (next : OpenDoor) (more : List OpenDoor) (state : ClientState) (t : Told) → is_revoked t.answer ≡ true
    → plan_next mount name op (next ∷ more) state t ≡ plan_try mount op (plan_next mount name op more) (replicating state (with_doors name (next ∷ more) state.replicas)) (by_door next)
next-goes mount name op next more state t over = rw over refl

-- WHERE DOORS LEAD
pub door-route : (mount : Mount) (door : OpenDoor) → IsMount mount → IsDoorOn mount door → IsWayTo mount (replica_way (record { node = door.view; file = door.file })) door.view
door-route mount door sound on =
    let leads = found_leads mount 0 (by_door door) sound on.view in
    record { said = record { low = lit≤ tt; high = lit≤ tt; chosen = refl }; file = on.file; above = leads.above; inside = leads.inside }

pub door-target : (mount : Mount) (door : OpenDoor) → IsMount mount → IsDoorOn mount door → IsTarget mount (found_by door)
door-target mount door sound on =
    let leads = found_leads mount 0 (by_door door) sound on.view in
    record { chosen = refl; file = on.file; view = on.view; above = leads.above; node = leads.inside }

doors_step : (mount : Mount) (b : Bool) (first : OpenReplicon) (found : Option OpenReplicon) (doors : List OpenDoor) → IsReplicatedOn mount first → (option_map (λ (o : OpenReplicon). o.doors) found ≡ Some doors → AllByRecursion (IsDoorOn mount) doors)
    → option_map (λ (o : OpenReplicon). o.doors) (cond b (Some first) found) ≡ Some doors → AllByRecursion (IsDoorOn mount) doors
doors_step mount true first found doors on rest is = let same : first.doors ≡ doors = cc in subst (λ (ds : List OpenDoor). AllByRecursion (IsDoorOn mount) ds) same on
doors_step mount false first found doors on rest is = rest is

-- the doors of a client's object lead onto the stack
pub doors-on : (mount : Mount) (name : List ℕ) (objects : List OpenReplicon) (doors : List OpenDoor) → AllByRecursion (IsReplicatedOn mount) objects → doors_of name objects ≡ Some doors → AllByRecursion (IsDoorOn mount) doors
doors-on mount name [] doors all is = absurd cc
doors-on mount name (o ∷ os) doors all is =
    doors_step mount (bytes_eq o.name name) o (find (λ (x : OpenReplicon). bytes_eq x.name name) os) doors all.0 (doors-on mount name os doors all.1) is

-- so they do with other doors that lead there, with one object more and with one less
set_step : (mount : Mount) (b : Bool) (o : OpenReplicon) (doors : List OpenDoor) (os others : List OpenReplicon) → IsReplicatedOn mount o → AllByRecursion (IsReplicatedOn mount) os → AllByRecursion (IsReplicatedOn mount) others → AllByRecursion (IsDoorOn mount) doors
    → AllByRecursion (IsReplicatedOn mount) (cond b (record o { doors = doors } ∷ os) (o ∷ others))
set_step mount true o doors os others on all rest new = (new, all)
set_step mount false o doors os others on all rest new = (on, rest)

pub on-with_doors : (mount : Mount) (name : List ℕ) (doors : List OpenDoor) (objects : List OpenReplicon) → AllByRecursion (IsReplicatedOn mount) objects → AllByRecursion (IsDoorOn mount) doors → AllByRecursion (IsReplicatedOn mount) (with_doors name doors objects)
on-with_doors mount name doors [] all new = tt
on-with_doors mount name doors (o ∷ os) all new = set_step mount (bytes_eq o.name name) o doors os (with_doors name doors os) all.0 all.1 (on-with_doors mount name doors os all.1 new) new

pub on-with_replicon : (mount : Mount) (objects : List OpenReplicon) (name : List ℕ) (doors : List OpenDoor) → AllByRecursion (IsReplicatedOn mount) objects → AllByRecursion (IsDoorOn mount) doors → AllByRecursion (IsReplicatedOn mount) (with_replicon objects name doors)
on-with_replicon mount [] name doors all new = (new, tt)
on-with_replicon mount (o ∷ os) name doors all new = (all.0, on-with_replicon mount os name doors all.1 new)

without_step : (mount : Mount) (b : Bool) (o : OpenReplicon) (os others : List OpenReplicon) → IsReplicatedOn mount o → AllByRecursion (IsReplicatedOn mount) os → AllByRecursion (IsReplicatedOn mount) others → AllByRecursion (IsReplicatedOn mount) (cond b os (o ∷ others))
without_step mount true o os others on all rest = all
without_step mount false o os others on all rest = (on, rest)

pub on-without : (mount : Mount) (name : List ℕ) (objects : List OpenReplicon) → AllByRecursion (IsReplicatedOn mount) objects → AllByRecursion (IsReplicatedOn mount) (without_replicon name objects)
on-without mount name [] all = tt
on-without mount name (o ∷ os) all = without_step mount (bytes_eq o.name name) o os (without_replicon name os) all.0 all.1 (on-without mount name os all.1)

pub on-replicating : (mount : Mount) (state : ClientState) (objects : List OpenReplicon) → IsOnMachine mount state → AllByRecursion (IsReplicatedOn mount) objects → IsOnMachine mount (replicating state objects)
on-replicating mount state objects on all = record { machine = on.machine; objects = on.objects; replicas = all; regions = on.regions }

-- DOORS THAT ARE OPENED, one after another
pub life-set : (before rest : List OpenDoor) (door : OpenDoor) (k life : ℕ) → length before ≡ k → with_life k life (before ++ door ∷ rest) ≡ before ++ record door { life = life } ∷ rest
life-set [] rest door zero life len = refl
life-set [] rest door (suc k) life len = absurd cc
life-set (first ∷ before) rest door zero life len = absurd cc
life-set (first ∷ before) rest door (suc k) life len = ap (λ (ds : List OpenDoor). first ∷ ds) (life-set before rest door k life (let same : length before ≡ k = omega (arith, len) in same))

pub one-behind : (before rest : List OpenDoor) (door : OpenDoor) → before ++ door ∷ rest ≡ (before ++ door ∷ []) ++ rest
one-behind [] rest door = refl
one-behind (first ∷ before) rest door = ap (λ (ds : List OpenDoor). first ∷ ds) (one-behind before rest door)

pub on-behind : (mount : Mount) (before : List OpenDoor) (door : OpenDoor) → AllByRecursion (IsDoorOn mount) before → IsDoorOn mount door → AllByRecursion (IsDoorOn mount) (before ++ door ∷ [])
on-behind mount [] door all on = (on, tt)
on-behind mount (first ∷ before) door all on = (all.0, on-behind mount before door all.1 on)

pub opens-lacks : (mount : Mount) (caller : ℕ) (state : ClientState) (name : List ℕ) (before : List OpenDoor) (doors : List Door) (pass : Knows) → 1 ≤ length doors → PlanDone mount caller (plan_opens mount name before doors state) pass pass replies.Memory state
opens-lacks mount caller state name before [] pass some = absurd (omega (arith, some))
opens-lacks mount caller state name before (door ∷ doors) pass some =
    let request : Request = opening mount state (by_door (fresh door)) in
    plan-lacks mount caller (plan_opens mount name before (door ∷ doors) state) request state (λ told. plan_opens mount name (before ++ open_door door (life_in told.answer) ∷ []) doors (sent request state)) pass refl

-- THE DOORS AT VIEWS, one after another
snoc_by : (mount : Mount) (file node : ℕ) (view : List ℕ) (views : List (List ℕ)) (first : Option ℕ) (rest more : Option (List Door)) (all : List Door)
    → ((doors : List Door) → rest ≡ Some doors → more ≡ Some (doors ++ record { node = node; file = file } ∷ []))
    → option_and_then {T = ℕ} (λ n. option_map {T = List Door} (λ doors. record { node = n; file = file } ∷ doors) rest) first ≡ Some all
    → option_and_then {T = ℕ} (λ n. option_map {T = List Door} (λ doors. record { node = n; file = file } ∷ doors) more) first ≡ Some (all ++ record { node = node; file = file } ∷ [])
snoc_by mount file node view views None rest more all then is = absurd cc
snoc_by mount file node view views (Some n) None more all then is = absurd cc
snoc_by mount file node view views (Some n) (Some doors) more all then is =
    let next = then doors refl in
    let same : (let d : Door = record { node = n; file = file } in d ∷ doors) ≡ all = cc in
    ap (λ (o : Option (List Door)). option_map {T = List Door} (λ ds. record { node = n; file = file } ∷ ds) o) next ∙ ap (λ (ds : List Door). let d : Door = record { node = node; file = file } in Some (ds ++ d ∷ [])) same

pub doors-snoc : (mount : Mount) (file node : ℕ) (view : List ℕ) (views : List (List ℕ)) (all : List Door) → doors_at mount file views ≡ Some all → view_of mount view ≡ Some node
    → doors_at mount file (views ++ view ∷ []) ≡ Some (all ++ record { node = node; file = file } ∷ [])
doors-snoc mount file node view [] all is there =
    let none : [] ≡ all = cc in
    ap (λ (o : Option ℕ). option_and_then {T = ℕ} (λ n. option_map {T = List Door} (λ doors. record { node = n; file = file } ∷ doors) (Some [])) o) there
    ∙ ap (λ (ds : List Door). let d : Door = record { node = node; file = file } in Some (ds ++ d ∷ [])) none
doors-snoc mount file node view (first ∷ views) all is there =
    snoc_by mount file node view views (view_of mount first) (doors_at mount file views) (doors_at mount file (views ++ view ∷ [])) all (λ doors rest. doors-snoc mount file node view views doors rest there) is

some_by : (file : ℕ) (first : Option ℕ) (rest : Option (List Door)) → IsSome (option_and_then {T = ℕ} (λ n. option_map {T = List Door} (λ doors. record { node = n; file = file } ∷ doors) rest) first) → IsSome first × IsSome rest
some_by file None rest is = absurd cc
some_by file (Some n) None is = absurd cc
some_by file (Some n) (Some doors) is = (refl, refl)

-- each of the views is there
pub view-there : (mount : Mount) (file : ℕ) (views : List (List ℕ)) (i : ℕ) (view : List ℕ) → IsSome (doors_at mount file views) → i < length views → view ≡ get_or views i view → IsSome (view_of mount view)
view-there mount file [] i view is lt at = absurd (omega arith)
view-there mount file (first ∷ views) zero view is lt at = subst (λ (v : List ℕ). IsSome (view_of mount v)) (sym at) (some_by file (view_of mount first) (doors_at mount file views) is).0
view-there mount file (first ∷ views) (suc i) view is lt at = view-there mount file views i view (some_by file (view_of mount first) (doors_at mount file views) is).1 (omega arith) at

-- and as many doors as views, of the one file
many_by : (mount : Mount) (file : ℕ) (first : Option ℕ) (rest : Option (List Door)) (all : List Door) (n : ℕ) → ((doors : List Door) → rest ≡ Some doors → (length doors ≡ n) × AllByRecursion (λ (d : Door). d.file ≡ file) doors)
    → option_and_then {T = ℕ} (λ node. option_map {T = List Door} (λ doors. record { node = node; file = file } ∷ doors) rest) first ≡ Some all → (length all ≡ suc n) × AllByRecursion (λ (d : Door). d.file ≡ file) all
many_by mount file None rest all n then is = absurd cc
many_by mount file (Some node) None all n then is = absurd cc
many_by mount file (Some node) (Some doors) all n then is =
    let more = then doors refl in
    let same : (let d : Door = record { node = node; file = file } in d ∷ doors) ≡ all = cc in
    subst (λ (ds : List Door). (length ds ≡ suc n) × AllByRecursion (λ (d : Door). d.file ≡ file) ds) same (ap suc more.0, (refl, more.1))

pub doors-many : (mount : Mount) (file : ℕ) (views : List (List ℕ)) (all : List Door) → doors_at mount file views ≡ Some all → (length all ≡ length views) × AllByRecursion (λ (d : Door). d.file ≡ file) all
doors-many mount file [] all is = let none : [] ≡ all = cc in subst (λ (ds : List Door). (length ds ≡ 0) × AllByRecursion (λ (d : Door). d.file ≡ file) ds) none (refl, tt)
doors-many mount file (view ∷ views) all is = many_by mount file (view_of mount view) (doors_at mount file views) all (length views) (λ doors rest. doors-many mount file views doors rest) is

one_file : (file : ℕ) (doors : List Door) → AllByRecursion (λ (d : Door). d.file ≡ file) doors → AreOfOneFile doors
one_file file [] all = tt
one_file file (first ∷ doors) all = same doors all.1
  where
    same : (ds : List Door) → AllByRecursion (λ (d : Door). d.file ≡ file) ds → AllByRecursion (λ (d : Door). d.file ≡ first.file) ds
    same [] rest = tt
    same (d ∷ ds) rest = (rest.0 ∙ sym all.0, same ds rest.1)

pub are-replicas : (mount : Mount) (file : ℕ) (views : List (List ℕ)) (all : List Door) → IsPath views → doors_at mount file views ≡ Some all → AreReplicas all
are-replicas mount file views all path is =
    let many = doors-many mount file views all is in
    let outer = and_parts (leb 1 (length views) && leb (length views) 8) (list_all is_name views) path in
    let inner = and_parts (leb 1 (length views)) (leb (length views) 8) outer.0 in
    let some : 1 ≤ length views = leb-true 1 (length views) inner.0 in
    let few : length views ≤ 8 = leb-true (length views) 8 inner.1 in
    let len = many.0 in
    record { some = omega (arith, some, len); few = omega (arith, few, len); one_file = one_file file all many.1 }

-- AN OPEN BY A DOOR came back, and the others are opened then
pub opens-onward : (mount : Mount) (caller by : ℕ) (old mid new : Knows) (state back left : ClientState) (name : List ℕ) (before : List OpenDoor) (door : Door) (more : List Door) (out : List ℕ) (answer : Answer) (life : ℕ) (said : Reply)
    → CameBack mount caller (opening mount state (by_door (fresh door))) old mid state back out answer → life ≡ life_in answer → by ≡ caller → PlanDone mount by (plan_opens mount name (before ++ open_door door life ∷ []) more back) mid new said left
    → PlanDone mount caller (plan_opens mount name before (door ∷ more) state) old new said left
opens-onward mount caller by old mid new state back left name before door more out answer life said came is same done =
    let request : Request = opening mount state (by_door (fresh door)) in
    let mine = subst (λ (n : ℕ). PlanDone mount n (plan_opens mount name (before ++ open_door door life ∷ []) more back) mid new said left) same done in
    came.onward (λ told. plan_opens mount name (before ++ open_door door (life_in told.answer) ∷ []) more (sent request state)) new said left
    (subst (λ (p : Plan). PlanDone mount caller p mid new said left)
    (ap (λ (s : ClientState). plan_opens mount name (before ++ open_door door life ∷ []) more s) came.left_is
    ∙ ap (λ (n : ℕ). plan_opens mount name (before ++ open_door door n ∷ []) more (sent request state)) (is ∙ ap life_in (sym came.answer_is))) mine)

-- or it ended the line
pub opens-ended : (mount : Mount) (caller : ℕ) (old new : Knows) (state left : ClientState) (name : List ℕ) (before : List OpenDoor) (door : Door) (more : List Door) (said : Reply)
    → ((next : Told → Plan) → PlanDone mount caller (calls (opening mount state (by_door (fresh door))) state next) old new said left) → PlanDone mount caller (plan_opens mount name before (door ∷ more) state) old new said left
opens-ended mount caller old new state left name before door more said made =
    made (λ told. plan_opens mount name (before ++ open_door door (life_in told.answer) ∷ []) more (sent (opening mount state (by_door (fresh door))) state))

-- whether a door is left, by what dropping one answered
pub goes-on : (b : Bool) (more : List OpenDoor) → (more ≡ [] → b ≡ false) → b ≡ true → (next : OpenDoor) × (rest : List OpenDoor) × (more ≡ next ∷ rest)
goes-on b [] last is = let never : true ≡ false = sym is ∙ last refl in absurd cc
goes-on b (next ∷ rest) last is = (next, rest, refl)

pub ends-here : (b : Bool) (more : List OpenDoor) → ((next : OpenDoor) (rest : List OpenDoor) → more ≡ next ∷ rest → b ≡ true) → b ≡ false → more ≡ []
ends-here b [] goes is = refl
ends-here b (next ∷ rest) goes is = let never : true ≡ false = sym (goes next rest refl) ∙ is in absurd cc

pub some-doors : (o : Option (List OpenDoor)) → IsSome o → (doors : List OpenDoor) × (o ≡ Some doors)
some-doors None is = absurd cc
some-doors (Some doors) is = (doors, refl)

-- an access by a door that is the last, or whose life is not over
pub next-said : (mount : Mount) (caller : ℕ) (name : List ℕ) (op : Op) (more : List OpenDoor) (back : ClientState) (t : Told) (pass : Knows) (said : Reply) → (more ≡ []) ⊎ (is_revoked t.answer ≡ false) → said ≡ reply_of t
    → PlanDone mount caller (plan_next mount name op more back t) pass pass said back
next-said mount caller name op more back t pass said why is =
    plan-none mount caller (plan_next mount name op more back t) pass said back (next-ends mount name op more back t why ∙ ap (λ (r : Reply). ends r back) (sym is))

-- an object has one list of doors
pub same-doors : (o : Option (List OpenDoor)) (a b : OpenDoor) (more rest : List OpenDoor) → o ≡ Some (a ∷ more) → o ≡ Some (b ∷ rest) → (a ≡ b) × (more ≡ rest)
same-doors o a b more rest is was =
    let both : Some (a ∷ more) ≡ Some (b ∷ rest) = sym is ∙ was in
    let lists : (a ∷ more) ≡ (b ∷ rest) = cc in
    (cc, cc)
