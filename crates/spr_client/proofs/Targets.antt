-- Where the calls of a client's objects go.
use Rattle.std.proofs.Common.{◌≡◌, ℕ, List, [], Option, Some, None, IfSome, refl, sym, ap, subst, ◌∙◌, ◌⊎◌, ⊎_elim}
use Rattle.std.specs.List.{AllByRecursion}
use Rattle.std.specs.Option.{option_map}
use Rattle.stack_accept.specs.Mount.{Mount}
use Rattle.stack_accept.specs.Sound.{IsMount}
use Rattle.name_context.specs.Names.{Kept}
use Rattle.client_objects.specs.declared.state.ClientState.{ClientState}
use Rattle.client_objects.specs.declared.target.Target.{Target}
use Rattle.client_objects.specs.declared.target.Found.{Found}
use Rattle.client_objects.specs.Objects.{OpenObject, IsOnStack, object_of, with_object}
use Rattle.client_objects.specs.Stored.{received}
use Rattle.client_objects.specs.Found.{node_of, found_on}
use Rattle.client_objects.proofs.FoundLaws.{found_leads}
use Rattle.client_objects.proofs.OpenLaws.{on_stack-object_of, on_stack-with_object}
use Rattle.client_objects.proofs.ReceivedLaws.{received_leads}
use Rattle.script_meaning.specs.Plan.{carrying, holding}
use Rattle.spr_client.specs.Lines.{IsKept, IsOnMachine, IsTarget}

-- what leads to a view and a file of the stack is found there
target_is : (mount : Mount) (machine : ℕ) (target : Target) (name : List ℕ) → IsMount mount → IsOnStack mount (record { name = name; target = target; word = [] }) → IsTarget mount (found_on mount machine target)
target_is mount machine target name sound on =
    let leads = found_leads mount machine target sound on.view in
    record { chosen = on.chosen; file = on.file; view = on.view; above = leads.above; node = leads.inside }

target_by : (mount : Mount) (machine : ℕ) (objects : List OpenObject) (name : List ℕ) (target : Option Target) → IsMount mount → AllByRecursion (IsOnStack mount) objects → object_of name objects ≡ target
    → IfSome (option_map (found_on mount machine) target) (IsTarget mount)
target_by mount machine objects name None sound on is = tt
target_by mount machine objects name (Some target) sound on is = target_is mount machine target name sound (on_stack-object_of mount objects name target on is)

-- so are the objects of a client
pub found_target : (mount : Mount) (machine : ℕ) (objects : List OpenObject) (name : List ℕ) (found : Option Found) → IsMount mount → AllByRecursion (IsOnStack mount) objects
    → found ≡ option_map (found_on mount machine) (object_of name objects) → IfSome found (IsTarget mount)
found_target mount machine objects name found sound on is =
    subst (λ (o : Option Found). IfSome o (IsTarget mount)) (sym is) (target_by mount machine objects name (object_of name objects) sound on refl)

-- and what is received
pub received_target : (mount : Mount) (machine : ℕ) (kept : Option Kept) (found : Found) → IsMount mount → received mount kept ≡ Some found.target → found ≡ found_on mount machine found.target → IsTarget mount found
received_target mount machine kept found sound is node =
    let leads = received_leads mount kept found.target is in
    subst (λ (f : Found). IsTarget mount f) (sym node) (target_is mount machine found.target [] sound (record { view = leads.view; file = leads.file; chosen = leads.chosen }))

-- nothing is found where no object is
pub found-none : (mount : Mount) (machine : ℕ) (o : Option Target) → option_map (found_on mount machine) o ≡ None → o ≡ None
found-none mount machine None is = refl
found-none mount machine (Some target) is = absurd cc

same_found : (f g : Found) → Some f ≡ Some g → f ≡ g
same_found f g is = cc

-- an object that is found is there, and its calls go to its node
pub found-some : (mount : Mount) (machine : ℕ) (o : Option Target) (found : Found) → option_map (found_on mount machine) o ≡ Some found → (o ≡ Some found.target) × (found.node ≡ node_of mount machine found.target)
found-some mount machine None found is = absurd cc
found-some mount machine (Some target) found is =
    let same : found_on mount machine target ≡ found = same_found (found_on mount machine target) found is in
    let there : target ≡ found.target = ap (λ (f : Found). f.target) same in
    (ap (λ (t : Target). Some t) there, sym (ap (λ (f : Found). f.node) same) ∙ ap (node_of mount machine) there)

-- the same client with these objects
on_machine-holding : (mount : Mount) (state : ClientState) (new : List OpenObject) → IsOnMachine mount state → AllByRecursion (IsOnStack mount) new → IsOnMachine mount (holding state new)
on_machine-holding mount state new on all = record { machine = on.machine; objects = all; replicas = on.replicas; regions = on.regions }

-- a client with one more object of the stack
pub on_machine-with : (mount : Mount) (state : ClientState) (name word : List ℕ) (target : Target) (kept : Option Kept) (life : ℕ) → IsOnMachine mount state → received mount kept ≡ Some target
    → IsOnMachine mount (holding state (with_object state.objects name (record target { life = life }) word))
on_machine-with mount state name word target kept life on is =
    let leads = received_leads mount kept target is in
    on_machine-holding mount state (with_object state.objects name (record target { life = life }) word) on
    (on_stack-with_object mount state.objects name word (record target { life = life }) on.objects leads.view leads.file leads.chosen)

pub on_machine-copy : (mount : Mount) (state : ClientState) (new : List OpenObject) (name other word : List ℕ) (target : Target) → IsOnMachine mount state → object_of name state.objects ≡ Some target
    → new ≡ with_object state.objects other target word → IsOnMachine mount (holding state new)
on_machine-copy mount state new name other word target on found is =
    let leads = on_stack-object_of mount state.objects name target on.objects found in
    on_machine-holding mount state new on
    (subst (λ (os : List OpenObject). AllByRecursion (IsOnStack mount) os) (sym is) (on_stack-with_object mount state.objects other word target on.objects leads.view leads.file leads.chosen))

-- the same client with this carrier
pub on_machine-carrying : (mount : Mount) (state left : ClientState) → left ≡ carrying state left.carrier → IsOnMachine mount state → IsOnMachine mount left
on_machine-carrying mount state left is on =
    subst (λ (s : ClientState). IsOnMachine mount s) (sym is) (record { machine = on.machine; objects = on.objects; replicas = on.replicas; regions = on.regions })

-- a client whose last object was kept, of some life, or given up
pub on_machine-either : (mount : Mount) (left state : ClientState) (name word : List ℕ) (target : Target) (kept : Option Kept) → IsOnMachine mount state
    → received mount kept ≡ Some target → IsKept state left state.objects name target word → IsOnMachine mount left
on_machine-either mount left state name word target kept on is either =
    ⊎_elim
    (λ gone. on_machine-carrying mount (holding state state.objects) left gone on)
    (λ held. on_machine-carrying mount (holding state (with_object state.objects name (record target { life = held.0 }) word)) left held.1 (on_machine-with mount state name word target kept held.0 on is)) either
