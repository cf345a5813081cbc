-- The causes of a refusal of a run's interfaces, and of one behind them.
use Rattle.std.proofs.Common.{◌≡◌, ℕ, List, Option, Result, Ok, Err, IfErr, subst, ap}
use Rattle.std.proofs.Math.Path.{fun_ext}
use Rattle.pager_channel.specs.declared.numbers.Ops.{Ops}
use Rattle.spr_io.specs.Texts.{ShelfSeen}
use Rattle.run_texts.specs.declared.interfaces.TheConstants.{IDL_LIMIT}
use Rattle.run_texts.specs.declared.refusal.Refusal.{Refusal}
use Rattle.run_texts.specs.declared.refusal.Refusal.TheVariants as refusals
use Rattle.stack_accept.specs.Mount.{Mount}
use Rattle.run_texts.specs.Stacks.{IsText, IsMounted, SameTexts}
use Rattle.run_texts.specs.Interfaces.{HasInterfaces, RefusesOps, IsOpsCause}
use Rattle.run_texts.specs.Refusal.{Names, IsStackCause, IsRunCause, IsCause}
use Rattle.run_texts.specs.Generated.{Generation, IsGenerationCause}

module _ (before after : ShelfSeen) (idl text : List ℕ) (calm : after.faults ≡ before.faults) (is : IsText before IDL_LIMIT idl text) where
  ops-cause : (why : Refusal) → RefusesOps text why → IsOpsCause before after idl why
  ops-cause (refusals.Idl place why) h = (calm, (text, is, h))
  ops-cause (refusals.IdlUnfit place why) h = (calm, (text, is, h))
  ops-cause (refusals.IdlMissing which) h = (calm, (text, is, h))
  ops-cause refusals.IdlShelf h = absurd h
  ops-cause refusals.Memory h = calm
  ops-cause refusal h = (calm, (text, is, h))

  pub ops-causes : {T : Type 0} (r : Result T Refusal) → IfErr r (RefusesOps text) → IfErr r (IsOpsCause before after idl)
  ops-causes (Ok x) h = tt
  ops-causes (Err why) h = ops-cause why h

-- behind interfaces that are there, the cause is that of the stack or the script
behind : (before after : ShelfSeen) (names : Names) (ops : Ops) → HasInterfaces before names.idl ops → (why : Refusal) → IsRunCause before after names.stack names.script why → IsCause before after names why
behind before after names ops has (refusals.Idl place why) h = absurd h.1.2
behind before after names ops has (refusals.IdlUnfit place why) h = absurd h.1.2
behind before after names ops has (refusals.IdlMissing which) h = absurd h.1.2
behind before after names ops has refusals.IdlShelf h = absurd h.1.2
behind before after names ops has refusals.Memory h = h
behind before after names ops has refusal h = ((ops, has), h)

made : (List ℕ → Option (Option (List ℕ))) → ℕ → ShelfSeen
made texts faults = record { texts = texts; faults = faults }

shelf-is : (t u : List ℕ → Option (Option (List ℕ))) (m n : ℕ) → t ≡ u → m ≡ n → made t m ≡ made u n
shelf-is t u m n texts faults = subst (λ v. made t m ≡ made v n) texts (ap (λ k. made t k) faults)

same-shelf : (before mid : ShelfSeen) → SameTexts before mid → mid.faults ≡ before.faults → mid ≡ before
unfolding made
same-shelf before mid same calm = shelf-is mid.texts before.texts mid.faults before.faults (fun_ext same) calm

-- the same, where the shelf read the interfaces first
pub behind-interfaces : (before mid after : ShelfSeen) (names : Names) (ops : Ops) → HasInterfaces before names.idl ops → SameTexts before mid → mid.faults ≡ before.faults → (why : Refusal)
    → IsRunCause mid after names.stack names.script why → IsCause before after names why
behind-interfaces before mid after names ops has same calm why h =
    behind before after names ops has why (subst (λ (s : ShelfSeen). IsRunCause s after names.stack names.script why) (same-shelf before mid same calm) h)

-- where the script is made, it is that of the stack
stack-behind : (before after : ShelfSeen) (asked : Generation) (ops : Ops) → HasInterfaces before asked.idl ops → (why : Refusal) → IsStackCause before after asked.stack why → IsGenerationCause before after asked why
stack-behind before after asked ops has (refusals.Idl place why) h = absurd h.1.2
stack-behind before after asked ops has (refusals.IdlUnfit place why) h = absurd h.1.2
stack-behind before after asked ops has (refusals.IdlMissing which) h = absurd h.1.2
stack-behind before after asked ops has refusals.IdlShelf h = absurd h.1.2
stack-behind before after asked ops has refusals.Memory h = h
stack-behind before after asked ops has refusal h = ((ops, has), h)

pub stack-behind-interfaces : (before mid after : ShelfSeen) (asked : Generation) (ops : Ops) → HasInterfaces before asked.idl ops → SameTexts before mid → mid.faults ≡ before.faults → (why : Refusal)
    → IsStackCause mid after asked.stack why → IsGenerationCause before after asked why
stack-behind-interfaces before mid after asked ops has same calm why h =
    stack-behind before after asked ops has why (subst (λ (s : ShelfSeen). IsStackCause s after asked.stack why) (same-shelf before mid same calm) h)

-- the stack is the one that the shelf had first
pub mounted-before : (before mid : ShelfSeen) (name : List ℕ) (mount : Mount) → SameTexts before mid → mid.faults ≡ before.faults → IsMounted mid name mount → IsMounted before name mount
mounted-before before mid name mount same calm is = subst (λ (s : ShelfSeen). IsMounted s name mount) (same-shelf before mid same calm) is
