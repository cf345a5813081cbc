-- The uses of a leaf after a message, and after an access of its own.
use Rattle.std.specs.Prelude.{◌==◌}
use Rattle.std.proofs.Common.{◌≡◌, ◌≢◌, ℕ, false, inl, inr, refl, List}
use Rattle.std.proofs.lemmas.Bool.{eq-eqb}
use Rattle.std.proofs.lemmas.Bool.Decides.{eqb_tells}
use Rattle.tower_core.specs.declared.step.Step.TheVariants.{Reads, Writes}
use Rattle.page_messages.specs.declared.kinds.Asked.{Asked}
use Rattle.page_messages.specs.declared.kinds.Called.{Called}
use Rattle.vmm_cache.specs.Used.{uses_after}
use Rattle.vmm_cache.specs.Uses.{used_last, uses_called}
use Rattle.page_exchange.specs.Steps.{step_asked, step_called}
use Rattle.page_exchange.specs.Table.{uses_asked}

neq-eqb : (a b : ℕ) → a ≢ b → (a == b) ≡ false
neq-eqb a b d = elim (eqb_tells a b) [ inl e ↦ absurd (d e.1) | inr n ↦ n.0 ]

pub asked_after : (what : Asked) (node page : ℕ) (uses : List ℕ) → uses_asked what page uses ≡ uses_after node (step_asked what node) page uses
asked_after Asked.PageInRead node page uses = rw (eq-eqb node node refl) refl
asked_after Asked.PageInWrite node page uses = rw (eq-eqb node node refl) refl
asked_after Asked.PageOut node page uses = rw (eq-eqb node node refl) refl
asked_after Asked.WriteOut node page uses = refl
asked_after Asked.Sync node page uses = refl
asked_after Asked.Done node page uses = refl

pub asked_other : (what : Asked) (m node page : ℕ) (uses : List ℕ) → m ≢ node → uses ≡ uses_after m (step_asked what node) page uses
asked_other Asked.PageInRead m node page uses d = rw (neq-eqb m node d) refl
asked_other Asked.PageInWrite m node page uses d = rw (neq-eqb m node d) refl
asked_other Asked.PageOut m node page uses d = rw (neq-eqb m node d) refl
asked_other Asked.WriteOut m node page uses d = refl
asked_other Asked.Sync m node page uses d = refl
asked_other Asked.Done m node page uses d = refl

pub called_after : (what : Called) (node page : ℕ) (uses : List ℕ) → uses_called what page uses ≡ uses_after node (step_called what node) page uses
called_after Called.FlushBack node page uses = rw (eq-eqb node node refl) refl
called_after Called.DenyWrites node page uses = refl
called_after Called.WriteBack node page uses = refl
called_after Called.DeleteRange node page uses = rw (eq-eqb node node refl) refl
called_after Called.Destroy node page uses = refl

pub called_other : (what : Called) (m node page : ℕ) (uses : List ℕ) → m ≢ node → uses ≡ uses_after m (step_called what node) page uses
called_other Called.FlushBack m node page uses d = rw (neq-eqb m node d) refl
called_other Called.DenyWrites m node page uses d = refl
called_other Called.WriteBack m node page uses d = refl
called_other Called.DeleteRange m node page uses d = rw (neq-eqb m node d) refl
called_other Called.Destroy m node page uses d = refl

pub reads_after : (node page : ℕ) (uses : List ℕ) → used_last page uses ≡ uses_after node (Reads node) page uses
reads_after node page uses = rw (eq-eqb node node refl) refl

pub reads_other : (m node page : ℕ) (uses : List ℕ) → m ≢ node → uses ≡ uses_after m (Reads node) page uses
reads_other m node page uses d = rw (neq-eqb m node d) refl

pub writes_after : (node page : ℕ) (uses : List ℕ) → used_last page uses ≡ uses_after node (Writes node) page uses
writes_after node page uses = rw (eq-eqb node node refl) refl

pub writes_other : (m node page : ℕ) (uses : List ℕ) → m ≢ node → uses ≡ uses_after m (Writes node) page uses
writes_other m node page uses d = rw (neq-eqb m node d) refl
