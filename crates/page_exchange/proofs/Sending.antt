-- An exchange is a step of the tables of all nodes.
use Rattle.std.specs.Prelude.{◌==◌, false, slice_get, IsSome, OnOk, OnErr}
use Rattle.std.proofs.Common.{◌≡◌, ◌≢◌, ℕ, ◌<◌, inl, inr, sym, ◌∙◌, ap, subst, refl, arith, true, List, Option, Some, None, Result, Ok, Err}
use Rattle.std.proofs.lemmas.Bool.{eq-eqb}
use Rattle.std.proofs.lemmas.Bool.Decides.{eqb_tells}
use Rattle.std.proofs.lemmas.Option.{slice_get_within}
use Rattle.page_ground.specs.Seen.{ReadsPage}
use Rattle.tower_core.specs.declared.right.Right.{Right}
use Rattle.tower_core.specs.TreeShape.{TreeShape, parent, IsUpper}
use Rattle.tower_core.specs.Column.{updated}
use Rattle.tower_core.specs.declared.step.Step.{Step}
use Rattle.tower_core.specs.declared.step.Step.TheVariants.{Grants, PagesOut, Denies, Pushes, Flushes, Deletes}
use Rattle.tower_core.proofs.StepLaw.{updated-same, updated-other}
use Rattle.layer_laws.specs.Side.{Side, own_after}
use Rattle.layer_laws.specs.Sent.{AreExchanged, AreSent, page_above, down_for, pushed_by}
use Rattle.page_messages.proofs.NodeSets.{same_or_not}
use Rattle.page_exchange.specs.Table.{IsLike}
use Rattle.page_exchange.proofs.Owns.{like_same}
use Rattle.page_messages.specs.declared.kinds.Asked.{Asked}
use Rattle.page_messages.specs.declared.kinds.Called.{Called}
use Rattle.page_messages.specs.Carried.{asked_down, asked_up, called_up}
use Rattle.page_messages.specs.Rights.{IsForPage, asked_right, called_right}
use Rattle.page_messages.specs.Rules.{MayAsk}
use Rattle.page_exchange.specs.Ground.{Tells}
use Rattle.page_exchange.specs.Moved.{AreExchangedAt}
use Rattle.page_exchange.specs.Steps.{AreLike, AreSentAt, IsSent, NeedsGround, up_from, given_up, step_asked, step_called}
use Rattle.page_exchange.proofs.Telling.{told_read}

-- what a grant brings, where the bytes are those of the page above
down_same : (right : Right) (a b : List ℕ) → (right ≡ Right.Nothing → a ≡ b) → down_for right a ≡ down_for right b
down_same Right.Nothing a b same = ap Some (same refl)
down_same Right.Read a b same = refl
down_same Right.Write a b same = refl

down_some : (right : Right) (a b : List ℕ) → right ≡ Right.Nothing → a ≡ b → Some a ≡ down_for right b
down_some Right.Nothing a b none same = ap Some same
down_some Right.Read a b none same = absurd cc
down_some Right.Write a b none same = absurd cc

-- the bytes of a grant are the page above, if that is the ground's where the ground tells its pages
abbrev pub IsAbove : TreeShape → Option (List (List ℕ)) → ℕ → (ℕ → Side) → ℕ → Asked → List ℕ → Type 0
IsAbove shape told page sides node what bytes = (base : ℕ → List ℕ) → (parent shape node ≡ 0 → IsSome told × Tells told base) → IsForPage what → (sides node).right ≡ Right.Nothing → bytes ≡ page_above shape sides (base page) node

-- the tables as the exchange makes them, of which each node keeps its part
module _ (shape : TreeShape) (node page : ℕ) (right : Right) (down up : Option (List ℕ)) (old new : ℕ → ℕ → Side) (x : AreExchangedAt shape node page right down up old new) (apart : parent shape node < node) where
  abbrev made : ℕ → Side
  made = updated (new page) node (own_after right down (old page node))

  not_own : parent shape node ≢ node
  not_own e = absurd (omega (arith, apart, e))

  made_exchanged : AreExchanged shape node right down up (old page) made
  made_exchanged = record {
    own = updated-same (new page) node (own_after right down (old page node));
    above = λ uq. updated-other (new page) node (own_after right down (old page node)) (parent shape node) not_own ∙ x.above uq;
    others = λ m d d'. updated-other (new page) node (own_after right down (old page node)) m d ∙ x.others m d d';
  }

  made_kept : AreLike made (new page)
  made_kept m = elim (same_or_not m node) [
    | inl e ↦ subst (λ (k : ℕ). IsLike (made k) (new page k)) (sym e) (subst (λ (t : Side). IsLike t (new page node)) (sym (updated-same (new page) node (own_after right down (old page node)))) x.own)
    | inr d ↦ like_same (made m) (new page m) (sym (updated-other (new page) node (own_after right down (old page node)) m d))
  ]

  pub sent_as : (brings : Option (List ℕ)) (step : Step) → (AreExchanged shape node right down up (old page) made → AreSent shape brings step (old page) made) → AreSentAt shape page brings step old new
  sent_as brings step f = record { to = made; here = f made_exchanged; kept = made_kept; others = x.pages }

pub asked_sent : (shape : TreeShape) (told : Option (List (List ℕ))) (page node : ℕ) (what : Asked) (old new : ℕ → ℕ → Side) (bytes : List ℕ) → what ≢ Asked.Done → parent shape node < node
    → MayAsk (old page node) what → IsAbove shape told page (old page) node what bytes
    → AreExchangedAt shape node page (asked_right what) (asked_down (old page node).right bytes what) (asked_up (old page node) what) old new → IsSent shape told page (step_asked what node) old new
asked_sent shape told page node Asked.PageInRead old new bytes of_page apart may is x = record {
  brings = Some bytes;
  sent = sent_as shape node page Right.Read (Some bytes) None old new x apart (Some bytes) (Grants node false) (λ e. e);
  brought = λ base next tells. down_some (old page node).right bytes (page_above shape (old page) (base page) node) may (is base (λ ground. tells (ground, may)) tt may);
}
asked_sent shape told page node Asked.PageInWrite old new bytes of_page apart may is x = record {
  brings = down_for (old page node).right bytes;
  sent = sent_as shape node page Right.Write (down_for (old page node).right bytes) None old new x apart (down_for (old page node).right bytes) (Grants node true) (λ e. e);
  brought = λ base next tells. down_same (old page node).right bytes (page_above shape (old page) (base page) node) (λ none. is base (λ ground. tells (ground, none)) tt none);
}
asked_sent shape told page node Asked.PageOut old new bytes of_page apart may is x = record { brings = None; sent = sent_as shape node page Right.Nothing None (pushed_by (old page node)) old new x apart None (PagesOut node) (λ e. e); brought = λ base next tells. tt }
asked_sent shape told page node Asked.WriteOut old new bytes of_page apart may is x = record { brings = None; sent = sent_as shape node page Right.Read None (pushed_by (old page node)) old new x apart None (Denies node) (λ e. e); brought = λ base next tells. tt }
asked_sent shape told page node Asked.Sync old new bytes of_page apart may is x = record { brings = None; sent = sent_as shape node page Right.Write None (pushed_by (old page node)) old new x apart None (Pushes node) (λ e. e); brought = λ base next tells. tt }
asked_sent shape told page node Asked.Done old new bytes of_page apart may is x = absurd (of_page refl)

pub called_sent : (shape : TreeShape) (told : Option (List (List ℕ))) (page node : ℕ) (what : Called) (old new : ℕ → ℕ → Side) → what ≢ Called.Destroy → parent shape node < node
    → AreExchangedAt shape node page (called_right what) None (called_up (old page node) what) old new → IsSent shape told page (step_called what node) old new
called_sent shape told page node Called.FlushBack old new of_page apart x = record { brings = None; sent = sent_as shape node page Right.Nothing None (pushed_by (old page node)) old new x apart None (Flushes node) (λ e. e); brought = λ base next tells. tt }
called_sent shape told page node Called.DenyWrites old new of_page apart x = record { brings = None; sent = sent_as shape node page Right.Read None (pushed_by (old page node)) old new x apart None (Denies node) (λ e. e); brought = λ base next tells. tt }
called_sent shape told page node Called.WriteBack old new of_page apart x = record { brings = None; sent = sent_as shape node page Right.Write None (pushed_by (old page node)) old new x apart None (Pushes node) (λ e. e); brought = λ base next tells. tt }
called_sent shape told page node Called.DeleteRange old new of_page apart x = record { brings = None; sent = sent_as shape node page Right.Nothing None None old new x apart None (Deletes node) (λ e. e); brought = λ base next tells. tt }
called_sent shape told page node Called.Destroy old new of_page apart x = absurd (of_page refl)

-- THE PARENT IS A NODE: the bytes are its copy, and nothing comes up to the ground
pub no_ground : (shape : TreeShape) (node : ℕ) → IsUpper shape (parent shape node) → (parent shape node == 0) ≡ false
no_ground shape node above = elim (eqb_tells (parent shape node) 0) [
  | inl same ↦ let e = same.1 in let a = above.above in absurd (omega (arith, e, a))
  | inr other ↦ other.0
]

pub copy_above : (shape : TreeShape) (told : Option (List (List ℕ))) (page : ℕ) (sides : ℕ → Side) (node : ℕ) (what : Asked) → IsUpper shape (parent shape node) → IsAbove shape told page sides node what (sides (parent shape node)).copy
copy_above shape told page sides node what above base tells asks none = rw (no_ground shape node above) refl

up_none : (shape : TreeShape) (node : ℕ) (sides : ℕ → Side) → IsUpper shape (parent shape node) → up_from shape node sides ≡ None
up_none shape node sides above = rw (no_ground shape node above) refl

pub asked_none : (shape : TreeShape) (node : ℕ) (what : Asked) (sides : ℕ → Side) → IsUpper shape (parent shape node) → given_up shape (step_asked what node) sides ≡ None
asked_none shape node Asked.PageInRead sides above = refl
asked_none shape node Asked.PageInWrite sides above = refl
asked_none shape node Asked.PageOut sides above = up_none shape node sides above
asked_none shape node Asked.WriteOut sides above = up_none shape node sides above
asked_none shape node Asked.Sync sides above = up_none shape node sides above
asked_none shape node Asked.Done sides above = refl

pub called_none : (shape : TreeShape) (node : ℕ) (what : Called) (sides : ℕ → Side) → IsUpper shape (parent shape node) → given_up shape (step_called what node) sides ≡ None
called_none shape node Called.FlushBack sides above = up_none shape node sides above
called_none shape node Called.DenyWrites sides above = up_none shape node sides above
called_none shape node Called.WriteBack sides above = up_none shape node sides above
called_none shape node Called.DeleteRange sides above = refl
called_none shape node Called.Destroy sides above = refl

-- THE PARENT IS THE GROUND: the bytes are the ground's page, and what the node gives comes up to it
pub read_above : (shape : TreeShape) (told : Option (List (List ℕ))) (page : ℕ) (sides : ℕ → Side) (node : ℕ) (what : Asked) (bytes : List ℕ) → parent shape node ≡ 0
    → (IsForPage what → (sides node).right ≡ Right.Nothing → ReadsPage told page bytes) → IsAbove shape told page sides node what bytes
read_above shape None page sides node what bytes ground read base tells asks none = absurd (let both : false ≡ true = (tells ground).0 in cc)
read_above shape (Some ps) page sides node what bytes ground read base tells asks none =
    let there : slice_get ps page ≡ Some bytes = read asks none in
    let told : IsSome (Some ps) × Tells (Some ps) base = tells ground in
    rw ground (told_read (Some ps) base page bytes told.1 told.0 (slice_get_within ps page bytes there) there)

pub on_ok : {A E : Type 0} (r : Result A E) {P Q : Type 0} → (P → Q) → OnOk r P → OnOk r Q
on_ok (Ok x) f p = f p
on_ok (Err e) f p = p

pub on_err : {A E : Type 0} (r : Result A E) {P Q : Type 0} → (P → Q) → OnErr r P → OnErr r Q
on_err (Ok x) f p = p
on_err (Err e) f p = f p

-- what an order takes up to the ground
pub called_given : (shape : TreeShape) (node : ℕ) (what : Called) (sides : ℕ → Side) → parent shape node ≡ 0 → called_up (sides node) what ≡ given_up shape (step_called what node) sides
called_given shape node Called.FlushBack sides ground = rw (eq-eqb (parent shape node) 0 ground) refl
called_given shape node Called.DenyWrites sides ground = rw (eq-eqb (parent shape node) 0 ground) refl
called_given shape node Called.WriteBack sides ground = rw (eq-eqb (parent shape node) 0 ground) refl
called_given shape node Called.DeleteRange sides ground = refl
called_given shape node Called.Destroy sides ground = refl

-- WHAT NEEDS NO GROUND: no page is asked for that the node has not, and nothing comes up
none_up : (up : Option (List ℕ)) → (IsSome up → ⊥) → up ≡ None
none_up None needless = refl
none_up (Some bytes) needless = absurd (needless refl)

asked_given : (shape : TreeShape) (node : ℕ) (what : Asked) (sides : ℕ → Side) → parent shape node ≡ 0 → asked_up (sides node) what ≡ given_up shape (step_asked what node) sides
asked_given shape node Asked.PageInRead sides ground = refl
asked_given shape node Asked.PageInWrite sides ground = refl
asked_given shape node Asked.PageOut sides ground = rw (eq-eqb (parent shape node) 0 ground) refl
asked_given shape node Asked.WriteOut sides ground = rw (eq-eqb (parent shape node) 0 ground) refl
asked_given shape node Asked.Sync sides ground = rw (eq-eqb (parent shape node) 0 ground) refl
asked_given shape node Asked.Done sides ground = refl

pub asked_has : (shape : TreeShape) (node : ℕ) (what : Asked) (sides : ℕ → Side) → parent shape node ≡ 0 → (NeedsGround shape (step_asked what node) sides → ⊥) → IsForPage what → (sides node).right ≢ Right.Nothing
asked_has shape node Asked.PageInRead sides ground needless asks none = needless (ground, none)
asked_has shape node Asked.PageInWrite sides ground needless asks none = needless (ground, none)
asked_has shape node Asked.PageOut sides ground needless asks none = asks
asked_has shape node Asked.WriteOut sides ground needless asks none = asks
asked_has shape node Asked.Sync sides ground needless asks none = asks
asked_has shape node Asked.Done sides ground needless asks none = asks

pub asked_nothing : (shape : TreeShape) (node : ℕ) (what : Asked) (sides : ℕ → Side) → parent shape node ≡ 0 → (NeedsGround shape (step_asked what node) sides → ⊥) → asked_up (sides node) what ≡ None
asked_nothing shape node Asked.PageInRead sides ground needless = refl
asked_nothing shape node Asked.PageInWrite sides ground needless = refl
asked_nothing shape node Asked.PageOut sides ground needless = asked_given shape node Asked.PageOut sides ground ∙ none_up (up_from shape node sides) needless
asked_nothing shape node Asked.WriteOut sides ground needless = asked_given shape node Asked.WriteOut sides ground ∙ none_up (up_from shape node sides) needless
asked_nothing shape node Asked.Sync sides ground needless = asked_given shape node Asked.Sync sides ground ∙ none_up (up_from shape node sides) needless
asked_nothing shape node Asked.Done sides ground needless = refl

pub called_nothing : (shape : TreeShape) (node : ℕ) (what : Called) (sides : ℕ → Side) → parent shape node ≡ 0 → (NeedsGround shape (step_called what node) sides → ⊥) → called_up (sides node) what ≡ None
called_nothing shape node Called.FlushBack sides ground needless = called_given shape node Called.FlushBack sides ground ∙ none_up (up_from shape node sides) needless
called_nothing shape node Called.DenyWrites sides ground needless = called_given shape node Called.DenyWrites sides ground ∙ none_up (up_from shape node sides) needless
called_nothing shape node Called.WriteBack sides ground needless = called_given shape node Called.WriteBack sides ground ∙ none_up (up_from shape node sides) needless
called_nothing shape node Called.DeleteRange sides ground needless = refl
called_nothing shape node Called.Destroy sides ground needless = refl
