-- What the trail allows, the tables allow.
use Rattle.std.proofs.Common.{◌≡◌, ◌≢◌, ℕ, ◌⊎◌, inl, inr, sym, ◌∙◌, refl, Bool, true, false}
use Rattle.tower_core.specs.declared.right.Right.{Right}
use Rattle.tower_core.specs.declared.step.Step.TheVariants.{Reads, Writes, Grants, PagesOut, Pushes, Denies, Flushes, Deletes}
use Rattle.tower_core.specs.TreeShape.{TreeShape, parent, IsUpper, IsChild}
use Rattle.tower_core.specs.Column.{Column, IsCoherent, MayStep, NoChildWrites, NoChildHolds, NoSiblingHolds}
use Rattle.layer_laws.specs.Side.{Side}
use Rattle.layer_laws.specs.Shown.{AreRights}
use Rattle.layer_laws.proofs.HandOvers.{differs-same}
use Rattle.page_messages.specs.declared.kinds.Asked.{Asked}
use Rattle.page_messages.specs.declared.kinds.Called.{Called}
use Rattle.page_messages.specs.Rules.{NoKidHolds, NoKidWrites, NoOtherHolds}
use Rattle.page_messages.proofs.KeptLaws.{write_some, read_some}
use Rattle.page_exchange.specs.Allowed.{grant_asked, AllowAsking, AllowCalling, AllowsReading, AllowsWriting}

nothing_or : (r : Right) → (r ≡ Right.Nothing) ⊎ (r ≢ Right.Nothing)
nothing_or Right.Nothing = inl refl
nothing_or Right.Read = inr (read_some Right.Read refl)
nothing_or Right.Write = inr (write_some Right.Write refl)

module _ (shape : TreeShape) (col : Column) (sides : ℕ → Side) (node : ℕ) (shown : AreRights shape col sides) (upper : IsUpper shape node) where
  no_kid_writes : (n : ℕ) → IsUpper shape n → NoChildWrites shape col n → NoKidWrites (sides n)
  no_kid_writes n un none c e = let ic = shown.strays n c un (write_some ((sides n).kids c) e) in none c ic (sym (shown.kids n c un ic) ∙ e)

  no_kid_holds : (n : ℕ) → IsUpper shape n → NoChildHolds shape col n → NoKidHolds (sides n)
  no_kid_holds n un none c = elim (nothing_or ((sides n).kids c)) [
    | inl e ↦ e
    | inr some ↦ let ic = shown.strays n c un some in shown.kids n c un ic ∙ none c ic
  ]

  child : IsChild shape node (parent shape node)
  child = record { upper = upper; hangs = refl }

  no_other : IsUpper shape (parent shape node) → NoSiblingHolds shape col node → NoOtherHolds (sides (parent shape node)) node
  no_other uq none c d = elim (nothing_or ((sides (parent shape node)).kids c)) [
    | inl e ↦ e
    | inr some ↦ let ic = shown.strays (parent shape node) c uq some in shown.kids (parent shape node) c uq ic ∙ none c ic d
  ]

  own_is : (sides node).right ≡ col.right node
  own_is = shown.right node upper

  kid_is : IsUpper shape (parent shape node) → (sides (parent shape node)).kids node ≡ col.right node
  kid_is uq = shown.kids (parent shape node) node uq child

  pub known : IsUpper shape (parent shape node) → (sides (parent shape node)).kids node ≡ (sides node).right
  known uq = kid_is uq ∙ sym own_is

  pub reads : MayStep shape col (Reads node) → AllowsReading (sides node)
  reads may = record { right = λ e. may.0 (sym own_is ∙ e); kids = no_kid_writes node upper may.1 }

  pub writes : MayStep shape col (Writes node) → AllowsWriting (sides node)
  writes may = record { right = own_is ∙ may.0; kids = no_kid_holds node upper may.1 }

  pub grants : (write full : Bool) → MayStep shape col (Grants node write) → AllowAsking shape sides node full (grant_asked write)
  grants false full may = record {
    own = own_is ∙ may.0;
    above = λ uq. ((λ e. may.1 (sym (shown.right (parent shape node) uq) ∙ e)), kid_is uq ∙ may.0, no_kid_writes (parent shape node) uq may.2);
  }
  grants true full may = record {
    own = λ e. may.0 (sym own_is ∙ e);
    above = λ uq. (shown.right (parent shape node) uq ∙ may.1, (λ e. may.0 (sym (kid_is uq) ∙ e)), no_other uq may.2);
  }

  pub denies : (full : Bool) → MayStep shape col (Denies node) → AllowAsking shape sides node full Asked.WriteOut × AllowCalling shape sides node Called.DenyWrites
  denies full may = (
    record { own = (own_is ∙ may.0, no_kid_writes node upper may.1); above = λ uq. kid_is uq ∙ may.0 },
    record { own = (own_is ∙ may.0, no_kid_writes node upper may.1); above = λ uq. kid_is uq ∙ may.0 },
  )

  pub pushes : (full : Bool) → MayStep shape col (Pushes node) → AllowAsking shape sides node full Asked.Sync × AllowCalling shape sides node Called.WriteBack
  pushes full may = (record { own = own_is ∙ may; above = λ uq. kid_is uq ∙ may }, record { own = own_is ∙ may; above = λ uq. kid_is uq ∙ may })

  pub flushes : MayStep shape col (Flushes node) → AllowCalling shape sides node Called.FlushBack
  flushes may = record { own = (own_is ∙ may.0, no_kid_holds node upper may.1); above = λ uq. kid_is uq ∙ may.0 }

  pub deletes : MayStep shape col (Deletes node) → AllowCalling shape sides node Called.DeleteRange
  deletes may = record { own = (own_is ∙ may.0, no_kid_holds node upper may.1); above = λ uq. kid_is uq ∙ may.0 }

  -- who reads a page has not changed it
  changed_writes : (len : ℕ) → IsCoherent shape len col → (r : Right) → col.right node ≡ r → r ≢ Right.Nothing → (sides node).changed ≡ true → col.right node ≡ Right.Write
  changed_writes len coh Right.Nothing e some full = absurd (some refl)
  changed_writes len coh Right.Read e some full =
      let same : (sides node).changed ≡ false = shown.changed node upper (λ n. read_some (col.right node) e n) ∙ differs-same (col.at node) (col.at (parent shape node)) (coh.reading node upper e) in
      absurd (let no : true ≡ false = sym full ∙ same in let f : ⊥ = cc in f)
  changed_writes len coh Right.Write e some full = e

  pub pages_out : (len : ℕ) → IsCoherent shape len col → MayStep shape col (PagesOut node) → AllowAsking shape sides node (sides node).changed Asked.PageOut
  pages_out len coh may = record {
    own = ((λ e. may.0 (sym own_is ∙ e)), no_kid_holds node upper may.1);
    above = λ uq. ((λ e. may.0 (sym (kid_is uq) ∙ e)), λ full. kid_is uq ∙ changed_writes len coh (col.right node) refl may.0 full);
  }

  pub ends : (full : Bool) → col.right node ≡ Right.Nothing → NoChildHolds shape col node → AllowAsking shape sides node full Asked.Done × AllowCalling shape sides node Called.Destroy
  ends full none kids = (
    record { own = (own_is ∙ none, no_kid_holds node upper kids); above = λ uq. kid_is uq ∙ none },
    record { own = (own_is ∙ none, no_kid_holds node upper kids); above = λ uq. kid_is uq ∙ none },
  )
