-- The frames of a question, by the tables of all nodes.
use Rattle.std.specs.Prelude.{◌==◌, false}
use Rattle.std.proofs.Common.{◌≡◌, ℕ, sym, ◌∙◌, ap, subst, refl, List, Option, Some}
use Rattle.tower_core.specs.declared.right.Right.{Right}
use Rattle.tower_core.specs.TreeShape.{TreeShape, parent, IsUpper}
use Rattle.layer_laws.specs.Sent.{down_for, page_above}
use Rattle.layer_laws.specs.Side.{Side, brought, own_after}
use Rattle.page_messages.specs.declared.kinds.Asked.{Asked}
use Rattle.page_messages.specs.declared.paged.PagedFile.{PagedFile}
use Rattle.page_messages.specs.Carried.{asked_down, asked_up}
use Rattle.page_messages.specs.Rights.{IsForPage, asked_right}
use Rattle.page_messages.specs.Written.{asked_by}
use Rattle.page_exchange.specs.Table.{IsLike}
use Rattle.page_exchange.specs.Moved.{AreAskedAt, AreExchangedAt}
use Rattle.page_exchange.specs.Wire.{WentOver, WireSeen}
use Rattle.page_exchange.proofs.Sending.{no_ground}
use Rattle.std.proofs.lemmas.Bool.{eq-eqb}

-- a page that comes to a node that has nothing of it is what it has then
got : (what : Asked) (old new : Side) (bytes : List ℕ) → IsForPage what → old.right ≡ Right.Nothing → IsLike (own_after (asked_right what) (asked_down old.right bytes what) old) new → new.copy ≡ bytes
got Asked.PageInRead old new bytes asks none like = ap (λ (s : Side). s.copy) (like.whole (λ e. cc))
got Asked.PageInWrite old new bytes asks none like = ap (λ (s : Side). s.copy) (like.whole (λ e. cc)) ∙ ap (λ (r : Right). brought (down_for r bytes) old.copy) none
got Asked.PageOut old new bytes asks none like = absurd asks
got Asked.WriteOut old new bytes asks none like = absurd asks
got Asked.Sync old new bytes asks none like = absurd asks
got Asked.Done old new bytes asks none like = absurd asks

pub base_above : (shape : TreeShape) (sides : ℕ → Side) (node : ℕ) (bytes : List ℕ) → parent shape node ≡ 0 → bytes ≡ page_above shape sides bytes node
base_above shape sides node bytes ground = rw (eq-eqb (parent shape node) 0 ground) refl

pub copy_is_above : (shape : TreeShape) (sides : ℕ → Side) (node : ℕ) (base : List ℕ) → IsUpper shape (parent shape node) → (sides (parent shape node)).copy ≡ page_above shape sides base node
copy_is_above shape sides node base above = rw (no_ground shape node above) refl

pub asked_at : (shape : TreeShape) (wire : WireSeen) (file : PagedFile) (node page : ℕ) (what : Asked) (old new : ℕ → ℕ → Side) (base bytes : List ℕ) → bytes ≡ page_above shape (old page) base node
    → AreExchangedAt shape node page (asked_right what) (asked_down (old page node).right bytes what) (asked_up (old page node) what) old new
    → WentOver wire file (asked_by (old page node) bytes page what) → AreAskedAt shape wire file node page what old new
asked_at shape wire file node page what old new base bytes is moved went = record {
  base = base;
  came = λ asks none. got what (old page node) (new page node) bytes asks none moved.own ∙ is;
  went = subst (λ (b : List ℕ). WentOver wire file (asked_by (old page node) b page what)) is went;
}
