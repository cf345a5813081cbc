-- The frames of an event are those that its node and the node's parent write for it.
use Rattle.std.specs.Prelude.{replicate}
use Rattle.std.proofs.Common.{◌≡◌, ◌≢◌, ℕ, zero, suc, Bool, true, false, List, [], length, refl, sym, ap, subst, ◌∙◌}
use Rattle.hist_plain.specs.declared.event.Event.TheVariants as events
use Rattle.hist_plain.specs.History.{IsZeroPage}
use Rattle.tower_core.specs.declared.right.Right.{Right}
use Rattle.tower_core.specs.TreeShape.{IsUpper}
use Rattle.layer_laws.specs.Sent.{page_above}
use Rattle.layer_laws.specs.Shown.{AreRights}
use Rattle.page_messages.specs.declared.kinds.Asked.{Asked}
use Rattle.page_messages.specs.declared.kinds.Called.{Called}
use Rattle.page_messages.specs.Letters.{is_zeros}
use Rattle.page_messages.specs.Written.{IsTableOf, asked_by, called_of, wanted}
use Rattle.page_messages.proofs.KeptLaws.{write_some}
use Rattle.page_messages.proofs.MeantLaws.{zeros_are}
use Rattle.page_exchange.specs.Allowed.{grant_asked}
use Rattle.page_exchange.specs.Moved.{AreAskedAt}
use Rattle.page_exchange.specs.Tables.{CarriesDown, CarriesUp}
use Rattle.page_exchange.specs.Wire.{WentOver}
use Rattle.stack_engine.specs.Engine.{EngineSeen, IsNext, IsSound, column_in, file_in, sides_in, state_in, tree_in, wire_in}
use Rattle.stack_engine.specs.Messages.{IsPush, event_asked, event_called, event_granted}
use Rattle.stack_engine.specs.Moves.{FindsZeros, GoesOver}
use Rattle.stack_engine.proofs.Asking as asking

-- a page of zeros is all zeros
all_zeros : (n : ℕ) → is_zeros (replicate n 0) ≡ true
all_zeros zero = refl
all_zeros (suc n) = all_zeros n

zeros_seen : (size : ℕ) (copy above : List ℕ) → copy ≡ above → IsZeroPage size copy → is_zeros above ≡ true
zeros_seen size copy above same zeros = ap is_zeros (sym same ∙ zeros) ∙ all_zeros size

zero_page : (size : ℕ) (copy above : List ℕ) → copy ≡ above → length copy ≡ size → is_zeros above ≡ true → IsZeroPage size copy
zero_page size copy above same long zeros = same ∙ zeros_are above zeros ∙ ap (λ (n : ℕ). replicate n 0) (ap length (sym same) ∙ long)

not_true : (b : Bool) → (b ≡ true → ⊥) → b ≡ false
not_true false never = refl
not_true true never = let f : ⊥ = never refl in absurd f

module _ (old new : EngineSeen) (sound : IsSound old) (node page : ℕ) where
  rights : AreRights (tree_in old) (column_in old page) (sides_in old page)
  rights = sound.true_to.rights page

  table_is : IsUpper (tree_in old) node → (sides_in old page node).right ≢ Right.Nothing → IsTableOf (tree_in old) (state_in old) node page (sides_in old page node)
  table_is upper some = record {
    right = rights.right node upper;
    changed = rights.changed node upper (λ none. some (rights.right node upper ∙ none));
  }

  pub push_over : (what : Asked) → IsPush what → IsNext old (event_asked what node page) → AreAskedAt (tree_in old) (wire_in new) (file_in old) node page what (sides_in old) (sides_in new) → CarriesUp old.tables (wire_in new) node → GoesOver old new (event_asked what node page)
  push_over Asked.PageOut push next asked carried =
      let own = (asking.push_asks old sound node page Asked.PageOut push next) in
      let some : (sides_in old page node).right ≢ Right.Nothing = own.may.own.0 in record {
        base = asked.base;
        came = λ none. absurd (some none);
        went = record { letters = asked_by (sides_in old page node) (page_above (tree_in old) (sides_in old page) asked.base node) page Asked.PageOut; are = refl; written = table_is own.upper some; frames = asked.went };
        carried = carried;
      }
  push_over Asked.WriteOut push next asked carried =
      let own = (asking.push_asks old sound node page Asked.WriteOut push next) in
      let some : (sides_in old page node).right ≢ Right.Nothing = write_some (sides_in old page node).right own.may.own.0 in record {
        base = asked.base;
        came = λ none. absurd (some none);
        went = record { letters = asked_by (sides_in old page node) (page_above (tree_in old) (sides_in old page) asked.base node) page Asked.WriteOut; are = refl; written = table_is own.upper some; frames = asked.went };
        carried = carried;
      }
  push_over Asked.Sync push next asked carried =
      let own = (asking.push_asks old sound node page Asked.Sync push next) in
      let some : (sides_in old page node).right ≢ Right.Nothing = write_some (sides_in old page node).right own.may.own in record {
        base = asked.base;
        came = λ none. absurd (some none);
        went = record { letters = asked_by (sides_in old page node) (page_above (tree_in old) (sides_in old page) asked.base node) page Asked.Sync; are = refl; written = table_is own.upper some; frames = asked.went };
        carried = carried;
      }
  push_over Asked.PageInRead push next asked carried = absurd push
  push_over Asked.PageInWrite push next asked carried = absurd push
  push_over Asked.Done push next asked carried = absurd push

  pub order_over : (what : Called) → what ≢ Called.Destroy → IsNext old (event_called what node page) → WentOver (wire_in new) (file_in old) (called_of (sides_in old page node) page what) → CarriesDown old.tables (wire_in new) node → GoesOver old new (event_called what node page)
  order_over Called.FlushBack other next went carried =
      let own = (asking.order_calls old sound node page Called.FlushBack other next) in
      let some : (sides_in old page node).right ≢ Right.Nothing = write_some (sides_in old page node).right own.may.own.0 in record {
        base = [];
        came = λ none. absurd (some none);
        went = record { letters = called_of (sides_in old page node) page Called.FlushBack; are = refl; written = table_is own.upper some; frames = went };
        carried = carried;
      }
  order_over Called.DenyWrites other next went carried =
      let own = (asking.order_calls old sound node page Called.DenyWrites other next) in
      let some : (sides_in old page node).right ≢ Right.Nothing = write_some (sides_in old page node).right own.may.own.0 in record {
        base = [];
        came = λ none. absurd (some none);
        went = record { letters = called_of (sides_in old page node) page Called.DenyWrites; are = refl; written = table_is own.upper some; frames = went };
        carried = carried;
      }
  order_over Called.WriteBack other next went carried =
      let own = (asking.order_calls old sound node page Called.WriteBack other next) in
      let some : (sides_in old page node).right ≢ Right.Nothing = write_some (sides_in old page node).right own.may.own in record {
        base = [];
        came = λ none. absurd (some none);
        went = record { letters = called_of (sides_in old page node) page Called.WriteBack; are = refl; written = table_is own.upper some; frames = went };
        carried = carried;
      }
  order_over Called.DeleteRange other next went carried =
      let own = (asking.order_calls old sound node page Called.DeleteRange other next) in record {
        base = [];
        came = λ none. let both : Right.Nothing ≡ Right.Read = sym none ∙ own.may.own.0 in cc;
        went = record { letters = called_of (sides_in old page node) page Called.DeleteRange; are = refl; written = tt; frames = went };
        carried = carried;
      }
  order_over Called.Destroy other next went carried = absurd (other refl)

  -- A GRANT of a page, which zeros may be
  module _ (write : Bool) (next : IsNext old (events.PageIn node page write)) (asked : Asked) (asked_is : asked ≡ grant_asked write)
      (went : AreAskedAt (tree_in old) (wire_in new) (file_in old) node page asked (sides_in old) (sides_in new)) (carried : CarriesUp old.tables (wire_in new) node) (long : length (sides_in new page node).copy ≡ (file_in old).page_size) where
    over : AreAskedAt (tree_in old) (wire_in new) (file_in old) node page (grant_asked write) (sides_in old) (sides_in new)
    over = subst (λ (a : Asked). AreAskedAt (tree_in old) (wire_in new) (file_in old) node page a (sides_in old) (sides_in new)) asked_is went

    abbrev above : List ℕ
    above = page_above (tree_in old) (sides_in old page) over.base node

    came : (sides_in old page node).right ≡ Right.Nothing → (sides_in new page node).copy ≡ above
    came = by write over
      where
        by : (w : Bool) (o : AreAskedAt (tree_in old) (wire_in new) (file_in old) node page (grant_asked w) (sides_in old) (sides_in new)) → (sides_in old page node).right ≡ Right.Nothing → (sides_in new page node).copy ≡ page_above (tree_in old) (sides_in old page) o.base node
        by true o = o.came tt
        by false o = o.came tt

    frames : (w : Bool) → grant_asked w ≡ wanted w
    frames true = refl
    frames false = refl

    upper : IsUpper (tree_in old) node
    upper = (asking.grant_asks old sound node page write next).upper

    -- a page for reading goes to a node that has none
    reader : (w : Bool) → IsNext old (events.PageIn node page w) → w ≡ false → (sides_in old page node).right ≡ Right.Nothing
    reader false n e = (asking.grant_asks old sound node page false n).may.own
    reader true n e = absurd cc

    own_right : (sides_in old page node).right ≡ (column_in old page).right node
    own_right = rights.right node upper

    pub grant_over : (zeros : Bool) → (zeros ≡ true → FindsZeros old new node page) → (zeros ≡ false → FindsZeros old new node page → ⊥) → GoesOver old new (event_granted zeros node page write)
    grant_over true found missed = let f = found refl in let none : (sides_in old page node).right ≡ Right.Nothing = own_right ∙ f.nothing in record {
      base = over.base;
      came = came;
      went = record {
        letters = asked_by (sides_in old page node) above page (wanted write);
        are = refl;
        written = (own_right, none, zeros_seen (file_in old).page_size (sides_in new page node).copy above (came none) f.zeros);
        frames = subst (λ (a : Asked). WentOver (wire_in new) (file_in old) (asked_by (sides_in old page node) above page a)) (frames write) over.went;
      };
      carried = carried;
    }
    grant_over false found missed = record {
      base = over.base;
      came = came;
      went = record {
        letters = asked_by (sides_in old page node) above page (wanted write);
        are = refl;
        written = (
          own_right,
          reader write next,
          (λ none. not_true (is_zeros above) (λ z. missed refl (record {
            nothing = sym own_right ∙ none;
            zeros = zero_page (file_in old).page_size (sides_in new page node).copy above (came none) long z;
          }))),
        );
        frames = subst (λ (a : Asked). WentOver (wire_in new) (file_in old) (asked_by (sides_in old page node) above page a)) (frames write) over.went;
      };
      carried = carried;
    }
