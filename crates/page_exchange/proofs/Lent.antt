-- The list of the tables after it was lent, as a slice, to an exchange of a node and its parent.
use Rattle.std.proofs.Common.{◌≡◌, ◌≢◌, ℕ, ◌<◌, ◌++◌, sym, ◌∙◌, subst, List, [], length, take, drop, Option, None}
use Rattle.std.proofs.lemmas.List.{take_at}
use Rattle.tower_core.specs.TreeShape.{TreeShape, parent, IsUpper}
use Rattle.page_messages.specs.declared.kinds.Asked.{Asked}
use Rattle.page_messages.specs.declared.kinds.Called.{Called}
use Rattle.page_messages.specs.declared.paged.PagedFile.{PagedFile}
use Rattle.page_messages.specs.Carried.{asked_down, asked_up, called_up}
use Rattle.page_messages.specs.Rights.{asked_right, called_right}
use Rattle.page_exchange.specs.declared.table.Table.{Table}
use Rattle.page_messages.specs.Rules.{MayAsk}
use Rattle.tower_core.specs.declared.step.Step.{Step}
use Rattle.page_exchange.specs.Moved.{AreAskedAt, AreExchangedAt}
use Rattle.page_exchange.specs.Wire.{WentOver, WireSeen}
use Rattle.page_messages.specs.Written.{asked_by, called_of}
use Rattle.page_exchange.proofs.Going.{asked_at, copy_is_above}
use Rattle.page_exchange.specs.Steps.{IsSent, step_asked, step_called}
use Rattle.page_exchange.specs.Listed.{sides_in, uses_in, AreSameTables, AreTablesOf, StayTables, UsesFollow}
use Rattle.page_exchange.proofs.Sending.{asked_sent, called_sent, copy_above}

-- the list is xs before, mid as the slice that is lent, ys as it comes back
module _ (shape : TreeShape) (file : PagedFile) (xs mid ys : List Table) (n : ℕ) (tables : AreTablesOf shape file xs) (long : n ≡ length xs) (same : mid ≡ xs) (stay : StayTables shape mid ys) where
  stayed : AreTablesOf shape file ys
  stayed = stay file (subst (AreTablesOf shape file) (sym same) tables)

  back_is : take n (ys ++ drop (length ys) xs) ≡ ys
  back_is = take_at ys (drop (length ys) xs) n (stayed.many ∙ sym tables.many ∙ sym long)

  pub tables_back : AreTablesOf shape file (take n (ys ++ drop (length ys) xs))
  tables_back = subst (AreTablesOf shape file) (sym back_is) stayed

  module _ (page node : ℕ) (apart : parent shape node < node) where
    pub asked_back : (what : Asked) → what ≢ Asked.Done → MayAsk (sides_in xs page node) what → IsUpper shape (parent shape node)
        → AreExchangedAt shape node page (asked_right what) (asked_down (sides_in mid page node).right (sides_in mid page (parent shape node)).copy what) (asked_up (sides_in mid page node) what) (sides_in mid) (sides_in ys)
        → (told : Option (List (List ℕ))) → IsSent shape told page (step_asked what node) (sides_in xs) (sides_in (take n (ys ++ drop (length ys) xs)))
    asked_back what of_page may above x told =
        let here = subst (λ (l : List Table).
        AreExchangedAt shape node page (asked_right what) (asked_down (sides_in l page node).right (sides_in l page (parent shape node)).copy what) (asked_up (sides_in l page node) what) (sides_in l) (sides_in ys)) same x in
        subst (λ (l : List Table). IsSent shape told page (step_asked what node) (sides_in xs) (sides_in l)) (sym back_is)
        (asked_sent shape told page node what (sides_in xs) (sides_in ys) (sides_in xs page (parent shape node)).copy of_page apart may (copy_above shape told page (sides_in xs page) node what above) here)

    pub called_back : (what : Called) → what ≢ Called.Destroy → AreExchangedAt shape node page (called_right what) None (called_up (sides_in mid page node) what) (sides_in mid) (sides_in ys)
        → (told : Option (List (List ℕ))) → IsSent shape told page (step_called what node) (sides_in xs) (sides_in (take n (ys ++ drop (length ys) xs)))
    called_back what of_page x told =
        let here = subst (λ (l : List Table). AreExchangedAt shape node page (called_right what) None (called_up (sides_in l page node) what) (sides_in l) (sides_in ys)) same x in
        subst (λ (l : List Table). IsSent shape told page (step_called what node) (sides_in xs) (sides_in l)) (sym back_is) (called_sent shape told page node what (sides_in xs) (sides_in ys) of_page apart here)

    pub asked_frames_back : (wire : WireSeen) (what : Asked) → IsUpper shape (parent shape node)
        → AreExchangedAt shape node page (asked_right what) (asked_down (sides_in mid page node).right (sides_in mid page (parent shape node)).copy what) (asked_up (sides_in mid page node) what) (sides_in mid) (sides_in ys)
        → ((file : PagedFile) → AreTablesOf shape file mid → WentOver wire file (asked_by (sides_in mid page node) (sides_in mid page (parent shape node)).copy page what))
        → AreAskedAt shape wire file node page what (sides_in xs) (sides_in (take n (ys ++ drop (length ys) xs)))
    asked_frames_back wire what above x went =
        let here = subst (λ (l : List Table).
        AreExchangedAt shape node page (asked_right what) (asked_down (sides_in l page node).right (sides_in l page (parent shape node)).copy what) (asked_up (sides_in l page node) what) (sides_in l) (sides_in ys)) same x in
        let over = subst (λ (l : List Table). (f : PagedFile) → AreTablesOf shape f l → WentOver wire f (asked_by (sides_in l page node) (sides_in l page (parent shape node)).copy page what)) same went in
        subst (λ (l : List Table). AreAskedAt shape wire file node page what (sides_in xs) (sides_in l)) (sym back_is)
        (asked_at shape wire file node page what (sides_in xs) (sides_in ys) [] (sides_in xs page (parent shape node)).copy (copy_is_above shape (sides_in xs page) node [] above) here (over file tables))

    pub called_frames_back : (wire : WireSeen) (what : Called) → ((file : PagedFile) → AreTablesOf shape file mid → WentOver wire file (called_of (sides_in mid page node) page what)) → WentOver wire file (called_of (sides_in xs page node) page what)
    called_frames_back wire what went =
        (subst (λ (l : List Table). (f : PagedFile) → AreTablesOf shape f l → WentOver wire f (called_of (sides_in l page node) page what)) same went) file tables

    pub follows_back : (step : Step) → UsesFollow shape page step (uses_in mid) (uses_in ys) → UsesFollow shape page step (uses_in xs) (uses_in (take n (ys ++ drop (length ys) xs)))
    follows_back step f = subst (λ (l : List Table). UsesFollow shape page step (uses_in xs) (uses_in l)) (sym back_is) (subst (λ (l : List Table). UsesFollow shape page step (uses_in l) (uses_in ys)) same f)

  -- nothing changed
  pub left_back : AreSameTables mid ys → AreSameTables xs (take n (ys ++ drop (length ys) xs))
  left_back s = subst (λ (l : List Table). AreSameTables xs l) (sym back_is) (subst (λ (l : List Table). AreSameTables l ys) same s)
