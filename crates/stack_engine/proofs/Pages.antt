-- The page of a push is one of the sheet's.
use Rattle.std.specs.Option.{ForSome}
use Rattle.std.proofs.Common.{◌≡◌, ℕ, ◌<◌, [], Some, None, sym, subst}
use Rattle.hist_plain.specs.Event.{page_of}
use Rattle.tower_core.specs.declared.sheet.Sheet.{Sheet}
use Rattle.tower_core.specs.Sheet.{pages_of}
use Rattle.page_messages.specs.declared.kinds.Asked.{Asked}
use Rattle.tower_log.specs.declared.logged.Entry.{Entry}
use Rattle.stack_engine.specs.Engine.{EngineSeen, IsSheetOf, file_in}
use Rattle.stack_engine.specs.Messages.{IsPush, event_asked}
use Rattle.stack_engine.proofs.Making.{entry_of}

at_page : (pages page : ℕ) → page < pages → ForSome (Some page) (λ p. p < pages)
at_page pages page inside p some = subst (λ q. q < pages) (is page p some) inside
  where
    is : (a b : ℕ) → Some a ≡ Some b → a ≡ b
    is a b e = cc

push_at : (pages node page : ℕ) (what : Asked) → IsPush what → page < pages → ForSome (page_of (event_asked what node page)) (λ p. p < pages)
push_at pages node page Asked.PageOut push inside = at_page pages page inside
push_at pages node page Asked.WriteOut push inside = at_page pages page inside
push_at pages node page Asked.Sync push inside = at_page pages page inside
push_at pages node page Asked.PageInRead push inside = absurd push
push_at pages node page Asked.PageInWrite push inside = absurd push
push_at pages node page Asked.Done push inside = absurd push

pub push_page : (e : EngineSeen) (sheet : Sheet) (what : Asked) (node page : ℕ) → IsPush what → IsSheetOf e sheet → page < (file_in e).pages
    → (entry : Entry) → entry ≡ entry_of (event_asked what node page) None [] → ForSome (page_of entry.event) (λ p. p < pages_of sheet)
push_page e sheet what node page push is inside entry same =
    subst (λ (x : Entry). ForSome (page_of x.event) (λ p. p < pages_of sheet)) (sym same) (push_at (pages_of sheet) node page what push (subst (λ n. page < n) (sym is.pages_are) inside))
