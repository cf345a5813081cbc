-- The right that a child has after a message, and which messages give bytes back.
use Rattle.tower_core.specs.declared.right.Right.{Right}
use Rattle.page_messages.specs.declared.kinds.Asked.{Asked}
use Rattle.page_messages.specs.declared.kinds.Called.{Called}

-- after a question, and its answer
abbrev pub asked_right : Asked → Right
asked_right Asked.PageInRead = Right.Read
asked_right Asked.PageInWrite = Right.Write
asked_right Asked.PageOut = Right.Nothing
asked_right Asked.WriteOut = Right.Read
asked_right Asked.Sync = Right.Write
asked_right Asked.Done = Right.Nothing

-- after an order, and its answer
abbrev pub called_right : Called → Right
called_right Called.FlushBack = Right.Nothing
called_right Called.DenyWrites = Right.Read
called_right Called.WriteBack = Right.Write
called_right Called.DeleteRange = Right.Nothing
called_right Called.Destroy = Right.Nothing

-- the node that asks, and the node that obeys, gives its copy back where it is changed
abbrev pub Pushes : Asked → Type 0
Pushes Asked.PageOut = Unit {0}
Pushes Asked.WriteOut = Unit {0}
Pushes Asked.Sync = Unit {0}
Pushes what = ⊥

abbrev pub GivesBack : Called → Type 0
GivesBack Called.FlushBack = Unit {0}
GivesBack Called.DenyWrites = Unit {0}
GivesBack Called.WriteBack = Unit {0}
GivesBack what = ⊥

-- a page is asked for
abbrev pub IsForPage : Asked → Type 0
IsForPage Asked.PageInRead = Unit {0}
IsForPage Asked.PageInWrite = Unit {0}
IsForPage what = ⊥
