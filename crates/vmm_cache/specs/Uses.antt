-- The pages that a leaf holds as a list, by their last uses: the page that was used longest ago is the first.
use Rattle.std.specs.Prelude.{ℕ, not, ◌==◌, List, [], ◌∷◌, ◌++◌, filter, slice_get, Option}
use Rattle.page_messages.specs.declared.kinds.Answer.{Answer}
use Rattle.page_messages.specs.declared.kinds.Called.{Called}

-- the list without a page
abbrev pub without : ℕ → List ℕ → List ℕ
without page uses = filter (λ other. not (other == page)) uses

-- a use of a page makes it the last
abbrev pub used_last : ℕ → List ℕ → List ℕ
used_last page uses = without page uses ++ page ∷ []

-- THE VICTIM, if there is one: the page whose last use is the oldest
abbrev pub oldest : List ℕ → Option ℕ
oldest uses = slice_get uses 0

-- what an answer of the pager makes of the list: a grant is a use, and a page that was taken back goes
abbrev pub uses_answered : Answer → ℕ → List ℕ → List ℕ
uses_answered Answer.Grant page uses = used_last page uses
uses_answered Answer.Upgrade page uses = used_last page uses
uses_answered Answer.PageOut page uses = without page uses
uses_answered what page uses = uses

-- what an order of the pager makes of it
abbrev pub uses_called : Called → ℕ → List ℕ → List ℕ
uses_called Called.FlushBack page uses = without page uses
uses_called Called.DeleteRange page uses = without page uses
uses_called what page uses = uses
