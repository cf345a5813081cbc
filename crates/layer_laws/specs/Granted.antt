-- Which pages of a file a trail has granted, and when two files agree on them.
use Rattle.std.specs.Prelude.{◌≡◌, ℕ, ◌==◌, Bool, true, false, ◌||◌, List, [], ◌∷◌}
use Rattle.hist_plain.specs.declared.event.Event.{Event}
use Rattle.hist_plain.specs.History.{page_in}

-- a grant of the page, to any node
abbrev pub is_grant_of : ℕ → Event → Bool
is_grant_of page (Event.PageIn node p write) = page == p
is_grant_of page (Event.ZeroFill node p write) = page == p
is_grant_of page event = false

-- the page was granted
abbrev pub is_granted_in : ℕ → List Event → Bool
is_granted_in page [] = false
is_granted_in page (event ∷ events) = is_grant_of page event || is_granted_in page events

-- two files that a trail may have started with have the same bytes of each page that it has granted
abbrev pub AgreeOnGranted : ℕ → List ℕ → List ℕ → List Event → Type 0
AgreeOnGranted size one other trail = (page : ℕ) → is_granted_in page trail ≡ true → page_in size one page ≡ page_in size other page
