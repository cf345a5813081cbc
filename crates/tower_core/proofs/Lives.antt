-- The lives of the plain file are those of the tree's nodes, and a legal trail suits the plain file.
use Rattle.std.proofs.Common.{◌≡◌, ℕ, suc, zero, ◌+◌, ◌*◌, ◌<◌, ◌∙◌, ap, refl, arith, cond, List, [], ◌∷◌, ◌++◌, length, get_or}
use Rattle.std.specs.List.{fold}
use Rattle.std.proofs.lemmas.List.{get_or-replicate, length-replicate}
use Rattle.hist_plain.specs.declared.event.Event.{Event}
use Rattle.hist_plain.specs.File.{File}
use Rattle.hist_plain.specs.Plain.{is_within, lives_from, applied, fresh, Suits}
use Rattle.hist_plain.specs.History.{replay, AllSuit}
use Rattle.hist_plain.proofs.TreeLemmas.{length-lives_from}
use Rattle.hist_plain.proofs.Replay.{length-applied}
use Rattle.tower_core.specs.TreeShape.{TreeShape, nodes}
use Rattle.tower_core.specs.Trail.{State, state_after, state_of, start}
use Rattle.tower_core.specs.Legal.{plain_shape, file_after, IsLegal, IsLegalAfter, IsLegalNext}

-- one more life at each node of the subtree
lives_from-at : (parents : List ℕ) (top first node : ℕ) (lives : List ℕ) (i : ℕ) → node ≡ first + i → i < length lives → get_or (lives_from parents top first lives) i 0 ≡ cond (is_within parents node top) (get_or lives i 0 + 1) (get_or lives i 0)
lives_from-at parents top first node [] i e h = absurd (omega arith)
lives_from-at parents top first node (life ∷ lives) zero e h =
    let same : node ≡ first = omega arith in
    rw same refl
lives_from-at parents top first node (life ∷ lives) (suc i) e h = lives_from-at parents top (suc first) node lives i (omega arith) (omega arith)

-- the file's lives are the state's
record SameLives (shape : TreeShape) (file : File) (s : State) : Type 0 where
  count : length file.lives ≡ nodes shape
  lives : (node : ℕ) → node < nodes shape → get_or file.lives node 0 ≡ s.life node

same_after : (shape : TreeShape) (size : ℕ) (file : File) (s : State) (event : Event) → SameLives shape file s → SameLives shape (applied (plain_shape shape size) file event) (state_after shape s event)
same_after shape size file s (Event.Access caller number node life op) same = record { count = same.count; lives = same.lives }
same_after shape size file s (Event.PageIn node page write) same = record { count = same.count; lives = same.lives }
same_after shape size file s (Event.ZeroFill node page write) same = record { count = same.count; lives = same.lives }
same_after shape size file s (Event.PageOut node page) same = record { count = same.count; lives = same.lives }
same_after shape size file s (Event.WriteOut node page) same = record { count = same.count; lives = same.lives }
same_after shape size file s (Event.SyncOut node page) same = record { count = same.count; lives = same.lives }
same_after shape size file s (Event.FlushBack node page) same = record { count = same.count; lives = same.lives }
same_after shape size file s (Event.DenyWrites node page) same = record { count = same.count; lives = same.lives }
same_after shape size file s (Event.WriteBack node page) same = record { count = same.count; lives = same.lives }
same_after shape size file s (Event.DeleteRange node page) same = record { count = same.count; lives = same.lives }
same_after shape size file s (Event.DestroyCache caller number top) same = record {
  count = length-lives_from shape.parents top 0 file.lives ∙ same.count;
  lives = λ node inside.
      lives_from-at shape.parents top 0 node file.lives node (omega arith) (omega (arith, same.count))
      ∙ ap (λ l. cond (is_within shape.parents node top) (l + 1) l) (same.lives node inside);
}
same_after shape size file s (Event.DonePager caller number node) same = record { count = same.count; lives = same.lives }
same_after shape size file s (Event.Synced caller number node from keep) same = record { count = same.count; lives = same.lives }

same_along : (shape : TreeShape) (size : ℕ) (file : File) (s : State) (trail : List Event) → SameLives shape file s → SameLives shape (replay (plain_shape shape size) file trail) (fold (state_after shape) s trail)
same_along shape size file s [] same = same
same_along shape size file s (event ∷ events) same =
    same_along shape size (applied (plain_shape shape size) file event) (state_after shape s event) events (same_after shape size file s event same)

same_at_start : (shape : TreeShape) (bytes : List ℕ) → SameLives shape (fresh shape.parents bytes) start
same_at_start shape bytes = record {
  count = length-replicate (nodes shape) 0;
  lives = λ node inside. get_or-replicate (nodes shape) node 0 0 inside;
}

pub lives_agree : (shape : TreeShape) (size : ℕ) (bytes : List ℕ) (trail : List Event) (node : ℕ) → node < nodes shape → get_or (file_after shape size bytes trail).lives node 0 ≡ (state_of shape trail).life node
lives_agree shape size bytes trail node inside = (same_along shape size (fresh shape.parents bytes) start trail (same_at_start shape bytes)).lives node inside

-- what is legal stays in the file, whose length does not change

suits_next : (shape : TreeShape) (size pages : ℕ) (bytes : List ℕ) (before : List Event) (file : File) (event : Event) → length file.bytes ≡ pages * size → IsLegalNext shape size pages bytes before event → Suits (plain_shape shape size) file event
suits_next shape size pages bytes before file (Event.Access caller number node life op) long next = (next.allowed.upper.inside, (pages, long, next.fits))
suits_next shape size pages bytes before file (Event.PageIn node page write) long next = next.allowed.upper.inside
suits_next shape size pages bytes before file (Event.ZeroFill node page write) long next = next.allowed.upper.inside
suits_next shape size pages bytes before file (Event.PageOut node page) long next = next.allowed.upper.inside
suits_next shape size pages bytes before file (Event.WriteOut node page) long next = next.allowed.upper.inside
suits_next shape size pages bytes before file (Event.SyncOut node page) long next = next.allowed.upper.inside
suits_next shape size pages bytes before file (Event.FlushBack node page) long next = next.allowed.upper.inside
suits_next shape size pages bytes before file (Event.DenyWrites node page) long next = next.allowed.upper.inside
suits_next shape size pages bytes before file (Event.WriteBack node page) long next = next.allowed.upper.inside
suits_next shape size pages bytes before file (Event.DeleteRange node page) long next = next.allowed.upper.inside
suits_next shape size pages bytes before file (Event.DestroyCache caller number node) long next = next.allowed.upper.inside
suits_next shape size pages bytes before file (Event.DonePager caller number node) long next = next.allowed.upper.inside
suits_next shape size pages bytes before file (Event.Synced caller number node from keep) long next = next.allowed.upper.inside

suits_after : (shape : TreeShape) (size pages : ℕ) (bytes : List ℕ) (before events : List Event) (file : File) → length file.bytes ≡ pages * size → IsLegalAfter shape size pages bytes before events → AllSuit (plain_shape shape size) file events
suits_after shape size pages bytes before [] file long legal = tt
suits_after shape size pages bytes before (event ∷ events) file long legal =
    let here = suits_next shape size pages bytes before file event long legal.0 in
    (here, suits_after shape size pages bytes (before ++ event ∷ []) events (applied (plain_shape shape size) file event) (length-applied (plain_shape shape size) file event here ∙ long) legal.1)

pub legal_suits : (shape : TreeShape) (size pages : ℕ) (bytes : List ℕ) (trail : List Event) → length bytes ≡ pages * size → IsLegal shape size pages bytes trail → AllSuit (plain_shape shape size) (fresh shape.parents bytes) trail
legal_suits shape size pages bytes trail long legal = suits_after shape size pages bytes [] trail (fresh shape.parents bytes) long legal
