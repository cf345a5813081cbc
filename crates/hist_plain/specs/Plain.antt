-- One file as a plain list of bytes, with a life for each node of the tree over it.
use Rattle.std.specs.Prelude.{◌≡◌, ℕ, zero, suc, ◌+◌, ◌*◌, ◌<◌, ◌≤◌, ◌^◌, List, [], ◌∷◌, ◌++◌, length, take, drop, replicate, slice_index, ◌==◌, Bool, true, if◌then◌else◌, Option, Some, None}
use Rattle.hist_plain.specs.declared.event.Op.{Op}
use Rattle.hist_plain.specs.declared.event.Op.TheVariants as ops
use Rattle.hist_plain.specs.declared.event.Event.{Event}
use Rattle.hist_plain.specs.declared.event.Event.TheVariants.{Access, DestroyCache, DonePager, Synced}
use Rattle.hist_plain.specs.declared.event.Answer.{Answer}
use Rattle.hist_plain.specs.declared.event.Answer.TheVariants as answers
use Rattle.hist_plain.specs.declared.TheConstants.{MAX_NODES, MAX_PAGES}
use Rattle.hist_plain.specs.File.{Shape, File}
use Rattle.hist_plain.specs.Event.{node_of, Fits}

-- node 0 is its own parent, and every other parent is below its node
pub record IsTree (parents : List ℕ) : Type 0 where
  pub some : 1 ≤ length parents
  pub few : length parents ≤ MAX_NODES
  pub ground : slice_index parents 0 ≡ 0
  pub below : (node : ℕ) → 0 < node → node < length parents → slice_index parents node < node

-- a power of two from 64 to 4,096
abbrev pub IsPageSize : ℕ → Type 0
IsPageSize size = (k : ℕ) × (6 ≤ k) × (k ≤ 12) × (size ≡ 2 ^ k)

-- so many whole pages, from 1 to 1,024
abbrev pub HasPages : ℕ → List ℕ → Type 0
HasPages page_size bytes = (pages : ℕ) × (1 ≤ pages) × (pages ≤ MAX_PAGES) × (length bytes ≡ pages * page_size)

-- going from a node towards the ground, in so many steps, meets the top
abbrev pub reaches : ℕ → List ℕ → ℕ → ℕ → Bool
reaches zero parents node top = node == top
reaches (suc steps) parents node top = if node == top then true else reaches steps parents (slice_index parents node) top

-- the node is the top or below it
abbrev pub is_within : List ℕ → ℕ → ℕ → Bool
is_within parents node top = reaches node parents node top

-- one more life for the top and for every node below it; the list begins with the life of the first node
abbrev pub lives_from : List ℕ → ℕ → ℕ → List ℕ → List ℕ
lives_from parents top first [] = []
lives_from parents top first (life ∷ lives) = (if is_within parents first top then life + 1 else life) ∷ lives_from parents top (suc first) lives

-- where a byte of a page stands in the file
abbrev pub place_of : ℕ → ℕ → ℕ → ℕ
place_of page_size page off = page * page_size + off

-- the bytes from a place on
abbrev pub bytes_at : List ℕ → ℕ → ℕ → List ℕ
bytes_at bytes place len = take len (drop place bytes)

-- these bytes in place of those from a place on
abbrev pub overwritten : List ℕ → ℕ → List ℕ → List ℕ
overwritten bytes place new = take place bytes ++ new ++ drop (place + length new) bytes

-- what an access that counts makes of the bytes
abbrev pub changed : ℕ → Op → List ℕ → List ℕ
changed page_size (ops.Read page off len) bytes = bytes
changed page_size (ops.Write page off new) bytes = overwritten bytes (place_of page_size page off) new
changed page_size (ops.Clear page) bytes = overwritten bytes (place_of page_size page 0) (replicate page_size 0)
changed page_size ops.Open bytes = bytes

-- an access other than Open counts only where its life is the one now
abbrev pub counts : ℕ → ℕ → Op → Bool
counts now life ops.Open = true
counts now life op = life == now

-- the bytes after an access of this life
abbrev pub bytes_after : ℕ → ℕ → ℕ → Op → List ℕ → List ℕ
bytes_after page_size now life op bytes = if counts now life op then changed page_size op bytes else bytes

-- the file after an event
abbrev pub applied : Shape → File → Event → File
applied shape file (Access caller number node life op) = record file { bytes = bytes_after shape.page_size (slice_index file.lives node) life op file.bytes }
applied shape file (DestroyCache caller number node) = record file { lives = lives_from shape.parents node 0 file.lives }
applied shape file _ = file

-- an answer, and the bytes that come with it
pub record Told : Type 0 where
  pub answer : Answer
  pub bytes : List ℕ

abbrev pub plainly : Answer → Told
plainly answer = record { answer = answer; bytes = [] }

-- the answer to an access that counts, where its node has the life now
abbrev pub answered : ℕ → ℕ → Op → List ℕ → Told
answered page_size now (ops.Read page off len) bytes = record { answer = answers.Bytes; bytes = bytes_at bytes (place_of page_size page off) len }
answered page_size now (ops.Write page off new) bytes = plainly answers.Done
answered page_size now (ops.Clear page) bytes = plainly answers.Done
answered page_size now ops.Open bytes = plainly (answers.Life now)

-- the answer to an access of this life
abbrev pub told : ℕ → ℕ → ℕ → Op → List ℕ → Told
told page_size now life op bytes = if counts now life op then answered page_size now op bytes else plainly (answers.Revoked now)

-- the answer to an event; a page message has none
abbrev pub reply : Shape → File → Event → Option Told
reply shape file (Access caller number node life op) = Some (told shape.page_size (slice_index file.lives node) life op file.bytes)
reply shape file (DestroyCache caller number node) = Some (plainly answers.Done)
reply shape file (DonePager caller number node) = Some (plainly answers.Done)
reply shape file (Synced caller number node from keep) = Some (plainly answers.Done)
reply shape file _ = None

-- the access stays within one page of these bytes
abbrev pub IsInFile : ℕ → List ℕ → Op → Type 0
IsInFile page_size bytes op = (pages : ℕ) × (length bytes ≡ pages * page_size) × Fits page_size pages op

-- the event names a node of the tree, and stays in the file
abbrev pub Suits : Shape → File → Event → Type 0
Suits shape file (Access caller number node life op) = (node < length shape.parents) × IsInFile shape.page_size file.bytes op
Suits shape file event = node_of event < length shape.parents

-- how many bytes an access asks for
abbrev pub asked_by : Op → ℕ
asked_by (ops.Read page off len) = len
asked_by op = 0

abbrev pub asked_len : Event → ℕ
asked_len (Access caller number node life op) = asked_by op
asked_len event = 0

-- a file with no life lost
abbrev pub fresh : List ℕ → List ℕ → File
fresh parents bytes = record { bytes = bytes; lives = replicate (length parents) 0 }
