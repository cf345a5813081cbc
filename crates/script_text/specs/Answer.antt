-- The answers to the lines of a script, each as its words.
use Rattle.std.specs.Prelude.{ℕ, List, [], ◌∷◌, codes, slice_index_or}
use Rattle.std.specs.Fmt.{decimal}
use Rattle.hex.specs.Hex.{encode_lower}
use Rattle.script_text.specs.declared.script.Reply.{Reply}
use Rattle.script_text.specs.declared.script.Reply.TheVariants as replies

-- the words of an answer; the disks have these names, by their numbers
abbrev pub answer_words : List (List ℕ) → Reply → List (List ℕ)
answer_words disks replies.Done = codes "done" ∷ []
answer_words disks (replies.Names names) = codes "names" ∷ names
answer_words disks (replies.Life life) = codes "life" ∷ decimal life ∷ []
answer_words disks (replies.Bytes bytes) = encode_lower bytes ∷ []
answer_words disks replies.NoObject = codes "no" ∷ codes "object" ∷ []
answer_words disks replies.BadObject = codes "bad" ∷ codes "object" ∷ []
answer_words disks replies.ObjectExists = codes "object" ∷ codes "exists" ∷ []
answer_words disks replies.NotOnePage = codes "not" ∷ codes "one" ∷ codes "page" ∷ []
answer_words disks (replies.NotBound part) = codes "not" ∷ codes "bound" ∷ part ∷ []
answer_words disks (replies.AlreadyBound part) = codes "already" ∷ codes "bound" ∷ part ∷ []
answer_words disks (replies.NotContext part) = codes "not" ∷ codes "context" ∷ part ∷ []
answer_words disks (replies.NotObject part) = codes "not" ∷ codes "object" ∷ part ∷ []
answer_words disks (replies.Revoked life) = codes "revoked" ∷ decimal life ∷ []
answer_words disks replies.NoManager = codes "no" ∷ codes "manager" ∷ []
answer_words disks replies.RegionExists = codes "region" ∷ codes "exists" ∷ []
answer_words disks replies.Unaligned = codes "unaligned" ∷ []
answer_words disks replies.TooLong = codes "too" ∷ codes "long" ∷ []
answer_words disks replies.Overlap = codes "overlap" ∷ []
answer_words disks replies.NoRegion = codes "no" ∷ codes "region" ∷ []
answer_words disks (replies.Unmapped address) = codes "unmapped" ∷ decimal address ∷ []
answer_words disks replies.CrossesPage = codes "crosses" ∷ codes "page" ∷ []
answer_words disks replies.NotWritable = codes "not" ∷ codes "writable" ∷ []
answer_words disks (replies.Store disk count) = codes "store" ∷ slice_index_or disks disk [] ∷ decimal count ∷ []
answer_words disks (replies.Link count) = codes "link" ∷ decimal count ∷ []
answer_words disks replies.TrailFull = codes "trail" ∷ codes "full" ∷ []
answer_words disks replies.Memory = codes "memory" ∷ []
