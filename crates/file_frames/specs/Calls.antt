-- What a call on a file object says.
use Rattle.std.specs.Prelude.{ℕ, ◌+◌, ◌≤◌, IsTrue, List, [], length}
use Rattle.hist_plain.specs.declared.TheConstants.{MAX_PAGES}
use Rattle.hist_plain.specs.declared.event.Op.TheVariants as ops
use Rattle.hist_plain.specs.Event.{fits_page}
use Rattle.hist_plain.specs.Plain.{place_of}
use Rattle.pager_channel.specs.declared.flags.TheConstants.{DATA, TO_FILE}
use Rattle.pager_channel.specs.declared.operation.Operation.{Operation}
use Rattle.file_frames.specs.declared.call.FileCall.{FileCall}

-- it stays within one page of a file of some number of pages; an open and a sync always do
abbrev pub IsOnePage : ℕ → FileCall → Type 0
IsOnePage page_size (FileCall.Access op) =
    (pages : ℕ) × (pages ≤ MAX_PAGES) × IsTrue (fits_page page_size pages op)
IsOnePage page_size FileCall.Sync = Unit {0}

-- the operation that is called: a file is opened by `bind`
abbrev pub operation_of : FileCall → Operation
operation_of (FileCall.Access (ops.Read page off len)) = Operation.Read
operation_of (FileCall.Access (ops.Write page off bytes)) = Operation.Write
operation_of (FileCall.Access (ops.Clear page)) = Operation.Clear
operation_of (FileCall.Access ops.Open) = Operation.Bind
operation_of FileCall.Sync = Operation.FileSync

-- where in the file it begins, in bytes
abbrev pub offset_of : ℕ → FileCall → ℕ
offset_of page_size (FileCall.Access (ops.Read page off len)) = place_of page_size page off
offset_of page_size (FileCall.Access (ops.Write page off bytes)) = place_of page_size page off
offset_of page_size (FileCall.Access (ops.Clear page)) = place_of page_size page 0
offset_of page_size (FileCall.Access ops.Open) = 0
offset_of page_size FileCall.Sync = 0

-- how many bytes of the file it is about
abbrev pub size_of : ℕ → FileCall → ℕ
size_of page_size (FileCall.Access (ops.Read page off len)) = len
size_of page_size (FileCall.Access (ops.Write page off bytes)) = length bytes
size_of page_size (FileCall.Access (ops.Clear page)) = page_size
size_of page_size (FileCall.Access ops.Open) = 0
size_of page_size FileCall.Sync = 0

-- the flags of its frame: data follow a write
abbrev pub flags_of : FileCall → ℕ
flags_of (FileCall.Access (ops.Write page off bytes)) = TO_FILE + DATA
flags_of _ = TO_FILE

-- the data that go with it
abbrev pub data_of : FileCall → List ℕ
data_of (FileCall.Access (ops.Write page off bytes)) = bytes
data_of _ = []
