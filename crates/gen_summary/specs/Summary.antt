-- The text of a generated run, without the lines of the stores that are lost and of the status.
use Rattle.std.specs.Prelude.{ℕ, ◌-◌, ◌&&◌, nat_le, List, [], ◌∷◌, ◌++◌, length, codes, count_by, sum, sum_by, slice_get, Bool, true, false, if◌then◌else◌, Option, None}
use Rattle.std.specs.Option.{option_map_or}
use Rattle.std.specs.Fmt.{decimal}
use Rattle.hist_plain.specs.File.{Counted}
use Rattle.text_words.specs.Lines.{line_of}
use Rattle.script_text.specs.declared.script.Call.{Call}
use Rattle.script_text.specs.declared.script.Call.TheVariants as calls
use Rattle.script_text.specs.declared.script.CallLine.{CallLine}
use Rattle.script_text.specs.declared.script.Said.{Said}
use Rattle.script_text.specs.declared.script.Reply.{Reply}
use Rattle.script_text.specs.declared.script.Reply.TheVariants as replies

-- a load is a read, and a store a write
abbrev pub is_read : Call → Bool
is_read (calls.Read object page off len) = true
is_read (calls.Load address len) = true
is_read call = false

abbrev pub is_write : Call → Bool
is_write (calls.Write object page off bytes) = true
is_write (calls.Store address bytes) = true
is_write call = false

-- bytes or `done`; a refusal, a store's failure, a full trail or want of memory does not count
abbrev pub is_answered : Reply → Bool
is_answered (replies.Bytes bytes) = true
is_answered replies.Done = true
is_answered reply = false

-- the line of a number in a phase, whose lines are numbered one after another
abbrev pub first_of : List CallLine → ℕ
first_of [] = 0
first_of (line ∷ lines) = line.line

abbrev pub line_numbered : List CallLine → ℕ → Option CallLine
line_numbered lines number = if nat_le (first_of lines) number then slice_get lines (number - first_of lines) else None

-- an answer to a call of this kind in the phase
abbrev pub answers : (Call → Bool) → List CallLine → Said → Bool
answers kind lines said = is_answered said.reply && option_map_or (λ line. kind line.call) (line_numbered lines said.line) false

-- how many calls of this kind in the phase were answered
abbrev pub answered : (Call → Bool) → List CallLine → List (List Said) → ℕ
answered kind lines said = sum_by (λ one. count_by (λ s. answers kind lines s) one) said

-- the sum of all bytes of all files
abbrev pub sum_of : List Counted → ℕ
sum_of files = sum_by (λ file. sum file.file.bytes) files

-- THE SUMMARY: of the calls of the second phase, and of the files at the end
abbrev pub summary : List CallLine → List (List Said) → List Counted → List ℕ
summary lines said files =
    line_of (codes "calls" ∷ decimal (length lines) ∷ [])
    ++ line_of (codes "reads" ∷ decimal (answered is_read lines said) ∷ [])
    ++ line_of (codes "writes" ∷ decimal (answered is_write lines said) ∷ [])
    ++ line_of (codes "bytes" ∷ decimal (sum_of files) ∷ [])
