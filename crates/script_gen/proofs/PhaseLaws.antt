-- The phases of a generated script have lines that a text can have, numbered as they stand.
use Rattle.std.proofs.Common.{◌≡◌, ℕ, zero, suc, ◌+◌, ◌*◌, ◌<◌, ◌≤◌, List, [], ◌∷◌, ◌++◌, length, IsTrue, refl, arith, length-append}
use Rattle.std.specs.List.{AllByRecursion}
use Rattle.std.proofs.lemmas.Nat.{mod_below}
use Rattle.script_text.specs.declared.script.Call.{Call}
use Rattle.script_text.specs.declared.script.CallLine.{CallLine}
use Rattle.script_text.specs.Grammar.{IsCall, AreCalls}
use Rattle.script_gen.specs.declared.shape.Shape.{Shape}
use Rattle.script_gen.specs.declared.shape.ShapeFile.{ShapeFile}
use Rattle.script_gen.specs.declared.shape.ShapeSeat.{ShapeSeat}
use Rattle.script_gen.specs.Shape.{IsShape, IsFile, IsSeat, seat_of}
use Rattle.script_gen.specs.Access.{open_by, map_by}
use Rattle.script_gen.specs.Made.{with_line, with_file, with_files, opened, client_of, call_at, state_before, called}
use Rattle.script_gen.specs.Laws.{is_made, AreMade}
use Rattle.script_gen.proofs.ShapeLaws.{seat-is}
use Rattle.script_gen.proofs.CallLaws.{IsGood, choose, open-is, map-is, call-is}

calls-more : (count number : ℕ) (lines : List CallLine) (line : CallLine) → AreCalls count number lines → line.line ≡ number + length lines → line.client < count → IsCall line.call → AreCalls count number (lines ++ line ∷ [])
calls-more count number [] line are at few is = (omega arith, few, is, tt)
calls-more count number (l ∷ lines) line are at few is = (are.0, are.1, are.2, calls-more count (suc number) lines line are.3 (omega arith) few is)

made-more : (lines : List CallLine) (line : CallLine) → AreMade lines → IsTrue (is_made line.call) → AreMade (lines ++ line ∷ [])
made-more [] line are is = (is, tt)
made-more (l ∷ lines) line are is = (are.0, made-more lines line are.1 is)

-- lines of a phase whose first line is this one
pub record AreGood (first : ℕ) (lines : List CallLine) : Type 0 where
  pub calls : AreCalls 8 first lines
  pub made : AreMade lines

line-good : (first : ℕ) (lines : List CallLine) (client : ℕ) (call : Call) → AreGood first lines → client < 8 → IsGood call → AreGood first (with_line first lines client call)
line-good first lines client call are few is = record {
  calls = calls-more 8 first lines (record { line = first + length lines; client = client; call = call }) are.calls refl few is.0;
  made = made-more lines (record { line = first + length lines; client = client; call = call }) are.made is.1;
}

file-good : (first : ℕ) (seat : ShapeSeat) (client : ℕ) (lines : List CallLine) (number : ℕ) (file : ShapeFile)
    → client < 8 → number < 100 → IsSeat seat → IsFile file → AreGood first lines → AreGood first (with_file first seat client lines number file)
file-good first seat client lines number file few low sits is are =
    let one = line-good first lines client (open_by seat number file) are few (open-is seat number file low sits is) in
    choose (AreGood first) seat.maps _ _ (line-good first (with_line first lines client (open_by seat number file)) client (map_by number file) one few (map-is number file low is)) one

files-good : (first : ℕ) (seat : ShapeSeat) (client : ℕ) (lines : List CallLine) (number : ℕ) (files : List ShapeFile)
    → client < 8 → number + length files ≤ 16 → IsSeat seat → AllByRecursion IsFile files → AreGood first lines → AreGood first (with_files first seat client lines number files)
files-good first seat client lines number [] few low sits all are = are
files-good first seat client lines number (file ∷ files) few low sits all are =
    files-good first seat client (with_file first seat client lines number file) (suc number) files few (omega arith) sits all.1
    (file-good first seat client lines number file few (omega arith) sits all.0 are)

pub opened-good : (shape : Shape) (first clients : ℕ) → IsShape shape → clients ≤ 8 → AreGood first (opened shape first clients)
opened-good shape first zero is few = record { calls = tt; made = tt }
opened-good shape first (suc client) is few =
    files-good first (seat_of shape client) client (opened shape first client) 0 shape.files (omega arith) (let many = is.few_files in omega arith) (seat-is shape client is) is.files
    (opened-good shape first client is (omega arith))

pub called-good : (shape : Shape) (first seed calls : ℕ) → IsShape shape → AreGood first (called shape first seed calls)
called-good shape first seed zero is = record { calls = tt; made = tt }
called-good shape first seed (suc number) is =
    line-good first (called shape first seed number) (client_of number) (call_at shape number (state_before shape seed number)) (called-good shape first seed number is)
    (mod_below number 8 (omega arith)) (call-is shape number (state_before shape seed number) is)

-- how many lines there are
pub called-many : (shape : Shape) (first seed calls : ℕ) → length (called shape first seed calls) ≡ calls
called-many shape first seed zero = refl
called-many shape first seed (suc number) =
    let front = called-many shape first seed number in
    let more = length-append (called shape first seed number) (record { line = first + length (called shape first seed number); client = client_of number; call = call_at shape number (state_before shape seed number) } ∷ []) in
    omega arith

line-many : (first : ℕ) (lines : List CallLine) (client : ℕ) (call : Call) → length (with_line first lines client call) ≡ length lines + 1
line-many first lines client call = length-append lines (record { line = first + length lines; client = client; call = call } ∷ [])

file-many : (first : ℕ) (seat : ShapeSeat) (client : ℕ) (lines : List CallLine) (number : ℕ) (file : ShapeFile) → length (with_file first seat client lines number file) ≤ length lines + 2
file-many first seat client lines number file =
    let one = line-many first lines client (open_by seat number file) in
    let two = line-many first (with_line first lines client (open_by seat number file)) client (map_by number file) in
    choose (λ (ls : List CallLine). length ls ≤ length lines + 2) seat.maps _ _ (omega arith) (omega arith)

files-many : (first : ℕ) (seat : ShapeSeat) (client : ℕ) (lines : List CallLine) (number : ℕ) (files : List ShapeFile)
    → length (with_files first seat client lines number files) ≤ length lines + 2 * length files
files-many first seat client lines number [] = omega arith
files-many first seat client lines number (file ∷ files) =
    let one = file-many first seat client lines number file in
    let more = files-many first seat client (with_file first seat client lines number file) (suc number) files in
    omega arith

pub opened-many : (shape : Shape) (first clients : ℕ) → length shape.files ≤ 16 → length (opened shape first clients) ≤ 32 * clients
opened-many shape first zero few = omega arith
opened-many shape first (suc client) few =
    let front = opened-many shape first client few in
    let more = files-many first (seat_of shape client) client (opened shape first client) 0 shape.files in
    omega arith
