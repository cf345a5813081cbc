-- The part of a run's text that tells the history of its names.
use Rattle.std.specs.Prelude.{ℕ, suc, List, [], ◌∷◌, ◌++◌, codes, slice_index_or, Option, Some, None}
use Rattle.std.specs.Fmt.{decimal}
use Rattle.text_words.specs.Lines.{line_of}
use Rattle.text_words.specs.Words.{path_word}
use Rattle.script_text.specs.Answer.{answer_words}
use Rattle.name_context.specs.declared.entry.NameCall.{NameCall}
use Rattle.name_context.specs.declared.entry.NameCall.TheVariants as calls
use Rattle.name_context.specs.declared.entry.NameEntry.{NameEntry}
use Rattle.spr_report.specs.NamesAnswers.{reply_of}

abbrev pub call_word : NameCall → List ℕ
call_word calls.Context = codes "context"
call_word calls.Bind = codes "bind"
call_word calls.Resolve = codes "resolve"
call_word calls.Unbind = codes "unbind"
call_word calls.List = codes "list"

-- a path as a word; the root is a slash
abbrev pub named_word : Option (List (List ℕ)) → List ℕ
named_word None = codes "/"
named_word (Some path) = path_word path

-- who called, the number of the entry among the caller's, and what was called
abbrev pub asked_words : List (List ℕ) → NameEntry → List (List ℕ)
asked_words callers entry = slice_index_or callers entry.caller [] ∷ decimal entry.number ∷ call_word entry.call ∷ named_word entry.path ∷ []

-- the words of the answer
abbrev pub told_words : NameEntry → List (List ℕ)
told_words entry = answer_words [] (reply_of entry.path entry.refused)

-- the line of an entry at a place; the callers have these names, by their numbers
abbrev pub name_line : List (List ℕ) → ℕ → NameEntry → List ℕ
name_line callers place entry = line_of (decimal place ∷ (asked_words callers entry ++ told_words entry))

-- the lines of the entries from a place on
abbrev pub name_lines : List (List ℕ) → ℕ → List NameEntry → List ℕ
name_lines callers place [] = []
name_lines callers place (entry ∷ entries) = name_line callers place entry ++ name_lines callers (suc place) entries

-- the whole part
abbrev pub names_part : List (List ℕ) → List NameEntry → List ℕ
names_part callers history = line_of (codes "names" ∷ []) ++ name_lines callers 0 history
