-- What the lines of a text mount has names that are names.
use Rattle.std.proofs.Common.{ℕ, ◌&&◌, List, [], ◌∷◌, ◌++◌, Bool, true, false, cond, Some}
use Rattle.std.specs.List.{AllByRecursion, filter, filter_map, fold, list_any}
use Rattle.std.specs.Option.{option_to_list}
use Rattle.std.specs.Str.{bytes_eq}
use Rattle.text_words.specs.Words.{IsName}
use Rattle.stack_text.specs.declared.stack.StackLine.{StackLine}
use Rattle.stack_text.specs.declared.stack.StackLine.TheVariants.{Page, File, Layer}
use Rattle.stack_text.specs.Grammar.{IsStackLine}
use Rattle.stack_accept.specs.Lines.{machine_of, is_named, is_storage}
use Rattle.stack_accept.specs.Rules.{is_node}
use Rattle.stack_accept.specs.Mount.{file_of, node_of, node_lines, ground_line, ground_name, machines_of, with_machine, mounted}
use Rattle.stack_seats.specs.Seats.{AreNames}
use Rattle.stack_seats.proofs.Lists.{all-append, all-filter, all-found}

files-named : (lines : List StackLine) → AllByRecursion IsStackLine lines → AllByRecursion (λ file. IsName file.name) (filter_map (λ line. file_of line) lines)
files-named [] all = tt
files-named (Page size ∷ lines) all = files-named lines all.1
files-named (File name pages ∷ lines) all = (all.0.0, files-named lines all.1)
files-named (Layer name machine kind ∷ lines) all = files-named lines all.1

nodes-named : (machines : List (List ℕ)) (nodes lines : List StackLine) → AllByRecursion IsStackLine lines → AllByRecursion (λ node. IsName node.name) (filter_map (λ line. node_of machines nodes line) lines)
nodes-named machines nodes [] all = tt
nodes-named machines nodes (Page size ∷ lines) all = nodes-named machines nodes lines all.1
nodes-named machines nodes (File name pages ∷ lines) all = nodes-named machines nodes lines all.1
nodes-named machines nodes (Layer name machine kind ∷ lines) all = (all.0.0, nodes-named machines nodes lines all.1)

lines-are : (lines : List StackLine) → AllByRecursion IsStackLine lines → AllByRecursion IsStackLine (node_lines lines)
lines-are lines all =
    all-append IsStackLine (option_to_list (ground_line lines)) (filter (λ line. is_node lines line) lines)
    (all-found IsStackLine (λ line. is_storage line && is_named (ground_name lines) line) lines all)
    (all-filter IsStackLine (λ line. is_node lines line) lines all)

added : (b : Bool) (names : List (List ℕ)) (name : List ℕ) → AllByRecursion IsName names → IsName name → AllByRecursion IsName (cond b names (names ++ name ∷ []))
added true names name all is = all
added false names name all is = all-append IsName names (name ∷ []) all (is, tt)

machines-from : (names : List (List ℕ)) (lines : List StackLine) → AllByRecursion IsName names → AllByRecursion IsStackLine lines
    → AllByRecursion IsName (fold (λ names line. with_machine names (machine_of line)) names lines)
machines-from names [] is all = is
machines-from names (Page size ∷ lines) is all = machines-from names lines is all.1
machines-from names (File name pages ∷ lines) is all = machines-from names lines is all.1
machines-from names (Layer name machine kind ∷ lines) is all =
    machines-from (with_machine names (Some machine)) lines (added (list_any (λ own. bytes_eq own machine) names) names machine is all.0.1) all.1

pub mounted-named : (lines : List StackLine) → AllByRecursion IsStackLine lines → AreNames (mounted lines)
mounted-named lines all = record {
  files = files-named lines all;
  nodes = nodes-named (machines_of lines) (node_lines lines) (node_lines lines) (lines-are lines all);
  machines = machines-from [] lines tt all;
}
