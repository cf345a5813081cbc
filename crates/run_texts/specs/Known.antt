-- What a script names that the stack does not have.
use Rattle.std.specs.Prelude.{ℕ, ◌+◌, List, [], ◌∷◌, drop, not, ◌&&◌, find, position, Bool, true, Option, None}
use Rattle.std.specs.Option.{option_map, option_or}
use Rattle.std.specs.List.{list_all, list_any}
use Rattle.std.specs.Str.{bytes_eq}
use Rattle.script_text.specs.declared.script.Call.{Call}
use Rattle.script_text.specs.declared.script.Call.TheVariants.{Bind, Replicate, Revoke, Release}
use Rattle.script_text.specs.declared.script.CallLine.{CallLine}
use Rattle.script_text.specs.declared.script.ClientLine.{ClientLine}
use Rattle.script_text.specs.declared.script.Script.{Script}
use Rattle.stack_accept.specs.Mount.{Mount, is_view}

abbrev pub has_machine : Mount → List ℕ → Bool
has_machine mount name = list_any (λ own. bytes_eq own name) mount.machines

abbrev pub has_file : Mount → List ℕ → Bool
has_file mount name = list_any (λ file. bytes_eq file.name name) mount.files

abbrev pub has_view : Mount → List ℕ → Bool
has_view mount name = list_any (λ node. is_view node.kind && bytes_eq node.name name) mount.nodes

-- a layer is a node other than the ground, which is the first
abbrev pub has_layer : Mount → List ℕ → Bool
has_layer mount name = list_any (λ node. bytes_eq node.name name) (drop 1 mount.nodes)

-- whether the stack has what a call names
abbrev pub is_known : Mount → Call → Bool
is_known mount (Bind path sub view file) = has_view mount view && has_file mount file
is_known mount (Replicate path file views) = has_file mount file && list_all (has_view mount) views
is_known mount (Revoke layer file) = has_layer mount layer && has_file mount file
is_known mount (Release layer file) = has_layer mount layer && has_file mount file
is_known mount call = true

-- the first client on a machine that the stack does not have: clients stand on the first lines, counted from 1
abbrev pub unknown_client : Mount → List ClientLine → Option ℕ
unknown_client mount clients = option_map (λ place. place + 1) (position (λ client. not (has_machine mount client.machine)) clients)

-- the first line of a call that names what the stack does not have
abbrev pub unknown_in : Mount → List CallLine → Option CallLine
unknown_in mount phase = find (λ l. not (is_known mount l.call)) phase

abbrev pub unknown_call : Mount → List (List CallLine) → Option CallLine
unknown_call mount [] = None
unknown_call mount (phase ∷ phases) = option_or (unknown_in mount phase) (unknown_call mount phases)

-- the first line of a script that names what the stack does not have
abbrev pub unknown_line : Mount → Script → Option ℕ
unknown_line mount script = option_or (unknown_client mount script.clients) (option_map {T = CallLine} (λ l. l.line) (unknown_call mount script.phases))
