-- The command that the words ask for.
use Rattle.std.specs.Prelude.{ℕ, ◌+◌, ◌<◌, ◌≤◌, ◌&&◌, nat_lt, nat_le, Bool, false, List, Option, Some, None, codes, option_map, option_and_then, if◌then◌else◌}
use Rattle.std.specs.Option.{option_map_or}
use Rattle.std.specs.Str.{bytes_eq}
use Rattle.std.specs.Str.Parse.{digits_value, without_leading_plus}
use Rattle.clap.specs.Words.{Row, Text, first_of, one_of}
use Rattle.clap.specs.ValueTests.{is_numeral}
use Rattle.clap.specs.Simple.{subcommand_of}
use Rattle.clap.specs.Faults.{fault_of}
use Rattle.clap.specs.Walk.{is_empty}
use Rattle.script_gen.specs.declared.TheConstants.{MAX_CALLS, SEED_LIMIT}
use Rattle.spr_run.specs.Line.{line}
use Rattle.spr_run.specs.declared.words.Asked.{Asked}
use Rattle.spr_run.specs.declared.words.Asked.TheVariants.{Run, Gen, Check, Format, Dump, Disks, Idl}

-- whether a flag was given: clap finds the word `true` under its id
abbrev pub is_given : Text → List Row → Bool
is_given id found = option_map_or (λ word. bytes_eq word (codes "true")) (first_of id found) false

-- the whole number that digits spell, where it is below a limit
abbrev pub whole_number : ℕ → Text → Option ℕ
whole_number limit digits = if is_numeral digits && nat_lt (digits_value 10 digits) limit then Some (digits_value 10 digits) else None

-- the number that was found under an id: a plus may stand before its digits
abbrev pub number_below : ℕ → Text → List Row → Option ℕ
number_below limit id found = option_and_then (λ text. whole_number limit (without_leading_plus text)) (one_of id found)

-- the number by which the links of a run lose packets, which is from 2 to 1,000; none if no option says it, and no command if it is another
abbrev pub loss_by : Option ℕ → Option (Option ℕ)
loss_by None = None
loss_by (Some number) = if nat_le 2 number then Some (Some number) else None

abbrev pub loss_of : Option Text → List Row → Option (Option ℕ)
loss_of None found = Some None
loss_of (Some word) found = loss_by (number_below 1001 (codes "loss") found)

abbrev pub loss_in : List Row → Option (Option ℕ)
loss_in found = loss_of (first_of (codes "loss") found) found

-- the names that each command has, by what clap found
abbrev pub run_in : List Row → Option Asked
run_in found =
    option_and_then (λ loss. option_and_then (λ idl. option_and_then (λ stack. option_map (λ script. Run (is_given (codes "trace") found) loss idl stack script)
    (first_of (codes "script") found)) (first_of (codes "stack") found)) (first_of (codes "idl") found)) (loss_in found)

abbrev pub gen_in : List Row → Option Asked
gen_in found =
    option_and_then (λ idl. option_and_then (λ stack. option_and_then (λ seed. option_map (λ calls. Gen idl stack seed calls)
    (number_below (MAX_CALLS + 1) (codes "calls") found)) (number_below SEED_LIMIT (codes "seed") found)) (first_of (codes "stack") found)) (first_of (codes "idl") found)

abbrev pub check_in : List Row → Option Asked
check_in found = option_map Check (first_of (codes "stack") found)

abbrev pub format_in : List Row → Option Asked
format_in found = option_map Format (first_of (codes "stack") found)

abbrev pub dump_in : List Row → Option Asked
dump_in found = option_and_then (λ stack. option_map (λ file. Dump stack file) (first_of (codes "file") found)) (first_of (codes "stack") found)

abbrev pub disks_in : List Row → Option Asked
disks_in found = option_map Disks (first_of (codes "stack") found)

abbrev pub idl_in : List Row → Option Asked
idl_in found = option_map Idl (first_of (codes "idl") found)

-- the command of a name
abbrev pub asked_by : Text → List Row → Option Asked
asked_by name found =
    if bytes_eq name (codes "run") then run_in found
    else if bytes_eq name (codes "gen") then gen_in found
    else if bytes_eq name (codes "check") then check_in found
    else if bytes_eq name (codes "format") then format_in found
    else if bytes_eq name (codes "dump") then dump_in found
    else if bytes_eq name (codes "disks") then disks_in found
    else if bytes_eq name (codes "idl") then idl_in found
    else None

abbrev pub asked_in : Option (Text × List Row) → Option Asked
asked_in found = option_and_then (λ f. asked_by f.0 f.1) found

-- The command that these words ask for, as clap reads the program's command line; none where it refuses them.
abbrev pub asked : List Text → Option Asked
asked words = if is_empty (fault_of line words) then asked_in (subcommand_of line words) else None

-- the seed and the calls of a command are within their limits
abbrev pub IsWithinLimits : Asked → Type 0
IsWithinLimits (Gen idl stack seed calls) = (seed < SEED_LIMIT) × (calls ≤ MAX_CALLS)
IsWithinLimits command = Unit {0}
