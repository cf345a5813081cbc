-- The command line of the program, as it is told to clap.
use Rattle.std.specs.Prelude.{codes, pos, true, Some}
use Rattle.clap.specs.declared.builder.action.ArgAction.TheVariants.{SetTrue}
use Rattle.clap.specs.declared.builder.value_parser.ValueParser.TheVariants.{Signed}
use Rattle.clap.specs.Words.{App, Rule, Shape, Text, new_app, new_rule, with_rule, with_subcommand}

-- a name that a command needs
abbrev pub name : Text → Rule
name id = record (new_rule id) { required = true }

-- the two numbers that a generated script needs: its seed, below 2,147,483,648, and how many calls it has, at most 1,000,000
abbrev pub seed : Rule
seed = record (new_rule (codes "seed")) { parser = Some (Signed (pos 0) (pos 2147483647)); required = true }

abbrev pub calls : Rule
calls = record (new_rule (codes "calls")) { parser = Some (Signed (pos 0) (pos 1000000)); required = true }

-- a flag that a command may have
abbrev pub flag : Text → Rule
flag id = record (new_rule id) { long = Some id; action = Some SetTrue }

-- the number of a run over links that lose packets, from 2 to 1,000
abbrev pub loss : Rule
loss = record (new_rule (codes "loss")) { long = Some (codes "loss"); parser = Some (Signed (pos 2) (pos 1000)) }

-- run [--trace] [--loss N] IDL STACK SCRIPT
abbrev pub run : Shape
run = (with_rule (with_rule (with_rule (with_rule (with_rule (new_app (codes "run")) (flag (codes "trace"))) loss) (name (codes "idl"))) (name (codes "stack"))) (name (codes "script"))).top

-- gen IDL STACK SEED CALLS
abbrev pub generation : Shape
generation = (with_rule (with_rule (with_rule (with_rule (new_app (codes "gen")) (name (codes "idl"))) (name (codes "stack"))) seed) calls).top

-- check STACK
abbrev pub check : Shape
check = (with_rule (new_app (codes "check")) (name (codes "stack"))).top

-- format STACK
abbrev pub format : Shape
format = (with_rule (new_app (codes "format")) (name (codes "stack"))).top

-- dump STACK FILE
abbrev pub dump : Shape
dump = (with_rule (with_rule (new_app (codes "dump")) (name (codes "stack"))) (name (codes "file"))).top

-- disks STACK
abbrev pub disks : Shape
disks = (with_rule (new_app (codes "disks")) (name (codes "stack"))).top

-- idl IDL
abbrev pub idl : Shape
idl = (with_rule (new_app (codes "idl")) (name (codes "idl"))).top

-- no words of its own, no flag, and no call for help: a command must follow
abbrev pub bare : App
bare = record (new_app (codes "spring")) {
  top = record (new_app (codes "spring")).top {
    no_binary_name = true;
    disable_help_flag = true;
    disable_help_subcommand = true;
    disable_version_flag = true;
    subcommand_required = true;
  };
}

-- the line is one of the commands with its names
abbrev pub line : App
line = with_subcommand (with_subcommand (with_subcommand (with_subcommand (with_subcommand (with_subcommand (with_subcommand bare run) generation) check) format) dump) disks) idl
