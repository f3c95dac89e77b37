-- The command line of the program, as `clap` defines one: what each command takes.
use Rattle.std.specs.Prelude.{◌-◌, ◌^◌, List, [], ◌∷◌, ◌++◌, Some, codes, true, false}
use Rattle.clap.specs.Walk.{Rule, Text}
use Rattle.clap.specs.Simple.{App, Shape, new_rule, new_shape}
use Rattle.clap.specs.declared.builder.action.ArgAction.TheVariants.{SetTrue}
use Rattle.clap.specs.declared.builder.value_parser.ValueParser.TheVariants.{Unsigned}

-- `FILE`, which a command can't do without
abbrev pub file_rule : Rule
file_rule = record (new_rule (codes "file")) { value_names = 1; required = true }

-- `--flat`
abbrev pub flat_rule : Rule
flat_rule = record (new_rule (codes "flat")) { long = Some (codes "flat"); action = Some SetTrue }

-- `--input F`
abbrev pub input_rule : Rule
input_rule = record (new_rule (codes "input")) { long = Some (codes "input"); value_names = 1 }

-- `--layout 1|2`, and 1 where it is left out
abbrev pub layout_rule : Rule
layout_rule = record (new_rule (codes "layout")) {
  long = Some (codes "layout");
  value_names = 1;
  parser = Some (Unsigned 1 2);
  defaults = codes "1" ∷ [];
}

-- `--levels L`, from 1 to 8; where it is left out, the layout says how many levels there are
abbrev pub levels_rule : Rule
levels_rule = record (new_rule (codes "levels")) {
  long = Some (codes "levels");
  value_names = 1;
  parser = Some (Unsigned 1 8);
}

-- `--steps N`, any number of 64 bits, and 10000000 where it is left out
abbrev pub steps_rule : Rule
steps_rule = record (new_rule (codes "steps")) {
  long = Some (codes "steps");
  value_names = 1;
  parser = Some (Unsigned 0 (2 ^ 64 - 1));
  defaults = codes "10000000" ∷ [];
}

-- `--script F`
abbrev pub script_rule : Rule
script_rule = record (new_rule (codes "script")) { long = Some (codes "script"); value_names = 1 }

-- `--tags T`, and `hmac` where it is left out
abbrev pub tags_rule : Rule
tags_rule = record (new_rule (codes "tags")) {
  long = Some (codes "tags");
  value_names = 1;
  defaults = codes "hmac" ∷ [];
}

-- `--key HEX`, and the bytes 00 to 1f where it is left out
abbrev pub key_rule : Rule
key_rule = record (new_rule (codes "key")) {
  long = Some (codes "key");
  value_names = 1;
  defaults = codes "000102030405060708090a0b0c0d0e0f101112131415161718191a1b1c1d1e1f" ∷ [];
}

-- `--nonce HEX`, and sixteen zero bytes where it is left out
abbrev pub nonce_rule : Rule
nonce_rule = record (new_rule (codes "nonce")) {
  long = Some (codes "nonce");
  value_names = 1;
  defaults = codes "00000000000000000000000000000000" ∷ [];
}

-- `--page-limit N`, any number of 64 bits, and the greatest where it is left out
abbrev pub page_limit_rule : Rule
page_limit_rule = record (new_rule (codes "page-limit")) {
  long = Some (codes "page-limit");
  value_names = 1;
  parser = Some (Unsigned 0 (2 ^ 64 - 1));
  defaults = codes "18446744073709551615" ∷ [];
}

-- `NUMBER`, of 32 bits, which a command can't do without
abbrev pub number_rule : Rule
number_rule = record (new_rule (codes "number")) {
  value_names = 1;
  parser = Some (Unsigned 0 (2 ^ 32 - 1));
  required = true;
}

-- `TRACE`, behind `FILE`, which a command can't do without
abbrev pub trace_rule : Rule
trace_rule = record (new_rule (codes "trace")) { value_names = 1; required = true }

-- `FILE1`, the first of two programs, which a command can't do without
abbrev pub first_file_rule : Rule
first_file_rule = record (new_rule (codes "file1")) { value_names = 1; required = true }

-- `FILE2`, behind `FILE1`, which a command can't do without
abbrev pub second_file_rule : Rule
second_file_rule = record (new_rule (codes "file2")) { value_names = 1; required = true }

-- `--order F`
abbrev pub order_rule : Rule
order_rule = record (new_rule (codes "order")) { long = Some (codes "order"); value_names = 1 }

-- `--script2 F`
abbrev pub second_script_rule : Rule
second_script_rule = record (new_rule (codes "script2")) { long = Some (codes "script2"); value_names = 1 }

-- `--key2 HEX`, and the bytes 20 to 3f where it is left out
abbrev pub second_key_rule : Rule
second_key_rule = record (new_rule (codes "key2")) {
  long = Some (codes "key2");
  value_names = 1;
  defaults = codes "202122232425262728292a2b2c2d2e2f303132333435363738393a3b3c3d3e3f" ∷ [];
}

-- what `asm` takes
abbrev pub assembly_rules : List Rule
assembly_rules = file_rule ∷ layout_rule ∷ levels_rule ∷ []

-- what `dis` and `measure` take
abbrev pub inspection_rules : List Rule
inspection_rules = file_rule ∷ flat_rule ∷ layout_rule ∷ levels_rule ∷ []

-- what `plain` takes
abbrev pub execution_rules : List Rule
execution_rules = inspection_rules ++ input_rule ∷ steps_rule ∷ []

-- what `run` and `trace` take
abbrev pub protected_run_rules : List Rule
protected_run_rules =
    execution_rules ++ script_rule ∷ key_rule ∷ nonce_rule ∷ tags_rule ∷ page_limit_rule ∷ []

-- what `judge` takes
abbrev pub judgement_rules : List Rule
judgement_rules = execution_rules ++ trace_rule ∷ []

-- the two programs of `pair`, and the order of their turns
abbrev pub turns_rules : List Rule
turns_rules = first_file_rule ∷ second_file_rule ∷ order_rule ∷ []

-- what `pair` takes
abbrev pub pair_rules : List Rule
pair_rules =
    turns_rules ++ script_rule ∷ second_script_rule ∷ key_rule ∷ second_key_rule ∷ []

-- what `verify` takes
abbrev pub verification_rules : List Rule
verification_rules = file_rule ∷ key_rule ∷ []

-- what `bench` takes
abbrev pub bench_rules : List Rule
bench_rules = number_rule ∷ []

-- a command with these arguments
abbrev pub command : Text → List Rule → Shape
command name rules = record (new_shape name) { rules = rules }

-- the program with the commands that have to do with one program, and nothing with traces; it needs a command, and shows
-- its help where it is given nothing
abbrev pub untraced_app : App
untraced_app = record {
  top = record (new_shape (codes "chip")) {
    is_leaf = false;
    subcommand_required = true;
    arg_required_else_help = true;
  };
  subs = command (codes "run") protected_run_rules
      ∷ command (codes "plain") execution_rules
      ∷ command (codes "asm") assembly_rules
      ∷ command (codes "dis") inspection_rules
      ∷ command (codes "measure") inspection_rules
      ∷ command (codes "verify") verification_rules
      ∷ command (codes "bench") bench_rules
      ∷ [];
}

-- the program with all its commands
abbrev pub chip_app : App
chip_app = record untraced_app {
  subs = untraced_app.subs
      ++ command (codes "trace") protected_run_rules
      ∷ command (codes "judge") judgement_rules
      ∷ command (codes "pair") pair_rules
      ∷ [];
}
