-- What a list of words asks for: what `clap`'s definition of the command line gives for them, and then the checks of
-- their values.
use Rattle.std.specs.Prelude.{◌==◌, ◌&&◌, nat_le, ℕ, Bool, List, [], Option, Some, None, ok_or, unwrap_or, Result, Ok, Err, true, false, codes, if◌then◌else◌}
use Rattle.std.specs.Option.{option_map_or}
use Rattle.std.specs.Result.{result_ok}
use Rattle.std.specs.Str.{bytes_eq}
use Rattle.std.specs.Str.Parse.{digits_value, without_leading_plus}
use Rattle.clap.specs.Walk.{Row, Text, first_of, is_empty, one_of}
use Rattle.clap.specs.Simple.{subcommand_of}
use Rattle.clap.specs.Faults.{fault_of}
use Rattle.hex.specs.Hex.{decode_sized}
use Rattle.sec_base.specs.Geometry.{GeometryView, most_levels}
use Rattle.sec_base.specs.declared.geometry.Layout.{Layout}
use Rattle.sec_base.specs.declared.geometry.Layout.TheVariants.{One, Two}
use Rattle.chip_words.specs.App.{chip_app}
use Rattle.chip_words.specs.declared.fault.ValueFault.{ValueFault}
use Rattle.chip_words.specs.declared.fault.ValueFault.TheVariants.{Levels as wrong_levels, Tags as wrong_tags, Key as wrong_key, Keys as equal_keys, Nonce as wrong_nonce}
use Rattle.chip_words.specs.declared.request.ProgramForm.{ProgramForm}
use Rattle.chip_words.specs.declared.request.ProgramForm.TheVariants.{ElfFile, FlatFile, AssemblyText}
use Rattle.chip_words.specs.declared.request.Tags.{Tags}
use Rattle.chip_words.specs.declared.request.Tags.TheVariants.{Hmac, Xor}
use Rattle.chip_words.specs.declared.request.Terms.{Terms}

-- a program's file: its name, its form, and the shape of the tree whose memory the program is for
pub record FileAsked : Type 0 where
  pub name : Text
  pub form : ProgramForm
  pub geometry : GeometryView

-- what is to be run, and how
pub record ExecutionAsked : Type 0 where
  pub file : FileAsked
  pub input : Option Text
  pub steps : ℕ

-- what is to be run on protected memory, the script of the adversary outside, and how that memory is protected
pub record RunAsked : Type 0 where
  pub execution : ExecutionAsked
  pub script : Option Text
  pub terms : Terms

-- a trace's file, and what its run was to execute, and how
pub record JudgeAsked : Type 0 where
  pub execution : ExecutionAsked
  pub trace : Text

-- one of two programs that are to share the core: its file, the script of the adversary outside its memory, and the key
-- of its device
pub record SideAsked : Type 0 where
  pub name : Text
  pub script : Option Text
  pub device_key : List ℕ

-- two programs that are to share the core, and the file of whose turn it is
pub record PairAsked : Type 0 where
  pub first : SideAsked
  pub second : SideAsked
  pub order : Option Text

-- a report's file, and the key of the device that it is checked for
pub record ReportAsked : Type 0 where
  pub name : Text
  pub device_key : List ℕ

-- what is to be done, and with which file or generated program
pub data Asked : Type 0 where
  to_run : RunAsked → Asked
  to_run_plain : ExecutionAsked → Asked
  to_assemble : FileAsked → Asked
  to_disassemble : FileAsked → Asked
  to_measure : FileAsked → Asked
  to_verify : ReportAsked → Asked
  to_bench : ℕ → Asked
  to_trace : RunAsked → Asked
  to_judge : JudgeAsked → Asked
  to_pair : PairAsked → Asked

-- why words ask for nothing: `clap` doesn't take them; or it does, and a value of theirs is refused
pub data WordsFault : Type 0 where
  not_taken : WordsFault
  wrong_value : ValueFault → WordsFault

-- the file of a request's program, where it has one and no other
abbrev pub asked_program : Asked → Option FileAsked
asked_program (to_run run) = Some run.execution.file
asked_program (to_run_plain execution) = Some execution.file
asked_program (to_assemble file) = Some file
asked_program (to_disassemble file) = Some file
asked_program (to_measure file) = Some file
asked_program (to_verify report) = None
asked_program (to_bench number) = None
asked_program (to_trace run) = Some run.execution.file
asked_program (to_judge judge) = Some judge.execution.file
asked_program (to_pair pair) = None

-- the number of a request's generated program, where it asks for one
abbrev pub asked_number : Asked → Option ℕ
asked_number (to_bench number) = Some number
asked_number _ = None

-- ---- the values of a command

-- the first value of the argument of this name
abbrev pub value_of : Text → List Row → Text
value_of id values = unwrap_or (first_of id values) []

-- the number that the digits write, where a plus may stand before them
abbrev pub numeral_value : Text → ℕ
numeral_value text = digits_value 10 (without_leading_plus text)

-- `--flat` is given
abbrev pub is_flat : List Row → Bool
is_flat values = bytes_eq (unwrap_or (one_of (codes "flat") values) []) (codes "true")

-- the form of a program that isn't assembled
abbrev pub form_of : List Row → ProgramForm
form_of values = if is_flat values then FlatFile else ElfFile

-- the name of the program's input file, where one is named
abbrev pub input_of : List Row → Option Text
input_of values = first_of (codes "input") values

-- the layout of the tree whose memory the program is for, by its number
abbrev pub layout_of : List Row → Layout
layout_of values = if numeral_value (value_of (codes "layout") values) == 2 then Two else One

-- how many levels a tree of this layout has where none are named
abbrev pub levels_by_default : Layout → ℕ
levels_by_default One = 4
levels_by_default Two = 3

-- how many levels the tree has: as many as are named, else as its layout has by default
abbrev pub levels_of : List Row → ℕ
levels_of values = option_map_or numeral_value (first_of (codes "levels") values) (levels_by_default (layout_of values))

-- the limit of steps of the run
abbrev pub steps_of : List Row → ℕ
steps_of values = numeral_value (value_of (codes "steps") values)

-- the limit of page counters
abbrev pub page_limit_of : List Row → ℕ
page_limit_of values = numeral_value (value_of (codes "page-limit") values)

-- the number of the generated program
abbrev pub number_of : List Row → ℕ
number_of values = numeral_value (value_of (codes "number") values)

-- the name of the adversary's script, where one is named
abbrev pub script_name_of : List Row → Option Text
script_name_of values = first_of (codes "script") values

-- the name of the trace
abbrev pub trace_name_of : List Row → Text
trace_name_of values = value_of (codes "trace") values

-- ---- the values that `clap` takes and that may be refused all the same, each tested after the ones before it

-- the shape of a tree of this layout with so many levels, where the layout has them
abbrev pub geometry_with : Layout → ℕ → Option GeometryView
geometry_with layout levels = if nat_le 1 levels && nat_le levels (most_levels layout)
    then Some (record { layout = layout; levels = levels }) else None

-- the shape of the tree whose memory the program is for, or the fault of levels that its layout doesn't have
abbrev pub geometry_of : List Row → Result GeometryView ValueFault
geometry_of values = ok_or (geometry_with (layout_of values) (levels_of values)) wrong_levels

-- the kind of tags of this name
abbrev pub tags_named : Text → Option Tags
tags_named name = if bytes_eq name (codes "hmac") then Some Hmac
    else (if bytes_eq name (codes "xor") then Some Xor else None)

-- the kind of tags, `hmac` or `xor`, or the fault of another name
abbrev pub tags_of : List Row → Result Tags ValueFault
tags_of values = ok_or (tags_named (value_of (codes "tags") values)) wrong_tags

-- so many bytes, of two digits each, in either case
abbrev pub bytes_in_hex : ℕ → Text → Option (List ℕ)
bytes_in_hex count digits = result_ok (decode_sized digits count)

-- the key that the argument of this name gives, which is 64 hexadecimal digits, or the fault of another value
abbrev pub key_of : Text → List Row → Result (List ℕ) ValueFault
key_of id values = ok_or (bytes_in_hex 32 (value_of id values)) wrong_key

-- the device key
abbrev pub device_key_of : List Row → Result (List ℕ) ValueFault
device_key_of values = key_of (codes "key") values

-- the nonce, which is 32 hexadecimal digits, or the fault of another value
abbrev pub nonce_of : List Row → Result (List ℕ) ValueFault
nonce_of values = ok_or (bytes_in_hex 16 (value_of (codes "nonce") values)) wrong_nonce

-- one value after another, as long as none is refused
infixl 10 ◌>>=◌
-- `next` gets the value; a fault stays as it is
abbrev pub ◌>>=◌ : {X Y : Type 0} → Result X ValueFault → (X → Result Y ValueFault) → Result Y ValueFault
Ok x >>= next = next x
Err fault >>= next = Err fault

-- the terms of a run, or the first of tags, key and nonce that doesn't have its form
abbrev pub terms_of : List Row → Result Terms ValueFault
terms_of values = do
  tags ← tags_of values
  key ← device_key_of values
  nonce ← nonce_of values
  Ok (record { device_key = key; tags = tags; page_limit = page_limit_of values; nonce = nonce })

-- ---- the request

-- the file that is named, as one of this form, for a memory of this shape
abbrev pub file_of : ProgramForm → List Row → GeometryView → FileAsked
file_of form values geometry =
    record { name = value_of (codes "file") values; form = form; geometry = geometry }

-- the file of a program that is not assembled: flat with `--flat`, else ELF
abbrev pub program_of : List Row → GeometryView → FileAsked
program_of values geometry = file_of (form_of values) values geometry

-- the program, its input and its limit of steps
abbrev pub execution_of : List Row → GeometryView → ExecutionAsked
execution_of values geometry =
    record { file = program_of values geometry; input = input_of values; steps = steps_of values }

-- the run of the program on these terms, with the adversary's script
abbrev pub run_of : List Row → GeometryView → Terms → RunAsked
run_of values geometry terms =
    record { execution = execution_of values geometry; script = script_name_of values; terms = terms }

-- the judgement of the trace that these values name, as one of a run of the program
abbrev pub judgement_of : List Row → GeometryView → JudgeAsked
judgement_of values geometry =
    record { execution = execution_of values geometry; trace = trace_name_of values }

-- one of two programs that share the core: the file and the script that the arguments of these names give, under this
-- key
abbrev pub side_of : Text → Text → List Row → List ℕ → SideAsked
side_of file script values key =
    record { name = value_of file values; script = first_of script values; device_key = key }

-- the two programs that these values name, each under its key, and the file of their turns
abbrev pub pair_of : List Row → List ℕ → List ℕ → PairAsked
pair_of values key key2 = record {
  first = side_of (codes "file1") (codes "script") values key;
  second = side_of (codes "file2") (codes "script2") values key2;
  order = first_of (codes "order") values;
}

-- the report that these values name, and the device key to check it under
abbrev pub report_of : List Row → List ℕ → ReportAsked
report_of values key = record { name = value_of (codes "file") values; device_key = key }

-- ---- what each command asks for, or the fault of the first of its values that is refused

-- `run`
abbrev pub asked_to_run : List Row → Result Asked ValueFault
asked_to_run values = do
  geometry ← geometry_of values
  terms ← terms_of values
  Ok (to_run (run_of values geometry terms))

-- `plain`
abbrev pub asked_to_run_plain : List Row → Result Asked ValueFault
asked_to_run_plain values = do
  geometry ← geometry_of values
  Ok (to_run_plain (execution_of values geometry))

-- `asm`
abbrev pub asked_to_assemble : List Row → Result Asked ValueFault
asked_to_assemble values = do
  geometry ← geometry_of values
  Ok (to_assemble (file_of AssemblyText values geometry))

-- `dis`
abbrev pub asked_to_disassemble : List Row → Result Asked ValueFault
asked_to_disassemble values = do
  geometry ← geometry_of values
  Ok (to_disassemble (program_of values geometry))

-- `measure`
abbrev pub asked_to_measure : List Row → Result Asked ValueFault
asked_to_measure values = do
  geometry ← geometry_of values
  Ok (to_measure (program_of values geometry))

-- `verify`
abbrev pub asked_to_verify : List Row → Result Asked ValueFault
asked_to_verify values = do
  key ← device_key_of values
  Ok (to_verify (report_of values key))

-- `trace`
abbrev pub asked_to_trace : List Row → Result Asked ValueFault
asked_to_trace values = do
  geometry ← geometry_of values
  terms ← terms_of values
  Ok (to_trace (run_of values geometry terms))

-- `judge`
abbrev pub asked_to_judge : List Row → Result Asked ValueFault
asked_to_judge values = do
  geometry ← geometry_of values
  Ok (to_judge (judgement_of values geometry))

-- two programs, each under its key, where the keys differ
abbrev pub pair_under : List Row → List ℕ → List ℕ → Result Asked ValueFault
pair_under values key key2 =
    if bytes_eq key key2 then Err equal_keys else Ok (to_pair (pair_of values key key2))

-- `pair`
abbrev pub asked_to_pair : List Row → Result Asked ValueFault
asked_to_pair values = do
  key ← key_of (codes "key") values
  key2 ← key_of (codes "key2") values
  pair_under values key key2

-- the fault of a value is one of the words
abbrev pub by_values : Result Asked ValueFault → Result Asked WordsFault
by_values (Ok asked) = Ok asked
by_values (Err fault) = Err (wrong_value fault)

-- what the command of this name asks for, with these values, where it runs two programs
abbrev pub asked_of_pair : Text → List Row → Result Asked WordsFault
asked_of_pair name values = if bytes_eq name (codes "pair") then by_values (asked_to_pair values) else Err not_taken

-- what the command of this name asks for, with these values, where a trace is made or judged, or two programs are run
abbrev pub asked_of_trace : Text → List Row → Result Asked WordsFault
asked_of_trace name values = if bytes_eq name (codes "trace") then by_values (asked_to_trace values)
    else (if bytes_eq name (codes "judge") then by_values (asked_to_judge values) else asked_of_pair name values)

-- what the command of this name asks for, with these values
abbrev pub asked_by : Text → List Row → Result Asked WordsFault
asked_by name values = if bytes_eq name (codes "run") then by_values (asked_to_run values)
    else (if bytes_eq name (codes "plain") then by_values (asked_to_run_plain values)
    else (if bytes_eq name (codes "asm") then by_values (asked_to_assemble values)
    else (if bytes_eq name (codes "dis") then by_values (asked_to_disassemble values)
    else (if bytes_eq name (codes "measure") then by_values (asked_to_measure values)
    else (if bytes_eq name (codes "verify") then by_values (asked_to_verify values)
    else (if bytes_eq name (codes "bench") then Ok (to_bench (number_of values)) else asked_of_trace name values))))))

-- what a command asks for, where there is one
abbrev pub asked_in : Option (Text × List Row) → Result Asked WordsFault
asked_in None = Err not_taken
asked_in (Some command) = asked_by command.0 command.1

-- The words ask for something where `clap` has no fault to find in them: then their command says what, and its values,
-- of which none may be refused, say of which file or generated program and how.
abbrev pub request_of : List Text → Result Asked WordsFault
request_of words =
    if is_empty (fault_of chip_app words) then asked_in (subcommand_of chip_app words) else Err not_taken

-- `clap` takes the words
abbrev pub is_taken : Result Asked WordsFault → Bool
is_taken (Ok asked) = true
is_taken (Err (wrong_value fault)) = true
is_taken (Err not_taken) = false
