-- What is told of a refusal and of two programs that shared the core, and what is written of a program, of a run's trace and of
-- a judge's verdict.
use Rattle.std.specs.Prelude.{List, [], ◌++◌, ℕ, Option, Some, None, codes, string_bytes}
use Rattle.hex.specs.Hex.{encode_lower}
use Rattle.adversary_script.specs.Fault.{script_fault_code as script_code, script_fault_name as script_name}
use Rattle.sec_base.specs.declared.image.Image.{Image}
use Rattle.attest_report.specs.Refusal.{report_error_code, report_error_name}
use Rattle.bus_trace.specs.Fault.{trace_fault_code, trace_fault_name}
use Rattle.bus_trace.specs.Format.{trace_bytes}
use Rattle.bus_trace.specs.declared.trace.Trace.{Trace}
use Rattle.bus_trace.specs.declared.verdict.Difference.{Difference}
use Rattle.elf_load.specs.Fault.{elf_fault_code as elf_code, elf_fault_name as elf_name}
use Rattle.elf_load.specs.Measurement.{measurement_of}
use Rattle.elf_load.specs.Spelling.{spelled}
use Rattle.rv32_listing.specs.Listing.{listing_of}
use Rattle.rv32_asm_syntax.specs.Fault.{asm_fault_code as asm_code, asm_fault_name as asm_name}
use Rattle.chip_run.specs.declared.RunRecord.{RunRecord}
use Rattle.chip_words.specs.Texts.{asm_fault_line, difference_line, elf_fault_line, follows_line, long_file_line, order_fault_line, read_fault_line, record_text, report_fault_line, script_fault_line, second_line, trace_fault_line, usage_text, value_fault_line}
use Rattle.chip_files.specs.declared.refusal.Refusal.{Refusal}
use Rattle.chip_files.specs.declared.refusal.Refusal.TheVariants.{Usage, WrongValue, Unread, TooLong, Elf, Asm, Script, Report as report_refused, Trace as trace_refused, Order as order_refused}

-- the text of a refusal, a line but where `clap` doesn't take the words
abbrev pub refusal_text : Refusal → List ℕ
refusal_text (Usage text) = usage_text (string_bytes text)
refusal_text (WrongValue fault) = value_fault_line fault
refusal_text Unread = read_fault_line
refusal_text TooLong = long_file_line
refusal_text (Elf fault) = elf_fault_line (elf_code fault) (elf_name fault)
refusal_text (Asm line fault) = asm_fault_line line (asm_code fault) (asm_name fault)
refusal_text (Script line fault) = script_fault_line line (script_code fault) (script_name fault)
refusal_text (report_refused fault) = report_fault_line (report_error_code fault) (report_error_name fault)
refusal_text (trace_refused fault) = trace_fault_line (trace_fault_code fault) (trace_fault_name fault)
refusal_text (order_refused error) = order_fault_line error.place

-- the text of a run on protected memory, with so many lies
abbrev pub run_text : RunRecord → ℕ → List ℕ
run_text run lies = record_text run.ending run.retired lies run.made run.evidence run.report

-- the text of two programs that shared the core, each with so many lies of its own bus: the first one's, a line between them, and
-- the second one's
abbrev pub pair_text : RunRecord → ℕ → RunRecord → ℕ → List ℕ
pair_text first lies second second_lies = run_text first lies ++ (second_line ++ run_text second second_lies)

-- what a command writes of a program: its listing, its ELF file, or its measurement as 64 digits and a line feed
abbrev pub listing : Image → List ℕ
listing image = listing_of image.segments

-- the ELF file of a program, which the assembler writes
abbrev pub elf_file : Image → List ℕ
elf_file image = spelled image

-- the measurement of a program as 64 hexadecimal digits and a line feed
abbrev pub measurement_line : Image → List ℕ
measurement_line image = encode_lower (measurement_of image) ++ codes "\n"

-- the file of a run's trace, and nothing where the run has none
abbrev pub trace_file : Option Trace → List ℕ
trace_file None = []
trace_file (Some trace) = trace_bytes trace

-- the line of a verdict: of a trace that follows, or of its first difference
abbrev pub verdict_line : Option Difference → List ℕ
verdict_line None = follows_line
verdict_line (Some difference) = difference_line difference
