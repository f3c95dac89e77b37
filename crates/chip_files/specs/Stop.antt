-- What the reasons for a stop stand for while words and files are read.
use Rattle.std.specs.Prelude.{List}
use Rattle.sec_base.specs.declared.files.ReadStop.{ReadStop}
use Rattle.sec_base.specs.declared.files.ReadStop.TheVariants.{Failed, Long, NoMemory as read_no_memory}
use Rattle.chip_words.specs.declared.fault.WordsError.{WordsError}
use Rattle.chip_words.specs.declared.fault.WordsError.TheVariants.{Usage as WordsUntaken, WrongValue as WordsWrongValue, NoMemory as words_no_memory}
use Rattle.sec_base.specs.Files.{FilesState}
use Rattle.adversary_script.specs.declared.fault.ScriptError.{ScriptError}
use Rattle.adversary_script.specs.declared.fault.ScriptError.TheVariants.{Fault as ScriptFaulty, NoMemory as script_no_memory}
use Rattle.elf_load.specs.declared.fault.ElfError.{ElfError}
use Rattle.elf_load.specs.declared.fault.ElfError.TheVariants.{Fault as ElfFaulty, NoMemory as elf_no_memory}
use Rattle.bus_trace.specs.declared.fault.TraceError.{TraceError}
use Rattle.bus_trace.specs.declared.fault.TraceError.TheVariants.{Fault as TraceFaulty, NoMemory as trace_no_memory}
use Rattle.turn_order.specs.declared.order_error.OrderError.{OrderError}
use Rattle.rv32_asm.specs.declared.fault.AsmError.{AsmError}
use Rattle.rv32_asm.specs.declared.fault.AsmError.TheVariants.{Fault as AsmFaulty, NoMemory as assembly_no_memory}
use Rattle.chip_files.specs.declared.refusal.Refusal.TheVariants.{Usage, WrongValue, Unread, TooLong, Elf, Asm, Script, Trace, Order}
use Rattle.chip_files.specs.declared.stop.Stop.{Stop}
use Rattle.chip_files.specs.declared.stop.Stop.TheVariants.{Refused, NoMemory}
use Rattle.chip_files.specs.Needs.{Need}
use Rattle.chip_files.specs.Causes.{RunsOut, Stops}

-- why files were not taken
abbrev pub IsStoppedBy : Stop → List Need → FilesState → FilesState → Type 0
IsStoppedBy (Refused refusal) needs old new = Stops refusal needs old new
IsStoppedBy NoMemory needs old new = RunsOut needs old new

-- why words are no request
abbrev pub words_stop_of : WordsError → Stop
words_stop_of (WordsUntaken text) = Refused (Usage text)
words_stop_of (WordsWrongValue fault) = Refused (WrongValue fault)
words_stop_of words_no_memory = NoMemory

-- why a file was not read
abbrev pub read_stop_of : ReadStop → Stop
read_stop_of Failed = Refused Unread
read_stop_of Long = Refused TooLong
read_stop_of read_no_memory = NoMemory

-- why bytes are no program
abbrev pub elf_stop_of : ElfError → Stop
elf_stop_of (ElfFaulty fault) = Refused (Elf fault)
elf_stop_of elf_no_memory = NoMemory

-- why an assembly text is no program
abbrev pub assembly_stop_of : AsmError → Stop
assembly_stop_of (AsmFaulty line fault) = Refused (Asm line fault)
assembly_stop_of assembly_no_memory = NoMemory

-- why bytes are no script
abbrev pub script_stop_of : ScriptError → Stop
script_stop_of (ScriptFaulty line fault) = Refused (Script line fault)
script_stop_of script_no_memory = NoMemory

-- why bytes are no trace
abbrev pub trace_stop_of : TraceError → Stop
trace_stop_of (TraceFaulty fault) = Refused (Trace fault)
trace_stop_of trace_no_memory = NoMemory

-- why bytes are no order of turns
abbrev pub order_stop_of : OrderError → Stop
order_stop_of error = Refused (Order error)
