-- The program or the script that a file is: in one form and for one size of memory each file is just one, or is refused
-- for just one reason.
use Rattle.std.specs.Prelude.{◌≡◌, ℕ, List, Option, Result, Ok, Err}
use Rattle.std.specs.Result.{result_err}
use Rattle.sec_base.specs.Geometry.{GeometryView, memory_size}
use Rattle.sec_base.specs.Program.{IsImageOf, Program}
use Rattle.sec_base.specs.declared.image.Image.{Image}
use Rattle.adversary_script.specs.Script.{script_of}
use Rattle.adversary_script.specs.declared.script.ScriptLine.{ScriptLine}
use Rattle.elf_load.specs.Program.{elf_program, flat_program}
use Rattle.rv32_asm.specs.Program.{assembled_program}
use Rattle.chip_words.specs.Request.{FileAsked}
use Rattle.chip_words.specs.declared.request.ProgramForm.{ProgramForm}
use Rattle.chip_words.specs.declared.request.ProgramForm.TheVariants.{ElfFile, FlatFile, AssemblyText}
use Rattle.chip_files.specs.declared.refusal.Refusal.{Refusal}
use Rattle.chip_files.specs.declared.refusal.Refusal.TheVariants.{Elf, Asm, Script}

-- what was read, or the refusal that a fault is
abbrev pub or_refusal : {X E : Type 0} → (E → Refusal) → Result X E → Result X Refusal
or_refusal refusal (Ok read) = Ok read
or_refusal refusal (Err fault) = Err (refusal fault)

-- the program that a file of this form is for a memory of this size, or why the file is refused
abbrev pub program_in : ProgramForm → ℕ → List ℕ → Result Program Refusal
program_in ElfFile size file = or_refusal Elf (elf_program file size)
program_in FlatFile size file = or_refusal Elf (flat_program file size)
program_in AssemblyText size file = or_refusal (λ fault. Asm fault.line fault.code) (assembled_program file size)

-- how many bytes of a file of this form are read at most
abbrev pub limit_of : ProgramForm → ℕ
limit_of ElfFile = 8388608
limit_of FlatFile = 1048576
limit_of AssemblyText = 1048576

-- the program that these bytes are, where they are the file's
abbrev pub program_of_file : FileAsked → List ℕ → Result Program Refusal
program_of_file file bytes = program_in file.form (memory_size file.geometry) bytes

-- what is wrong with these bytes, where they are the file's
abbrev pub fault_in : FileAsked → List ℕ → Option Refusal
fault_in file bytes = result_err (program_of_file file bytes)

-- the script that a file is for a memory of this geometry, or why it is refused
abbrev pub script_in : GeometryView → List ℕ → Result (List ScriptLine) Refusal
script_in geometry file = or_refusal (λ fault. Script fault.line fault.code) (script_of geometry file)

-- how many bytes of a script are read at most
abbrev pub script_limit : ℕ
script_limit = 1048576

-- the image is the program that a file of this form is for a memory of this size
pub record IsImageIn (form : ProgramForm) (size : ℕ) (file : List ℕ) (image : Image) : Type 0 where
  pub program : Program
  pub is : program_in form size file ≡ Ok program
  pub is_image : IsImageOf size program image
