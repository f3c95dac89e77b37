-- The first refusal that holds, among those of the file header and those behind them.
use Rattle.std.proofs.Common.{◌≡◌, ℕ, List, [], ◌∷◌, ◌++◌, length, Bool, true, false, Option, Some, None, refl, sym, ◌∙◌, ap}
use Rattle.std.specs.Bool.{if◌then◌else◌}
use Rattle.elf_load.specs.declared.fault.ElfFault.{ElfFault}
use Rattle.elf_load.specs.Format.{FileHeader}
use Rattle.elf_load.specs.Format.{ProgramHeader}
use Rattle.elf_load.specs.Format.{file_header, headers_from, program_headers}
use Rattle.elf_load.specs.Refusals.{first_fault, first_holding, header_refusals, program_refusals}

-- a row that holds, and otherwise the rows behind it
row-some : (b : Bool) (x rest more : Option ElfFault) (fault : ElfFault)
    → (if b then x else rest) ≡ Some fault → (rest ≡ Some fault → more ≡ Some fault) → (if b then x else more) ≡ Some fault
row-some true x rest more fault holds behind = holds
row-some false x rest more fault holds behind = behind holds

row-none : (b : Bool) (row : ElfFault) (rest more last : Option ElfFault)
    → (if b then Some row else rest) ≡ None → (rest ≡ None → more ≡ last) → (if b then Some row else more) ≡ last
row-none true row rest more last none behind = cc
row-none false row rest more last none behind = behind none

first_holding-some : (rows more : List (ElfFault × Bool)) (fault : ElfFault)
    → first_holding rows ≡ Some fault → first_holding (rows ++ more) ≡ Some fault
first_holding-some [] more fault holds = cc
first_holding-some (row ∷ rows) more fault holds =
    row-some row.1 (Some row.0) (first_holding rows) (first_holding (rows ++ more)) fault holds (first_holding-some rows more fault)

first_holding-none : (rows more : List (ElfFault × Bool)) → first_holding rows ≡ None → first_holding (rows ++ more) ≡ first_holding more
first_holding-none [] more none = refl
first_holding-none (row ∷ rows) more none =
    row-none row.1 row.0 (first_holding rows) (first_holding (rows ++ more)) (first_holding more) none (first_holding-none rows more)

-- a refusal of the file header is the file's
pub first_fault-header : (file : List ℕ) (size : ℕ) (fault : ElfFault)
    → first_holding (header_refusals file) ≡ Some fault → first_fault file size ≡ Some fault
unfolding first_fault
first_fault-header file size fault holds =
    first_holding-some (header_refusals file) (program_refusals (length file) size (file_header file) (program_headers file)) fault holds

-- where there is none, the first of the others is
pub first_fault-program : (file : List ℕ) (size : ℕ) (header : FileHeader) (headers : List ProgramHeader) (fault : Option ElfFault)
    → first_holding (header_refusals file) ≡ None → header ≡ file_header file → headers ≡ headers_from file header.table header.count
    → first_holding (program_refusals (length file) size header headers) ≡ fault → first_fault file size ≡ fault
unfolding first_fault program_headers
first_fault-program file size header headers fault none header_is headers_are fault_is =
    first_holding-none (header_refusals file) (program_refusals (length file) size (file_header file) (program_headers file)) none
    ∙ sym (sym fault_is
    ∙ ap (λ at_hand. first_holding (program_refusals (length file) size header at_hand)) headers_are
    ∙ ap (λ at_hand. first_holding (program_refusals (length file) size at_hand (headers_from file at_hand.table at_hand.count))) header_is)
