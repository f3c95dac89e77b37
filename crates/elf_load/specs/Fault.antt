-- The names and numbers of the refusals.
use Rattle.std.specs.Prelude.{ℕ, List, codes}
use Rattle.elf_load.specs.declared.fault.ElfFault.{ElfFault}
use Rattle.elf_load.specs.declared.fault.ElfFault.TheVariants.{Short, Magic, Class, Kind, Machine, Compressed, Table, Interp, Segment, Entry}

-- the word that stands for a refusal in texts
abbrev pub elf_fault_name : ElfFault → List ℕ
elf_fault_name Short = codes "Short"
elf_fault_name Magic = codes "Magic"
elf_fault_name Class = codes "Class"
elf_fault_name Kind = codes "Kind"
elf_fault_name Machine = codes "Machine"
elf_fault_name Compressed = codes "Compressed"
elf_fault_name Table = codes "Table"
elf_fault_name Interp = codes "Interp"
elf_fault_name Segment = codes "Segment"
elf_fault_name Entry = codes "Entry"

-- its number, in the order in which they are tested
abbrev pub elf_fault_code : ElfFault → ℕ
elf_fault_code Short = 1
elf_fault_code Magic = 2
elf_fault_code Class = 3
elf_fault_code Kind = 4
elf_fault_code Machine = 5
elf_fault_code Compressed = 6
elf_fault_code Table = 7
elf_fault_code Interp = 8
elf_fault_code Segment = 9
elf_fault_code Entry = 10
