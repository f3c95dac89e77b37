-- What a program can see of the machine that runs it (RISC-V unprivileged manual, RV32I, 2.1).
use Rattle.std.specs.Prelude.{ℕ, ◌+◌, ◌-◌, ◌%◌, ◌^◌, List, ◌++◌, length, take, drop, replicate, slice_index, slice_set, ◌==◌, if◌then◌else◌}
use Rattle.rv32_core.specs.declared.taken.Taken.{Taken}

-- the core: its program counter and its 32 registers
pub record CoreView : Type 0 where
  pub pc : ℕ
  pub registers : List ℕ

-- what the services know: the input, how much of it was read, and the program's break, now and at first
pub record ServicesView : Type 0 where
  pub input : List ℕ
  pub position : ℕ
  pub first_break : ℕ
  pub brk : ℕ

-- these, and what the sink took, which no program sees
pub record CallsView : Type 0 where
  pub services : ServicesView
  pub taken : Taken

-- What the plain machine is between two instructions.
pub record State : Type 0 where
  pub core : CoreView
  pub calls : ServicesView
  pub memory : List ℕ

-- A state of these three parts.
abbrev pub state_of : CoreView → ServicesView → List ℕ → State
state_of core calls memory = record { core = core; calls = calls; memory = memory }

-- the sum of two words
abbrev pub sum_of : ℕ → ℕ → ℕ
sum_of a b = (a + b) % 2 ^ 32

-- what a register has; register 0 reads 0
abbrev pub register : CoreView → ℕ → ℕ
register core number = if number == 0 then 0 else slice_index core.registers number

-- the registers after a write; a write to register 0 is dropped
abbrev pub with_register : List ℕ → ℕ → ℕ → List ℕ
with_register registers number value = if number == 0 then registers else slice_set registers number value

-- The core with its program counter at this address.
abbrev pub with_pc : CoreView → ℕ → CoreView
with_pc core target = record { pc = target; registers = core.registers }

-- the next instruction in order
abbrev pub next_core : CoreView → CoreView
next_core core = record { pc = sum_of core.pc 4; registers = core.registers }

-- the next instruction in order, with a value in a register
abbrev pub next_core_with : CoreView → ℕ → ℕ → CoreView
next_core_with core number value = record { pc = sum_of core.pc 4; registers = with_register core.registers number value }

-- The state with another core.
abbrev pub with_core : State → CoreView → State
with_core state core = record { core = core; calls = state.calls; memory = state.memory }

-- the state at the next instruction in order, and the same with a value in a register
abbrev pub next_state : State → State
next_state state = with_core state (next_core state.core)

-- The next instruction's state, with a value in one register.
abbrev pub next_state_with : State → ℕ → ℕ → State
next_state_with state number value = with_core state (next_core_with state.core number value)

-- so many bytes of the memory from an address on
abbrev pub memory_bytes : List ℕ → ℕ → ℕ → List ℕ
memory_bytes memory address count = take count (drop address memory)

-- the memory with these bytes from an address on
unfoldable pub with_bytes : List ℕ → ℕ → List ℕ → List ℕ
with_bytes memory address bytes = take address memory ++ bytes ++ drop (address + length bytes) memory

-- a program begins at its entry with its stack pointer, register 2, 64 bytes below the memory's end
abbrev pub opening_core : ℕ → ℕ → CoreView
opening_core entry size = record { pc = entry; registers = slice_set (replicate 32 0) 2 (size - 64) }
