-- What one instruction does, or why it traps: the RISC-V unprivileged manual, RV32I 2.1 (sections 2.4 to 2.8), M 2.0
-- and Zifencei 2.0.
use Rattle.std.specs.Prelude.{ℕ, ◌+◌, ◌-◌, ◌%◌, ◌==◌, nat_lt, not, if◌then◌else◌, Bool, length, Option, Some, None, Result, Ok, Err, bit_and, bit_or, bit_xor}
use Rattle.sec_base.specs.declared.ending.Cause.{Cause}
use Rattle.sec_base.specs.declared.ending.Cause.TheVariants.{Illegal, MisalignedTarget, MisalignedData, OutsideMemory, Breakpoint}
use Rattle.sec_base.specs.declared.width.Width.{Width}
use Rattle.sec_base.specs.declared.width.Width.TheVariants.{One, Two, Four}
use Rattle.sec_base.specs.Width.{width_bytes, number_at, with_number}
use Rattle.rv32_decode.specs.declared.Op.{Op}
use Rattle.rv32_decode.specs.declared.Op.TheVariants.{Lui, Auipc, Jal, Jalr, Beq, Bne, Blt, Bge, Bltu, Bgeu, Lb, Lh, Lw, Lbu, Lhu, Sb, Sh, Sw, Addi, Slti, Sltiu, Xori, Ori, Andi, Slli, Srli, Srai, Add, Sub, Sll, Slt, Sltu, Xor, Srl, Sra, Or, And, Mul, Mulh, Mulhsu, Mulhu, Div, Divu, Rem, Remu, Fence, FenceI, Ecall, Ebreak}
use Rattle.rv32_decode.specs.declared.Inst.{Inst}
use Rattle.rv32_decode.specs.Decoding.{instruction_of}
use Rattle.rv32_decode.specs.Target.{target_of}
use Rattle.rv32_decode.specs.Words.{word_of_signed}
use Rattle.rv32_core.specs.State.{State, CoreView, sum_of, register, with_register, with_pc, next_core, next_state, next_state_with, with_core}
use Rattle.rv32_core.specs.Arithmetic.{zero_extension, sign_extension, difference_of, truth, is_less_signed, shift_left, shift_right, shift_right_signed, product_of, high_product, high_product_mixed, high_product_unsigned, quotient, quotient_unsigned, remainder, remainder_unsigned}
use Rattle.rv32_core.specs.After.{After, only_state, trap_or}
use Rattle.rv32_core.specs.Services.{service}

-- What the program counter and the immediate add up to: where JAL and branches lead, and what AUIPC computes.
abbrev pub relative_address : Inst → CoreView → ℕ
relative_address inst core = target_of inst core.pc

-- what the first register and the immediate add up to: where a load or a store goes
abbrev pub data_address : Inst → CoreView → ℕ
data_address inst core = sum_of (register core inst.rs1) (word_of_signed inst.imm)

-- where JALR leads: to that sum with bit 0 cleared
abbrev pub absolute_target : Inst → CoreView → ℕ
absolute_target inst core = let sum = data_address inst core in sum - sum % 2

-- Control transfers, section 2.5. A jump or a taken branch to a target that is no multiple of 4 traps.
abbrev pub target_fault : ℕ → Option Cause
target_fault target = if target % 4 == 0 then None else Some MisalignedTarget

-- a jump leaves the address of the next instruction in order in a register
abbrev pub jump_core : CoreView → ℕ → ℕ → CoreView
jump_core core target link = record { pc = target; registers = with_register core.registers link (sum_of core.pc 4) }

-- A jump to a target: rd has the address after it, or the target is misaligned.
abbrev pub jump_effect : ℕ → Inst → State → Result After Cause
jump_effect target inst state =
    trap_or (target_fault target) (only_state (with_core state (jump_core state.core target inst.rd)))

-- A branch: to its target if it is taken, and else to the next instruction.
abbrev pub branch_effect : Bool → Inst → State → Result After Cause
branch_effect taken inst state =
    let target = relative_address inst state.core in
    if taken then trap_or (target_fault target) (only_state (with_core state (with_pc state.core target)))
    else Ok (only_state (next_state state))

-- a branch compares two registers
abbrev pub comparison_effect : (ℕ → ℕ → Bool) → Inst → State → Result After Cause
comparison_effect test inst state =
    branch_effect (test (register state.core inst.rs1) (register state.core inst.rs2)) inst state

-- Loads and stores, section 2.6: why one of this width at this address traps.
abbrev pub data_fault : ℕ → Width → ℕ → Option Cause
data_fault address width size =
    if not (address % width_bytes width == 0) then Some MisalignedData
    else (if nat_lt size (address + width_bytes width) then Some OutsideMemory else None)

-- A load: rd has the number at the address, extended, or it traps.
abbrev pub load_effect : (Width → ℕ → ℕ) → Width → Inst → State → Result After Cause
load_effect extension width inst state =
    let address = data_address inst state.core in
    trap_or (data_fault address width (length state.memory))
    (only_state (next_state_with state inst.rd (extension width (number_at state.memory address width))))

-- A store: the lowest bytes of rs2 at the address, or it traps.
abbrev pub store_effect : Width → Inst → State → Result After Cause
store_effect width inst state =
    let address = data_address inst state.core in
    trap_or (data_fault address width (length state.memory))
    (only_state (record {
      core = next_core state.core;
      calls = state.calls;
      memory = with_number state.memory address width (register state.core inst.rs2);
    }))

-- Computations, section 2.4 and M: from a register and the immediate, or from two registers.
abbrev pub value_effect : ℕ → Inst → State → Result After Cause
value_effect value inst state = Ok (only_state (next_state_with state inst.rd value))

-- rd has the operation of rs1 and the immediate.
abbrev pub immediate_effect : (ℕ → ℕ → ℕ) → Inst → State → Result After Cause
immediate_effect operation inst state =
    value_effect (operation (register state.core inst.rs1) (word_of_signed inst.imm)) inst state

-- rd has the operation of rs1 and rs2.
abbrev pub register_effect : (ℕ → ℕ → ℕ) → Inst → State → Result After Cause
register_effect operation inst state =
    value_effect (operation (register state.core inst.rs1) (register state.core inst.rs2)) inst state

-- what each instruction does
abbrev pub effect : Op → Inst → State → Result After Cause
effect Lui inst state = value_effect (word_of_signed inst.imm) inst state
effect Auipc inst state = value_effect (relative_address inst state.core) inst state
effect Jal inst state = jump_effect (relative_address inst state.core) inst state
effect Jalr inst state = jump_effect (absolute_target inst state.core) inst state
effect Beq inst state = comparison_effect (λ a b. a == b) inst state
effect Bne inst state = comparison_effect (λ a b. not (a == b)) inst state
effect Blt inst state = comparison_effect is_less_signed inst state
effect Bge inst state = comparison_effect (λ a b. not (is_less_signed a b)) inst state
effect Bltu inst state = comparison_effect nat_lt inst state
effect Bgeu inst state = comparison_effect (λ a b. not (nat_lt a b)) inst state
effect Lb inst state = load_effect sign_extension One inst state
effect Lh inst state = load_effect sign_extension Two inst state
effect Lw inst state = load_effect zero_extension Four inst state
effect Lbu inst state = load_effect zero_extension One inst state
effect Lhu inst state = load_effect zero_extension Two inst state
effect Sb inst state = store_effect One inst state
effect Sh inst state = store_effect Two inst state
effect Sw inst state = store_effect Four inst state
effect Addi inst state = immediate_effect sum_of inst state
effect Slti inst state = immediate_effect (λ a i. truth (is_less_signed a i)) inst state
effect Sltiu inst state = immediate_effect (λ a i. truth (nat_lt a i)) inst state
effect Xori inst state = immediate_effect bit_xor inst state
effect Ori inst state = immediate_effect bit_or inst state
effect Andi inst state = immediate_effect bit_and inst state
effect Slli inst state = immediate_effect shift_left inst state
effect Srli inst state = immediate_effect shift_right inst state
effect Srai inst state = immediate_effect shift_right_signed inst state
effect Add inst state = register_effect sum_of inst state
effect Sub inst state = register_effect difference_of inst state
effect Sll inst state = register_effect shift_left inst state
effect Slt inst state = register_effect (λ a b. truth (is_less_signed a b)) inst state
effect Sltu inst state = register_effect (λ a b. truth (nat_lt a b)) inst state
effect Xor inst state = register_effect bit_xor inst state
effect Srl inst state = register_effect shift_right inst state
effect Sra inst state = register_effect shift_right_signed inst state
effect Or inst state = register_effect bit_or inst state
effect And inst state = register_effect bit_and inst state
effect Mul inst state = register_effect product_of inst state
effect Mulh inst state = register_effect high_product inst state
effect Mulhsu inst state = register_effect high_product_mixed inst state
effect Mulhu inst state = register_effect high_product_unsigned inst state
effect Div inst state = register_effect quotient inst state
effect Divu inst state = register_effect quotient_unsigned inst state
effect Rem inst state = register_effect remainder inst state
effect Remu inst state = register_effect remainder_unsigned inst state
effect Fence inst state = Ok (only_state (next_state state))
effect FenceI inst state = Ok (only_state (next_state state))
effect Ecall inst state = Ok (service state)
effect Ebreak inst state = Err Breakpoint

-- The effect of a decoded word; a word that is no instruction traps as illegal.
abbrev pub decoded_effect : Option Inst → State → Result After Cause
decoded_effect None state = Err Illegal
decoded_effect (Some inst) state = effect inst.op inst state

-- the word at the program counter
abbrev pub fetched_word : State → ℕ
fetched_word state = number_at state.memory state.core.pc Four

-- one instruction: it is fetched, decoded and done
unfoldable pub next : State → Result After Cause
next state =
    if nat_lt (length state.memory) (state.core.pc + 4) then Err OutsideMemory
    else decoded_effect (instruction_of (fetched_word state)) state
