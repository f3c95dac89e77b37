-- Which lines an instruction touches: one for each access, in order.
use Rattle.std.specs.Prelude.{◌≡◌, ℕ, ◌+◌, ◌==◌, ◌&&◌, if◌then◌else◌, List, [], ◌∷◌, length, map, Option, Some, None, Result, Ok, Err}
use Rattle.std.specs.List.{range_with_len}
use Rattle.sec_base.specs.declared.ending.Cause.{Cause}
use Rattle.sec_base.specs.declared.width.Width.{Width}
use Rattle.sec_base.specs.declared.width.Width.TheVariants.{One, Two, Four}
use Rattle.sec_base.specs.Geometry.{line_of}
use Rattle.sec_base.specs.Prefix.{IsPrefix}
use Rattle.rv32_decode.specs.declared.Op.{Op}
use Rattle.rv32_decode.specs.declared.Op.TheVariants.{Lb, Lh, Lw, Lbu, Lhu, Sb, Sh, Sw, Ecall}
use Rattle.rv32_decode.specs.declared.Inst.{Inst}
use Rattle.rv32_decode.specs.Decoding.{instruction_of}
use Rattle.rv32_core.specs.State.{State, CoreView}
use Rattle.rv32_core.specs.Services.{is_input, is_output, is_inside, next_input, a0, a1, a2, a7}
use Rattle.rv32_core.specs.Effect.{data_address, data_fault, fetched_word}

-- the line of each byte from an address on
unfoldable pub byte_lines : ℕ → ℕ → List ℕ
byte_lines from count = map (λ k. line_of (from + k)) (range_with_len 0 count)

-- A service loads each byte that it prints, and stores each byte that it reads.
abbrev pub write_lines : State → List ℕ
write_lines state =
    if is_output (a0 state) && is_inside (a1 state) (a2 state) (length state.memory)
    then byte_lines (a1 state) (a2 state) else []

-- The lines that service 63 stores into.
abbrev pub read_lines : State → List ℕ
read_lines state =
    if is_input (a0 state) && is_inside (a1 state) (a2 state) (length state.memory)
    then byte_lines (a1 state) (length (next_input state.calls (a2 state))) else []

-- The lines that an ECALL touches beside its own instruction's.
abbrev pub service_lines : State → List ℕ
service_lines state =
    if a7 state == 63 then read_lines state
    else (if a7 state == 64 then write_lines state else [])

-- a load or a store; one that traps touches nothing
abbrev pub line_unless : Option Cause → ℕ → List ℕ
line_unless None address = line_of address ∷ []
line_unless (Some cause) address = []

-- The line of a load's or a store's address, unless it traps.
abbrev pub access_line : Width → Inst → CoreView → ℕ → List ℕ
access_line width inst core size = line_unless (data_fault (data_address inst core) width size) (data_address inst core)

-- The lines that an instruction touches beside its own.
abbrev pub data_lines : Op → Inst → State → List ℕ
data_lines Lb inst state = access_line One inst state.core (length state.memory)
data_lines Lh inst state = access_line Two inst state.core (length state.memory)
data_lines Lw inst state = access_line Four inst state.core (length state.memory)
data_lines Lbu inst state = access_line One inst state.core (length state.memory)
data_lines Lhu inst state = access_line Two inst state.core (length state.memory)
data_lines Sb inst state = access_line One inst state.core (length state.memory)
data_lines Sh inst state = access_line Two inst state.core (length state.memory)
data_lines Sw inst state = access_line Four inst state.core (length state.memory)
data_lines Ecall inst state = service_lines state
data_lines _ inst state = []

-- The same of a decoded word: none if it is no instruction.
abbrev pub decoded_lines : Option Inst → State → List ℕ
decoded_lines None state = []
decoded_lines (Some inst) state = data_lines inst.op inst state

-- the line of the instruction's own word, and those that it loads or stores in
unfoldable pub touched_lines : State → List ℕ
touched_lines state = line_of state.core.pc ∷ decoded_lines (instruction_of (fetched_word state)) state

-- The lines of calls that came out so: all that are to be touched, in order, or a front part of them.
abbrev pub AreTouched : {A E : Type 0} → Result A E → List ℕ → List ℕ → Type 0
AreTouched (Ok x) all lines = lines ≡ all
AreTouched (Err e) all lines = IsPrefix lines all
