-- The bytes of a chip's state, the lowest byte of each number first.
use Rattle.std.specs.Prelude.{ℕ, ◌*◌, List, ◌++◌, take, drop, replicate, map}
use Rattle.std.specs.Int.{w32, w64, to_le_bytes, from_le_bytes}
use Rattle.std.specs.List.{flat_map, range_with_len}
use Rattle.sealed_state.specs.declared.chip_state.ChipState.{ChipState}

-- the 152 bytes of the fields, in their order
unfoldable pub state_field_bytes : ChipState → List ℕ
state_field_bytes state =
    to_le_bytes w32 state.pc
    ++ flat_map (to_le_bytes w32) state.regs
    ++ to_le_bytes w64 state.position
    ++ to_le_bytes w32 state.first_break
    ++ to_le_bytes w32 state.brk
    ++ to_le_bytes w64 state.retired

-- the 40 bytes behind them
abbrev pub spare_bytes : List ℕ
spare_bytes = replicate 40 0

-- the 192 bytes of a state
unfoldable pub state_bytes : ChipState → List ℕ
state_bytes state = state_field_bytes state ++ spare_bytes

-- the number in four bytes from a place on, and in eight
abbrev pub u32_at : List ℕ → ℕ → ℕ
u32_at bytes at = from_le_bytes w32 (take 4 (drop at bytes))

abbrev pub u64_at : List ℕ → ℕ → ℕ
u64_at bytes at = from_le_bytes w64 (take 8 (drop at bytes))

-- the registers x1 to x31: xN is in the four bytes from 4 N on
unfoldable pub registers_in : List ℕ → List ℕ
registers_in bytes = map (λ register. u32_at bytes (4 * register)) (range_with_len 1 31)

-- the state that 192 bytes spell; the last 40 of them may be any
unfoldable pub state_of_bytes : List ℕ → ChipState
state_of_bytes bytes = record {
  pc = u32_at bytes 0;
  regs = registers_in bytes;
  position = u64_at bytes 128;
  first_break = u32_at bytes 136;
  brk = u32_at bytes 140;
  retired = u64_at bytes 144;
}
