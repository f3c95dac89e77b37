-- The bytes of statements.
use Rattle.std.specs.Prelude.{ℕ, ◌+◌, ◌-◌, ◌*◌, ◌^◌, ◌==◌, ℤ, pos, neg_ℤ, ◌-ℤ◌, List, [], ◌∷◌, ◌++◌, Bool, true, ◌&&◌, map, replicate, unsigned_abs}
use Rattle.std.specs.List.{list_any, list_all, flat_map}
use Rattle.std.specs.Int.{w32, to_le_bytes}
use Rattle.sec_base.specs.Width.{width_bytes, number_bytes}
use Rattle.sec_base.specs.declared.width.Width.{Width}
use Rattle.rv32_decode.specs.Encoding.{word_of}
use Rattle.rv32_decode.specs.Table.{row_of}
use Rattle.rv32_decode.specs.Words.{signed_number}
use Rattle.rv32_decode.specs.declared.Inst.{Inst}
use Rattle.rv32_decode.specs.declared.table.Format.{Format}
use Rattle.rv32_decode.specs.declared.table.Format.TheVariants.{R, I, S, B, U, J, Shift, Fieldless}
use Rattle.rv32_asm_syntax.specs.Numbers.{is_between}
use Rattle.rv32_asm_syntax.specs.Expressions.{Expression}
use Rattle.rv32_asm.specs.Labels.{Label}
use Rattle.rv32_asm.specs.Layout.{size_at}
use Rattle.rv32_asm_syntax.specs.Statements.{Instruction, Statement, Instructions, Data, Bytes, Zeros, Aligned, Nothing}
use Rattle.rv32_asm.specs.Values.{expression_in, immediate_value, is_missing, modulo, value_of}

-- ---- instructions

-- how far it is from an address to a target, modulo 2^32, from -2^31 on
abbrev pub distance : ℕ → ℤ → ℤ
distance address target = signed_number 32 (modulo 32 (target -ℤ pos address))

-- its lowest bit is 0
abbrev pub is_even : ℤ → Bool
is_even value = modulo 1 value == 0

-- the value has an immediate in an instruction of this format at an address
abbrev pub fits_format : Format → ℕ → ℤ → Bool
fits_format R address value = true
fits_format I address value = is_between (neg_ℤ (pos 2048)) (pos 2047) value
fits_format S address value = is_between (neg_ℤ (pos 2048)) (pos 2047) value
fits_format B address value = let far = distance address value in
    is_even far && is_between (neg_ℤ (pos 4096)) (pos 4094) far
fits_format U address value = is_between (pos 0) (pos 1048575) value
fits_format J address value = let far = distance address value in
    is_even far && is_between (neg_ℤ (pos 1048576)) (pos 1048574) far
fits_format Shift address value = is_between (pos 0) (pos 31) value
fits_format Fieldless address value = true

-- the immediate: the value, or the distance to it, or the upper twenty bits that it is
abbrev pub immediate_of : Format → ℕ → ℤ → ℤ
immediate_of R address value = pos 0
immediate_of I address value = value
immediate_of S address value = value
immediate_of B address value = distance address value
immediate_of U address value = signed_number 32 (unsigned_abs value * 2 ^ 12)
immediate_of J address value = distance address value
immediate_of Shift address value = value
immediate_of Fieldless address value = pos 0

-- the value of the immediate fits the format of its instruction at this address
unfoldable pub fits_at : List Label → ℕ → Instruction → Bool
fits_at labels address i = fits_format (row_of i.op).format address (immediate_value labels i.immediate)

-- the instruction of the table at an address
unfoldable pub encoded_at : List Label → ℕ → Instruction → Inst
encoded_at labels address i = record {
  op = i.op;
  rd = i.rd;
  rs1 = i.rs1;
  rs2 = i.rs2;
  imm = immediate_of (row_of i.op).format address (immediate_value labels i.immediate);
}

-- each of the instructions from an address on fits
abbrev pub fit_from : List Label → ℕ → List Instruction → Bool
fit_from labels address [] = true
fit_from labels address (i ∷ instructions) = fits_at labels address i && fit_from labels (address + 4) instructions

-- the bytes of instructions from an address on, the lowest byte of each word first
abbrev pub code_from : List Label → ℕ → List Instruction → List ℕ
code_from labels address [] = []
code_from labels address (i ∷ instructions) =
    to_le_bytes w32 (word_of (encoded_at labels address i)) ++ code_from labels (address + 4) instructions

-- ---- data

-- the value has a number of this width, with or without a sign
abbrev pub fits_width : Width → ℤ → Bool
fits_width width value = let bits = 8 * width_bytes width in
    is_between (neg_ℤ (pos (2 ^ (bits - 1)))) (pos (2 ^ bits - 1)) value

-- each of the values fits
abbrev pub data_fits : List Label → Width → List Expression → Bool
data_fits labels width values = list_all (λ value. fits_width width (value_of labels value)) values

-- a value in so many bytes, the lowest first
abbrev pub value_bytes : Width → ℤ → List ℕ
value_bytes width value = number_bytes width (modulo (8 * width_bytes width) value)

-- the values one after another
abbrev pub values_bytes : List Label → Width → List Expression → List ℕ
values_bytes labels width values = flat_map (λ value. value_bytes width (value_of labels value)) values

-- ---- statements

-- the expressions in a statement
abbrev pub expressions_in : Statement → List Expression
expressions_in (Instructions instructions) = map (λ i. expression_in i.immediate) instructions
expressions_in (Data width values) = values
expressions_in _ = []

-- a label of the statement isn't there
unfoldable pub misses_label : List Label → Statement → Bool
misses_label labels statement = list_any (is_missing labels) (expressions_in statement)

-- each value of the statement is in its range
unfoldable pub is_in_range : List Label → ℕ → Statement → Bool
is_in_range labels address (Instructions instructions) = fit_from labels address instructions
is_in_range labels address (Data width values) = data_fits labels width values
is_in_range labels address _ = true

-- the bytes of a statement at an address
unfoldable pub encoded_bytes : List Label → ℕ → Statement → List ℕ
encoded_bytes labels address (Instructions instructions) = code_from labels address instructions
encoded_bytes labels address (Data width values) = values_bytes labels width values
encoded_bytes labels address (Bytes bytes) = bytes
encoded_bytes labels address (Zeros number) = replicate (size_at address (Zeros number)) 0
encoded_bytes labels address (Aligned number) = replicate (size_at address (Aligned number)) 0
encoded_bytes labels address Nothing = []
