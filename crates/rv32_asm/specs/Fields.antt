-- The immediates and the fields of instructions, by the formats of their rows, for contracts inside the crate alone.
use Rattle.std.specs.Prelude.{ℕ, ℤ, Option, Some, None, if◌then◌else◌}
use Rattle.rv32_decode.specs.declared.Inst.{Inst}
use Rattle.rv32_decode.specs.declared.table.Format.{Format}
use Rattle.rv32_decode.specs.declared.table.Format.TheVariants.{R, I, S, B, U, J, Shift, Fieldless}
use Rattle.rv32_asm.specs.Encoding.{fits_format, immediate_of}

-- the immediate of a value at an address, where it has one
abbrev pub immediate_in : Format → ℕ → ℤ → Option ℤ
immediate_in format address value =
    if fits_format format address value then Some (immediate_of format address value) else None

-- an instruction with those of its fields that its format has
abbrev pub own_fields : Format → Inst → Inst
own_fields R i = i
own_fields I i = record i { rs2 = 0 }
own_fields S i = record i { rd = 0 }
own_fields B i = record i { rd = 0 }
own_fields U i = record i { rs1 = 0; rs2 = 0 }
own_fields J i = record i { rs1 = 0; rs2 = 0 }
own_fields Shift i = record i { rs2 = 0 }
own_fields Fieldless i = record i { rd = 0; rs1 = 0; rs2 = 0 }
