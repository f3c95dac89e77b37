-- How the operands of an instruction are written.
use Rattle.rv32_decode.specs.Table.{row_of}
use Rattle.rv32_decode.specs.declared.Op.{Op}
use Rattle.rv32_decode.specs.declared.Op.TheVariants.{Jalr, Lb, Lh, Lw, Lbu, Lhu, Fence, FenceI}
use Rattle.rv32_decode.specs.declared.table.Format.{Format}
use Rattle.rv32_decode.specs.declared.table.Format.TheVariants.{R, I, S, B, U, J, Shift, Fieldless}
use Rattle.rv32_text.specs.declared.style.Style.{Style}
use Rattle.rv32_text.specs.declared.style.Style.TheVariants.{Registers, Immediate, Offset, Store, Upper, Branch, Jump, Fence, Bare}

-- the style of a format's instructions
abbrev pub style_in : Format → Style
style_in R = Registers
style_in I = Immediate
style_in S = Store
style_in B = Branch
style_in U = Upper
style_in J = Jump
style_in Shift = Immediate
style_in Fieldless = Bare

-- the style of a row's instructions: its format's, but for loads, JALR and the fences
unfoldable pub style_of : Op → Style
style_of Jalr = Offset
style_of Lb = Offset
style_of Lh = Offset
style_of Lw = Offset
style_of Lbu = Offset
style_of Lhu = Offset
style_of Fence = Fence
style_of FenceI = Fence
style_of op = style_in (row_of op).format
