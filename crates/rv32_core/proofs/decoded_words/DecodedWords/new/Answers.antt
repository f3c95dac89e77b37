use Rattle.std.proofs.Common.{◌∙◌, sym, Some, None, Option, subst}
use Rattle.rv32_decode.specs.Decoding.{instruction_of, matching_row}
use Rattle.rv32_decode.specs.Fields.{instruction_in}
use Rattle.rv32_decode.specs.Table.{row_of, ops, rows}
use Rattle.rv32_decode.specs.declared.Inst.{Inst}
use Rattle.rv32_core.proofs.decoded_words.DecodedWords.new.Goals as goal

-- whether there is an instruction
IsThere : Option Inst → Type 0
IsThere None = ⊥
IsThere (Some i) = Unit {0}

there : IsThere (instruction_of 19)
unfolding instruction_of matching_row instruction_in row_of ops rows IsThere
there = tt

pub unreachable-requires : goal.unreachable-requires
unfolding IsThere
unreachable-requires c = subst IsThere (sym c.decode.ensures.row ∙ c.in-None.is) there
