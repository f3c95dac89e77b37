use Rattle.std.proofs.Common.{◌≡◌, ◌%◌, ap, sym, ◌∙◌, option_map}
use Rattle.rv32_decode.proofs.Both.{instruction_by_name}
use Rattle.rv32_decode.proofs.Matches.{row_by_fields}
use Rattle.rv32_decode.specs.Decoding.{matching_row}
use Rattle.rv32_decode.specs.Search.{op_at}
use Rattle.rv32_decode.specs.Words.{field}
use Rattle.rv32_decode.proofs.search.inst_of.Goals as goal

pub returns : goal.returns
unfolding op_at
returns c =
    let w = c.args.word in
    let named : op_at (w % 128) (field w 12 3) (field w 25 7) w ≡ option_map (λ r. r.op) (matching_row w)
    = ap (option_map (λ r. r.op)) (sym (row_by_fields w c.ranges.word.fits)) in
    rw (c.bits.ensures, c.bits-2.ensures) at c.inst_with.ensures ∙ instruction_by_name w (op_at (w % 128) (field w 12 3) (field w 25 7) w) named
