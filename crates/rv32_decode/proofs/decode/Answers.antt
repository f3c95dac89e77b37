use Rattle.rv32_decode.proofs.Both.{answer_encoded, answer_fields, answer_none}
use Rattle.rv32_decode.proofs.Matches.{one_row}
use Rattle.rv32_decode.proofs.decode.Goals as goal

pub returns : goal.returns
returns c =
    let w = c.args.word in
    let o = c.inst_of.result in
    let e = c.inst_of.ensures in
    record {
      row = e;
      fields = answer_fields w o e;
      encoded = answer_encoded w c.ranges.word.fits o e;
      none = answer_none w o e;
      one_row = one_row w;
    }
