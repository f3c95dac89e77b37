use Rattle.std.proofs.Common.{◌∙◌, append_assoc}
use Rattle.sec_base.proofs.Digits.{hex_8_hole}
use Rattle.rv32_listing.proofs.lines.word_start.Goals as goal

pub returns : goal.returns
returns c =
    let address = hex_8_hole c.in_radix.result c.laid_out.result c.args.address c.in_radix.ensures c.laid_out.ensures in
    let word = hex_8_hole c.in_radix-2.result c.laid_out-2.result c.args.word c.in_radix-2.ensures c.laid_out-2.ensures in
    rw (address, word) at c.in_ok-format.ensures.ok ∙ simp append_assoc
