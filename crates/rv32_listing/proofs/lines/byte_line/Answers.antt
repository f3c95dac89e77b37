use Rattle.std.proofs.Common.{◌∙◌, append_assoc}
use Rattle.rv32_listing.specs.Lines.{byte_line}
use Rattle.sec_base.proofs.Digits.{hex_8_hole, hex_2_hole}
use Rattle.rv32_listing.proofs.lines.byte_line.Goals as goal

pub returns : goal.returns
unfolding byte_line
returns c =
    let address = hex_8_hole c.in_radix.result c.laid_out.result c.args.address c.in_radix.ensures c.laid_out.ensures in
    let first = hex_2_hole c.in_radix-2.result c.laid_out-2.result c.args.byte c.in_radix-2.ensures c.laid_out-2.ensures in
    let second = hex_2_hole c.in_radix-3.result c.laid_out-3.result c.args.byte c.in_radix-3.ensures c.laid_out-3.ensures in
    rw (address, first, second) at c.in_ok-format.ensures.ok ∙ simp append_assoc
