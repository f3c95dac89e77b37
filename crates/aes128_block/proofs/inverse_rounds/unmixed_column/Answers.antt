use Rattle.std.proofs.Common.{ℕ, ap, ◌∙◌}
use Rattle.std.specs.Prelude.{map}
use Rattle.aes128_block.specs.Field.{product}
use Rattle.aes128_block.specs.InverseCipher.{inv_mix_row}
use Rattle.aes128_block.proofs.InverseLayers.{unmixed-word_of}
use Rattle.aes128_block.proofs.inverse_rounds.unmixed_column.Goals as goal

pub returns : goal.returns
returns c =
    let products = λ (byte : ℕ). map (λ place. product place byte) inv_mix_row in
    unmixed-word_of c.args.column _ _ _ _ _
    (c.inv_products-a.ensures ∙ ap products c.row_byte.ensures) (c.inv_products-b.ensures ∙ ap products c.row_byte-2.ensures)
    (c.inv_products-c.ensures ∙ ap products c.row_byte-3.ensures) (c.inv_products-d.ensures ∙ ap products c.row_byte-4.ensures)
    c.join_bytes.ensures
