use Rattle.std.proofs.Common.{◌∙◌, ap}
use Rattle.aes128_block.specs.InverseCipher.{inv_s_box}
use Rattle.aes128_block.proofs.Boxes.{inv_s_box-below}
use Rattle.aes128_block.proofs.Layers.{boxed_byte-word_of}
use Rattle.aes128_block.proofs.inverse_rounds.unboxed_column.Goals as goal

pub returns : goal.returns
returns c =
    boxed_byte-word_of inv_s_box inv_s_box-below _ _ _ _ _ _ _ _ _ _
    (c.inv_sub_byte-row_0.ensures ∙ ap inv_s_box c.row_byte.ensures) (c.inv_sub_byte-row_1.ensures ∙ ap inv_s_box c.row_byte-2.ensures)
    (c.inv_sub_byte-row_2.ensures ∙ ap inv_s_box c.row_byte-3.ensures) (c.inv_sub_byte-row_3.ensures ∙ ap inv_s_box c.row_byte-4.ensures)
    c.join_bytes.ensures
