use Rattle.std.proofs.Common.{◌∙◌, ap}
use Rattle.aes128_block.specs.SBox.{s_box}
use Rattle.aes128_block.proofs.Boxes.{s_box-below}
use Rattle.aes128_block.proofs.Layers.{boxed_byte-word_of}
use Rattle.aes128_block.proofs.rounds.last_round_column.Goals as goal

pub returns : goal.returns
returns c =
    boxed_byte-word_of s_box s_box-below _ _ _ _ _ _ _ _ _ _
    (c.sub_byte-row_0.ensures ∙ ap s_box c.row_byte.ensures) (c.sub_byte-row_1.ensures ∙ ap s_box c.row_byte-2.ensures)
    (c.sub_byte-row_2.ensures ∙ ap s_box c.row_byte-3.ensures) (c.sub_byte-row_3.ensures ∙ ap s_box c.row_byte-4.ensures)
    c.join_bytes.ensures
