use Rattle.std.proofs.Common.{◌∙◌}
use Rattle.aes128_block.proofs.TableLemmas.{round_byte-tables}
use Rattle.aes128_block.proofs.rounds.round_column.Goals as goal

pub returns : goal.returns
returns c =
    let args = c.args in
    round_byte-tables c.cipher_tables-tables.result.now c.cipher_tables-tables.ensures args.a args.b args.c args.d args.key _ _ _ _
    (c.from.ensures ∙ c.row_byte.ensures) (c.from-2.ensures ∙ c.row_byte-2.ensures)
    (c.from-3.ensures ∙ c.row_byte-3.ensures) (c.from-4.ensures ∙ c.row_byte-4.ensures)
