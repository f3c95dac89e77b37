use Rattle.std.proofs.Common.{rules}
use Rattle.pad_stream.proofs.Pieces.{block_put, pad_put}
use Rattle.pad_stream.proofs.pad.line_pad.Goals as goal

pub returns : goal.returns
returns c =
    pad_put c.args.key.now c.args.line c.args.counter
    c.encrypt.result c.encrypt-2.result c.encrypt-3.result c.encrypt-4.result _ _ _ _
    (block_put _ _ _ _ _ _ c.encrypt.ensures.value c.input_block.ensures)
    (block_put _ _ _ _ _ _ c.encrypt-2.ensures.value c.input_block-2.ensures)
    (block_put _ _ _ _ _ _ c.encrypt-3.ensures.value c.input_block-3.ensures)
    (block_put _ _ _ _ _ _ c.encrypt-4.ensures.value c.input_block-4.ensures)
    (search rules) (search rules) (search rules) (search rules) (search rules)
    c.put.ensures.front c.put-2.ensures.front c.put-3.ensures.front c.put-4.ensures.front
