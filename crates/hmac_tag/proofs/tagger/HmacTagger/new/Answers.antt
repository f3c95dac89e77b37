use Rattle.std.proofs.Common.{◌≡◌, take, arith}
use Rattle.hmac_tag.proofs.KeyBlocks.{take-block_key, block_key-take}
use Rattle.hmac_tag.proofs.tagger.HmacTagger.new.Goals as goal

pub invariant_of-result : goal.invariant_of-result
invariant_of-result c =
    (block_key-take _ _ (omega arith) c.new.ensures, block_key-take _ _ (omega arith) c.new-2.ensures)

pub returns : goal.returns
returns c =
    let line : take 32 c.new.result ≡ c.args.keys.now.line_key = take-block_key _ _ (omega arith) c.new.ensures in
    let tree : take 32 c.new-2.result ≡ c.args.keys.now.tree_key = take-block_key _ _ (omega arith) c.new-2.ensures in
    rw (line, tree)
