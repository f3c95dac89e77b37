use Rattle.std.proofs.Common.{◌/◌, ◌*◌, ◌^◌}
use Rattle.std.proofs.lemmas.Nat.{and_mask}
use Rattle.aes128_block.specs.Word.{byte}
use Rattle.aes128_block.proofs.words.row_byte.Goals as goal

pub returns : goal.returns
unfolding byte
returns c = and_mask (c.args.word / 2 ^ (8 * c.args.row)) 8
