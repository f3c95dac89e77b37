use Rattle.std.proofs.Common.{◌≡◌, ◌+◌, length, take}
use Rattle.aes128_block.specs.KeyExpansion.{first_words}
use Rattle.aes128_block.proofs.schedule.expanded_key.Given as goal

abbrev pub invariant-loop-made : goal.invariant-loop-made
invariant-loop-made l = (length l.words ≡ 44) × (take (l.made + 4) l.words ≡ first_words l.key l.made)
