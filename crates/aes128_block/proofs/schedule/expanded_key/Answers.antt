use Rattle.std.proofs.Common.{◌≡◌, refl, arith, length-set}
use Rattle.aes128_block.specs.KeyExpansion.{first_words}
use Rattle.aes128_block.proofs.KeyWords.{take-set-next_word, key_expansion-words}
use Rattle.aes128_block.proofs.schedule.expanded_key.Goals as goal

pub loop-made-init : goal.loop-made-init
unfolding first_words
loop-made-init c =
    (refl, rw (c.block_column.ensures, c.block_column-2.ensures, c.block_column-3.ensures, c.block_column-4.ensures) refl)

pub loop-made-preserved : goal.loop-made-preserved
loop-made-preserved c =
    let before = c.loop-made.invariant in (
      simp length-set before.0,
      take-set-next_word c.args.key.now c.loop-made.words c.loop-made.made _ (omega arith) before.1
          (rw c.change.ensures refl),
    )

pub returns : goal.returns
returns c =
    let all_made : c.loop-made.made ≡ 40 = omega arith in
    key_expansion-words c.args.key.now c.loop-made.words c.loop-made.invariant.0 (rw all_made at c.loop-made.invariant.1)
