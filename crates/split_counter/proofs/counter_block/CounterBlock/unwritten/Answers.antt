use Rattle.split_counter.proofs.Zeros.{zeros_are_a_block}
use Rattle.split_counter.proofs.counter_block.CounterBlock.unwritten.Goals as goal

pub invariant_of-result : goal.invariant_of-result
invariant_of-result c = zeros_are_a_block c.args.page c.ranges.page.fits

pub returns-clause-is_block : goal.returns-clause-is_block
returns-clause-is_block c = zeros_are_a_block c.args.page c.ranges.page.fits
