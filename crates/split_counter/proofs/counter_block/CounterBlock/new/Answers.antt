use Rattle.std.proofs.Common.{◌∙◌, ap, refl}
use Rattle.split_counter.specs.Digits.{digits_of, number_of}
use Rattle.split_counter.specs.CounterBlock.{block_bytes}
use Rattle.split_counter.proofs.counter_block.CounterBlock.new.Goals as goal

pub returns-clause-bytes : goal.returns-clause-bytes
unfolding block_bytes digits_of number_of
returns-clause-bytes c = ap block_bytes c.unwritten.ensures.counters ∙ refl
