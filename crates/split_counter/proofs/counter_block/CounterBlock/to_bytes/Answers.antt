use Rattle.std.proofs.Common.{◌∙◌, List, ℕ, ap, subst, sym}
use Rattle.split_counter.specs.CounterBlock.{IsCounterBlock, HasLineBits, block_bytes, block_of}
use Rattle.split_counter.proofs.Spelling.{block_line_bits, block_of-block_bytes}
use Rattle.split_counter.proofs.counter_block.CounterBlock.to_bytes.Goals as goal

pub returns-clause-bytes : goal.returns-clause-bytes
unfolding block_bytes
returns-clause-bytes c = c.bytes_of.ensures ∙ ap block_bytes c.self.view_is

pub returns-clause-line_bits : goal.returns-clause-line_bits
unfolding block_bytes
returns-clause-line_bits c =
    subst (λ (bytes : List ℕ). HasLineBits bytes c.args.self.now.lines) (sym (c.bytes_of.ensures ∙ ap block_bytes c.self.view_is))
    (block_line_bits c.args.self.now (subst IsCounterBlock c.self.view_is c.self.invariant))

pub returns-clause-read_back : goal.returns-clause-read_back
unfolding block_bytes
returns-clause-read_back c =
    ap block_of (c.bytes_of.ensures ∙ ap block_bytes c.self.view_is)
    ∙ block_of-block_bytes c.args.self.now (subst IsCounterBlock c.self.view_is c.self.invariant)
