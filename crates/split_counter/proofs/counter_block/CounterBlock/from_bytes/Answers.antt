use Rattle.std.proofs.Common.{◌≡◌, ◌∙◌, ◌<◌, ◌^◌, List, ℕ, ap, subst, sym}
use Rattle.std.proofs.lemmas.List.Elements.{All-from_get_or}
use Rattle.split_counter.specs.CounterBlock.{IsCounterBlock, HasLineBits, block_bytes, block_of}
use Rattle.split_counter.proofs.Spelling.{block_bytes-block_of, block_of_is, bytes_line_bits, same_block}
use Rattle.split_counter.proofs.counter_block.CounterBlock.from_bytes.Goals as goal

-- what the two parts that were read make together
read : (bytes lines : List ℕ) (page : ℕ) → page ≡ (block_of bytes).page → lines ≡ (block_of bytes).lines →
    record { page = page; lines = lines } ≡ block_of bytes
read bytes lines page a b = same_block (record { page = page; lines = lines }) (block_of bytes) a b

pub invariant_of-result : goal.invariant_of-result
unfolding block_of
invariant_of-result c =
    subst IsCounterBlock (sym (read c.args.bytes.now c.line_counters.result c.page_counter.result c.page_counter.ensures c.line_counters.ensures))
    (block_of_is c.args.bytes.now (subst (λ (n : ℕ). n < 2 ^ 64) c.page_counter.ensures c.page_counter.type_inv))

pub returns-clause-counters : goal.returns-clause-counters
unfolding block_of
returns-clause-counters c =
    read c.args.bytes.now c.line_counters.result c.page_counter.result c.page_counter.ensures c.line_counters.ensures

pub returns-clause-line_bits : goal.returns-clause-line_bits
unfolding block_of
returns-clause-line_bits c =
    subst (HasLineBits c.args.bytes.now) (sym c.line_counters.ensures)
    (bytes_line_bits c.args.bytes.now (All-from_get_or (λ (d : ℕ). d < 256) c.args.bytes.now 0 (λ i below. c.fits-bytes i)) c.told-bytes)

pub returns-clause-written_back : goal.returns-clause-written_back
unfolding block_of
returns-clause-written_back c =
    ap block_bytes (read c.args.bytes.now c.line_counters.result c.page_counter.result c.page_counter.ensures c.line_counters.ensures)
    ∙ block_bytes-block_of c.args.bytes.now (All-from_get_or (λ (d : ℕ). d < 256) c.args.bytes.now 0 (λ i below. c.fits-bytes i)) c.told-bytes

pub returns-clause-is_block : goal.returns-clause-is_block
returns-clause-is_block c = invariant_of-result c
