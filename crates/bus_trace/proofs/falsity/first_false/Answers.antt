use Rattle.std.proofs.Common.{rules, ap, sym, ◌∙◌, ◌+◌, refl}
use Rattle.bus_trace.specs.Entry.{accesses_of}
use Rattle.bus_trace.specs.FirstFalse.{first_false_behind}
use Rattle.bus_trace.proofs.Writes.{true_before}
use Rattle.bus_trace.proofs.falsity.first_false.Goals as goal

pub loop-entry-init : goal.loop-entry-init
loop-entry-init c = record { count = refl; rest = ap (λ written. first_false_behind 0 written (accesses_of c.args.entries.now)) c.new-writes.ensures }

pub loop-entry-preserved : goal.loop-entry-preserved
loop-entry-preserved c = record {
  count = ap (λ n. n + 1) c.loop-entry.invariant.count;
  rest = sym (true_before c.loop-entry.count _ _ c.args.entries.now c.loop-entry.entry-index _ (search rules) (sym c.is_true.ensures ∙ search rules) c.in_ok-put.ensures)
      ∙ c.loop-entry.invariant.rest;
}
