use Rattle.bus_adversary.proofs.DueLines.{changes_more, due_more}
use Rattle.bus_adversary.proofs.adversary.Adversary.act_due.Goals as goal
use Rattle.std.proofs.Common.{length, rules, slice_index_or, ◌<◌, ◌∙◌, ◌≡◌}

pub loop-line-preserved : goal.loop-line-preserved
loop-line-preserved c =
    let inside : c.loop-line.line-index < length c.as_slice-line-items.result.now = search rules in
    let is : c.line-item.result ≡ slice_index_or c.as_slice-line-items.result.now c.loop-line.line-index c.line-item.result = search rules in
    record {
      done = due_more c.args.next c.as_slice-line-items.result.now c.loop-line.line-index c.line-item.result
          c.args.self.now c.loop-line.self c.act_line.new.self inside is c.loop-line.invariant.done c.in_ok-act_line.ensures.ok;
      geometry = c.act_line.ensures.geometry ∙ c.loop-line.invariant.geometry;
      changes = changes_more c.as_slice-line-items.result.now c.loop-line.line-index c.line-item.result
          c.args.self.now.places c.loop-line.self.places c.act_line.new.self.places
          inside is c.loop-line.invariant.geometry c.loop-line.invariant.changes c.act_line.ensures.changes;
    }

pub returns-in_err-act_line-clause-changes : goal.returns-in_err-act_line-clause-changes
returns-in_err-act_line-clause-changes c =
    let inside : c.loop-line.line-index < length c.as_slice-line-items.result.now = search rules in
    let is : c.line-item.result ≡ slice_index_or c.as_slice-line-items.result.now c.loop-line.line-index c.line-item.result = search rules in
    rw (← c.as_slice-line-items.ensures)
    (changes_more c.as_slice-line-items.result.now c.loop-line.line-index c.line-item.result
    c.args.self.now.places c.loop-line.self.places c.act_line.new.self.places
    inside is c.loop-line.invariant.geometry c.loop-line.invariant.changes c.act_line.ensures.changes)
