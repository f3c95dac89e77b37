use Rattle.std.proofs.Common.{◌≡◌, Option, None, Err, ap, sym, ◌∙◌, subst}
use Rattle.std.specs.Option.{option_or}
use Rattle.sec_base.specs.declared.stop.MemStop.{MemStop}
use Rattle.sec_base.proofs.Results.{was_none}
use Rattle.tag_engine.specs.TagEngine.{tags_of}
use Rattle.page_reencrypt.specs.LineMoves.{WriteMoved}
use Rattle.page_reencrypt.specs.SealedLines.{SealedLinesView}
use Rattle.page_reencrypt.specs.SealedLinesInside.{sealed_lines_view}
use Rattle.page_reencrypt.specs.Stops.{lasting_stop}
use Rattle.page_reencrypt.proofs.Kept.{kept_limited}
use Rattle.page_reencrypt.proofs.Successive.{counted_rising}
use Rattle.page_reencrypt.proofs.WriteCalls.{IsCalled, lasting_write, write_called}
use Rattle.page_reencrypt.proofs.sealed_lines.SealedLinesLineStore.write_line.Given.{Over}
use Rattle.page_reencrypt.proofs.sealed_lines.SealedLinesLineStore.write_line.Goals as goal

pub write_next-written-requires-clause-risen : goal.write_next-written-requires-clause-risen
write_next-written-requires-clause-risen g c = λ quiet.
    counted_rising c.self.inside.outside.pads.used (c.self.invariant.1.rise quiet).successive

pub returns-in-Some-clause-moved : goal.returns-in-Some-clause-moved
returns-in-Some-clause-moved g c =
    let tags = tags_of g.T.Tagger.data_tag_of g.T.Tagger.node_tag_of in
    subst (λ (seen : SealedLinesView g.row.B.Denot g.row.T.Denot).
    WriteMoved g.B.Bus.history g.B.Bus.moved tags seen c.args.line c.args.bytes.now (Err c.in-Some.stop) seen) c.self.view_is
    (lasting_write g.B.Bus.history g.B.Bus.moved tags g.met.B.Bus.unmoved
    (sealed_lines_view c.self.inside) c.args.line c.args.bytes.now c.in-Some.stop (sym c.lasting.ensures ∙ c.in-Some.is))

pub write_next-written-requires-clause-limited : goal.write_next-written-requires-clause-limited
write_next-written-requires-clause-limited g c =
    let lines = sealed_lines_view c.self.inside in
    let going : lasting_stop lines.stopped ≡ None = sym c.lasting.ensures ∙ c.in_default.is in
    kept_limited g.T.Tagger.data_tag_of g.T.Tagger.node_tag_of g.B.Bus.history g.B.Bus.moved lines c.self.invariant.1 going c.args.line
    (rw (← c.self.view_is) at c.requires.inside)

-- what the whole call makes of it
called : (g : Over) (c : goal.After-self-1 g) → IsCalled g.T.Tagger.data_tag_of g.T.Tagger.node_tag_of g.B.Bus.history g.B.Bus.moved
    (sealed_lines_view c.self.inside) c.args.line c.args.bytes.now c.write_next-written.result
    (sealed_lines_view (record (c.self.inside) {
      outside = c.write_next-written.new.outside;
      counters = c.write_next-written.new.counters;
      stopped = c.or-self-inside.result;
    }))
called g c =
    let w = c.write_next-written.ensures in
    write_called g.T.Tagger.data_tag_of g.T.Tagger.node_tag_of g.B.Bus.history g.B.Bus.moved (sealed_lines_view c.self.inside) c.args.line c.args.bytes.now
    c.self.invariant.1 (sym c.lasting.ensures ∙ c.in_default.is) (rw (← c.self.view_is) at c.requires.inside) c.write_next-written.new.outside
    c.write_next-written.new.counters c.write_next-written.result w.written c.or-self-inside.result
    (c.or-self-inside.ensures ∙ ap (λ (o : Option MemStop). option_or o c.self.inside.stopped) c.err.ensures.value)
    w.pages w.cached w.once w.few w.hit w.hit_overflow w.accepted w.under

pub invariant_of-self : goal.invariant_of-self
invariant_of-self g c = (c.self.invariant.0 ∙ sym c.write_next-written.ensures.written.step.geometry, (called g c).kept)

pub returns-clause-stored : goal.returns-clause-stored
returns-clause-stored g c = λ _ quiet. rw (← c.self.view_is) ((called g c).stored quiet)

pub returns-clause-refused : goal.returns-clause-refused
returns-clause-refused g c = λ _ quiet. rw (← c.self.view_is) ((called g c).refused quiet)

pub returns-clause-moved : goal.returns-clause-moved
returns-clause-moved g c = rw (← c.self.view_is) (called g c).moved

pub returns-clause-lost : goal.returns-clause-lost
returns-clause-lost g c = λ quiet.
    let was = sealed_lines_view c.self.inside in
    rw (← c.self.view_is) (was_none was.engine.evidence c.write_next-written.new.outside.engine.evidence c.write_next-written.ensures.written.step.evidence quiet)
