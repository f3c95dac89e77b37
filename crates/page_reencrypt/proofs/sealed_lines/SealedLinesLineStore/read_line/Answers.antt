use Rattle.std.proofs.Common.{◌<◌, Option, Err, ap, sym, ◌∙◌, subst}
use Rattle.std.specs.Option.{option_or}
use Rattle.sec_base.specs.Geometry.{line_count}
use Rattle.sec_base.specs.declared.stop.MemStop.{MemStop}
use Rattle.sec_base.proofs.Results.{was_none}
use Rattle.tag_engine.specs.TagEngine.{tags_of}
use Rattle.page_reencrypt.specs.LineMoves.{ReadMoved}
use Rattle.page_reencrypt.specs.SealedLines.{SealedLinesView}
use Rattle.page_reencrypt.specs.SealedLinesInside.{sealed_lines_view}
use Rattle.page_reencrypt.proofs.ReadCalls.{lasting_read, read_contents, read_kept, read_moved, read_value}
use Rattle.page_reencrypt.proofs.Successive.{counted_rising}
use Rattle.page_reencrypt.proofs.sealed_lines.SealedLinesLineStore.read_line.Goals as goal

pub read_at-read-requires-clause-risen : goal.read_at-read-requires-clause-risen
read_at-read-requires-clause-risen g c = λ quiet.
    counted_rising c.self.inside.outside.pads.used (c.self.invariant.1.rise quiet).successive

pub returns-in-Some-clause-moved : goal.returns-in-Some-clause-moved
returns-in-Some-clause-moved g c =
    let tags = tags_of g.T.Tagger.data_tag_of g.T.Tagger.node_tag_of in
    subst (λ (seen : SealedLinesView g.row.B.Denot g.row.T.Denot). ReadMoved g.B.Bus.history g.B.Bus.moved tags seen c.args.line (Err c.in-Some.stop) seen) c.self.view_is
    (lasting_read g.B.Bus.history g.B.Bus.moved tags g.met.B.Bus.unmoved
    (sealed_lines_view c.self.inside) c.args.line c.in-Some.stop (sym c.lasting.ensures ∙ c.in-Some.is))

pub invariant_of-self : goal.invariant_of-self
invariant_of-self g c = (
  c.self.invariant.0 ∙ sym c.read_at-read.ensures.read.step.geometry,
  read_kept g.T.Tagger.data_tag_of g.T.Tagger.node_tag_of g.B.Bus.history g.B.Bus.moved (sealed_lines_view c.self.inside) c.args.line c.self.invariant.1
      (sym c.lasting.ensures ∙ c.in_default.is) (rw (← c.self.view_is) at c.requires.inside) c.read_at-read.new.outside c.read_at-read.new.counters
      c.read_at-read.result c.read_at-read.ensures.read c.or-self-inside.result
      (c.or-self-inside.ensures ∙ ap (λ (o : Option MemStop). option_or o c.self.inside.stopped) c.err.ensures.value) c.read_at-read.ensures.pages,
)

pub returns-clause-value : goal.returns-clause-value
returns-clause-value g c = λ _ quiet.
    let lines = sealed_lines_view c.self.inside in
    let inside : c.args.line < line_count lines.engine.geometry = rw (← c.self.view_is) at c.requires.inside in
    rw (← c.self.view_is)
    (read_value lines.pads.key (line_count lines.engine.geometry) lines.engine.made c.args.line c.read_at-read.result inside (c.read_at-read.ensures.read.value quiet))

pub returns-clause-contents : goal.returns-clause-contents
returns-clause-contents g c =
    rw (← c.self.view_is) (read_contents g.T.Tagger.data_tag_of g.T.Tagger.node_tag_of g.B.Bus.history g.B.Bus.moved (sealed_lines_view c.self.inside) c.args.line c.self.invariant.1
    (sym c.lasting.ensures ∙ c.in_default.is) (rw (← c.self.view_is) at c.requires.inside) c.read_at-read.new.outside c.read_at-read.new.counters
    c.read_at-read.result c.read_at-read.ensures.read c.or-self-inside.result
    (c.or-self-inside.ensures ∙ ap (λ (o : Option MemStop). option_or o c.self.inside.stopped) c.err.ensures.value))

pub returns-clause-moved : goal.returns-clause-moved
returns-clause-moved g c =
    rw (← c.self.view_is) (read_moved g.T.Tagger.data_tag_of g.T.Tagger.node_tag_of g.B.Bus.history g.B.Bus.moved (sealed_lines_view c.self.inside) c.args.line c.self.invariant.1
    (sym c.lasting.ensures ∙ c.in_default.is) (rw (← c.self.view_is) at c.requires.inside) c.read_at-read.new.outside c.read_at-read.new.counters
    c.read_at-read.result c.read_at-read.ensures.read c.or-self-inside.result
    (c.or-self-inside.ensures ∙ ap (λ (o : Option MemStop). option_or o c.self.inside.stopped) c.err.ensures.value) c.read_at-read.ensures.pages c.read_at-read.ensures.cached
    c.read_at-read.ensures.under)

pub returns-clause-lost : goal.returns-clause-lost
returns-clause-lost g c = λ quiet.
    let was = sealed_lines_view c.self.inside in
    rw (← c.self.view_is) (was_none was.engine.evidence c.read_at-read.new.outside.engine.evidence c.read_at-read.ensures.read.step.evidence quiet)
