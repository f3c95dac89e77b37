use Rattle.std.proofs.Common.{◌+◌}
use Rattle.sec_base.specs.Sink.{SinkState}
use Rattle.chip_run.specs.Pair.{HasCome, turns_left}
use Rattle.chip_run.specs.Run.{Terms}
use Rattle.chip_run.proofs.pair.take_turns.Given as goal

abbrev pub invariant-loop-second : goal.invariant-loop-second
invariant-loop-second g l = record {
  first : (bus : g.row.B1.Denot) (tagger : g.row.T1.Denot) (terms : Terms) (start : SinkState) →
      HasCome g.T1.Tagger.data_tag_of g.T1.Tagger.node_tag_of g.B1.Bus.history g.B1.Bus.moved bus tagger terms start (g.S1.Sink.state l.fn.out1) l.fn.first →
      HasCome g.T1.Tagger.data_tag_of g.T1.Tagger.node_tag_of g.B1.Bus.history g.B1.Bus.moved bus tagger terms start (g.S1.Sink.state l.out1) l.first;
  second : (bus : g.row.B2.Denot) (tagger : g.row.T2.Denot) (terms : Terms) (start : SinkState) →
      HasCome g.T2.Tagger.data_tag_of g.T2.Tagger.node_tag_of g.B2.Bus.history g.B2.Bus.moved bus tagger terms start (g.S2.Sink.state l.fn.out2) l.fn.second →
      HasCome g.T2.Tagger.data_tag_of g.T2.Tagger.node_tag_of g.B2.Bus.history g.B2.Bus.moved bus tagger terms start (g.S2.Sink.state l.out2) l.second;
}

abbrev pub decreases-loop-second : goal.decreases-loop-second
decreases-loop-second g l = turns_left l.first + turns_left l.second
