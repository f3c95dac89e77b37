use Rattle.chip_run.proofs.pair.take_turns.Goals as goal

pub loop-second-preserved-in-0-1 : goal.loop-second-preserved-in-0-1
loop-second-preserved-in-0-1 g c = record {
  first = λ bus tagger terms start has. c.turn.ensures.came bus tagger terms start (c.loop-second.invariant.first bus tagger terms start has);
  second = c.loop-second.invariant.second;
}

pub loop-second-preserved : goal.loop-second-preserved
loop-second-preserved g c = record {
  first = c.loop-second.invariant.first;
  second = λ bus tagger terms start has. c.turn-in_default.ensures.came bus tagger terms start (c.loop-second.invariant.second bus tagger terms start has);
}
