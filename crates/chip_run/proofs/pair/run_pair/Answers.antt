use Rattle.tag_engine.specs.Tag.{engine_tag}
use Rattle.chip_run.specs.Pair.{HasCome}
use Rattle.chip_run.specs.Run.{Terms, run_terms}
use Rattle.chip_run.proofs.pair.run_pair.Given.{Over}
use Rattle.chip_run.proofs.pair.run_pair.Goals as goal

-- the terms of each side
abbrev first_terms : (g : Over) (c : goal.After-close-second g) → Terms
first_terms g c =
    let side = c.args.first in
    run_terms side.image.now side.input.now side.setup.now (engine_tag (g.T1.Tagger.data_tag_of side.tagger) (g.T1.Tagger.node_tag_of side.tagger) side.setup.now.geometry)

abbrev second_terms : (g : Over) (c : goal.After-close-second g) → Terms
second_terms g c =
    let side = c.args.second in
    run_terms side.image.now side.input.now side.setup.now (engine_tag (g.T2.Tagger.data_tag_of side.tagger) (g.T2.Tagger.node_tag_of side.tagger) side.setup.now.geometry)

-- how far each has come
first_come : (g : Over) (c : goal.After-close-second g) → HasCome g.T1.Tagger.data_tag_of g.T1.Tagger.node_tag_of g.B1.Bus.history g.B1.Bus.moved
    c.args.first.bus c.args.first.tagger (first_terms g c) (g.S1.Sink.state c.args.out1.now) (g.S1.Sink.state c.go_on.new.out) c.go_on.new.self
first_come g c =
    let start = g.S1.Sink.state c.args.out1.now in
    c.go_on.ensures.came c.args.first.bus c.args.first.tagger (first_terms g c) start
    (c.take_turns.ensures.first c.args.first.bus c.args.first.tagger (first_terms g c) start (c.begin-first.ensures start))

second_come : (g : Over) (c : goal.After-close-second g) → HasCome g.T2.Tagger.data_tag_of g.T2.Tagger.node_tag_of g.B2.Bus.history g.B2.Bus.moved
    c.args.second.bus c.args.second.tagger (second_terms g c) (g.S2.Sink.state c.args.out2.now) (g.S2.Sink.state c.go_on-2.new.out) c.go_on-2.new.self
second_come g c =
    let start = g.S2.Sink.state c.args.out2.now in
    c.go_on-2.ensures.came c.args.second.bus c.args.second.tagger (second_terms g c) start
    (c.take_turns.ensures.second c.args.second.bus c.args.second.tagger (second_terms g c) start (c.begin-second.ensures start))

pub returns-clause-first : goal.returns-clause-first
returns-clause-first g c = c.close-first.ensures.side c.args.first.bus c.args.first.tagger (first_terms g c) _ _ (first_come g c)

pub returns-clause-second : goal.returns-clause-second
returns-clause-second g c = c.close-second.ensures.side c.args.second.bus c.args.second.tagger (second_terms g c) _ _ (second_come g c)

pub returns-clause-first_accesses : goal.returns-clause-first_accesses
returns-clause-first_accesses g c = c.close-first.ensures.accesses c.args.first.bus c.args.first.tagger (first_terms g c) _ _ (first_come g c)

pub returns-clause-second_accesses : goal.returns-clause-second_accesses
returns-clause-second_accesses g c = c.close-second.ensures.accesses c.args.second.bus c.args.second.tagger (second_terms g c) _ _ (second_come g c)
