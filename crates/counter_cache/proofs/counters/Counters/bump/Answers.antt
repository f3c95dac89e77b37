use Rattle.std.proofs.Common.{◌≡◌, Some, rules}
use Rattle.std.specs.Result.{result_err}
use Rattle.tag_engine.specs.TagEngine.{tags_of}
use Rattle.counter_cache.proofs.Counted.{bumped_not}
use Rattle.counter_cache.proofs.counters.Counters.bump.Goals as goal

pub count-requires : goal.count-requires
count-requires g c = record { latest = c.in_ok-get.ensures.had.blocks.latest; place = c.requires.place }

pub returns-in_err-get-clause-bumped : goal.returns-in_err-get-clause-bumped
returns-in_err-get-clause-bumped g c =
    let why = c.in_err-get.field-0.0 in
    let stop : result_err c.from_residual.result ≡ Some why = search rules in
    bumped_not (tags_of g.T.Tagger.data_tag_of g.T.Tagger.node_tag_of) c.args.self.now (g.B.Bus.history c.args.bus.now) c.args.tags.now
    c.get.new.self (g.B.Bus.history c.get.new.bus) c.get.new.tags c.args.page c.args.place c.args.limit c.from_residual.result why stop c.in_err-get.ensures.had

pub returns-clause-bumped : goal.returns-clause-bumped
returns-clause-bumped g c = record { middle = c.get.new.self; had = c.in_ok-get.ensures.had; counted = c.count.ensures.counted }

pub returns-in_err-get-clause-accesses : goal.returns-in_err-get-clause-accesses
returns-in_err-get-clause-accesses g c =
    let why = c.in_err-get.field-0.0 in
    let stop : result_err c.from_residual.result ≡ Some why = search rules in
    rw stop c.in_err-get.ensures.accesses
