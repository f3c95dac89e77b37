use Rattle.std.proofs.Common.{rules, ap, ◌∙◌, take}
use Rattle.std.proofs.lemmas.List.{take_rest}
use Rattle.bus_trace.proofs.Comparing.{all_taken, told_more, wrong_taken}
use Rattle.bus_trace.proofs.comparison.ComparisonSink.write.Goals as goal

pub returns-then-same-piece-clause-taken : goal.returns-then-same-piece-clause-taken
returns-then-same-piece-clause-taken c =
    rw (← c.self.view_is) (told_more c.self.inside.expected.now _ _ _
    (all_taken c.self.inside.expected.now c.args.piece.now c.self.inside.agreed c.common_len-same.result c.self.inside.wrong (search rules) (c.common_len-same.ensures.same ∙ ap (take c.common_len-same.result) (take_rest c.self.inside.expected.now c.self.inside.agreed))))

pub returns-clause-taken : goal.returns-clause-taken
returns-clause-taken c =
    rw (← c.self.view_is) (told_more c.self.inside.expected.now _ _ _
    (wrong_taken c.self.inside.expected.now c.args.piece.now c.self.inside.agreed c.common_len-same.result c.self.inside.wrong (search rules) (c.common_len-same.ensures.same ∙ ap (take c.common_len-same.result) (take_rest c.self.inside.expected.now c.self.inside.agreed)) (search rules)))
