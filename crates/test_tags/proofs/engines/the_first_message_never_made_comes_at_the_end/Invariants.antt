use Rattle.sec_base.specs.Geometry.{one}
use Rattle.std.proofs.Common.{◌≡◌}
use Rattle.test_tags.proofs.engines.the_first_message_never_made_comes_at_the_end.Given as goal

abbrev pub invariant-loop-case : goal.invariant-loop-case
invariant-loop-case g l = l.engine.geometry ≡ one 1
