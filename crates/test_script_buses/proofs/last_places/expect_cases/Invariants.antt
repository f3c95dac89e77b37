use Rattle.bus_adversary.specs.ScriptBus.{script_history}
use Rattle.sec_base.specs.Geometry.{one}
use Rattle.std.proofs.Common.{◌≡◌}
use Rattle.test_script_buses.proofs.last_places.expect_cases.Given as goal

abbrev pub invariant-loop-case : goal.invariant-loop-case
invariant-loop-case g l = (script_history l.bus).geometry ≡ one 8
