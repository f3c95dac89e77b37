use Rattle.std.proofs.Common.{◌≡◌, ◌<◌, ap, sym, ◌∙◌, subst, arith, rules}
use Rattle.sec_base.specs.Geometry.{GeometryView, line_count, one}
use Rattle.bus_model.specs.BusHistory.{BusHistory}
use Rattle.bus_model.specs.HonestBus.{honest_history}
use Rattle.bus_model.proofs.Accesses.{all_geometry}
use Rattle.bus_model.proofs.Steps.{nothing_written}
use Rattle.test_protected_runs.proofs.tests.honest.Goals as goal

pub run-record-requires-clause-nothing_written : goal.run-record-requires-clause-nothing_written
run-record-requires-clause-nothing_written c = nothing_written _ (honest_history c.in_ok-bus.bus) c.in_ok-bus.ensures

-- a run leaves the geometry of its bus
pub read_data-requires : goal.read_data-requires
read_data-requires c =
    let four : c.in_ok-geometry.geometry ≡ one 1 = search rules in
    let went = c.run-record.ensures.accesses in
    let still : c.run-record.result.1.geometry ≡ c.in_ok-geometry.geometry =
    ap (λ (t : BusHistory). t.geometry) went.1 ∙ all_geometry went.0 (honest_history c.in_ok-bus.bus)
    ∙ ap (λ (t : BusHistory). t.geometry) c.in_ok-bus.ensures in
    let inside : 64 < line_count (one 1) = omega arith in
    record { inside = subst (λ (g : GeometryView). 64 < line_count g) (sym (still ∙ four)) inside }
