use Rattle.std.proofs.Common.{ℕ, List, not, ap}
use Rattle.sec_base.specs.declared.place.Place.TheVariants.{Node}
use Rattle.bus_model.specs.BusHistory.{Lie}
use Rattle.bus_model.specs.HonestBus.{honest_history}
use Rattle.bus_model.proofs.LieSteps.{unlike}
use Rattle.test_protected_runs.specs.declared.tests.replay_bus.FalseAnswer.{FalseAnswer}
use Rattle.test_protected_runs.proofs.tests.Replays.{first_told, own_answered, own_lied}
use Rattle.test_protected_runs.proofs.tests.replay_bus.ReplayBusBus.read_node.Goals as goal

pub returns-then-is_none-clause-access : goal.returns-then-is_none-clause-access
returns-then-is_none-clause-access c =
    rw (← c.self.view_is) (own_answered (honest_history c.self.inside.bus) (honest_history c.read_node.new.self) _ _ _ _ (Node c.args.level c.args.index)
    c.saturating_add-self-inside.ensures c.in_ok-block.block c.in_ok-block.ensures.access c.in_ok-block.ensures.answer)

pub returns-then-eq-clause-access : goal.returns-then-eq-clause-access
returns-then-eq-clause-access c =
    rw (← c.self.view_is) (own_answered (honest_history c.self.inside.bus) (honest_history c.read_node.new.self) _ _ _ _ (Node c.args.level c.args.index)
    c.saturating_add-self-inside.ensures c.in_ok-block.block c.in_ok-block.ensures.access c.in_ok-block.ensures.answer)

pub returns-clause-access : goal.returns-clause-access
returns-clause-access c =
    let seen : FalseAnswer → Lie = λ answer. record { access = answer.access; place = answer.place; bytes = answer.bytes.items } in
    let told : FalseAnswer = record { access = c.saturating_add-self-inside.result; place = Node c.args.level c.args.index; bytes = c.in_ok-bytes.bytes } in
    let stale = c.unwrap_or-answer.result in
    let lie : Lie = record { access = c.saturating_add-self-inside.result; place = Node c.args.level c.args.index; bytes = stale } in
    rw (← c.self.view_is) (own_lied (honest_history c.self.inside.bus) (honest_history c.read_node.new.self) _ _ _ _ (Node c.args.level c.args.index)
    c.saturating_add-self-inside.ensures c.in_ok-block.block stale _ _ c.in_ok-block.ensures.access c.in_ok-block.ensures.answer
    (unlike stale c.in_ok-block.block (ap not c.if-eq.ensures)) c.tell.ensures.count
    (first_told seen told c.self.inside.lies.first c.tell.new.self.first c.self.inside.lies.count lie c.tell.ensures.first
    (ap (λ (bytes : List ℕ). record { access = c.saturating_add-self-inside.result; place = Node c.args.level c.args.index; bytes = bytes }) c.in_ok-bytes.ensures.items)))
