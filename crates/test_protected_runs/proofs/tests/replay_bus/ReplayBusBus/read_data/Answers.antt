use Rattle.std.proofs.Common.{ℕ, List, ap}
use Rattle.sec_base.specs.Evidence.{sealed_bytes}
use Rattle.sec_base.specs.declared.place.Place.TheVariants.{Line}
use Rattle.bus_model.specs.BusHistory.{Lie}
use Rattle.bus_model.specs.HonestBus.{honest_history}
use Rattle.bus_model.proofs.LieSteps.{unlike}
use Rattle.test_protected_runs.specs.declared.tests.replay_bus.FalseAnswer.{FalseAnswer}
use Rattle.test_protected_runs.proofs.tests.Replays.{first_told, own_answered, own_lied}
use Rattle.test_protected_runs.proofs.tests.replay_bus.ReplayBusBus.read_data.Goals as goal

pub returns-then-not-replays-clause-access : goal.returns-then-not-replays-clause-access
returns-then-not-replays-clause-access c =
    rw (← c.self.view_is) (own_answered (honest_history c.self.inside.bus) (honest_history c.read_data.new.self) _ _ _ _ (Line c.args.line)
    c.saturating_add-self-inside.ensures (sealed_bytes c.in_ok-sealed.sealed) c.in_ok-sealed.ensures.access c.in_ok-sealed.ensures.answer)

pub returns-then-not-differs-clause-access : goal.returns-then-not-differs-clause-access
returns-then-not-differs-clause-access c =
    rw (← c.self.view_is) (own_answered (honest_history c.self.inside.bus) (honest_history c.read_data.new.self) _ _ _ _ (Line c.args.line)
    c.saturating_add-self-inside.ensures (sealed_bytes c.in_ok-sealed.sealed) c.in_ok-sealed.ensures.access c.in_ok-sealed.ensures.answer)

pub returns-clause-access : goal.returns-clause-access
returns-clause-access c =
    let seen : FalseAnswer → Lie = λ answer. record { access = answer.access; place = answer.place; bytes = answer.bytes.items } in
    let told : FalseAnswer = record { access = c.saturating_add-self-inside.result; place = Line c.args.line; bytes = c.in_ok-bytes.bytes } in
    let stale = sealed_bytes c.self.inside.stale.line in
    let lie : Lie = record { access = c.saturating_add-self-inside.result; place = Line c.args.line; bytes = stale } in
    rw (← c.self.view_is) (own_lied (honest_history c.self.inside.bus) (honest_history c.read_data.new.self) _ _ _ _ (Line c.args.line)
    c.saturating_add-self-inside.ensures (sealed_bytes c.in_ok-sealed.sealed) stale _ _ c.in_ok-sealed.ensures.access c.in_ok-sealed.ensures.answer
    (unlike stale (sealed_bytes c.in_ok-sealed.sealed) c.if-not-differs.ensures) c.tell.ensures.count
    (first_told seen told c.self.inside.lies.first c.tell.new.self.first c.self.inside.lies.count lie c.tell.ensures.first
    (ap (λ (bytes : List ℕ). record { access = c.saturating_add-self-inside.result; place = Line c.args.line; bytes = bytes }) c.in_ok-bytes.ensures)))
