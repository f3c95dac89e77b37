use Rattle.std.proofs.Common.{◌≡◌, ◌↔◌, ◌≤◌, ◌+◌, [], ◌∷◌, sym, ◌∙◌, subst, refl, length, Result, Err, List, ℕ}
use Rattle.std.proofs.lemmas.Result.{err_from_is_err_and}
use Rattle.sec_base.specs.Geometry.{line_of}
use Rattle.sec_base.specs.Prefix.{IsPrefix}
use Rattle.sec_base.specs.Ram.{IsReliable}
use Rattle.sec_base.specs.Width.{number_at}
use Rattle.sec_base.specs.declared.ending.Cause.{Cause}
use Rattle.sec_base.specs.declared.width.Width.TheVariants.{Four}
use Rattle.rv32_core.specs.After.{After}
use Rattle.rv32_core.specs.Effect.{next, effect}
use Rattle.rv32_core.specs.Fetch.{IsFetched}
use Rattle.rv32_core.specs.Outcome.{IsSinkStop}
use Rattle.rv32_core.specs.State.{CoreView, State, state_of}
use Rattle.rv32_core.specs.TouchedLines.{AreTouched, data_lines}
use Rattle.rv32_core.specs.declared.step.StepStop.TheVariants.{Trap}
use Rattle.rv32_core.proofs.Printed.{prints_nothing}
use Rattle.rv32_core.proofs.Steps.{found, fetch_stopped, illegal, going_from_fetch, traps_as}
use Rattle.rv32_core.proofs.TouchedLines.{fetched_front, touched_after, touched_as, touched_found}
use Rattle.rv32_core.proofs.processor.CoreProcessor.step.Goals as goal

pub returns-in_err-word-clause-outcome : goal.returns-in_err-word-clause-outcome
returns-in_err-word-clause-outcome g c =
    let p = err_from_is_err_and c.from_residual.result c.from_residual.ensures.1 in
    let stop = c.in_err-word.field-0.0 in (
      [],
      prints_nothing (g.S.Sink.state c.args.out.now) c.args.calls.now.taken,
      λ reliable.
          rw (p.1, p.2) (fetch_stopped stop c.args.self.now c.args.calls.now.services _ _
          (subst (λ (h : CoreView). IsFetched (g.M.Ram.contents c.args.ram.now) h.pc (Err stop)) c.self.view_is (c.in_err-word.ensures.fetched reliable))
          (c.fetch.ensures.contents reliable)),
    )

pub returns-in_err-word-clause-moved : goal.returns-in_err-word-clause-moved
returns-in_err-word-clause-moved g c =
    let p = err_from_is_err_and c.from_residual.result c.from_residual.ensures.1 in
    touched_as g.M.Ram.extent g.M.Ram.sound g.M.Ram.moved _ _ c.args.ram.now c.fetch.new.ram
    (λ lines front reliable.
    rw p.1 (fetched_front lines (state_of c.args.self.now c.args.calls.now.services (g.M.Ram.contents c.args.ram.now))
    (subst (λ (h : CoreView). IsPrefix lines (line_of h.pc ∷ [])) c.self.view_is front)))
    c.in_err-word.ensures.moved

pub returns-in-Some-clause-moved : goal.returns-in-Some-clause-moved
returns-in-Some-clause-moved g c =
    let before : State = state_of c.args.self.now c.args.calls.now.services (g.M.Ram.contents c.args.ram.now) in
    touched_after g.M.Ram.extent g.M.Ram.sound g.M.Ram.moved _ _ _ c.args.ram.now c.fetch.new.ram c.execute.new.ram g.met.M.Ram.moved_on c.in_ok-word.ensures.moved c.execute.ensures.moved
    (λ first second one two reliable.
    let there : IsReliable g.M.Ram.stopped g.M.Ram.sound c.args.ram.now c.fetch.new.ram = (reliable.0, c.execute.ensures.moved.lost reliable.1) in
    touched_found c.execute.result first second before c.in_ok-word.word c.in-Some.inst
    (subst (λ (h : CoreView). c.in_ok-word.word ≡ number_at (g.M.Ram.contents c.args.ram.now) h.pc Four) c.self.view_is (c.in_ok-word.ensures.fetched there).1)
    (sym c.decode.ensures.row ∙ c.in-Some.is)
    (subst (λ (h : CoreView). first ≡ line_of h.pc ∷ []) c.self.view_is one)
    (subst
    (λ (m : List ℕ). AreTouched c.execute.result (data_lines c.in-Some.inst.op c.in-Some.inst (state_of c.args.self.now c.args.calls.now.services m)) second)
    (c.fetch.ensures.contents there)
    (subst (λ (h : CoreView). AreTouched c.execute.result (data_lines c.in-Some.inst.op c.in-Some.inst (state_of h c.args.calls.now.services (g.M.Ram.contents c.fetch.new.ram))) second) c.self.view_is two)))

pub returns-in-None-clause-outcome : goal.returns-in-None-clause-outcome
returns-in-None-clause-outcome g c = (
  [],
  prints_nothing (g.S.Sink.state c.args.out.now) c.args.calls.now.taken,
  λ reliable. (
    illegal (state_of c.args.self.now c.args.calls.now.services (g.M.Ram.contents c.args.ram.now)) c.in_ok-word.word
        (subst (λ (h : CoreView). h.pc + 4 ≤ length (g.M.Ram.contents c.args.ram.now)) c.self.view_is (c.in_ok-word.ensures.fetched reliable).0)
        (subst (λ (h : CoreView). c.in_ok-word.word ≡ number_at (g.M.Ram.contents c.args.ram.now) h.pc Four) c.self.view_is (c.in_ok-word.ensures.fetched reliable).1)
        (sym c.decode.ensures.row ∙ c.in-None.is),
    c.fetch.ensures.contents reliable,
    refl,
  ),
)

pub returns-in-Some-clause-sink_stop : goal.returns-in-Some-clause-sink_stop
returns-in-Some-clause-sink_stop g c = λ reliable going.
    let contents = g.M.Ram.contents c.args.ram.now in
    let before : State = state_of c.args.self.now c.args.calls.now.services (g.M.Ram.contents c.args.ram.now) in
    let there = c.execute.ensures.moved.lost reliable.1 in
    let fetched = c.in_ok-word.ensures.fetched (reliable.0, there) in
    let is : next before ≡ effect c.in-Some.inst.op c.in-Some.inst before =
    found before c.in_ok-word.word c.in-Some.inst
    (subst (λ (h : CoreView). h.pc + 4 ≤ length contents) c.self.view_is fetched.0)
    (subst (λ (h : CoreView). c.in_ok-word.word ≡ number_at contents h.pc Four) c.self.view_is fetched.1)
    (sym c.decode.ensures.row ∙ c.in-Some.is) in
    subst (λ (r : Result After Cause). IsSinkStop c.execute.result r) (sym is)
    (subst
    (λ (m : List ℕ). IsSinkStop c.execute.result (effect c.in-Some.inst.op c.in-Some.inst (state_of c.args.self.now c.args.calls.now.services m)))
    (c.fetch.ensures.contents (reliable.0, there))
    (subst (λ (h : CoreView). IsSinkStop c.execute.result (effect c.in-Some.inst.op c.in-Some.inst (state_of h c.args.calls.now.services (g.M.Ram.contents c.fetch.new.ram)))) c.self.view_is
    (c.execute.ensures.sink_stop (going_from_fetch _ c.in_ok-word.word (c.in_ok-word.ensures.mem reliable.0), reliable.1) going)))

pub returns-in-Some-clause-traps : goal.returns-in-Some-clause-traps
returns-in-Some-clause-traps g c = λ reliable going cause.
    let contents = g.M.Ram.contents c.args.ram.now in
    let before : State = state_of c.args.self.now c.args.calls.now.services (g.M.Ram.contents c.args.ram.now) in
    let there : IsReliable g.M.Ram.stopped g.M.Ram.sound c.args.ram.now c.fetch.new.ram = (reliable.0, c.execute.ensures.moved.lost reliable.1) in
    let later : IsReliable g.M.Ram.stopped g.M.Ram.sound c.fetch.new.ram c.execute.new.ram = (going_from_fetch _ c.in_ok-word.word (c.in_ok-word.ensures.mem reliable.0), reliable.1) in
    let fetched = c.in_ok-word.ensures.fetched there in
    let is : next before ≡ effect c.in-Some.inst.op c.in-Some.inst before =
    found before c.in_ok-word.word c.in-Some.inst
    (subst (λ (h : CoreView). h.pc + 4 ≤ length contents) c.self.view_is fetched.0)
    (subst (λ (h : CoreView). c.in_ok-word.word ≡ number_at contents h.pc Four) c.self.view_is fetched.1)
    (sym c.decode.ensures.row ∙ c.in-Some.is) in
    subst (λ (r : Result After Cause). (c.execute.result ≡ Err (Trap cause)) ↔ (r ≡ Err cause)) (sym is)
    (subst
    (λ (m : List ℕ). (c.execute.result ≡ Err (Trap cause)) ↔ (effect c.in-Some.inst.op c.in-Some.inst (state_of c.args.self.now c.args.calls.now.services m) ≡ Err cause))
    (c.fetch.ensures.contents there)
    (subst (λ (h : CoreView). (c.execute.result ≡ Err (Trap cause)) ↔ (effect c.in-Some.inst.op c.in-Some.inst (state_of h c.args.calls.now.services (g.M.Ram.contents c.fetch.new.ram)) ≡ Err cause)) c.self.view_is
    (traps_as _ c.execute.result _ _ _ cause (c.execute.ensures.outcome.2 later) (c.execute.ensures.sink_stop later going))))
