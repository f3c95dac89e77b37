use Rattle.std.proofs.Common.{◌≡◌, Some, Ok, Err, subst, refl, ap, ◌∙◌, arith}
use Rattle.rv32_core.specs.declared.step.Step.TheVariants.{Retired, Halted}
use Rattle.rv32_core.specs.declared.step.StepStop.TheVariants.{Trap, Mem, WriteFault}
use Rattle.rv32_core.specs.State.{CoreView, state_of}
use Rattle.rv32_core.specs.Machine.{Machine}
use Rattle.rv32_core.specs.Effect.{next}
use Rattle.rv32_core.specs.Outcome.{IsOutcome}
use Rattle.rv32_core.proofs.Plain.{plain_stepped, step_reaches}
use Rattle.rv32_run.proofs.Turns.{turn_halts, turn_traps, turn_stops, turn_fails, stands_here, stands_still}
use Rattle.rv32_core.specs.TouchedLines.{touched_lines}
use Rattle.rv32_run.proofs.Trails.{step_instruction, touched_front}
use Rattle.rv32_run.proofs.execution.turn.Goals as goal

pub returns-in-Ok-Retired-clause-turns : goal.returns-in-Ok-Retired-clause-turns
returns-in-Ok-Retired-clause-turns g c =
    let outcome = c.step.ensures.outcome in
    let is : c.step.result ≡ Ok Retired = cc in (
      outcome.0,
      outcome.1,
      λ sound start before here.
          step_reaches start c.args.retired.now
          (state_of (g.P.Processor.core c.args.processor.now) c.args.calls.now.services (g.M.Ram.contents c.args.memory.now))
          (state_of (g.P.Processor.core c.step.new.self) c.step.new.calls.services (g.M.Ram.contents c.step.new.ram))
          before outcome.0 c.step.result here (outcome.2 (c.requires.going, sound)) is,
    )

pub returns-in-Ok-Halted-clause-turns : goal.returns-in-Ok-Halted-clause-turns
returns-in-Ok-Halted-clause-turns g c =
    let outcome = c.step.ensures.outcome in
    let is : c.step.result ≡ Ok (Halted c.in-Ok-Halted.code) = cc in (
      outcome.0,
      outcome.1,
      λ sound start before here.
          turn_halts start c.args.budget c.args.retired.now
          (state_of (g.P.Processor.core c.args.processor.now) c.args.calls.now.services (g.M.Ram.contents c.args.memory.now))
          (state_of (g.P.Processor.core c.step.new.self) c.step.new.calls.services (g.M.Ram.contents c.step.new.ram))
          before outcome.0 c.step.result c.in-Ok-Halted.code here (omega arith) (outcome.2 (c.requires.going, sound)) is,
    )

pub returns-in-Err-Trap-clause-turns : goal.returns-in-Err-Trap-clause-turns
returns-in-Err-Trap-clause-turns g c =
    let outcome = c.step.ensures.outcome in
    let is : c.step.result ≡ Err (Trap c.in-Err-Trap.cause) = cc in (
      outcome.0,
      outcome.1,
      λ sound start before here.
          turn_traps start c.args.budget c.args.retired.now
          (state_of (g.P.Processor.core c.args.processor.now) c.args.calls.now.services (g.M.Ram.contents c.args.memory.now))
          (state_of (g.P.Processor.core c.step.new.self) c.step.new.calls.services (g.M.Ram.contents c.step.new.ram))
          before outcome.0 c.step.result c.in-Err-Trap.cause c.pc.result here (omega arith) (outcome.2 (c.requires.going, sound)) is
          (c.pc.ensures ∙ ap (λ (core : CoreView). core.pc) c.in-Err-Trap.ensures.stays.0),
    )

pub returns-in-Err-Mem-clause-turns : goal.returns-in-Err-Mem-clause-turns
returns-in-Err-Mem-clause-turns g c =
    let outcome = c.step.ensures.outcome in
    let is : c.step.result ≡ Err (Mem c.in-Err-Mem.stop) = cc in (
      outcome.0,
      outcome.1,
      λ sound start before here.
          turn_stops start c.args.budget c.args.retired.now
          (state_of (g.P.Processor.core c.args.processor.now) c.args.calls.now.services (g.M.Ram.contents c.args.memory.now))
          (state_of (g.P.Processor.core c.step.new.self) c.step.new.calls.services (g.M.Ram.contents c.step.new.ram))
          before outcome.0 c.step.result c.in-Err-Mem.stop c.ending_of.result here (omega (arith, c.requires.within)) (outcome.2 (c.requires.going, sound)) is c.ending_of.ensures,
    )

pub returns-in-Err-WriteFault-clause-turns : goal.returns-in-Err-WriteFault-clause-turns
returns-in-Err-WriteFault-clause-turns g c =
    let outcome = c.step.ensures.outcome in
    let is : c.step.result ≡ Err WriteFault = cc in (
      outcome.0,
      outcome.1,
      λ sound start before here.
          turn_fails start c.args.budget c.args.retired.now
          (state_of (g.P.Processor.core c.args.processor.now) c.args.calls.now.services (g.M.Ram.contents c.args.memory.now))
          (state_of (g.P.Processor.core c.step.new.self) c.step.new.calls.services (g.M.Ram.contents c.step.new.ram))
          before outcome.0 c.step.result here (omega (arith, c.requires.within)) (outcome.2 (c.requires.going, sound)) is,
    )

pub returns-in-Ok-Retired-clause-instruction : goal.returns-in-Ok-Retired-clause-instruction
returns-in-Ok-Retired-clause-instruction g c =
    let outcome = c.step.ensures.outcome in
    let is : c.step.result ≡ Ok Retired = cc in
    λ more sound start before here.
    step_instruction g.M.Ram.stopped g.M.Ram.contents g.M.Ram.moved start c.args.retired.now c.args.memory.now c.step.new.ram
    (state_of (g.P.Processor.core c.args.processor.now) c.args.calls.now.services (g.M.Ram.contents c.args.memory.now))
    (state_of (g.P.Processor.core c.step.new.self) c.step.new.calls.services (g.M.Ram.contents c.step.new.ram))
    before outcome.0 c.step.result Retired c.step.ensures.moved.lines here (outcome.2 (c.requires.going, sound)) is
    (c.step.ensures.mem c.requires.going) refl c.step.ensures.moved.moved (c.step.ensures.moved.touched (c.requires.going, sound))

pub returns-in-Ok-Halted-clause-instruction : goal.returns-in-Ok-Halted-clause-instruction
returns-in-Ok-Halted-clause-instruction g c =
    let outcome = c.step.ensures.outcome in
    let is : c.step.result ≡ Ok (Halted c.in-Ok-Halted.code) = cc in
    λ more sound start before here.
    step_instruction g.M.Ram.stopped g.M.Ram.contents g.M.Ram.moved start c.args.retired.now c.args.memory.now c.step.new.ram
    (state_of (g.P.Processor.core c.args.processor.now) c.args.calls.now.services (g.M.Ram.contents c.args.memory.now))
    (state_of (g.P.Processor.core c.step.new.self) c.step.new.calls.services (g.M.Ram.contents c.step.new.ram))
    before outcome.0 c.step.result (Halted c.in-Ok-Halted.code) c.step.ensures.moved.lines here (outcome.2 (c.requires.going, sound)) is
    (c.step.ensures.mem c.requires.going) refl c.step.ensures.moved.moved (c.step.ensures.moved.touched (c.requires.going, sound))

pub returns-in-Ok-Retired-clause-moved : goal.returns-in-Ok-Retired-clause-moved
returns-in-Ok-Retired-clause-moved g c =
    let step = c.step.ensures.moved in
    record {
      extent = step.extent;
      lost = step.lost;
      lines = step.lines;
      moved = step.moved;
      touched = λ sound. touched_front c.step.result (touched_lines (state_of (g.P.Processor.core c.args.processor.now) c.args.calls.now.services (g.M.Ram.contents c.args.memory.now))) step.lines
          (step.touched (c.requires.going, sound));
    }

pub returns-in-Ok-Halted-clause-moved : goal.returns-in-Ok-Halted-clause-moved
returns-in-Ok-Halted-clause-moved g c =
    let step = c.step.ensures.moved in
    record {
      extent = step.extent;
      lost = step.lost;
      lines = step.lines;
      moved = step.moved;
      touched = λ sound. touched_front c.step.result (touched_lines (state_of (g.P.Processor.core c.args.processor.now) c.args.calls.now.services (g.M.Ram.contents c.args.memory.now))) step.lines
          (step.touched (c.requires.going, sound));
    }

pub returns-in-Err-Trap-clause-moved : goal.returns-in-Err-Trap-clause-moved
returns-in-Err-Trap-clause-moved g c =
    let step = c.step.ensures.moved in
    record {
      extent = step.extent;
      lost = step.lost;
      lines = step.lines;
      moved = step.moved;
      touched = λ sound. touched_front c.step.result (touched_lines (state_of (g.P.Processor.core c.args.processor.now) c.args.calls.now.services (g.M.Ram.contents c.args.memory.now))) step.lines
          (step.touched (c.requires.going, sound));
    }

pub returns-in-Err-Mem-clause-moved : goal.returns-in-Err-Mem-clause-moved
returns-in-Err-Mem-clause-moved g c =
    let step = c.step.ensures.moved in
    record {
      extent = step.extent;
      lost = step.lost;
      lines = step.lines;
      moved = step.moved;
      touched = λ sound. touched_front c.step.result (touched_lines (state_of (g.P.Processor.core c.args.processor.now) c.args.calls.now.services (g.M.Ram.contents c.args.memory.now))) step.lines
          (step.touched (c.requires.going, sound));
    }

pub returns-in-Err-WriteFault-clause-moved : goal.returns-in-Err-WriteFault-clause-moved
returns-in-Err-WriteFault-clause-moved g c =
    let step = c.step.ensures.moved in
    record {
      extent = step.extent;
      lost = step.lost;
      lines = step.lines;
      moved = step.moved;
      touched = λ sound. touched_front c.step.result (touched_lines (state_of (g.P.Processor.core c.args.processor.now) c.args.calls.now.services (g.M.Ram.contents c.args.memory.now))) step.lines
          (step.touched (c.requires.going, sound));
    }

-- the processor and the services that it leaves

pub returns-in-Ok-Retired-clause-stands : goal.returns-in-Ok-Retired-clause-stands
returns-in-Ok-Retired-clause-stands g c =
    let outcome = c.step.ensures.outcome in
    let is : c.step.result ≡ Ok Retired = cc in
    λ sound start before here.
    stands_here _ (g.P.Processor.core c.step.new.self) c.step.new.calls.services (g.M.Ram.contents c.step.new.ram) _ _
    (step_reaches start c.args.retired.now
    (state_of (g.P.Processor.core c.args.processor.now) c.args.calls.now.services (g.M.Ram.contents c.args.memory.now))
    (state_of (g.P.Processor.core c.step.new.self) c.step.new.calls.services (g.M.Ram.contents c.step.new.ram))
    before outcome.0 c.step.result here (outcome.2 (c.requires.going, sound)) is)

pub returns-in-Ok-Halted-clause-stands : goal.returns-in-Ok-Halted-clause-stands
returns-in-Ok-Halted-clause-stands g c =
    let outcome = c.step.ensures.outcome in
    let is : c.step.result ≡ Ok (Halted c.in-Ok-Halted.code) = cc in
    λ sound start before here.
    let old = state_of (g.P.Processor.core c.args.processor.now) c.args.calls.now.services (g.M.Ram.contents c.args.memory.now) in
    let new = state_of (g.P.Processor.core c.step.new.self) c.step.new.calls.services (g.M.Ram.contents c.step.new.ram) in
    let stepped = plain_stepped start c.args.retired.now old new before outcome.0 (Some c.in-Ok-Halted.code) here
    (subst (λ r. IsOutcome (next old) r old new outcome.0) is (outcome.2 (c.requires.going, sound))) in
    (ap (λ (m : Machine). m.state.core) stepped, ap (λ (m : Machine). m.state.calls) stepped)

pub returns-in-Err-Trap-clause-stands : goal.returns-in-Err-Trap-clause-stands
returns-in-Err-Trap-clause-stands g c = λ sound start before here.
    stands_still _ (g.P.Processor.core c.args.processor.now) (g.P.Processor.core c.step.new.self) c.args.calls.now.services c.step.new.calls.services
    (g.M.Ram.contents c.args.memory.now) before c.args.retired.now here c.in-Err-Trap.ensures.stays

pub returns-in-Err-Mem-clause-stands : goal.returns-in-Err-Mem-clause-stands
returns-in-Err-Mem-clause-stands g c = λ sound start before here.
    stands_still _ (g.P.Processor.core c.args.processor.now) (g.P.Processor.core c.step.new.self) c.args.calls.now.services c.step.new.calls.services
    (g.M.Ram.contents c.args.memory.now) before c.args.retired.now here c.in-Err-Mem.ensures.stays

pub returns-in-Err-WriteFault-clause-stands : goal.returns-in-Err-WriteFault-clause-stands
returns-in-Err-WriteFault-clause-stands g c = λ sound start before here.
    stands_still _ (g.P.Processor.core c.args.processor.now) (g.P.Processor.core c.step.new.self) c.args.calls.now.services c.step.new.calls.services
    (g.M.Ram.contents c.args.memory.now) before c.args.retired.now here c.in-Err-WriteFault.ensures.stays
