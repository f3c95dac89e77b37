use Rattle.std.proofs.Common.{◌<◌, ◌≤◌, ◌∙◌, ℕ, [], length, inl, inr, refl, sym, ap, subst, arith}
use Rattle.sec_base.specs.declared.ending.Ending.TheVariants.{NoMemory as no_memory}
use Rattle.sec_base.specs.declared.stop.MemStop.TheVariants.{NoMemory}
use Rattle.sec_base.specs.Sink.{SinkState}
use Rattle.sec_base.proofs.Writes.{written_after-nil}
use Rattle.rv32_core.specs.Effect.{next}
use Rattle.rv32_core.specs.Machine.{opening, plain}
use Rattle.rv32_core.specs.Outcome.{prints_of}
use Rattle.rv32_core.proofs.Plain.{whole_run}
use Rattle.rv32_run.specs.Execution.{FollowsWith}
use Rattle.rv32_run.specs.Progress.{SinkEnds}
use Rattle.rv32_run.proofs.Runs.{opening_begins, opening_follows, nothing_follows, never_tampered, never_spent, budget_ends}
use Rattle.plain_machine.proofs.run.Goals as goal

silent : (out : SinkState) → SinkEnds out [] no_memory out
silent out = record { gained = sym (written_after-nil out.written); faults = omega arith; write_fault = λ is. cc; quiet = λ _. refl }

pub returns-in_default : goal.returns-in_default
returns-in_default g c =
    let image = c.args.image.now in
    record {
      run = record {
        printed = [];
        sink = silent (g.S.Sink.state c.args.out.now);
        follows = nothing_follows image.entry image.size image.segments c.args.input.now c.args.budget 0 NoMemory no_memory refl refl;
        whole = λ _ had. absurd (had refl);
        out_of_steps = λ had. absurd (had tt);
        budget_used = λ is. cc;
        within = omega arith;
        early = λ _ some. some;
        cut_short = λ is. cc;
        no_memory = λ _. inl refl;
        untampered = λ place is. cc;
        unspent = λ page is. cc;
      };
    }

pub returns : goal.returns
returns g c =
    let image = c.args.image.now in
    let start = opening image c.args.input.now in
    let execution = c.new-execution.result in
    let began = c.new-execution.ensures in
    let ended = c.finish-ending.ensures.ended in
    let ending = c.finish-ending.result in
    let retired = c.retired-retired.result in
    let budget_is = ended.ended.budget ∙ began.budget in
    let retired_is = c.retired-retired.ensures in
    let opened = began.memory ∙ c.in-Ok.ensures in
    let begins = opening_begins image.entry image.size image.segments c.args.input.now execution.processor execution.calls.services execution.memory execution.retired
    began.core began.services opened began.retired in
    let with_memory : FollowsWith start c.args.budget retired ending c.finish-ending.new.self.memory ended.printed =
    opening_follows image.entry image.size image.segments c.args.input.now execution.processor execution.calls.services execution.memory c.finish-ending.new.self.memory
    execution.retired c.finish-ending.new.self.budget c.args.budget c.finish-ending.new.self.retired retired ending ending ended.printed
    began.core began.services opened began.retired budget_is retired_is refl (ended.ended.follows tt) in
    record {
      run = record {
        printed = ended.printed;
        sink = ended.sink;
        follows = with_memory.follows;
        whole = λ faultless memory.
            whole_run start c.args.budget retired ending ended.printed with_memory.follows (λ fault. faultless (ended.sink.write_fault fault)) memory
            (never_tampered ending ended.ended.carries) (never_spent ending ended.ended.carries);
        out_of_steps = λ going.
            budget_ends start c.args.budget retired ending ended.printed with_memory.follows
            (λ stops. let early = ended.ended.early stops in omega (arith, early, budget_is, retired_is)) going;
        budget_used = λ is. retired_is ∙ ended.ended.budget_used is ∙ budget_is;
        within = let within = ended.ended.within in omega (arith, within, budget_is, retired_is);
        early = λ stops _. let early = ended.ended.early stops in omega (arith, early, budget_is, retired_is);
        cut_short = with_memory.cut_short;
        no_memory = λ none.
            inr (subst (λ (n : ℕ). 0 < length (prints_of (next (plain start n).state))) (sym retired_is)
            (ended.ended.sink_stop refl tt start [] begins none));
        untampered = never_tampered ending ended.ended.carries;
        unspent = never_spent ending ended.ended.carries;
      };
    }
