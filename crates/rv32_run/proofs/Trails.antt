-- The memories that a run went through.
use Rattle.std.proofs.Common.{◌≡◌, ◌<◌, ◌⊎◌, inl, inr, ℕ, ◌+◌, List, [], Option, Some, None, Result, Ok, Err, refl, sym, ap, ◌∙◌, subst, arith, add-zero}
use Rattle.std.proofs.lemmas.List.{append-nil}
use Rattle.sec_base.specs.Prefix.{IsPrefix}
use Rattle.sec_base.specs.declared.ending.Ending.{Ending}
use Rattle.sec_base.specs.declared.ending.Ending.TheVariants.{Halted}
use Rattle.sec_base.specs.declared.stop.MemStop.{MemStop}
use Rattle.rv32_core.specs.declared.step.Step.{Step}
use Rattle.rv32_core.specs.declared.step.StepStop.{StepStop}
use Rattle.rv32_core.specs.State.{State}
use Rattle.rv32_core.specs.Effect.{next}
use Rattle.rv32_core.specs.Outcome.{IsOutcome, CarriesStop, exit_of}
use Rattle.rv32_core.specs.TouchedLines.{AreTouched, touched_lines}
use Rattle.rv32_core.specs.Machine.{Machine, plain}
use Rattle.rv32_core.proofs.Plain.{going_on, plain_stepped}
use Rattle.rv32_run.specs.Execution.{retired_after}
use Rattle.rv32_run.specs.Trail.{IsInstruction, HasTrail}

-- a step that went well is the plain machine's instruction
stepped_going : (stopped : Option MemStop) (result : Result Step StepStop) (step : Step) → CarriesStop stopped result → result ≡ Ok step → stopped ≡ None
stepped_going None result step carries is = refl
stepped_going (Some stop) result step carries is = let same = sym is ∙ carries in cc

pub step_instruction : {M : Type 0} (stopped : M → Option MemStop) (contents : M → List ℕ) (moved : M → List ℕ → M → Type 0) (start : Machine) (n : ℕ) (first last : M) (old new : State) (before printed : List ℕ) (result : Result Step StepStop) (step : Step) (lines : List ℕ) → plain start n ≡ going_on old before n → IsOutcome (next old) result old new printed → result ≡ Ok step → CarriesStop (stopped last) result → new.memory ≡ contents last → moved first lines last → AreTouched result (touched_lines old) lines → IsInstruction stopped contents moved start n first last
step_instruction {M} stopped contents moved start n first last old new before printed result step lines here outcome is carries bytes led touched = record {
  lines = lines;
  led = led;
  going = stepped_going (stopped last) result step carries is;
  bytes =
      let stepped = plain_stepped start n old new before printed (exit_of step) here (subst (λ (r : Result Step StepStop). IsOutcome (next old) r old new printed) is outcome) in
      sym bytes ∙ ap (λ (machine : Machine). machine.state.memory) (sym stepped);
  touched = subst (λ (machine : Machine). lines ≡ touched_lines machine.state) (sym here)
      (subst (λ (r : Result Step StepStop). AreTouched r (touched_lines old) lines) is touched);
}

-- an ending retires an instruction or none
pub retired_or_not : (ending : Ending) (n : ℕ) → (retired_after (Some ending) n ≡ n) ⊎ (retired_after (Some ending) n ≡ n + 1)
retired_or_not (Halted code) n = inr refl
retired_or_not _ n = inl refl

-- the lines of calls are a front part of those that are to be touched
pub touched_front : {A E : Type 0} (result : Result A E) (all lines : List ℕ) → AreTouched result all lines → IsPrefix lines all
touched_front (Ok x) all lines same = ([], sym same ∙ sym (append-nil lines))
touched_front (Err e) all lines part = part

-- a turn that ended a run, which began with it
pub walk_ends : {M : Type 0} (stopped : M → Option MemStop) (contents : M → List ℕ) (moved : M → List ℕ → M → Type 0) (start : Machine) (from to retired : ℕ) (ending : Ending) (first last end : M) (lines : List ℕ) → moved end [] end → retired ≡ retired_after (Some ending) to → moved last lines end → IsPrefix lines (touched_lines (plain start to).state) → (to < retired → IsInstruction stopped contents moved start to last end) → from ≡ to → first ≡ last → HasTrail stopped contents moved start from retired first end
walk_ends {M} stopped contents moved start from to retired ending first last end lines still count led part step same here =
    elim (retired_or_not ending to) [
      | inl none ↦ record {
        count = 0;
        counted = omega (arith, same, none, count);
        last = last;
        trail = here;
        lines = lines;
        rest = led;
        unretired = subst (λ (n : ℕ). IsPrefix lines (touched_lines (plain start n).state)) (sym (count ∙ none)) part;
      }
      | inr more ↦
          let one : retired ≡ to + 1 = count ∙ more in
          record {
            count = 1;
            counted = omega (arith, same, one);
            last = end;
            trail = (last, here, subst (λ (n : ℕ). IsInstruction stopped contents moved start n last end) (sym (add-zero from ∙ same)) (step (omega (arith, one))));
            lines = [];
            rest = still;
            unretired = (touched_lines (plain start retired).state, refl);
          }
    ]
