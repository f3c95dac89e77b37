-- Turns of an execution, one after another.
use Rattle.std.proofs.Common.{◌≡◌, ◌≢◌, ◌<◌, ◌≤◌, ℕ, zero, suc, ◌+◌, List, [], ◌++◌, length, Option, Some, None, IfSome, refl, sym, ap, ◌∙◌, subst, arith, add-zero, append_assoc, append-nil, inl, inr}
use Rattle.sec_base.specs.declared.ending.Ending.{Ending}
use Rattle.sec_base.specs.declared.stop.MemStop.{MemStop}
use Rattle.sec_base.specs.Count.{Rose}
use Rattle.sec_base.specs.Ram.{GoesOn}
use Rattle.sec_base.specs.Sink.{SinkState}
use Rattle.sec_base.proofs.Writes.{gains_both, written_after-nil}
use Rattle.sec_base.specs.Prefix.{IsPrefix}
use Rattle.sec_base.specs.declared.ending.Ending.TheVariants.{OutOfSteps, NoMemory}
use Rattle.rv32_core.proofs.Printed.{digests_both, digests_nothing}
use Rattle.rv32_core.specs.Effect.{next}
use Rattle.rv32_core.specs.Machine.{Machine, plain}
use Rattle.rv32_core.specs.Outcome.{prints_of}
use Rattle.rv32_core.specs.State.{state_of}
use Rattle.rv32_core.specs.TouchedLines.{touched_lines}
use Rattle.rv32_run.specs.Progress.{Semantics, GoesAlong, HasEnded, IsPause, PrintsAndEnds, PrintsAndGoes, SinkEnds, SinkGoes, StandsWith}
use Rattle.rv32_run.specs.Execution.{CarriesEnding, FollowsWith, IsStop, StandsAt, retired_after}
use Rattle.rv32_run.specs.ExecutionView.{ExecutionView}
use Rattle.rv32_run.specs.Trail.{HasTrail, IsIdle, IsInstruction, IsTrail, IsWalked}
use Rattle.rv32_run.proofs.Turns.{carries_on, follows_used, out_of_steps_alone, stands_here, stop_prints, stop_retires}
use Rattle.rv32_run.proofs.Trails.{retired_or_not, walk_ends}

module _ {M : Type 0} (stopped : M → Option MemStop) (contents : M → List ℕ) (moved : M → List ℕ → M → Type 0)
    (still : (m : M) → moved m [] m) (moved_on : (a b c : M) (xs ys : List ℕ) → moved a xs b → moved b ys c → moved a (xs ++ ys) c) (pauses : Type 0) (start : Machine) where
  -- nothing and pauses touch no line
  idle_touches_none : (old new : M) → IsIdle moved pauses old new → moved old [] new
  idle_touches_none old new (inl same) = subst (λ (m : M). moved old [] m) same (still old)
  idle_touches_none old new (inr paused) = paused.1

  -- one after another
  idle_on : (a b c : M) → IsIdle moved pauses a b → IsIdle moved pauses b c → IsIdle moved pauses a c
  idle_on a b c (inl first) second = subst (λ (m : M). IsIdle moved pauses m c) (sym first) second
  idle_on a b c (inr first) (inl second) = inr (first.0, subst (λ (m : M). moved a [] m) second first.1)
  idle_on a b c (inr first) (inr second) = inr (first.0, moved_on a b c [] [] first.1 second.1)

  -- calls that touched no line go before an instruction's own
  later_instruction : (n : ℕ) (last now new : M) → moved last [] now → IsInstruction stopped contents moved start n now new → IsInstruction stopped contents moved start n last new
  later_instruction n last now new idle step = record {
    lines = step.lines;
    led = moved_on last now new [] step.lines idle step.led;
    going = step.going;
    bytes = step.bytes;
    touched = step.touched;
  }

  -- some instructions more
  walked_by : (from to k : ℕ) (first now new : M) → IsWalked stopped contents moved pauses start from to first now → IsTrail stopped contents moved start to k now new →
      IsWalked stopped contents moved pauses start from (to + k) first new
  walked_by from to zero first now new walked trail = record {
    count = walked.count;
    counted = omega (arith, walked.counted);
    last = walked.last;
    trail = walked.trail;
    rest = subst (λ (m : M). IsIdle moved pauses walked.last m) trail walked.rest;
  }
  walked_by from to (suc k) first now new walked trail =
      let before = walked_by from to k first now trail.0 walked trail.1 in
      let at : from + before.count ≡ to + k = before.counted in
      record {
        count = suc before.count;
        counted = omega (arith, at);
        last = new;
        trail = (
          before.last,
          before.trail,
          later_instruction (from + before.count) before.last trail.0 new (idle_touches_none before.last trail.0 before.rest)
              (subst (λ (n : ℕ). IsInstruction stopped contents moved start n trail.0 new) (sym at) trail.2),
        );
        rest = inl refl;
      }

  pub walked_both : (from mid to : ℕ) (first now new : M) → IsWalked stopped contents moved pauses start from mid first now → IsWalked stopped contents moved pauses start mid to now new →
      IsWalked stopped contents moved pauses start from to first new
  walked_both from mid to first now new walked more =
      let on = walked_by from mid more.count first now more.last walked more.trail in
      record {
        count = on.count;
        counted = omega (arith, on.counted, more.counted);
        last = on.last;
        trail = on.trail;
        rest = idle_on on.last more.last new on.rest more.rest;
      }

  pub walked_to_end : (from mid to : ℕ) (first now end : M) → IsWalked stopped contents moved pauses start from mid first now → HasTrail stopped contents moved start mid to now end →
      HasTrail stopped contents moved start from to first end
  walked_to_end from mid to first now end walked more =
      let on = walked_by from mid more.count first now more.last walked more.trail in
      record {
        count = on.count;
        counted = omega (arith, on.counted, more.counted);
        last = on.last;
        trail = on.trail;
        lines = more.lines;
        rest = moved_on on.last more.last end [] more.lines (idle_touches_none on.last more.last on.rest) more.rest;
        unretired = more.unretired;
      }

pub sink_goes_not : (out : SinkState) → SinkGoes out [] out
sink_goes_not out = record { gained = sym (written_after-nil out.written); quiet = refl }

pub sink_goes_on : (out mid out' : SinkState) (first second : List ℕ) → SinkGoes out first mid → SinkGoes mid second out' → SinkGoes out (first ++ second) out'
sink_goes_on out mid out' first second so_far more = record {
  gained = gains_both first second out mid out' so_far.gained more.gained;
  quiet = more.quiet ∙ so_far.quiet;
}

pub sink_to_end : (out mid out' : SinkState) (first second : List ℕ) (ending : Ending) → SinkGoes out first mid → SinkEnds mid second ending out' →
    SinkEnds out (first ++ second) ending out'
sink_to_end out mid out' first second ending so_far more = record {
  gained = gains_both first second out mid out' so_far.gained more.gained;
  faults = omega (arith, so_far.quiet, more.faults);
  write_fault = λ is. subst (λ (n : ℕ). Rose n out'.faults) so_far.quiet (more.write_fault is);
  quiet = λ written. more.quiet written ∙ so_far.quiet;
}

pub sink_used_up : (out out' : SinkState) (printed : List ℕ) → SinkGoes out printed out' → SinkEnds out printed OutOfSteps out'
sink_used_up out out' printed goes = record {
  gained = goes.gained;
  faults = omega (arith, goes.quiet);
  write_fault = λ is. cc;
  quiet = λ written. goes.quiet;
}

pub if_some : {A : Type 0} (result : Option A) (Q : A → Type 0) → ((x : A) → result ≡ Some x → Q x) → IfSome result Q
if_some {A} None Q each = tt
if_some {A} (Some x) Q each = each x refl

module _ {P M : Type 0} (means : Semantics P M) (still : (m : M) → means.moved m [] m)
    (moved_on : (a b c : M) (xs ys : List ℕ) → means.moved a xs b → means.moved b ys c → means.moved a (xs ++ ys) c) where
  goes_both : (a b c : M) → GoesOn means.extent means.sound means.moved (λ lines. Unit {0}) a b → GoesOn means.extent means.sound means.moved (λ lines. Unit {0}) b c →
      GoesOn means.extent means.sound means.moved (λ lines. Unit {0}) a c
  goes_both a b c first second = record {
    extent = second.extent ∙ first.extent;
    lost = λ sound. first.lost (second.lost sound);
    lines = first.lines ++ second.lines;
    moved = moved_on a b c first.lines second.lines first.moved second.moved;
    touched = tt;
  }

  -- no turn
  pub goes_not : (execution : ExecutionView P M) → execution.retired ≤ execution.budget → means.stopped execution.memory ≡ None → GoesAlong means execution [] execution
  goes_not execution within going = record {
    budget = refl;
    within = within;
    going = going;
    moved = record { extent = refl; lost = λ sound. sound; lines = []; moved = still execution.memory; touched = tt };
    reaches = λ sound start before here. subst (λ (printed : List ℕ). StandsWith means start execution printed) (sym (append-nil before)) here;
    walked = λ sound start before here. record { count = 0; counted = omega arith; last = execution.memory; trail = refl; rest = inl refl };
  }

  -- turns and further ones
  pub goes_on : (a b c : ExecutionView P M) (first second : List ℕ) → GoesAlong means a first b → GoesAlong means b second c → GoesAlong means a (first ++ second) c
  goes_on a b c first second so_far more = record {
    budget = more.budget ∙ so_far.budget;
    within = more.within;
    going = more.going;
    moved = goes_both a.memory b.memory c.memory so_far.moved more.moved;
    reaches = λ sound start before here.
        subst (λ (printed : List ℕ). StandsWith means start c printed) (append_assoc before first second)
        (more.reaches sound start (before ++ first) (so_far.reaches (more.moved.lost sound) start before here));
    walked = λ sound start before here.
        walked_both means.stopped means.contents means.moved still moved_on means.pauses start a.retired b.retired c.retired a.memory b.memory c.memory
        (so_far.walked (more.moved.lost sound) start before here)
        (more.walked sound start (before ++ first) (so_far.reaches (more.moved.lost sound) start before here));
  }

  -- turns and one that ended the execution
  pub goes_to_end : (a b c : ExecutionView P M) (first second : List ℕ) (ending : Ending) → GoesAlong means a first b → HasEnded means b second ending c →
      HasEnded means a (first ++ second) ending c
  goes_to_end a b c first second ending so_far more = record {
    budget = more.budget ∙ so_far.budget;
    within = more.within;
    budget_used = more.budget_used;
    early = more.early;
    carries = more.carries;
    moved = goes_both a.memory b.memory c.memory so_far.moved more.moved;
    follows = λ sound start before here.
        subst (λ (printed : List ℕ). FollowsWith start c.budget c.retired ending (means.contents c.memory) printed) (append_assoc before first second)
        (more.follows sound start (before ++ first) (so_far.reaches (more.moved.lost sound) start before here));
    stands = λ sound start before here.
        more.stands sound start (before ++ first) (so_far.reaches (more.moved.lost sound) start before here);
    sink_stop = λ going sound start before here.
        more.sink_stop going sound start (before ++ first) (so_far.reaches (more.moved.lost sound) start before here);
    trail = λ sound start before here.
        walked_to_end means.stopped means.contents means.moved still moved_on means.pauses start a.retired b.retired c.retired a.memory b.memory c.memory
        (so_far.walked (more.moved.lost sound) start before here)
        (more.trail sound start (before ++ first) (so_far.reaches (more.moved.lost sound) start before here));
    none_left = λ between sound start before here.
        walked_both means.stopped means.contents means.moved still moved_on means.pauses start a.retired b.retired c.retired a.memory b.memory c.memory
        (so_far.walked (more.moved.lost sound) start before here)
        (more.none_left between sound start (before ++ first) (so_far.reaches (more.moved.lost sound) start before here));
  }

  -- with what was printed

  -- an execution that was seen in its parts
  pub prints_not : (out : SinkState) (from to : ExecutionView P M) → to ≡ from → from.retired ≤ from.budget → means.stopped from.memory ≡ None →
      PrintsAndGoes means out out from to
  prints_not out from to same within going = subst (λ (now : ExecutionView P M). PrintsAndGoes means out out from now) (sym same) (record {
    printed = [];
    digest = digests_nothing from.calls.taken;
    sink = sink_goes_not out;
    goes = goes_not from within going;
  })

  pub prints_on : (out mid out' : SinkState) (a b c : ExecutionView P M) → PrintsAndGoes means out mid a b → PrintsAndGoes means mid out' b c → PrintsAndGoes means out out' a c
  prints_on out mid out' a b c so_far more = record {
    printed = so_far.printed ++ more.printed;
    digest = digests_both so_far.printed more.printed a.calls.taken b.calls.taken c.calls.taken so_far.digest more.digest;
    sink = sink_goes_on out mid out' so_far.printed more.printed so_far.sink more.sink;
    goes = goes_on a b c so_far.printed more.printed so_far.goes more.goes;
  }

  pub prints_to_end : (ending : Ending) (out mid out' : SinkState) (a b c : ExecutionView P M) → PrintsAndGoes means out mid a b → PrintsAndEnds means ending mid out' b c → PrintsAndEnds means ending out out' a c
  prints_to_end ending out mid out' a b c so_far more = record {
    printed = so_far.printed ++ more.printed;
    digest = digests_both so_far.printed more.printed a.calls.taken b.calls.taken c.calls.taken so_far.digest more.digest;
    sink = sink_to_end out mid out' so_far.printed more.printed ending so_far.sink more.sink;
    ended = goes_to_end a b c so_far.printed more.printed ending so_far.goes more.ended;
  }

  -- a pause
  pub goes_paused : (from to : ExecutionView P M) → IsPause means from to → GoesAlong means from [] to
  goes_paused from to pause = record {
    budget = pause.budget;
    within = pause.within;
    going = pause.going;
    moved = record { extent = pause.extent; lost = pause.lost; lines = []; moved = pause.idle; touched = tt };
    reaches = λ sound start before here.
        subst (λ (printed : List ℕ). StandsWith means start to printed) (sym (append-nil before))
        (rw (pause.contents sound, pause.retired sound, pause.core sound, pause.services sound) here);
    walked = λ sound start before here.
        let same = pause.retired sound in
        record { count = 0; counted = omega (arith, same); last = from.memory; trail = refl; rest = inr (pause.allowed, pause.idle) };
  }

-- What calls make of a memory may be said more widely, with pauses.

module _ {M : Type 0} (stopped : M → Option MemStop) (contents : M → List ℕ) (moved wide : M → List ℕ → M → Type 0)
    (widen : (old new : M) (lines : List ℕ) → moved old lines new → wide old lines new) (pauses : Type 0) (start : Machine) where
  instruction_wider : (n : ℕ) (old new : M) → IsInstruction stopped contents moved start n old new → IsInstruction stopped contents wide start n old new
  instruction_wider n old new step = record {
    lines = step.lines;
    led = widen old new step.lines step.led;
    going = step.going;
    bytes = step.bytes;
    touched = step.touched;
  }

  trail_wider : (from n : ℕ) (first last : M) → IsTrail stopped contents moved start from n first last → IsTrail stopped contents wide start from n first last
  trail_wider from zero first last trail = trail
  trail_wider from (suc n) first last trail =
      (trail.0, trail_wider from n first trail.0 trail.1, instruction_wider (from + n) trail.0 last trail.2)

  idle_wider : (last now : M) → IsIdle moved pauses last now → IsIdle wide (Unit {0}) last now
  idle_wider last now (inl same) = inl same
  idle_wider last now (inr paused) = inr (tt, widen last now [] paused.1)

  walked_wider : (from to : ℕ) (first now : M) → IsWalked stopped contents moved pauses start from to first now → IsWalked stopped contents wide (Unit {0}) start from to first now
  walked_wider from to first now walked = record {
    count = walked.count;
    counted = walked.counted;
    last = walked.last;
    trail = trail_wider from walked.count first walked.last walked.trail;
    rest = idle_wider walked.last now walked.rest;
  }

  ended_wider : (from to : ℕ) (first end : M) → HasTrail stopped contents moved start from to first end → HasTrail stopped contents wide start from to first end
  ended_wider from to first end trail = record {
    count = trail.count;
    counted = trail.counted;
    last = trail.last;
    trail = trail_wider from trail.count first trail.last trail.trail;
    lines = trail.lines;
    rest = widen trail.last end trail.lines trail.rest;
    unretired = trail.unretired;
  }

abbrev pub wider : {P M : Type 0} → Semantics P M → (M → List ℕ → M → Type 0) → Semantics P M
wider means wide = record means { moved = wide; pauses = Unit {0} }

module _ {P M : Type 0} (means : Semantics P M) (wide : M → List ℕ → M → Type 0)
    (widen : (old new : M) (lines : List ℕ) → means.moved old lines new → wide old lines new) (from to : ExecutionView P M) (printed : List ℕ) where
  pub goes_wider : GoesAlong means from printed to → GoesAlong (wider means wide) from printed to
  goes_wider goes = record {
    budget = goes.budget;
    within = goes.within;
    going = goes.going;
    moved = record { extent = goes.moved.extent; lost = goes.moved.lost; lines = goes.moved.lines; moved = widen from.memory to.memory goes.moved.lines goes.moved.moved; touched = tt };
    reaches = goes.reaches;
    walked = λ sound start before here.
        walked_wider means.stopped means.contents means.moved wide widen means.pauses start from.retired to.retired from.memory to.memory (goes.walked sound start before here);
  }

  pub ends_wider : (ending : Ending) → HasEnded means from printed ending to → HasEnded (wider means wide) from printed ending to
  ends_wider ending ended = record {
    budget = ended.budget;
    within = ended.within;
    budget_used = ended.budget_used;
    early = ended.early;
    carries = ended.carries;
    moved = record { extent = ended.moved.extent; lost = ended.moved.lost; lines = ended.moved.lines; moved = widen from.memory to.memory ended.moved.lines ended.moved.moved; touched = tt };
    follows = ended.follows;
    stands = ended.stands;
    sink_stop = ended.sink_stop;
    trail = λ sound start before here.
        ended_wider means.stopped means.contents means.moved wide widen means.pauses start from.retired to.retired from.memory to.memory (ended.trail sound start before here);
    none_left = λ between sound start before here.
        walked_wider means.stopped means.contents means.moved wide widen means.pauses start from.retired to.retired from.memory to.memory (ended.none_left between sound start before here);
  }

-- One turn

pub turn_within : (ending : Ending) (n m budget : ℕ) → m ≡ retired_after (Some ending) n → n < budget → m ≤ budget
turn_within ending n m budget count below = elim (retired_or_not ending n) [
  | inl none ↦ omega (arith, none, count, below)
  | inr more ↦ omega (arith, more, count, below)
]

ended_early : (ending : Ending) (n m budget : ℕ) → m ≡ retired_after (Some ending) n → n < budget → IsStop ending → m < budget
ended_early ending n m budget count below stop =
    let none = stop_retires ending n stop in omega (arith, none, count, below)

module _ {P M : Type 0} (means : Semantics P M) (old new : ExecutionView P M) (budget : new.budget ≡ old.budget) (below : old.retired < old.budget) (printed : List ℕ)
    (moved : GoesOn means.extent means.sound means.moved (λ lines. means.sound new.memory → IsPrefix lines (touched_lines (state_of (means.core old.processor) old.calls.services (means.contents old.memory)))) old.memory new.memory)
    (instruction : old.retired < new.retired → means.sound new.memory → (start : Machine) (before : List ℕ) → StandsWith means start old before →
    IsInstruction means.stopped means.contents means.moved start old.retired old.memory new.memory)
    (still : (m : M) → means.moved m [] m) where
  idle_moved : GoesOn means.extent means.sound means.moved (λ lines. Unit {0}) old.memory new.memory
  idle_moved = record { extent = moved.extent; lost = moved.lost; lines = moved.lines; moved = moved.moved; touched = tt }

  -- an instruction was retired
  walked_once : new.retired ≡ old.retired + 1 → means.sound new.memory → (start : Machine) (before : List ℕ) → StandsWith means start old before →
      IsWalked means.stopped means.contents means.moved means.pauses start old.retired new.retired old.memory new.memory
  walked_once more sound start before here = record {
    count = 1;
    counted = omega (arith, more);
    last = new.memory;
    trail = (old.memory, refl, subst (λ (n : ℕ). IsInstruction means.stopped means.contents means.moved start n old.memory new.memory) (sym (add-zero old.retired)) (instruction (omega (arith, more)) sound start before here));
    rest = inl refl;
  }

  pub turn_goes : (turns : means.sound new.memory → (start : Machine) (before : List ℕ) → StandsWith means start old before → StandsWith means start new (before ++ printed)) →
      CarriesEnding (means.stopped new.memory) None → new.retired ≡ old.retired + 1 → GoesAlong means old printed new
  turn_goes turns mem more = record {
    budget = budget;
    within = omega (arith, more, below, budget);
    going = carries_on _ mem;
    moved = idle_moved;
    reaches = turns;
    walked = λ sound start before here. walked_once more sound start before here;
  }

  pub turn_ends : (ending : Ending) → (turns : means.sound new.memory → (start : Machine) (before : List ℕ) → StandsWith means start old before →
      FollowsWith start new.budget new.retired ending (means.contents new.memory) (before ++ printed)) →
      (means.sound new.memory → (start : Machine) (before : List ℕ) → StandsWith means start old before →
      StandsAt (plain start new.retired) (means.core new.processor) new.calls.services) →
      (means.stopped new.memory ≡ None → means.sound new.memory → ending ≡ NoMemory → 0 < length (prints_of (next (state_of (means.core old.processor) old.calls.services (means.contents old.memory))))) →
      CarriesEnding (means.stopped new.memory) (Some ending) → new.retired ≡ retired_after (Some ending) old.retired → ending ≢ OutOfSteps → HasEnded means old printed ending new
  turn_ends ending turns stands stops mem count steps =
      let below' : old.retired < new.budget = omega (arith, below, budget) in
      record {
        budget = budget;
        within = turn_within ending old.retired new.retired new.budget count below';
        budget_used = λ is. absurd (steps is);
        early = λ stop. ended_early ending old.retired new.retired new.budget count below' stop;
        carries = mem;
        moved = idle_moved;
        follows = turns;
        stands = stands;
        sink_stop = λ going sound start before here none.
            stop_prints start old.retired new.retired (state_of (means.core old.processor) old.calls.services (means.contents old.memory)) before here
            (count ∙ stop_retires ending old.retired (subst IsStop (sym none) tt)) (stops going sound none);
        trail = λ sound start before here.
            walk_ends means.stopped means.contents means.moved start old.retired old.retired new.retired ending old.memory old.memory new.memory moved.lines
            (still new.memory) count moved.moved
            (subst (λ (machine : Machine). IsPrefix moved.lines (touched_lines machine.state)) (sym here) (moved.touched sound))
            (λ more. instruction more sound start before here) refl refl;
        none_left = λ between sound start before here. elim between [
          | inl is ↦ absurd (steps is)
          | inr (code, is) ↦ walked_once (count ∙ ap (λ (e : Ending). retired_after (Some e) old.retired) is) sound start before here
        ];
      }

-- The budget was used up

uses_up : (stopped : Option MemStop) → stopped ≡ None → CarriesEnding stopped (Some OutOfSteps)
uses_up None going = out_of_steps_alone
uses_up (Some stop) going = cc

module _ {P M : Type 0} (means : Semantics P M) (still : (m : M) → means.moved m [] m) (from to : ExecutionView P M) where
  -- nothing and pauses touch no line
  untouched : (last : M) → IsIdle means.moved means.pauses last to.memory → means.moved last [] to.memory
  untouched last (inl same) = subst (λ (m : M). means.moved last [] m) same (still last)
  untouched last (inr paused) = paused.1

  pub goes_to_budget : (printed : List ℕ) → GoesAlong means from printed to → to.retired ≡ to.budget → HasEnded means from printed OutOfSteps to
  goes_to_budget printed so_far used = record {
    budget = so_far.budget;
    within = so_far.within;
    budget_used = λ is. used;
    early = λ stop. absurd stop;
    carries = uses_up (means.stopped to.memory) so_far.going;
    moved = so_far.moved;
    follows = λ sound start before here.
        follows_used start to.budget to.retired (state_of (means.core to.processor) to.calls.services (means.contents to.memory)) (before ++ printed)
        (so_far.reaches sound start before here) used;
    stands = λ sound start before here.
        stands_here (plain start to.retired) (means.core to.processor) to.calls.services (means.contents to.memory) (before ++ printed) to.retired
        (so_far.reaches sound start before here);
    sink_stop = λ going sound start before here none. cc;
    trail = λ sound start before here.
        let walked = so_far.walked sound start before here in
        record {
          count = walked.count;
          counted = walked.counted;
          last = walked.last;
          trail = walked.trail;
          lines = [];
          rest = untouched walked.last walked.rest;
          unretired = (touched_lines (plain start to.retired).state, refl);
        };
    none_left = λ between sound start before here. so_far.walked sound start before here;
  }

  pub prints_used_up : (out out' : SinkState) → PrintsAndGoes means out out' from to → to.retired ≡ to.budget → PrintsAndEnds means OutOfSteps out out' from to
  prints_used_up out out' so_far used = record {
    printed = so_far.printed;
    digest = so_far.digest;
    sink = sink_used_up out out' so_far.printed so_far.sink;
    ended = goes_to_budget so_far.printed so_far.goes used;
  }
