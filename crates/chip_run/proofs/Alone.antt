-- What a side of a pair comes to alone.
use Rattle.std.proofs.Common.{◌≡◌, ◌≢◌, ◌+◌, ◌<◌, ℕ, List, length, take, Option, Some, None, refl, sym, ap, ◌∙◌, subst, arith}
use Rattle.std.proofs.Math.Seq.{take-append_seam}
use Rattle.sec_base.specs.Count.{more_by, top}
use Rattle.sec_base.specs.Prefix.{IsPrefix}
use Rattle.sec_base.specs.declared.ending.Ending.{Ending}
use Rattle.sec_base.specs.declared.ending.Ending.TheVariants.{Halted, NoMemory, OutOfSteps, Spent, Tampered, Trapped, WriteFault}
use Rattle.rv32_core.specs.Follows.{Follows}
use Rattle.rv32_core.specs.Machine.{Machine, plain}
use Rattle.rv32_core.proofs.Plain.{plain_ended, plain_trapped, whole_run}
use Rattle.rv32_run.specs.Execution.{IsMemoryEnding}
use Rattle.chip_run.specs.Pair.{ComesOut, IsCounted, IsStopOf, comes_alone}
use Rattle.chip_run.specs.declared.pair.SideStop.{SideStop}
use Rattle.chip_run.specs.declared.record.RunRecord.{RunRecord}

-- A run that neither the sink nor the memory stopped printed what the plain machine prints over the whole budget.
whole_printed : (start : Machine) (budget n : ℕ) (ending : Ending) (printed : List ℕ) → Follows start budget n ending printed → ending ≢ WriteFault →
    ¬ IsMemoryEnding ending → printed ≡ (plain start budget).output
whole_printed start budget n (Halted code) printed follows written going =
    follows.ends.1 ∙ ap (λ (machine : Machine). machine.output) (sym (plain_ended start n budget code follows.within follows.ends.0))
whole_printed start budget n (Trapped cause pc) printed follows written going =
    follows.ends.2 ∙ ap (λ (machine : Machine). machine.output)
    (sym (plain_trapped start n budget cause follows.within follows.ends.1.going follows.ends.1.trap))
whole_printed start budget n OutOfSteps printed follows written going =
    follows.ends.2 ∙ ap (λ (k : ℕ). (plain start k).output) follows.ends.0
whole_printed start budget n (Tampered place) printed follows written going = absurd (going tt)
whole_printed start budget n (Spent page) printed follows written going = absurd (going tt)
whole_printed start budget n WriteFault printed follows written going = absurd (written refl)
whole_printed start budget n NoMemory printed follows written going = absurd (going tt)

no_memory_ending : (ending other : Ending) → ¬ IsMemoryEnding ending → IsMemoryEnding other → ending ≢ other
no_memory_ending ending other going is same = going (subst IsMemoryEnding (sym same) is)

abbrev outcome_of : ℕ → List ℕ → Ending → ComesOut
outcome_of retired printed ending = record { retired = retired; printed = printed; ending = ending }

outcome : (retired retired' : ℕ) (printed printed' : List ℕ) (ending ending' : Ending) → retired ≡ retired' → printed ≡ printed' → ending ≡ ending' →
    outcome_of retired printed ending ≡ outcome_of retired' printed' ending'
outcome retired retired' printed printed' ending ending' count bytes ends = cc

-- a front part is as many bytes of the whole as it has
front_of : (printed whole : List ℕ) (count : ℕ) → IsPrefix printed whole → count ≡ more_by (length printed) 0 → count < top →
    take count whole ≡ printed
front_of printed whole count front is few =
    let all : count ≡ length printed = omega (arith, is, few) in
    ap (λ (n : ℕ). take n whole) all ∙ ap (take (length printed)) front.1 ∙ take-append_seam printed front.0

-- A run that follows the plain machine comes to what the program comes to alone, up to its stop.
pub alone_by : (start : Machine) (budget : ℕ) (stop : Option SideStop) (run : RunRecord) (printed : List ℕ) → IsStopOf stop run printed →
    Follows start budget run.retired run.ending printed → run.ending ≢ WriteFault → IsCounted stop →
    comes_alone start budget stop ≡ record { retired = run.retired; printed = printed; ending = run.ending }
alone_by start budget None run printed none follows written counted =
    let whole = whole_run start budget run.retired run.ending printed follows written (no_memory_ending run.ending NoMemory none tt)
    (λ place. no_memory_ending run.ending (Tampered place) none tt) (λ page. no_memory_ending run.ending (Spent page) none tt) in
    outcome _ _ _ _ _ _ (sym whole.retired_is) (sym (whole_printed start budget run.retired run.ending printed follows written none)) (sym whole.ending_is)
alone_by start budget (Some stop) run printed is follows written counted =
    outcome _ _ _ _ _ _ is.1
    (ap (λ (n : ℕ). take stop.printed (plain start (n + 1)).output) is.1
    ∙ front_of printed (plain start (run.retired + 1)).output stop.printed follows.ahead is.2 counted) (sym is.0)
