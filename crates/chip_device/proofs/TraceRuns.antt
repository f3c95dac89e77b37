-- A run whose bus was recorded, and what its trace tells.
use Rattle.std.proofs.Common.{◌≡◌, ◌∙◌, ◌<◌, ◌^◌, ℕ, List, [], length, Option, Some, None, refl, sym, ap, subst, arith}
use Rattle.sec_base.specs.Geometry.{GeometryView}
use Rattle.attest_report.specs.ToldEnding.{ending_and_code}
use Rattle.bus_model.specs.Access.{Access, CameBy}
use Rattle.bus_model.specs.BusHistory.{BusHistory, new_history}
use Rattle.bus_model.proofs.Accesses.{all_geometry}
use Rattle.rv32_core.specs.Follows.{Follows}
use Rattle.bus_trace.specs.Entry.{AreEntries, accesses_of}
use Rattle.bus_trace.specs.RecordBus.{RecordBusView, Records}
use Rattle.bus_trace.proofs.Kept.{Answered, answered, makes_trace, verdict_is}
use Rattle.chip_run.specs.Run.{KeepsAccesses, RunsProtected, Terms}
use Rattle.chip_run.specs.declared.RunRecord.{RunRecord}
use Rattle.chip_device.specs.Buses.{IsSameKind, kind_told, run_history}
use Rattle.chip_device.specs.Printed.{gathered}
use Rattle.chip_device.specs.Traced.{IsTold, IsTraceOf, RunsTraced, trace_by}
use Rattle.chip_device.specs.declared.run_bus.RunBus.{RunBus}

-- what was gathered from nothing
gathered_is : (printed all : List ℕ) → Some printed ≡ Some all → all ≡ printed
gathered_is printed all same = cc (same)

module _ (terms : Terms) (run : RunRecord) (recorded : RecordBusView RunBus) (printed : List ℕ)
    (runs : RunsProtected terms (gathered []) (gathered printed) (new_history terms.geometry) (run_history recorded.bus) run)
    (came : CameBy (new_history terms.geometry) (accesses_of recorded.entries) (run_history recorded.bus))
    (keeps : KeepsAccesses terms (run_history recorded.bus) (accesses_of recorded.entries) run)
    (few : length recorded.entries < 2 ^ 64) (fits : AreEntries (run_history recorded.bus).geometry recorded.entries) where
  geometry_is : (run_history recorded.bus).geometry ≡ terms.geometry
  geometry_is =
      ap (λ (history : BusHistory). history.geometry) came
      ∙ all_geometry (accesses_of recorded.entries) (new_history terms.geometry)

  -- without evidence it follows what was printed
  follows_printed : run.evidence ≡ None → Follows terms.start terms.budget run.retired run.ending printed
  follows_printed none =
      subst (λ (bytes : List ℕ). Follows terms.start terms.budget run.retired run.ending bytes)
      (gathered_is printed runs.printed runs.sink.gained) (runs.ran.without_evidence none).plain.follows

  -- and the false answers are accounted for
  answers : run.evidence ≡ None → Answered recorded.entries run.ending
  answers none =
      answered terms.geometry recorded.entries (run_history recorded.bus) run.ending came (omega (arith, few))
      terms.tag_of run.used run.made (runs.ran.without_evidence none).bus.answers

  trace_is : (told : ℕ × ℕ) → ending_and_code run.ending ≡ Some told →
      IsTraceOf terms run recorded.bus printed
      (record { output = printed; ending = told.0; code = told.1; retired = run.retired; entries = recorded.entries })
  trace_is told is = record {
    came = came;
    keeps = keeps;
    output = refl;
    retired = refl;
    ending = is;
    in_form = record {
      ending = makes_trace run.ending told is;
      entries = subst (λ (shape : GeometryView). AreEntries shape recorded.entries) geometry_is fits;
    };
    follows = λ none. verdict_is terms.start terms.budget
        (record { output = printed; ending = told.0; code = told.1; retired = run.retired; entries = recorded.entries })
        run.ending is (follows_printed none) (answers none);
  }

  told_is : (told : Option (ℕ × ℕ)) → ending_and_code run.ending ≡ told →
      IsTold terms run recorded.bus printed (trace_by told run.retired printed recorded.entries)
  told_is None is = is
  told_is (Some told) is = trace_is told is

  runs_traced : RunsTraced terms run recorded.bus (trace_by (ending_and_code run.ending) run.retired printed recorded.entries)
  runs_traced = record {
    printed = printed;
    runs = runs;
    accesses = record { accesses = accesses_of recorded.entries; came = came; keeps = keeps };
    told = told_is (ending_and_code run.ending) refl;
  }

-- what a run tells whose bus was recorded from the start
pub traced : (terms : Terms) (run : RunRecord) (old : RunBus) (recorded : RecordBusView RunBus) (printed : List ℕ) (accesses : List Access) →
    run_history old ≡ new_history terms.geometry →
    RunsProtected terms (gathered []) (gathered printed) (new_history terms.geometry) (run_history recorded.bus) run →
    Records IsSameKind (record { bus = old; entries = [] }) accesses recorded →
    KeepsAccesses terms (run_history recorded.bus) accesses run →
    length recorded.entries < 2 ^ 64 → AreEntries (run_history recorded.bus).geometry recorded.entries →
    RunsTraced terms run recorded.bus (trace_by (ending_and_code run.ending) run.retired printed recorded.entries)
traced terms run old recorded printed accesses begins runs records keeps few fits =
    let kept : accesses ≡ accesses_of recorded.entries = sym records.kept in
    let came_new : CameBy (new_history terms.geometry) accesses (run_history recorded.bus) =
    subst (λ (history : BusHistory). CameBy history accesses (run_history recorded.bus)) begins (kind_told old recorded.bus accesses records.below) in
    let came : CameBy (new_history terms.geometry) (accesses_of recorded.entries) (run_history recorded.bus) =
    subst (λ (told : List Access). CameBy (new_history terms.geometry) told (run_history recorded.bus)) kept came_new in
    let still : KeepsAccesses terms (run_history recorded.bus) (accesses_of recorded.entries) run =
    subst (λ (told : List Access). KeepsAccesses terms (run_history recorded.bus) told run) kept keeps in
    runs_traced terms run recorded printed runs came still few fits
