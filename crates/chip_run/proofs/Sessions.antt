-- A session's turns, and what it comes to.
use Rattle.std.proofs.Common.{◌≡◌, ◌⊎◌, inl, inr, ℕ, List, [], ◌++◌, Option, Some, None, Result, Ok, Err, IfSome, OnOk, IfErr, refl, sym, ap, ◌∙◌, subst, append-nil}
use Rattle.std.specs.Result.{result_err}
use Rattle.sha2.specs.Sha256.{sha256}
use Rattle.sec_base.specs.Sink.{SinkState}
use Rattle.sec_base.specs.declared.ending.Ending.{Ending}
use Rattle.sec_base.specs.declared.stop.MemStop.{MemStop}
use Rattle.bus_model.specs.Access.{Access, CameBy}
use Rattle.bus_model.specs.BusHistory.{BusHistory}
use Rattle.tag_engine.specs.TagEngine.{tags_of}
use Rattle.checked_bus.proofs.Makes.{same_tags}
use Rattle.rv32_core.specs.State.{CoreView}
use Rattle.rv32_core.specs.TouchedLines.{AreTouched}
use Rattle.rv32_run.specs.Execution.{IsMemoryEnding, stop_ending}
use Rattle.rv32_run.specs.ExecutionView.{ExecutionView}
use Rattle.rv32_run.specs.Progress.{PrintsAndEnds, PrintsAndGoes, Semantics, SinkEnds}
use Rattle.rv32_run.proofs.Progress.{goes_on, goes_to_end}
use Rattle.secure_memory.specs.Moving.{moved_on, unmoved}
use Rattle.secure_memory.specs.SecureRam.{SecureRamView, stopped}
use Rattle.chip_run.specs.Report.{ReportTerms, signed_report}
use Rattle.chip_run.specs.Run.{KeepsAccesses, Terms}
use Rattle.chip_run.specs.Running.{HandsOut, HasRun, HasRunTo, HasStored, protected_by}
use Rattle.chip_run.specs.Session.{CameTo, ComesTo, HasPrinted, HasStopped, PrintsOn, SessionView, SinkTakes}
use Rattle.chip_run.specs.declared.record.RunRecord.{RunRecord}
use Rattle.chip_run.proofs.Closing.{ends_as_stop}
use Rattle.chip_run.proofs.Outcomes.{storing_stopped}
use Rattle.chip_run.proofs.Ran.{ran, ran_accesses, stored_accesses, stored_memory}
use Rattle.chip_run.proofs.Runs.{by_memory, stopped_sink}

-- How storing the program went

-- a memory stopped as its last call answered
pub stopped_as : {A : Type 0} (result : Result A MemStop) (stop : Option MemStop) → OnOk result (stop ≡ None) → IfErr result (λ refusal. stop ≡ Some refusal) → stop ≡ result_err result
stopped_as (Ok x) stop going stops = going
stopped_as (Err refusal) stop going stops = stops

-- what holds where it went well
pub stored_well : {A : Type 0} (result : Result A MemStop) (Q : Type 0) → result_err result ≡ None → OnOk result Q → Q
stored_well (Ok x) Q well holds = holds
stored_well (Err refusal) Q well holds = absurd (cc)

-- then all lines were touched
pub stored_whole : {A : Type 0} (result : Result A MemStop) (all lines : List ℕ) → AreTouched result all lines → result_err result ≡ None → lines ≡ all
stored_whole (Ok x) all lines touched well = touched
stored_whole (Err refusal) all lines touched well = absurd (cc)

-- Where a run ended, the sink took what that says
pub sink_ends : (before result : Option Ending) (ending : Ending) (out out' : SinkState) (printed : List ℕ) → before ≡ None → result ≡ Some ending → SinkTakes before result out printed out' → SinkEnds out printed ending out'
sink_ends None None ending out out' printed new is takes = absurd (cc)
sink_ends None (Some other) ending out out' printed new is takes =
    let same : other ≡ ending = cc in subst (λ (e : Ending). SinkEnds out printed e out') same takes
sink_ends (Some other) result ending out out' printed new is takes = absurd (cc)

module _ {B T : Type 0} (d n : T → List ℕ → List ℕ) (history : B → BusHistory) (bus_moved : B → List Access → B → Type 0) where
  -- a session that was booted

  pub came_to_begin : (bus : B) (tagger : T) (terms : Terms) (execution : ExecutionView CoreView (SecureRamView B T)) (kept : Option MemStop) → HasStored d n history bus_moved bus tagger terms execution.memory →
      stopped execution.memory ≡ kept → execution.retired ≡ 0 → (kept ≡ None → HasRun (λ core. core) d n history bus_moved bus tagger terms [] execution) → CameTo d n history bus_moved bus tagger terms [] execution kept None
  came_to_begin bus tagger terms execution None stored is none runs = runs refl
  came_to_begin bus tagger terms execution (Some stop) stored is none runs = (refl, record { stored = stored; stopped_so = is; none_retired = none })

  -- a turn after the last one
  pub turns_again : (out : SinkState) (now : SessionView B T) (ending : Ending) → now.ended ≡ Some ending → PrintsOn d n history bus_moved (Some ending) out out now now
  turns_again out now ending ended = record {
    printed = [];
    sink = subst (λ (e : Option Ending). SinkTakes e (Some ending) out [] out) (sym ended) (refl, refl);
    leads = λ bus tagger terms before has. subst (λ (printed : List ℕ). HasPrinted d n history bus_moved bus tagger terms printed now) (sym (append-nil before)) has;
  }

  module _ (report : ReportTerms) where
    abbrev session_of : ExecutionView CoreView (SecureRamView B T) → Option MemStop → Option Ending → SessionView B T
    session_of execution kept ended = record { execution = execution; report = report; kept = kept; ended = ended }

    -- one that answers a kept stop
    turns_kept : (out : SinkState) (now : ExecutionView CoreView (SecureRamView B T)) (stop : MemStop) →
        PrintsOn d n history bus_moved (Some (stop_ending stop)) out out (session_of now (Some stop) None) (session_of now (Some stop) (Some (stop_ending stop)))
    turns_kept out now stop = record {
      printed = [];
      sink = stopped_sink out (stop_ending stop) stop refl;
      leads = λ bus tagger terms before has.
          subst (λ (printed : List ℕ). HasPrinted d n history bus_moved bus tagger terms printed (session_of now (Some stop) (Some (stop_ending stop)))) (sym (append-nil before)) (record {
            image = has.image;
            input = has.input;
            setup = has.setup;
            terms_are = has.terms_are;
            report_is = has.report_is;
            honest = has.honest;
            taken = has.taken;
            came_to = (has.came_to.0, has.came_to.1, refl);
          });
    }

    pub turns_stopped : (out : SinkState) (now : ExecutionView CoreView (SecureRamView B T)) (kept : Option MemStop) (ended : Option Ending) (stop : MemStop) (ending : Ending) → kept ≡ Some stop → ended ≡ None →
        ending ≡ stop_ending stop → PrintsOn d n history bus_moved (Some ending) out out (session_of now kept ended) (session_of now kept (Some ending))
    turns_stopped out now kept ended stop ending kept_is new is = rw (kept_is, new, is) (turns_kept out now stop)

    module _ (bus_unmoved : (b : B) → bus_moved b [] b)
        (bus_moved_on : (a b c : B) (before after : List Access) → bus_moved a before b → bus_moved b after c → bus_moved a (before ++ after) c) where
      abbrev means : Semantics CoreView (SecureRamView B T)
      means = protected_by (λ core. core) d n history bus_moved

      -- one that goes on
      turns_on : (out out' : SinkState) (now next : ExecutionView CoreView (SecureRamView B T)) → PrintsAndGoes means out out' now next →
          PrintsOn d n history bus_moved None out out' (session_of now None None) (session_of next None None)
      turns_on out out' now next went = record {
        printed = went.printed;
        sink = went.sink;
        leads = λ bus tagger terms before has. record {
          image = has.image;
          input = has.input;
          setup = has.setup;
          terms_are = has.terms_are;
          report_is = has.report_is;
          honest = has.honest;
          taken = went.digest before has.taken;
          came_to = record {
            first = has.came_to.first;
            begun = has.came_to.begun;
            goes = goes_on means (λ m. unmoved history bus_moved (tags_of d n) bus_unmoved m)
                (λ a b c xs ys first second. moved_on history bus_moved (tags_of d n) (same_tags d n) bus_moved_on a b c xs ys first second)
                has.came_to.first now next before went.printed has.came_to.goes went.goes;
          };
        };
      }

      -- the last one, or all up to the last one
      turns_to_end : (out out' : SinkState) (now next : ExecutionView CoreView (SecureRamView B T)) (ending : Ending) → PrintsAndEnds means ending out out' now next →
          PrintsOn d n history bus_moved (Some ending) out out' (session_of now None None) (session_of next None (Some ending))
      turns_to_end out out' now next ending went = record {
        printed = went.printed;
        sink = went.sink;
        leads = λ bus tagger terms before has. record {
          image = has.image;
          input = has.input;
          setup = has.setup;
          terms_are = has.terms_are;
          report_is = has.report_is;
          honest = has.honest;
          taken = went.digest before has.taken;
          came_to = record {
            first = has.came_to.first;
            begun = has.came_to.begun;
            ended = goes_to_end means (λ m. unmoved history bus_moved (tags_of d n) bus_unmoved m)
                (λ a b c xs ys first second. moved_on history bus_moved (tags_of d n) (same_tags d n) bus_moved_on a b c xs ys first second)
                has.came_to.first now next before went.printed ending has.came_to.goes went.ended;
          };
        };
      }

      -- either
      pub turns_or_ends : (out out' : SinkState) (now next : ExecutionView CoreView (SecureRamView B T)) (kept : Option MemStop) (ended result : Option Ending) → kept ≡ None → ended ≡ None →
          (result ≡ None → PrintsAndGoes means out out' now next) → IfSome result (λ ending. PrintsAndEnds means ending out out' now next) →
          PrintsOn d n history bus_moved result out out' (session_of now kept ended) (session_of next kept result)
      turns_or_ends out out' now next (Some stop) ended result none new goes ends = absurd (cc)
      turns_or_ends out out' now next None (Some ending) result none new goes ends = absurd (cc)
      turns_or_ends out out' now next None None None none new goes ends = turns_on out out' now next (goes refl)
      turns_or_ends out out' now next None None (Some ending) none new goes ends = turns_to_end out out' now next ending ends

  module _ (bus_unmoved : (b : B) → bus_moved b [] b)
      (bus_moved_on : (a b c : B) (before after : List Access) → bus_moved a before b → bus_moved b after c → bus_moved a (before ++ after) c) where
    -- What it comes to

    abbrev HasAnswered : B → T → Terms → List ℕ → ExecutionView CoreView (SecureRamView B T) → Ending → Type 0
    HasAnswered bus tagger terms printed execution ending = HasRunTo (λ core. core) d n history bus_moved bus tagger terms printed ending execution
        ⊎ ((printed ≡ []) × (stop : MemStop) × HasStopped d n history bus_moved bus tagger terms stop execution × (ending ≡ stop_ending stop))

    answered : (bus : B) (tagger : T) (terms : Terms) (printed : List ℕ) (execution : ExecutionView CoreView (SecureRamView B T)) (kept : Option MemStop) (ended : Option Ending) (ending : Ending) →
        ended ≡ Some ending → CameTo d n history bus_moved bus tagger terms printed execution kept ended → HasAnswered bus tagger terms printed execution ending
    answered bus tagger terms printed execution kept None ending is came = absurd (cc)
    answered bus tagger terms printed execution None (Some other) ending is came =
        let same : other ≡ ending = cc in
        inl (subst (λ (e : Ending). HasRunTo (λ core. core) d n history bus_moved bus tagger terms printed e execution) same came)
    answered bus tagger terms printed execution (Some stop) (Some other) ending is came =
        let same : ending ≡ other = cc in
        inr (came.0, stop, came.1, same ∙ came.2)

    module _ (bus : B) (tagger : T) (terms : Terms) (printed : List ℕ) (session : SessionView B T) (has : HasPrinted d n history bus_moved bus tagger terms printed session)
        (closed : B) (run : RunRecord) (ended : session.ended ≡ Some run.ending) (out : HandsOut d n history session.execution.memory closed run) (retired : run.retired ≡ session.execution.retired) where
      came : HasAnswered bus tagger terms printed session.execution run.ending
      came = answered bus tagger terms printed session.execution session.kept session.ended run.ending ended has.came_to

      pub comes_to : run.report ≡ signed_report terms.report (sha256 printed) run.retired run.ending → ComesTo terms printed (history bus) (history closed) run
      comes_to signed = elim came [
        | inl went ↦ record {
          ran = ran d n history bus_moved bus_moved_on bus tagger terms (λ core. core) bus_unmoved printed run.ending session.execution closed run went out retired refl has.honest;
          report = signed;
        }
        | inr (none, stop, stops, is) ↦
            subst (λ (bytes : List ℕ). ComesTo terms bytes (history bus) (history closed) run) (sym none)
            (storing_stopped terms (history bus) (history closed) run has.image.entry has.image.size has.image.segments has.input stop
            (ap (λ (t : Terms). t.start) has.terms_are)
            (stored_memory d n history bus_moved bus_moved_on bus tagger terms stops.stored.lines session.execution.memory session.execution.memory closed run stops.stored stops.stored.stored out has.honest
            (ends_as_stop (stopped session.execution.memory) stop run.ending stops.stopped_so is))
            (retired ∙ stops.none_retired) is
            (subst (λ (bytes : List ℕ). run.report ≡ signed_report terms.report (sha256 bytes) run.retired run.ending) none signed))
      ]

      pub comes_with : ((old new : B) (accesses : List Access) → bus_moved old accesses new → CameBy (history old) accesses (history new)) →
          (accesses : List Access) × bus_moved bus accesses closed × KeepsAccesses terms (history closed) accesses run
      comes_with told = elim came [
        | inl went ↦
            ran_accesses d n history bus_moved bus_moved_on bus tagger terms (λ core. core) bus_unmoved printed run.ending session.execution closed run went out retired refl told
        | inr (none, stop, stops, is) ↦
            stored_accesses d n history bus_moved bus_moved_on bus tagger terms session.execution.memory closed run stops.stored out
            (ends_as_stop (stopped session.execution.memory) stop run.ending stops.stopped_so is) (retired ∙ stops.none_retired) (subst IsMemoryEnding (sym is) (by_memory stop))
      ]
