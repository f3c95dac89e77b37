-- What a run's instructions came to, and what stands outside behind them.
use Rattle.std.proofs.Common.{◌≡◌, ◌≢◌, ◌+◌, ◌*◌, ◌<◌, ◌≤◌, ℕ, zero, suc, List, [], ◌++◌, length, replicate, None, Contains, refl, sym, ap, ◌∙◌, subst, arith}
use Rattle.std.proofs.lemmas.List.{replicate-append-replicate}
use Rattle.sec_base.specs.Count.{RoseBy}
use Rattle.sec_base.specs.Geometry.{GeometryView, line_count, memory_size, page_count, page_of}
use Rattle.sec_base.specs.LastMessage.{last_at, last_data}
use Rattle.sec_base.specs.Lines.{joined_lines, line_at}
use Rattle.sec_base.specs.Sink.{SinkState}
use Rattle.sec_base.proofs.JoinedLines.{line_at-joined_lines}
use Rattle.sec_base.proofs.Writes.{written_after-nil}
use Rattle.sec_base.specs.declared.ending.Ending.{Ending}
use Rattle.sec_base.specs.declared.ending.Ending.TheVariants.{OutOfSteps, WriteFault}
use Rattle.sec_base.specs.declared.message.Message.{Message}
use Rattle.sec_base.specs.declared.place.Place.{Place}
use Rattle.sec_base.specs.declared.place.Place.TheVariants.{Line, Node}
use Rattle.sec_base.specs.declared.segment.Segment.{Segment}
use Rattle.sec_base.specs.declared.stop.MemStop.{MemStop}
use Rattle.sec_base.specs.declared.stop.MemStop.TheVariants.{Tampered as tampered, Spent as spent, NoMemory as no_memory}
use Rattle.bus_model.specs.BusHistory.{BusHistory}
use Rattle.rv32_core.specs.Follows.{Follows}
use Rattle.rv32_core.specs.Machine.{Machine, opening_of, plain}
use Rattle.rv32_run.specs.Execution.{FollowsWith, IsMemoryEnding, IsStop, stop_ending}
use Rattle.rv32_run.specs.Progress.{SinkEnds}
use Rattle.rv32_run.proofs.Runs.{budget_ends, nothing_follows}
use Rattle.page_reencrypt.specs.Contents.{bytes_of, contents_of, line_bytes}
use Rattle.page_reencrypt.specs.LineLengths.{length-contents_of, length-line_bytes}
use Rattle.cache_set.specs.declared.way.Way.{Way}
use Rattle.cache_set.specs.Cache.{places}
use Rattle.line_cache.specs.LineCache.{contents_over}
use Rattle.line_cache.proofs.Lines.{over_nothing, over_unheld}
use Rattle.cache_set.proofs.Bringing.{unheld_none}
use Rattle.chip_run.specs.ByInstruction.{most_left}
use Rattle.chip_run.specs.Run.{Terms, IsWrittenOut}
use Rattle.chip_run.specs.declared.record.RunRecord.{RunRecord}
use Rattle.chip_run.proofs.Ends.{OfInstructions, ReadsTurnover}
use Rattle.chip_run.proofs.Turned.{nothing_turned}

-- A memory of which nothing was tagged has zeros

untagged : (made : List Message) (line : ℕ) → made ≡ [] → last_data line made ≡ None
unfolding last_at
untagged made line none = ap (last_data line) none

joined_zeros : (f : ℕ → List ℕ) (lines : ℕ) → ((line : ℕ) → f line ≡ replicate 64 0) → joined_lines f lines ≡ replicate (64 * lines) 0
unfolding joined_lines
joined_zeros f zero zeros = refl
joined_zeros f (suc lines) zeros =
    let more : 64 * lines + 64 ≡ 64 * suc lines = omega arith in
    ap (λ (front : List ℕ). front ++ f lines) (joined_zeros f lines zeros)
    ∙ ap (λ (back : List ℕ). replicate (64 * lines) 0 ++ back) (zeros lines)
    ∙ replicate-append-replicate (64 * lines) 64 0
    ∙ ap (λ (n : ℕ). replicate n 0) more

none_listed : (line : ℕ) → Contains [] line → ⊥
none_listed line there = omega (arith, there.1)

pub opening_zeros : (key : List ℕ) (geometry : GeometryView) (shape : GeometryView) (size : ℕ) (made : List Message) (ways : List (List Way)) → made ≡ [] → geometry ≡ shape → size ≡ memory_size shape → places ways ≡ [] →
    contents_over (contents_of key (line_count geometry) made) (line_count geometry) ways ≡ replicate size 0
opening_zeros key geometry shape size made ways none same as_large unheld =
    let long : 64 * line_count shape ≡ size = omega arith in
    over_nothing (contents_of key (line_count geometry) made) (line_count geometry) ways (length-contents_of key (line_count geometry) made)
    (λ line. unheld_none ways line (λ there. none_listed line (subst (λ (held : List ℕ). Contains held line) unheld there)))
    ∙ joined_zeros (line_bytes key made) (line_count geometry) (λ line. ap (bytes_of key line) (untagged made line none))
    ∙ ap (λ (n : GeometryView). replicate (64 * line_count n) 0) same ∙ ap (λ (n : ℕ). replicate n 0) long

-- All lines that are not held are written out where the memory as a whole is that of the messages with the held copies laid
-- over.
written_out : (key : List ℕ) (lines : ℕ) (made : List Message) (ways : List (List Way)) (memory : List ℕ) →
    contents_over (contents_of key lines made) lines ways ≡ memory → length (places ways) ≤ most_left → IsWrittenOut key lines made memory
written_out key lines made ways memory whole few = record {
  left = places ways;
  few = few;
  out = λ line inside free.
      sym (line_at-joined_lines (line_bytes key made) lines line (length-line_bytes key made) inside)
      ∙ sym (over_unheld (contents_of key lines made) lines ways line (length-contents_of key lines made) inside (unheld_none ways line free))
      ∙ ap (λ (bytes : List ℕ). line_at bytes line) whole;
}

-- A run that its memory stopped before the first instruction

no_fault : (stop : MemStop) → stop_ending stop ≢ WriteFault
no_fault (tampered place) is = cc
no_fault (spent page) is = cc
no_fault no_memory is = cc

no_end_of_steps : (stop : MemStop) → stop_ending stop ≢ OutOfSteps
no_end_of_steps (tampered place) is = cc
no_end_of_steps (spent page) is = cc
no_end_of_steps no_memory is = cc

pub by_memory : (stop : MemStop) → IsMemoryEnding (stop_ending stop)
by_memory (tampered place) = tt
by_memory (spent page) = tt
by_memory no_memory = tt

pub stopped_instructions : (terms : Terms) (before after : BusHistory) (run : RunRecord) (entry size : ℕ) (segments : List Segment) (input : List ℕ) (stop : MemStop) →
    terms.start ≡ opening_of entry size segments input → run.retired ≡ 0 → run.ending ≡ stop_ending stop →
    ((place : Place) → RoseBy 0 (before.reads place) (after.reads place)) → OfInstructions terms [] before after run
stopped_instructions terms before after run entry size segments input stop begins none ended reads =
    let stopped : IsMemoryEnding run.ending = subst IsMemoryEnding (sym ended) (by_memory stop) in
    record {
      budget = record {
        within = omega (arith, none);
        budget_used = λ is. absurd (no_end_of_steps stop (sym ended ∙ is));
        early = λ stops some. omega (arith, none, some);
      };
      follows = λ quiet.
          subst (λ (start : Machine). Follows start terms.budget run.retired run.ending []) (sym begins)
          (nothing_follows entry size segments input terms.budget run.retired stop run.ending none ended);
      cut_short = λ quiet is. absurd (no_fault stop (sym ended ∙ is));
      written_out = λ quiet going. absurd (going stopped);
      out_of_steps = λ quiet going. absurd (going stopped);
      turned = λ quiet. (
        nothing_turned (λ line. line) 129 terms.start (line_count terms.geometry) run.retired (λ line. before.reads (Line line)) (λ line. after.reads (Line line)) none
            (λ line. reads (Line line)),
        nothing_turned page_of 161 terms.start (page_count terms.geometry) run.retired (λ page. before.reads (Node 0 page)) (λ page. after.reads (Node 0 page)) none
            (λ page. reads (Node 0 page)),
      );
    }

pub stopped_sink : (out : SinkState) (ending : Ending) (stop : MemStop) → ending ≡ stop_ending stop → SinkEnds out [] ending out
stopped_sink out ending stop ended = record {
  gained = sym (written_after-nil out.written);
  faults = omega arith;
  write_fault = λ is. absurd (no_fault stop (sym ended ∙ is));
  quiet = λ written. refl;
}

-- A run of some instructions, which an execution that may do so many ended so
pub ran_instructions : (terms : Terms) (printed : List ℕ) (before after : BusHistory) (run : RunRecord) (finished allowance : ℕ) (ended : Ending) (ways : List (List Way)) (memory : List ℕ) →
    run.retired ≡ finished → run.ending ≡ ended → allowance ≡ terms.budget → contents_over (contents_of terms.enc_key (line_count terms.geometry) run.made) (line_count terms.geometry) ways ≡ memory →
    length (places ways) ≤ most_left → finished ≤ allowance → (ended ≡ OutOfSteps → finished ≡ allowance) → (IsStop ended → finished < allowance) →
    (run.evidence ≡ None → FollowsWith terms.start terms.budget run.retired run.ending memory printed) →
    (run.evidence ≡ None → ReadsTurnover terms before after run) → OfInstructions terms printed before after run
ran_instructions terms printed before after run finished allowance ended ways memory retired_is ending_is budget_is outside few within budget_used early follows turned =
    let in_time : IsStop run.ending → run.retired < terms.budget = λ stops. omega (arith, retired_is, budget_is, early (subst IsStop ending_is stops)) in
    record {
      budget = record {
        within = omega (arith, retired_is, budget_is, within);
        budget_used = λ is. retired_is ∙ budget_used (sym ending_is ∙ is) ∙ budget_is;
        early = λ stops some. in_time stops;
      };
      follows = λ quiet. (follows quiet).follows;
      cut_short = λ quiet. (follows quiet).cut_short;
      written_out = λ quiet going.
          written_out terms.enc_key (line_count terms.geometry) run.made ways (plain terms.start run.retired).state.memory
          (outside ∙ (follows quiet).leaves going) few;
      out_of_steps = λ quiet going.
          budget_ends terms.start terms.budget run.retired run.ending printed (follows quiet).follows in_time going;
      turned = turned;
    }
