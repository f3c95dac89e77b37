-- What calls make of the lines outside, one after another.
use Rattle.std.proofs.Common.{◌≡◌, inl, inr, ℕ, ◌<◌, ◌≤◌, List, [], ◌++◌, Option, Some, None, refl, ap, sym, ◌∙◌, subst, arith, append_assoc}
use Rattle.std.proofs.lemmas.List.{append-nil}
use Rattle.std.proofs.lemmas.List.Elements.{Contains-append_cases}
use Rattle.sec_base.specs.declared.counter.Counter.{Counter}
use Rattle.sec_base.specs.declared.message.Message.{Message}
use Rattle.sec_base.specs.declared.stop.MemStop.{MemStop}
use Rattle.sec_base.specs.declared.stop.MemStop.TheVariants.{Tampered, Spent, NoMemory}
use Rattle.sec_base.specs.Geometry.{GeometryView, line_count}
use Rattle.bus_model.specs.Access.{Access}
use Rattle.bus_model.specs.BusHistory.{BusHistory}
use Rattle.tag_engine.specs.TagEngine.{TagEngineView}
use Rattle.checked_bus.specs.Makes.{MakesAccesses}
use Rattle.checked_bus.specs.Steps.{unwritten_in}
use Rattle.page_reencrypt.specs.SealedLines.{SealedLinesView, IsLineOf, Moves, used}
use Rattle.page_reencrypt.specs.Stops.{lasting_stop}
use Rattle.checked_bus.proofs.Makes.{accesses_stopped}
use Rattle.checked_bus.proofs.Steps.{moves_not as step_not, moves_on as step_on}
use Rattle.page_reencrypt.proofs.MadeAccesses.{made_not, made_on}
use Rattle.page_reencrypt.proofs.Stops.{going_not_tampered}

-- a stop that does not last leaves no message unwritten
going_written : (stopped : Option MemStop) → lasting_stop stopped ≡ None → unwritten_in stopped ≤ 0
going_written None going = omega arith
going_written (Some (Spent page)) going = omega arith
going_written (Some (Tampered place)) going = absurd (cc)
going_written (Some NoMemory) going = absurd (cc)

module _ {B T : Type 0} (history : B → BusHistory) (bus_moved : B → List Access → B → Type 0) (tags : TagEngineView T → Message → List ℕ) where
  pub moves_not : (allowed : ℕ → Type 0) → ((bus : B) → bus_moved bus [] bus) → (lines : SealedLinesView B T) →
      Moves history bus_moved tags allowed lines lines
  moves_not allowed bus_unmoved lines = record {
    trace = λ going.
        made_not bus_moved (tags lines.engine) bus_unmoved lines.bus lines.engine lines.stopped (λ place is. going_not_tampered lines.stopped place going is);
    step = step_not (history lines.bus) lines.engine;
    key = refl;
    limit = refl;
    entries = [];
    used_more = sym (append-nil (used lines));
    entries_allowed = λ line counter listed. absurd (omega (arith, listed.1));
    idle = λ stop is. refl;
    accounted = λ account. account;
  }

  -- The lines of a memory are the same after its calls.
  pub own_moves_after : (first second third : SealedLinesView B T) → Moves history bus_moved tags (IsLineOf first) first second →
      Moves history bus_moved tags (IsLineOf second) second third → Moves history bus_moved tags (IsLineOf first) second third
  own_moves_after first second third a b =
      subst (λ (geometry : GeometryView). Moves history bus_moved tags (λ line. line < line_count geometry) second third) a.step.geometry b

  module _ (tags_stay : (engine engine' : TagEngineView T) → engine'.geometry ≡ engine.geometry → engine'.tagger ≡ engine.tagger → tags engine' ≡ tags engine)
      (bus_moved_on : (first second third : B) (before after : List Access) → bus_moved first before second → bus_moved second after third → bus_moved first (before ++ after) third) where
    -- Where the first call left a stop that lasts, the second did nothing.
    made_both : (allowed : ℕ → Type 0) (first second third : SealedLinesView B T) → Moves history bus_moved tags allowed first second →
        Moves history bus_moved tags allowed second third → lasting_stop first.stopped ≡ None → (lasting : Option MemStop) → lasting_stop second.stopped ≡ lasting →
        MakesAccesses bus_moved (tags first.engine) first.bus first.engine third.bus third.engine third.stopped
    made_both allowed first second third a b going None goes_on =
        made_on bus_moved (tags first.engine) bus_moved_on first.bus second.bus third.bus first.engine second.engine third.engine third.stopped
        a.step.geometry b.step.evidence
        (accesses_stopped bus_moved (tags first.engine) first.bus second.bus first.engine second.engine second.stopped None
        (going_written second.stopped goes_on) (λ place is. absurd (cc)) (a.trace going))
        (subst (λ (tag_of : Message → List ℕ). MakesAccesses bus_moved tag_of second.bus second.engine third.bus third.engine third.stopped)
        (tags_stay first.engine second.engine a.step.geometry a.step.tagger) (b.trace goes_on))
    made_both allowed first second third a b going (Some stop) lasts =
        subst (λ (lines : SealedLinesView B T). MakesAccesses bus_moved (tags first.engine) first.bus first.engine lines.bus lines.engine lines.stopped)
        (sym (b.idle stop lasts)) (a.trace going)

    pub own_moves_on : (first second third : SealedLinesView B T) → Moves history bus_moved tags (IsLineOf first) first second →
        Moves history bus_moved tags (IsLineOf second) second third → Moves history bus_moved tags (IsLineOf first) first third
    own_moves_on first second third a later =
        let b = own_moves_after first second third a later in
        record {
          trace = λ going. made_both (IsLineOf first) first second third a b going (lasting_stop second.stopped) refl;
          step = step_on (history first.bus) (history second.bus) (history third.bus) first.engine second.engine third.engine a.step b.step;
          key = b.key ∙ a.key;
          limit = b.limit ∙ a.limit;
          entries = a.entries ++ b.entries;
          used_more = b.used_more ∙ ap (λ (entries : List (ℕ × Counter)). entries ++ b.entries) a.used_more ∙ append_assoc (used first) a.entries b.entries;
          entries_allowed = λ line counter listed.
              elim (Contains-append_cases a.entries b.entries (line, counter) listed) [
                | inl early ↦ a.entries_allowed line counter early
                | inr late ↦ b.entries_allowed line counter late
              ];
          idle = λ stop is.
              let same : second ≡ first = a.idle stop is in
              b.idle stop (ap (λ (lines : SealedLinesView B T). lasting_stop lines.stopped) same ∙ is) ∙ same;
          accounted = λ account. b.accounted (a.accounted account);
        }
