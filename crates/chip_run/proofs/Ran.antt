-- What a program came to that ran on protected memory, from how it began and what it hands out.
use Rattle.std.proofs.Common.{◌≡◌, inl, inr, ◌<◌, ◌*◌, ℕ, List, [], ◌++◌, length, map, replicate, Some, None, refl, sym, ap, ◌∙◌, subst, arith}
use Rattle.sec_base.specs.Geometry.{GeometryView, line_count}
use Rattle.sec_base.specs.Place.{IsPlace}
use Rattle.sec_base.specs.Prefix.{IsPrefix}
use Rattle.sec_base.specs.declared.ending.Ending.{Ending}
use Rattle.sec_base.specs.declared.message.Message.{Message}
use Rattle.sec_base.proofs.Results.{some_or_none, was_none}
use Rattle.bus_model.specs.Access.{Access, AreOf, CameBy}
use Rattle.bus_model.specs.BusHistory.{BusHistory}
use Rattle.tag_engine.specs.Tag.{engine_tag}
use Rattle.tag_engine.specs.TagEngine.{tags_of}
use Rattle.checked_bus.specs.Makes.{IsShownIn, MakesAccesses, access_of}
use Rattle.rv32_core.specs.Machine.{Machine, plain}
use Rattle.rv32_core.specs.State.{CoreView}
use Rattle.rv32_core.specs.TouchedLines.{touched_lines}
use Rattle.rv32_run.specs.Execution.{CarriesEnding, EndsBetween, FollowsWith, IsMemoryEnding}
use Rattle.rv32_run.specs.ExecutionView.{ExecutionView}
use Rattle.rv32_run.specs.Progress.{StandsWith}
use Rattle.rv32_run.specs.Trail.{IsIdle, IsTrail}
use Rattle.counter_cache.specs.Counters.{most_blocks}
use Rattle.line_cache.specs.LineCache.{most_held}
use Rattle.page_reencrypt.specs.SealedLines.{enc_key, geometry}
use Rattle.page_reencrypt.specs.Stops.{lasting_stop}
use Rattle.secure_memory.specs.SecureRam.{IsMoved, IsQuiet, SecureRamView, cached_pages, contents, evidence, held_lines, made, stopped}
use Rattle.secure_memory.specs.Moving.{moved_on}
use Rattle.checked_bus.proofs.Makes.{same_tags}
use Rattle.chip_run.specs.ByInstruction.{GoesByInstruction}
use Rattle.chip_run.specs.Run.{KeepsAccesses, RanProtected, Terms, basis_of}
use Rattle.chip_run.specs.Running.{HandsOut, HasRunTo, HasStored, protected_by}
use Rattle.chip_run.specs.declared.record.RunRecord.{RunRecord}
use Rattle.chip_run.proofs.Closing.{stopped_tampered, unwritten_most}
use Rattle.chip_run.proofs.Ends.{OfInstructions, OfMemory, ReadsTurnover, ran_protected}
use Rattle.chip_run.proofs.Memories.{run_contents, run_memory, run_reads}
use Rattle.chip_run.proofs.Pieces.{HasPieces, along, begins, between_or_not, encrypts_as, encrypts_front, goes_as, none_retired, with_none, with_rest}
use Rattle.chip_run.proofs.Runs.{opening_zeros, ran_instructions}
use Rattle.chip_run.proofs.Turned.{IsBooted, few_begun, run_turned}

-- the memory of a machine that was reached before its first instruction
begins_with : (start reached : Machine) (n : ℕ) → plain start n ≡ reached → n ≡ 0 → reached.state.memory ≡ start.state.memory
unfolding plain
begins_with start reached n here none =
    sym (ap (λ (machine : Machine). machine.state.memory) here) ∙ ap (λ (k : ℕ). (plain start k).state.memory) none

-- where there are no pauses, nothing came after the last instruction
unpaused : {M : Type 0} (last now : M) (moved : M → List ℕ → M → Type 0) → IsIdle moved ⊥ last now → last ≡ now
unpaused last now moved (inl same) = same
unpaused last now moved (inr paused) = absurd paused.0

module _ {B T : Type 0} (d n : T → List ℕ → List ℕ) (history : B → BusHistory) (bus_moved : B → List Access → B → Type 0)
    (bus_moved_on : (a b c : B) (before after : List Access) → bus_moved a before b → bus_moved b after c → bus_moved a (before ++ after) c) (bus : B) (tagger : T) (terms : Terms) where
  -- what a run hands out of a memory in which its program was stored
  pub stored_memory : (lines : List ℕ) (memory last : SecureRamView B T) (closed : B) (run : RunRecord) → (stored : HasStored d n history bus_moved bus tagger terms memory) →
      IsMoved history bus_moved (tags_of d n) stored.booted lines last → HandsOut d n history last closed run → (history bus).lies ≡ 0 →
      CarriesEnding (stopped last) (Some run.ending) → OfMemory terms (history bus) (history closed) run
  stored_memory lines memory last closed run stored moved out honest carries =
      subst (λ (tag_of : Message → List ℕ). OfMemory (record terms { tag_of = tag_of }) (history bus) (history closed) run) (sym stored.tags)
      (run_memory d n history bus_moved bus tagger terms stored.booted.lines last.lines stored.new moved.moves closed run honest out.protected
      out.made_is out.used_is out.few out.apart out.evidence_is out.bus_is carries moved.unread)

  -- the tags of its engine are those of the run
  tags_are : (memory : SecureRamView B T) (stored : HasStored d n history bus_moved bus tagger terms memory) → tags_of d n stored.booted.lines.engine ≡ terms.tag_of
  tags_are memory stored =
      ap (λ (t : T). engine_tag (d t) (n t) (geometry stored.booted.lines)) stored.new.tagger_is
      ∙ ap (λ (g : GeometryView). engine_tag (d tagger) (n tagger) g) stored.new.geometry_is ∙ sym stored.tags

  -- the accesses of its bus, and what the lists say of them
  kept_accesses : (memory last : SecureRamView B T) (closed : B) (run : RunRecord) (stored : HasStored d n history bus_moved bus tagger terms memory) →
      (makes : MakesAccesses bus_moved (tags_of d n stored.booted.lines.engine) stored.booted.lines.bus stored.booted.lines.engine last.lines.bus last.lines.engine last.lines.stopped) →
      HandsOut d n history last closed run → CarriesEnding (stopped last) (Some run.ending) →
      (run.evidence ≡ None → GoesByInstruction (basis_of terms) (history closed) makes.accesses run.made run.retired run.ending) →
      (accesses : List Access) × bus_moved bus accesses closed × KeepsAccesses terms (history closed) accesses run
  kept_accesses memory last closed run stored makes out carries reads =
      let new = stored.new in
      let has = makes.has in
      let accesses : List Access = makes.accesses in (
        accesses,
        subst (λ (b : B). bus_moved bus accesses b) (sym out.bus_is) (subst (λ (b : B). bus_moved b accesses last.lines.bus) new.bus_is makes.moved),
        record {
          written = has.written;
          unwritten = has.unwritten;
          made = out.made_is ∙ has.made ∙ ap (λ (made : List Message). made ++ (has.written ++ has.unwritten)) new.unmade;
          writes = has.writes ∙ ap (λ (tag_of : Message → List ℕ). map (access_of tag_of) has.written) (tags_are memory stored);
          few =
              let most = unwritten_most (stopped last) run.ending carries in
              let few = has.few in
              omega (arith, few, most);
          inside = subst (λ (g : GeometryView). AreOf (IsPlace g) accesses) new.geometry_is has.inside;
          shown = λ evidence is. subst (λ (made : List Message). IsShownIn (length made) accesses evidence) new.unmade
              (has.shown evidence new.quiet (sym out.evidence_is ∙ is));
          tampered = λ place is. has.tampered place (stopped_tampered (stopped last) run.ending place carries is);
          by_instruction = reads;
        },
      )

  -- before its program was stored it has zeros
  empty : (memory : SecureRamView B T) (stored : HasStored d n history bus_moved bus tagger terms memory) → contents stored.booted ≡ replicate (64 * line_count terms.geometry) 0
  empty memory stored =
      opening_zeros (enc_key stored.booted.lines) (geometry stored.booted.lines) terms.geometry (64 * line_count terms.geometry) (made stored.booted) stored.booted.ways
      stored.new.unmade stored.new.geometry_is (omega arith) stored.none_held

  -- of a memory that stopped before the first instruction
  pub stored_accesses : (memory : SecureRamView B T) (closed : B) (run : RunRecord) (stored : HasStored d n history bus_moved bus tagger terms memory) →
      HandsOut d n history memory closed run → CarriesEnding (stopped memory) (Some run.ending) → run.retired ≡ 0 → IsMemoryEnding run.ending →
      (accesses : List Access) × bus_moved bus accesses closed × KeepsAccesses terms (history closed) accesses run
  stored_accesses memory closed run stored out carries retired ended =
      let makes = stored.stored.moves.trace (ap lasting_stop stored.new.going) in
      kept_accesses memory memory closed run stored makes out carries (λ quiet. none_retired (basis_of terms) (history closed) makes.accesses run.made run.retired run.ending (contents memory) retired ended
      (encrypts_front stored.front (encrypts_as (sym stored.new.key_is) out.made_is (sym (ap length stored.new.unmade)) (ap length out.made_is) refl
      (sym (empty memory stored)) refl (stored.stored.encrypts (sym out.evidence_is ∙ quiet)))))

  -- few lines and counter blocks have copies in it, and what stands outside fits them
  stored_booted : (memory : SecureRamView B T) → HasStored d n history bus_moved bus tagger terms memory → IsBooted history bus_moved (tags_of d n) terms.geometry memory
  stored_booted memory stored =
      record {
        geometry_are = stored.stored.moves.step.geometry ∙ stored.new.geometry_is;
        few = few_begun most_held (held_lines stored.booted) (held_lines memory) (held_lines memory) stored.none_held stored.stored.few refl;
        few_blocks = few_begun most_blocks (cached_pages stored.booted) (cached_pages memory) (cached_pages memory) stored.none_cached stored.stored.copies.few_blocks refl;
        fits = stored.stored.fits (λ going quiet. stored.fits);
      }

  module _ {P : Type 0} (core : P → CoreView) (bus_unmoved : (b : B) → bus_moved b [] b) (printed : List ℕ) (ending : Ending)
      (now : ExecutionView P (SecureRamView B T)) (closed : B) (run : RunRecord) (went : HasRunTo core d n history bus_moved bus tagger terms printed ending now)
      (out : HandsOut d n history now.memory closed run) (retired_is : run.retired ≡ now.retired) (ending_is : run.ending ≡ ending) where
    -- what the run made of its memory
    ran_moved : IsMoved history bus_moved (tags_of d n) went.begun.stored.booted (went.begun.stored.lines ++ went.ended.moved.lines) now.memory
    ran_moved =
        moved_on history bus_moved (tags_of d n) (same_tags d n) bus_moved_on went.begun.stored.booted went.first.memory now.memory
        went.begun.stored.lines went.ended.moved.lines went.begun.stored.stored went.ended.moved.moved

    sound_to_end : run.evidence ≡ None → IsQuiet now.memory
    sound_to_end quiet = sym out.evidence_is ∙ quiet

    -- it began where the plain machine does
    begun_there : IsQuiet now.memory → StandsWith (protected_by core d n history bus_moved) terms.start went.first []
    begun_there sound = went.begun.stands (went.ended.moved.lost sound)

    -- and followed it
    follows : run.evidence ≡ None → FollowsWith terms.start terms.budget run.retired run.ending (contents now.memory) printed
    follows quiet =
        let sound = sound_to_end quiet in
        subst (λ (e : Ending). FollowsWith terms.start terms.budget run.retired e (contents now.memory) printed) (sym ending_is)
        (subst (λ (k : ℕ). FollowsWith terms.start terms.budget k ending (contents now.memory) printed) (sym retired_is)
        (subst (λ (b : ℕ). FollowsWith terms.start b now.retired ending (contents now.memory) printed) (went.ended.budget ∙ went.begun.budget)
        (went.ended.follows sound terms.start [] (begun_there sound))))

    -- it read what it turned over
    turned : run.evidence ≡ None → ReadsTurnover terms (history bus) (history closed) run
    turned quiet =
        let sound = sound_to_end quiet in
        let there = begun_there sound in
        run_turned history bus_moved (tags_of d n) bus_unmoved (same_tags d n) bus_moved_on terms.geometry went.first.retired now.retired run.retired terms.start bus closed
        went.first.memory now.memory went.ended.moved.lines went.ended.moved.moved went.begun.none_retired
        (begins_with terms.start _ went.first.retired there went.begun.none_retired)
        (stored_booted went.first.memory went.begun.stored) sound (went.ended.trail sound terms.start [] there) retired_is
        (run_reads d n history bus_moved bus tagger terms went.begun.stored.booted.lines went.first.memory.lines
        went.begun.stored.new went.begun.stored.stored.moves) out.bus_is

    instructions : OfInstructions terms printed (history bus) (history closed) run
    instructions =
        ran_instructions terms printed (history bus) (history closed) run now.retired now.budget ending now.memory.ways (contents now.memory) retired_is ending_is
        (went.ended.budget ∙ went.begun.budget)
        (run_contents d n history bus_moved bus tagger terms went.begun.stored.booted.lines now.memory.lines
        went.begun.stored.new ran_moved.moves run now.memory.ways out.made_is)
        out.few_held went.ended.within went.ended.budget_used went.ended.early follows turned

    carries : CarriesEnding (stopped now.memory) (Some run.ending)
    carries = subst (λ (e : Ending). CarriesEnding (stopped now.memory) (Some e)) (sym ending_is) went.ended.carries

    pub ran : (history bus).lies ≡ 0 → RanProtected (λ line. line < line_count terms.geometry) terms printed (history bus) (history closed) run
    ran honest =
        ran_protected terms printed (history bus) (history closed) run
        (stored_memory (went.begun.stored.lines ++ went.ended.moved.lines) went.first.memory now.memory closed run went.begun.stored ran_moved out honest carries) instructions

    -- What the run accessed: by instructions where there is no evidence
    module _ (told : (old new : B) (accesses : List Access) → bus_moved old accesses new → CameBy (history old) accesses (history new)) where
      -- what so many instructions accessed
      pieces : (count : ℕ) (last : SecureRamView B T) → IsQuiet now.memory → IsQuiet last →
          IsTrail (λ m. stopped m) (λ m. contents m) (λ a xs b. IsMoved history bus_moved (tags_of d n) a xs b) terms.start went.first.retired count went.first.memory last →
          HasPieces d n history bus_moved bus_moved_on told (basis_of terms) went.begun.stored.booted went.begun.stored.new.unmade count last
      pieces count last sound quiet trail =
          let stored = went.begun.stored in
          let first = went.first.memory in
          along d n history bus_moved bus_moved_on told (basis_of terms) stored.booted stored.new.unmade count first last
          (begins d n history bus_moved bus_moved_on told (basis_of terms) stored.booted stored.new.unmade first
          (subst (λ (lines : List ℕ). IsMoved history bus_moved (tags_of d n) stored.booted lines first) (stored.whole went.begun.going) stored.stored)
          stored.new.going went.begun.going (went.ended.moved.lost sound) stored.new.key_is (empty first stored)
          (begins_with terms.start _ went.first.retired (begun_there sound) went.begun.none_retired) (stored_booted first stored).few)
          quiet
          (subst (λ (from : ℕ). IsTrail (λ m. stopped m) (λ m. contents m) (λ a xs b. IsMoved history bus_moved (tags_of d n) a xs b) terms.start from count first last)
          went.begun.none_retired trail)

      -- by instructions, with none after the last one
      between_instructions : run.evidence ≡ None → EndsBetween run.ending → (accesses : List Access) × bus_moved bus accesses closed × KeepsAccesses terms (history closed) accesses run
      between_instructions quiet between =
          let stored = went.begun.stored in
          let sound = sound_to_end quiet in
          let walked = went.ended.none_left (subst EndsBetween ending_is between) sound terms.start [] (begun_there sound) in
          let all =
          pieces walked.count now.memory sound sound
          (subst (λ (m : SecureRamView B T). IsTrail (λ m. stopped m) (λ m. contents m) (λ a xs b. IsMoved history bus_moved (tags_of d n) a xs b) terms.start went.first.retired walked.count went.first.memory m)
          (unpaused walked.last now.memory (λ a xs b. IsMoved history bus_moved (tags_of d n) a xs b) walked.rest) walked.trail) in
          let count : run.retired ≡ walked.count = omega (arith, retired_is, went.begun.none_retired, walked.counted) in
          let whole = with_none d n history bus_moved bus_moved_on told (basis_of terms) stored.booted stored.new.unmade walked.count now.memory run.ending all in
          kept_accesses went.first.memory now.memory closed run stored whole.0 out carries (λ none. goes_as {accesses = whole.0.accesses} (ap history out.bus_is) out.made_is count whole.1)

      -- and with those of one that was not retired
      in_an_instruction : run.evidence ≡ None → ¬ EndsBetween run.ending → (accesses : List Access) × bus_moved bus accesses closed × KeepsAccesses terms (history closed) accesses run
      in_an_instruction quiet within =
          let stored = went.begun.stored in
          let sound = sound_to_end quiet in
          let trail = went.ended.trail sound terms.start [] (begun_there sound) in
          let all = pieces trail.count trail.last sound (was_none (evidence trail.last) (evidence now.memory) trail.rest.moves.step.evidence sound) trail.trail in
          let count : run.retired ≡ trail.count = omega (arith, retired_is, went.begun.none_retired, trail.counted) in
          let whole =
          with_rest d n history bus_moved bus_moved_on told (basis_of terms) stored.booted stored.new.unmade trail.count trail.last now.memory trail.lines run.ending all trail.rest
          (subst (λ (k : ℕ). IsPrefix trail.lines (touched_lines (plain terms.start k).state)) (sym retired_is ∙ count) trail.unretired) sound
          (λ going. (follows quiet).leaves going ∙ ap (λ (k : ℕ). (plain terms.start k).state.memory) count) within in
          kept_accesses went.first.memory now.memory closed run stored whole.0 out carries (λ none. goes_as {accesses = whole.0.accesses} (ap history out.bus_is) out.made_is count whole.1)

      by_instructions : run.evidence ≡ None → (accesses : List Access) × bus_moved bus accesses closed × KeepsAccesses terms (history closed) accesses run
      by_instructions quiet = elim (between_or_not run.ending) [
        | inl between ↦ between_instructions quiet between
        | inr within ↦ in_an_instruction quiet within
      ]

      pub ran_accesses : (accesses : List Access) × bus_moved bus accesses closed × KeepsAccesses terms (history closed) accesses run
      ran_accesses = elim (some_or_none run.evidence) [
        | inl quiet ↦ by_instructions quiet
        | inr shown ↦
            let makes = ran_moved.moves.trace (ap lasting_stop went.begun.stored.new.going) in
            kept_accesses went.first.memory now.memory closed run went.begun.stored makes out carries (λ quiet. let is = shown.1 in absurd (cc))
      ]
