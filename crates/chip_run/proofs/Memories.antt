-- What a run hands out of its memory, from one that was booted to one that is given up.
use Rattle.std.proofs.Common.{◌≡◌, ◌≢◌, inl, ℕ, ◌^◌, ◌<◌, List, [], ◌++◌, length, Option, Some, None, IfSome, Contains, refl, sym, ap, ◌∙◌, subst, arith}
use Rattle.sec_base.specs.Count.{RoseBy}
use Rattle.sec_base.specs.Evidence.{IsEvidence}
use Rattle.sec_base.specs.Geometry.{GeometryView, IsNode, line_count}
use Rattle.sec_base.specs.LastMessage.{data_pairs, last_at, last_node}
use Rattle.sec_base.specs.declared.counter.Counter.{Counter}
use Rattle.sec_base.specs.declared.ending.Ending.{Ending}
use Rattle.sec_base.specs.declared.ending.Ending.TheVariants.{NoMemory}
use Rattle.sec_base.specs.declared.evidence.Evidence.{Evidence}
use Rattle.sec_base.specs.declared.message.Message.{Message}
use Rattle.sec_base.specs.declared.place.Place.{Place}
use Rattle.sec_base.specs.declared.place.Place.TheVariants.{Line as line_place, Node}
use Rattle.sec_base.specs.declared.stop.MemStop.{MemStop}
use Rattle.sec_base.specs.declared.stop.MemStop.TheVariants.{Tampered, NoMemory as no_memory}
use Rattle.bus_model.specs.Access.{Access}
use Rattle.bus_model.specs.BusHistory.{BusHistory, NothingWritten}
use Rattle.tag_engine.specs.Tag.{engine_tag}
use Rattle.tag_engine.specs.TagEngine.{tags_of}
use Rattle.rv32_run.specs.Execution.{CarriesEnding, IsMemoryEnding}
use Rattle.checked_bus.specs.Steps.{IsAccounted}
use Rattle.pad_stream.specs.PadBlocks.{ShareNoBlock}
use Rattle.pad_stream.specs.Pads.{of_lines}
use Rattle.bonsai_tree.specs.Tree.{NodesAreMade, UnmadeAreUnread}
use Rattle.page_reencrypt.specs.Contents.{AreSuccessive, AreWithin, HoldsSealed, NodesSay, contents_of}
use Rattle.page_reencrypt.specs.SealedLines.{AccountsForAll, AreNew, AreProtected, CountersRise, IsLineOf, IsQuiet, Moves, SealedLinesView, contents, enc_key, evidence, geometry, lines_of, made, used}
use Rattle.cache_set.specs.declared.way.Way.{Way}
use Rattle.line_cache.specs.LineCache.{contents_over}
use Rattle.chip_run.specs.Run.{KeepsAccesses, Terms, basis_of}
use Rattle.chip_run.specs.declared.record.RunRecord.{RunRecord}
use Rattle.bonsai_tree.proofs.MadeSlots.{slots_none}
use Rattle.chip_run.proofs.Ends.{OfMemory}
use Rattle.chip_run.proofs.Pieces.{none_retired}

-- The false answers are accounted for as it begins

none_shown : (evidence : Option Evidence) (P : Evidence → Type 0) → evidence ≡ None → IfSome evidence P
none_shown evidence P none = subst (λ (e : Option Evidence). IfSome e P) (sym none) tt

begins_accounted : (tag_of : Message → List ℕ) (used : List (ℕ × Counter)) (made : List Message) (history : BusHistory) (stopped : Option MemStop) (evidence : Option Evidence) →
    history.lies ≡ 0 → evidence ≡ None → ((place : Place) → stopped ≢ Some (Tampered place)) → IsAccounted tag_of used made history stopped evidence
begins_accounted tag_of used made history stopped evidence none quiet untampered = record {
  account = record {
    answers = λ _. inl (record { lies = none; untampered = untampered });
    shown = λ shown is. absurd (cc);
  };
  genuine = none_shown evidence (IsEvidence tag_of made) quiet;
}

-- A run that found no memory to begin with

nothing_within : (lines limit : ℕ) → AreWithin lines limit []
nothing_within lines limit = record { limited = λ line counter inside listed. absurd (omega (arith, listed.1)) }

nothing_counted : AreSuccessive []
nothing_counted = record { each = λ at line counter there. absurd (cc) }

nothing_sealed : (tag_of : Message → List ℕ) (geometry : GeometryView) (bus : BusHistory) → bus.geometry ≡ geometry → NothingWritten bus →
    HoldsSealed tag_of (line_count geometry) [] [] bus.written
nothing_sealed tag_of geometry bus as_many empty = record {
  holds = λ line inside. inl (empty.zeros (line_place line) (subst (λ (l : GeometryView). line < line_count l) (sym as_many) inside));
}

no_nodes : (geometry : GeometryView) (bus : BusHistory) → bus.geometry ≡ geometry → NothingWritten bus → NodesAreMade geometry [] bus.written
no_nodes geometry bus as_many empty = record {
  holds = λ level index inside. inl (empty.zeros (Node level index) (subst (λ (l : GeometryView). IsNode l level index) (sym as_many) inside));
}

nothing_paired : (lines : ℕ) → data_pairs [] ≡ of_lines lines []
unfolding data_pairs last_at
nothing_paired lines = refl

nothing_risen : (geometry : GeometryView) (limit : ℕ) → CountersRise geometry limit [] (Some no_memory)
nothing_risen geometry limit = record {
  successive = nothing_counted;
  within = nothing_within (line_count geometry) limit;
  paged = λ going. absurd (cc);
  spent = λ page is. absurd (cc);
}

nothing_said : (tag_of : Message → List ℕ) (geometry : GeometryView) → NodesSay tag_of geometry [] []
nothing_said tag_of geometry = record {
  slots = slots_none tag_of geometry;
  blocks = record { said = λ page line block listed of_page. absurd (omega (arith, listed.1)) };
}

-- a run's record by its fields
abbrev run_of : ℕ → Ending → Option Evidence → List Message → List (ℕ × Counter) → Option (List ℕ) → RunRecord
run_of retired ending evidence made used report =
    record { retired = retired; ending = ending; evidence = evidence; made = made; used = used; report = report }

pub no_memory_run : (terms : Terms) (bus : BusHistory) (run : RunRecord) → bus.geometry ≡ terms.geometry → bus.lies ≡ 0 → NothingWritten bus →
    run.ending ≡ NoMemory → run.made ≡ [] → run.used ≡ [] → run.evidence ≡ None → OfMemory terms bus bus run
no_memory_run terms bus run as_many honest empty ended none_made none_used none =
    let same : run_of run.retired NoMemory None [] [] run.report ≡ run_of run.retired run.ending run.evidence run.made run.used run.report =
    rw (ended, none, none_made, none_used) refl in
    subst (λ (r : RunRecord). OfMemory terms bus bus r) same (record {
      stopped = Some no_memory;
      carries = refl;
      inside = λ line counter listed. absurd (omega (arith, listed.1));
      paired = nothing_paired (line_count terms.geometry);
      sealed = nothing_sealed terms.tag_of terms.geometry bus as_many empty;
      nodes = no_nodes terms.geometry bus as_many empty;
      holds_last = λ some. absurd (some refl);
      nodes_hold_last = λ some. absurd (some refl);
      rise = λ quiet. nothing_risen terms.geometry terms.page_limit;
      made_nodes = λ quiet. nothing_said terms.tag_of terms.geometry;
      few = omega arith;
      apart = λ quiet. record { apart = λ first second line other counter later block another here there low high same. absurd (cc) };
      accounted = begins_accounted terms.tag_of [] [] bus (Some no_memory) None honest refl (λ place is. cc);
      reads = λ place. omega arith;
      unread = λ quiet level index none. refl;
    })

-- it made no access
pub no_accesses : (terms : Terms) (bus : BusHistory) (run : RunRecord) → run.retired ≡ 0 → run.ending ≡ NoMemory → run.made ≡ [] → run.evidence ≡ None →
    KeepsAccesses terms bus [] run
no_accesses terms bus run retired ended none_made none = record {
  written = [];
  unwritten = [];
  made = none_made;
  writes = refl;
  few = omega arith;
  inside = tt;
  shown = λ evidence is. absurd (cc);
  tampered = λ place is. absurd (cc);
  by_instruction = λ quiet. none_retired (basis_of terms) bus [] run.made run.retired run.ending [] retired (subst IsMemoryEnding (sym ended) tt)
      (record { says = λ at line counter cipher begun below. let none = ap length none_made in absurd (omega (arith, below, none)) });
}

-- A run that had a memory

-- the lines outside, in other words for their parts
abbrev in_words : {B T : Type 0} → SealedLinesView B T → B → T → GeometryView → List ℕ → ℕ → List Message → Option Evidence → List (ℕ × Counter) → SealedLinesView B T
in_words lines bus tagger shape key limit made evidence used = record {
  bus = bus;
  engine = record { tagger = tagger; geometry = shape; made = made; evidence = evidence; room = lines.engine.room };
  pads = record { key = key; used = used; room = lines.pads.room };
  counters = lines.counters;
  limit = limit;
  stopped = lines.stopped;
}

same_lines : {B T : Type 0} (lines : SealedLinesView B T) (bus : B) (tagger : T) (shape : GeometryView) (key : List ℕ) (limit : ℕ) (made' : List Message) (evidence' : Option Evidence) (used' : List (ℕ × Counter)) →
    bus ≡ lines.bus → lines.engine.tagger ≡ tagger → geometry lines ≡ shape → enc_key lines ≡ key → lines.limit ≡ limit → made' ≡ made lines → evidence' ≡ evidence lines → used' ≡ used lines →
    lines ≡ in_words lines bus tagger shape key limit made' evidence' used'
same_lines lines bus tagger shape key limit made' evidence' used' bus_is tagger_is geometry_is key_is limit_is made_is evidence_is used_is =
    rw (bus_is, sym tagger_is, sym geometry_is, sym key_is, sym limit_is, made_is, evidence_is, used_is) refl

module _ {B T : Type 0} (d n : T → List ℕ → List ℕ) (history : B → BusHistory) (bus_moved : B → List Access → B → Type 0) (bus : B) (tagger : T) (terms : Terms)
    (booted lines : SealedLinesView B T) (new : AreNew bus tagger terms.enc_key terms.geometry terms.page_limit booted) (moves : Moves history bus_moved (tags_of d n) (IsLineOf booted) booted lines) where
  new_accounted : (history bus).lies ≡ 0 → AccountsForAll (tags_of d n) history booted
  new_accounted honest =
      begins_accounted (tags_of d n booted.engine) (used booted) (made booted) (history booted.bus) booted.stopped (evidence booted)
      (ap (λ (b : B). (history b).lies) new.bus_is ∙ honest) new.quiet (λ place is. let going = new.going in cc)

  pub run_reads : (place : Place) → RoseBy 0 ((history bus).reads place) ((history lines.bus).reads place)
  run_reads place =
      subst (λ (b : B). RoseBy 0 ((history b).reads place) ((history lines.bus).reads place)) new.bus_is (moves.step.reads place)

  -- what it encrypted is of lines of the memory
  run_inside : (line : ℕ) (counter : Counter) → Contains (used lines) (line, counter) → line < line_count terms.geometry
  run_inside line counter listed =
      let entries : used lines ≡ moves.entries = moves.used_more ∙ ap (λ (used : List (ℕ × Counter)). used ++ moves.entries) new.unused in
      subst (λ (geometry : GeometryView). line < line_count geometry) new.geometry_is
      (moves.entries_allowed line counter (subst (λ (used : List (ℕ × Counter)). Contains used (line, counter)) entries listed))

  pub run_memory : (closed : B) (run : RunRecord) → (history bus).lies ≡ 0 → AreProtected d n history lines →
      run.made ≡ made lines → run.used ≡ used lines → length run.used < 2 ^ 64 →
      (IsQuiet lines → ShareNoBlock (enc_key lines) run.used) → run.evidence ≡ evidence lines → closed ≡ lines.bus → CarriesEnding lines.stopped (Some run.ending) →
      (IsQuiet lines → UnmadeAreUnread (history booted.bus) (made lines) (history lines.bus)) →
      OfMemory (record terms { tag_of = engine_tag (d tagger) (n tagger) terms.geometry }) (history bus) (history closed) run
  run_memory closed run honest kept made_is used_is few apart evidence_is bus_is carries unread =
      let words = in_words lines closed tagger terms.geometry terms.enc_key terms.page_limit run.made run.evidence run.used in
      let same : lines ≡ words =
      same_lines lines closed tagger terms.geometry terms.enc_key terms.page_limit run.made run.evidence run.used bus_is (moves.step.tagger ∙ new.tagger_is) (moves.step.geometry ∙ new.geometry_is)
      (moves.key ∙ new.key_is) (moves.limit ∙ new.limit_is) made_is evidence_is used_is in
      let protected : AreProtected d n history words = subst (λ (m : SealedLinesView B T). AreProtected d n history m) same kept in
      record {
        stopped = lines.stopped;
        carries = carries;
        inside = λ line counter listed.
            run_inside line counter (subst (λ (used : List (ℕ × Counter)). Contains used (line, counter)) used_is listed);
        paired = protected.always.consistent.paired;
        sealed = protected.always.consistent.sealed;
        nodes = protected.always.consistent.nodes;
        holds_last = protected.always.holds_last;
        nodes_hold_last = protected.always.nodes_hold_last;
        rise = protected.rise;
        made_nodes = protected.nodes;
        few = few;
        apart = λ quiet. subst (λ (k : List ℕ). ShareNoBlock k run.used) (moves.key ∙ new.key_is) (apart (sym evidence_is ∙ quiet));
        accounted = subst (λ (m : SealedLinesView B T). AccountsForAll (tags_of d n) history m) same (moves.accounted (new_accounted honest));
        reads = λ place. subst (λ (b : B). RoseBy 0 ((history bus).reads place) ((history b).reads place)) (sym bus_is) (run_reads place);
        unread = λ quiet level index none.
            ap (λ (b : B). (history b).reads (Node level index)) bus_is
            ∙ unread (sym evidence_is ∙ quiet) level index (ap (last_node level index) (sym made_is) ∙ none)
            ∙ ap (λ (b : B). (history b).reads (Node level index)) new.bus_is;
      }

  -- all its bytes, in the words of the run
  pub run_contents : (run : RunRecord) (ways : List (List Way)) → run.made ≡ made lines →
      contents_over (contents_of terms.enc_key (line_count terms.geometry) run.made) (line_count terms.geometry) ways ≡ contents_over (contents lines) (lines_of lines) ways
  run_contents run ways made_is =
      ap (λ (made : List Message). contents_over (contents_of terms.enc_key (line_count terms.geometry) made) (line_count terms.geometry) ways) made_is
      ∙ ap (λ (geometry : GeometryView). contents_over (contents_of terms.enc_key (line_count geometry) (made lines)) (line_count geometry) ways) (sym (moves.step.geometry ∙ new.geometry_is))
      ∙ ap (λ (k : List ℕ). contents_over (contents_of k (line_count (geometry lines)) (made lines)) (lines_of lines) ways) (sym (moves.key ∙ new.key_is))
