-- What encrypting lines under the counter of a write makes of the memory outside: no line, one, and more after others.
use Rattle.std.proofs.Common.{◌≡◌, ◌≢◌, ◌⊎◌, inl, inr, ℕ, zero, suc, ◌+◌, ◌<◌, ◌≤◌, List, [], ◌∷◌, ◌++◌, length, map, Option, Some, None, Contains, refl, ap, sym, ◌∙◌, subst, arith, append_assoc, length-append}
use Rattle.std.proofs.lemmas.Bool.{cases_eq}
use Rattle.std.proofs.lemmas.List.{append-nil, length-map, map-append, take_all}
use Rattle.std.proofs.lemmas.List.Elements.{Contains-append_cases, Contains-append_left, Contains-append_right}
use Rattle.sec_base.specs.declared.counter.Counter.{Counter}
use Rattle.sec_base.specs.declared.message.Message.{Message}
use Rattle.sec_base.specs.declared.message.Message.TheVariants.{Line}
use Rattle.sec_base.specs.declared.place.Place.{Place}
use Rattle.sec_base.specs.declared.place.Place.TheVariants.{Line as line_place, Node as node_place}
use Rattle.sec_base.specs.declared.stop.MemStop.{MemStop}
use Rattle.sec_base.specs.declared.stop.MemStop.TheVariants.{Tampered, Spent, NoMemory}
use Rattle.sec_base.specs.Count.{Rose}
use Rattle.sec_base.specs.Geometry.{GeometryView, line_count}
use Rattle.sec_base.specs.LastMessage.{data_pairs, last_data, last_node}
use Rattle.sec_base.proofs.SamePlaces.{at_place-there}
use Rattle.sec_base.proofs.Results.{was_none}
use Rattle.bus_model.specs.Access.{Access}
use Rattle.bus_model.specs.BusHistory.{BusHistory, after_write}
use Rattle.tag_engine.specs.TagEngine.{TagEngineView, after_make, tags_of}
use Rattle.pad_stream.specs.Pad.{cipher_of}
use Rattle.pad_stream.specs.PadEngine.{PadEngineView, after_encrypt}
use Rattle.pad_stream.specs.Pads.{AreRising, IsBefore}
use Rattle.pad_stream.proofs.Enciphering.{length-cipher_of}
use Rattle.checked_bus.specs.Makes.{MakesAccesses}
use Rattle.checked_bus.specs.SealedLine.{sealed_line}
use Rattle.checked_bus.specs.Steps.{IsAccounted, Moves as StepMoves}
use Rattle.checked_bus.proofs.LineMessages.{last_data-same, last_data-other}
use Rattle.checked_bus.proofs.Steps.{data_pairs-append, moves_on as step_on}
use Rattle.checked_bus.proofs.TaggedWrites.{wrote_once}
use Rattle.page_reencrypt.specs.Contents.{HoldsLast, bytes_of, line_bytes}
use Rattle.page_reencrypt.specs.Consistency.{IsConsistent}
use Rattle.page_reencrypt.specs.Outside.{AreAccounted, AreConsistent, AreSealed, AreSealedInOrder, HasCounter, HaveLast, HaveRisen, LineWrite, MemoryTerms, OutsideView, ShowsLies, terms_of}
use Rattle.page_reencrypt.specs.SealedLines.{AreReread, IsBeside}
use Rattle.page_reencrypt.proofs.Consistency.{risen_more, unwritten_consistent, written_consistent, written_last}
use Rattle.page_reencrypt.proofs.MadeAccesses.{made_on}
use Rattle.page_reencrypt.proofs.Nodes.{last_node-line, node_there}
use Rattle.page_reencrypt.proofs.Stops.{other_stop}
use Rattle.page_reencrypt.proofs.Unmade.{same_consistent, same_tags}

-- A memory is seen alike before and after a call.
pub same_terms : {B T : Type 0} (history : B → BusHistory) (moved : B → List Access → B → Type 0) (d n : T → List ℕ → List ℕ) (old new : OutsideView B T) →
    new.engine.tagger ≡ old.engine.tagger → new.engine.geometry ≡ old.engine.geometry → terms_of history moved d n new ≡ terms_of history moved d n old
same_terms {B} {T} history moved d n old new tagger geometry =
    ap (λ (t : Message → List ℕ). let m : MemoryTerms B = record { history = history; moved = moved; tag_of = t; geometry = new.engine.geometry } in m)
    (same_tags d n old.engine new.engine tagger geometry)
    ∙ ap (λ (l : GeometryView). let m : MemoryTerms B = record { history = history; moved = moved; tag_of = tags_of d n old.engine; geometry = l } in m) geometry

-- Lines in a list

pub listed_not : {A : Type 0} (item : A) → Contains [] item → ⊥
listed_not item listed = omega (arith, listed.1)

pub listed_one : (line other : ℕ) → Contains (line ∷ []) other → line ≡ other
listed_one line other (zero, within, there) = there
listed_one line other (suc k, within, there) = absurd (omega (arith, within))

pub listed_or_not : (lines : List ℕ) (line : ℕ) → Contains lines line ⊎ ¬ Contains lines line
listed_or_not [] line = inr (listed_not line)
listed_or_not (first ∷ lines) line =
    elim (cases_eq first line) [
      | inl same ↦ inl (zero, omega arith, same)
      | inr differs ↦
          elim (listed_or_not lines line) [
            | inl listed ↦ inl (Contains-append_right (first ∷ []) lines line listed)
            | inr unlisted ↦
                inr (λ listed.
                elim (Contains-append_cases (first ∷ []) lines line listed) [
                  | inl here ↦ differs (listed_one first line here)
                  | inr there ↦ unlisted there
                ])
          ]
    ]

among_first : (lines more : List ℕ) (line : ℕ) → Contains (lines ++ more) line → ¬ Contains more line → Contains lines line
among_first lines more line listed not_late =
    elim (Contains-append_cases lines more line listed) [
      | inl early ↦ early
      | inr late ↦ absurd (not_late late)
    ]

-- the written line is not read
pub own_reread : (line : ℕ) (used : List (ℕ × Counter)) (old new : BusHistory) → AreReread line (line ∷ []) used old new
own_reread line used old new = λ other listed differs. absurd (differs (sym (listed_one line other listed)))

-- Messages and evidence

no_pairs : data_pairs [] ≡ []
unfolding data_pairs
no_pairs = refl

one_pair : (line : ℕ) (counter : Counter) (cipher : List ℕ) → data_pairs (Line line counter cipher ∷ []) ≡ (line, counter) ∷ []
unfolding data_pairs
one_pair line counter cipher = refl

module _ {B T : Type 0} (terms : MemoryTerms B) (write : LineWrite) where
  -- nothing was done but a read, or not even that
  pub only_read : (old new : OutsideView B T) (stop : Option MemStop) → MakesAccesses terms.moved terms.tag_of old.bus old.engine new.bus new.engine stop →
      StepMoves (terms.history old.bus) old.engine (terms.history new.bus) new.engine → new.engine.made ≡ old.engine.made →
      old.engine.room ≤ new.engine.room → new.pads ≡ old.pads → (terms.history new.bus).written ≡ (terms.history old.bus).written →
      ((level index : ℕ) → (terms.history new.bus).reads (node_place level index) ≡ (terms.history old.bus).reads (node_place level index)) →
      AreConsistent terms old → HaveRisen terms old → HaveLast terms old →
      (AreAccounted terms old None → AreAccounted terms new stop) → ShowsLies terms old new →
      ((place : Place) → stop ≡ Some (Tampered place) → IsBeside write.line place
      × (old.engine.evidence ≡ None → Rose (terms.history old.bus).lies (terms.history new.bus).lies)) →
      ((page : ℕ) → stop ≢ Some (Spent page)) → AreSealed terms write old [] new stop
  only_read old new stop trace moves made room pads written unread kept risen last accounted shows tampered unspent = record {
    trace = trace;
    step = record moves { more = []; made = made ∙ sym (append-nil old.engine.made) };
    nodes = record {
      reads = unread;
      written = λ level index. ap (λ (w : Place → List ℕ). w (node_place level index)) written;
      last = λ level index. ap (last_node level index) made;
    };
    key = ap (λ (p : PadEngineView). p.key) pads;
    entries = ap (λ (p : PadEngineView). p.used) pads ∙ sym (append-nil old.pads.used);
    pairs = no_pairs;
    as_many = refl;
    room = omega (arith, room);
    pads_room = omega (arith, ap (λ (p : PadEngineView). p.room) pads);
    consistent = subst (λ (p : PadEngineView). IsConsistent terms.tag_of terms.geometry (terms.history new.bus) new.engine.made p.used) (sym pads)
        (subst (λ (m : List Message). IsConsistent terms.tag_of terms.geometry (terms.history new.bus) m old.pads.used) (sym made)
        (same_consistent terms.tag_of terms.geometry (terms.history old.bus) (terms.history new.bus) old.engine.made old.pads.used kept moves.bus_geometry written));
    risen = λ quiet.
        subst (λ (p : PadEngineView). AreRising p.used) (sym pads) (risen (was_none old.engine.evidence new.engine.evidence moves.evidence quiet));
    holds_last = λ goes_on.
        subst (λ (m : List Message). HoldsLast terms.tag_of (line_count terms.geometry) m (terms.history new.bus).written) (sym made)
        (subst (HoldsLast terms.tag_of (line_count terms.geometry) old.engine.made) (sym written) last);
    untouched = λ other unlisted. ap (λ (w : Place → List ℕ). w (line_place other)) written;
    own = λ listed. absurd (listed_not write.line listed);
    own_bytes = λ listed. absurd (listed_not write.line listed);
    not_yet = λ unlisted. ap (last_data write.line) made;
    others = λ quiet other differs. ap (λ (m : List Message). line_bytes old.pads.key m other) made;
    accounted = accounted;
    shows = shows;
    lied = λ place is quiet. (tampered place is).1 quiet;
    tampered = λ place is. (tampered place is).0;
    unspent = unspent;
  }

  -- One line was sealed. With `plain` it is the written line with its new bytes, or another one with what it held.
  module _ (old new : OutsideView B T) (at : ℕ) (previous : Counter) (plain : List ℕ)
      (kept : AreConsistent terms old) (rose : HaveRisen terms old) (last : HaveLast terms old) (inside : at < line_count terms.geometry)
      (had : old.engine.evidence ≡ None → HasCounter old.pads.used at previous × IsBefore previous write.counter)
      (held : ((at ≡ write.line) × (plain ≡ write.bytes))
      ⊎ ((at ≢ write.line) × (old.engine.evidence ≡ None → plain ≡ line_bytes old.pads.key old.engine.made at)))
      (used : new.pads ≡ after_encrypt at write.counter old.pads)
      (made : new.engine ≡ after_make (Line at write.counter (cipher_of old.pads.key at write.counter plain)) old.engine)
      (undone : cipher_of old.pads.key at write.counter (cipher_of old.pads.key at write.counter plain) ≡ plain)
      (moves : StepMoves (terms.history old.bus) old.engine (terms.history new.bus) new.engine)
      (honest : (used more : List (ℕ × Counter)) →
      IsAccounted terms.tag_of used old.engine.made (terms.history old.bus) None old.engine.evidence →
      IsAccounted terms.tag_of more new.engine.made (terms.history new.bus) None new.engine.evidence) where
    abbrev cipher : List ℕ
    cipher = cipher_of old.pads.key at write.counter plain

    abbrev made_now : List Message
    made_now = old.engine.made ++ Line at write.counter cipher ∷ []

    abbrev used_now : List (ℕ × Counter)
    used_now = old.pads.used ++ (at, write.counter) ∷ []

    made_is : new.engine.made ≡ made_now
    made_is = ap (λ (e : TagEngineView T). e.made) made

    used_is : new.pads.used ≡ used_now
    used_is = ap (λ (p : PadEngineView). p.used) used

    abbrev step : StepMoves (terms.history old.bus) old.engine (terms.history new.bus) new.engine
    step = record moves { more = Line at write.counter cipher ∷ []; made = made_is }

    last_here : last_data at new.engine.made ≡ Some (write.counter, cipher)
    last_here = ap (last_data at) made_is ∙ last_data-same old.engine.made at write.counter cipher

    last_there : (other : ℕ) → other ≢ at → last_data other new.engine.made ≡ last_data other old.engine.made
    last_there other differs = ap (last_data other) made_is ∙ last_data-other old.engine.made at other write.counter cipher differs

    bytes_here : line_bytes old.pads.key new.engine.made at ≡ plain
    bytes_here = ap (bytes_of old.pads.key at) last_here ∙ undone

    own_last : at ≡ write.line → plain ≡ write.bytes →
        last_data write.line new.engine.made ≡ Some (write.counter, cipher_of old.pads.key write.line write.counter write.bytes)
    own_last same bytes =
        subst (λ (l : ℕ). last_data l new.engine.made ≡ Some (write.counter, cipher_of old.pads.key l write.counter write.bytes)) same
        (last_here ∙ ap (λ (xs : List ℕ). Some (write.counter, cipher_of old.pads.key at write.counter xs)) bytes)

    own : Contains (at ∷ []) write.line → last_data write.line new.engine.made ≡ Some (write.counter, cipher_of old.pads.key write.line write.counter write.bytes)
    own listed =
        elim held [
          | inl mine ↦ own_last mine.0 mine.1
          | inr other ↦ absurd (other.0 (listed_one at write.line listed))
        ]

    own_bytes : Contains (at ∷ []) write.line → line_bytes old.pads.key new.engine.made write.line ≡ write.bytes
    own_bytes listed =
        elim held [
          | inl mine ↦ ap (line_bytes old.pads.key new.engine.made) (sym mine.0) ∙ bytes_here ∙ mine.1
          | inr other ↦ absurd (other.0 (listed_one at write.line listed))
        ]

    not_yet : ¬ Contains (at ∷ []) write.line → last_data write.line new.engine.made ≡ last_data write.line old.engine.made
    not_yet unlisted = last_there write.line (λ same. unlisted (zero, omega arith, sym same))

    still_held : old.engine.evidence ≡ None → at ≢ write.line → line_bytes old.pads.key new.engine.made at ≡ line_bytes old.pads.key old.engine.made at
    still_held quiet differs =
        elim held [
          | inl mine ↦ absurd (differs mine.0)
          | inr other ↦ bytes_here ∙ other.1 quiet
        ]

    others : new.engine.evidence ≡ None → (other : ℕ) → other ≢ write.line →
        line_bytes old.pads.key new.engine.made other ≡ line_bytes old.pads.key old.engine.made other
    others quiet other differs =
        elim (cases_eq other at) [
          | inl same ↦
              let was : old.engine.evidence ≡ None = sym (ap (λ (e : TagEngineView T). e.evidence) made) ∙ quiet in
              subst (λ (l : ℕ). line_bytes old.pads.key new.engine.made l ≡ line_bytes old.pads.key old.engine.made l) (sym same)
              (still_held was (λ is. differs (same ∙ is)))
          | inr apart ↦ ap (bytes_of old.pads.key other) (last_there other apart)
        ]

    was_quiet : new.engine.evidence ≡ None → old.engine.evidence ≡ None
    was_quiet quiet = sym (ap (λ (e : TagEngineView T). e.evidence) made) ∙ quiet

    one_with : (stop : Option MemStop) → MakesAccesses terms.moved terms.tag_of old.bus old.engine new.bus new.engine stop →
        (terms.history new.bus).reads ≡ (terms.history old.bus).reads →
        ((level index : ℕ) → (terms.history new.bus).written (node_place level index) ≡ (terms.history old.bus).written (node_place level index)) →
        ((other : ℕ) → other ≢ at → (terms.history new.bus).written (line_place other) ≡ (terms.history old.bus).written (line_place other)) →
        IsConsistent terms.tag_of terms.geometry (terms.history new.bus) made_now used_now →
        (stop ≢ Some NoMemory → HoldsLast terms.tag_of (line_count terms.geometry) made_now (terms.history new.bus).written) →
        ((place : Place) → stop ≢ Some (Tampered place)) → ((page : ℕ) → stop ≢ Some (Spent page)) → AreSealed terms write old (at ∷ []) new stop
    one_with stop trace reads nodes lines fits lasts untampered unspent = record {
      trace = trace;
      step = step;
      nodes = record {
        reads = λ level index. ap (λ (f : Place → ℕ). f (node_place level index)) reads;
        written = nodes;
        last = λ level index. ap (last_node level index) made_is ∙ last_node-line old.engine.made at write.counter cipher level index;
      };
      key = ap (λ (p : PadEngineView). p.key) used;
      entries = used_is;
      pairs = one_pair at write.counter cipher;
      as_many = refl;
      room = omega (arith, ap (λ (e : TagEngineView T). e.room) made);
      pads_room = omega (arith, ap (λ (p : PadEngineView). p.room) used);
      consistent = subst (λ (m : List Message). IsConsistent terms.tag_of terms.geometry (terms.history new.bus) m new.pads.used) (sym made_is)
          (subst (λ (u : List (ℕ × Counter)). IsConsistent terms.tag_of terms.geometry (terms.history new.bus) made_now u) (sym used_is) fits);
      risen = λ quiet.
          let had_it = had (was_quiet quiet) in
          subst AreRising (sym used_is) (risen_more old.pads.used at previous write.counter (rose (was_quiet quiet)) had_it.0 had_it.1);
      holds_last = λ goes_on.
          subst (λ (m : List Message). HoldsLast terms.tag_of (line_count terms.geometry) m (terms.history new.bus).written) (sym made_is) (lasts goes_on);
      untouched = λ other unlisted. lines other (λ same. unlisted (zero, omega arith, sym same));
      own = own;
      own_bytes = own_bytes;
      not_yet = not_yet;
      others = others;
      accounted = λ was.
          other_stop terms.tag_of new.pads.used new.engine.made (terms.history new.bus) None stop new.engine.evidence (λ place is. cc) untampered
          (honest old.pads.used new.pads.used was);
      shows = λ quiet. inl (ap (λ (e : TagEngineView T). e.evidence) made ∙ quiet);
      lied = λ place is quiet. absurd (untampered place is);
      tampered = λ place is. absurd (untampered place is);
      unspent = unspent;
    }

    -- it was written to its place
    pub one_sealed : MakesAccesses terms.moved terms.tag_of old.bus old.engine new.bus new.engine None →
        terms.history new.bus ≡ after_write (line_place at) (sealed_line terms.tag_of at write.counter cipher) (terms.history old.bus) →
        AreSealed terms write old (at ∷ []) new None
    one_sealed trace wrote =
        let once = wrote_once (line_place at) (sealed_line terms.tag_of at write.counter cipher) (terms.history old.bus) (terms.history new.bus) wrote in
        let long : length cipher ≡ 64 = length-cipher_of old.pads.key at write.counter plain in
        one_with None trace once.reads
        (λ level index. ap (λ (w : Place → List ℕ). w (node_place level index)) once.written
        ∙ node_there at (sealed_line terms.tag_of at write.counter cipher) (terms.history old.bus).written level index)
        (λ other differs.
        let apart : line_place other ≢ line_place at = λ same. differs (cc) in
        ap (λ (w : Place → List ℕ). w (line_place other)) once.written
        ∙ at_place-there (line_place at) (line_place other) (sealed_line terms.tag_of at write.counter cipher) (terms.history old.bus).written apart)
        (written_consistent terms.tag_of terms.geometry (terms.history old.bus) old.engine.made old.pads.used at write.counter cipher
        kept inside long (terms.history new.bus) moves.bus_geometry once.written)
        (λ goes_on. subst (HoldsLast terms.tag_of (line_count terms.geometry) made_now) (sym once.written)
        (written_last terms.tag_of terms.geometry (terms.history old.bus) old.engine.made old.pads.used at write.counter cipher
        kept inside long last))
        (λ place is. cc) (λ page is. cc)

    -- there was no memory to write it
    pub one_unwritten : MakesAccesses terms.moved terms.tag_of old.bus old.engine new.bus new.engine (Some NoMemory) →
        terms.history new.bus ≡ terms.history old.bus → AreSealed terms write old (at ∷ []) new (Some NoMemory)
    one_unwritten trace same =
        let long : length cipher ≡ 64 = length-cipher_of old.pads.key at write.counter plain in
        one_with (Some NoMemory) trace (ap (λ (t : BusHistory). t.reads) same) (λ level index. ap (λ (t : BusHistory). t.written (node_place level index)) same)
        (λ other differs. ap (λ (t : BusHistory). t.written (line_place other)) same)
        (unwritten_consistent terms.tag_of terms.geometry (terms.history old.bus) old.engine.made old.pads.used at write.counter cipher
        kept inside long (terms.history new.bus) moves.bus_geometry (ap (λ (t : BusHistory). t.written) same))
        (λ goes_on. absurd (goes_on refl)) (λ place is. cc) (λ page is. cc)

  -- as many messages were made as lines were encrypted
  pub made_as_used : (old : OutsideView B T) (lines : List ℕ) (new : OutsideView B T) (stop : Option MemStop) → AreSealed terms write old lines new stop →
      length new.engine.made + length old.pads.used ≡ length old.engine.made + length new.pads.used
  made_as_used old lines new stop is =
      let made = ap length is.step.made ∙ length-append old.engine.made is.step.more in
      let used = ap length is.entries ∙ length-append old.pads.used (map (λ line. (line, write.counter)) lines) in
      let mapped = length-map {A = ℕ} {B = ℕ × Counter} in
      omega (arith, made, used, mapped, is.as_many)

  -- all of these lines were sealed
  pub all_in_order : (old : OutsideView B T) (lines : List ℕ) (new : OutsideView B T) (stop : Option MemStop) →
      AreSealed terms write old lines new stop →
      (new.engine.evidence ≡ None → AreReread write.line lines old.pads.used (terms.history old.bus) (terms.history new.bus)) →
      ((place : Place) → stop ≢ Some (Tampered place)) →
      AreSealedInOrder terms write old lines new stop
  all_in_order old lines new stop is reread untampered =
      let all = sym (take_all (length lines) lines (omega arith)) in
      record {
        count = length lines;
        within = omega arith;
        sealed = subst (λ (xs : List ℕ). AreSealed terms write old xs new stop) all is;
        reread = λ quiet. subst (λ (xs : List ℕ). AreReread write.line xs old.pads.used (terms.history old.bus) (terms.history new.bus)) all (reread quiet);
        whole = λ goes_on. refl;
        failed = λ other failed. absurd (untampered (line_place other) failed);
      }

  -- some lines more, after those that were sealed
  pub sealed_on : ((first second third : B) (before after : List Access) → terms.moved first before second → terms.moved second after third → terms.moved first (before ++ after) third) →
      (first second third : OutsideView B T) (lines more : List ℕ) (stop : Option MemStop) →
      AreSealed terms write first lines second None → AreSealed terms write second more third stop →
      AreSealed terms write first (lines ++ more) third stop
  sealed_on moved_on first second third lines more stop a b =
      let step = step_on (terms.history first.bus) (terms.history second.bus) (terms.history third.bus) first.engine second.engine third.engine a.step b.step in
      let many = length-append lines more in
      let sealed_pair : ℕ → ℕ × Counter = λ line. (line, write.counter) in
      record {
        trace = made_on terms.moved terms.tag_of moved_on first.bus second.bus third.bus first.engine second.engine third.engine stop
            a.step.geometry b.step.evidence a.trace b.trace;
        step = record step {
          more = a.step.more ++ b.step.more;
          made = b.step.made ∙ ap (λ (made : List Message). made ++ b.step.more) a.step.made ∙ append_assoc first.engine.made a.step.more b.step.more;
        };
        nodes = record {
          reads = λ level index. b.nodes.reads level index ∙ a.nodes.reads level index;
          written = λ level index. b.nodes.written level index ∙ a.nodes.written level index;
          last = λ level index. b.nodes.last level index ∙ a.nodes.last level index;
        };
        key = b.key ∙ a.key;
        entries = b.entries ∙ ap (λ (used : List (ℕ × Counter)). used ++ map sealed_pair more) a.entries
            ∙ append_assoc first.pads.used (map sealed_pair lines) (map sealed_pair more)
            ∙ ap (λ (xs : List (ℕ × Counter)). first.pads.used ++ xs) (sym (map-append sealed_pair lines more));
        pairs = data_pairs-append a.step.more b.step.more ∙ ap (λ (xs : List (ℕ × Counter)). xs ++ data_pairs b.step.more) a.pairs
            ∙ ap (λ (xs : List (ℕ × Counter)). map sealed_pair lines ++ xs) b.pairs ∙ sym (map-append sealed_pair lines more);
        as_many = omega (arith, length-append a.step.more b.step.more, a.as_many, b.as_many, many);
        room = omega (arith, many, a.room, b.room);
        pads_room = omega (arith, many, a.pads_room, b.pads_room);
        consistent = b.consistent;
        risen = b.risen;
        holds_last = b.holds_last;
        untouched = λ other unlisted.
            b.untouched other (λ late. unlisted (Contains-append_right lines more other late))
            ∙ a.untouched other (λ early. unlisted (Contains-append_left lines more other early));
        own = λ listed.
            elim (listed_or_not more write.line) [
              | inl late ↦ b.own late ∙ ap (λ (k : List ℕ). Some (write.counter, cipher_of k write.line write.counter write.bytes)) a.key
              | inr not_late ↦ b.not_yet not_late ∙ a.own (among_first lines more write.line listed not_late)
            ];
        own_bytes = λ listed.
            elim (listed_or_not more write.line) [
              | inl late ↦ subst (λ (k : List ℕ). line_bytes k third.engine.made write.line ≡ write.bytes) a.key (b.own_bytes late)
              | inr not_late ↦
                  ap (bytes_of first.pads.key write.line) (b.not_yet not_late) ∙ a.own_bytes (among_first lines more write.line listed not_late)
            ];
        not_yet = λ unlisted.
            b.not_yet (λ late. unlisted (Contains-append_right lines more write.line late))
            ∙ a.not_yet (λ early. unlisted (Contains-append_left lines more write.line early));
        others = λ quiet other differs.
            subst (λ (k : List ℕ). line_bytes k third.engine.made other ≡ line_bytes k second.engine.made other) a.key (b.others quiet other differs)
            ∙ a.others (was_none second.engine.evidence third.engine.evidence b.step.evidence quiet) other differs;
        accounted = λ was. b.accounted (a.accounted was);
        shows = λ quiet.
            elim (a.shows quiet) [
              | inl still ↦
                  elim (b.shows still) [
                    | inl quiet_on ↦ inl quiet_on
                    | inr rose ↦ inr (omega (arith, rose, a.step.lies))
                  ]
              | inr rose ↦ inr (omega (arith, rose, b.step.lies))
            ];
        lied = λ place is quiet.
            elim (a.shows quiet) [
              | inl still ↦ let rose = b.lied place is still in omega (arith, rose, a.step.lies)
              | inr rose ↦ omega (arith, rose, b.step.lies)
            ];
        tampered = b.tampered;
        unspent = b.unspent;
      }
