-- How lines are encrypted anew: what a line holds is read, it is sealed, and so on line by line.
use Rattle.std.proofs.Common.{◌≡◌, ◌≢◌, ◌⊎◌, inl, inr, ℕ, zero, suc, ◌+◌, ◌*◌, ◌<◌, ◌≤◌, List, [], ◌∷◌, ◌++◌, length, map, take, Contains, append_assoc, Option, Some, None, Result, Ok, Err, refl, ap, sym, ◌∙◌, subst, arith, length-append}
use Rattle.std.specs.List.{range_with_len, slice_get}
use Rattle.std.specs.Result.{result_err}
use Rattle.std.proofs.lemmas.Bool.{cases_eq}
use Rattle.std.proofs.lemmas.List.{append-nil}
use Rattle.std.proofs.lemmas.List.Elements.{Contains-append_cases, Contains-append_right}
use Rattle.std.proofs.lemmas.List.FromFn.{length-range_with_len}
use Rattle.std.proofs.lemmas.Option.{same_Some}
use Rattle.sec_base.specs.declared.counter.Counter.{Counter}
use Rattle.sec_base.specs.declared.evidence.Evidence.{Evidence}
use Rattle.sec_base.specs.declared.evidence.Evidence.TheVariants.{Forgery}
use Rattle.sec_base.specs.declared.message.Message.TheVariants.{Line}
use Rattle.sec_base.specs.declared.place.Place.{Place}
use Rattle.sec_base.specs.declared.place.Place.TheVariants.{Line as line_place}
use Rattle.sec_base.specs.declared.stop.MemStop.{MemStop}
use Rattle.sec_base.specs.declared.stop.MemStop.TheVariants.{Tampered, Spent, NoMemory}
use Rattle.sec_base.specs.Count.{Rose}
use Rattle.sec_base.specs.Geometry.{GeometryView, line_count, page_of}
use Rattle.sec_base.specs.LastMessage.{IsFresh, last_pair}
use Rattle.sec_base.proofs.Results.{stop_is, was_none}
use Rattle.bus_model.specs.Access.{Access}
use Rattle.bus_model.specs.BusHistory.{BusHistory, after_write}
use Rattle.tag_engine.specs.TagEngine.{after_make, tags_of}
use Rattle.pad_stream.specs.Pad.{cipher_of}
use Rattle.pad_stream.specs.PadEngine.{PadEngineView, after_encrypt}
use Rattle.pad_stream.specs.Pads.{IsBefore}
use Rattle.checked_bus.specs.Makes.{MakesAccesses}
use Rattle.checked_bus.specs.SealedLine.{sealed_line}
use Rattle.checked_bus.specs.Steps.{IsAccounted, Moves as StepMoves}
use Rattle.checked_bus.proofs.Evidences.{by_evidence}
use Rattle.checked_bus.proofs.Steps.{moves_not as step_not}
use Rattle.checked_bus.proofs.TaggedWrites.{wrote_once}
use Rattle.split_counter.specs.CounterBlock.{CounterBlockView, counter_of, place_of}
use Rattle.page_reencrypt.specs.Contents.{line_bytes, page_lines}
use Rattle.page_reencrypt.specs.Outside.{Accepts, AreConsistent, AreSealed, AreSealedInOrder, HasCounter, HaveLast, HaveRisen, IsAcceptedBeside, IsReadAt, LineWrite, MemoryTerms, OutsideView, terms_of}
use Rattle.page_reencrypt.specs.SealedLines.{AreReread}
use Rattle.page_reencrypt.proofs.Consistency.{last_pair-other}
use Rattle.page_reencrypt.proofs.MadeAccesses.{made_not}
use Rattle.page_reencrypt.proofs.Sealing.{all_in_order, listed_not, listed_one, listed_or_not, one_sealed, one_unwritten, only_read, same_terms, sealed_on}

-- Numbers that follow one another

range_last : (first count last : ℕ) → first + count ≡ last → range_with_len first (suc count) ≡ range_with_len first count ++ last ∷ []
range_last first zero last is = let same : first ≡ last = omega (arith, is) in ap (λ (at : ℕ). at ∷ []) same
range_last first (suc count) last is = ap (λ (xs : List ℕ). first ∷ xs) (range_last (first + 1) count last (omega (arith, is)))

range_more : (first count : ℕ) → range_with_len first (count + 1) ≡ range_with_len first count ++ (first + count) ∷ []
range_more first count =
    let next : count + 1 ≡ suc count = omega arith in ap (range_with_len first) next ∙ range_last first count (first + count) refl

take_range : (first many count : ℕ) → count ≤ many → take count (range_with_len first many) ≡ range_with_len first count
take_range first many zero within = refl
take_range first zero (suc count) within = absurd (omega (arith, within))
take_range first (suc many) (suc count) within = ap (λ (xs : List ℕ). first ∷ xs) (take_range (first + 1) many count (omega (arith, within)))

range_part : (first count more : ℕ) → more ≤ 1 → range_with_len first count ++ take more ((first + count) ∷ []) ≡ range_with_len first (count + more)
range_part first count zero most =
    let same : count ≡ count + 0 = omega arith in append-nil (range_with_len first count) ∙ ap (range_with_len first) same
range_part first count (suc zero) most = sym (range_more first count)
range_part first count (suc (suc more)) most = absurd (omega (arith, most))

nth_in_range : (first many count : ℕ) → count < many → slice_get (range_with_len first many) count ≡ Some (first + count)
nth_in_range first zero count below = absurd (omega (arith, below))
nth_in_range first (suc many) zero below = let same : first ≡ first + 0 = omega arith in ap (λ (at : ℕ). Some at) same
nth_in_range first (suc many) (suc count) below =
    let same : first + 1 + count ≡ first + suc count = omega arith in nth_in_range (first + 1) many count (omega (arith, below)) ∙ ap (λ (at : ℕ). Some at) same

only_one : (at count other : ℕ) → slice_get (at ∷ []) count ≡ Some other → (count ≡ 0) × (at ≡ other)
only_one at zero other there = (refl, cc)
only_one at (suc count) other there = absurd (cc)

not_in_range : (first count other : ℕ) → first + count ≤ other → ¬ Contains (range_with_len first count) other
not_in_range first zero other above listed = omega (arith, listed.1)
not_in_range first (suc count) other above (zero, within, there) = omega (arith, above, there)
not_in_range first (suc count) other above (suc k, within, there) = not_in_range (first + 1) count other (omega (arith, above)) (k, omega (arith, within), there)

-- The counters of lines that were not encrypted

pub last_pair-unlisted : (used : List (ℕ × Counter)) (lines : List ℕ) (counter : Counter) (other : ℕ) → ¬ Contains lines other →
    last_pair other (used ++ map (λ line. (line, counter)) lines) ≡ last_pair other used
last_pair-unlisted used [] counter other unlisted = ap (last_pair other) (append-nil used)
last_pair-unlisted used (line ∷ lines) counter other unlisted =
    let entry : ℕ × Counter = (line, counter) in
    ap (last_pair other) (sym (append_assoc used (entry ∷ []) (map (λ at. (at, counter)) lines)))
    ∙ last_pair-unlisted (used ++ entry ∷ []) lines counter other (λ listed. unlisted (Contains-append_right (line ∷ []) lines other listed))
    ∙ last_pair-other used line other counter (λ same. unlisted (zero, omega arith, sym same))

pub counter_unlisted : (used : List (ℕ × Counter)) (lines : List ℕ) (counter had : Counter) (other : ℕ) → ¬ Contains lines other →
    HasCounter used other had → HasCounter (used ++ map (λ line. (line, counter)) lines) other had
counter_unlisted used lines counter had other unlisted was =
    let same = last_pair-unlisted used lines counter other unlisted in
    elim was [
      | inl fresh ↦ inl (same ∙ fresh.0, fresh.1)
      | inr has ↦ inr (same ∙ has.0, has.1)
    ]

-- Some lines more are read after others were.
pub reread_on : {B T : Type 0} (terms : MemoryTerms B) (write : LineWrite) (first second third : OutsideView B T) (lines more : List ℕ) (stop : Option MemStop) →
    AreSealed terms write first lines second None → AreSealed terms write second more third stop →
    AreReread write.line lines first.pads.used (terms.history first.bus) (terms.history second.bus) →
    AreReread write.line more second.pads.used (terms.history second.bus) (terms.history third.bus) →
    AreReread write.line (lines ++ more) first.pads.used (terms.history first.bus) (terms.history third.bus)
reread_on terms write first second third lines more stop a b early late = λ other listed differs.
    let early_on : Contains lines other → IsFresh other first.pads.used ⊎ Rose ((terms.history first.bus).reads (line_place other)) ((terms.history third.bus).reads (line_place other)) =
    λ here.
    elim (early other here differs) [
      | inl fresh ↦ inl fresh
      | inr rose ↦ let on = b.step.reads (line_place other) in inr (omega (arith, rose, on))
    ] in
    elim (listed_or_not lines other) [
      | inl here ↦ early_on here
      | inr not_here ↦
          elim (Contains-append_cases lines more other listed) [
            | inl here ↦ early_on here
            | inr there ↦
                elim (late other there differs) [
                  | inl fresh ↦ inl (sym (ap (last_pair other) a.entries ∙ last_pair-unlisted first.pads.used lines write.counter other not_here) ∙ fresh)
                  | inr rose ↦ let before = a.step.reads (line_place other) in inr (omega (arith, rose, before))
                ]
          ]
    ]

-- a write is one access
pub one_access : (line : ℕ) (bytes : List ℕ) (old new : BusHistory) → new ≡ after_write (line_place line) bytes old → new.accesses ≤ old.accesses + 1
one_access line bytes old new wrote = omega (arith, (wrote_once (line_place line) bytes old new wrote).once)

-- The accesses of a page's lines, one after another: there is one of the written line, and two of any other at most.

module _ (line place : ℕ) {start at : ℕ} (before mid new : ℕ) (start_is : start ≡ 64 * page_of line) (at_is : at ≡ start + place) (most : mid ≤ before + 2 * place)
    (passed : place_of line < place → mid + 1 ≤ before + 2 * place) (two : new ≤ mid + 2) (own : at ≡ line → new ≤ mid + 1) where
  pub accesses_passed : place_of line < place + 1 → new + 1 ≤ before + 2 * (place + 1)
  accesses_passed within =
      elim (cases_eq (place_of line) place) [
        | inl here ↦ let one = own (omega (arith, start_is, at_is, here)) in omega (arith, one, most)
        | inr apart ↦ let early = passed (omega (arith, within, apart)) in omega (arith, early, two)
      ]

  pub accesses_stopped : place < 64 → new ≤ before + 127
  accesses_stopped below =
      elim (cases_eq place 63) [
        | inl last ↦ let all = accesses_passed (omega (arith, last)) in omega (arith, all, last)
        | inr early ↦ omega (arith, two, most, below, early)
      ]

-- Lines are to be encrypted under the counter of a write.
pub record IsBegun {B T : Type 0} (history : B → BusHistory) (moved : B → List Access → B → Type 0) (d n : T → List ℕ → List ℕ) (write : LineWrite)
    (old : OutsideView B T) : Type 0 where
  pub kept : AreConsistent (terms_of history moved d n old) old
  pub risen : HaveRisen (terms_of history moved d n old) old
  pub last : HaveLast (terms_of history moved d n old) old

module _ {B T : Type 0} {history : B → BusHistory} {moved : B → List Access → B → Type 0} {d n : T → List ℕ → List ℕ} {write : LineWrite} {old : OutsideView B T}
    (begun : IsBegun history moved d n write old) where
  abbrev terms : OutsideView B T → MemoryTerms B
  terms = terms_of history moved d n

  -- nothing was done yet
  pub sealed_none : ((bus : B) → moved bus [] bus) → AreSealed (terms old) write old [] old None
  sealed_none unmoved =
      only_read (terms old) write old old None (made_not moved (tags_of d n old.engine) unmoved old.bus old.engine None (λ place is. cc)) (step_not (history old.bus) old.engine) refl (omega arith) refl refl (λ level index. refl) begun.kept begun.risen begun.last
      (λ was. was) (λ quiet. inl quiet) (λ place is. absurd (cc)) (λ page is. cc)

  -- another line of the page was read
  read_sealed : (at : ℕ) (counter : Counter) (new : OutsideView B T) (result : Result (List ℕ) MemStop) → at ≢ write.line → page_of at ≡ page_of write.line →
      IsReadAt (terms old) at counter old new result → AreSealed (terms old) write old [] new (result_err result)
  read_sealed at counter new result apart of_page r =
      only_read (terms old) write old new (result_err result) r.trace r.step r.made (omega (arith, r.room)) r.pads r.written r.nodes begun.kept begun.risen begun.last r.accounted r.shows
      (λ place is.
      let there = r.tampered place (stop_is result (Tampered place) is) in
      (record { other = at; place_is = there.0; of_page = of_page; apart = apart }, there.1))
      (λ page is. r.unspent page (stop_is result (Spent page) is))

  -- it stopped
  pub read_stopped : (at : ℕ) (counter : Counter) (new : OutsideView B T) (stop : MemStop) → at ≢ write.line → page_of at ≡ page_of write.line →
      IsReadAt (terms old) at counter old new (Err stop) → AreSealedInOrder (terms old) write old (at ∷ []) new (Some stop)
  read_stopped at counter new stop apart of_page r = record {
    count = 0;
    within = omega arith;
    sealed = read_sealed at counter new (Err stop) apart of_page r;
    reread = λ quiet other listed. absurd (listed_not other listed);
    whole = λ none. absurd (cc);
    failed = λ other is.
        let why : stop ≡ Tampered (line_place other) = cc in
        let place : line_place other ≡ line_place at = (r.tampered (line_place other) (ap (λ (s : MemStop). Err s) why)).0 in
        let same : at ≡ other = cc in ap (λ (line : ℕ). Some line) same;
  }

  -- What a line is to hold is known, and no line was sealed.
  pub record IsReady (at : ℕ) (plain : List ℕ) (mid : OutsideView B T) : Type 0 where
    pub sealed : AreSealed (terms old) write old [] mid None
    pub made : mid.engine.made ≡ old.engine.made
    pub pads : mid.pads ≡ old.pads
    pub once : (history mid.bus).accesses ≤ (history old.bus).accesses + 1
    pub reread : mid.engine.evidence ≡ None → at ≢ write.line → IsFresh at old.pads.used ⊎ Rose ((history old.bus).reads (line_place at)) ((history mid.bus).reads (line_place at))
    pub held : ((at ≡ write.line) × (plain ≡ write.bytes))
        ⊎ ((at ≢ write.line) × (mid.engine.evidence ≡ None → plain ≡ line_bytes old.pads.key old.engine.made at))

  pub ready_own : (at : ℕ) (plain : List ℕ) → ((bus : B) → moved bus [] bus) → at ≡ write.line → plain ≡ write.bytes → IsReady at plain old
  ready_own at plain unmoved same bytes = record {
    sealed = sealed_none unmoved;
    made = refl;
    pads = refl;
    once = omega arith;
    reread = λ quiet differs. absurd (differs same);
    held = inl (same, bytes);
  }

  pub ready_read : (at : ℕ) (counter : Counter) (plain found : List ℕ) (mid : OutsideView B T) → at ≢ write.line → page_of at ≡ page_of write.line →
      IsReadAt (terms old) at counter old mid (Ok found) → plain ≡ found → IsReady at plain mid
  ready_read at counter plain found mid differs of_page r same = record {
    sealed = read_sealed at counter mid (Ok found) differs of_page r;
    made = r.made;
    pads = r.pads;
    once = r.once;
    reread = λ quiet apart. r.rose (was_none old.engine.evidence mid.engine.evidence r.step.evidence quiet) (λ is. cc);
    held = inr (differs, λ quiet. same ∙ r.value quiet);
  }

  module _ {at : ℕ} {plain : List ℕ} {mid : OutsideView B T} (new : OutsideView B T) (previous : Counter) (ready : IsReady at plain mid)
      (inside : at < line_count old.engine.geometry) (had : old.engine.evidence ≡ None → HasCounter old.pads.used at previous × IsBefore previous write.counter)
      (used : new.pads ≡ after_encrypt at write.counter mid.pads)
      (made : new.engine ≡ after_make (Line at write.counter (cipher_of mid.pads.key at write.counter plain)) mid.engine)
      (undone : cipher_of mid.pads.key at write.counter (cipher_of mid.pads.key at write.counter plain) ≡ plain)
      (moves : StepMoves (history mid.bus) mid.engine (history new.bus) new.engine)
      (honest : (used more : List (ℕ × Counter)) →
      IsAccounted (tags_of d n mid.engine) used mid.engine.made (history mid.bus) None mid.engine.evidence →
      IsAccounted (tags_of d n mid.engine) more new.engine.made (history new.bus) None new.engine.evidence)
      (moved_on : (first second third : B) (before after : List Access) → moved first before second → moved second after third → moved first (before ++ after) third) where
    same : terms mid ≡ terms old
    same = same_terms history moved d n old mid ready.sealed.step.tagger ready.sealed.step.geometry

    kept_mid : AreConsistent (terms mid) mid
    kept_mid = subst (λ (t : MemoryTerms B). AreConsistent t mid) (sym same) ready.sealed.consistent

    last_mid : HaveLast (terms mid) mid
    last_mid = subst (λ (t : MemoryTerms B). HaveLast t mid) (sym same) (ready.sealed.holds_last (λ is. cc))

    inside_mid : at < line_count mid.engine.geometry
    inside_mid = subst (λ (l : GeometryView). at < line_count l) (sym ready.sealed.step.geometry) inside

    rose_mid : HaveRisen (terms mid) mid
    rose_mid = ready.sealed.risen

    had_mid : mid.engine.evidence ≡ None → HasCounter mid.pads.used at previous × IsBefore previous write.counter
    had_mid quiet =
        let had_it = had (was_none old.engine.evidence mid.engine.evidence ready.sealed.step.evidence quiet) in
        (subst (λ (p : PadEngineView). HasCounter p.used at previous) (sym ready.pads) had_it.0, had_it.1)

    held_mid : ((at ≡ write.line) × (plain ≡ write.bytes))
        ⊎ ((at ≢ write.line) × (mid.engine.evidence ≡ None → plain ≡ line_bytes mid.pads.key mid.engine.made at))
    held_mid =
        elim ready.held [
          | inl mine ↦ inl mine
          | inr other ↦
              inr (
                other.0,
                λ quiet. other.1 quiet ∙ ap (λ (p : PadEngineView). line_bytes p.key old.engine.made at) (sym ready.pads)
                    ∙ ap (λ made. line_bytes mid.pads.key made at) (sym ready.made),
              )
        ]

    reread : new.engine.evidence ≡ None → AreReread write.line (at ∷ []) old.pads.used (history old.bus) (history new.bus)
    reread = λ quiet other listed differs.
        let here = listed_one at other listed in
        subst (λ (line : ℕ). IsFresh line old.pads.used ⊎ Rose ((history old.bus).reads (line_place line)) ((history new.bus).reads (line_place line))) here
        (elim (ready.reread (was_none mid.engine.evidence new.engine.evidence moves.evidence quiet) (λ own. differs (sym here ∙ own))) [
          | inl fresh ↦ inl fresh
          | inr rose ↦ let on = moves.reads (line_place at) in inr (omega (arith, rose, on))
        ])

    after_ready : (stop : Option MemStop) → AreSealed (terms mid) write mid (at ∷ []) new stop → ((place : Place) → stop ≢ Some (Tampered place)) →
        AreSealedInOrder (terms old) write old (at ∷ []) new stop
    after_ready stop is untampered =
        all_in_order (terms old) write old (at ∷ []) new stop
        (sealed_on (terms old) write moved_on old mid new [] (at ∷ []) stop ready.sealed
        (subst (λ (t : MemoryTerms B). AreSealed t write mid (at ∷ []) new stop) same is))
        reread untampered

    -- the line was sealed and written
    pub line_sealed : MakesAccesses moved (tags_of d n mid.engine) mid.bus mid.engine new.bus new.engine None →
        history new.bus ≡ after_write (line_place at) (sealed_line (tags_of d n mid.engine) at write.counter (cipher_of mid.pads.key at write.counter plain)) (history mid.bus) →
        AreSealedInOrder (terms old) write old (at ∷ []) new None
    line_sealed trace wrote =
        after_ready None
        (one_sealed (terms mid) write mid new at previous plain kept_mid rose_mid last_mid inside_mid had_mid held_mid used made undone moves honest trace wrote)
        (λ place is. cc)

    -- there was no memory to write it
    pub line_unwritten : MakesAccesses moved (tags_of d n mid.engine) mid.bus mid.engine new.bus new.engine (Some NoMemory) →
        history new.bus ≡ history mid.bus → AreSealedInOrder (terms old) write old (at ∷ []) new (Some NoMemory)
    line_unwritten trace unwritten =
        after_ready (Some NoMemory)
        (one_unwritten (terms mid) write mid new at previous plain kept_mid rose_mid last_mid inside_mid had_mid held_mid used made undone moves honest trace unwritten)
        (λ place is. cc)

-- A page is encrypted anew line by line: those at the places below this one were sealed.
pub record AreSealedBelow {B T : Type 0} (history : B → BusHistory) (moved : B → List Access → B → Type 0) (d n : T → List ℕ → List ℕ) (write : LineWrite)
    (old mid : OutsideView B T) (first place : ℕ) : Type 0 where
  pub sealed : AreSealed (terms_of history moved d n old) write old (range_with_len first place) mid None
  pub reread : mid.engine.evidence ≡ None → AreReread write.line (range_with_len first place) old.pads.used (history old.bus) (history mid.bus)

pub below_none : {B T : Type 0} {history : B → BusHistory} {moved : B → List Access → B → Type 0} {d n : T → List ℕ → List ℕ} {write : LineWrite} {old : OutsideView B T} {first : ℕ} →
    IsBegun history moved d n write old → ((bus : B) → moved bus [] bus) → AreSealedBelow history moved d n write old old first 0
below_none begun unmoved = record { sealed = sealed_none begun unmoved; reread = λ quiet other listed. absurd (listed_not other listed) }

module _ {B T : Type 0} {history : B → BusHistory} {moved : B → List Access → B → Type 0} {d n : T → List ℕ → List ℕ} {write : LineWrite} {old mid : OutsideView B T}
    {first place : ℕ} (below : AreSealedBelow history moved d n write old mid first place) where
  mid_terms : terms_of history moved d n mid ≡ terms_of history moved d n old
  mid_terms = same_terms history moved d n old mid below.sealed.step.tagger below.sealed.step.geometry

  pub page_consistent : AreConsistent (terms_of history moved d n mid) mid
  page_consistent = subst (λ (t : MemoryTerms B). AreConsistent t mid) (sym mid_terms) below.sealed.consistent

  pub page_last : HaveLast (terms_of history moved d n mid) mid
  page_last = subst (λ (t : MemoryTerms B). HaveLast t mid) (sym mid_terms) (below.sealed.holds_last (λ is. cc))

  range_long : length (range_with_len first place) ≡ place
  range_long = length-range_with_len first place

  pub page_room : place < 64 → 64 ≤ old.engine.room → 0 < mid.engine.room
  page_room early room = omega (arith, early, room, below.sealed.room, range_long)

  pub page_pads_room : place < 64 → 64 ≤ old.pads.room → 0 < mid.pads.room
  page_pads_room early room = omega (arith, early, room, below.sealed.pads_room, range_long)

  module _ {at : ℕ} (here : at ≡ first + place) where
    pub page_inside : (line : ℕ) → first ≡ 64 * page_of line → place < 64 → line < line_count old.engine.geometry → at < line_count mid.engine.geometry
    page_inside line start early inside =
        subst (λ (l : GeometryView). at < line_count l) (sym below.sealed.step.geometry) (omega (arith, here, start, early, inside))

    pub page_counter : (line : ℕ) (block : CounterBlockView) (counter : Counter) → first ≡ 64 * page_of line → place < 64 → counter ≡ counter_of place block →
        (old.engine.evidence ≡ None → (other : ℕ) → page_of other ≡ page_of line → HasCounter old.pads.used other (counter_of (place_of other) block)) →
        (old.engine.evidence ≡ None → block.page < write.counter.page) →
        mid.engine.evidence ≡ None → HasCounter mid.pads.used at counter × IsBefore counter write.counter
    page_counter line block counter start early is had_all later_all quiet =
        let was_quiet = was_none old.engine.evidence mid.engine.evidence below.sealed.step.evidence quiet in
        let had = had_all was_quiet in
        let later = later_all was_quiet in
        let of_page : page_of at ≡ page_of line = omega (arith, here, start, early) in
        let in_page : place_of at ≡ place = omega (arith, here, start, early) in
        let was : HasCounter old.pads.used at counter =
        subst (HasCounter old.pads.used at) (ap (λ (k : ℕ). counter_of k block) in_page ∙ sym is) (had at of_page) in (
          subst (λ (u : List (ℕ × Counter)). HasCounter u at counter) (sym below.sealed.entries)
              (counter_unlisted old.pads.used (range_with_len first place) write.counter counter at (not_in_range first place at (omega (arith, here))) was),
          inl (omega (arith, later, ap (λ (c : Counter). c.page) is)),
        )

    mid_made : length mid.engine.made ≡ length old.engine.made + place
    mid_made =
        let made = ap length below.sealed.step.made ∙ length-append old.engine.made below.sealed.step.more in omega (arith, made, below.sealed.as_many, range_long)

    -- what was accepted though it was never tagged is one of the lines so far, or the next one
    pub page_accepted : (new : OutsideView B T) → first ≡ 64 * page_of write.line → place < 64 →
        ((evidence : Evidence) → mid.engine.evidence ≡ Some evidence → new.engine.evidence ≡ Some evidence) →
        Accepts old mid (IsAcceptedBeside write.line (length old.engine.made)) →
        Accepts mid new (λ found made_count. (found ≡ at) × (at ≢ write.line) × (made_count ≡ length mid.engine.made)) →
        Accepts old new (IsAcceptedBeside write.line (length old.engine.made))
    page_accepted new start early stays before now found under answer made_count quiet is =
        by_evidence mid.engine.evidence
        (λ none.
        let there = now found under answer made_count none is in (
          record {
            other = found;
            place_is = refl;
            of_page = omega (arith, there.0, here, start, early);
            apart = λ same. there.1 (sym there.0 ∙ same);
          },
          omega (arith, there.0, there.2, here, start, early, mid_made),
        ))
        (λ evidence some.
        let same : evidence ≡ Forgery found under answer made_count =
        same_Some evidence (Forgery found under answer made_count) (sym (stays evidence some) ∙ is) in
        before found under answer made_count quiet (some ∙ ap (λ (e : Evidence). Some e) same))

    module _ (moved_on : (first second third : B) (before after : List Access) → moved first before second → moved second after third → moved first (before ++ after) third) {new : OutsideView B T} {stop : Option MemStop}
        (is : AreSealedInOrder (terms_of history moved d n mid) write mid (at ∷ []) new stop) where
      page_on : AreSealed (terms_of history moved d n old) write old (range_with_len first (place + is.count)) new stop
      page_on =
          let lines = range_part first place is.count is.within in
          subst (λ (xs : List ℕ). AreSealed (terms_of history moved d n old) write old xs new stop)
          (ap (λ (a : ℕ). range_with_len first place ++ take is.count (a ∷ [])) here ∙ lines)
          (sealed_on (terms_of history moved d n old) write moved_on old mid new (range_with_len first place) (take is.count (at ∷ [])) stop below.sealed
          (subst (λ (t : MemoryTerms B). AreSealed t write mid (take is.count (at ∷ [])) new stop) mid_terms is.sealed))

      page_reread : new.engine.evidence ≡ None →
          AreReread write.line (range_with_len first (place + is.count)) old.pads.used (history old.bus) (history new.bus)
      page_reread quiet =
          let lines = range_part first place is.count is.within in
          subst (λ (xs : List ℕ). AreReread write.line xs old.pads.used (history old.bus) (history new.bus))
          (ap (λ (a : ℕ). range_with_len first place ++ take is.count (a ∷ [])) here ∙ lines)
          (reread_on (terms_of history moved d n old) write old mid new (range_with_len first place) (take is.count (at ∷ [])) stop below.sealed
          (subst (λ (t : MemoryTerms B). AreSealed t write mid (take is.count (at ∷ [])) new stop) mid_terms is.sealed)
          (below.reread (was_none mid.engine.evidence new.engine.evidence is.sealed.step.evidence quiet)) (is.reread quiet))

      -- the next line was sealed too
      pub page_more : stop ≡ None → AreSealedBelow history moved d n write old new first (place + 1)
      page_more goes_on = record {
        sealed = subst (λ (s : Option MemStop). AreSealed (terms_of history moved d n old) write old (range_with_len first (place + 1)) new s) goes_on
            (subst (λ (k : ℕ). AreSealed (terms_of history moved d n old) write old (range_with_len first (place + k)) new stop) (is.whole goes_on) page_on);
        reread = λ quiet.
            subst (λ (k : ℕ). AreReread write.line (range_with_len first (place + k)) old.pads.used (history old.bus) (history new.bus)) (is.whole goes_on)
            (page_reread quiet);
      }

      -- it stopped at the next line
      pub page_stopped : (page : ℕ) → first ≡ 64 * page → place < 64 → stop ≢ None →
          AreSealedInOrder (terms_of history moved d n old) write old (page_lines page) new stop
      page_stopped page start early stopped =
          let part = sym (ap (λ (f : ℕ). take (place + is.count) (range_with_len f 64)) (sym start) ∙ take_range first 64 (place + is.count) (omega (arith, early, is.within))) in
          record {
            count = place + is.count;
            within = omega (arith, early, is.within, length-range_with_len (64 * page) 64);
            sealed = subst (λ (xs : List ℕ). AreSealed (terms_of history moved d n old) write old xs new stop) part page_on;
            reread = λ quiet. subst (λ (xs : List ℕ). AreReread write.line xs old.pads.used (history old.bus) (history new.bus)) part (page_reread quiet);
            whole = λ goes_on. absurd (stopped goes_on);
            failed = λ other failed.
                let next = only_one at is.count other (is.failed other failed) in
                let count : place + is.count ≡ place = omega (arith, next.0) in
                let line : 64 * page + place ≡ other = omega (arith, start, here, next.1) in
                ap (slice_get (range_with_len (64 * page) 64)) count ∙ nth_in_range (64 * page) 64 place early ∙ ap (λ (l : ℕ). Some l) line;
          }

  -- all were sealed
  pub page_done : (page : ℕ) → first ≡ 64 * page → place ≡ 64 → AreSealedInOrder (terms_of history moved d n old) write old (page_lines page) mid None
  page_done page start all =
      subst (λ (xs : List ℕ). AreSealedInOrder (terms_of history moved d n old) write old xs mid None)
      (ap (λ (f : ℕ). range_with_len f place) start ∙ ap (range_with_len (64 * page)) all)
      (all_in_order (terms_of history moved d n old) write old (range_with_len first place) mid None below.sealed below.reread (λ place is. cc))
