-- The steps of a write of a line: its page's counters are had, memory is taken, they are counted up, and its lines are
-- sealed.
use Rattle.std.proofs.Common.{◌≡◌, ◌≢◌, ◌⊎◌, inl, inr, ℕ, ◌+◌, ◌<◌, ◌≤◌, List, [], ◌∷◌, ◌++◌, length, map, take, replicate, slice_index, slice_set, Option, Some, None, Contains, refl, ap, sym, ◌∙◌, subst, arith, length-append}
use Rattle.std.proofs.lemmas.Bool.{cases_eq}
use Rattle.std.proofs.lemmas.List.{get_or-replicate, get_or-set_same, get_or-set_other, take_all}
use Rattle.sec_base.specs.declared.counter.Counter.{Counter}
use Rattle.sec_base.specs.declared.message.Message.TheVariants.{Line as line_message}
use Rattle.sec_base.specs.declared.place.Place.{Place}
use Rattle.sec_base.specs.declared.place.Place.TheVariants.{Line as line_place}
use Rattle.sec_base.specs.declared.stop.MemStop.{MemStop}
use Rattle.sec_base.specs.declared.stop.MemStop.TheVariants.{Tampered, Spent, NoMemory}
use Rattle.sec_base.specs.Count.{Rose}
use Rattle.sec_base.specs.Geometry.{GeometryView, line_count, page_count, page_of}
use Rattle.sec_base.proofs.Results.{was_none}
use Rattle.bus_model.specs.Access.{Access}
use Rattle.bus_model.specs.BusHistory.{BusHistory, after_write}
use Rattle.tag_engine.specs.TagEngine.{after_make, tags_of}
use Rattle.pad_stream.specs.Pad.{cipher_of}
use Rattle.pad_stream.specs.PadEngine.{after_encrypt, with_room as pads_with_room}
use Rattle.pad_stream.specs.Pads.{IsBefore}
use Rattle.checked_bus.specs.Makes.{MakesAccesses}
use Rattle.checked_bus.specs.SealedLine.{sealed_line}
use Rattle.checked_bus.specs.Steps.{IsAccounted, Moves as StepMoves}
use Rattle.checked_bus.proofs.Steps.{moves_not as step_not}
use Rattle.split_counter.specs.declared.bumped.Bumped.{Bumped}
use Rattle.split_counter.specs.declared.bumped.Bumped.TheVariants.{Line as line_up, Page as page_up}
use Rattle.split_counter.specs.CounterBlock.{CounterBlockView, IsCounterBlock, after_bump, after_outcome, bumped, counter_of, last_counter, next_counter, place_of}
use Rattle.bonsai_tree.specs.Tree.{IsFetchPlace, PathWasRead}
use Rattle.counter_cache.specs.Counters.{CountersView, SameCounters, cached_pages, counter_accesses, counters_in}
use Rattle.page_reencrypt.specs.Contents.{counter_in, lines_encrypted, page_lines}
use Rattle.page_reencrypt.specs.Outside.{AreConsistent, AreSealed, AreSealedInOrder, CountersFit, CountersSay, DiffersInRoom, HasCounter, HaveLast, HaveRisen, IsWrite, LineWrite, MemoryTerms, OutsideView, terms_of, with_room}
use Rattle.page_reencrypt.specs.SealedLines.{IsOfPage}
use Rattle.page_reencrypt.specs.Stops.{lasting_stop}
use Rattle.page_reencrypt.proofs.Consistency.{counter_in-same, counter_in-other}
use Rattle.page_reencrypt.proofs.CountersHad.{CountedUpBy, IsGot}
use Rattle.page_reencrypt.proofs.Entries.{counter_among, counter_beside, encrypted_line, encrypted_page, listed_page, next_after, next_line, next_page, page_listed}
use Rattle.page_reencrypt.proofs.Reaching.{HasCome, IsReached, come_idle, come_on, early_write, late_counters, late_write, path_more, reached_risen, reached_roomy, reached_spent, reached_up}
use Rattle.page_reencrypt.proofs.Stops.{unspent_going}
use Rattle.page_reencrypt.proofs.UnderCounters.{counter_by}
use Rattle.counter_cache.proofs.Blocks.{counters_of_copy}
use Rattle.counter_cache.specs.HadCounters.{IsCounted}
use Rattle.page_reencrypt.proofs.Sealing.{all_in_order, listed_one, one_sealed, one_unwritten, own_reread, same_terms}

-- The last counter

pub is_last : (limit : ℕ) (counter : Counter) → counter.line ≡ 127 → limit ≤ counter.page → counter.page ≤ limit → counter ≡ last_counter limit
is_last limit counter full above below =
    let page : counter.page ≡ limit = omega (arith, above, below) in
    ap (λ (p : ℕ). let c : Counter = record { page = p; line = counter.line } in c) page ∙ ap (λ (l : ℕ). let c : Counter = record { page = limit; line = l } in c) full

pub line_not_last : (limit : ℕ) (counter : Counter) → counter.line < 127 → counter ≢ last_counter limit
line_not_last limit counter less is = let full : counter.line ≡ 127 = ap (λ (c : Counter). c.line) is in omega (arith, full, less)

pub page_not_last : (limit : ℕ) (counter : Counter) → counter.page < limit → counter ≢ last_counter limit
page_not_last limit counter below is = let same : counter.page ≡ limit = ap (λ (c : Counter). c.page) is in omega (arith, below, same)

-- What the page's block says after a write

bumped_block : (place limit : ℕ) (block : CounterBlockView) (outcome : Bumped) → bumped limit (counter_of place block) ≡ outcome →
    (after_bump place limit block).1 ≡ after_outcome place outcome block
unfolding after_bump
bumped_block place limit block outcome is = ap (λ (o : Bumped). after_outcome place o block) is

-- after an ordinary write
bumped_line : (used : List (ℕ × Counter)) (line limit : ℕ) (counter : Counter) (block : CounterBlockView) → IsCounterBlock block →
    IsOfPage used (page_of line) block → bumped limit (counter_of (place_of line) block) ≡ line_up counter → counter.page ≡ block.page →
    IsOfPage (used ++ (line, counter) ∷ []) (page_of line) (after_bump (place_of line) limit block).1
bumped_line used line limit counter block is_block was up page = λ other of_page.
    let set : CounterBlockView = record { page = block.page; lines = slice_set block.lines (place_of line) counter.line } in
    let inside : place_of line < length block.lines = omega (arith, is_block.whole) in
    let said : counter_in (used ++ (line, counter) ∷ []) other ≡ counter_of (place_of other) set =
    elim (cases_eq other line) [
      | inl same ↦
          ap (counter_in (used ++ (line, counter) ∷ [])) same ∙ counter_in-same used line counter
          ∙ ap (λ (p : ℕ). let c : Counter = record { page = p; line = counter.line } in c) page
          ∙ ap (λ (l : ℕ). let c : Counter = record { page = block.page; line = l } in c)
          (sym (get_or-set_same block.lines (place_of line) counter.line 0 inside))
          ∙ ap (λ (l : ℕ). counter_of (place_of l) set) (sym same)
      | inr differs ↦
          let apart : place_of other ≢ place_of line = λ same. differs (omega (arith, of_page, same)) in
          counter_in-other used line other counter differs ∙ was other of_page
          ∙ ap (λ (l : ℕ). let c : Counter = record { page = block.page; line = l } in c)
          (sym (get_or-set_other block.lines (place_of line) (place_of other) counter.line 0 apart))
    ] in
    said ∙ ap (counter_of (place_of other)) (sym (bumped_block (place_of line) limit block (line_up counter) up))

-- and after an overflow
bumped_page : (used : List (ℕ × Counter)) (line place limit page : ℕ) (block : CounterBlockView) → bumped limit (counter_of place block) ≡ page_up page →
    IsOfPage (used ++ map (λ at. (at, record { page = page; line = 0 })) (page_lines (page_of line))) (page_of line) (after_bump place limit block).1
bumped_page used line place limit page block up = λ other of_page.
    let zero_line : slice_index (replicate 64 0) (place_of other) ≡ 0 = get_or-replicate 64 (place_of other) 0 0 (omega arith) in
    counter_among (record { page = page; line = 0 }) (page_lines (page_of line)) used other (page_listed (page_of line) other of_page)
    ∙ ap (λ (l : ℕ). let c : Counter = record { page = page; line = l } in c) (sym zero_line)
    ∙ ap (counter_of (place_of other)) (sym (bumped_block place limit block (page_up page) up))

module _ {B T : Type 0} (history : B → BusHistory) (moved : B → List Access → B → Type 0) (d n : T → List ℕ → List ℕ) (old : OutsideView B T) (counters : CountersView) where
  abbrev terms : MemoryTerms B
  terms = terms_of history moved d n old

  -- the counters that say the entries still do, where both are the same
  pub say_same : CountersSay terms old counters → (new : OutsideView B T) (counters' : CountersView) (stop : Option MemStop) →
      IsReached terms old counters new counters' stop → (new.engine.evidence ≡ None → SameCounters counters old.engine.made counters' new.engine.made) →
      CountersSay terms new counters'
  say_same say new counters' stop reached same = λ quiet page inside line of_page.
      let was_quiet = was_none old.engine.evidence new.engine.evidence reached.node.step.evidence quiet in
      ap (λ (used : List (ℕ × Counter)). counter_in used line) reached.node.used ∙ say was_quiet page inside line of_page
      ∙ ap (counter_of (place_of line)) (sym (same quiet page))

  -- it stopped before a line was sealed
  pub stopped_early : (new : OutsideView B T) (counters' : CountersView) (why : MemStop) → IsReached terms old counters new counters' (Some why) →
      (limit line : ℕ) (bytes : List ℕ) → HaveRisen terms old → ((page : ℕ) → Some why ≢ Some (Spent page)) →
      (new.engine.evidence ≡ None → SameCounters counters old.engine.made counters' new.engine.made)
      ⊎ ((64 ≤ new.pads.room) × (length old.engine.made + 64 ≤ length new.engine.made + new.engine.room)) →
      ((place : Place) → Some why ≡ Some (Tampered place) → IsFetchPlace terms.geometry (page_of line) place
      × (old.engine.evidence ≡ None → Rose (history old.bus).lies (history new.bus).lies)) →
      (new.engine.evidence ≡ None → counter_in old.pads.used line ≡ last_counter limit →
      SameCounters counters old.engine.made counters' new.engine.made
      × ((history new.bus).accesses ≤ (history old.bus).accesses + counter_accesses old.engine.geometry.levels)) →
      HasCome terms (page_of line) old counters new counters' (Some why) → IsWrite terms limit line bytes old counters new counters' (Some why)
  stopped_early new counters' why reached limit line bytes rose unspent reserved tampered last come =
      early_write terms old counters new counters' (Some why) reached limit line bytes rose (λ is. cc)
      (λ going. let none : Some why ≡ None = unspent_going (Some why) unspent going in absurd (cc)) reserved tampered
      (λ page is. absurd (unspent page is)) last come

  -- it was spent
  pub spent_early : (new : OutsideView B T) (counters' : CountersView) (page : ℕ) → IsReached terms old counters new counters' None →
      (limit line : ℕ) (bytes : List ℕ) → HaveRisen terms old → CountersSay terms new counters' →
      (new.engine.evidence ≡ None → SameCounters counters old.engine.made counters' new.engine.made)
      ⊎ ((64 ≤ new.pads.room) × (length old.engine.made + 64 ≤ length new.engine.made + new.engine.room)) →
      page ≡ page_of line → (new.engine.evidence ≡ None → counter_in old.pads.used line ≡ last_counter limit) →
      (new.engine.evidence ≡ None → counter_in old.pads.used line ≡ last_counter limit →
      SameCounters counters old.engine.made counters' new.engine.made
      × ((history new.bus).accesses ≤ (history old.bus).accesses + counter_accesses old.engine.geometry.levels)) →
      HasCome terms (page_of line) old counters new counters' None → IsWrite terms limit line bytes old counters new counters' (Some (Spent page))
  spent_early new counters' page reached limit line bytes rose say reserved page_is last alone come =
      early_write terms old counters new counters' (Some (Spent page)) (reached_spent terms old counters new counters' page reached) limit line bytes rose (λ is. cc)
      (λ going. say) reserved (λ place is. absurd (cc))
      (λ other is. let same : page ≡ other = cc in (sym same ∙ page_is, last)) alone
      (come_idle terms (page_of line) old new new counters counters' (Some (Spent page)) refl refl refl come)

  -- Memory was taken, where the counters were had

  module _ (got : OutsideView B T) (counters' : CountersView) (a : IsReached terms old counters got counters' None) (unmoved : (bus : B) → moved bus [] bus)
      (moved_on : (first second third : B) (before after : List Access) → moved first before second → moved second after third → moved first (before ++ after) third) where
    pub refused_reached : (new : OutsideView B T) → DiffersInRoom got new → IsReached terms old counters new counters' (Some NoMemory)
    refused_reached new differs =
        reached_roomy terms unmoved moved_on old got new counters counters' (Some NoMemory) differs.room got.pads (λ place is. cc) refl refl
        (rw (← differs.bus, ← differs.engine, ← differs.pads) refl) a

    module _ (roomy : OutsideView B T) (taken : roomy ≡ with_room 64 64 got) where
      pub roomy_reached : IsReached terms old counters roomy counters' None
      roomy_reached =
          reached_roomy terms unmoved moved_on old got roomy counters counters' None 64 (pads_with_room 64 got.pads) (λ place is. cc) refl refl taken a

      roomy_terms : terms_of history moved d n roomy ≡ terms
      roomy_terms = same_terms history moved d n old roomy roomy_reached.node.step.tagger roomy_reached.node.step.geometry

      pub roomy_fits : CountersFit (terms_of history moved d n roomy) roomy counters'
      roomy_fits = subst (λ (t : MemoryTerms B). CountersFit t roomy counters') (sym roomy_terms) (roomy_reached.fits refl)

      -- there is memory for a page
      roomy_rooms : (64 ≤ roomy.pads.room) × (64 ≤ roomy.engine.room) × (length old.engine.made + 64 ≤ length roomy.engine.made + roomy.engine.room)
      roomy_rooms =
          let pads = ap (λ (o : OutsideView B T). o.pads.room) taken in
          let room = ap (λ (o : OutsideView B T). o.engine.room) taken in
          let made = ap length roomy_reached.node.step.made ∙ length-append old.engine.made roomy_reached.node.step.more in
          (omega (arith, pads), omega (arith, room), omega (arith, made, room))

  -- The counters of the page were had: its block says that of the line, by which a write was foreseen.
  pub record IsForeseen (limit line page place : ℕ) (got : OutsideView B T) (counters' : CountersView) (block : CounterBlockView) (counter : Counter) (foreseen : Bumped) : Type 0 where
    pub got_is : IsGot history moved d n line old counters got counters' None
    pub inside : line < line_count old.engine.geometry
    pub page_is : page ≡ page_of line
    pub place_is : place ≡ place_of line
    pub answer : block ≡ counters_in counters' got.engine.made page
    pub is_block : IsCounterBlock block
    pub counter_is : counter ≡ counter_of place block
    pub foreseen_is : foreseen ≡ bumped limit counter

pub foreseen_of : {B T : Type 0} {history : B → BusHistory} {moved : B → List Access → B → Type 0} {d n : T → List ℕ → List ℕ} {old : OutsideView B T} {counters : CountersView}
    {line page place : ℕ} {got : OutsideView B T} {counters' : CountersView} {block : CounterBlockView} {counter : Counter} {foreseen : Bumped} (limit : ℕ) →
    IsGot history moved d n line old counters got counters' None → line < line_count old.engine.geometry → page ≡ page_of line → place ≡ place_of line →
    block ≡ counters_in counters' got.engine.made page → IsCounterBlock block → counter ≡ counter_of place block → foreseen ≡ bumped limit counter →
    IsForeseen history moved d n old counters limit line page place got counters' block counter foreseen
foreseen_of limit got inside page_is place_is answer is_block counter_is foreseen_is = record {
  got_is = got;
  inside = inside;
  page_is = page_is;
  place_is = place_is;
  answer = answer;
  is_block = is_block;
  counter_is = counter_is;
  foreseen_is = foreseen_is;
}

module _ {B T : Type 0} {history : B → BusHistory} {moved : B → List Access → B → Type 0} {d n : T → List ℕ → List ℕ} {old : OutsideView B T} {counters : CountersView}
    (say : CountersSay (terms_of history moved d n old) old counters) {limit line page place : ℕ} {got : OutsideView B T} {counters' : CountersView} {block : CounterBlockView}
    {counter0 : Counter} {foreseen : Bumped} (had : IsForeseen history moved d n old counters limit line page place got counters' block counter0 foreseen) where
  abbrev seen : MemoryTerms B
  seen = terms_of history moved d n old

  abbrev got_quiet : got.engine.evidence ≡ None → old.engine.evidence ≡ None
  got_quiet quiet = was_none old.engine.evidence got.engine.evidence had.got_is.reached.node.step.evidence quiet

  pub block_at : got.engine.evidence ≡ None → block ≡ counters_in counters old.engine.made (page_of line)
  block_at quiet = had.answer ∙ had.got_is.same quiet page ∙ ap (counters_in counters old.engine.made) had.page_is

  page_within : page_of line < page_count seen.geometry
  page_within = omega (arith, had.inside)

  -- the line's counter
  pub counter_here : got.engine.evidence ≡ None → counter_in old.pads.used line ≡ counter0
  counter_here quiet =
      say (got_quiet quiet) (page_of line) page_within line refl
      ∙ ap (counter_of (place_of line)) (sym (block_at quiet))
      ∙ ap (λ (p : ℕ). counter_of p block) (sym had.place_is) ∙ sym had.counter_is

  -- a write is foreseen by the counters that were had, and counting it comes to that
  pub foreseen_here : foreseen ≡ bumped limit (counter_of (place_of line) (counters_in counters' got.engine.made (page_of line)))
  foreseen_here =
      had.foreseen_is ∙ ap (bumped limit) (counter_by counters' got.engine.made line page place block counter0 had.page_is had.place_is had.answer had.counter_is)

  pub counted_here : {counters'' : CountersView} {outcome : Bumped} → IsCounted counters' counters'' page place limit outcome → outcome ≡ foreseen
  counted_here is =
      is.comes ∙ ap (λ (b : CounterBlockView). bumped limit (counter_of place b)) (sym (had.answer ∙ counters_of_copy counters' got.engine.made page is.bytes is.copied))
      ∙ ap (bumped limit) (sym had.counter_is) ∙ sym had.foreseen_is

  -- and then they were counted up
  pub record CountedUp (roomy : OutsideView B T) (counters'' : CountersView) (outcome : Bumped) : Type 0 where
    pub taken : roomy ≡ with_room 64 64 got
    pub reached : IsReached seen old counters roomy counters'' None
    pub come : HasCome seen (page_of line) old counters roomy counters'' None
    pub by : CountedUpBy history moved d n roomy counters' counters'' page place limit outcome

  pub successive : (unmoved : (bus : B) → moved bus [] bus)
      (moved_on : (first second third : B) (before after : List Access) → moved first before second → moved second after third → moved first (before ++ after) third)
      (roomy : OutsideView B T) (counters'' : CountersView) (outcome : Bumped) → roomy ≡ with_room 64 64 got →
      CountedUpBy history moved d n roomy counters' counters'' page place limit outcome → CountedUp roomy counters'' outcome
  successive unmoved moved_on roomy counters'' outcome taken by =
      let fit = roomy_fits history moved d n old counters got counters' had.got_is.reached unmoved moved_on roomy taken in
      let before = roomy_reached history moved d n old counters got counters' had.got_is.reached unmoved moved_on roomy taken in
      let had_come : HasCome seen (page_of line) old counters roomy counters' None =
      come_idle seen (page_of line) old got roomy counters counters' None (ap (λ (o : OutsideView B T). o.bus) taken) (ap (λ (o : OutsideView B T). o.engine.made) taken)
      (ap (λ (o : OutsideView B T). o.engine.evidence) taken) had.got_is.come in
      record {
        taken = taken;
        reached = reached_up seen old counters roomy counters' counters'' before by.geometry
            (subst (λ (t : MemoryTerms B). CountersFit t roomy counters'') (roomy_terms history moved d n old counters got counters' had.got_is.reached unmoved moved_on roomy taken) (by.fits fit));
        come = come_on seen (page_of line) old roomy roomy counters counters' counters'' None had.got_is.reached.geometry before.node.step
            (step_not (history roomy.bus) roomy.engine) had_come
            (record {
              few = by.few;
              copies = λ quiet. rw (← had.page_is) (by.came fit quiet);
              unread = λ quiet level index none. refl;
            });
        by = by;
      }

  module _ (unmoved : (bus : B) → moved bus [] bus) (moved_on : (first second third : B) (before after : List Access) → moved first before second → moved second after third → moved first (before ++ after) third)
      {roomy : OutsideView B T} {counters'' : CountersView} {outcome : Bumped} (up : CountedUp roomy counters'' outcome) where
    pub mid_rooms : (64 ≤ roomy.pads.room) × (64 ≤ roomy.engine.room) × (length old.engine.made + 64 ≤ length roomy.engine.made + roomy.engine.room)
    mid_rooms = roomy_rooms history moved d n old counters got counters' had.got_is.reached unmoved moved_on roomy up.taken

    mid_quiet : roomy.engine.evidence ≡ None → got.engine.evidence ≡ None
    mid_quiet quiet = sym (ap (λ (o : OutsideView B T). o.engine.evidence) up.taken) ∙ quiet

    roomy_block : roomy.engine.evidence ≡ None → (other : ℕ) → counters_in counters' roomy.engine.made other ≡ counters_in counters old.engine.made other
    roomy_block quiet other = ap (λ (o : OutsideView B T). counters_in counters' o.engine.made other) up.taken ∙ had.got_is.same (mid_quiet quiet) other

    up_by : CountedUpBy history moved d n roomy counters' counters'' (page_of line) (place_of line) limit outcome
    up_by = rw (← had.page_is, ← had.place_is) up.by

    abbrev block_before : CounterBlockView
    block_before = counters_in counters old.engine.made (page_of line)

    up_bumped : roomy.engine.evidence ≡ None → bumped limit (counter_of (place_of line) block_before) ≡ outcome
    up_bumped quiet = sym (up_by.outcome_is ∙ ap (λ (b : CounterBlockView). bumped limit (counter_of (place_of line) b)) (roomy_block quiet (page_of line)))

    -- as it was foreseen
    pub up_foreseen : foreseen ≡ outcome
    up_foreseen =
        foreseen_here ∙ sym (up_by.outcome_is
        ∙ ap (λ (o : OutsideView B T). bumped limit (counter_of (place_of line) (counters_in counters' o.engine.made (page_of line)))) up.taken)

    -- Lines of the page were encrypted since: its block, as it was counted up, says so, and the others say what they said.
    says_after : (new : OutsideView B T) (counter : Counter) (lines : List ℕ) → roomy.engine.evidence ≡ None →
        ((other : ℕ) → Contains lines other → page_of other ≡ page_of line) → new.pads.used ≡ roomy.pads.used ++ map (λ at. (at, counter)) lines →
        ((page : ℕ) → counters_in counters'' new.engine.made page ≡ counters_in counters'' roomy.engine.made page) →
        IsOfPage (old.pads.used ++ map (λ at. (at, counter)) lines) (page_of line) (after_bump (place_of line) limit block_before).1 →
        CountersSay seen new counters''
    says_after new counter lines quiet of_page entries kept here = λ still page inside other on_page.
        let said : counter_in (old.pads.used ++ map (λ at. (at, counter)) lines) other
        ≡ counter_of (place_of other) (counters_in counters'' roomy.engine.made page) =
        elim (cases_eq page (page_of line)) [
          | inl same ↦
              here other (on_page ∙ same)
              ∙ ap (λ (b : CounterBlockView). counter_of (place_of other) (after_bump (place_of line) limit b).1) (sym (roomy_block quiet (page_of line)))
              ∙ ap (counter_of (place_of other)) (sym up_by.now)
              ∙ ap (λ (p : ℕ). counter_of (place_of other) (counters_in counters'' roomy.engine.made p)) (sym same)
          | inr differs ↦
              counter_beside counter lines old.pads.used other (λ listed. differs (sym on_page ∙ of_page other listed))
              ∙ say (got_quiet (mid_quiet quiet)) page inside other on_page
              ∙ ap (counter_of (place_of other)) (sym (up_by.others page differs ∙ roomy_block quiet page))
        ] in
        ap (λ (used : List (ℕ × Counter)). counter_in used other)
        (entries ∙ ap (λ (used : List (ℕ × Counter)). used ++ map (λ at. (at, counter)) lines) up.reached.node.used)
        ∙ said ∙ ap (counter_of (place_of other)) (sym (kept page))

    mid_terms : terms_of history moved d n roomy ≡ seen
    mid_terms = same_terms history moved d n old roomy up.reached.node.step.tagger up.reached.node.step.geometry

    pub mid_kept : AreConsistent (terms_of history moved d n roomy) roomy
    mid_kept = subst (λ (t : MemoryTerms B). AreConsistent t roomy) (sym mid_terms) up.reached.node.consistent

    pub mid_last : HaveLast (terms_of history moved d n roomy) roomy
    mid_last = subst (λ (t : MemoryTerms B). HaveLast t roomy) (sym mid_terms) up.reached.node.holds_last

    pub mid_rose : HaveRisen seen old → HaveRisen (terms_of history moved d n roomy) roomy
    mid_rose rose = reached_risen seen old counters roomy counters'' None up.reached rose

    pub mid_inside : line < line_count roomy.engine.geometry
    mid_inside = subst (λ (l : GeometryView). line < line_count l) (sym up.reached.node.step.geometry) had.inside

    -- each line of the page has the counter that its block said
    pub mid_counters : (old.engine.evidence ≡ None → (at : ℕ) → HasCounter old.pads.used at (counter_in old.pads.used at)) → roomy.engine.evidence ≡ None →
        (at : ℕ) → page_of at ≡ page_of line → HasCounter roomy.pads.used at (counter_of (place_of at) block)
    mid_counters started quiet at of_page =
        let was_quiet = got_quiet (mid_quiet quiet) in
        let said : counter_in old.pads.used at ≡ counter_of (place_of at) block =
        say was_quiet (page_of line) page_within at of_page ∙ ap (counter_of (place_of at)) (sym (block_at (mid_quiet quiet))) in
        rw (up.reached.node.used, ← said) (started was_quiet at)

    -- and an overflow raises the page counter
    pub mid_later : (raised : ℕ) → outcome ≡ page_up raised →
        ((next : ℕ) → foreseen ≡ page_up next → (counter0.line ≡ 127) × (counter0.page < limit) × (next ≡ counter0.page + 1)) →
        roomy.engine.evidence ≡ None → block.page < raised
    mid_later raised is page_next quiet =
        let facts = page_next raised (up_foreseen ∙ is) in
        let same : counter0.page ≡ block.page = ap (λ (c : Counter). c.page) had.counter_is in
        omega (arith, facts.2, same)

    module _ (started : old.engine.evidence ≡ None → (at : ℕ) → HasCounter old.pads.used at (counter_in old.pads.used at)) (bytes : List ℕ) where
      path_on : roomy.engine.evidence ≡ None → ¬ Contains (cached_pages counters) (page_of line) →
          PathWasRead counters.tree old.engine.made 0 (page_of line) (history old.bus) (history roomy.bus)
      path_on quiet missed =
          path_more counters.tree old.engine.made (page_of line) (history old.bus) (history got.bus) (history roomy.bus)
          (λ place. omega (arith, ap (λ (o : OutsideView B T). (history o.bus).reads place) up.taken))
          (had.got_is.path refl (mid_quiet quiet) missed)

      -- A line counter went up

      module _ (counter : Counter) (is : outcome ≡ line_up counter) (some : 0 < counter.line)
          (line_next : (next : Counter) → foreseen ≡ line_up next → (counter0.line < 127) × (next ≡ next_counter counter0)) (new : OutsideView B T)
          (used : new.pads ≡ after_encrypt line counter roomy.pads)
          (made : new.engine ≡ after_make (line_message line counter (cipher_of roomy.pads.key line counter bytes)) roomy.engine)
          (undone : cipher_of roomy.pads.key line counter (cipher_of roomy.pads.key line counter bytes) ≡ bytes)
          (moves : StepMoves (history roomy.bus) roomy.engine (history new.bus) new.engine)
          (honest : (used more : List (ℕ × Counter)) →
          IsAccounted (tags_of d n roomy.engine) used roomy.engine.made (history roomy.bus) None roomy.engine.evidence →
          IsAccounted (tags_of d n roomy.engine) more new.engine.made (history new.bus) None new.engine.evidence) where
        next_is : roomy.engine.evidence ≡ None → ((counter_in old.pads.used line).line < 127) × (counter ≡ next_counter (counter_in old.pads.used line))
        next_is quiet = rw (counter_here (mid_quiet quiet)) (line_next counter (up_foreseen ∙ is))

        new_quiet : new.engine.evidence ≡ None → roomy.engine.evidence ≡ None
        new_quiet quiet = was_none roomy.engine.evidence new.engine.evidence moves.evidence quiet

        had_it : roomy.engine.evidence ≡ None → HasCounter roomy.pads.used line (counter_in old.pads.used line) × IsBefore (counter_in old.pads.used line) counter
        had_it quiet =
            (rw up.reached.node.used (started (got_quiet (mid_quiet quiet)) line), rw (next_is quiet).1 (next_after (counter_in old.pads.used line)))

        one_line : line ∷ [] ≡ lines_encrypted counter line
        one_line = sym (encrypted_line counter line (λ none. omega (arith, none, some)))

        line_stops : (stop : Option MemStop) → ((place : Place) → stop ≢ Some (Tampered place)) → (lasting_stop stop ≡ None → stop ≡ None) →
            HaveRisen seen old →
            AreSealed (terms_of history moved d n roomy) (record { line = line; bytes = bytes; counter = counter }) roomy (line ∷ []) new stop →
            IsWrite seen limit line bytes old counters new counters'' stop
        line_stops stop untampered going rose sealed =
            let write : LineWrite = record { line = line; bytes = bytes; counter = counter } in
            let in_terms : AreSealed seen write roomy (line ∷ []) new stop =
            subst (λ (t : MemoryTerms B). AreSealed t write roomy (line ∷ []) new stop) mid_terms sealed in
            let in_order : AreSealedInOrder seen write roomy (lines_encrypted counter line) new stop =
            subst (λ (xs : List ℕ). AreSealedInOrder seen write roomy xs new stop) one_line
            (all_in_order seen write roomy (line ∷ []) new stop in_terms (λ quiet. own_reread line roomy.pads.used (history roomy.bus) (history new.bus)) untampered) in
            late_write seen old counters roomy counters'' new up.reached line bytes counter stop in_order moved_on limit
            (λ quiet. (next_is (new_quiet quiet)).1) (λ quiet. line_not_last limit (counter_in old.pads.used line) (next_is (new_quiet quiet)).0)
            (λ none quiet.
            let calm = new_quiet quiet in
            let was : IsOfPage old.pads.used (page_of line) block_before = say (got_quiet (mid_quiet calm)) (page_of line) page_within in
            let not_full : (counter_in old.pads.used line).line ≢ 127 = λ full. omega (arith, full, (next_is calm).0) in
            says_after new counter (line ∷ []) calm (λ other listed. ap page_of (sym (listed_one line other listed))) in_terms.entries
            (late_counters seen old counters roomy counters'' new up.reached line bytes counter stop in_order)
            (bumped_line old.pads.used line limit counter block_before (subst IsCounterBlock (block_at (mid_quiet calm)) had.is_block) was (up_bumped calm ∙ is)
            (ap (λ (c : Counter). c.page) ((next_is calm).1 ∙ next_line (counter_in old.pads.used line) not_full) ∙ ap (λ (c : Counter). c.page) (was line refl))) quiet)
            mid_rooms.0 mid_rooms.2 path_on (λ place is. absurd (untampered place is)) going up.come

        pub line_written : HaveRisen seen old → MakesAccesses moved (tags_of d n roomy.engine) roomy.bus roomy.engine new.bus new.engine None →
            history new.bus ≡ after_write (line_place line) (sealed_line (tags_of d n roomy.engine) line counter (cipher_of roomy.pads.key line counter bytes)) (history roomy.bus) →
            IsWrite seen limit line bytes old counters new counters'' None
        line_written rose trace wrote =
            line_stops None (λ place is. cc) (λ going. refl) rose
            (one_sealed (terms_of history moved d n roomy) (record { line = line; bytes = bytes; counter = counter }) roomy new line (counter_in old.pads.used line) bytes
            mid_kept (mid_rose rose) mid_last mid_inside had_it (inl (refl, refl)) used made undone moves honest trace wrote)

        pub line_unwritten : HaveRisen seen old → MakesAccesses moved (tags_of d n roomy.engine) roomy.bus roomy.engine new.bus new.engine (Some NoMemory) →
            history new.bus ≡ history roomy.bus → IsWrite seen limit line bytes old counters new counters'' (Some NoMemory)
        line_unwritten rose trace same =
            line_stops (Some NoMemory) (λ place is. cc) (λ going. absurd (cc)) rose
            (one_unwritten (terms_of history moved d n roomy) (record { line = line; bytes = bytes; counter = counter }) roomy new line (counter_in old.pads.used line) bytes
            mid_kept (mid_rose rose) mid_last mid_inside had_it (inl (refl, refl)) used made undone moves honest trace same)

      -- The page counter went up

      module _ (raised : ℕ) (is : outcome ≡ page_up raised)
          (page_next : (next : ℕ) → foreseen ≡ page_up next → (counter0.line ≡ 127) × (counter0.page < limit) × (next ≡ counter0.page + 1))
          (new : OutsideView B T) (stop : Option MemStop)
          (sealed : AreSealedInOrder (terms_of history moved d n roomy) (record { line = line; bytes = bytes; counter = record { page = raised; line = 0 } }) roomy
          (page_lines (page_of line)) new stop) where
        abbrev paged : Counter
        paged = record { page = raised; line = 0 }

        page_facts : roomy.engine.evidence ≡ None → ((counter_in old.pads.used line).line ≡ 127) × ((counter_in old.pads.used line).page < limit)
            × (paged ≡ next_counter (counter_in old.pads.used line))
        page_facts quiet =
            let facts = rw (← counter_here (mid_quiet quiet)) at (page_next raised (up_foreseen ∙ is)) in (
              facts.0,
              facts.1,
              ap (λ (p : ℕ). let c : Counter = record { page = p; line = 0 } in c) facts.2
                  ∙ sym (next_page (counter_in old.pads.used line) facts.0),
            )

        page_quiet : new.engine.evidence ≡ None → roomy.engine.evidence ≡ None
        page_quiet quiet = was_none roomy.engine.evidence new.engine.evidence sealed.sealed.step.evidence quiet

        pub page_overflows : new.engine.evidence ≡ None → (next_counter (counter_in old.pads.used line)).line ≡ 0
        page_overflows quiet =
            ap (λ (c : Counter). c.line) (next_page (counter_in old.pads.used line)
            (page_facts (page_quiet quiet)).0)

        page_order : AreSealedInOrder seen (record { line = line; bytes = bytes; counter = paged }) roomy (lines_encrypted paged line) new stop
        page_order =
            rw (encrypted_page paged line refl)
            (subst (λ (t : MemoryTerms B). AreSealedInOrder t (record { line = line; bytes = bytes; counter = paged }) roomy (page_lines (page_of line)) new stop) mid_terms sealed)

        page_say : stop ≡ None → CountersSay seen new counters''
        page_say none quiet =
            let every : take page_order.count (lines_encrypted paged line) ≡ lines_encrypted paged line =
            take_all page_order.count (lines_encrypted paged line) (omega (arith, page_order.whole none)) in
            says_after new paged (page_lines (page_of line)) (page_quiet quiet) (λ other listed. listed_page (page_of line) other listed)
            (page_order.sealed.entries ∙ ap (λ (xs : List ℕ). roomy.pads.used ++ map (λ at. (at, paged)) xs) (every ∙ encrypted_page paged line refl))
            (late_counters seen old counters roomy counters'' new up.reached line bytes paged stop page_order)
            (bumped_page old.pads.used line (place_of line) limit raised block_before (up_bumped (page_quiet quiet) ∙ is)) quiet

        pub page_written : IsWrite seen limit line bytes old counters new counters'' stop
        page_written =
            late_write seen old counters roomy counters'' new up.reached line bytes paged stop page_order moved_on limit
            (λ quiet. (page_facts (page_quiet quiet)).2)
            (λ quiet. page_not_last limit (counter_in old.pads.used line) (page_facts (page_quiet quiet)).1) page_say
            mid_rooms.0 mid_rooms.2 path_on (λ place is. refl) (unspent_going stop page_order.sealed.unspent) up.come
