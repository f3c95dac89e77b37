-- What a run read from the places of the lines, and of the pages' counter blocks.
use Rattle.std.proofs.Common.{◌≡◌, inl, inr, ◌+◌, ◌*◌, ◌<◌, ◌≤◌, ◌⊎◌, ◌++◌, ℕ, List, [], true, false, take, map, length, length-append, Option, None, refl, sym, ap, ◌∙◌, subst, arith}
use Rattle.std.specs.Prelude.{not, nat_eq, Contains}
use Rattle.std.specs.List.{list_any}
use Rattle.std.specs.Option.{option_map}
use Rattle.std.proofs.lemmas.Bool.{false≢true, cases_lt}
use Rattle.std.proofs.lemmas.List.{drop_all, get_or-replicate, length-map}
use Rattle.sec_base.specs.declared.counter.Counter.{Counter}
use Rattle.sec_base.specs.declared.message.Message.{Message}
use Rattle.sec_base.specs.declared.place.Place.{Place}
use Rattle.sec_base.specs.declared.place.Place.TheVariants.{Line as line_place, Node}
use Rattle.sec_base.specs.Count.{Rose, RoseBy}
use Rattle.sec_base.specs.Gain.{Gain}
use Rattle.sec_base.specs.Geometry.{GeometryView, line_count, page_count, page_of}
use Rattle.sec_base.specs.LastMessage.{last_data, last_node}
use Rattle.sec_base.specs.Lines.{line_at}
use Rattle.sec_base.proofs.Gains.{gain_none, gain_on}
use Rattle.sec_base.proofs.JoinedLines.{line_at-joined_lines}
use Rattle.sec_base.proofs.Results.{was_none}
use Rattle.bus_model.specs.Access.{Access}
use Rattle.bus_model.specs.BusHistory.{BusHistory}
use Rattle.tag_engine.specs.TagEngine.{TagEngineView}
use Rattle.rv32_core.specs.Machine.{Machine}
use Rattle.rv32_core.specs.Turnover.{is_old, page_turnover, turnover, turnover_by}
use Rattle.rv32_run.specs.Trail.{HasTrail}
use Rattle.rv32_run.proofs.Windows.{Chip, turnover_begun}
use Rattle.split_counter.specs.CounterBlock.{block_of, counter_of, new_block, place_of}
use Rattle.split_counter.specs.Digits.{digits_of, number_of}
use Rattle.bonsai_tree.specs.Node.{current_of, no_block}
use Rattle.bonsai_tree.specs.NodeCache.{copy_of}
use Rattle.counter_cache.specs.Counters.{current_page, most_blocks}
use Rattle.page_reencrypt.specs.Contents.{bytes_of, contents_of, counter_in, line_bytes, never_written}
use Rattle.page_reencrypt.specs.LineLengths.{length-contents_of, length-line_bytes}
use Rattle.page_reencrypt.specs.LineMoves.{FitsUnlessStopped}
use Rattle.page_reencrypt.specs.SealedLines.{FitsTogether, enc_key, geometry, contents as line_contents}
use Rattle.page_reencrypt.specs.Stops.{lasting_stop}
use Rattle.page_reencrypt.proofs.RisingPairs.{last_none}
use Rattle.page_reencrypt.proofs.Sealing.{listed_or_not}
use Rattle.cache_set.specs.declared.way.Way.{Way}
use Rattle.cache_set.specs.Cache.{way_at}
use Rattle.line_cache.specs.LineCache.{contents_over, most_held}
use Rattle.line_cache.specs.Moving.{length-contents_over}
use Rattle.line_cache.proofs.Lines.{over_unheld}
use Rattle.cache_set.proofs.Bringing.{unheld_none}
use Rattle.secure_memory.specs.SecureRam.{IsMoved, IsQuiet, SecureRamView, cached_pages, contents, evidence, held_lines, lines_of, made, pages_on_chip, stopped, used}
use Rattle.secure_memory.specs.Moving.{moved_on, on_chip_of_line, on_chip_of_page, unmoved}
use Rattle.chip_run.proofs.TurnoverCases.{turned_by_none}

-- a line past the end has no bytes, and one that was never tagged has zeros
past_is_blank : (contents : List ℕ) (line : ℕ) → length contents ≤ 64 * line → is_old contents line ≡ false
past_is_blank contents line past = ap (λ (rest : List ℕ). list_any (λ byte. not (nat_eq byte 0)) (take 64 rest)) (drop_all (64 * line) contents past)

pub untagged_is_blank : {B T : Type 0} (memory : SecureRamView B T) (line : ℕ) → ¬ Contains (held_lines memory) line → last_data line (made memory) ≡ None →
    is_old (contents memory) line ≡ false
untagged_is_blank memory line unheld none =
    let key = enc_key memory.lines in
    let lines = lines_of memory in
    let stored = contents_of key lines (made memory) in
    elim (cases_lt line lines) [
      | inl inside ↦
          let there : line_at (contents_over stored lines memory.ways) line ≡ bytes_of key line None =
          over_unheld stored lines memory.ways line (length-contents_of key lines (made memory)) inside (unheld_none memory.ways line unheld)
          ∙ line_at-joined_lines (line_bytes key (made memory)) lines line (length-line_bytes key (made memory)) inside ∙ ap (bytes_of key line) none in
          ap (list_any (λ byte. not (nat_eq byte 0))) there
      | inr past ↦ past_is_blank (contents_over stored lines memory.ways) line (omega (arith, past, length-contents_over stored lines memory.ways))
    ]

old_is_inside : (stored : List ℕ) (lines : ℕ) (ways : List (List Way)) (line : ℕ) → is_old (contents_over stored lines ways) line ≡ true → line < lines
old_is_inside stored lines ways line old =
    elim (cases_lt line lines) [
      | inl inside ↦ inside
      | inr past ↦ absurd (false≢true (sym (past_is_blank (contents_over stored lines ways) line (omega (arith, past, length-contents_over stored lines ways))) ∙ old))
    ]

-- few lines, or pages, had copies as a run began
pub few_begun : (most : ℕ) (booted stored begun : List ℕ) → booted ≡ [] → (length booted ≤ most → length stored ≤ most) → begun ≡ stored → length begun ≤ most
few_begun most booted stored begun none stays same =
    let nothing : length booted ≡ 0 = ap length none in
    let as_many : length begun ≡ length stored = ap length same in
    let few = stays (omega (arith, nothing)) in
    omega (arith, few, as_many)

-- something of few pages is on the chip where few lines and few counter blocks have copies
few_pages : {B T : Type 0} (memory : SecureRamView B T) → length (held_lines memory) ≤ most_held → length (cached_pages memory) ≤ most_blocks →
    length (pages_on_chip memory) ≤ 160
few_pages memory few few_blocks =
    omega (arith, few, few_blocks, length-append (map page_of (held_lines memory)) (cached_pages memory), length-map {A = ℕ} {B = ℕ})

-- an old line was held, or was read
old_was_had : {B T : Type 0} (history : B → BusHistory) (bus_moved : B → List Access → B → Type 0) (tags : TagEngineView T → Message → List ℕ) (old new : SecureRamView B T) (lines : List ℕ) (line : ℕ) →
    IsMoved history bus_moved tags old lines new → stopped new ≡ None → IsQuiet new → Contains lines line → is_old (contents old) line ≡ true →
    Contains (held_lines old) line ⊎ Rose ((history old.lines.bus).reads (line_place line)) ((history new.lines.bus).reads (line_place line))
old_was_had history bus_moved tags old new lines line moved going quiet listed is =
    elim ((moved.had going quiet).touched line listed).0 [
      | inl held ↦ inl held
      | inr had ↦ elim had [
        | inl never ↦
            elim (listed_or_not (held_lines old) line) [
              | inl held ↦ inl held
              | inr unheld ↦ absurd (false≢true (sym (untagged_is_blank old line unheld never) ∙ is))
            ]
        | inr rose ↦ inr rose
      ]
    ]

-- A block of zeros says the counter of a line that was never written

zeros_are_new : block_of no_block ≡ new_block
unfolding block_of digits_of number_of
zeros_are_new = refl

zeros_say : (line : ℕ) → counter_of (place_of line) (block_of no_block) ≡ never_written
zeros_say line =
    ap (counter_of (place_of line)) zeros_are_new
    ∙ ap (λ (n : ℕ). let counter : Counter = record { page = 0; line = n } in counter) (get_or-replicate 64 (place_of line) 0 0 (omega arith))

-- so a line is blank where nothing of its page is on the chip, and its page's counter block was never made
unmade_is_blank : {B T : Type 0} (tag_of : Message → List ℕ) (history : BusHistory) (memory : SecureRamView B T) (line : ℕ) →
    FitsTogether tag_of (geometry memory.lines) memory.lines.counters history (made memory) (used memory) → line < lines_of memory →
    last_node 0 (page_of line) (made memory) ≡ None → ¬ Contains (pages_on_chip memory) (page_of line) → is_old (contents memory) line ≡ false
unmade_is_blank tag_of history memory line fits inside never away =
    let unheld : ¬ Contains (held_lines memory) line = λ held. away (on_chip_of_line (held_lines memory) (cached_pages memory) line held) in
    let uncached : way_at memory.lines.counters.blocks (page_of line) ≡ None =
    unheld_none memory.lines.counters.blocks (page_of line) (λ cached. away (on_chip_of_page (held_lines memory) (cached_pages memory) (page_of line) cached)) in
    let zeros : current_page memory.lines.counters (made memory) (page_of line) ≡ no_block =
    ap (λ (way : Option Way). current_of (option_map copy_of way) (last_node 0 (page_of line) (made memory))) uncached ∙ ap (current_of None) never in
    let unwritten : counter_in (used memory) line ≡ never_written =
    fits.current (page_of line) (omega (arith, inside)) line refl
    ∙ ap (λ (block : List ℕ). counter_of (place_of line) (block_of block)) zeros ∙ zeros_say line in
    untagged_is_blank memory line unheld
    (last_none (lines_of memory) (made memory) (used memory) line fits.paired inside ((fits.fresh line).0 unwritten))

-- of the page of an old line something was on the chip, or its counter block was read
page_was_had : {B T : Type 0} (history : B → BusHistory) (bus_moved : B → List Access → B → Type 0) (tags : TagEngineView T → Message → List ℕ) (old new : SecureRamView B T) (lines : List ℕ) (line : ℕ) →
    IsMoved history bus_moved tags old lines new → FitsUnlessStopped history bus_moved tags old.lines → stopped new ≡ None → IsQuiet new → Contains lines line → is_old (contents old) line ≡ true →
    Contains (pages_on_chip old) (page_of line) ⊎ Rose ((history old.lines.bus).reads (Node 0 (page_of line))) ((history new.lines.bus).reads (Node 0 (page_of line)))
page_was_had history bus_moved tags old new lines line moved fits going quiet listed is =
    elim ((moved.had going quiet).touched line listed).1 [
      | inl there ↦ inl there
      | inr had ↦ elim had [
        | inl never ↦
            elim (listed_or_not (pages_on_chip old) (page_of line)) [
              | inl there ↦ inl there
              | inr away ↦
                  let going_before : stopped old ≡ None = was_none (stopped old) (stopped new) moved.stays going in
                  let quiet_before : IsQuiet old = was_none (evidence old) (evidence new) moved.moves.step.evidence quiet in
                  let inside = old_is_inside (line_contents old.lines) (lines_of old) old.ways line is in
                  absurd (false≢true (sym (unmade_is_blank (tags old.lines.engine) (history old.lines.bus) old line (fits (ap lasting_stop going_before) quiet_before) inside never away) ∙ is))
            ]
        | inr rose ↦ inr rose
      ]
    ]

-- it has this geometry, few lines and few counter blocks have copies, and what stands outside fits what the chip has of it
pub record IsBooted {B T : Type 0} (history : B → BusHistory) (bus_moved : B → List Access → B → Type 0) (tags : TagEngineView T → Message → List ℕ) (shape : GeometryView)
    (memory : SecureRamView B T) : Type 0 where
  pub geometry_are : geometry memory.lines ≡ shape
  pub few : length (held_lines memory) ≤ most_held
  pub few_blocks : length (cached_pages memory) ≤ most_blocks
  pub fits : FitsUnlessStopped history bus_moved tags memory.lines

page_inside : {B T : Type 0} (shape : GeometryView) (memory : SecureRamView B T) (line : ℕ) → geometry memory.lines ≡ shape → is_old (contents memory) line ≡ true → page_of line < page_count shape
page_inside shape memory line fits old =
    let inside = subst (λ (n : GeometryView). line < line_count n) fits (old_is_inside (line_contents memory.lines) (lines_of memory) memory.ways line old) in
    omega (arith, inside)

module _ {B T : Type 0} (history : B → BusHistory) (bus_moved : B → List Access → B → Type 0) (tags : TagEngineView T → Message → List ℕ)
    (bus_unmoved : (bus : B) → bus_moved bus [] bus)
    (tags_stay : (engine engine' : TagEngineView T) → engine'.geometry ≡ engine.geometry → engine'.tagger ≡ engine.tagger → tags engine' ≡ tags engine)
    (bus_moved_on : (a b c : B) (before after : List Access) → bus_moved a before b → bus_moved b after c → bus_moved a (before ++ after) c) (shape : GeometryView) where
  still_booted : (a b : SecureRamView B T) (lines : List ℕ) → IsMoved history bus_moved tags a lines b → IsBooted history bus_moved tags shape a → IsBooted history bus_moved tags shape b
  still_booted a b lines moved booted = record {
    geometry_are = moved.moves.step.geometry ∙ booted.geometry_are;
    few = moved.few booted.few;
    few_blocks = moved.copies.few_blocks booted.few_blocks;
    fits = moved.fits booted.fits;
  }

  -- the memory as a chip that holds some lines, and as one that has something of some pages
  holds_lines : Chip
  holds_lines = record {
    M = SecureRamView B T;
    contents = λ m. contents m;
    stopped = λ m. stopped m;
    moved = λ a xs b. IsMoved history bus_moved tags a xs b;
    quiet = λ m. IsQuiet m;
    fits = λ m. IsBooted history bus_moved tags shape m;
    reads = λ m line. (history m.lines.bus).reads (line_place line);
    kept = λ m. held_lines m;
    group = λ line. line;
    places = line_count shape;
    bound = 129;
    unmoved = λ m. unmoved history bus_moved tags bus_unmoved m;
    moved_on = λ a b c xs ys first second. moved_on history bus_moved tags tags_stay bus_moved_on a b c xs ys first second;
    sooner = λ a b xs moved quiet. was_none a.lines.engine.evidence b.lines.engine.evidence moved.moves.step.evidence quiet;
    later = λ a b xs moved fits. still_booted a b xs moved fits;
    rises = λ a b xs moved line. moved.moves.step.reads (line_place line);
    few = λ m fits. omega (arith, fits.few);
    inside = λ m line fits old.
        subst (λ (n : GeometryView). line < line_count n) fits.geometry_are (old_is_inside (line_contents m.lines) (lines_of m) m.ways line old);
    paid = λ a b xs moved fits going quiet line listed old. old_was_had history bus_moved tags a b xs line moved going quiet listed old;
  }

  has_pages : Chip
  has_pages = record {
    M = SecureRamView B T;
    contents = λ m. contents m;
    stopped = λ m. stopped m;
    moved = λ a xs b. IsMoved history bus_moved tags a xs b;
    quiet = λ m. IsQuiet m;
    fits = λ m. IsBooted history bus_moved tags shape m;
    reads = λ m page. (history m.lines.bus).reads (Node 0 page);
    kept = λ m. pages_on_chip m;
    group = page_of;
    places = page_count shape;
    bound = 161;
    unmoved = λ m. unmoved history bus_moved tags bus_unmoved m;
    moved_on = λ a b c xs ys first second. moved_on history bus_moved tags tags_stay bus_moved_on a b c xs ys first second;
    sooner = λ a b xs moved quiet. was_none a.lines.engine.evidence b.lines.engine.evidence moved.moves.step.evidence quiet;
    later = λ a b xs moved fits. still_booted a b xs moved fits;
    rises = λ a b xs moved page. moved.moves.step.reads (Node 0 page);
    few = λ m fits. omega (arith, few_pages m fits.few fits.few_blocks);
    inside = λ m line fits old. page_inside shape m line fits.geometry_are old;
    paid = λ a b xs moved fits going quiet line listed old. page_was_had history bus_moved tags a b xs line moved fits.fits going quiet listed old;
  }

  -- What was read from places that a function names, by a run that began with a memory and by the calls before it.
  all_read : (reads : B → ℕ → ℕ) (places turned : ℕ) (bus closed : B) (first end : SecureRamView B T) →
      Gain places (reads first.lines.bus) (reads end.lines.bus) turned → ((place : ℕ) → RoseBy 0 (reads bus place) (reads first.lines.bus place)) →
      ((place : ℕ) → RoseBy 0 (reads first.lines.bus place) (reads end.lines.bus place)) → closed ≡ end.lines.bus → Gain places (reads bus) (reads closed) turned
  all_read reads places turned bus closed first end ran before during is =
      let stored : Gain places (reads bus) (reads first.lines.bus) 0 = gain_none places (reads bus) (reads first.lines.bus) before in
      let whole : Gain places (reads bus) (reads end.lines.bus) (0 + turned) =
      gain_on places (reads bus) (reads first.lines.bus) (reads end.lines.bus) 0 turned during stored ran in
      let none : 0 + turned ≡ turned = omega arith in
      subst (λ (b : B). Gain places (reads bus) (reads b) turned) (sym is)
      (subst (λ (k : ℕ). Gain places (reads bus) (reads end.lines.bus) k) none whole)

  -- a whole run
  module _ (from n count : ℕ) (start : Machine) (bus closed : B) (first end : SecureRamView B T) (listed : List ℕ)
      (moved : IsMoved history bus_moved tags first listed end) (begun : from ≡ 0) (same : contents first ≡ start.state.memory) (fits : IsBooted history bus_moved tags shape first) (quiet : IsQuiet end)
      (went : HasTrail (λ m. stopped m) (λ m. contents m) (λ a xs b. IsMoved history bus_moved tags a xs b) start from n first end)
      (as_many : count ≡ n) (before : (place : Place) → RoseBy 0 ((history bus).reads place) ((history first.lines.bus).reads place)) (is : closed ≡ end.lines.bus) where
    lines_turned : Gain (line_count shape) (λ line. (history bus).reads (line_place line)) (λ line. (history closed).reads (line_place line)) (turnover start count)
    unfolding holds_lines
    lines_turned =
        subst (λ (k : ℕ). Gain (line_count shape) (λ line. (history bus).reads (line_place line)) (λ line. (history closed).reads (line_place line)) (turnover start k)) (sym as_many)
        (all_read (λ b line. (history b).reads (line_place line)) (line_count shape) (turnover start n) bus closed first end
        (turnover_begun holds_lines start from n first end begun same fits quiet went)
        (λ line. before (line_place line)) (λ line. moved.moves.step.reads (line_place line)) is)

    pages_turned : Gain (page_count shape) (λ page. (history bus).reads (Node 0 page)) (λ page. (history closed).reads (Node 0 page)) (page_turnover start count)
    unfolding has_pages
    pages_turned =
        subst (λ (k : ℕ). Gain (page_count shape) (λ page. (history bus).reads (Node 0 page)) (λ page. (history closed).reads (Node 0 page)) (page_turnover start k)) (sym as_many)
        (all_read (λ b page. (history b).reads (Node 0 page)) (page_count shape) (page_turnover start n) bus closed first end
        (turnover_begun has_pages start from n first end begun same fits quiet went)
        (λ page. before (Node 0 page)) (λ page. moved.moves.step.reads (Node 0 page)) is)

    pub run_turned : Gain (line_count shape) (λ line. (history bus).reads (line_place line)) (λ line. (history closed).reads (line_place line)) (turnover start count)
        × Gain (page_count shape) (λ page. (history bus).reads (Node 0 page)) (λ page. (history closed).reads (Node 0 page)) (page_turnover start count)
    run_turned = (lines_turned, pages_turned)

-- a run of no instruction, in which no count of reads fell
pub nothing_turned : (group : ℕ → ℕ) (bound : ℕ) (start : Machine) (places n : ℕ) (old new : ℕ → ℕ) → n ≡ 0 → ((place : ℕ) → RoseBy 0 (old place) (new place)) → Gain places old new (turnover_by group bound start n)
nothing_turned group bound start places n old new none rises =
    subst (λ (k : ℕ). Gain places old new (turnover_by group bound start k)) (sym none)
    (subst (λ (turned : ℕ). Gain places old new turned) (sym (turned_by_none group bound start)) (gain_none places old new rises))
