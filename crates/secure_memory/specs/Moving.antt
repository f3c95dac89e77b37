-- What calls make of a memory, one after another.
use Rattle.std.proofs.Common.{◌≡◌, ◌⊎◌, inl, inr, ℕ, ◌<◌, List, [], ◌++◌, map, take, get_or, Some, None, Contains, length, refl, ap, sym, ◌∙◌, subst, append_assoc, arith}
use Rattle.std.specs.List.{slice_get}
use Rattle.std.proofs.lemmas.Bool.{cases_lt}
use Rattle.std.proofs.lemmas.List.{get_or-map, length-map, take-append-le}
use Rattle.std.proofs.lemmas.List.Elements.{Contains-append_cases, Contains-append_left, Contains-append_right, Contains-get_or}
use Rattle.std.proofs.lemmas.Option.{slice_get-get_or}
use Rattle.sec_base.specs.Geometry.{page_of}
use Rattle.sec_base.specs.LastMessage.{data_part, last_data, last_node, node_part}
use Rattle.sec_base.specs.Lines.{line_at}
use Rattle.sec_base.specs.declared.message.Message.{Message}
use Rattle.sec_base.specs.declared.message.Message.TheVariants.{Line}
use Rattle.sec_base.specs.declared.place.Place.TheVariants.{Line as line_place, Node}
use Rattle.sec_base.specs.declared.stop.MemStop.{MemStop}
use Rattle.sec_base.specs.declared.stop.MemStop.TheVariants.{NoMemory}
use Rattle.sec_base.proofs.LastMessages.{none_front}
use Rattle.sec_base.proofs.Results.{was_none}
use Rattle.sec_base.proofs.Lists.{get_front, none_contained}
use Rattle.bus_model.specs.Access.{Access}
use Rattle.bus_model.specs.BusHistory.{BusHistory}
use Rattle.tag_engine.specs.TagEngine.{TagEngineView}
use Rattle.cache_set.specs.declared.way.Way.{Way}
use Rattle.pad_stream.specs.Pad.{cipher_of}
use Rattle.page_reencrypt.specs.Contents.{line_bytes}
use Rattle.page_reencrypt.specs.SealedLines.{IsLineOf, Moves, enc_key}
use Rattle.page_reencrypt.proofs.Moves.{moves_not, own_moves_after, own_moves_on}
use Rattle.counter_cache.proofs.BlocksMade.{blocks_held_on}
use Rattle.bonsai_tree.proofs.Climbs.{read_up_held, read_up_on, unless_held_on, unmade_before}
use Rattle.secure_memory.specs.Encrypted.{EncryptsContents, HadAtCall}
use Rattle.secure_memory.specs.SecureRam.{SecureRamView, CopiesHad, IsMoved, IsQuiet, LineHad, PageHad, PageRead, WereHad, cached_pages, contents, evidence, held_lines, made, pages_on_chip, stopped}

-- what stands in a list that was mapped came from something
mapped_from : (f : ℕ → ℕ) (items : List ℕ) (y : ℕ) → Contains (map f items) y → (x : ℕ) × Contains items x × (f x ≡ y)
mapped_from f items y (k, below, at) =
    let inside : k < length items = omega (arith, below, length-map {A = ℕ} {B = ℕ}) in
    (get_or items k 0, Contains-get_or items k 0 inside, sym (get_or-map f items k 0 y inside) ∙ at)

-- the page of a held line, and a cached page, are among those of which something is on the chip
mapped_there : (f : ℕ → ℕ) (items : List ℕ) (x : ℕ) → Contains items x → Contains (map f items) (f x)
mapped_there f items x (k, below, at) =
    (k, omega (arith, below, length-map {A = ℕ} {B = ℕ}), get_or-map f items k x (f x) below ∙ ap f at)

-- the page of a held line is among those of which something is on the chip
pub on_chip_of_line : (held cached : List ℕ) (line : ℕ) → Contains held line → Contains (map page_of held ++ cached) (page_of line)
on_chip_of_line held cached line within = Contains-append_left (map page_of held) cached (page_of line) (mapped_there page_of held line within)

-- a page with a cached counter block is among those of which something is on the chip
pub on_chip_of_page : (held cached : List ℕ) (page : ℕ) → Contains cached page → Contains (map page_of held ++ cached) page
on_chip_of_page held cached page within = Contains-append_right (map page_of held) cached page within

-- no copy comes where nothing is done outside
pub copies_not : {B T : Type 0} (history : B → BusHistory) (memory : SecureRamView B T) (ways : List (List Way)) →
    CopiesHad history memory (record { lines = memory.lines; ways = ways })
copies_not history memory ways = record {
  tree_geometry = refl;
  few_blocks = λ few. few;
  few_nodes = λ level few. few;
  blocks = λ quiet page cached. inl cached;
  nodes = λ quiet level index cached. read_up_held memory.lines.counters.tree (made memory) level index (history memory.lines.bus) (history memory.lines.bus) cached;
  nodes_came = λ quiet memory level index cached. inl (cached, refl);
  blocks_came = λ quiet goes page cached. inl (cached, refl);
}

-- What a line had as one of some calls was made, with more calls behind them and before them
module _ (calls more first second third : List ℕ) (line : ℕ) (bytes : List ℕ) where
  had_sooner : (¬ Contains more line → line_at third line ≡ line_at second line) → HadAtCall calls first second line bytes →
      HadAtCall (calls ++ more) first third line bytes
  had_sooner same had = record {
    sooner = had.sooner;
    later = had.later ++ more;
    all = ap (λ (lines : List ℕ). lines ++ more) had.all ∙ append_assoc had.sooner had.later more;
    before = had.before;
    after = λ none.
        had.after (λ is. none (Contains-append_left had.later more line is))
        ∙ sym (same (λ is. none (Contains-append_right had.later more line is)));
  }

  had_later : (¬ Contains calls line → line_at second line ≡ line_at first line) → HadAtCall more second third line bytes →
      HadAtCall (calls ++ more) first third line bytes
  had_later same had = record {
    sooner = calls ++ had.sooner;
    later = had.later;
    all = ap (λ (lines : List ℕ). calls ++ lines) had.all ∙ sym (append_assoc calls had.sooner had.later);
    before = λ none.
        had.before (λ is. none (Contains-append_right calls had.sooner line is))
        ∙ same (λ is. none (Contains-append_left calls had.sooner line is));
    after = had.after;
  }

-- What messages say

encrypts_by : (key : List ℕ) (made : List Message) (from to : ℕ) (lines lines' old old' new new' : List ℕ) →
    ((line : ℕ) (bytes : List ℕ) → HadAtCall lines old new line bytes → HadAtCall lines' old' new' line bytes) →
    EncryptsContents key made from to lines old new → EncryptsContents key made from to lines' old' new'
encrypts_by key made from to lines lines' old old' new new' follows encrypts = record {
  says = λ at line counter cipher low high there. elim (encrypts.says at line counter cipher low high there) [
    | inl same ↦ inl same
    | inr had ↦ inr (follows line (cipher_of key line counter cipher) had)
  ];
}

-- no message says nothing
pub encrypts_none : (key : List ℕ) (made : List Message) (from : ℕ) (lines old new : List ℕ) →
    EncryptsContents key made from from lines old new
encrypts_none key made from lines old new = record {
  says = λ at line counter cipher low high there. absurd (omega (arith, low, high));
}

at_front : (made more : List Message) (at : ℕ) (message : Message) → at < length made →
    slice_get (made ++ more) at ≡ Some message → slice_get made at ≡ Some message
at_front made more at message below there =
    let here : slice_get made at ≡ Some (get_or made at message) = slice_get-get_or made at message below in
    here ∙ sym (get_front made more at (get_or made at message) here) ∙ there

-- messages behind others
pub encrypts_both : (key : List ℕ) (made more made' : List Message) (from : ℕ) (lines old new : List ℕ) → made' ≡ made ++ more →
    EncryptsContents key made from (length made) lines old new →
    EncryptsContents key made' (length made) (length made') lines old new →
    EncryptsContents key made' from (length made') lines old new
encrypts_both key made more made' from lines old new is first second = record {
  says = λ at line counter cipher low high there. elim (cases_lt at (length made)) [
    | inl below ↦
        let here : slice_get made at ≡ Some (Line line counter cipher) =
        at_front made more at (Line line counter cipher) below (ap (λ (xs : List Message). slice_get xs at) (sym is) ∙ there) in
        let front : take at made' ≡ take at made = ap (take at) is ∙ take-append-le at made more (omega (arith, below)) in
        subst (λ (xs : List Message). ((counter.line ≡ 0) × (cipher_of key line counter cipher ≡ line_bytes key xs line))
        ⊎ HadAtCall lines old new line (cipher_of key line counter cipher)) (sym front)
        (first.says at line counter cipher low below here)
    | inr behind ↦ second.says at line counter cipher behind high there
  ];
}

module _ {B T : Type 0} (history : B → BusHistory) (bus_moved : B → List Access → B → Type 0) (tags : TagEngineView T → Message → List ℕ) where
  module _ (allowed : ℕ → Type 0) (first second third : SecureRamView B T) where
    -- What was had before further calls is had after them
    pub line_sooner : (line : ℕ) → Moves history bus_moved tags allowed second.lines third.lines →
        LineHad history first second line → LineHad history first third line
    line_sooner line moves (inl held) = inl held
    line_sooner line moves (inr (inl untagged)) = inr (inl untagged)
    line_sooner line moves (inr (inr rose)) = inr (inr (omega (arith, rose, moves.step.reads (line_place line))))

    read_sooner : (page : ℕ) → Moves history bus_moved tags allowed second.lines third.lines →
        PageRead history first second page → PageRead history first third page
    read_sooner page moves (inl untagged) = inl untagged
    read_sooner page moves (inr rose) = inr (omega (arith, rose, moves.step.reads (Node 0 page)))

    -- A page whose counter block the chip held or read is so too after more accesses.
    pub page_sooner : (page : ℕ) → Moves history bus_moved tags allowed second.lines third.lines →
        PageHad history first second page → PageHad history first third page
    page_sooner page moves (inl on_chip) = inl on_chip
    page_sooner page moves (inr read) = inr (read_sooner page moves read)

    -- A page of which something is on the chip was had by the calls before
    on_chip_had : (lines : List ℕ) → WereHad history first lines second → CopiesHad history first second → IsQuiet second → (page : ℕ) → Contains (pages_on_chip second) page →
        PageHad history first second page
    on_chip_had lines had came quiet page on_chip = elim (Contains-append_cases (map page_of (held_lines second)) (cached_pages second) page on_chip) [
      | inl of_line ↦
          let from : (line : ℕ) × Contains (held_lines second) line × (page_of line ≡ page) = mapped_from page_of (held_lines second) page of_line in
          subst (PageHad history first second) from.2 (had.held from.0 from.1).1
      | inr cached ↦ elim (came.blocks quiet page cached) [
        | inl was ↦ inl (on_chip_of_page (held_lines first) (cached_pages first) page was)
        | inr read ↦ inr read
      ]
    ]

    -- What is had by further calls was had by those before or is had by these
    line_later : (lines : List ℕ) (line : ℕ) → Moves history bus_moved tags allowed first.lines second.lines → Moves history bus_moved tags allowed second.lines third.lines →
        WereHad history first lines second → LineHad history second third line → LineHad history first third line
    line_later lines line moves more had (inl held) = line_sooner line more (had.held line held).0
    line_later lines line moves more had (inr (inl untagged)) =
        inr (inl (none_front (data_part line) (made first) moves.step.more (subst (λ (made : List Message). last_data line made ≡ None) moves.step.made untagged)))
    line_later lines line moves more had (inr (inr rose)) = inr (inr (omega (arith, rose, moves.step.reads (line_place line))))

    read_later : (page : ℕ) → Moves history bus_moved tags allowed first.lines second.lines → PageRead history second third page → PageRead history first third page
    read_later page moves (inl untagged) =
        inl (none_front (node_part 0 page) (made first) moves.step.more (subst (λ (made : List Message). last_node 0 page made ≡ None) moves.step.made untagged))
    read_later page moves (inr rose) = inr (omega (arith, rose, moves.step.reads (Node 0 page)))

    page_later : (lines : List ℕ) (page : ℕ) → Moves history bus_moved tags allowed first.lines second.lines → Moves history bus_moved tags allowed second.lines third.lines →
        WereHad history first lines second → CopiesHad history first second → IsQuiet second → PageHad history second third page → PageHad history first third page
    page_later lines page moves more had came quiet (inl on_chip) = page_sooner page more (on_chip_had lines had came quiet page on_chip)
    page_later lines page moves more had came quiet (inr read) = inr (read_later page moves read)

    -- and so are the blocks and nodes that have copies
    block_on : (page : ℕ) → Moves history bus_moved tags allowed first.lines second.lines → Moves history bus_moved tags allowed second.lines third.lines →
        CopiesHad history first second → IsQuiet second → Contains (cached_pages second) page ⊎ PageRead history second third page →
        Contains (cached_pages first) page ⊎ PageRead history first third page
    block_on page moves more came quiet (inl cached) = elim (came.blocks quiet page cached) [
      | inl was ↦ inl was
      | inr read ↦ inr (read_sooner page more read)
    ]
    block_on page moves more came quiet (inr read) = inr (read_later page moves read)

    -- What holds of the copies over two runs of calls holds over both, one after the other.
    pub copies_on : Moves history bus_moved tags allowed first.lines second.lines → Moves history bus_moved tags allowed second.lines third.lines →
        ((stop : MemStop) → stopped second ≡ Some stop → stopped third ≡ Some stop) → CopiesHad history first second → CopiesHad history second third →
        CopiesHad history first third
    copies_on moves more stays came later =
        let before : IsQuiet third → IsQuiet second = was_none (evidence second) (evidence third) more.step.evidence in
        record {
          tree_geometry = later.tree_geometry ∙ came.tree_geometry;
          few_blocks = λ few. later.few_blocks (came.few_blocks few);
          few_nodes = λ level few. later.few_nodes level (came.few_nodes level few);
          blocks = λ quiet page cached. block_on page moves more came (before quiet) (later.blocks quiet page cached);
          nodes = λ quiet level index cached.
              read_up_on first.lines.counters.tree second.lines.counters.tree (made first) (made second) level index (history first.lines.bus) (history second.lines.bus) (history third.lines.bus)
              came.tree_geometry moves.step.reads more.step.reads (unmade_before (made first) (made second) moves.step.more moves.step.made)
              (came.nodes (before quiet)) (later.nodes quiet level index cached);
          nodes_came = λ quiet memory.
              unless_held_on first.lines.counters.tree second.lines.counters.tree third.lines.counters.tree (made first) (made second) (made third)
              (history first.lines.bus) (history second.lines.bus) (history third.lines.bus) moves.step.reads more.step.reads
              (came.nodes_came (before quiet) (λ was. memory (stays NoMemory was))) (later.nodes_came quiet memory);
          blocks_came = λ quiet goes.
              blocks_held_on first.lines.counters second.lines.counters third.lines.counters (made first) (made second) (made third)
              (history first.lines.bus) (history second.lines.bus) (history third.lines.bus) moves.step.reads more.step.reads
              (came.blocks_came (before quiet) (was_none (stopped second) (stopped third) stays goes)) (later.blocks_came quiet goes);
        }

    -- The lines of all calls were had
    had_on : (before after : List ℕ) → Moves history bus_moved tags allowed first.lines second.lines → Moves history bus_moved tags allowed second.lines third.lines →
        CopiesHad history first second → IsQuiet second → WereHad history first before second → WereHad history second after third →
        WereHad history first (before ++ after) third
    had_on before after moves more came quiet had later = record {
      touched = λ line listed. elim (Contains-append_cases before after line listed) [
        | inl early ↦ (line_sooner line more (had.touched line early).0, page_sooner (page_of line) more (had.touched line early).1)
        | inr late ↦ (line_later before line moves more had (later.touched line late).0, page_later before (page_of line) moves more had came quiet (later.touched line late).1)
      ];
      held = λ line held. (line_later before line moves more had (later.held line held).0, page_later before (page_of line) moves more had came quiet (later.held line held).1);
    }

  -- What calls make after others, they make together
  pub moved_on : ((engine engine' : TagEngineView T) → engine'.geometry ≡ engine.geometry → engine'.tagger ≡ engine.tagger → tags engine' ≡ tags engine) →
      ((first second third : B) (before after : List Access) → bus_moved first before second → bus_moved second after third → bus_moved first (before ++ after) third) →
      (first second third : SecureRamView B T) (before after : List ℕ) →
      IsMoved history bus_moved tags first before second → IsMoved history bus_moved tags second after third →
      IsMoved history bus_moved tags first (before ++ after) third
  moved_on tags_stay bus_moved_on first second third before after a b =
      let more = own_moves_after history bus_moved tags first.lines second.lines third.lines a.moves b.moves in
      record {
        moves = own_moves_on history bus_moved tags tags_stay bus_moved_on first.lines second.lines third.lines a.moves b.moves;
        stays = λ stop is. b.stays stop (a.stays stop is);
        few = λ few. b.few (a.few few);
        copies = copies_on (IsLineOf first.lines) first second third a.moves more b.stays a.copies b.copies;
        unread = λ quiet level index none.
            let was_quiet = was_none (evidence second) (evidence third) b.moves.step.evidence quiet in
            b.unread quiet level index none
            ∙ a.unread was_quiet level index (unmade_before (made second) (made third) b.moves.step.more b.moves.step.made level index none);
        fits = λ fits. b.fits (a.fits fits);
        had = λ going quiet.
            let was_going = was_none (stopped second) (stopped third) b.stays going in
            let was_quiet = was_none (evidence second) (evidence third) b.moves.step.evidence quiet in
            had_on (IsLineOf first.lines) first second third before after a.moves more a.copies was_quiet (a.had was_going was_quiet) (b.had going quiet);
        encrypts = λ quiet.
            let was_quiet = was_none (evidence second) (evidence third) b.moves.step.evidence quiet in
            let key : List ℕ = enc_key first.lines in
            encrypts_both key (made second) b.moves.step.more (made third) (length (made first)) (before ++ after)
            (contents first) (contents third) b.moves.step.made
            (encrypts_by key (made second) (length (made first)) (length (made second)) before (before ++ after)
            (contents first) (contents first) (contents second) (contents third)
            (λ line bytes. had_sooner before after (contents first) (contents second) (contents third) line bytes (b.untouched quiet line))
            (a.encrypts was_quiet))
            (encrypts_by key (made third) (length (made second)) (length (made third)) after (before ++ after)
            (contents second) (contents first) (contents third) (contents third)
            (λ line bytes. had_later before after (contents first) (contents second) (contents third) line bytes
            (a.untouched was_quiet line))
            (subst (λ (k : List ℕ).
            EncryptsContents k (made third) (length (made second)) (length (made third)) after (contents second) (contents third))
            a.moves.key (b.encrypts quiet)));
        untouched = λ quiet line none.
            b.untouched quiet line (λ is. none (Contains-append_right before after line is))
            ∙ a.untouched (was_none (evidence second) (evidence third) b.moves.step.evidence quiet) line
            (λ is. none (Contains-append_left before after line is));
      }

  -- No call makes nothing of a memory
  pub unmoved : ((bus : B) → bus_moved bus [] bus) → (memory : SecureRamView B T) → IsMoved history bus_moved tags memory [] memory
  unmoved bus_unmoved memory = record {
    moves = moves_not history bus_moved tags (IsLineOf memory.lines) bus_unmoved memory.lines;
    stays = λ stop is. is;
    few = λ few. few;
    copies = copies_not history memory memory.ways;
    unread = λ quiet level index none. refl;
    fits = λ fits. fits;
    had = λ going quiet. record {
      touched = λ line listed. absurd (none_contained line listed);
      held = λ line held. (inl held, inl (on_chip_of_line (held_lines memory) (cached_pages memory) line held));
    };
    encrypts = λ quiet.
        encrypts_none (enc_key memory.lines) (made memory) (length (made memory)) [] (contents memory) (contents memory);
    untouched = λ quiet line none. refl;
  }
