-- The accesses of each retired instruction, what was read for the lines that it touched, and what the messages made in it say.
use Rattle.std.proofs.Common.{◌≡◌, ◌≢◌, ◌⊎◌, inl, inr, ℕ, zero, suc, ◌*◌, ◌+◌, ◌<◌, ◌≤◌, Bool, true, false, cond, nat_eq, List, [], ◌∷◌, ◌++◌, take, drop, map, get_or, length, replicate, Option, Some, None, Contains, refl, sym, ap, ◌∙◌, subst, arith, append_assoc, append-nil, length-append}
use Rattle.std.specs.List.{slice_get}
use Rattle.std.proofs.Math.Seq.{get_or-append_seam, take-append_seam, take-length}
use Rattle.std.proofs.lemmas.Bool.{cases_lt, false≢true}
use Rattle.std.proofs.lemmas.Bool.Decides.{Decides-eqb}
use Rattle.std.proofs.lemmas.Grind.{flat_map-append}
use Rattle.std.proofs.lemmas.List.{flat_map_more, get_or_append_left, length-map, take-append-drop, take-append-le}
use Rattle.std.proofs.lemmas.List.Elements.{Contains-append_left}
use Rattle.sec_base.specs.Count.{Rose, RoseBy}
use Rattle.sec_base.specs.Geometry.{line_count}
use Rattle.sec_base.specs.LastMessage.{data_part, last_data}
use Rattle.sec_base.specs.Prefix.{IsPrefix}
use Rattle.sec_base.specs.declared.ending.Ending.{Ending}
use Rattle.sec_base.specs.declared.ending.Ending.TheVariants.{Halted, Trapped, OutOfSteps, Tampered, Spent, WriteFault, NoMemory}
use Rattle.sec_base.specs.declared.message.Message.{Message}
use Rattle.sec_base.specs.declared.message.Message.TheVariants.{Line, Node}
use Rattle.sec_base.specs.declared.place.Place.{Place}
use Rattle.sec_base.specs.declared.place.Place.TheVariants.{Line as line_place}
use Rattle.sec_base.specs.declared.stop.MemStop.{MemStop}
use Rattle.sec_base.proofs.LastMessages.{no_part, none_front}
use Rattle.sec_base.proofs.Results.{was_none}
use Rattle.bus_model.specs.Access.{Access, AreOf, CameBy, reads_of, writes_in}
use Rattle.bus_model.specs.BusHistory.{BusHistory}
use Rattle.bus_model.proofs.Accesses.{all_reads_of, writes_joined}
use Rattle.tag_engine.specs.TagEngine.{TagEngineView, tags_of}
use Rattle.pad_stream.specs.Pad.{cipher_of}
use Rattle.rv32_core.specs.Machine.{plain}
use Rattle.rv32_core.specs.TouchedLines.{touched_lines}
use Rattle.rv32_core.specs.Turnover.{is_old}
use Rattle.rv32_run.specs.Execution.{EndsBetween, IsMemoryEnding}
use Rattle.rv32_run.specs.Trail.{IsTrail}
use Rattle.checked_bus.specs.Makes.{HasAccesses, MakesAccesses, access_of}
use Rattle.checked_bus.proofs.Makes.{has_on, same_tags}
use Rattle.page_reencrypt.specs.Contents.{line_bytes}
use Rattle.page_reencrypt.specs.SealedLines.{enc_key}
use Rattle.page_reencrypt.specs.Stops.{lasting_stop}
use Rattle.page_reencrypt.proofs.Sealing.{listed_or_not}
use Rattle.secure_memory.specs.Encrypted.{EncryptsContents, HadAtCall}
use Rattle.secure_memory.specs.SecureRam.{IsMoved, IsQuiet, LineHad, SecureRamView, contents, evidence, held_lines, made, stopped}
use Rattle.chip_run.specs.ByInstruction.{Basis, GoesByInstruction, IsHadFor, IsUnwritten, WasReadIn, joined, most_left}
use Rattle.chip_run.proofs.Turned.{untagged_is_blank}

-- the last of a list, and what stands before it
at_end : {A : Type 0} (xs : List A) (x d : A) (k : ℕ) → k ≡ length xs → get_or (xs ++ x ∷ []) k d ≡ x
at_end xs x d k is = ap (λ (n : ℕ). get_or (xs ++ x ∷ []) n d) is ∙ get_or-append_seam xs x [] d

take_end : {A : Type 0} (xs : List A) (x : A) (k : ℕ) → k ≡ length xs → take k (xs ++ x ∷ []) ≡ xs
take_end xs x k is = ap (λ (n : ℕ). take n (xs ++ x ∷ [])) is ∙ take-append_seam xs (x ∷ [])

-- Nothing was written to the place of a line that was never tagged

none_found : {A : Type 0} (b : Bool) (x : A) → cond b (Some x) None ≡ None → b ≡ false
none_found true x none = absurd (cc)
none_found false x none = refl

no_write : (tag_of : Message → List ℕ) (line : ℕ) (messages : List Message) →
    ((at : ℕ) (message : Message) → slice_get messages at ≡ Some message → data_part line message ≡ None) →
    AreOf (λ other. other ≢ line_place line) (map (access_of tag_of) messages)
no_write tag_of line [] none = tt
no_write tag_of line (Node level index block ∷ messages) none =
    (λ same. absurd (cc), no_write tag_of line messages (λ at message there. none (suc at) message there))
no_write tag_of line (Line other counter cipher ∷ messages) none = (
  λ same.
      let is : other ≡ line = cc in
      false≢true (sym (none_found (nat_eq other line) (counter, cipher) (none zero (Line other counter cipher) refl)) ∙ (Decides-eqb other line).1 is),
  no_write tag_of line messages (λ at message there. none (suc at) message there),
)

untagged_unwritten : {T : Type 0} (tag_of : Message → List ℕ) (engine engine' : TagEngineView T) (accesses : List Access) (line : ℕ) →
    HasAccesses tag_of engine engine' accesses None → engine.made ≡ [] → last_data line engine'.made ≡ None → IsUnwritten (line_place line) accesses
untagged_unwritten tag_of engine engine' accesses line has unmade never =
    let all : engine'.made ≡ has.written ++ has.unwritten =
    has.made ∙ ap (λ (front : List Message). front ++ (has.written ++ has.unwritten)) unmade in
    let none : last_data line has.written ≡ None =
    none_front (data_part line) has.written has.unwritten (subst (λ (made : List Message). last_data line made ≡ None) all never) in
    subst (AreOf (λ other. other ≢ line_place line)) (sym has.writes) (no_write tag_of line has.written (no_part (data_part line) has.written none))

-- Where a count of reads rose, a read is among the accesses, or the count stands at its end
was_read : (old new : BusHistory) (accesses : List Access) (place : Place) → CameBy old accesses new →
    Rose (old.reads place) (new.reads place) → WasReadIn new place accesses
was_read old new accesses place came rose =
    let most : new.reads place ≤ old.reads place + reads_of place accesses =
    subst (λ (history : BusHistory). history.reads place ≤ old.reads place + reads_of place accesses) (sym came) (all_reads_of accesses old place).1 in
    elim (cases_lt 0 (reads_of place accesses)) [
      | inl some ↦ inl some
      | inr none ↦ inr (omega (arith, none, rose, most))
    ]

-- A line that was had is had still later
had_later : (basis : Basis) (before after : BusHistory) (stored : List Access) (pieces : List (List Access)) (held : ℕ → List ℕ) (count line : ℕ) →
    ((place : Place) → RoseBy 0 (before.reads place) (after.reads place)) → IsHadFor basis before stored pieces held count line → IsHadFor basis after stored pieces held count line
had_later basis before after stored pieces held count line rises (inl kept) = inl kept
had_later basis before after stored pieces held count line rises (inr (inl (inl read))) = inr (inl (inl read))
had_later basis before after stored pieces held count line rises (inr (inl (inr ended))) =
    let rose = rises (line_place line) in inr (inl (inr (omega (arith, rose, ended))))
had_later basis before after stored pieces held count line rises (inr (inr never)) = inr (inr never)

-- and where more instructions were retired
still_had : (basis : Basis) (after : BusHistory) (stored : List Access) (pieces more : List (List Access)) (helds later : List (List ℕ)) (count line : ℕ) →
    count < length pieces → count < length helds → IsHadFor basis after stored pieces (λ at. get_or helds at []) count line →
    IsHadFor basis after stored (pieces ++ more) (λ at. get_or (helds ++ later) at []) count line
still_had basis after stored pieces more helds later count line within held_within (inl held) =
    inl (subst (λ (xs : List ℕ). Contains xs line) (sym (get_or_append_left helds later [] count held_within)) held)
still_had basis after stored pieces more helds later count line within held_within (inr (inl read)) =
    inr (inl (subst (λ (xs : List Access). WasReadIn after (line_place line) xs) (sym (get_or_append_left pieces more [] count within)) read))
still_had basis after stored pieces more helds later count line within held_within (inr (inr never)) =
    inr (inr (
      subst (λ (front : List (List Access)). IsUnwritten (line_place line) (stored ++ joined front)) (sym (take-append-le count pieces more (omega (arith, within)))) never.0,
      never.1,
    ))

-- How many messages were made by the first pieces

-- each write put out one message, where no call stopped
all_written : {T : Type 0} (tag_of : Message → List ℕ) (engine engine' : TagEngineView T) (accesses : List Access) →
    HasAccesses tag_of engine engine' accesses None → engine.made ≡ [] → length engine'.made ≡ length (writes_in accesses)
all_written tag_of engine engine' accesses has unmade =
    let made : length engine'.made ≡ length (has.written ++ has.unwritten) =
    ap length (has.made ∙ ap (λ (front : List Message). front ++ (has.written ++ has.unwritten)) unmade) in
    let few : length has.unwritten ≤ 0 = has.few in
    omega (arith, made, few, length-append has.written has.unwritten, ap length has.writes, length-map has.written (access_of tag_of))

abbrev until : List Access → List (List Access) → ℕ → ℕ
until stored pieces count = length (writes_in (stored ++ joined (take count pieces)))

until_front : (stored : List Access) (pieces more : List (List Access)) (count : ℕ) → count ≤ length pieces → until stored (pieces ++ more) count ≡ until stored pieces count
until_front stored pieces more count within =
    ap (λ (front : List (List Access)). length (writes_in (stored ++ joined front))) (take-append-le count pieces more within)

until_all : (stored : List Access) (pieces : List (List Access)) (count : ℕ) → length pieces ≡ count → until stored pieces count ≡ length (writes_in (stored ++ joined pieces))
until_all stored pieces count each =
    ap (λ (n : ℕ). until stored pieces n) (sym each) ∙ ap (λ (front : List (List Access)). length (writes_in (stored ++ joined front))) (take-length pieces)

until_most : (stored : List Access) (pieces : List (List Access)) (count : ℕ) → until stored pieces count ≤ length (writes_in (stored ++ joined pieces))
until_most stored pieces count =
    let front : List Access = stored ++ joined (take count pieces) in
    let rest : List Access = joined (drop count pieces) in
    let all : front ++ rest ≡ stored ++ joined pieces =
    append_assoc stored (joined (take count pieces)) rest
    ∙ ap (λ (xs : List Access). stored ++ xs)
    (sym (flat_map-append (λ (piece : List Access). piece) (take count pieces) (drop count pieces)) ∙ ap joined (take-append-drop count pieces)) in
    omega (arith, ap (λ (xs : List Access). length (writes_in xs)) all, ap length (writes_joined front rest), length-append (writes_in front) (writes_in rest))

-- What messages say

get_within : {A : Type 0} (xs more : List A) (at : ℕ) → at < length xs → slice_get (xs ++ more) at ≡ slice_get xs at
get_within [] more at below = absurd (omega (arith, below))
get_within (x ∷ xs) more zero below = refl
get_within (x ∷ xs) more (suc at) below = get_within xs more at (omega (arith, below))

-- messages that come later change nothing of it
encrypts_on : {key : List ℕ} {before made : List Message} {from to from' to' : ℕ} {lines old new : List ℕ} → IsPrefix before made → to ≤ length before →
    from' ≡ from → to' ≡ to → EncryptsContents key before from to lines old new → EncryptsContents key made from' to' lines old new
encrypts_on {key} {before} {made} {from} {to} {from'} {to'} {lines} {old} {new} (more, made_is) inside from_is to_is encrypts = rw (made_is, from_is, to_is) (record {
  says = λ at line counter cipher begun below there.
      let within : at < length before = omega (arith, below, inside) in
      subst (λ (front : List Message). ((counter.line ≡ 0) × (cipher_of key line counter cipher ≡ line_bytes key front line)) ⊎ HadAtCall lines old new line (cipher_of key line counter cipher))
      (sym (take-append-le at before more (omega (arith, within))))
      (encrypts.says at line counter cipher begun below (sym (get_within before more at within) ∙ there));
})

-- nor do calls that were not made
pub encrypts_front : {key : List ℕ} {made : List Message} {from to : ℕ} {lines whole old new : List ℕ} → IsPrefix lines whole →
    EncryptsContents key made from to lines old new → EncryptsContents key made from to whole old new
encrypts_front (rest, whole_is) encrypts = record {
  says = λ at line counter cipher begun below there.
      elim (encrypts.says at line counter cipher begun below there) [
        | inl same ↦ inl same
        | inr had ↦
            inr (record {
              sooner = had.sooner;
              later = had.later ++ rest;
              all = whole_is ∙ ap (λ (xs : List ℕ). xs ++ rest) had.all ∙ append_assoc had.sooner had.later rest;
              before = had.before;
              after = λ free. had.after (λ listed. free (Contains-append_left had.later rest line listed));
            })
      ];
}

-- the same in other words
pub encrypts_as : {key key' : List ℕ} {made made' : List Message} {from from' to to' : ℕ} {lines lines' old old' new new' : List ℕ} → key' ≡ key → made' ≡ made →
    from' ≡ from → to' ≡ to → lines' ≡ lines → old' ≡ old → new' ≡ new → EncryptsContents key made from to lines old new → EncryptsContents key' made' from' to' lines' old' new'
encrypts_as key_is made_is from_is to_is lines_are old_is new_is encrypts = rw (key_is, made_is, from_is, to_is, lines_are, old_is, new_is) encrypts

module _ {B T : Type 0} (d n : T → List ℕ → List ℕ) (history : B → BusHistory) (bus_moved : B → List Access → B → Type 0)
    (bus_moved_on : (a b c : B) (before after : List Access) → bus_moved a before b → bus_moved b after c → bus_moved a (before ++ after) c)
    (told : (old new : B) (accesses : List Access) → bus_moved old accesses new → CameBy (history old) accesses (history new))
    (basis : Basis) (booted : SecureRamView B T) (unmade : made booted ≡ []) where
  abbrev means : SecureRamView B T → List ℕ → SecureRamView B T → Type 0
  means old lines new = IsMoved history bus_moved (tags_of d n) old lines new

  abbrev memory_at : ℕ → List ℕ
  memory_at count = (plain basis.start count).state.memory

  abbrev lines_at : ℕ → List ℕ
  lines_at count = touched_lines (plain basis.start count).state

  -- what the messages of an instruction say
  abbrev Says : List Message → List Access → List (List Access) → ℕ → Type 0
  Says made stored pieces at =
      EncryptsContents basis.enc_key made (until stored pieces at) (until stored pieces (at + 1)) (lines_at at) (memory_at at) (memory_at (at + 1))

  -- So many instructions led to a memory by these accesses, and these lines had copies after each.
  pub record HasPieces (count : ℕ) (now : SecureRamView B T) : Type 0 where
    pub stored : List Access
    pub pieces : List (List Access)
    pub helds : List (List ℕ)
    pub each : length pieces ≡ count
    pub each_held : length helds ≡ count + 1
    pub going : stopped now ≡ None
    pub bytes : contents now ≡ memory_at count
    pub key : enc_key now.lines ≡ basis.enc_key
    pub geometry : now.lines.engine.geometry ≡ booted.lines.engine.geometry
    pub tagger : now.lines.engine.tagger ≡ booted.lines.engine.tagger
    pub moved : bus_moved booted.lines.bus (stored ++ joined pieces) now.lines.bus
    pub has : HasAccesses (tags_of d n booted.lines.engine) booted.lines.engine now.lines.engine (stored ++ joined pieces) None
    pub held_now : get_or helds count [] ≡ held_lines now
    pub few : (at : ℕ) → at ≤ count → length (get_or helds at []) ≤ most_left
    pub touched : (at line : ℕ) → at < count → Contains (lines_at at) line → IsHadFor basis (history now.lines.bus) stored pieces (λ at. get_or helds at []) at line
    pub kept : (at line : ℕ) → at < count → Contains (get_or helds (at + 1) []) line → IsHadFor basis (history now.lines.bus) stored pieces (λ at. get_or helds at []) at line
    pub encrypts_stored : EncryptsContents basis.enc_key (made now) 0 (until stored pieces 0) basis.stored_lines (replicate (64 * line_count basis.geometry) 0) (memory_at 0)
    pub encrypts : (at : ℕ) → at < count → Says (made now) stored pieces at

  -- all messages of a memory were made by the pieces that led to it
  made_is : (count : ℕ) (now : SecureRamView B T) (all : HasPieces count now) → until all.stored all.pieces count ≡ length (made now)
  made_is count now all =
      until_all all.stored all.pieces count all.each
      ∙ sym (all_written (tags_of d n booted.lines.engine) booted.lines.engine now.lines.engine (all.stored ++ joined all.pieces) all.has unmade)

  within_made : (count : ℕ) (now : SecureRamView B T) (all : HasPieces count now) (at : ℕ) → until all.stored all.pieces at ≤ length (made now)
  within_made count now all at = omega (arith, until_most all.stored all.pieces at, until_all all.stored all.pieces count all.each, made_is count now all)

  -- one more instruction
  module _ (count : ℕ) (old new : SecureRamView B T) (so_far : HasPieces count old) (lines : List ℕ) (moved : means old lines new)
      (going : stopped new ≡ None) (bytes : contents new ≡ memory_at (suc count)) (quiet : IsQuiet new) (touches : lines ≡ lines_at count) where
    makes : MakesAccesses bus_moved (tags_of d n old.lines.engine) old.lines.bus old.lines.engine new.lines.bus new.lines.engine new.lines.stopped
    makes = moved.moves.trace (ap lasting_stop so_far.going)

    abbrev stored : List Access
    stored = so_far.stored

    abbrev all_pieces : List (List Access)
    all_pieces = so_far.pieces ++ makes.accesses ∷ []

    abbrev all_helds : List (List ℕ)
    all_helds = so_far.helds ++ held_lines new ∷ []

    abbrev IsHad : ℕ → ℕ → Type 0
    IsHad at line = IsHadFor basis (history new.lines.bus) stored all_pieces (λ at. get_or all_helds at []) at line

    held_here : (at line : ℕ) → at ≡ count → Contains (held_lines old) line → IsHad at line
    held_here at line is before =
        inl (subst (λ (xs : List ℕ). Contains xs line)
        (sym (get_or_append_left so_far.helds (held_lines new ∷ []) [] at (omega (arith, is, so_far.each_held)) ∙ ap (λ (k : ℕ). get_or so_far.helds k []) is ∙ so_far.held_now)) before)

    had_now : (at line : ℕ) → at ≡ count → LineHad history old new line → IsHad at line
    had_now at line is (inl before) = held_here at line is before
    had_now at line is (inr (inl never)) = elim (listed_or_not (held_lines old) line) [
      | inl before ↦ held_here at line is before
      | inr unheld ↦
          let same : contents old ≡ memory_at at = so_far.bytes ∙ ap memory_at (sym is) in
          inr (inr (
            subst (λ (front : List (List Access)). IsUnwritten (line_place line) (stored ++ joined front))
                (sym (take_end so_far.pieces makes.accesses at (is ∙ sym so_far.each)))
                (untagged_unwritten (tags_of d n booted.lines.engine) booted.lines.engine old.lines.engine (stored ++ joined so_far.pieces) line so_far.has unmade never),
            subst (λ (memory : List ℕ). is_old memory line ≡ false) same (untagged_is_blank old line unheld never),
          ))
    ]
    had_now at line is (inr (inr rose)) =
        inr (inl (subst (λ (xs : List Access). WasReadIn (history new.lines.bus) (line_place line) xs) (sym (at_end so_far.pieces makes.accesses [] at (is ∙ sym so_far.each)))
        (was_read (history old.lines.bus) (history new.lines.bus) makes.accesses (line_place line) (told old.lines.bus new.lines.bus makes.accesses makes.moved) rose)))

    had_before : (at line : ℕ) → at < count → IsHadFor basis (history old.lines.bus) stored so_far.pieces (λ at. get_or so_far.helds at []) at line → IsHad at line
    had_before at line below had =
        still_had basis (history new.lines.bus) stored so_far.pieces (makes.accesses ∷ []) so_far.helds (held_lines new ∷ []) at line
        (omega (arith, below, so_far.each)) (omega (arith, below, so_far.each_held))
        (had_later basis (history old.lines.bus) (history new.lines.bus) stored so_far.pieces (λ at. get_or so_far.helds at []) at line moved.moves.step.reads had)

    few_now : (at : ℕ) → at ≤ suc count → length (get_or all_helds at []) ≤ most_left
    few_now at within = elim (cases_lt at (count + 1)) [
      | inl sooner ↦
          let same : get_or all_helds at [] ≡ get_or so_far.helds at [] =
          get_or_append_left so_far.helds (held_lines new ∷ []) [] at (omega (arith, sooner, so_far.each_held)) in
          subst (λ (xs : List ℕ). length xs ≤ most_left) (sym same) (so_far.few at (omega (arith, sooner)))
      | inr late ↦
          let same : get_or all_helds at [] ≡ held_lines new = at_end so_far.helds (held_lines new) [] at (omega (arith, late, within, so_far.each_held)) in
          let before : length (held_lines old) ≤ most_left =
          subst (λ (xs : List ℕ). length xs ≤ most_left) so_far.held_now (so_far.few count (omega arith)) in
          subst (λ (xs : List ℕ). length xs ≤ most_left) (sym same) (moved.few before)
    ]

    touched_now : (at line : ℕ) → at < suc count → Contains (lines_at at) line → IsHad at line
    touched_now at line below listed = elim (cases_lt at count) [
      | inl sooner ↦ had_before at line sooner (so_far.touched at line sooner listed)
      | inr late ↦
          let same : at ≡ count = omega (arith, late, below) in
          let own : lines_at at ≡ lines = ap lines_at same ∙ sym touches in
          had_now at line same ((moved.had going quiet).touched line (subst (λ (xs : List ℕ). Contains xs line) own listed)).0
    ]

    kept_now : (at line : ℕ) → at < suc count → Contains (get_or all_helds (at + 1) []) line → IsHad at line
    kept_now at line below listed = elim (cases_lt at count) [
      | inl sooner ↦
          let same : get_or all_helds (at + 1) [] ≡ get_or so_far.helds (at + 1) [] =
          get_or_append_left so_far.helds (held_lines new ∷ []) [] (at + 1) (omega (arith, sooner, so_far.each_held)) in
          had_before at line sooner (so_far.kept at line sooner (subst (λ (xs : List ℕ). Contains xs line) same listed))
      | inr late ↦
          let same : at ≡ count = omega (arith, late, below) in
          let own : get_or all_helds (at + 1) [] ≡ held_lines new = at_end so_far.helds (held_lines new) [] (at + 1) (omega (arith, same, so_far.each_held)) in
          had_now at line same ((moved.had going quiet).held line (subst (λ (xs : List ℕ). Contains xs line) own listed)).0
    ]

    -- the pieces before it end where they did
    until_still : (at : ℕ) → at ≤ count → until stored all_pieces at ≡ until stored so_far.pieces at
    until_still at within = until_front stored so_far.pieces (makes.accesses ∷ []) at (omega (arith, within, so_far.each))

    accesses_now : (stored ++ joined so_far.pieces) ++ makes.accesses ≡ stored ++ joined all_pieces
    accesses_now = flat_map_more (λ (piece : List Access). piece) stored so_far.pieces makes.accesses

    has_now : HasAccesses (tags_of d n booted.lines.engine) booted.lines.engine new.lines.engine (stored ++ joined all_pieces) None
    has_now =
        let tags : tags_of d n old.lines.engine ≡ tags_of d n booted.lines.engine =
        same_tags d n booted.lines.engine old.lines.engine so_far.geometry so_far.tagger in
        let own : HasAccesses (tags_of d n booted.lines.engine) old.lines.engine new.lines.engine makes.accesses None =
        subst (λ (tag_of : Message → List ℕ). HasAccesses tag_of old.lines.engine new.lines.engine makes.accesses None) tags
        (subst (λ (stop : Option MemStop). HasAccesses (tags_of d n old.lines.engine) old.lines.engine new.lines.engine makes.accesses stop) going makes.has) in
        subst (λ (xs : List Access). HasAccesses (tags_of d n booted.lines.engine) booted.lines.engine new.lines.engine xs None) accesses_now
        (has_on (tags_of d n booted.lines.engine) booted.lines.engine old.lines.engine new.lines.engine (stored ++ joined so_far.pieces) makes.accesses None
        so_far.geometry moved.moves.step.evidence so_far.has own)

    each_now : length all_pieces ≡ suc count
    each_now = length-append so_far.pieces (makes.accesses ∷ []) ∙ omega (arith, so_far.each)

    encrypts_now : (at : ℕ) → at < suc count → Says (made new) stored all_pieces at
    encrypts_now at below = elim (cases_lt at count) [
      | inl sooner ↦
          encrypts_on (moved.moves.step.more, moved.moves.step.made) (within_made count old so_far (at + 1)) (until_still at (omega (arith, sooner))) (until_still (at + 1) (omega (arith, sooner)))
          (so_far.encrypts at sooner)
      | inr late ↦
          let same : at ≡ count = omega (arith, late, below) in
          let next : at + 1 ≡ suc count = omega (arith, same) in
          encrypts_as (sym so_far.key) refl (until_still at (omega (arith, same)) ∙ ap (λ (k : ℕ). until stored so_far.pieces k) same ∙ made_is count old so_far)
          (until_all stored all_pieces (at + 1) (each_now ∙ sym next)
          ∙ sym (all_written (tags_of d n booted.lines.engine) booted.lines.engine new.lines.engine (stored ++ joined all_pieces) has_now unmade))
          (ap lines_at same ∙ sym touches) (ap memory_at same ∙ sym so_far.bytes) (ap memory_at next ∙ sym bytes) (moved.encrypts quiet)
    ]

    one_more : HasPieces (suc count) new
    one_more = record {
      stored = stored;
      pieces = all_pieces;
      helds = all_helds;
      each = each_now;
      each_held = length-append so_far.helds (held_lines new ∷ []) ∙ omega (arith, so_far.each_held);
      going = going;
      bytes = bytes;
      key = moved.moves.key ∙ so_far.key;
      geometry = moved.moves.step.geometry ∙ so_far.geometry;
      tagger = moved.moves.step.tagger ∙ so_far.tagger;
      moved = subst (λ (xs : List Access). bus_moved booted.lines.bus xs new.lines.bus) accesses_now
          (bus_moved_on booted.lines.bus old.lines.bus new.lines.bus (stored ++ joined so_far.pieces) makes.accesses so_far.moved makes.moved);
      has = has_now;
      held_now = at_end so_far.helds (held_lines new) [] (suc count) (omega (arith, so_far.each_held));
      few = few_now;
      touched = touched_now;
      kept = kept_now;
      encrypts_stored = encrypts_on (moved.moves.step.more, moved.moves.step.made) (within_made count old so_far 0) refl (until_still 0 (omega arith)) so_far.encrypts_stored;
      encrypts = encrypts_now;
    }

  -- all instructions of a trail from the first one on
  pub along : (count : ℕ) (first last : SecureRamView B T) → HasPieces 0 first → IsQuiet last →
      IsTrail (λ m. stopped m) (λ m. contents m) means basis.start 0 count first last → HasPieces count last
  along zero first last begun quiet same = subst (λ (memory : SecureRamView B T). HasPieces zero memory) same begun
  along (suc count) first last begun quiet went =
      let mid = went.0 in
      let one = went.2 in
      let before = along count first mid begun (was_none (evidence mid) (evidence last) one.led.moves.step.evidence quiet) went.1 in
      let none : 0 + count ≡ count = omega arith in
      let next : 0 + count + 1 ≡ suc count = omega arith in
      one_more count mid last before one.lines one.led one.going (one.bytes ∙ ap memory_at next) quiet (one.touched ∙ ap lines_at none)

  -- before the first instruction, where a program was stored
  pub begins : (first : SecureRamView B T) → means booted basis.stored_lines first → stopped booted ≡ None → stopped first ≡ None → IsQuiet first →
      enc_key booted.lines ≡ basis.enc_key → contents booted ≡ replicate (64 * line_count basis.geometry) 0 → contents first ≡ basis.start.state.memory →
      length (held_lines first) ≤ most_left → HasPieces 0 first
  unfolding plain
  begins first led new going quiet key empty bytes few =
      let makes = led.moves.trace (ap lasting_stop new) in
      let has : HasAccesses (tags_of d n booted.lines.engine) booted.lines.engine first.lines.engine makes.accesses None =
      subst (λ (stop : Option MemStop). HasAccesses (tags_of d n booted.lines.engine) booted.lines.engine first.lines.engine makes.accesses stop) going makes.has in
      let all = sym (append-nil makes.accesses) in
      record {
        stored = makes.accesses;
        pieces = [];
        helds = held_lines first ∷ [];
        each = refl;
        each_held = omega arith;
        going = going;
        bytes = bytes;
        key = led.moves.key ∙ key;
        geometry = led.moves.step.geometry;
        tagger = led.moves.step.tagger;
        moved = subst (λ (xs : List Access). bus_moved booted.lines.bus xs first.lines.bus) all makes.moved;
        has = subst (λ (xs : List Access). HasAccesses (tags_of d n booted.lines.engine) booted.lines.engine first.lines.engine xs None) all has;
        held_now = refl;
        few = λ at within. let none : at ≡ 0 = omega (arith, within) in subst (λ (k : ℕ). length (get_or (held_lines first ∷ []) k []) ≤ most_left) (sym none) few;
        touched = λ at line below. absurd (omega (arith, below));
        kept = λ at line below. absurd (omega (arith, below));
        encrypts_stored = encrypts_as (sym key) refl (sym (ap length unmade))
            (ap (λ (xs : List Access). length (writes_in xs)) (append-nil makes.accesses)
            ∙ sym (all_written (tags_of d n booted.lines.engine) booted.lines.engine first.lines.engine makes.accesses has unmade))
            refl (sym empty) (sym bytes) (led.encrypts quiet);
        encrypts = λ at below. absurd (omega (arith, below));
      }

  -- with nothing that was accessed after the last one
  pub with_none : (count : ℕ) (now : SecureRamView B T) (ending : Ending) → HasPieces count now →
      (makes : MakesAccesses bus_moved (tags_of d n booted.lines.engine) booted.lines.bus booted.lines.engine now.lines.bus now.lines.engine now.lines.stopped)
      × GoesByInstruction basis (history now.lines.bus) makes.accesses (made now) count ending
  with_none count now ending all =
      let tags = tags_of d n booted.lines.engine in
      let accesses : List Access = all.stored ++ joined all.pieces in (
        record {
          accesses = accesses;
          moved = all.moved;
          has = subst (λ (stop : Option MemStop). HasAccesses tags booted.lines.engine now.lines.engine accesses stop) (sym all.going) all.has;
        },
        record {
          stored = all.stored;
          pieces = all.pieces;
          last = [];
          all = ap (λ (xs : List Access). all.stored ++ xs) (sym (append-nil (joined all.pieces)));
          each = all.each;
          none_left = λ between. refl;
          held = λ at. get_or all.helds at [];
          few = all.few;
          touched = all.touched;
          kept = all.kept;
          encrypts_stored = all.encrypts_stored;
          encrypts = all.encrypts;
          encrypts_last =
              let whole = made_is count now all in (
                memory_at count,
                (λ going. refl),
                inl (record { says = λ at line counter cipher begun below. absurd (omega (arith, whole, begun, below)) }),
              );
        },
      )

  -- and with what was accessed after it
  pub with_rest : (count : ℕ) (now end : SecureRamView B T) (lines : List ℕ) (ending : Ending) → HasPieces count now → means now lines end → IsPrefix lines (lines_at count) → IsQuiet end →
      (¬ IsMemoryEnding ending → contents end ≡ memory_at count) → ¬ EndsBetween ending →
      (makes : MakesAccesses bus_moved (tags_of d n booted.lines.engine) booted.lines.bus booted.lines.engine end.lines.bus end.lines.engine end.lines.stopped)
      × GoesByInstruction basis (history end.lines.bus) makes.accesses (made end) count ending
  with_rest count now end lines ending all rest unretired quiet leaves within =
      let tags = tags_of d n booted.lines.engine in
      let front : List Access = all.stored ++ joined all.pieces in
      let makes = rest.moves.trace (ap lasting_stop all.going) in
      let own : HasAccesses tags now.lines.engine end.lines.engine makes.accesses end.lines.stopped =
      subst (λ (tag_of : Message → List ℕ). HasAccesses tag_of now.lines.engine end.lines.engine makes.accesses end.lines.stopped)
      (same_tags d n booted.lines.engine now.lines.engine all.geometry all.tagger) makes.has in
      let still : (at line : ℕ) → IsHadFor basis (history now.lines.bus) all.stored all.pieces (λ at. get_or all.helds at []) at line →
      IsHadFor basis (history end.lines.bus) all.stored all.pieces (λ at. get_or all.helds at []) at line =
      λ at line. had_later basis (history now.lines.bus) (history end.lines.bus) all.stored all.pieces (λ at. get_or all.helds at []) at line rest.moves.step.reads in (
        record {
          accesses = front ++ makes.accesses;
          moved = bus_moved_on booted.lines.bus now.lines.bus end.lines.bus front makes.accesses all.moved makes.moved;
          has = has_on tags booted.lines.engine now.lines.engine end.lines.engine front makes.accesses end.lines.stopped all.geometry rest.moves.step.evidence all.has own;
        },
        record {
          stored = all.stored;
          pieces = all.pieces;
          last = makes.accesses;
          all = append_assoc all.stored (joined all.pieces) makes.accesses;
          each = all.each;
          none_left = λ between. absurd (within between);
          held = λ at. get_or all.helds at [];
          few = all.few;
          touched = λ at line below listed. still at line (all.touched at line below listed);
          kept = λ at line below listed. still at line (all.kept at line below listed);
          encrypts_stored = encrypts_on (rest.moves.step.more, rest.moves.step.made) (within_made count now all 0) refl refl all.encrypts_stored;
          encrypts = λ at below. encrypts_on (rest.moves.step.more, rest.moves.step.made) (within_made count now all (at + 1)) refl refl (all.encrypts at below);
          encrypts_last = (
            contents end,
            leaves,
            inl (encrypts_front unretired (encrypts_as (sym all.key) refl (made_is count now all) refl refl (sym all.bytes) refl (rest.encrypts quiet))),
          );
        },
      )

-- the same run in other words
pub goes_as : {basis : Basis} {after after' : BusHistory} {accesses : List Access} {made made' : List Message} {retired retired' : ℕ} {ending : Ending} →
    after' ≡ after → made' ≡ made → retired' ≡ retired → GoesByInstruction basis after accesses made retired ending → GoesByInstruction basis after' accesses made' retired' ending
goes_as after_is made_is retired_is goes = rw (after_is, made_is, retired_is) goes

-- The budget or the program ends a run between two instructions, and never its memory.

pub between_or_not : (ending : Ending) → EndsBetween ending ⊎ (¬ EndsBetween ending)
between_or_not OutOfSteps = inl (inl refl)
between_or_not (Halted code) = inl (inr (code, refl))
between_or_not (Trapped cause pc) = inr (λ between. elim between [
  | inl is ↦ cc
  | inr (code, is) ↦ cc
])
between_or_not (Tampered place) = inr (λ between. elim between [
  | inl is ↦ cc
  | inr (code, is) ↦ cc
])
between_or_not (Spent page) = inr (λ between. elim between [
  | inl is ↦ cc
  | inr (code, is) ↦ cc
])
between_or_not WriteFault = inr (λ between. elim between [
  | inl is ↦ cc
  | inr (code, is) ↦ cc
])
between_or_not NoMemory = inr (λ between. elim between [
  | inl is ↦ cc
  | inr (code, is) ↦ cc
])

by_program : (ending : Ending) → EndsBetween ending → ¬ IsMemoryEnding ending
by_program ending (inl is) ended = subst IsMemoryEnding is ended
by_program ending (inr (code, is)) ended = subst IsMemoryEnding is ended

-- A run that retired no instruction, whose memory stopped while its program was stored
pub none_retired : (basis : Basis) (after : BusHistory) (accesses : List Access) (made : List Message) (retired : ℕ) (ending : Ending) (new : List ℕ) → retired ≡ 0 → IsMemoryEnding ending →
    EncryptsContents basis.enc_key made 0 (length made) basis.stored_lines (replicate (64 * line_count basis.geometry) 0) new →
    GoesByInstruction basis after accesses made retired ending
none_retired basis after accesses made retired ending new none stopped encrypts = rw none (record {
  stored = [];
  pieces = [];
  last = accesses;
  all = refl;
  each = refl;
  none_left = λ between. absurd (by_program ending between stopped);
  held = λ at. [];
  few = λ at within. omega arith;
  touched = λ at line below. absurd (omega (arith, below));
  kept = λ at line below. absurd (omega (arith, below));
  encrypts_stored = record { says = λ at line counter cipher begun below. absurd (omega (arith, below)) };
  encrypts = λ at below. absurd (omega (arith, below));
  encrypts_last = (new, (λ going. absurd (going stopped)), inr (refl, stopped, encrypts));
})
