-- A line by its counter: what it holds, and that the counter is current.
use Rattle.std.proofs.Common.{◌≡◌, ◌≢◌, ℕ, ◌<◌, inl, inr, true, List, [], length, replicate, Option, Some, None, Contains, Result, Ok, Err, IfOk, refl, sym, ◌∙◌, ap, subst, arith}
use Rattle.std.specs.Option.{option_or}
use Rattle.std.specs.Result.{result_err}
use Rattle.sec_base.specs.Evidence.{evidence_place}
use Rattle.sec_base.specs.Geometry.{GeometryView, line_count, page_count, page_of}
use Rattle.sec_base.specs.LastMessage.{last_pair, IsFresh}
use Rattle.sec_base.specs.declared.counter.Counter.{Counter}
use Rattle.sec_base.specs.declared.evidence.Evidence.{Evidence}
use Rattle.sec_base.specs.declared.evidence.Evidence.TheVariants.{Forgery}
use Rattle.sec_base.specs.declared.message.Message.{Message}
use Rattle.sec_base.specs.declared.message.Message.TheVariants.{Line}
use Rattle.sec_base.specs.declared.place.Place.TheVariants.{Line as line_place, Node as node_place}
use Rattle.sec_base.specs.declared.sealed.Sealed.{Sealed}
use Rattle.sec_base.specs.declared.stop.MemStop.{MemStop}
use Rattle.sec_base.specs.declared.stop.MemStop.TheVariants.{Tampered, Spent, NoMemory}
use Rattle.sec_base.proofs.Results.{was_none}
use Rattle.bus_model.specs.Access.{Access}
use Rattle.bus_model.specs.BusHistory.{BusHistory}
use Rattle.tag_engine.specs.TagEngine.{TagEngineView, forgery_of, tags_of}
use Rattle.pad_stream.specs.Pad.{cipher_of}
use Rattle.pad_stream.specs.Pads.{AreRising}
use Rattle.checked_bus.specs.Checks.{IsCheckedRead}
use Rattle.checked_bus.specs.Makes.{HasAccesses, ReadsLine}
use Rattle.checked_bus.specs.Steps.{IsAccounted, IsCurrent}
use Rattle.checked_bus.proofs.CheckedReads.{line_known, line_once, line_others, line_tampered, line_unspent}
use Rattle.checked_bus.proofs.Evidences.{shown_is}
use Rattle.checked_bus.proofs.Makes.{has_not, makes_moves, shown_rose, tampered_rose}
use Rattle.checked_bus.proofs.Steps.{moves_not as step_not}
use Rattle.page_reencrypt.specs.Consistency.{IsConsistent}
use Rattle.page_reencrypt.specs.Contents.{HoldsLast, bytes_of, line_bytes, never_written}
use Rattle.page_reencrypt.specs.Outside.{AreConsistent, HasCounter, HaveLast, HaveRisen, IsReadAt, OutsideView, terms_of}
use Rattle.page_reencrypt.specs.SealedLines.{IsReadUnder}
use Rattle.page_reencrypt.proofs.RisingPairs.{is_current, last_none, last_under_last}

-- A line by its counter

-- that of a line that was never written
pub fresh_by_counter : (used : List (ℕ × Counter)) (line : ℕ) (counter : Counter) → HasCounter used line counter → counter ≡ never_written → IsFresh line used
fresh_by_counter used line counter (inl fresh) none = fresh.0
fresh_by_counter used line counter (inr had) none = absurd (had.1 none)

-- and that of any other
pub entry_by_counter : (used : List (ℕ × Counter)) (line : ℕ) (counter : Counter) → HasCounter used line counter → counter ≢ never_written →
    last_pair line used ≡ Some counter
entry_by_counter used line counter (inl fresh) some = absurd (some fresh.1)
entry_by_counter used line counter (inr had) some = had.0

-- a line of the memory has its page there
pub page_inside : (geometry : GeometryView) (line : ℕ) → line < line_count geometry → page_of line < page_count geometry
page_inside geometry line inside = omega (arith, inside)

-- and so has each line of its page
pub beside_inside : (geometry : GeometryView) (line other : ℕ) → line < line_count geometry → page_of other ≡ page_of line → other < line_count geometry
beside_inside geometry line other inside of_page = omega (arith, inside, of_page)

module _ (tag_of : Message → List ℕ) (geometry : GeometryView) (history : BusHistory) (made : List Message) (used : List (ℕ × Counter)) (line : ℕ) (counter : Counter)
    (kept : IsConsistent tag_of geometry history made used) (rising : AreRising used) (inside : line < line_count geometry) (had : HasCounter used line counter) where
  -- a line that was never written is zeros
  fresh_bytes : (key : List ℕ) → counter ≡ never_written → replicate 64 0 ≡ line_bytes key made line
  fresh_bytes key none =
      ap (bytes_of key line) (sym (last_none (line_count geometry) made used line kept.paired inside (fresh_by_counter used line counter had none)))

  module _ (some : counter ≢ never_written) where
    -- what was tagged under the counter is what the line holds
    written_bytes : (key cipher : List ℕ) → Contains made (Line line counter cipher) → cipher_of key line counter cipher ≡ line_bytes key made line
    written_bytes key cipher listed =
        ap (bytes_of key line) (sym (last_under_last (line_count geometry) made used line counter cipher kept.paired rising inside
        (entry_by_counter used line counter had some) listed))

    current : HoldsLast tag_of (line_count geometry) made history.written → IsCurrent tag_of used made history.written line counter
    current held =
        is_current tag_of (line_count geometry) made used history.written line counter kept.paired rising held inside
        (entry_by_counter used line counter had some)

-- What a checked read finds is of the line

found_of : (line : ℕ) (counter : Counter) (sealed : Sealed) (made : List Message) (before : Option Evidence) (evidence : Evidence) → before ≡ None →
    option_or before (forgery_of made line counter sealed true) ≡ Some evidence → evidence ≡ Forgery line counter sealed (length made)
found_of line counter sealed made None evidence none shown = (shown_is made line counter sealed evidence shown).0
found_of line counter sealed made (Some first) evidence none shown = absurd (cc)

read_found : {T : Type 0} (tag_of : Message → List ℕ) (line : ℕ) (counter : Counter) (accesses : List Access) (engine engine' : TagEngineView T)
    (result : Result (List ℕ) MemStop) → IsCheckedRead tag_of line counter accesses engine engine' result →
    (evidence : Evidence) → engine.evidence ≡ None → engine'.evidence ≡ Some evidence → evidence_place evidence ≡ line_place line
read_found {T} tag_of line counter accesses engine engine' (Ok cipher) passed evidence none shown =
    ap evidence_place
    (found_of line counter passed.sealed engine.made engine.evidence evidence none (sym (ap (λ (e : TagEngineView T). e.evidence) passed.checked) ∙ shown))
read_found {T} tag_of line counter accesses engine engine' (Err (Tampered place)) failed evidence none shown =
    let same : engine'.evidence ≡ engine.evidence = ap (λ (e : TagEngineView T). e.evidence) failed.1.unchanged in absurd (cc)
read_found tag_of line counter accesses engine engine' (Err (Spent page)) refused evidence none shown = absurd refused
read_found {T} tag_of line counter accesses engine engine' (Err NoMemory) refused evidence none shown =
    let same : engine'.evidence ≡ engine.evidence = ap (λ (e : TagEngineView T). e.evidence) refused.1 in absurd (cc)

-- what was decrypted of an answer
abbrev decrypted : List ℕ → ℕ → Counter → Result (List ℕ) MemStop → Result (List ℕ) MemStop
decrypted key line counter (Ok cipher) = Ok (cipher_of key line counter cipher)
decrypted key line counter (Err stop) = Err stop

same_stop : (key : List ℕ) (line : ℕ) (counter : Counter) (result : Result (List ℕ) MemStop) → result_err (decrypted key line counter result) ≡ result_err result
same_stop key line counter (Ok cipher) = refl
same_stop key line counter (Err stop) = refl

same_refusal : (key : List ℕ) (line : ℕ) (counter : Counter) (result : Result (List ℕ) MemStop) (stop : MemStop) → decrypted key line counter result ≡ Err stop → result ≡ Err stop
same_refusal key line counter (Ok cipher) stop is = absurd (cc)
same_refusal key line counter (Err other) stop is = is

if_decrypted : (key : List ℕ) (line : ℕ) (counter : Counter) (P Q : List ℕ → Type 0) (result : Result (List ℕ) MemStop) →
    ((cipher : List ℕ) → P cipher → Q (cipher_of key line counter cipher)) → IfOk result P → IfOk (decrypted key line counter result) Q
if_decrypted key line counter P Q (Ok cipher) follows fact = follows cipher fact
if_decrypted key line counter P Q (Err stop) follows fact = tt

-- it was read as its place answered
read_as : {T : Type 0} (tag_of : Message → List ℕ) (key : List ℕ) (line : ℕ) (counter : Counter) (accesses : List Access) (engine engine' : TagEngineView T)
    (result : Result (List ℕ) MemStop) → counter ≢ never_written → IsCheckedRead tag_of line counter accesses engine engine' result →
    IfOk (decrypted key line counter result) (IsReadUnder tag_of key line counter accesses)
read_as tag_of key line counter accesses engine engine' (Ok cipher) some passed =
    inr (some, passed.sealed, passed.tagged, passed.answered, ap (cipher_of key line counter) passed.given)
read_as tag_of key line counter accesses engine engine' (Err stop) some read = tt

-- what was accepted is of the line, of as many messages as were made, and is answered
read_accepted : {T : Type 0} (tag_of : Message → List ℕ) (key : List ℕ) (line : ℕ) (counter : Counter) (accesses : List Access) (engine engine' : TagEngineView T)
    (result : Result (List ℕ) MemStop) → IsCheckedRead tag_of line counter accesses engine engine' result →
    (at : ℕ) (under : Counter) (sealed : Sealed) (made_count : ℕ) → engine.evidence ≡ None → engine'.evidence ≡ Some (Forgery at under sealed made_count) →
    (at ≡ line) × (made_count ≡ length engine'.made) × (decrypted key line counter result ≡ Ok (cipher_of key line under sealed.cipher))
read_accepted {T} tag_of key line counter accesses engine engine' (Ok cipher) passed at under sealed made_count none shown =
    let same : Forgery at under sealed made_count ≡ Forgery line counter passed.sealed (length engine.made) =
    found_of line counter passed.sealed engine.made engine.evidence (Forgery at under sealed made_count) none
    (sym (ap (λ (e : TagEngineView T). e.evidence) passed.checked) ∙ shown) in
    let here : at ≡ line = cc in
    let by : counter ≡ under = cc in
    let answer : passed.sealed ≡ sealed = cc in
    let count : made_count ≡ length engine.made = cc in (
      here,
      count ∙ sym (ap (λ (e : TagEngineView T). length e.made) passed.checked),
      ap (λ (c : List ℕ). Ok (cipher_of key line counter c)) (passed.given ∙ ap (λ (s : Sealed). s.cipher) answer)
          ∙ ap (λ (k : Counter). Ok (cipher_of key line k sealed.cipher)) by,
    )
read_accepted {T} tag_of key line counter accesses engine engine' (Err (Tampered place)) failed at under sealed made_count none shown =
    let same : engine'.evidence ≡ engine.evidence = ap (λ (e : TagEngineView T). e.evidence) failed.1.unchanged in absurd (cc)
read_accepted tag_of key line counter accesses engine engine' (Err (Spent page)) refused at under sealed made_count none shown = absurd refused
read_accepted {T} tag_of key line counter accesses engine engine' (Err NoMemory) refused at under sealed made_count none shown =
    let same : engine'.evidence ≡ engine.evidence = ap (λ (e : TagEngineView T). e.evidence) refused.1 in absurd (cc)

-- A read of a line under its counter

module _ {B T : Type 0} (history : B → BusHistory) (moved : B → List Access → B → Type 0) (d n : T → List ℕ → List ℕ) (old : OutsideView B T) (line : ℕ) (counter : Counter)
    (kept : AreConsistent (terms_of history moved d n old) old) (last : HaveLast (terms_of history moved d n old) old)
    (rose : HaveRisen (terms_of history moved d n old) old) (inside : line < line_count old.engine.geometry)
    (had : old.engine.evidence ≡ None → HasCounter old.pads.used line counter) where
  -- it was never written
  pub fresh_read : ((bus : B) → moved bus [] bus) → counter ≡ never_written → IsReadAt (terms_of history moved d n old) line counter old old (Ok (replicate 64 0))
  fresh_read unmoved none = record {
    value = λ quiet.
        fresh_bytes (tags_of d n old.engine) old.engine.geometry (history old.bus) old.engine.made old.pads.used line counter kept (rose quiet) inside (had quiet)
        old.pads.key none;
    fresh = λ quiet fresh. (refl, refl);
    trace = record {
      accesses = [];
      moved = unmoved old.bus;
      has = has_not (tags_of d n old.engine) old.engine None (λ place is. cc);
    };
    step = step_not (history old.bus) old.engine;
    made = refl;
    room = refl;
    pads = refl;
    written = refl;
    once = omega arith;
    alone = λ other differs. refl;
    nodes = λ level index. refl;
    rose = λ quiet memory. inl (fresh_by_counter old.pads.used line counter (had quiet) none);
    accounted = λ was. was;
    shows = λ quiet. inl quiet;
    found = λ evidence quiet is. absurd (cc);
    under = inl (none, refl, refl);
    accepted = λ at under sealed made_count quiet is. absurd (cc);
    tampered = λ place is. absurd (cc);
    unspent = λ page is. cc;
  }

  -- it was read from its place and checked
  module _ (some : counter ≢ never_written) (bus : B) (engine : TagEngineView T) (result : Result (List ℕ) MemStop)
      (reads : (accesses : List Access) × moved old.bus accesses bus
      × ReadsLine (tags_of d n old.engine) line counter (history old.bus) old.engine (history bus) engine accesses result) where
    is_current_here : old.engine.evidence ≡ None → IsCurrent (tags_of d n old.engine) old.pads.used old.engine.made (history old.bus).written line counter
    is_current_here quiet =
        current (tags_of d n old.engine) old.engine.geometry (history old.bus) old.engine.made old.pads.used line counter kept (rose quiet) inside (had quiet) some last

    pub checked_read : IsReadAt (terms_of history moved d n old) line counter old (record { bus = bus; engine = engine; pads = old.pads })
        (decrypted old.pads.key line counter result)
    checked_read = record {
      value = λ quiet.
          let was_quiet = was_none old.engine.evidence engine.evidence reads.2.makes.checked.first quiet in
          if_decrypted old.pads.key line counter _ _ result
          (λ cipher there.
          written_bytes (tags_of d n old.engine) old.engine.geometry (history old.bus) old.engine.made old.pads.used line counter kept (rose was_quiet) inside
          (had was_quiet) some old.pads.key cipher (there.1 quiet)) (line_known reads.2);
      fresh = λ quiet fresh. let last = entry_by_counter old.pads.used line counter (had quiet) some in absurd (cc);
      trace = record {
        accesses = reads.0;
        moved = reads.1;
        has = subst (HasAccesses (tags_of d n old.engine) old.engine engine reads.0) (sym (same_stop old.pads.key line counter result)) reads.2.makes.has;
      };
      step = makes_moves reads.2.makes;
      made = (line_once reads.2).made;
      room = (line_once reads.2).room;
      pads = refl;
      written = (line_once reads.2).written;
      once =
          elim (line_once reads.2).once [
            | inl one ↦ omega (arith, one)
            | inr none ↦ let same = ap (λ (h : BusHistory). h.accesses) ((line_once reads.2).refused none).0 in omega (arith, same)
          ];
      alone = λ other differs. (line_others reads.2 (line_place other) (λ same. differs (cc))).reads;
      nodes = λ level index. (line_others reads.2 (node_place level index) (λ same. absurd (cc))).reads;
      rose = λ quiet memory. inr ((line_once reads.2).rose (λ is. memory (same_stop old.pads.key line counter result ∙ is)));
      accounted = λ was.
          subst (λ (s : Option MemStop). IsAccounted (tags_of d n old.engine) old.pads.used engine.made (history bus) s engine.evidence)
          (sym (same_stop old.pads.key line counter result)) (reads.2.makes.checked.honest old.pads.used is_current_here was);
      shows = λ quiet. shown_rose reads.2.makes.checked old.pads.used (is_current_here quiet) quiet;
      found = λ evidence quiet is.
          read_found (tags_of d n old.engine) line counter reads.0 old.engine engine result reads.2.read evidence quiet is;
      under = read_as (tags_of d n old.engine) old.pads.key line counter reads.0 old.engine engine result some reads.2.read;
      accepted = read_accepted (tags_of d n old.engine) old.pads.key line counter reads.0 old.engine engine result reads.2.read;
      tampered = λ place is.
          let there : result ≡ Err (Tampered place) = same_refusal old.pads.key line counter result (Tampered place) is in
          (line_tampered reads.2 place there, λ quiet. tampered_rose reads.2.makes.checked old.pads.used (is_current_here quiet) quiet place (ap result_err there));
      unspent = λ page is. line_unspent reads.2 page (same_refusal old.pads.key line counter result (Spent page) is);
    }
