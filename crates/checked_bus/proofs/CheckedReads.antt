-- What a checked read makes of a bus and a tag engine.
use Rattle.std.proofs.Common.{◌≡◌, ◌≢◌, ℕ, ◌<◌, inl, inr, true, List, [], ◌∷◌, ◌++◌, length, take, drop, Option, Some, None, Contains, Result, Ok, Err, refl, ap, sym, ◌∙◌, subst, arith, length-append}
use Rattle.std.specs.Option.{option_or}
use Rattle.std.specs.Prelude.{IfOk}
use Rattle.std.specs.Result.{result_err}
use Rattle.std.proofs.lemmas.List.{take_at, drop_at, take_all}
use Rattle.std.proofs.lemmas.Option.{same_Some}
use Rattle.sec_base.specs.Count.{Rose}
use Rattle.sec_base.specs.Geometry.{line_count}
use Rattle.sec_base.specs.Evidence.{sealed_bytes, sealed_of, LineFails}
use Rattle.sec_base.specs.LastMessage.{last_pair, data_pairs}
use Rattle.sec_base.specs.declared.counter.Counter.{Counter}
use Rattle.sec_base.specs.declared.evidence.Evidence.{Evidence}
use Rattle.sec_base.specs.declared.message.Message.{Message}
use Rattle.sec_base.specs.declared.message.Message.TheVariants.{Line}
use Rattle.sec_base.specs.declared.place.Place.{Place}
use Rattle.sec_base.specs.declared.place.Place.TheVariants.{Line as line_place}
use Rattle.sec_base.specs.declared.sealed.Sealed.{Sealed}
use Rattle.sec_base.specs.declared.stop.MemStop.{MemStop}
use Rattle.sec_base.specs.declared.stop.MemStop.TheVariants.{Tampered, Spent, NoMemory}
use Rattle.bus_model.specs.Access.{Access, Read, CameBy}
use Rattle.bus_model.specs.BusHistory.{BusHistory, after_answer, after_read}
use Rattle.bus_model.specs.FirstLie.{AccountsForLies, HonestOrCaught, IsOfFirstLie}
use Rattle.bus_model.proofs.Steps.{answered}
use Rattle.sec_base.specs.Message.{data_bytes}
use Rattle.tag_engine.specs.Tag.{engine_tag}
use Rattle.tag_engine.specs.TagEngine.{TagEngineView, forgery_of, tags_of}
use Rattle.tag_engine.proofs.Marks.{marked_long}
use Rattle.tag_engine.proofs.Forgeries.{known}
use Rattle.checked_bus.specs.Checks.{Passed, Failed, IsCheckedRead}
use Rattle.checked_bus.specs.SealedLine.{sealed_line}
use Rattle.checked_bus.specs.Makes.{IsShownIn, Makes, ReadsLine}
use Rattle.checked_bus.specs.Steps.{IsAccounted, IsCurrent}
use Rattle.checked_bus.proofs.LineMessages.{last_made, last_pair-some}
use Rattle.checked_bus.proofs.FalseAnswers.{lie_comes, lie_rises, first_lie_stays}
use Rattle.checked_bus.proofs.Evidences.{shown_is, first_stays, by_evidence, none_found, or_none}
use Rattle.checked_bus.proofs.PlaceReads.{IsRead, ReadsOnce, answer_accounted, answer_makes, nothing_makes, place_first, place_once, place_others, told, told_last, untold}
use Rattle.checked_bus.proofs.Steps.{SamePlace}

-- the tags of lines are 16 bytes long
pub line_tags_long : {T : Type 0} (data_tag_of node_tag_of : T → List ℕ → List ℕ) (engine : TagEngineView T) (line : ℕ) (counter : Counter) →
    ((tagger : T) (message : List ℕ) → length (data_tag_of tagger message) ≡ 16) → (cipher : List ℕ) →
    length (tags_of data_tag_of node_tag_of engine (Line line counter cipher)) ≡ 16
unfolding engine_tag
line_tags_long data_tag_of node_tag_of engine line counter long cipher =
    marked_long engine.geometry.layout (data_tag_of engine.tagger (data_bytes line counter cipher)) (long engine.tagger (data_bytes line counter cipher))

-- The 80 bytes of a place

pub same_cipher : (cipher cipher' tag tag' : List ℕ) → length cipher ≡ 64 → length cipher' ≡ 64 → cipher ++ tag ≡ cipher' ++ tag' → cipher ≡ cipher'
same_cipher cipher cipher' tag tag' long long' same =
    sym (take_at cipher tag 64 long) ∙ ap (take 64) same ∙ take_at cipher' tag' 64 long'

pub same_tag : (cipher cipher' tag tag' : List ℕ) → length cipher ≡ 64 → length cipher' ≡ 64 → cipher ++ tag ≡ cipher' ++ tag' → tag ≡ tag'
same_tag cipher cipher' tag tag' long long' same =
    sym (drop_at cipher tag 64 long) ∙ ap (drop 64) same ∙ drop_at cipher' tag' 64 long'

same_length : (cipher cipher' tag tag' : List ℕ) → length tag ≡ 16 → length tag' ≡ 16 → length cipher ≡ 64 → cipher ++ tag ≡ cipher' ++ tag' → length cipher' ≡ 64
same_length cipher cipher' tag tag' tag_long tag_long' long same =
    omega (arith, ap length same, length-append cipher tag, length-append cipher' tag', tag_long, tag_long', long)

-- What was false

abbrev pub tampered : Option MemStop → Place → Type 0
tampered stopped place = stopped ≡ Some (Tampered place)

-- no answer was, where nothing was taken for tampering
pub none_lied : (tag_of : Message → List ℕ) (used : List (ℕ × Counter)) (made : List Message) (history : BusHistory) →
    HonestOrCaught tag_of used made history (tampered None) → history.lies ≡ 0
none_lied tag_of used made history (inl honest) = honest.lies
none_lied tag_of used made history (inr caught) = absurd (let ended : tampered None caught.lie.place = caught.ended in cc)

pub still_honest : (tag_of : Message → List ℕ) (used : List (ℕ × Counter)) (made : List Message) (history : BusHistory) (stopped : Option MemStop) →
    history.lies ≡ 0 → ((place : Place) → ¬ tampered stopped place) → HonestOrCaught tag_of used made history (tampered stopped)
still_honest tag_of used made history stopped none untampered = inl (record { lies = none; untampered = untampered })

-- a stop that is no tampering
pub ended_accounted : (tag_of : Message → List ℕ) (used : List (ℕ × Counter)) (made : List Message) (history : BusHistory) (stop : MemStop) (evidence : Option Evidence) →
    ((place : Place) → stop ≢ Tampered place) → IsAccounted tag_of used made history None evidence → IsAccounted tag_of used made history (Some stop) evidence
ended_accounted tag_of used made history stop evidence untampered was = record {
  account = record {
    answers = λ quiet. still_honest tag_of used made history (Some stop) (none_lied tag_of used made history (was.account.answers quiet))
        (λ place is. untampered place (same_Some stop (Tampered place) is));
    shown = was.account.shown;
  };
  genuine = was.genuine;
}

-- no memory for a read
pub nothing_accounted : {T : Type 0} (tag_of : Message → List ℕ) (used : List (ℕ × Counter)) (history history' : BusHistory) (engine engine' : TagEngineView T) →
    history' ≡ history → engine' ≡ engine → IsAccounted tag_of used engine.made history None engine.evidence →
    IsAccounted tag_of used engine'.made history' (Some NoMemory) engine'.evidence
nothing_accounted {T} tag_of used history history' engine engine' same unchanged was =
    subst (λ (t : BusHistory). IsAccounted tag_of used engine'.made t (Some NoMemory) engine'.evidence) (sym same)
    (subst (λ (e : TagEngineView T). IsAccounted tag_of used e.made history (Some NoMemory) e.evidence) (sym unchanged)
    (ended_accounted tag_of used engine.made history NoMemory engine.evidence (λ place is. cc) was))

-- With evidence from before it is told by what that shows
pub accounted_after : {T : Type 0} (place : Place) (history history' : BusHistory) (engine engine' : TagEngineView T) (stop : Option MemStop)
    (tag_of : Message → List ℕ) (used : List (ℕ × Counter)) (first : Evidence) → engine.evidence ≡ Some first → IsRead place history history' engine engine' stop →
    IsAccounted tag_of used engine.made history None engine.evidence → IsAccounted tag_of used engine'.made history' stop engine'.evidence
accounted_after place history history' engine engine' stop tag_of used first before (inl (read, remembered)) was =
    answer_accounted place history history' engine engine' stop tag_of used first before read was
accounted_after place history history' engine engine' stop tag_of used first before (inr (same, unchanged, refused)) was =
    subst (λ (s : Option MemStop). IsAccounted tag_of used engine'.made history' s engine'.evidence) (sym refused)
    (nothing_accounted tag_of used history history' engine engine' same unchanged was)

-- A read that there was no memory for is no access
pub nothing_read : {T : Type 0} (tag_of : Message → List ℕ) (expected : List (ℕ × Counter) → Type 0) (history history' : BusHistory)
    (engine engine' : TagEngineView T) (accesses : List Access) → CameBy history accesses history' → accesses ≡ [] → engine' ≡ engine →
    Makes tag_of expected history engine history' engine' accesses (Some NoMemory)
nothing_read {T} tag_of expected history history' engine engine' accesses came none unchanged =
    let same : history' ≡ history = untold history history' accesses came none in
    let evidence_is : engine'.evidence ≡ engine.evidence = ap (λ (e : TagEngineView T). e.evidence) unchanged in
    subst (λ (xs : List Access). Makes tag_of expected history engine history' engine' xs (Some NoMemory)) (sym none)
    (nothing_makes tag_of expected history history' engine engine' (Some NoMemory) same unchanged (λ place is. cc) (record {
      honest = λ used expects was. nothing_accounted tag_of used history history' engine engine' same unchanged was;
      found = λ used expects quiet. inl (evidence_is ∙ quiet, λ place is. cc);
      first = λ evidence is. evidence_is ∙ is;
    }))

-- the place of a line answered these bytes
abbrev after_line : ℕ → Sealed → BusHistory → BusHistory
after_line line sealed history = after_read (line_place line) (sealed_bytes sealed) history

module _ {T : Type 0} (tag_of : Message → List ℕ) (line : ℕ) (counter : Counter) (history history' : BusHistory)
    (engine engine' : TagEngineView T) (accesses : List Access) (came : CameBy history accesses history') where
  told_line : (sealed : Sealed) → accesses ≡ Read (line_place line) (sealed_bytes sealed) ∷ [] → history' ≡ after_line line sealed history
  told_line sealed is = told history history' accesses (line_place line) (sealed_bytes sealed) came is

  read_is : (result : Result (List ℕ) MemStop) → IsCheckedRead tag_of line counter accesses engine engine' result →
      IsRead (line_place line) history history' engine engine' (result_err result)
  read_is (Ok cipher) passed =
      let shown : Option Evidence = forgery_of engine.made line counter passed.sealed true in
      inl (
        record {
          bytes = sealed_bytes passed.sealed;
          shown = option_or engine.evidence shown;
          answered = told_line passed.sealed passed.answered;
          engine_is = passed.checked;
          first = first_stays engine.evidence shown;
        },
        λ none. cc,
      )
  read_is (Err (Spent page)) read = absurd read
  read_is (Err NoMemory) read = inr (untold history history' accesses came read.0, read.1, refl)
  read_is (Err (Tampered place)) read = inl (
    record {
      bytes = sealed_bytes read.1.sealed;
      shown = engine.evidence;
      answered = told_line read.1.sealed read.1.answered;
      engine_is = read.1.unchanged;
      first = λ evidence is. is;
    },
    λ none. cc,
  )

  -- Under a line's last counter

  module _ (tag_long : (cipher : List ℕ) → length (tag_of (Line line counter cipher)) ≡ 16) (used : List (ℕ × Counter))
      (current : IsCurrent tag_of used engine.made history.written line counter) where
    same_as_made : (sealed : Sealed) → sealed_bytes sealed ≡ history.written (line_place line) →
        sealed.cipher ++ sealed.tag ≡ current.cipher ++ tag_of (Line line counter current.cipher)
    same_as_made sealed same = same ∙ current.stored

    made_long : (sealed : Sealed) → sealed_bytes sealed ≡ history.written (line_place line) → length sealed.cipher ≡ 64 → length sealed.tag ≡ 16 →
        length current.cipher ≡ 64
    made_long sealed same long long_tag =
        same_length sealed.cipher current.cipher sealed.tag (tag_of (Line line counter current.cipher)) long_tag (tag_long current.cipher) long
        (same_as_made sealed same)

    -- a line without its tag is not what was written
    failed_differs : (sealed : Sealed) → length sealed.cipher ≡ 64 → length sealed.tag ≡ 16 → sealed.tag ≢ tag_of (Line line counter sealed.cipher) →
        sealed_bytes sealed ≢ history.written (line_place line)
    failed_differs sealed long long_tag untagged = λ same.
        let whole : sealed.cipher ++ sealed.tag ≡ current.cipher ++ tag_of (Line line counter current.cipher) = same_as_made sealed same in
        let made : length current.cipher ≡ 64 = made_long sealed same long long_tag in
        let cipher : sealed.cipher ≡ current.cipher = same_cipher sealed.cipher current.cipher sealed.tag (tag_of (Line line counter current.cipher)) long made whole in
        let tag : sealed.tag ≡ tag_of (Line line counter current.cipher) =
        same_tag sealed.cipher current.cipher sealed.tag (tag_of (Line line counter current.cipher)) long made whole in
        untagged (tag ∙ ap (λ (x : List ℕ). tag_of (Line line counter x)) (sym cipher))

    -- nor is a line with the tag of a message that was never made
    forged_differs : (sealed : Sealed) → length sealed.cipher ≡ 64 → sealed.tag ≡ tag_of (Line line counter sealed.cipher) →
        (Contains engine.made (Line line counter sealed.cipher) → ⊥) → sealed_bytes sealed ≢ history.written (line_place line)
    forged_differs sealed long tagged never = λ same.
        let whole : sealed.cipher ++ sealed.tag ≡ current.cipher ++ tag_of (Line line counter current.cipher) = same_as_made sealed same in
        let made : length current.cipher ≡ 64 = made_long sealed same long (ap length tagged ∙ tag_long sealed.cipher) in
        let cipher : sealed.cipher ≡ current.cipher = same_cipher sealed.cipher current.cipher sealed.tag (tag_of (Line line counter current.cipher)) long made whole in
        never (subst (λ (x : List ℕ). Contains engine.made (Line line counter x)) (sym cipher)
        (last_made engine.made line counter current.cipher current.made_last))

    -- a line with the tag of a message that was made under the counter is what was written
    passed_same : (sealed : Sealed) → sealed.tag ≡ tag_of (Line line counter sealed.cipher) → Contains engine.made (Line line counter sealed.cipher) →
        sealed_bytes sealed ≡ history.written (line_place line)
    passed_same sealed tagged listed =
        let cipher : sealed.cipher ≡ current.cipher = current.only sealed.cipher listed in
        ap (λ (t : List ℕ). sealed.cipher ++ t) tagged ∙ ap (λ (x : List ℕ). sealed_line tag_of line counter x) cipher ∙ sym current.stored

    -- a line without its tag fails its check
    line_fails : (sealed : Sealed) → length sealed.cipher ≡ 64 → sealed.tag ≢ tag_of (Line line counter sealed.cipher) →
        LineFails tag_of used line (sealed_of (sealed_bytes sealed))
    line_fails sealed long untagged =
        let cipher_is : take 64 (sealed.cipher ++ sealed.tag) ≡ sealed.cipher = take_at sealed.cipher sealed.tag 64 long in
        let tag_is : drop 64 (sealed.cipher ++ sealed.tag) ≡ sealed.tag = drop_at sealed.cipher sealed.tag 64 long in
        let fails : LineFails tag_of used line sealed = record { counter = counter; last = current.last; fails = untagged } in
        subst (λ (x : List ℕ). LineFails tag_of used line (record { cipher = x; tag = drop 64 (sealed.cipher ++ sealed.tag) })) (sym cipher_is)
        (subst (λ (y : List ℕ). LineFails tag_of used line (record { cipher = sealed.cipher; tag = y })) (sym tag_is) fails)

    -- it comes where an answer was false
    pub tampered_lied : Failed tag_of line counter accesses engine engine' → Rose history.lies history'.lies
    tampered_lied failed =
        subst (λ (t : BusHistory). Rose history.lies t.lies) (sym (told_line failed.sealed failed.answered))
        (lie_rises history (line_place line) (sealed_bytes failed.sealed) (failed_differs failed.sealed failed.long failed.tag_long failed.untagged))

    failed_answers : (sealed : Sealed) → length sealed.cipher ≡ 64 → length sealed.tag ≡ 16 → sealed.tag ≢ tag_of (Line line counter sealed.cipher) →
        history.lies ≡ 0 → HonestOrCaught tag_of used engine.made (after_line line sealed history) (tampered (Some (Tampered (line_place line))))
    failed_answers sealed long long_tag untagged none =
        let lie = lie_comes history (line_place line) (sealed_bytes sealed) none (failed_differs sealed long long_tag untagged) in
        inr (record {
          lies = lie.lies;
          lie = record { access = (after_line line sealed history).accesses; place = line_place line; bytes = sealed_bytes sealed };
          first = lie.first;
          last = refl;
          fails = line_fails sealed long untagged;
          ended = refl;
        })

    passed_answers : (sealed : Sealed) → sealed.tag ≡ tag_of (Line line counter sealed.cipher) → history.lies ≡ 0 →
        forgery_of engine.made line counter sealed true ≡ None →
        HonestOrCaught tag_of used engine.made (after_line line sealed history) (tampered None)
    passed_answers sealed tagged none unshown =
        let same = passed_same sealed tagged (known engine.made line counter sealed unshown) in
        let is : after_line line sealed history ≡ after_answer (line_place line) history = answered (line_place line) (sealed_bytes sealed) history same in
        still_honest tag_of used engine.made (after_line line sealed history) None (ap (λ (t : BusHistory). t.lies) is ∙ none) (λ place taken. cc)

    shown_first : (sealed : Sealed) (evidence : Evidence) → length sealed.cipher ≡ 64 → sealed.tag ≡ tag_of (Line line counter sealed.cipher) →
        history.lies ≡ 0 → forgery_of engine.made line counter sealed true ≡ Some evidence →
        IsOfFirstLie engine.made (after_line line sealed history) evidence
    shown_first sealed evidence long tagged none shown =
        let is = shown_is engine.made line counter sealed evidence shown in
        let lie = lie_comes history (line_place line) (sealed_bytes sealed) none (forged_differs sealed long tagged is.1) in
        let after : BusHistory = after_line line sealed history in
        let whole : take (length engine.made) engine.made ≡ engine.made = take_all (length engine.made) engine.made (omega arith) in
        subst (λ (e : Evidence). IsOfFirstLie engine.made after e) (sym is.0) (record {
          lies = omega (arith, lie.lies);
          lie = record { access = after.accesses; place = line_place line; bytes = sealed_bytes sealed };
          first = lie.first;
          place = refl;
          bytes = refl;
          counter = ap (λ (xs : List Message). last_pair line (data_pairs xs)) whole ∙ last_pair-some engine.made line counter current.cipher current.made_last;
        })

    -- evidence comes where an answer was false
    forged_lied : (sealed : Sealed) (evidence : Evidence) → history' ≡ after_line line sealed history → length sealed.cipher ≡ 64 →
        sealed.tag ≡ tag_of (Line line counter sealed.cipher) → forgery_of engine.made line counter sealed true ≡ Some evidence →
        Rose history.lies history'.lies
    forged_lied sealed evidence answered long tagged shown =
        let is = shown_is engine.made line counter sealed evidence shown in
        subst (λ (t : BusHistory). Rose history.lies t.lies) (sym answered)
        (lie_rises history (line_place line) (sealed_bytes sealed) (forged_differs sealed long tagged is.1))

    pub shown_lied : (result : Result (List ℕ) MemStop) → IsCheckedRead tag_of line counter accesses engine engine' result →
        engine.evidence ≡ None → engine'.evidence ≢ None → Rose history.lies history'.lies
    shown_lied (Ok cipher) passed quiet shown =
        let is : engine'.evidence ≡ forgery_of engine.made line counter passed.sealed true =
        ap (λ (e : TagEngineView T). e.evidence) passed.checked
        ∙ ap (λ (o : Option Evidence). option_or o (forgery_of engine.made line counter passed.sealed true)) quiet in
        by_evidence (forgery_of engine.made line counter passed.sealed true) (λ none. absurd (shown (is ∙ none)))
        (λ evidence some. forged_lied passed.sealed evidence (told_line passed.sealed passed.answered) passed.long passed.tagged some)
    shown_lied (Err (Spent page)) read quiet shown = absurd read
    shown_lied (Err NoMemory) read quiet shown = absurd (shown (ap (λ (e : TagEngineView T). e.evidence) read.1 ∙ quiet))
    shown_lied (Err (Tampered place)) read quiet shown = absurd (shown (ap (λ (e : TagEngineView T). e.evidence) read.1.unchanged ∙ quiet))

    passed_accounted : (sealed : Sealed) (before : Option Evidence) → length sealed.cipher ≡ 64 → sealed.tag ≡ tag_of (Line line counter sealed.cipher) →
        AccountsForLies tag_of used engine.made history (tampered None) before →
        AccountsForLies tag_of used engine.made (after_line line sealed history) (tampered None)
        (option_or before (forgery_of engine.made line counter sealed true))
    passed_accounted sealed None long tagged account =
        let none : history.lies ≡ 0 = none_lied tag_of used engine.made history (account.answers refl) in
        record {
          answers = λ unshown. passed_answers sealed tagged none unshown;
          shown = λ evidence is. shown_first sealed evidence long tagged none is;
        }
    passed_accounted sealed (Some first) long tagged account = record {
      answers = λ quiet. absurd (cc);
      shown = λ evidence is. first_lie_stays history engine.made (line_place line) (sealed_bytes sealed) evidence (account.shown evidence is);
    }

    failed_accounted : (sealed : Sealed) → length sealed.cipher ≡ 64 → length sealed.tag ≡ 16 → sealed.tag ≢ tag_of (Line line counter sealed.cipher) →
        AccountsForLies tag_of used engine.made history (tampered None) engine.evidence →
        AccountsForLies tag_of used engine.made (after_line line sealed history) (tampered (Some (Tampered (line_place line)))) engine.evidence
    failed_accounted sealed long long_tag untagged account = record {
      answers = λ quiet. failed_answers sealed long long_tag untagged (none_lied tag_of used engine.made history (account.answers quiet));
      shown = λ evidence is. first_lie_stays history engine.made (line_place line) (sealed_bytes sealed) evidence (account.shown evidence is);
    }

    pub read_accounted : (result : Result (List ℕ) MemStop) → IsCheckedRead tag_of line counter accesses engine engine' result →
        IsAccounted tag_of used engine.made history None engine.evidence →
        IsAccounted tag_of used engine'.made history' (result_err result) engine'.evidence
    read_accounted (Ok cipher) passed was =
        subst (λ (t : BusHistory). IsAccounted tag_of used engine'.made t None engine'.evidence) (sym (told_line passed.sealed passed.answered))
        (subst (λ (made : List Message). IsAccounted tag_of used made (after_line line passed.sealed history) None engine'.evidence)
        (sym (ap (λ (e : TagEngineView T). e.made) passed.checked)) (record {
          account = subst (λ (o : Option Evidence). AccountsForLies tag_of used engine.made (after_line line passed.sealed history) (tampered None) o)
              (sym (ap (λ (e : TagEngineView T). e.evidence) passed.checked))
              (passed_accounted passed.sealed engine.evidence passed.long passed.tagged was.account);
          genuine = passed.genuine;
        }))
    read_accounted (Err (Spent page)) read was = absurd read
    read_accounted (Err NoMemory) read was = nothing_accounted tag_of used history history' engine engine' (untold history history' accesses came read.0) read.1 was
    read_accounted (Err (Tampered place)) read was =
        subst (λ (p : Place). IsAccounted tag_of used engine'.made history' (Some (Tampered p)) engine'.evidence) (sym read.0)
        (subst (λ (t : BusHistory). IsAccounted tag_of used engine'.made t (Some (Tampered (line_place line))) engine'.evidence) (sym (told_line read.1.sealed read.1.answered))
        (subst (λ (e : TagEngineView T). IsAccounted tag_of used e.made (after_line line read.1.sealed history) (Some (Tampered (line_place line))) e.evidence)
        (sym read.1.unchanged) (record {
          account = failed_accounted read.1.sealed read.1.long read.1.tag_long read.1.untagged was.account;
          genuine = was.genuine;
        })))

  -- Where the counter is the last unless there is evidence

  pub read_honest : ((cipher : List ℕ) → length (tag_of (Line line counter cipher)) ≡ 16) → (used : List (ℕ × Counter)) →
      (engine.evidence ≡ None → IsCurrent tag_of used engine.made history.written line counter) → (result : Result (List ℕ) MemStop) →
      IsCheckedRead tag_of line counter accesses engine engine' result → IsAccounted tag_of used engine.made history None engine.evidence →
      IsAccounted tag_of used engine'.made history' (result_err result) engine'.evidence
  read_honest tag_long used current result read was =
      by_evidence engine.evidence (λ none. read_accounted tag_long used (current none) result read was)
      (λ first before. accounted_after (line_place line) history history' engine engine' (result_err result) tag_of used first before (read_is result read) was)

  -- Evidence is of what was read
  read_shown : {cipher : List ℕ} (passed : Passed tag_of line counter accesses engine engine' cipher) (evidence : Evidence) → engine.evidence ≡ None →
      engine'.evidence ≡ Some evidence → IsShownIn (length engine.made) (Read (line_place line) (sealed_bytes passed.sealed) ∷ []) evidence
  read_shown passed evidence quiet is =
      let shown : forgery_of engine.made line counter passed.sealed true ≡ Some evidence =
      sym (ap (λ (o : Option Evidence). option_or o (forgery_of engine.made line counter passed.sealed true)) quiet)
      ∙ sym (ap (λ (e : TagEngineView T). e.evidence) passed.checked) ∙ is in
      subst (λ (e : Evidence). IsShownIn (length engine.made) (Read (line_place line) (sealed_bytes passed.sealed) ∷ []) e)
      (sym (shown_is engine.made line counter passed.sealed evidence shown).0) (record { before = []; after = []; is = refl; count = omega arith })

  -- What is answered was tagged under the counter, or there is evidence
  known_by : (result : Result (List ℕ) MemStop) → IsCheckedRead tag_of line counter accesses engine engine' result →
      IfOk result (λ cipher. (length cipher ≡ 64) × (engine'.evidence ≡ None → Contains engine.made (Line line counter cipher)))
  known_by (Ok cipher) passed = (
    ap length passed.given ∙ passed.long,
    λ quiet.
        let none : forgery_of engine.made line counter passed.sealed true ≡ None =
        or_none engine.evidence (forgery_of engine.made line counter passed.sealed true) (sym (ap (λ (e : TagEngineView T). e.evidence) passed.checked) ∙ quiet) in
        subst (λ (c : List ℕ). Contains engine.made (Line line counter c)) (sym passed.given) (known engine.made line counter passed.sealed none),
  )
  known_by (Err stop) read = tt

  -- Its accesses

  abbrev expects_line : List (ℕ × Counter) → Type 0
  expects_line used = IsCurrent tag_of used engine.made history.written line counter

  pub line_reads : line < line_count engine.geometry → ((cipher : List ℕ) → length (tag_of (Line line counter cipher)) ≡ 16) → (result : Result (List ℕ) MemStop) →
      IsCheckedRead tag_of line counter accesses engine engine' result → ReadsLine tag_of line counter history engine history' engine' accesses result
  line_reads inside tag_long (Ok cipher) passed = record {
    read = passed;
    makes = subst (λ (xs : List Access). Makes tag_of expects_line history engine history' engine' xs None) (sym passed.answered)
        (answer_makes tag_of expects_line history history' engine engine' None
        (line_place line) (sealed_bytes passed.sealed) (option_or engine.evidence (forgery_of engine.made line counter passed.sealed true))
        (told_line passed.sealed passed.answered) passed.checked inside (λ evidence quiet is. read_shown passed evidence quiet is) (λ place is. absurd (cc)) (record {
          honest = λ used expects was. read_honest tag_long used expects (Ok cipher) passed was;
          found = λ used expects quiet. none_found engine'.evidence None (λ place is. cc) (shown_lied tag_long used expects (Ok cipher) passed quiet);
          first = place_first (line_place line) history history' engine engine' None (read_is (Ok cipher) passed);
        }));
  }
  line_reads inside tag_long (Err (Tampered place)) read = record {
    read = read;
    makes =
        let failed = read.1 in
        subst (λ (xs : List Access). Makes tag_of expects_line history engine history' engine' xs (Some (Tampered place))) (sym failed.answered)
        (answer_makes tag_of expects_line history history' engine engine' (Some (Tampered place))
        (line_place line) (sealed_bytes failed.sealed) engine.evidence (told_line failed.sealed failed.answered) failed.unchanged inside
        (λ evidence quiet is. let same : engine'.evidence ≡ engine.evidence = ap (λ (e : TagEngineView T). e.evidence) failed.unchanged in absurd (cc))
        (λ other is. told_last (line_place line) other (Tampered place) (sealed_bytes failed.sealed) (ap (λ (p : Place). Tampered p) read.0) is) (record {
          honest = λ used expects was. read_honest tag_long used expects (Err (Tampered place)) read was;
          found = λ used expects quiet. inr (tampered_lied tag_long used expects failed);
          first = λ evidence is. ap (λ (e : TagEngineView T). e.evidence) failed.unchanged ∙ is;
        }));
  }
  line_reads inside tag_long (Err (Spent page)) read = absurd read
  line_reads inside tag_long (Err NoMemory) read = record {
    read = read;
    makes = nothing_read tag_of expects_line history history' engine engine' accesses came read.0 read.1;
  }

-- What follows of a checked read

module _ {T : Type 0} {tag_of : Message → List ℕ} {line : ℕ} {counter : Counter} {history history' : BusHistory} {engine engine' : TagEngineView T}
    {accesses : List Access} {result : Result (List ℕ) MemStop} (reads : ReadsLine tag_of line counter history engine history' engine' accesses result) where
  line_is : IsRead (line_place line) history history' engine engine' (result_err result)
  line_is = read_is tag_of line counter history history' engine engine' accesses reads.makes.came result reads.read

  -- it is one read
  pub line_once : ReadsOnce (line_place line) history engine history' engine' (result_err result)
  line_once = place_once (line_place line) history history' engine engine' (result_err result) line_is

  -- no other place is touched
  pub line_others : (other : Place) → other ≢ line_place line → SamePlace other history engine.made history' engine'.made
  line_others other apart = place_others (line_place line) history history' engine engine' (result_err result) other apart line_is

  -- what is answered was tagged under the counter, or there is evidence
  pub line_known : IfOk result (λ cipher. (length cipher ≡ 64) × (engine'.evidence ≡ None → Contains engine.made (Line line counter cipher)))
  line_known = known_by tag_of line counter history history' engine engine' accesses reads.makes.came result reads.read

  -- tampering comes only of this line
  pub line_tampered : (place : Place) → result ≡ Err (Tampered place) → place ≡ line_place line
  line_tampered place is = (subst (λ (r : Result (List ℕ) MemStop). IsCheckedRead tag_of line counter accesses engine engine' r) is reads.read).0

  pub line_unspent : (page : ℕ) → result ≢ Err (Spent page)
  line_unspent page is = subst (λ (r : Result (List ℕ) MemStop). IsCheckedRead tag_of line counter accesses engine engine' r) is reads.read
