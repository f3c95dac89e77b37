-- What fits together still does when a line was encrypted and tagged under a later counter.
use Rattle.std.proofs.Common.{◌≡◌, ◌≢◌, ◌⊎◌, inl, inr, ℕ, ◌<◌, Bool, true, false, cond, nat_eq, nat_lt, List, [], ◌∷◌, ◌++◌, length, Option, Some, None, unwrap_or, refl, ap, sym, ◌∙◌, subst}
use Rattle.std.proofs.lemmas.Bool.{cases_eq, lt-ltb}
use Rattle.std.proofs.lemmas.Bool.Decides.{Decides-eqb}
use Rattle.std.proofs.lemmas.List.Elements.{Contains-append_left, Contains-push, Contains-push_cases, filter-append}
use Rattle.std.proofs.lemmas.Option.{same_Some}
use Rattle.sec_base.specs.declared.counter.Counter.{Counter}
use Rattle.sec_base.specs.declared.message.Message.{Message}
use Rattle.sec_base.specs.declared.message.Message.TheVariants.{Line}
use Rattle.sec_base.specs.declared.place.Place.{Place}
use Rattle.sec_base.specs.declared.place.Place.TheVariants.{Line as line_place, Node}
use Rattle.sec_base.specs.Geometry.{GeometryView, line_count}
use Rattle.sec_base.specs.LastMessage.{counter_part, data_pairs, last_data, last_pair}
use Rattle.sec_base.specs.Place.{at_place, zeros_of}
use Rattle.sec_base.proofs.LastMessages.{last_of_same, last_of_other}
use Rattle.sec_base.proofs.SamePlaces.{at_place-here, at_place-there, false_from}
use Rattle.bus_model.specs.BusHistory.{BusHistory}
use Rattle.checked_bus.proofs.LineMessages.{last_data-same, last_data-other}
use Rattle.checked_bus.proofs.Steps.{data_pairs-append}
use Rattle.checked_bus.specs.SealedLine.{sealed_line}
use Rattle.pad_stream.specs.Pads.{AreRising, IsBefore, of_lines}
use Rattle.pad_stream.proofs.RisingCounters.{rising_more}
use Rattle.page_reencrypt.specs.Consistency.{IsConsistent}
use Rattle.bonsai_tree.specs.Tree.{NodesAreMade}
use Rattle.page_reencrypt.specs.Contents.{HoldsLast, HoldsSealed, IsSealed, counter_in, never_written}
use Rattle.page_reencrypt.specs.Outside.{HasCounter}
use Rattle.page_reencrypt.proofs.Nodes.{node_there, nodes_more}
use Rattle.page_reencrypt.proofs.RisingPairs.{before_next}

-- One entry more

pub last_pair-same : (used : List (ℕ × Counter)) (line : ℕ) (counter : Counter) → last_pair line (used ++ (line, counter) ∷ []) ≡ Some counter
last_pair-same used line counter =
    let same : nat_eq line line ≡ true = (Decides-eqb line line).1 refl in
    last_of_same (counter_part line) used (line, counter) counter (ap (λ (b : Bool). cond b (Some counter) None) same)

pub last_pair-other : (used : List (ℕ × Counter)) (line other : ℕ) (counter : Counter) → other ≢ line → last_pair other (used ++ (line, counter) ∷ []) ≡ last_pair other used
last_pair-other used line other counter differs =
    let apart : nat_eq line other ≡ false = false_from (nat_eq line other) (Decides-eqb line other) (λ (e : line ≡ other). differs (sym e)) in
    last_of_other (counter_part other) used (line, counter) (ap (λ (b : Bool). cond b (Some counter) None) apart)

-- the counter of the line itself, and of each other one
pub counter_in-same : (used : List (ℕ × Counter)) (line : ℕ) (counter : Counter) → counter_in (used ++ (line, counter) ∷ []) line ≡ counter
counter_in-same used line counter = ap (λ (last : Option Counter). unwrap_or last never_written) (last_pair-same used line counter)

pub counter_in-other : (used : List (ℕ × Counter)) (line other : ℕ) (counter : Counter) → other ≢ line → counter_in (used ++ (line, counter) ∷ []) other ≡ counter_in used other
counter_in-other used line other counter differs = ap (λ (last : Option Counter). unwrap_or last never_written) (last_pair-other used line other counter differs)

paired_more : (lines : ℕ) (made : List Message) (used : List (ℕ × Counter)) (line : ℕ) (counter : Counter) (cipher : List ℕ) → data_pairs made ≡ of_lines lines used → line < lines →
    data_pairs (made ++ Line line counter cipher ∷ []) ≡ of_lines lines (used ++ (line, counter) ∷ [])
unfolding data_pairs
paired_more lines made used line counter cipher paired inside =
    let entry : ℕ × Counter = (line, counter) in
    let passes : nat_lt line lines ≡ true = lt-ltb line lines inside in
    data_pairs-append made (Line line counter cipher ∷ [])
    ∙ ap (λ (xs : List (ℕ × Counter)). xs ++ entry ∷ []) paired
    ∙ ap (λ (b : Bool). of_lines lines used ++ cond b (entry ∷ []) []) (sym passes)
    ∙ sym (filter-append (λ (e : ℕ × Counter). nat_lt e.0 lines) used (entry ∷ []))

-- A line's place that holds what was made still does, when more was made and used.

sealed_more : (tag_of : Message → List ℕ) (made more : List Message) (used more_used : List (ℕ × Counter)) (line : ℕ) (bytes : List ℕ) →
    IsSealed tag_of made used line bytes → IsSealed tag_of (made ++ more) (used ++ more_used) line bytes
sealed_more tag_of made more used more_used line bytes is = record {
  counter = is.counter;
  cipher = is.cipher;
  made_there = Contains-append_left made more (Line line is.counter is.cipher) is.made_there;
  used_there = Contains-append_left used more_used (line, is.counter) is.used_there;
  sealed = is.sealed;
}

holds_more : (tag_of : Message → List ℕ) (lines : ℕ) (made more : List Message) (used more_used : List (ℕ × Counter)) (written : Place → List ℕ) →
    HoldsSealed tag_of lines made used written → HoldsSealed tag_of lines (made ++ more) (used ++ more_used) written
holds_more tag_of lines made more used more_used written was = record {
  holds = λ line inside.
      elim (was.holds line inside) [
        | inl zeros ↦ inl zeros
        | inr is ↦ inr (sealed_more tag_of made more used more_used line (written (line_place line)) is)
      ];
}

-- The counters of a line rise on by one that comes behind its own.
pub risen_more : (used : List (ℕ × Counter)) (line : ℕ) (old counter : Counter) → AreRising used → HasCounter used line old → IsBefore old counter →
    AreRising (used ++ (line, counter) ∷ [])
risen_more used line old counter rising had later =
    rising_more used line counter rising (λ before listed. before_next used line old counter before rising had later listed)

-- A line was encrypted and tagged under a counter

module _ (tag_of : Message → List ℕ) (geometry : GeometryView) (history : BusHistory) (made : List Message) (used : List (ℕ × Counter))
    (line : ℕ) (counter : Counter) (cipher : List ℕ) (kept : IsConsistent tag_of geometry history made used)
    (inside : line < line_count geometry) (long : length cipher ≡ 64) where
  abbrev made_now : List Message
  made_now = made ++ Line line counter cipher ∷ []

  abbrev used_now : List (ℕ × Counter)
  used_now = used ++ (line, counter) ∷ []

  abbrev line_now : List ℕ
  line_now = sealed_line tag_of line counter cipher

  sealed_before : HoldsSealed tag_of (line_count geometry) made_now used_now history.written
  sealed_before = holds_more tag_of (line_count geometry) made (Line line counter cipher ∷ []) used ((line, counter) ∷ []) history.written kept.sealed

  sealed_here : IsSealed tag_of made_now used_now line line_now
  sealed_here = record {
    counter = counter;
    cipher = cipher;
    made_there = Contains-push made (Line line counter cipher);
    used_there = Contains-push used (line, counter);
    sealed = refl;
  }

  sealed_after : HoldsSealed tag_of (line_count geometry) made_now used_now (at_place (line_place line) line_now history.written)
  sealed_after = record {
    holds = λ other within.
        elim (cases_eq other line) [
          | inl same ↦
              let here : at_place (line_place line) line_now history.written (line_place line) ≡ line_now = at_place-here (line_place line) line_now history.written in
              subst (λ (l : ℕ). (at_place (line_place line) line_now history.written (line_place l) ≡ zeros_of (line_place l))
              ⊎ IsSealed tag_of made_now used_now l (at_place (line_place line) line_now history.written (line_place l))) (sym same)
              (inr (subst (λ (bytes : List ℕ). IsSealed tag_of made_now used_now line bytes) (sym here) sealed_here))
          | inr differs ↦
              let apart : line_place other ≢ line_place line = λ e. differs (cc) in
              let there : at_place (line_place line) line_now history.written (line_place other) ≡ history.written (line_place other) =
              at_place-there (line_place line) (line_place other) line_now history.written apart in
              subst (λ (bytes : List ℕ). (bytes ≡ zeros_of (line_place other)) ⊎ IsSealed tag_of made_now used_now other bytes) (sym there) (sealed_before.holds other within)
        ];
  }

  nodes_after : NodesAreMade geometry made_now (at_place (line_place line) line_now history.written)
  nodes_after =
      nodes_more geometry made (Line line counter cipher ∷ []) history.written (at_place (line_place line) line_now history.written) kept.nodes
      (node_there line line_now history.written)

  -- what was tagged last stands outside
  pub written_last : HoldsLast tag_of (line_count geometry) made history.written → HoldsLast tag_of (line_count geometry) made_now (at_place (line_place line) line_now history.written)
  written_last was = record {
    holds = λ other found bytes within last.
        elim (cases_eq other line) [
          | inl same ↦
              let mine : Counter × List ℕ = (counter, cipher) in
              let theirs : Counter × List ℕ = (found, bytes) in
              let here : last_data other made_now ≡ Some mine = ap (λ (l : ℕ). last_data l made_now) same ∙ last_data-same made line counter cipher in
              let pair : mine ≡ theirs = same_Some mine theirs (sym here ∙ last) in
              ap (λ (l : ℕ). at_place (line_place line) line_now history.written (line_place l)) same
              ∙ at_place-here (line_place line) line_now history.written
              ∙ ap (λ (p : Counter × List ℕ). sealed_line tag_of line p.0 p.1) pair
              ∙ ap (λ (l : ℕ). sealed_line tag_of l found bytes) (sym same)
          | inr differs ↦
              let apart : line_place other ≢ line_place line = λ e. differs (cc) in
              at_place-there (line_place line) (line_place other) line_now history.written apart
              ∙ was.holds other found bytes within (sym (last_data-other made line other counter cipher differs) ∙ last)
        ];
  }

  consistent_at : (history' : BusHistory) → history'.geometry ≡ history.geometry → HoldsSealed tag_of (line_count geometry) made_now used_now history'.written →
      NodesAreMade geometry made_now history'.written → IsConsistent tag_of geometry history' made_now used_now
  consistent_at history' same sealed nodes = record {
    bus_geometry = same ∙ kept.bus_geometry;
    paired = paired_more (line_count geometry) made used line counter cipher kept.paired inside;
    long = λ other found bytes listed.
        elim (Contains-push_cases made (Line line counter cipher) (Line other found bytes) listed) [
          | inl early ↦ kept.long other found bytes early
          | inr last ↦ let same_bytes : cipher ≡ bytes = cc in ap length (sym same_bytes) ∙ long
        ];
    sealed = sealed;
    nodes = nodes;
  }

  -- it was written with its tag
  pub written_consistent : (history' : BusHistory) → history'.geometry ≡ history.geometry → history'.written ≡ at_place (line_place line) line_now history.written →
      IsConsistent tag_of geometry history' made_now used_now
  written_consistent history' same wrote =
      consistent_at history' same
      (subst (HoldsSealed tag_of (line_count geometry) made_now used_now) (sym wrote) sealed_after)
      (subst (NodesAreMade geometry made_now) (sym wrote) nodes_after)

  -- there was no memory to write it
  pub unwritten_consistent : (history' : BusHistory) → history'.geometry ≡ history.geometry → history'.written ≡ history.written →
      IsConsistent tag_of geometry history' made_now used_now
  unwritten_consistent history' same unwritten =
      consistent_at history' same
      (subst (HoldsSealed tag_of (line_count geometry) made_now used_now) (sym unwritten) sealed_before)
      (nodes_more geometry made (Line line counter cipher ∷ []) history.written history'.written kept.nodes (λ level index. ap (λ (w : Place → List ℕ). w (Node level index)) unwritten))
