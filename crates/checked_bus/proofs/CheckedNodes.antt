-- What a checked read of a node makes of a bus and a tag engine.
use Rattle.std.proofs.Common.{◌≡◌, ◌≢◌, ℕ, ◌<◌, inl, inr, true, List, [], ◌∷◌, length, Option, Some, None, IfSome, Result, Ok, Err, refl, ap, sym, ◌∙◌, subst, arith}
use Rattle.std.specs.Option.{option_map, option_or}
use Rattle.std.specs.Prelude.{IfOk}
use Rattle.std.specs.Result.{result_err}
use Rattle.std.proofs.lemmas.Option.{same_Some}
use Rattle.sec_base.specs.Count.{Rose}
use Rattle.sec_base.specs.Geometry.{IsNode}
use Rattle.sec_base.specs.Evidence.{NodeFails}
use Rattle.sec_base.specs.LastMessage.{last_node, node_part}
use Rattle.sec_base.specs.declared.counter.Counter.{Counter}
use Rattle.sec_base.specs.declared.evidence.Evidence.{Evidence}
use Rattle.sec_base.specs.declared.evidence.Evidence.TheVariants.{Collision}
use Rattle.sec_base.specs.declared.message.Message.{Message}
use Rattle.sec_base.specs.declared.message.Message.TheVariants.{Node}
use Rattle.sec_base.specs.declared.place.Place.{Place}
use Rattle.sec_base.specs.declared.place.Place.TheVariants.{Line as line_place, Node as node_place}
use Rattle.sec_base.specs.declared.stop.MemStop.{MemStop}
use Rattle.sec_base.specs.declared.stop.MemStop.TheVariants.{Tampered, Spent, NoMemory}
use Rattle.bus_model.specs.Access.{Access, Read, CameBy}
use Rattle.bus_model.specs.BusHistory.{BusHistory, after_read, after_answer}
use Rattle.bus_model.specs.FirstLie.{AccountsForLies, HonestOrCaught, IsOfFirstLie}
use Rattle.bus_model.proofs.Steps.{answered}
use Rattle.tag_engine.specs.TagEngine.{TagEngineView, collision_of}
use Rattle.tag_engine.proofs.Collisions.{Collides, collides, known}
use Rattle.tag_engine.proofs.LastPlaces.{last_place-within}
use Rattle.checked_bus.specs.Checks.{PassedNode, FailedNode, IsCheckedNode}
use Rattle.checked_bus.specs.Makes.{IsShownIn, Makes, ReadsNode}
use Rattle.checked_bus.specs.Steps.{IsAccounted, IsCurrentNode, SameLines}
use Rattle.checked_bus.proofs.FalseAnswers.{lie_comes, lie_rises, first_lie_stays}
use Rattle.checked_bus.proofs.Evidences.{first_stays, by_evidence, none_found, or_none}
use Rattle.checked_bus.proofs.PlaceReads.{IsRead, ReadsOnce, answer_makes, place_first, place_lines, place_once, place_others, told, told_last, untold}
use Rattle.checked_bus.proofs.CheckedReads.{accounted_after, tampered, none_lied, still_honest, nothing_accounted, nothing_read}
use Rattle.checked_bus.proofs.Steps.{SamePlace}

pub no_line : (level index line : ℕ) → line_place line ≢ node_place level index
no_line level index line same = absurd (cc)

module _ {T : Type 0} (tag_of : Message → List ℕ) (level index : ℕ) (tag : List ℕ) (history history' : BusHistory)
    (engine engine' : TagEngineView T) (accesses : List Access) (came : CameBy history accesses history') where
  told_node : (block : List ℕ) → accesses ≡ Read (node_place level index) block ∷ [] → history' ≡ after_read (node_place level index) block history
  told_node block is = told history history' accesses (node_place level index) block came is

  node_is : (result : Result (List ℕ) MemStop) → IsCheckedNode tag_of level index tag accesses engine engine' result →
      IsRead (node_place level index) history history' engine engine' (result_err result)
  node_is (Ok answer) passed =
      let shown : Option Evidence = collision_of tag_of engine.made level index passed.block tag true in
      inl (
        record {
          bytes = passed.block;
          shown = option_or engine.evidence shown;
          answered = told_node passed.block passed.answered;
          engine_is = passed.checked;
          first = first_stays engine.evidence shown;
        },
        λ none. cc,
      )
  node_is (Err (Spent page)) read = absurd read
  node_is (Err NoMemory) read = inr (untold history history' accesses came read.0, read.1, refl)
  node_is (Err (Tampered place)) read = inl (
    record {
      bytes = read.1.block;
      shown = engine.evidence;
      answered = told_node read.1.block read.1.answered;
      engine_is = read.1.unchanged;
      first = λ evidence is. is;
    },
    λ none. cc,
  )

  shown_here : (answer : List ℕ) (passed : PassedNode tag_of level index tag accesses engine engine' answer) → engine.evidence ≡ None →
      engine'.evidence ≡ collision_of tag_of engine.made level index passed.block tag true
  shown_here answer passed quiet =
      ap (λ (e : TagEngineView T). e.evidence) passed.checked
      ∙ ap (λ (o : Option Evidence). option_or o (collision_of tag_of engine.made level index passed.block tag true)) quiet

  -- Under the tag of the node's last block

  module _ (current : IsCurrentNode tag_of engine.made history.written level index tag) where
    -- a block without it is not what was written
    failed_differs : (block : List ℕ) → tag ≢ tag_of (Node level index block) → block ≢ history.written (node_place level index)
    failed_differs block untagged = λ same.
        untagged (current.tagged ∙ ap (λ (x : List ℕ). tag_of (Node level index x)) (sym (same ∙ current.stored)))

    -- nor is one that isn't the last
    collided_differs : (block : List ℕ) (evidence : Evidence) → Collides tag_of engine.made level index block tag evidence →
        block ≢ history.written (node_place level index)
    collided_differs block evidence found = λ same.
        let last : Some found.last ≡ Some current.block =
        sym (ap (λ (o : Option (ℕ × List ℕ)). option_map (λ (x : ℕ × List ℕ). x.1) o) found.made_last) ∙ current.last in
        let is : found.last ≡ current.block = same_Some found.last current.block last in
        found.differs (is ∙ sym (same ∙ current.stored))

    -- a block with it and without evidence is the last one
    last_answered : (block : List ℕ) → collision_of tag_of engine.made level index block tag true ≡ None → block ≡ current.block
    last_answered block unshown = known tag_of engine.made level index block tag current.block (sym unshown) current.last current.tagged

    block_fails : (block : List ℕ) → tag ≢ tag_of (Node level index block) → NodeFails tag_of engine.made level index block
    block_fails block untagged = record {
      true_block = current.block;
      last = current.last;
      fails = λ same. untagged (current.tagged ∙ sym same);
    }

    -- it comes where an answer was false
    pub node_lied : FailedNode tag_of level index tag accesses engine engine' → Rose history.lies history'.lies
    node_lied failed =
        subst (λ (t : BusHistory). Rose history.lies t.lies) (sym (told_node failed.block failed.answered))
        (lie_rises history (node_place level index) failed.block (failed_differs failed.block failed.untagged))

    -- so does evidence
    pub collided_lied : (result : Result (List ℕ) MemStop) → IsCheckedNode tag_of level index tag accesses engine engine' result →
        engine.evidence ≡ None → engine'.evidence ≢ None → Rose history.lies history'.lies
    collided_lied (Ok answer) passed quiet shown =
        by_evidence engine'.evidence (λ none. absurd (shown none))
        (λ evidence is.
        let found = collides tag_of engine.made level index passed.block tag evidence (sym (shown_here answer passed quiet) ∙ is) in
        subst (λ (t : BusHistory). Rose history.lies t.lies) (sym (told_node passed.block passed.answered))
        (lie_rises history (node_place level index) passed.block (collided_differs passed.block evidence found)))
    collided_lied (Err (Spent page)) read quiet shown = absurd read
    collided_lied (Err NoMemory) read quiet shown = absurd (shown (ap (λ (e : TagEngineView T). e.evidence) read.1 ∙ quiet))
    collided_lied (Err (Tampered place)) read quiet shown = absurd (shown (ap (λ (e : TagEngineView T). e.evidence) read.1.unchanged ∙ quiet))

    module _ (used : List (ℕ × Counter)) where
      failed_answers : (block : List ℕ) → tag ≢ tag_of (Node level index block) → history.lies ≡ 0 →
          HonestOrCaught tag_of used engine.made (after_read (node_place level index) block history) (tampered (Some (Tampered (node_place level index))))
      failed_answers block untagged none =
          let lie = lie_comes history (node_place level index) block none (failed_differs block untagged) in
          inr (record {
            lies = lie.lies;
            lie = record { access = (after_read (node_place level index) block history).accesses; place = node_place level index; bytes = block };
            first = lie.first;
            last = refl;
            fails = block_fails block untagged;
            ended = refl;
          })

      passed_answers : (block : List ℕ) → history.lies ≡ 0 → collision_of tag_of engine.made level index block tag true ≡ None →
          HonestOrCaught tag_of used engine.made (after_read (node_place level index) block history) (tampered None)
      passed_answers block none unshown =
          let same : block ≡ history.written (node_place level index) = last_answered block unshown ∙ sym current.stored in
          let is : after_read (node_place level index) block history ≡ after_answer (node_place level index) history =
          answered (node_place level index) block history same in
          still_honest tag_of used engine.made (after_read (node_place level index) block history) None
          (ap (λ (t : BusHistory). t.lies) is ∙ none) (λ place taken. cc)

      shown_first : (block : List ℕ) (evidence : Evidence) → history.lies ≡ 0 →
          collision_of tag_of engine.made level index block tag true ≡ Some evidence →
          IsOfFirstLie engine.made (after_read (node_place level index) block history) evidence
      shown_first block evidence none shown =
          let found = collides tag_of engine.made level index block tag evidence shown in
          let lie = lie_comes history (node_place level index) block none (collided_differs block evidence found) in
          let after : BusHistory = after_read (node_place level index) block history in
          subst (λ (e : Evidence). IsOfFirstLie engine.made after e) (sym found.is) (record {
            lies = omega (arith, lie.lies);
            lie = record { access = after.accesses; place = node_place level index; bytes = block };
            first = lie.first;
            place = refl;
            bytes = refl;
            counter = tt;
          })

      passed_accounted : (block : List ℕ) (before : Option Evidence) → AccountsForLies tag_of used engine.made history (tampered None) before →
          AccountsForLies tag_of used engine.made (after_read (node_place level index) block history) (tampered None)
          (option_or before (collision_of tag_of engine.made level index block tag true))
      passed_accounted block None account =
          let none : history.lies ≡ 0 = none_lied tag_of used engine.made history (account.answers refl) in
          record {
            answers = λ unshown. passed_answers block none unshown;
            shown = λ evidence is. shown_first block evidence none is;
          }
      passed_accounted block (Some first) account = record {
        answers = λ quiet. absurd (cc);
        shown = λ evidence is. first_lie_stays history engine.made (node_place level index) block evidence (account.shown evidence is);
      }

      failed_accounted : (block : List ℕ) → tag ≢ tag_of (Node level index block) →
          AccountsForLies tag_of used engine.made history (tampered None) engine.evidence →
          AccountsForLies tag_of used engine.made (after_read (node_place level index) block history)
          (tampered (Some (Tampered (node_place level index)))) engine.evidence
      failed_accounted block untagged account = record {
        answers = λ quiet. failed_answers block untagged (none_lied tag_of used engine.made history (account.answers quiet));
        shown = λ evidence is. first_lie_stays history engine.made (node_place level index) block evidence (account.shown evidence is);
      }

      pub node_accounted : (result : Result (List ℕ) MemStop) → IsCheckedNode tag_of level index tag accesses engine engine' result →
          IsAccounted tag_of used engine.made history None engine.evidence →
          IsAccounted tag_of used engine'.made history' (result_err result) engine'.evidence
      node_accounted (Ok answer) passed was =
          subst (λ (t : BusHistory). IsAccounted tag_of used engine'.made t None engine'.evidence) (sym (told_node passed.block passed.answered))
          (subst (λ (made : List Message). IsAccounted tag_of used made (after_read (node_place level index) passed.block history) None engine'.evidence)
          (sym (ap (λ (e : TagEngineView T). e.made) passed.checked)) (record {
            account = subst (λ (o : Option Evidence). AccountsForLies tag_of used engine.made (after_read (node_place level index) passed.block history) (tampered None) o)
                (sym (ap (λ (e : TagEngineView T). e.evidence) passed.checked))
                (passed_accounted passed.block engine.evidence was.account);
            genuine = passed.genuine;
          }))
      node_accounted (Err (Spent page)) read was = absurd read
      node_accounted (Err NoMemory) read was = nothing_accounted tag_of used history history' engine engine' (untold history history' accesses came read.0) read.1 was
      node_accounted (Err (Tampered place)) read was =
          subst (λ (p : Place). IsAccounted tag_of used engine'.made history' (Some (Tampered p)) engine'.evidence) (sym read.0)
          (subst (λ (t : BusHistory). IsAccounted tag_of used engine'.made t (Some (Tampered (node_place level index))) engine'.evidence) (sym (told_node read.1.block read.1.answered))
          (subst (λ (e : TagEngineView T). IsAccounted tag_of used e.made (after_read (node_place level index) read.1.block history)
          (Some (Tampered (node_place level index))) e.evidence)
          (sym read.1.unchanged) (record {
            account = failed_accounted read.1.block read.1.untagged was.account;
            genuine = was.genuine;
          })))

  -- Where the tag is that of the last block unless there is evidence

  pub node_honest : (used : List (ℕ × Counter)) →
      (engine.evidence ≡ None → IsCurrentNode tag_of engine.made history.written level index tag) → (result : Result (List ℕ) MemStop) →
      IsCheckedNode tag_of level index tag accesses engine engine' result → IsAccounted tag_of used engine.made history None engine.evidence →
      IsAccounted tag_of used engine'.made history' (result_err result) engine'.evidence
  node_honest used current result read was =
      by_evidence engine.evidence (λ none. node_accounted (current none) used result read was)
      (λ first before. accounted_after (node_place level index) history history' engine engine' (result_err result) tag_of used first before (node_is result read) was)

  -- a collision is with a message that was made before
  made_before : {block under : List ℕ} {evidence : Evidence} (found : Collides tag_of engine.made level index block under evidence) → found.at < length engine.made
  made_before found =
      subst (λ (o : Option ℕ). IfSome o (λ at. at < length engine.made)) (ap (λ (o : Option (ℕ × List ℕ)). option_map (λ last. last.0) o) found.made_last)
      (last_place-within (node_part level index) engine.made)

  -- Evidence is of what was read
  node_shown : {answer : List ℕ} (passed : PassedNode tag_of level index tag accesses engine engine' answer) (evidence : Evidence) → engine.evidence ≡ None →
      engine'.evidence ≡ Some evidence → IsShownIn (length engine.made) (Read (node_place level index) passed.block ∷ []) evidence
  node_shown {answer} passed evidence quiet is =
      let found = collides tag_of engine.made level index passed.block tag evidence (sym (shown_here answer passed quiet) ∙ is) in
      subst (λ (e : Evidence). IsShownIn (length engine.made) (Read (node_place level index) passed.block ∷ []) e) (sym found.is)
      (record { before = []; after = []; is = refl; count = let below = made_before found in omega (arith, below) })

  -- What is answered is the last block, or there is evidence, of what is answered
  known_by : (result : Result (List ℕ) MemStop) → IsCheckedNode tag_of level index tag accesses engine engine' result →
      IsCurrentNode tag_of engine.made history.written level index tag → engine'.evidence ≡ None →
      IfOk result (λ block. last_node level index engine.made ≡ Some block)
  known_by (Ok answer) passed current quiet =
      let none : collision_of tag_of engine.made level index passed.block tag true ≡ None =
      or_none engine.evidence (collision_of tag_of engine.made level index passed.block tag true) (sym (ap (λ (e : TagEngineView T). e.evidence) passed.checked) ∙ quiet) in
      current.last
      ∙ ap (λ (b : List ℕ). Some b)
      (sym (passed.given ∙ last_answered current passed.block none))
  known_by (Err stop) read current quiet = tt

  accepted_by : (result : Result (List ℕ) MemStop) (at_level at made_at : ℕ) (bytes under : List ℕ) → IsCheckedNode tag_of level index tag accesses engine engine' result →
      engine.evidence ≡ None → engine'.evidence ≡ Some (Collision at_level at made_at bytes under) → result ≡ Ok bytes
  accepted_by (Ok answer) at_level at made_at bytes under passed quiet shown =
      let found = collides tag_of engine.made level index passed.block tag (Collision at_level at made_at bytes under)
      (sym (shown_here answer passed quiet) ∙ shown) in
      let same : Collision at_level at made_at bytes under ≡ Collision level index found.at passed.block tag = found.is in
      let block : bytes ≡ passed.block = cc in
      ap (λ (b : List ℕ). Ok b) (passed.given ∙ sym block)
  accepted_by (Err (Spent page)) at_level at made_at bytes under read quiet shown = absurd read
  accepted_by (Err NoMemory) at_level at made_at bytes under read quiet shown =
      let same : engine'.evidence ≡ None = ap (λ (e : TagEngineView T). e.evidence) read.1 ∙ quiet in absurd (cc)
  accepted_by (Err (Tampered place)) at_level at made_at bytes under read quiet shown =
      let same : engine'.evidence ≡ None = ap (λ (e : TagEngineView T). e.evidence) read.1.unchanged ∙ quiet in absurd (cc)

  -- Its accesses

  abbrev expects_node : List (ℕ × Counter) → Type 0
  expects_node used = IsCurrentNode tag_of engine.made history.written level index tag

  pub node_reads : IsNode engine.geometry level index → (result : Result (List ℕ) MemStop) → IsCheckedNode tag_of level index tag accesses engine engine' result →
      ReadsNode tag_of level index tag history engine history' engine' accesses result
  node_reads inside (Ok answer) passed = record {
    read = passed;
    makes = subst (λ (xs : List Access). Makes tag_of expects_node history engine history' engine' xs None) (sym passed.answered)
        (answer_makes tag_of expects_node history history' engine engine' None
        (node_place level index) passed.block (option_or engine.evidence (collision_of tag_of engine.made level index passed.block tag true))
        (told_node passed.block passed.answered) passed.checked inside (λ evidence quiet is. node_shown passed evidence quiet is) (λ place is. absurd (cc)) (record {
          honest = λ used expects was. node_honest used expects (Ok answer) passed was;
          found = λ used expects quiet. none_found engine'.evidence None (λ place is. cc) (collided_lied expects (Ok answer) passed quiet);
          first = place_first (node_place level index) history history' engine engine' None (node_is (Ok answer) passed);
        }));
  }
  node_reads inside (Err (Tampered place)) read = record {
    read = read;
    makes =
        let failed = read.1 in
        subst (λ (xs : List Access). Makes tag_of expects_node history engine history' engine' xs (Some (Tampered place))) (sym failed.answered)
        (answer_makes tag_of expects_node history history' engine engine' (Some (Tampered place))
        (node_place level index) failed.block engine.evidence (told_node failed.block failed.answered) failed.unchanged inside
        (λ evidence quiet is. let same : engine'.evidence ≡ engine.evidence = ap (λ (e : TagEngineView T). e.evidence) failed.unchanged in absurd (cc))
        (λ other is. told_last (node_place level index) other (Tampered place) failed.block (ap (λ (p : Place). Tampered p) read.0) is) (record {
          honest = λ used expects was. node_honest used expects (Err (Tampered place)) read was;
          found = λ used expects quiet. inr (node_lied expects failed);
          first = λ evidence is. ap (λ (e : TagEngineView T). e.evidence) failed.unchanged ∙ is;
        }));
  }
  node_reads inside (Err (Spent page)) read = absurd read
  node_reads inside (Err NoMemory) read = record {
    read = read;
    makes = nothing_read tag_of expects_node history history' engine engine' accesses came read.0 read.1;
  }

-- What follows of a checked read

module _ {T : Type 0} {tag_of : Message → List ℕ} {level index : ℕ} {tag : List ℕ} {history history' : BusHistory} {engine engine' : TagEngineView T}
    {accesses : List Access} {result : Result (List ℕ) MemStop} (reads : ReadsNode tag_of level index tag history engine history' engine' accesses result) where
  was_read : IsRead (node_place level index) history history' engine engine' (result_err result)
  was_read = node_is tag_of level index tag history history' engine engine' accesses reads.makes.came result reads.read

  -- it is one read
  pub node_once : ReadsOnce (node_place level index) history engine history' engine' (result_err result)
  node_once = place_once (node_place level index) history history' engine engine' (result_err result) was_read

  -- no other place is touched
  pub node_others : (other : Place) → other ≢ node_place level index → SamePlace other history engine.made history' engine'.made
  node_others other apart = place_others (node_place level index) history history' engine engine' (result_err result) other apart was_read

  -- nor any line
  pub node_lines : SameLines history engine.made history' engine'.made
  node_lines = place_lines (node_place level index) history history' engine engine' (result_err result) (no_line level index) was_read

  -- under the tag of the node's last block, what is answered is that block, or there is evidence
  pub node_known : IsCurrentNode tag_of engine.made history.written level index tag → engine'.evidence ≡ None →
      IfOk result (λ block. last_node level index engine.made ≡ Some block)
  node_known current quiet = known_by tag_of level index tag history history' engine engine' accesses reads.makes.came result reads.read current quiet

  -- a block that passed though it isn't the last one is answered as it was
  pub node_accepted : (at_level at made_at : ℕ) (bytes under : List ℕ) → engine.evidence ≡ None →
      engine'.evidence ≡ Some (Collision at_level at made_at bytes under) → result ≡ Ok bytes
  node_accepted at_level at made_at bytes under quiet shown =
      accepted_by tag_of level index tag history history' engine engine' accesses reads.makes.came result at_level at made_at bytes under reads.read quiet shown

  -- tampering comes only of this node, and where an answer was false
  pub node_tampered : (place : Place) → result ≡ Err (Tampered place) → (place ≡ node_place level index)
      × (IsCurrentNode tag_of engine.made history.written level index tag → Rose history.lies history'.lies)
  node_tampered place is =
      let read = subst (λ (r : Result (List ℕ) MemStop). IsCheckedNode tag_of level index tag accesses engine engine' r) is reads.read in
      (read.0, λ current. node_lied tag_of level index tag history history' engine engine' accesses reads.makes.came current read.1)

  pub node_unspent : (page : ℕ) → result ≢ Err (Spent page)
  node_unspent page is = subst (λ (r : Result (List ℕ) MemStop). IsCheckedNode tag_of level index tag accesses engine engine' r) is reads.read
