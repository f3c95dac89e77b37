-- A node that is had by the tag that is kept of it.
use Rattle.std.proofs.Common.{◌≡◌, ◌≢◌, ◌⊎◌, inl, inr, ℕ, ◌+◌, ◌≤◌, List, [], ◌∷◌, Option, Some, None, Result, Ok, Err, refl, ap, sym, ◌∙◌, arith}
use Rattle.std.specs.Prelude.{IfOk}
use Rattle.std.specs.Result.{result_err}
use Rattle.sec_base.specs.Count.{more_by}
use Rattle.sec_base.specs.LastMessage.{last_node}
use Rattle.sec_base.specs.declared.message.Message.{Message}
use Rattle.sec_base.specs.declared.message.Message.TheVariants.{Node}
use Rattle.sec_base.specs.declared.place.Place.{Place}
use Rattle.sec_base.specs.declared.place.Place.TheVariants.{Node as node_place}
use Rattle.sec_base.specs.declared.stop.MemStop.{MemStop}
use Rattle.sec_base.specs.declared.stop.MemStop.TheVariants.{Tampered, Spent, NoMemory}
use Rattle.sec_base.proofs.SamePlaces.{at_place-here}
use Rattle.bus_model.specs.Access.{Access, Read, CameBy}
use Rattle.bus_model.specs.BusHistory.{BusHistory}
use Rattle.bus_model.proofs.Steps.{read_reads}
use Rattle.tag_engine.specs.TagEngine.{TagEngineView, tags_of}
use Rattle.tag_engine.proofs.Marks.{engine_tag_some}
use Rattle.checked_bus.specs.Checks.{IsCheckedNode}
use Rattle.checked_bus.specs.Makes.{ReadsNode}
use Rattle.checked_bus.specs.Steps.{IsCurrentNode}
use Rattle.checked_bus.proofs.CheckedNodes.{node_accepted, node_known, node_lines, node_once, node_others, node_tampered, node_unspent}
use Rattle.checked_bus.proofs.Makes.{makes_moves, shown_rose}
use Rattle.checked_bus.proofs.PlaceReads.{told, untold}
use Rattle.checked_bus.proofs.Steps.{moves_not, same_lines_not}
use Rattle.bonsai_tree.specs.KeptRead.{IsKeptNode, ReadsKept}
use Rattle.bonsai_tree.specs.Node.{block_or_zeros, no_block, no_tag}
use Rattle.bonsai_tree.proofs.Nodes.{node_found, same_or_not}

-- a node that was never made is zeros, and nothing is done for it
pub reads_none : {T : Type 0} (d n : T → List ℕ → List ℕ) (level index : ℕ) (tag : List ℕ) (history : BusHistory) (engine : TagEngineView T) → tag ≡ no_tag →
    ReadsKept (tags_of d n) level index tag history engine history engine (Ok no_block)
reads_none d n level index tag history engine none =
    let unmade : IsKeptNode (tags_of d n engine) engine.made history.written level index tag → last_node level index engine.made ≡ None =
    λ kept. elim kept [
      | inl never ↦ never.1
      | inr current ↦
          absurd (engine_tag_some (d engine.tagger) (n engine.tagger) engine.geometry (Node level index current.block) (sym current.tagged ∙ none))
    ] in
    record {
      moves = moves_not history engine;
      lines = same_lines_not history engine.made;
      made = refl;
      room = refl;
      written = refl;
      most = omega arith;
      one = omega arith;
      checked = inl (none, refl);
      block = λ kept quiet. sym (ap (λ (last : Option (List ℕ)). block_or_zeros last) (unmade kept));
      unasked = λ is. (refl, refl, refl);
      asked = λ some going. absurd (some none);
      alone = λ other at apart. refl;
      came = λ kept going. inl (unmade kept);
      unread = λ kept other at last. refl;
      honest = λ used kept was. was;
      shown = λ kept quiet some. absurd (some quiet);
      found = λ evidence quiet is. absurd (cc);
      accepted = λ made_at bytes under quiet is. absurd (cc);
      tampered = λ place is. absurd (cc);
      unspent = λ page is. absurd (cc);
    }

checked_by : {T : Type 0} (tag_of : Message → List ℕ) (level index : ℕ) (tag : List ℕ) (accesses : List Access) (engine engine' : TagEngineView T)
    (result : Result (List ℕ) MemStop) → IsCheckedNode tag_of level index tag accesses engine engine' result →
    IfOk result (λ block. ((tag ≡ no_tag) × (block ≡ no_block)) ⊎ (tag_of (Node level index block) ≡ tag))
checked_by tag_of level index tag accesses engine engine' (Ok block) passed =
    inr (ap (λ (b : List ℕ). tag_of (Node level index b)) passed.given ∙ sym passed.tagged)
checked_by tag_of level index tag accesses engine engine' (Err stop) refused = tt

last_by : (last : Option (List ℕ)) (result : Result (List ℕ) MemStop) → IfOk result (λ block. last ≡ Some block) →
    IfOk result (λ block. block ≡ block_or_zeros last)
last_by last (Ok block) is = sym (ap (λ (found : Option (List ℕ)). block_or_zeros found) is)
last_by last (Err stop) is = tt

answered_once : (level index : ℕ) (block : List ℕ) (accesses : List Access) (old new : BusHistory) → CameBy old accesses new →
    accesses ≡ Read (node_place level index) block ∷ [] → new.reads (node_place level index) ≡ more_by 1 (old.reads (node_place level index))
answered_once level index block accesses old new came answered =
    let place = node_place level index in
    ap (λ (t : BusHistory). t.reads place) (told old new accesses place block came answered) ∙ ap (λ (f : Place → ℕ). f place) (read_reads place block old)
    ∙ at_place-here place (more_by 1 (old.reads place)) old.reads

module _ {T : Type 0} (tag_of : Message → List ℕ) (level index : ℕ) (tag : List ℕ) (accesses : List Access) (old new : BusHistory) (engine engine' : TagEngineView T)
    (came : CameBy old accesses new) where
  read_once : (result : Result (List ℕ) MemStop) → IsCheckedNode tag_of level index tag accesses engine engine' result → result_err result ≢ Some NoMemory →
      new.reads (node_place level index) ≡ more_by 1 (old.reads (node_place level index))
  read_once (Ok block) passed going = answered_once level index passed.block accesses old new came passed.answered
  read_once (Err (Tampered place)) failed going = answered_once level index failed.1.block accesses old new came failed.1.answered
  read_once (Err (Spent page)) refused going = absurd refused
  read_once (Err NoMemory) refused going = absurd (going refl)

  read_at_most : (result : Result (List ℕ) MemStop) → IsCheckedNode tag_of level index tag accesses engine engine' result →
      new.reads (node_place level index) ≤ old.reads (node_place level index) + 1
  read_at_most (Ok block) passed = omega (arith, answered_once level index passed.block accesses old new came passed.answered)
  read_at_most (Err (Tampered place)) failed = omega (arith, answered_once level index failed.1.block accesses old new came failed.1.answered)
  read_at_most (Err (Spent page)) refused = absurd refused
  read_at_most (Err NoMemory) refused = omega (arith, ap (λ (t : BusHistory). t.reads (node_place level index)) (untold old new accesses came refused.0))

-- one that was made is read and checked
module _ {T : Type 0} (d n : T → List ℕ → List ℕ) (level index : ℕ) (tag : List ℕ) (old new : BusHistory) (engine engine' : TagEngineView T)
    (accesses : List Access) (result : Result (List ℕ) MemStop) (some : tag ≢ no_tag)
    (reads : ReadsNode (tags_of d n engine) level index tag old engine new engine' accesses result) where
  is_current : IsKeptNode (tags_of d n engine) engine.made old.written level index tag →
      IsCurrentNode (tags_of d n engine) engine.made old.written level index tag
  is_current kept = elim kept [
    | inl never ↦ absurd (some never.0)
    | inr current ↦ current
  ]

  one_access : new.accesses ≤ old.accesses + 1
  one_access = elim (node_once reads).once [
    | inl one ↦ omega (arith, one)
    | inr refused ↦
        let same : new.accesses ≡ old.accesses = ap (λ (t : BusHistory). t.accesses) ((node_once reads).refused refused).0 in
        omega (arith, same)
  ]

  unread_beside : (other at : ℕ) → ¬ ((other ≡ level) × (at ≡ index)) → new.reads (node_place other at) ≡ old.reads (node_place other at)
  unread_beside other at apart =
      (node_others reads (node_place other at) (λ (same : node_place other at ≡ node_place level index).
      let level_same : other ≡ level = cc in let index_same : at ≡ index = cc in apart (level_same, index_same))).reads

  others_unread : IsKeptNode (tags_of d n engine) engine.made old.written level index tag → (other at : ℕ) → last_node other at engine.made ≡ None →
      new.reads (node_place other at) ≡ old.reads (node_place other at)
  others_unread kept other at none = elim (same_or_not level index other at) [
    | inl same ↦
        let current = is_current kept in
        let here : last_node other at engine.made ≡ Some current.block =
        ap (λ (k : ℕ). last_node k at engine.made) same.0 ∙ ap (λ (i : ℕ). last_node level i engine.made) same.1 ∙ current.last in
        absurd (cc)
    | inr apart ↦ unread_beside other at apart
  ]

  pub reads_made : ReadsKept (tags_of d n) level index tag old engine new engine' result
  reads_made = record {
    moves = makes_moves reads.makes;
    lines = node_lines reads;
    made = (node_once reads).made;
    room = (node_once reads).room;
    written = (node_once reads).written;
    most = one_access;
    one = read_at_most (tags_of d n engine) level index tag accesses old new engine engine' reads.makes.came result reads.read;
    checked = checked_by (tags_of d n engine) level index tag accesses engine engine' result reads.read;
    block = λ kept quiet. last_by (last_node level index engine.made) result (node_known reads (is_current kept) quiet);
    unasked = λ none. absurd (some none);
    asked = λ is going. read_once (tags_of d n engine) level index tag accesses old new engine engine' reads.makes.came result reads.read going;
    alone = unread_beside;
    came = λ kept going. inr ((node_once reads).rose going);
    unread = others_unread;
    honest = λ used kept was. reads.makes.checked.honest used (λ quiet. is_current (kept quiet)) was;
    shown = λ kept quiet some.
        elim (shown_rose reads.makes.checked [] (is_current kept) quiet) [
          | inl none ↦ absurd (some none)
          | inr rose ↦ rose
        ];
    found = node_found (tags_of d n engine) level index tag accesses engine engine' result reads.read;
    accepted = λ made_at bytes under quiet is. node_accepted reads level index made_at bytes under quiet is;
    tampered = λ place is. ((node_tampered reads place is).0, λ kept. (node_tampered reads place is).1 (is_current kept));
    unspent = node_unspent reads;
  }
