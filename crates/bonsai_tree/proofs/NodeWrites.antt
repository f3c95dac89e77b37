-- Writes of nodes, one after another.
use Rattle.std.proofs.Common.{◌≡◌, ◌≢◌, ◌⊎◌, inl, inr, ℕ, ◌+◌, ◌-◌, ◌≤◌, true, nat_eq, List, [], ◌∷◌, ◌++◌, length, Some, None, refl, ap, sym, ◌∙◌, subst, arith, length-append}
use Rattle.std.specs.Prelude.{Contains, Result}
use Rattle.std.proofs.lemmas.Bool.Decides.{Decides-eqb}
use Rattle.std.proofs.lemmas.List.Elements.{Contains-append_left, Contains-append_right}
use Rattle.sec_base.specs.Geometry.{GeometryView}
use Rattle.sec_base.specs.LastMessage.{last_node, node_part}
use Rattle.sec_base.specs.Place.{zeros_of}
use Rattle.sec_base.specs.declared.counter.Counter.{Counter}
use Rattle.sec_base.specs.declared.message.Message.{Message}
use Rattle.sec_base.specs.declared.message.Message.TheVariants.{Node}
use Rattle.sec_base.specs.declared.place.Place.{Place}
use Rattle.sec_base.specs.declared.place.Place.TheVariants.{Node as node_place}
use Rattle.sec_base.proofs.LastMessages.{last_of_same}
use Rattle.sec_base.proofs.SamePlaces.{at_place-here}
use Rattle.bus_model.specs.BusHistory.{BusHistory}
use Rattle.tag_engine.specs.TagEngine.{TagEngineView, after_make, tags_of}
use Rattle.checked_bus.specs.Makes.{WritesMessage}
use Rattle.checked_bus.specs.Steps.{IsAccounted, Moves, SameLines}
use Rattle.checked_bus.proofs.Makes.{makes_moves}
use Rattle.checked_bus.proofs.Steps.{SamePlace}
use Rattle.checked_bus.proofs.TaggedWrites.{WritesOnce, write_honest, write_lines, write_others}
use Rattle.bonsai_tree.specs.Tree.{NodesAreMade, NodesHoldLast}
use Rattle.bonsai_tree.specs.Writing.{WritesNodes}
use Rattle.bonsai_tree.proofs.Nodes.{SameNode, same_or_not}
use Rattle.bonsai_tree.proofs.Puts.{IsPut}

-- the node of a message has its block
pub part_own : (level index : ℕ) (block : List ℕ) → node_part level index (Node level index block) ≡ Some block
part_own level index block =
    let first : nat_eq level level ≡ true = (Decides-eqb level level).1 refl in
    let second : nat_eq index index ≡ true = (Decides-eqb index index).1 refl in
    rw (first, second) refl

pub last_own : (made : List Message) (level index : ℕ) (block : List ℕ) → last_node level index (made ++ Node level index block ∷ []) ≡ Some block
last_own made level index block = last_of_same (node_part level index) made (Node level index block) block (part_own level index block)

node_apart : (level index other at : ℕ) → ¬ (SameNode level index other at) → node_place other at ≢ node_place level index
node_apart level index other at apart same =
    let level_same : other ≡ level = cc in
    let index_same : at ≡ index = cc in
    apart (level_same, index_same)

-- what a write of a node makes of the bus and the tag engine: nothing stays unwritten, or the message does
pub record NodeWritten {T : Type 0} (tags : TagEngineView T → Message → List ℕ) (level index : ℕ) (block : List ℕ) (old : BusHistory) (engine : TagEngineView T)
    (new : BusHistory) (engine' : TagEngineView T) : Type 0 where
  pub made : engine' ≡ after_make (Node level index block) engine
  pub moves : Moves old engine new engine'
  pub lines : SameLines old engine.made new engine'.made
  pub others : (other : Place) → other ≢ node_place level index → SamePlace other old engine.made new engine'.made
  pub honest : (used more : List (ℕ × Counter)) → IsAccounted (tags engine) used engine.made old None engine.evidence →
      IsAccounted (tags engine) more engine'.made new None engine'.evidence

pub node_written : {T : Type 0} (tags : TagEngineView T → Message → List ℕ) (level index : ℕ) (block : List ℕ) (result : Result (Unit {0}) (Unit {0})) {old new : BusHistory} {engine engine' : TagEngineView T} →
    engine' ≡ after_make (Node level index block) engine → WritesMessage (tags engine) (Node level index block) old engine new engine' result →
    NodeWritten tags level index block old engine new engine'
node_written tags level index block result made writes = record {
  made = made;
  moves = makes_moves writes;
  lines = write_lines level index block result made writes;
  others = write_others level index block result made writes;
  honest = write_honest (Node level index block) result made writes;
}

module _ {T : Type 0} (d n : T → List ℕ → List ℕ) {level index : ℕ} {block : List ℕ} {old new : BusHistory} {engine engine' : TagEngineView T}
    (write : NodeWritten (tags_of d n) level index block old engine new engine') where
  made_is : engine'.made ≡ engine.made ++ Node level index block ∷ []
  made_is = ap (λ (e : TagEngineView T). e.made) write.made

  one_message : length write.moves.more ≡ 1
  one_message =
      omega (arith, ap length made_is, ap length write.moves.made, length-append engine.made (Node level index block ∷ []), length-append engine.made write.moves.more)

  room_left : engine.room ≤ engine'.room + length write.moves.more
  room_left =
      let is : engine'.room ≡ engine.room - 1 = ap (λ (e : TagEngineView T). e.room) write.made in
      omega (arith, is, one_message)

  pub own : last_node level index engine'.made ≡ Some block
  own = ap (λ (made : List Message). last_node level index made) made_is ∙ last_own engine.made level index block

  -- the node's place has the block, as its message
  pub is_put : WritesOnce (node_place level index) block old new → IsPut level index block engine.made engine'.made old.written new.written
  is_put once = record {
    own = own;
    stored = ap (λ (f : Place → List ℕ). f (node_place level index)) once.written ∙ at_place-here (node_place level index) block old.written;
    others = λ other at apart. (write.others (node_place other at) (node_apart level index other at apart)).last;
    stays = λ other at apart. (write.others (node_place other at) (node_apart level index other at apart)).written;
  }

  holds_on : (other at : ℕ) → new.written (node_place other at) ≡ old.written (node_place other at) →
      (old.written (node_place other at) ≡ zeros_of (node_place other at)) ⊎ Contains engine.made (Node other at (old.written (node_place other at))) →
      (new.written (node_place other at) ≡ zeros_of (node_place other at)) ⊎ Contains engine'.made (Node other at (new.written (node_place other at)))
  holds_on other at same (inl zeros) = inl (same ∙ zeros)
  holds_on other at same (inr listed) =
      inr (subst (λ (b : List ℕ). Contains engine'.made (Node other at b)) (sym same)
      (subst (λ (made : List Message). Contains made (Node other at (old.written (node_place other at)))) (sym made_is)
      (Contains-append_left engine.made (Node level index block ∷ []) (Node other at (old.written (node_place other at))) listed)))

  -- whether it was written or not
  made_kept : (geometry : GeometryView) → (new.written (node_place level index) ≡ block) ⊎ (new ≡ old) →
      NodesAreMade geometry engine.made old.written → NodesAreMade geometry engine'.made new.written
  made_kept geometry either was = record {
    holds = λ other at node.
        elim either [
          | inr same ↦
              let written : new.written (node_place other at) ≡ old.written (node_place other at) = ap (λ (t : BusHistory). t.written (node_place other at)) same in
              holds_on other at written (was.holds other at node)
          | inl stored ↦ elim (same_or_not level index other at) [
            | inr apart ↦ holds_on other at (write.others (node_place other at) (node_apart level index other at apart)).written (was.holds other at node)
            | inl same ↦
                let first : Contains (Node level index block ∷ []) (Node level index block) = (0, omega arith, refl) in
                let listed : Contains engine'.made (Node level index block) =
                subst (λ (made : List Message). Contains made (Node level index block)) (sym made_is)
                (Contains-append_right engine.made (Node level index block ∷ []) (Node level index block) first) in
                let own_message : Contains engine'.made (Node level index (new.written (node_place level index))) =
                subst (λ (b : List ℕ). Contains engine'.made (Node level index b)) (sym stored) listed in
                inr (rw (same.0, same.1) own_message)
          ]
        ];
  }

  last_kept : (geometry : GeometryView) → WritesOnce (node_place level index) block old new →
      NodesHoldLast geometry engine.made old.written → NodesHoldLast geometry engine'.made new.written
  last_kept geometry once was = record {
    holds = λ other at bytes node last.
        let put : IsPut level index block engine.made engine'.made old.written new.written = is_put once in
        elim (same_or_not level index other at) [
          | inr apart ↦ put.stays other at apart ∙ was.holds other at bytes node (sym (put.others other at apart) ∙ last)
          | inl same ↦
              let mine : last_node other at engine'.made ≡ Some block =
              ap (λ (k : ℕ). last_node k at engine'.made) same.0 ∙ ap (λ (i : ℕ). last_node level i engine'.made) same.1 ∙ put.own in
              let block_same : block ≡ bytes = cc in
              ap (λ (k : ℕ). new.written (node_place k at)) same.0 ∙ ap (λ (i : ℕ). new.written (node_place level i)) same.1 ∙ put.stored ∙ block_same
        ];
  }

  pub written_once : (geometry : GeometryView) → WritesOnce (node_place level index) block old new → WritesNodes (tags_of d n) geometry old engine new engine' 0
  written_once geometry once = record {
    moves = write.moves;
    lines = write.lines;
    evidence = ap (λ (e : TagEngineView T). e.evidence) write.made;
    room = room_left;
    reads = once.reads;
    made_blocks = made_kept geometry (inl (is_put once).stored);
    last_blocks = λ none. last_kept geometry once;
    honest = write.honest;
  }

  pub written_not : (geometry : GeometryView) → new ≡ old → WritesNodes (tags_of d n) geometry old engine new engine' 1
  written_not geometry same = record {
    moves = write.moves;
    lines = write.lines;
    evidence = ap (λ (e : TagEngineView T). e.evidence) write.made;
    room = room_left;
    reads = ap (λ (t : BusHistory). t.reads) same;
    made_blocks = made_kept geometry (inr same);
    last_blocks = λ none. absurd (omega (arith, none));
    honest = write.honest;
  }
