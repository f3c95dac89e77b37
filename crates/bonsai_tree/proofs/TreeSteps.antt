-- What calls make of the tree: none, and one after another.
use Rattle.std.proofs.Common.{◌≡◌, ◌≢◌, inl, inr, ℕ, List, ◌++◌, Option, Some, None, refl, sym, ◌∙◌, subst, arith}
use Rattle.std.proofs.lemmas.List.Elements.{Contains-append_left, Contains-append_right}
use Rattle.sec_base.specs.Count.{Rose}
use Rattle.sec_base.specs.Evidence.{evidence_place}
use Rattle.sec_base.specs.Geometry.{GeometryView}
use Rattle.sec_base.specs.declared.evidence.Evidence.{Evidence}
use Rattle.sec_base.specs.declared.message.Message.{Message}
use Rattle.sec_base.specs.declared.place.Place.{Place}
use Rattle.sec_base.specs.declared.stop.MemStop.{MemStop}
use Rattle.sec_base.specs.declared.stop.MemStop.TheVariants.{NoMemory}
use Rattle.sec_base.proofs.Results.{was_none, some_or_none}
use Rattle.bus_model.specs.BusHistory.{BusHistory}
use Rattle.tag_engine.specs.TagEngine.{TagEngineView, tags_of}
use Rattle.checked_bus.specs.Steps.{IsAccounted}
use Rattle.checked_bus.proofs.Steps.{moves_not, moves_on, same_lines_not, same_lines_on}
use Rattle.bonsai_tree.specs.Climb.{NoNode}
use Rattle.bonsai_tree.specs.NodesHad.{MayBeHad, NodesHad}
use Rattle.bonsai_tree.specs.Tree.{HasChild, NodesAreMade, NodesHoldLast, SlotsAreTags, TreeView}
use Rattle.bonsai_tree.specs.TreeSteps.{TreeSteps}
use Rattle.bonsai_tree.proofs.Climbs.{read_up_held, read_up_on, unless_held_on, unmade_before}
use Rattle.bonsai_tree.proofs.Nodes.{same_tags, some_not_none}
use Rattle.bonsai_tree.proofs.NodesJoined.{child_not, child_on, may_wider, nodes_none, nodes_on, nodes_wider, since_both, since_is}
use Rattle.bonsai_tree.proofs.OutFor.{out_kept, out_on}
use Rattle.bonsai_tree.proofs.WrittenBack.{back_on, up_same}

-- nothing was done
pub steps_not : {T : Type 0} (d n : T → List ℕ → List ℕ) (Where : Place → Type 0) (tree : TreeView) (history : BusHistory) (engine : TagEngineView T) →
    TreeSteps (tags_of d n) Where tree history engine tree history engine None
steps_not d n Where tree history engine = record {
  moves = moves_not history engine;
  lines = same_lines_not history engine.made;
  geometry = refl;
  root = refl;
  few_nodes = λ few. few;
  no_rise = omega arith;
  holds = λ holds memory. holds;
  honest = λ holds used was. was;
  lied = λ holds quiet place is. absurd (cc);
  shown = λ holds quiet some. absurd (some quiet);
  tampered = λ place is. absurd (cc);
  found = λ quiet evidence is. absurd (cc);
  unspent = λ spent is. absurd (cc);
  made_blocks = λ was. was;
  last_blocks = λ remembered was. was;
  slots = λ holds quiet tagged. tagged;
  read = λ holds quiet level index held. read_up_held tree engine.made level index history history held;
  came = λ holds quiet memory level index held. inl (held, refl);
  unread = λ holds quiet level index none. refl;
  written_back =
      (up_same {Own = NoNode} (λ place. omega arith) refl (λ level index. refl)).back;
  out_for = λ holds quiet going. out_kept (λ level index held. held);
  nodes_had = λ going.
      let none = moves_not history engine in
      subst (λ (more : List Message). NodesHad (MayBeHad tree.geometry Where more) (HasChild tree.geometry more) 1 tree history tree history)
      (since_is engine.made engine.made none.more none.made)
      (nodes_none _ 1 tree history (child_not tree.geometry engine.made));
}

-- one call after another
pub steps_on : {T : Type 0} (d n : T → List ℕ → List ℕ) (Where : Place → Type 0) (tree mid tree' : TreeView) (first second third : BusHistory)
    (engine engine' engine'' : TagEngineView T) (stop : Option MemStop) → TreeSteps (tags_of d n) Where tree first engine mid second engine' None →
    TreeSteps (tags_of d n) Where mid second engine' tree' third engine'' stop → TreeSteps (tags_of d n) Where tree first engine tree' third engine'' stop
steps_on d n Where tree mid tree' first second third engine engine' engine'' stop steps more =
    let tags : tags_of d n engine' ≡ tags_of d n engine = same_tags d n first second engine engine' steps.moves in
    let going : None ≢ Some NoMemory = λ (e : None ≡ Some NoMemory). cc in
    let still : engine''.evidence ≡ None → engine'.evidence ≡ None = was_none engine'.evidence engine''.evidence more.moves.evidence in
    let unmade = unmade_before engine.made engine'.made steps.moves.more steps.moves.made in
    let moves = moves_on first second third engine engine' engine'' steps.moves more.moves in
    let both : List Message = steps.moves.more ++ more.moves.more in
    let all : moves.more ≡ both =
    sym (since_is engine.made engine''.made moves.more moves.made)
    ∙ since_both engine.made steps.moves.more more.moves.more steps.moves.made more.moves.made in
    record {
      moves = moves;
      lines = same_lines_on first second third engine.made engine'.made engine''.made steps.lines more.lines;
      geometry = more.geometry ∙ steps.geometry;
      root = more.root ∙ steps.root;
      few_nodes = λ few. more.few_nodes (steps.few_nodes few);
      no_rise = omega (arith, steps.no_rise, more.no_rise);
      holds = λ holds memory. more.holds (steps.holds holds going) memory;
      honest = λ holds used was.
          subst (λ (t : Message → List ℕ). IsAccounted t used engine''.made third stop engine''.evidence) tags
          (more.honest (steps.holds holds going) used
          (subst (λ (t : Message → List ℕ). IsAccounted t used engine'.made second None engine'.evidence) (sym tags) (steps.honest holds used was)));
      lied = λ holds quiet place is.
          elim (some_or_none engine'.evidence) [
            | inl none ↦
                let rose : Rose second.lies third.lies = more.lied (steps.holds holds going) none place is in
                omega (arith, rose, steps.moves.lies)
            | inr shown ↦
                let rose : Rose first.lies second.lies = steps.shown holds quiet (some_not_none engine'.evidence shown.0 shown.1) in
                omega (arith, rose, more.moves.lies)
          ];
      shown = λ holds quiet some.
          elim (some_or_none engine'.evidence) [
            | inl none ↦
                let rose : Rose second.lies third.lies = more.shown (steps.holds holds going) none some in
                omega (arith, rose, steps.moves.lies)
            | inr shown ↦
                let rose : Rose first.lies second.lies = steps.shown holds quiet (some_not_none engine'.evidence shown.0 shown.1) in
                omega (arith, rose, more.moves.lies)
          ];
      tampered = more.tampered;
      found = λ quiet evidence is.
          elim (some_or_none engine'.evidence) [
            | inl none ↦ more.found none evidence is
            | inr shown ↦
                let kept : engine''.evidence ≡ Some shown.0 = more.moves.evidence shown.0 shown.1 in
                let same : shown.0 ≡ evidence = cc in
                subst (λ (e : Evidence). Where (evidence_place e)) same (steps.found quiet shown.0 shown.1)
          ];
      unspent = more.unspent;
      made_blocks = λ was.
          subst (λ (k : GeometryView). NodesAreMade k engine''.made third.written) steps.geometry
          (more.made_blocks (subst (λ (k : GeometryView). NodesAreMade k engine'.made second.written) (sym steps.geometry) (steps.made_blocks was)));
      last_blocks = λ remembered was.
          subst (λ (k : GeometryView). NodesHoldLast k engine''.made third.written) steps.geometry
          (more.last_blocks remembered (subst (λ (k : GeometryView). NodesHoldLast k engine'.made second.written) (sym steps.geometry) (steps.last_blocks going was)));
      slots = λ holds quiet tagged.
          subst (λ (t : Message → List ℕ). SlotsAreTags t tree.geometry engine''.made) tags
          (subst (λ (k : GeometryView). SlotsAreTags (tags_of d n engine') k engine''.made) steps.geometry
          (more.slots (steps.holds holds going) quiet
          (subst (λ (k : GeometryView). SlotsAreTags (tags_of d n engine') k engine'.made) (sym steps.geometry)
          (subst (λ (t : Message → List ℕ). SlotsAreTags t tree.geometry engine'.made) (sym tags) (steps.slots holds (still quiet) tagged)))));
      read = λ holds quiet level index held.
          read_up_on tree mid engine.made engine'.made level index first second third steps.geometry steps.moves.reads more.moves.reads
          unmade (steps.read holds (still quiet)) (more.read (steps.holds holds going) quiet level index held);
      came = λ holds quiet memory.
          unless_held_on tree mid tree' engine.made engine'.made engine''.made first second third steps.moves.reads more.moves.reads
          (steps.came holds (still quiet) going) (more.came (steps.holds holds going) quiet memory);
      unread = λ holds quiet level index none.
          more.unread (steps.holds holds going) quiet level index none
          ∙ steps.unread holds (still quiet) level index (unmade_before engine'.made engine''.made more.moves.more more.moves.made level index none);
      written_back =
          back_on
          steps.geometry steps.moves.reads more.moves.reads (λ calm. (calm.0, still calm.1)) (λ calm. (steps.holds calm.0 going, calm.1))
          steps.written_back more.written_back;
      out_for = λ holds quiet ended.
          out_on steps.geometry steps.moves.reads more.moves.reads unmade
          (steps.out_for holds (still quiet) refl) (more.out_for (steps.holds holds going) quiet ended);
      nodes_had = λ ended.
          subst (λ (made : List Message). NodesHad (MayBeHad tree.geometry Where made) (HasChild tree.geometry made) 1 tree first tree' third) (sym all)
          (nodes_on steps.geometry (λ level index child. elim (child_on tree.geometry steps.moves.more more.moves.more level index child) [
            | inl early ↦ inl early
            | inr late ↦ inr (subst (λ (k : GeometryView). HasChild k more.moves.more level index) (sym steps.geometry) late)
          ])
          (nodes_wider _ _ (λ level index high. may_wider steps.moves.more both refl
          (Contains-append_left steps.moves.more more.moves.more) Where Where (λ place may. may) level index) (steps.nodes_had refl))
          (nodes_wider _ _ (λ level index high. may_wider more.moves.more both steps.geometry
          (Contains-append_right steps.moves.more more.moves.more) Where Where (λ place may. may) level index) (more.nodes_had ended)));
    }

-- places that are among others
pub steps_where : {T : Type 0} (tags : TagEngineView T → Message → List ℕ) (Where Wider : Place → Type 0) (tree tree' : TreeView) (old new : BusHistory)
    (engine engine' : TagEngineView T) (stop : Option MemStop) → ((place : Place) → Where place → Wider place) →
    TreeSteps tags Where tree old engine tree' new engine' stop → TreeSteps tags Wider tree old engine tree' new engine' stop
steps_where tags Where Wider tree tree' old new engine engine' stop wider steps = record {
  moves = steps.moves;
  lines = steps.lines;
  geometry = steps.geometry;
  root = steps.root;
  few_nodes = steps.few_nodes;
  no_rise = steps.no_rise;
  holds = steps.holds;
  honest = steps.honest;
  lied = steps.lied;
  shown = steps.shown;
  tampered = λ place is. wider place (steps.tampered place is);
  found = λ quiet evidence is. wider (evidence_place evidence) (steps.found quiet evidence is);
  unspent = steps.unspent;
  made_blocks = steps.made_blocks;
  last_blocks = steps.last_blocks;
  slots = steps.slots;
  read = steps.read;
  came = steps.came;
  unread = steps.unread;
  written_back = steps.written_back;
  out_for = steps.out_for;
  nodes_had = λ ended.
      nodes_wider _ _
      (λ level index high. may_wider steps.moves.more steps.moves.more refl (λ message listed. listed) Where Wider wider level index)
      (steps.nodes_had ended);
}
