-- The accesses of calls on the tree, where it is expected that the tree fits.
use Rattle.std.proofs.Common.{◌≡◌, ◌≢◌, inl, inr, ℕ, ◌-◌, List, [], ◌∷◌, ◌++◌, length, max, Option, Some, None, refl, ap, sym, ◌∙◌, subst, arith, length-append}
use Rattle.sec_base.specs.Geometry.{IsNode}
use Rattle.sec_base.specs.declared.counter.Counter.{Counter}
use Rattle.sec_base.specs.declared.message.Message.{Message}
use Rattle.sec_base.specs.declared.stop.MemStop.{MemStop}
use Rattle.sec_base.specs.declared.stop.MemStop.TheVariants.{NoMemory}
use Rattle.bus_model.specs.Access.{Access}
use Rattle.bus_model.specs.BusHistory.{BusHistory}
use Rattle.tag_engine.specs.TagEngine.{TagEngineView, after_make, tags_of, with_room}
use Rattle.checked_bus.specs.Makes.{Makes, MakesAccesses}
use Rattle.checked_bus.specs.Steps.{IsCurrentNode}
use Rattle.checked_bus.proofs.CheckedReads.{ended_accounted}
use Rattle.checked_bus.proofs.Makes.{has_not, makes_not, makes_on, makes_then, makes_under}
use Rattle.bonsai_tree.specs.Climb.{Climbs}
use Rattle.bonsai_tree.specs.KeptRead.{IsKeptNode}
use Rattle.bonsai_tree.specs.Node.{no_tag}
use Rattle.bonsai_tree.specs.Tree.{HoldsTree, TreeView, kept_tag}
use Rattle.bonsai_tree.proofs.Nodes.{is_kept}

-- it was refused at once, out of memory
pub makes_refused : {T : Type 0} (tag_of : Message → List ℕ) (expected : List (ℕ × Counter) → Type 0) (history : BusHistory) (engine : TagEngineView T) →
    Makes tag_of expected history engine history engine [] (Some NoMemory)
makes_refused tag_of expected history engine = record {
  came = refl;
  bus_geometry = refl;
  has = has_not tag_of engine (Some NoMemory) (λ place is. cc);
  geometry = refl;
  tagger = refl;
  room = omega arith;
  checked = record {
    honest = λ used expects was. ended_accounted tag_of used engine.made history NoMemory engine.evidence (λ place is. cc) was;
    found = λ used expects quiet. inl (quiet, λ place is. cc);
    first = λ evidence is. is;
  };
}

-- more may be expected, where there is no evidence
pub makes_quiet : {T : Type 0} {tag_of : Message → List ℕ} {expected : List (ℕ × Counter) → Type 0} (expected' : List (ℕ × Counter) → Type 0) {old new : BusHistory} {engine engine' : TagEngineView T} {accesses : List Access} {stop : Option MemStop} → ((used : List (ℕ × Counter)) → expected' used → engine.evidence ≡ None → expected used) →
    Makes tag_of expected old engine new engine' accesses stop → Makes tag_of expected' old engine new engine' accesses stop
makes_quiet {tag_of} {expected} expected' {old} {new} {engine} {engine'} {accesses} {stop} leaves makes =
    makes_on tag_of expected' expected old old new engine engine engine' [] accesses stop leaves (makes_not tag_of expected' old engine) makes

-- a bus made them
pub accesses_of : {B T : Type 0} (bus_moved : B → List Access → B → Type 0) (tag_of : Message → List ℕ) (expected : List (ℕ × Counter) → Type 0) (bus bus' : B)
    (old new : BusHistory) (engine engine' : TagEngineView T) (stop : Option MemStop) →
    ((accesses : List Access) × bus_moved bus accesses bus' × Makes tag_of expected old engine new engine' accesses stop) →
    MakesAccesses bus_moved tag_of bus engine bus' engine' stop
accesses_of bus_moved tag_of expected bus bus' old new engine engine' stop makes = record {
  accesses = makes.0;
  moved = makes.1;
  has = makes.2.has;
}

module _ {T : Type 0} (d n : T → List ℕ → List ℕ) where
  -- room was taken for its message first
  taken_room : {expected : List (ℕ × Counter) → Type 0} {old new : BusHistory} {engine engine' : TagEngineView T} {accesses : List Access} {stop : Option MemStop} (message : Message) → engine' ≡ after_make message (with_room 1 engine) → Makes (tags_of d n engine) expected old (with_room 1 engine) new engine' accesses stop →
      Makes (tags_of d n engine) expected old engine new engine' accesses stop
  taken_room {expected} {old} {new} {engine} {engine'} {accesses} {stop} message is makes =
      let one : engine'.made ≡ engine.made ++ message ∷ [] = ap (λ (e : TagEngineView T). e.made) is in
      let room : engine'.room ≡ max engine.room 1 - (length engine'.made - length engine.made) = makes.room in
      record {
        came = makes.came;
        bus_geometry = makes.bus_geometry;
        has = record {
          written = makes.has.written;
          unwritten = makes.has.unwritten;
          made = makes.has.made;
          writes = makes.has.writes;
          few = makes.has.few;
          inside = makes.has.inside;
          shown = makes.has.shown;
          tampered = makes.has.tampered;
        };
        geometry = makes.geometry;
        tagger = makes.tagger;
        room = omega (arith, room, ap length one, length-append engine.made (message ∷ []));
        checked = record {
          honest = makes.checked.honest;
          found = makes.checked.found;
          first = makes.checked.first;
        };
      }

  pub makes_taken : {expected : List (ℕ × Counter) → Type 0} {old new : BusHistory} {engine taken engine' : TagEngineView T} {accesses : List Access} {stop : Option MemStop} (message : Message) → taken ≡ with_room 1 engine → engine' ≡ after_make message taken → Makes (tags_of d n taken) expected old taken new engine' accesses stop →
      Makes (tags_of d n engine) expected old engine new engine' accesses stop
  makes_taken {expected} {old} {new} {engine} {taken} {engine'} {accesses} {stop} message taken_is is makes =
      taken_room message (is ∙ ap (λ (e : TagEngineView T). after_make message e) taken_is)
      (subst (λ (e : TagEngineView T). Makes (tags_of d n e) expected old e new engine' accesses stop) taken_is makes)

  -- a node whose tag is kept
  pub makes_kept : (level index : ℕ) (tag : List ℕ) {old new : BusHistory} {engine engine' : TagEngineView T} {accesses : List Access} {stop : Option MemStop} → tag ≢ no_tag →
      Makes (tags_of d n engine) (λ used. IsCurrentNode (tags_of d n engine) engine.made old.written level index tag) old engine new engine' accesses stop →
      Makes (tags_of d n engine) (λ used. IsKeptNode (tags_of d n engine) engine.made old.written level index tag) old engine new engine' accesses stop
  makes_kept level index tag {old} {new} {engine} {engine'} {accesses} {stop} some makes =
      makes_under (tags_of d n engine) (λ used. IsCurrentNode (tags_of d n engine) engine.made old.written level index tag)
      (λ used. IsKeptNode (tags_of d n engine) engine.made old.written level index tag) old new engine engine' accesses stop
      (λ used kept. elim kept [
        | inl never ↦ absurd (some never.0)
        | inr current ↦ current
      ]) makes

  -- a node of a tree that fits, by the tag that is kept of it
  pub makes_read : (tree : TreeView) (level index : ℕ) {tag : List ℕ} {old new : BusHistory} {engine engine' : TagEngineView T} {accesses : List Access} {stop : Option MemStop} → IsNode tree.geometry level index → tag ≡ kept_tag tree engine.made level index →
      Makes (tags_of d n engine) (λ used. IsKeptNode (tags_of d n engine) engine.made old.written level index tag) old engine new engine' accesses stop →
      Makes (tags_of d n engine) (λ used. HoldsTree (tags_of d n) tree old engine) old engine new engine' accesses stop
  makes_read tree level index {tag} {old} {new} {engine} {engine'} {accesses} {stop} node is_tag makes =
      makes_quiet (λ used. HoldsTree (tags_of d n) tree old engine) (λ used holds quiet.
      subst (λ (t : List ℕ). IsKeptNode (tags_of d n engine) engine.made old.written level index t) (sym is_tag)
      (is_kept (tags_of d n engine) tree engine.made old.written level index node (holds.fits quiet))) makes

  -- the tree fits after a call that did not stop, so that a second one may expect it
  pub makes_climbed : {from : ℕ} {tree tree' : TreeView} {first second third : BusHistory} {engine engine' engine'' : TagEngineView T} {before after : List Access} {stop : Option MemStop} → Climbs (tags_of d n) from tree first engine tree' second engine' None →
      Makes (tags_of d n engine) (λ used. HoldsTree (tags_of d n) tree first engine) first engine second engine' before None →
      Makes (tags_of d n engine') (λ used. HoldsTree (tags_of d n) tree' second engine') second engine' third engine'' after stop →
      Makes (tags_of d n engine) (λ used. HoldsTree (tags_of d n) tree first engine) first engine third engine'' (before ++ after) stop
  makes_climbed {from} {tree} {tree'} {first} {second} {third} {engine} {engine'} {engine''} {before} {after} {stop} climbs makes more =
      makes_then d n (λ used. HoldsTree (tags_of d n) tree first engine) (λ used. HoldsTree (tags_of d n) tree' second engine')
      first second third engine engine' engine'' before after stop
      (λ used holds quiet. climbs.holds holds (λ (e : None ≡ Some NoMemory). cc)) makes more

  -- a write expects nothing
  pub makes_wrote : (tree : TreeView) {first second third : BusHistory} {engine engine' engine'' : TagEngineView T} {before after : List Access} {stop : Option MemStop} → Makes (tags_of d n engine) (λ used. HoldsTree (tags_of d n) tree first engine) first engine second engine' before None →
      Makes (tags_of d n engine') (λ used. Unit {0}) second engine' third engine'' after stop →
      Makes (tags_of d n engine) (λ used. HoldsTree (tags_of d n) tree first engine) first engine third engine'' (before ++ after) stop
  makes_wrote tree {first} {second} {third} {engine} {engine'} {engine''} {before} {after} {stop} makes more =
      makes_then d n (λ used. HoldsTree (tags_of d n) tree first engine) (λ used. Unit {0})
      first second third engine engine' engine'' before after stop (λ used holds quiet. tt) makes more

  -- copies alone changed before it
  pub makes_after : {level : ℕ} {tree tree' : TreeView} {old new : BusHistory} {engine engine' : TagEngineView T} {accesses : List Access} {stop : Option MemStop} → Climbs (tags_of d n) level tree old engine tree' old engine None →
      Makes (tags_of d n engine) (λ used. HoldsTree (tags_of d n) tree' old engine) old engine new engine' accesses stop →
      Makes (tags_of d n engine) (λ used. HoldsTree (tags_of d n) tree old engine) old engine new engine' accesses stop
  makes_after {level} {tree} {tree'} {old} {new} {engine} {engine'} {accesses} {stop} climbs makes =
      makes_under (tags_of d n engine) (λ used. HoldsTree (tags_of d n) tree' old engine) (λ used. HoldsTree (tags_of d n) tree old engine)
      old new engine engine' accesses stop (λ used holds. climbs.holds holds (λ (e : None ≡ Some NoMemory). cc)) makes
