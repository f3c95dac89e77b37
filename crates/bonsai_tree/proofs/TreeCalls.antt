-- What a fetch and an update make, by what they make of nodes.
use Rattle.std.proofs.Common.{◌≡◌, ◌+◌, ◌≤◌, ℕ, List, length, Option, Some, None, subst}
use Rattle.sec_base.specs.Evidence.{evidence_place}
use Rattle.sec_base.specs.declared.evidence.Evidence.{Evidence}
use Rattle.sec_base.specs.declared.message.Message.{Message}
use Rattle.sec_base.specs.declared.place.Place.{Place}
use Rattle.sec_base.specs.declared.stop.MemStop.{MemStop}
use Rattle.sec_base.specs.declared.stop.MemStop.TheVariants.{Tampered}
use Rattle.bus_model.specs.BusHistory.{BusHistory}
use Rattle.tag_engine.specs.TagEngine.{TagEngineView, tags_of}
use Rattle.bonsai_tree.specs.Climb.{Climbs}
use Rattle.bonsai_tree.specs.NodeCache.{AreNodeCaches}
use Rattle.bonsai_tree.specs.Tree.{EndsQuietly, GoesOutFor, HasChild, HasFewNodes, HoldsTree, TreeView, WritesBack, path_accesses}
use Rattle.bonsai_tree.specs.NodesHad.{MayBeHad, NodesHad, since}
use Rattle.bonsai_tree.specs.TreeCall.{TreeCall}
use Rattle.bonsai_tree.proofs.Copies.{few_copies}
use Rattle.bonsai_tree.proofs.NodesJoined.{since_is}
use Rattle.bonsai_tree.proofs.PathCalls.{climb_room}
use Rattle.bonsai_tree.proofs.WrittenBack.{came_unless_held}

pub tree_called : {T : Type 0} (d n : T → List ℕ → List ℕ) {Where : Place → Type 0} {from : ℕ} {tree tree' : TreeView} {old new : BusHistory} {engine engine' : TagEngineView T} {stop : Option MemStop} → Climbs (tags_of d n) from tree old engine tree' new engine' stop → AreNodeCaches tree'.geometry tree'.caches →
    WritesBack (EndsQuietly (tags_of d n) tree old engine engine') 1 tree old engine.made tree' new engine'.made stop →
    new.accesses ≤ old.accesses + path_accesses tree.geometry.levels → length engine'.made ≤ length engine.made + path_accesses tree.geometry.levels →
    ((place : Place) → stop ≡ Some (Tampered place) → Where place) →
    (engine.evidence ≡ None → (evidence : Evidence) → engine'.evidence ≡ Some evidence → Where (evidence_place evidence)) →
    (HoldsTree (tags_of d n) tree old engine → engine'.evidence ≡ None → stop ≡ None → GoesOutFor tree old engine.made tree' new) →
    (stop ≡ None → NodesHad (MayBeHad tree.geometry Where (since engine.made engine'.made)) (HasChild tree.geometry (since engine.made engine'.made)) 1 tree old tree' new) →
    TreeCall (tags_of d n) Where tree old engine tree' new engine' stop
tree_called d n {Where} {from} {tree} {tree'} {old} {new} {engine} {engine'} {stop} climbs nodes back once few tampered found out_for had =
    let few_nodes : HasFewNodes tree' = λ level. few_copies tree'.geometry tree'.caches level nodes in record {
      steps = record {
        moves = climbs.moves;
        lines = climbs.lines;
        geometry = climbs.geometry;
        root = climbs.root;
        few_nodes = λ before. few_nodes;
        no_rise = climbs.no_rise;
        holds = climbs.holds;
        honest = climbs.honest;
        lied = climbs.lied;
        shown = climbs.shown;
        tampered = tampered;
        found = found;
        unspent = climbs.unspent;
        made_blocks = climbs.made_blocks;
        last_blocks = climbs.last_blocks;
        slots = climbs.slots;
        read = climbs.read;
        came = λ holds quiet memory. came_unless_held _ tree tree' old new engine.made engine'.made stop back (holds, quiet) memory;
        unread = climbs.unread;
        written_back = back;
        out_for = out_for;
        nodes_had = λ ended.
            subst (λ (more : List Message). NodesHad (MayBeHad tree.geometry Where more) (HasChild tree.geometry more) 1 tree old tree' new)
            (since_is engine.made engine'.made climbs.moves.more climbs.moves.made) (had ended);
      };
      once = once;
      few = few;
      room = climb_room d n (path_accesses tree.geometry.levels) climbs few;
      few_nodes = few_nodes;
    }
