use Rattle.std.proofs.Common.{◌≡◌, ◌≢◌, inl, inr, ◌+◌, ◌/◌, ℕ, true, List, length, Some, None, IsSome, ◌≤◌, refl, ap, sym, ◌∙◌, subst, arith, rules, [], ◌∷◌, ◌++◌}
use Rattle.std.specs.Option.{option_map}
use Rattle.std.specs.Result.{result_err}
use Rattle.std.proofs.lemmas.List.Elements.{Contains-push}
use Rattle.sec_base.specs.Geometry.{GeometryView, arity}
use Rattle.sec_base.specs.declared.message.Message.{Message}
use Rattle.sec_base.specs.declared.message.Message.TheVariants.{Node}
use Rattle.sec_base.specs.declared.place.Place.{Place}
use Rattle.sec_base.specs.declared.place.Place.TheVariants.{Node as node_place}
use Rattle.sec_base.specs.declared.stop.MemStop.TheVariants.{NoMemory}
use Rattle.sec_base.proofs.Results.{was_none}
use Rattle.cache_set.specs.declared.way.Way.{Way}
use Rattle.cache_set.specs.CacheSet.{HasRoom, touched, without}
use Rattle.cache_set.specs.Cache.{set_at, victim_for, way_at, with_set}
use Rattle.tag_engine.specs.TagEngine.{tags_of}
use Rattle.checked_bus.proofs.Makes.{makes_not}
use Rattle.bonsai_tree.specs.NodeCache.{AreNodeCaches, copy_of, level_cache, node_way}
use Rattle.bonsai_tree.specs.NodesHad.{MayClimb, MustClimb, NodesHad, since}
use Rattle.bonsai_tree.specs.Tree.{TreeView, HoldsTree}
use Rattle.bonsai_tree.proofs.Climbs.{climbs_not, climbs_on, climbs_up, unmade_before}
use Rattle.bonsai_tree.proofs.NodeCalls.{climbs_dropped, climbs_touched}
use Rattle.bonsai_tree.proofs.Accesses.{present_first, present_second}
use Rattle.bonsai_tree.proofs.Views.{all_as, geometry_as, not_held, others_as, root_as, same_as, tree_of}
use Rattle.bonsai_tree.proofs.OutFor.{on_ok, out_came, out_kept, out_on, room_kept, room_made}
use Rattle.bonsai_tree.proofs.WrittenBack.{made_more, up_as, up_climbed, up_same, up_victim, up_wider}
use Rattle.bonsai_tree.proofs.NodesJoined.{above_wider, child_not, climb_here, climb_made, climb_parent, climb_wider, made_wider, must_joined, must_made, must_parent, nodes_fewer, nodes_none, nodes_wider, room_wider, since_after, since_before, since_first, since_joined, since_second}
use Rattle.bonsai_tree.proofs.NodesHad.{had_came, had_one, had_still, listed_in, removed_here, room_here, touched_here, touched_same, unlisted}
use Rattle.bonsai_tree.proofs.TreeMakes.{makes_after, makes_climbed, makes_wrote}
use Rattle.bonsai_tree.proofs.tree.Tree.+present.Goals as goal

pub parent_present-returns-then-level-levels-clause-climbs : goal.parent_present-returns-then-level-levels-clause-climbs
parent_present-returns-then-level-levels-clause-climbs g t c = climbs_not g.T.Tagger.data_tag_of g.T.Tagger.node_tag_of

pub write_back-returns-in_err-parent_present-clause-climbs : goal.write_back-returns-in_err-parent_present-clause-climbs
write_back-returns-in_err-parent_present-clause-climbs g t c =
    let why = c.in_err-parent_present.field-0.0 in
    let stop : result_err c.from_residual.result ≡ Some why = search rules in
    rw stop (climbs_up g.T.Tagger.data_tag_of g.T.Tagger.node_tag_of (omega arith) c.in_err-parent_present.ensures.climbs)

pub write_back-returns-in_err-write_below-clause-climbs : goal.write_back-returns-in_err-write_below-clause-climbs
write_back-returns-in_err-write_below-clause-climbs g t c =
    let stop : result_err c.from_residual-in_err-write_below.result ≡ Some NoMemory = search rules in
    rw stop (climbs_on g.T.Tagger.data_tag_of g.T.Tagger.node_tag_of
    (climbs_up g.T.Tagger.data_tag_of g.T.Tagger.node_tag_of (omega arith) c.in_ok-parent_present.ensures.climbs)
    c.in_err-write_below.ensures.climbs)

pub write_back-returns-clause-climbs : goal.write_back-returns-clause-climbs
write_back-returns-clause-climbs g t c =
    climbs_on g.T.Tagger.data_tag_of g.T.Tagger.node_tag_of
    (climbs_up g.T.Tagger.data_tag_of g.T.Tagger.node_tag_of (omega arith) c.in_ok-parent_present.ensures.climbs)
    (c.in_ok-write_below.ensures.climbs)

pub make_room-returns-in_default-clause-climbs : goal.make_room-returns-in_default-clause-climbs
make_room-returns-in_default-clause-climbs g t c = climbs_not g.T.Tagger.data_tag_of g.T.Tagger.node_tag_of

pub make_room-returns-in_err-write_back-clause-climbs : goal.make_room-returns-in_err-write_back-clause-climbs
make_room-returns-in_err-write_back-clause-climbs g t c =
    let why = c.in_err-write_back.field-0.0 in
    let stop : result_err c.from_residual.result ≡ Some why = search rules in
    rw stop (c.in_err-write_back.ensures.climbs)

pub present-returns-then-touch-clause-climbs : goal.present-returns-then-touch-clause-climbs
present-returns-then-touch-clause-climbs g t c =
    climbs_touched g.T.Tagger.data_tag_of g.T.Tagger.node_tag_of c.args.level c.args.self.now c.self.inside.root c.self.inside.nodes c.touch.new.self (g.B.Bus.history c.args.bus.now) c.args.tags.now c.self.view_is c.if-touch.ensures.geometry c.if-touch.ensures.nodes c.if-touch.ensures.others c.if-touch.ensures.same

pub present-returns-in_err-make_room-clause-climbs : goal.present-returns-in_err-make_room-clause-climbs
present-returns-in_err-make_room-clause-climbs g t c =
    let why = c.in_err-make_room.field-0.0 in
    let stop : result_err c.from_residual.result ≡ Some why = search rules in
    rw stop (climbs_on g.T.Tagger.data_tag_of g.T.Tagger.node_tag_of
    (climbs_touched g.T.Tagger.data_tag_of g.T.Tagger.node_tag_of c.args.level c.args.self.now c.self.inside.root c.self.inside.nodes c.touch.new.self (g.B.Bus.history c.args.bus.now) c.args.tags.now c.self.view_is c.if-touch.ensures.geometry c.if-touch.ensures.nodes c.if-touch.ensures.others c.if-touch.ensures.same)
    c.in_err-make_room.ensures.climbs)

pub present-returns-in_err-parent_present-clause-climbs : goal.present-returns-in_err-parent_present-clause-climbs
present-returns-in_err-parent_present-clause-climbs g t c =
    let why = c.in_err-parent_present.field-0.0 in
    let stop : result_err c.from_residual-in_err-parent_present.result ≡ Some why = search rules in
    rw stop (climbs_on g.T.Tagger.data_tag_of g.T.Tagger.node_tag_of (climbs_on g.T.Tagger.data_tag_of g.T.Tagger.node_tag_of
    (climbs_touched g.T.Tagger.data_tag_of g.T.Tagger.node_tag_of c.args.level c.args.self.now c.self.inside.root c.self.inside.nodes c.touch.new.self (g.B.Bus.history c.args.bus.now) c.args.tags.now c.self.view_is c.if-touch.ensures.geometry c.if-touch.ensures.nodes c.if-touch.ensures.others c.if-touch.ensures.same)
    c.in_ok-make_room.ensures.climbs)
    (climbs_up g.T.Tagger.data_tag_of g.T.Tagger.node_tag_of (omega arith) c.in_err-parent_present.ensures.climbs))

pub present-returns-clause-climbs : goal.present-returns-clause-climbs
present-returns-clause-climbs g t c =
    climbs_on g.T.Tagger.data_tag_of g.T.Tagger.node_tag_of (climbs_on g.T.Tagger.data_tag_of g.T.Tagger.node_tag_of
    (climbs_on g.T.Tagger.data_tag_of g.T.Tagger.node_tag_of
    (climbs_touched g.T.Tagger.data_tag_of g.T.Tagger.node_tag_of c.args.level c.args.self.now c.self.inside.root c.self.inside.nodes c.touch.new.self (g.B.Bus.history c.args.bus.now) c.args.tags.now c.self.view_is c.if-touch.ensures.geometry c.if-touch.ensures.nodes c.if-touch.ensures.others c.if-touch.ensures.same)
    c.in_ok-make_room.ensures.climbs)
    (climbs_up g.T.Tagger.data_tag_of g.T.Tagger.node_tag_of (omega arith) c.in_ok-parent_present.ensures.climbs))
    c.read_in.ensures.climbs

pub present-returns-in_err-make_room-clause-once : goal.present-returns-in_err-make_room-clause-once
present-returns-in_err-make_room-clause-once g t c =
    present_first c.args.self.now.geometry c.touch.new.self.geometry c.args.level (g.B.Bus.history c.args.bus.now).accesses (g.B.Bus.history c.make_room.new.bus).accesses c.requires.node.0
    (geometry_as c.self.inside.root c.self.inside.nodes c.touch.new.self c.self.view_is c.if-touch.ensures.geometry) c.in_err-make_room.ensures.once

pub present-returns-in_err-parent_present-clause-once : goal.present-returns-in_err-parent_present-clause-once
present-returns-in_err-parent_present-clause-once g t c =
    present_second c.args.self.now.geometry c.touch.new.self.geometry c.make_room.new.self.geometry c.args.level (g.B.Bus.history c.args.bus.now).accesses (g.B.Bus.history c.make_room.new.bus).accesses (g.B.Bus.history c.parent_present.new.bus).accesses (g.B.Bus.history c.parent_present.new.bus).accesses c.requires.node.0
    (geometry_as c.self.inside.root c.self.inside.nodes c.touch.new.self c.self.view_is c.if-touch.ensures.geometry) (c.in_ok-make_room.ensures.climbs.geometry ∙ (geometry_as c.self.inside.root c.self.inside.nodes c.touch.new.self c.self.view_is c.if-touch.ensures.geometry)) c.in_ok-make_room.ensures.once c.in_err-parent_present.ensures.once (omega arith)

pub present-returns-clause-once : goal.present-returns-clause-once
present-returns-clause-once g t c =
    present_second c.args.self.now.geometry c.touch.new.self.geometry c.make_room.new.self.geometry c.args.level (g.B.Bus.history c.args.bus.now).accesses (g.B.Bus.history c.make_room.new.bus).accesses (g.B.Bus.history c.parent_present.new.bus).accesses (g.B.Bus.history c.read_in.new.bus).accesses c.requires.node.0
    (geometry_as c.self.inside.root c.self.inside.nodes c.touch.new.self c.self.view_is c.if-touch.ensures.geometry) (c.in_ok-make_room.ensures.climbs.geometry ∙ (geometry_as c.self.inside.root c.self.inside.nodes c.touch.new.self c.self.view_is c.if-touch.ensures.geometry)) c.in_ok-make_room.ensures.once c.in_ok-parent_present.ensures.once c.read_in.ensures.once

pub present-returns-in_err-make_room-clause-few : goal.present-returns-in_err-make_room-clause-few
present-returns-in_err-make_room-clause-few g t c =
    present_first c.args.self.now.geometry c.touch.new.self.geometry c.args.level (length c.args.tags.now.made) (length c.make_room.new.tags.made) c.requires.node.0
    (geometry_as c.self.inside.root c.self.inside.nodes c.touch.new.self c.self.view_is c.if-touch.ensures.geometry) c.in_err-make_room.ensures.few

pub present-returns-in_err-parent_present-clause-few : goal.present-returns-in_err-parent_present-clause-few
present-returns-in_err-parent_present-clause-few g t c =
    present_second c.args.self.now.geometry c.touch.new.self.geometry c.make_room.new.self.geometry c.args.level (length c.args.tags.now.made) (length c.make_room.new.tags.made) (length c.parent_present.new.tags.made) (length c.parent_present.new.tags.made) c.requires.node.0
    (geometry_as c.self.inside.root c.self.inside.nodes c.touch.new.self c.self.view_is c.if-touch.ensures.geometry) (c.in_ok-make_room.ensures.climbs.geometry ∙ (geometry_as c.self.inside.root c.self.inside.nodes c.touch.new.self c.self.view_is c.if-touch.ensures.geometry)) c.in_ok-make_room.ensures.few c.in_err-parent_present.ensures.few (omega arith)

pub present-returns-clause-few : goal.present-returns-clause-few
present-returns-clause-few g t c =
    present_second c.args.self.now.geometry c.touch.new.self.geometry c.make_room.new.self.geometry c.args.level (length c.args.tags.now.made) (length c.make_room.new.tags.made) (length c.parent_present.new.tags.made) (length c.read_in.new.tags.made) c.requires.node.0
    (geometry_as c.self.inside.root c.self.inside.nodes c.touch.new.self c.self.view_is c.if-touch.ensures.geometry) (c.in_ok-make_room.ensures.climbs.geometry ∙ (geometry_as c.self.inside.root c.self.inside.nodes c.touch.new.self c.self.view_is c.if-touch.ensures.geometry)) c.in_ok-make_room.ensures.few c.in_ok-parent_present.ensures.few (omega (arith, ap length c.read_in.ensures.made))

pub write_back-returns-then-not-victim-clause-climbs : goal.write_back-returns-then-not-victim-clause-climbs
write_back-returns-then-not-victim-clause-climbs g t c = climbs_not g.T.Tagger.data_tag_of g.T.Tagger.node_tag_of

pub make_room-returns-clause-climbs : goal.make_room-returns-clause-climbs
make_room-returns-clause-climbs g t c =
    let way : node_way c.args.self.now.caches c.args.level c.in-Some.victim.place ≡ Some c.in-Some.victim =
    sym (ap (λ (v : TreeView). node_way v.caches c.args.level c.in-Some.victim.place) c.self.view_is) ∙ c.in-Some.ensures.way in
    let here : node_way c.write_back.new.self.caches c.args.level c.in-Some.victim.place ≡ Some c.in-Some.victim =
    ap (λ (cache : List (List Way)). way_at cache c.in-Some.victim.place) c.in_ok-write_back.ensures.copies ∙ way in
    climbs_on g.T.Tagger.data_tag_of g.T.Tagger.node_tag_of c.in_ok-write_back.ensures.climbs
    (climbs_dropped g.T.Tagger.data_tag_of g.T.Tagger.node_tag_of c.in-Some.victim.place (copy_of c.in-Some.victim)
    (geometry_as c.self-2.inside.root c.self-2.inside.nodes c.remove.new.self c.self-2.view_is c.remove.ensures.geometry) (root_as c.self-2.inside.root c.self-2.inside.nodes c.remove.new.self c.self-2.view_is) c.remove.ensures.nodes
    (others_as c.self-2.inside.root c.self-2.inside.nodes c.remove.new.self c.self-2.view_is c.args.level c.remove.ensures.others)
    (ap (option_map copy_of) here) (ap (option_map copy_of) c.remove.ensures.removed)
    (same_as c.self-2.inside.root c.self-2.inside.nodes c.remove.new.self c.self-2.view_is c.args.level c.in-Some.victim.place c.remove.ensures.same)
    c.in_ok-write_back.ensures.last)

pub make_room-returns-clause-absent : goal.make_room-returns-clause-absent
make_room-returns-clause-absent g t c =
    let way : node_way c.args.self.now.caches c.args.level c.in-Some.victim.place ≡ Some c.in-Some.victim =
    sym (ap (λ (v : TreeView). node_way v.caches c.args.level c.in-Some.victim.place) c.self.view_is) ∙ c.in-Some.ensures.way in
    let apart : ¬ ((c.args.level ≡ c.args.level) × (c.args.index ≡ c.in-Some.victim.place)) =
    λ same. let none : None ≡ Some c.in-Some.victim = sym c.requires.absent ∙ ap (λ (i : ℕ). node_way c.args.self.now.caches c.args.level i) same.1 ∙ way in absurd (cc) in
    c.remove.ensures.same c.args.level c.args.index apart
    ∙ ap (λ (v : TreeView). node_way v.caches c.args.level c.args.index) c.self-2.view_is
    ∙ ap (λ (cache : List (List Way)). way_at cache c.args.index) c.in_ok-write_back.ensures.copies ∙ c.requires.absent

pub parent_present-returns-clause-nodes : goal.parent_present-returns-clause-nodes
parent_present-returns-clause-nodes g t c =
    c.present.ensures.climbs.nodes (subst (λ (v : TreeView). AreNodeCaches v.geometry v.caches) c.self.view_is c.self.invariant)

pub present-returns-in_err-make_room-clause-hit : goal.present-returns-in_err-make_room-clause-hit
present-returns-in_err-make_room-clause-hit g t c = λ held.
    absurd (held (not_held c.args.self.now c.self.inside.root c.self.inside.nodes c.args.level c.args.index c.self.view_is (c.if-touch.ensures.absent refl)))

pub present-returns-in_err-parent_present-clause-hit : goal.present-returns-in_err-parent_present-clause-hit
present-returns-in_err-parent_present-clause-hit g t c = λ held.
    absurd (held (not_held c.args.self.now c.self.inside.root c.self.inside.nodes c.args.level c.args.index c.self.view_is (c.if-touch.ensures.absent refl)))

pub present-returns-clause-hit : goal.present-returns-clause-hit
present-returns-clause-hit g t c = λ held.
    absurd (held (not_held c.args.self.now c.self.inside.root c.self.inside.nodes c.args.level c.args.index c.self.view_is (c.if-touch.ensures.absent refl)))

-- Which nodes were made, and which copies changed

pub parent_present-returns-then-level-levels-clause-back : goal.parent_present-returns-then-level-levels-clause-back
parent_present-returns-then-level-levels-clause-back g t c = up_same (λ place. omega arith) refl (λ level index. refl)

pub write_back-returns-then-not-victim-clause-back : goal.write_back-returns-then-not-victim-clause-back
write_back-returns-then-not-victim-clause-back g t c = up_same (λ place. omega arith) refl (λ level index. refl)

pub write_back-returns-in_err-parent_present-clause-back : goal.write_back-returns-in_err-parent_present-clause-back
write_back-returns-in_err-parent_present-clause-back g t c =
    let why = c.in_err-parent_present.field-0.0 in
    let stop : result_err c.from_residual.result ≡ Some why = search rules in
    rw stop (up_as (λ other at bytes none. absurd none) c.in_err-parent_present.ensures.back)

pub write_back-returns-in_err-write_below-clause-back : goal.write_back-returns-in_err-write_below-clause-back
write_back-returns-in_err-write_below-clause-back g t c =
    let stop : result_err c.from_residual-in_err-write_below.result ≡ Some NoMemory = search rules in
    let changed : c.args.victim.now.changed ≡ true = search rules in
    rw stop (up_climbed g.T.Tagger.data_tag_of g.T.Tagger.node_tag_of
    c.in_ok-parent_present.ensures.climbs c.in_err-write_below.ensures.climbs.moves c.in_ok-parent_present.ensures.back (up_as
    (λ other at bytes is. (is, changed, inr refl)) c.in_err-write_below.ensures.back))

pub write_back-returns-clause-back : goal.write_back-returns-clause-back
write_back-returns-clause-back g t c =
    let changed : c.args.victim.now.changed ≡ true = search rules in
    up_climbed g.T.Tagger.data_tag_of g.T.Tagger.node_tag_of
    c.in_ok-parent_present.ensures.climbs c.in_ok-write_below.ensures.climbs.moves c.in_ok-parent_present.ensures.back (up_as
    (λ other at bytes is. (is, changed, inl refl)) c.in_ok-write_below.ensures.back)

pub write_back-returns-clause-written : goal.write_back-returns-clause-written
write_back-returns-clause-written g t c = λ changed.
    made_more c.args.level c.args.victim.now.place c.args.victim.now.copy c.args.tags.now.made c.parent_present.new.tags.made c.write_below.new.tags.made
    c.in_ok-parent_present.ensures.climbs.moves.more c.in_ok-parent_present.ensures.climbs.moves.made c.in_ok-write_below.ensures.made

pub make_room-returns-in_default-clause-back : goal.make_room-returns-in_default-clause-back
make_room-returns-in_default-clause-back g t c = up_same (λ place. omega arith) refl (λ level index. refl)

pub make_room-returns-in_err-write_back-clause-back : goal.make_room-returns-in_err-write_back-clause-back
make_room-returns-in_err-write_back-clause-back g t c =
    let why = c.in_err-write_back.field-0.0 in
    let stop : result_err c.from_residual.result ≡ Some why = search rules in
    let way : node_way c.args.self.now.caches c.args.level c.in-Some.victim.place ≡ Some c.in-Some.victim =
    sym (ap (λ (v : TreeView). node_way v.caches c.args.level c.in-Some.victim.place) c.self.view_is) ∙ c.in-Some.ensures.way in
    rw stop (up_victim c.in-Some.victim c.in_err-write_back.ensures.climbs.moves.reads (ap (option_map copy_of) way)
    (λ at. ap (λ (cache : List (List Way)). option_map copy_of (way_at cache at)) c.in_err-write_back.ensures.copies)
    (λ none. absurd (cc)) (λ copy found. found) (λ other at apart. refl) (λ changed. inl (λ marked. marked)) c.in_err-write_back.ensures.back)

pub make_room-returns-clause-back : goal.make_room-returns-clause-back
make_room-returns-clause-back g t c =
    let way : node_way c.args.self.now.caches c.args.level c.in-Some.victim.place ≡ Some c.in-Some.victim =
    sym (ap (λ (v : TreeView). node_way v.caches c.args.level c.in-Some.victim.place) c.self.view_is) ∙ c.in-Some.ensures.way in
    up_victim c.in-Some.victim c.in_ok-write_back.ensures.climbs.moves.reads (ap (option_map copy_of) way)
    (λ at. ap (λ (cache : List (List Way)). option_map copy_of (way_at cache at)) c.in_ok-write_back.ensures.copies)
    (λ going. ap (option_map copy_of) c.remove.ensures.removed)
    (λ copy found. let none : None ≡ Some copy = sym (ap (option_map copy_of) c.remove.ensures.removed) ∙ found in absurd (cc))
    (same_as c.self-2.inside.root c.self-2.inside.nodes c.remove.new.self c.self-2.view_is c.args.level c.in-Some.victim.place c.remove.ensures.same)
    (λ changed. inr (c.in_ok-write_back.ensures.written changed)) c.in_ok-write_back.ensures.back

pub present-returns-then-touch-clause-back : goal.present-returns-then-touch-clause-back
present-returns-then-touch-clause-back g t c =
    up_same (λ place. omega arith) refl
    (all_as c.self.inside.root c.self.inside.nodes c.touch.new.self c.self.view_is c.if-touch.ensures.same)

pub present-returns-in_err-make_room-clause-back : goal.present-returns-in_err-make_room-clause-back
present-returns-in_err-make_room-clause-back g t c =
    let why = c.in_err-make_room.field-0.0 in
    let stop : result_err c.from_residual.result ≡ Some why = search rules in
    rw stop (up_climbed g.T.Tagger.data_tag_of g.T.Tagger.node_tag_of
    (climbs_touched g.T.Tagger.data_tag_of g.T.Tagger.node_tag_of c.args.level c.args.self.now c.self.inside.root c.self.inside.nodes c.touch.new.self (g.B.Bus.history c.args.bus.now) c.args.tags.now c.self.view_is c.if-touch.ensures.geometry c.if-touch.ensures.nodes c.if-touch.ensures.others c.if-touch.ensures.same) c.in_err-make_room.ensures.climbs.moves
    (up_same (λ place. omega arith) refl
    (all_as c.self.inside.root c.self.inside.nodes c.touch.new.self c.self.view_is c.if-touch.ensures.same))
    c.in_err-make_room.ensures.back)

pub present-returns-in_err-parent_present-clause-back : goal.present-returns-in_err-parent_present-clause-back
present-returns-in_err-parent_present-clause-back g t c =
    let why = c.in_err-parent_present.field-0.0 in
    let stop : result_err c.from_residual-in_err-parent_present.result ≡ Some why = search rules in
    rw stop (up_climbed g.T.Tagger.data_tag_of g.T.Tagger.node_tag_of (climbs_on g.T.Tagger.data_tag_of g.T.Tagger.node_tag_of
    (climbs_touched g.T.Tagger.data_tag_of g.T.Tagger.node_tag_of c.args.level c.args.self.now c.self.inside.root c.self.inside.nodes c.touch.new.self (g.B.Bus.history c.args.bus.now) c.args.tags.now c.self.view_is c.if-touch.ensures.geometry c.if-touch.ensures.nodes c.if-touch.ensures.others c.if-touch.ensures.same)
    c.in_ok-make_room.ensures.climbs) c.in_err-parent_present.ensures.climbs.moves
    (up_climbed g.T.Tagger.data_tag_of g.T.Tagger.node_tag_of
    (climbs_touched g.T.Tagger.data_tag_of g.T.Tagger.node_tag_of c.args.level c.args.self.now c.self.inside.root c.self.inside.nodes c.touch.new.self (g.B.Bus.history c.args.bus.now) c.args.tags.now c.self.view_is c.if-touch.ensures.geometry c.if-touch.ensures.nodes c.if-touch.ensures.others c.if-touch.ensures.same) c.in_ok-make_room.ensures.climbs.moves
    (up_same (λ place. omega arith) refl
    (all_as c.self.inside.root c.self.inside.nodes c.touch.new.self c.self.view_is c.if-touch.ensures.same))
    c.in_ok-make_room.ensures.back) (up_wider (omega arith) c.in_err-parent_present.ensures.climbs.moves.reads
    (λ other at low. ap (λ (cache : List (List Way)). option_map copy_of (way_at cache at)) (c.in_err-parent_present.ensures.climbs.copies other low)) c.in_err-parent_present.ensures.back))

pub present-returns-clause-back : goal.present-returns-clause-back
present-returns-clause-back g t c =
    up_climbed g.T.Tagger.data_tag_of g.T.Tagger.node_tag_of (climbs_on g.T.Tagger.data_tag_of g.T.Tagger.node_tag_of
    (climbs_on g.T.Tagger.data_tag_of g.T.Tagger.node_tag_of
    (climbs_touched g.T.Tagger.data_tag_of g.T.Tagger.node_tag_of c.args.level c.args.self.now c.self.inside.root c.self.inside.nodes c.touch.new.self (g.B.Bus.history c.args.bus.now) c.args.tags.now c.self.view_is c.if-touch.ensures.geometry c.if-touch.ensures.nodes c.if-touch.ensures.others c.if-touch.ensures.same)
    c.in_ok-make_room.ensures.climbs)
    (climbs_up g.T.Tagger.data_tag_of g.T.Tagger.node_tag_of (omega arith) c.in_ok-parent_present.ensures.climbs)) c.read_in.ensures.climbs.moves
    (up_climbed g.T.Tagger.data_tag_of g.T.Tagger.node_tag_of (climbs_on g.T.Tagger.data_tag_of g.T.Tagger.node_tag_of
    (climbs_touched g.T.Tagger.data_tag_of g.T.Tagger.node_tag_of c.args.level c.args.self.now c.self.inside.root c.self.inside.nodes c.touch.new.self (g.B.Bus.history c.args.bus.now) c.args.tags.now c.self.view_is c.if-touch.ensures.geometry c.if-touch.ensures.nodes c.if-touch.ensures.others c.if-touch.ensures.same)
    c.in_ok-make_room.ensures.climbs) c.in_ok-parent_present.ensures.climbs.moves
    (up_climbed g.T.Tagger.data_tag_of g.T.Tagger.node_tag_of
    (climbs_touched g.T.Tagger.data_tag_of g.T.Tagger.node_tag_of c.args.level c.args.self.now c.self.inside.root c.self.inside.nodes c.touch.new.self (g.B.Bus.history c.args.bus.now) c.args.tags.now c.self.view_is c.if-touch.ensures.geometry c.if-touch.ensures.nodes c.if-touch.ensures.others c.if-touch.ensures.same) c.in_ok-make_room.ensures.climbs.moves
    (up_same (λ place. omega arith) refl
    (all_as c.self.inside.root c.self.inside.nodes c.touch.new.self c.self.view_is c.if-touch.ensures.same))
    c.in_ok-make_room.ensures.back) (up_wider (omega arith) c.in_ok-parent_present.ensures.climbs.moves.reads
    (λ other at low. ap (λ (cache : List (List Way)). option_map copy_of (way_at cache at)) (c.in_ok-parent_present.ensures.climbs.copies other low)) c.in_ok-parent_present.ensures.back))
    c.read_in.ensures.back

pub write_back-returns-clause-copies : goal.write_back-returns-clause-copies
write_back-returns-clause-copies g t c =
    c.in_ok-write_below.ensures.copies c.args.level (λ (same : c.args.level ≡ c.args.level + 1). absurd (omega (arith, same)))
    ∙ c.in_ok-parent_present.ensures.climbs.copies c.args.level (omega arith)

pub write_back-returns-in_err-write_below-clause-copies : goal.write_back-returns-in_err-write_below-clause-copies
write_back-returns-in_err-write_below-clause-copies g t c =
    c.in_err-write_below.ensures.copies c.args.level (λ (same : c.args.level ≡ c.args.level + 1). absurd (omega (arith, same)))
    ∙ c.in_ok-parent_present.ensures.climbs.copies c.args.level (omega arith)

-- What a read of a node rests on

pub present-read_in-requires-clause-absent : goal.present-read_in-requires-clause-absent
present-read_in-requires-clause-absent g t c =
    ap (λ (cache : List (List Way)). way_at cache c.args.index) (c.in_ok-parent_present.ensures.climbs.copies c.args.level (omega arith))
    ∙ c.in_ok-make_room.ensures.absent

pub present-read_in-requires-clause-room : goal.present-read_in-requires-clause-room
present-read_in-requires-clause-room g t c =
    subst (λ (cache : List (List Way)). HasRoom (set_at cache c.args.index)) (sym (c.in_ok-parent_present.ensures.climbs.copies c.args.level (omega arith)))
    c.in_ok-make_room.ensures.room

-- What copies go out for

pub parent_present-returns-then-level-levels-clause-out_for : goal.parent_present-returns-then-level-levels-clause-out_for
parent_present-returns-then-level-levels-clause-out_for g t c = λ holds quiet. out_kept (λ level index held. held)

pub write_back-returns-then-not-victim-clause-out_for : goal.write_back-returns-then-not-victim-clause-out_for
write_back-returns-then-not-victim-clause-out_for g t c = λ holds quiet. out_kept (λ level index held. held)

pub write_back-returns-clause-out_for : goal.write_back-returns-clause-out_for
write_back-returns-clause-out_for g t c =
    λ holds quiet.
    let climbs = c.in_ok-parent_present.ensures.climbs in
    let still = was_none c.parent_present.new.tags.evidence c.write_below.new.tags.evidence c.in_ok-write_below.ensures.climbs.moves.evidence quiet in
    out_on climbs.geometry climbs.moves.reads c.in_ok-write_below.ensures.climbs.moves.reads
    (unmade_before c.args.tags.now.made c.parent_present.new.tags.made climbs.moves.more climbs.moves.made) (c.in_ok-parent_present.ensures.out_for holds still)
    (out_kept c.in_ok-write_below.ensures.kept)

pub make_room-returns-in_default-clause-out_for : goal.make_room-returns-in_default-clause-out_for
make_room-returns-in_default-clause-out_for g t c = λ holds quiet. room_kept c.args.level c.args.index c.args.self.now (g.B.Bus.history c.args.bus.now) c.args.tags.now.made

pub make_room-returns-clause-out_for : goal.make_room-returns-clause-out_for
make_room-returns-clause-out_for g t c =
    λ holds quiet.
    room_made c.in-Some.victim.place c.in-Some.ensures.beside
    (same_as c.self-2.inside.root c.self-2.inside.nodes c.remove.new.self c.self-2.view_is c.args.level c.in-Some.victim.place c.remove.ensures.same)
    (c.in_ok-write_back.ensures.out_for holds quiet)

pub present-returns-then-touch-clause-out_for : goal.present-returns-then-touch-clause-out_for
present-returns-then-touch-clause-out_for g t c =
    λ holds quiet.
    out_kept
    (λ level index held none. held (sym (all_as c.self.inside.root c.self.inside.nodes c.touch.new.self c.self.view_is c.if-touch.ensures.same level index) ∙ none))

pub present-returns-clause-out_for : goal.present-returns-clause-out_for
present-returns-clause-out_for g t c = λ holds quiet.
    let same = all_as c.self.inside.root c.self.inside.nodes c.touch.new.self c.self.view_is c.if-touch.ensures.same in
    let geometry = geometry_as c.self.inside.root c.self.inside.nodes c.touch.new.self c.self.view_is c.if-touch.ensures.geometry in
    let touched =
    climbs_touched g.T.Tagger.data_tag_of g.T.Tagger.node_tag_of c.args.level c.args.self.now c.self.inside.root c.self.inside.nodes c.touch.new.self (g.B.Bus.history c.args.bus.now) c.args.tags.now c.self.view_is c.if-touch.ensures.geometry c.if-touch.ensures.nodes c.if-touch.ensures.others c.if-touch.ensures.same in
    let room = c.in_ok-make_room.ensures.climbs in
    let parent = c.in_ok-parent_present.ensures.climbs in
    let going : None ≢ Some NoMemory = λ (e : None ≡ Some NoMemory). cc in
    let holds_touched = touched.holds holds going in
    let holds_room = room.holds holds_touched going in
    let quiet_parent = was_none c.parent_present.new.tags.evidence c.read_in.new.tags.evidence c.read_in.ensures.climbs.moves.evidence quiet in
    let quiet_room = was_none c.make_room.new.tags.evidence c.parent_present.new.tags.evidence parent.moves.evidence quiet_parent in
    let unmade = unmade_before c.args.tags.now.made c.make_room.new.tags.made room.moves.more room.moves.made in
    on_ok c.read_in.result (c.read_in.ensures.came (parent.holds holds_room going) quiet)
    (out_came c.parent_present.new.tags.made c.requires.node geometry (room.geometry ∙ geometry) same
    (not_held c.args.self.now c.self.inside.root c.self.inside.nodes c.args.level c.args.index c.self.view_is (c.if-touch.ensures.absent refl))
    room.moves.reads parent.moves.reads c.read_in.ensures.climbs.moves.reads unmade
    (λ other at none. unmade other at (unmade_before c.make_room.new.tags.made c.parent_present.new.tags.made parent.moves.more parent.moves.made other at none))
    (c.in_ok-make_room.ensures.out_for holds_touched quiet_room) (c.in_ok-parent_present.ensures.out_for holds_room quiet_parent) c.read_in.ensures.kept)

-- Which nodes they have

pub parent_present-returns-then-level-levels-clause-had : goal.parent_present-returns-then-level-levels-clause-had
parent_present-returns-then-level-levels-clause-had g t c =
    let top : c.args.level ≡ c.args.self.now.geometry.levels = search rules in
    record {
      had =
          nodes_none _ (c.args.level + 1) c.args.self.now (g.B.Bus.history c.args.bus.now) (λ other at must. elim must [
            | inl here ↦ absurd (omega (arith, here.0, top))
            | inr child ↦ child_not c.args.self.now.geometry c.args.tags.now.made other at child
          ]);
      unread = λ index. refl;
    }

pub parent_present-returns-clause-had : goal.parent_present-returns-clause-had
parent_present-returns-clause-had g t c =
    let geometry = c.args.self.now.geometry in
    let more = since c.args.tags.now.made c.present.new.tags.made in
    let geometry_is : c.geometry-geometry.result ≡ geometry = c.geometry-geometry.ensures ∙ ap (λ (v : TreeView). v.geometry) c.self.view_is in
    let parent_is : c.parent.result.1 ≡ c.args.index / arity geometry =
    ap (λ (node : ℕ × ℕ). node.1) c.parent.ensures.parent ∙ ap (λ (k : GeometryView). c.args.index / arity k) geometry_is in
    on_ok c.present.result c.present.ensures.had (λ had. record {
      had =
          nodes_wider _ _ (climb_parent more more refl (λ message listed. listed) c.args.level c.args.index)
          (subst (λ (index : ℕ). NodesHad (MayClimb geometry (c.args.level + 1) index more) (MustClimb geometry (c.args.level + 1) index more) (c.args.level + 1) c.args.self.now (g.B.Bus.history c.args.bus.now)
          c.present.new.self (g.B.Bus.history c.present.new.bus)) parent_is had);
      unread = λ index. c.present.ensures.climbs.reads c.args.level index (omega arith);
    })

pub write_back-returns-then-not-victim-clause-had : goal.write_back-returns-then-not-victim-clause-had
write_back-returns-then-not-victim-clause-had g t c =
    record {
      had = nodes_none _ (c.args.level + 1) c.args.self.now (g.B.Bus.history c.args.bus.now) (child_not c.args.self.now.geometry c.args.tags.now.made);
      unread = λ index. refl;
    }

pub write_back-returns-clause-had : goal.write_back-returns-clause-had
write_back-returns-clause-had g t c =
    let unread : (level index : ℕ) → (g.B.Bus.history c.write_below.new.bus).reads (node_place level index)
    ≡ (g.B.Bus.history c.parent_present.new.bus).reads (node_place level index) =
    λ level index. ap (λ (f : Place → ℕ). f (node_place level index)) c.in_ok-write_below.ensures.reads in
    let geometry = c.args.self.now.geometry in
    let parent = c.in_ok-parent_present.ensures.climbs.moves in
    let own : List Message = Node c.args.level c.args.victim.now.place c.args.victim.now.copy ∷ [] in
    record {
      had =
          had_still (nodes_fewer
          (must_made geometry c.args.tags.now.made parent.more c.args.level c.args.victim.now.place c.args.victim.now.copy c.requires.below parent.made
          c.in_ok-write_below.ensures.made) (nodes_wider _ _
          (climb_made (since c.args.tags.now.made c.parent_present.new.tags.made) (since c.args.tags.now.made c.write_below.new.tags.made) refl
          (since_before c.args.tags.now.made parent.more own parent.made c.in_ok-write_below.ensures.made)
          c.args.level c.args.victim.now.place c.args.victim.now.copy
          (since_after c.args.tags.now.made parent.more own parent.made c.in_ok-write_below.ensures.made
          (Node c.args.level c.args.victim.now.place c.args.victim.now.copy) (Contains-push [] (Node c.args.level c.args.victim.now.place c.args.victim.now.copy))))
          c.in_ok-parent_present.ensures.had.had)) c.in_ok-write_below.ensures.orders (λ level index high. unread level index);
      unread = λ index. unread c.args.level index ∙ c.in_ok-parent_present.ensures.had.unread index;
    }

pub make_room-returns-in_default-clause-had : goal.make_room-returns-in_default-clause-had
make_room-returns-in_default-clause-had g t c =
    let are : AreNodeCaches c.args.self.now.geometry c.args.self.now.caches =
    subst (λ (v : TreeView). AreNodeCaches v.geometry v.caches) c.self.view_is c.self.invariant in
    record {
      mid = c.args.self.now;
      above = record {
        had = nodes_none _ (c.args.level + 1) c.args.self.now (g.B.Bus.history c.args.bus.now) (child_not c.args.self.now.geometry c.args.tags.now.made);
        unread = λ index. refl;
      };
      room =
          room_here c.args.self.now c.args.level c.args.index (are.each c.args.level c.requires.above c.requires.node.0) c.requires.absent
          (subst (λ (v : TreeView). victim_for (level_cache v.caches c.args.level) c.args.index ≡ None) c.self.view_is (sym c.in_default.ensures.victim));
    }

pub make_room-returns-clause-had : goal.make_room-returns-clause-had
make_room-returns-clause-had g t c =
    let are : AreNodeCaches c.write_back.new.self.geometry c.write_back.new.self.caches =
    subst (λ (v : TreeView). AreNodeCaches v.geometry v.caches) c.self-2.view_is c.self-2.invariant in
    let inside : c.args.level ≤ c.write_back.new.self.geometry.levels =
    subst (λ (k : GeometryView). c.args.level ≤ k.levels) (sym c.in_ok-write_back.ensures.climbs.geometry) c.requires.node.0 in
    let goes : victim_for (level_cache c.args.self.now.caches c.args.level) c.args.index ≡ Some c.in-Some.victim =
    subst (λ (v : TreeView). victim_for (level_cache v.caches c.args.level) c.args.index ≡ Some c.in-Some.victim) c.self.view_is (sym c.in-Some.ensures.victim) in
    record {
      mid = c.write_back.new.self;
      above = c.in_ok-write_back.ensures.had;
      room =
          removed_here c.write_back.new.self (tree_of c.self-2.inside.root c.remove.new.self) c.args.level (are.each c.args.level c.requires.above inside)
          (others_as c.self-2.inside.root c.self-2.inside.nodes c.remove.new.self c.self-2.view_is c.args.level c.remove.ensures.others) c.args.index
          c.in-Some.victim (ap (λ (cache : List (List Way)). way_at cache c.args.index) c.in_ok-write_back.ensures.copies ∙ c.requires.absent)
          (ap (λ (cache : List (List Way)). victim_for cache c.args.index) c.in_ok-write_back.ensures.copies ∙ goes) c.in-Some.ensures.beside
          (subst (λ (v : TreeView). level_cache c.remove.new.self.caches c.args.level ≡ with_set (level_cache v.caches c.args.level) c.in-Some.victim.place
          (without c.in-Some.victim.place (set_at (level_cache v.caches c.args.level) c.in-Some.victim.place))) c.self-2.view_is c.remove.ensures.after);
    }

pub present-returns-then-touch-clause-had : goal.present-returns-then-touch-clause-had
present-returns-then-touch-clause-had g t c =
    let are : AreNodeCaches c.args.self.now.geometry c.args.self.now.caches =
    subst (λ (v : TreeView). AreNodeCaches v.geometry v.caches) c.self.view_is c.self.invariant in
    let cache = are.each c.args.level c.requires.above c.requires.node.0 in
    let some : IsSome (node_way c.args.self.now.caches c.args.level c.args.index) =
    subst (λ (v : TreeView). IsSome (node_way v.caches c.args.level c.args.index)) c.self.view_is (c.if-touch.ensures.held.0 refl) in
    had_one c.args.index
    (climb_here c.args.self.now.geometry c.args.level c.args.index (since c.args.tags.now.made c.args.tags.now.made))
    (λ other at must. elim must [
      | inl here ↦ (here.1, here.2)
      | inr child ↦ absurd (child_not c.args.self.now.geometry c.args.tags.now.made other at child)
    ]) (listed_in c.args.self.now c.args.level c.args.index cache some)
    (touched_here c.args.self.now (tree_of c.self.inside.root c.touch.new.self) c.args.level cache
    (others_as c.self.inside.root c.self.inside.nodes c.touch.new.self c.self.view_is c.args.level c.if-touch.ensures.others) c.args.index some
    (subst (λ (v : TreeView). level_cache c.touch.new.self.caches c.args.level ≡ with_set (level_cache v.caches c.args.level) c.args.index
    (touched c.args.index (set_at (level_cache v.caches c.args.level) c.args.index))) c.self.view_is c.if-touch.ensures.after))

pub present-returns-clause-had : goal.present-returns-clause-had
present-returns-clause-had g t c =
    let are : AreNodeCaches c.args.self.now.geometry c.args.self.now.caches =
    subst (λ (v : TreeView). AreNodeCaches v.geometry v.caches) c.self.view_is c.self.invariant in
    let cache = are.each c.args.level c.requires.above c.requires.node.0 in
    let none : node_way c.args.self.now.caches c.args.level c.args.index ≡ None =
    subst (λ (v : TreeView). node_way v.caches c.args.level c.args.index ≡ None) c.self.view_is (c.if-touch.ensures.absent refl) in
    let same = touched_same c.args.self.now (tree_of c.self.inside.root c.touch.new.self) c.args.level cache
    (others_as c.self.inside.root c.self.inside.nodes c.touch.new.self c.self.view_is c.args.level c.if-touch.ensures.others) c.args.index none
    (subst (λ (v : TreeView). level_cache c.touch.new.self.caches c.args.level ≡ with_set (level_cache v.caches c.args.level) c.args.index
    (touched c.args.index (set_at (level_cache v.caches c.args.level) c.args.index))) c.self.view_is c.if-touch.ensures.after) in
    let geometry = geometry_as c.self.inside.root c.self.inside.nodes c.touch.new.self c.self.view_is c.if-touch.ensures.geometry in
    let room = c.in_ok-make_room.ensures.climbs in
    let parent = c.in_ok-parent_present.ensures.climbs.moves in
    let read = c.read_in.ensures.climbs.moves in
    let made = c.args.tags.now.made in
    let all = since made c.read_in.new.tags.made in
    let all_is : all ≡ since made c.make_room.new.tags.made ++ since c.make_room.new.tags.made c.parent_present.new.tags.made =
    ap (since made) c.read_in.ensures.made ∙ since_joined made room.moves.more parent.more room.moves.made parent.made in
    on_ok c.read_in.result c.read_in.ensures.had (had_came _ _ _ _ _ _ _ _ _ _ _ _ _ _ _ (climb_here c.args.self.now.geometry c.args.level c.args.index all)
    geometry (room.geometry ∙ geometry)
    (λ other at must. must_joined geometry room.geometry c.args.level c.args.index all_is other at must)
    (λ below. must_parent (room.geometry ∙ geometry) c.args.level c.args.index (since c.make_room.new.tags.made c.parent_present.new.tags.made) below)
    same (unlisted c.args.self.now c.args.level c.args.index cache none) (room_wider _ _
    (λ other at high above. inr (made_wider (since made c.make_room.new.tags.made) all geometry
    (since_first made room.moves.more parent.more read.more room.moves.made parent.made read.made)
    other at above)) c.in_ok-make_room.ensures.had) (above_wider _ _
    (λ other at high. climb_wider (since c.make_room.new.tags.made c.parent_present.new.tags.made) all (room.geometry ∙ geometry)
    (since_second made room.moves.more parent.more read.more room.moves.made parent.made read.made)
    c.args.level c.args.index other at) c.in_ok-parent_present.ensures.had))

-- Which accesses they make

pub parent_present-returns-then-level-levels-clause-makes : goal.parent_present-returns-then-level-levels-clause-makes
parent_present-returns-then-level-levels-clause-makes g t c =
    ([], g.met.B.Bus.unmoved c.args.bus.now, makes_not (tags_of g.T.Tagger.data_tag_of g.T.Tagger.node_tag_of c.args.tags.now) (λ used. HoldsTree (tags_of g.T.Tagger.data_tag_of g.T.Tagger.node_tag_of) c.args.self.now (g.B.Bus.history c.args.bus.now) c.args.tags.now) (g.B.Bus.history c.args.bus.now) c.args.tags.now)

pub write_back-returns-then-not-victim-clause-makes : goal.write_back-returns-then-not-victim-clause-makes
write_back-returns-then-not-victim-clause-makes g t c =
    ([], g.met.B.Bus.unmoved c.args.bus.now, makes_not (tags_of g.T.Tagger.data_tag_of g.T.Tagger.node_tag_of c.args.tags.now) (λ used. HoldsTree (tags_of g.T.Tagger.data_tag_of g.T.Tagger.node_tag_of) c.args.self.now (g.B.Bus.history c.args.bus.now) c.args.tags.now) (g.B.Bus.history c.args.bus.now) c.args.tags.now)

pub make_room-returns-in_default-clause-makes : goal.make_room-returns-in_default-clause-makes
make_room-returns-in_default-clause-makes g t c =
    ([], g.met.B.Bus.unmoved c.args.bus.now, makes_not (tags_of g.T.Tagger.data_tag_of g.T.Tagger.node_tag_of c.args.tags.now) (λ used. HoldsTree (tags_of g.T.Tagger.data_tag_of g.T.Tagger.node_tag_of) c.args.self.now (g.B.Bus.history c.args.bus.now) c.args.tags.now) (g.B.Bus.history c.args.bus.now) c.args.tags.now)

pub present-returns-then-touch-clause-makes : goal.present-returns-then-touch-clause-makes
present-returns-then-touch-clause-makes g t c =
    ([], g.met.B.Bus.unmoved c.args.bus.now, makes_not (tags_of g.T.Tagger.data_tag_of g.T.Tagger.node_tag_of c.args.tags.now) (λ used. HoldsTree (tags_of g.T.Tagger.data_tag_of g.T.Tagger.node_tag_of) c.args.self.now (g.B.Bus.history c.args.bus.now) c.args.tags.now) (g.B.Bus.history c.args.bus.now) c.args.tags.now)

pub write_back-returns-in_err-parent_present-clause-makes : goal.write_back-returns-in_err-parent_present-clause-makes
write_back-returns-in_err-parent_present-clause-makes g t c =
    let stop : result_err c.from_residual.result ≡ Some c.in_err-parent_present.field-0.0 = search rules in
    let climbed = c.in_err-parent_present.ensures.makes in (
      climbed.0,
      climbed.1,
      rw stop
          (climbed.2),
    )

pub write_back-returns-in_err-write_below-clause-makes : goal.write_back-returns-in_err-write_below-clause-makes
write_back-returns-in_err-write_below-clause-makes g t c =
    let stop : result_err c.from_residual-in_err-write_below.result ≡ Some NoMemory = search rules in
    let climbed = c.in_ok-parent_present.ensures.makes in
    let wrote = c.in_err-write_below.ensures.makes in (
      climbed.0 ++ wrote.0,
      g.met.B.Bus.moved_on c.args.bus.now c.parent_present.new.bus c.write_below.new.bus climbed.0 wrote.0 climbed.1 wrote.1,
      rw stop
          (makes_wrote g.T.Tagger.data_tag_of g.T.Tagger.node_tag_of c.args.self.now climbed.2 wrote.2),
    )

pub write_back-returns-clause-makes : goal.write_back-returns-clause-makes
write_back-returns-clause-makes g t c =
    let climbed = c.in_ok-parent_present.ensures.makes in
    let wrote = c.in_ok-write_below.ensures.makes in (
      climbed.0 ++ wrote.0,
      g.met.B.Bus.moved_on c.args.bus.now c.parent_present.new.bus c.write_below.new.bus climbed.0 wrote.0 climbed.1 wrote.1,
      makes_wrote g.T.Tagger.data_tag_of g.T.Tagger.node_tag_of c.args.self.now climbed.2 wrote.2,
    )

pub make_room-returns-in_err-write_back-clause-makes : goal.make_room-returns-in_err-write_back-clause-makes
make_room-returns-in_err-write_back-clause-makes g t c =
    let stop : result_err c.from_residual.result ≡ Some c.in_err-write_back.field-0.0 = search rules in
    let wrote = c.in_err-write_back.ensures.makes in (
      wrote.0,
      wrote.1,
      rw stop
          (wrote.2),
    )

pub present-returns-in_err-make_room-clause-makes : goal.present-returns-in_err-make_room-clause-makes
present-returns-in_err-make_room-clause-makes g t c =
    let touched =
    climbs_touched g.T.Tagger.data_tag_of g.T.Tagger.node_tag_of c.args.level c.args.self.now c.self.inside.root c.self.inside.nodes c.touch.new.self (g.B.Bus.history c.args.bus.now) c.args.tags.now c.self.view_is c.if-touch.ensures.geometry c.if-touch.ensures.nodes c.if-touch.ensures.others c.if-touch.ensures.same in
    let stop : result_err c.from_residual.result ≡ Some c.in_err-make_room.field-0.0 = search rules in
    let room = c.in_err-make_room.ensures.makes in (
      room.0,
      room.1,
      rw stop
          (makes_after g.T.Tagger.data_tag_of g.T.Tagger.node_tag_of touched (room.2)),
    )

pub present-returns-in_err-parent_present-clause-makes : goal.present-returns-in_err-parent_present-clause-makes
present-returns-in_err-parent_present-clause-makes g t c =
    let touched =
    climbs_touched g.T.Tagger.data_tag_of g.T.Tagger.node_tag_of c.args.level c.args.self.now c.self.inside.root c.self.inside.nodes c.touch.new.self (g.B.Bus.history c.args.bus.now) c.args.tags.now c.self.view_is c.if-touch.ensures.geometry c.if-touch.ensures.nodes c.if-touch.ensures.others c.if-touch.ensures.same in
    let stop : result_err c.from_residual-in_err-parent_present.result ≡ Some c.in_err-parent_present.field-0.0 = search rules in
    let room = c.in_ok-make_room.ensures.makes in
    let climbed = c.in_err-parent_present.ensures.makes in (
      room.0 ++ climbed.0,
      g.met.B.Bus.moved_on c.args.bus.now c.make_room.new.bus c.parent_present.new.bus room.0 climbed.0 room.1 climbed.1,
      rw stop
          (makes_after g.T.Tagger.data_tag_of g.T.Tagger.node_tag_of touched
          (makes_climbed g.T.Tagger.data_tag_of g.T.Tagger.node_tag_of c.in_ok-make_room.ensures.climbs room.2 climbed.2)),
    )

pub present-returns-clause-makes : goal.present-returns-clause-makes
present-returns-clause-makes g t c =
    let touched =
    climbs_touched g.T.Tagger.data_tag_of g.T.Tagger.node_tag_of c.args.level c.args.self.now c.self.inside.root c.self.inside.nodes c.touch.new.self (g.B.Bus.history c.args.bus.now) c.args.tags.now c.self.view_is c.if-touch.ensures.geometry c.if-touch.ensures.nodes c.if-touch.ensures.others c.if-touch.ensures.same in
    let room = c.in_ok-make_room.ensures.makes in
    let climbed = c.in_ok-parent_present.ensures.makes in
    let read = c.read_in.ensures.makes in (
      room.0 ++ (climbed.0 ++ read.0),
      g.met.B.Bus.moved_on c.args.bus.now c.make_room.new.bus c.read_in.new.bus room.0 (climbed.0 ++ read.0) room.1
          (g.met.B.Bus.moved_on c.make_room.new.bus c.parent_present.new.bus c.read_in.new.bus climbed.0 read.0 climbed.1 read.1),
      makes_after g.T.Tagger.data_tag_of g.T.Tagger.node_tag_of touched
          (makes_climbed g.T.Tagger.data_tag_of g.T.Tagger.node_tag_of c.in_ok-make_room.ensures.climbs room.2
          (makes_climbed g.T.Tagger.data_tag_of g.T.Tagger.node_tag_of c.in_ok-parent_present.ensures.climbs climbed.2 read.2)),
    )

pub make_room-returns-clause-makes : goal.make_room-returns-clause-makes
make_room-returns-clause-makes g t c = c.in_ok-write_back.ensures.makes

pub parent_present-returns-clause-makes : goal.parent_present-returns-clause-makes
parent_present-returns-clause-makes g t c = c.present.ensures.makes
