use Rattle.std.proofs.Common.{inl, inr, None, ◌≡◌, ◌/◌, List, length, Some, refl, ap, sym, ◌∙◌, subst, arith, rules, ◌++◌}
use Rattle.std.specs.List.{Contains}
use Rattle.std.specs.Result.{result_err}
use Rattle.sec_base.specs.Geometry.{GeometryView, IsNode, arity}
use Rattle.sec_base.specs.declared.evidence.Evidence.TheVariants.{Collision}
use Rattle.sec_base.specs.declared.message.Message.{Message}
use Rattle.sec_base.specs.declared.place.Place.TheVariants.{Node as node_place}
use Rattle.sec_base.specs.declared.stop.MemStop.TheVariants.{Tampered}
use Rattle.sec_base.proofs.Results.{stop_is, was_none}
use Rattle.bus_model.specs.BusHistory.{BusHistory}
use Rattle.tag_engine.specs.TagEngine.{tags_of}
use Rattle.bonsai_tree.specs.Climb.{Climbs, NoNode, WritesUp}
use Rattle.bonsai_tree.specs.Node.{level_blocks}
use Rattle.bonsai_tree.specs.NodesHad.{since}
use Rattle.bonsai_tree.specs.Tree.{EndsQuietly, GoesOutFor, HasChild, HoldsTree, IsFetchPlace}
use Rattle.bonsai_tree.proofs.Climbs.{unmade_before}
use Rattle.bonsai_tree.proofs.NodesHad.{had_still}
use Rattle.bonsai_tree.proofs.NodesJoined.{climb_page, nodes_fewer, nodes_wider}
use Rattle.bonsai_tree.proofs.OutFor.{out_kept, out_on}
use Rattle.bonsai_tree.proofs.PathCalls.{fetched, fetched_accepted, fetched_alone, fetched_block, fetched_by_tag, fetched_checked, fetched_found, fetched_once, fetched_pages, fetched_read, not_from_one, ok_of, page_node, path_more}
use Rattle.bonsai_tree.proofs.Views.{latest_cached}
use Rattle.bonsai_tree.proofs.WrittenBack.{up_climbed, up_same}
use Rattle.bonsai_tree.proofs.TreeCalls.{tree_called}
use Rattle.bonsai_tree.proofs.TreeMakes.{makes_climbed, makes_read}
use Rattle.bonsai_tree.proofs.tree.Tree.fetch.Given.{Over}
use Rattle.bonsai_tree.proofs.tree.Tree.fetch.Goals as goal

own_node : (g : Over) (c : goal.After-read_kept g) → IsNode c.args.self.now.geometry 0 c.args.page
own_node g c = page_node c.args.self.now.geometry c.args.page c.requires.page

-- the whole call
whole : (g : Over) (c : goal.After-read_kept g) → Climbs (tags_of g.T.Tagger.data_tag_of g.T.Tagger.node_tag_of) 0 c.args.self.now (g.B.Bus.history c.args.bus.now) c.args.tags.now c.parent_present.new.self (g.B.Bus.history c.read_kept.new.bus) c.read_kept.new.tags (result_err c.read_kept.result)
whole g c =
    fetched g.T.Tagger.data_tag_of g.T.Tagger.node_tag_of (own_node g c) c.in_ok-parent_present.ensures.climbs c.kept_tag-tag.ensures c.read_kept.ensures.read

pub returns-in_err-parent_present-clause-accepted : goal.returns-in_err-parent_present-clause-accepted
returns-in_err-parent_present-clause-accepted g c = λ made_at bytes tag quiet is.
    absurd (not_from_one c.args.self.now.geometry c.args.page (node_place 0 c.args.page) refl (c.in_err-parent_present.ensures.climbs.found quiet (Collision 0 c.args.page made_at bytes tag) is))

pub returns-clause-block : goal.returns-clause-block
returns-clause-block g c =
    fetched_block g.T.Tagger.data_tag_of g.T.Tagger.node_tag_of (own_node g c) c.in_ok-parent_present.ensures.climbs c.kept_tag-tag.ensures c.read_kept.ensures.read

pub returns-clause-pages : goal.returns-clause-pages
returns-clause-pages g c =
    fetched_pages g.T.Tagger.data_tag_of g.T.Tagger.node_tag_of (own_node g c) c.in_ok-parent_present.ensures.climbs c.kept_tag-tag.ensures c.read_kept.ensures.read

pub returns-clause-accepted : goal.returns-clause-accepted
returns-clause-accepted g c =
    fetched_accepted g.T.Tagger.data_tag_of g.T.Tagger.node_tag_of (own_node g c) c.in_ok-parent_present.ensures.climbs c.kept_tag-tag.ensures c.read_kept.ensures.read

pub returns-clause-checked : goal.returns-clause-checked
returns-clause-checked g c =
    fetched_checked g.T.Tagger.data_tag_of g.T.Tagger.node_tag_of (own_node g c) c.in_ok-parent_present.ensures.climbs c.kept_tag-tag.ensures c.read_kept.ensures.read

pub returns-clause-parent : goal.returns-clause-parent
returns-clause-parent g c =
    ok_of c.read_kept.result (λ going. c.in_ok-parent_present.ensures.latest c.in_ok-parent_present.ensures.some)

pub returns-clause-read : goal.returns-clause-read
returns-clause-read g c =
    λ holds quiet.
    ok_of c.read_kept.result (λ going. fetched_read g.T.Tagger.data_tag_of g.T.Tagger.node_tag_of (own_node g c) c.in_ok-parent_present.ensures.climbs c.kept_tag-tag.ensures c.read_kept.ensures.read holds quiet going
    (latest_cached c.parent_present.new.self 1 (c.args.page / arity c.args.self.now.geometry)
    (c.in_ok-parent_present.ensures.latest c.in_ok-parent_present.ensures.some)))

pub returns-in_err-parent_present-clause-no_page : goal.returns-in_err-parent_present-clause-no_page
returns-in_err-parent_present-clause-no_page g c = c.in_err-parent_present.ensures.climbs.blocks 0 (omega arith)

pub returns-clause-no_page : goal.returns-clause-no_page
returns-clause-no_page g c =
    ap (λ (made : List Message). level_blocks 0 made) c.read_kept.ensures.read.made ∙ c.in_ok-parent_present.ensures.climbs.blocks 0 (omega arith)

-- where the node above it has a copy
pub returns-in_err-parent_present-clause-hit : goal.returns-in_err-parent_present-clause-hit
returns-in_err-parent_present-clause-hit g c = λ held.
    let same : (g.B.Bus.history c.parent_present.new.bus).accesses ≡ (g.B.Bus.history c.args.bus.now).accesses =
    ap (λ (history : BusHistory). history.accesses) (c.in_err-parent_present.ensures.hit held).0 in
    omega (arith, same)

pub returns-clause-hit : goal.returns-clause-hit
returns-clause-hit g c = λ held.
    let same : (g.B.Bus.history c.parent_present.new.bus).accesses ≡ (g.B.Bus.history c.args.bus.now).accesses =
    ap (λ (history : BusHistory). history.accesses) (c.in_ok-parent_present.ensures.hit held).0 in
    omega (arith, same, c.read_kept.ensures.read.most)

-- nodes over the whole call
nodes_back : (g : Over) (c : goal.After-read_kept g) → WritesUp (EndsQuietly (tags_of g.T.Tagger.data_tag_of g.T.Tagger.node_tag_of) c.args.self.now (g.B.Bus.history c.args.bus.now) c.args.tags.now c.read_kept.new.tags)
    1 NoNode c.args.self.now (g.B.Bus.history c.args.bus.now) c.args.tags.now.made c.parent_present.new.self (g.B.Bus.history c.read_kept.new.bus) c.read_kept.new.tags.made (result_err c.read_kept.result)
nodes_back g c =
    up_climbed g.T.Tagger.data_tag_of g.T.Tagger.node_tag_of
    c.in_ok-parent_present.ensures.climbs c.read_kept.ensures.read.moves c.in_ok-parent_present.ensures.back
    (up_same c.read_kept.ensures.read.moves.reads c.read_kept.ensures.read.made (λ level index. refl))

pub kept_tag-tag-requires-clause-node : goal.kept_tag-tag-requires-clause-node
kept_tag-tag-requires-clause-node g c =
    subst (λ (k : GeometryView). IsNode k 0 c.args.page) (sym c.in_ok-parent_present.ensures.climbs.geometry) (page_node c.args.self.now.geometry c.args.page c.requires.page)

pub read_kept-requires-clause-place : goal.read_kept-requires-clause-place
read_kept-requires-clause-place g c =
    subst (λ (k : GeometryView). IsNode k 0 c.args.page) (sym (c.in_ok-parent_present.ensures.climbs.moves.bus_geometry ∙ c.requires.bus))
    (page_node c.args.self.now.geometry c.args.page c.requires.page)

pub read_kept-requires-clause-node : goal.read_kept-requires-clause-node
read_kept-requires-clause-node g c =
    subst (λ (k : GeometryView). IsNode k 0 c.args.page) (sym (c.in_ok-parent_present.ensures.climbs.moves.geometry ∙ c.requires.engine))
    (page_node c.args.self.now.geometry c.args.page c.requires.page)

pub returns-clause-by_tag : goal.returns-clause-by_tag
returns-clause-by_tag g c =
    fetched_by_tag g.T.Tagger.data_tag_of g.T.Tagger.node_tag_of (own_node g c) c.in_ok-parent_present.ensures.climbs c.kept_tag-tag.ensures c.read_kept.ensures.read

pub returns-clause-alone : goal.returns-clause-alone
returns-clause-alone g c =
    fetched_alone g.T.Tagger.data_tag_of g.T.Tagger.node_tag_of (own_node g c) c.in_ok-parent_present.ensures.climbs c.kept_tag-tag.ensures c.read_kept.ensures.read

pub returns-clause-block_once : goal.returns-clause-block_once
returns-clause-block_once g c =
    fetched_once g.T.Tagger.data_tag_of g.T.Tagger.node_tag_of (own_node g c) c.in_ok-parent_present.ensures.climbs c.kept_tag-tag.ensures c.read_kept.ensures.read

pub returns-in_err-parent_present-clause-block_once : goal.returns-in_err-parent_present-clause-block_once
returns-in_err-parent_present-clause-block_once g c = omega (arith, c.in_err-parent_present.ensures.climbs.reads 0 c.args.page (omega arith))

pub returns-in_err-parent_present-clause-alone : goal.returns-in_err-parent_present-clause-alone
returns-in_err-parent_present-clause-alone g c = λ other apart. c.in_err-parent_present.ensures.climbs.reads 0 other (omega arith)

pub returns-in_err-parent_present-clause-makes : goal.returns-in_err-parent_present-clause-makes
returns-in_err-parent_present-clause-makes g c =
    let stop : result_err c.from_residual.result ≡ Some c.in_err-parent_present.field-0.0 = search rules in
    let climbed = c.in_err-parent_present.ensures.makes in (
      climbed.0,
      climbed.1,
      rw stop climbed.2,
    )

pub returns-clause-makes : goal.returns-clause-makes
returns-clause-makes g c =
    let climbed = c.in_ok-parent_present.ensures.makes in
    let read = c.read_kept.ensures.makes in (
      climbed.0 ++ read.0,
      g.met.B.Bus.moved_on c.args.bus.now c.parent_present.new.bus c.read_kept.new.bus climbed.0 read.0 climbed.1 read.1,
      makes_climbed g.T.Tagger.data_tag_of g.T.Tagger.node_tag_of c.in_ok-parent_present.ensures.climbs climbed.2
          (makes_read g.T.Tagger.data_tag_of g.T.Tagger.node_tag_of c.parent_present.new.self 0 c.args.page (subst (λ (k : GeometryView). IsNode k 0 c.args.page) (sym c.in_ok-parent_present.ensures.climbs.geometry) (own_node g c)) (c.kept_tag-tag.ensures c.parent_present.new.tags.made) read.2),
    )

-- the call as a whole
pub returns-in_err-parent_present-clause-called : goal.returns-in_err-parent_present-clause-called
returns-in_err-parent_present-clause-called g c =
    let why = c.in_err-parent_present.field-0.0 in
    let stop : result_err c.from_residual.result ≡ Some why = search rules in
    let climbs = c.in_err-parent_present.ensures.climbs in
    rw stop (tree_called g.T.Tagger.data_tag_of g.T.Tagger.node_tag_of
    climbs c.in_err-parent_present.ensures.nodes c.in_err-parent_present.ensures.back.back
    (omega (arith, c.in_err-parent_present.ensures.once, path_more c.args.self.now.geometry.levels))
    (omega (arith, c.in_err-parent_present.ensures.few, path_more c.args.self.now.geometry.levels))
    (λ place is. inr (climbs.tampered place is)) (λ quiet evidence is. inr (climbs.found quiet evidence is)) (λ holds quiet going. absurd (cc))
    (λ going. absurd (cc)))

-- what copies go out for
goes_out : (g : Over) (c : goal.After-read_kept g) → HoldsTree (tags_of g.T.Tagger.data_tag_of g.T.Tagger.node_tag_of) c.args.self.now (g.B.Bus.history c.args.bus.now) c.args.tags.now → c.read_kept.new.tags.evidence ≡ None →
    GoesOutFor c.args.self.now (g.B.Bus.history c.args.bus.now) c.args.tags.now.made c.parent_present.new.self (g.B.Bus.history c.read_kept.new.bus)
goes_out g c holds quiet =
    let climbs = c.in_ok-parent_present.ensures.climbs in
    let still = was_none c.parent_present.new.tags.evidence c.read_kept.new.tags.evidence c.read_kept.ensures.read.moves.evidence quiet in
    out_on climbs.geometry climbs.moves.reads c.read_kept.ensures.read.moves.reads
    (unmade_before c.args.tags.now.made c.parent_present.new.tags.made climbs.moves.more climbs.moves.made) (c.in_ok-parent_present.ensures.out_for holds still)
    (out_kept (λ level index held. held))

pub returns-clause-called : goal.returns-clause-called
returns-clause-called g c =
    let read = c.read_kept.ensures.read in
    tree_called g.T.Tagger.data_tag_of g.T.Tagger.node_tag_of
    (whole g c) c.in_ok-parent_present.ensures.nodes (nodes_back g c).back
    (omega (arith, c.in_ok-parent_present.ensures.once, path_more c.args.self.now.geometry.levels, read.most))
    (omega (arith, c.in_ok-parent_present.ensures.few, path_more c.args.self.now.geometry.levels, ap length read.made))
    (λ place is. inl (read.tampered place (stop_is c.read_kept.result (Tampered place) is)).0)
    (fetched_found g.T.Tagger.data_tag_of g.T.Tagger.node_tag_of (own_node g c) c.in_ok-parent_present.ensures.climbs c.kept_tag-tag.ensures read)
    (λ holds quiet going. goes_out g c holds quiet) (λ going. had_still (nodes_fewer
    (λ level index child. inr (subst (λ (made : List Message). HasChild c.args.self.now.geometry (since c.args.tags.now.made made) level index) read.made child))
    (nodes_wider _ _
    (λ level index high. climb_page (since c.args.tags.now.made c.parent_present.new.tags.made) (since c.args.tags.now.made c.read_kept.new.tags.made) refl
    (λ message listed. subst (λ (made : List Message). Contains (since c.args.tags.now.made made) message) (sym read.made) listed)
    (IsFetchPlace c.args.self.now.geometry c.args.page) c.args.page (inl refl) level index) c.in_ok-parent_present.ensures.had.had)) (λ level set. refl) (λ level index high. read.alone level index (λ same. absurd (omega (arith, high, same.0)))))
