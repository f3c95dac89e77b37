use Rattle.std.proofs.Common.{◌≡◌, ◌⊎◌, inl, inr, ℕ, ◌/◌, List, [], ◌∷◌, ◌++◌, Some, None, refl, ap, sym, ◌∙◌, subst, arith, rules}
use Rattle.std.specs.Result.{result_err}
use Rattle.std.proofs.lemmas.List.Elements.{Contains-push}
use Rattle.sec_base.specs.Geometry.{GeometryView, IsNode, arity}
use Rattle.sec_base.specs.declared.message.Message.{Message}
use Rattle.sec_base.specs.declared.message.Message.TheVariants.{Node}
use Rattle.sec_base.specs.declared.place.Place.{Place}
use Rattle.sec_base.specs.declared.place.Place.TheVariants.{Node as node_place}
use Rattle.sec_base.specs.declared.stop.MemStop.TheVariants.{NoMemory}
use Rattle.sec_base.proofs.Results.{was_none}
use Rattle.bus_model.specs.BusHistory.{BusHistory}
use Rattle.tag_engine.specs.TagEngine.{TagEngineView, tags_of}
use Rattle.bonsai_tree.specs.Climb.{Climbs}
use Rattle.bonsai_tree.specs.Node.{level_blocks}
use Rattle.bonsai_tree.specs.NodesHad.{since}
use Rattle.bonsai_tree.specs.Tree.{GoesOutFor, HoldsTree, IsMarked}
use Rattle.bonsai_tree.proofs.Climbs.{climbs_on, climbs_up, unmade_before}
use Rattle.bonsai_tree.proofs.LevelBlocks.{blocks_after}
use Rattle.bonsai_tree.proofs.NodesHad.{had_still, latest_same}
use Rattle.bonsai_tree.proofs.NodesJoined.{climb_made, must_made, nodes_fewer, nodes_wider, since_after, since_before}
use Rattle.bonsai_tree.proofs.OutFor.{out_kept, out_on}
use Rattle.bonsai_tree.proofs.PathCalls.{page_node, path_more, updated_read}
use Rattle.bonsai_tree.proofs.Views.{latest_cached}
use Rattle.bonsai_tree.proofs.WrittenBack.{up_climbed}
use Rattle.bonsai_tree.proofs.TreeCalls.{tree_called}
use Rattle.bonsai_tree.proofs.TreeMakes.{makes_wrote}
use Rattle.bonsai_tree.proofs.tree.Tree.update.Given.{Over}
use Rattle.bonsai_tree.proofs.tree.Tree.update.Goals as goal

-- the whole call, where the block was written
whole : (g : Over) (c : goal.In_ok-write_below g) → Climbs (tags_of g.T.Tagger.data_tag_of g.T.Tagger.node_tag_of) 0 c.args.self.now (g.B.Bus.history c.args.bus.now) c.args.tags.now c.write_below.new.self (g.B.Bus.history c.write_below.new.bus) c.write_below.new.tags None
whole g c =
    climbs_on g.T.Tagger.data_tag_of g.T.Tagger.node_tag_of
    (climbs_up g.T.Tagger.data_tag_of g.T.Tagger.node_tag_of (omega arith) c.in_ok-parent_present.ensures.climbs) c.in_ok-write_below.ensures.climbs

-- and where there was no memory for that
whole_refused : (g : Over) (c : goal.After-from_residual-in_err-write_below g) → Climbs (tags_of g.T.Tagger.data_tag_of g.T.Tagger.node_tag_of) 0 c.args.self.now (g.B.Bus.history c.args.bus.now) c.args.tags.now c.write_below.new.self (g.B.Bus.history c.write_below.new.bus) c.write_below.new.tags (Some NoMemory)
whole_refused g c =
    climbs_on g.T.Tagger.data_tag_of g.T.Tagger.node_tag_of
    (climbs_up g.T.Tagger.data_tag_of g.T.Tagger.node_tag_of (omega arith) c.in_ok-parent_present.ensures.climbs) c.in_err-write_below.ensures.climbs

pub returns-in_err-parent_present-clause-others : goal.returns-in_err-parent_present-clause-others
returns-in_err-parent_present-clause-others g c = λ other apart. c.in_err-parent_present.ensures.climbs.last 0 other (omega arith)

pub returns-in_err-parent_present-clause-beside : goal.returns-in_err-parent_present-clause-beside
returns-in_err-parent_present-clause-beside g c = λ other apart. c.in_err-parent_present.ensures.climbs.written 0 other (omega arith)

pub returns-in_err-parent_present-clause-pages : goal.returns-in_err-parent_present-clause-pages
returns-in_err-parent_present-clause-pages g c = λ place is. record {
  last = λ other. c.in_err-parent_present.ensures.climbs.last 0 other (omega arith);
  written = λ other. c.in_err-parent_present.ensures.climbs.written 0 other (omega arith);
}

pub returns-in_err-write_below-clause-others : goal.returns-in_err-write_below-clause-others
returns-in_err-write_below-clause-others g c = λ other apart. c.in_err-write_below.ensures.others other apart ∙ c.in_ok-parent_present.ensures.climbs.last 0 other (omega arith)

pub returns-in_err-write_below-clause-beside : goal.returns-in_err-write_below-clause-beside
returns-in_err-write_below-clause-beside g c = λ other apart. c.in_err-write_below.ensures.beside other apart ∙ c.in_ok-parent_present.ensures.climbs.written 0 other (omega arith)

pub returns-clause-others : goal.returns-clause-others
returns-clause-others g c = λ other apart. c.in_ok-write_below.ensures.others other apart ∙ c.in_ok-parent_present.ensures.climbs.last 0 other (omega arith)

pub returns-clause-beside : goal.returns-clause-beside
returns-clause-beside g c = λ other apart. c.in_ok-write_below.ensures.beside other apart ∙ c.in_ok-parent_present.ensures.climbs.written 0 other (omega arith)

pub returns-clause-read : goal.returns-clause-read
returns-clause-read g c =
    updated_read g.T.Tagger.data_tag_of g.T.Tagger.node_tag_of c.write_below.new.tags c.in_ok-parent_present.ensures.climbs c.in_ok-write_below.ensures.climbs.moves.reads c.in_ok-write_below.ensures.quiet
    (latest_cached c.parent_present.new.self 1 (c.args.page / arity c.args.self.now.geometry)
    (c.in_ok-parent_present.ensures.latest c.in_ok-parent_present.ensures.some))

pub returns-clause-parent : goal.returns-clause-parent
returns-clause-parent g c =
    subst (λ (k : GeometryView). IsMarked c.write_below.new.self 1 (c.args.page / arity k)) c.in_ok-parent_present.ensures.climbs.geometry
    c.in_ok-write_below.ensures.marked

pub returns-clause-latest : goal.returns-clause-latest
returns-clause-latest g c =
    let before = c.in_ok-parent_present.ensures.nodes in
    let after = c.in_ok-write_below.ensures.climbs.nodes before in
    let levels : c.parent_present.new.self.geometry.levels ≡ c.args.self.now.geometry.levels = ap (λ (k : GeometryView). k.levels) c.in_ok-parent_present.ensures.climbs.geometry in
    let levels' : c.write_below.new.self.geometry.levels ≡ c.parent_present.new.self.geometry.levels = ap (λ (k : GeometryView). k.levels) c.in_ok-write_below.ensures.climbs.geometry in
    let some = c.in_ok-parent_present.ensures.some in
    latest_same c.parent_present.new.self c.write_below.new.self 1 (c.args.page / arity c.args.self.now.geometry)
    (before.each 1 (omega arith) (omega (arith, levels, some))) (after.each 1 (omega arith) (omega (arith, levels, levels', some)))
    c.in_ok-write_below.ensures.orders (c.in_ok-parent_present.ensures.latest some)

-- which messages of pages' blocks were made
pub returns-in_err-parent_present-clause-one_at_most : goal.returns-in_err-parent_present-clause-one_at_most
returns-in_err-parent_present-clause-one_at_most g c = inl (c.in_err-parent_present.ensures.climbs.blocks 0 (omega arith))

pub returns-in_err-write_below-clause-one_at_most : goal.returns-in_err-write_below-clause-one_at_most
returns-in_err-write_below-clause-one_at_most g c =
    elim c.in_err-write_below.ensures.one_at_most [
      | inl same ↦ inl (ap (λ (made : List Message). level_blocks 0 made) same ∙ c.in_ok-parent_present.ensures.climbs.blocks 0 (omega arith))
      | inr one ↦ inr (blocks_after 0 c.args.page c.args.block.now c.args.tags.now.made c.parent_present.new.tags.made c.write_below.new.tags.made
          (c.in_ok-parent_present.ensures.climbs.blocks 0 (omega arith)) one)
    ]

pub returns-clause-one_page : goal.returns-clause-one_page
returns-clause-one_page g c =
    blocks_after 0 c.args.page c.args.block.now c.args.tags.now.made c.parent_present.new.tags.made c.write_below.new.tags.made
    (c.in_ok-parent_present.ensures.climbs.blocks 0 (omega arith)) c.in_ok-write_below.ensures.made

-- where the node above it has a copy
pub returns-in_err-parent_present-clause-hit : goal.returns-in_err-parent_present-clause-hit
returns-in_err-parent_present-clause-hit g c = λ held.
    let same : (g.B.Bus.history c.parent_present.new.bus).accesses ≡ (g.B.Bus.history c.args.bus.now).accesses =
    ap (λ (history : BusHistory). history.accesses) (c.in_err-parent_present.ensures.hit held).0 in
    omega (arith, same)

pub returns-in_err-write_below-clause-hit : goal.returns-in_err-write_below-clause-hit
returns-in_err-write_below-clause-hit g c = λ held.
    let same : (g.B.Bus.history c.parent_present.new.bus).accesses ≡ (g.B.Bus.history c.args.bus.now).accesses =
    ap (λ (history : BusHistory). history.accesses) (c.in_ok-parent_present.ensures.hit held).0 in
    omega (arith, same, c.in_err-write_below.ensures.once)

pub returns-in_err-write_below-clause-hit_made : goal.returns-in_err-write_below-clause-hit_made
returns-in_err-write_below-clause-hit_made g c = λ held.
    let same : c.parent_present.new.tags.made ≡ c.args.tags.now.made =
    ap (λ (engine : TagEngineView g.row.T.Denot). engine.made) (c.in_ok-parent_present.ensures.hit held).1 in
    subst (λ (made : List Message). (c.write_below.new.tags.made ≡ made) ⊎ (c.write_below.new.tags.made ≡ made ++ Node 0 c.args.page c.args.block.now ∷ [])) same
    c.in_err-write_below.ensures.one_at_most

pub returns-clause-hit : goal.returns-clause-hit
returns-clause-hit g c = λ held.
    let same : (g.B.Bus.history c.parent_present.new.bus).accesses ≡ (g.B.Bus.history c.args.bus.now).accesses =
    ap (λ (history : BusHistory). history.accesses) (c.in_ok-parent_present.ensures.hit held).0 in
    omega (arith, same, c.in_ok-write_below.ensures.once)

pub returns-clause-hit_made : goal.returns-clause-hit_made
returns-clause-hit_made g c = λ held.
    let same : c.parent_present.new.tags.made ≡ c.args.tags.now.made =
    ap (λ (engine : TagEngineView g.row.T.Denot). engine.made) (c.in_ok-parent_present.ensures.hit held).1 in
    subst (λ (made : List Message). (c.write_below.new.tags.made ≡ made) ⊎ (c.write_below.new.tags.made ≡ made ++ Node 0 c.args.page c.args.block.now ∷ [])) same
    c.in_ok-write_below.ensures.one_at_most

pub write_below-requires-clause-node : goal.write_below-requires-clause-node
write_below-requires-clause-node g c =
    subst (λ (k : GeometryView). IsNode k 0 c.args.page) (sym c.in_ok-parent_present.ensures.climbs.geometry) (page_node c.args.self.now.geometry c.args.page c.requires.page)

pub returns-clause-no_block_read : goal.returns-clause-no_block_read
returns-clause-no_block_read g c = λ other.
    ap (λ (reads : Place → ℕ). reads (node_place 0 other)) c.in_ok-write_below.ensures.reads ∙ c.in_ok-parent_present.ensures.climbs.reads 0 other (omega arith)

pub returns-in_err-write_below-clause-no_block_read : goal.returns-in_err-write_below-clause-no_block_read
returns-in_err-write_below-clause-no_block_read g c = λ other.
    ap (λ (reads : Place → ℕ). reads (node_place 0 other)) c.in_err-write_below.ensures.reads ∙ c.in_ok-parent_present.ensures.climbs.reads 0 other (omega arith)

pub returns-in_err-parent_present-clause-no_block_read : goal.returns-in_err-parent_present-clause-no_block_read
returns-in_err-parent_present-clause-no_block_read g c = λ other. c.in_err-parent_present.ensures.climbs.reads 0 other (omega arith)

pub returns-in_err-parent_present-clause-makes : goal.returns-in_err-parent_present-clause-makes
returns-in_err-parent_present-clause-makes g c =
    let stop : result_err c.from_residual.result ≡ Some c.in_err-parent_present.field-0.0 = search rules in
    let climbed = c.in_err-parent_present.ensures.makes in (
      climbed.0,
      climbed.1,
      rw stop climbed.2,
    )

pub returns-in_err-write_below-clause-makes : goal.returns-in_err-write_below-clause-makes
returns-in_err-write_below-clause-makes g c =
    let stop : result_err c.from_residual-in_err-write_below.result ≡ Some NoMemory = search rules in
    let climbed = c.in_ok-parent_present.ensures.makes in
    let wrote = c.in_err-write_below.ensures.makes in (
      climbed.0 ++ wrote.0,
      g.met.B.Bus.moved_on c.args.bus.now c.parent_present.new.bus c.write_below.new.bus climbed.0 wrote.0 climbed.1 wrote.1,
      rw stop
          (makes_wrote g.T.Tagger.data_tag_of g.T.Tagger.node_tag_of c.args.self.now climbed.2 wrote.2),
    )

pub returns-clause-makes : goal.returns-clause-makes
returns-clause-makes g c =
    let climbed = c.in_ok-parent_present.ensures.makes in
    let wrote = c.in_ok-write_below.ensures.makes in (
      climbed.0 ++ wrote.0,
      g.met.B.Bus.moved_on c.args.bus.now c.parent_present.new.bus c.write_below.new.bus climbed.0 wrote.0 climbed.1 wrote.1,
      makes_wrote g.T.Tagger.data_tag_of g.T.Tagger.node_tag_of c.args.self.now climbed.2 wrote.2,
    )

-- the call as a whole
pub returns-in_err-parent_present-clause-called : goal.returns-in_err-parent_present-clause-called
returns-in_err-parent_present-clause-called g c =
    let why = c.in_err-parent_present.field-0.0 in
    let stop : result_err c.from_residual.result ≡ Some why = search rules in
    let climbs = c.in_err-parent_present.ensures.climbs in
    rw stop (tree_called g.T.Tagger.data_tag_of g.T.Tagger.node_tag_of
    climbs c.in_err-parent_present.ensures.nodes c.in_err-parent_present.ensures.back.back
    (omega (arith, c.in_err-parent_present.ensures.once, path_more c.args.self.now.geometry.levels))
    (omega (arith, c.in_err-parent_present.ensures.few, path_more c.args.self.now.geometry.levels))
    climbs.tampered climbs.found (λ holds quiet going. absurd (cc)) (λ going. absurd (cc)))

pub returns-in_err-write_below-clause-called : goal.returns-in_err-write_below-clause-called
returns-in_err-write_below-clause-called g c =
    let stop : result_err c.from_residual-in_err-write_below.result ≡ Some NoMemory = search rules in
    let nodes =
    up_climbed g.T.Tagger.data_tag_of g.T.Tagger.node_tag_of
    c.in_ok-parent_present.ensures.climbs c.in_err-write_below.ensures.climbs.moves c.in_ok-parent_present.ensures.back c.in_err-write_below.ensures.back in
    rw stop (tree_called g.T.Tagger.data_tag_of g.T.Tagger.node_tag_of
    (whole_refused g c) (c.in_err-write_below.ensures.climbs.nodes c.in_ok-parent_present.ensures.nodes) nodes.back
    (omega (arith, c.in_ok-parent_present.ensures.once, c.in_err-write_below.ensures.once, path_more c.args.self.now.geometry.levels))
    (omega (arith, c.in_ok-parent_present.ensures.few, c.in_err-write_below.ensures.few, path_more c.args.self.now.geometry.levels))
    (λ place is. absurd (cc)) (λ quiet evidence is. c.in_ok-parent_present.ensures.climbs.found quiet evidence (sym c.in_err-write_below.ensures.quiet ∙ is)) (λ holds quiet going. absurd (cc))
    (λ going. absurd (cc)))

-- what copies go out for
goes_out : (g : Over) (c : goal.In_ok-write_below g) → HoldsTree (tags_of g.T.Tagger.data_tag_of g.T.Tagger.node_tag_of) c.args.self.now (g.B.Bus.history c.args.bus.now) c.args.tags.now → c.write_below.new.tags.evidence ≡ None →
    GoesOutFor c.args.self.now (g.B.Bus.history c.args.bus.now) c.args.tags.now.made c.write_below.new.self (g.B.Bus.history c.write_below.new.bus)
goes_out g c holds quiet =
    let climbs = c.in_ok-parent_present.ensures.climbs in
    let still = was_none c.parent_present.new.tags.evidence c.write_below.new.tags.evidence c.in_ok-write_below.ensures.climbs.moves.evidence quiet in
    out_on climbs.geometry climbs.moves.reads c.in_ok-write_below.ensures.climbs.moves.reads
    (unmade_before c.args.tags.now.made c.parent_present.new.tags.made climbs.moves.more climbs.moves.made) (c.in_ok-parent_present.ensures.out_for holds still)
    (out_kept c.in_ok-write_below.ensures.kept)

pub returns-clause-called : goal.returns-clause-called
returns-clause-called g c =
    let geometry = c.args.self.now.geometry in
    let made = c.args.tags.now.made in
    let parent = c.in_ok-parent_present.ensures.climbs.moves in
    let own : List Message = Node 0 c.args.page c.args.block.now ∷ [] in
    let nodes =
    up_climbed g.T.Tagger.data_tag_of g.T.Tagger.node_tag_of
    c.in_ok-parent_present.ensures.climbs c.in_ok-write_below.ensures.climbs.moves c.in_ok-parent_present.ensures.back c.in_ok-write_below.ensures.back in
    tree_called g.T.Tagger.data_tag_of g.T.Tagger.node_tag_of
    (whole g c) (c.in_ok-write_below.ensures.climbs.nodes c.in_ok-parent_present.ensures.nodes) nodes.back
    (omega (arith, c.in_ok-parent_present.ensures.once, c.in_ok-write_below.ensures.once, path_more c.args.self.now.geometry.levels))
    (omega (arith, c.in_ok-parent_present.ensures.few, c.in_ok-write_below.ensures.few, path_more c.args.self.now.geometry.levels))
    (λ place is. absurd (cc)) (λ quiet evidence is. c.in_ok-parent_present.ensures.climbs.found quiet evidence (sym c.in_ok-write_below.ensures.quiet ∙ is))
    (λ holds quiet going. goes_out g c holds quiet) (λ going. had_still (nodes_fewer
    (must_made geometry made parent.more 0 c.args.page c.args.block.now c.in_ok-parent_present.ensures.some parent.made c.in_ok-write_below.ensures.made)
    (nodes_wider _ _
    (λ level index high may. inr (climb_made (since made c.parent_present.new.tags.made) (since made c.write_below.new.tags.made) refl
    (since_before made parent.more own parent.made c.in_ok-write_below.ensures.made) 0 c.args.page c.args.block.now
    (since_after made parent.more own parent.made c.in_ok-write_below.ensures.made
    (Node 0 c.args.page c.args.block.now) (Contains-push [] (Node 0 c.args.page c.args.block.now))) level index high may))
    c.in_ok-parent_present.ensures.had.had)) c.in_ok-write_below.ensures.orders (λ level index high. ap (λ (f : Place → ℕ). f (node_place level index)) c.in_ok-write_below.ensures.reads))

pub returns-clause-one_at_most : goal.returns-clause-one_at_most
returns-clause-one_at_most g c = inr (returns-clause-one_page g c)
