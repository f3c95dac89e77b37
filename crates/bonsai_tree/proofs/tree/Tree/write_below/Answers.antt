use Rattle.std.proofs.Common.{◌≡◌, inl, inr, ◌+◌, ◌/◌, ℕ, List, true, [], Some, Ok, Err, refl, ap, sym, ◌∙◌, subst, arith, rules, ◌∷◌}
use Rattle.std.specs.Option.{option_map}
use Rattle.tag_engine.proofs.Marks.{engine_tag_fits}
use Rattle.sec_base.specs.declared.message.Message.TheVariants.{Node}
use Rattle.sec_base.specs.Tag.{IsTag}
use Rattle.sec_base.specs.declared.place.Place.TheVariants.{Node as node_place}
use Rattle.sec_base.specs.Geometry.{GeometryView, arity, slot}
use Rattle.sec_base.specs.declared.stop.MemStop.TheVariants.{NoMemory}
use Rattle.sec_base.proofs.Results.{on_err}
use Rattle.tag_engine.specs.TagEngine.{TagEngineView, tags_of}
use Rattle.bus_model.specs.Access.{Access}
use Rattle.checked_bus.specs.Makes.{Makes, access_of}
use Rattle.checked_bus.proofs.Makes.{makes_moves}
use Rattle.checked_bus.proofs.TaggedWrites.{WritesOnce, wrote_once}
use Rattle.bonsai_tree.specs.Climb.{Climbs}
use Rattle.bonsai_tree.specs.Node.{CachedNode, with_tag}
use Rattle.bonsai_tree.specs.NodeCache.{copy_of}
use Rattle.bonsai_tree.specs.Tree.{cached_node, want_of}
use Rattle.bonsai_tree.proofs.Climbs.{climbs_refused}
use Rattle.bonsai_tree.proofs.NodeCalls.{blocks_apart, climbs_wrote, held_copy, last_apart, made_one, no_rise_one, put_holds, put_slots, puts_held, writes_taken, written_apart}
use Rattle.bonsai_tree.proofs.NodeWrites.{NodeWritten, node_written, own, written_not, written_once}
use Rattle.bonsai_tree.proofs.Puts.{PutsTag}
use Rattle.bonsai_tree.proofs.OutFor.{kept_at}
use Rattle.bonsai_tree.proofs.WrittenBack.{up_made, up_same}
use Rattle.bonsai_tree.proofs.TreeMakes.{makes_refused, makes_taken}
use Rattle.bonsai_tree.proofs.tree.Tree.write_below.Given.{Over}
use Rattle.bonsai_tree.proofs.tree.Tree.write_below.Goals as goal

pub returns-in_err-reserve-clause-climbs : goal.returns-in_err-reserve-clause-climbs
returns-in_err-reserve-clause-climbs g c =
    let stop : want_of c.from_residual.result ≡ Some NoMemory = search rules in
    rw stop
    (subst (λ (e : TagEngineView g.row.T.Denot). Climbs (tags_of g.T.Tagger.data_tag_of g.T.Tagger.node_tag_of) c.args.level c.args.self.now
    (g.B.Bus.history c.args.bus.now) c.args.tags.now c.args.self.now (g.B.Bus.history c.args.bus.now) e (Some NoMemory)) (sym c.in_err-reserve.ensures.refused)
    (climbs_refused g.T.Tagger.data_tag_of g.T.Tagger.node_tag_of))

pub returns-in_err-tag-clause-climbs : goal.returns-in_err-tag-clause-climbs
returns-in_err-tag-clause-climbs g c =
    let write : NodeWritten (tags_of g.T.Tagger.data_tag_of g.T.Tagger.node_tag_of) c.args.level c.args.index c.args.block.now (g.B.Bus.history c.args.bus.now) c.reserve.new.self (g.B.Bus.history c.write_node.new.bus) c.write_node.new.tags =
    node_written (tags_of g.T.Tagger.data_tag_of g.T.Tagger.node_tag_of) c.args.level c.args.index c.args.block.now (Err tt) c.in_err-tag.ensures.made c.in_err-tag.ensures.makes.1 in
    let stop : want_of c.from_residual-in_err-tag.result ≡ Some NoMemory = search rules in
    rw stop (climbs_wrote g.T.Tagger.data_tag_of g.T.Tagger.node_tag_of (inr refl)
    (writes_taken g.T.Tagger.data_tag_of g.T.Tagger.node_tag_of c.in_ok-reserve.ensures.taken
    (written_not g.T.Tagger.data_tag_of g.T.Tagger.node_tag_of write c.args.self.now.geometry c.in_err-tag.ensures.makes.1.came))
    (no_rise_one g.T.Tagger.data_tag_of g.T.Tagger.node_tag_of c.args.self.now c.args.self.now [] c.args.tags.now c.in_ok-reserve.ensures.taken write)
    refl refl (λ are. are) (λ other low. refl)
    (λ other at low. last_apart g.T.Tagger.data_tag_of g.T.Tagger.node_tag_of c.args.self.now c.args.self.now [] c.args.tags.now c.in_ok-reserve.ensures.taken write other at (λ same. absurd (omega (arith, same.0, low))))
    (λ other low. blocks_apart g.T.Tagger.data_tag_of g.T.Tagger.node_tag_of c.args.self.now c.args.self.now [] c.args.tags.now c.in_ok-reserve.ensures.taken write other (λ (same : c.args.level ≡ other). absurd (omega (arith, same, low))))
    (λ other at low. written_apart g.T.Tagger.data_tag_of g.T.Tagger.node_tag_of c.args.self.now c.args.self.now [] c.args.tags.now c.in_ok-reserve.ensures.taken write other at (λ same. absurd (omega (arith, same.0, low))))
    (λ holds remembered. absurd (remembered refl))
    (put_slots g.T.Tagger.data_tag_of g.T.Tagger.node_tag_of c.args.self.now c.args.self.now [] c.args.tags.now c.in_ok-reserve.ensures.taken write c.requires.node c.requires.current)
    (λ other at held. held))

pub returns-in_err-tag-clause-refused : goal.returns-in_err-tag-clause-refused
returns-in_err-tag-clause-refused g c =
    let write : NodeWritten (tags_of g.T.Tagger.data_tag_of g.T.Tagger.node_tag_of) c.args.level c.args.index c.args.block.now (g.B.Bus.history c.args.bus.now) c.reserve.new.self (g.B.Bus.history c.write_node.new.bus) c.write_node.new.tags =
    node_written (tags_of g.T.Tagger.data_tag_of g.T.Tagger.node_tag_of) c.args.level c.args.index c.args.block.now (Err tt) c.in_err-tag.ensures.made c.in_err-tag.ensures.makes.1 in
    on_err c.from_residual-in_err-tag.result (inr (own g.T.Tagger.data_tag_of g.T.Tagger.node_tag_of write))

pub returns-in_err-tag-clause-others : goal.returns-in_err-tag-clause-others
returns-in_err-tag-clause-others g c = λ at differs.
    let write : NodeWritten (tags_of g.T.Tagger.data_tag_of g.T.Tagger.node_tag_of) c.args.level c.args.index c.args.block.now (g.B.Bus.history c.args.bus.now) c.reserve.new.self (g.B.Bus.history c.write_node.new.bus) c.write_node.new.tags =
    node_written (tags_of g.T.Tagger.data_tag_of g.T.Tagger.node_tag_of) c.args.level c.args.index c.args.block.now (Err tt) c.in_err-tag.ensures.made c.in_err-tag.ensures.makes.1 in
    last_apart g.T.Tagger.data_tag_of g.T.Tagger.node_tag_of c.args.self.now c.args.self.now [] c.args.tags.now c.in_ok-reserve.ensures.taken write c.args.level at (λ same. differs same.1)

pub returns-clause-own : goal.returns-clause-own
returns-clause-own g c =
    let write : NodeWritten (tags_of g.T.Tagger.data_tag_of g.T.Tagger.node_tag_of) c.args.level c.args.index c.args.block.now (g.B.Bus.history c.args.bus.now) c.reserve.new.self (g.B.Bus.history c.write_node.new.bus) c.write_node.new.tags =
    node_written (tags_of g.T.Tagger.data_tag_of g.T.Tagger.node_tag_of) c.args.level c.args.index c.args.block.now (Ok tt) c.in_ok-tag.ensures.made c.in_ok-tag.ensures.makes.1 in
    own g.T.Tagger.data_tag_of g.T.Tagger.node_tag_of write

pub returns-clause-others : goal.returns-clause-others
returns-clause-others g c = λ at differs.
    let write : NodeWritten (tags_of g.T.Tagger.data_tag_of g.T.Tagger.node_tag_of) c.args.level c.args.index c.args.block.now (g.B.Bus.history c.args.bus.now) c.reserve.new.self (g.B.Bus.history c.write_node.new.bus) c.write_node.new.tags =
    node_written (tags_of g.T.Tagger.data_tag_of g.T.Tagger.node_tag_of) c.args.level c.args.index c.args.block.now (Ok tt) c.in_ok-tag.ensures.made c.in_ok-tag.ensures.makes.1 in
    last_apart g.T.Tagger.data_tag_of g.T.Tagger.node_tag_of c.args.self.now c.args.self.now [] c.args.tags.now c.in_ok-reserve.ensures.taken write c.args.level at (λ same. differs same.1)

-- the tag is one of the tree's layout
tag_fits : (g : Over) (c : goal.After-keep_tag g) → IsTag c.args.self.now.geometry.layout c.in_ok-tag.tag
tag_fits g c =
    let engine_is : c.reserve.new.self.geometry ≡ c.args.self.now.geometry =
    ap (λ (e : TagEngineView g.row.T.Denot). e.geometry) c.in_ok-reserve.ensures.taken ∙ c.requires.engine in
    subst (λ (k : GeometryView). IsTag k.layout c.in_ok-tag.tag) engine_is
    (subst (λ (tag : List ℕ). IsTag c.reserve.new.self.geometry.layout tag) (sym c.in_ok-tag.ensures.tag.0)
    (engine_tag_fits (g.T.Tagger.data_tag_of c.reserve.new.self.tagger) (g.T.Tagger.node_tag_of c.reserve.new.self.tagger)
    (g.met.T.Tagger.data_tag_long c.reserve.new.self.tagger) (g.met.T.Tagger.node_tag_long c.reserve.new.self.tagger) c.reserve.new.self.geometry
    (Node c.args.level c.args.index c.args.block.now)))

-- the block stands at its place
once : (g : Over) (c : goal.After-keep_tag g) →
    WritesOnce (node_place c.args.level c.args.index) c.args.block.now (g.B.Bus.history c.args.bus.now) (g.B.Bus.history c.write_node.new.bus)
once g c =
    wrote_once (node_place c.args.level c.args.index) c.args.block.now (g.B.Bus.history c.args.bus.now) (g.B.Bus.history c.write_node.new.bus) c.in_ok-tag.ensures.makes.1.came

pub returns-clause-climbs : goal.returns-clause-climbs
returns-clause-climbs g c =
    let write : NodeWritten (tags_of g.T.Tagger.data_tag_of g.T.Tagger.node_tag_of) c.args.level c.args.index c.args.block.now (g.B.Bus.history c.args.bus.now) c.reserve.new.self (g.B.Bus.history c.write_node.new.bus) c.write_node.new.tags =
    node_written (tags_of g.T.Tagger.data_tag_of g.T.Tagger.node_tag_of) c.args.level c.args.index c.args.block.now (Ok tt) c.in_ok-tag.ensures.made c.in_ok-tag.ensures.makes.1 in
    let found : (copy : CachedNode) × (cached_node c.args.self.now (c.args.level + 1) (c.args.index / arity c.args.self.now.geometry) ≡ Some copy) =
    held_copy (cached_node c.args.self.now (c.args.level + 1) (c.args.index / arity c.args.self.now.geometry)) c.keep_tag.ensures.held in
    let puts : PutsTag c.args.self.now c.keep_tag.new.self c.args.level c.args.index c.in_ok-tag.tag =
    record {
      geometry = c.keep_tag.ensures.geometry;
      root = c.keep_tag.ensures.root;
      copy = found.0;
      held = found.1;
      put = c.keep_tag.ensures.put found.0 found.1;
      same = λ other at apart. ap (option_map copy_of) (c.keep_tag.ensures.same other at apart);
    } in
    climbs_wrote g.T.Tagger.data_tag_of g.T.Tagger.node_tag_of (inl refl)
    (writes_taken g.T.Tagger.data_tag_of g.T.Tagger.node_tag_of c.in_ok-reserve.ensures.taken
    (written_once g.T.Tagger.data_tag_of g.T.Tagger.node_tag_of write c.args.self.now.geometry (once g c)))
    (no_rise_one g.T.Tagger.data_tag_of g.T.Tagger.node_tag_of c.args.self.now c.keep_tag.new.self c.in_ok-tag.tag c.args.tags.now c.in_ok-reserve.ensures.taken write)
    c.keep_tag.ensures.geometry c.keep_tag.ensures.root (λ are. c.keep_tag.ensures.nodes)
    (λ other low. c.keep_tag.ensures.others other (λ (same : other ≡ c.args.level + 1). absurd (omega (arith, same, low))))
    (λ other at low. last_apart g.T.Tagger.data_tag_of g.T.Tagger.node_tag_of c.args.self.now c.keep_tag.new.self c.in_ok-tag.tag c.args.tags.now c.in_ok-reserve.ensures.taken write other at (λ same. absurd (omega (arith, same.0, low))))
    (λ other low. blocks_apart g.T.Tagger.data_tag_of g.T.Tagger.node_tag_of c.args.self.now c.keep_tag.new.self c.in_ok-tag.tag c.args.tags.now c.in_ok-reserve.ensures.taken write other (λ (same : c.args.level ≡ other). absurd (omega (arith, same, low))))
    (λ other at low. written_apart g.T.Tagger.data_tag_of g.T.Tagger.node_tag_of c.args.self.now c.keep_tag.new.self c.in_ok-tag.tag c.args.tags.now c.in_ok-reserve.ensures.taken write other at (λ same. absurd (omega (arith, same.0, low))))
    (λ holds remembered. put_holds g.T.Tagger.data_tag_of g.T.Tagger.node_tag_of c.args.self.now c.keep_tag.new.self c.in_ok-tag.tag c.args.tags.now c.in_ok-reserve.ensures.taken write (once g c) puts c.requires.below c.requires.node
    c.in_ok-tag.ensures.tag.0 (tag_fits g c) (search rules) c.requires.current holds)
    (put_slots g.T.Tagger.data_tag_of g.T.Tagger.node_tag_of c.args.self.now c.keep_tag.new.self c.in_ok-tag.tag c.args.tags.now c.in_ok-reserve.ensures.taken write c.requires.node c.requires.current)
    (puts_held puts)

pub returns-clause-once : goal.returns-clause-once
returns-clause-once g c = let one = (once g c).once in omega (arith, one)

pub returns-clause-reads : goal.returns-clause-reads
returns-clause-reads g c = (once g c).reads

pub returns-clause-beside : goal.returns-clause-beside
returns-clause-beside g c = λ at differs.
    let write : NodeWritten (tags_of g.T.Tagger.data_tag_of g.T.Tagger.node_tag_of) c.args.level c.args.index c.args.block.now (g.B.Bus.history c.args.bus.now) c.reserve.new.self (g.B.Bus.history c.write_node.new.bus) c.write_node.new.tags =
    node_written (tags_of g.T.Tagger.data_tag_of g.T.Tagger.node_tag_of) c.args.level c.args.index c.args.block.now (Ok tt) c.in_ok-tag.ensures.made c.in_ok-tag.ensures.makes.1 in
    written_apart g.T.Tagger.data_tag_of g.T.Tagger.node_tag_of c.args.self.now c.args.self.now [] c.args.tags.now c.in_ok-reserve.ensures.taken write c.args.level at (λ same. differs same.1)

pub returns-in_err-tag-clause-one_at_most : goal.returns-in_err-tag-clause-one_at_most
returns-in_err-tag-clause-one_at_most g c =
    let write : NodeWritten (tags_of g.T.Tagger.data_tag_of g.T.Tagger.node_tag_of) c.args.level c.args.index c.args.block.now (g.B.Bus.history c.args.bus.now) c.reserve.new.self (g.B.Bus.history c.write_node.new.bus) c.write_node.new.tags =
    node_written (tags_of g.T.Tagger.data_tag_of g.T.Tagger.node_tag_of) c.args.level c.args.index c.args.block.now (Err tt) c.in_err-tag.ensures.made c.in_err-tag.ensures.makes.1 in
    inr (made_one g.T.Tagger.data_tag_of g.T.Tagger.node_tag_of c.args.self.now c.args.self.now [] c.args.tags.now c.in_ok-reserve.ensures.taken write)

pub returns-clause-made : goal.returns-clause-made
returns-clause-made g c =
    let write : NodeWritten (tags_of g.T.Tagger.data_tag_of g.T.Tagger.node_tag_of) c.args.level c.args.index c.args.block.now (g.B.Bus.history c.args.bus.now) c.reserve.new.self (g.B.Bus.history c.write_node.new.bus) c.write_node.new.tags =
    node_written (tags_of g.T.Tagger.data_tag_of g.T.Tagger.node_tag_of) c.args.level c.args.index c.args.block.now (Ok tt) c.in_ok-tag.ensures.made c.in_ok-tag.ensures.makes.1 in
    made_one g.T.Tagger.data_tag_of g.T.Tagger.node_tag_of c.args.self.now c.args.self.now [] c.args.tags.now c.in_ok-reserve.ensures.taken write

pub returns-in_err-reserve-clause-back : goal.returns-in_err-reserve-clause-back
returns-in_err-reserve-clause-back g c =
    let stop : want_of c.from_residual.result ≡ Some NoMemory = search rules in
    rw stop (up_same
    (λ place. omega arith) (ap (λ (e : TagEngineView g.row.T.Denot). e.made) c.in_err-reserve.ensures.refused) (λ level index. refl))

pub returns-in_err-tag-clause-back : goal.returns-in_err-tag-clause-back
returns-in_err-tag-clause-back g c =
    let write : NodeWritten (tags_of g.T.Tagger.data_tag_of g.T.Tagger.node_tag_of) c.args.level c.args.index c.args.block.now (g.B.Bus.history c.args.bus.now) c.reserve.new.self (g.B.Bus.history c.write_node.new.bus) c.write_node.new.tags =
    node_written (tags_of g.T.Tagger.data_tag_of g.T.Tagger.node_tag_of) c.args.level c.args.index c.args.block.now (Err tt) c.in_err-tag.ensures.made c.in_err-tag.ensures.makes.1 in
    let stop : want_of c.from_residual-in_err-tag.result ≡ Some NoMemory = search rules in
    rw stop (up_made c.args.level c.args.index c.args.block.now (makes_moves c.in_err-tag.ensures.makes.1).reads
    (made_one g.T.Tagger.data_tag_of g.T.Tagger.node_tag_of c.args.self.now c.args.self.now [] c.args.tags.now c.in_ok-reserve.ensures.taken write) (λ other at apart. refl) (λ other at held. held) (λ marked. marked))

pub returns-clause-back : goal.returns-clause-back
returns-clause-back g c =
    let found : (copy : CachedNode) × (cached_node c.args.self.now (c.args.level + 1) (c.args.index / arity c.args.self.now.geometry) ≡ Some copy) =
    held_copy (cached_node c.args.self.now (c.args.level + 1) (c.args.index / arity c.args.self.now.geometry)) c.keep_tag.ensures.held in
    let puts : PutsTag c.args.self.now c.keep_tag.new.self c.args.level c.args.index c.in_ok-tag.tag =
    record {
      geometry = c.keep_tag.ensures.geometry;
      root = c.keep_tag.ensures.root;
      copy = found.0;
      held = found.1;
      put = c.keep_tag.ensures.put found.0 found.1;
      same = λ other at apart. ap (option_map copy_of) (c.keep_tag.ensures.same other at apart);
    } in
    up_made c.args.level c.args.index c.args.block.now
    (makes_moves c.in_ok-tag.ensures.makes.1).reads (returns-clause-made g c) puts.same (puts_held puts)
    (λ was. ap (option_map (λ (copy : CachedNode). copy.changed)) puts.put)

pub returns-clause-marked : goal.returns-clause-marked
returns-clause-marked g c =
    let found : (copy : CachedNode) × (cached_node c.args.self.now (c.args.level + 1) (c.args.index / arity c.args.self.now.geometry) ≡ Some copy) =
    held_copy (cached_node c.args.self.now (c.args.level + 1) (c.args.index / arity c.args.self.now.geometry)) c.keep_tag.ensures.held in
    ap (option_map (λ (copy : CachedNode). copy.changed)) (c.keep_tag.ensures.put found.0 found.1)

pub returns-clause-kept : goal.returns-clause-kept
returns-clause-kept g c =
    let found : (copy : CachedNode) × (cached_node c.args.self.now (c.args.level + 1) (c.args.index / arity c.args.self.now.geometry) ≡ Some copy) =
    held_copy (cached_node c.args.self.now (c.args.level + 1) (c.args.index / arity c.args.self.now.geometry)) c.keep_tag.ensures.held in
    kept_at (c.args.level + 1) (c.args.index / arity c.args.self.now.geometry) c.args.self.now c.keep_tag.new.self
    (record { block = with_tag c.args.self.now.geometry (slot c.args.self.now.geometry c.args.index) c.in_ok-tag.tag found.0.block; changed = true })
    (c.keep_tag.ensures.put found.0 found.1) (λ other at apart. ap (option_map copy_of) (c.keep_tag.ensures.same other at apart))

pub returns-in_err-reserve-clause-makes : goal.returns-in_err-reserve-clause-makes
returns-in_err-reserve-clause-makes g c =
    let stop : want_of c.from_residual.result ≡ Some NoMemory = search rules in (
      [],
      g.met.B.Bus.unmoved c.args.bus.now,
      rw stop
          (subst (λ (e : TagEngineView g.row.T.Denot). Makes (tags_of g.T.Tagger.data_tag_of g.T.Tagger.node_tag_of c.args.tags.now) (λ used. Unit {0}) (g.B.Bus.history c.args.bus.now) c.args.tags.now (g.B.Bus.history c.args.bus.now) e [] (Some NoMemory))
          (sym c.in_err-reserve.ensures.refused) (makes_refused (tags_of g.T.Tagger.data_tag_of g.T.Tagger.node_tag_of c.args.tags.now) (λ used. Unit {0}) (g.B.Bus.history c.args.bus.now) c.args.tags.now)),
    )

pub returns-in_err-tag-clause-makes : goal.returns-in_err-tag-clause-makes
returns-in_err-tag-clause-makes g c =
    let stop : want_of c.from_residual-in_err-tag.result ≡ Some NoMemory = search rules in
    let wrote = c.in_err-tag.ensures.makes in (
      [],
      wrote.0,
      rw stop
          (makes_taken g.T.Tagger.data_tag_of g.T.Tagger.node_tag_of (Node c.args.level c.args.index c.args.block.now) c.in_ok-reserve.ensures.taken c.in_err-tag.ensures.made wrote.1),
    )

pub returns-clause-makes : goal.returns-clause-makes
returns-clause-makes g c =
    let wrote = c.in_ok-tag.ensures.makes in
    let write : Access = access_of (tags_of g.T.Tagger.data_tag_of g.T.Tagger.node_tag_of c.reserve.new.self) (Node c.args.level c.args.index c.args.block.now) in (
      write ∷ [],
      wrote.0,
      makes_taken g.T.Tagger.data_tag_of g.T.Tagger.node_tag_of (Node c.args.level c.args.index c.args.block.now) c.in_ok-reserve.ensures.taken c.in_ok-tag.ensures.made wrote.1,
    )
