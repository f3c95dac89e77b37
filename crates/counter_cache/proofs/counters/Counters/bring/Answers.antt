use Rattle.std.proofs.Common.{◌≡◌, ◌≢◌, inl, inr, ◌<◌, ◌/◌, ℕ, List, Option, Some, None, Ok, Err, false, refl, ap, sym, ◌∙◌, subst, arith, rules}
use Rattle.std.specs.List.{Contains}
use Rattle.std.specs.Option.{option_map}
use Rattle.std.specs.Result.{result_err}
use Rattle.std.proofs.lemmas.Option.{none-some}
use Rattle.sec_base.specs.Geometry.{GeometryView, arity, page_count}
use Rattle.sec_base.specs.declared.evidence.Evidence.TheVariants.{Collision}
use Rattle.sec_base.specs.declared.message.Message.{Message}
use Rattle.sec_base.specs.declared.place.Place.TheVariants.{Node as node_place}
use Rattle.sec_base.proofs.Results.{was_none}
use Rattle.cache_set.specs.declared.way.Way.{Way}
use Rattle.cache_set.specs.Bringing.{with_new, with_room}
use Rattle.cache_set.specs.Cache.{way_at}
use Rattle.cache_set.proofs.Bringing.{brought_missed}
use Rattle.cache_set.proofs.Listed.{listed_at}
use Rattle.tag_engine.specs.TagEngine.{tags_of}
use Rattle.checked_bus.proofs.Makes.{accesses_not, accesses_on}
use Rattle.bonsai_tree.specs.Node.{CachedNode}
use Rattle.bonsai_tree.specs.NodeCache.{copy_of}
use Rattle.bonsai_tree.specs.Tree.{HoldsTree, IsFetchPlace, IsKept}
use Rattle.bonsai_tree.specs.TreeSteps.{TreeSteps}
use Rattle.bonsai_tree.proofs.Climbs.{unmade_before}
use Rattle.bonsai_tree.proofs.Nodes.{above_none, same_tags}
use Rattle.bonsai_tree.proofs.PathCalls.{not_from_one}
use Rattle.bonsai_tree.proofs.TreeMakes.{accesses_of}
use Rattle.bonsai_tree.proofs.Views.{latest_cached}
use Rattle.counter_cache.specs.Counters.{AreBlocks, AreCopies, CameFrom, CountersView, OnlyLeavingIsMade, cached_block, cached_pages}
use Rattle.counter_cache.specs.Having.{Has}
use Rattle.counter_cache.specs.HadCounters.{BlockHad}
use Rattle.counter_cache.proofs.BlockCopies.{blocks_put, blocks_same, cached_held, few_blocks, leaving_on, none_made_on}
use Rattle.counter_cache.proofs.Hads.{had_tagged, quiet_before}
use Rattle.counter_cache.proofs.Havings.{going, has_on, has_put, has_room, has_touched, has_tree, no_copy_below, path_on}
use Rattle.counter_cache.proofs.BlocksHad.{block_held, had_goes, had_stays}
use Rattle.counter_cache.proofs.BlocksMade.{blocks_came}
use Rattle.counter_cache.proofs.counters.Counters.bring.Goals as goal

-- where it has a copy
pub returns-then-touch-clause-had : goal.returns-then-touch-clause-had
returns-then-touch-clause-had g c =
    let was : CountersView = record { tree = c.self.inside.tree; blocks = c.self.inside.blocks } in
    let same : (page : ℕ) → cached_block (record { tree = c.self.inside.tree; blocks = c.touch.new.self }) page ≡ cached_block was page =
    λ page. ap (option_map copy_of) (c.if-touch.ensures.same page) in
    let own : Contains (cached_pages was) c.args.page = listed_at c.self.inside.blocks c.args.page (c.if-touch.ensures.held.0 refl) in
    let are = blocks_same c.self.inside.tree.geometry c.self.inside.blocks c.touch.new.self c.self.invariant.blocks c.if-touch.ensures.cache c.if-touch.ensures.same in
    rw (← c.self.view_is) (record {
      has = has_touched g.T.Tagger.data_tag_of g.T.Tagger.node_tag_of (IsFetchPlace c.self.inside.tree.geometry c.args.page) was c.touch.new.self (g.B.Bus.history c.args.bus.now) c.args.tags.now
          are c.if-touch.ensures.same;
      copies = record { blocks = are; few_nodes = c.self.invariant.few_nodes };
      few_blocks = few_blocks c.self.inside.tree.geometry c.touch.new.self are;
      blocks = block_held (tags_of g.T.Tagger.data_tag_of g.T.Tagger.node_tag_of c.args.tags.now) was (record { tree = c.self.inside.tree; blocks = c.touch.new.self })
          c.args.tags.now.made c.args.page c.args.tags.now.evidence (c.if-touch.ensures.held.0 refl) c.if-touch.ensures.after (c.if-touch.ensures.same c.args.page) (c.if-touch.ensures.latest refl);
      written = inl refl;
      gone = λ other copy held changed gone. absurd (none-some copy (sym gone ∙ same other ∙ held));
      blocks_came = λ holds quiet goes page held. inl (subst (λ (o : Option CachedNode). o ≢ None) (same page) held, refl);
      accepted = λ quiet made_at bytes tag is. refl;
      hit = λ cached. (refl, refl, refl, refl);
      parent = λ uncached goes. absurd (uncached own);
      path = λ holds quiet uncached goes. absurd (uncached own);
      alone = λ other apart. refl;
      block_once = omega arith;
      once = omega arith;
      once_clean = λ clean. omega arith;
      few = omega arith;
      room = omega arith;
    })

-- where no room is made
pub returns-in_err-make_room-clause-had : goal.returns-in_err-make_room-clause-had
returns-in_err-make_room-clause-had g c =
    let why = c.in_err-make_room.field-0.0 in
    let stop : result_err c.from_residual.result ≡ Some why = search rules in
    let was : CountersView = record { tree = c.self.inside.tree; blocks = c.touch.new.self } in
    let uncached : ¬ Contains (cached_pages was) c.args.page = λ cached.
    cached_held was c.args.page c.if-touch.ensures.cache cached (ap (option_map copy_of) (c.if-touch.ensures.absent refl)) in
    let e = c.in_err-make_room.ensures in
    let copies : AreCopies c.make_room.new.self = search rules in
    rw (← c.self.view_is, ← c.if-touch.ensures.unchanged refl, stop) (record {
      has = has_room g.T.Tagger.data_tag_of g.T.Tagger.node_tag_of c.args.page was c.make_room.new.self (g.B.Bus.history c.args.bus.now) (g.B.Bus.history c.make_room.new.bus) c.args.tags.now c.make_room.new.tags (Some why) e.has;
      copies = copies;
      few_blocks = few_blocks c.make_room.new.self.tree.geometry c.make_room.new.self.blocks copies.blocks;
      blocks = record { absent = c.if-touch.ensures.absent refl; left = inl e.ways_kept };
      written = e.written;
      gone = e.gone;
      blocks_came = λ holds quiet goes. absurd (cc);
      accepted = λ quiet made_at bytes tag is.
          absurd (not_from_one c.self.inside.tree.geometry c.args.page (node_place 0 c.args.page) refl (e.has.tree.found quiet (Collision 0 c.args.page made_at bytes tag) is));
      hit = λ cached. absurd (uncached cached);
      parent = λ uncached goes. absurd (cc);
      path = λ holds quiet uncached goes. absurd (cc);
      alone = λ other apart. e.no_block_read other;
      block_once = omega (arith, e.no_block_read c.args.page);
      once = omega (arith, e.once);
      once_clean = λ clean. e.once;
      few = omega (arith, e.few);
      room = omega (arith, e.room);
    })

-- where its block can't be fetched
pub invariant_of-self-in_err-block : goal.invariant_of-self-in_err-block
invariant_of-self-in_err-block g c = record {
  blocks = subst (λ (k : GeometryView). AreBlocks k c.self-2.inside.blocks) (sym c.fetch.ensures.geometry) c.self-2.invariant.blocks;
  few_nodes = c.fetch.ensures.called.steps.few_nodes c.self-2.invariant.few_nodes;
}

pub returns-in_err-block-clause-had : goal.returns-in_err-block-clause-had
returns-in_err-block-clause-had g c =
    let why = c.in_err-block.field-0.0 in
    let stop : result_err c.from_residual-in_err-block.result ≡ Some why = search rules in
    let was : CountersView = record { tree = c.self.inside.tree; blocks = c.touch.new.self } in
    let mid : CountersView = record { tree = c.self-2.inside.tree; blocks = c.self-2.inside.blocks } in
    let after : CountersView = record { tree = c.fetch.new.self; blocks = c.self-2.inside.blocks } in
    let uncached : ¬ Contains (cached_pages was) c.args.page = λ cached.
    cached_held was c.args.page c.if-touch.ensures.cache cached (ap (option_map copy_of) (c.if-touch.ensures.absent refl)) in
    let e = c.in_ok-make_room.ensures in
    let f = c.in_err-block.ensures in
    let room : Has (tags_of g.T.Tagger.data_tag_of g.T.Tagger.node_tag_of) (IsFetchPlace c.self.inside.tree.geometry c.args.page) was (g.B.Bus.history c.args.bus.now) c.args.tags.now mid (g.B.Bus.history c.make_room.new.bus) c.make_room.new.tags None =
    rw c.self-2.view_is
    (has_room g.T.Tagger.data_tag_of g.T.Tagger.node_tag_of c.args.page was c.make_room.new.self (g.B.Bus.history c.args.bus.now) (g.B.Bus.history c.make_room.new.bus) c.args.tags.now c.make_room.new.tags None e.has) in
    let levels : c.self-2.inside.tree.geometry.levels ≡ c.self.inside.tree.geometry.levels = ap (λ (k : GeometryView). k.levels) room.tree.geometry in
    let copies : AreCopies after = invariant_of-self-in_err-block g c in
    rw (← c.self.view_is, ← c.if-touch.ensures.unchanged refl, stop) (record {
      has =
          has_on g.T.Tagger.data_tag_of g.T.Tagger.node_tag_of (IsFetchPlace c.self.inside.tree.geometry c.args.page) was mid after
          (g.B.Bus.history c.args.bus.now) (g.B.Bus.history c.make_room.new.bus) (g.B.Bus.history c.fetch.new.bus) c.args.tags.now c.make_room.new.tags c.fetch.new.tags (Some why) room
          (has_tree g.T.Tagger.data_tag_of g.T.Tagger.node_tag_of (IsFetchPlace c.self.inside.tree.geometry c.args.page) mid c.fetch.new.self
          (g.B.Bus.history c.make_room.new.bus) (g.B.Bus.history c.fetch.new.bus) c.make_room.new.tags c.fetch.new.tags (Some why)
          (subst (λ (k : GeometryView). TreeSteps (tags_of g.T.Tagger.data_tag_of g.T.Tagger.node_tag_of) (IsFetchPlace k c.args.page) c.self-2.inside.tree (g.B.Bus.history c.make_room.new.bus) c.make_room.new.tags
          c.fetch.new.self (g.B.Bus.history c.fetch.new.bus) c.fetch.new.tags (Some why)) room.tree.geometry f.called.steps) (λ page unchanged. f.pages.last page));
      copies = copies;
      few_blocks = few_blocks c.fetch.new.self.geometry c.self-2.inside.blocks copies.blocks;
      blocks = record { absent = c.if-touch.ensures.absent refl; left = inr (ap (λ (v : CountersView). v.blocks) c.self-2.view_is ∙ e.ways) };
      written = none_made_on was c.args.page c.args.tags.now.made c.make_room.new.tags.made c.fetch.new.tags.made f.no_page e.written;
      gone = λ other copy held changed gone. leaving_on was c.args.page c.args.tags.now.made c.make_room.new.tags.made c.fetch.new.tags.made f.no_page
          (e.gone other copy held changed (ap (λ (v : CountersView). cached_block v other) (sym c.self-2.view_is) ∙ gone));
      blocks_came = λ holds quiet goes. absurd (cc);
      accepted = λ quiet made_at bytes tag is.
          let still = quiet_before c.self.inside.tree.geometry c.args.page c.make_room.new.tags.evidence c.fetch.new.tags.evidence (e.has.tree.found quiet)
          f.called.steps.moves.evidence made_at bytes tag is in
          let both : Ok bytes ≡ Err why = sym (c.fetch.ensures.accepted made_at bytes tag still is) ∙ c.in_err-block.was in absurd (cc);
      hit = λ cached. absurd (uncached cached);
      parent = λ uncached goes. absurd (cc);
      path = λ holds quiet uncached goes. absurd (cc);
      alone = λ other apart. f.alone other apart ∙ e.no_block_read other;
      block_once = omega (arith, f.block_once, e.no_block_read c.args.page);
      once = omega (arith, e.once, rw levels at f.called.once);
      once_clean = λ clean. omega (arith, e.idle clean, rw levels at f.called.once);
      few = omega (arith, e.few, rw levels at f.called.few);
      room = omega (arith, e.room, rw levels at f.called.room);
    })

-- where its block is fetched
pub invariant_of-self-3 : goal.invariant_of-self-3
invariant_of-self-3 g c =
    let geometry : c.self-2.inside.tree.geometry ≡ c.args.self.now.tree.geometry =
    ap (λ (v : CountersView). v.tree.geometry) c.self-2.view_is ∙ c.in_ok-make_room.ensures.has.tree.geometry ∙ ap (λ (v : CountersView). v.tree.geometry) c.self.view_is in
    record {
      blocks = blocks_put c.fetch.new.self.geometry c.self-2.inside.blocks c.put.new.self
          (subst (λ (k : GeometryView). AreBlocks k c.self-2.inside.blocks) (sym c.fetch.ensures.geometry) c.self-2.invariant.blocks) c.put.ensures.cache c.args.page c.in_ok-block.block false
          (subst (λ (k : GeometryView). c.args.page < page_count k) (sym (c.fetch.ensures.geometry ∙ geometry)) c.requires.page) (search rules) c.put.ensures.put c.put.ensures.same;
      few_nodes = c.fetch.ensures.called.steps.few_nodes c.self-2.invariant.few_nodes;
    }

pub returns-clause-had : goal.returns-clause-had
returns-clause-had g c =
    let was : CountersView = record { tree = c.self.inside.tree; blocks = c.touch.new.self } in
    let mid : CountersView = record { tree = c.self-2.inside.tree; blocks = c.self-2.inside.blocks } in
    let after : CountersView = record { tree = c.fetch.new.self; blocks = c.put.new.self } in
    let none : cached_block was c.args.page ≡ None = ap (option_map copy_of) (c.if-touch.ensures.absent refl) in
    let uncached : ¬ Contains (cached_pages was) c.args.page = λ cached. cached_held was c.args.page c.if-touch.ensures.cache cached none in
    let e = c.in_ok-make_room.ensures in
    let f = c.in_ok-block.ensures in
    let room : Has (tags_of g.T.Tagger.data_tag_of g.T.Tagger.node_tag_of) (IsFetchPlace c.self.inside.tree.geometry c.args.page) was (g.B.Bus.history c.args.bus.now) c.args.tags.now mid (g.B.Bus.history c.make_room.new.bus) c.make_room.new.tags None =
    rw c.self-2.view_is
    (has_room g.T.Tagger.data_tag_of g.T.Tagger.node_tag_of c.args.page was c.make_room.new.self (g.B.Bus.history c.args.bus.now) (g.B.Bus.history c.make_room.new.bus) c.args.tags.now c.make_room.new.tags None e.has) in
    let levels : c.self-2.inside.tree.geometry.levels ≡ c.self.inside.tree.geometry.levels = ap (λ (k : GeometryView). k.levels) room.tree.geometry in
    let blocks : c.self-2.inside.blocks ≡ with_room c.touch.new.self c.args.page = ap (λ (v : CountersView). v.blocks) c.self-2.view_is ∙ e.ways in
    let copies : AreCopies after = invariant_of-self-3 g c in
    let has : Has (tags_of g.T.Tagger.data_tag_of g.T.Tagger.node_tag_of) (IsFetchPlace c.self.inside.tree.geometry c.args.page) was (g.B.Bus.history c.args.bus.now) c.args.tags.now after (g.B.Bus.history c.fetch.new.bus) c.fetch.new.tags None =
    has_on g.T.Tagger.data_tag_of g.T.Tagger.node_tag_of (IsFetchPlace c.self.inside.tree.geometry c.args.page) was mid after
    (g.B.Bus.history c.args.bus.now) (g.B.Bus.history c.make_room.new.bus) (g.B.Bus.history c.fetch.new.bus) c.args.tags.now c.make_room.new.tags c.fetch.new.tags None room
    (has_put g.T.Tagger.data_tag_of g.T.Tagger.node_tag_of (IsFetchPlace c.self.inside.tree.geometry c.args.page) c.args.page mid c.fetch.new.self c.put.new.self
    (g.B.Bus.history c.make_room.new.bus) (g.B.Bus.history c.fetch.new.bus) c.make_room.new.tags c.fetch.new.tags c.in_ok-block.block
    (subst (λ (k : GeometryView). TreeSteps (tags_of g.T.Tagger.data_tag_of g.T.Tagger.node_tag_of) (IsFetchPlace k c.args.page) c.self-2.inside.tree (g.B.Bus.history c.make_room.new.bus) c.make_room.new.tags
    c.fetch.new.self (g.B.Bus.history c.fetch.new.bus) c.fetch.new.tags None) room.tree.geometry f.called.steps) f.pages.last f.block (inl refl)
    (λ holds quiet. subst (λ (page : ℕ). CameFrom c.make_room.new.tags.made (g.B.Bus.history c.make_room.new.bus) (g.B.Bus.history c.fetch.new.bus) page)
    (above_none c.self-2.inside.tree.geometry c.args.page)
    ((f.read holds quiet).rose 0 (omega arith) (omega arith) (λ lower from_zero few. no_copy_below c.self-2.inside.tree lower c.args.page few)))
    copies.blocks (ap (λ (v : CountersView). way_at v.blocks c.args.page) c.self-2.view_is ∙ e.absent) c.put.ensures.put c.put.ensures.same) in
    let had : BlockHad (tags_of g.T.Tagger.data_tag_of g.T.Tagger.node_tag_of c.args.tags.now) was after c.fetch.new.tags.made c.args.page c.args.tags.now.evidence c.fetch.new.tags.evidence =
    record {
      bytes = c.in_ok-block.block;
      copied = ap (option_map (λ (way : Way). way.copy)) c.put.ensures.put;
      latest = c.put.ensures.latest;
      had =
          had_tagged (tags_of g.T.Tagger.data_tag_of g.T.Tagger.node_tag_of c.args.tags.now) was after c.fetch.new.tags.made c.args.page c.args.tags.now.evidence c.fetch.new.tags.evidence c.in_ok-block.block none
          (subst (λ (t : Message → List ℕ). IsKept t c.fetch.new.self c.fetch.new.tags.made 0 c.args.page c.in_ok-block.block)
          (same_tags g.T.Tagger.data_tag_of g.T.Tagger.node_tag_of (g.B.Bus.history c.args.bus.now) (g.B.Bus.history c.make_room.new.bus) c.args.tags.now c.make_room.new.tags e.has.tree.moves)
          f.checked)
          (λ quiet made_at shown tag is.
          let still = quiet_before c.self.inside.tree.geometry c.args.page c.make_room.new.tags.evidence c.fetch.new.tags.evidence (e.has.tree.found quiet)
          f.called.steps.moves.evidence made_at shown tag is in
          let both : Ok c.in_ok-block.block ≡ Ok shown = sym c.in_ok-block.was ∙ c.fetch.ensures.accepted made_at shown tag still is in
          let same_block : c.in_ok-block.block ≡ shown = cc in same_block);
      brought_is =
          c.put.ensures.after ∙ ap (λ (sets : List (List Way)). with_new sets c.args.page c.in_ok-block.block) blocks
          ∙ brought_missed c.touch.new.self c.args.page c.in_ok-block.block (c.if-touch.ensures.absent refl);
    } in
    let written : OnlyLeavingIsMade was c.args.page c.args.tags.now.made c.fetch.new.tags.made =
    none_made_on was c.args.page c.args.tags.now.made c.make_room.new.tags.made c.fetch.new.tags.made f.no_page e.written in
    rw (← c.self.view_is, ← c.if-touch.ensures.unchanged refl) (record {
      has = has;
      copies = copies;
      few_blocks = few_blocks c.fetch.new.self.geometry c.put.new.self copies.blocks;
      blocks = had;
      written = written;
      gone = λ other copy held changed gone.
          let apart : other ≢ c.args.page = λ same.
          none-some (record { block = c.in_ok-block.block; changed = false }) (sym gone ∙ ap (λ (p : ℕ). cached_block after p) same ∙ ap (option_map copy_of) c.put.ensures.put) in
          leaving_on was c.args.page c.args.tags.now.made c.make_room.new.tags.made c.fetch.new.tags.made f.no_page
          (e.gone other copy held changed
          (ap (λ (v : CountersView). cached_block v other) (sym c.self-2.view_is) ∙ sym (ap (option_map copy_of) (c.put.ensures.same other apart)) ∙ gone));
      blocks_came = λ holds quiet goes.
          blocks_came was after c.args.page c.args.tags.now.made c.fetch.new.tags.made has.tree.moves.more
          (g.B.Bus.history c.args.bus.now) (g.B.Bus.history c.fetch.new.bus) written has.tree.moves.made none
          (had_goes (tags_of g.T.Tagger.data_tag_of g.T.Tagger.node_tag_of c.args.tags.now) was after c.fetch.new.tags.made c.args.page c.args.tags.now.evidence c.fetch.new.tags.evidence c.if-touch.ensures.cache had)
          (had_stays (tags_of g.T.Tagger.data_tag_of g.T.Tagger.node_tag_of c.args.tags.now) was after c.fetch.new.tags.made c.args.page c.args.tags.now.evidence c.fetch.new.tags.evidence c.if-touch.ensures.cache had)
          (λ held. elim (has.copied holds quiet c.args.page held) [
            | inl before ↦ inl before
            | inr came ↦ inr came.1
          ]);
      accepted = λ quiet made_at bytes tag is. refl;
      hit = λ cached. absurd (uncached cached);
      parent = λ outside goes. latest_cached c.fetch.new.self 1 (c.args.page / arity c.self.inside.tree.geometry) (rw room.tree.geometry at f.parent);
      path = λ holds quiet outside goes.
          let still : c.make_room.new.tags.evidence ≡ None = was_none c.make_room.new.tags.evidence c.fetch.new.tags.evidence f.called.steps.moves.evidence quiet in
          path_on c.self.inside.tree c.self-2.inside.tree c.args.page c.args.tags.now.made c.make_room.new.tags.made (g.B.Bus.history c.args.bus.now) (g.B.Bus.history c.make_room.new.bus) (g.B.Bus.history c.fetch.new.bus)
          room.tree.geometry room.tree.moves.reads f.called.steps.moves.reads (room.tree.read holds.tree still)
          (unmade_before c.args.tags.now.made c.make_room.new.tags.made room.tree.moves.more room.tree.moves.made) (f.read (room.holds holds going).tree quiet);
      alone = λ other apart. f.alone other apart ∙ e.no_block_read other;
      block_once = omega (arith, f.block_once, e.no_block_read c.args.page);
      once = omega (arith, e.once, rw levels at f.called.once);
      once_clean = λ clean. omega (arith, e.idle clean, rw levels at f.called.once);
      few = omega (arith, e.few, rw levels at f.called.few);
      room = omega (arith, e.room, rw levels at f.called.room);
    })

-- its accesses
pub returns-then-touch-clause-accesses : goal.returns-then-touch-clause-accesses
returns-then-touch-clause-accesses g c =
    accesses_not g.B.Bus.moved g.T.Tagger.data_tag_of g.T.Tagger.node_tag_of g.met.B.Bus.unmoved c.args.bus.now c.args.tags.now None (λ place is. cc)

pub returns-in_err-make_room-clause-accesses : goal.returns-in_err-make_room-clause-accesses
returns-in_err-make_room-clause-accesses g c =
    let why = c.in_err-make_room.field-0.0 in
    let stop : result_err c.from_residual.result ≡ Some why = search rules in
    rw stop c.in_err-make_room.ensures.accesses

pub returns-in_err-block-clause-accesses : goal.returns-in_err-block-clause-accesses
returns-in_err-block-clause-accesses g c =
    let e = c.in_ok-make_room.ensures in
    let f = c.in_err-block.ensures in
    let why = c.in_err-block.field-0.0 in
    let stop : result_err c.from_residual-in_err-block.result ≡ Some why = search rules in
    rw stop
    (accesses_on g.B.Bus.moved g.T.Tagger.data_tag_of g.T.Tagger.node_tag_of g.met.B.Bus.moved_on c.args.bus.now c.make_room.new.bus c.fetch.new.bus c.args.tags.now c.make_room.new.tags c.fetch.new.tags (Some why)
    e.has.tree.moves.geometry e.has.tree.moves.tagger f.called.steps.moves.evidence e.accesses
    (accesses_of g.B.Bus.moved (tags_of g.T.Tagger.data_tag_of g.T.Tagger.node_tag_of c.make_room.new.tags) (λ used. HoldsTree (tags_of g.T.Tagger.data_tag_of g.T.Tagger.node_tag_of) c.self-2.inside.tree (g.B.Bus.history c.make_room.new.bus) c.make_room.new.tags)
    c.make_room.new.bus c.fetch.new.bus (g.B.Bus.history c.make_room.new.bus) (g.B.Bus.history c.fetch.new.bus) c.make_room.new.tags c.fetch.new.tags (Some why) f.makes))

pub returns-clause-accesses : goal.returns-clause-accesses
returns-clause-accesses g c =
    let e = c.in_ok-make_room.ensures in
    let f = c.in_ok-block.ensures in
    accesses_on g.B.Bus.moved g.T.Tagger.data_tag_of g.T.Tagger.node_tag_of g.met.B.Bus.moved_on c.args.bus.now c.make_room.new.bus c.fetch.new.bus c.args.tags.now c.make_room.new.tags c.fetch.new.tags None
    e.has.tree.moves.geometry e.has.tree.moves.tagger f.called.steps.moves.evidence e.accesses
    (accesses_of g.B.Bus.moved (tags_of g.T.Tagger.data_tag_of g.T.Tagger.node_tag_of c.make_room.new.tags) (λ used. HoldsTree (tags_of g.T.Tagger.data_tag_of g.T.Tagger.node_tag_of) c.self-2.inside.tree (g.B.Bus.history c.make_room.new.bus) c.make_room.new.tags)
    c.make_room.new.bus c.fetch.new.bus (g.B.Bus.history c.make_room.new.bus) (g.B.Bus.history c.fetch.new.bus) c.make_room.new.tags c.fetch.new.tags None f.makes)
