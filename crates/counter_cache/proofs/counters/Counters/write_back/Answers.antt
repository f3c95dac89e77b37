use Rattle.std.proofs.Common.{◌≡◌, inl, inr, ℕ, Some, None, true, false, ap, ◌∙◌, subst, rules}
use Rattle.std.specs.Option.{option_map}
use Rattle.std.specs.Result.{result_err}
use Rattle.std.proofs.lemmas.Bool.{cases_eq}
use Rattle.std.proofs.lemmas.Result.{on_ok_weaker}
use Rattle.cache_set.specs.Cache.{way_at}
use Rattle.tag_engine.specs.TagEngine.{tags_of}
use Rattle.bonsai_tree.specs.NodeCache.{copy_of}
use Rattle.checked_bus.proofs.Makes.{accesses_not}
use Rattle.bonsai_tree.specs.Tree.{HoldsTree, IsNodeFrom}
use Rattle.bonsai_tree.proofs.TreeMakes.{accesses_of}
use Rattle.counter_cache.specs.Counters.{CountersView, cached_block}
use Rattle.counter_cache.specs.Having.{Has}
use Rattle.counter_cache.proofs.Havings.{has_not, has_tree, over}
use Rattle.counter_cache.proofs.counters.Counters.write_back.Goals as goal

pub returns-then-not-victim-clause-has : goal.returns-then-not-victim-clause-has
returns-then-not-victim-clause-has g c = has_not g.T.Tagger.data_tag_of g.T.Tagger.node_tag_of (IsNodeFrom c.args.self.now.tree.geometry 1) c.args.self.now (g.B.Bus.history c.args.bus.now) c.args.tags.now

pub returns-clause-has : goal.returns-clause-has
returns-clause-has g c =
    subst (λ (v : CountersView). Has (tags_of g.T.Tagger.data_tag_of g.T.Tagger.node_tag_of) (IsNodeFrom v.tree.geometry 1) v (g.B.Bus.history c.args.bus.now) c.args.tags.now (over c.update.new.self (record { tree = c.self.inside.tree; blocks = c.self.inside.blocks }))
    (g.B.Bus.history c.update.new.bus) c.update.new.tags (result_err c.update.result)) c.self.view_is
    (has_tree g.T.Tagger.data_tag_of g.T.Tagger.node_tag_of (IsNodeFrom c.self.inside.tree.geometry 1) (record { tree = c.self.inside.tree; blocks = c.self.inside.blocks }) c.update.new.self (g.B.Bus.history c.args.bus.now) (g.B.Bus.history c.update.new.bus) c.args.tags.now c.update.new.tags (result_err c.update.result)
    c.update.ensures.called.steps
    (λ page unchanged. elim (cases_eq page c.args.victim.now.place) [
      | inr apart ↦ c.update.ensures.others page apart
      | inl here ↦
          let held : way_at c.self.inside.blocks c.args.victim.now.place ≡ Some c.args.victim.now =
          ap (λ (v : CountersView). way_at v.blocks c.args.victim.now.place) c.self.view_is ∙ c.requires.held in
          let still : c.args.victim.now.changed ≡ false =
          unchanged (copy_of c.args.victim.now) (ap (λ (p : ℕ). cached_block (record { tree = c.self.inside.tree; blocks = c.self.inside.blocks }) p) here ∙ ap (option_map copy_of) held) in
          let changed : c.args.victim.now.changed ≡ true = search rules in
          absurd (cc)
    ]))

pub returns-then-not-victim-clause-last : goal.returns-then-not-victim-clause-last
returns-then-not-victim-clause-last g c = λ holds quiet.
    let unchanged : c.args.victim.now.changed ≡ false = search rules in
    holds.clean quiet c.args.victim.now.place (copy_of c.args.victim.now) (ap (option_map copy_of) c.requires.held) unchanged

pub returns-clause-written : goal.returns-clause-written
returns-clause-written g c =
    let changed : c.args.victim.now.changed ≡ true = search rules in
    elim c.update.ensures.one_at_most [
      | inl same ↦ inl same
      | inr one ↦ inr (changed, one)
    ]

pub returns-then-not-victim-clause-made : goal.returns-then-not-victim-clause-made
returns-then-not-victim-clause-made g c = λ changed.
    let unchanged : c.args.victim.now.changed ≡ false = search rules in
    absurd (cc)

pub returns-clause-made : goal.returns-clause-made
returns-clause-made g c = on_ok_weaker c.update.result (λ one changed. one) c.update.ensures.one_page

-- its accesses
pub returns-then-not-victim-clause-accesses : goal.returns-then-not-victim-clause-accesses
returns-then-not-victim-clause-accesses g c =
    accesses_not g.B.Bus.moved g.T.Tagger.data_tag_of g.T.Tagger.node_tag_of g.met.B.Bus.unmoved c.args.bus.now c.args.tags.now None (λ place is. cc)

pub returns-clause-accesses : goal.returns-clause-accesses
returns-clause-accesses g c =
    accesses_of g.B.Bus.moved (tags_of g.T.Tagger.data_tag_of g.T.Tagger.node_tag_of c.args.tags.now) (λ used. HoldsTree (tags_of g.T.Tagger.data_tag_of g.T.Tagger.node_tag_of) c.self.inside.tree (g.B.Bus.history c.args.bus.now) c.args.tags.now)
    c.args.bus.now c.update.new.bus (g.B.Bus.history c.args.bus.now) (g.B.Bus.history c.update.new.bus) c.args.tags.now c.update.new.tags (result_err c.update.result) c.update.ensures.makes
