use Rattle.std.proofs.Common.{◌≡◌, ◌≢◌, ◌<◌, ℕ, List, length, true, refl, ap, sym, ◌∙◌, subst, rules}
use Rattle.std.specs.Option.{option_map}
use Rattle.sec_base.specs.Geometry.{page_count}
use Rattle.cache_set.specs.declared.way.Way.{Way}
use Rattle.cache_set.specs.Cache.{IsLatest, copy_at}
use Rattle.split_counter.specs.declared.bumped.Bumped.TheVariants.{Line, Spent}
use Rattle.split_counter.specs.CounterBlock.{CounterBlockView, IsCounterBlock, after_bump, block_bytes, block_of, bumped, counter_of}
use Rattle.counter_cache.specs.Counters.{CountersView}
use Rattle.counter_cache.specs.HadCounters.{counted}
use Rattle.counter_cache.proofs.BlockCopies.{blocks_put, latest_cached, pages_inside}
use Rattle.counter_cache.proofs.Blocks.{counters_of_copy}
use Rattle.counter_cache.proofs.Counted.{changed_unless, unchanged_if}
use Rattle.counter_cache.proofs.Rising.{bumped_at_least, line_within, page_within}
use Rattle.counter_cache.proofs.counters.Counters.count.Goals as goal

pub returns-then-eq-clause-counted : goal.returns-then-eq-clause-counted
returns-then-eq-clause-counted c =
    let spent : c.bump-outcome.result ≡ Spent = search rules in
    record {
      bytes = c.latest.result.now;
      copied = ap (λ (v : CountersView). copy_at v.blocks c.args.page) (sym c.self.view_is) ∙ c.latest.ensures;
      comes = c.bump-outcome.ensures.outcome ∙ ap (λ (b : CounterBlockView). bumped c.args.limit (counter_of c.args.place b)) c.from_bytes-block.ensures.counters;
      blocks_are =
          unchanged_if c.bump-outcome.result c.args.self.now.blocks c.args.page (block_bytes (after_bump c.args.place c.args.limit (block_of c.latest.result.now)).1)
          spent;
      rises =
          (bumped_at_least c.args.place c.args.limit (block_of c.latest.result.now) (after_bump c.args.place c.args.limit (block_of c.latest.result.now)).1
          (subst IsCounterBlock c.from_bytes-block.ensures.counters c.from_bytes-block.ensures.is_block) refl).at_least;
      counters_are = λ made.
          counters_of_copy c.args.self.now made c.args.page c.latest.result.now
          (ap (λ (v : CountersView). copy_at v.blocks c.args.page) (sym c.self.view_is) ∙ c.latest.ensures)
          ∙ sym c.from_bytes-block.ensures.counters ∙ sym (c.bump-outcome.ensures.spent_stays spent) ∙ c.bump-outcome.ensures.counters
          ∙ ap (λ (b : CounterBlockView). (after_bump c.args.place c.args.limit b).1) c.from_bytes-block.ensures.counters;
      tree = refl;
    }

pub invariant_of-self : goal.invariant_of-self
invariant_of-self c =
    let long : length c.to_bytes.result ≡ 64 = search rules in
    let latest : IsLatest c.self.inside.blocks c.args.page = subst (λ (v : CountersView). IsLatest v.blocks c.args.page) (sym c.self.view_is) c.requires.latest in
    let inside : c.args.page < page_count c.self.inside.tree.geometry =
    pages_inside c.self.inside.tree.geometry c.self.inside.tree.geometry c.self.inside.blocks refl c.self.invariant.blocks c.args.page
    (latest_cached (record { tree = c.self.inside.tree; blocks = c.self.inside.blocks }) c.args.page latest) in
    record {
      blocks = blocks_put c.self.inside.tree.geometry c.self.inside.blocks c.change.new.self c.self.invariant.blocks c.change.ensures.cache c.args.page c.to_bytes.result true
          inside long c.change.ensures.changed c.change.ensures.same;
      few_nodes = c.self.invariant.few_nodes;
    }

pub returns-clause-copies : goal.returns-clause-copies
returns-clause-copies c = invariant_of-self c

pub returns-clause-counted : goal.returns-clause-counted
returns-clause-counted c =
    let unspent : c.bump-outcome.result ≢ Spent = search rules in
    let after : c.to_bytes.result ≡ block_bytes (after_bump c.args.place c.args.limit (block_of c.latest.result.now)).1 =
    c.to_bytes.ensures.bytes ∙ ap (λ (b : CounterBlockView). block_bytes b) c.bump-outcome.ensures.counters
    ∙ ap (λ (b : CounterBlockView). block_bytes (after_bump c.args.place c.args.limit b).1) c.from_bytes-block.ensures.counters in
    record {
      bytes = c.latest.result.now;
      copied = ap (λ (v : CountersView). copy_at v.blocks c.args.page) (sym c.self.view_is) ∙ c.latest.ensures;
      comes = c.bump-outcome.ensures.outcome ∙ ap (λ (b : CounterBlockView). bumped c.args.limit (counter_of c.args.place b)) c.from_bytes-block.ensures.counters;
      blocks_are =
          c.change.ensures.after
          ∙ changed_unless c.bump-outcome.result c.self.inside.blocks c.args.page c.to_bytes.result unspent
          ∙ ap (λ (copy : List ℕ). counted c.bump-outcome.result c.self.inside.blocks c.args.page copy) after
          ∙ ap (λ (v : CountersView). counted c.bump-outcome.result v.blocks c.args.page (block_bytes (after_bump c.args.place c.args.limit (block_of c.latest.result.now)).1))
          c.self.view_is;
      rises =
          (bumped_at_least c.args.place c.args.limit (block_of c.latest.result.now) (after_bump c.args.place c.args.limit (block_of c.latest.result.now)).1
          (subst IsCounterBlock c.from_bytes-block.ensures.counters c.from_bytes-block.ensures.is_block) refl).at_least;
      counters_are = λ made.
          counters_of_copy (record { tree = c.self.inside.tree; blocks = c.change.new.self }) made c.args.page c.to_bytes.result
          (ap (option_map (λ (way : Way). way.copy)) c.change.ensures.changed)
          ∙ c.to_bytes.ensures.read_back ∙ c.bump-outcome.ensures.counters
          ∙ ap (λ (b : CounterBlockView). (after_bump c.args.place c.args.limit b).1) c.from_bytes-block.ensures.counters;
      tree = ap (λ (v : CountersView). v.tree) c.self.view_is;
    }

pub returns-clause-line : goal.returns-clause-line
returns-clause-line c = λ counter is.
    let unspent : c.bump-outcome.result ≢ Spent = λ (spent : c.bump-outcome.result ≡ Spent). let both : Line counter ≡ Spent = sym is ∙ spent in absurd (cc) in
    let within = line_within c.args.place c.from_bytes-block.result c.bump-outcome.new.self counter c.bump-outcome.ensures.is_block c.requires.place
    (c.bump-outcome.ensures.line counter is) (c.bump-outcome.ensures.page_stays counter is) (c.bump-outcome.ensures.next unspent) in
    record { written = within.0; line = within.1; page = within.2 }

pub returns-clause-overflow : goal.returns-clause-overflow
returns-clause-overflow c = λ next is.
    page_within c.args.limit next (counter_of c.args.place c.from_bytes-block.result) (sym c.bump-outcome.ensures.outcome ∙ is)
