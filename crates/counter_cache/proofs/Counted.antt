-- The counters of all pages, once a write was counted by the copy of a page.
use Rattle.std.proofs.Common.{◌≡◌, ◌≢◌, ◌⊎◌, inl, inr, ℕ, List, Option, Some, None, Result, Ok, Err, Contains, IsSome, true, refl, ap, sym, ◌∙◌, subst}
use Rattle.std.specs.Option.{option_map}
use Rattle.std.specs.Result.{result_err}
use Rattle.std.proofs.lemmas.Bool.{cases_eq}
use Rattle.sec_base.specs.LastMessage.{last_node}
use Rattle.sec_base.specs.declared.message.Message.{Message}
use Rattle.sec_base.specs.declared.stop.MemStop.{MemStop}
use Rattle.cache_set.specs.declared.way.Way.{Way}
use Rattle.cache_set.specs.Bringing.{with_changed}
use Rattle.cache_set.specs.Cache.{way_at}
use Rattle.cache_set.proofs.Bringing.{changed_marked, changed_same}
use Rattle.bus_model.specs.BusHistory.{BusHistory}
use Rattle.tag_engine.specs.TagEngine.{TagEngineView, tags_of}
use Rattle.split_counter.specs.declared.bumped.Bumped.{Bumped}
use Rattle.split_counter.specs.declared.bumped.Bumped.TheVariants.{Line, Page, Spent}
use Rattle.split_counter.specs.CounterBlock.{CounterBlockView, after_bump, block_bytes, block_of, bumped, counter_of}
use Rattle.bonsai_tree.specs.Node.{CachedNode, current_of}
use Rattle.bonsai_tree.specs.NodeCache.{copy_of}
use Rattle.bonsai_tree.specs.Tree.{HoldsTree, TreeView}
use Rattle.bonsai_tree.proofs.Views.{some_copy}
use Rattle.counter_cache.specs.Counters.{AreCopies, CountersView, HoldsCounters, block_sets, cached_block, cached_pages, counters_in}
use Rattle.counter_cache.specs.HadCounters.{HadCounters, IsBumped, IsCounted, counted}
use Rattle.counter_cache.proofs.BlockCopies.{cached_held, held_cached}
use Rattle.counter_cache.proofs.Blocks.{counters_of_copy}
use Rattle.counter_cache.proofs.Havings.{holds_changed}

-- the page's copy is changed, unless the line is spent
pub changed_unless : (outcome : Bumped) (blocks : List (List Way)) (page : ℕ) (copy : List ℕ) → outcome ≢ Spent →
    with_changed blocks page copy ≡ counted outcome blocks page copy
changed_unless (Line counter) blocks page copy unspent = refl
changed_unless (Page next) blocks page copy unspent = refl
changed_unless Spent blocks page copy unspent = absurd (unspent refl)

pub unchanged_if : (outcome : Bumped) (blocks : List (List Way)) (page : ℕ) (copy : List ℕ) → outcome ≡ Spent →
    blocks ≡ counted outcome blocks page copy
unchanged_if outcome blocks page copy spent = ap (λ (o : Bumped). counted o blocks page copy) (sym spent)

-- nothing was counted, since the call stopped
pub bumped_not : {T : Type 0} (tags : TagEngineView T → Message → List ℕ) (counters : CountersView) (old : BusHistory) (engine : TagEngineView T)
    (counters' : CountersView) (new : BusHistory) (engine' : TagEngineView T) (page place limit : ℕ) (result : Result Bumped MemStop) (stop : MemStop) →
    result_err result ≡ Some stop → HadCounters tags counters old engine counters' new engine' page (Some stop) →
    IsBumped tags counters old engine counters' new engine' page place limit result
bumped_not tags counters old engine counters' new engine' page place limit (Ok outcome) stop is had = absurd (cc)
bumped_not tags counters old engine counters' new engine' page place limit (Err why) stop is had = record {
  middle = counters';
  had = subst (λ (s : Option MemStop). HadCounters tags counters old engine counters' new engine' page s) (sym is) had;
  counted = refl;
}

-- What holds of the counters after a write was counted

marked_or_same : (outcome : Bumped) (blocks : List (List Way)) (page : ℕ) (copy : List ℕ) →
    (counted outcome blocks page copy ≡ with_changed blocks page copy) ⊎ (counted outcome blocks page copy ≡ blocks)
marked_or_same (Line counter) blocks page copy = inl refl
marked_or_same (Page next) blocks page copy = inl refl
marked_or_same Spent blocks page copy = inr refl

module _ (counters counters' : CountersView) (page place limit : ℕ) (outcome : Bumped) (is : IsCounted counters counters' page place limit outcome)
    (before : AreCopies counters) (after : AreCopies counters') where
  abbrev own_after : List ℕ
  own_after = block_bytes (after_bump place limit (block_of is.bytes)).1

  either : (counters'.blocks ≡ with_changed counters.blocks page own_after) ⊎ (counters'.blocks ≡ counters.blocks)
  either = elim (marked_or_same outcome counters.blocks page own_after) [
    | inl marked ↦ inl (is.blocks_are ∙ marked)
    | inr same ↦ inr (is.blocks_are ∙ same)
  ]

  way_other : (other : ℕ) → other ≢ page → way_at counters'.blocks other ≡ way_at counters.blocks other
  way_other other apart = elim either [
    | inl marked ↦ ap (λ (sets : List (List Way)). way_at sets other) marked ∙ changed_same block_sets counters.blocks before.blocks.cache page own_after other apart
    | inr same ↦ ap (λ (sets : List (List Way)). way_at sets other) same
  ]

  -- the copies of all other pages stay
  pub counted_other : (other : ℕ) → other ≢ page → cached_block counters' other ≡ cached_block counters other
  counted_other other apart = ap (option_map copy_of) (way_other other apart)

  some_copied : (found : Option Way) → option_map (λ (way : Way). way.copy) found ≡ Some is.bytes → IsSome found
  some_copied None there = absurd (cc)
  some_copied (Some way) there = refl

  -- the page has one
  pub counted_held : cached_block counters page ≢ None
  counted_held = some_copy (way_at counters.blocks page) (some_copied (way_at counters.blocks page) is.copied)

  -- no page has one that had none
  pub counted_fewer : (other : ℕ) → cached_block counters' other ≢ None → cached_block counters other ≢ None
  counted_fewer other held = elim (cases_eq other page) [
    | inr apart ↦ subst (λ (o : Option CachedNode). o ≢ None) (counted_other other apart) held
    | inl here ↦ subst (λ (p : ℕ). cached_block counters p ≢ None) (sym here) counted_held
  ]

  pub counted_cached : Contains (cached_pages counters') page
  counted_cached = held_cached counters' page (λ none. elim either [
    | inl marked ↦
        let put : cached_block counters' page ≡ Some (record { block = own_after; changed = true }) =
        ap (λ (sets : List (List Way)). option_map copy_of (way_at sets page)) marked
        ∙ ap (option_map copy_of) (changed_marked block_sets counters.blocks before.blocks.cache page own_after) in
        let both : None ≡ Some (record { block = own_after; changed = true }) = sym none ∙ put in absurd (cc)
    | inr same ↦ counted_held (sym (ap (λ (sets : List (List Way)). option_map copy_of (way_at sets page)) same) ∙ none)
  ])

  pub counted_pages : (other : ℕ) → Contains (cached_pages counters') other → Contains (cached_pages counters) other
  counted_pages other cached = held_cached counters other (counted_fewer other (cached_held counters' other after.blocks.cache cached))

  -- it came to what the page's counters and the limit say, and these are the ones after it
  pub counted_outcome : (made : List Message) → outcome ≡ bumped limit (counter_of place (counters_in counters made page))
  counted_outcome made =
      is.comes ∙ ap (λ (b : CounterBlockView). bumped limit (counter_of place b)) (sym (counters_of_copy counters made page is.bytes is.copied))

  pub counted_now : (made : List Message) → counters_in counters' made page ≡ (after_bump place limit (counters_in counters made page)).1
  counted_now made =
      is.counters_are made ∙ ap (λ (b : CounterBlockView). (after_bump place limit b).1) (sym (counters_of_copy counters made page is.bytes is.copied))

  pub counted_others : (made : List Message) (other : ℕ) → other ≢ page → counters_in counters' made other ≡ counters_in counters made other
  counted_others made other apart = ap (λ (o : Option CachedNode). block_of (current_of o (last_node 0 other made))) (counted_other other apart)

  -- what holds, holds still
  pub counted_holds : {T : Type 0} (d n : T → List ℕ → List ℕ) (history : BusHistory) (engine : TagEngineView T) →
      HoldsCounters (tags_of d n) counters history engine → HoldsCounters (tags_of d n) counters' history engine
  counted_holds d n history engine holds = elim either [
    | inl marked ↦
        holds_changed d n counters counters' history engine page own_after is.tree
        (ap (λ (sets : List (List Way)). option_map copy_of (way_at sets page)) marked
        ∙ ap (option_map copy_of) (changed_marked block_sets counters.blocks before.blocks.cache page own_after)) counted_other holds
    | inr same ↦ record {
      tree = subst (λ (t : TreeView). HoldsTree (tags_of d n) t history engine) (sym is.tree) holds.tree;
      clean = λ quiet other copy found.
          holds.clean quiet other copy (sym (ap (λ (sets : List (List Way)). option_map copy_of (way_at sets other)) same) ∙ found);
    }
  ]
