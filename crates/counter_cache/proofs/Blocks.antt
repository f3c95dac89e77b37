-- The counters that a page's current block spells.
use Rattle.std.proofs.Common.{◌≡◌, ℕ, List, [], Option, Some, None, refl, ap}
use Rattle.std.specs.Option.{option_map}
use Rattle.sec_base.specs.declared.message.Message.{Message}
use Rattle.sec_base.specs.LastMessage.{last_at, last_node}
use Rattle.cache_set.specs.declared.way.Way.{Way}
use Rattle.cache_set.specs.Cache.{copy_at, way_at}
use Rattle.split_counter.specs.Digits.{digits_of, number_of}
use Rattle.split_counter.specs.CounterBlock.{block_of, new_block}
use Rattle.bonsai_tree.specs.Node.{current_of, page_block}
use Rattle.bonsai_tree.specs.NodeCache.{copy_of}
use Rattle.counter_cache.specs.Counters.{CountersView, counters_in}

-- where nothing was made, all counters are 0
pub none_are_new : (page : ℕ) → block_of (page_block page []) ≡ new_block
unfolding block_of digits_of number_of last_at
none_are_new page = refl

copy_is_current : (found : Option Way) (last : Option (List ℕ)) (bytes : List ℕ) → option_map (λ way. way.copy) found ≡ Some bytes →
    current_of (option_map copy_of found) last ≡ bytes
copy_is_current None last bytes is = absurd (cc)
copy_is_current (Some way) last bytes is = let same : way.copy ≡ bytes = cc in same

-- the counters of a page that has a copy
pub counters_of_copy : (counters : CountersView) (made : List Message) (page : ℕ) (bytes : List ℕ) → copy_at counters.blocks page ≡ Some bytes →
    counters_in counters made page ≡ block_of bytes
counters_of_copy counters made page bytes is =
    ap (λ (b : List ℕ). block_of b) (copy_is_current (way_at counters.blocks page) (last_node 0 page made) bytes is)
