use Rattle.std.proofs.Common.{◌≡◌, List, [], Option, ap, ◌∙◌}
use Rattle.std.specs.Option.{option_map}
use Rattle.sec_base.specs.LastMessage.{last_node}
use Rattle.sec_base.specs.declared.message.Message.{Message}
use Rattle.cache_set.specs.declared.way.Way.{Way}
use Rattle.tag_engine.specs.TagEngine.{TagEngineView}
use Rattle.split_counter.specs.CounterBlock.{block_of}
use Rattle.bonsai_tree.specs.Node.{current_of, page_block}
use Rattle.bonsai_tree.specs.NodeCache.{copy_of}
use Rattle.counter_cache.proofs.Blocks.{none_are_new}
use Rattle.counter_cache.proofs.counters.Counters.boot.Goals as goal

pub returns-clause-zeros : goal.returns-clause-zeros
returns-clause-zeros g c = λ page inside.
    let none : c.boot.new.tags.made ≡ [] = ap (λ (engine : TagEngineView g.row.T.Denot). engine.made) c.in_ok-tree.ensures.tags ∙ c.requires.nothing_made in
    ap (λ (o : Option Way). block_of (current_of (option_map copy_of o) (last_node 0 page c.boot.new.tags.made))) (c.in_ok-blocks.ensures.none page)
    ∙ ap (λ (made : List Message). block_of (page_block page made)) none
    ∙ none_are_new page
