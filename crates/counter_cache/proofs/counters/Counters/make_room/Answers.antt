use Rattle.std.proofs.Common.{◌≡◌, List, Option, Some, None, ap, sym, ◌∙◌, rules}
use Rattle.std.specs.Option.{option_map}
use Rattle.std.specs.Result.{result_err}
use Rattle.std.proofs.lemmas.Option.{none-some}
use Rattle.sec_base.proofs.Results.{on_err}
use Rattle.cache_set.specs.declared.way.Way.{Way}
use Rattle.cache_set.specs.Bringing.{room_if}
use Rattle.cache_set.specs.Cache.{place_of, way_at}
use Rattle.checked_bus.proofs.Makes.{accesses_not}
use Rattle.bonsai_tree.specs.NodeCache.{copy_of}
use Rattle.bonsai_tree.specs.Tree.{IsNodeFrom}
use Rattle.counter_cache.specs.Counters.{CountersView}
use Rattle.counter_cache.proofs.BlockCopies.{blocks_left, victim_gone, victim_made}
use Rattle.counter_cache.proofs.Havings.{has_dropped, has_not, has_on}
use Rattle.counter_cache.proofs.counters.Counters.make_room.Goals as goal

pub returns-in_default-clause-has : goal.returns-in_default-clause-has
returns-in_default-clause-has g c = has_not g.T.Tagger.data_tag_of g.T.Tagger.node_tag_of (IsNodeFrom c.args.self.now.tree.geometry 1) c.args.self.now (g.B.Bus.history c.args.bus.now) c.args.tags.now

pub returns-in_err-write_back-clause-has : goal.returns-in_err-write_back-clause-has
returns-in_err-write_back-clause-has g c =
    let why = c.in_err-write_back.field-0.0 in
    let stop : result_err c.from_residual.result ≡ Some why = search rules in
    rw stop c.in_err-write_back.ensures.has

pub returns-clause-has : goal.returns-clause-has
returns-clause-has g c =
    let mid : CountersView = record { tree = c.self-2.inside.tree; blocks = c.self-2.inside.blocks } in
    let way : way_at c.self-2.inside.blocks c.in-Some.victim.place ≡ Some c.in-Some.victim =
    ap (λ (v : CountersView). way_at v.blocks c.in-Some.victim.place) c.self-2.view_is
    ∙ ap (λ (blocks : List (List Way)). way_at blocks c.in-Some.victim.place) c.in_ok-write_back.ensures.blocks
    ∙ ap (λ (v : CountersView). way_at v.blocks c.in-Some.victim.place) (sym c.self.view_is) ∙ c.in-Some.ensures.way in
    has_on g.T.Tagger.data_tag_of g.T.Tagger.node_tag_of (IsNodeFrom c.args.self.now.tree.geometry 1) c.args.self.now mid (record { tree = c.self-2.inside.tree; blocks = c.remove.new.self })
    (g.B.Bus.history c.args.bus.now) (g.B.Bus.history c.write_back.new.bus) (g.B.Bus.history c.write_back.new.bus) c.args.tags.now c.write_back.new.tags c.write_back.new.tags None
    (rw c.self-2.view_is c.in_ok-write_back.ensures.has)
    (has_dropped g.T.Tagger.data_tag_of g.T.Tagger.node_tag_of (IsNodeFrom c.args.self.now.tree.geometry 1) c.in-Some.victim.place mid c.remove.new.self
    (g.B.Bus.history c.write_back.new.bus) c.write_back.new.tags c.in-Some.victim
    (blocks_left c.self-2.inside.tree.geometry c.self-2.inside.blocks c.remove.new.self c.in-Some.victim.place c.self-2.invariant.blocks
    c.remove.ensures.cache c.remove.ensures.removed c.remove.ensures.same)
    way c.remove.ensures.removed c.remove.ensures.same
    (rw c.self-2.view_is c.in_ok-write_back.ensures.last))

pub returns-clause-room_for : goal.returns-clause-room_for
returns-clause-room_for g c = c.remove.ensures.room c.args.page c.in-Some.ensures.beside

pub invariant_of-self : goal.invariant_of-self
invariant_of-self g c =
    record {
      blocks = blocks_left c.self-2.inside.tree.geometry c.self-2.inside.blocks c.remove.new.self c.in-Some.victim.place c.self-2.invariant.blocks c.remove.ensures.cache
          c.remove.ensures.removed c.remove.ensures.same;
      few_nodes = c.self-2.invariant.few_nodes;
    }

pub returns-in_err-write_back-clause-idle : goal.returns-in_err-write_back-clause-idle
returns-in_err-write_back-clause-idle g c =
    rw (← c.self.view_is) (λ clean. c.write_back.ensures.idle
    (clean c.in-Some.victim.place (copy_of c.in-Some.victim) (ap (option_map place_of) (sym c.in-Some.ensures.victim)) (ap (option_map copy_of) c.in-Some.ensures.way)))

pub returns-clause-idle : goal.returns-clause-idle
returns-clause-idle g c =
    rw (← c.self.view_is) (λ clean. c.write_back.ensures.idle
    (clean c.in-Some.victim.place (copy_of c.in-Some.victim) (ap (option_map place_of) (sym c.in-Some.ensures.victim)) (ap (option_map copy_of) c.in-Some.ensures.way)))

pub returns-in_err-write_back-clause-written : goal.returns-in_err-write_back-clause-written
returns-in_err-write_back-clause-written g c =
    rw (← c.self.view_is) (victim_made (record { tree = c.self.inside.tree; blocks = c.self.inside.blocks }) c.args.page c.in-Some.victim c.args.tags.now.made c.write_back.new.tags.made
    (ap (option_map place_of) (sym c.in-Some.ensures.victim)) c.in-Some.ensures.way c.write_back.ensures.written)

pub returns-clause-written : goal.returns-clause-written
returns-clause-written g c =
    rw (← c.self.view_is) (victim_made (record { tree = c.self.inside.tree; blocks = c.self.inside.blocks }) c.args.page c.in-Some.victim c.args.tags.now.made c.write_back.new.tags.made
    (ap (option_map place_of) (sym c.in-Some.ensures.victim)) c.in-Some.ensures.way c.write_back.ensures.written)

-- a changed copy that is gone
pub returns-in_default-clause-gone : goal.returns-in_default-clause-gone
returns-in_default-clause-gone g c = λ other copy held changed gone. absurd (none-some copy (sym gone ∙ held))

pub returns-in_err-write_back-clause-gone : goal.returns-in_err-write_back-clause-gone
returns-in_err-write_back-clause-gone g c = λ other copy held changed gone.
    absurd (none-some copy (sym gone ∙ ap (λ (blocks : List (List Way)). option_map copy_of (way_at blocks other)) c.write_back.ensures.blocks ∙ held))

pub returns-clause-gone : goal.returns-clause-gone
returns-clause-gone g c =
    let blocks : c.self-2.inside.blocks ≡ c.args.self.now.blocks = ap (λ (v : CountersView). v.blocks) c.self-2.view_is ∙ c.write_back.ensures.blocks in
    rw (← c.self.view_is) (victim_gone (record { tree = c.self.inside.tree; blocks = c.self.inside.blocks }) c.remove.new.self c.args.page c.in-Some.victim c.args.tags.now.made
    c.write_back.new.tags.made (ap (option_map place_of) (sym c.in-Some.ensures.victim)) c.in-Some.ensures.way
    (λ other apart. c.remove.ensures.same other apart ∙ ap (λ (sets : List (List Way)). way_at sets other) (rw (← c.self.view_is) at blocks)) c.in_ok-write_back.ensures.made)

-- the copies of blocks
pub returns-in_default-clause-ways : goal.returns-in_default-clause-ways
returns-in_default-clause-ways g c =
    let is : c.victim.result ≡ None = search rules in
    rw (← c.self.view_is) (ap (λ (v : Option Way). room_if v c.self.inside.blocks) (sym is ∙ c.victim.ensures.victim))

pub returns-in_err-write_back-clause-ways_kept : goal.returns-in_err-write_back-clause-ways_kept
returns-in_err-write_back-clause-ways_kept g c = on_err c.from_residual.result c.in_err-write_back.ensures.blocks

pub returns-clause-ways : goal.returns-clause-ways
returns-clause-ways g c =
    let blocks : c.self-2.inside.blocks ≡ c.args.self.now.blocks = ap (λ (v : CountersView). v.blocks) c.self-2.view_is ∙ c.write_back.ensures.blocks in
    rw (← c.self.view_is)
    (c.remove.ensures.after ∙ ap (λ (sets : List (List Way)). room_if (Some c.in-Some.victim) sets) (rw (← c.self.view_is) at blocks)
    ∙ ap (λ (v : Option Way). room_if v c.self.inside.blocks) c.in-Some.ensures.victim)

-- its accesses
pub returns-in_default-clause-accesses : goal.returns-in_default-clause-accesses
returns-in_default-clause-accesses g c =
    accesses_not g.B.Bus.moved g.T.Tagger.data_tag_of g.T.Tagger.node_tag_of g.met.B.Bus.unmoved c.args.bus.now c.args.tags.now None (λ place is. cc)

pub returns-in_err-write_back-clause-accesses : goal.returns-in_err-write_back-clause-accesses
returns-in_err-write_back-clause-accesses g c =
    let why = c.in_err-write_back.field-0.0 in
    let stop : result_err c.from_residual.result ≡ Some why = search rules in
    rw stop c.in_err-write_back.ensures.accesses
