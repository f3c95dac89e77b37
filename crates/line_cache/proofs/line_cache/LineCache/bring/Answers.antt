use Rattle.std.proofs.Common.{◌≡◌, ◌∙◌, ◌<◌, Some, None, sym, ap, subst}
use Rattle.std.specs.Option.{option_or}
use Rattle.sec_base.specs.Lines.{IsLineCount}
use Rattle.cache_set.specs.Cache.{way_at}
use Rattle.cache_set.specs.Bringing.{brought, leaving}
use Rattle.line_cache.specs.LineCache.{IsMissed, IsStep, IsStoppedMiss, LineCacheView, contents, stopped}
use Rattle.cache_set.proofs.Bringing.{brought_missed}
use Rattle.line_cache.proofs.Steps.{both_none, none_of_both, step_miss, stop_first, stop_kept}
use Rattle.line_cache.proofs.line_cache.LineCache.bring.Goals as goal

pub fetch-requires-clause-inside : goal.fetch-requires-clause-inside
fetch-requires-clause-inside g c = subst (λ (m : LineCacheView g.row.S.Denot). c.args.line < g.S.LineStore.extent m.store) (sym c.self.view_is) c.requires.inside

pub fetch-requires-clause-absent : goal.fetch-requires-clause-absent
fetch-requires-clause-absent g c = ap (λ (m : LineCacheView g.row.S.Denot). way_at m.lines c.args.line) c.self.view_is ∙ c.requires.absent

pub invariant_of-self : goal.invariant_of-self
invariant_of-self g c = record {
  some_memory = subst IsLineCount (sym c.in-Ok.ensures.extent) c.self.invariant.some_memory;
  copies = c.in-Ok.ensures.copies;
  clean = λ still sound.
      let none = none_of_both c.self.inside.stop (g.S.LineStore.stopped c.fetch.new.store) still in
      let was : g.S.LineStore.stopped c.self.inside.store ≡ None = sym c.in-Ok.ensures.goes_on ∙ none.1 in
      c.in-Ok.ensures.clean was sound
      (c.self.invariant.clean (both_none c.self.inside.stop (g.S.LineStore.stopped c.self.inside.store) none.0 was) (c.in-Ok.ensures.lost sound));
}

pub invariant_of-self-in-Err : goal.invariant_of-self-in-Err
invariant_of-self-in-Err g c = record {
  some_memory = subst IsLineCount (sym c.in-Err.ensures.extent) c.self.invariant.some_memory;
  copies = c.in-Err.ensures.copies;
  clean = λ still sound. absurd (stop_kept c.self.inside.stop c.or-self-inside.result (g.S.LineStore.stopped c.fetch.new.store) c.in-Err.stop c.or-self-inside.ensures still);
}

pub returns-in-Ok-clause-contents : goal.returns-in-Ok-clause-contents
returns-in-Ok-clause-contents g c = λ still sound.
    let still_is : stopped g.S.LineStore.stopped (record { store = c.self.inside.store; lines = c.self.inside.lines; stop = c.self.inside.stop }) ≡ None =
    ap (stopped g.S.LineStore.stopped) c.self.view_is ∙ still in
    let none = none_of_both c.self.inside.stop (g.S.LineStore.stopped c.self.inside.store) still_is in
    c.in-Ok.ensures.contents none.1 sound
    (c.self.invariant.clean still_is (c.in-Ok.ensures.lost sound))
    ∙ ap (contents g.S.LineStore.contents g.S.LineStore.extent) c.self.view_is

pub returns-in-Ok-clause-goes_on : goal.returns-in-Ok-clause-goes_on
returns-in-Ok-clause-goes_on g c =
    ap (option_or c.self.inside.stop) c.in-Ok.ensures.goes_on
    ∙ ap (stopped g.S.LineStore.stopped) c.self.view_is

pub returns-in-Ok-clause-extent : goal.returns-in-Ok-clause-extent
returns-in-Ok-clause-extent g c = c.in-Ok.ensures.extent ∙ ap (λ (m : LineCacheView g.row.S.Denot). g.S.LineStore.extent m.store) c.self.view_is

pub returns-in-Ok-clause-lost : goal.returns-in-Ok-clause-lost
returns-in-Ok-clause-lost g c = λ sound. subst (λ (m : LineCacheView g.row.S.Denot). g.S.LineStore.sound m.store) c.self.view_is (c.in-Ok.ensures.lost sound)

pub returns-in-Ok-clause-moved : goal.returns-in-Ok-clause-moved
returns-in-Ok-clause-moved g c =
    let none : way_at c.self.inside.lines c.args.line ≡ None =
    ap (λ (m : LineCacheView g.row.S.Denot). way_at m.lines c.args.line) c.self.view_is ∙ c.requires.absent in
    subst (λ (m : LineCacheView g.row.S.Denot). IsStep g.S.LineStore.read_moved g.S.LineStore.write_moved m c.args.line
    (record { store = c.fetch.new.store; lines = c.fetch.new.lines; stop = c.self.inside.stop })) c.self.view_is
    (step_miss g.S.LineStore.read_moved g.S.LineStore.write_moved
    (record { store = c.self.inside.store; lines = c.self.inside.lines; stop = c.self.inside.stop })
    (record { store = c.fetch.new.store; lines = c.fetch.new.lines; stop = c.self.inside.stop }) c.args.line
    c.self.invariant.copies.cache c.in-Ok.ensures.copies.cache none
    (λ bytes. bytes) None
    c.in-Ok.ensures.missed c.in-Ok.ensures.others)

pub returns-in-Ok-clause-ways : goal.returns-in-Ok-clause-ways
returns-in-Ok-clause-ways g c = λ copy is.
    let none : way_at c.self.inside.lines c.args.line ≡ None =
    ap (λ (m : LineCacheView g.row.S.Denot). way_at m.lines c.args.line) c.self.view_is ∙ c.requires.absent in
    subst (λ (m : LineCacheView g.row.S.Denot). c.fetch.new.lines ≡ brought m.lines c.args.line copy) c.self.view_is
    (c.in-Ok.ensures.ways copy is ∙ brought_missed c.self.inside.lines c.args.line copy none)

pub returns-in-Err-clause-contents : goal.returns-in-Err-clause-contents
returns-in-Err-clause-contents g c = λ still sound.
    let still_is : stopped g.S.LineStore.stopped (record { store = c.self.inside.store; lines = c.self.inside.lines; stop = c.self.inside.stop }) ≡ None =
    ap (stopped g.S.LineStore.stopped) c.self.view_is ∙ still in
    let none = none_of_both c.self.inside.stop (g.S.LineStore.stopped c.self.inside.store) still_is in
    c.in-Err.ensures.contents none.1 sound
    (c.self.invariant.clean still_is (c.in-Err.ensures.lost sound))
    ∙ ap (contents g.S.LineStore.contents g.S.LineStore.extent) c.self.view_is

pub returns-in-Err-clause-stops : goal.returns-in-Err-clause-stops
returns-in-Err-clause-stops g c = λ still.
    let still_is : stopped g.S.LineStore.stopped (record { store = c.self.inside.store; lines = c.self.inside.lines; stop = c.self.inside.stop }) ≡ None =
    ap (stopped g.S.LineStore.stopped) c.self.view_is ∙ still in
    stop_first c.self.inside.stop c.or-self-inside.result (g.S.LineStore.stopped c.fetch.new.store) c.in-Err.stop c.or-self-inside.ensures
    (none_of_both c.self.inside.stop (g.S.LineStore.stopped c.self.inside.store) still_is).0

pub returns-in-Err-clause-answered : goal.returns-in-Err-clause-answered
returns-in-Err-clause-answered g c = λ still.
    c.in-Err.ensures.stops (ap (λ (m : LineCacheView g.row.S.Denot). g.S.LineStore.stopped m.store) c.self.view_is ∙ still)

pub returns-in-Err-clause-extent : goal.returns-in-Err-clause-extent
returns-in-Err-clause-extent g c = c.in-Err.ensures.extent ∙ ap (λ (m : LineCacheView g.row.S.Denot). g.S.LineStore.extent m.store) c.self.view_is

pub returns-in-Err-clause-lost : goal.returns-in-Err-clause-lost
returns-in-Err-clause-lost g c = λ sound. subst (λ (m : LineCacheView g.row.S.Denot). g.S.LineStore.sound m.store) c.self.view_is (c.in-Err.ensures.lost sound)

pub returns-in-Err-clause-moved : goal.returns-in-Err-clause-moved
returns-in-Err-clause-moved g c =
    let none : way_at c.self.inside.lines c.args.line ≡ None =
    ap (λ (m : LineCacheView g.row.S.Denot). way_at m.lines c.args.line) c.self.view_is ∙ c.requires.absent in
    subst (λ (m : LineCacheView g.row.S.Denot). IsStep g.S.LineStore.read_moved g.S.LineStore.write_moved m c.args.line
    (record { store = c.fetch.new.store; lines = c.fetch.new.lines; stop = c.or-self-inside.result })) c.self.view_is
    (step_miss g.S.LineStore.read_moved g.S.LineStore.write_moved
    (record { store = c.self.inside.store; lines = c.self.inside.lines; stop = c.self.inside.stop })
    (record { store = c.fetch.new.store; lines = c.fetch.new.lines; stop = c.or-self-inside.result }) c.args.line
    c.self.invariant.copies.cache c.in-Err.ensures.copies.cache none
    (λ bytes. bytes) (Some c.in-Err.stop)
    c.in-Err.ensures.missed c.in-Err.ensures.others)

pub returns-in-Err-clause-ways_left : goal.returns-in-Err-clause-ways_left
returns-in-Err-clause-ways_left g c =
    subst (λ (m : LineCacheView g.row.S.Denot). IsStoppedMiss g.S.LineStore.read_moved g.S.LineStore.write_moved (leaving m.lines c.args.line) m.lines m.store c.args.line
    c.in-Err.stop c.fetch.new.lines c.fetch.new.store) c.self.view_is
    c.in-Err.ensures.ways_left

pub returns-in-Ok-clause-missed : goal.returns-in-Ok-clause-missed
returns-in-Ok-clause-missed g c =
    subst (λ (m : LineCacheView g.row.S.Denot). IsMissed g.S.LineStore.read_moved g.S.LineStore.write_moved m.lines m.store c.args.line (λ bytes. bytes) None
    c.fetch.new.lines c.fetch.new.store) c.self.view_is
    c.in-Ok.ensures.missed

pub returns-in-Err-clause-missed : goal.returns-in-Err-clause-missed
returns-in-Err-clause-missed g c =
    subst (λ (m : LineCacheView g.row.S.Denot). IsMissed g.S.LineStore.read_moved g.S.LineStore.write_moved m.lines m.store c.args.line (λ bytes. bytes) (Some c.in-Err.stop)
    c.fetch.new.lines c.fetch.new.store) c.self.view_is
    c.in-Err.ensures.missed
