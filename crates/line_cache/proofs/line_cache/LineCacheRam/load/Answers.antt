use Rattle.std.proofs.Common.{◌≡◌, ◌∙◌, ℕ, ◌%◌, ◌/◌, List, Some, IsSome, Contains, refl, sym, ap, subst}
use Rattle.sec_base.specs.Width.{number_at}
use Rattle.cache_set.specs.Bringing.{brought}
use Rattle.cache_set.specs.Cache.{copy_at}
use Rattle.cache_set.proofs.Bringing.{brought_held, not_listed}
use Rattle.cache_set.proofs.Listed.{listed_at}
use Rattle.line_cache.specs.LineCache.{IsStep, LineCacheView, contents, held_lines, line_sets, stopped}
use Rattle.line_cache.proofs.Lines.{over_touched}
use Rattle.line_cache.proofs.Numbers.{as_before, copy_of_number, read_over}
use Rattle.line_cache.proofs.Steps.{copy_touched, step_hit}
use Rattle.line_cache.proofs.line_cache.LineCacheRam.load.Goals as goal

-- a line that is held

pub returns-in-Some-clause-value : goal.returns-in-Some-clause-value
returns-in-Some-clause-value g c = λ still sound.
    let copy = copy_of_number (copy_at c.self.inside.lines (c.args.addr / 64)) (λ bytes. number_at bytes (c.args.addr % 64) c.args.width) c.in-Some.value
    (sym c.in-Some.is ∙ c.read.ensures.value) in
    read_over (g.S.LineStore.contents c.self.inside.store) (g.S.LineStore.extent c.self.inside.store) c.self.inside.lines c.args.addr c.args.width
    c.self.invariant.copies c.requires.aligned copy.0 copy.1 c.in-Some.value copy.2
    ∙ ap (λ (m : LineCacheView g.row.S.Denot). number_at (contents g.S.LineStore.contents g.S.LineStore.extent m) c.args.addr c.args.width) c.self.view_is

pub returns-in-Some-clause-contents : goal.returns-in-Some-clause-contents
returns-in-Some-clause-contents g c = λ still sound.
    over_touched (g.S.LineStore.contents c.self.inside.store) (g.S.LineStore.extent c.self.inside.store) c.self.inside.lines c.read.new.self c.read.ensures.same
    ∙ ap (contents g.S.LineStore.contents g.S.LineStore.extent) c.self.view_is

pub returns-in-Some-clause-moved : goal.returns-in-Some-clause-moved
returns-in-Some-clause-moved g c = (
  record { store = c.self.inside.store; lines = c.read.new.self; stop = c.self.inside.stop },
  subst (λ (m : LineCacheView g.row.S.Denot). IsStep g.S.LineStore.read_moved g.S.LineStore.write_moved m (c.args.addr / 64)
      (record { store = c.self.inside.store; lines = c.read.new.self; stop = c.self.inside.stop })) c.self.view_is
      (step_hit g.S.LineStore.read_moved g.S.LineStore.write_moved
      (record { store = c.self.inside.store; lines = c.self.inside.lines; stop = c.self.inside.stop })
      (record { store = c.self.inside.store; lines = c.read.new.self; stop = c.self.inside.stop }) (c.args.addr / 64)
      c.self.invariant.copies.cache c.read.ensures.cache (c.read.ensures.held.0 (subst IsSome (sym c.in-Some.is) refl)) refl c.read.ensures.same),
  refl,
)

pub returns-in-Some-clause-missed : goal.returns-in-Some-clause-missed
returns-in-Some-clause-missed g c = λ out.
    absurd (out (subst (λ (m : LineCacheView g.row.S.Denot). Contains (held_lines m) (c.args.addr / 64)) c.self.view_is
    (listed_at c.self.inside.lines (c.args.addr / 64) (c.read.ensures.held.0 (subst IsSome (sym c.in-Some.is) refl)))))

pub returns-in-Some-clause-ways : goal.returns-in-Some-clause-ways
returns-in-Some-clause-ways g c =
    let line = c.args.addr / 64 in
    let copy = copy_of_number (copy_at c.self.inside.lines line) (λ bytes. number_at bytes (c.args.addr % 64) c.args.width) c.in-Some.value
    (sym c.in-Some.is ∙ c.read.ensures.value) in (
      copy.0,
      copy_touched c.self.inside.lines c.read.new.self line copy.0 (c.read.ensures.same line) copy.1,
      subst (λ (m : LineCacheView g.row.S.Denot). c.read.new.self ≡ brought m.lines line copy.0) c.self.view_is
          (c.read.ensures.after ∙ brought_held c.self.inside.lines line copy.0 (c.read.ensures.held.0 (subst IsSome (sym c.in-Some.is) refl))),
    )

-- a line that is not, and does not come

pub returns-in_err-bring-clause-moved : goal.returns-in_err-bring-clause-moved
returns-in_err-bring-clause-moved g c = (
  c.bring.new.self,
  subst (λ (m : LineCacheView g.row.S.Denot). IsStep g.S.LineStore.read_moved g.S.LineStore.write_moved m (c.args.addr / 64) c.bring.new.self)
      (as_before c.self.inside.store c.self.inside.stop c.self.inside.lines c.read.new.self c.args.self.now (c.read.ensures.unchanged c.in_default.is) c.self.view_is)
      c.in_err-bring.ensures.moved,
  refl,
)

pub returns-in_err-bring-clause-hit : goal.returns-in_err-bring-clause-hit
returns-in_err-bring-clause-hit g c = λ held.
    absurd (not_listed line_sets c.read.new.self (c.args.addr / 64) c.read.ensures.cache (c.read.ensures.absent c.in_default.is)
    (subst (λ (m : LineCacheView g.row.S.Denot). Contains (held_lines m) (c.args.addr / 64))
    (sym (as_before c.self.inside.store c.self.inside.stop c.self.inside.lines c.read.new.self c.args.self.now (c.read.ensures.unchanged c.in_default.is) c.self.view_is)) held))

-- it comes

pub returns-clause-value : goal.returns-clause-value
returns-clause-value g c = λ still sound.
    let same = as_before c.self.inside.store c.self.inside.stop c.self.inside.lines c.read.new.self c.args.self.now (c.read.ensures.unchanged c.in_default.is) c.self.view_is in
    read_over (g.S.LineStore.contents c.self-2.inside.store) (g.S.LineStore.extent c.self-2.inside.store) c.self-2.inside.lines c.args.addr c.args.width
    c.self-2.invariant.copies c.requires.aligned c.latest.result.now c.latest.ensures c.read-2.result c.read-2.ensures.value
    ∙ ap (λ (bytes : List ℕ). number_at bytes c.args.addr c.args.width)
    (ap (contents g.S.LineStore.contents g.S.LineStore.extent) c.self-2.view_is
    ∙ (c.in_ok-bring.ensures.contents (ap (stopped g.S.LineStore.stopped) same ∙ still) sound ∙ ap (contents g.S.LineStore.contents g.S.LineStore.extent) same))

pub returns-clause-moved : goal.returns-clause-moved
returns-clause-moved g c = (
  c.bring.new.self,
  subst (λ (m : LineCacheView g.row.S.Denot). IsStep g.S.LineStore.read_moved g.S.LineStore.write_moved m (c.args.addr / 64) c.bring.new.self)
      (as_before c.self.inside.store c.self.inside.stop c.self.inside.lines c.read.new.self c.args.self.now (c.read.ensures.unchanged c.in_default.is) c.self.view_is)
      c.in_ok-bring.ensures.moved,
  refl,
)

pub returns-clause-hit : goal.returns-clause-hit
returns-clause-hit g c = λ held.
    absurd (not_listed line_sets c.read.new.self (c.args.addr / 64) c.read.ensures.cache (c.read.ensures.absent c.in_default.is)
    (subst (λ (m : LineCacheView g.row.S.Denot). Contains (held_lines m) (c.args.addr / 64))
    (sym (as_before c.self.inside.store c.self.inside.stop c.self.inside.lines c.read.new.self c.args.self.now (c.read.ensures.unchanged c.in_default.is) c.self.view_is)) held))

pub returns-clause-ways : goal.returns-clause-ways
returns-clause-ways g c =
    let line = c.args.addr / 64 in
    let same = as_before c.self.inside.store c.self.inside.stop c.self.inside.lines c.read.new.self c.args.self.now (c.read.ensures.unchanged c.in_default.is) c.self.view_is in
    let is : copy_at c.bring.new.self.lines line ≡ Some c.latest.result.now =
    ap (λ (m : LineCacheView g.row.S.Denot). copy_at m.lines line) (sym c.self-2.view_is) ∙ c.latest.ensures in (
      c.latest.result.now,
      is,
      c.in_ok-bring.ensures.ways c.latest.result.now is
          ∙ ap (λ (m : LineCacheView g.row.S.Denot). brought m.lines line c.latest.result.now) same,
    )
