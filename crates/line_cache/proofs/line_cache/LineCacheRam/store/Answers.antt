use Rattle.std.proofs.Common.{rules, ◌≡◌, ◌∙◌, ℕ, ◌+◌, ◌≤◌, ◌%◌, ◌/◌, List, Some, Contains, refl, sym, ap, subst}
use Rattle.sec_base.specs.Width.{width_bytes, with_number}
use Rattle.cache_set.specs.declared.way.Way.{Way}
use Rattle.cache_set.specs.Bringing.{brought, with_changed}
use Rattle.cache_set.specs.Cache.{IsLatest, copy_at, set_at}
use Rattle.cache_set.proofs.Bringing.{changed_held, not_listed}
use Rattle.cache_set.proofs.Listed.{listed_at}
use Rattle.cache_set.proofs.Ways.{latest_found}
use Rattle.line_cache.specs.LineCache.{IsStep, LineCacheView, contents, held_lines, line_sets, stopped}
use Rattle.line_cache.proofs.Numbers.{as_before, clean_put, copies_put, written_over}
use Rattle.line_cache.proofs.Steps.{step_changed, step_hit}
use Rattle.line_cache.proofs.line_cache.LineCacheRam.store.Goals as goal

-- a line that is held

pub invariant_of-self : goal.invariant_of-self
invariant_of-self g c =
    let put = c.write.ensures.after c.if-write.true in
    let within : c.args.addr % 64 + width_bytes c.args.width ≤ 64 = search rules in
    let stored = g.S.LineStore.contents c.self.inside.store in
    let count = g.S.LineStore.extent c.self.inside.store in
    record {
      some_memory = c.self.invariant.some_memory;
      copies = copies_put stored count c.self.inside.lines c.args.addr c.args.width c.self.invariant.copies c.requires.aligned put.0 put.1
          c.args.value within c.write.new.self c.write.ensures.cache (c.write.ensures.changed c.if-write.true put.0 put.1) c.write.ensures.same;
      clean = λ still sound. clean_put stored count c.self.inside.lines c.args.addr c.args.width c.self.invariant.copies c.requires.aligned put.0 put.1
          c.args.value within c.write.new.self c.write.ensures.cache (c.write.ensures.changed c.if-write.true put.0 put.1) c.write.ensures.same
          (c.self.invariant.clean still sound);
    }

pub returns-then-write-clause-stored : goal.returns-then-write-clause-stored
returns-then-write-clause-stored g c = λ still sound.
    let put = c.write.ensures.after c.if-write.true in
    let within : c.args.addr % 64 + width_bytes c.args.width ≤ 64 = search rules in
    written_over (g.S.LineStore.contents c.self.inside.store) (g.S.LineStore.extent c.self.inside.store) c.self.inside.lines c.args.addr c.args.width
    c.self.invariant.copies c.requires.aligned put.0 put.1
    c.args.value within c.write.new.self c.write.ensures.cache (c.write.ensures.changed c.if-write.true put.0 put.1) c.write.ensures.same
    ∙ ap (λ (m : LineCacheView g.row.S.Denot). with_number (contents g.S.LineStore.contents g.S.LineStore.extent m) c.args.addr c.args.width c.args.value) c.self.view_is

pub returns-then-write-clause-moved : goal.returns-then-write-clause-moved
returns-then-write-clause-moved g c =
    let before : LineCacheView g.row.S.Denot = record { store = c.self.inside.store; lines = c.self.inside.lines; stop = c.self.inside.stop } in
    let after : LineCacheView g.row.S.Denot = record { store = c.self.inside.store; lines = c.write.new.self; stop = c.self.inside.stop } in (
      after,
      subst (λ (m : LineCacheView g.row.S.Denot). IsStep g.S.LineStore.read_moved g.S.LineStore.write_moved m (c.args.addr / 64) after) c.self.view_is
          (step_changed g.S.LineStore.read_moved g.S.LineStore.write_moved before before after (c.args.addr / 64) refl c.write.ensures.cache
          (step_hit g.S.LineStore.read_moved g.S.LineStore.write_moved before before (c.args.addr / 64)
          c.self.invariant.copies.cache c.self.invariant.copies.cache (c.write.ensures.held.0 c.if-write.true) refl (λ other. refl))
          c.write.ensures.same),
      refl,
    )

pub returns-then-write-clause-missed : goal.returns-then-write-clause-missed
returns-then-write-clause-missed g c = λ out.
    absurd (out (subst (λ (m : LineCacheView g.row.S.Denot). Contains (held_lines m) (c.args.addr / 64)) c.self.view_is
    (listed_at c.self.inside.lines (c.args.addr / 64) (c.write.ensures.held.0 c.if-write.true))))

pub returns-then-write-clause-ways : goal.returns-then-write-clause-ways
returns-then-write-clause-ways g c =
    let put = c.write.ensures.after c.if-write.true in
    let line = c.args.addr / 64 in
    let copy' = with_number put.0 (c.args.addr % 64) c.args.width c.args.value in (
      put.0,
      subst (λ (m : LineCacheView g.row.S.Denot). c.write.new.self ≡ with_changed (brought m.lines line put.0) line copy') c.self.view_is
          (put.2 ∙ sym (changed_held line_sets c.self.inside.lines line put.0 copy' c.self.invariant.copies.cache (c.write.ensures.held.0 c.if-write.true))),
    )

-- a line that is not, and does not come

pub returns-in_err-bring-clause-moved : goal.returns-in_err-bring-clause-moved
returns-in_err-bring-clause-moved g c = (
  c.bring.new.self,
  subst (λ (m : LineCacheView g.row.S.Denot). IsStep g.S.LineStore.read_moved g.S.LineStore.write_moved m (c.args.addr / 64) c.bring.new.self)
      (as_before c.self.inside.store c.self.inside.stop c.self.inside.lines c.write.new.self c.args.self.now (c.write.ensures.unchanged c.if-write.false) c.self.view_is)
      c.in_err-bring.ensures.moved,
  refl,
)

pub returns-in_err-bring-clause-hit : goal.returns-in_err-bring-clause-hit
returns-in_err-bring-clause-hit g c = λ held.
    absurd (not_listed line_sets c.write.new.self (c.args.addr / 64) c.write.ensures.cache (c.write.ensures.absent c.if-write.false)
    (subst (λ (m : LineCacheView g.row.S.Denot). Contains (held_lines m) (c.args.addr / 64))
    (sym (as_before c.self.inside.store c.self.inside.stop c.self.inside.lines c.write.new.self c.args.self.now (c.write.ensures.unchanged c.if-write.false) c.self.view_is)) held))

-- it comes

pub invariant_of-self-3 : goal.invariant_of-self-3
invariant_of-self-3 g c =
    let latest = subst (λ (m : LineCacheView g.row.S.Denot). IsLatest m.lines (c.args.addr / 64)) (sym c.self-2.view_is) c.in_ok-bring.ensures.latest in
    let is_there = c.write-2.ensures.held.1 (latest_found (c.args.addr / 64) (set_at c.self-2.inside.lines (c.args.addr / 64)) latest) in
    let put = c.write-2.ensures.after is_there in
    let within : c.args.addr % 64 + width_bytes c.args.width ≤ 64 = search rules in
    let stored = g.S.LineStore.contents c.self-2.inside.store in
    let count = g.S.LineStore.extent c.self-2.inside.store in
    record {
      some_memory = c.self-2.invariant.some_memory;
      copies = copies_put stored count c.self-2.inside.lines c.args.addr c.args.width c.self-2.invariant.copies c.requires.aligned put.0 put.1
          c.args.value within c.write-2.new.self c.write-2.ensures.cache (c.write-2.ensures.changed is_there put.0 put.1) c.write-2.ensures.same;
      clean = λ still sound. clean_put stored count c.self-2.inside.lines c.args.addr c.args.width c.self-2.invariant.copies c.requires.aligned put.0 put.1
          c.args.value within c.write-2.new.self c.write-2.ensures.cache (c.write-2.ensures.changed is_there put.0 put.1) c.write-2.ensures.same
          (c.self-2.invariant.clean still sound);
    }

pub returns-clause-stored : goal.returns-clause-stored
returns-clause-stored g c = λ still sound.
    let same = as_before c.self.inside.store c.self.inside.stop c.self.inside.lines c.write.new.self c.args.self.now (c.write.ensures.unchanged c.if-write.false) c.self.view_is in
    let latest = subst (λ (m : LineCacheView g.row.S.Denot). IsLatest m.lines (c.args.addr / 64)) (sym c.self-2.view_is) c.in_ok-bring.ensures.latest in
    let is_there = c.write-2.ensures.held.1 (latest_found (c.args.addr / 64) (set_at c.self-2.inside.lines (c.args.addr / 64)) latest) in
    let put = c.write-2.ensures.after is_there in
    let within : c.args.addr % 64 + width_bytes c.args.width ≤ 64 = search rules in
    let sound_is : g.S.LineStore.sound c.bring.new.self.store = subst (λ (m : LineCacheView g.row.S.Denot). g.S.LineStore.sound m.store) c.self-2.view_is sound in
    written_over (g.S.LineStore.contents c.self-2.inside.store) (g.S.LineStore.extent c.self-2.inside.store) c.self-2.inside.lines c.args.addr c.args.width
    c.self-2.invariant.copies c.requires.aligned put.0 put.1
    c.args.value within c.write-2.new.self c.write-2.ensures.cache (c.write-2.ensures.changed is_there put.0 put.1) c.write-2.ensures.same
    ∙ ap (λ (bytes : List ℕ). with_number bytes c.args.addr c.args.width c.args.value)
    (ap (contents g.S.LineStore.contents g.S.LineStore.extent) c.self-2.view_is
    ∙ (c.in_ok-bring.ensures.contents (ap (stopped g.S.LineStore.stopped) same ∙ still) sound_is ∙ ap (contents g.S.LineStore.contents g.S.LineStore.extent) same))

pub returns-clause-moved : goal.returns-clause-moved
returns-clause-moved g c =
    let same = as_before c.self.inside.store c.self.inside.stop c.self.inside.lines c.write.new.self c.args.self.now (c.write.ensures.unchanged c.if-write.false) c.self.view_is in
    let before : LineCacheView g.row.S.Denot = c.args.self.now in
    let middle : LineCacheView g.row.S.Denot = record { store = c.self-2.inside.store; lines = c.self-2.inside.lines; stop = c.self-2.inside.stop } in
    let after : LineCacheView g.row.S.Denot = record { store = c.self-2.inside.store; lines = c.write-2.new.self; stop = c.self-2.inside.stop } in (
      after,
      step_changed g.S.LineStore.read_moved g.S.LineStore.write_moved before middle after (c.args.addr / 64) refl c.write-2.ensures.cache
          (subst (λ (m : LineCacheView g.row.S.Denot). IsStep g.S.LineStore.read_moved g.S.LineStore.write_moved before (c.args.addr / 64) m) (sym c.self-2.view_is)
          (subst (λ (m : LineCacheView g.row.S.Denot). IsStep g.S.LineStore.read_moved g.S.LineStore.write_moved m (c.args.addr / 64) c.bring.new.self) same
          c.in_ok-bring.ensures.moved))
          c.write-2.ensures.same,
      refl,
    )

pub returns-clause-ways : goal.returns-clause-ways
returns-clause-ways g c =
    let same = as_before c.self.inside.store c.self.inside.stop c.self.inside.lines c.write.new.self c.args.self.now (c.write.ensures.unchanged c.if-write.false) c.self.view_is in
    let latest = subst (λ (m : LineCacheView g.row.S.Denot). IsLatest m.lines (c.args.addr / 64)) (sym c.self-2.view_is) c.in_ok-bring.ensures.latest in
    let is_there = c.write-2.ensures.held.1 (latest_found (c.args.addr / 64) (set_at c.self-2.inside.lines (c.args.addr / 64)) latest) in
    let put = c.write-2.ensures.after is_there in
    let line = c.args.addr / 64 in
    let is : copy_at c.bring.new.self.lines line ≡ Some put.0 =
    ap (λ (m : LineCacheView g.row.S.Denot). copy_at m.lines line) (sym c.self-2.view_is) ∙ put.1 in (
      put.0,
      put.2
          ∙ ap (λ (ways : List (List Way)). with_changed ways line (with_number put.0 (c.args.addr % 64) c.args.width c.args.value))
          (ap (λ (m : LineCacheView g.row.S.Denot). m.lines) c.self-2.view_is
          ∙ (c.in_ok-bring.ensures.ways put.0 is ∙ ap (λ (m : LineCacheView g.row.S.Denot). brought m.lines line put.0) same)),
    )
