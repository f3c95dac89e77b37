use Rattle.std.proofs.Common.{rules, ◌≡◌, ◌⊎◌, if◌then◌else◌, List, ℕ, Bool, true, false, Some, None, Result, IfErr, OnOk, OnErr, refl, sym, subst}
use Rattle.sec_base.specs.declared.stop.MemStop.{MemStop}
use Rattle.sec_base.proofs.Results.{case_err, case_ok}
use Rattle.cache_set.specs.declared.way.Way.{Way}
use Rattle.line_cache.specs.WriteBack.{IsGone, IsWritten}
use Rattle.line_cache.proofs.Steps.{written_not, written_so}
use Rattle.line_cache.proofs.fetch.write_back.Goals as goal

-- a way that was not changed

pub returns-then-not-way-clause-stored : goal.returns-then-not-way-clause-stored
returns-then-not-way-clause-stored g c = λ still sound.
    let unmarked : c.args.way.now.changed ≡ false = search rules in
    sym (written_not c.args.way.now (g.S.LineStore.contents c.args.store.now) unmarked)

pub returns-then-not-way-clause-moved : goal.returns-then-not-way-clause-moved
returns-then-not-way-clause-moved g c =
    let unmarked : c.args.way.now.changed ≡ false = search rules in
    subst (λ (b : Bool). IsGone g.S.LineStore.write_moved (if b then Some c.args.way.now else None) c.args.store.now c.args.store.now) (sym unmarked) refl

-- a way that was

pub returns-clause-stored : goal.returns-clause-stored
returns-clause-stored g c = λ still sound.
    let marked : c.args.way.now.changed ≡ true = search rules in
    subst (λ (bytes : List ℕ). OnOk c.write_line.result (g.S.LineStore.contents c.write_line.new.self ≡ bytes))
    (sym (written_so c.args.way.now (g.S.LineStore.contents c.args.store.now) marked)) (c.write_line.ensures.stored still sound)

pub returns-clause-refused : goal.returns-clause-refused
returns-clause-refused g c = λ still sound.
    let marked : c.args.way.now.changed ≡ true = search rules in
    let stored = g.S.LineStore.contents c.args.store.now in
    subst (λ (bytes : List ℕ). OnErr c.write_line.result ((g.S.LineStore.contents c.write_line.new.self ≡ stored) ⊎ (g.S.LineStore.contents c.write_line.new.self ≡ bytes)))
    (sym (written_so c.args.way.now stored marked)) (c.write_line.ensures.refused still sound)

pub returns-clause-moved : goal.returns-clause-moved
returns-clause-moved g c =
    let marked : c.args.way.now.changed ≡ true = search rules in
    let way : Way = c.args.way.now in
    subst (λ (b : Bool). OnOk c.write_line.result (IsGone g.S.LineStore.write_moved (if b then Some way else None) c.args.store.now c.write_line.new.self)) (sym marked)
    (case_ok (λ (answer : Result (Unit {0}) MemStop). g.S.LineStore.write_moved c.args.store.now way.place way.copy answer c.write_line.new.self) c.write_line.result
    c.write_line.ensures.moved)

pub returns-clause-moved_in_part : goal.returns-clause-moved_in_part
returns-clause-moved_in_part g c =
    let marked : c.args.way.now.changed ≡ true = search rules in
    let way : Way = c.args.way.now in
    subst (λ (b : Bool). IfErr c.write_line.result (λ stop. IsWritten g.S.LineStore.write_moved (if b then Some way else None) stop c.args.store.now c.write_line.new.self))
    (sym marked)
    (case_err (λ (answer : Result (Unit {0}) MemStop). g.S.LineStore.write_moved c.args.store.now way.place way.copy answer c.write_line.new.self) c.write_line.result
    c.write_line.ensures.moved)
