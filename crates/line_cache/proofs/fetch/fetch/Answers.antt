use Rattle.std.proofs.Common.{rules, ◌≡◌, ◌∙◌, ◌⊎◌, ℕ, ◌<◌, List, Option, None, Result, Ok, Err, IfErr, length, false, refl, sym, ap, subst}
use Rattle.std.specs.Option.{option_map}
use Rattle.std.specs.Result.{result_err}
use Rattle.std.proofs.lemmas.Option.{same_Some}
use Rattle.std.proofs.lemmas.Result.{err_from_is_err_and}
use Rattle.sec_base.specs.Lines.{line_at}
use Rattle.sec_base.specs.declared.stop.MemStop.{MemStop}
use Rattle.cache_set.specs.declared.way.Way.{Way}
use Rattle.cache_set.specs.Cache.{way_at}
use Rattle.cache_set.specs.Bringing.{leaving, with_new, with_room}
use Rattle.line_cache.specs.LineCache.{AreClean, AreCopies, IsMissed, IsStoppedMiss}
use Rattle.line_cache.proofs.Lines.{clean_with, copies_with, over_put}
use Rattle.line_cache.proofs.Steps.{missed, missed_in_part, over_equal, stopped_in_read, stopped_in_write}
use Rattle.line_cache.proofs.fetch.fetch.Goals as goal

-- there is no room

pub returns-in_err-make_room-clause-others : goal.returns-in_err-make_room-clause-others
returns-in_err-make_room-clause-others g c = λ other apart. c.in_err-make_room.ensures.others other

pub returns-in_err-make_room-clause-missed : goal.returns-in_err-make_room-clause-missed
returns-in_err-make_room-clause-missed g c =
    let p = err_from_is_err_and c.from_residual.result c.from_residual.ensures.1 in
    let stop : MemStop = c.in_err-make_room.field-0.0 in
    subst (λ (answer : Result (Unit {0}) MemStop). IsMissed g.S.LineStore.read_moved g.S.LineStore.write_moved c.args.lines.now c.args.store.now c.args.line (λ bytes. bytes)
    (result_err answer) c.make_room.new.lines c.make_room.new.store) (sym (p.1 ∙ ap Err p.2))
    (missed_in_part g.S.LineStore.read_moved g.S.LineStore.write_moved c.args.lines.now c.make_room.new.lines c.args.store.now c.make_room.new.store c.args.line stop
    c.in_err-make_room.ensures.moved_in_part)

pub returns-in_err-make_room-clause-ways_left : goal.returns-in_err-make_room-clause-ways_left
returns-in_err-make_room-clause-ways_left g c =
    let p = err_from_is_err_and c.from_residual.result c.from_residual.ensures.1 in
    subst (λ (answer : Result (Unit {0}) MemStop). IfErr answer (λ stop. IsStoppedMiss g.S.LineStore.read_moved g.S.LineStore.write_moved (leaving c.args.lines.now c.args.line)
    c.args.lines.now c.args.store.now c.args.line stop c.make_room.new.lines c.make_room.new.store)) (sym (p.1 ∙ ap Err p.2))
    (stopped_in_write g.S.LineStore.read_moved g.S.LineStore.write_moved (leaving c.args.lines.now c.args.line) c.args.lines.now c.make_room.new.lines
    c.args.store.now c.make_room.new.store c.args.line c.in_err-make_room.field-0.0 c.in_err-make_room.ensures.moved_in_part c.in_err-make_room.ensures.ways_left)

pub read_line-requires : goal.read_line-requires
read_line-requires g c = record { inside = subst (λ (n : ℕ). c.args.line < n) (sym c.in_ok-make_room.ensures.extent) c.requires.inside }

-- the line is not read

pub returns-in_err-copy-clause-copies : goal.returns-in_err-copy-clause-copies
returns-in_err-copy-clause-copies g c = subst (λ (n : ℕ). AreCopies n c.make_room.new.lines) (sym c.in_err-copy.ensures.extent) c.in_ok-make_room.ensures.copies

pub returns-in_err-copy-clause-contents : goal.returns-in_err-copy-clause-contents
returns-in_err-copy-clause-contents g c = λ still sound clean.
    let goes : g.S.LineStore.stopped c.make_room.new.store ≡ None = c.in_ok-make_room.ensures.goes_on ∙ still in
    over_equal (g.S.LineStore.contents c.make_room.new.store) (g.S.LineStore.contents c.read_line.new.self)
    (g.S.LineStore.extent c.make_room.new.store) (g.S.LineStore.extent c.read_line.new.self) c.make_room.new.lines c.make_room.new.lines
    (c.in_err-copy.ensures.contents goes sound) c.in_err-copy.ensures.extent refl
    ∙ c.in_ok-make_room.ensures.contents still (c.in_err-copy.ensures.lost sound) clean

pub returns-in_err-copy-clause-others : goal.returns-in_err-copy-clause-others
returns-in_err-copy-clause-others g c = λ other apart. c.in_ok-make_room.ensures.others other

pub returns-in_err-copy-clause-missed : goal.returns-in_err-copy-clause-missed
returns-in_err-copy-clause-missed g c =
    let p = err_from_is_err_and c.from_residual-in_err-copy.result c.from_residual-in_err-copy.ensures.1 in
    let stop : MemStop = c.in_err-copy.field-0.0 in
    subst (λ (answer : Result (Unit {0}) MemStop). IsMissed g.S.LineStore.read_moved g.S.LineStore.write_moved c.args.lines.now c.args.store.now c.args.line (λ bytes. bytes)
    (result_err answer) c.make_room.new.lines c.read_line.new.self) (sym (p.1 ∙ ap Err p.2))
    (missed g.S.LineStore.read_moved g.S.LineStore.write_moved c.args.lines.now c.make_room.new.lines c.args.store.now c.read_line.new.self c.args.line c.make_room.new.store (Err stop)
    c.in_ok-make_room.ensures.moved c.in_err-copy.ensures.moved tt)

pub returns-in_err-copy-clause-ways_left : goal.returns-in_err-copy-clause-ways_left
returns-in_err-copy-clause-ways_left g c =
    let p = err_from_is_err_and c.from_residual-in_err-copy.result c.from_residual-in_err-copy.ensures.1 in
    subst (λ (answer : Result (Unit {0}) MemStop). IfErr answer (λ stop. IsStoppedMiss g.S.LineStore.read_moved g.S.LineStore.write_moved (leaving c.args.lines.now c.args.line)
    c.args.lines.now c.args.store.now c.args.line stop c.make_room.new.lines c.read_line.new.self)) (sym (p.1 ∙ ap Err p.2))
    (stopped_in_read g.S.LineStore.read_moved g.S.LineStore.write_moved (leaving c.args.lines.now c.args.line) c.args.lines.now c.make_room.new.lines
    c.args.store.now c.make_room.new.store c.read_line.new.self c.args.line c.in_err-copy.field-0.0
    c.in_ok-make_room.ensures.moved c.in_err-copy.ensures.moved c.in_ok-make_room.ensures.ways)

-- the line is put in

pub returns-clause-copies : goal.returns-clause-copies
returns-clause-copies g c =
    let way : Way = record { place = c.args.line; changed = false; copy = c.in_ok-copy.copy } in
    let whole : length c.in_ok-copy.copy ≡ 64 = search rules in
    subst (λ (n : ℕ). AreCopies n c.put.new.self) (sym (c.in_ok-copy.ensures.extent ∙ c.in_ok-make_room.ensures.extent))
    (copies_with (g.S.LineStore.extent c.args.store.now) c.make_room.new.lines c.put.new.self c.args.line way c.put.ensures.cache c.requires.inside whole
    c.put.ensures.put c.put.ensures.same
    (subst (λ (n : ℕ). AreCopies n c.make_room.new.lines) c.in_ok-make_room.ensures.extent c.in_ok-make_room.ensures.copies))

pub returns-clause-clean : goal.returns-clause-clean
returns-clause-clean g c = λ still sound clean.
    let way : Way = record { place = c.args.line; changed = false; copy = c.in_ok-copy.copy } in
    let goes : g.S.LineStore.stopped c.make_room.new.store ≡ None = c.in_ok-make_room.ensures.goes_on ∙ still in
    let same : g.S.LineStore.contents c.read_line.new.self ≡ g.S.LineStore.contents c.make_room.new.store = c.in_ok-copy.ensures.contents goes sound in
    let read : c.in_ok-copy.copy ≡ line_at (g.S.LineStore.contents c.make_room.new.store) c.args.line = c.in_ok-copy.ensures.value goes sound in
    clean_with (g.S.LineStore.contents c.read_line.new.self) c.make_room.new.lines c.put.new.self c.args.line way
    (λ unmarked. read ∙ ap (λ (bytes : List ℕ). line_at bytes c.args.line) (sym same)) c.put.ensures.put c.put.ensures.same
    (subst (λ (bytes : List ℕ). AreClean bytes c.make_room.new.lines) (sym same) (c.in_ok-make_room.ensures.clean still (c.in_ok-copy.ensures.lost sound) clean))

pub returns-clause-contents : goal.returns-clause-contents
returns-clause-contents g c = λ still sound clean.
    let way : Way = record { place = c.args.line; changed = false; copy = c.in_ok-copy.copy } in
    let goes : g.S.LineStore.stopped c.make_room.new.store ≡ None = c.in_ok-make_room.ensures.goes_on ∙ still in
    let same : g.S.LineStore.contents c.read_line.new.self ≡ g.S.LineStore.contents c.make_room.new.store = c.in_ok-copy.ensures.contents goes sound in
    let read : c.in_ok-copy.copy ≡ line_at (g.S.LineStore.contents c.make_room.new.store) c.args.line = c.in_ok-copy.ensures.value goes sound in
    over_put (g.S.LineStore.contents c.read_line.new.self) (g.S.LineStore.extent c.read_line.new.self) c.make_room.new.lines c.put.new.self c.args.line way
    c.in_ok-make_room.ensures.absent c.put.ensures.put (read ∙ ap (λ (bytes : List ℕ). line_at bytes c.args.line) (sym same)) c.put.ensures.same
    ∙ (over_equal (g.S.LineStore.contents c.make_room.new.store) (g.S.LineStore.contents c.read_line.new.self)
    (g.S.LineStore.extent c.make_room.new.store) (g.S.LineStore.extent c.read_line.new.self) c.make_room.new.lines c.make_room.new.lines same c.in_ok-copy.ensures.extent refl
    ∙ c.in_ok-make_room.ensures.contents still (c.in_ok-copy.ensures.lost sound) clean)

pub returns-clause-others : goal.returns-clause-others
returns-clause-others g c = λ other apart.
    subst (λ (found : Option Way). (found ≡ way_at c.args.lines.now other) ⊎ (found ≡ None)) (sym (c.put.ensures.same other apart)) (c.in_ok-make_room.ensures.others other)

pub returns-clause-missed : goal.returns-clause-missed
returns-clause-missed g c =
    missed g.S.LineStore.read_moved g.S.LineStore.write_moved c.args.lines.now c.put.new.self c.args.store.now c.read_line.new.self c.args.line c.make_room.new.store (Ok c.in_ok-copy.copy)
    c.in_ok-make_room.ensures.moved c.in_ok-copy.ensures.moved (ap (option_map (λ (way : Way). way.copy)) c.put.ensures.put)

pub returns-clause-ways : goal.returns-clause-ways
returns-clause-ways g c = λ copy is.
    let same : c.in_ok-copy.copy ≡ copy = same_Some c.in_ok-copy.copy copy (sym (ap (option_map (λ (way : Way). way.copy)) c.put.ensures.put) ∙ is) in
    c.put.ensures.after
    ∙ (ap (λ (ways : List (List Way)). with_new ways c.args.line c.in_ok-copy.copy) c.in_ok-make_room.ensures.ways
    ∙ ap (with_new (with_room c.args.lines.now c.args.line) c.args.line) same)
