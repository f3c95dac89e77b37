use Rattle.std.proofs.Common.{rules, ◌≡◌, ◌∙◌, inl, ℕ, Option, None, Result, Err, IfErr, refl, sym, ap, subst}
use Rattle.std.proofs.lemmas.Result.{err_from_is_err_and}
use Rattle.sec_base.specs.declared.stop.MemStop.{MemStop}
use Rattle.cache_set.specs.declared.way.Way.{Way}
use Rattle.cache_set.specs.Bringing.{if_changed, leaving, room_if}
use Rattle.line_cache.specs.LineCache.{AreCopies, contents_over}
use Rattle.line_cache.specs.WriteBack.{IsGone, IsWritten}
use Rattle.line_cache.proofs.Lines.{copies_part, part_gone}
use Rattle.line_cache.proofs.Steps.{clean_gone, contents_gone, kept_in_part, less_gone}
use Rattle.line_cache.proofs.fetch.make_room.Goals as goal

-- there is room

pub returns-in_default-clause-clean : goal.returns-in_default-clause-clean
returns-in_default-clause-clean g c = λ still sound clean. clean

pub returns-in_default-clause-contents : goal.returns-in_default-clause-contents
returns-in_default-clause-contents g c = λ still sound clean. refl

pub returns-in_default-clause-others : goal.returns-in_default-clause-others
returns-in_default-clause-others g c = λ other. inl refl

pub returns-in_default-clause-moved : goal.returns-in_default-clause-moved
returns-in_default-clause-moved g c =
    let is : c.victim.result ≡ None = search rules in
    subst (λ (v : Option Way). IsGone g.S.LineStore.write_moved (if_changed v) c.args.store.now c.args.store.now) (sym is ∙ c.victim.ensures.victim) refl

pub returns-in_default-clause-ways : goal.returns-in_default-clause-ways
returns-in_default-clause-ways g c =
    let is : c.victim.result ≡ None = search rules in
    ap (λ (v : Option Way). room_if v c.args.lines.now) (sym is ∙ c.victim.ensures.victim)

-- a way goes out

pub write_back-requires : goal.write_back-requires
write_back-requires g c = record { inside = c.requires.copies.inside c.in-Some.victim.place c.in-Some.victim c.in-Some.ensures.way }

pub returns-in_err-write_back-clause-copies : goal.returns-in_err-write_back-clause-copies
returns-in_err-write_back-clause-copies g c = subst (λ (n : ℕ). AreCopies n c.args.lines.now) (sym c.in_err-write_back.ensures.extent) c.requires.copies

pub returns-in_err-write_back-clause-contents : goal.returns-in_err-write_back-clause-contents
returns-in_err-write_back-clause-contents g c = λ still sound clean.
    ap (λ (n : ℕ). contents_over (g.S.LineStore.contents c.write_back.new.store) n c.args.lines.now) c.in_err-write_back.ensures.extent
    ∙ kept_in_part (g.S.LineStore.extent c.args.store.now) (g.S.LineStore.contents c.args.store.now) (g.S.LineStore.contents c.write_back.new.store)
    c.args.lines.now c.in-Some.victim (g.met.S.LineStore.sized c.args.store.now) c.requires.copies c.in-Some.ensures.way (c.in_err-write_back.ensures.refused still sound)

pub returns-in_err-write_back-clause-others : goal.returns-in_err-write_back-clause-others
returns-in_err-write_back-clause-others g c = λ other. inl refl

pub returns-in_err-write_back-clause-moved_in_part : goal.returns-in_err-write_back-clause-moved_in_part
returns-in_err-write_back-clause-moved_in_part g c =
    let stop : MemStop = c.in_err-write_back.field-0.0 in
    let p = err_from_is_err_and c.from_residual.result c.from_residual.ensures.1 in
    let is : c.from_residual.result ≡ Err stop = p.1 ∙ ap Err p.2 in
    subst (λ (answer : Result (Unit {0}) MemStop). IfErr answer (λ stop. IsWritten g.S.LineStore.write_moved (leaving c.args.lines.now c.args.line) stop c.args.store.now c.write_back.new.store)) (sym is)
    (subst (λ (v : Option Way). IsWritten g.S.LineStore.write_moved (if_changed v) stop c.args.store.now c.write_back.new.store) (sym c.in-Some.is ∙ c.victim.ensures.victim)
    c.in_err-write_back.ensures.moved_in_part)

pub returns-clause-copies : goal.returns-clause-copies
returns-clause-copies g c =
    subst (λ (n : ℕ). AreCopies n c.remove.new.self) (sym c.in_ok-write_back.ensures.extent)
    (copies_part (g.S.LineStore.extent c.args.store.now) c.args.lines.now c.remove.new.self c.remove.ensures.cache
    (part_gone c.args.lines.now c.remove.new.self c.in-Some.victim.place c.remove.ensures.removed c.remove.ensures.same) c.requires.copies)

pub returns-clause-clean : goal.returns-clause-clean
returns-clause-clean g c = λ still sound clean.
    clean_gone (g.S.LineStore.extent c.args.store.now) (g.S.LineStore.contents c.args.store.now) (g.S.LineStore.contents c.write_back.new.store)
    c.args.lines.now c.remove.new.self c.in-Some.victim (g.met.S.LineStore.sized c.args.store.now) c.requires.copies c.in-Some.ensures.way
    (c.in_ok-write_back.ensures.stored still sound) clean c.remove.ensures.removed c.remove.ensures.same

pub returns-clause-contents : goal.returns-clause-contents
returns-clause-contents g c = λ still sound clean.
    ap (λ (n : ℕ). contents_over (g.S.LineStore.contents c.write_back.new.store) n c.remove.new.self) c.in_ok-write_back.ensures.extent
    ∙ contents_gone (g.S.LineStore.extent c.args.store.now) (g.S.LineStore.contents c.args.store.now) (g.S.LineStore.contents c.write_back.new.store)
    c.args.lines.now c.remove.new.self c.in-Some.victim (g.met.S.LineStore.sized c.args.store.now) c.requires.copies c.in-Some.ensures.way
    (c.in_ok-write_back.ensures.stored still sound) clean c.remove.ensures.removed c.remove.ensures.same

pub returns-clause-absent : goal.returns-clause-absent
returns-clause-absent g c = c.remove.ensures.absent c.args.line c.requires.absent

pub returns-clause-room : goal.returns-clause-room
returns-clause-room g c = c.remove.ensures.room c.args.line c.in-Some.ensures.beside

pub returns-clause-others : goal.returns-clause-others
returns-clause-others g c = less_gone c.args.lines.now c.remove.new.self c.in-Some.victim.place c.remove.ensures.removed c.remove.ensures.same

pub returns-clause-moved : goal.returns-clause-moved
returns-clause-moved g c =
    subst (λ (v : Option Way). IsGone g.S.LineStore.write_moved (if_changed v) c.args.store.now c.write_back.new.store) (sym c.in-Some.is ∙ c.victim.ensures.victim)
    c.in_ok-write_back.ensures.moved

pub returns-clause-ways : goal.returns-clause-ways
returns-clause-ways g c = c.remove.ensures.after ∙ ap (λ (v : Option Way). room_if v c.args.lines.now) (sym c.in-Some.is ∙ c.victim.ensures.victim)
