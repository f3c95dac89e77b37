use Rattle.std.proofs.Common.{◌≡◌, ◌∷◌, [], ℕ, List, Option, Some, None, IfOk, Contains, ap, sym, ◌∙◌, subst, IfErr, OnOk}
use Rattle.std.specs.Option.{option_or}
use Rattle.std.specs.Result.{result_err}
use Rattle.sec_base.specs.Geometry.{line_of}
use Rattle.sec_base.specs.Lines.{line_at}
use Rattle.sec_base.specs.Width.{number_at}
use Rattle.sec_base.specs.declared.stop.MemStop.{MemStop}
use Rattle.tag_engine.specs.TagEngine.{tags_of}
use Rattle.page_reencrypt.specs.LineMoves.{ReadMoved, WriteMoved}
use Rattle.page_reencrypt.specs.SealedLines.{SealedLinesView}
use Rattle.page_reencrypt.specs.Stops.{lasting_stop}
use Rattle.cache_set.specs.Cache.{copy_at, places}
use Rattle.cache_set.specs.Bringing.{brought, leaving}
use Rattle.line_cache.specs.LineCache.{IsMissed, IsStoppedMiss, LineCacheView}
use Rattle.secure_memory.specs.LineCall.{IsLineCall}
use Rattle.secure_memory.specs.SecureRam.{SecureRamView, IsMoved, contents, stopped}
use Rattle.checked_bus.proofs.Makes.{same_tags}
use Rattle.secure_memory.proofs.LineCalls.{called, few_so, fits_so, memory_of, moved_so, ok_goes, stopped_unmoved, stops_so}
use Rattle.secure_memory.proofs.secure_ram.SecureRamRam.load.Given.{Over}
use Rattle.secure_memory.proofs.secure_ram.SecureRamRam.load.Goals as goal

-- a stop that is answered again

pub returns-in-Some-clause-moved : goal.returns-in-Some-clause-moved
returns-in-Some-clause-moved g c =
    let is : stopped c.args.self.now ≡ Some c.in-Some.stop =
    ap (λ (m : SecureRamView g.row.B.Denot g.row.T.Denot). m.lines.stopped) (sym c.self.view_is) ∙ sym c.self.invariant.0 ∙ sym c.stopped.ensures ∙ c.in-Some.is in
    stopped_unmoved g.B.Bus.history g.B.Bus.moved (tags_of g.T.Tagger.data_tag_of g.T.Tagger.node_tag_of) g.met.B.Bus.unmoved
    c.args.self.now (line_of c.args.addr ∷ []) c.in-Some.stop is

-- a call of the cache

none_stopped : (g : Over) (c : goal.After-load g) → c.self.inside.lines.stop ≡ None
none_stopped g c = sym c.stopped.ensures ∙ c.in_default.is

going : (g : Over) (c : goal.After-load g) → c.self.inside.lines.store.stopped ≡ None
going g c = sym c.self.invariant.0 ∙ none_stopped g c

hit : (g : Over) (c : goal.After-load g) → Contains (places c.self.inside.lines.lines) (line_of c.args.addr) → result_err c.load.result ≡ None
hit g c = λ there. ok_goes c.load.result (c.load.ensures.hit there).0

pub invariant_of-self : goal.invariant_of-self
invariant_of-self g c =
    let tags = tags_of g.T.Tagger.data_tag_of g.T.Tagger.node_tag_of in
    let cache : LineCacheView (SealedLinesView g.row.B.Denot g.row.T.Denot) = c.self.inside.lines in
    let stops = stops_so g.B.Bus.history g.B.Bus.moved tags cache c.load.new.self (line_of c.args.addr) (result_err c.load.result) (λ bytes. bytes)
    (going g c) c.load.ensures.moved (hit g c) c.load.ensures.missed in (
      c.load.ensures.kept ∙ ap (λ (o : Option MemStop). option_or o (result_err c.load.result)) (none_stopped g c) ∙ sym stops,
      few_so g.B.Bus.history g.B.Bus.moved tags cache c.load.new.self (line_of c.args.addr) (result_err c.load.result) (λ bytes. bytes)
          (going g c) c.load.ensures.moved (hit g c) c.load.ensures.missed,
      λ still. fits_so g.B.Bus.history g.B.Bus.moved tags cache c.load.new.self (line_of c.args.addr) (result_err c.load.result) (λ bytes. bytes)
          (going g c) c.load.ensures.moved (hit g c) c.load.ensures.missed (λ lasting. c.self.invariant.2 (going g c)) (ap lasting_stop still),
      c.self.invariant.3 ∙ sym c.load.ensures.extent,
    )

pub returns-clause-lines_fit : goal.returns-clause-lines_fit
returns-clause-lines_fit g c = λ still.
    fits_so g.B.Bus.history g.B.Bus.moved (tags_of g.T.Tagger.data_tag_of g.T.Tagger.node_tag_of) c.self.inside.lines c.load.new.self
    (line_of c.args.addr) (result_err c.load.result) (λ bytes. bytes)
    (going g c) c.load.ensures.moved (hit g c) c.load.ensures.missed (λ lasting. c.self.invariant.2 (going g c)) (ap lasting_stop still)

pub returns-clause-moved : goal.returns-clause-moved
returns-clause-moved g c =
    let tags = tags_of g.T.Tagger.data_tag_of g.T.Tagger.node_tag_of in
    subst (λ (m : SecureRamView g.row.B.Denot g.row.T.Denot). IsMoved g.B.Bus.history g.B.Bus.moved tags m (line_of c.args.addr ∷ []) (memory_of c.load.new.self)) c.self.view_is
    (moved_so g.B.Bus.history g.B.Bus.moved tags c.self.inside.lines c.load.new.self (line_of c.args.addr) (result_err c.load.result) (λ bytes. bytes)
    (going g c) c.load.ensures.moved (hit g c) c.load.ensures.missed c.load.ensures.copies
    (λ quiet other apart. ap (λ (bytes : List ℕ). line_at bytes other)
    (c.load.ensures.contents (ap (λ (o : Option MemStop). option_or o c.self.inside.lines.store.stopped) (none_stopped g c) ∙ going g c) quiet))
    g.met.B.Bus.unmoved (same_tags g.T.Tagger.data_tag_of g.T.Tagger.node_tag_of) g.met.B.Bus.moved_on)

pub returns-clause-call : goal.returns-clause-call
returns-clause-call g c = λ _.
    let tags = tags_of g.T.Tagger.data_tag_of g.T.Tagger.node_tag_of in
    subst (λ (m : SecureRamView g.row.B.Denot g.row.T.Denot). IsLineCall g.B.Bus.history m (line_of c.args.addr) (leaving m.ways (line_of c.args.addr))
    (result_err c.load.result) (memory_of c.load.new.self)) c.self.view_is
    (called g.B.Bus.history g.B.Bus.moved tags c.self.inside.lines c.load.new.self (line_of c.args.addr) (result_err c.load.result) (λ bytes. bytes)
    (going g c) c.load.ensures.moved (hit g c) c.load.ensures.missed)

pub returns-clause-ways_left : goal.returns-clause-ways_left
returns-clause-ways_left g c = λ _.
    let tags = tags_of g.T.Tagger.data_tag_of g.T.Tagger.node_tag_of in
    subst (λ (m : SecureRamView g.row.B.Denot g.row.T.Denot). IfErr c.load.result (λ stop. IsStoppedMiss
    (ReadMoved g.B.Bus.history g.B.Bus.moved tags) (WriteMoved g.B.Bus.history g.B.Bus.moved tags)
    (leaving m.ways (line_of c.args.addr)) m.ways m.lines (line_of c.args.addr) stop c.load.new.self.lines c.load.new.self.store)) c.self.view_is c.load.ensures.ways_left

pub returns-clause-ways : goal.returns-clause-ways
returns-clause-ways g c = λ _.
    subst (λ (m : SecureRamView g.row.B.Denot g.row.T.Denot). OnOk c.load.result ((copy : List ℕ) × (copy_at c.load.new.self.lines (line_of c.args.addr) ≡ Some copy)
    × (c.load.new.self.lines ≡ brought m.ways (line_of c.args.addr) copy))) c.self.view_is c.load.ensures.ways

pub returns-clause-missed : goal.returns-clause-missed
returns-clause-missed g c = λ _.
    let tags = tags_of g.T.Tagger.data_tag_of g.T.Tagger.node_tag_of in
    subst (λ (m : SecureRamView g.row.B.Denot g.row.T.Denot). ¬ Contains (places m.ways) (line_of c.args.addr) →
    IsMissed (ReadMoved g.B.Bus.history g.B.Bus.moved tags) (WriteMoved g.B.Bus.history g.B.Bus.moved tags)
    m.ways m.lines (line_of c.args.addr) (λ bytes. bytes) (result_err c.load.result) c.load.new.self.lines c.load.new.self.store) c.self.view_is c.load.ensures.missed

pub returns-clause-value : goal.returns-clause-value
returns-clause-value g c = λ _ quiet.
    subst (λ (m : SecureRamView g.row.B.Denot g.row.T.Denot). IfOk c.load.result (λ n. n ≡ number_at (contents m) c.args.addr c.args.width)) c.self.view_is
    (c.load.ensures.value (ap (λ (o : Option MemStop). option_or o c.self.inside.lines.store.stopped) (none_stopped g c) ∙ going g c) quiet)
