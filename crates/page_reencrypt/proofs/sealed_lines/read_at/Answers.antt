use Rattle.std.proofs.Common.{◌≡◌, ℕ, List, Some, None, Contains, Result, Err, IfOk, OnOk, refl, sym, subst, rules}
use Rattle.sec_base.specs.declared.counter.Counter.{Counter}
use Rattle.sec_base.specs.declared.stop.MemStop.{MemStop}
use Rattle.sec_base.specs.Geometry.{page_of}
use Rattle.sec_base.proofs.Results.{on_success, was_none}
use Rattle.tag_engine.specs.TagEngine.{tags_of}
use Rattle.pad_stream.specs.Pads.{AreRising}
use Rattle.split_counter.specs.CounterBlock.{bumped}
use Rattle.counter_cache.specs.Counters.{cached_pages}
use Rattle.page_reencrypt.specs.Outside.{HasCounter, IsLineRead, terms_of}
use Rattle.page_reencrypt.specs.SealedLines.{IsReadUnder}
use Rattle.page_reencrypt.proofs.CountersHad.{got_by, got_cached}
use Rattle.page_reencrypt.proofs.NextWrites.{IsForeseen, counter_here, foreseen_of}
use Rattle.page_reencrypt.proofs.ReadSteps.{line_read, unread}
use Rattle.page_reencrypt.proofs.UnderCounters.{counter_by, read_refused, read_under}
use Rattle.page_reencrypt.proofs.sealed_lines.read_at.Goals as goal

pub returns-in_err-block : goal.returns-in_err-block
returns-in_err-block g c =
    let h = g.B.Bus.history in
    let m = g.B.Bus.moved in
    let d = g.T.Tagger.data_tag_of in
    let n = g.T.Tagger.node_tag_of in
    let old = c.args.outside.now in
    let counters = c.args.counters.now in
    let why = c.in_err-block.field-0.0 in
    let e = c.in_err-block.ensures in
    let is : c.from_residual.result ≡ Err why = search rules in
    let got = got_by h m d n c.args.line old counters c.get.new.self c.get.new.counters c.page_of.result (Some why) c.page_of.ensures.page c.requires.geometry
    c.requires.fits e.step e.had e.pads (e.nodes c.requires.pages c.requires.fits c.requires.current) in
    record {
      read = subst (IsLineRead (terms_of h m d n old) c.args.line old counters c.get.new.self c.get.new.counters) (sym is)
          (unread h m d n old counters c.args.line c.get.new.self c.get.new.counters why got);
      under = read_refused h m (tags_of d n) c.args.line old counters c.get.new.self c.get.new.counters why c.from_residual.result is got.first;
      cached = subst (λ (r : Result (List ℕ) MemStop). OnOk r (Contains (cached_pages c.get.new.counters) (page_of c.args.line))) (sym is) tt;
      pages = e.pages;
    }

pub read-requires-clause-counter : goal.read-requires-clause-counter
read-requires-clause-counter g c = λ quiet.
    let h = g.B.Bus.history in
    let m = g.B.Bus.moved in
    let d = g.T.Tagger.data_tag_of in
    let n = g.T.Tagger.node_tag_of in
    let old = c.args.outside.now in
    let counters = c.args.counters.now in
    let e = c.in_ok-block.ensures in
    let got = got_by h m d n c.args.line old counters c.get.new.self c.get.new.counters c.page_of.result None c.page_of.ensures.page c.requires.geometry
    c.requires.fits e.step e.had e.pads (e.nodes c.requires.pages c.requires.fits c.requires.current) in
    let had : IsForeseen h m d n old counters 0 c.args.line c.page_of.result c.place_of.result c.get.new.self c.get.new.counters c.in_ok-block.block c.get-2.result
    (bumped 0 c.get-2.result) =
    foreseen_of 0 got c.requires.inside c.page_of.ensures.page c.place_of.ensures.place e.answer e.is_block c.get-2.ensures.counter refl in
    let here = counter_here c.requires.current had quiet in
    let was_quiet = was_none old.engine.evidence c.get.new.self.engine.evidence e.step.step.evidence quiet in
    subst (λ (used : List (ℕ × Counter)). HasCounter used c.args.line c.get-2.result) (sym e.step.used)
    (subst (HasCounter old.pads.used c.args.line) here (c.requires.started was_quiet c.args.line))

pub read-requires-clause-risen : goal.read-requires-clause-risen
read-requires-clause-risen g c = λ quiet.
    let step = c.in_ok-block.ensures.step in
    subst AreRising (sym step.used)
    (c.requires.risen (was_none c.args.outside.now.engine.evidence c.get.new.self.engine.evidence step.step.evidence quiet))

pub returns : goal.returns
returns g c =
    let h = g.B.Bus.history in
    let m = g.B.Bus.moved in
    let d = g.T.Tagger.data_tag_of in
    let n = g.T.Tagger.node_tag_of in
    let old = c.args.outside.now in
    let counters = c.args.counters.now in
    let e = c.in_ok-block.ensures in
    let r = c.read.ensures.read in
    let got = got_by h m d n c.args.line old counters c.get.new.self c.get.new.counters c.page_of.result None c.page_of.ensures.page c.requires.geometry
    c.requires.fits e.step e.had e.pads (e.nodes c.requires.pages c.requires.fits c.requires.current) in
    record {
      read = line_read h m d n old counters c.args.line c.get.new.self c.get.new.counters got c.get-2.result c.read.new.self c.read.result r g.met.B.Bus.moved_on;
      under = read_under h m (tags_of d n) c.args.line old counters c.get.new.self c.get.new.counters got.first c.read.new.self c.read.result r.trace
          (subst (λ (k : Counter). IfOk c.read.result (IsReadUnder (tags_of d n c.get.new.self.engine) c.get.new.self.pads.key c.args.line k r.trace.accesses))
          (counter_by c.get.new.counters c.get.new.self.engine.made c.args.line c.page_of.result c.place_of.result c.in_ok-block.block c.get-2.result
          c.page_of.ensures.page c.place_of.ensures.place e.answer c.get-2.ensures.counter) r.under)
          r.once r.nodes r.made r.step.evidence;
      cached = on_success c.read.result (λ none. got_cached h m d n c.args.line old counters c.get.new.self c.get.new.counters got.first);
      pages = e.pages;
    }
