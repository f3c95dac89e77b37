use Rattle.std.proofs.Common.{◌≡◌, ◌≤◌, ℕ, inl, length, take, Option, Some, None, Contains, ap, sym, ◌∙◌, subst, arith, rules, refl}
use Rattle.std.specs.Result.{result_err}
use Rattle.sec_base.specs.Geometry.{page_of}
use Rattle.sec_base.specs.declared.counter.Counter.{Counter}
use Rattle.sec_base.specs.declared.evidence.Evidence.TheVariants.{Forgery}
use Rattle.sec_base.specs.declared.place.Place.{Place}
use Rattle.sec_base.specs.declared.place.Place.TheVariants.{Line as line_place}
use Rattle.sec_base.specs.declared.stop.MemStop.{MemStop}
use Rattle.sec_base.specs.declared.stop.MemStop.TheVariants.{NoMemory, Spent as spent_page}
use Rattle.sec_base.proofs.Results.{was_none}
use Rattle.bus_model.specs.BusHistory.{BusHistory}
use Rattle.tag_engine.specs.TagEngine.{tags_of}
use Rattle.pad_stream.specs.Pad.{cipher_of}
use Rattle.pad_stream.specs.PadEngine.{PadEngineView}
use Rattle.checked_bus.specs.Makes.{MakesAccesses}
use Rattle.checked_bus.specs.SealedLine.{sealed_line}
use Rattle.checked_bus.proofs.TaggedWrites.{wrote_once}
use Rattle.split_counter.specs.declared.bumped.Bumped.TheVariants.{Line, Page}
use Rattle.counter_cache.specs.Counters.{cached_pages, counters_in}
use Rattle.page_reencrypt.specs.Contents.{page_lines}
use Rattle.page_reencrypt.specs.Outside.{IsWrite, LineWrite, OutsideView, terms_of}
use Rattle.page_reencrypt.specs.Stops.{lasting_stop}
use Rattle.page_reencrypt.proofs.NextWrites.{counted_here, successive, counter_here, foreseen_here, foreseen_of, is_last, line_unwritten, line_written, mid_counters, mid_inside, mid_kept, mid_last, mid_later, mid_rooms, mid_rose, page_overflows, page_written, refused_reached, say_same, spent_early, stopped_early}
use Rattle.page_reencrypt.proofs.Nodes.{not_node}
use Rattle.page_reencrypt.proofs.ReadSteps.{before_line}
use Rattle.page_reencrypt.proofs.CountersHad.{counted_up_by, got_by, got_cached}
use Rattle.page_reencrypt.proofs.Reaching.{come_idle}
use Rattle.page_reencrypt.proofs.Reencrypting.{one_access}
use Rattle.page_reencrypt.proofs.Sealing.{made_as_used}
use Rattle.page_reencrypt.proofs.Stops.{unspent_going}
use Rattle.page_reencrypt.proofs.UnderCounters.{entries_of_line, entries_of_page, messages_of_line, messages_of_page, traced_since, write_counted, write_refused, write_roomless, write_spent}
use Rattle.page_reencrypt.proofs.sealed_lines.write_next.Goals as goal

pub returns-in_err-block : goal.returns-in_err-block
returns-in_err-block g c =
    let h = g.B.Bus.history in
    let m = g.B.Bus.moved in
    let d = g.T.Tagger.data_tag_of in
    let n = g.T.Tagger.node_tag_of in
    let old = c.args.outside.now in
    let counters = c.args.counters.now in
    let why = c.in_err-block.field-0.0 in
    let e = c.in_err-block.ensures in
    let stop : result_err c.from_residual.result ≡ Some why = search rules in
    let got = got_by h m d n c.args.line old counters c.get.new.self c.get.new.counters c.page_of-page.result (Some why) c.page_of-page.ensures.page c.requires.geometry
    c.requires.fits e.step e.had e.pads (e.nodes c.requires.pages c.requires.fits c.requires.current) in
    record {
      written = subst (IsWrite (terms_of h m d n old) c.args.limit c.args.line c.args.bytes.now old counters c.get.new.self c.get.new.counters) (sym stop)
          (stopped_early h m d n old counters c.get.new.self c.get.new.counters why got.reached c.args.limit c.args.line c.args.bytes.now c.requires.risen
          got.unspent (inl got.same) got.tampered (λ quiet last. (got.same quiet, got.once)) got.come);
      under = write_refused h m (tags_of d n) c.args.line old counters c.get.new.self c.get.new.counters c.args.limit why (result_err c.from_residual.result) stop
          got.unspent got.first;
      cached = λ going.
          let none : Some why ≡ None = unspent_going (Some why) got.unspent (subst (λ (s : Option MemStop). lasting_stop s ≡ None) stop going) in absurd (cc);
      pages = e.pages;
      accepted = λ at under sealed made_count quiet is.
          not_node old.engine.geometry (page_of c.args.line) at (got.found (Forgery at under sealed made_count) quiet is);
      once = λ quiet short. (omega (arith, got.once), λ other. e.step.lines.reads other);
      few = omega (arith, got.once);
      hit = λ cached quiet short. let same = got.idle cached in omega (arith, same);
      hit_overflow = λ cached. let same = got.idle cached in omega (arith, same);
    }

pub returns-in-Spent : goal.returns-in-Spent
returns-in-Spent g c =
    let h = g.B.Bus.history in
    let m = g.B.Bus.moved in
    let d = g.T.Tagger.data_tag_of in
    let n = g.T.Tagger.node_tag_of in
    let old = c.args.outside.now in
    let counters = c.args.counters.now in
    let e = c.in_ok-block.ensures in
    let got = got_by h m d n c.args.line old counters c.get.new.self c.get.new.counters c.page_of-page.result None c.page_of-page.ensures.page c.requires.geometry
    c.requires.fits e.step e.had e.pads (e.nodes c.requires.pages c.requires.fits c.requires.current) in
    let had = foreseen_of c.args.limit got c.requires.inside c.page_of-page.ensures.page c.place_of-place.ensures.place e.answer e.is_block c.get-2.ensures.counter
    c.of.ensures.outcome in
    record {
      written = spent_early h m d n old counters c.get.new.self c.get.new.counters c.page_of-page.result got.reached c.args.limit c.args.line c.args.bytes.now c.requires.risen
          (say_same h m d n old counters c.requires.current c.get.new.self c.get.new.counters None got.reached got.same) (inl got.same) c.page_of-page.ensures.page
          (λ quiet.
          let here = counter_here c.requires.current had quiet in
          let full = c.of.ensures.spent.0 c.in-Spent.is in
          let was_quiet = was_none old.engine.evidence c.get.new.self.engine.evidence e.step.step.evidence quiet in
          here ∙ is_last c.args.limit c.get-2.result full.0 full.1 (subst (λ (k : Counter). k.page ≤ c.args.limit) here (c.requires.limited was_quiet)))
          (λ quiet last. (got.same quiet, got.once)) got.come;
      under = write_spent h m (tags_of d n) c.args.line old counters c.get.new.self c.get.new.counters got.first c.args.limit c.of.result
          (foreseen_here c.requires.current had) g.met.B.Bus.unmoved c.page_of-page.result c.page_of-page.ensures.page
          c.in-Spent.is;
      cached = λ going. got_cached h m d n c.args.line old counters c.get.new.self c.get.new.counters got.first;
      pages = e.pages;
      accepted = λ at under sealed made_count quiet is.
          not_node old.engine.geometry (page_of c.args.line) at (got.found (Forgery at under sealed made_count) quiet is);
      once = λ quiet short. (omega (arith, got.once), λ other. e.step.lines.reads other);
      few = omega (arith, got.once);
      hit = λ cached quiet short. let same = got.idle cached in omega (arith, same);
      hit_overflow = λ cached. let same = got.idle cached in omega (arith, same);
    }

pub returns-in_err-reserve : goal.returns-in_err-reserve
returns-in_err-reserve g c =
    let h = g.B.Bus.history in
    let m = g.B.Bus.moved in
    let d = g.T.Tagger.data_tag_of in
    let n = g.T.Tagger.node_tag_of in
    let old = c.args.outside.now in
    let counters = c.args.counters.now in
    let e = c.in_ok-block.ensures in
    let got = got_by h m d n c.args.line old counters c.get.new.self c.get.new.counters c.page_of-page.result None c.page_of-page.ensures.page c.requires.geometry
    c.requires.fits e.step e.had e.pads (e.nodes c.requires.pages c.requires.fits c.requires.current) in
    let had = foreseen_of c.args.limit got c.requires.inside c.page_of-page.ensures.page c.place_of-place.ensures.place e.answer e.is_block c.get-2.ensures.counter
    c.of.ensures.outcome in
    let differs = c.in_err-reserve.ensures.refused in
    let same_bus : h c.reserve.new.self.bus ≡ h c.get.new.self.bus = ap h differs.bus in
    let same_accesses = ap (λ (t : BusHistory). t.accesses) same_bus in
    let stop : result_err c.from_residual-in_err-reserve.result ≡ Some NoMemory = search rules in
    record {
      written = subst (λ (s : Option MemStop). IsWrite (terms_of h m d n old) c.args.limit c.args.line c.args.bytes.now old counters c.reserve.new.self c.get.new.counters s) (sym stop)
          (stopped_early h m d n old counters c.reserve.new.self c.get.new.counters NoMemory
          (refused_reached h m d n old counters c.get.new.self c.get.new.counters got.reached g.met.B.Bus.unmoved g.met.B.Bus.moved_on c.reserve.new.self differs)
          c.args.limit c.args.line c.args.bytes.now c.requires.risen (λ page is. cc)
          (inl (λ quiet page. ap (λ e. counters_in c.get.new.counters e.made page) differs.engine
          ∙ got.same (sym (ap (λ e. e.evidence) differs.engine) ∙ quiet) page)) (λ place is. absurd (cc))
          (λ quiet last. (
            λ page. ap (λ e. counters_in c.get.new.counters e.made page) differs.engine
                ∙ got.same (sym (ap (λ e. e.evidence) differs.engine) ∙ quiet) page,
            omega (arith, got.once, same_accesses),
          ))
          (come_idle (terms_of h m d n old) (page_of c.args.line) old c.get.new.self c.reserve.new.self counters c.get.new.counters (Some NoMemory) differs.bus
          (ap (λ e. e.made) differs.engine) (ap (λ e. e.evidence) differs.engine) got.come));
      under = write_roomless h m (tags_of d n) c.args.line old counters c.get.new.self c.get.new.counters got.first c.args.limit c.of.result
          (foreseen_here c.requires.current had)
          g.met.B.Bus.unmoved c.reserve.new.self (result_err c.from_residual-in_err-reserve.result) stop c.in_default.not-Spent differs;
      cached = λ going. got_cached h m d n c.args.line old counters c.get.new.self c.get.new.counters got.first;
      pages = e.pages;
      accepted = λ at under sealed made_count quiet is.
          not_node old.engine.geometry (page_of c.args.line) at
          (got.found (Forgery at under sealed made_count) quiet (sym (ap (λ e. e.evidence) differs.engine) ∙ is));
      once = λ quiet short. (
        omega (arith, got.once, same_accesses),
        λ other. ap (λ (t : BusHistory). t.reads (line_place other)) same_bus ∙ e.step.lines.reads other,
      );
      few = omega (arith, got.once, same_accesses);
      hit = λ cached quiet short. let same = got.idle cached in omega (arith, same, same_accesses);
      hit_overflow = λ cached. let same = got.idle cached in omega (arith, same, same_accesses);
    }

-- counting comes to what was foreseen
pub returns-in-Spent-count : goal.returns-in-Spent-count
returns-in-Spent-count g c =
    let e = c.in_ok-block.ensures in
    let got = got_by g.B.Bus.history g.B.Bus.moved g.T.Tagger.data_tag_of g.T.Tagger.node_tag_of c.args.line c.args.outside.now c.args.counters.now c.get.new.self
    c.get.new.counters c.page_of-page.result None c.page_of-page.ensures.page c.requires.geometry
    c.requires.fits e.step e.had e.pads (e.nodes c.requires.pages c.requires.fits c.requires.current) in
    let had = foreseen_of c.args.limit got c.requires.inside c.page_of-page.ensures.page c.place_of-place.ensures.place e.answer e.is_block c.get-2.ensures.counter
    c.of.ensures.outcome in
    absurd (c.in_default.not-Spent (sym (counted_here c.requires.current had c.count.ensures.counted) ∙ c.in-Spent-count.is))

pub returns-in_err-seal-in-Line : goal.returns-in_err-seal-in-Line
returns-in_err-seal-in-Line g c =
    let stop : result_err c.from_residual-in_err-seal-in-Line.result ≡ Some NoMemory = search rules in
    let h = g.B.Bus.history in
    let m = g.B.Bus.moved in
    let d = g.T.Tagger.data_tag_of in
    let n = g.T.Tagger.node_tag_of in
    let old = c.args.outside.now in
    let counters = c.args.counters.now in
    let e = c.in_ok-block.ensures in
    let got = got_by h m d n c.args.line old counters c.get.new.self c.get.new.counters c.page_of-page.result None c.page_of-page.ensures.page c.requires.geometry
    c.requires.fits e.step e.had e.pads (e.nodes c.requires.pages c.requires.fits c.requires.current) in
    let had = foreseen_of c.args.limit got c.requires.inside c.page_of-page.ensures.page c.place_of-place.ensures.place e.answer e.is_block c.get-2.ensures.counter
    c.of.ensures.outcome in
    let same_bus : h c.reserve.new.self.bus ≡ h c.get.new.self.bus =
    ap (λ (o : OutsideView g.row.B.Denot g.row.T.Denot). h o.bus) c.in_ok-reserve.ensures.taken in
    let same_geometry : c.reserve.new.self.engine.geometry ≡ old.engine.geometry =
    ap (λ (o : OutsideView g.row.B.Denot g.row.T.Denot). o.engine.geometry) c.in_ok-reserve.ensures.taken ∙ e.step.step.geometry in
    let same_accesses = ap (λ (t : BusHistory). t.accesses) same_bus in
    let u = counted_up_by g.B.Bus.history g.B.Bus.moved g.T.Tagger.data_tag_of g.T.Tagger.node_tag_of c.reserve.new.self c.get.new.counters c.count.new.self c.page_of-page.result c.place_of-place.result c.args.limit c.count.result c.count.ensures.counted e.had.copies c.count.ensures.copies in
    let bumped_evidence : c.reserve.new.self.engine.evidence ≡ c.get.new.self.engine.evidence = ap (λ (o : OutsideView g.row.B.Denot g.row.T.Denot). o.engine.evidence) c.in_ok-reserve.ensures.taken in
    let up = successive c.requires.current had g.met.B.Bus.unmoved g.met.B.Bus.moved_on c.reserve.new.self c.count.new.self
    c.count.result c.in_ok-reserve.ensures.taken u in
    let s = c.seal.ensures in
    let same_last : h c.seal.new.self.bus ≡ h c.reserve.new.self.bus = c.in_err-seal-in-Line.ensures.err in
    let last_accesses = ap (λ (t : BusHistory). t.accesses) same_last in
    record {
      written = subst (λ (s : Option MemStop). IsWrite (terms_of h m d n old) c.args.limit c.args.line c.args.bytes.now old counters c.seal.new.self c.count.new.self s) (sym stop)
          (line_unwritten c.requires.current had g.met.B.Bus.unmoved g.met.B.Bus.moved_on up c.requires.started c.args.bytes.now c.in-Line.counter c.in-Line.is
          (c.count.ensures.line c.in-Line.counter c.in-Line.is).written c.of.ensures.line c.seal.new.self s.used s.made s.undone s.moves s.honest
          c.requires.risen c.in_err-seal-in-Line.ensures.accesses same_last);
      under = write_counted h m (tags_of d n) c.args.line old counters c.get.new.self c.get.new.counters got.first c.args.limit c.of.result
          (foreseen_here c.requires.current had)
          c.seal.new.self c.count.new.self (result_err c.from_residual-in_err-seal-in-Line.result) c.page_of-page.result c.place_of-place.result c.count.result 1
          c.page_of-page.ensures.page c.place_of-place.ensures.place c.count.ensures.counted
          (counted_here c.requires.current had c.count.ensures.counted)
          c.in_default.not-Spent (λ other is. let both : Some NoMemory ≡ Some (spent_page other) = sym stop ∙ is in absurd (cc))
          (subst (MakesAccesses m (tags_of d n c.get.new.self.engine) c.get.new.self.bus c.get.new.self.engine c.seal.new.self.bus c.seal.new.self.engine) (sym stop)
          (traced_since m d n c.get.new.self c.reserve.new.self c.seal.new.self (Some NoMemory) c.in_ok-reserve.ensures.taken c.in_err-seal-in-Line.ensures.accesses))
          (entries_of_line c.get.new.self c.reserve.new.self c.seal.new.self.pads.used c.args.line c.in-Line.counter c.count.result c.in_ok-reserve.ensures.taken c.in-Line.is
          (c.count.ensures.line c.in-Line.counter c.in-Line.is).written (ap (λ (p : PadEngineView). p.used) s.used))
          (messages_of_line c.get.new.self c.reserve.new.self c.seal.new.self.engine _ c.in_ok-reserve.ensures.taken s.made)
          (λ counter is. (refl, omega (arith, same_accesses, last_accesses))) (omega (arith, same_accesses, last_accesses));
      cached = λ going. subst (λ (p : ℕ). Contains (cached_pages c.count.new.self) p) c.page_of-page.ensures.page u.cached;
      pages = u.inside old.engine.geometry e.pages;
      accepted = λ at under sealed made_count quiet is.
          not_node old.engine.geometry (page_of c.args.line) at
          (got.found (Forgery at under sealed made_count) quiet (sym (ap (λ e. e.evidence) s.made ∙ bumped_evidence) ∙ is));
      once = λ quiet short. (
        omega (arith, got.once, same_accesses, same_geometry, last_accesses),
        λ other. ap (λ (t : BusHistory). t.reads (line_place other)) same_last ∙ ap (λ (t : BusHistory). t.reads (line_place other)) same_bus ∙ e.step.lines.reads other,
      );
      few = omega (arith, got.once, same_accesses, same_geometry, last_accesses);
      hit = λ cached quiet short. let same = got.idle cached in omega (arith, same, same_accesses, last_accesses);
      hit_overflow = λ cached. let same = got.idle cached in omega (arith, same, same_accesses, last_accesses);
    }

pub returns-in_ok-seal-in-Line : goal.returns-in_ok-seal-in-Line
returns-in_ok-seal-in-Line g c =
    let h = g.B.Bus.history in
    let m = g.B.Bus.moved in
    let d = g.T.Tagger.data_tag_of in
    let n = g.T.Tagger.node_tag_of in
    let old = c.args.outside.now in
    let counters = c.args.counters.now in
    let e = c.in_ok-block.ensures in
    let got = got_by h m d n c.args.line old counters c.get.new.self c.get.new.counters c.page_of-page.result None c.page_of-page.ensures.page c.requires.geometry
    c.requires.fits e.step e.had e.pads (e.nodes c.requires.pages c.requires.fits c.requires.current) in
    let had = foreseen_of c.args.limit got c.requires.inside c.page_of-page.ensures.page c.place_of-place.ensures.place e.answer e.is_block c.get-2.ensures.counter
    c.of.ensures.outcome in
    let same_bus : h c.reserve.new.self.bus ≡ h c.get.new.self.bus =
    ap (λ (o : OutsideView g.row.B.Denot g.row.T.Denot). h o.bus) c.in_ok-reserve.ensures.taken in
    let same_geometry : c.reserve.new.self.engine.geometry ≡ old.engine.geometry =
    ap (λ (o : OutsideView g.row.B.Denot g.row.T.Denot). o.engine.geometry) c.in_ok-reserve.ensures.taken ∙ e.step.step.geometry in
    let same_accesses = ap (λ (t : BusHistory). t.accesses) same_bus in
    let u = counted_up_by g.B.Bus.history g.B.Bus.moved g.T.Tagger.data_tag_of g.T.Tagger.node_tag_of c.reserve.new.self c.get.new.counters c.count.new.self c.page_of-page.result c.place_of-place.result c.args.limit c.count.result c.count.ensures.counted e.had.copies c.count.ensures.copies in
    let bumped_evidence : c.reserve.new.self.engine.evidence ≡ c.get.new.self.engine.evidence = ap (λ (o : OutsideView g.row.B.Denot g.row.T.Denot). o.engine.evidence) c.in_ok-reserve.ensures.taken in
    let up = successive c.requires.current had g.met.B.Bus.unmoved g.met.B.Bus.moved_on c.reserve.new.self c.count.new.self
    c.count.result c.in_ok-reserve.ensures.taken u in
    let s = c.seal.ensures in
    let wrote = c.in_ok-seal-in-Line.ensures.ok in
    let put = sealed_line (tags_of d n c.reserve.new.self.engine) c.args.line c.in-Line.counter
    (cipher_of c.reserve.new.self.pads.key c.args.line c.in-Line.counter c.args.bytes.now) in
    let one = wrote_once (line_place c.args.line) put (h c.reserve.new.self.bus) (h c.seal.new.self.bus) wrote in
    let last_accesses = one_access _ _ _ _ wrote in
    record {
      written = line_written c.requires.current had g.met.B.Bus.unmoved g.met.B.Bus.moved_on up c.requires.started c.args.bytes.now c.in-Line.counter c.in-Line.is
          (c.count.ensures.line c.in-Line.counter c.in-Line.is).written c.of.ensures.line c.seal.new.self s.used s.made s.undone s.moves s.honest
          c.requires.risen c.in_ok-seal-in-Line.ensures.accesses wrote;
      under = write_counted h m (tags_of d n) c.args.line old counters c.get.new.self c.get.new.counters got.first c.args.limit c.of.result
          (foreseen_here c.requires.current had)
          c.seal.new.self c.count.new.self None c.page_of-page.result c.place_of-place.result c.count.result 1
          c.page_of-page.ensures.page c.place_of-place.ensures.place c.count.ensures.counted
          (counted_here c.requires.current had c.count.ensures.counted)
          c.in_default.not-Spent (λ other is. absurd (cc))
          (traced_since m d n c.get.new.self c.reserve.new.self c.seal.new.self None c.in_ok-reserve.ensures.taken c.in_ok-seal-in-Line.ensures.accesses)
          (entries_of_line c.get.new.self c.reserve.new.self c.seal.new.self.pads.used c.args.line c.in-Line.counter c.count.result c.in_ok-reserve.ensures.taken c.in-Line.is
          (c.count.ensures.line c.in-Line.counter c.in-Line.is).written (ap (λ (p : PadEngineView). p.used) s.used))
          (messages_of_line c.get.new.self c.reserve.new.self c.seal.new.self.engine _ c.in_ok-reserve.ensures.taken s.made)
          (λ counter is. (refl, omega (arith, same_accesses, last_accesses))) (omega (arith, same_accesses, last_accesses));
      cached = λ going. subst (λ (p : ℕ). Contains (cached_pages c.count.new.self) p) c.page_of-page.ensures.page u.cached;
      pages = u.inside old.engine.geometry e.pages;
      accepted = λ at under sealed made_count quiet is.
          not_node old.engine.geometry (page_of c.args.line) at
          (got.found (Forgery at under sealed made_count) quiet (sym (ap (λ e. e.evidence) s.made ∙ bumped_evidence) ∙ is));
      once = λ quiet short. (
        omega (arith, got.once, same_accesses, same_geometry, last_accesses),
        λ other. ap (λ (f : Place → ℕ). f (line_place other)) one.reads ∙ ap (λ (t : BusHistory). t.reads (line_place other)) same_bus ∙ e.step.lines.reads other,
      );
      few = omega (arith, got.once, same_accesses, same_geometry, last_accesses);
      hit = λ cached quiet short. let same = got.idle cached in omega (arith, same, same_accesses, last_accesses);
      hit_overflow = λ cached. let same = got.idle cached in omega (arith, same, same_accesses, last_accesses);
    }

pub reencrypt_page-requires : goal.reencrypt_page-requires
reencrypt_page-requires g c =
    let h = g.B.Bus.history in
    let m = g.B.Bus.moved in
    let d = g.T.Tagger.data_tag_of in
    let n = g.T.Tagger.node_tag_of in
    let old = c.args.outside.now in
    let counters = c.args.counters.now in
    let e = c.in_ok-block.ensures in
    let got = got_by h m d n c.args.line old counters c.get.new.self c.get.new.counters c.page_of-page.result None c.page_of-page.ensures.page c.requires.geometry
    c.requires.fits e.step e.had e.pads (e.nodes c.requires.pages c.requires.fits c.requires.current) in
    let had = foreseen_of c.args.limit got c.requires.inside c.page_of-page.ensures.page c.place_of-place.ensures.place e.answer e.is_block c.get-2.ensures.counter
    c.of.ensures.outcome in
    let u = counted_up_by g.B.Bus.history g.B.Bus.moved g.T.Tagger.data_tag_of g.T.Tagger.node_tag_of c.reserve.new.self c.get.new.counters c.count.new.self c.page_of-page.result c.place_of-place.result c.args.limit c.count.result c.count.ensures.counted e.had.copies c.count.ensures.copies in
    let up = successive c.requires.current had g.met.B.Bus.unmoved g.met.B.Bus.moved_on c.reserve.new.self c.count.new.self
    c.count.result c.in_ok-reserve.ensures.taken u in
    let rooms = mid_rooms c.requires.current had g.met.B.Bus.unmoved g.met.B.Bus.moved_on up in
    record {
      inside = mid_inside c.requires.current had g.met.B.Bus.unmoved g.met.B.Bus.moved_on up;
      consistent = mid_kept c.requires.current had g.met.B.Bus.unmoved g.met.B.Bus.moved_on up;
      holds_last = mid_last c.requires.current had g.met.B.Bus.unmoved g.met.B.Bus.moved_on up;
      risen = mid_rose c.requires.current had g.met.B.Bus.unmoved g.met.B.Bus.moved_on up c.requires.risen;
      counters = mid_counters c.requires.current had g.met.B.Bus.unmoved g.met.B.Bus.moved_on up c.requires.started;
      later = mid_later c.requires.current had g.met.B.Bus.unmoved g.met.B.Bus.moved_on up c.in-Page.raised c.in-Page.is c.of.ensures.overflow;
      room = rooms.1;
      pads_room = rooms.0;
    }

pub returns-in-Page : goal.returns-in-Page
returns-in-Page g c =
    let h = g.B.Bus.history in
    let m = g.B.Bus.moved in
    let d = g.T.Tagger.data_tag_of in
    let n = g.T.Tagger.node_tag_of in
    let old = c.args.outside.now in
    let counters = c.args.counters.now in
    let e = c.in_ok-block.ensures in
    let got = got_by h m d n c.args.line old counters c.get.new.self c.get.new.counters c.page_of-page.result None c.page_of-page.ensures.page c.requires.geometry
    c.requires.fits e.step e.had e.pads (e.nodes c.requires.pages c.requires.fits c.requires.current) in
    let had = foreseen_of c.args.limit got c.requires.inside c.page_of-page.ensures.page c.place_of-place.ensures.place e.answer e.is_block c.get-2.ensures.counter
    c.of.ensures.outcome in
    let same_bus : h c.reserve.new.self.bus ≡ h c.get.new.self.bus =
    ap (λ (o : OutsideView g.row.B.Denot g.row.T.Denot). h o.bus) c.in_ok-reserve.ensures.taken in
    let same_geometry : c.reserve.new.self.engine.geometry ≡ old.engine.geometry =
    ap (λ (o : OutsideView g.row.B.Denot g.row.T.Denot). o.engine.geometry) c.in_ok-reserve.ensures.taken ∙ e.step.step.geometry in
    let same_accesses = ap (λ (t : BusHistory). t.accesses) same_bus in
    let u = counted_up_by g.B.Bus.history g.B.Bus.moved g.T.Tagger.data_tag_of g.T.Tagger.node_tag_of c.reserve.new.self c.get.new.counters c.count.new.self c.page_of-page.result c.place_of-place.result c.args.limit c.count.result c.count.ensures.counted e.had.copies c.count.ensures.copies in
    let bumped_evidence : c.reserve.new.self.engine.evidence ≡ c.get.new.self.engine.evidence = ap (λ (o : OutsideView g.row.B.Denot g.row.T.Denot). o.engine.evidence) c.in_ok-reserve.ensures.taken in
    let bumped_used = ap (λ (o : OutsideView g.row.B.Denot g.row.T.Denot). length o.pads.used) c.in_ok-reserve.ensures.taken ∙ ap length e.step.used in
    let write : LineWrite = record { line = c.args.line; bytes = c.args.bytes.now; counter = record { page = c.in-Page.raised; line = 0 } } in
    let up = successive c.requires.current had g.met.B.Bus.unmoved g.met.B.Bus.moved_on c.reserve.new.self c.count.new.self
    c.count.result c.in_ok-reserve.ensures.taken u in
    let p = c.reencrypt_page.ensures in
    record {
      written = page_written c.requires.current had g.met.B.Bus.unmoved g.met.B.Bus.moved_on up c.requires.started c.args.bytes.now c.in-Page.raised c.in-Page.is c.of.ensures.overflow
          c.reencrypt_page.new.self (result_err c.reencrypt_page.result) p.sealed;
      under = write_counted h m (tags_of d n) c.args.line old counters c.get.new.self c.get.new.counters got.first c.args.limit c.of.result
          (foreseen_here c.requires.current had)
          c.reencrypt_page.new.self c.count.new.self (result_err c.reencrypt_page.result) c.page_of-page.result c.place_of-place.result c.count.result p.sealed.count
          c.page_of-page.ensures.page c.place_of-place.ensures.place c.count.ensures.counted
          (counted_here c.requires.current had c.count.ensures.counted)
          c.in_default.not-Spent p.sealed.sealed.unspent
          (traced_since m d n c.get.new.self c.reserve.new.self c.reencrypt_page.new.self (result_err c.reencrypt_page.result) c.in_ok-reserve.ensures.taken p.sealed.sealed.trace)
          (entries_of_page c.get.new.self c.reserve.new.self c.reencrypt_page.new.self.pads.used c.args.line c.in-Page.raised p.sealed.count c.count.result
          c.in_ok-reserve.ensures.taken c.in-Page.is p.sealed.sealed.entries)
          (messages_of_page c.get.new.self c.reserve.new.self c.reencrypt_page.new.self.engine.made p.sealed.sealed.step.more (page_lines (page_of c.args.line)) p.sealed.count
          c.in_ok-reserve.ensures.taken p.sealed.sealed.step.made p.sealed.sealed.as_many p.sealed.within)
          (λ counter is. let both : Page c.in-Page.raised ≡ Line counter = sym c.in-Page.is ∙ is in absurd (cc)) (omega (arith, same_accesses, p.once));
      cached = λ going. subst (λ (p : ℕ). Contains (cached_pages c.count.new.self) p) c.page_of-page.ensures.page u.cached;
      pages = u.inside old.engine.geometry e.pages;
      accepted = λ at under sealed made_count quiet is.
          let still = before_line old.engine.geometry (page_of c.args.line) at under sealed made_count c.reserve.new.self.engine.evidence c.reencrypt_page.new.self.engine.evidence
          (λ evidence there. got.found evidence quiet (sym bumped_evidence ∙ there)) p.sealed.sealed.step.evidence is in
          let accepted = p.accepted at under sealed made_count still is in
          let as_many = made_as_used (terms_of h m d n c.reserve.new.self) write c.reserve.new.self (take p.sealed.count (page_lines (page_of c.args.line)))
          c.reencrypt_page.new.self (result_err c.reencrypt_page.result) p.sealed.sealed in
          record { beside = accepted.0; since = omega (arith, accepted.1, as_many, bumped_used) };
      once = λ quiet short. absurd (short (page_overflows c.requires.current had g.met.B.Bus.unmoved g.met.B.Bus.moved_on up c.requires.started c.args.bytes.now c.in-Page.raised c.in-Page.is c.of.ensures.overflow
          c.reencrypt_page.new.self (result_err c.reencrypt_page.result) p.sealed quiet));
      few = omega (arith, got.once, same_accesses, same_geometry, p.once);
      hit = λ cached quiet short. absurd (short (page_overflows c.requires.current had g.met.B.Bus.unmoved g.met.B.Bus.moved_on up c.requires.started c.args.bytes.now c.in-Page.raised c.in-Page.is c.of.ensures.overflow
          c.reencrypt_page.new.self (result_err c.reencrypt_page.result) p.sealed quiet));
      hit_overflow = λ cached. let same = got.idle cached in omega (arith, same, same_accesses, p.once);
    }
