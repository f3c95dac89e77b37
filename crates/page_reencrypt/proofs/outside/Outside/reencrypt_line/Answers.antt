use Rattle.std.proofs.Common.{◌≡◌, length, Some, None, ap, sym, ◌∙◌, arith, rules}
use Rattle.std.specs.Result.{result_err}
use Rattle.sec_base.specs.declared.stop.MemStop.TheVariants.{NoMemory}
use Rattle.tag_engine.specs.TagEngine.{TagEngineView}
use Rattle.page_reencrypt.specs.Outside.{OutsideView}
use Rattle.page_reencrypt.proofs.Reencrypting.{IsBegun, IsReady, line_sealed, line_unwritten, one_access, read_stopped, ready_own, ready_read}
use Rattle.page_reencrypt.proofs.outside.Outside.reencrypt_line.Goals.{then-at-line, else-at-line+in_ok-plain}
use Rattle.page_reencrypt.proofs.outside.Outside.reencrypt_line.Goals as goal

pub returns-in_err-plain-clause-sealed : goal.returns-in_err-plain-clause-sealed
returns-in_err-plain-clause-sealed g c =
    let begun : IsBegun g.B.Bus.history g.B.Bus.moved g.T.Tagger.data_tag_of g.T.Tagger.node_tag_of
    (record { line = c.args.line; bytes = c.args.bytes.now; counter = c.args.counter }) c.args.self.now =
    record { kept = c.requires.consistent; risen = c.requires.risen; last = c.requires.holds_last } in
    let why = c.in_err-plain.field-0.0 in
    let stop : result_err c.from_residual.result ≡ Some why = search rules in
    rw stop
    (read_stopped begun c.args.at c.args.old c.read.new.self why c.if-at-line.false c.requires.of_page c.in_err-plain.ensures.read)

pub returns-in_err-seal-clause-sealed : goal.returns-in_err-seal-clause-sealed
returns-in_err-seal-clause-sealed g c =
    let begun : IsBegun g.B.Bus.history g.B.Bus.moved g.T.Tagger.data_tag_of g.T.Tagger.node_tag_of
    (record { line = c.args.line; bytes = c.args.bytes.now; counter = c.args.counter }) c.args.self.now =
    record { kept = c.requires.consistent; risen = c.requires.risen; last = c.requires.holds_last } in
    let stop : result_err c.from_residual-in_err-seal.result ≡ Some NoMemory = search rules in
    let ready : IsReady begun c.args.at c.if-at-line.plain c.if-at-line.self =
    elim c.if-at-line.branch [
      | then-at-line w ↦ rw w.self-is (ready_own begun c.args.at c.if-at-line.plain g.met.B.Bus.unmoved w.if-at-line.true w.plain-is)
      | else-at-line+in_ok-plain w ↦
          rw w.self-is
          (ready_read begun c.args.at c.args.old c.if-at-line.plain w.in_ok-plain.plain w.read.new.self w.if-at-line.false c.requires.of_page w.in_ok-plain.ensures.read w.plain-is)
    ] in
    rw stop
    (line_unwritten begun c.seal.new.self c.args.old ready c.requires.inside c.requires.counter
    c.seal.ensures.used c.seal.ensures.made c.seal.ensures.undone c.seal.ensures.moves c.seal.ensures.honest g.met.B.Bus.moved_on
    c.in_err-seal.ensures.accesses c.in_err-seal.ensures.err)

pub returns-clause-sealed : goal.returns-clause-sealed
returns-clause-sealed g c =
    let begun : IsBegun g.B.Bus.history g.B.Bus.moved g.T.Tagger.data_tag_of g.T.Tagger.node_tag_of
    (record { line = c.args.line; bytes = c.args.bytes.now; counter = c.args.counter }) c.args.self.now =
    record { kept = c.requires.consistent; risen = c.requires.risen; last = c.requires.holds_last } in
    let ready : IsReady begun c.args.at c.if-at-line.plain c.if-at-line.self =
    elim c.if-at-line.branch [
      | then-at-line w ↦ rw w.self-is (ready_own begun c.args.at c.if-at-line.plain g.met.B.Bus.unmoved w.if-at-line.true w.plain-is)
      | else-at-line+in_ok-plain w ↦
          rw w.self-is
          (ready_read begun c.args.at c.args.old c.if-at-line.plain w.in_ok-plain.plain w.read.new.self w.if-at-line.false c.requires.of_page w.in_ok-plain.ensures.read w.plain-is)
    ] in
    line_sealed begun c.seal.new.self c.args.old ready c.requires.inside c.requires.counter
    c.seal.ensures.used c.seal.ensures.made c.seal.ensures.undone c.seal.ensures.moves c.seal.ensures.honest g.met.B.Bus.moved_on
    c.in_ok-seal.ensures.accesses c.in_ok-seal.ensures.ok

pub returns-clause-once : goal.returns-clause-once
returns-clause-once g c =
    let wrote = one_access _ _ _ _ c.in_ok-seal.ensures.ok in
    elim c.if-at-line.branch [
      | then-at-line w ↦
          let same = ap (λ (o : OutsideView g.row.B.Denot g.row.T.Denot). (g.B.Bus.history o.bus).accesses) w.self-is in omega (arith, wrote, same)
      | else-at-line+in_ok-plain w ↦
          let same = ap (λ (o : OutsideView g.row.B.Denot g.row.T.Denot). (g.B.Bus.history o.bus).accesses) w.self-is in
          omega (arith, wrote, same, w.in_ok-plain.ensures.read.once)
    ]

pub returns-clause-own : goal.returns-clause-own
returns-clause-own g c = λ own.
    let wrote = one_access _ _ _ _ c.in_ok-seal.ensures.ok in
    elim c.if-at-line.branch [
      | then-at-line w ↦
          let same = ap (λ (o : OutsideView g.row.B.Denot g.row.T.Denot). (g.B.Bus.history o.bus).accesses) w.self-is in omega (arith, wrote, same)
      | else-at-line+in_ok-plain w ↦ absurd (w.if-at-line.false own)
    ]

pub returns-in_err-plain-clause-accepted : goal.returns-in_err-plain-clause-accepted
returns-in_err-plain-clause-accepted g c = λ found under answer made_count quiet is.
    let refused = (c.in_err-plain.ensures.read.accepted found under answer made_count quiet is).2 in absurd (cc)

pub returns-in_err-seal-clause-accepted : goal.returns-in_err-seal-clause-accepted
returns-in_err-seal-clause-accepted g c = λ found under answer made_count quiet is.
    let same : c.seal.new.self.engine.evidence ≡ c.if-at-line.self.engine.evidence = ap (λ (e : TagEngineView g.row.T.Denot). e.evidence) c.seal.ensures.made in
    elim c.if-at-line.branch [
      | then-at-line w ↦
          let none : c.if-at-line.self.engine.evidence ≡ None = ap (λ (o : OutsideView g.row.B.Denot g.row.T.Denot). o.engine.evidence) w.self-is ∙ quiet in
          absurd (cc)
      | else-at-line+in_ok-plain w ↦
          let read = w.in_ok-plain.ensures.read in
          let was : c.if-at-line.self.engine.evidence ≡ w.read.new.self.engine.evidence =
          ap (λ (o : OutsideView g.row.B.Denot g.row.T.Denot). o.engine.evidence) w.self-is in
          let there = read.accepted found under answer made_count quiet (sym (same ∙ was) ∙ is) in
          (there.0, w.if-at-line.false, there.1 ∙ ap length read.made)
    ]

pub returns-clause-accepted : goal.returns-clause-accepted
returns-clause-accepted g c = λ found under answer made_count quiet is.
    let same : c.seal.new.self.engine.evidence ≡ c.if-at-line.self.engine.evidence = ap (λ (e : TagEngineView g.row.T.Denot). e.evidence) c.seal.ensures.made in
    elim c.if-at-line.branch [
      | then-at-line w ↦
          let none : c.if-at-line.self.engine.evidence ≡ None = ap (λ (o : OutsideView g.row.B.Denot g.row.T.Denot). o.engine.evidence) w.self-is ∙ quiet in
          absurd (cc)
      | else-at-line+in_ok-plain w ↦
          let read = w.in_ok-plain.ensures.read in
          let was : c.if-at-line.self.engine.evidence ≡ w.read.new.self.engine.evidence =
          ap (λ (o : OutsideView g.row.B.Denot g.row.T.Denot). o.engine.evidence) w.self-is in
          let there = read.accepted found under answer made_count quiet (sym (same ∙ was) ∙ is) in
          (there.0, w.if-at-line.false, there.1 ∙ ap length read.made)
    ]
