use Rattle.std.proofs.Common.{◌≡◌, ◌≢◌, ◌<◌, None, List, ℕ, Ok, Err, rules, sym, ◌∙◌, subst}
use Rattle.std.proofs.lemmas.Bool.Decides.{not_from_Decides}
use Rattle.sec_base.specs.Geometry.{line_count}
use Rattle.sec_base.proofs.SameMessages.{counter_eq-Decides}
use Rattle.page_reencrypt.specs.Contents.{never_written}
use Rattle.page_reencrypt.specs.Outside.{AreConsistent, HasCounter, HaveLast, HaveRisen, IsReadAt, OutsideView, terms_of}
use Rattle.page_reencrypt.proofs.LineReads.{checked_read, fresh_read}
use Rattle.page_reencrypt.proofs.outside.Outside.read.Goals as goal

pub returns-then-eq : goal.returns-then-eq
returns-then-eq g c = record {
  read =
      fresh_read g.B.Bus.history g.B.Bus.moved g.T.Tagger.data_tag_of g.T.Tagger.node_tag_of c.args.self.now c.args.line c.args.counter
      c.requires.consistent c.requires.holds_last c.requires.risen c.requires.inside c.requires.counter g.met.B.Bus.unmoved
      ((counter_eq-Decides c.args.counter never_written).0 (sym c.eq.ensures ∙ c.if-eq.true));
}

pub returns-in_err-cipher : goal.returns-in_err-cipher
returns-in_err-cipher g c =
    let h = g.B.Bus.history in
    let m = g.B.Bus.moved in
    let d = g.T.Tagger.data_tag_of in
    let n = g.T.Tagger.node_tag_of in
    let old : OutsideView g.row.B.Denot g.row.T.Denot = record { bus = c.self.inside.bus; engine = c.self.inside.tags; pads = c.self.inside.pads } in
    let kept : AreConsistent (terms_of h m d n old) old = rw (← c.self.view_is) at c.requires.consistent in
    let last : HaveLast (terms_of h m d n old) old = rw (← c.self.view_is) at c.requires.holds_last in
    let rose : HaveRisen (terms_of h m d n old) old = rw (← c.self.view_is) at c.requires.risen in
    let inside : c.args.line < line_count old.engine.geometry = rw (← c.self.view_is) at c.requires.inside in
    let had : old.engine.evidence ≡ None → HasCounter old.pads.used c.args.line c.args.counter = rw (← c.self.view_is) at c.requires.counter in
    let some : c.args.counter ≢ never_written = not_from_Decides _ (counter_eq-Decides c.args.counter never_written) (sym c.eq.ensures ∙ c.if-eq.false) in
    let r = c.in_err-cipher.ensures in
    let is : c.from_residual.result ≡ Err c.in_err-cipher.field-0.0 = search rules in
    record {
      read = rw (← c.self.view_is, is)
          (checked_read h m d n old c.args.line c.args.counter kept last rose inside had some c.read_line-cipher.new.bus c.read_line-cipher.new.tags (Err c.in_err-cipher.field-0.0) r.reads);
    }

pub returns : goal.returns
returns g c =
    let h = g.B.Bus.history in
    let m = g.B.Bus.moved in
    let d = g.T.Tagger.data_tag_of in
    let n = g.T.Tagger.node_tag_of in
    let old : OutsideView g.row.B.Denot g.row.T.Denot = record { bus = c.self.inside.bus; engine = c.self.inside.tags; pads = c.self.inside.pads } in
    let kept : AreConsistent (terms_of h m d n old) old = rw (← c.self.view_is) at c.requires.consistent in
    let last : HaveLast (terms_of h m d n old) old = rw (← c.self.view_is) at c.requires.holds_last in
    let rose : HaveRisen (terms_of h m d n old) old = rw (← c.self.view_is) at c.requires.risen in
    let inside : c.args.line < line_count old.engine.geometry = rw (← c.self.view_is) at c.requires.inside in
    let had : old.engine.evidence ≡ None → HasCounter old.pads.used c.args.line c.args.counter = rw (← c.self.view_is) at c.requires.counter in
    let some : c.args.counter ≢ never_written = not_from_Decides _ (counter_eq-Decides c.args.counter never_written) (sym c.eq.ensures ∙ c.if-eq.false) in
    let r = c.in_ok-cipher.ensures in
    record {
      read = rw (← c.self.view_is)
          (subst (λ (bytes : List ℕ). IsReadAt (terms_of h m d n old) c.args.line c.args.counter old
          (let o : OutsideView g.row.B.Denot g.row.T.Denot = record { bus = c.read_line-cipher.new.bus; engine = c.read_line-cipher.new.tags; pads = c.self.inside.pads } in o) (Ok bytes))
          (sym c.decrypt.ensures.plain)
          (checked_read h m d n old c.args.line c.args.counter kept last rose inside had some c.read_line-cipher.new.bus c.read_line-cipher.new.tags (Ok c.in_ok-cipher.field-0) r.reads));
    }
