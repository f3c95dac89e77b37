-- The steps of a read of a line: its page's counters are had, and then its place is read.
use Rattle.std.proofs.Common.{◌≡◌, inl, inr, ℕ, List, ◌++◌, Option, Some, None, Result, Ok, Err, refl, ap, sym, ◌∙◌, subst, arith}
use Rattle.std.specs.Result.{result_err}
use Rattle.std.proofs.lemmas.Option.{same_Some}
use Rattle.sec_base.specs.declared.counter.Counter.{Counter}
use Rattle.sec_base.specs.declared.evidence.Evidence.{Evidence}
use Rattle.sec_base.specs.declared.evidence.Evidence.TheVariants.{Forgery}
use Rattle.sec_base.specs.declared.message.Message.{Message}
use Rattle.sec_base.specs.declared.place.Place.{Place}
use Rattle.sec_base.specs.declared.place.Place.TheVariants.{Line as line_place, Node as node_place}
use Rattle.sec_base.specs.declared.sealed.Sealed.{Sealed}
use Rattle.sec_base.specs.declared.stop.MemStop.{MemStop}
use Rattle.sec_base.specs.Evidence.{evidence_place}
use Rattle.sec_base.specs.Geometry.{GeometryView, page_of}
use Rattle.sec_base.specs.LastMessage.{last_node}
use Rattle.sec_base.proofs.Results.{if_ok, was_none}
use Rattle.bus_model.specs.Access.{Access}
use Rattle.bus_model.specs.BusHistory.{BusHistory}
use Rattle.pad_stream.specs.Pad.{cipher_of}
use Rattle.pad_stream.specs.PadEngine.{PadEngineView}
use Rattle.checked_bus.specs.Steps.{Moves as StepMoves}
use Rattle.checked_bus.proofs.Makes.{accesses_on}
use Rattle.checked_bus.proofs.Steps.{moves_on as step_on}
use Rattle.bonsai_tree.specs.Tree.{IsFetchPlace}
use Rattle.counter_cache.specs.Counters.{CountersView, counters_in}
use Rattle.page_reencrypt.specs.Consistency.{IsConsistent}
use Rattle.page_reencrypt.specs.Contents.{bytes_of, line_bytes}
use Rattle.page_reencrypt.specs.Outside.{CountersFit, IsLineRead, IsReadAt, MemoryTerms, OutsideView, terms_of}
use Rattle.page_reencrypt.proofs.CountersHad.{IsGot}
use Rattle.page_reencrypt.proofs.Nodes.{fits_same, not_node}
use Rattle.page_reencrypt.proofs.Reaching.{HasCome, come_more, path_more, reached_data, shows_on}
use Rattle.page_reencrypt.proofs.Sealing.{same_terms}
use Rattle.page_reencrypt.proofs.Unmade.{same_consistent}

-- evidence of a line was found where a line was read
pub before_line : (geometry : GeometryView) (page at : ℕ) (counter : Counter) (sealed : Sealed) (made_count : ℕ) (before after : Option Evidence) →
    ((evidence : Evidence) → before ≡ Some evidence → IsFetchPlace geometry page (evidence_place evidence)) →
    ((evidence : Evidence) → before ≡ Some evidence → after ≡ Some evidence) → after ≡ Some (Forgery at counter sealed made_count) → before ≡ None
before_line geometry page at counter sealed made_count None after found stays is = refl
before_line geometry page at counter sealed made_count (Some evidence) after found stays is =
    let same : evidence ≡ Forgery at counter sealed made_count = same_Some evidence (Forgery at counter sealed made_count) (sym (stays evidence refl) ∙ is) in
    not_node geometry page at (subst (λ (e : Evidence). IsFetchPlace geometry page (evidence_place e)) same (found evidence refl))

module _ {B T : Type 0} (history : B → BusHistory) (moved : B → List Access → B → Type 0) (d n : T → List ℕ → List ℕ) (old : OutsideView B T) (counters : CountersView) (line : ℕ) where
  abbrev terms : MemoryTerms B
  terms = terms_of history moved d n old

  -- the counters were not had
  pub unread : (new : OutsideView B T) (counters' : CountersView) (why : MemStop) → IsGot history moved d n line old counters new counters' (Some why) →
      IsLineRead terms line old counters new counters' (Err why)
  unread new counters' why got = record {
    trace = got.reached.node.trace;
    step = got.reached.node.step;
    pairs = got.reached.node.pairs;
    geometry = got.reached.geometry;
    pads = got.first.pads;
    once = omega (arith, got.once);
    hit = λ cached. let idle = got.idle cached in omega (arith, idle);
    written = got.reached.node.lines.written;
    alone = λ other differs. got.reached.node.lines.reads other;
    consistent = got.reached.node.consistent;
    holds_last = got.reached.node.holds_last;
    nodes_hold_last = got.reached.node.nodes_hold_last;
    fits = λ none. absurd (cc);
    same = got.same;
    few = got.come.few;
    copies = got.come.copies;
    nodes = got.reached.nodes;
    value = λ quiet. tt;
    unread = got.come.unread;
    path = λ quiet none. absurd (cc);
    rose = λ quiet none. absurd (cc);
    fresh = λ quiet fresh. got.reached.node.lines.reads line;
    accounted = got.reached.accounted;
    shows = got.reached.shows;
    accepted = λ at under sealed made_count quiet is.
        not_node old.engine.geometry (page_of line) at (got.found (Forgery at under sealed made_count) quiet is);
    tampered = λ place is. let there = got.tampered place (ap result_err is) in (inr there.0, there.1);
    unspent = λ spent is. got.unspent spent (ap result_err is);
  }

  -- they were, and the line was read under its own

  module _ (got : OutsideView B T) (counters' : CountersView) (a : IsGot history moved d n line old counters got counters' None)
      (counter : Counter) (new : OutsideView B T) (result : Result (List ℕ) MemStop)
      (read : IsReadAt (terms_of history moved d n got) line counter got new result) where
    r : IsReadAt terms line counter got new result
    r =
        subst (λ (t : MemoryTerms B). IsReadAt t line counter got new result)
        (same_terms history moved d n old got a.reached.node.step.tagger a.reached.node.step.geometry) read

    abbrev whole_step : StepMoves (history old.bus) old.engine (history new.bus) new.engine
    whole_step =
        let step = step_on (history old.bus) (history got.bus) (history new.bus) old.engine got.engine new.engine a.reached.node.step r.step in
        record step { more = a.reached.node.step.more; made = r.made ∙ a.reached.node.step.made }

    got_quiet : new.engine.evidence ≡ None → got.engine.evidence ≡ None
    got_quiet quiet = was_none got.engine.evidence new.engine.evidence r.step.evidence quiet

    read_fits : CountersFit terms new counters'
    read_fits =
        fits_same terms.tag_of counters' (history got.bus) (history new.bus) got.engine new.engine
        (λ level index. ap (λ (w : Place → List ℕ). w (node_place level index)) r.written)
        (λ level index. ap (λ (made : List Message). last_node level index made) r.made) got_quiet (a.reached.fits refl)

    read_consistent : IsConsistent terms.tag_of terms.geometry (history new.bus) new.engine.made new.pads.used
    read_consistent =
        rw (r.pads, r.made) (same_consistent terms.tag_of terms.geometry (history got.bus) (history new.bus) got.engine.made got.pads.used a.reached.node.consistent r.step.bus_geometry r.written)

    got_bytes : line_bytes got.pads.key got.engine.made line ≡ line_bytes old.pads.key old.engine.made line
    got_bytes = rw a.first.pads (ap (bytes_of old.pads.key line) (reached_data terms old counters got counters' None a.reached line))

    read_come : HasCome terms (page_of line) old counters new counters' (result_err result)
    read_come =
        come_more terms (page_of line) old got new counters counters' (result_err result) r.step.reads got_quiet r.nodes (λ level index. ap (last_node level index) r.made)
        a.come

    pub line_read : ((first second third : B) (before after : List Access) → moved first before second → moved second after third → moved first (before ++ after) third) →
        IsLineRead terms line old counters new counters' result
    line_read moved_on = record {
      trace = accesses_on moved d n moved_on old.bus got.bus new.bus old.engine got.engine new.engine (result_err result)
          a.reached.node.step.geometry a.reached.node.step.tagger r.step.evidence a.reached.node.trace read.trace;
      step = whole_step;
      pairs = a.reached.node.pairs;
      geometry = a.reached.geometry;
      pads = r.pads ∙ a.first.pads;
      once = omega (arith, a.once, r.once);
      hit = λ cached. let idle = a.idle cached in omega (arith, idle, r.once);
      written = λ at. ap (λ (w : Place → List ℕ). w (line_place at)) r.written ∙ a.reached.node.lines.written at;
      alone = λ other differs. r.alone other differs ∙ a.reached.node.lines.reads other;
      consistent = read_consistent;
      holds_last = rw (r.made, r.written) a.reached.node.holds_last;
      nodes_hold_last = λ goes_on. rw (r.made, r.written) (a.reached.node.nodes_hold_last (λ is. cc));
      fits = λ none. read_fits;
      same = λ quiet other. ap (λ (made : List Message). counters_in counters' made other) r.made ∙ a.same (got_quiet quiet) other;
      few = a.come.few;
      copies = read_come.copies;
      nodes = λ quiet was. rw (r.pads, r.made) (a.reached.nodes (got_quiet quiet) was);
      value = λ quiet. if_ok _ _ result (λ bytes is. is ∙ got_bytes) (r.value quiet);
      unread = read_come.unread;
      path = λ quiet none missed.
          path_more counters.tree old.engine.made (page_of line) (history old.bus) (history got.bus) (history new.bus) r.step.reads
          (a.path refl (got_quiet quiet) missed);
      rose = λ quiet none.
          elim (r.rose (got_quiet quiet) (λ memory. cc)) [
            | inl was ↦ inl (rw (← a.first.pads) was)
            | inr up ↦ let before = a.reached.node.lines.reads line in inr (omega (arith, up, before))
          ];
      fresh = λ quiet was.
          let same_all = (r.fresh (got_quiet quiet) (rw a.first.pads was)).1 in
          ap (λ (o : OutsideView B T). (history o.bus).reads (line_place line)) same_all ∙ a.reached.node.lines.reads line;
      accounted = λ was. r.accounted (a.reached.accounted was);
      shows = shows_on terms old got new a.reached.node.step r.step a.reached.shows r.shows;
      accepted = λ at counter_used sealed made_count quiet is.
          let still : got.engine.evidence ≡ None =
          before_line old.engine.geometry (page_of line) at counter_used sealed made_count got.engine.evidence new.engine.evidence (λ evidence there. a.found evidence quiet there)
          r.step.evidence is in
          let answered = r.accepted at counter_used sealed made_count still is in
          (answered.0, answered.1, answered.2 ∙ ap (λ (p : PadEngineView). Ok (cipher_of p.key line counter_used sealed.cipher)) a.first.pads);
      tampered = λ place is.
          let there = r.tampered place is in (
            inl there.0,
            λ quiet.
                elim (a.reached.shows quiet) [
                  | inl still ↦ let rose = there.1 still in omega (arith, rose, a.reached.node.step.lies)
                  | inr rose ↦ omega (arith, rose, r.step.lies)
                ],
          );
      unspent = r.unspent;
    }
