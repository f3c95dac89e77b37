use Rattle.std.proofs.Common.{◌≡◌, Bool, false, [], ◌∷◌, Result, Ok, Err, List, ℕ, ap, refl, rules, sym, ◌∙◌, subst}
use Rattle.sec_base.specs.Evidence.{sealed_bytes}
use Rattle.sec_base.specs.declared.place.Place.TheVariants.{Line as line_place}
use Rattle.sec_base.specs.declared.stop.MemStop.{MemStop}
use Rattle.sec_base.specs.declared.stop.MemStop.TheVariants.{Tampered, NoMemory}
use Rattle.bus_model.specs.Access.{Read}
use Rattle.tag_engine.specs.TagEngine.{after_check_data, tags_of}
use Rattle.tag_engine.proofs.Upkeep.{failed_check}
use Rattle.checked_bus.specs.Checks.{Failed, IsCheckedRead, Passed}
use Rattle.checked_bus.proofs.CheckedReads.{line_reads, line_tags_long}
use Rattle.checked_bus.proofs.line.read_line.Goals as goal

-- Refused, out of memory

pub returns-in_err-sealed : goal.returns-in_err-sealed
returns-in_err-sealed g c =
    let tag_of = tags_of g.T.Tagger.data_tag_of g.T.Tagger.node_tag_of c.args.tags.now in
    let is : c.from_residual.result ≡ Err NoMemory = search rules in record {
      reads = (
        [],
        c.in_err-sealed.ensures.access,
        line_reads tag_of c.args.line c.args.counter
            (g.B.Bus.history c.args.bus.now) (g.B.Bus.history c.read_data.new.self) c.args.tags.now c.args.tags.now
            [] (g.met.B.Bus.told c.args.bus.now c.read_data.new.self [] c.in_err-sealed.ensures.access) c.requires.line
            (line_tags_long g.T.Tagger.data_tag_of g.T.Tagger.node_tag_of c.args.tags.now c.args.line c.args.counter g.met.T.Tagger.data_tag_long)
            c.from_residual.result
            (subst (λ (result : Result (List ℕ) MemStop). IsCheckedRead tag_of c.args.line c.args.counter [] c.args.tags.now c.args.tags.now result)
            (sym is) (refl, refl)),
      );
    }

-- Failed

pub returns-then-not-check_data : goal.returns-then-not-check_data
returns-then-not-check_data g c =
    let tag_of = tags_of g.T.Tagger.data_tag_of g.T.Tagger.node_tag_of c.args.tags.now in
    let accesses = Read (line_place c.args.line) (sealed_bytes c.in_ok-sealed.sealed) ∷ [] in
    let failed : c.check_data.result ≡ false = search rules in
    let read : Failed tag_of c.args.line c.args.counter accesses c.args.tags.now c.check_data.new.self =
    record {
      sealed = c.in_ok-sealed.sealed;
      untagged = λ tagged. let passes = c.check_data.ensures.passes.1 tagged in absurd (cc);
      answered = refl;
      long = search rules;
      tag_long = search rules;
      unchanged = c.check_data.ensures.state
          ∙ ap (λ (passes : Bool). after_check_data c.args.line c.args.counter c.in_ok-sealed.sealed passes c.args.tags.now) failed
          ∙ sym (failed_check c.args.tags.now c.args.line c.args.counter c.in_ok-sealed.sealed);
    } in record {
      reads = (
        accesses,
        c.in_ok-sealed.ensures.access,
        line_reads tag_of c.args.line c.args.counter
            (g.B.Bus.history c.args.bus.now) (g.B.Bus.history c.read_data.new.self) c.args.tags.now c.check_data.new.self
            accesses (g.met.B.Bus.told c.args.bus.now c.read_data.new.self accesses c.in_ok-sealed.ensures.access) c.requires.line
            (line_tags_long g.T.Tagger.data_tag_of g.T.Tagger.node_tag_of c.args.tags.now c.args.line c.args.counter g.met.T.Tagger.data_tag_long)
            (Err (Tampered (line_place c.args.line))) (refl, read),
      );
    }

-- Passed

pub returns : goal.returns
returns g c =
    let tag_of = tags_of g.T.Tagger.data_tag_of g.T.Tagger.node_tag_of c.args.tags.now in
    let accesses = Read (line_place c.args.line) (sealed_bytes c.in_ok-sealed.sealed) ∷ [] in
    let read : Passed tag_of c.args.line c.args.counter accesses c.args.tags.now c.check_data.new.self c.in_ok-sealed.sealed.cipher = search rules in record {
      reads = (
        accesses,
        c.in_ok-sealed.ensures.access,
        line_reads tag_of c.args.line c.args.counter
            (g.B.Bus.history c.args.bus.now) (g.B.Bus.history c.read_data.new.self) c.args.tags.now c.check_data.new.self
            accesses (g.met.B.Bus.told c.args.bus.now c.read_data.new.self accesses c.in_ok-sealed.ensures.access) c.requires.line
            (line_tags_long g.T.Tagger.data_tag_of g.T.Tagger.node_tag_of c.args.tags.now c.args.line c.args.counter g.met.T.Tagger.data_tag_long)
            (Ok c.in_ok-sealed.sealed.cipher) read,
      );
    }
