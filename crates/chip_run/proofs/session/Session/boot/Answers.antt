use Rattle.std.proofs.Common.{◌≡◌, ℕ, List, refl, sym, ap, ◌∙◌, subst, arith}
use Rattle.rv32_run.proofs.Progress.{goes_not}
use Rattle.rv32_run.proofs.Runs.{opening_begins}
use Rattle.rv32_run.proofs.Trails.{touched_front}
use Rattle.secure_memory.specs.Moving.{moved_on, unmoved}
use Rattle.secure_memory.specs.SecureRam.{IsQuiet, SecureRamView, contents, stopped}
use Rattle.tag_engine.specs.Tag.{engine_tag}
use Rattle.tag_engine.specs.TagEngine.{tags_of}
use Rattle.checked_bus.proofs.Makes.{same_tags}
use Rattle.chip_run.specs.Run.{Terms, run_terms}
use Rattle.chip_run.specs.Running.{HasStored, protected_by}
use Rattle.chip_run.proofs.Runs.{opening_zeros}
use Rattle.chip_run.proofs.Sessions.{came_to_begin, stopped_as, stored_well, stored_whole}
use Rattle.chip_run.proofs.session.Session.boot.Given.{Over}
use Rattle.chip_run.proofs.session.Session.boot.Goals as goal

pub store_image-requires-clause-zeros : goal.store_image-requires-clause-zeros
store_image-requires-clause-zeros g c = λ quiet.
    let lines = c.in_ok-memory.memory.lines in
    let new = c.in_ok-memory.ensures.new in
    opening_zeros lines.pads.key lines.engine.geometry c.args.setup.now.geometry c.args.image.now.size lines.engine.made c.in_ok-memory.memory.ways
    new.unmade new.geometry_is c.requires.size c.in_ok-memory.ensures.none_held

-- its program was stored, as far as its memory went
stored : (g : Over) (c : goal.After-result-1 g) → HasStored g.T.Tagger.data_tag_of g.T.Tagger.node_tag_of g.B.Bus.history g.B.Bus.moved c.args.bus c.args.tagger
    (run_terms c.args.image.now c.args.input.now c.args.setup.now (engine_tag (g.T.Tagger.data_tag_of c.args.tagger) (g.T.Tagger.node_tag_of c.args.tagger) c.args.setup.now.geometry)) c.new.result.memory
stored g c =
    let booted = c.in_ok-memory.ensures in
    let storing = c.store_image.ensures in
    let terms : Terms =
    run_terms c.args.image.now c.args.input.now c.args.setup.now (engine_tag (g.T.Tagger.data_tag_of c.args.tagger) (g.T.Tagger.node_tag_of c.args.tagger) c.args.setup.now.geometry) in
    subst (λ (memory : SecureRamView g.row.B.Denot g.row.T.Denot).
    HasStored g.T.Tagger.data_tag_of g.T.Tagger.node_tag_of g.B.Bus.history g.B.Bus.moved c.args.bus c.args.tagger terms memory) (sym c.new.ensures.memory) (record {
      tags = refl;
      booted = c.in_ok-memory.memory;
      new = booted.new;
      fits = booted.lines_fit;
      none_held = booted.none_held;
      none_cached = booted.none_cached;
      lines = storing.moved.lines;
      stored = storing.moved.moved;
      front = touched_front c.store_image.result terms.stored_lines storing.moved.lines storing.moved.touched;
      whole = λ going.
          stored_whole c.store_image.result terms.stored_lines storing.moved.lines storing.moved.touched
          (sym (stopped_as c.store_image.result (stopped c.store_image.new.ram) storing.goes_on storing.stops) ∙ going);
    })

pub returns-clause-begun : goal.returns-clause-begun
returns-clause-begun g c =
    let image = c.args.image.now in
    let storing = c.store_image.ensures in
    let execution = c.new.result in
    let began = c.new.ensures in
    let terms : Terms =
    run_terms image c.args.input.now c.args.setup.now (engine_tag (g.T.Tagger.data_tag_of c.args.tagger) (g.T.Tagger.node_tag_of c.args.tagger) c.args.setup.now.geometry) in
    let tags = tags_of g.T.Tagger.data_tag_of g.T.Tagger.node_tag_of in
    let means = protected_by (λ core. core) g.T.Tagger.data_tag_of g.T.Tagger.node_tag_of g.B.Bus.history g.B.Bus.moved in
    let kept : stopped execution.memory ≡ c.err-kept.result =
    ap (λ memory. stopped memory) began.memory
    ∙ stopped_as c.store_image.result (stopped c.store_image.new.ram) storing.goes_on storing.stops ∙ sym c.err-kept.ensures.value in
    record {
      image = image;
      input = c.args.input.now;
      setup = c.args.setup.now;
      terms_are = refl;
      report_is = ap (λ (bytes : List ℕ). record terms.report { measurement = bytes }) (sym c.measure.ensures);
      honest = c.requires.no_lie;
      taken = began.nothing_taken;
      came_to = came_to_begin g.T.Tagger.data_tag_of g.T.Tagger.node_tag_of g.B.Bus.history g.B.Bus.moved c.args.bus c.args.tagger terms execution c.err-kept.result (stored g c) kept began.retired (λ going. record {
        first = execution;
        begun = record {
          stored = stored g c;
          going = kept ∙ going;
          stands = λ sound.
              let quiet : IsQuiet c.store_image.new.ram = ap (λ (memory : SecureRamView g.row.B.Denot g.row.T.Denot). memory.lines.engine.evidence) (sym began.memory) ∙ sound in
              opening_begins image.entry image.size image.segments c.args.input.now execution.processor execution.calls.services (contents execution.memory) execution.retired
              began.core began.services
              (ap (λ memory. contents memory) began.memory ∙ stored_well c.store_image.result _ (sym c.err-kept.ensures.value ∙ going) (storing.stored quiet)) began.retired;
          none_retired = began.retired;
          budget = began.budget;
        };
        goes = goes_not means (λ m. unmoved g.B.Bus.history g.B.Bus.moved tags g.met.B.Bus.unmoved m)
            (λ a b c xs ys first second. moved_on g.B.Bus.history g.B.Bus.moved tags (same_tags g.T.Tagger.data_tag_of g.T.Tagger.node_tag_of) g.met.B.Bus.moved_on a b c xs ys first second) execution
            (omega (arith, began.retired)) (kept ∙ going);
      });
    }
