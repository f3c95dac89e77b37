use Rattle.std.proofs.Common.{[], ◌∙◌, ap, refl, sym}
use Rattle.sec_base.specs.Geometry.{memory_size, one}
use Rattle.bus_model.specs.BusHistory.{BusHistory}
use Rattle.chip_words.specs.Defaults.{side_run}
use Rattle.chip_words.specs.Words.{side_asked}
use Rattle.chip_device.proofs.DeviceRuns.{has_shape, hmac_terms_are, is_unwritten, runs_beside, still_of}
use Rattle.chip_device.proofs.paired.pair_on_device.Goals as goal

pub run_pair-record-requires-clause-size1 : goal.run_pair-record-requires-clause-size1
run_pair-record-requires-clause-size1 c = c.requires.first_size ∙ ap memory_size (sym (has_shape (side_run (side_asked c.args.first.asked.now)) c.in_ok-setup1.setup1 c.in_ok-setup1.ensures.setup))

pub run_pair-record-requires-clause-geometry1 : goal.run_pair-record-requires-clause-geometry1
run_pair-record-requires-clause-geometry1 c = ap (λ (h : BusHistory). h.geometry) c.in_ok-setup1.ensures.history ∙ sym (has_shape (side_run (side_asked c.args.first.asked.now)) c.in_ok-setup1.setup1 c.in_ok-setup1.ensures.setup)

pub run_pair-record-requires-clause-no_lie1 : goal.run_pair-record-requires-clause-no_lie1
run_pair-record-requires-clause-no_lie1 c = ap (λ (h : BusHistory). h.lies) c.in_ok-setup1.ensures.history

pub run_pair-record-requires-clause-nothing_written1 : goal.run_pair-record-requires-clause-nothing_written1
run_pair-record-requires-clause-nothing_written1 c = is_unwritten _ (one 4) c.in_ok-setup1.ensures.history

pub run_pair-record-requires-clause-size2 : goal.run_pair-record-requires-clause-size2
run_pair-record-requires-clause-size2 c = c.requires.second_size ∙ ap memory_size (sym (has_shape (side_run (side_asked c.args.second.asked.now)) c.in_ok-setup2.setup2 c.in_ok-setup2.ensures.setup))

pub run_pair-record-requires-clause-geometry2 : goal.run_pair-record-requires-clause-geometry2
run_pair-record-requires-clause-geometry2 c = ap (λ (h : BusHistory). h.geometry) c.in_ok-setup2.ensures.history ∙ sym (has_shape (side_run (side_asked c.args.second.asked.now)) c.in_ok-setup2.setup2 c.in_ok-setup2.ensures.setup)

pub run_pair-record-requires-clause-no_lie2 : goal.run_pair-record-requires-clause-no_lie2
run_pair-record-requires-clause-no_lie2 c = ap (λ (h : BusHistory). h.lies) c.in_ok-setup2.ensures.history

pub run_pair-record-requires-clause-nothing_written2 : goal.run_pair-record-requires-clause-nothing_written2
run_pair-record-requires-clause-nothing_written2 c = is_unwritten _ (one 4) c.in_ok-setup2.ensures.history

pub returns-clause-first : goal.returns-clause-first
returns-clause-first c = λ program flat.
    let went = c.run_pair-record.ensures.first_accesses in
    let terms = hmac_terms_are (side_run (side_asked c.args.first.asked.now)) program [] c.args.first.image.now c.in_ok-setup1.setup1 c.new.result refl c.in_ok-setup1.ensures.setup c.new.ensures flat in
    runs_beside _ _ _ _ _ c.in_ok-setup1.bus1 _ _ went.0 terms c.new-printed1.ensures c.in_ok-setup1.ensures.history c.run_pair-record.ensures.first went.1 went.2

pub returns-clause-second : goal.returns-clause-second
returns-clause-second c = λ program flat.
    let went = c.run_pair-record.ensures.second_accesses in
    let terms = hmac_terms_are (side_run (side_asked c.args.second.asked.now)) program [] c.args.second.image.now c.in_ok-setup2.setup2 c.new-2.result refl c.in_ok-setup2.ensures.setup c.new-2.ensures flat in
    runs_beside _ _ _ _ _ c.in_ok-setup2.bus2 _ _ went.0 terms c.new-printed2.ensures c.in_ok-setup2.ensures.history c.run_pair-record.ensures.second went.1 went.2

pub returns-clause-first_bus : goal.returns-clause-first_bus
returns-clause-first_bus c =
    let went = c.run_pair-record.ensures.first_accesses in
    still_of c.args.first.script c.in_ok-setup1.bus1 _ went.0 c.in_ok-setup1.ensures.bus went.1

pub returns-clause-second_bus : goal.returns-clause-second_bus
returns-clause-second_bus c =
    let went = c.run_pair-record.ensures.second_accesses in
    still_of c.args.second.script c.in_ok-setup2.bus2 _ went.0 c.in_ok-setup2.ensures.bus went.1
