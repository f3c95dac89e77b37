use Rattle.std.proofs.Common.{◌≡◌, ◌∙◌, ◌<◌, ◌≤◌, length, Err, rules, arith}
use Rattle.std.proofs.lemmas.List.{take_rest, length-drop}
use Rattle.sec_base.proofs.Writes.{part_done}
use Rattle.rv32_listing.proofs.Firsts.{byte_first, word_first, none_left}
use Rattle.rv32_listing.proofs.Parts.{first_written, first_stopped}
use Rattle.rv32_listing.proofs.lines.write_bytes.Goals as goal

pub returns-in_err-write_byte_line-clause-listed : goal.returns-in_err-write_byte_line-clause-listed
returns-in_err-write_byte_line-clause-listed g c =
    let few : length c.loop-rest.rest.now < 4 = omega arith in
    let some : 0 < length c.loop-rest.rest.now = search rules in
    let same : c.from_residual.result ≡ Err c.in_err-write_byte_line.field-0.0 = search rules in
    rw same
    (first_stopped _ _ _ _ _ _ _ _ (byte_first c.loop-rest.address c.loop-rest.rest.now some few) c.loop-rest.invariant.part c.in_err-write_byte_line.ensures.listed)

pub loop-rest-preserved-then-rest-lt4 : goal.loop-rest-preserved-then-rest-lt4
loop-rest-preserved-then-rest-lt4 g c =
    let few : length c.loop-rest.rest.now < 4 = omega arith in
    let some : 0 < length c.loop-rest.rest.now = search rules in
    rw take_rest
    (record {
      part = first_written _ _ _ _ _ _ _ (byte_first c.loop-rest.address c.loop-rest.rest.now some few) c.loop-rest.invariant.part c.in_ok-write_byte_line.ensures.listed c.write_byte_line.ensures.faults;
      quiet = c.in_ok-write_byte_line.ensures.quiet ∙ c.loop-rest.invariant.quiet;
      place = simp length-drop (omega arith);
    })

pub returns-in_err-write_word_line-clause-listed : goal.returns-in_err-write_word_line-clause-listed
returns-in_err-write_word_line-clause-listed g c =
    let many : 4 ≤ length c.loop-rest.rest.now = omega arith in
    let same : c.from_residual-in_err-write_word_line.result ≡ Err c.in_err-write_word_line.field-0.0 = search rules in
    rw same
    (first_stopped _ _ _ _ _ _ _ _ (word_first c.loop-rest.address c.loop-rest.rest.now _ many c.from_le_bytes-word.ensures) c.loop-rest.invariant.part c.in_err-write_word_line.ensures.listed)

pub loop-rest-preserved : goal.loop-rest-preserved
loop-rest-preserved g c =
    let many : 4 ≤ length c.loop-rest.rest.now = omega arith in
    rw take_rest
    (record {
      part = first_written _ _ _ _ _ _ _ (word_first c.loop-rest.address c.loop-rest.rest.now _ many c.from_le_bytes-word.ensures) c.loop-rest.invariant.part c.in_ok-write_word_line.ensures.listed c.write_word_line.ensures.faults;
      quiet = c.in_ok-write_word_line.ensures.quiet ∙ c.loop-rest.invariant.quiet;
      place = simp length-drop (omega arith);
    })

pub returns-clause-listed : goal.returns-clause-listed
returns-clause-listed g c =
    let none : length c.loop-rest.rest.now ≡ 0 = search rules in
    part_done _ _ _ _ (none_left c.loop-rest.address c.loop-rest.rest.now none) c.loop-rest.invariant.part
