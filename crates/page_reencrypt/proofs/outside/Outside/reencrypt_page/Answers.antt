use Rattle.std.proofs.Common.{◌≡◌, ℕ, ◌+◌, ◌*◌, Some, refl, ap, arith, rules}
use Rattle.std.specs.Result.{result_err}
use Rattle.sec_base.specs.Geometry.{page_of}
use Rattle.page_reencrypt.proofs.Reencrypting.{accesses_passed, accesses_stopped, below_none, page_accepted, page_consistent, page_counter, page_done, page_inside, page_last, page_more, page_pads_room, page_room, page_stopped}
use Rattle.page_reencrypt.proofs.outside.Outside.reencrypt_page.Goals as goal

pub loop-place-init : goal.loop-place-init
loop-place-init g c = record {
  below = below_none (record { kept = c.requires.consistent; risen = c.requires.risen; last = c.requires.holds_last }) g.met.B.Bus.unmoved;
  accepted = λ at under sealed made_count quiet is. absurd (cc);
  passed = λ before. absurd (omega (arith, before));
  at_most = omega arith;
}

pub reencrypt_line-requires-clause-inside : goal.reencrypt_line-requires-clause-inside
reencrypt_line-requires-clause-inside g c =
    let start : 64 * c.page_of-first.result ≡ 64 * page_of c.args.line = ap (λ (page : ℕ). 64 * page) c.page_of-first.ensures.page in
    let here : 64 * c.page_of-first.result + c.from.result ≡ 64 * c.page_of-first.result + c.loop-place.place = omega (arith, c.from.ensures) in
    page_inside c.loop-place.invariant.below here c.args.line start c.loop-place-test.true c.requires.inside

pub reencrypt_line-requires-clause-consistent : goal.reencrypt_line-requires-clause-consistent
reencrypt_line-requires-clause-consistent g c = page_consistent c.loop-place.invariant.below

pub reencrypt_line-requires-clause-risen : goal.reencrypt_line-requires-clause-risen
reencrypt_line-requires-clause-risen g c = c.loop-place.invariant.below.sealed.risen

pub reencrypt_line-requires-clause-holds_last : goal.reencrypt_line-requires-clause-holds_last
reencrypt_line-requires-clause-holds_last g c = page_last c.loop-place.invariant.below

pub reencrypt_line-requires-clause-counter : goal.reencrypt_line-requires-clause-counter
reencrypt_line-requires-clause-counter g c =
    let start : 64 * c.page_of-first.result ≡ 64 * page_of c.args.line = ap (λ (page : ℕ). 64 * page) c.page_of-first.ensures.page in
    let here : 64 * c.page_of-first.result + c.from.result ≡ 64 * c.page_of-first.result + c.loop-place.place = omega (arith, c.from.ensures) in
    page_counter c.loop-place.invariant.below here
    c.args.line c.args.block.now c.get.result start c.loop-place-test.true c.get.ensures.counter c.requires.counters c.requires.later

pub reencrypt_line-requires-clause-room : goal.reencrypt_line-requires-clause-room
reencrypt_line-requires-clause-room g c = page_room c.loop-place.invariant.below c.loop-place-test.true c.requires.room

pub reencrypt_line-requires-clause-pads_room : goal.reencrypt_line-requires-clause-pads_room
reencrypt_line-requires-clause-pads_room g c = page_pads_room c.loop-place.invariant.below c.loop-place-test.true c.requires.pads_room

pub returns-in_err-reencrypt_line-clause-sealed : goal.returns-in_err-reencrypt_line-clause-sealed
returns-in_err-reencrypt_line-clause-sealed g c =
    let start : 64 * c.page_of-first.result ≡ 64 * page_of c.args.line = ap (λ (page : ℕ). 64 * page) c.page_of-first.ensures.page in
    let here : 64 * c.page_of-first.result + c.from.result ≡ 64 * c.page_of-first.result + c.loop-place.place = omega (arith, c.from.ensures) in
    let why = c.in_err-reencrypt_line.field-0.0 in
    let stop : result_err c.from_residual.result ≡ Some why = search rules in
    rw stop
    (page_stopped c.loop-place.invariant.below here g.met.B.Bus.moved_on c.in_err-reencrypt_line.ensures.sealed
    (page_of c.args.line) start c.loop-place-test.true (λ is. cc))

pub returns-in_err-reencrypt_line-clause-accepted : goal.returns-in_err-reencrypt_line-clause-accepted
returns-in_err-reencrypt_line-clause-accepted g c =
    let start : 64 * c.page_of-first.result ≡ 64 * page_of c.args.line = ap (λ (page : ℕ). 64 * page) c.page_of-first.ensures.page in
    let here : 64 * c.page_of-first.result + c.from.result ≡ 64 * c.page_of-first.result + c.loop-place.place = omega (arith, c.from.ensures) in
    page_accepted c.loop-place.invariant.below here c.reencrypt_line.new.self start c.loop-place-test.true c.in_err-reencrypt_line.ensures.sealed.sealed.step.evidence
    c.loop-place.invariant.accepted c.in_err-reencrypt_line.ensures.accepted

pub returns-in_err-reencrypt_line-clause-once : goal.returns-in_err-reencrypt_line-clause-once
returns-in_err-reencrypt_line-clause-once g c =
    let start : 64 * c.page_of-first.result ≡ 64 * page_of c.args.line = ap (λ (page : ℕ). 64 * page) c.page_of-first.ensures.page in
    let here : 64 * c.page_of-first.result + c.from.result ≡ 64 * c.page_of-first.result + c.loop-place.place = omega (arith, c.from.ensures) in
    accesses_stopped c.args.line c.loop-place.place (g.B.Bus.history c.args.self.now.bus).accesses (g.B.Bus.history c.loop-place.self.bus).accesses (g.B.Bus.history c.reencrypt_line.new.self.bus).accesses
    start here c.loop-place.invariant.at_most c.loop-place.invariant.passed c.in_err-reencrypt_line.ensures.once c.in_err-reencrypt_line.ensures.own
    c.loop-place-test.true

pub loop-place-preserved : goal.loop-place-preserved
loop-place-preserved g c =
    let start : 64 * c.page_of-first.result ≡ 64 * page_of c.args.line = ap (λ (page : ℕ). 64 * page) c.page_of-first.ensures.page in
    let here : 64 * c.page_of-first.result + c.from.result ≡ 64 * c.page_of-first.result + c.loop-place.place = omega (arith, c.from.ensures) in
    record {
      below = page_more c.loop-place.invariant.below here g.met.B.Bus.moved_on c.in_ok-reencrypt_line.ensures.sealed refl;
      accepted = page_accepted c.loop-place.invariant.below here c.reencrypt_line.new.self start c.loop-place-test.true c.in_ok-reencrypt_line.ensures.sealed.sealed.step.evidence
          c.loop-place.invariant.accepted c.in_ok-reencrypt_line.ensures.accepted;
      passed = accesses_passed c.args.line c.loop-place.place (g.B.Bus.history c.args.self.now.bus).accesses (g.B.Bus.history c.loop-place.self.bus).accesses (g.B.Bus.history c.reencrypt_line.new.self.bus).accesses
          start here c.loop-place.invariant.at_most c.loop-place.invariant.passed c.in_ok-reencrypt_line.ensures.once c.in_ok-reencrypt_line.ensures.own;
      at_most = omega (arith, c.in_ok-reencrypt_line.ensures.once, c.loop-place.invariant.at_most);
    }

pub returns-clause-sealed : goal.returns-clause-sealed
returns-clause-sealed g c =
    let start : 64 * c.page_of-first.result ≡ 64 * page_of c.args.line = ap (λ (page : ℕ). 64 * page) c.page_of-first.ensures.page in
    page_done c.loop-place.invariant.below (page_of c.args.line) start (omega (arith, c.loop-place-test.false, c.loop-place.auto.place-end))

pub returns-clause-accepted : goal.returns-clause-accepted
returns-clause-accepted g c = c.loop-place.invariant.accepted

pub returns-clause-once : goal.returns-clause-once
returns-clause-once g c =
    let passed = c.loop-place.invariant.passed (omega (arith, c.loop-place-test.false)) in
    omega (arith, passed, c.loop-place.auto.place-end)
