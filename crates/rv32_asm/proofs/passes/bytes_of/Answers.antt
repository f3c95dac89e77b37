use Rattle.std.proofs.Common.{◌≡◌, ◌∙◌, ◌+◌, Err, length, sym, ap, arith, rules}
use Rattle.rv32_asm.proofs.SecondSteps.{bytes_done, bytes_on, bytes_stop, end_done, end_on, line_inside, told}
use Rattle.rv32_asm.proofs.passes.bytes_of.Goals as goal

pub put_line-requires : goal.put_line-requires
put_line-requires c =
    line_inside c.loop-number.lines.rest.now c.in-Some.line.now c.next.new.self.rest.now (length c.loop-number.bytes.items) c.args.end
    c.in-Some.ensures.line c.loop-number.invariant.ends (omega arith)

pub returns-in-Err-clause-refused : goal.returns-in-Err-clause-refused
returns-in-Err-clause-refused c = λ line code e.
    let t = told c.in-Some.number c.in-Err.error c.in_line.result line code c.in_line.ensures cc in
    let same = rw (sym c.in-Some.ensures.number) at c.loop-number.invariant.same in
    rw t.1
    (sym same
    ∙ bytes_stop c.loop-number.lines.rest.now c.in-Some.line.now c.next.new.self.rest.now c.in-Some.ensures.line c.args.labels.now
    c.in-Some.number c.loop-number.bytes.items code (c.in-Err.ensures.refused code (ap Err t.0)))

pub loop-number-preserved : goal.loop-number-preserved
loop-number-preserved c = record {
  counted = omega (arith, c.in-Some.ensures.number, c.in-Some.ensures.counted, c.in-Some.ensures.shorter);
  same =
      let same = rw (sym c.in-Some.ensures.number) at c.loop-number.invariant.same in
      rw c.in-Some.ensures.counted
      (bytes_on c.loop-number.lines.rest.now c.in-Some.line.now c.next.new.self.rest.now c.in-Some.ensures.line c.args.labels.now
      c.in-Some.number c.loop-number.bytes.items c.put_line.new.bytes.items c.in_default-put_line.ensures.ok
      ∙ same);
  ends = end_on c.loop-number.lines.rest.now c.in-Some.line.now c.next.new.self.rest.now c.in-Some.ensures.line
      (length c.loop-number.bytes.items) (length c.put_line.new.bytes.items) c.in_default-put_line.ensures.length
      ∙ c.loop-number.invariant.ends;
}

pub returns-clause-bytes : goal.returns-clause-bytes
returns-clause-bytes c =
    let none : length c.loop-number.lines.rest.now ≡ 0 = search rules in
    sym c.loop-number.invariant.same
    ∙ bytes_done c.args.labels.now (c.loop-number.lines.number + 1) c.loop-number.bytes.items c.loop-number.lines.rest.now none

pub returns-clause-length : goal.returns-clause-length
returns-clause-length c =
    let none : length c.loop-number.lines.rest.now ≡ 0 = search rules in
    end_done (length c.loop-number.bytes.items) c.args.end c.loop-number.lines.rest.now none c.loop-number.invariant.ends
