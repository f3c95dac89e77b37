use Rattle.std.proofs.Common.{◌≡◌, ◌+◌, Err, length, ap, arith, rules, sym}
use Rattle.rv32_asm_syntax.specs.Lines.{lines_of}
use Rattle.rv32_asm.specs.Passes.{first_pass, start}
use Rattle.rv32_asm.proofs.FirstSteps.{at, pass_on, pass_reaches, pass_stop}
use Rattle.rv32_asm.proofs.SecondSteps.{told}
use Rattle.rv32_asm.proofs.passes.lay_out.Goals as goal

pub returns-in-Err-clause-refused : goal.returns-in-Err-clause-refused
returns-in-Err-clause-refused c = λ line code e.
    let t = told c.in-Some.number c.in-Err.error c.in_line.result line code c.in_line.ensures cc in
    let agree = rw (sym c.in-Some.ensures.number) at c.loop-number.invariant.agree in
    rw t.1
    (pass_stop c.args.size c.loop-number.lines.rest.now c.in-Some.line.now c.next.new.self.rest.now c.in-Some.ensures.line
    c.in-Some.number (at c.loop-number.progress.address c.loop-number.progress.labels)
    (first_pass c.args.size 1 start (lines_of c.args.text.now)) code (c.in-Err.ensures.refused code (ap Err t.0))
    agree)

pub loop-number-preserved : goal.loop-number-preserved
loop-number-preserved c = record {
  counted = omega (arith, c.in-Some.ensures.number, c.in-Some.ensures.counted, c.in-Some.ensures.shorter);
  inside = c.in-Ok.ensures.inside;
  agree =
      let agree = rw (sym c.in-Some.ensures.number) at c.loop-number.invariant.agree in
      rw c.in-Some.ensures.counted
      (pass_on c.args.size c.loop-number.lines.rest.now c.in-Some.line.now c.next.new.self.rest.now c.in-Some.ensures.line
      c.in-Some.number (at c.loop-number.progress.address c.loop-number.progress.labels)
      (first_pass c.args.size 1 start (lines_of c.args.text.now)) c.in-Ok.after.address c.in-Ok.after.labels
      c.in-Ok.ensures.after c.in-Ok.ensures.inside agree);
}

pub returns-clause-reached : goal.returns-clause-reached
returns-clause-reached c =
    let none : length c.loop-number.lines.rest.now ≡ 0 = search rules in
    pass_reaches c.args.size (c.loop-number.lines.number + 1) (at c.loop-number.progress.address c.loop-number.progress.labels) c.loop-number.lines.rest.now
    (first_pass c.args.size 1 start (lines_of c.args.text.now)) c.loop-number.invariant.inside none c.loop-number.invariant.agree
