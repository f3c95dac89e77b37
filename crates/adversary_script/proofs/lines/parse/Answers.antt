use Rattle.std.proofs.Common.{◌≡◌, ◌+◌, Ok, length, ap, arith, rules, refl, sym, ◌∙◌}
use Rattle.adversary_script.proofs.Joined.{goes_on, stops, ends, shorter, joined_fit}
use Rattle.adversary_script.proofs.lines.parse.Goals as goal

pub returns-in-Err-clause-refused : goal.returns-in-Err-clause-refused
returns-in-Err-clause-refused c = λ line code e.
    let number : c.loop-rest.number + 1 ≡ line = cc in
    let fault : c.in-Err.code ≡ code = cc in
    rw (sym number, sym fault)
    (stops c.args.geometry (c.loop-rest.number + 1) c.args.text.now c.loop-rest.rest.now c.first_line.result.0.now c.first_line.result.1
    c.loop-rest.lines.items c.in-Err.code c.first_line.ensures.lines c.in-Err.ensures.value c.loop-rest.invariant.same)

pub loop-rest-preserved : goal.loop-rest-preserved
loop-rest-preserved c = record {
  counted =
      let less = shorter c.loop-rest.rest.now c.first_line.result.1 c.unwrap_or-rest.result _ c.unwrap_or-rest.ensures refl (search rules) c.first_line.ensures.shorter in
      omega (arith, less, c.loop-rest.invariant.counted);
  fits = joined_fit c.args.geometry c.in-Ok.said c.loop-rest.lines.items c.put.new.lines.items c.in_ok-put.ensures c.loop-rest.invariant.fits c.in-Ok.ensures.fits;
  same = goes_on c.args.geometry (c.loop-rest.number + 1) c.loop-rest.rest.now c.first_line.result.0.now c.first_line.result.1 c.unwrap_or-rest.result _
      c.in-Ok.said c.loop-rest.lines.items c.put.new.lines.items _ c.first_line.ensures.lines c.unwrap_or-rest.ensures refl c.in-Ok.ensures.value c.in_ok-put.ensures
      c.loop-rest.invariant.same;
}

pub returns-clause-script : goal.returns-clause-script
returns-clause-script c =
    let none : length c.loop-rest.rest.now ≡ 0 = search rules in
    ends c.args.geometry (c.loop-rest.number + 1) c.args.text.now c.loop-rest.rest.now c.loop-rest.lines.items none c.loop-rest.invariant.same
    ∙ ap Ok (sym c.from_vec.ensures)
