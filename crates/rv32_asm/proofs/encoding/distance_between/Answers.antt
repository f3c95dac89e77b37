use Rattle.std.proofs.Common.{SFits, ◌∙◌, rules, w32, w64, sym}
use Rattle.std.proofs.lemmas.Int.{to_z-of_z}
use Rattle.rv32_asm.specs.Encoding.{is_even}
use Rattle.rv32_asm.proofs.Kept.{in_reach}
use Rattle.rv32_asm.proofs.encoding.distance_between.Goals as goal

pub returns-then-is_even : goal.returns-then-is_even
returns-then-is_even c =
    let fits : SFits w32 c.distance-far.result = search rules in
    let wide : SFits w64 c.from.result = search rules in
    let target = c.ranges.target in
    let far = simp to_z-of_z at c.distance-far.ensures in
    let same = to_z-of_z w64 _ wide ∙ (c.from.ensures ∙ to_z-of_z w32 _ fits) in
    let even = simp to_z-of_z at c.is_even.ensures in
    rw (sym far)
    (in_reach (is_even c.distance-far.result) c.args.low _ c.args.high _ c.distance-far.result _ c.number_between.result
    (sym even ∙ c.if-is_even.true) (to_z-of_z w32 _ c.ranges.low) (to_z-of_z w32 _ c.ranges.high) same c.number_between.ensures)
