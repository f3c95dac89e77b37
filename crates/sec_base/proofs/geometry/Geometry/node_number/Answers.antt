use Rattle.std.proofs.Common.{arith}
use Rattle.sec_base.proofs.Numbers.{number_inside}
use Rattle.sec_base.proofs.geometry.Geometry.node_number.Goals as goal

pub returns-clause-inside : goal.returns-clause-inside
returns-clause-inside c = omega (arith, c.width.ensures.width, number_inside c.args.self.now c.args.level c.args.index c.requires)
