use Rattle.bus_adversary.proofs.adversary.empty_registers.Given as goal
use Rattle.bus_adversary.specs.declared.adversary.Register.TheVariants.{Empty}
use Rattle.std.proofs.Common.{replicate, ◌≡◌}

abbrev pub invariant-loop : goal.invariant-loop
invariant-loop l = l.registers.items ≡ replicate l.counter Empty
