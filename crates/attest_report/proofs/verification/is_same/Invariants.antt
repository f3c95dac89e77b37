use Rattle.std.proofs.Common.{◌≡◌, true, take}
use Rattle.std.specs.Prelude.{◌↔◌}
use Rattle.attest_report.proofs.verification.is_same.Given as goal

abbrev pub invariant-loop-i : goal.invariant-loop-i
invariant-loop-i l = (l.same ≡ true) ↔ (take l.i l.tag ≡ take l.i l.other)
