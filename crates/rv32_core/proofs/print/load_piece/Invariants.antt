use Rattle.std.proofs.Common.{◌≡◌}
use Rattle.sec_base.specs.Ram.{GoesOn, IsReliable}
use Rattle.rv32_core.specs.TouchedLines.{byte_lines}
use Rattle.rv32_core.proofs.Loading.{IsLoading}
use Rattle.rv32_core.proofs.print.load_piece.Given as goal

abbrev pub invariant-loop-i : goal.invariant-loop-i
invariant-loop-i g l =
    let ram = g.M.Ram in
    record {
      loading : IsReliable ram.stopped ram.sound l.initial.ram l.ram →
          IsLoading (ram.contents l.initial.ram) (ram.contents l.ram) l.from l.i l.piece;
      stopped : ram.stopped l.ram ≡ ram.stopped l.initial.ram;
      moved : GoesOn ram.extent ram.sound ram.moved (λ lines. lines ≡ byte_lines l.from l.i) l.initial.ram l.ram;
    }
