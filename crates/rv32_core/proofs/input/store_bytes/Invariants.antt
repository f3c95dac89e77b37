use Rattle.std.proofs.Common.{◌≡◌, take}
use Rattle.sec_base.specs.Ram.{GoesOn, IsReliable}
use Rattle.rv32_core.specs.State.{with_bytes}
use Rattle.rv32_core.specs.TouchedLines.{byte_lines}
use Rattle.rv32_core.proofs.input.store_bytes.Given as goal

abbrev pub invariant-loop-i : goal.invariant-loop-i
invariant-loop-i g l =
    let ram = g.M.Ram in
    record {
      stored : IsReliable ram.stopped ram.sound l.initial.ram l.ram →
          ram.contents l.ram ≡ with_bytes (ram.contents l.initial.ram) l.from (take l.i l.bytes);
      stopped : ram.stopped l.ram ≡ ram.stopped l.initial.ram;
      moved : GoesOn ram.extent ram.sound ram.moved (λ lines. lines ≡ byte_lines l.from l.i) l.initial.ram l.ram;
    }
