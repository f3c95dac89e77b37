use Rattle.std.proofs.Common.{◌≡◌, None, take, fold}
use Rattle.sec_base.specs.Ram.{GoesOn}
use Rattle.sec_base.specs.Opening.{with_segment}
use Rattle.rv32_run.specs.StoredLines.{image_lines}
use Rattle.rv32_run.proofs.load.store_image.Given as goal

abbrev pub invariant-loop-segment : goal.invariant-loop-segment
invariant-loop-segment g l =
    let ram = g.M.Ram in
    record {
      stored : ram.sound l.ram → ram.contents l.ram ≡ fold with_segment (ram.contents l.fn.ram) (take l.segment-index l.segment-items);
      going : ram.stopped l.ram ≡ None;
      moved : GoesOn ram.extent ram.sound ram.moved (λ lines. lines ≡ image_lines (take l.segment-index l.segment-items)) l.fn.ram l.ram;
    }
