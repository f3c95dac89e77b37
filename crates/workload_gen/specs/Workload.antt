-- The generated program of a number.
use Rattle.std.specs.Prelude.{ℕ, ◌-◌, ◌++◌, Result, Ok, length, map, take}
use Rattle.std.specs.Int.{w32, to_le_bytes}
use Rattle.sec_base.specs.Program.{Program}
use Rattle.sec_base.specs.declared.segment.Segment.{Segment}
use Rattle.rv32_asm.specs.Passes.{LineFault, ◌>>=◌}
use Rattle.rv32_asm.specs.Program.{assembled_program}
use Rattle.workload_gen.specs.Text.{workload_text}

-- a segment whose last four bytes are a number, the lowest byte first
abbrev pub with_last_word : ℕ → Segment → Segment
with_last_word number segment =
    record segment { bytes = take (length segment.bytes - 4) segment.bytes ++ to_le_bytes w32 number }

-- the program of the text for a memory of four levels, with a number in the last four bytes of its one segment
unfoldable pub workload_of : ℕ → Result Program LineFault
workload_of number = do
  program ← assembled_program workload_text 1048576
  Ok (record program { segments = map (with_last_word number) program.segments })
