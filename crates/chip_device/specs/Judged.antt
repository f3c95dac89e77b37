-- What is answered of a trace that is judged.
use Rattle.std.specs.Prelude.{ℕ, Option, Some, None}
use Rattle.bus_trace.specs.Judge.{IsVerdict}
use Rattle.bus_trace.specs.declared.trace.Trace.{Trace}
use Rattle.bus_trace.specs.declared.verdict.Difference.{Difference}
use Rattle.bus_trace.specs.declared.verdict.Verdict.TheVariants.{Follows, No}
use Rattle.rv32_core.specs.Machine.{Machine}

-- the answer is the verdict on the trace, for the program that starts so and this budget: none where it follows, or its first
-- difference
abbrev pub IsJudged : Machine → ℕ → Trace → Option Difference → Type 0
IsJudged start budget trace None = IsVerdict start budget trace Follows
IsJudged start budget trace (Some difference) = IsVerdict start budget trace (No difference)
