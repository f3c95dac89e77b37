-- How a report tells the end of a run.
use Rattle.std.specs.Prelude.{ℕ, Option, Some, None}
use Rattle.sec_base.specs.declared.ending.Cause.{Cause}
use Rattle.sec_base.specs.declared.ending.Cause.TheVariants.{Illegal, MisalignedTarget, MisalignedData, OutsideMemory, Breakpoint}
use Rattle.sec_base.specs.declared.ending.Ending.{Ending}
use Rattle.sec_base.specs.declared.ending.Ending.TheVariants.{Halted, Trapped, OutOfSteps, Tampered, Spent, WriteFault, NoMemory}

-- the number of a cause
abbrev pub cause_number : Cause → ℕ
cause_number Illegal = 1
cause_number MisalignedTarget = 2
cause_number MisalignedData = 3
cause_number OutsideMemory = 4
cause_number Breakpoint = 5

-- the number of an ending and its code: the exit code, the number of the cause, or 0; the other endings make no report
abbrev pub ending_and_code : Ending → Option (ℕ × ℕ)
ending_and_code (Halted code) = Some (0, code)
ending_and_code (Trapped cause pc) = Some (1, cause_number cause)
ending_and_code OutOfSteps = Some (4, 0)
ending_and_code (Tampered place) = Some (5, 0)
ending_and_code (Spent page) = Some (6, 0)
ending_and_code WriteFault = None
ending_and_code NoMemory = None
