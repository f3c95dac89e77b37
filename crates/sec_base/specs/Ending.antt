-- How causes of traps and endings are told.
use Rattle.std.specs.Prelude.{ℕ, List, ◌++◌, codes}
use Rattle.std.specs.Fmt.{decimal}
use Rattle.sec_base.specs.Hexadecimal.{hex_digits}
use Rattle.sec_base.specs.Place.{place_text}
use Rattle.sec_base.specs.declared.ending.Cause.{Cause}
use Rattle.sec_base.specs.declared.ending.Cause.TheVariants.{Illegal, MisalignedTarget, MisalignedData, OutsideMemory, Breakpoint}
use Rattle.sec_base.specs.declared.ending.Ending.{Ending}
use Rattle.sec_base.specs.declared.ending.Ending.TheVariants.{Halted, Trapped, OutOfSteps, Tampered, Spent, WriteFault, NoMemory}

-- What ended a run: the program or the limit of steps, the protection of the memory, the sink, or the emulator that is
-- out of memory.
pub data EndingClass : Type 0 where
  ByProgram : EndingClass
  ByProtection : EndingClass
  BySink : EndingClass
  ByEmulator : EndingClass

-- The class of an ending.
abbrev pub ending_class : Ending → EndingClass
ending_class (Halted code) = ByProgram
ending_class (Trapped cause pc) = ByProgram
ending_class OutOfSteps = ByProgram
ending_class (Tampered place) = ByProtection
ending_class (Spent page) = ByProtection
ending_class WriteFault = BySink
ending_class NoMemory = ByEmulator

-- The words that a cause of a trap is printed as.
abbrev pub cause_text : Cause → List ℕ
cause_text Illegal = codes "illegal"
cause_text MisalignedTarget = codes "misaligned target"
cause_text MisalignedData = codes "misaligned data"
cause_text OutsideMemory = codes "outside memory"
cause_text Breakpoint = codes "breakpoint"

-- The words that an ending is printed as, without the line feed.
abbrev pub ending_text : Ending → List ℕ
ending_text (Halted code) = codes "halted " ++ decimal code
ending_text (Trapped cause pc) = codes "trapped " ++ cause_text cause ++ codes " pc " ++ hex_digits 8 pc
ending_text OutOfSteps = codes "out of steps"
ending_text (Tampered place) = codes "tampered " ++ place_text place
ending_text (Spent page) = codes "spent page " ++ decimal page
ending_text WriteFault = codes "write fault"
ending_text NoMemory = codes "no memory"
