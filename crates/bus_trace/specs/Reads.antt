-- Readers, and what reading gives: for the calls that `parse` is made of.
use Rattle.std.specs.Prelude.{◌≡◌, Result, Ok, Err}
use Rattle.bus_trace.specs.declared.fault.TraceFault.{TraceFault}
use Rattle.bus_trace.specs.declared.fault.TraceError.{TraceError}
use Rattle.bus_trace.specs.declared.fault.TraceError.TheVariants.{Fault, NoMemory}

-- A reader's answer, seen so, is what reading gives.
abbrev pub IsReadAs : {X Y : Type 0} → (X → Y) → Result X TraceFault → Result Y TraceFault → Type 0
IsReadAs seen (Ok answer) read = read ≡ Ok (seen answer)
IsReadAs seen (Err fault) read = read ≡ Err fault

-- Its refusal is the one that reading gives, or it has no memory.
abbrev pub Refuses : {Y : Type 0} → TraceError → Result Y TraceFault → Type 0
Refuses (Fault fault) read = read ≡ Err fault
Refuses NoMemory read = Unit {0}

-- Its answer, seen so, is what reading gives, or it has no memory.
abbrev pub IsReadInMemory : {X Y : Type 0} → (X → Y) → Result X TraceError → Result Y TraceFault → Type 0
IsReadInMemory seen (Ok answer) read = read ≡ Ok (seen answer)
IsReadInMemory seen (Err error) read = Refuses error read
