-- Stops of the lines outside.
use Rattle.std.specs.Prelude.{Option, Some, None}
use Rattle.sec_base.specs.declared.stop.MemStop.{MemStop}
use Rattle.sec_base.specs.declared.stop.MemStop.TheVariants.{Tampered, Spent, NoMemory}

-- a stop after which nothing is done: where a page's counters are used up, other lines still serve
abbrev pub lasting_stop : Option MemStop → Option MemStop
lasting_stop None = None
lasting_stop (Some (Spent page)) = None
lasting_stop (Some (Tampered place)) = Some (Tampered place)
lasting_stop (Some NoMemory) = Some NoMemory
