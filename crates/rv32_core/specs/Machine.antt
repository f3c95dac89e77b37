-- The plain machine: a flat list of bytes, and one instruction after another.
use Rattle.std.specs.Prelude.{ℕ, zero, suc, ◌+◌, ◌%◌, ◌==◌, if◌then◌else◌, List, [], ◌∷◌, ◌++◌, length, slice_index_or, slice_set, Option, Some, None, Result, Ok, Err}
use Rattle.sec_base.specs.declared.ending.Cause.{Cause}
use Rattle.sec_base.specs.declared.image.Image.{Image}
use Rattle.sec_base.specs.declared.segment.Segment.{Segment}
use Rattle.sec_base.specs.Opening.{opening_memory, first_break}
use Rattle.rv32_core.specs.State.{CoreView, State, ServicesView, opening_core, with_core}
use Rattle.rv32_core.specs.After.{After}
use Rattle.rv32_core.specs.Effect.{next}

-- The harts of a machine (RISC-V unprivileged manual, 1.2): whose turn it is, the cores by number as each hart left it, and
-- the schedule, which says whose turn each instruction is and then begins again.
pub record Harts : Type 0 where
  pub hart : ℕ
  pub cores : List CoreView
  pub schedule : List ℕ

-- one hart, whose turn it always is
abbrev pub alone : Harts
alone = record { hart = 0; cores = []; schedule = [] }

-- whose turn it is after n instructions
abbrev pub turn_at : List ℕ → ℕ → ℕ
turn_at [] n = 0
turn_at (first ∷ others) n = slice_index_or (first ∷ others) (n % length (first ∷ others)) 0

-- the core of the next hart, where the one whose turn it was leaves this core
abbrev pub core_in_turn : ℕ → Harts → CoreView → CoreView
core_in_turn next harts core = if next == harts.hart then core else slice_index_or harts.cores next core

-- the harts once the turn was handed on to the next, where the one whose turn it was leaves this core
abbrev pub handed : ℕ → Harts → CoreView → Harts
handed next harts core = record { hart = next; cores = slice_set harts.cores harts.hart core; schedule = harts.schedule }

-- the state, as the hart whose turn it is sees it, the harts, all that was printed, how many instructions were retired,
-- and the code of a program that ended
pub record Machine : Type 0 where
  pub state : State
  pub harts : Harts
  pub output : List ℕ
  pub retired : ℕ
  pub exit : Option ℕ

-- After an instruction the turn is the next hart's; where it asked to exit, the turn stays.
abbrev pub after_exit : Option ℕ → After → Machine → Machine
after_exit (Some code) after machine = record {
  state = after.state;
  harts = machine.harts;
  output = machine.output ++ after.prints;
  retired = machine.retired + 1;
  exit = Some code;
}
after_exit None after machine =
    let next = turn_at machine.harts.schedule (machine.retired + 1) in
    record {
      state = with_core after.state (core_in_turn next machine.harts after.state.core);
      harts = handed next machine.harts after.state.core;
      output = machine.output ++ after.prints;
      retired = machine.retired + 1;
      exit = None;
    }

-- an instruction that traps changes nothing
abbrev pub after_result : Result After Cause → Machine → Machine
after_result (Err cause) machine = machine
after_result (Ok after) machine = after_exit after.exit after machine

-- one instruction; a program that ended stays as it is
abbrev pub one_more_of : Option ℕ → Machine → Machine
one_more_of (Some code) machine = machine
one_more_of None machine = after_result (next machine.state) machine

-- The plain machine after one more instruction; after its end it stands still.
unfoldable pub one_more : Machine → Machine
one_more machine = one_more_of machine.exit machine

-- n instructions
unfoldable pub plain : Machine → ℕ → Machine
plain machine zero = machine
plain machine (suc n) = one_more (plain machine n)

-- The services before the first instruction: the input unread, the break behind the segments.
abbrev pub opening_calls : List Segment → List ℕ → ServicesView
opening_calls segments input = record {
  input = input;
  position = 0;
  first_break = first_break segments;
  brk = first_break segments;
}

-- a program as it begins
unfoldable pub opening_of : ℕ → ℕ → List Segment → List ℕ → Machine
opening_of entry size segments input = record {
  state = record {
    core = opening_core entry size;
    calls = opening_calls segments input;
    memory = opening_memory size segments;
  };
  harts = alone;
  output = [];
  retired = 0;
  exit = None;
}

-- The machine before the first instruction: the program stored, all registers zero, pc at the entry.
abbrev pub opening : Image → List ℕ → Machine
opening image input = opening_of image.entry image.size image.segments input
