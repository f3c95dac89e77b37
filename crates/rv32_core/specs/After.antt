-- What an instruction makes of a state.
use Rattle.std.specs.Prelude.{ℕ, List, [], Option, Some, None, Result, Ok, Err}
use Rattle.sec_base.specs.declared.ending.Cause.{Cause}
use Rattle.rv32_core.specs.State.{State}

-- the state after an instruction, what it prints, and the code with which it ends the program, if it does
pub record After : Type 0 where
  pub state : State
  pub prints : List ℕ
  pub exit : Option ℕ

-- nothing is printed, and the program goes on
abbrev pub only_state : State → After
only_state state = record { state = state; prints = []; exit = None }

-- a trap, where there is a cause
abbrev pub trap_or : Option Cause → After → Result After Cause
trap_or None after = Ok after
trap_or (Some cause) after = Err cause
