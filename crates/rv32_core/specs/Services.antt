-- The services of ECALL: the number stands in a7, the arguments in a0 to a2, the answer comes in a0.
use Rattle.std.specs.Prelude.{ℕ, ◌+◌, ◌-◌, ◌^◌, ◌==◌, nat_le, ◌||◌, ◌&&◌, not, if◌then◌else◌, Bool, List, [], length, take, drop, Some, None}
use Rattle.rv32_core.specs.State.{State, ServicesView, register, next_core_with, next_state, next_state_with, memory_bytes, with_bytes}
use Rattle.rv32_core.specs.After.{After, only_state}

-- Register a0, x10: the first argument of a service, and its result.
abbrev pub a0 : State → ℕ
a0 state = register state.core 10

-- Register a1, x11: the second argument of a service.
abbrev pub a1 : State → ℕ
a1 state = register state.core 11

-- Register a2, x12: the third argument of a service.
abbrev pub a2 : State → ℕ
a2 state = register state.core 12

-- Register a7, x17: the number of the service.
abbrev pub a7 : State → ℕ
a7 state = register state.core 17

-- The next state after a service that gives this result in a0.
abbrev pub with_answer : State → ℕ → State
with_answer state value = next_state_with state 10 value

-- a negative answer
abbrev pub negative_word : ℕ → ℕ
negative_word number = 2 ^ 32 - number

-- the range lies inside the memory; one of no bytes always does
abbrev pub is_inside : ℕ → ℕ → ℕ → Bool
is_inside address count size = (count == 0) || nat_le (address + count) size

-- the one output has two descriptors, the one input has one
abbrev pub is_output : ℕ → Bool
is_output descriptor = (descriptor == 1) || (descriptor == 2)

-- Whether a descriptor is standard input, 0.
abbrev pub is_input : ℕ → Bool
is_input descriptor = descriptor == 0

-- the next bytes of the input, at most so many
abbrev pub next_input : ServicesView → ℕ → List ℕ
next_input calls count = take count (drop calls.position calls.input)

-- The services with this many bytes of the input read.
abbrev pub with_position : ServicesView → ℕ → ServicesView
with_position calls position = record {
  input = calls.input;
  position = position;
  first_break = calls.first_break;
  brk = calls.brk;
}

-- The services with the program break at this address.
abbrev pub with_break : ServicesView → ℕ → ServicesView
with_break calls brk = record {
  input = calls.input;
  position = calls.position;
  first_break = calls.first_break;
  brk = brk;
}

-- 63, read: the next bytes of the input, a2 or what is left, are stored from a1 on
abbrev pub after_input : State → List ℕ → After
after_input state bytes = only_state (record {
  core = next_core_with state.core 10 (length bytes);
  calls = with_position state.calls (state.calls.position + length bytes);
  memory = with_bytes state.memory (a1 state) bytes;
})

-- Service 63, read: the next bytes of the input into memory, or an error of Linux in a0.
abbrev pub read_service : State → After
read_service state =
    if not (is_input (a0 state)) then only_state (with_answer state (negative_word 9))
    else (if not (is_inside (a1 state) (a2 state) (length state.memory)) then only_state (with_answer state (negative_word 14))
    else after_input state (next_input state.calls (a2 state)))

-- 64, write: a2 bytes from a1 on go to the output
abbrev pub write_service : State → After
write_service state =
    if not (is_output (a0 state)) then only_state (with_answer state (negative_word 9))
    else (if not (is_inside (a1 state) (a2 state) (length state.memory)) then only_state (with_answer state (negative_word 14))
    else record {
      state = with_answer state (a2 state);
      prints = memory_bytes state.memory (a1 state) (a2 state);
      exit = None;
    })

-- 93, exit: the program ends with code a0
abbrev pub exit_service : State → After
exit_service state = record { state = next_state state; prints = []; exit = Some (a0 state) }

-- 214, brk: the break moves to a0 where that is no lower than it was at first and leaves the stack a page
abbrev pub is_break : ServicesView → ℕ → ℕ → Bool
is_break calls size address = nat_le calls.first_break address && nat_le (address + 4096) size

-- The break after service 214 asked for one: the address in a0 where it fits, and else the old one.
abbrev pub new_break : State → ℕ
new_break state = if is_break state.calls (length state.memory) (a0 state) then a0 state else state.calls.brk

-- Service 214, brk: sets the program break, and gives it in a0.
abbrev pub brk_service : State → After
brk_service state = only_state (record {
  core = next_core_with state.core 10 (new_break state);
  calls = with_break state.calls (new_break state);
  memory = state.memory;
})

-- The service that a7 asks for; any other number is answered by ENOSYS, -38.
unfoldable pub service : State → After
service state =
    if a7 state == 63 then read_service state
    else (if a7 state == 64 then write_service state
    else (if a7 state == 93 then exit_service state
    else (if a7 state == 214 then brk_service state
    else only_state (with_answer state (negative_word 38)))))
