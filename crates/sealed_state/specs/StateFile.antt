-- A state file: a state, enciphered under a number, and the HMAC of it all.
use Rattle.std.specs.Prelude.{◌≡◌, ◌==◌, ℕ, ◌+◌, ◌-◌, ◌*◌, List, [], ◌∷◌, ◌++◌, length, take, drop, slice_index, Bool, not, if◌then◌else◌, Option, Some, None, Result, Ok, Err}
use Rattle.std.specs.Int.{w64, to_le_bytes}
use Rattle.std.specs.Str.{bytes_eq}
use Rattle.sec_base.specs.declared.counter.Counter.{Counter}
use Rattle.hmac_tag.specs.Hmac.{hmac_of}
use Rattle.pad_stream.specs.Pad.{cipher_of}
use Rattle.pad_stream.specs.PadEngine.{PadEngineView}
use Rattle.sealed_state.specs.declared.chip_state.ChipState.{ChipState}
use Rattle.sealed_state.specs.declared.state_fault.StateFault.{StateFault}
use Rattle.sealed_state.specs.declared.state_fault.StateFault.TheVariants.{Length, Kind, Tag, Number}
use Rattle.sealed_state.specs.ChipState.{state_bytes, state_of_bytes, u64_at}

-- the line that a block of a state is enciphered for, which no memory has
abbrev pub state_line : ℕ → ℕ
state_line block = 0xffff_ff00 + block

-- the counter that a file's blocks are enciphered under
abbrev pub state_counter : ℕ → Counter
state_counter number = record { page = number; line = 0 }

-- block 0, 1 or 2 of 192 bytes, enciphered, or deciphered again
unfoldable pub cipher_of_block : List ℕ → ℕ → List ℕ → ℕ → List ℕ
cipher_of_block enc_key number bytes block =
    cipher_of enc_key (state_line block) (state_counter number) (take 64 (drop (64 * block) bytes))

-- all three blocks
unfoldable pub cipher_of_blocks : List ℕ → ℕ → List ℕ → List ℕ
cipher_of_blocks enc_key number bytes =
    cipher_of_block enc_key number bytes 0
    ++ cipher_of_block enc_key number bytes 1
    ++ cipher_of_block enc_key number bytes 2

-- the 201 bytes that are tagged: 0x53, the number, the lowest byte first, and the cipher of a state's bytes
unfoldable pub state_file_body : ℕ → List ℕ → List ℕ
state_file_body number cipher = 0x53 ∷ to_le_bytes w64 number ++ cipher

-- the 233 bytes of a state file: these, and their HMAC-SHA-256 under the state key
unfoldable pub state_file : List ℕ → List ℕ → ℕ → ChipState → List ℕ
state_file enc_key state_key number state =
    let body = state_file_body number (cipher_of_blocks enc_key number (state_bytes state)) in
    body ++ hmac_of state_key body

-- the lines and counters that a file of this number is enciphered under
abbrev pub state_entries : ℕ → List (ℕ × Counter)
state_entries number =
    (state_line 0, state_counter number)
    ∷ (state_line 1, state_counter number)
    ∷ (state_line 2, state_counter number)
    ∷ []

-- a file of this number was sealed
abbrev pub after_seal : ℕ → PadEngineView → PadEngineView
after_seal number pads =
    record pads { used = pads.used ++ state_entries number; room = pads.room - 3 }

-- a file is good for the state key and the chip's number
pub record IsGood (state_key : List ℕ) (number : ℕ) (file : List ℕ) : Type 0 where
  pub length_is : length file ≡ 233
  pub kind_is : slice_index file 0 ≡ 0x53
  pub tag_is : drop 201 file ≡ hmac_of state_key (take 201 file)
  pub number_is : u64_at file 1 ≡ number

-- whether the bytes behind the first 201 are the HMAC of these
unfoldable pub is_tagged : List ℕ → List ℕ → Bool
is_tagged state_key file = bytes_eq (drop 201 file) (hmac_of state_key (take 201 file))

-- the first fault that holds
unfoldable pub first_state_fault : List ℕ → ℕ → List ℕ → Option StateFault
first_state_fault state_key number file =
    if not (length file == 233) then Some Length
    else if not (slice_index file 0 == 0x53) then Some Kind
    else if not (is_tagged state_key file) then Some Tag
    else if not (u64_at file 1 == number) then Some Number
    else None

-- the state that the blocks of a file are the cipher of
unfoldable pub state_in : List ℕ → ℕ → List ℕ → ChipState
state_in enc_key number file =
    state_of_bytes (cipher_of_blocks enc_key number (take 192 (drop 9 file)))

-- the state, where there is no fault
abbrev pub state_unless : Option StateFault → ChipState → Result ChipState StateFault
state_unless None state = Ok state
state_unless (Some fault) state = Err fault

-- the state in a file, or its first fault
unfoldable pub state_or_fault : List ℕ → List ℕ → ℕ → List ℕ → Result ChipState StateFault
state_or_fault enc_key state_key number file =
    state_unless (first_state_fault state_key number file) (state_in enc_key number file)
