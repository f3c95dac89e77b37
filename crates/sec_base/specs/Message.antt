-- Messages: the bytes that their tags are computed of, and whether one is among those that were made.
use Rattle.std.specs.Prelude.{◌==◌, ℕ, ◌^◌, ◌<◌, List, [], ◌∷◌, ◌++◌, Bool, false, ◌&&◌}
use Rattle.std.specs.Int.{w32, w64, to_le_bytes}
use Rattle.std.specs.List.{list_any}
use Rattle.std.specs.Str.{bytes_eq}
use Rattle.sec_base.specs.declared.counter.Counter.{Counter}
use Rattle.sec_base.specs.declared.message.Message.{Message}
use Rattle.sec_base.specs.declared.message.Message.TheVariants.{Line, Node}

-- a data line: 44, its number, its page's counter and its own, and its 64 bytes
unfoldable pub data_bytes : ℕ → Counter → List ℕ → List ℕ
data_bytes line counter cipher =
    0x44 ∷ [] ++ to_le_bytes w32 line ++ to_le_bytes w64 counter.page ++ counter.line ∷ [] ++ cipher

-- a node: 4e, its level and its index, and its 64 bytes
unfoldable pub node_bytes : ℕ → ℕ → List ℕ → List ℕ
node_bytes level index block = 0x4e ∷ level ∷ [] ++ to_le_bytes w32 index ++ block

-- a message of either kind
abbrev pub message_bytes : Message → List ℕ
message_bytes (Line line counter cipher) = data_bytes line counter cipher
message_bytes (Node level index block) = node_bytes level index block

-- its line, its page's counter or its index fits its type
abbrev pub IsMessage : Message → Type 0
IsMessage (Line line counter cipher) = (line < 2 ^ 32) × (counter.page < 2 ^ 64)
IsMessage (Node level index block) = index < 2 ^ 32

-- two counters are the same
abbrev pub counter_eq : Counter → Counter → Bool
counter_eq first second = (first.page == second.page) && (first.line == second.line)

-- two messages are the same
abbrev pub message_eq : Message → Message → Bool
message_eq (Line line counter cipher) (Line other counter' cipher') =
    (line == other) && counter_eq counter counter' && bytes_eq cipher cipher'
message_eq (Node level index block) (Node other index' block') =
    (level == other) && (index == index') && bytes_eq block block'
message_eq (Line line counter cipher) (Node level index block) = false
message_eq (Node level index block) (Line line counter cipher) = false

-- the message is among those
unfoldable pub has_message : List Message → Message → Bool
has_message made message = list_any (message_eq message) made
