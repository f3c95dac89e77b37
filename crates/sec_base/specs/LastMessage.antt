-- The last message of a place in a list of messages, and the last counter of a line.
use Rattle.std.specs.Prelude.{◌==◌, ◌≡◌, ℕ, ◌+◌, List, fold, Option, Some, None, ◌&&◌, if◌then◌else◌}
use Rattle.std.specs.Option.{option_map, option_or}
use Rattle.std.specs.List.{filter_map}
use Rattle.sec_base.specs.declared.counter.Counter.{Counter}
use Rattle.sec_base.specs.declared.message.Message.{Message}
use Rattle.sec_base.specs.declared.message.Message.TheVariants.{Line, Node}

-- the counter and the bytes that a message has for a line
abbrev pub data_part : ℕ → Message → Option (Counter × List ℕ)
data_part line (Line other counter cipher) = if other == line then Some (counter, cipher) else None
data_part line (Node level index block) = None

-- the block that a message has for a node
abbrev pub node_part : ℕ → ℕ → Message → Option (List ℕ)
node_part level index (Line line counter cipher) = None
node_part level index (Node at_level at block) = if (at_level == level) && (at == index) then Some block else None

-- how many items there were, and the place and the part of the last one that has a part, after one more item
abbrev pub after_item : {A B : Type 0} → (A → Option B) → ℕ × Option (ℕ × B) → A → ℕ × Option (ℕ × B)
after_item part seen item = (seen.0 + 1, option_or (option_map (λ found. (seen.0, found)) (part item)) seen.1)

-- the place and the part of the last item that has a part
unfoldable pub last_at : {A B : Type 0} → (A → Option B) → List A → Option (ℕ × B)
last_at part items = (fold (after_item part) (0, None) items).1

-- the part of the last item that has one
abbrev pub last_of : {A B : Type 0} → (A → Option B) → List A → Option B
last_of part items = option_map (λ found. found.1) (last_at part items)

-- the counter and the bytes of a line's last message
abbrev pub last_data : ℕ → List Message → Option (Counter × List ℕ)
last_data line made = last_of (data_part line) made

-- the block of a node's last message
abbrev pub last_node : ℕ → ℕ → List Message → Option (List ℕ)
last_node level index made = last_of (node_part level index) made

-- the line and the counter of a data message
abbrev pub pair_of : Message → Option (ℕ × Counter)
pair_of (Line line counter cipher) = Some (line, counter)
pair_of (Node level index block) = None

-- the lines and counters of the data messages, in order
unfoldable pub data_pairs : List Message → List (ℕ × Counter)
data_pairs made = filter_map pair_of made

-- the counter that an entry has for a line
abbrev pub counter_part : ℕ → ℕ × Counter → Option Counter
counter_part line entry = if entry.0 == line then Some entry.1 else None

-- the counter of a line's last entry
abbrev pub last_pair : ℕ → List (ℕ × Counter) → Option Counter
last_pair line pairs = last_of (counter_part line) pairs

-- no entry names the line
abbrev pub IsFresh : ℕ → List (ℕ × Counter) → Type 0
IsFresh line pairs = last_pair line pairs ≡ None
