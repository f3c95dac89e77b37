-- What a file says as a trace, or its first fault from the left. A field is looked at as soon as it is whole; the level and
-- the index of a node are one field.
use Rattle.std.specs.Prelude.{◌==◌, ℕ, zero, suc, List, [], ◌∷◌, length, take, drop, Result, Ok, Err, Bool, nat_lt, if◌then◌else◌}
use Rattle.std.specs.Int.{w32, w64, from_le_bytes}
use Rattle.std.specs.Str.{bytes_eq}
use Rattle.sec_base.specs.declared.geometry.TheConstants.{LINE_LEN}
use Rattle.sec_base.specs.declared.sealed.TheConstants.{TAG_LEN}
use Rattle.sec_base.specs.declared.sealed.Sealed.{Sealed}
use Rattle.sec_base.specs.Geometry.{GeometryView, line_count}
use Rattle.bus_model.specs.HonestBus.{is_node}
use Rattle.bus_trace.specs.declared.entry.Entry.{Entry}
use Rattle.bus_trace.specs.declared.entry.Entry.TheVariants.{ReadLine, WriteLine, ReadNode, WriteNode}
use Rattle.bus_trace.specs.declared.fault.TraceFault.{TraceFault}
use Rattle.bus_trace.specs.declared.fault.TraceFault.TheVariants.{Short, Magic, Kind, Place, Rest}
use Rattle.bus_trace.specs.declared.trace.Trace.{Trace}
use Rattle.bus_trace.specs.Format.{is_ending, magic}

-- what bytes begin with and what stands behind it, or a fault
abbrev pub Field : Type 0 → Type 0
Field A = Result (A × List ℕ) TraceFault

-- the first fault, or what is read next
infixl 10 ◌>>=◌
abbrev pub ◌>>=◌ : {A B : Type 0} → Result A TraceFault → (A → Result B TraceFault) → Result B TraceFault
(Ok read) >>= next = next read
(Err fault) >>= next = Err fault

-- what was read, where a test holds
abbrev pub ok_where : {A : Type 0} → Bool → TraceFault → A → Result A TraceFault
ok_where holds fault read = if holds then Ok read else Err fault

-- so many bytes
unfoldable pub first_bytes : ℕ → List ℕ → Field (List ℕ)
first_bytes count bytes = if nat_lt (length bytes) count then Err Short else Ok (take count bytes, drop count bytes)

-- a byte
abbrev pub first_byte : List ℕ → Field ℕ
first_byte [] = Err Short
first_byte (byte ∷ rest) = Ok (byte, rest)

-- a number in four bytes and in eight, the lowest first
unfoldable pub u32_at : List ℕ → Field ℕ
u32_at bytes = do
  field ← first_bytes 4 bytes
  Ok (from_le_bytes w32 field.0, field.1)

-- A number in eight bytes, the lowest first.
unfoldable pub u64_at : List ℕ → Field ℕ
u64_at bytes = do
  field ← first_bytes 8 bytes
  Ok (from_le_bytes w64 field.0, field.1)

-- what stands behind the first five bytes, where a trace begins with them
unfoldable pub behind_magic : List ℕ → Result (List ℕ) TraceFault
behind_magic bytes = do
  field ← first_bytes 5 bytes
  ok_where (bytes_eq field.0 magic) Magic field.1

-- the output behind its length
unfoldable pub output_at : List ℕ → Field (List ℕ)
output_at bytes = do
  len ← u64_at bytes
  first_bytes len.0 len.1

-- an ending that makes a trace
unfoldable pub ending_at : List ℕ → Field ℕ
ending_at bytes = do
  ending ← first_byte bytes
  ok_where (is_ending ending.0) Kind ending

-- the ending, its code and the retired count
unfoldable pub outcome_at : List ℕ → Field (ℕ × ℕ × ℕ)
outcome_at bytes = do
  ending ← ending_at bytes
  code ← u32_at ending.1
  retired ← u64_at code.1
  Ok ((ending.0, code.0, retired.0), retired.1)

-- a line of the memory
unfoldable pub line_at : GeometryView → List ℕ → Field ℕ
line_at geometry bytes = do
  line ← u32_at bytes
  ok_where (nat_lt line.0 (line_count geometry)) Place line

-- a node of its tree: the level and the index
unfoldable pub node_at : GeometryView → List ℕ → Field (ℕ × ℕ)
node_at geometry bytes = do
  level ← first_byte bytes
  index ← u32_at level.1
  ok_where (is_node geometry level.0 index.0) Place ((level.0, index.0), index.1)

-- the bytes of a line and their tag
unfoldable pub sealed_at : List ℕ → Field Sealed
sealed_at bytes = do
  cipher ← first_bytes LINE_LEN bytes
  tag ← first_bytes TAG_LEN cipher.1
  Ok (record { cipher = cipher.0; tag = tag.0 }, tag.1)

-- a line of the memory, and the bytes of its place
unfoldable pub sealed_line_at : GeometryView → List ℕ → Field (ℕ × Sealed)
sealed_line_at geometry bytes = do
  line ← line_at geometry bytes
  sealed ← sealed_at line.1
  Ok ((line.0, sealed.0), sealed.1)

-- a node of its tree, and the bytes of its place
unfoldable pub node_block_at : GeometryView → List ℕ → Field ((ℕ × ℕ) × List ℕ)
node_block_at geometry bytes = do
  node ← node_at geometry bytes
  block ← first_bytes LINE_LEN node.1
  Ok ((node.0, block.0), block.1)

-- an entry of a line, and one of a node
abbrev pub line_entry_at : (ℕ → Sealed → Entry) → GeometryView → List ℕ → Field Entry
line_entry_at entry geometry bytes = do
  found ← sealed_line_at geometry bytes
  Ok (entry found.0.0 found.0.1, found.1)

-- An entry of a node.
abbrev pub node_entry_at : (ℕ → ℕ → List ℕ → Entry) → GeometryView → List ℕ → Field Entry
node_entry_at entry geometry bytes = do
  found ← node_block_at geometry bytes
  Ok (entry found.0.0.0 found.0.0.1 found.0.1, found.1)

-- an entry of this kind
unfoldable pub entry_of_kind : ℕ → GeometryView → List ℕ → Field Entry
entry_of_kind kind geometry bytes =
    if kind == 0 then line_entry_at ReadLine geometry bytes
    else if kind == 1 then line_entry_at WriteLine geometry bytes
    else if kind == 2 then node_entry_at ReadNode geometry bytes
    else if kind == 3 then node_entry_at WriteNode geometry bytes
    else Err Kind

-- an entry
unfoldable pub entry_at : GeometryView → List ℕ → Field Entry
entry_at geometry bytes = do
  kind ← first_byte bytes
  entry_of_kind kind.0 geometry kind.1

-- so many entries
unfoldable pub entries_at : GeometryView → ℕ → List ℕ → Field (List Entry)
entries_at geometry zero bytes = Ok ([], bytes)
entries_at geometry (suc count) bytes = do
  first ← entry_at geometry bytes
  others ← entries_at geometry count first.1
  Ok (first.0 ∷ others.0, others.1)

-- the entries behind their number
unfoldable pub all_entries_at : GeometryView → List ℕ → Field (List Entry)
all_entries_at geometry bytes = do
  count ← u64_at bytes
  entries_at geometry count.0 count.1

-- the trace that a file is for a memory of this shape, or its first fault
unfoldable pub read_trace : GeometryView → List ℕ → Result Trace TraceFault
read_trace geometry file = do
  bytes ← behind_magic file
  output ← output_at bytes
  outcome ← outcome_at output.1
  entries ← all_entries_at geometry outcome.1
  ok_where (length entries.1 == 0) Rest (record {
    output = output.0;
    ending = outcome.0.0;
    code = outcome.0.1;
    retired = outcome.0.2;
    entries = entries.0;
  })
