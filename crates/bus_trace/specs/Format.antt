-- The bytes of a trace. Of a number the lowest byte stands first.
use Rattle.std.specs.Prelude.{◌==◌, ℕ, List, [], ◌∷◌, ◌++◌, length, Bool, IsTrue}
use Rattle.std.specs.Int.{w32, w64, to_le_bytes}
use Rattle.std.specs.List.{flat_map, list_any}
use Rattle.sec_base.specs.declared.sealed.Sealed.{Sealed}
use Rattle.sec_base.specs.Geometry.{GeometryView}
use Rattle.bus_trace.specs.declared.entry.Entry.{Entry}
use Rattle.bus_trace.specs.declared.entry.Entry.TheVariants.{ReadLine, WriteLine, ReadNode, WriteNode}
use Rattle.bus_trace.specs.declared.trace.Trace.{Trace}
use Rattle.bus_trace.specs.Entry.{AreEntries}

-- how a trace begins: the letters RVTR and the version, 1
abbrev pub magic : List ℕ
magic = 0x52 ∷ 0x56 ∷ 0x54 ∷ 0x52 ∷ 0x01 ∷ []

-- a number in four bytes and in eight
unfoldable pub u32_bytes : ℕ → List ℕ
u32_bytes n = to_le_bytes w32 n

-- A number in eight bytes.
unfoldable pub u64_bytes : ℕ → List ℕ
u64_bytes n = to_le_bytes w64 n

-- the endings that make a trace: halted, trapped, out of steps, tampered and spent
abbrev pub is_ending : ℕ → Bool
is_ending ending = list_any (λ number. ending == number) (0 ∷ 1 ∷ 4 ∷ 5 ∷ 6 ∷ [])

-- an entry of a line, of this kind: the line, its 64 bytes and their tag
abbrev pub line_bytes : ℕ → ℕ → Sealed → List ℕ
line_bytes kind line sealed = kind ∷ u32_bytes line ++ sealed.cipher ++ sealed.tag

-- an entry of a node, of this kind: the level, the index, and the node's 64 bytes
abbrev pub node_bytes : ℕ → ℕ → ℕ → List ℕ → List ℕ
node_bytes kind level index block = kind ∷ level ∷ u32_bytes index ++ block

-- an entry, by its kind
unfoldable pub entry_bytes : Entry → List ℕ
entry_bytes (ReadLine line sealed) = line_bytes 0 line sealed
entry_bytes (WriteLine line sealed) = line_bytes 1 line sealed
entry_bytes (ReadNode level index block) = node_bytes 2 level index block
entry_bytes (WriteNode level index block) = node_bytes 3 level index block

-- the output, behind its length
unfoldable pub output_bytes : List ℕ → List ℕ
output_bytes output = u64_bytes (length output) ++ output

-- the ending, its code and the retired count
unfoldable pub outcome_bytes : ℕ → ℕ → ℕ → List ℕ
outcome_bytes ending code retired = ending ∷ u32_bytes code ++ u64_bytes retired

-- the entries, behind their number
unfoldable pub entries_bytes : List Entry → List ℕ
entries_bytes entries = u64_bytes (length entries) ++ flat_map entry_bytes entries

-- a trace
unfoldable pub trace_bytes : Trace → List ℕ
trace_bytes trace =
    magic
    ++ output_bytes trace.output
    ++ outcome_bytes trace.ending trace.code trace.retired
    ++ entries_bytes trace.entries

-- A trace in form, of a memory of this shape: its ending makes a trace, and its places are the memory's.
pub record IsInForm (geometry : GeometryView) (trace : Trace) : Type 0 where
  pub ending : IsTrue (is_ending trace.ending)
  pub entries : AreEntries geometry trace.entries
