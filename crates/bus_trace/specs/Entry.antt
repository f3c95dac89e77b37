-- The entries of a trace, and the accesses of a bus that they tell.
use Rattle.std.specs.Prelude.{◌≡◌, ℕ, ◌<◌, List, length, map}
use Rattle.std.specs.List.{AllByRecursion}
use Rattle.sec_base.specs.declared.geometry.TheConstants.{LINE_LEN}
use Rattle.sec_base.specs.declared.sealed.TheConstants.{TAG_LEN}
use Rattle.sec_base.specs.declared.sealed.Sealed.{Sealed}
use Rattle.sec_base.specs.declared.place.Place.TheVariants.{Line, Node}
use Rattle.sec_base.specs.Evidence.{sealed_bytes}
use Rattle.sec_base.specs.Geometry.{GeometryView, IsNode, line_count}
use Rattle.bus_model.specs.Access.{Access, Read, Write}
use Rattle.bus_trace.specs.declared.entry.Entry.{Entry}
use Rattle.bus_trace.specs.declared.entry.Entry.TheVariants.{ReadLine, WriteLine, ReadNode, WriteNode}

-- the access that an entry tells
abbrev pub access_of : Entry → Access
access_of (ReadLine line sealed) = Read (Line line) (sealed_bytes sealed)
access_of (WriteLine line sealed) = Write (Line line) (sealed_bytes sealed)
access_of (ReadNode level index block) = Read (Node level index) block
access_of (WriteNode level index block) = Write (Node level index) block

-- the accesses that entries tell, in order
abbrev pub accesses_of : List Entry → List Access
accesses_of entries = map access_of entries

-- a line of a memory of this shape, with as many bytes as the place of a line holds
pub record IsLineEntry (geometry : GeometryView) (line : ℕ) (sealed : Sealed) : Type 0 where
  pub inside : line < line_count geometry
  pub cipher : length sealed.cipher ≡ LINE_LEN
  pub tag : length sealed.tag ≡ TAG_LEN

-- a node of its tree, with as many bytes as the place of a node holds
pub record IsNodeEntry (geometry : GeometryView) (level index : ℕ) (block : List ℕ) : Type 0 where
  pub inside : IsNode geometry level index
  pub long : length block ≡ LINE_LEN

-- an entry of a place of such a memory
abbrev pub IsEntry : GeometryView → Entry → Type 0
IsEntry geometry (ReadLine line sealed) = IsLineEntry geometry line sealed
IsEntry geometry (WriteLine line sealed) = IsLineEntry geometry line sealed
IsEntry geometry (ReadNode level index block) = IsNodeEntry geometry level index block
IsEntry geometry (WriteNode level index block) = IsNodeEntry geometry level index block

-- each is one
abbrev pub AreEntries : GeometryView → List Entry → Type 0
AreEntries geometry entries = AllByRecursion (IsEntry geometry) entries
