-- The memory of a tree, and the tree's nodes, by the layout of a node and the number of levels.
use Rattle.std.specs.Prelude.{◌==◌, ℕ, ◌+◌, ◌-◌, ◌*◌, ◌/◌, ◌%◌, ◌^◌, ◌<◌, ◌≤◌, Bool, List, [], ◌∷◌, IsTrue}
use Rattle.std.specs.List.{list_any}
use Rattle.sec_base.specs.declared.geometry.TheConstants.{LINE_LEN, LINES_PER_PAGE, PAGE_LEN}
use Rattle.sec_base.specs.declared.geometry.Layout.{Layout}
use Rattle.sec_base.specs.declared.geometry.Layout.TheVariants.{One, Two}

-- the shape of a memory's tree: the layout of its nodes, and how many levels it has
pub record GeometryView : Type 0 where
  pub layout : Layout
  pub levels : ℕ

-- how many tags a node above level 0 holds
abbrev pub arity_of : Layout → ℕ
arity_of One = 4
arity_of Two = 8

-- the bytes of a slot, which holds a child's tag
abbrev pub slot_len_of : Layout → ℕ
slot_len_of One = 16
slot_len_of Two = 8

-- A tree of this layout has at least one level, and so many at most.
abbrev pub most_levels : Layout → ℕ
most_levels One = 8
most_levels Two = 5

-- A shape that a memory's tree can have.
abbrev pub IsGeometry : GeometryView → Type 0
IsGeometry geometry = (1 ≤ geometry.levels) × (geometry.levels ≤ most_levels geometry.layout)

-- The children of a node above level 0.
abbrev pub arity : GeometryView → ℕ
arity geometry = arity_of geometry.layout

-- The bytes of a slot.
abbrev pub slot_len : GeometryView → ℕ
slot_len geometry = slot_len_of geometry.layout

-- there is a page for each node of level 0
abbrev pub page_count : GeometryView → ℕ
page_count geometry = arity geometry ^ geometry.levels

-- The number of lines of a memory.
abbrev pub line_count : GeometryView → ℕ
line_count geometry = LINES_PER_PAGE * page_count geometry

-- The bytes of a memory: 4 KiB for each page.
abbrev pub memory_size : GeometryView → ℕ
memory_size geometry = PAGE_LEN * page_count geometry

-- the line of an address, and the page of a line
abbrev pub line_of : ℕ → ℕ
line_of address = address / LINE_LEN

-- The page of a line.
abbrev pub page_of : ℕ → ℕ
page_of line = line / LINES_PER_PAGE

-- how many nodes a level has: level 0 has one for each page, and each level above it one for as many below as a node has children
abbrev pub width : GeometryView → ℕ → ℕ
width geometry level = arity geometry ^ (geometry.levels - level)

-- a node of the tree
abbrev pub IsNode : GeometryView → ℕ → ℕ → Type 0
IsNode geometry level index = (level ≤ geometry.levels) × (index < width geometry level)

-- the level and the index of a node's parent, and which of the parent's children the node is
abbrev pub parent : GeometryView → ℕ → ℕ → ℕ × ℕ
parent geometry level index = (level + 1, index / arity geometry)

-- The slot of a node's tag in its parent.
abbrev pub slot : GeometryView → ℕ → ℕ
slot geometry index = index % arity geometry

-- the index of a node's child, by its slot
abbrev pub child : GeometryView → ℕ → ℕ → ℕ
child geometry index slot = arity geometry * index + slot

-- where a node stands in a list of all nodes: those of a level stand behind those of all levels above it
abbrev pub node_number : GeometryView → ℕ → ℕ → ℕ
node_number geometry level index = width geometry level + index

-- all nodes stand below this
abbrev pub node_end : GeometryView → ℕ
node_end geometry = 2 * page_count geometry

-- so many levels of four children a node
abbrev pub one : ℕ → GeometryView
one levels = record { layout = One; levels = levels }

-- so many levels of eight children a node
abbrev pub two : ℕ → GeometryView
two levels = record { layout = Two; levels = levels }

-- all shapes: trees of four children a node have one to eight levels, and those of eight children one to five
abbrev pub all_geometries : List GeometryView
all_geometries =
    one 1 ∷ one 2 ∷ one 3 ∷ one 4 ∷ one 5 ∷ one 6 ∷ one 7 ∷ one 8 ∷ two 1 ∷ two 2 ∷ two 3 ∷ two 4 ∷ two 5 ∷ []

-- the size of some tree's memory
abbrev pub is_memory_size : ℕ → Bool
is_memory_size size = list_any (λ geometry. memory_size geometry == size) all_geometries

-- A size that a memory can have: 4 KiB for each page of a tree.
abbrev pub IsMemorySize : ℕ → Type 0
IsMemorySize size = IsTrue (is_memory_size size)
