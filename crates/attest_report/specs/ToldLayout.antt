-- How a report names the layout of the tree's nodes.
use Rattle.std.specs.Prelude.{ℕ}
use Rattle.sec_base.specs.declared.geometry.Layout.{Layout}
use Rattle.sec_base.specs.declared.geometry.Layout.TheVariants.{One, Two}

-- the number of a layout
abbrev pub layout_number : Layout → ℕ
layout_number One = 1
layout_number Two = 2
