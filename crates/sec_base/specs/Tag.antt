-- A tag as it stands outside the chip.
use Rattle.std.specs.Prelude.{◌≡◌, ◌-◌, ℕ, List, length, drop, replicate}
use Rattle.sec_base.specs.Geometry.{slot_len_of}
use Rattle.sec_base.specs.declared.geometry.Layout.{Layout}
use Rattle.sec_base.specs.declared.sealed.TheConstants.{TAG_LEN}

-- a tag of this layout: as many bytes as a slot has, and zeros behind them
pub record IsTag (layout : Layout) (tag : List ℕ) : Type 0 where
  pub long : length tag ≡ TAG_LEN
  pub rest : drop (slot_len_of layout) tag ≡ replicate (TAG_LEN - slot_len_of layout) 0
