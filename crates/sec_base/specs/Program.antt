-- A program: where it begins, and what of the memory it fills.
use Rattle.std.specs.Prelude.{◌≡◌, ℕ, List}
use Rattle.sec_base.specs.declared.segment.Segment.{Segment}
use Rattle.sec_base.specs.declared.image.Image.{Image}

-- What a file or a text says: where the run begins, and what is stored.
pub record Program : Type 0 where
  pub entry : ℕ
  pub segments : List Segment

-- the image is this program, for a memory of this size
pub record IsImageOf (size : ℕ) (program : Program) (image : Image) : Type 0 where
  pub entry : image.entry ≡ program.entry
  pub memory : image.size ≡ size
  pub segments : image.segments ≡ program.segments
