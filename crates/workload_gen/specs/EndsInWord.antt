-- Segments that end in a word, for contracts inside the crate alone.
use Rattle.std.specs.Prelude.{◌≡◌, ℕ, ◌^◌, ◌<◌, ◌≤◌, List, length}
use Rattle.sec_base.specs.Segment.{from_zero}
use Rattle.sec_base.specs.declared.segment.Segment.{Segment}

-- there is one, from address 0 on, which has four bytes at least
pub record EndsInWord (segments : List Segment) : Type 0 where
  pub bytes : List ℕ
  pub one : segments ≡ from_zero bytes
  pub long : 4 ≤ length bytes
  pub short : length bytes < 2 ^ 32
