-- What the place of a data line holds.
use Rattle.std.specs.Prelude.{ℕ, List}
use Rattle.sec_base.specs.declared.counter.Counter.{Counter}
use Rattle.sec_base.specs.declared.message.Message.{Message}
use Rattle.sec_base.specs.declared.message.Message.TheVariants.{Line}
use Rattle.sec_base.specs.Evidence.{sealed_bytes}

-- a ciphertext, and the tag of its message under a counter
abbrev pub sealed_line : (Message → List ℕ) → ℕ → Counter → List ℕ → List ℕ
sealed_line tag_of line counter cipher = sealed_bytes (record { cipher = cipher; tag = tag_of (Line line counter cipher) })
