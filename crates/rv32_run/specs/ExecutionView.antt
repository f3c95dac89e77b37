-- What is seen of an execution.
use Rattle.std.specs.Prelude.{ℕ}
use Rattle.rv32_core.specs.State.{CallsView}

-- a processor with its services and its memory, and how many instructions it retired and may retire
pub record ExecutionView (P M : Type 0) : Type 0 where
  pub processor : P
  pub calls : CallsView
  pub memory : M
  pub retired : ℕ
  pub budget : ℕ
