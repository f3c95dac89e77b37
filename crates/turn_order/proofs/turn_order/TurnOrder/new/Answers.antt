use Rattle.std.proofs.Common.{[], ◌∷◌, map, sym, ◌∙◌, rules}
use Rattle.turn_order.specs.declared.side.Side.TheVariants.{First, Second}
use Rattle.turn_order.specs.Side.{side_of}
use Rattle.turn_order.proofs.Rounds.{from_start, is_first_round, is_taking_turns}
use Rattle.turn_order.proofs.turn_order.TurnOrder.new.Goals as goal

pub returns-then-is_empty : goal.returns-then-is_empty
returns-then-is_empty c = from_start (First ∷ Second ∷ []) ∙ sym (is_taking_turns c.args.order.now (search rules))

pub returns-else-is_empty : goal.returns-else-is_empty
returns-else-is_empty c = from_start (map side_of c.args.order.now) ∙ sym (is_first_round c.args.order.now (search rules))
