-- What the command that was met has, by its name.
use Rattle.std.proofs.Common.{◌≡◌, List, Option, Some, None, subst}
use Rattle.std.specs.Prelude.{option_map, Box}
use Rattle.std.specs.Box.{box_value}
use Rattle.clap.specs.Matches.{found_of}
use Rattle.clap.specs.Simple.{subcommand_rows}
use Rattle.clap.specs.Walk.{Row, Text, rows_of}
use Rattle.clap.specs.declared.parser.matches.ArgMatches.TheViews.{out-SubCommand}
use Rattle.clap.specs.declared.parser.matches.SubCommand.{SubCommand}
use Rattle.chip_words.specs.Commands.{HasItsValues, IfCommand}

-- the command of this name and these values has the values that it can't do without
pub command_met : {Z : Type 0} (met : Option (Box SubCommand Z)) (name : Text) (values : List Row)
    → Some name ≡ option_map (λ b. (out-SubCommand (box_value b)).name.now) met
    → Some values ≡ option_map (λ p. p.1) (subcommand_rows met) → IfCommand (subcommand_rows met) → HasItsValues name values
command_met None name values names rows has = absurd cc
command_met (Some b) name values names rows has =
    let same_name : (out-SubCommand (box_value b)).name.now ≡ name = cc in
    let same_rows : rows_of (found_of (out-SubCommand (box_value b)).matches) ≡ values = cc in
    subst (λ (n : Text). HasItsValues n values) same_name
    (subst (λ (r : List Row). HasItsValues (out-SubCommand (box_value b)).name.now r) same_rows has)
