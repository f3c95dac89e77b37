-- How the words of a run that name no option are read.
use Rattle.std.proofs.Common.{refl}
use Rattle.clap.specs.Walk.{Text}
use Rattle.clap.proofs.OnLiterals.{clap_on_literals}
use Rattle.hex.specs.Hex.{decode_pairs}
use Rattle.chip_words.specs.Defaults.{IsReadByDefault}

-- no word behind `--` is an option
pub default_run_is_read : (name : Text) → IsReadByDefault name
unfolding clap_on_literals decode_pairs
default_run_is_read name program = refl
