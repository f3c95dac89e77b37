use Rattle.std.proofs.Common.{◌∙◌, ap, [], codes, unwrap_or}
use Rattle.std.specs.Str.{bytes_eq}
use Rattle.clap.specs.Matches.{found_of, one_text}
use Rattle.clap.proofs.WalkLemmas.{one_text-rows}
use Rattle.chip_words.proofs.Flags.{flag_read}
use Rattle.chip_words.proofs.values.is_flat.Goals as goal

pub returns : goal.returns
returns c =
    let found = found_of c.args.values.now in
    c.unwrap_or.ensures ∙ flag_read _ (one_text found (codes "flat")) c.get_one.result c.get_one.ensures.none c.get_one.ensures.value
    ∙ ap (λ text. bytes_eq (unwrap_or text []) (codes "true")) (one_text-rows found (codes "flat"))
