use Rattle.std.proofs.Common.{◌∙◌, ap}
use Rattle.clap.specs.Simple.{app_of}
use Rattle.chip_words.specs.Words.{answer_asked, texts}
use Rattle.chip_words.proofs.Requests.{parse_asks, refusal_asks, usage_explains}
use Rattle.chip_words.proofs.read_words.Goals as goal

pub requested-requires-clause-taken : goal.requested-requires-clause-taken
requested-requires-clause-taken c =
    let parse = c.in-Ok in
    (parse_asks (app_of c.in_ok-app.app) (texts c.args.words.now) parse.matches c.in_ok-app.ensures parse.ensures.matches parse.ensures.kinds).1

pub requested-requires-clause-values : goal.requested-requires-clause-values
requested-requires-clause-values c =
    let parse = c.in-Ok in
    (parse_asks (app_of c.in_ok-app.app) (texts c.args.words.now) parse.matches c.in_ok-app.ensures parse.ensures.matches parse.ensures.kinds).2

pub returns-in-Ok-requested-clause-taken : goal.returns-in-Ok-requested-clause-taken
returns-in-Ok-requested-clause-taken c =
    let parse = c.in-Ok in
    (parse_asks (app_of c.in_ok-app.app) (texts c.args.words.now) parse.matches c.in_ok-app.ensures parse.ensures.matches parse.ensures.kinds).0
    ∙ c.requested.ensures ∙ ap answer_asked c.in-Ok-requested.is

pub returns-in-Ok-clause-refused : goal.returns-in-Ok-clause-refused
returns-in-Ok-clause-refused c =
    let parse = c.in-Ok in
    (parse_asks (app_of c.in_ok-app.app) (texts c.args.words.now) parse.matches c.in_ok-app.ensures parse.ensures.matches parse.ensures.kinds).0
    ∙ c.requested.ensures ∙ ap answer_asked c.in-Err-requested.is

pub returns-clause-refused : goal.returns-clause-refused
returns-clause-refused c =
    let parse = c.in-Err in
    usage_explains c.refusal.result _ _ c.refusal.ensures (refusal_asks (app_of c.in_ok-app.app) (texts c.args.words.now) parse.error c.in_ok-app.ensures parse.ensures.kinds)
