use Rattle.clap.specs.Matches.{found_of}
use Rattle.clap.specs.Walk.{rows_of}
use Rattle.clap.specs.declared.parser.matches.ArgMatches.TheViews.{out-ArgMatches}
use Rattle.chip_words.proofs.CommandMet.{command_met}
use Rattle.chip_words.proofs.values.requested.Goals as goal

pub request_of_trace-requires-clause-trace : goal.request_of_trace-requires-clause-trace
request_of_trace-requires-clause-trace c is =
    let met = command_met (out-ArgMatches c.args.matches.now).subcommand c.unwrap.result.0.now
    (rows_of (found_of c.unwrap.result.1.now)) (rw c.unwrap.ensures at c.subcommand.ensures.name)
    (rw c.unwrap.ensures at c.subcommand.ensures.rows) c.requires.values in
    met.trace is
