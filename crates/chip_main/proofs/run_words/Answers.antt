use Rattle.chip_words.specs.Request.{request_of}
use Rattle.chip_words.specs.Words.{texts}
use Rattle.chip_main.proofs.Calls.{gives_asked, gives_due, says_status}
use Rattle.chip_main.proofs.Outcomes.{outcome}
use Rattle.chip_main.proofs.Requested.{asks_front}
use Rattle.chip_main.proofs.RunOutcomes.{bus_together, follows_script, honest, second_there}
use Rattle.chip_main.proofs.run_words.Goals as goal

pub returns-clause-statuses : goal.returns-clause-statuses
returns-clause-statuses g c = says_status (outcome (request_of (texts c.args.words.now)) _ _ c.conclude.result c.perform-course.result c.tell-told.result
    c.perform-course.ensures.came c.tell-told.ensures.told c.perform-course.ensures.quiet c.tell-told.ensures.quiet c.conclude.ensures.status c.conclude.ensures.run c.conclude.ensures.bus c.conclude.ensures.lies c.conclude.ensures.by_script c.conclude.ensures.second)

pub returns-clause-commands : goal.returns-clause-commands
returns-clause-commands g c = gives_asked (outcome (request_of (texts c.args.words.now)) _ _ c.conclude.result c.perform-course.result c.tell-told.result
    c.perform-course.ensures.came c.tell-told.ensures.told c.perform-course.ensures.quiet c.tell-told.ensures.quiet c.conclude.ensures.status c.conclude.ensures.run c.conclude.ensures.bus c.conclude.ensures.lies c.conclude.ensures.by_script c.conclude.ensures.second)

pub returns-clause-due : goal.returns-clause-due
returns-clause-due g c = gives_due (outcome (request_of (texts c.args.words.now)) _ _ c.conclude.result c.perform-course.result c.tell-told.result
    c.perform-course.ensures.came c.tell-told.ensures.told c.perform-course.ensures.quiet c.tell-told.ensures.quiet c.conclude.ensures.status c.conclude.ensures.run c.conclude.ensures.bus c.conclude.ensures.lies c.conclude.ensures.by_script c.conclude.ensures.second)

pub returns-clause-bus : goal.returns-clause-bus
returns-clause-bus g c = bus_together (outcome (request_of (texts c.args.words.now)) _ _ c.conclude.result c.perform-course.result c.tell-told.result
    c.perform-course.ensures.came c.tell-told.ensures.told c.perform-course.ensures.quiet c.tell-told.ensures.quiet c.conclude.ensures.status c.conclude.ensures.run c.conclude.ensures.bus c.conclude.ensures.lies c.conclude.ensures.by_script c.conclude.ensures.second)

pub returns-clause-by_script : goal.returns-clause-by_script
returns-clause-by_script g c = follows_script (outcome (request_of (texts c.args.words.now)) _ _ c.conclude.result c.perform-course.result c.tell-told.result
    c.perform-course.ensures.came c.tell-told.ensures.told c.perform-course.ensures.quiet c.tell-told.ensures.quiet c.conclude.ensures.status c.conclude.ensures.run c.conclude.ensures.bus c.conclude.ensures.lies c.conclude.ensures.by_script c.conclude.ensures.second)

pub returns-clause-honest : goal.returns-clause-honest
returns-clause-honest g c = honest (outcome (request_of (texts c.args.words.now)) _ _ c.conclude.result c.perform-course.result c.tell-told.result
    c.perform-course.ensures.came c.tell-told.ensures.told c.perform-course.ensures.quiet c.tell-told.ensures.quiet c.conclude.ensures.status c.conclude.ensures.run c.conclude.ensures.bus c.conclude.ensures.lies c.conclude.ensures.by_script c.conclude.ensures.second)

pub returns-clause-asked : goal.returns-clause-asked
returns-clause-asked g c = asks_front (outcome (request_of (texts c.args.words.now)) _ _ c.conclude.result c.perform-course.result c.tell-told.result
    c.perform-course.ensures.came c.tell-told.ensures.told c.perform-course.ensures.quiet c.tell-told.ensures.quiet c.conclude.ensures.status c.conclude.ensures.run c.conclude.ensures.bus c.conclude.ensures.lies c.conclude.ensures.by_script c.conclude.ensures.second)

pub returns-clause-second : goal.returns-clause-second
returns-clause-second g c = second_there (outcome (request_of (texts c.args.words.now)) _ _ c.conclude.result c.perform-course.result c.tell-told.result
    c.perform-course.ensures.came c.tell-told.ensures.told c.perform-course.ensures.quiet c.tell-told.ensures.quiet c.conclude.ensures.status c.conclude.ensures.run c.conclude.ensures.bus c.conclude.ensures.lies c.conclude.ensures.by_script c.conclude.ensures.second)
