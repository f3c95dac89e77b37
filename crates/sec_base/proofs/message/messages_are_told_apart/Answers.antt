use Rattle.sec_base.proofs.MessageBytes.{told_apart}
use Rattle.sec_base.proofs.message.messages_are_told_apart.Goals as goal

pub returns : goal.returns
returns c = told_apart
