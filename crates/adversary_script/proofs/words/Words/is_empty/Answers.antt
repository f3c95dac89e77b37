use Rattle.adversary_script.proofs.Cuts.{emptied}
use Rattle.adversary_script.proofs.words.Words.is_empty.Goals as goal

pub returns : goal.returns
returns c =
    rw (← c.self.view_is)
    (emptied c.self.inside.rest.now c.skip_blanks.result.now c.is_empty.result c.skip_blanks.ensures c.is_empty.ensures)
