use Rattle.std.proofs.Common.{arith, sym, ◌∙◌}
use Rattle.adversary_script.proofs.Cuts.{next_word, no_words}
use Rattle.adversary_script.proofs.words.Words.next.Goals as goal

pub returns-then-is_empty-clause-none : goal.returns-then-is_empty-clause-none
returns-then-is_empty-clause-none c = λ _.
    sym c.self.view_is
    ∙ no_words c.self.inside.rest.now c.skip_blanks-text.result.now c.skip_blanks-text.ensures c.if-is_empty.ensures

pub returns-clause-some : goal.returns-clause-some
returns-clause-some c =
    rw (c.split_at.ensures.front, c.split_at.ensures.back)
    (sym c.self.view_is
    ∙ next_word c.self.inside.rest.now c.skip_blanks-text.result.now c.front_len.result c.skip_blanks-text.ensures
    c.front_len.ensures.len (omega arith))
