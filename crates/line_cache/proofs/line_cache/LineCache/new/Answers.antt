use Rattle.std.proofs.Common.{◌∙◌, sym}
use Rattle.std.proofs.lemmas.Option.{none-some}
use Rattle.line_cache.proofs.line_cache.LineCache.new.Goals as goal

pub invariant_of-result : goal.invariant_of-result
invariant_of-result g c = record {
  some_memory = c.lines-lines.ensures.some_memory;
  copies = record {
    cache = c.in-Ok.ensures.cache;
    inside = λ line way is. absurd (none-some way (sym (c.in-Ok.ensures.none line) ∙ is));
    whole = λ line way is. absurd (none-some way (sym (c.in-Ok.ensures.none line) ∙ is));
  };
  clean = λ still sound line way is. absurd (none-some way (sym (c.in-Ok.ensures.none line) ∙ is));
}
