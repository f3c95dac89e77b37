use Rattle.std.proofs.Common.{ℕ, ◌++◌, ◌-◌, ap, sym, ◌∙◌, rules}
use Rattle.bus_model.specs.FlipBus.{with_flip}
use Rattle.bus_model.proofs.FlipSteps.{with_flip-front, with_flip-back}
use Rattle.bus_model.proofs.flip_bus.flip_sealed.Goals as goal

pub returns-then-offset-lt64 : goal.returns-then-offset-lt64
returns-then-offset-lt64 c =
    ap (λ front. front ++ c.args.sealed.now.tag) c.flip_byte.ensures
    ∙ sym (with_flip-front c.args.sealed.now.cipher c.args.sealed.now.tag c.args.offset c.args.mask (search rules))

pub returns-else-offset-lt64 : goal.returns-else-offset-lt64
returns-else-offset-lt64 c =
    ap (λ back. c.args.sealed.now.cipher ++ back) c.flip_byte-else-offset-lt64.ensures
    ∙ ap (λ (n : ℕ). c.args.sealed.now.cipher ++ with_flip (c.args.offset - n) c.args.mask c.args.sealed.now.tag) (search rules)
    ∙ sym (with_flip-back c.args.sealed.now.cipher c.args.sealed.now.tag c.args.offset c.args.mask (search rules))
