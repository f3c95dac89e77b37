use Rattle.std.proofs.Common.{◌∙◌, ap, sym, rules}
use Rattle.sec_base.specs.declared.geometry.Layout.{Layout}
use Rattle.tag_engine.specs.Tag.{marked}
use Rattle.tag_engine.proofs.Marks.{is_cut, is_marked}
use Rattle.tag_engine.proofs.tag_engine.mark.Goals as goal

pub returns-in-One : goal.returns-in-One
returns-in-One c = is_marked c.args.bytes (search rules) ∙ ap (λ (layout : Layout). marked layout c.args.bytes) (sym c.in-One.is)

pub returns-in-Two : goal.returns-in-Two
returns-in-Two c =
    is_cut c.args.bytes _ (search rules) (search rules) c.put.ensures.front ∙ ap (λ (layout : Layout). marked layout c.args.bytes) (sym c.in-Two.is)
