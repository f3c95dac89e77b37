use Rattle.std.proofs.Common.{rules}
use Rattle.std.proofs.lemmas.List.{take_rest}
use Rattle.rv32_asm_syntax.proofs.Quotes.{begins, goes_on, other_than}
use Rattle.rv32_asm_syntax.proofs.strings.string_of.Goals as goal

pub loop-left-init : goal.loop-left-init
loop-left-init c =
    rw take_rest (begins c.args.text.now c.new-bytes.result.items 0 (search rules) (search rules) c.new-bytes.ensures.items)

pub loop-left-preserved : goal.loop-left-preserved
loop-left-preserved c =
    goes_on c.loop-left.bytes.items c.push.new.self.items c.loop-left.left.now c.in-Some.character.rest.now c.args.text.now c.in-Some.character.meaning
    (search rules)
    (c.in-Some.ensures.character (other_than c.loop-left.left.now c.ne.result (search rules) (search rules)))
    c.loop-left.invariant
