use Rattle.rv32_asm.proofs.Parts.{parts_back}
use Rattle.rv32_asm.proofs.parts_make_words.Goals as goal

pub returns : goal.returns
returns c = λ word below. parts_back word below
