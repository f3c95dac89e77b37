use Rattle.std.proofs.Common.{subst}
use Rattle.rv32_decode.specs.Encoding.{IsInst}
use Rattle.rv32_decode.proofs.Both.{instruction_fields}
use Rattle.rv32_core.proofs.decoded_words.DecodedWords.decode.Goals as goal

pub returns-then-kept-word-clause-fields : goal.returns-then-kept-word-clause-fields
returns-then-kept-word-clause-fields c = subst (λ kept. IsInst kept.inst) c.index-self-at.is (instruction_fields _ _ c.index-self-at.result.decoded)
