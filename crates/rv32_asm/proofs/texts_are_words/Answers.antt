use Rattle.std.proofs.Common.{arith}
use Rattle.rv32_asm.proofs.Law.{instruction_back, word_back}
use Rattle.rv32_asm.proofs.Programs.{words_assembled}
use Rattle.rv32_asm.proofs.Listings.{listing_assembled}
use Rattle.rv32_asm.proofs.Sizes.{memory_below}
use Rattle.rv32_asm.proofs.texts_are_words.Goals as goal

pub returns-clause-lines : goal.returns-clause-lines
returns-clause-lines c = λ size word address below aligned inside. word_back size word address below aligned inside

pub returns-clause-instructions : goal.returns-clause-instructions
returns-clause-instructions c = λ size i address formed aligned inside. instruction_back size address i formed aligned inside

pub returns-clause-listings : goal.returns-clause-listings
returns-clause-listings c = λ size memory. listing_assembled size (omega (arith, memory_below size memory))

pub returns-clause-programs : goal.returns-clause-programs
returns-clause-programs c = λ size. words_assembled size
