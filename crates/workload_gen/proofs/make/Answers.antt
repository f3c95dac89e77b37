use Rattle.std.proofs.Common.{refl}
use Rattle.workload_gen.proofs.TextProgram.{text-ends_in_word, numbered-fits, numbered-is}
use Rattle.workload_gen.proofs.make.Goals as goal

pub numbered-requires : goal.numbered-requires
numbered-requires c = text-ends_in_word c.in_ok-image.image c.in_ok-image.ensures.program

pub invariant_of-result : goal.invariant_of-result
invariant_of-result c = record { fits = numbered-fits _ c.in_ok-image.image _ c.in_ok-image.ensures.program c.in_ok-segments.ensures }

pub returns-clause-program : goal.returns-clause-program
returns-clause-program c = numbered-is _ c.in_ok-image.image _ c.in_ok-image.ensures.program refl refl c.in_ok-segments.ensures
