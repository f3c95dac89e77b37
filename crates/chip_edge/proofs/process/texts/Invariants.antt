use Rattle.std.proofs.Common.{◌≡◌, ◌++◌, drop, map, string_bytes}
use Rattle.chip_words.specs.Words.{texts}
use Rattle.chip_edge.proofs.process.texts.Given as goal

-- the words that were handed on, and then those that are left, are all
abbrev pub invariant-loop-word : goal.invariant-loop-word
invariant-loop-word l = texts l.texts.items ++ map string_bytes (drop l.word-index l.words) ≡ map string_bytes l.words
