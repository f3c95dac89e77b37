use Rattle.std.proofs.Common.{◌≡◌, drop}
use Rattle.rv32_asm_syntax.specs.Lines as spec
use Rattle.rv32_asm_syntax.specs.Seen.{seen_quoting}
use Rattle.rv32_asm_syntax.proofs.lines.has_non_ascii.Given as goal

abbrev pub invariant-loop-byte : goal.invariant-loop-byte
invariant-loop-byte l = spec.has_non_ascii (seen_quoting l.quoting) (drop l.byte-index l.line) ≡ spec.has_non_ascii spec.Outside l.line
