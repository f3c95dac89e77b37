use Rattle.std.proofs.Common.{◌≡◌, ◌-◌}
use Rattle.std.specs.Prelude.{find}
use Rattle.std.specs.List.{list_any, range_with_len}
use Rattle.std.specs.Str.{bytes_eq}
use Rattle.rv32_asm_syntax.specs.Registers.{names_of}
use Rattle.rv32_asm_syntax.proofs.registers.register_of.Given as goal

abbrev pub invariant-loop-number : goal.invariant-loop-number
invariant-loop-number l =
    find (λ number. list_any (bytes_eq l.name) (names_of number)) (range_with_len l.number (32 - l.number))
    ≡ find (λ number. list_any (bytes_eq l.name) (names_of number)) (range_with_len 0 32)
