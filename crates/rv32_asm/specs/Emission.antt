-- The bytes of a statement's parts, added to those before them, for contracts inside the crate alone.
use Rattle.std.specs.Prelude.{ℕ, List, ◌++◌, Result, Ok, Err, if◌then◌else◌}
use Rattle.sec_base.specs.declared.width.Width.{Width}
use Rattle.rv32_asm_syntax.specs.declared.fault.AsmFault.{AsmFault}
use Rattle.rv32_asm_syntax.specs.declared.fault.AsmFault.TheVariants.{Range}
use Rattle.rv32_asm.specs.Encoding.{encoded_bytes, code_from, values_bytes, data_fits, fit_from, is_in_range}
use Rattle.rv32_asm_syntax.specs.Expressions.{Expression}
use Rattle.rv32_asm.specs.Labels.{Label}
use Rattle.rv32_asm_syntax.specs.Statements.{Instruction, Statement}

-- bytes with more behind them, or why there are no more
abbrev pub with_more : {E : Type 0} → List ℕ → Result (List ℕ) E → Result (List ℕ) E
with_more bytes (Ok more) = Ok (bytes ++ more)
with_more bytes (Err fault) = Err fault

-- the bytes of instructions whose values are in their ranges
unfoldable pub ranged_code : List Label → ℕ → List Instruction → Result (List ℕ) AsmFault
ranged_code labels address instructions =
    if fit_from labels address instructions then Ok (code_from labels address instructions) else Err Range

-- the bytes of values that are in their range
unfoldable pub ranged_data : List Label → Width → List Expression → Result (List ℕ) AsmFault
ranged_data labels width values =
    if data_fits labels width values then Ok (values_bytes labels width values) else Err Range

-- the bytes of a statement whose values are in their ranges
unfoldable pub ranged_bytes : List Label → ℕ → Statement → Result (List ℕ) AsmFault
ranged_bytes labels address statement =
    if is_in_range labels address statement then Ok (encoded_bytes labels address statement) else Err Range
