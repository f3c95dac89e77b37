use Rattle.std.proofs.Common.{SFits, ◌∙◌, rules, w32, w64, sym}
use Rattle.std.proofs.lemmas.Int.{to_z-of_z}
use Rattle.rv32_asm_syntax.specs.Seen.{seen_instruction}
use Rattle.rv32_asm.proofs.Kept.{no_word, has_word, is_formed}
use Rattle.rv32_asm.proofs.encoding.word_at.Goals as goal

pub returns-in_err-imm : goal.returns-in_err-imm
returns-in_err-imm c =
    let wide : SFits w64 c.immediate_value-value.result = search rules in
    c.from_residual.ensures
    ∙ no_word c.args.labels.now c.args.address (seen_instruction c.args.instruction.now) c.immediate_value-value.result
    c.immediate_value-value.ensures.value (sym (simp to_z-of_z at c.in_err-imm.ensures))

pub encode-requires : goal.encode-requires
encode-requires c =
    let wide : SFits w64 c.immediate_value-value.result = search rules in
    let fits : SFits w32 c.in_ok-imm.imm = search rules in
    is_formed c.args.labels.now c.args.address (seen_instruction c.args.instruction.now) c.immediate_value-value.result
    c.immediate_value-value.ensures.value c.in_ok-imm.imm (sym (simp to_z-of_z at c.in_ok-imm.ensures))
    c.with_immediate.result (simp to_z-of_z at c.with_immediate.ensures)
    c.args.instruction.now.rd_is_register c.args.instruction.now.rs1_is_register c.args.instruction.now.rs2_is_register

pub returns : goal.returns
returns c =
    let wide : SFits w64 c.immediate_value-value.result = search rules in
    let fits : SFits w32 c.in_ok-imm.imm = search rules in
    has_word c.args.labels.now c.args.address (seen_instruction c.args.instruction.now) c.immediate_value-value.result
    c.immediate_value-value.ensures.value c.in_ok-imm.imm (sym (simp to_z-of_z at c.in_ok-imm.ensures))
    c.with_immediate.result (simp to_z-of_z at c.with_immediate.ensures) c.encode.result c.encode.ensures.word
