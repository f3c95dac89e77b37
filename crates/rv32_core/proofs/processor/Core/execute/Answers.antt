use Rattle.std.proofs.Common.{◌*◌, ◌%◌, ◌^◌, [], refl, bit_or, bit_xor}
use Rattle.rv32_core.specs.State.{state_of}
use Rattle.rv32_core.proofs.Printed.{prints_nothing}
use Rattle.rv32_core.proofs.Rows.{computed, not_below, passed}
use Rattle.rv32_core.proofs.processor.Core.execute.Goals as goal

pub returns-in-Lui-clause-outcome : goal.returns-in-Lui-clause-outcome
returns-in-Lui-clause-outcome g c =
    computed (g.S.Sink.state c.args.out.now) c.args.calls.now.taken _ c.retire.result (state_of c.args.self.now c.args.calls.now.services (g.M.Ram.contents c.args.ram.now)) c.retire.new.self c.args.inst.now.rd _
    c.retire.ensures.retired c.retire.ensures.core (rw (c.in-Lui.is, c.immediate.ensures) refl)

pub returns-in-Auipc-clause-outcome : goal.returns-in-Auipc-clause-outcome
returns-in-Auipc-clause-outcome g c =
    computed (g.S.Sink.state c.args.out.now) c.args.calls.now.taken _ c.retire-in-Auipc.result (state_of c.args.self.now c.args.calls.now.services (g.M.Ram.contents c.args.ram.now)) c.retire-in-Auipc.new.self c.args.inst.now.rd _
    c.retire-in-Auipc.ensures.retired c.retire-in-Auipc.ensures.core (rw (c.in-Auipc.is, c.relative_address.ensures) refl)

pub returns-in-Addi-clause-outcome : goal.returns-in-Addi-clause-outcome
returns-in-Addi-clause-outcome g c =
    computed (g.S.Sink.state c.args.out.now) c.args.calls.now.taken _ c.retire-in-Addi.result (state_of c.args.self.now c.args.calls.now.services (g.M.Ram.contents c.args.ram.now)) c.retire-in-Addi.new.self c.args.inst.now.rd _
    c.retire-in-Addi.ensures.retired c.retire-in-Addi.ensures.core (rw (c.in-Addi.is, c.rs1-in-Addi.ensures, c.immediate-in-Addi.ensures) refl)

pub returns-in-Xori-clause-outcome : goal.returns-in-Xori-clause-outcome
returns-in-Xori-clause-outcome g c =
    computed (g.S.Sink.state c.args.out.now) c.args.calls.now.taken _ c.retire-in-Xori.result (state_of c.args.self.now c.args.calls.now.services (g.M.Ram.contents c.args.ram.now)) c.retire-in-Xori.new.self c.args.inst.now.rd _
    c.retire-in-Xori.ensures.retired c.retire-in-Xori.ensures.core (rw (c.in-Xori.is, c.rs1-in-Xori.ensures, c.immediate-in-Xori.ensures) refl)

pub returns-in-Ori-clause-outcome : goal.returns-in-Ori-clause-outcome
returns-in-Ori-clause-outcome g c =
    computed (g.S.Sink.state c.args.out.now) c.args.calls.now.taken _ c.retire-in-Ori.result (state_of c.args.self.now c.args.calls.now.services (g.M.Ram.contents c.args.ram.now)) c.retire-in-Ori.new.self c.args.inst.now.rd _
    c.retire-in-Ori.ensures.retired c.retire-in-Ori.ensures.core (rw (c.in-Ori.is, c.rs1-in-Ori.ensures, c.immediate-in-Ori.ensures) refl)

pub returns-in-Andi-clause-outcome : goal.returns-in-Andi-clause-outcome
returns-in-Andi-clause-outcome g c =
    computed (g.S.Sink.state c.args.out.now) c.args.calls.now.taken _ c.retire-in-Andi.result (state_of c.args.self.now c.args.calls.now.services (g.M.Ram.contents c.args.ram.now)) c.retire-in-Andi.new.self c.args.inst.now.rd _
    c.retire-in-Andi.ensures.retired c.retire-in-Andi.ensures.core (rw (c.in-Andi.is, c.rs1-in-Andi.ensures, c.immediate-in-Andi.ensures) refl)

pub returns-in-Add-clause-outcome : goal.returns-in-Add-clause-outcome
returns-in-Add-clause-outcome g c =
    computed (g.S.Sink.state c.args.out.now) c.args.calls.now.taken _ c.retire-in-Add.result (state_of c.args.self.now c.args.calls.now.services (g.M.Ram.contents c.args.ram.now)) c.retire-in-Add.new.self c.args.inst.now.rd _
    c.retire-in-Add.ensures.retired c.retire-in-Add.ensures.core (rw (c.in-Add.is, c.rs1-in-Add.ensures, c.rs2-in-Add.ensures) refl)

pub returns-in-Sub-clause-outcome : goal.returns-in-Sub-clause-outcome
returns-in-Sub-clause-outcome g c =
    computed (g.S.Sink.state c.args.out.now) c.args.calls.now.taken _ c.retire-in-Sub.result (state_of c.args.self.now c.args.calls.now.services (g.M.Ram.contents c.args.ram.now)) c.retire-in-Sub.new.self c.args.inst.now.rd _
    c.retire-in-Sub.ensures.retired c.retire-in-Sub.ensures.core (rw (c.in-Sub.is, c.rs1-in-Sub.ensures, c.rs2-in-Sub.ensures) refl)

pub returns-in-And-clause-outcome : goal.returns-in-And-clause-outcome
returns-in-And-clause-outcome g c =
    computed (g.S.Sink.state c.args.out.now) c.args.calls.now.taken _ c.retire-in-And.result (state_of c.args.self.now c.args.calls.now.services (g.M.Ram.contents c.args.ram.now)) c.retire-in-And.new.self c.args.inst.now.rd _
    c.retire-in-And.ensures.retired c.retire-in-And.ensures.core (rw (c.in-And.is, c.rs1-in-And.ensures, c.rs2-in-And.ensures) refl)

pub returns-in-Slti-clause-outcome : goal.returns-in-Slti-clause-outcome
returns-in-Slti-clause-outcome g c =
    computed (g.S.Sink.state c.args.out.now) c.args.calls.now.taken _ c.retire-in-Slti.result (state_of c.args.self.now c.args.calls.now.services (g.M.Ram.contents c.args.ram.now)) c.retire-in-Slti.new.self c.args.inst.now.rd c.less_signed.result
    c.retire-in-Slti.ensures.retired c.retire-in-Slti.ensures.core (rw (c.in-Slti.is, c.less_signed.ensures, c.rs1-in-Slti.ensures, c.immediate-in-Slti.ensures) refl)

pub returns-in-Sltiu-clause-outcome : goal.returns-in-Sltiu-clause-outcome
returns-in-Sltiu-clause-outcome g c =
    computed (g.S.Sink.state c.args.out.now) c.args.calls.now.taken _ c.retire-in-Sltiu.result (state_of c.args.self.now c.args.calls.now.services (g.M.Ram.contents c.args.ram.now)) c.retire-in-Sltiu.new.self c.args.inst.now.rd c.less.result
    c.retire-in-Sltiu.ensures.retired c.retire-in-Sltiu.ensures.core (rw (c.in-Sltiu.is, c.less.ensures, c.rs1-in-Sltiu.ensures, c.immediate-in-Sltiu.ensures) refl)

pub returns-in-Slli-clause-outcome : goal.returns-in-Slli-clause-outcome
returns-in-Slli-clause-outcome g c =
    computed (g.S.Sink.state c.args.out.now) c.args.calls.now.taken _ c.retire-in-Slli.result (state_of c.args.self.now c.args.calls.now.services (g.M.Ram.contents c.args.ram.now)) c.retire-in-Slli.new.self c.args.inst.now.rd c.wrapping_shl.result
    c.retire-in-Slli.ensures.retired c.retire-in-Slli.ensures.core (rw (c.in-Slli.is, c.wrapping_shl.ensures, c.rs1-in-Slli.ensures, c.immediate-in-Slli.ensures) refl)

pub returns-in-Srli-clause-outcome : goal.returns-in-Srli-clause-outcome
returns-in-Srli-clause-outcome g c =
    computed (g.S.Sink.state c.args.out.now) c.args.calls.now.taken _ c.retire-in-Srli.result (state_of c.args.self.now c.args.calls.now.services (g.M.Ram.contents c.args.ram.now)) c.retire-in-Srli.new.self c.args.inst.now.rd c.wrapping_shr.result
    c.retire-in-Srli.ensures.retired c.retire-in-Srli.ensures.core (rw (c.in-Srli.is, c.wrapping_shr.ensures, c.rs1-in-Srli.ensures, c.immediate-in-Srli.ensures) refl)

pub returns-in-Srai-clause-outcome : goal.returns-in-Srai-clause-outcome
returns-in-Srai-clause-outcome g c =
    computed (g.S.Sink.state c.args.out.now) c.args.calls.now.taken _ c.retire-in-Srai.result (state_of c.args.self.now c.args.calls.now.services (g.M.Ram.contents c.args.ram.now)) c.retire-in-Srai.new.self c.args.inst.now.rd c.shift_right_signed.result
    c.retire-in-Srai.ensures.retired c.retire-in-Srai.ensures.core (rw (c.in-Srai.is, c.shift_right_signed.ensures, c.rs1-in-Srai.ensures, c.immediate-in-Srai.ensures) refl)

pub returns-in-Sll-clause-outcome : goal.returns-in-Sll-clause-outcome
returns-in-Sll-clause-outcome g c =
    computed (g.S.Sink.state c.args.out.now) c.args.calls.now.taken _ c.retire-in-Sll.result (state_of c.args.self.now c.args.calls.now.services (g.M.Ram.contents c.args.ram.now)) c.retire-in-Sll.new.self c.args.inst.now.rd c.wrapping_shl-in-Sll.result
    c.retire-in-Sll.ensures.retired c.retire-in-Sll.ensures.core (rw (c.in-Sll.is, c.wrapping_shl-in-Sll.ensures, c.rs1-in-Sll.ensures, c.rs2-in-Sll.ensures) refl)

pub returns-in-Slt-clause-outcome : goal.returns-in-Slt-clause-outcome
returns-in-Slt-clause-outcome g c =
    computed (g.S.Sink.state c.args.out.now) c.args.calls.now.taken _ c.retire-in-Slt.result (state_of c.args.self.now c.args.calls.now.services (g.M.Ram.contents c.args.ram.now)) c.retire-in-Slt.new.self c.args.inst.now.rd c.less_signed-in-Slt.result
    c.retire-in-Slt.ensures.retired c.retire-in-Slt.ensures.core (rw (c.in-Slt.is, c.less_signed-in-Slt.ensures, c.rs1-in-Slt.ensures, c.rs2-in-Slt.ensures) refl)

pub returns-in-Sltu-clause-outcome : goal.returns-in-Sltu-clause-outcome
returns-in-Sltu-clause-outcome g c =
    computed (g.S.Sink.state c.args.out.now) c.args.calls.now.taken _ c.retire-in-Sltu.result (state_of c.args.self.now c.args.calls.now.services (g.M.Ram.contents c.args.ram.now)) c.retire-in-Sltu.new.self c.args.inst.now.rd c.less-in-Sltu.result
    c.retire-in-Sltu.ensures.retired c.retire-in-Sltu.ensures.core (rw (c.in-Sltu.is, c.less-in-Sltu.ensures, c.rs1-in-Sltu.ensures, c.rs2-in-Sltu.ensures) refl)

pub returns-in-Xor-clause-outcome : goal.returns-in-Xor-clause-outcome
returns-in-Xor-clause-outcome g c =
    computed (g.S.Sink.state c.args.out.now) c.args.calls.now.taken _ c.retire-in-Xor.result (state_of c.args.self.now c.args.calls.now.services (g.M.Ram.contents c.args.ram.now)) c.retire-in-Xor.new.self c.args.inst.now.rd (bit_xor c.rs1-in-Xor.result c.rs2-in-Xor.result)
    c.retire-in-Xor.ensures.retired c.retire-in-Xor.ensures.core (rw (c.in-Xor.is, c.rs1-in-Xor.ensures, c.rs2-in-Xor.ensures) refl)

pub returns-in-Srl-clause-outcome : goal.returns-in-Srl-clause-outcome
returns-in-Srl-clause-outcome g c =
    computed (g.S.Sink.state c.args.out.now) c.args.calls.now.taken _ c.retire-in-Srl.result (state_of c.args.self.now c.args.calls.now.services (g.M.Ram.contents c.args.ram.now)) c.retire-in-Srl.new.self c.args.inst.now.rd c.wrapping_shr-in-Srl.result
    c.retire-in-Srl.ensures.retired c.retire-in-Srl.ensures.core (rw (c.in-Srl.is, c.wrapping_shr-in-Srl.ensures, c.rs1-in-Srl.ensures, c.rs2-in-Srl.ensures) refl)

pub returns-in-Sra-clause-outcome : goal.returns-in-Sra-clause-outcome
returns-in-Sra-clause-outcome g c =
    computed (g.S.Sink.state c.args.out.now) c.args.calls.now.taken _ c.retire-in-Sra.result (state_of c.args.self.now c.args.calls.now.services (g.M.Ram.contents c.args.ram.now)) c.retire-in-Sra.new.self c.args.inst.now.rd c.shift_right_signed-in-Sra.result
    c.retire-in-Sra.ensures.retired c.retire-in-Sra.ensures.core (rw (c.in-Sra.is, c.shift_right_signed-in-Sra.ensures, c.rs1-in-Sra.ensures, c.rs2-in-Sra.ensures) refl)

pub returns-in-Or-clause-outcome : goal.returns-in-Or-clause-outcome
returns-in-Or-clause-outcome g c =
    computed (g.S.Sink.state c.args.out.now) c.args.calls.now.taken _ c.retire-in-Or.result (state_of c.args.self.now c.args.calls.now.services (g.M.Ram.contents c.args.ram.now)) c.retire-in-Or.new.self c.args.inst.now.rd (bit_or c.rs1-in-Or.result c.rs2-in-Or.result)
    c.retire-in-Or.ensures.retired c.retire-in-Or.ensures.core (rw (c.in-Or.is, c.rs1-in-Or.ensures, c.rs2-in-Or.ensures) refl)

pub returns-in-Mul-clause-outcome : goal.returns-in-Mul-clause-outcome
returns-in-Mul-clause-outcome g c =
    computed (g.S.Sink.state c.args.out.now) c.args.calls.now.taken _ c.retire-in-Mul.result (state_of c.args.self.now c.args.calls.now.services (g.M.Ram.contents c.args.ram.now)) c.retire-in-Mul.new.self c.args.inst.now.rd (c.rs1-in-Mul.result * c.rs2-in-Mul.result % 2 ^ 32)
    c.retire-in-Mul.ensures.retired c.retire-in-Mul.ensures.core (rw (c.in-Mul.is, c.rs1-in-Mul.ensures, c.rs2-in-Mul.ensures) refl)

pub returns-in-Mulh-clause-outcome : goal.returns-in-Mulh-clause-outcome
returns-in-Mulh-clause-outcome g c =
    computed (g.S.Sink.state c.args.out.now) c.args.calls.now.taken _ c.retire-in-Mulh.result (state_of c.args.self.now c.args.calls.now.services (g.M.Ram.contents c.args.ram.now)) c.retire-in-Mulh.new.self c.args.inst.now.rd c.high_product.result
    c.retire-in-Mulh.ensures.retired c.retire-in-Mulh.ensures.core (rw (c.in-Mulh.is, c.high_product.ensures, c.rs1-in-Mulh.ensures, c.rs2-in-Mulh.ensures) refl)

pub returns-in-Mulhsu-clause-outcome : goal.returns-in-Mulhsu-clause-outcome
returns-in-Mulhsu-clause-outcome g c =
    computed (g.S.Sink.state c.args.out.now) c.args.calls.now.taken _ c.retire-in-Mulhsu.result (state_of c.args.self.now c.args.calls.now.services (g.M.Ram.contents c.args.ram.now)) c.retire-in-Mulhsu.new.self c.args.inst.now.rd c.high_product_mixed.result
    c.retire-in-Mulhsu.ensures.retired c.retire-in-Mulhsu.ensures.core (rw (c.in-Mulhsu.is, c.high_product_mixed.ensures, c.rs1-in-Mulhsu.ensures, c.rs2-in-Mulhsu.ensures) refl)

pub returns-in-Mulhu-clause-outcome : goal.returns-in-Mulhu-clause-outcome
returns-in-Mulhu-clause-outcome g c =
    computed (g.S.Sink.state c.args.out.now) c.args.calls.now.taken _ c.retire-in-Mulhu.result (state_of c.args.self.now c.args.calls.now.services (g.M.Ram.contents c.args.ram.now)) c.retire-in-Mulhu.new.self c.args.inst.now.rd c.high_product_unsigned.result
    c.retire-in-Mulhu.ensures.retired c.retire-in-Mulhu.ensures.core (rw (c.in-Mulhu.is, c.high_product_unsigned.ensures, c.rs1-in-Mulhu.ensures, c.rs2-in-Mulhu.ensures) refl)

pub returns-in-Div-clause-outcome : goal.returns-in-Div-clause-outcome
returns-in-Div-clause-outcome g c =
    computed (g.S.Sink.state c.args.out.now) c.args.calls.now.taken _ c.retire-in-Div.result (state_of c.args.self.now c.args.calls.now.services (g.M.Ram.contents c.args.ram.now)) c.retire-in-Div.new.self c.args.inst.now.rd c.quotient.result
    c.retire-in-Div.ensures.retired c.retire-in-Div.ensures.core (rw (c.in-Div.is, c.quotient.ensures, c.rs1-in-Div.ensures, c.rs2-in-Div.ensures) refl)

pub returns-in-Divu-clause-outcome : goal.returns-in-Divu-clause-outcome
returns-in-Divu-clause-outcome g c =
    computed (g.S.Sink.state c.args.out.now) c.args.calls.now.taken _ c.retire-in-Divu.result (state_of c.args.self.now c.args.calls.now.services (g.M.Ram.contents c.args.ram.now)) c.retire-in-Divu.new.self c.args.inst.now.rd c.quotient_unsigned.result
    c.retire-in-Divu.ensures.retired c.retire-in-Divu.ensures.core (rw (c.in-Divu.is, c.quotient_unsigned.ensures, c.rs1-in-Divu.ensures, c.rs2-in-Divu.ensures) refl)

pub returns-in-Rem-clause-outcome : goal.returns-in-Rem-clause-outcome
returns-in-Rem-clause-outcome g c =
    computed (g.S.Sink.state c.args.out.now) c.args.calls.now.taken _ c.retire-in-Rem.result (state_of c.args.self.now c.args.calls.now.services (g.M.Ram.contents c.args.ram.now)) c.retire-in-Rem.new.self c.args.inst.now.rd c.remainder.result
    c.retire-in-Rem.ensures.retired c.retire-in-Rem.ensures.core (rw (c.in-Rem.is, c.remainder.ensures, c.rs1-in-Rem.ensures, c.rs2-in-Rem.ensures) refl)

pub returns-in-Remu-clause-outcome : goal.returns-in-Remu-clause-outcome
returns-in-Remu-clause-outcome g c =
    computed (g.S.Sink.state c.args.out.now) c.args.calls.now.taken _ c.retire-in-Remu.result (state_of c.args.self.now c.args.calls.now.services (g.M.Ram.contents c.args.ram.now)) c.retire-in-Remu.new.self c.args.inst.now.rd c.remainder_unsigned.result
    c.retire-in-Remu.ensures.retired c.retire-in-Remu.ensures.core (rw (c.in-Remu.is, c.remainder_unsigned.ensures, c.rs1-in-Remu.ensures, c.rs2-in-Remu.ensures) refl)

pub returns-in-Jal-clause-outcome : goal.returns-in-Jal-clause-outcome
returns-in-Jal-clause-outcome g c = ([], prints_nothing (g.S.Sink.state c.args.out.now) c.args.calls.now.taken, λ reliable. rw c.in-Jal.is (rw c.relative_address-in-Jal.ensures at (c.jump.ensures.outcome c.args.calls.now.services (g.M.Ram.contents c.args.ram.now))))

pub returns-in-Jalr-clause-outcome : goal.returns-in-Jalr-clause-outcome
returns-in-Jalr-clause-outcome g c = ([], prints_nothing (g.S.Sink.state c.args.out.now) c.args.calls.now.taken, λ reliable. rw c.in-Jalr.is (rw c.absolute_target.ensures at (c.jump-in-Jalr.ensures.outcome c.args.calls.now.services (g.M.Ram.contents c.args.ram.now))))

pub returns-in-Beq-clause-outcome : goal.returns-in-Beq-clause-outcome
returns-in-Beq-clause-outcome g c = ([], prints_nothing (g.S.Sink.state c.args.out.now) c.args.calls.now.taken, λ reliable. rw c.in-Beq.is (rw (c.rs1.ensures, c.rs2.ensures) at (c.branch-self.ensures.outcome c.args.calls.now.services (g.M.Ram.contents c.args.ram.now))))

pub returns-in-Bne-clause-outcome : goal.returns-in-Bne-clause-outcome
returns-in-Bne-clause-outcome g c = ([], prints_nothing (g.S.Sink.state c.args.out.now) c.args.calls.now.taken, λ reliable. rw c.in-Bne.is (rw (c.rs1-in-Bne.ensures, c.rs2-in-Bne.ensures) at (c.branch-self-in-Bne.ensures.outcome c.args.calls.now.services (g.M.Ram.contents c.args.ram.now))))

pub returns-in-Blt-clause-outcome : goal.returns-in-Blt-clause-outcome
returns-in-Blt-clause-outcome g c = ([], prints_nothing (g.S.Sink.state c.args.out.now) c.args.calls.now.taken, λ reliable. rw c.in-Blt.is (rw (c.is_less_signed.ensures, c.rs1-in-Blt.ensures, c.rs2-in-Blt.ensures) at (c.branch-self-in-Blt.ensures.outcome c.args.calls.now.services (g.M.Ram.contents c.args.ram.now))))

pub returns-in-Bge-clause-outcome : goal.returns-in-Bge-clause-outcome
returns-in-Bge-clause-outcome g c = ([], prints_nothing (g.S.Sink.state c.args.out.now) c.args.calls.now.taken, λ reliable. rw c.in-Bge.is (rw (c.is_less_signed-in-Bge.ensures, c.rs1-in-Bge.ensures, c.rs2-in-Bge.ensures) at (c.branch-self-in-Bge.ensures.outcome c.args.calls.now.services (g.M.Ram.contents c.args.ram.now))))

pub returns-in-Bltu-clause-outcome : goal.returns-in-Bltu-clause-outcome
returns-in-Bltu-clause-outcome g c = ([], prints_nothing (g.S.Sink.state c.args.out.now) c.args.calls.now.taken, λ reliable. rw c.in-Bltu.is (rw (c.rs1-in-Bltu.ensures, c.rs2-in-Bltu.ensures) at (c.branch-self-in-Bltu.ensures.outcome c.args.calls.now.services (g.M.Ram.contents c.args.ram.now))))

pub returns-in-Bgeu-clause-outcome : goal.returns-in-Bgeu-clause-outcome
returns-in-Bgeu-clause-outcome g c = ([], prints_nothing (g.S.Sink.state c.args.out.now) c.args.calls.now.taken, λ reliable. rw c.in-Bgeu.is (rw (not_below c.rs1-in-Bgeu.result c.rs2-in-Bgeu.result, c.rs1-in-Bgeu.ensures, c.rs2-in-Bgeu.ensures) at (c.branch-self-in-Bgeu.ensures.outcome c.args.calls.now.services (g.M.Ram.contents c.args.ram.now))))

pub returns-in-Lb-clause-outcome : goal.returns-in-Lb-clause-outcome
returns-in-Lb-clause-outcome g c = ([], prints_nothing (g.S.Sink.state c.args.out.now) c.args.calls.now.taken, λ reliable. rw c.in-Lb.is (c.load.ensures.outcome reliable c.args.calls.now.services))

pub returns-in-Lh-clause-outcome : goal.returns-in-Lh-clause-outcome
returns-in-Lh-clause-outcome g c = ([], prints_nothing (g.S.Sink.state c.args.out.now) c.args.calls.now.taken, λ reliable. rw c.in-Lh.is (c.load-in-Lh.ensures.outcome reliable c.args.calls.now.services))

pub returns-in-Lw-clause-outcome : goal.returns-in-Lw-clause-outcome
returns-in-Lw-clause-outcome g c = ([], prints_nothing (g.S.Sink.state c.args.out.now) c.args.calls.now.taken, λ reliable. rw c.in-Lw.is (c.load-in-Lw.ensures.outcome reliable c.args.calls.now.services))

pub returns-in-Lbu-clause-outcome : goal.returns-in-Lbu-clause-outcome
returns-in-Lbu-clause-outcome g c = ([], prints_nothing (g.S.Sink.state c.args.out.now) c.args.calls.now.taken, λ reliable. rw c.in-Lbu.is (c.load-in-Lbu.ensures.outcome reliable c.args.calls.now.services))

pub returns-in-Lhu-clause-outcome : goal.returns-in-Lhu-clause-outcome
returns-in-Lhu-clause-outcome g c = ([], prints_nothing (g.S.Sink.state c.args.out.now) c.args.calls.now.taken, λ reliable. rw c.in-Lhu.is (c.load-in-Lhu.ensures.outcome reliable c.args.calls.now.services))

pub returns-in-Sb-clause-outcome : goal.returns-in-Sb-clause-outcome
returns-in-Sb-clause-outcome g c = ([], prints_nothing (g.S.Sink.state c.args.out.now) c.args.calls.now.taken, λ reliable. rw c.in-Sb.is (c.store.ensures.outcome reliable c.args.calls.now.services))

pub returns-in-Sh-clause-outcome : goal.returns-in-Sh-clause-outcome
returns-in-Sh-clause-outcome g c = ([], prints_nothing (g.S.Sink.state c.args.out.now) c.args.calls.now.taken, λ reliable. rw c.in-Sh.is (c.store-in-Sh.ensures.outcome reliable c.args.calls.now.services))

pub returns-in-Sw-clause-outcome : goal.returns-in-Sw-clause-outcome
returns-in-Sw-clause-outcome g c = ([], prints_nothing (g.S.Sink.state c.args.out.now) c.args.calls.now.taken, λ reliable. rw c.in-Sw.is (c.store-in-Sw.ensures.outcome reliable c.args.calls.now.services))

pub returns-in-Fence-clause-outcome : goal.returns-in-Fence-clause-outcome
returns-in-Fence-clause-outcome g c =
    passed (g.S.Sink.state c.args.out.now) c.args.calls.now.taken c.args.inst.now.op c.args.inst.now (state_of c.args.self.now c.args.calls.now.services (g.M.Ram.contents c.args.ram.now)) c.pass.new.self c.in-Fence.is c.pass.ensures
