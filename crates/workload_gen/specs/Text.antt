-- The text of the generated program.
use Rattle.std.specs.Prelude.{ℕ, List, [], ◌∷◌, ◌++◌, codes}
use Rattle.std.specs.List.{flat_map}
use Rattle.rv32_asm_syntax.specs.Characters.{line_feed}

-- The assembly text of the generated programs, line by line.
unfoldable pub workload_lines : List (List ℕ)
workload_lines =
    codes "_start: la   s0, cell"
    ∷ codes "        lw   s1, 0(s0)"
    ∷ codes "        mv   s2, s1"
    ∷ codes "        lui  s3, 0x20"
    ∷ codes "        li   s4, 0x3fffc"
    ∷ codes "        li   s5, 20000"
    ∷ codes "fill:   call step"
    ∷ codes "        and  t0, s1, s4"
    ∷ codes "        add  t0, t0, s3"
    ∷ codes "        sw   s1, 0(t0)"
    ∷ codes "        addi s5, s5, -1"
    ∷ codes "        bnez s5, fill"
    ∷ codes "        lui  s7, 0x80"
    ∷ codes "        lui  s8, 0x81"
    ∷ codes "        lui  s9, 0x82"
    ∷ codes "        li   s5, 300"
    ∷ codes "hot:    sw   s5, 0(s7)"
    ∷ codes "        sw   s5, 0(s8)"
    ∷ codes "        sw   s5, 0(s9)"
    ∷ codes "        addi s5, s5, -1"
    ∷ codes "        bnez s5, hot"
    ∷ codes "        mv   s1, s2"
    ∷ codes "        li   s5, 20000"
    ∷ codes "        li   s6, 0"
    ∷ codes "        li   t4, 31"
    ∷ codes "back:   call step"
    ∷ codes "        and  t0, s1, s4"
    ∷ codes "        add  t0, t0, s3"
    ∷ codes "        lw   t3, 0(t0)"
    ∷ codes "        mul  s6, s6, t4"
    ∷ codes "        add  s6, s6, t3"
    ∷ codes "        addi s5, s5, -1"
    ∷ codes "        bnez s5, back"
    ∷ codes "        lw   t3, 0(s7)"
    ∷ codes "        add  s6, s6, t3"
    ∷ codes "        lw   t3, 0(s8)"
    ∷ codes "        add  s6, s6, t3"
    ∷ codes "        lw   t3, 0(s9)"
    ∷ codes "        add  s6, s6, t3"
    ∷ codes "        sw   s6, 0(s0)"
    ∷ codes "        li   a0, 1"
    ∷ codes "        mv   a1, s0"
    ∷ codes "        li   a2, 4"
    ∷ codes "        li   a7, 64"
    ∷ codes "        ecall"
    ∷ codes "        andi a0, s6, 255"
    ∷ codes "        li   a7, 93"
    ∷ codes "        ecall"
    ∷ codes "step:   slli t5, s1, 13"
    ∷ codes "        xor  s1, s1, t5"
    ∷ codes "        srli t5, s1, 17"
    ∷ codes "        xor  s1, s1, t5"
    ∷ codes "        slli t5, s1, 5"
    ∷ codes "        xor  s1, s1, t5"
    ∷ codes "        ret"
    ∷ codes "cell:   .word 0"
    ∷ []

-- each line ends with a line feed
unfoldable pub workload_text : List ℕ
workload_text = flat_map (λ line. line ++ line_feed ∷ []) workload_lines
