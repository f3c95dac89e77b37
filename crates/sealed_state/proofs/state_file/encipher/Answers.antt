use Rattle.std.proofs.Common.{◌≡◌, List, ℕ, ◌∙◌, ap, rules}
use Rattle.pad_stream.specs.PadEngine.{PadEngineView}
use Rattle.sealed_state.specs.StateFile.{cipher_of_block}
use Rattle.sealed_state.proofs.Ciphers.{blocks_put}
use Rattle.sealed_state.proofs.state_file.encipher.Goals as goal

pub returns-clause-cipher : goal.returns-clause-cipher
returns-clause-cipher c =
    let key : PadEngineView → List ℕ = λ pads. pads.key in
    let first : c.reserve.new.self.key ≡ c.args.pads.now.key = ap key c.in_ok-reserve.ensures.taken in
    let second : c.encipher_block.new.pads.key ≡ c.args.pads.now.key = ap key c.in_ok-encipher_block.ensures.used ∙ first in
    let third : c.encipher_block-2.new.pads.key ≡ c.args.pads.now.key = ap key c.in_ok-encipher_block-2.ensures.used ∙ second in
    blocks_put c.args.pads.now.key c.args.number c.args.bytes.now _ _ _ _ _ _
    (c.in_ok-encipher_block.ensures.cipher ∙ ap (λ (k : List ℕ). cipher_of_block k c.args.number c.args.bytes.now 0) first)
    (c.in_ok-encipher_block-2.ensures.cipher ∙ ap (λ (k : List ℕ). cipher_of_block k c.args.number c.args.bytes.now 1) second)
    (c.in_ok-encipher_block-3.ensures.cipher ∙ ap (λ (k : List ℕ). cipher_of_block k c.args.number c.args.bytes.now 2) third)
    (search rules) (search rules) (search rules) (search rules)
    c.put.ensures.front c.put-2.ensures.front c.put-3.ensures.front
