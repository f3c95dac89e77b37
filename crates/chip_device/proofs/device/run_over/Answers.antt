use Rattle.chip_words.specs.Words.{run_asked}
use Rattle.chip_device.proofs.DeviceRuns.{hmac_terms_are, keeps_asked, runs_asked, xor_terms_are}
use Rattle.chip_device.proofs.device.run_over.Goals as goal

pub returns-in-Hmac-clause-ran : goal.returns-in-Hmac-clause-ran
returns-in-Hmac-clause-ran g c = λ program flat.
    let terms = hmac_terms_are (run_asked c.args.asked.now) program c.args.input.now c.args.image.now c.setup_of-setup.result c.new.result c.in-Hmac.is c.setup_of-setup.ensures c.new.ensures flat in
    runs_asked _ _ _ _ _ _ _ c.run.result.0 terms c.requires.new c.run.ensures.run

pub returns-in-Xor-clause-ran : goal.returns-in-Xor-clause-ran
returns-in-Xor-clause-ran g c = λ program flat.
    let terms = xor_terms_are (run_asked c.args.asked.now) program c.args.input.now c.args.image.now c.setup_of-setup.result c.new-in-Xor.result c.in-Xor.is c.setup_of-setup.ensures c.new-in-Xor.ensures flat in
    runs_asked _ _ _ _ _ _ _ c.run-in-Xor.result.0 terms c.requires.new c.run-in-Xor.ensures.run

pub returns-in-Hmac-clause-accesses : goal.returns-in-Hmac-clause-accesses
returns-in-Hmac-clause-accesses g c =
    let went = c.run.ensures.accesses in (
      went.0,
      went.1,
      λ program flat.
          let terms = hmac_terms_are (run_asked c.args.asked.now) program c.args.input.now c.args.image.now c.setup_of-setup.result c.new.result c.in-Hmac.is c.setup_of-setup.ensures c.new.ensures flat in
          keeps_asked _ _ c.run.result.0 _ went.0 terms went.2,
    )

pub returns-in-Xor-clause-accesses : goal.returns-in-Xor-clause-accesses
returns-in-Xor-clause-accesses g c =
    let went = c.run-in-Xor.ensures.accesses in (
      went.0,
      went.1,
      λ program flat.
          let terms = xor_terms_are (run_asked c.args.asked.now) program c.args.input.now c.args.image.now c.setup_of-setup.result c.new-in-Xor.result c.in-Xor.is c.setup_of-setup.ensures c.new-in-Xor.ensures flat in
          keeps_asked _ _ c.run-in-Xor.result.0 _ went.0 terms went.2,
    )
