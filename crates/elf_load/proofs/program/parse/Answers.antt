use Rattle.std.proofs.Common.{◌≡◌, Some, None, refl, sym, ◌∙◌, ap}
use Rattle.std.proofs.lemmas.Result.{err_from_is_err_and}
use Rattle.elf_load.specs.Format.{FileHeader}
use Rattle.elf_load.proofs.Refusing.{first_fault-header, first_fault-program}
use Rattle.elf_load.proofs.Fitting.{image_fits, segments_are}
use Rattle.elf_load.proofs.Programs.{elf_image}
use Rattle.elf_load.proofs.program.parse.Goals as goal

pub returns-in_err-header-clause-refused : goal.returns-in_err-header-clause-refused
returns-in_err-header-clause-refused c = λ fault is.
    let p = err_from_is_err_and c.from_residual.result c.from_residual.ensures.1 in
    let same : c.in_err-header.field-0.0 ≡ fault = cc (p.1, p.2) in
    rw (first_fault-header c.args.file.now c.args.size fault (c.in_err-header.ensures.first ∙ ap (λ x. Some x) same)) refl

pub returns-in_err-check_program-clause-refused : goal.returns-in_err-check_program-clause-refused
returns-in_err-check_program-clause-refused c = λ fault is.
    let p = err_from_is_err_and c.from_residual-in_err-check_program.result c.from_residual-in_err-check_program.ensures.1 in
    let same : c.in_err-check_program.field-0.0 ≡ fault = cc (p.1, p.2) in
    rw (first_fault-program c.args.file.now c.args.size c.in_ok-header.header c.deref.result.now (Some fault)
    c.in_ok-header.ensures.first c.in_ok-header.ensures.header (c.deref.ensures.value ∙ c.in_ok-headers.ensures)
    (c.in_err-check_program.ensures ∙ ap (λ x. Some x) same)) refl

pub invariant_of-result : goal.invariant_of-result
invariant_of-result c =
    record {
      fits = rw (ap (λ (header : FileHeader). header.entry) c.header.view_is) (image_fits c.args.file.now c.args.size c.in_ok-header.header c.deref.result.now c.from_vec.result
          c.requires c.in_ok-header.ensures.few (c.deref.ensures.value ∙ c.in_ok-headers.ensures) c.in_ok-check_program.ensures
          (rw (c.from_vec.ensures, c.deref.ensures.value, sym c.deref-2.ensures.value) c.in_ok-segments.ensures));
    }

pub returns-clause-program : goal.returns-clause-program
returns-clause-program c =
    elf_image c.args.file.now c.args.size _
    (first_fault-program c.args.file.now c.args.size c.in_ok-header.header c.deref.result.now None
    c.in_ok-header.ensures.first c.in_ok-header.ensures.header (c.deref.ensures.value ∙ c.in_ok-headers.ensures)
    c.in_ok-check_program.ensures)
    (ap (λ (header : FileHeader). header.entry) (c.header.view_is ∙ c.in_ok-header.ensures.header))
    refl
    (segments_are c.args.file.now c.in_ok-header.header c.in_ok-headers.headers.items c.from_vec.result
    c.in_ok-header.ensures.header c.in_ok-headers.ensures (rw (c.from_vec.ensures, sym c.deref-2.ensures.value) c.in_ok-segments.ensures))
