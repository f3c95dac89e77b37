use Rattle.elf_load.proofs.SpelledTables.{bytes_fit}
use Rattle.elf_load.proofs.spelling.spell.Goals as goal

pub put_table-requires : goal.put_table-requires
put_table-requires c =
    rw c.as_slice-segments.ensures (bytes_fit c.args.image.now.segments c.args.image.now.fits.few c.requires)
