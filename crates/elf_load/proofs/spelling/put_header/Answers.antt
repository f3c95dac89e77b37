use Rattle.elf_load.proofs.SpelledHeaders.{header_put}
use Rattle.elf_load.proofs.spelling.put_header.Goals as goal

pub returns : goal.returns
returns c =
    header_put c.args.file.now.items c.extend_from_slice.new.self.items c.extend_from_slice-2.new.self.items c.extend_from_slice-3.new.self.items
    c.put_halves.new.file.items c.put_words.new.file.items c.put_halves-2.new.file.items c.args.entry c.args.count
    c.in_ok-extend_from_slice.ensures.items c.in_ok-extend_from_slice-2.ensures.items c.in_ok-extend_from_slice-3.ensures.items
    c.in_ok-put_halves.ensures c.in_ok-put_words.ensures c.in_ok-put_halves-2.ensures
