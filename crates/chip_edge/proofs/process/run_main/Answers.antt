use Rattle.chip_edge.proofs.process.run_main.Goals as goal

pub returns : goal.returns
returns c = record {
  read = c.words.result;
  out = c.answer_read.new.out;
  note = c.answer_read.new.note;
  answered = rw c.from.ensures (record {
    words = rw (c.new-out.ensures.faults, c.new-note.ensures.faults) at c.answer_read.ensures.words;
    no_memory = rw (c.new-out.ensures.faults, c.new-note.ensures.faults) at c.answer_read.ensures.no_memory;
    no_text = rw (c.new-out.ensures.faults, c.new-note.ensures.faults) at c.answer_read.ensures.no_text;
  });
}
