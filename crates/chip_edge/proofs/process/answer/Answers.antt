use Rattle.std.proofs.Common.{refl, inl}
use Rattle.chip_edge.proofs.process.answer.Goals as goal

pub returns : goal.returns
returns g c = inl (record {
  files = _;
  done = c.run_words.result;
  status_is = refl;
  says = rw (c.as_slice.ensures.value, c.in-Ok.ensures, c.new-files.ensures.faults, c.new-files.ensures.taken, c.new-files.ensures.asked) at c.run_words.ensures.statuses;
  gives = rw (c.as_slice.ensures.value, c.in-Ok.ensures, c.new-files.ensures.faults, c.new-files.ensures.taken, c.new-files.ensures.asked) at c.run_words.ensures.commands;
  due = rw (c.as_slice.ensures.value, c.in-Ok.ensures, c.new-files.ensures.faults, c.new-files.ensures.taken, c.new-files.ensures.asked) at c.run_words.ensures.due;
  lies = c.run_words.ensures.lies;
  by_script = c.run_words.ensures.by_script;
  honest = c.run_words.ensures.honest;
  asks = rw (c.as_slice.ensures.value, c.in-Ok.ensures, c.new-files.ensures.asked) at c.run_words.ensures.asked;
  out_faults = c.run_words.ensures.out_faults;
  note_faults = c.run_words.ensures.note_faults;
})
