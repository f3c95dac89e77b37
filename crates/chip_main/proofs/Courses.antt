-- How a call comes to its course.
use Rattle.std.proofs.Common.{ℕ, List, [], ◌∷◌, ◌++◌, Option, Result, Ok, refl, sym, ◌∙◌, arith, append-nil, subst}
use Rattle.adversary_script.specs.declared.script.ScriptLine.{ScriptLine}
use Rattle.sec_base.specs.Geometry.{memory_size}
use Rattle.sec_base.specs.Files.{FilesState}
use Rattle.sec_base.specs.Sink.{IsWritten, SinkState}
use Rattle.sec_base.specs.declared.image.Image.{Image}
use Rattle.bus_trace.specs.declared.trace.Trace.{Trace}
use Rattle.chip_words.specs.Request.{Asked, FileAsked, JudgeAsked, PairAsked, RunAsked, WordsFault, to_judge, to_pair, to_run, to_trace}
use Rattle.sec_base.specs.Program.{IsImageOf, Program}
use Rattle.chip_words.specs.Words.{Explains}
use Rattle.chip_words.specs.declared.fault.WordsError.{WordsError}
use Rattle.chip_words.specs.declared.fault.WordsError.TheVariants.{Usage as WordsUntaken, WrongValue as WordsWrongValue, NoMemory as words_no_memory}
use Rattle.chip_files.specs.Needs.{Need, AreAccepted, judge_needs, needs_of, pair_needs, program_need, run_needs}
use Rattle.chip_files.specs.Causes.{Asks, RunsOut}
use Rattle.chip_files.specs.Stop.{words_stop_of}
use Rattle.chip_files.specs.Taken.{IsProgram, ReadsJudged, ReadsPair, ReadsRun}
use Rattle.chip_main.specs.Course.{CameAbout, stopped_course}
use Rattle.chip_main.specs.Requests.{Writes}
use Rattle.chip_main.specs.Status.{Telling}
use Rattle.chip_files.proofs.Accepted.{run_accepted}
use Rattle.chip_files.proofs.Judged.{judged_accepted}
use Rattle.chip_files.proofs.Paired.{pair_accepted}

-- all files were read, and then there was no memory
ran_out : (needs : List Need) (files files' : FilesState) → AreAccepted files needs → Asks needs files files' → RunsOut needs files files'
ran_out needs files files' accepted asked = record {
  before = needs;
  tried = [];
  after = [];
  order = sym (append-nil (needs ++ []) ∙ append-nil needs);
  accepted = accepted;
  one = omega arith;
  asked = subst (λ (n : List Need). Asks n files files') (sym (append-nil needs)) asked;
}

pub came_without_memory : (asked : RunAsked) (files files' : FilesState) (program : Program) (script : Option (List ScriptLine)) (input : List ℕ) → ReadsRun asked files files' program script input → RunsOut (needs_of (Ok (to_run asked))) files files'
came_without_memory asked files files' program script input reads =
    ran_out (run_needs asked) files files' (run_accepted asked files files' program script input reads) reads.asked

pub traced_without_memory : (asked : RunAsked) (files files' : FilesState) (program : Program) (script : Option (List ScriptLine)) (input : List ℕ) → ReadsRun asked files files' program script input → RunsOut (needs_of (Ok (to_trace asked))) files files'
traced_without_memory asked files files' program script input reads =
    ran_out (run_needs asked) files files' (run_accepted asked files files' program script input reads) reads.asked

pub judged_without_memory : (judge : JudgeAsked) (files files' : FilesState) (program : Program) (input : List ℕ) (trace : Trace) → ReadsJudged judge files files' program input trace → RunsOut (needs_of (Ok (to_judge judge))) files files'
judged_without_memory judge files files' program input trace reads =
    ran_out (judge_needs judge) files files' (judged_accepted judge files files' program input trace reads) reads.asked

pub paired_without_memory : (pair : PairAsked) (files files' : FilesState) (first second : Program) (order : List ℕ) (script second_script : Option (List ScriptLine)) →
    ReadsPair pair files files' first second order script second_script → RunsOut (needs_of (Ok (to_pair pair))) files files'
paired_without_memory pair files files' first second order script second_script reads =
    ran_out (pair_needs pair) files files' (pair_accepted pair files files' first second order script second_script reads) reads.asked

-- nothing was read yet
pub came_unread : (request : Result Asked WordsFault) (files : FilesState) → RunsOut (needs_of request) files files
came_unread request files = record {
  before = [];
  tried = [];
  after = needs_of request;
  order = refl;
  accepted = tt;
  one = omega arith;
  asked = sym (append-nil files.asked);
}

-- the words are no request, or there was no memory to read them
pub came_refused : (error : WordsError) (request : Result Asked WordsFault) (files : FilesState) (out : SinkState) → Explains error request → CameAbout (stopped_course (words_stop_of error)) request files files out out
came_refused (WordsUntaken text) request files out none = ((none, refl), refl)
came_refused (WordsWrongValue fault) request files out none = ((none, refl), refl)
came_refused words_no_memory request files out none = (came_unread request files, refl)

-- a text of the program that was read was written
pub writes_of : (file : FileAsked) (text : Image → List ℕ) (program : Program) (image : Image) (files files' : FilesState) (out out' : SinkState) (telling : Telling) → IsImageOf (memory_size file.geometry) program image →
    IsProgram files file program → Asks (program_need file ∷ []) files files' → IsWritten (text image) out out' telling → Writes file text files files' out out' telling
writes_of file text program image files files' out out' telling is_image is_program asked told = record {
  program = program;
  takes = record { program_is = is_program; asked = asked };
  image = image;
  is_image = is_image;
  written = told;
}
