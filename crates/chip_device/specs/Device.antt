-- The device that a program runs on, by the terms of the run: its keys, the tags of messages, and what the run is of.
use Rattle.std.specs.Prelude.{List, ℕ}
use Rattle.sec_base.specs.Geometry.{GeometryView, memory_size}
use Rattle.sec_base.specs.Program.{Program}
use Rattle.sec_base.specs.declared.message.Message.{Message}
use Rattle.elf_load.specs.Measurement.{measurement_by}
use Rattle.hmac_tag.specs.DeviceKeys.{keys_of}
use Rattle.hmac_tag.specs.Tags.{tag_of, xor_tag_of}
use Rattle.tag_engine.specs.Tag.{engine_tag}
use Rattle.rv32_core.specs.Machine.{Machine, opening_of}
use Rattle.rv32_run.specs.StoredLines.{image_lines}
use Rattle.chip_run.specs.Report.{ReportTerms}
use Rattle.chip_run.specs.Run.{Terms as RunTerms}
use Rattle.chip_run.specs.declared.record.Setup.{Setup}
use Rattle.chip_words.specs.Request.{RunAsked}
use Rattle.chip_words.specs.declared.request.Tags.{Tags}
use Rattle.chip_words.specs.declared.request.Tags.TheVariants.{Hmac, Xor}
use Rattle.chip_words.specs.declared.request.Terms.{Terms}

-- how bytes are tagged under a key
abbrev pub tag_under : Tags → List ℕ → List ℕ → List ℕ
tag_under Hmac key = tag_of key
tag_under Xor key = xor_tag_of key

-- the tag of a message in a memory of this geometry, under the device's line key or tree key
unfoldable pub device_tag : Terms → GeometryView → Message → List ℕ
device_tag terms geometry message = engine_tag (tag_under terms.tags (keys_of terms.device_key).line_key)
    (tag_under terms.tags (keys_of terms.device_key).tree_key) geometry message

-- the key that lines are encrypted under
unfoldable pub device_enc_key : Terms → List ℕ
device_enc_key terms = (keys_of terms.device_key).enc_key

-- the plain machine as the program begins on an input, in a memory of this geometry
abbrev pub opening : GeometryView → Program → List ℕ → Machine
opening geometry program input = opening_of program.entry (memory_size geometry) program.segments input

-- what a run is given as it was asked for, beside its program, its input and its bus
abbrev pub setup_of : RunAsked → Setup
setup_of asked = record {
  geometry = asked.execution.file.geometry;
  keys = keys_of asked.terms.device_key;
  budget = asked.execution.steps;
  page_limit = asked.terms.page_limit;
  nonce = asked.terms.nonce;
}

-- what the report of a run is of, as it was asked for: of this program and this input
abbrev pub report_terms_of : RunAsked → Program → List ℕ → ReportTerms
report_terms_of asked program input = record {
  measurement = measurement_by program.entry (memory_size asked.execution.file.geometry) program.segments;
  input = input;
  nonce = asked.terms.nonce;
  layout = asked.execution.file.geometry.layout;
  report_key = (keys_of asked.terms.device_key).report_key;
}

-- what a run on protected memory is of, as it was asked for: of this program and this input
abbrev pub terms_of : RunAsked → Program → List ℕ → RunTerms
terms_of asked program input = record {
  start = opening asked.execution.file.geometry program input;
  stored_lines = image_lines program.segments;
  budget = asked.execution.steps;
  geometry = asked.execution.file.geometry;
  page_limit = asked.terms.page_limit;
  tag_of = device_tag asked.terms asked.execution.file.geometry;
  enc_key = device_enc_key asked.terms;
  report = report_terms_of asked program input;
}
