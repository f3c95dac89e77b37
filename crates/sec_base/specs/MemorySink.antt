-- A sink in memory, some of whose calls fail.
use Rattle.std.specs.Prelude.{◌==◌, ℕ, List, [], ◌++◌, length, Bool, not, ◌&&◌, if◌then◌else◌, Some}
use Rattle.sec_base.specs.FailingCalls.{next_fails}
use Rattle.sec_base.specs.Count.{more_by, top}
use Rattle.sec_base.specs.Sink.{SinkState}

-- the bytes written so far, the most that a call takes, the numbers of the calls that are to fail, and how many calls and
-- faults there were
pub record MemorySinkView : Type 0 where
  pub bytes : List ℕ
  pub most : ℕ
  pub fails : List ℕ
  pub calls : ℕ
  pub faults : ℕ

-- nothing written, and no call yet; a call takes any piece whole
abbrev pub new_sink : List ℕ → MemorySinkView
new_sink fails = record { bytes = []; most = top; fails = fails; calls = 0; faults = 0 }

-- nothing written, and no call yet; a call takes so many bytes at most, and none fails
abbrev pub short_sink : ℕ → MemorySinkView
short_sink most = record { bytes = []; most = most; fails = []; calls = 0; faults = 0 }

-- it tells what was written
abbrev pub sink_state : MemorySinkView → SinkState
sink_state seen = record { written = Some seen.bytes; faults = seen.faults }

-- how many calls there were after a piece: an empty piece is no call
abbrev pub calls_after : ℕ → List ℕ → ℕ
calls_after calls piece = if length piece == 0 then calls else more_by 1 calls

-- the piece makes a call that is to fail
abbrev pub sink_fails : MemorySinkView → List ℕ → Bool
sink_fails seen piece = not (length piece == 0) && next_fails seen.fails seen.calls

-- the piece was written
abbrev pub sink_after_write : List ℕ → MemorySinkView → MemorySinkView
sink_after_write piece seen = record seen { bytes = seen.bytes ++ piece; calls = calls_after seen.calls piece }

-- a call failed
abbrev pub sink_after_failure : MemorySinkView → MemorySinkView
sink_after_failure seen = record seen { calls = more_by 1 seen.calls; faults = more_by 1 seen.faults }

-- a call found no memory
abbrev pub sink_after_call : MemorySinkView → MemorySinkView
sink_after_call seen = record seen { calls = more_by 1 seen.calls }
