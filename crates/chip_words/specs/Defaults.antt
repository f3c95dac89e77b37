-- What a run is where the words name no option.
use Rattle.std.specs.Prelude.{◌≡◌, ◌-◌, ◌^◌, ℕ, List, [], ◌∷◌, None, Ok, codes}
use Rattle.clap.specs.Walk.{Text}
use Rattle.sec_base.specs.Geometry.{one}
use Rattle.chip_words.specs.Request.{ExecutionAsked, RunAsked, SideAsked, request_of, to_run}
use Rattle.chip_words.specs.declared.request.ProgramForm.TheVariants.{ElfFile}
use Rattle.chip_words.specs.declared.request.Tags.TheVariants.{Hmac}
use Rattle.chip_words.specs.declared.request.Terms.{Terms}

-- the bytes 00 to 1f
abbrev pub default_device_key : List ℕ
default_device_key =
    0 ∷ 1 ∷ 2 ∷ 3 ∷ 4 ∷ 5 ∷ 6 ∷ 7 ∷ 8 ∷ 9 ∷ 10 ∷ 11 ∷ 12 ∷ 13 ∷ 14 ∷ 15
    ∷ 16 ∷ 17 ∷ 18 ∷ 19 ∷ 20 ∷ 21 ∷ 22 ∷ 23 ∷ 24 ∷ 25 ∷ 26 ∷ 27 ∷ 28 ∷ 29 ∷ 30 ∷ 31 ∷ []

-- sixteen zero bytes
abbrev pub default_nonce : List ℕ
default_nonce = 0 ∷ 0 ∷ 0 ∷ 0 ∷ 0 ∷ 0 ∷ 0 ∷ 0 ∷ 0 ∷ 0 ∷ 0 ∷ 0 ∷ 0 ∷ 0 ∷ 0 ∷ 0 ∷ []

-- the terms by default: device key 00 to 1f, HMAC tags, the greatest page limit, a nonce of zeros
abbrev pub default_terms : Terms
default_terms = record {
  device_key = default_device_key;
  tags = Hmac;
  page_limit = 2 ^ 64 - 1;
  nonce = default_nonce;
}

-- the file is an ELF file, for a tree of layout One with four levels; there is no input, and there are 10,000,000 steps
abbrev pub default_execution : Text → ExecutionAsked
default_execution name = record {
  file = record { name = name; form = ElfFile; geometry = one 4 };
  input = None;
  steps = 10000000;
}

-- the run of a file on the terms by default, and without a script
abbrev pub default_run : Text → RunAsked
default_run name = record { execution = default_execution name; script = None; terms = default_terms }

-- the run of one of two programs that share the core: one by default, but for its script and the key of its device
abbrev pub side_run : SideAsked → RunAsked
side_run side = record (default_run side.name) {
  script = side.script;
  terms = record default_terms { device_key = side.device_key };
}

-- `run` and the file's name, behind `--` since a name may begin with a hyphen, are read as the request for this run,
-- whatever the program's own name.
abbrev pub IsReadByDefault : Text → Type 0
IsReadByDefault name = (program : Text) →
    request_of (program ∷ codes "run" ∷ codes "--" ∷ name ∷ []) ≡ Ok (to_run (default_run name))
