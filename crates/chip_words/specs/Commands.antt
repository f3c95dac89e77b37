-- What the values of a command keep to that `clap` has no fault to find in.
use Rattle.std.specs.Prelude.{◌≡◌, ◌<◌, ◌≤◌, ◌^◌, ℕ, List, Option, Some, None, true, codes, IsSome, ⊤}
use Rattle.std.specs.Option.{ForSome}
use Rattle.std.specs.Str.{bytes_eq}
use Rattle.std.specs.Str.Parse.{IsNumeral, without_leading_plus}
use Rattle.clap.specs.Walk.{Row, Text, first_of}
use Rattle.chip_words.specs.Request.{number_of, numeral_value, value_of}

-- the argument of this name has a value
abbrev pub HasValue : Text → List Row → Type 0
HasValue id values = IsSome (first_of id values)

-- the value is a number of 64 bits
abbrev pub HasNumber : Text → List Row → Type 0
HasNumber id values = HasValue id values
    × (IsNumeral 10 (without_leading_plus (value_of id values)) × (numeral_value (value_of id values) < 2 ^ 64))

-- the text is a number of this range
abbrev pub IsWithin : ℕ → ℕ → Text → Type 0
IsWithin least most text = IsNumeral 10 (without_leading_plus text) × ((least ≤ numeral_value text) × (numeral_value text ≤ most))

-- which program, and of which layout the tree of its memory is; of how many levels it is may be left out
pub record HasProgram (values : List Row) : Type 0 where
  pub file : HasValue (codes "file") values
  pub layout : HasNumber (codes "layout") values
  pub layouts : IsWithin 1 2 (value_of (codes "layout") values)
  pub levels : ForSome (first_of (codes "levels") values) (IsWithin 1 8)

-- which program to run, and for how many steps at most
pub record HasExecution (values : List Row) : Type 0 where
  pub program : HasProgram values
  pub steps : HasNumber (codes "steps") values

-- which program to run, and the key, the nonce, the tags and the page limit of its protected memory
pub record HasProtectedRun (values : List Row) : Type 0 where
  pub execution : HasExecution values
  pub key : HasValue (codes "key") values
  pub nonce : HasValue (codes "nonce") values
  pub tags : HasValue (codes "tags") values
  pub page_limit : HasNumber (codes "page-limit") values

-- which program to run, for how many steps at most, and which trace
pub record HasJudgement (values : List Row) : Type 0 where
  pub execution : HasExecution values
  pub trace : HasValue (codes "trace") values

-- which two programs to run, and the keys of their devices
pub record HasPair (values : List Row) : Type 0 where
  pub first_file : HasValue (codes "file1") values
  pub second_file : HasValue (codes "file2") values
  pub first_key : HasValue (codes "key") values
  pub second_key : HasValue (codes "key2") values

-- which report, and under which key
pub record HasReport (values : List Row) : Type 0 where
  pub file : HasValue (codes "file") values
  pub key : HasValue (codes "key") values

-- which generated program
pub record HasWorkload (values : List Row) : Type 0 where
  pub number : HasNumber (codes "number") values
  pub bound : number_of values < 2 ^ 32

-- a command has the values that it can't do without
pub record HasItsValues (name : Text) (values : List Row) : Type 0 where
  pub run : bytes_eq name (codes "run") ≡ true → HasProtectedRun values
  pub plain : bytes_eq name (codes "plain") ≡ true → HasExecution values
  pub asm : bytes_eq name (codes "asm") ≡ true → HasProgram values
  pub dis : bytes_eq name (codes "dis") ≡ true → HasProgram values
  pub measure : bytes_eq name (codes "measure") ≡ true → HasProgram values
  pub verify : bytes_eq name (codes "verify") ≡ true → HasReport values
  pub bench : bytes_eq name (codes "bench") ≡ true → HasWorkload values
  pub trace : bytes_eq name (codes "trace") ≡ true → HasProtectedRun values
  pub judge : bytes_eq name (codes "judge") ≡ true → HasJudgement values
  pub pair : bytes_eq name (codes "pair") ≡ true → HasPair values

-- a command, where there is one, has the values that it can't do without
abbrev pub IfCommand : Option (Text × List Row) → Type 0
IfCommand None = ⊤
IfCommand (Some c) = HasItsValues c.0 c.1
