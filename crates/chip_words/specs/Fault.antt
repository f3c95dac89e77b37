-- The names of the values that are refused.
use Rattle.std.specs.Prelude.{List, ℕ, codes}
use Rattle.chip_words.specs.declared.fault.ValueFault.{ValueFault}
use Rattle.chip_words.specs.declared.fault.ValueFault.TheVariants.{Levels, Tags, Key, Nonce, Keys}

-- the name of its option, and `keys` of two keys that are the same
abbrev pub value_fault_name : ValueFault → List ℕ
value_fault_name Levels = codes "levels"
value_fault_name Tags = codes "tags"
value_fault_name Key = codes "key"
value_fault_name Nonce = codes "nonce"
value_fault_name Keys = codes "keys"
