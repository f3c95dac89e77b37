use Rattle.std.proofs.Common.{◌≡◌, ◌-◌, ◌*◌, ◌≤◌, drop, length}
use Rattle.std.specs.Prelude.{option_map}
use Rattle.adversary_script.specs.Reading.{as_array, hex_bytes}
use Rattle.adversary_script.proofs.HexDigits.{bytes_behind}
use Rattle.adversary_script.proofs.bytes.bytes_of.Given as goal

abbrev pub invariant-loop-at : goal.invariant-loop-at
invariant-loop-at l = record {
  counted : l.at ≡ 2 * length l.bytes.items;
  within : l.at ≤ length l.digits;
  read : bytes_behind l.bytes.items (drop l.at l.digits) ≡ option_map as_array (hex_bytes l.digits);
}

abbrev pub decreases-loop-at : goal.decreases-loop-at
decreases-loop-at l = length l.digits - l.at
