-- The keys of a device.
use Rattle.std.specs.Prelude.{ℕ, List, take, codes}
use Rattle.hmac_tag.specs.Hmac.{hmac_of}
use Rattle.hmac_tag.specs.declared.derivation.Keys.{Keys}

-- each key is the HMAC of its name under the device key; of the first AES takes 16 bytes
abbrev pub keys_of : List ℕ → Keys
keys_of device = record {
  enc_key = take 16 (hmac_of device (codes "enc"));
  line_key = hmac_of device (codes "data");
  tree_key = hmac_of device (codes "tree");
  report_key = hmac_of device (codes "report");
}
