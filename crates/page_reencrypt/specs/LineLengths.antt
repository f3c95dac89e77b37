-- How long lines and memories are.
use Rattle.std.specs.Prelude.{◌≡◌, ℕ, ◌*◌, List, length, Option, Some, None, refl}
use Rattle.sec_base.specs.declared.counter.Counter.{Counter}
use Rattle.sec_base.specs.declared.message.Message.{Message}
use Rattle.sec_base.specs.LastMessage.{last_data}
use Rattle.sec_base.proofs.JoinedLines.{length-joined_lines}
use Rattle.pad_stream.proofs.Enciphering.{length-cipher_of}
use Rattle.page_reencrypt.specs.Contents.{bytes_of, line_bytes, contents_of}

length-bytes_of : (key : List ℕ) (line : ℕ) (last : Option (Counter × List ℕ)) → length (bytes_of key line last) ≡ 64
length-bytes_of key line None = refl
length-bytes_of key line (Some last) = length-cipher_of key line last.0 last.1

-- a line is 64 bytes
pub length-line_bytes : (key : List ℕ) (made : List Message) (line : ℕ) → length (line_bytes key made line) ≡ 64
length-line_bytes key made line = length-bytes_of key line (last_data line made)

-- the contents of the memory are 64 bytes a line
pub length-contents_of : (key : List ℕ) (lines : ℕ) (made : List Message) → length (contents_of key lines made) ≡ 64 * lines
length-contents_of key lines made = length-joined_lines (line_bytes key made) lines (length-line_bytes key made)
