-- The bytes of messages: how they are put together, and that they tell messages apart.
use Rattle.std.proofs.Common.{◌≡◌, ℕ, true, false, nat_eq, ◌+◌, ◌^◌, ◌<◌, List, [], ◌∷◌, ◌++◌, length, slice_index, take, drop, refl, ap, sym, ◌∙◌, arith, w32, w64}
use Rattle.std.proofs.lemmas.List.{take_all}
use Rattle.std.proofs.lemmas.Nat.{from_le_bytes-to_le_bytes_4, from_le_bytes-to_le_bytes_8}
use Rattle.std.specs.Int.{to_le_bytes, from_le_bytes}
use Rattle.sec_base.specs.declared.counter.Counter.{Counter}
use Rattle.sec_base.specs.declared.message.Message.{Message}
use Rattle.sec_base.specs.declared.message.Message.TheVariants.{Line, Node}
use Rattle.sec_base.specs.Message.{data_bytes, node_bytes, message_bytes, IsMessage}

-- a piece was put behind a front part
pub put_behind : (at until : ℕ) (piece old new front : List ℕ) →
    take (at + length piece) new ≡ take at old ++ piece → until ≡ at + length piece → take at old ≡ front → take until new ≡ front ++ piece
put_behind at until piece old new front put ends was = rw ends (put ∙ ap (λ (xs : List ℕ). xs ++ piece) was)

-- five pieces make the message of a data line
pub data_put : (line page own : ℕ) (number count cipher first second third fourth message : List ℕ) →
    number ≡ to_le_bytes w32 line → count ≡ to_le_bytes w64 page → length cipher ≡ 64 → length message ≡ 78 →
    take 1 first ≡ 0x44 ∷ [] →
    take (1 + length number) second ≡ take 1 first ++ number →
    take (5 + length count) third ≡ take 5 second ++ count →
    take 14 fourth ≡ take 13 third ++ own ∷ [] →
    take (14 + length cipher) message ≡ take 14 fourth ++ cipher →
    message ≡ data_bytes line (record { page = page; line = own }) cipher
unfolding data_bytes
data_put line page own number count cipher first second third fourth message is_number is_count long whole a b c d e =
    let four : length number ≡ 4 = ap length is_number in
    let eight : length count ≡ 8 = ap length is_count in
    let to_second : take 5 second ≡ 0x44 ∷ [] ++ number = put_behind 1 5 number first second _ b (omega arith) a in
    let to_third : take 13 third ≡ 0x44 ∷ [] ++ number ++ count = put_behind 5 13 count second third _ c (omega arith) to_second in
    let to_fourth : take 14 fourth ≡ 0x44 ∷ [] ++ number ++ count ++ own ∷ [] = put_behind 13 14 (own ∷ []) third fourth _ d refl to_third in
    let to_end : take 78 message ≡ 0x44 ∷ [] ++ number ++ count ++ own ∷ [] ++ cipher = put_behind 14 78 cipher fourth message _ e (omega arith) to_fourth in
    sym (take_all 78 message (omega arith)) ∙ to_end
    ∙ ap (λ (xs : List ℕ). 0x44 ∷ [] ++ xs ++ count ++ own ∷ [] ++ cipher) is_number
    ∙ ap (λ (xs : List ℕ). 0x44 ∷ [] ++ to_le_bytes w32 line ++ xs ++ own ∷ [] ++ cipher) is_count

-- three pieces make the message of a node
pub node_put : (level index : ℕ) (number block first second message : List ℕ) →
    number ≡ to_le_bytes w32 index → length block ≡ 64 → length message ≡ 70 →
    take 2 first ≡ 0x4e ∷ level ∷ [] →
    take (2 + length number) second ≡ take 2 first ++ number →
    take (6 + length block) message ≡ take 6 second ++ block →
    message ≡ node_bytes level index block
unfolding node_bytes
node_put level index number block first second message is_number long whole a b c =
    let four : length number ≡ 4 = ap length is_number in
    let to_second : take 6 second ≡ 0x4e ∷ level ∷ [] ++ number = put_behind 2 6 number first second _ b (omega arith) a in
    let to_end : take 70 message ≡ 0x4e ∷ level ∷ [] ++ number ++ block = put_behind 6 70 block second message _ c (omega arith) to_second in
    sym (take_all 70 message (omega arith)) ∙ to_end
    ∙ ap (λ (xs : List ℕ). 0x4e ∷ level ∷ [] ++ xs ++ block) is_number

-- four bytes tell their number
pub number_32 : (m n : ℕ) → m < 2 ^ 32 → n < 2 ^ 32 → to_le_bytes w32 m ≡ to_le_bytes w32 n → m ≡ n
number_32 m n small fits e =
    sym (from_le_bytes-to_le_bytes_4 m small) ∙ ap (from_le_bytes w32) e ∙ from_le_bytes-to_le_bytes_4 n fits

-- and eight bytes
pub number_64 : (m n : ℕ) → m < 2 ^ 64 → n < 2 ^ 64 → to_le_bytes w64 m ≡ to_le_bytes w64 n → m ≡ n
number_64 m n small fits e =
    sym (from_le_bytes-to_le_bytes_8 m small) ∙ ap (from_le_bytes w64) e ∙ from_le_bytes-to_le_bytes_8 n fits

same_line : (line other : ℕ) (counter counter' : Counter) (cipher cipher' : List ℕ) →
    line ≡ other → counter.page ≡ counter'.page → counter.line ≡ counter'.line → cipher ≡ cipher' →
    Line line counter cipher ≡ Line other counter' cipher'
same_line line other counter counter' cipher cipher' a b c d =
    let e : counter ≡ counter' = ap (λ (p : ℕ). record counter { page = p }) b ∙ ap (λ (l : ℕ). record counter' { line = l }) c in
    cc

-- data lines with the same bytes are one message
data_apart : (line other : ℕ) (counter counter' : Counter) (cipher cipher' : List ℕ) →
    IsMessage (Line line counter cipher) → IsMessage (Line other counter' cipher') →
    data_bytes line counter cipher ≡ data_bytes other counter' cipher' → Line line counter cipher ≡ Line other counter' cipher'
unfolding data_bytes
data_apart line other counter counter' cipher cipher' fits fits' e =
    same_line line other counter counter' cipher cipher'
    (number_32 line other fits.0 fits'.0 (ap (λ (xs : List ℕ). take 4 (drop 1 xs)) e))
    (number_64 counter.page counter'.page fits.1 fits'.1 (ap (λ (xs : List ℕ). take 8 (drop 5 xs)) e))
    (ap (λ (xs : List ℕ). slice_index xs 13) e)
    (ap (λ (xs : List ℕ). drop 14 xs) e)

-- nodes with the same bytes are one message
node_apart : (level other index index' : ℕ) (block block' : List ℕ) →
    IsMessage (Node level index block) → IsMessage (Node other index' block') →
    node_bytes level index block ≡ node_bytes other index' block' → Node level index block ≡ Node other index' block'
unfolding node_bytes
node_apart level other index index' block block' fits fits' e =
    let a : level ≡ other = ap (λ (xs : List ℕ). slice_index xs 1) e in
    let b : index ≡ index' = number_32 index index' fits fits' (ap (λ (xs : List ℕ). take 4 (drop 2 xs)) e) in
    let c : block ≡ block' = ap (λ (xs : List ℕ). drop 6 xs) e in
    cc

-- a data line and a node begin with other bytes
kinds_apart : {P : Type 0} (line level index : ℕ) (counter : Counter) (cipher block : List ℕ) →
    data_bytes line counter cipher ≡ node_bytes level index block → P
unfolding data_bytes node_bytes
kinds_apart line level index counter cipher block e =
    let first : true ≡ false = ap (λ (xs : List ℕ). nat_eq (slice_index xs 0) 0x44) e in cc

-- messages with the same bytes are one
pub told_apart : (first second : Message) → IsMessage first → IsMessage second →
    message_bytes first ≡ message_bytes second → first ≡ second
told_apart (Line line counter cipher) (Line other counter' cipher') fits fits' e =
    data_apart line other counter counter' cipher cipher' fits fits' e
told_apart (Line line counter cipher) (Node level index block) fits fits' e =
    kinds_apart line level index counter cipher block e
told_apart (Node level index block) (Line line counter cipher) fits fits' e =
    kinds_apart line level index counter cipher block (sym e)
told_apart (Node level index block) (Node other index' block') fits fits' e =
    node_apart level other index index' block block' fits fits' e
