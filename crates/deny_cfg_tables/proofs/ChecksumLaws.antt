-- What hex digits decode to, and the first byte that is no hex digit.
use Rattle.std.proofs.lemmas.Str.Ascii.{IsAscii-nil, IsAscii-cons}
use Rattle.std.specs.Str.{IsAscii}
use Rattle.hex.specs.Hex.{lower_digits, encode_lower, IsBytes}
use Rattle.hex.proofs.HexLemmas.{length-encode_with, decode_sized-encode_lower}
use Rattle.std.proofs.Common.{lit<, drop, ◌≡◌, ℕ, zero, suc, ◌+◌, ◌*◌, false, not, List, [], ◌∷◌, length, Option, None}
use Rattle.std.proofs.Common.{Some, refl, sym, ap, subst, arith, eq-eqb, ◌∙◌, inl, inr}
use Rattle.std.proofs.lemmas.Bool.Decides.{eqb_tells}
use Rattle.std.specs.Prelude.{find, is_some, unwrap_or, Result, Ok, Err, if◌then◌else◌, OnOk}
use Rattle.std.specs.Result.{MatchResult, is_err}
use Rattle.hex.specs.Hex.{◌>>=◌, hex_digit_value, digit_or_error, decode_pairs, decode_sized}
use Rattle.hex.specs.declared.error.FromHexError.{FromHexError}
use Rattle.hex.specs.declared.error.FromHexError.TheVariants as hex
use Rattle.hex.proofs.Pairs.{decode_sized-pairs}
use Rattle.deny_cfg_tables.specs.declared.bans.cfg.checksum.ChecksumParseError.{ChecksumParseError}
use Rattle.deny_cfg_tables.specs.declared.bans.cfg.checksum.ChecksumParseError.TheVariants.{InvalidLength, InvalidValue}
use Rattle.deny_cfg_tables.specs.Checksum.{bytes_of, bytes_or, not_hex, checksum_in}
use Rattle.deny_cfg_tables.specs.private.Checksum.{NamesCharacter, character_of}

-- the result of decoding agrees with the result of reading a checksum
pub Decoded : Result (List ℕ) FromHexError → Result (List ℕ) ChecksumParseError → Type 0
Decoded (Ok bytes) read = read ≡ Ok bytes
Decoded (Err (hex.InvalidHexCharacter c k)) read = read ≡ Err (InvalidValue c)
Decoded (Err e) read = ⊥

longer : (byte : ℕ) (bytes decoded : List ℕ) (o : Option ℕ) → bytes_or o bytes ≡ Ok decoded
    → bytes_or o (byte ∷ bytes) ≡ Ok (byte ∷ decoded)
longer byte bytes decoded None e = let same : bytes ≡ decoded = cc e in cc same
longer byte bytes decoded (Some c) e = cc e

same_byte : (bytes more : List ℕ) (c : ℕ) (o : Option ℕ) → bytes_or o bytes ≡ Err (InvalidValue c)
    → bytes_or o more ≡ Err (InvalidValue c)
same_byte bytes more c None e = cc e
same_byte bytes more c (Some d) e = e

decoded_more : (byte : ℕ) (bytes : List ℕ) (o : Option ℕ) (more : Result (List ℕ) FromHexError)
    → Decoded more (bytes_or o bytes)
    → Decoded (more >>= (λ rest. Ok (byte ∷ rest))) (bytes_or o (byte ∷ bytes))
unfolding Decoded
decoded_more byte bytes o (Ok rest) is = longer byte bytes rest o is
decoded_more byte bytes o (Err (hex.InvalidHexCharacter c k)) is = same_byte bytes (byte ∷ bytes) c o is
decoded_more byte bytes o (Err hex.OddLength) is = is
decoded_more byte bytes o (Err hex.InvalidStringLength) is = is
decoded_more byte bytes o (Err hex.OutOfMemory) is = is

decoded_pair : (i high low : ℕ) (hv lv o : Option ℕ) (bytes : List ℕ) (more : Result (List ℕ) FromHexError)
    → Decoded more (bytes_or o bytes)
    → Decoded ((digit_or_error high i hv >>= (λ h. digit_or_error low (i + 1) lv >>= (λ l. Ok (h * 16 + l)))) >>=
    (λ byte. more >>= (λ rest. Ok (byte ∷ rest))))
    (bytes_or (if not (is_some hv) then Some high else (if not (is_some lv) then Some low else o))
    ((unwrap_or hv 0 * 16 + unwrap_or lv 0) ∷ bytes))
unfolding Decoded
decoded_pair i high low None lv o bytes more is = refl
decoded_pair i high low (Some h) None o bytes more is = refl
decoded_pair i high low (Some h) (Some l) o bytes more is = decoded_more (h * 16 + l) bytes o more is

decoded_pairs : (n i : ℕ) (text : List ℕ) → length text ≡ 2 * n
    → Decoded (decode_pairs i text) (bytes_or (find not_hex text) (bytes_of text))
unfolding Decoded decode_pairs
decoded_pairs zero i [] len = refl
decoded_pairs zero i (c ∷ text) len = absurd (omega (arith, len))
decoded_pairs (suc n) i [] len = absurd (omega (arith, len))
decoded_pairs (suc n) i (c ∷ []) len = absurd (omega (arith, len))
decoded_pairs (suc n) i (high ∷ low ∷ rest) len =
    decoded_pair i high low (hex_digit_value high) (hex_digit_value low) (find not_hex rest) (bytes_of rest)
    (decode_pairs (i + 2) rest)
    (decoded_pairs n (i + 2) rest (omega (arith, len)))

pub wrong_length : (text : List ℕ) → (length text ≡ 64 → ⊥) → Err (InvalidLength (length text)) ≡ checksum_in text
unfolding checksum_in
wrong_length text other = elim (eqb_tells (length text) 64) [
  | inl same ↦ absurd (other same.1)
  | inr differs ↦ rw differs.0 refl
]

right_length : (text : List ℕ) → length text ≡ 64 → checksum_in text ≡ bytes_or (find not_hex text) (bytes_of text)
unfolding checksum_in
right_length text len = rw (eq-eqb (length text) 64 len) refl

pub decoded_text : (text : List ℕ) → length text ≡ 64 → Decoded (decode_sized text 32) (checksum_in text)
decoded_text text len =
    subst (λ d. Decoded d (checksum_in text))
    (sym (decode_sized-pairs text 32 (omega (arith, len)) (omega (arith, len))))
    (subst (λ r. Decoded (decode_pairs 0 text) r) (sym (right_length text len)) (decoded_pairs 32 0 text len))

-- the answer of the decoder, whose bytes are put into a buffer, agrees with the result of decoding
abbrev pub Answers : Result (List ℕ) FromHexError → Result (Unit {0}) FromHexError → List ℕ → Type 0
Answers decoded answer out = MatchResult decoded (λ bytes. (answer ≡ Ok tt) × (out ≡ bytes)) (λ e. answer ≡ Err e)

pub decoded_ok : (decoded : Result (List ℕ) FromHexError) (answer : Result (Unit {0}) FromHexError) (out : List ℕ)
    (u : Unit {0}) (read : Result (List ℕ) ChecksumParseError)
    → Answers decoded answer out → answer ≡ Ok u → Decoded decoded read → Ok out ≡ read
unfolding Decoded
decoded_ok (Ok bytes) answer out u read answers ok is = ap Ok answers.1 ∙ sym is
decoded_ok (Err e) answer out u read answers ok is = absurd (cc (answers, ok))

pub decoded_err : (decoded : Result (List ℕ) FromHexError) (answer : Result (Unit {0}) FromHexError) (out : List ℕ)
    (e : FromHexError) (read : Result (List ℕ) ChecksumParseError)
    → Answers decoded answer out → answer ≡ Err e → Decoded decoded read → Decoded (Err e) read
decoded_err (Ok bytes) answer out e read answers bad is = absurd (cc (answers.0, bad))
decoded_err (Err d) answer out e read answers bad is =
    let same : d ≡ e = cc (answers, bad) in subst (λ f. Decoded (Err f) read) same is

pub names : (e : FromHexError) (read : Result (List ℕ) ChecksumParseError) → Decoded (Err e) read → NamesCharacter e
unfolding Decoded
names (hex.InvalidHexCharacter c k) read is = tt
names hex.OddLength read is = is
names hex.InvalidStringLength read is = is
names hex.OutOfMemory read is = is

pub named : (e : FromHexError) (read : Result (List ℕ) ChecksumParseError) → Decoded (Err e) read
    → Err (InvalidValue (character_of e)) ≡ read
unfolding Decoded
named (hex.InvalidHexCharacter c k) read is = sym is
named hex.OddLength read is = absurd is
named hex.InvalidStringLength read is = absurd is
named hex.OutOfMemory read is = absurd is

pub on_ok : {T E : Type 0} (r : Result T E) (P : Type 0) → is_err r ≡ false → OnOk r P → P
on_ok (Ok x) P ok holds = holds
on_ok (Err e) P ok holds = cc ok

pub ascii_digits : IsAscii lower_digits
ascii_digits =
    IsAscii-cons 48 (drop 1 lower_digits) (lit< tt)
    (IsAscii-cons 49 (drop 2 lower_digits) (lit< tt)
    (IsAscii-cons 50 (drop 3 lower_digits) (lit< tt)
    (IsAscii-cons 51 (drop 4 lower_digits) (lit< tt)
    (IsAscii-cons 52 (drop 5 lower_digits) (lit< tt)
    (IsAscii-cons 53 (drop 6 lower_digits) (lit< tt)
    (IsAscii-cons 54 (drop 7 lower_digits) (lit< tt)
    (IsAscii-cons 55 (drop 8 lower_digits) (lit< tt)
    (IsAscii-cons 56 (drop 9 lower_digits) (lit< tt)
    (IsAscii-cons 57 (drop 10 lower_digits) (lit< tt)
    (IsAscii-cons 97 (drop 11 lower_digits) (lit< tt)
    (IsAscii-cons 98 (drop 12 lower_digits) (lit< tt)
    (IsAscii-cons 99 (drop 13 lower_digits) (lit< tt)
    (IsAscii-cons 100 (drop 14 lower_digits) (lit< tt)
    (IsAscii-cons 101 (drop 15 lower_digits) (lit< tt)
    (IsAscii-cons 102 (drop 16 lower_digits) (lit< tt)
    IsAscii-nil)))))))))))))))

read_back : (decoded : Result (List ℕ) FromHexError) (bytes : List ℕ) (read : Result (List ℕ) ChecksumParseError)
    → decoded ≡ Ok bytes → Decoded decoded read → read ≡ Ok bytes
unfolding Decoded
read_back decoded bytes read is same = subst (λ d. Decoded d read) is same

pub round_trip : (bytes : List ℕ) → length bytes ≡ 32 → IsBytes bytes → checksum_in (encode_lower bytes) ≡ Ok bytes
round_trip bytes len in_range =
    let text : length (encode_lower bytes) ≡ 64 = length-encode_with lower_digits bytes ∙ ap (λ n. 2 * n) len in
    read_back (decode_sized (encode_lower bytes) 32) bytes (checksum_in (encode_lower bytes))
    (decode_sized-encode_lower bytes 32 len in_range) (decoded_text (encode_lower bytes) text)
