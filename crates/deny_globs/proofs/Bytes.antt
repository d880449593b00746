-- The characters of a text, and its bytes.
use Rattle.std.proofs.Common.{◌≡◌, ℕ, ◌+◌, ◌≤◌, List, ◌++◌, length, take, drop, sym, ap, arith, ◌∙◌, length-append}
use Rattle.std.proofs.Common.{append-nil}
use Rattle.std.specs.Prelude.{encode_utf8_all}
use Rattle.std.specs.Str.{chars, IsUtf8}
use Rattle.std.proofs.lemmas.Str.{encodes-append, encodes-chars}
use Rattle.std.proofs.lemmas.List.{take-append-drop}
use Rattle.std.proofs.Math.ListN.{drop_of_length-le}

pub bytes_before : (text characters : List ℕ) (n : ℕ) → IsUtf8 text → characters ≡ chars text
    → length (encode_utf8_all (take n characters)) ≤ length text
bytes_before text characters n u e =
    let whole : encode_utf8_all (take n characters) ++ encode_utf8_all (drop n characters) ≡ text =
    sym (encodes-append (take n characters) (drop n characters))
    ∙ ap encode_utf8_all (take-append-drop n characters ∙ e) ∙ encodes-chars text u in
    let size : length (encode_utf8_all (take n characters)) + length (encode_utf8_all (drop n characters))
    ≡ length text =
    sym (length-append (encode_utf8_all (take n characters)) (encode_utf8_all (drop n characters))) ∙ ap length whole in
    omega arith

take_all : (cs : List ℕ) (n : ℕ) → length cs ≤ n → take n cs ≡ cs
take_all cs n p = sym (append-nil (take n cs)) ∙ ap (λ r. take n cs ++ r) (sym (drop_of_length-le cs p))
    ∙ take-append-drop n cs

pub bytes_of_all : (text characters : List ℕ) (n : ℕ) → IsUtf8 text → characters ≡ chars text → length characters ≤ n
    → length text ≡ length (encode_utf8_all (take n (chars text)))
bytes_of_all text characters n u e p =
    ap length (sym (encodes-chars text u) ∙ ap encode_utf8_all (sym e ∙ sym (take_all characters n p) ∙ ap (take n) e))
