-- The token at the start of a text.
use Rattle.std.proofs.Common.{◌≡◌, ◌≢◌, ℕ, zero, suc, ◌+◌, ◌<◌, ◌≤◌, ◌||◌, Bool, true, false, cond, List, [], ◌∷◌, ◌++◌}
use Rattle.std.proofs.Common.{length, take, drop, get_or, Option, Some, None, refl, sym, ◌∙◌, ap, subst, arith}
use Rattle.std.proofs.Common.{slice_get, nat_le, ◌==◌, if◌then◌else◌, length-take, drop-cons, add-one}
use Rattle.std.specs.Prelude.{slice_index}
use Rattle.std.specs.List.{prefix_len}
use Rattle.std.proofs.lemmas.Bool.Decides.{nat_tests}
use Rattle.std.proofs.lemmas.List.{take-append-drop}
use Rattle.std.proofs.lemmas.List.Sums.{prefix_len_stops, prefix_len-le-length}
use Rattle.deny_base_lists.proofs.PrefixLemmas.{list_all-take}
use Rattle.deny_spdx.specs.declared.token.SpdxToken.{SpdxToken}
use Rattle.deny_spdx.specs.declared.token.SpdxToken.TheVariants as token
use Rattle.deny_spdx.specs.declared.token.Prefix.{Prefix}
use Rattle.deny_spdx.specs.declared.token.Prefix.TheVariants as prefix
use Rattle.deny_base_lists.proofs.Texts.{prefix_within, prefix_passes, first_byte}
use Rattle.deny_spdx.specs.Tokens.{is_word_byte, begins_token, IsWord, EndsWord, BeginsWith, word, plus, slash, opening}
use Rattle.deny_spdx.specs.Tokens.{closing, token_of}
use Rattle.deny_spdx.specs.private.Prefix.{HasTokenPrefix, HasPrefix, mark_of, is_plus}

word_ascii : (b : ℕ) → is_word_byte b ≡ true → b < 128
unfolding is_word_byte
word_ascii b e = grind (arith, nat_tests, e)

pub words_ascii : (text bytes : List ℕ) (n : ℕ) → bytes ≡ text → n ≡ prefix_len is_word_byte bytes → (k : ℕ) → k < n
    → slice_index text k < 128
words_ascii text bytes n e f k h = word_ascii _ (prefix_passes is_word_byte text bytes n e f k h)

pub some_word : (text : List ℕ) (b : ℕ) → slice_get text 0 ≡ Some b → is_word_byte b ≡ true
    → 0 < prefix_len is_word_byte text
some_word [] b e f = cc
some_word (x ∷ xs) b e f =
    let same : x ≡ b = cc in
    let holds : is_word_byte x ≡ true = ap is_word_byte same ∙ f in
    let P : Bool → Type 0 = λ y. 0 < cond y (1 + prefix_len is_word_byte xs) 0 in
    subst P (sym holds) (omega arith)

-- the first byte of the rest is the byte at its index
at_drop : (n : ℕ) (xs : List ℕ) (b : ℕ) → slice_get (drop n xs) 0 ≡ Some b → (n < length xs) × (get_or xs n 0 ≡ b)
at_drop zero [] b e = cc
at_drop zero (x ∷ xs) b e = (omega arith, cc)
at_drop (suc n) [] b e = cc
at_drop (suc n) (x ∷ xs) b e = let h : (n < length xs) × (get_or xs n 0 ≡ b) = at_drop n xs b e in
    (omega (arith, h.0), h.1)

pub no_plus_byte : (b : ℕ) → (b == 43) ≡ false → b ≢ 43
no_plus_byte b e f = grind (arith, nat_tests, e, f)

pub plus_byte : (b : ℕ) → (b == 43) ≡ true → b ≡ 43
plus_byte b e = grind (arith, nat_tests, e)

ends_at : (rest : List ℕ) → ((b : ℕ) → slice_get rest 0 ≡ Some b → is_word_byte b ≡ false)
    → is_plus (slice_get rest 0) ≡ false → EndsWord rest
ends_at [] none plain = tt
ends_at (b ∷ bs) none plain = (none b refl, no_plus_byte b plain)

-- the bytes after a word end it, if no plus comes first
ends_word : (text : List ℕ) → is_plus (slice_get (drop (prefix_len is_word_byte text) text) 0) ≡ false
    → EndsWord (drop (prefix_len is_word_byte text) text)
ends_word text no_plus = ends_at (drop (prefix_len is_word_byte text) text)
    (λ b e. let h = at_drop (prefix_len is_word_byte text) text b e in ap is_word_byte (sym h.1)
    ∙ prefix_len_stops is_word_byte text 0 h.0) no_plus

word_bytes : (text : List ℕ) → 0 < prefix_len is_word_byte text → IsWord (take (prefix_len is_word_byte text) text)
word_bytes text some = record {
  some = let most : prefix_len is_word_byte text ≤ length text = prefix_len-le-length is_word_byte text in
      simp length-take (omega arith);
  each = list_all-take is_word_byte text;
}

word_begins : (text : List ℕ) → 0 < prefix_len is_word_byte text
    → is_plus (slice_get (drop (prefix_len is_word_byte text) text) 0) ≡ false
    → BeginsWith text (token_of (take (prefix_len is_word_byte text) text)) (drop (prefix_len is_word_byte text) text)
word_begins text some no_plus =
    let n : ℕ = prefix_len is_word_byte text in
    let P : List ℕ → Type 0 = λ x. BeginsWith x (token_of (take n text)) (drop n text) in
    subst P (take-append-drop n text) (word (take n text) (word_bytes text some) (ends_word text no_plus))

is_plus_some : (o : Option ℕ) → is_plus o ≡ true → o ≡ Some 43
is_plus_some None e = cc
is_plus_some (Some b) e = ap Some (plus_byte b e)

plus_begins : (text : List ℕ) → 0 < prefix_len is_word_byte text
    → is_plus (slice_get (drop (prefix_len is_word_byte text) text) 0) ≡ true
    → BeginsWith text (token.Word (take (prefix_len is_word_byte text) text))
    (drop (prefix_len is_word_byte text + 1) text)
plus_begins text some is =
    let n : ℕ = prefix_len is_word_byte text in
    let h : (n < length text) × (get_or text n 0 ≡ 43) = at_drop n text 43 (is_plus_some _ is) in
    let cut : drop n text ≡ 43 ∷ drop (n + 1) text = rw (add-one n) (drop-cons text n 0 h.0
    ∙ ap (λ b. b ∷ drop (suc n) text) h.1) in
    let P : List ℕ → Type 0 = λ x. BeginsWith x (token.Word (take n text)) (drop (n + 1) text) in
    subst P (ap (λ x. take n text ++ x) (sym cut) ∙ take-append-drop n text) (plus (take n text) (word_bytes text some))

counted : (text bytes : List ℕ) (n : ℕ) → bytes ≡ text → n ≡ prefix_len is_word_byte bytes
    → n ≡ prefix_len is_word_byte text
counted text bytes n e f = f ∙ ap (prefix_len is_word_byte) e

-- a word that no plus follows
pub word_prefix : (text bytes w after : List ℕ) (n : ℕ) (t : SpdxToken) → 0 < prefix_len is_word_byte text
    → bytes ≡ text
    → n ≡ prefix_len is_word_byte bytes → w ≡ take n text → after ≡ drop n text → is_plus (slice_get after 0) ≡ false
    → t ≡ token_of w → HasTokenPrefix text t n
word_prefix text bytes w after n t some e f first rest no_plus is = record {
  begins =
      (let same : n ≡ prefix_len is_word_byte text = counted text bytes n e f in
      let P : ℕ → Type 0 = λ m. BeginsWith text (token_of (take m text)) (drop m text) in
      let Q : SpdxToken → Type 0 = λ x. BeginsWith text x (drop n text) in
      subst Q (ap token_of (sym first) ∙ sym is)
      (subst P (sym same) (word_begins text some (ap (λ m. is_plus (slice_get (drop m text) 0)) (sym same)
      ∙ (ap (λ x. is_plus (slice_get x 0)) (sym rest) ∙ no_plus)))));
  within = prefix_within is_word_byte text bytes n e f;
  ascii = words_ascii text bytes n e f;
}

plus_ascii : (text : List ℕ) (n : ℕ) → ((k : ℕ) → k < n → slice_index text k < 128) → slice_index text n ≡ 43 → (k : ℕ)
    → k < n + 1 → slice_index text k < 128
plus_ascii text n before here k h = at_or_before (nat_le n k) refl
  where
    at_or_before : (b : Bool) → nat_le n k ≡ b → slice_index text k < 128
    at_or_before true e = let P : ℕ → Type 0 = λ m. slice_index text m < 128 in
        let same : n ≡ k = grind (arith, nat_tests, e, h) in
        subst P same (let Q : ℕ → Type 0 = λ m. m < 128 in subst Q (sym here) (omega arith))
    at_or_before false e = before k (grind (arith, nat_tests, e))

-- a word with a plus
pub plus_prefix : (text bytes w after : List ℕ) (n : ℕ) (id : List ℕ) → 0 < prefix_len is_word_byte text → bytes ≡ text
    → n ≡ prefix_len is_word_byte bytes → w ≡ take n text → after ≡ drop n text → is_plus (slice_get after 0) ≡ true
    → id ≡ w → HasTokenPrefix text (token.Word id) (n + 1)
plus_prefix text bytes w after n id some e f first rest is_plus_next is =
    let same : n ≡ prefix_len is_word_byte text = counted text bytes n e f in
    let next : slice_get (drop n text) 0 ≡ Some 43 = is_plus_some _ (ap (λ x. is_plus (slice_get x 0)) (sym rest)
    ∙ is_plus_next) in
    let h : (n < length text) × (get_or text n 0 ≡ 43) = at_drop n text 43 next in
    let P : ℕ → Type 0 = λ m. BeginsWith text (token.Word (take m text)) (drop (m + 1) text) in
    let Q : List ℕ → Type 0 = λ x. BeginsWith text (token.Word x) (drop (n + 1) text) in
    record {
      begins = subst Q (sym first ∙ sym is)
          (subst P (sym same) (plus_begins text some (ap (λ m. is_plus (slice_get (drop m text) 0)) (sym same)
          ∙ (ap (λ x. is_plus (slice_get x 0)) (sym rest) ∙ is_plus_next))));
      within = omega (arith, h.0);
      ascii = plus_ascii text n (words_ascii text bytes n e f) h.1;
    }

one_byte : (b : ℕ) (rest : List ℕ) (t : SpdxToken) → b < 128 → BeginsWith (b ∷ rest) t rest
    → HasTokenPrefix (b ∷ rest) t 1
one_byte b rest t small begins = record {
  begins = begins;
  within = omega arith;
  ascii = λ k h. let P : ℕ
      → Type 0 = λ m. slice_index (b ∷ rest) m < 128 in let none : 0 ≡ k = omega arith in subst P none small;
}

-- a byte that is no mark and in no word begins no token
pub no_token_byte : (b : ℕ) → is_word_byte b ≡ false → (b == 40) ≡ false → (b == 41) ≡ false → (b == 47) ≡ false
    → begins_token b ≡ false
unfolding begins_token
no_token_byte b other e f g = ap (λ w. w || (b == 40) || (b == 41) || (b == 47)) other
    ∙ (ap (λ w. w || (b == 41) || (b == 47)) e ∙ (ap (λ w. w || (b == 47)) f ∙ g))

mark_at : (b : ℕ) (rest : List ℕ) (x y z : Bool) → (b == 40) ≡ x → (b == 41) ≡ y → (b == 47) ≡ z
    → is_word_byte b ≡ false
    → HasPrefix (b ∷ rest)
    (if x then prefix.Token token.Open 1
    else (if y then prefix.Token token.Close 1 else (if z then prefix.Token token.Or 1 else prefix.NoToken)))
mark_at b rest true y z e f g other = let same : 40 ≡ b = grind (arith, nat_tests, e) in let P : ℕ
    → Type 0 = λ m. HasTokenPrefix (m ∷ rest) token.Open 1 in
    subst P same (one_byte 40 rest token.Open (omega arith) opening)
mark_at b rest false true z e f g other = let same : 41 ≡ b = grind (arith, nat_tests, f) in let P : ℕ
    → Type 0 = λ m. HasTokenPrefix (m ∷ rest) token.Close 1 in
    subst P same (one_byte 41 rest token.Close (omega arith) closing)
mark_at b rest false false true e f g other = let same : 47 ≡ b = grind (arith, nat_tests, g) in let P : ℕ
    → Type 0 = λ m. HasTokenPrefix (m ∷ rest) token.Or 1 in subst P same (one_byte 47 rest token.Or (omega arith) slash)
mark_at b rest false false false e f g other = (
  b,
  rest,
  refl,
  no_token_byte b other e f g,
)

-- a byte that is in no word
pub mark_prefix : (text : List ℕ) (b : ℕ) (found : Prefix) → slice_get text 0 ≡ Some b → is_word_byte b ≡ false
    → found ≡ mark_of b → HasPrefix text found
unfolding mark_of
mark_prefix text b found e f g =
    let first = first_byte text b e in
    let P : List ℕ → Type 0 = λ x. HasPrefix x found in
    let Q : Prefix → Type 0 = λ x. HasPrefix (b ∷ first.0) x in
    subst P (sym first.1) (subst Q (sym g) (mark_at b first.0 (b == 40) (b == 41) (b == 47) refl refl refl f))
