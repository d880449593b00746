-- An unquoted token of the grammar is read, and a token that is read is in the grammar.
use Rattle.std.proofs.Common.{◌≡◌, ℕ, suc, ◌+◌, ◌<◌, Bool, true, false, ◌&&◌, ◌==◌, nat_lt, List, [], ◌∷◌, ◌++◌, length}
use Rattle.std.proofs.Common.{take, drop, Option, Some, None, option_map, refl, sym, ap, subst, ◌∙◌, inl, inr, arith}
use Rattle.std.proofs.Common.{append_assoc, length-append, take_at, drop_at, add-zero}
use Rattle.std.proofs.lemmas.Option.{none-some}
use Rattle.std.proofs.lemmas.Bool.{cases_Bool, and_parts, false≢true}
use Rattle.std.proofs.lemmas.Bool.Decides.{nat_tests}
use Rattle.std.proofs.lemmas.List.{take-append-drop, get_or-append-add}
use Rattle.std.proofs.Math.Seq.{drop-append-add}
use Rattle.std.specs.List.{prefix_len, list_all, slice_index}
use Rattle.std.specs.Char.{is_ascii_digit}
use Rattle.deny_toml_grammar.specs.declared.parts.Scalar.{Scalar}
use Rattle.deny_toml_grammar.specs.Lexical.{first, is_token_byte}
use Rattle.deny_toml_grammar.specs.Numbers.{integer, is_unsigned_float, decimal_integer, prefixed_integer}
use Rattle.deny_toml_grammar.specs.private.Dates.{starts_date, starts_time, is_date_time}
use Rattle.deny_toml_grammar.specs.private.Unquoted.{token_value, token_len, unquoted}
use Rattle.deny_toml_grammar.specs.GrammarScalars.{IsScalar}
use Rattle.deny_toml_grammar.proofs.LexicalLaws.{prefix_len-run}
use Rattle.deny_base_lists.proofs.PrefixLemmas.{list_all-take}
use Rattle.deny_toml_grammar.proofs.StringsSound.{read_of, read_same}
use Rattle.deny_toml_grammar.proofs.QuotedLaws.{Prefix, prefix}
use Rattle.deny_toml_grammar.proofs.ScalarsLaws.{scalar-sound, scalar-complete}
use Rattle.deny_toml_grammar.proofs.ScalarsShape.{Shape, one_token, two_tokens, scalar_shape}

-- An unquoted value is one token; a date and a time may have a space between them.
pub data IsToken : List ℕ → Scalar → Type 0 where
  token : (cs : List ℕ) (value : Scalar) → list_all is_token_byte cs ≡ true → IsScalar cs value → IsToken cs value
  spaced : (c : ℕ) (cs : List ℕ) (d : ℕ) (ds : List ℕ) (value : Scalar) → list_all is_token_byte (c ∷ cs) ≡ true
      → is_ascii_digit d ≡ true
      → list_all is_token_byte (d ∷ ds) ≡ true → IsScalar (c ∷ (cs ++ 32 ∷ (d ∷ ds))) value
      → IsToken (c ∷ (cs ++ 32 ∷ (d ∷ ds))) value

pub token_of : (cs : List ℕ) (value : Scalar) → IsScalar cs value → IsToken cs value
token_of cs value is = by_shape cs value is (scalar_shape cs value is)
  where
    by_shape : (cs : List ℕ) (value : Scalar) → IsScalar cs value → Shape cs → IsToken cs value
    by_shape cs value is (one_token _ all) = token cs value all is
    by_shape cs value is (two_tokens c cs' d ds all digit all') = spaced c cs' d ds value all digit all' is

pub scalar_of : (cs : List ℕ) (value : Scalar) → IsToken cs value → IsScalar cs value
scalar_of cs value (token _ _ all is) = is
scalar_of cs value (spaced c cs' d ds _ all digit all' is) = is

-- a space and a digit, which would join a time to a date
abbrev pub joins : List ℕ → Bool
joins cs = slice_index cs 0 == 32 && is_ascii_digit (slice_index cs 1)

at_end : (cs inner : List ℕ) → slice_index (cs ++ inner) (length cs) ≡ slice_index inner 0
at_end cs inner = rw add-zero at (get_or-append-add cs inner 0 0)

token_len_plain : (cs inner : List ℕ) → list_all is_token_byte cs ≡ true → is_token_byte (first inner) ≡ false
    → joins inner ≡ false
    → token_len (cs ++ inner) ≡ length cs
unfolding token_len
token_len_plain cs inner all stop apart =
    rw (
      prefix_len-run is_token_byte cs inner all stop,
      at_end cs inner,
      get_or-append-add cs inner 1 0,
      apart,
      neither
          (nat_lt 0 (length cs)),
    )
  where
    neither : (b : Bool) → (b && false) ≡ false
    neither true = refl
    neither false = refl

token_len_spaced : (cs run more : List ℕ) (d : ℕ) → 0 < length cs → list_all is_token_byte cs ≡ true
    → is_ascii_digit d ≡ true
    → list_all is_token_byte (d ∷ run) ≡ true → is_token_byte (first more) ≡ false
    → token_len (cs ++ (32 ∷ (d ∷ (run ++ more)))) ≡ length cs + 1 + length (d ∷ run)
unfolding token_len
token_len_spaced cs run more d some all digit all' stop =
    let inner = 32 ∷ (d ∷ (run ++ more)) in
    let len = prefix_len-run is_token_byte cs inner all refl in
    let here = at_end cs inner in
    let next = get_or-append-add cs inner 1 0 in
    let after : drop (length cs + 1) (cs ++ inner) ≡ d ∷ (run ++ more) = drop-append-add cs inner 1 in
    let len' = prefix_len-run is_token_byte (d ∷ run) more all' stop in
    let some_ : nat_lt 0 (length cs) ≡ true = grind (arith, nat_tests) in
    rw (len, some_, here, next, digit, after, len')

-- the reader of unquoted values, where the length of the token is known
unquoted_is : (cs rest : List ℕ) → 0 < length cs → token_len (cs ++ rest) ≡ length cs
    → unquoted (cs ++ rest) ≡ option_map {U = Scalar × List ℕ} (λ v. (v, rest)) (token_value cs)
unfolding unquoted
unquoted_is cs rest some len =
    let not_empty : (length cs == 0) ≡ false = grind (arith, nat_tests) in
    rw (len, not_empty, take_at cs rest _ refl, drop_at cs rest _ refl)

token_value-nil : token_value [] ≡ None
unfolding token_value starts_date starts_time is_date_time is_unsigned_float integer decimal_integer prefixed_integer
token_value-nil = refl

pub some_token : (cs : List ℕ) (value : Scalar) → IsScalar cs value → 0 < length cs
some_token [] value is = absurd (none-some value (sym token_value-nil ∙ scalar-complete [] value is))
some_token (c ∷ cs) value e = omega arith

-- an unquoted value is read where neither a token byte nor a space and a digit follow it
pub unquoted-complete : (cs rest : List ℕ) (value : Scalar) → IsToken cs value → is_token_byte (first rest) ≡ false
    → joins rest ≡ false → unquoted (cs ++ rest) ≡ Some (value, rest)
unquoted-complete cs rest value (token _ _ all means) stop apart =
    let written = scalar-complete cs value means in
    unquoted_is cs rest (some_token cs value means) (token_len_plain cs rest all stop apart) ∙ rw written
unquoted-complete cs rest value (spaced c cs' d ds _ all digit all' means) stop apart =
    let prefix_ = c ∷ cs' in
    let joined : (prefix_ ++ (32 ∷ (d ∷ ds))) ++ rest ≡ prefix_ ++ (32 ∷ (d ∷ (ds ++ rest))) =
    append_assoc prefix_ (32 ∷ (d ∷ ds)) rest in
    let lens : length (prefix_ ++ (32 ∷ (d ∷ ds))) ≡ length prefix_ + 1 + length (d ∷ ds) =
    simp length-append (omega arith) in
    let len : token_len ((prefix_ ++ (32 ∷ (d ∷ ds))) ++ rest) ≡ length (prefix_ ++ (32 ∷ (d ∷ ds))) = ap token_len
    joined
    ∙ token_len_spaced prefix_ ds rest d (omega arith) all digit all' stop ∙ sym lens in
    let written = scalar-complete (prefix_ ++ (32 ∷ (d ∷ ds))) value means in
    unquoted_is (prefix_ ++ (32 ∷ (d ∷ ds))) rest (some_token (prefix_ ++ (32 ∷ (d ∷ ds))) value means) len ∙ rw written

-- a run of token bytes, and the rest
data Run (rest : List ℕ) : List ℕ → Type 0 where
  run : (cs : List ℕ) → list_all is_token_byte cs ≡ true → is_token_byte (first rest) ≡ false → Run rest (cs ++ rest)

run_stops : (text : List ℕ) → is_token_byte (first (drop (prefix_len is_token_byte text) text)) ≡ false
run_stops [] = refl
run_stops (c ∷ cs) =
    let next : 1 + prefix_len is_token_byte cs ≡ suc (prefix_len is_token_byte cs) = omega arith in
    elim (cases_Bool (is_token_byte c)) [ inl here ↦ rw (here, next) (run_stops cs) | inr other ↦ rw (other, other) ]

run_found : (text : List ℕ) → Run (drop (prefix_len is_token_byte text) text) text
run_found text =
    subst (Run (drop (prefix_len is_token_byte text) text)) (take-append-drop (prefix_len is_token_byte text) text)
    (run (take (prefix_len is_token_byte text) text) (list_all-take is_token_byte text) (run_stops text))

value_found : (cs text rest rest' : List ℕ) (value : Scalar) (o : Option Scalar)
    → ((v : Scalar) → o ≡ Some v → Prefix IsToken rest text v)
    → option_map {U = Scalar × List ℕ} (λ v. (v, rest)) o ≡ read_of value rest' → Prefix IsToken rest' text value
value_found cs text rest rest' value None known e = absurd (none-some (value, rest') e)
value_found cs text rest rest' value (Some v) known e = read_same (λ x r. Prefix IsToken r text x) v value rest rest' e
    (known v refl)

unquoted_none : (text : List ℕ) → token_len text ≡ 0 → unquoted text ≡ None
unfolding unquoted
unquoted_none text none = rw none

plain_found : (cs inner rest : List ℕ) (value : Scalar) → list_all is_token_byte cs ≡ true
    → is_token_byte (first inner) ≡ false
    → joins inner ≡ false
    → unquoted (cs ++ inner) ≡ read_of value rest → Prefix IsToken rest (cs ++ inner) value
plain_found [] inner rest value all stop apart e = absurd (none-some (value, rest)
    (sym (unquoted_none inner (token_len_plain [] inner all stop apart)) ∙ e))
plain_found (c ∷ cs) inner rest value all stop apart e =
    value_found (c ∷ cs) ((c ∷ cs) ++ inner) inner rest value (token_value (c ∷ cs))
    (λ v is. prefix (c ∷ cs) v (token (c ∷ cs) v all (scalar-sound (c ∷ cs) v is)))
    (sym (unquoted_is (c ∷ cs) inner (omega arith) (token_len_plain (c ∷ cs) inner all stop apart)) ∙ e)

spaced_found : (c : ℕ) (cs tail more rest : List ℕ) (value : Scalar) → list_all is_token_byte (c ∷ cs) ≡ true
    → is_ascii_digit (first tail) ≡ true → Run more tail
    → unquoted (c ∷ (cs ++ (32 ∷ tail))) ≡ read_of value rest → Prefix IsToken rest (c ∷ (cs ++ (32 ∷ tail))) value
spaced_found c cs tail more rest value all digit (run [] all' stop) e = absurd (grind (arith, nat_tests))
spaced_found c cs tail more rest value all digit (run (d ∷ ds) all' stop) e =
    let both = c ∷ (cs ++ (32 ∷ (d ∷ ds))) in
    let joined : both ++ more ≡ c ∷ (cs ++ (32 ∷ (d ∷ (ds ++ more)))) = append_assoc (c ∷ cs) (32 ∷ (d ∷ ds)) more in
    let lens : length both ≡ length (c ∷ cs) + 1 + length (d ∷ ds) = simp length-append (omega arith) in
    let len : token_len (both ++ more) ≡ length both = ap token_len joined
    ∙ token_len_spaced (c ∷ cs) ds more d (omega arith) all digit all' stop ∙ sym lens in
    let read : option_map {U = Scalar × List ℕ} (λ v. (v, more)) (token_value both) ≡ read_of value rest =
    sym (unquoted_is both more (omega arith) len) ∙ ap unquoted joined ∙ e in
    subst (λ t. Prefix IsToken rest t value) joined
    (value_found both (both ++ more) more rest value (token_value both)
    (λ v is. prefix both v (spaced c cs d ds v all digit all' (scalar-sound both v is))) read)

token_len_none : (inner : List ℕ) → is_token_byte (first inner) ≡ false → token_len inner ≡ 0
unfolding token_len
token_len_none [] stop = refl
token_len_none (c ∷ cs) stop = rw stop

joined_found : (cs inner rest : List ℕ) (value : Scalar) → list_all is_token_byte cs ≡ true
    → is_token_byte (first inner) ≡ false
    → joins inner ≡ true → unquoted (cs ++ inner) ≡ read_of value rest
    → Prefix IsToken rest (cs ++ inner) value
joined_found [] inner rest value all stop joined e = absurd (none-some (value, rest)
    (sym (unquoted_none inner (token_len_none inner stop)) ∙ e))
joined_found (b ∷ cs) [] rest value all stop joined e = absurd (false≢true joined)
joined_found (b ∷ cs) (c ∷ tail) rest value all stop joined e =
    let (space, digit) = and_parts (c == 32) (is_ascii_digit (slice_index tail 0)) joined in
    let c_is : c ≡ 32 = grind (arith, nat_tests) in
    subst (λ x. Prefix IsToken rest (b ∷ (cs ++ (x ∷ tail))) value) (sym c_is)
    (spaced_found b cs tail (drop (prefix_len is_token_byte tail) tail) rest value all digit (run_found tail)
    (subst (λ x. unquoted (b ∷ (cs ++ (x ∷ tail))) ≡ read_of value rest) c_is e))

by_run : (text inner rest : List ℕ) (value : Scalar) → Run inner text → unquoted text ≡ read_of value rest
    → Prefix IsToken rest text value
by_run text inner rest value (run cs all stop) e =
    elim (cases_Bool (joins inner)) [
      | inl joined ↦ joined_found cs inner rest value all stop joined e
      | inr apart ↦ plain_found cs inner rest value all stop apart e
    ]

-- an unquoted value that is read is in the grammar
pub unquoted-sound : (text rest : List ℕ) (value : Scalar) → unquoted text ≡ read_of value rest
    → Prefix IsToken rest text value
unquoted-sound text rest value e = by_run text (drop (prefix_len is_token_byte text) text) rest value (run_found text) e
