-- The meaning of a text as one requirement is the requirement that it spells.
use Rattle.std.proofs.Common.{◌≡◌, ◌≢◌, ℕ, ◌<◌, ◌==◌, ◌&&◌, if◌then◌else◌, Bool, true, false, cond, not, List, [], ◌∷◌}
use Rattle.std.proofs.Common.{◌++◌, length, map, filter, Option, Some, None, Result, Ok, Err, refl, sym, ◌∙◌, ap, subst}
use Rattle.std.proofs.Common.{append_assoc, append-nil, ◌⊎◌, inl, inr, nat_lt, arith}
use Rattle.std.specs.List.{list_all, slice_split, onto_first}
use Rattle.std.proofs.lemmas.List.Splits.{slice_split-cons_yes, slice_split-cons_no}
use Rattle.std.proofs.lemmas.List.Folds.{list_all-append}
use Rattle.std.proofs.lemmas.Bool.{and_parts, ltb-true}
use Rattle.std.proofs.lemmas.Bool.Decides.{nat_tests}
use Rattle.deny_base_lists.proofs.Booleans.{and-false}
use Rattle.deny_spdx.specs.declared.token.SpdxToken.{SpdxToken}
use Rattle.deny_spdx.specs.declared.token.SpdxToken.TheVariants.{Word, With, And, Or, Open, Close}
use Rattle.deny_spdx.specs.declared.requirement.Requirement.{Requirement}
use Rattle.deny_spdx.specs.declared.error.SpdxError.{SpdxError}
use Rattle.deny_spdx.specs.declared.error.SpdxError.TheVariants.{Bad, Memory}
use Rattle.deny_spdx.specs.Tokens.{is_blank, is_word_byte, IsWord, EndsWord, BeginsWith, word, plus, slash, opening}
use Rattle.deny_spdx.specs.Tokens.{closing, token_of, HasTokens, none, blank, more}
use Rattle.deny_spdx.specs.Grammar.{IsRequirement, plain, excepted}
use Rattle.deny_spdx.specs.Bad.{Spells}
use Rattle.deny_spdx.specs.private.Bad.{IsAnswer}
use Rattle.deny_spdx.specs.Meaning.{spaced, parts_of, is_word, without_plus, part_token, requirement_of, requirement_in}
use Rattle.deny_spdx.specs.Meaning.{IsMeaning}
use Rattle.deny_spdx.proofs.BadLemmas.{bad_spells}

-- ---- the parts of a text that begins with a word

is_full : List ℕ → Bool
is_full part = not (length part == 0)

word_byte_other : (b : ℕ) → is_word_byte b ≡ true → (is_blank b ≡ false) × ((b == 43) ≡ false)
unfolding is_word_byte is_blank
word_byte_other b e = (grind (arith, nat_tests, e), grind (arith, nat_tests, e))

blank_other : (b : ℕ) → is_blank b ≡ true → (is_word_byte b ≡ false) × ((b == 43) ≡ false)
unfolding is_word_byte is_blank
blank_other b e = (grind (arith, nat_tests, e), grind (arith, nat_tests, e))

abbrev AreWordBytes : List ℕ → Type 0
AreWordBytes w = list_all is_word_byte w ≡ true

first_of_word : (x : ℕ) (xs : List ℕ) → AreWordBytes (x ∷ xs) → is_word_byte x ≡ true
first_of_word x xs e = (and_parts (is_word_byte x) (list_all is_word_byte xs) e).0

rest_of_word : (x : ℕ) (xs : List ℕ) → AreWordBytes (x ∷ xs) → AreWordBytes xs
rest_of_word x xs e = (and_parts (is_word_byte x) (list_all is_word_byte xs) e).1

-- no blank is inserted into a word
spaced_word : (w rest : List ℕ) → AreWordBytes w → spaced (w ++ rest) ≡ w ++ spaced rest
spaced_word [] rest e = refl
spaced_word (x ∷ xs) rest e =
    ap (λ c. if c then 43 ∷ 32 ∷ spaced (xs ++ rest) else x ∷ spaced (xs ++ rest))
    (word_byte_other x (first_of_word x xs e)).1
    ∙ ap (λ bytes. x ∷ bytes) (spaced_word xs rest (rest_of_word x xs e))

spaced_other : (b : ℕ) (rest : List ℕ) → (b == 43) ≡ false → spaced (b ∷ rest) ≡ b ∷ spaced rest
spaced_other b rest e = ap (λ c. if c then 43 ∷ 32 ∷ spaced rest else b ∷ spaced rest) e

split_on : (x : ℕ) (xs rest : List ℕ) (parts : List (List ℕ)) → AreWordBytes (x ∷ xs)
    → slice_split is_blank rest ≡ parts → slice_split is_blank (x ∷ rest) ≡ onto_first x parts
split_on x xs rest parts e split =
    slice_split-cons_no is_blank x rest (word_byte_other x (first_of_word x xs e)).0 ∙ ap (onto_first x) split

split_blank : (w : List ℕ) (b : ℕ) (rest : List ℕ) → AreWordBytes w → is_blank b ≡ true
    → slice_split is_blank (w ++ b ∷ rest) ≡ w ∷ slice_split is_blank rest
split_blank [] b rest e is = slice_split-cons_yes is_blank b rest is
split_blank (x ∷ xs) b rest e is =
    split_on x xs (xs ++ b ∷ rest) _ e (split_blank xs b rest (rest_of_word x xs e) is)

split_plus : (w rest : List ℕ) → AreWordBytes w
    → slice_split is_blank (w ++ 43 ∷ 32 ∷ rest) ≡ (w ++ 43 ∷ []) ∷ slice_split is_blank rest
unfolding is_blank
split_plus [] rest e = refl
split_plus (x ∷ xs) rest e = split_on x xs (xs ++ 43 ∷ 32 ∷ rest) _ e (split_plus xs rest (rest_of_word x xs e))

split_end : (w : List ℕ) → AreWordBytes w → slice_split is_blank w ≡ w ∷ []
split_end [] e = refl
split_end (x ∷ xs) e = split_on x xs xs _ e (split_end xs (rest_of_word x xs e))

kept : (part : List ℕ) (parts : List (List ℕ)) → is_full part ≡ true
    → filter (λ p. not (length p == 0)) (part ∷ parts) ≡ part ∷ filter (λ p. not (length p == 0)) parts
unfolding is_full
kept part parts e = ap (λ c. cond c (part ∷ filter (λ p. not (length p == 0)) parts)
    (filter (λ p. not (length p == 0)) parts)) e

full_with : (w after : List ℕ) (b : ℕ) → is_full (w ++ b ∷ after) ≡ true
unfolding is_full
full_with [] after b = grind (arith, nat_tests)
full_with (x ∷ xs) after b = grind (arith, nat_tests)

full_word : (w : List ℕ) → IsWord w → is_full w ≡ true
unfolding is_full
full_word w d = let some : 0 < length w = d.some in grind (arith, nat_tests)

split_parts : (text bytes : List ℕ) (parts : List (List ℕ)) → spaced text ≡ bytes → slice_split is_blank bytes ≡ parts
    → parts_of text ≡ filter (λ p. not (length p == 0)) parts
split_parts text bytes parts e f = ap (λ bs. filter (λ p. not (length p == 0)) (slice_split is_blank bs)) e
    ∙ ap (filter (λ p. not (length p == 0))) f

parts_blank : (b : ℕ) (bs : List ℕ) → is_blank b ≡ true → parts_of (b ∷ bs) ≡ parts_of bs
parts_blank b bs is = split_parts (b ∷ bs) (b ∷ spaced bs) ([] ∷ slice_split is_blank (spaced bs))
    (spaced_other b bs (blank_other b is).1) (slice_split-cons_yes is_blank b (spaced bs) is)

parts_word : (w : List ℕ) (b : ℕ) (bs : List ℕ) → IsWord w → is_blank b ≡ true
    → parts_of (w ++ b ∷ bs) ≡ w ∷ parts_of bs
parts_word w b bs d is =
    split_parts (w ++ b ∷ bs) (w ++ b ∷ spaced bs) (w ∷ slice_split is_blank (spaced bs))
    (spaced_word w (b ∷ bs) d.each ∙ ap (λ x. w ++ x) (spaced_other b bs (blank_other b is).1))
    (split_blank w b (spaced bs) d.each is)
    ∙ kept w (slice_split is_blank (spaced bs)) (full_word w d)

parts_plus : (w bs : List ℕ) → AreWordBytes w → parts_of (w ++ 43 ∷ bs) ≡ (w ++ 43 ∷ []) ∷ parts_of bs
parts_plus w bs e =
    split_parts (w ++ 43 ∷ bs) (w ++ 43 ∷ 32 ∷ spaced bs) ((w ++ 43 ∷ []) ∷ slice_split is_blank (spaced bs))
    (spaced_word w (43 ∷ bs) e) (split_plus w (spaced bs) e)
    ∙ kept (w ++ 43 ∷ []) (slice_split is_blank (spaced bs)) (full_with w [] 43)

parts_end : (w : List ℕ) → IsWord w → parts_of w ≡ w ∷ []
parts_end w d =
    split_parts w w (w ∷ []) (ap spaced (sym (append-nil w)) ∙ (spaced_word w [] d.each ∙ append-nil w))
    (split_end w d.each)
    ∙ kept w [] (full_word w d)

-- ---- the token of a part

word_test : (w : List ℕ) → IsWord w → is_word w ≡ true
word_test w d = let some : 0 < length w = d.some in rw d.each (grind (arith, nat_tests))

token_of_word : (w : List ℕ) → IsWord w → part_token w ≡ Some (token_of w)
token_of_word w d = ap (λ c. if c then Some (token_of w)
    else (if is_word (without_plus w) then Some (Word (without_plus w)) else None)) (word_test w d)

without_last : (w : List ℕ) → without_plus (w ++ 43 ∷ []) ≡ w
without_last [] = refl
without_last (x ∷ []) = refl
without_last (x ∷ y ∷ ys) = ap (λ bytes. x ∷ bytes) (without_last (y ∷ ys))

no_word_byte : (w after : List ℕ) (b : ℕ) → is_word_byte b ≡ false → list_all is_word_byte (w ++ b ∷ after) ≡ false
no_word_byte [] after b e = ap (λ c. c && list_all is_word_byte after) e
no_word_byte (x ∷ xs) after b e = ap (λ c. is_word_byte x && c) (no_word_byte xs after b e) ∙ and-false (is_word_byte x)

no_word : (w after : List ℕ) (b : ℕ) → is_word_byte b ≡ false → is_word (w ++ b ∷ after) ≡ false
no_word w after b e = rw (no_word_byte w after b e) (grind (arith, nat_tests))

plus_token : (w : List ℕ) → part_token (w ++ 43 ∷ []) ≡ (if is_word w then Some (Word w) else None)
unfolding is_word_byte
plus_token w =
    ap (λ c. if c then Some (token_of (w ++ 43 ∷ []))
    else (if is_word (without_plus (w ++ 43 ∷ [])) then Some (Word (without_plus (w ++ 43 ∷ []))) else None))
    (no_word w [] 43 refl)
    ∙ ap (λ bytes. if is_word bytes then Some (Word bytes) else None) (without_last w)

token_of_plus : (w : List ℕ) → IsWord w → part_token (w ++ 43 ∷ []) ≡ Some (Word w)
token_of_plus w d = plus_token w ∙ ap (λ c. if c then Some (Word w) else None) (word_test w d)

-- ---- what is spelled is the meaning

-- words and WITH alone
abbrev AreNames : List SpdxToken → Type 0
AreNames [] = Unit {0}
AreNames (Word w ∷ ts) = AreNames ts
AreNames (With ∷ ts) = AreNames ts
AreNames (And ∷ ts) = ⊥
AreNames (Or ∷ ts) = ⊥
AreNames (Open ∷ ts) = ⊥
AreNames (Close ∷ ts) = ⊥

names_behind : (t : SpdxToken) (ts : List SpdxToken) → AreNames (t ∷ ts) → AreNames ts
names_behind (Word w) ts names = names
names_behind With ts names = names
names_behind And ts names = absurd names
names_behind Or ts names = absurd names
names_behind Open ts names = absurd names
names_behind Close ts names = absurd names

-- no word begins where a word ends
no_name : {rest after : List ℕ} {t : SpdxToken} (ts : List SpdxToken) → EndsWord rest → BeginsWith rest t after
    → AreNames (t ∷ ts) → ⊥
no_name ts ends (word [] d other) names = omega (arith, d.some)
no_name ts ends (word (x ∷ xs) d other) names = let is : is_word_byte x ≡ true = first_of_word x xs d.each in
    let isnt : is_word_byte x ≡ false = ends.0 in cc
no_name ts ends (plus [] d) names = omega (arith, d.some)
no_name ts ends (plus (x ∷ xs) d) names = let is : is_word_byte x ≡ true = first_of_word x xs d.each in
    let isnt : is_word_byte x ≡ false = ends.0 in cc
no_name ts ends slash names = names
no_name ts ends opening names = names
no_name ts ends closing names = names

abbrev AtEnd : List ℕ → Type 0
AtEnd rest = (rest ≡ []) ⊎ ((b : ℕ) × (bs : List ℕ) × (rest ≡ b ∷ bs) × (is_blank b ≡ true))

-- a word is followed by a blank, or by nothing
at_end : {rest last : List ℕ} {tokens : List SpdxToken} → last ≡ [] → EndsWord rest → HasTokens rest tokens last
    → AreNames tokens → AtEnd rest
at_end e ends none names = inl e
at_end e ends (blank b {text} is d) names = inr (b, text, refl, is)
at_end e ends (more {tokens = ts} begins d) names = absurd (no_name ts ends begins names)

word_then : (w rest : List ℕ) → IsWord w → AtEnd rest → parts_of (w ++ rest) ≡ w ∷ parts_of rest
word_then w rest d (inl e) = let P : List ℕ → Type 0 = λ x. parts_of (w ++ x) ≡ w ∷ parts_of x in
    subst P (sym e) (ap parts_of (append-nil w) ∙ parts_end w d)
word_then w rest d (inr f) = let P : List ℕ → Type 0 = λ x. parts_of (w ++ x) ≡ w ∷ parts_of x in
    subst P (sym f.2) (parts_word w f.0 f.1 d f.3 ∙ ap (λ parts. w ∷ parts) (sym (parts_blank f.0 f.1 f.3)))

abbrev tokens_at : List ℕ → List (Option SpdxToken)
tokens_at text = map part_token (parts_of text)

prefix_token : (text part : List ℕ) (parts : List (List ℕ)) (t : SpdxToken) (ts : List SpdxToken)
    → parts_of text ≡ part ∷ parts
    → part_token part ≡ Some t → map part_token parts ≡ map Some ts → tokens_at text ≡ map Some (t ∷ ts)
prefix_token text part parts t ts e f g = ap (map part_token) e
    ∙ (ap (λ x. x ∷ map part_token parts) f ∙ ap (λ xs. Some t ∷ xs) g)

parts_spelled : {text last : List ℕ} {tokens : List SpdxToken} → last ≡ [] → HasTokens text tokens last
    → AreNames tokens
    → tokens_at text ≡ map Some tokens
parts_spelled e none names = ap tokens_at e
parts_spelled e (blank b {text} is d) names = ap (map part_token) (parts_blank b text is) ∙ parts_spelled e d names
parts_spelled e (more {tokens = ts} (word bytes {rest} w ends) d) names =
    let behind : AreNames ts = names_behind (token_of bytes) ts names in
    prefix_token (bytes ++ rest) bytes (parts_of rest) (token_of bytes) ts
    (word_then bytes rest w (at_end e ends d behind)) (token_of_word bytes w) (parts_spelled e d behind)
parts_spelled e (more {tokens = ts} (plus bytes {rest} w) d) names =
    prefix_token (bytes ++ 43 ∷ rest) (bytes ++ 43 ∷ []) (parts_of rest) (Word bytes) ts (parts_plus bytes rest w.each)
    (token_of_plus bytes w) (parts_spelled e d names)
parts_spelled e (more slash d) names = absurd names
parts_spelled e (more opening d) names = absurd names
parts_spelled e (more closing d) names = absurd names

requirement_names : {tokens : List SpdxToken} {r : Requirement} → IsRequirement tokens r
    → AreNames tokens × (requirement_of (map Some tokens) ≡ Some r)
requirement_names (plain id) = (tt, refl)
requirement_names (excepted id exception) = (tt, refl)

meant : (text : List ℕ) (r : Requirement) → Spells IsRequirement text r → requirement_in text ≡ Some r
unfolding requirement_in
meant text r d = let names = requirement_names d.spelled in
    ap requirement_of (parts_spelled refl d.all names.0) ∙ names.1

-- ---- the meaning is what is spelled

-- A list of tokens, split at the first.
record Taken (x : Option SpdxToken) (xs : List (Option SpdxToken)) (tokens : List SpdxToken) : Type 0 where
  pub first : SpdxToken
  pub others : List SpdxToken
  pub all : tokens ≡ first ∷ others
  pub is : x ≡ Some first
  pub behind : xs ≡ map Some others

taken : (x : Option SpdxToken) (xs : List (Option SpdxToken)) (tokens : List SpdxToken) → x ∷ xs ≡ map Some tokens
    → Taken x xs tokens
taken x xs [] e = cc
taken x xs (t ∷ ts) e = record { first = t; others = ts; all = refl; is = cc; behind = cc }

spelled_as : (text : List ℕ) (tokens : List SpdxToken) (t : SpdxToken) (ts : List SpdxToken) → tokens ≡ t ∷ ts
    → HasTokens text (t ∷ ts) [] → HasTokens text tokens []
spelled_as text tokens t ts e d = let P : List SpdxToken → Type 0 = λ x. HasTokens text x [] in subst P (sym e) d

same_token : {t t' : SpdxToken} → Some t ≡ Some t' → t' ≡ t
same_token e = cc

-- the tokens after a word
abbrev Goes : List ℕ → Type 0
Goes bs = (w : List ℕ) (tokens : List SpdxToken) → AreWordBytes w → tokens_at (w ++ bs) ≡ map Some tokens
    → HasTokens (w ++ bs) tokens []

if_word : (c : Bool) (w : List ℕ) (t : SpdxToken) → (if c then Some (Word w) else None) ≡ Some t
    → (c ≡ true) × (t ≡ Word w)
if_word true w t e = (refl, cc)
if_word false w t e = cc

is_word_is : (w : List ℕ) → is_word w ≡ true → IsWord w
is_word_is w e = let parts = and_parts (nat_lt 0 (length w)) (list_all is_word_byte w) e in
    record { some = ltb-true 0 (length w) parts.0; each = parts.1 }

with_plus : (w bs : List ℕ) (tokens : List SpdxToken) → AreWordBytes w → Goes bs
    → tokens_at (w ++ 43 ∷ bs) ≡ map Some tokens → HasTokens (w ++ 43 ∷ bs) tokens []
with_plus w bs tokens each on same =
    let u = taken (part_token (w ++ 43 ∷ [])) (tokens_at bs) tokens
    (sym (ap (map part_token) (parts_plus w bs each)) ∙ same) in
    let is = if_word (is_word w) w u.first (sym (plus_token w) ∙ u.is) in
    spelled_as (w ++ 43 ∷ bs) tokens (Word w) u.others (u.all ∙ ap (λ t. t ∷ u.others) is.1)
    (more (plus w (is_word_is w is.0)) (on [] u.others refl u.behind))

with_blank : (w : List ℕ) (b : ℕ) (bs : List ℕ) (tokens : List SpdxToken) → AreWordBytes w → is_blank b ≡ true → Goes bs
    → tokens_at (w ++ b ∷ bs) ≡ map Some tokens → HasTokens (w ++ b ∷ bs) tokens []
with_blank [] b bs tokens each is on same = blank b is
    (on [] tokens refl (sym (ap (map part_token) (parts_blank b bs is)) ∙ same))
with_blank (x ∷ xs) b bs tokens each is on same =
    let d : IsWord (x ∷ xs) = record { some = omega arith; each = each } in
    let u = taken (part_token (x ∷ xs)) (tokens_at bs) tokens
    (sym (ap (map part_token) (parts_word (x ∷ xs) b bs d is)) ∙ same) in
    let first : u.first ≡ token_of (x ∷ xs) = same_token (sym (token_of_word (x ∷ xs) d) ∙ u.is) in
    let no_plus : b ≢ 43 = λ e. let isnt : (b == 43) ≡ false = (blank_other b is).1 in grind (arith, nat_tests) in
    spelled_as ((x ∷ xs) ++ b ∷ bs) tokens (token_of (x ∷ xs)) u.others (u.all ∙ ap (λ t. t ∷ u.others) first)
    (more (word (x ∷ xs) d ((blank_other b is).0, no_plus)) (blank b is (on [] u.others refl u.behind)))

with_byte : (w : List ℕ) (b : ℕ) (bs : List ℕ) (tokens : List SpdxToken) → AreWordBytes w → is_word_byte b ≡ true
    → Goes bs
    → tokens_at (w ++ b ∷ bs) ≡ map Some tokens → HasTokens (w ++ b ∷ bs) tokens []
with_byte w b bs tokens each is on same =
    let together : (w ++ b ∷ []) ++ bs ≡ w ++ b ∷ bs = append_assoc w (b ∷ []) bs in
    let all : AreWordBytes (w ++ b ∷ []) = list_all-append is_word_byte w (b ∷ []) ∙ rw (each, is) refl in
    let P : List ℕ → Type 0 = λ x. HasTokens x tokens [] in
    subst P together (on (w ++ b ∷ []) tokens all (ap tokens_at together ∙ same))

-- a part with another byte is no token

some_part : (rest : List ℕ) → (first : List ℕ) × (others : List (List ℕ)) × (slice_split is_blank rest ≡ first ∷ others)
some_part [] = ([], [], refl)
some_part (x ∷ xs) = some_at (is_blank x) (some_part xs)
  where
    some_at : (c : Bool)
        → (first : List ℕ) × (others : List (List ℕ)) × (slice_split is_blank xs ≡ first ∷ others)
        → (first : List ℕ) × (others : List (List ℕ))
        × (cond c ([] ∷ slice_split is_blank xs) (onto_first x (slice_split is_blank xs)) ≡ first ∷ others)
    some_at true d = ([], slice_split is_blank xs, refl)
    some_at false d = (x ∷ d.0, d.1, ap (onto_first x) d.2)

split_bad : (w : List ℕ) (b : ℕ) (rest : List ℕ) → AreWordBytes w → is_blank b ≡ false
    → (after : List ℕ) × (others : List (List ℕ)) × (slice_split is_blank (w ++ b ∷ rest) ≡ (w ++ b ∷ after) ∷ others)
split_bad [] b rest each isnt = let d = some_part rest in
    (d.0, d.1, slice_split-cons_no is_blank b rest isnt ∙ ap (onto_first b) d.2)
split_bad (x ∷ xs) b rest each isnt = let d = split_bad xs b rest (rest_of_word x xs each) isnt in
    (d.0, d.1, split_on x xs (xs ++ b ∷ rest) _ each d.2)

without_bad : (w after : List ℕ) (b : ℕ) → is_word_byte b ≡ false → (b == 43) ≡ false
    → list_all is_word_byte (without_plus (w ++ b ∷ after)) ≡ false
without_bad [] [] b e f = ap (λ c. list_all is_word_byte (if c then [] else b ∷ [])) f ∙ ap (λ c. c && true) e
without_bad [] (c ∷ cs) b e f = ap (λ x. x && list_all is_word_byte (without_plus (c ∷ cs))) e
without_bad (x ∷ []) after b e f =
    ap (λ c. is_word_byte x && c) (without_bad [] after b e f) ∙ and-false (is_word_byte x)
without_bad (x ∷ y ∷ ys) after b e f =
    ap (λ c. is_word_byte x && c) (without_bad (y ∷ ys) after b e f) ∙ and-false (is_word_byte x)

bad_token : (w after : List ℕ) (b : ℕ) → is_word_byte b ≡ false → (b == 43) ≡ false
    → part_token (w ++ b ∷ after) ≡ None
bad_token w after b e f =
    let part = w ++ b ∷ after in
    let not_bare : is_word (without_plus part) ≡ false =
    rw (without_bad w after b e f) (and-false (nat_lt 0 (length (without_plus part)))) in
    ap (λ c. if c then Some (token_of part)
    else (if is_word (without_plus part) then Some (Word (without_plus part)) else None)) (no_word w after b e)
    ∙ ap (λ c. if c then Some (Word (without_plus part)) else None) not_bare

with_bad : (w : List ℕ) (b : ℕ) (bs : List ℕ) (tokens : List SpdxToken) → AreWordBytes w → is_blank b ≡ false
    → (b == 43) ≡ false → is_word_byte b ≡ false → tokens_at (w ++ b ∷ bs) ≡ map Some tokens → ⊥
with_bad w b bs tokens each no_blank no_plus no_byte same =
    let d = split_bad w b (spaced bs) each no_blank in
    let parts : parts_of (w ++ b ∷ bs) ≡ (w ++ b ∷ d.0) ∷ filter (λ p. not (length p == 0)) d.1 =
    split_parts (w ++ b ∷ bs) (w ++ b ∷ spaced bs) ((w ++ b ∷ d.0) ∷ d.1)
    (spaced_word w (b ∷ bs) each ∙ ap (λ x. w ++ x) (spaced_other b bs no_plus)) d.2
    ∙ kept (w ++ b ∷ d.0) d.1 (full_with w d.0 b) in
    let u = taken (part_token (w ++ b ∷ d.0)) (map part_token (filter (λ p. not (length p == 0)) d.1)) tokens
    (sym (ap (map part_token) parts) ∙ same) in
    let nothing : None ≡ Some u.first = sym (bad_token w d.0 b no_byte no_plus) ∙ u.is in
    cc

goes_on : (w : List ℕ) (b : ℕ) (bs : List ℕ) (tokens : List SpdxToken) → AreWordBytes w → Goes bs
    → tokens_at (w ++ b ∷ bs) ≡ map Some tokens
    → (is : Bool) → is_blank b ≡ is → (ends : Bool) → (b == 43) ≡ ends → (goes : Bool) → is_word_byte b ≡ goes
    → HasTokens (w ++ b ∷ bs) tokens []
goes_on w b bs tokens each on same true is ends e goes f = with_blank w b bs tokens each is on same
goes_on w b bs tokens each on same false is true e goes f =
    let here : 43 ≡ b = grind (arith, nat_tests, e) in
    let P : ℕ → Type 0 = λ x. tokens_at (w ++ x ∷ bs) ≡ map Some tokens → HasTokens (w ++ x ∷ bs) tokens [] in
    subst P here (with_plus w bs tokens each on) same
goes_on w b bs tokens each on same false is false e true f = with_byte w b bs tokens each f on same
goes_on w b bs tokens each on same false is false e false f = absurd (with_bad w b bs tokens each is e f same)

at_last : (w : List ℕ) (tokens : List SpdxToken) → AreWordBytes w → tokens_at (w ++ []) ≡ map Some tokens
    → HasTokens (w ++ []) tokens []
at_last [] [] each same = none
at_last [] (t ∷ ts) each same = cc
at_last (x ∷ xs) tokens each same =
    let d : IsWord (x ∷ xs) = record { some = omega arith; each = each } in
    let u = taken (part_token (x ∷ xs)) [] tokens
    (sym (ap (map part_token) (word_then (x ∷ xs) [] d (inl refl))) ∙ same) in
    let first : u.first ≡ token_of (x ∷ xs) = same_token (sym (token_of_word (x ∷ xs) d) ∙ u.is) in
    let empty : u.others ≡ [] = no_more u.others u.behind in
    let ts : tokens ≡ token_of (x ∷ xs) ∷ [] = u.all ∙ (ap (λ t. t ∷ u.others) first
    ∙ ap (λ os. token_of (x ∷ xs) ∷ os) empty) in
    spelled_as ((x ∷ xs) ++ []) tokens (token_of (x ∷ xs)) [] ts (more (word (x ∷ xs) d tt) none)
  where
    no_more : (ts : List SpdxToken) → [] ≡ map Some ts → ts ≡ []
    no_more [] e = refl
    no_more (t ∷ ts) e = cc

spelled_parts : (text : List ℕ) → Goes text
spelled_parts [] w tokens each same = at_last w tokens each same
spelled_parts (b ∷ bs) w tokens each same = goes_on w b bs tokens each (spelled_parts bs) same
    (is_blank b) refl (b == 43) refl (is_word_byte b) refl

abbrev IsShaped : List (Option SpdxToken) → Requirement → Type 0
IsShaped found r = (tokens : List SpdxToken) × (found ≡ map Some tokens) × IsRequirement tokens r

shaped_as : (found : List (Option SpdxToken)) (q r : Requirement) → Some q ≡ Some r → IsShaped found q
    → IsShaped found r
shaped_as found q r e d = let same : q ≡ r = cc in let P : Requirement → Type 0 =
    λ x. IsShaped found x in subst P same d

shaped : (found : List (Option SpdxToken)) (r : Requirement) → requirement_of found ≡ Some r → IsShaped found r
shaped (Some (Word id) ∷ []) r e = shaped_as _ _ r e (Word id ∷ [], refl, plain id)
shaped (Some (Word id) ∷ Some With ∷ Some (Word exception) ∷ []) r e = shaped_as _ _ r e
    (Word id ∷ With ∷ Word exception ∷ [], refl, excepted id exception)
shaped _ r e = cc

spelled : (text : List ℕ) (r : Requirement) → requirement_in text ≡ Some r → Spells IsRequirement text r
unfolding requirement_in
spelled text r e = let d = shaped (tokens_at text) r e in
    record { tokens = d.0; all = spelled_parts text [] d.0 refl d.1; spelled = d.2 }

-- ---- what is read is the meaning of the text

nothing_meant : (text : List ℕ) (found : Option Requirement) → requirement_in text ≡ found
    → ((r : Requirement) → Spells IsRequirement text r → ⊥) → found ≡ None
nothing_meant text None e refuses = refl
nothing_meant text (Some r) e refuses = absurd (refuses r (spelled text r e))

pub answer_means : (text : List ℕ) (result : Result Requirement SpdxError) → IsAnswer IsRequirement text result
    → IsMeaning text result
answer_means text (Ok r) d = meant text r d
answer_means text (Err (Bad offset)) d = nothing_meant text (requirement_in text) refl
    (λ r. bad_spells IsRequirement text offset r d)
answer_means text (Err Memory) d = tt
