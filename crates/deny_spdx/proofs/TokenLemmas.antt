-- The tokens of a text are determined by it.
use Rattle.std.proofs.Common.{◌≡◌, ◌≢◌, ℕ, ◌+◌, ◌<◌, ◌≤◌, ◌||◌, ◌⊎◌, inl, inr, true, false, cond, List, [], ◌∷◌, ◌++◌}
use Rattle.std.proofs.Common.{length, take, drop, Option, Some, None, refl, sym, ◌∙◌, ap, subst, arith, ◌==◌}
use Rattle.std.proofs.Common.{if◌then◌else◌, length-append}
use Rattle.std.specs.List.{prefix_len, list_all}
use Rattle.std.proofs.Math.Seq.{take-append_seam, drop-append_seam}
use Rattle.std.proofs.lemmas.Bool.{and_parts, or_cases}
use Rattle.std.proofs.lemmas.Bool.Decides.{nat_tests}
use Rattle.deny_spdx.specs.declared.token.SpdxToken.{SpdxToken}
use Rattle.deny_spdx.specs.declared.token.SpdxToken.TheVariants as token
use Rattle.deny_spdx.specs.Tokens.{is_blank, is_word_byte, begins_token, IsWord, EndsWord, BeginsWith, word, plus}
use Rattle.deny_spdx.specs.Tokens.{slash, opening, closing, token_of, HasTokens, none, blank, more}

-- the first token as a function of the text
word_at : List ℕ → List ℕ → Option (SpdxToken × List ℕ)
word_at w [] = Some (token_of w, [])
word_at w (c ∷ cs) = if c == 43 then Some (token.Word w, cs) else Some (token_of w, c ∷ cs)

first_token : List ℕ → Option (SpdxToken × List ℕ)
first_token [] = None
first_token (b ∷ bs) =
    if is_word_byte b then word_at (take (prefix_len is_word_byte (b ∷ bs)) (b ∷ bs))
    (drop (prefix_len is_word_byte (b ∷ bs)) (b ∷ bs))
    else (if b == 40 then Some (token.Open, bs) else (if b == 41 then Some (token.Close, bs) else Some (token.Or, bs)))

abbrev StopsWord : List ℕ → Type 0
StopsWord [] = Unit {0}
StopsWord (b ∷ bs) = is_word_byte b ≡ false

stops : (rest : List ℕ) → EndsWord rest → StopsWord rest
stops [] e = tt
stops (b ∷ bs) e = e.0

none_more : (rest : List ℕ) → StopsWord rest → prefix_len is_word_byte rest ≡ 0
none_more [] e = refl
none_more (b ∷ bs) e = ap (λ x. cond x (1 + prefix_len is_word_byte bs) 0) e

all_pass : (w rest : List ℕ) → list_all is_word_byte w ≡ true → StopsWord rest
    → prefix_len is_word_byte (w ++ rest) ≡ length w
all_pass [] rest e stop = none_more rest stop
all_pass (x ∷ xs) rest e stop =
    let each = and_parts (is_word_byte x) (list_all is_word_byte xs) e in
    let on : prefix_len is_word_byte (xs ++ rest) ≡ length xs = all_pass xs rest each.1 stop in
    ap (λ b. cond b (1 + prefix_len is_word_byte (xs ++ rest)) 0) each.0 ∙ omega arith

word_cut : (w rest : List ℕ) → IsWord w → StopsWord rest → first_token (w ++ rest) ≡ word_at w rest
unfolding first_token
word_cut [] rest d stop = absurd (omega (arith, d.some))
word_cut (x ∷ xs) rest d stop =
    let n : prefix_len is_word_byte ((x ∷ xs) ++ rest) ≡ length (x ∷ xs) = all_pass (x ∷ xs) rest d.each stop in
    ap (λ b. if b then word_at (take (prefix_len is_word_byte ((x ∷ xs) ++ rest)) ((x ∷ xs) ++ rest))
    (drop (prefix_len is_word_byte ((x ∷ xs) ++ rest)) ((x ∷ xs) ++ rest))
    else (if x == 40 then Some (token.Open, xs ++ rest)
    else (if x == 41 then Some (token.Close, xs ++ rest) else Some (token.Or, xs ++ rest))))
    (and_parts (is_word_byte x) (list_all is_word_byte xs) d.each).0
    ∙ (ap (λ k. word_at (take k ((x ∷ xs) ++ rest)) (drop k ((x ∷ xs) ++ rest))) n
    ∙ (ap (λ a. word_at a (drop (length (x ∷ xs)) ((x ∷ xs) ++ rest))) (take-append_seam (x ∷ xs) rest)
    ∙ ap (λ a. word_at (x ∷ xs) a) (drop-append_seam (x ∷ xs) rest)))

no_plus : (w rest : List ℕ) → EndsWord rest → word_at w rest ≡ Some (token_of w, rest)
unfolding word_at
no_plus w [] e = refl
no_plus w (c ∷ cs) e = let other : (c == 43) ≡ false = grind (arith, nat_tests, e.1) in
    ap (λ b. if b then Some (token.Word w, cs) else Some (token_of w, c ∷ cs)) other

first_token_is : {text rest : List ℕ} {t : SpdxToken} → BeginsWith text t rest → first_token text ≡ Some (t, rest)
unfolding first_token word_at is_word_byte
first_token_is (word bytes d e) = word_cut bytes _ d (stops _ e) ∙ no_plus bytes _ e
first_token_is (plus bytes d) = word_cut bytes _ d refl
first_token_is slash = refl
first_token_is opening = refl
first_token_is closing = refl

-- a text begins with at most one token
pub begins_same : {text rest rest' : List ℕ} {t t' : SpdxToken} → BeginsWith text t rest → BeginsWith text t' rest'
    → (t ≡ t') × (rest ≡ rest')
begins_same {rest = rest} {rest' = rest'} {t = t} {t' = t'} d e =
    let here : SpdxToken × List ℕ = (t, rest) in
    let there : SpdxToken × List ℕ = (t', rest') in
    let same : Some here ≡ Some there = sym (first_token_is d) ∙ first_token_is e in
    let pair : here ≡ there = cc in
    (ap (λ x. x.0) pair, ap (λ x. x.1) pair)

begins_of_word : (b : ℕ) → is_word_byte b ≡ true → begins_token b ≡ true
unfolding begins_token
begins_of_word b e = ap (λ w. w || (b == 40) || (b == 41) || (b == 47)) e

first_in : (w rest : List ℕ) (b : ℕ) (bs : List ℕ) → IsWord w → w ++ rest ≡ b ∷ bs → begins_token b ≡ true
first_in [] rest b bs d e = absurd (omega (arith, d.some))
first_in (x ∷ xs) rest b bs d e = let same : x ≡ b = cc in ap begins_token (sym same)
    ∙ begins_of_word x (and_parts (is_word_byte x) (list_all is_word_byte xs) d.each).0

-- the first byte of a token begins a token
pub begins_first : {text rest : List ℕ} {t : SpdxToken} → BeginsWith text t rest → (b : ℕ) (bs : List ℕ) → text ≡ b ∷ bs
    → begins_token b ≡ true
unfolding begins_token is_word_byte
begins_first (word bytes d e) b bs same = first_in bytes _ b bs d same
begins_first (plus bytes d) b bs same = first_in bytes _ b bs d same
begins_first slash b bs same = let here : 47 ≡ b = cc in let P : ℕ → Type 0 = λ x. begins_token x ≡ true in
    subst P here refl
begins_first opening b bs same = let here : 40 ≡ b = cc in let P : ℕ → Type 0 = λ x. begins_token x ≡ true in
    subst P here refl
begins_first closing b bs same = let here : 41 ≡ b = cc in let P : ℕ → Type 0 = λ x. begins_token x ≡ true in
    subst P here refl

-- the empty text begins with no token
pub begins_some : {text rest : List ℕ} {t : SpdxToken} → BeginsWith text t rest → text ≢ []
begins_some (word [] d e) f = absurd (omega (arith, d.some))
begins_some (word (x ∷ xs) d e) f = cc
begins_some (plus [] d) f = cc
begins_some (plus (x ∷ xs) d) f = cc
begins_some slash f = cc
begins_some opening f = cc
begins_some closing f = cc

-- a blank begins no token
blank_begins : (b : ℕ) → is_blank b ≡ true → begins_token b ≡ false
unfolding is_blank begins_token is_word_byte
blank_begins b e = elim (or_cases (b == 32) (b == 9) e) [
  | inl h ↦ (let here : 32 ≡ b = grind (arith, nat_tests, h) in let P : ℕ → Type 0 = λ x. begins_token x ≡ false in
      subst P here refl)
  | inr h ↦ (let here : 9 ≡ b = grind (arith, nat_tests, h) in let P : ℕ
      → Type 0 = λ x. begins_token x ≡ false in subst P here refl)
]

-- a token does not begin with a blank
pub not_blank : {text rest : List ℕ} {t : SpdxToken} (b : ℕ) (bs : List ℕ) → BeginsWith text t rest → text ≡ b ∷ bs
    → is_blank b ≡ true → ⊥
not_blank b bs d same e = let yes_begins : begins_token b ≡ true = begins_first d b bs same in
    let not_begins : begins_token b ≡ false = blank_begins b e in cc

-- a token or a blank at the end of the tokens
pub tokens_then : {text rest : List ℕ} {tokens : List SpdxToken} (rest' : List ℕ) (others : List SpdxToken)
    → HasTokens text tokens rest → HasTokens rest others rest' → HasTokens text (tokens ++ others) rest'
tokens_then rest' others none e = e
tokens_then rest' others (blank b is d) e = blank b is (tokens_then rest' others d e)
tokens_then rest' others (more begins d) e = more begins (tokens_then rest' others d e)

-- Of two readings of a text one continues the other.
pub record GoesOn (tokens : List SpdxToken) (rest : List ℕ) (tokens' : List SpdxToken) (rest' : List ℕ) : Type 0 where
  pub others : List SpdxToken
  pub between : HasTokens rest others rest'
  pub all : tokens' ≡ tokens ++ others

one_more : (t : SpdxToken) {tokens tokens' : List SpdxToken} {rest rest' : List ℕ} → GoesOn tokens rest tokens' rest'
    → GoesOn (t ∷ tokens) rest (t ∷ tokens') rest'
one_more t g = record { others = g.others; between = g.between; all = ap (λ x. t ∷ x) g.all }

either_more : (t t' : SpdxToken) {tokens tokens' : List SpdxToken} {rest rest' : List ℕ} → t ≡ t'
    → GoesOn tokens rest tokens' rest' ⊎ GoesOn tokens' rest' tokens rest
    → GoesOn (t ∷ tokens) rest (t' ∷ tokens') rest' ⊎ GoesOn (t' ∷ tokens') rest' (t ∷ tokens) rest
either_more t t' {tokens} {tokens'} {rest} {rest'} e (inl g) = let P : SpdxToken
    → Type 0 = λ x. GoesOn (t ∷ tokens) rest (x ∷ tokens') rest' ⊎ GoesOn (x ∷ tokens') rest' (t ∷ tokens) rest in
    subst P e (inl (one_more t g))
either_more t t' {tokens} {tokens'} {rest} {rest'} e (inr g) = let P : SpdxToken
    → Type 0 = λ x. GoesOn (t ∷ tokens) rest (x ∷ tokens') rest' ⊎ GoesOn (x ∷ tokens') rest' (t ∷ tokens) rest in
    subst P e (inr (one_more t g))

tokens_from : {text text' rest : List ℕ} {tokens : List SpdxToken} → text ≡ text' → HasTokens text tokens rest
    → HasTokens text' tokens rest
tokens_from {rest = rest} {tokens = tokens} e d = let P : List ℕ → Type 0 = λ x. HasTokens x tokens rest in subst P e d

pub begins_from : {text text' rest : List ℕ} {t : SpdxToken} → text ≡ text' → BeginsWith text t rest
    → BeginsWith text' t rest
begins_from {rest = rest} {t = t} e d = let P : List ℕ → Type 0 = λ x. BeginsWith x t rest in subst P e d

pub tokens_meet : {text text' rest rest' : List ℕ} {tokens tokens' : List SpdxToken} → text ≡ text'
    → HasTokens text tokens rest → HasTokens text' tokens' rest'
    → GoesOn tokens rest tokens' rest' ⊎ GoesOn tokens' rest' tokens rest
tokens_meet same none e = inl (record { others = _; between = tokens_from (sym same) e; all = refl })
tokens_meet same (blank b is d) none = inr
    (record { others = _; between = tokens_from same (blank b is d); all = refl })
tokens_meet same (blank b {text = u} is d) (blank b' {text = v} is' e) = let inner : u ≡ v = cc in tokens_meet inner d e
tokens_meet same (blank b is d) (more begins e) = absurd (not_blank b _ begins (sym same) is)
tokens_meet same (more begins d) none = inr
    (record { others = _; between = tokens_from same (more begins d); all = refl })
tokens_meet same (more begins d) (blank b is e) = absurd (not_blank b _ begins same is)
tokens_meet same (more {t = t} begins d) (more {t = t'} begins' e) = let one = begins_same (begins_from same begins)
    begins' in either_more t t' one.0 (tokens_meet one.1 d e)

-- a token has at least one byte
pub begins_shorter : {text rest : List ℕ} {t : SpdxToken} → BeginsWith text t rest → length rest < length text
begins_shorter (word bytes {rest} d e) = let some : 0 < length bytes = d.some in simp length-append (omega arith)
begins_shorter (plus bytes {rest} d) = simp length-append (omega arith)
begins_shorter slash = omega arith
begins_shorter opening = omega arith
begins_shorter closing = omega arith

-- the rest of a text is no longer than the text
pub rest_shorter : {text rest : List ℕ} {tokens : List SpdxToken} → HasTokens text tokens rest
    → length rest ≤ length text
rest_shorter none = omega arith
rest_shorter (blank b is d) = omega (arith, rest_shorter d)
rest_shorter (more begins d) = omega (arith, rest_shorter d, begins_shorter begins)
