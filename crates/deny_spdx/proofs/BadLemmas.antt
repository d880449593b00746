-- A text spells at most one value, or goes wrong at one offset, and never both.
use Rattle.std.proofs.Common.{◌≡◌, ℕ, inl, inr, true, false, List, [], ◌∷◌, ◌++◌, length, Result, Ok, Err, refl, sym}
use Rattle.std.proofs.Common.{◌∙◌, ap, subst, arith, append_assoc, append-nil}
use Rattle.deny_base_lists.specs.Reader.{Answers}
use Rattle.deny_spdx.specs.declared.token.SpdxToken.{SpdxToken}
use Rattle.deny_spdx.specs.declared.error.SpdxError.{SpdxError}
use Rattle.deny_spdx.specs.declared.error.SpdxError.TheVariants.{Bad, Memory}
use Rattle.deny_spdx.specs.Tokens.{is_blank, begins_token, HasTokens, none, blank, more}
use Rattle.deny_spdx.specs.Bad.{Spells, AreWhole, Begin, GoesWrong, ends, no_token, token, IsBadAt}
use Rattle.deny_spdx.specs.private.Bad.{IsAnswer}
use Rattle.deny_spdx.proofs.TokenLemmas.{begins_same, begins_first, begins_some, begins_from, not_blank, GoesOn}
use Rattle.deny_spdx.proofs.TokenLemmas.{tokens_meet}

-- tokens spell at most one value by S
abbrev pub IsClear : {A : Type 0} → (List SpdxToken → A → Type 0) → Type 0
IsClear {A} S = (tokens : List SpdxToken) (x y : A) → S tokens x → S tokens y → x ≡ y

no_tokens : {rest : List ℕ} {tokens : List SpdxToken} (text : List ℕ) → text ≡ [] → HasTokens text tokens rest
    → (tokens ≡ []) × (rest ≡ [])
no_tokens text e none = (refl, e)
no_tokens text e (blank b is d) = cc
no_tokens text e (more begins d) = absurd (begins_some begins e)

begin_first : {A : Type 0} (S : List SpdxToken → A → Type 0) (tokens others : List SpdxToken) (t t' : SpdxToken)
    → t' ≡ t
    → Begin S (tokens ++ t' ∷ others) → Begin S (tokens ++ t ∷ [])
begin_first {A} S tokens others t t' e b =
    let P : SpdxToken → Type 0 = λ x. Begin S (tokens ++ x ∷ []) in
    let Q : List SpdxToken → Type 0 = λ x. AreWhole S x in
    subst P e (
      others ++ b.0,
      subst Q (append_assoc tokens (t' ∷ others) b.0 ∙ sym (append_assoc tokens (t' ∷ []) (others ++ b.0))) b.1,
    )

-- after an offset where a text goes wrong, nothing continues it
wrong_ends : {A : Type 0} (S : List SpdxToken → A → Type 0) (tokens : List SpdxToken) (rest text : List ℕ)
    (others : List SpdxToken)
    (rest' : List ℕ) → rest ≡ text → GoesWrong S tokens rest → HasTokens text others rest' → Begin S (tokens ++ others)
    → (others ≡ []) × (rest' ≡ rest)
wrong_ends S tokens rest text others rest' same w none b = (refl, sym same)
wrong_ends S tokens rest text others rest' same (ends whole) (blank b' is d) b = cc
wrong_ends S tokens rest text others rest' same (no_token b other _) (blank b' is d) b'' = let here : b ≡ b' = cc in
    let not_blank : is_blank b' ≡ false = ap is_blank (sym here) ∙ other in cc
wrong_ends S tokens rest text others rest' same (token t begins stuck) (blank b' is d) b = absurd
    (not_blank b' _ begins same is)
wrong_ends S tokens rest text others rest' same (ends whole) (more begins d) b = absurd (begins_some begins (sym same))
wrong_ends S tokens rest text others rest' same (no_token b other nothing) (more begins d)
    b' = let starts : begins_token b ≡ true = begins_first begins b _ (sym same) in cc
wrong_ends S tokens rest text others rest' same (token t begins stuck) (more {t = t'} {tokens = those} begins' d)
    b = absurd (stuck (begin_first S tokens those t t' (sym (begins_same (begins_from same begins) begins').0) b))

begin_as : {A : Type 0} (S : List SpdxToken → A → Type 0) (tokens tokens' : List SpdxToken) → tokens ≡ tokens'
    → Begin S tokens
    → Begin S tokens'
begin_as S tokens tokens' e b = let P : List SpdxToken → Type 0 = λ x. Begin S x in subst P e b

rest_same : {A : Type 0} (S : List SpdxToken → A → Type 0) (tokens tokens' : List SpdxToken) (rest rest' : List ℕ)
    → GoesOn tokens rest tokens' rest' → GoesWrong S tokens rest → Begin S tokens' → rest' ≡ rest
rest_same S tokens tokens' rest rest' g w
    b = (wrong_ends S tokens rest rest g.others rest' refl w g.between (begin_as S _ _ g.all b)).1

-- a text goes wrong at one offset only
pub offset_same : {A : Type 0} (S : List SpdxToken → A → Type 0) (text : List ℕ) (p q : ℕ) → IsBadAt S text p
    → IsBadAt S text q → p ≡ q
offset_same S text p q d e = elim (tokens_meet refl d.before e.before) [
  | inl g ↦ omega (arith, d.at, e.at, ap length (rest_same S _ _ _ _ g d.wrong e.begins))
  | inr g ↦ omega (arith, d.at, e.at, ap length (rest_same S _ _ _ _ g e.wrong d.begins))
]

whole_not_wrong : {A : Type 0} (S : List SpdxToken → A → Type 0) (tokens : List SpdxToken) (rest : List ℕ)
    → GoesWrong S tokens rest → rest ≡ [] → AreWhole S tokens → ⊥
whole_not_wrong S tokens rest (ends other) e whole = other whole
whole_not_wrong S tokens rest (no_token b blank_not begins_not) e whole = cc
whole_not_wrong S tokens rest (token t begins stuck) e whole = begins_some begins e

whole_as : {A : Type 0} (S : List SpdxToken → A → Type 0) (tokens tokens' : List SpdxToken) → tokens ≡ tokens'
    → AreWhole S tokens → AreWhole S tokens'
whole_as S tokens tokens' e b = let P : List SpdxToken → Type 0 = λ x. AreWhole S x in subst P e b

no_others : (tokens tokens' others : List SpdxToken) → tokens' ≡ tokens ++ others → others ≡ [] → tokens' ≡ tokens
no_others tokens tokens' others e empty = e ∙ (ap (λ x. tokens ++ x) empty ∙ append-nil tokens)

-- a text that goes wrong spells nothing
pub bad_spells : {A : Type 0} (S : List SpdxToken → A → Type 0) (text : List ℕ) (p : ℕ) (x : A) → IsBadAt S text p
    → Spells S text x → ⊥
bad_spells S text p x d e = elim (tokens_meet refl d.before e.all) [
  | inl g ↦ (let end = wrong_ends S d.tokens d.rest d.rest g.others [] refl d.wrong g.between
      (begin_as S _ _ g.all ([], whole_as S _ _ (sym (append-nil e.tokens)) (x, e.spelled))) in
      whole_not_wrong S d.tokens d.rest d.wrong (sym end.1)
      (whole_as S _ _ (no_others _ _ _ g.all end.0) (x, e.spelled)))
  | inr g ↦ (let end = no_tokens [] refl g.between in
      whole_not_wrong S d.tokens d.rest d.wrong end.1
      (whole_as S _ _ (sym (no_others _ _ _ g.all end.0)) (x, e.spelled)))
]

tokens_same : (text : List ℕ) (tokens tokens' : List SpdxToken) → HasTokens text tokens [] → HasTokens text tokens' []
    → tokens ≡ tokens'
tokens_same text tokens tokens' d e = elim (tokens_meet refl d e) [
  | inl g ↦ sym (no_others _ _ _ g.all (no_tokens [] refl g.between).0)
  | inr g ↦ no_others _ _ _ g.all (no_tokens [] refl g.between).0
]

-- a text spells at most one value
pub spells_same : {A : Type 0} (S : List SpdxToken → A → Type 0) → IsClear S → (text : List ℕ) (x y : A)
    → Spells S text x
    → Spells S text y → x ≡ y
spells_same {A} S clear text x y d e = let P : List SpdxToken → Type 0 = λ t. S t x in
    clear e.tokens x y (subst P (tokens_same text d.tokens e.tokens d.all e.all) d.spelled) e.spelled

-- the value that is spelled is the result
pub only_answer : {A : Type 0} (S : List SpdxToken → A → Type 0) → IsClear S
    → (text : List ℕ) (result : Result A SpdxError)
    → IsAnswer S text result → (x : A) → Spells S text x
    → Answers Memory (Ok x) result
only_answer S clear text (Ok y) d x e = ap Ok (spells_same S clear text x y e d)
only_answer S clear text (Err (Bad p)) d x e = absurd (bad_spells S text p x d e)
only_answer S clear text (Err Memory) d x e = inl refl

-- the offset at which a text goes wrong is the result
pub only_offset : {A : Type 0} (S : List SpdxToken → A → Type 0) (text : List ℕ) (result : Result A SpdxError)
    → IsAnswer S text result → (p : ℕ) → IsBadAt S text p → Answers Memory (Err (Bad p)) result
only_offset S text (Ok x) d p e = absurd (bad_spells S text p x e d)
only_offset S text (Err (Bad q)) d p e = inr (ap (λ n. Err (Bad n)) (offset_same S text p q e d))
only_offset S text (Err Memory) d p e = inl refl
