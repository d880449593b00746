-- Reading a text token by token.
use Rattle.std.proofs.Common.{◌≡◌, ℕ, suc, ◌+◌, ◌-◌, ◌<◌, ◌≤◌, Bool, true, false, cond, List, [], ◌∷◌, ◌++◌, length}
use Rattle.std.proofs.Common.{drop, Option, Some, None, refl, sym, ◌∙◌, ap, subst, arith, length-drop, option_and_then}
use Rattle.std.specs.List.{prefix_len}
use Rattle.deny_spdx.specs.declared.token.SpdxToken.{SpdxToken}
use Rattle.deny_spdx.specs.declared.token.Prefix.{Prefix}
use Rattle.deny_spdx.specs.declared.token.Prefix.TheVariants as prefix
use Rattle.deny_spdx.specs.Tokens.{is_blank, HasTokens, none, blank, more}
use Rattle.deny_spdx.specs.private.Prefix.{HasTokenPrefix, HasPrefix}
use Rattle.deny_spdx.specs.declared.reading.TokenStep.{TokenStep}
use Rattle.deny_spdx.specs.declared.reading.TokenStep.TheVariants.{On, Wrong}
use Rattle.deny_spdx.specs.private.Reading.{no_token, token}
use Rattle.deny_spdx.specs.private.Reading.{NoBlankFirst, IsTurn, IsStuck, StepsOn, IsReadTo, StopsAt}
use Rattle.deny_spdx.proofs.StepsLemmas.{run_by-append}
use Rattle.deny_spdx.proofs.TokenLemmas.{tokens_then, rest_shorter, begins_shorter}

pub stuck_byte : {R : Type 0} (step : R → SpdxToken → Option R) (r : R) (rest : List ℕ) (found : Prefix)
    → HasPrefix rest found → found ≡ prefix.NoToken → IsStuck step r rest
stuck_byte step r rest prefix.End d e = cc
stuck_byte step r rest prefix.NoToken d e = let P : List ℕ → Type 0 = λ x. IsStuck step r x in
    subst P (sym d.2) (no_token d.0 d.3)
stuck_byte step r rest (prefix.Token t n) d e = cc

pub stuck_token : {R : Type 0} (step : R → SpdxToken → Option R) (r : R) (rest : List ℕ) (found : Prefix)
    (t : SpdxToken)
    (n : ℕ) (after : Option R) → HasPrefix rest found → found ≡ prefix.Token t n → after ≡ step r t → after ≡ None
    → IsStuck step r rest
stuck_token step r rest found t n after d e f g = let P : Prefix → Type 0 = λ x. HasPrefix rest x in
    let here : HasTokenPrefix rest t n = subst P e d in token t here.begins (sym f ∙ g)

-- the blanks at the start
skipped : (text : List ℕ) → HasTokens text [] (drop (prefix_len is_blank text) text)
skipped [] = none
skipped (b ∷ bs) = skip_at b bs (skipped bs) (is_blank b) refl
  where
    skip_at : (b : ℕ) (bs : List ℕ) → HasTokens bs [] (drop (prefix_len is_blank bs) bs) → (t : Bool) → is_blank b ≡ t
        → HasTokens (b ∷ bs) [] (drop (cond t (1 + prefix_len is_blank bs) 0) (b ∷ bs))
    skip_at b bs d true e = let next : suc (prefix_len is_blank bs) ≡ 1 + prefix_len is_blank bs = omega arith in
        let P : ℕ → Type 0 = λ n. HasTokens (b ∷ bs) [] (drop n (b ∷ bs)) in subst P next (blank b e d)
    skip_at b bs d false e = none

no_blank : (text : List ℕ) → NoBlankFirst (drop (prefix_len is_blank text) text)
no_blank [] = tt
no_blank (b ∷ bs) = no_blank_at b bs (no_blank bs) (is_blank b) refl
  where
    no_blank_at : (b : ℕ) (bs : List ℕ) → NoBlankFirst (drop (prefix_len is_blank bs) bs) → (t : Bool) → is_blank b ≡ t
        → NoBlankFirst (drop (cond t (1 + prefix_len is_blank bs) 0) (b ∷ bs))
    no_blank_at b bs d true e = let next : suc (prefix_len is_blank bs) ≡ 1 + prefix_len is_blank bs = omega arith in
        let P : ℕ → Type 0 = λ n. NoBlankFirst (drop n (b ∷ bs)) in subst P next d
    no_blank_at b bs d false e = e

-- before the first token
pub read_nothing : {R : Type 0} (step : R → SpdxToken → Option R) (start : R) (text rest : List ℕ)
    → rest ≡ drop (prefix_len is_blank text) text → IsReadTo step start text rest start
read_nothing step start text rest e =
    let P : List ℕ → Type 0 = λ x. IsReadTo step start text x start in
    subst P (sym e) (record { tokens = []; before = skipped text; runs = refl; plain = no_blank text })

-- one more token
pub read_more : {R : Type 0} (step : R → SpdxToken → Option R) (start last after : R) (text rest behind rest' : List ℕ)
    (n : ℕ) → IsReadTo step start text rest last → StepsOn step last rest after n → behind ≡ drop n rest
    → rest' ≡ drop (prefix_len is_blank behind) behind → IsReadTo step start text rest' after
read_more step start last after text rest behind rest' n d s e f =
    let P : List ℕ → Type 0 = λ x. IsReadTo step start text x after in
    let Q : List ℕ → Type 0 = λ x. HasTokens rest (s.next ∷ []) (drop (prefix_len is_blank x) x) in
    let on : HasTokens rest (s.next ∷ []) (drop (prefix_len is_blank behind) behind) = subst Q (sym e)
    (more s.prefix.begins (skipped (drop n rest))) in
    subst P (sym f) (record {
      tokens = d.tokens ++ s.next ∷ [];
      before = tokens_then _ (s.next ∷ []) d.before on;
      runs = run_by-append step start last d.tokens (s.next ∷ []) d.runs ∙ ap (option_and_then (λ x. Some x)) s.steps;
      plain = no_blank behind;
    })

-- the rest gets shorter
pub read_shorter : {R : Type 0} (step : R → SpdxToken → Option R) (last after : R) (rest behind rest' : List ℕ) (n : ℕ)
    → StepsOn step last rest after n → behind ≡ drop n rest → rest' ≡ drop (prefix_len is_blank behind) behind
    → length rest' < length rest
read_shorter step last after rest behind rest' n s e f =
    let less : length (drop n rest) < length rest = begins_shorter s.prefix.begins in
    let here : length behind ≡ length (drop n rest) = ap length e in
    let there : length rest' ≡ length behind - prefix_len is_blank behind = ap length f ∙ length-drop _ behind in
    omega arith

pub read_stops : {R : Type 0} (step : R → SpdxToken → Option R) (start last : R) (text rest : List ℕ) (offset : ℕ)
    → IsReadTo step start text rest last → IsStuck step last rest → offset ≡ length text - length rest
    → StopsAt step start text offset
read_stops step start last text rest offset d s e = record
    { rest = rest; last = last; to = d; stuck = s; at = omega (arith, e, rest_shorter d.before) }

pub turn_on : {R : Type 0} (step : R → SpdxToken → Option R) (r : R) (rest : List ℕ) (turn : TokenStep R) (after : R)
    (n : ℕ)
    → IsTurn step r rest turn → turn ≡ On after n → StepsOn step r rest after n
turn_on {R} step r rest turn after n d e = let P : TokenStep R → Type 0 = λ x. IsTurn step r rest x in subst P e d

pub turn_wrong : {R : Type 0} (step : R → SpdxToken → Option R) (r : R) (rest : List ℕ) (turn : TokenStep R)
    → IsTurn step r rest turn → turn ≡ Wrong → IsStuck step r rest
turn_wrong {R} step r rest turn d e = let P : TokenStep R → Type 0 = λ x. IsTurn step r rest x in subst P e d

pub rest_within : {R : Type 0} (step : R → SpdxToken → Option R) (start last : R) (text rest : List ℕ)
    → IsReadTo step start text rest last → length rest ≤ length text
rest_within step start last text rest d = rest_shorter d.before
