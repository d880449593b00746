-- A text has at most one list of tokens, which is read token by token.
use Rattle.std.proofs.Common.{◌≡◌, ◌≢◌, ℕ, suc, ◌+◌, Bool, true, false, cond, List, [], ◌∷◌, ◌++◌, length, drop, Some}
use Rattle.std.proofs.Common.{None, refl, sym, ◌∙◌, ap, subst, arith, append_assoc, append-nil, ◌==◌}
use Rattle.std.specs.List.{prefix_len}
use Rattle.std.proofs.lemmas.Bool.Decides.{nat_tests}
use Rattle.deny_spans_cfg_expr.specs.declared.token.CfgToken.{CfgToken}
use Rattle.deny_spans_cfg_expr.specs.Tokens.{is_blank, is_name_start, mark_first, mark_token, first_token}
use Rattle.deny_spans_cfg_expr.specs.Tokens.{HasTokens, none}
use Rattle.deny_spans_cfg_expr.specs.Tokens.{blank, more}
use Rattle.deny_spans_cfg_expr.specs.private.Tokens.{IsReadTo}

-- the blanks at the start
blanks_before : (text : List ℕ) (tokens : List CfgToken) → HasTokens (drop (prefix_len is_blank text) text) tokens
    → HasTokens text tokens
blanks_before [] tokens d = d
blanks_before (b ∷ bs) tokens d = blanks_at b bs tokens (λ h. blanks_before bs tokens h) (is_blank b) refl d
  where
    blanks_at : (b : ℕ) (bs : List ℕ) (tokens : List CfgToken)
        → (HasTokens (drop (prefix_len is_blank bs) bs) tokens → HasTokens bs tokens) → (t : Bool) → is_blank b ≡ t
        → HasTokens (drop (cond t (1 + prefix_len is_blank bs) 0) (b ∷ bs)) tokens → HasTokens (b ∷ bs) tokens
    blanks_at b bs tokens before true e d =
        let next : 1 + prefix_len is_blank bs ≡ suc (prefix_len is_blank bs) = omega arith in
        let P : ℕ → Type 0 = λ n. HasTokens (drop n (b ∷ bs)) tokens in blank b e (before (subst P next d))
    blanks_at b bs tokens before false e d = d

-- the start of a text without blanks before it
data IsPrefix : List ℕ → List CfgToken → Type 0 where
  at_end : IsPrefix [] []
  at_token : {text rest : List ℕ} {token : CfgToken} {tokens : List CfgToken} → first_token text ≡ Some (token, rest)
      → HasTokens rest tokens → IsPrefix text (token ∷ tokens)

pub blank_first : (b : ℕ) (bs : List ℕ) → is_blank b ≡ true → first_token (b ∷ bs) ≡ None
unfolding is_blank is_name_start mark_first mark_token first_token
blank_first b bs e = at_blank (b == 32) refl
  where
    at_blank : (t : Bool) → (b == 32) ≡ t → first_token (b ∷ bs) ≡ None
    at_blank true f = let same : 32 ≡ b = grind (arith, nat_tests, f) in
        let P : ℕ → Type 0 = λ n. first_token (n ∷ bs) ≡ None in subst P same refl
    at_blank false f = let same : 9 ≡ b = grind (arith, nat_tests, e, f) in
        let P : ℕ → Type 0 = λ n. first_token (n ∷ bs) ≡ None in subst P same refl

prefix_at : (text : List ℕ) {rest : List ℕ} {token : CfgToken} {tokens : List CfgToken}
    → first_token text ≡ Some (token, rest) → HasTokens rest tokens
    → IsPrefix (drop (prefix_len is_blank text) text) (token ∷ tokens)
unfolding first_token
prefix_at [] e d = cc
prefix_at (b ∷ bs) {rest = rest} {token = token} {tokens = tokens} e d = at_first (is_blank b) refl
  where
    at_first : (t : Bool) → is_blank b ≡ t
        → IsPrefix (drop (cond t (1 + prefix_len is_blank bs) 0) (b ∷ bs)) (token ∷ tokens)
    at_first true f = absurd (cc (e, blank_first b bs f))
    at_first false f = at_token e d

prefix : {text : List ℕ} {tokens : List CfgToken} → HasTokens text tokens
    → IsPrefix (drop (prefix_len is_blank text) text) tokens
prefix none = at_end
prefix (blank b {text = text} {tokens = tokens} e d) =
    let next : suc (prefix_len is_blank text) ≡ 1 + prefix_len is_blank text = omega arith in
    let P : ℕ → Type 0 = λ n. IsPrefix (drop n (b ∷ text)) tokens in
    let Q : Bool → Type 0 = λ t. IsPrefix (drop (cond t (1 + prefix_len is_blank text) 0) (b ∷ text)) tokens in
    subst Q (sym e) (subst P next (prefix d))
prefix (more {text = text} e d) = prefix_at text e d

prefix_from : (text here : List ℕ) (tokens : List CfgToken) → here ≡ drop (prefix_len is_blank text) text
    → HasTokens text tokens → IsPrefix here tokens
prefix_from text here tokens e d = let P : List ℕ → Type 0 = λ x. IsPrefix x tokens in subst P (sym e) (prefix d)

none_left : (text : List ℕ) → length text ≡ 0 → text ≡ []
none_left [] e = refl
none_left (b ∷ bs) e = absurd (omega (arith, e))

-- nothing is left
pub read_all : (text rest here : List ℕ) (tokens : List CfgToken) → IsReadTo text rest tokens
    → here ≡ drop (prefix_len is_blank rest) rest → length here ≡ 0 → HasTokens text tokens
read_all text rest here tokens d e f =
    let nothing : here ≡ [] = none_left here f in
    let P : List ℕ → Type 0 = λ x. HasTokens x [] in
    let Q : List CfgToken → Type 0 = λ x. HasTokens text x in
    subst Q (append-nil tokens) (d.whole [] (blanks_before rest [] (subst P (sym nothing ∙ e) none)))

prefix_stuck : {here : List ℕ} {tokens : List CfgToken} → IsPrefix here tokens → here ≢ [] → first_token here ≡ None → ⊥
prefix_stuck at_end some e = some refl
prefix_stuck (at_token f d) some e = absurd (cc (e, f))

-- the rest begins with no token
pub read_stuck : (text rest here : List ℕ) (tokens : List CfgToken) → IsReadTo text rest tokens
    → here ≡ drop (prefix_len is_blank rest) rest → here ≢ [] → first_token here ≡ None → (all : List CfgToken)
    → HasTokens text all → ⊥
read_stuck text rest here tokens d e some f all h =
    let b : (others : List CfgToken) × HasTokens rest others × (all ≡ tokens ++ others) = d.back all h in
    prefix_stuck (prefix_from rest here b.0 e b.1) some f

-- The next token, and the rest after it.
record IsNext (others : List CfgToken) (token : CfgToken) (after : List ℕ) : Type 0 where
  left : List CfgToken
  has : HasTokens after left
  is : others ≡ token ∷ left

prefix_next : {here : List ℕ} {others : List CfgToken} (token : CfgToken) (after : List ℕ)
    → IsPrefix here others → first_token here ≡ Some (token, after) → IsNext others token after
unfolding first_token
prefix_next token after at_end e = absurd (cc e)
prefix_next token after (at_token {rest = rest} {token = t} {tokens = left} f d) e =
    let here : CfgToken × List ℕ = (t, rest) in
    let there : CfgToken × List ℕ = (token, after) in
    let found : Some here ≡ Some there = sym f ∙ e in
    let same : here ≡ there = cc in
    let P : List ℕ → Type 0 = λ x. HasTokens x left in
    record { left = left; has = subst P (ap (λ p. p.1) same) d; is = ap (λ p. p.0 ∷ left) same }

-- one more token
pub read_more : (text rest here after : List ℕ) (tokens tokens' : List CfgToken) (token : CfgToken)
    → IsReadTo text rest tokens → here ≡ drop (prefix_len is_blank rest) rest
    → first_token here ≡ Some (token, after) → tokens' ≡ tokens ++ token ∷ [] → IsReadTo text after tokens'
read_more text rest here after tokens tokens' token d e f g = record {
  whole =
      λ others h. let P : List ℕ → Type 0 = λ x. HasTokens x (token ∷ others) in
      let Q : List CfgToken → Type 0 = λ x. HasTokens text x in
      subst Q (sym (append_assoc tokens (token ∷ []) others) ∙ ap (λ x. x ++ others) (sym g))
      (d.whole (token ∷ others) (blanks_before rest (token ∷ others) (subst P e (more f h))));
  back =
      λ all h. let b : (others : List CfgToken) × HasTokens rest others × (all ≡ tokens ++ others) = d.back all h in
      let n : IsNext b.0 token after = prefix_next token after (prefix_from rest here b.0 e b.1) f in (
        n.left,
        n.has,
        b.2 ∙ (ap (λ x. tokens ++ x) n.is ∙ (sym (append_assoc tokens (token ∷ []) n.left)
            ∙ ap (λ x. x ++ n.left) (sym g))),
      );
}

without_blank : {b : ℕ} {text : List ℕ} {tokens : List CfgToken} → is_blank b ≡ true → HasTokens (b ∷ text) tokens
    → HasTokens text tokens
without_blank e (blank b f d) = d
without_blank {b = b} {text = text} e (more f d) = absurd (cc (f, blank_first b text e))

next_same : {text : List ℕ} {others : List CfgToken} (token : CfgToken) (after : List ℕ)
    → first_token text ≡ Some (token, after) → HasTokens text others → IsNext others token after
unfolding first_token
next_same token after e none = absurd (cc e)
next_same token after e (blank b {text = text} f d) = absurd (cc (e, blank_first b text f))
next_same token after e (more f d) = prefix_next token after (at_token f d) e

nothing_same : {others : List CfgToken} → IsPrefix [] others → [] ≡ others
unfolding first_token
nothing_same at_end = refl
nothing_same (at_token e d) = absurd (cc e)

-- a text has at most one list of tokens
pub tokens_same : {text : List ℕ} {tokens : List CfgToken} (others : List CfgToken) → HasTokens text tokens
    → HasTokens text others → tokens ≡ others
tokens_same others none h = nothing_same (prefix h)
tokens_same others (blank b e d) h = tokens_same others d (without_blank e h)
tokens_same others (more {rest = rest} {token = token} e d) h =
    let n : IsNext others token rest = next_same token rest e h in
    ap (λ x. token ∷ x) (tokens_same n.left d n.has) ∙ sym n.is
