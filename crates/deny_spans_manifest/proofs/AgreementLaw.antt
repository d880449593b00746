-- Whether target keys agree can be tested: both are read token by token.
use Rattle.std.proofs.Common.{◌≡◌, ◌≢◌, ◌<◌, ◌≤◌, ◌+◌, ◌∷◌, ◌∙◌, [], ℕ, Bool, List, None, Option, Some, ap, arith, cond}
use Rattle.std.proofs.Common.{drop, false, inl, length, length-drop, refl, subst, suc, sym, true, zero}
use Rattle.std.specs.Prelude.{◌&&◌, ◌||◌, IsTrue, MatchOption, nat_le, nat_lt, option_map}
use Rattle.std.specs.Cmp.Lexicographic.{bytes_decides, pointwise}
use Rattle.std.specs.List.{after_first, position_or_len, prefix_len}
use Rattle.deny_spans_manifest.specs.Agreement.{ReportsAgreement}
use Rattle.deny_spec.specs.Text.{same_text}
use Rattle.deny_spans_cfg_expr.proofs.AgreeLemmas.{both_read, first_none, is_cfg, is_none, second_none, tokens_equal}
use Rattle.deny_spans_cfg_expr.proofs.SpellingLemmas.{kept}
use Rattle.deny_spans_cfg_expr.proofs.TokenLemmas.{tokens_same, blank_first}
use Rattle.deny_spans_cfg_expr.specs.Expression.{IsCfgOf, IsNone}
use Rattle.deny_spans_cfg_expr.specs.Grammar.{Agree}
use Rattle.deny_spans_cfg_expr.specs.Tokens.{HasTokens, blank, first_token, is_blank, is_name_byte, is_name_start}
use Rattle.deny_spans_cfg_expr.specs.Tokens.{is_quote}
use Rattle.deny_spans_cfg_expr.specs.Tokens.{mark_first, mark_token, more, none, quoted_first, word_first}
use Rattle.deny_spans_cfg_expr.specs.contracts.token.CfgTokenPartialEq.TheImpl.{ghosts as token_eq}
use Rattle.deny_spans_cfg_expr.specs.declared.expression.CfgExpr.{CfgExpr}
use Rattle.deny_spans_cfg_expr.specs.declared.token.CfgToken.{CfgToken}
use Rattle.deny_spans_cfg_expr.specs.private.Reader.{accepts, start}
use Rattle.deny_spans_cfg_expr.specs.private.Tokens.{AreAll}

-- ---- the tokens of a text, by a sufficient number of steps

abbrev with_token : (List ℕ → Option (List CfgToken)) → Option (CfgToken × List ℕ) → Option (List CfgToken)
with_token read None = None
with_token read (Some next) = option_map (λ tokens. next.0 ∷ tokens) (read next.1)

abbrev step : (List ℕ → Option (List CfgToken)) → List ℕ → Option (List CfgToken)
step read [] = Some []
step read (b ∷ bytes) = cond (is_blank b) (read bytes) (with_token read (first_token (b ∷ bytes)))

tokens_of : ℕ → List ℕ → Option (List CfgToken)
tokens_of zero text = None
tokens_of (suc n) text = step (tokens_of n) text

-- what a reader gives are the tokens of the text
abbrev Sound : (List ℕ → Option (List CfgToken)) → Type 0
Sound read = (text : List ℕ) (tokens : List CfgToken) → read text ≡ Some tokens → HasTokens text tokens

module _ (read : List ℕ → Option (List CfgToken)) (sound : Sound read) where
  sound_more : (text : List ℕ) (tokens : List CfgToken) (next : CfgToken × List ℕ) (o : Option (List CfgToken))
      → read next.1 ≡ o → first_token text ≡ Some next → option_map (λ ts. next.0 ∷ ts) o ≡ Some tokens
      → HasTokens text tokens
  sound_more text tokens next None rest first e = absurd (cc e)
  sound_more text tokens next (Some others) rest first e =
      let same : next.0 ∷ others ≡ tokens = cc in
      subst (λ (ts : List CfgToken). HasTokens text ts) same (more first (sound next.1 others rest))

  sound_next : (text : List ℕ) (tokens : List CfgToken) (o : Option (CfgToken × List ℕ)) → first_token text ≡ o
      → with_token read o ≡ Some tokens → HasTokens text tokens
  sound_next text tokens None first e = absurd (cc e)
  sound_next text tokens (Some next) first e = sound_more text tokens next (read next.1) refl first e

  sound_by : (b : ℕ) (bytes : List ℕ) (tokens : List CfgToken) (t : Bool) → is_blank b ≡ t
      → cond t (read bytes) (with_token read (first_token (b ∷ bytes))) ≡ Some tokens → HasTokens (b ∷ bytes) tokens
  sound_by b bytes tokens true is e = blank b is (sound bytes tokens e)
  sound_by b bytes tokens false is e = sound_next (b ∷ bytes) tokens (first_token (b ∷ bytes)) refl e

  step_sound : Sound (step read)
  step_sound [] tokens e =
      let same : [] ≡ tokens = cc in subst (λ (ts : List CfgToken). HasTokens [] ts) same none
  step_sound (b ∷ bytes) tokens e = sound_by b bytes tokens (is_blank b) refl e

sound_of : (n : ℕ) → Sound (tokens_of n)
unfolding tokens_of
sound_of zero text tokens e = absurd (cc e)
sound_of (suc n) text tokens e = step_sound (tokens_of n) (sound_of n) text tokens e

-- ---- a token takes at least one byte, and no blank begins one

abbrev Next : Type 0
Next = CfgToken × List ℕ

second_is : (one other : Next) → Some one ≡ Some other → one.1 ≡ other.1
second_is one other e = let same : one ≡ other = cc in ap (λ (next : Next). next.1) same

name_byte : (b : ℕ) → is_name_start b ≡ true → is_name_byte b ≡ true
unfolding is_name_byte
name_byte b e = ap (λ t. t || (nat_le 48 b && nat_le b 57)) e

word_short : (b : ℕ) (bytes : List ℕ) (token : CfgToken) (rest : List ℕ) → is_name_start b ≡ true
    → word_first (b ∷ bytes) ≡ Some (token, rest) → length rest ≤ length bytes
unfolding word_first
word_short b bytes token rest name e =
    let is : drop (prefix_len is_name_byte (b ∷ bytes)) (b ∷ bytes) ≡ rest = second_is _ (token, rest) e in
    let some : prefix_len is_name_byte (b ∷ bytes) ≡ 1 + prefix_len is_name_byte bytes =
    ap (λ t. cond t (1 + prefix_len is_name_byte bytes) 0) (name_byte b name) in
    omega (arith, ap length is, length-drop (prefix_len is_name_byte (b ∷ bytes)) (b ∷ bytes), some)

quoted_short : (bytes : List ℕ) (token : CfgToken) (rest : List ℕ) → quoted_first bytes ≡ Some (token, rest)
    → length rest ≤ length bytes
unfolding quoted_first
quoted_short bytes token rest e = by_test (nat_lt (position_or_len is_quote bytes) (length bytes)) _ e
  where
    by_test : (t : Bool) (first : CfgToken)
        → cond {A = Option Next} t (Some (first, after_first is_quote bytes)) None ≡ Some (token, rest)
        → length rest ≤ length bytes
    by_test true first e =
        let is : after_first is_quote bytes ≡ rest = second_is _ (token, rest) e in
        omega (arith, ap length is, length-drop (position_or_len is_quote bytes + 1) bytes)
    by_test false first e = absurd (cc e)

mark_short : (b : ℕ) (bytes : List ℕ) (token : CfgToken) (rest : List ℕ) → mark_first b bytes ≡ Some (token, rest)
    → length rest ≤ length bytes
unfolding mark_first
mark_short b bytes token rest e = by_mark (mark_token b) e
  where
    by_mark : (o : Option CfgToken) → option_map {U = Next} (λ mark. (mark, bytes)) o ≡ Some (token, rest)
        → length rest ≤ length bytes
    by_mark None e = absurd (cc e)
    by_mark (Some mark) e = let is : bytes ≡ rest = second_is _ (token, rest) e in omega (arith, ap length is)

shorter : (b : ℕ) (bytes : List ℕ) (token : CfgToken) (rest : List ℕ) → first_token (b ∷ bytes) ≡ Some (token, rest)
    → length rest ≤ length bytes
unfolding first_token
shorter b bytes token rest e = by_test (is_name_start b) (is_quote b) refl e
  where
    by_test : (t u : Bool) → is_name_start b ≡ t
        → cond t (word_first (b ∷ bytes)) (cond u (quoted_first bytes) (mark_first b bytes)) ≡ Some (token, rest)
        → length rest ≤ length bytes
    by_test true u is e = word_short b bytes token rest is e
    by_test false true is e = quoted_short bytes token rest e
    by_test false false is e = mark_short b bytes token rest e

not_blank : (b : ℕ) (bytes : List ℕ) (token : CfgToken) (rest : List ℕ) (t : Bool) → is_blank b ≡ t
    → first_token (b ∷ bytes) ≡ Some (token, rest) → t ≡ false
not_blank b bytes token rest true is e = absurd (cc (e, blank_first b bytes is))
not_blank b bytes token rest false is e = refl

-- ---- all tokens of a short text are read

abbrev Whole : ℕ → (List ℕ → Option (List CfgToken)) → Type 0
Whole n read = (text : List ℕ) (tokens : List CfgToken) → length text < n → HasTokens text tokens
    → read text ≡ Some tokens

module _ (n : ℕ) (read : List ℕ → Option (List CfgToken)) (whole : Whole n read) where
  whole_by : {b : ℕ} {bytes : List ℕ} {tokens : List CfgToken} → length bytes < n → HasTokens (b ∷ bytes) tokens
      → step read (b ∷ bytes) ≡ Some tokens
  whole_by below (blank b {text = bytes} {tokens = tokens} is d) =
      ap (λ t. cond t (read bytes) (with_token read (first_token (b ∷ bytes)))) is ∙ whole bytes tokens below d
  whole_by {b = b} {bytes = bytes} below (more {rest = rest} {token = token} {tokens = tokens} first d) =
      let short : length rest ≤ length bytes = shorter b bytes token rest first in
      ap (λ t. cond t (read bytes) (with_token read (first_token (b ∷ bytes))))
      (not_blank b bytes token rest (is_blank b) refl first)
      ∙ (ap (with_token read) first
      ∙ ap (option_map (λ ts. token ∷ ts)) (whole rest tokens (omega arith) d))

  step_whole : Whole (suc n) (step read)
  step_whole [] tokens below has = ap (λ ts. Some ts) (tokens_same tokens none has)
  step_whole (b ∷ bytes) tokens below has = whole_by (omega arith) has

whole_of : (n : ℕ) → Whole n (tokens_of n)
unfolding tokens_of
whole_of zero text tokens below has = absurd (omega arith)
whole_of (suc n) text tokens below has = step_whole n (tokens_of n) (whole_of n) text tokens below has

tokens_in : List ℕ → Option (List CfgToken)
tokens_in text = tokens_of (suc (length text)) text

all_tokens : (text : List ℕ) → AreAll text (tokens_in text)
unfolding tokens_in
all_tokens text = by_case (tokens_of (suc (length text)) text) refl
  where
    by_case : (o : Option (List CfgToken)) → tokens_of (suc (length text)) text ≡ o → AreAll text o
    by_case None is = λ tokens has.
        let both : None ≡ Some tokens = sym is ∙ whole_of (suc (length text)) text tokens (omega arith) has in
        absurd (cc both)
    by_case (Some tokens) is = sound_of (suc (length text)) text tokens is

-- ---- the expression of a text

abbrev expression_by : Option (List CfgToken) → Option CfgExpr
expression_by None = None
expression_by (Some tokens) = cond (accepts start tokens) (Some (record { tokens = kept tokens })) None

abbrev Reported : List ℕ → Option CfgExpr → Type 0
Reported text e = MatchOption e (IsNone text) (IsCfgOf text)

reported_by : (text : List ℕ) (o : Option (List CfgToken)) → AreAll text o → Reported text (expression_by o)
reported_by text None all = λ tree reads. all reads.tokens reads.all
reported_by text (Some tokens) all = by_test (accepts start tokens) refl
  where
    by_test : (t : Bool) → t ≡ accepts start tokens → Reported text
        (cond t (Some (record { tokens = kept tokens })) None)
    by_test true is = is_cfg text (Some tokens) tokens tokens (kept tokens) true all refl refl is refl refl
    by_test false is = is_none text (Some tokens) tokens tokens false all refl refl is refl

-- ---- the test

abbrev same_expressions : Option CfgExpr → Option CfgExpr → Bool
same_expressions None other = false
same_expressions (Some e) None = false
same_expressions (Some e) (Some f) = pointwise token_eq.eq e.tokens f.tokens

-- keys agree by equal texts or by equal expressions
pub agree_so : List ℕ → List ℕ → Bool
agree_so one other =
    same_text one other || same_expressions (expression_by (tokens_in one)) (expression_by (tokens_in other))

agree_by : (one other : List ℕ) (e f : Option CfgExpr) → one ≢ other → Reported one e → Reported other f
    → (IsTrue (same_expressions e f) → Agree one other) × (Agree one other → IsTrue (same_expressions e f))
agree_by one other None f differ first second = first_none one other differ first
agree_by one other (Some e) None differ first second = second_none one other differ second
agree_by one other (Some e) (Some f) differ first second =
    both_read one other e f (pointwise token_eq.eq e.tokens f.tokens) differ first second
    (tokens_equal e.tokens f.tokens (pointwise token_eq.eq e.tokens f.tokens) refl)

-- the test is true of exactly the keys that agree
pub reports_agreement : ReportsAgreement agree_so
unfolding agree_so
reports_agreement = record { at = λ one other. by_text one other (same_text one other) refl }
  where
    by_text : (one other : List ℕ) (t : Bool) → same_text one other ≡ t
        → (IsTrue (t || same_expressions (expression_by (tokens_in one)) (expression_by (tokens_in other)))
        → Agree one other)
        × (Agree one other
        → IsTrue (t || same_expressions (expression_by (tokens_in one)) (expression_by (tokens_in other))))
    by_text one other true is = (λ _. inl ((bytes_decides one other).0 is), λ _. refl)
    by_text one other false is = agree_by one other (expression_by (tokens_in one)) (expression_by (tokens_in other))
        (λ same. absurd (let both : true ≡ false = sym ((bytes_decides one other).1 same) ∙ is in cc both))
        (reported_by one (tokens_in one) (all_tokens one)) (reported_by other (tokens_in other) (all_tokens other))
