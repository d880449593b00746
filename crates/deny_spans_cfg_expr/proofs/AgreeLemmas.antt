-- The expression that a text is read as, and when two texts agree.
use Rattle.std.proofs.Common.{◌≡◌, ◌≢◌, inl, inr, ℕ, Bool, true, false, List, Option, Some, None, refl, sym, ◌∙◌, ap}
use Rattle.std.proofs.Common.{subst}
use Rattle.std.specs.Prelude.{IsTrue, MatchOption}
use Rattle.std.specs.Bool.{Decides}
use Rattle.std.specs.Cmp.Lexicographic.{pointwise}
use Rattle.std.proofs.lemmas.Bool.Decides.{Decides-like}
use Rattle.std.proofs.lemmas.Slice.Eq.{bytes_eq-Decides, slice_eq-Decides}
use Rattle.deny_spans_cfg_expr.specs.contracts.token.CfgTokenPartialEq.TheImpl.{ghosts as token_eq}
use Rattle.deny_spans_cfg_expr.specs.declared.token.CfgToken.{CfgToken}
use Rattle.deny_spans_cfg_expr.specs.declared.token.CfgToken.TheVariants.{Name, All, Any, Not, Quoted, Equals}
use Rattle.deny_spans_cfg_expr.specs.declared.token.CfgToken.TheVariants.{Comma, Open, Close}
use Rattle.deny_spans_cfg_expr.specs.declared.expression.CfgExpr.{CfgExpr}
use Rattle.deny_spans_cfg_expr.specs.Grammar.{CfgTree, IsCfg, ReadsAs, Agree}
use Rattle.deny_spans_cfg_expr.specs.Expression.{key_spelled, IsCfgOf, IsNone}
use Rattle.deny_spans_cfg_expr.specs.private.Tokens.{AreAll}
use Rattle.deny_spans_cfg_expr.specs.private.Reader.{start, accepts}
use Rattle.deny_spans_cfg_expr.proofs.TokenLemmas.{tokens_same}
use Rattle.deny_spans_cfg_expr.proofs.ReaderLemmas.{cfg_accepted, accepted_cfg}
use Rattle.deny_spans_cfg_expr.proofs.SpellingLemmas.{kept, key_kept, key_same, reads_same}

name_decides : (v w : List ℕ) → Decides (token_eq.eq (Name v) (Name w)) (Name v ≡ Name w)
name_decides v w = Decides-like _ (λ e. ap Name e) (λ e. cc) (bytes_eq-Decides v w)

quoted_decides : (v w : List ℕ) → Decides (token_eq.eq (Quoted v) (Quoted w)) (Quoted v ≡ Quoted w)
quoted_decides v w = Decides-like _ (λ e. ap Quoted e) (λ e. cc) (bytes_eq-Decides v w)

untrue : {A : Type 0} → IsTrue false → A
untrue e = absurd (cc e)

-- (unequal kinds of tokens are refuted by computation: a proof for each pair takes minutes)
equal_same : (a b : CfgToken) → IsTrue (token_eq.eq a b) → a ≡ b
equal_same (Name v) (Name w) = (name_decides v w).0
equal_same All All = λ e. refl
equal_same Any Any = λ e. refl
equal_same Not Not = λ e. refl
equal_same (Quoted v) (Quoted w) = (quoted_decides v w).0
equal_same Equals Equals = λ e. refl
equal_same Comma Comma = λ e. refl
equal_same Open Open = λ e. refl
equal_same Close Close = λ e. refl
equal_same a b = λ e. untrue e

equal_self : (a : CfgToken) → IsTrue (token_eq.eq a a)
equal_self (Name v) = (name_decides v v).1 refl
equal_self (Quoted v) = (quoted_decides v v).1 refl
equal_self a = refl

token_decides : (a b : CfgToken) → Decides (token_eq.eq a b) (a ≡ b)
token_decides a b = let P : CfgToken → Type 0 = λ x. IsTrue (token_eq.eq a x) in
    (equal_same a b, λ e. subst P e (equal_self a))

-- the result of `==` on two lists of tokens
pub tokens_equal : (xs ys : List CfgToken) (r : Bool) → r ≡ pointwise token_eq.eq xs ys
    → (IsTrue r → xs ≡ ys) × (xs ≡ ys → IsTrue r)
tokens_equal xs ys r e = slice_eq-Decides token_decides xs ys r e

-- tokens that are not accepted
pub is_none : (text : List ℕ) (found : Option (List CfgToken)) (tokens slice : List CfgToken) (r : Bool)
    → AreAll text found → found ≡ Some tokens → slice ≡ tokens → r ≡ accepts start slice → r ≡ false → IsNone text
is_none text found tokens slice r d e f g h = λ tree reads.
    let P : Option (List CfgToken) → Type 0 = λ x. AreAll text x in
    let same : reads.tokens ≡ tokens = tokens_same tokens reads.all (subst P e d) in
    let accepted : accepts start tokens ≡ true =
    ap (accepts start) (sym same) ∙ cfg_accepted reads.tokens tree reads.spelled in
    let both : false ≡ true = sym h ∙ (g ∙ (ap (accepts start) f ∙ accepted)) in absurd (cc both)

-- tokens that are accepted
pub is_cfg : (text : List ℕ) (found : Option (List CfgToken)) (tokens slice left : List CfgToken) (r : Bool)
    → AreAll text found → found ≡ Some tokens → slice ≡ tokens → r ≡ accepts start slice → r ≡ true
    → left ≡ kept tokens → IsCfgOf text (record { tokens = left })
is_cfg text found tokens slice left r d e f g h k =
    let P : Option (List CfgToken) → Type 0 = λ x. AreAll text x in
    let spelled : (tree : CfgTree) × IsCfg tokens tree =
    accepted_cfg tokens (ap (accepts start) (sym f) ∙ (sym g ∙ h)) in
    record {
      tree = spelled.0;
      reads = record { tokens = tokens; all = subst P e d; spelled = spelled.1 };
      is = k ∙ key_kept tokens spelled.0 spelled.1;
    }

pub none_of : (text : List ℕ) (found : Option CfgExpr) → MatchOption found (IsNone text) (IsCfgOf text)
    → found ≡ None → IsNone text
none_of text found d e = let P : Option CfgExpr → Type 0 = λ x. MatchOption x (IsNone text) (IsCfgOf text) in
    subst P e d

pub some_of : (text : List ℕ) (found : Option CfgExpr) (read : CfgExpr)
    → MatchOption found (IsNone text) (IsCfgOf text) → found ≡ Some read → IsCfgOf text read
some_of text found read d e = let P : Option CfgExpr → Type 0 = λ x. MatchOption x (IsNone text) (IsCfgOf text) in
    subst P e d

-- one of the two texts is no expression
pub first_none : (one other : List ℕ) → one ≢ other → IsNone one
    → (IsTrue false → Agree one other) × (Agree one other → IsTrue false)
first_none one other differ none = (
  λ h. absurd (cc h),
  λ a. elim a [ inl e ↦ absurd (differ e) | inr h ↦ absurd (none h.0 h.1) ],
)

pub second_none : (one other : List ℕ) → one ≢ other → IsNone other
    → (IsTrue false → Agree one other) × (Agree one other → IsTrue false)
second_none one other differ none = (
  λ h. absurd (cc h),
  λ a. elim a [ inl e ↦ absurd (differ e) | inr h ↦ absurd (none h.0 h.2) ],
)

-- both texts are expressions
pub both_read : (one other : List ℕ) (first second : CfgExpr) (r : Bool) → one ≢ other → IsCfgOf one first
    → IsCfgOf other second
    → (IsTrue r → first.tokens ≡ second.tokens) × (first.tokens ≡ second.tokens → IsTrue r)
    → (IsTrue r → Agree one other) × (Agree one other → IsTrue r)
both_read one other first second r differ f s same = (
  λ h. inr (
    f.tree,
    f.reads,
    (let trees : f.tree ≡ s.tree = key_same f.tree s.tree (sym f.is ∙ (same.0 h ∙ s.is)) in
        let P : CfgTree → Type 0 = λ x. ReadsAs other x in subst P (sym trees) s.reads),
  ),
  λ a. elim a [
    | inl e ↦ absurd (differ e)
    | inr h ↦ same.1 (f.is ∙ (ap key_spelled (reads_same one f.tree h.0 f.reads h.1
        ∙ reads_same other h.0 s.tree h.2 s.reads) ∙ sym s.is))
  ],
)
