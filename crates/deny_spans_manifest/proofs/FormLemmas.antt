-- The forms of two target keys are equal exactly where the keys agree.
use Rattle.std.proofs.Common.{◌≡◌, ◌∷◌, [], ℕ, Bool, List, ap, codes, drop, false, inl, inr, map, refl, subst, sym}
use Rattle.std.proofs.Common.{true, ◌∙◌}
use Rattle.std.specs.Prelude.{if◌then◌else◌, nat_eq}
use Rattle.std.specs.List.{starts_with}
use Rattle.deny_spans_manifest.specs.private.Targets.{IsForm, key_word, word_of}
use Rattle.deny_spans_cfg_expr.proofs.SpellingLemmas.{key_same, reads_same}
use Rattle.deny_spans_cfg_expr.specs.Expression.{key_spelled}
use Rattle.deny_spans_cfg_expr.specs.Grammar.{Agree, ReadsAs, CfgTree}
use Rattle.deny_spans_cfg_expr.specs.declared.token.CfgToken.{CfgToken}
use Rattle.deny_spans_cfg_expr.specs.declared.token.CfgToken.TheVariants.{All, Any, Close, Comma, Equals, Name, Not, Open}
use Rattle.deny_spans_cfg_expr.specs.declared.token.CfgToken.TheVariants.{Quoted}

-- the token of a word, by its first byte
token_of : List ℕ → CfgToken
token_of [] = Close
token_of (b ∷ bytes) =
    if nat_eq b 119 then Name (drop 4 bytes)
    else (if nat_eq b 116 then Quoted (drop 4 bytes)
    else (if nat_eq b 97 then All
    else (if nat_eq b 101 then Any
    else (if nat_eq b 110 then Not
    else (if nat_eq b 61 then Equals
    else (if nat_eq b 44 then Comma
    else (if nat_eq b 40 then Open else Close)))))))

token_of-word : (a : CfgToken) → token_of (word_of a) ≡ a
unfolding token_of
token_of-word (Name w) = refl
token_of-word All = refl
token_of-word Any = refl
token_of-word Not = refl
token_of-word (Quoted t) = refl
token_of-word Equals = refl
token_of-word Comma = refl
token_of-word Open = refl
token_of-word Close = refl

words-exact : (a b : CfgToken) → word_of a ≡ word_of b → a ≡ b
words-exact a b e = sym (token_of-word a) ∙ (ap token_of e ∙ token_of-word b)

all_words-exact : (xs ys : List CfgToken) → map word_of xs ≡ map word_of ys → xs ≡ ys
all_words-exact [] [] e = refl
all_words-exact [] (y ∷ ys) e = absurd (cc e)
all_words-exact (x ∷ xs) [] e = absurd (cc e)
all_words-exact (x ∷ xs) (y ∷ ys) e =
    let head : word_of x ≡ word_of y = cc in
    let rest : map word_of xs ≡ map word_of ys = cc in
    let one : x ≡ y = words-exact x y head in
    let others : xs ≡ ys = all_words-exact xs ys rest in
    cc

-- no expression has the words of a whole key
begins_key : List (List ℕ) → Bool
begins_key [] = false
begins_key (word ∷ words) = starts_with nat_eq word (codes "k")

not_whole : (tree : CfgTree) (key : List ℕ) → map word_of (key_spelled tree) ≡ key_word key ∷ [] → ⊥
unfolding begins_key
not_whole tree key e = let both : false ≡ true = ap begins_key e in absurd (cc both)

same_trees : (a b : List ℕ) (t s : CfgTree) → a ≡ b → ReadsAs a t → ReadsAs b s → t ≡ s
same_trees a b t s e reads others = reads_same b t s (subst (λ (x : List ℕ). ReadsAs x t) e reads) others

-- keys with equal forms agree
pub agree_from : (a b : List ℕ) (f h : List (List ℕ)) → IsForm a f → IsForm b h → f ≡ h → Agree a b
agree_from a b f h (inl x) (inl y) e =
    let words : map word_of x.0.tokens ≡ map word_of y.0.tokens = sym x.2 ∙ (e ∙ y.2) in
    let tokens : x.0.tokens ≡ y.0.tokens = all_words-exact x.0.tokens y.0.tokens words in
    let trees : x.1.tree ≡ y.1.tree = key_same x.1.tree y.1.tree (sym x.1.is ∙ (tokens ∙ y.1.is)) in
    inr (x.1.tree, x.1.reads, subst (λ (t : CfgTree). ReadsAs b t) (sym trees) y.1.reads)
agree_from a b f h (inl x) (inr y) e =
    absurd (not_whole x.1.tree b (ap (map word_of) (sym x.1.is) ∙ (sym x.2 ∙ (e ∙ y.1))))
agree_from a b f h (inr x) (inl y) e =
    absurd (not_whole y.1.tree a (ap (map word_of) (sym y.1.is) ∙ (sym y.2 ∙ (sym e ∙ x.1))))
agree_from a b f h (inr x) (inr y) e =
    let words : key_word a ∷ [] ≡ key_word b ∷ [] = sym x.1 ∙ (e ∙ y.1) in
    let same : a ≡ b = cc in
    inl same

-- keys that agree have equal forms
pub same_forms : (a b : List ℕ) (f h : List (List ℕ)) → IsForm a f → IsForm b h → Agree a b → f ≡ h
same_forms a b f h (inl x) (inl y) (inl e) =
    let trees : x.1.tree ≡ y.1.tree = same_trees a b x.1.tree y.1.tree e x.1.reads y.1.reads in
    x.2 ∙ (ap (map word_of) (x.1.is ∙ (ap key_spelled trees ∙ sym y.1.is)) ∙ sym y.2)
same_forms a b f h (inl x) (inl y) (inr both) =
    let trees : x.1.tree ≡ y.1.tree = reads_same a x.1.tree both.0 x.1.reads both.1
    ∙ reads_same b both.0 y.1.tree both.2 y.1.reads in
    x.2 ∙ (ap (map word_of) (x.1.is ∙ (ap key_spelled trees ∙ sym y.1.is)) ∙ sym y.2)
same_forms a b f h (inl x) (inr y) (inl e) =
    absurd (y.0 x.1.tree (subst (λ (z : List ℕ). ReadsAs z x.1.tree) e x.1.reads))
same_forms a b f h (inl x) (inr y) (inr both) = absurd (y.0 both.0 both.2)
same_forms a b f h (inr x) (inl y) (inl e) =
    absurd (x.0 y.1.tree (subst (λ (z : List ℕ). ReadsAs z y.1.tree) (sym e) y.1.reads))
same_forms a b f h (inr x) (inl y) (inr both) = absurd (x.0 both.0 both.1)
same_forms a b f h (inr x) (inr y) (inl e) = x.1 ∙ (ap (λ key. key_word key ∷ []) e ∙ sym y.1)
same_forms a b f h (inr x) (inr y) (inr both) = absurd (x.0 both.0 both.1)

-- agreement is symmetric and transitive
pub agree-sym : (a b : List ℕ) → Agree a b → Agree b a
agree-sym a b (inl e) = inl (sym e)
agree-sym a b (inr both) = inr (both.0, both.2, both.1)

pub agree-trans : (a b c : List ℕ) → Agree a b → Agree b c → Agree a c
agree-trans a b c (inl e) more = subst (λ (x : List ℕ). Agree x c) (sym e) more
agree-trans a b c (inr both) (inl e) = inr (both.0, both.1, subst (λ (x : List ℕ). ReadsAs x both.0) e both.2)
agree-trans a b c (inr both) (inr more) =
    let trees : more.0 ≡ both.0 = reads_same b more.0 both.0 more.1 both.2 in
    inr (both.0, both.1, subst (λ (t : CfgTree). ReadsAs c t) trees more.2)
