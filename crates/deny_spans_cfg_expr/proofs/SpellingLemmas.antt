-- The tokens without commas are those of the tree, and determine it.
use Rattle.std.proofs.Common.{◌≡◌, ℕ, List, [], ◌∷◌, ◌++◌, refl, sym, ◌∙◌, ap, subst, append_assoc, append-nil, codes}
use Rattle.std.specs.Prelude.{filter, not as no}
use Rattle.std.proofs.lemmas.List.Elements.{filter-append}
use Rattle.deny_spans_cfg_expr.specs.declared.token.CfgToken.{CfgToken}
use Rattle.deny_spans_cfg_expr.specs.declared.token.CfgToken.TheVariants as token
use Rattle.deny_spans_cfg_expr.specs.Grammar.{CfgTree, name, value, all, any, not, CfgTrees, none, then}
use Rattle.deny_spans_cfg_expr.specs.Grammar.{IsExpression, is_name}
use Rattle.deny_spans_cfg_expr.specs.Grammar.{is_value, is_all, is_any, is_not, AreArguments, no_more, last, comma}
use Rattle.deny_spans_cfg_expr.specs.Grammar.{IsCfg}
use Rattle.deny_spans_cfg_expr.specs.Grammar.{ReadsAs}
use Rattle.deny_spans_cfg_expr.specs.Expression.{spelled, each_spelled, key_spelled}
use Rattle.deny_spans_cfg_expr.specs.private.Tokens.{is_comma}
use Rattle.deny_spans_cfg_expr.proofs.TokenLemmas.{tokens_same}

abbrev pub kept : List CfgToken → List CfgToken
kept tokens = filter (λ t. no (is_comma t)) tokens

kept_enclosed : (tokens wanted : List CfgToken) → kept tokens ≡ wanted
    → kept (tokens ++ token.Close ∷ []) ≡ wanted ++ token.Close ∷ []
kept_enclosed tokens wanted e = filter-append (λ t. no (is_comma t)) tokens (token.Close ∷ [])
    ∙ ap (λ x. x ++ token.Close ∷ []) e

mutual
  kept_spelled : {tokens : List CfgToken} {tree : CfgTree} → IsExpression tokens tree → kept tokens ≡ spelled tree
  kept_spelled (is_name word) = refl
  kept_spelled (is_value word text) = refl
  kept_spelled (is_all tokens d) = ap (λ x. token.All ∷ token.Open ∷ x) (kept_enclosed tokens _ (kept_each d))
  kept_spelled (is_any tokens d) = ap (λ x. token.Any ∷ token.Open ∷ x) (kept_enclosed tokens _ (kept_each d))
  kept_spelled (is_not tokens d) = ap (λ x. token.Not ∷ token.Open ∷ x) (kept_enclosed tokens _ (kept_spelled d))

  kept_each : {tokens : List CfgToken} {trees : CfgTrees} → AreArguments tokens trees → kept tokens ≡ each_spelled trees
  kept_each no_more = refl
  kept_each (last tokens {tree = tree} d) = kept_spelled d ∙ sym (append-nil (spelled tree))
  kept_each (comma tokens more {tree = tree} {trees = trees} d ds) =
      filter-append (λ t. no (is_comma t)) tokens (token.Comma ∷ more)
      ∙ (ap (λ x. x ++ kept more) (kept_spelled d) ∙ ap (λ x. spelled tree ++ x) (kept_each ds))

-- the tokens of a key, without the commas
pub key_kept : (tokens : List CfgToken) (tree : CfgTree) → IsCfg tokens tree → kept tokens ≡ key_spelled tree
key_kept tokens tree d = ap kept d.around
    ∙ ap (λ x. token.Name (codes "cfg") ∷ token.Open ∷ x) (kept_enclosed d.inner _ (kept_spelled d.expression))

-- ---- trees with equal tokens are equal

-- the tokens do not begin with `=`, so that a name before them is whole
data Ends : List CfgToken → Type 0 where
  at_close : (rest : List CfgToken) → Ends (token.Close ∷ rest)
  at_name : (word : List ℕ) (rest : List CfgToken) → Ends (token.Name word ∷ rest)
  at_all : (rest : List CfgToken) → Ends (token.All ∷ rest)
  at_any : (rest : List CfgToken) → Ends (token.Any ∷ rest)
  at_not : (rest : List CfgToken) → Ends (token.Not ∷ rest)

no_equals : {xs : List CfgToken} (rest : List CfgToken) → Ends xs → xs ≡ token.Equals ∷ rest → ⊥
no_equals rest (at_close r) e = cc
no_equals rest (at_name word r) e = cc
no_equals rest (at_all r) e = cc
no_equals rest (at_any r) e = cc
no_equals rest (at_not r) e = cc

tree_ends : (tree : CfgTree) (rest : List CfgToken) → Ends (spelled tree ++ rest)
tree_ends (name word) rest = at_name word rest
tree_ends (value word text) rest = at_name word (token.Equals ∷ token.Quoted text ∷ rest)
tree_ends (all trees) rest = at_all (token.Open ∷ ((each_spelled trees ++ token.Close ∷ []) ++ rest))
tree_ends (any trees) rest = at_any (token.Open ∷ ((each_spelled trees ++ token.Close ∷ []) ++ rest))
tree_ends (not tree) rest = at_not (token.Open ∷ ((spelled tree ++ token.Close ∷ []) ++ rest))

each_ends : (trees : CfgTrees) (rest : List CfgToken) → Ends (each_spelled trees ++ token.Close ∷ rest)
each_ends none rest = at_close rest
each_ends (then tree trees) rest = let P : List CfgToken → Type 0 = λ x. Ends x in
    subst P (sym (append_assoc (spelled tree) (each_spelled trees) (token.Close ∷ rest)))
    (tree_ends tree (each_spelled trees ++ token.Close ∷ rest))

-- no expression begins with `)`
not_close : (tree : CfgTree) (rest more : List CfgToken) → spelled tree ++ rest ≡ token.Close ∷ more → ⊥
not_close (name word) rest more e = cc
not_close (value word text) rest more e = cc
not_close (all trees) rest more e = cc
not_close (any trees) rest more e = cc
not_close (not tree) rest more e = cc

-- the tokens inside a parenthesis, from equal tokens
inside : (a b : CfgToken) (xs ys x y : List CfgToken)
    → a ∷ token.Open ∷ ((xs ++ token.Close ∷ []) ++ x) ≡ b ∷ token.Open ∷ ((ys ++ token.Close ∷ []) ++ y)
    → xs ++ token.Close ∷ x ≡ ys ++ token.Close ∷ y
inside a b xs ys x y e =
    let same : (xs ++ token.Close ∷ []) ++ x ≡ (ys ++ token.Close ∷ []) ++ y = cc in
    sym (append_assoc xs (token.Close ∷ []) x) ∙ (same ∙ append_assoc ys (token.Close ∷ []) y)

mutual
  one_tree : (t s : CfgTree) (x y : List CfgToken) → Ends x → Ends y → spelled t ++ x ≡ spelled s ++ y
      → (t ≡ s) × (x ≡ y)
  one_tree (name v) (name w) x y f g e = let same : v ≡ w = cc in (ap name same, cc)
  one_tree (name v) (value w text) x y f g e = let same : x ≡ token.Equals ∷ token.Quoted text ∷ y = cc in
      absurd (no_equals _ f same)
  one_tree (value v text) (name w) x y f g e = let same : y ≡ token.Equals ∷ token.Quoted text ∷ x = cc in
      absurd (no_equals _ g same)
  one_tree (value v u) (value w u') x y f g e =
      let first : v ≡ w = cc in
      let second : u ≡ u' = cc in
      (ap (λ z. value z u) first ∙ ap (value w) second, cc)
  one_tree (all ts) (all ss) x y f g e =
      let h = several_trees ts ss x y (inside token.All token.All (each_spelled ts) (each_spelled ss) x y e) in
      (ap all h.0, h.1)
  one_tree (any ts) (any ss) x y f g e =
      let h = several_trees ts ss x y (inside token.Any token.Any (each_spelled ts) (each_spelled ss) x y e) in
      (ap any h.0, h.1)
  one_tree (not t) (not s) x y f g e =
      let h = one_tree t s (token.Close ∷ x) (token.Close ∷ y) (at_close x) (at_close y)
      (inside token.Not token.Not (spelled t) (spelled s) x y e) in
      (ap not h.0, cc (h.1))
  one_tree t s x y f g e = absurd (cc e)

  several_trees : (ts ss : CfgTrees) (x y : List CfgToken)
      → each_spelled ts ++ token.Close ∷ x ≡ each_spelled ss ++ token.Close ∷ y → (ts ≡ ss) × (x ≡ y)
  several_trees none none x y e = (refl, cc)
  several_trees none (then s ss) x y e =
      absurd (not_close s _ x (sym (append_assoc (spelled s) (each_spelled ss) (token.Close ∷ y)) ∙ sym e))
  several_trees (then t ts) none x y e =
      absurd (not_close t _ y (sym (append_assoc (spelled t) (each_spelled ts) (token.Close ∷ x)) ∙ e))
  several_trees (then t ts) (then s ss) x y e =
      let h = one_tree t s (each_spelled ts ++ token.Close ∷ x) (each_spelled ss ++ token.Close ∷ y)
      (each_ends ts x) (each_ends ss y)
      (sym (append_assoc (spelled t) (each_spelled ts) (token.Close ∷ x))
      ∙ (e ∙ append_assoc (spelled s) (each_spelled ss) (token.Close ∷ y))) in
      let more = several_trees ts ss x y h.1 in
      (ap (λ z. then z ts) h.0 ∙ ap (then s) more.0, more.1)

-- equal tokens have equal trees
pub key_same : (t s : CfgTree) → key_spelled t ≡ key_spelled s → t ≡ s
key_same t s e =
    let same : spelled t ++ token.Close ∷ [] ≡ spelled s ++ token.Close ∷ [] = cc in
    (one_tree t s (token.Close ∷ []) (token.Close ∷ []) (at_close []) (at_close []) same).0

-- a text reads as one tree at most
pub reads_same : (text : List ℕ) (t s : CfgTree) → ReadsAs text t → ReadsAs text s → t ≡ s
reads_same text t s d h = key_same t s
    (sym (key_kept d.tokens t d.spelled)
    ∙ (ap kept (tokens_same h.tokens d.all h.all) ∙ key_kept h.tokens s h.spelled))
