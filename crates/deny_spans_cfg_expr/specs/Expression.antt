-- The tokens of a tree without commas, so that equal trees have equal lists.
use Rattle.std.specs.Prelude.{◌≡◌, ℕ, List, [], ◌∷◌, ◌++◌, codes}
use Rattle.deny_spans_cfg_expr.specs.declared.token.CfgToken.{CfgToken}
use Rattle.deny_spans_cfg_expr.specs.declared.token.CfgToken.TheVariants as token
use Rattle.deny_spans_cfg_expr.specs.declared.expression.CfgExpr.{CfgExpr}
use Rattle.deny_spans_cfg_expr.specs.Grammar.{CfgTree, name, value, all, any, not, CfgTrees, none, then, ReadsAs}

abbrev mutual
  pub spelled : CfgTree → List CfgToken
  spelled (name word) = token.Name word ∷ []
  spelled (value word text) = token.Name word ∷ token.Equals ∷ token.Quoted text ∷ []
  spelled (all trees) = token.All ∷ token.Open ∷ (each_spelled trees ++ token.Close ∷ [])
  spelled (any trees) = token.Any ∷ token.Open ∷ (each_spelled trees ++ token.Close ∷ [])
  spelled (not tree) = token.Not ∷ token.Open ∷ (spelled tree ++ token.Close ∷ [])

  pub each_spelled : CfgTrees → List CfgToken
  each_spelled none = []
  each_spelled (then tree trees) = spelled tree ++ each_spelled trees

-- the tokens of a whole key
abbrev pub key_spelled : CfgTree → List CfgToken
key_spelled tree = token.Name (codes "cfg") ∷ token.Open ∷ (spelled tree ++ token.Close ∷ [])

-- The text is read as the expression.
pub record IsCfgOf (text : List ℕ) (e : CfgExpr) : Type 0 where
  pub tree : CfgTree
  pub reads : ReadsAs text tree
  pub is : e.tokens ≡ key_spelled tree

-- the text is read as no expression
abbrev pub IsNone : List ℕ → Type 0
IsNone text = (tree : CfgTree) → ReadsAs text tree → ⊥
