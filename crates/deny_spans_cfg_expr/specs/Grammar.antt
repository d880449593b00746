-- The grammar of the `cfg(..)` expressions that name the targets of a dependency, and when two keys agree.
use Rattle.std.specs.Prelude.{◌≡◌, ◌⊎◌, ℕ, List, [], ◌∷◌, ◌++◌, codes}
use Rattle.deny_spans_cfg_expr.specs.declared.token.CfgToken.{CfgToken}
use Rattle.deny_spans_cfg_expr.specs.declared.token.CfgToken.TheVariants as token
use Rattle.deny_spans_cfg_expr.specs.Tokens.{HasTokens}

mutual
  -- the condition of an expression on a target
  pub data CfgTree : Type 0 where
    name : List ℕ → CfgTree
    value : List ℕ → List ℕ → CfgTree
    all : CfgTrees → CfgTree
    any : CfgTrees → CfgTree
    not : CfgTree → CfgTree

  -- several expressions in order
  pub data CfgTrees : Type 0 where
    none : CfgTrees
    then : CfgTree → CfgTrees → CfgTrees

mutual
  -- the tokens spell the expression
  pub data IsExpression : List CfgToken → CfgTree → Type 0 where
    -- `unix`
    is_name : (word : List ℕ) → IsExpression (token.Name word ∷ []) (name word)
    -- `feature = "std"`
    is_value : (word text : List ℕ)
        → IsExpression (token.Name word ∷ token.Equals ∷ token.Quoted text ∷ []) (value word text)
    is_all : (tokens : List CfgToken) {trees : CfgTrees} → AreArguments tokens trees
        → IsExpression (token.All ∷ token.Open ∷ (tokens ++ token.Close ∷ [])) (all trees)
    is_any : (tokens : List CfgToken) {trees : CfgTrees} → AreArguments tokens trees
        → IsExpression (token.Any ∷ token.Open ∷ (tokens ++ token.Close ∷ [])) (any trees)
    -- `not` has one argument, and no comma
    is_not : (tokens : List CfgToken) {tree : CfgTree} → IsExpression tokens tree
        → IsExpression (token.Not ∷ token.Open ∷ (tokens ++ token.Close ∷ [])) (not tree)

  -- expressions, or none, with a comma between them, and an optional one after the last
  pub data AreArguments : List CfgToken → CfgTrees → Type 0 where
    no_more : AreArguments [] none
    last : (tokens : List CfgToken) {tree : CfgTree} → IsExpression tokens tree → AreArguments tokens (then tree none)
    comma : (tokens more : List CfgToken) {tree : CfgTree} {trees : CfgTrees} → IsExpression tokens tree
        → AreArguments more trees → AreArguments (tokens ++ token.Comma ∷ more) (then tree trees)

-- The tokens are `cfg(..)` around an expression.
pub record IsCfg (tokens : List CfgToken) (tree : CfgTree) : Type 0 where
  pub inner : List CfgToken
  pub expression : IsExpression inner tree
  pub around : tokens ≡ token.Name (codes "cfg") ∷ token.Open ∷ (inner ++ token.Close ∷ [])

-- The text is read as `cfg(..)` with this tree.
pub record ReadsAs (text : List ℕ) (tree : CfgTree) : Type 0 where
  pub tokens : List CfgToken
  pub all : HasTokens text tokens
  pub spelled : IsCfg tokens tree

-- two keys agree: the texts are equal, or both are read as `cfg(..)` with equal trees
abbrev pub Agree : List ℕ → List ℕ → Type 0
Agree one other = (one ≡ other) ⊎ ((tree : CfgTree) × ReadsAs one tree × ReadsAs other tree)
