-- The grammar of expressions: the requirements and the tree that a list of tokens spells.
use Rattle.std.specs.Prelude.{◌≡◌, ◌+◌, ℕ, suc, List, [], ◌∷◌, ◌++◌, length, Some, None}
use Rattle.deny_spdx.specs.declared.token.SpdxToken.{SpdxToken}
use Rattle.deny_spdx.specs.declared.token.SpdxToken.TheVariants.{Word, And, Or, With, Open, Close}
use Rattle.deny_spdx.specs.declared.requirement.Requirement.{Requirement}
use Rattle.deny_spdx.specs.declared.expression.Expression.{Expression}
use Rattle.deny_spdx.specs.declared.expression.Tree.{Tree}
use Rattle.deny_spdx.specs.declared.expression.Tree.TheVariants as tree

-- a word, or word WITH word
pub data IsRequirement : List SpdxToken → Requirement → Type 0 where
  plain : (id : List ℕ) → IsRequirement (Word id ∷ []) (record { id = id; exception = None })
  excepted : (id exception : List ℕ)
      → IsRequirement (Word id ∷ With ∷ Word exception ∷ []) (record { id = id; exception = Some exception })

-- the tree of parts of which all, or one, must hold; a single part is the tree itself
abbrev pub all_of : List Tree → Tree
all_of [] = tree.All []
all_of (t ∷ []) = t
all_of (t ∷ s ∷ more) = tree.All (t ∷ s ∷ more)

abbrev pub any_of : List Tree → Tree
any_of [] = tree.Any []
any_of (t ∷ []) = t
any_of (t ∷ s ∷ more) = tree.Any (t ∷ s ∷ more)

-- Each of the three takes the nesting that is left, the number of requirements before, the tokens, their requirements
-- in order, and the tree or the trees.
mutual
  -- a requirement, or an expression in parentheses
  pub data IsUnit : ℕ → ℕ → List SpdxToken → List Requirement → Tree → Type 0 where
    requirement : {nesting before : ℕ} {tokens : List SpdxToken} {r : Requirement} → IsRequirement tokens r
        → IsUnit nesting before tokens (r ∷ []) (tree.Requirement before)
    group : {nesting before : ℕ} (tokens : List SpdxToken) {rs : List Requirement} (alternatives : List Tree)
        → IsOr nesting before tokens rs alternatives
        → IsUnit (suc nesting) before (Open ∷ (tokens ++ Close ∷ [])) rs (any_of alternatives)

  -- units with AND between them
  pub data IsAnd : ℕ → ℕ → List SpdxToken → List Requirement → List Tree → Type 0 where
    unit : {nesting before : ℕ} {tokens : List SpdxToken} {rs : List Requirement} {t : Tree}
        → IsUnit nesting before tokens rs t → IsAnd nesting before tokens rs (t ∷ [])
    and : {nesting before : ℕ} (tokens more : List SpdxToken) (rs ss : List Requirement) (parts : List Tree) (t : Tree)
        → IsAnd nesting before tokens rs parts → IsUnit nesting (before + length rs) more ss t
        → IsAnd nesting before (tokens ++ And ∷ more) (rs ++ ss) (parts ++ t ∷ [])

  -- lists of units with OR between them, so that AND binds closer
  pub data IsOr : ℕ → ℕ → List SpdxToken → List Requirement → List Tree → Type 0 where
    alternative : {nesting before : ℕ} {tokens : List SpdxToken} {rs : List Requirement} (parts : List Tree)
        → IsAnd nesting before tokens rs parts → IsOr nesting before tokens rs (all_of parts ∷ [])
    or : {nesting before : ℕ} (tokens more : List SpdxToken) (rs ss : List Requirement) (alternatives parts : List Tree)
        → IsOr nesting before tokens rs alternatives → IsAnd nesting (before + length rs) more ss parts
        → IsOr nesting before (tokens ++ Or ∷ more) (rs ++ ss) (alternatives ++ all_of parts ∷ [])

-- The tokens spell the expression, whose parentheses nest to 64.
pub record IsExpression (tokens : List SpdxToken) (e : Expression) : Type 0 where
  pub alternatives : List Tree
  pub spelled : IsOr 64 0 tokens e.requirements alternatives
  pub tree : e.tree ≡ any_of alternatives
