-- What a policy says of licences: which every crate may ask for, and which some crates may ask for besides.
use Rattle.std.specs.Prelude.{ℕ, Bool, List}
use Rattle.deny_base.specs.declared.level.LintLevel.{LintLevel}
use Rattle.deny_base.specs.declared.span.Spanned.{Spanned}
use Rattle.deny_spdx.specs.declared.requirement.Requirement.{Requirement}
use Rattle.deny_spec.specs.Policy.{Spec}

-- what the crates of a spec may ask for
pub record Exception : Type 0 where
  pub spec : Spec
  pub allow : List (Spanned Requirement)

-- the spans of allowed licences and of exceptions identify them
pub record Licensing : Type 0 where
  pub allow : List (Spanned Requirement)
  pub exceptions : List Exception
  -- whether crates are passed over that may be published to these registries alone
  pub ignores_private : Bool
  pub registries : List (List ℕ)
  -- whether crates count that only dev edges lead to
  pub include_dev : Bool
  -- the level of a licence that every crate may ask for and none does
  pub unused_allowed : LintLevel
