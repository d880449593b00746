-- The tokens that are read of a text.
use Rattle.std.specs.Prelude.{◌≡◌, Bool, true, false, ℕ, List, ◌++◌, Option, Some, None}
use Rattle.deny_spans_cfg_expr.specs.declared.token.CfgToken.{CfgToken}
use Rattle.deny_spans_cfg_expr.specs.declared.token.CfgToken.TheVariants.{Name, All, Any, Not, Quoted, Equals}
use Rattle.deny_spans_cfg_expr.specs.declared.token.CfgToken.TheVariants.{Comma, Open, Close}
use Rattle.deny_spans_cfg_expr.specs.Tokens.{HasTokens}

-- the tokens of the text, or none where it has none
abbrev pub AreAll : List ℕ → Option (List CfgToken) → Type 0
AreAll text (Some tokens) = HasTokens text tokens
AreAll text None = (tokens : List CfgToken) → HasTokens text tokens → ⊥

-- The tokens before the rest, whatever tokens the rest has.
pub record IsReadTo (text rest : List ℕ) (tokens : List CfgToken) : Type 0 where
  pub whole : (more : List CfgToken) → HasTokens rest more → HasTokens text (tokens ++ more)
  pub back : (all : List CfgToken) → HasTokens text all
      → (more : List CfgToken) × HasTokens rest more × (all ≡ tokens ++ more)

abbrev pub is_comma : CfgToken → Bool
is_comma (Name _) = false
is_comma All = false
is_comma Any = false
is_comma Not = false
is_comma (Quoted _) = false
is_comma Equals = false
is_comma Comma = true
is_comma Open = false
is_comma Close = false
