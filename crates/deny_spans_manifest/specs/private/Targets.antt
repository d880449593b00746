-- The target keys of a manifest, by numbers.
use Rattle.std.specs.Prelude.{ℕ, ◌≡◌, ◌++◌, ◌∷◌, ◌⊎◌, [], Bool, List, codes, length, map, unwrap_or}
use Rattle.std.specs.List.{position_from}
use Rattle.std.specs.Cmp.Lexicographic.{slice_cmp}
use Rattle.std.specs.Ordering.{nat_cmp}
use Rattle.std.specs.declared.cmp.Ordering.{Ordering}
use Rattle.deny_spans_manifest.specs.Agreement.{ReportsAgreement}
use Rattle.deny_spans_manifest.specs.declared.targets.Targets.{Targets}
use Rattle.deny_spans_manifest.specs.private.Firsts.{first_at}
use Rattle.deny_spans_cfg_expr.specs.Expression.{IsCfgOf, IsNone}
use Rattle.deny_spans_cfg_expr.specs.declared.expression.CfgExpr.{CfgExpr}
use Rattle.deny_spans_cfg_expr.specs.declared.token.CfgToken.{CfgToken}
use Rattle.deny_spans_cfg_expr.specs.declared.token.CfgToken.TheVariants.{All, Any, Close, Comma, Equals, Name, Not, Open}
use Rattle.deny_spans_cfg_expr.specs.declared.token.CfgToken.TheVariants.{Quoted}

-- a token as a word; no two tokens have the same word
abbrev pub word_of : CfgToken → List ℕ
word_of (Name word) = codes "word " ++ word
word_of (Quoted text) = codes "text " ++ text
word_of All = codes "all"
word_of Any = codes "either"
word_of Not = codes "not"
word_of Equals = codes "="
word_of Comma = codes ","
word_of Open = codes "("
word_of Close = codes ")"

-- a whole key as a word, which no token has
abbrev pub key_word : List ℕ → List ℕ
key_word key = codes "key " ++ key

-- the form of a target key: the words of the tokens of its expression, or the key itself where it is no expression
abbrev pub IsForm : List ℕ → List (List ℕ) → Type 0
IsForm key form = ((e : CfgExpr) × IsCfgOf key e × (form ≡ map word_of e.tokens))
    ⊎ (IsNone key × (form ≡ key_word key ∷ []))

abbrev pub form_cmp : List (List ℕ) → List (List ℕ) → Ordering
form_cmp = slice_cmp (slice_cmp nat_cmp)

-- the index of the first key that agrees with a key, or the count of keys where none does
unfoldable pub number_of : (List ℕ → List ℕ → Bool) → List (List ℕ) → List ℕ → ℕ
number_of agrees keys key = unwrap_or (position_from (λ other. agrees other key) 0 keys) (length keys)

-- a lookup of a form finds the index of the first key that agrees with the keys of that form
pub record NumbersTargets (keys : List (List ℕ)) (targets : Targets) : Type 0 where
  pub count : targets.count ≡ length keys
  pub numbers : (agrees : List ℕ → List ℕ → Bool) → ReportsAgreement agrees → (key : List ℕ) (form : List (List ℕ))
      → IsForm key form → first_at form_cmp targets.numbers form ≡ position_from (λ other. agrees other key) 0 keys
