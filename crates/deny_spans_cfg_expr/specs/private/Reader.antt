-- The reader after each token.
use Rattle.std.specs.Prelude.{◌&&◌, ◌∷◌, nat_eq, Bool, true, false, if◌then◌else◌, List, [], Option, Some, None, codes}
use Rattle.std.specs.Cmp.Lexicographic.{pointwise}
use Rattle.deny_spans_cfg_expr.specs.declared.token.CfgToken.{CfgToken}
use Rattle.deny_spans_cfg_expr.specs.declared.token.CfgToken.TheVariants.{Name, All, Any, Not, Quoted, Equals}
use Rattle.deny_spans_cfg_expr.specs.declared.token.CfgToken.TheVariants.{Comma, Open, Close}
use Rattle.deny_spans_cfg_expr.specs.declared.reader.Holder.{Holder}
use Rattle.deny_spans_cfg_expr.specs.declared.reader.Holder.TheVariants.{One, Several}
use Rattle.deny_spans_cfg_expr.specs.declared.reader.CfgPhase.{CfgPhase}
use Rattle.deny_spans_cfg_expr.specs.declared.reader.CfgPhase.TheVariants as phase
use Rattle.deny_spans_cfg_expr.specs.declared.reader.CfgReader.{CfgReader}

abbrev pub reader : List Holder → CfgPhase → CfgReader
reader brackets phase = record { brackets = brackets; phase = phase }

-- the reader before the first token
abbrev pub start : CfgReader
start = reader [] phase.Key

-- the key begins with the word `cfg`
unfoldable pub at_key : List Holder → CfgToken → Option CfgReader
at_key brackets (Name word) =
    if pointwise nat_eq word (codes "cfg") then Some (reader brackets (phase.Head One)) else None
at_key brackets _ = None

-- the phase after an open parenthesis
abbrev pub inside : Holder → CfgPhase
inside One = phase.Expression
inside Several = phase.Argument

unfoldable pub at_head : List Holder → Holder → CfgToken → Option CfgReader
at_head brackets holder Open = Some (reader (holder ∷ brackets) (inside holder))
at_head brackets holder _ = None

unfoldable pub at_expression : List Holder → CfgToken → Option CfgReader
at_expression brackets (Name word) = Some (reader brackets phase.Name)
at_expression brackets All = Some (reader brackets (phase.Head Several))
at_expression brackets Any = Some (reader brackets (phase.Head Several))
at_expression brackets Not = Some (reader brackets (phase.Head One))
at_expression brackets _ = None

-- the innermost parenthesis is closed
unfoldable pub closed : List Holder → Option CfgReader
closed [] = None
closed (holder ∷ brackets) = Some (reader brackets phase.Whole)

unfoldable pub at_argument : List Holder → CfgToken → Option CfgReader
at_argument brackets Close = closed brackets
at_argument brackets (Name word) = at_expression brackets (Name word)
at_argument brackets All = at_expression brackets All
at_argument brackets Any = at_expression brackets Any
at_argument brackets Not = at_expression brackets Not
at_argument brackets _ = None

-- a comma may come where several expressions may
unfoldable pub next_argument : List Holder → Option CfgReader
next_argument [] = None
next_argument (One ∷ brackets) = None
next_argument (Several ∷ brackets) = Some (reader (Several ∷ brackets) phase.Argument)

unfoldable pub at_whole : List Holder → CfgToken → Option CfgReader
at_whole brackets Comma = next_argument brackets
at_whole brackets Close = closed brackets
at_whole brackets _ = None

unfoldable pub at_name : List Holder → CfgToken → Option CfgReader
at_name brackets Equals = Some (reader brackets phase.Value)
at_name brackets Comma = next_argument brackets
at_name brackets Close = closed brackets
at_name brackets _ = None

unfoldable pub at_value : List Holder → CfgToken → Option CfgReader
at_value brackets (Quoted text) = Some (reader brackets phase.Whole)
at_value brackets _ = None

abbrev pub step_at : CfgPhase → List Holder → CfgToken → Option CfgReader
step_at phase.Key brackets token = at_key brackets token
step_at (phase.Head holder) brackets token = at_head brackets holder token
step_at phase.Expression brackets token = at_expression brackets token
step_at phase.Argument brackets token = at_argument brackets token
step_at phase.Name brackets token = at_name brackets token
step_at phase.Value brackets token = at_value brackets token
step_at phase.Whole brackets token = at_whole brackets token

unfoldable pub step : CfgReader → CfgToken → Option CfgReader
step r token = step_at r.phase r.brackets token

abbrev pub is_whole : CfgPhase → Bool
is_whole phase.Key = false
is_whole (phase.Head holder) = false
is_whole phase.Expression = false
is_whole phase.Argument = false
is_whole phase.Name = false
is_whole phase.Value = false
is_whole phase.Whole = true

abbrev pub is_empty : List Holder → Bool
is_empty [] = true
is_empty (holder ∷ brackets) = false

-- a whole expression has come, and no parenthesis is open
abbrev pub is_done : CfgReader → Bool
is_done r = is_whole r.phase && is_empty r.brackets

abbrev pub if_some : (CfgReader → Bool) → Option CfgReader → Bool
if_some goes_on None = false
if_some goes_on (Some r) = goes_on r

-- each token may come where it is, and the reader is done after all of them
abbrev pub accepts : CfgReader → List CfgToken → Bool
accepts r [] = is_done r
accepts r (token ∷ tokens) = if_some (λ after. accepts after tokens) (step r token)
