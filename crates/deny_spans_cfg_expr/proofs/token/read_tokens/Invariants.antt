use Rattle.std.proofs.Common.{length}
use denote.Text.{Utf8}
use denote.Shadow.{shadow}
use Rattle.deny_spans_cfg_expr.specs.private.Tokens.{IsReadTo}
use Rattle.deny_spans_cfg_expr.proofs.token.read_tokens.Given as goal

abbrev pub invariant-loop-here : goal.invariant-loop-here
invariant-loop-here l = shadow (Utf8 l.rest) × IsReadTo l.text l.rest l.tokens

abbrev pub decreases-loop-here : goal.decreases-loop-here
decreases-loop-here l = length l.rest
