use Rattle.std.proofs.Common.{◌≡◌, drop}
use Rattle.deny_spans_cfg_expr.specs.private.Reader.{start, accepts}
use Rattle.deny_spans_cfg_expr.proofs.reader.accepts.Given as goal

abbrev pub invariant-loop-token : goal.invariant-loop-token
invariant-loop-token l = accepts l.reader (drop l.token-index l.tokens) ≡ accepts start l.tokens
