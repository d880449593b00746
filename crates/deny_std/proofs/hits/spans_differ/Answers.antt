use Rattle.deny_base.proofs.KeyEqual.{span_cmp-exact}
use Rattle.deny_std.proofs.hits.spans_differ.Goals as goal

pub returns : goal.returns
returns c = span_cmp-exact
