use Rattle.std.proofs.Common.{◌∙◌, List, ap, subst, sym}
use Rattle.std.specs.Prelude.{Contains}
use Rattle.deny_base_lists.specs.Ascending.{Lists}
use Rattle.deny_krates.specs.private.Resolved.{resolved_cmp, resolved_in}
use Rattle.deny_krates.specs.declared.resolved.ResolvedAt.{ResolvedAt}
use Rattle.deny_krates.proofs.resolved.resolved_of.Goals as goal

pub returns : goal.returns
returns c g crates edges =
    subst (λ (xs : List ResolvedAt). Lists resolved_cmp (Contains xs) c.put_in_order.new.list)
    (c.in_ok-resolved.ensures g crates edges ∙ ap (resolved_in g) (sym crates)) c.in_ok-put_in_order.ensures.ok
