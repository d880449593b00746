use Rattle.std.proofs.Common.{◌∙◌, ◌++◌, List, ap, subst}
use Rattle.std.specs.Prelude.{Contains}
use Rattle.deny_base_lists.specs.Ascending.{Lists}
use Rattle.deny_base.specs.Unread.{unread_cmp}
use Rattle.deny_base.specs.declared.unread.Unread.{Unread}
use Rattle.deny_gate.proofs.unread.joined_unread.Goals as goal

pub returns : goal.returns
returns c = subst (λ (us : List Unread). Lists unread_cmp (Contains us) c.put_in_order.new.list)
    (c.in_ok-append.ensures.items
    ∙ (ap (λ (us : List Unread). us ++ c.others.inside.vec.items) c.unread.view_is
    ∙ ap (λ (us : List Unread). c.args.manifests ++ us) c.others.view_is))
    c.in_ok-put_in_order.ensures.ok
