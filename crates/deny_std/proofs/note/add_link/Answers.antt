use Rattle.std.proofs.Common.{◌++◌, ℕ, List, ap, ◌∙◌}
use Rattle.std.specs.Prelude.{codes}
use Rattle.deny_base_lists.proofs.Results.{on_ok_then}
use Rattle.deny_std.proofs.NoteLemmas.{link-written}
use Rattle.deny_std.proofs.note.add_link.Goals as goal

pub returns : goal.returns
returns c =
    let api = c.args.api.now in
    on_ok_then c.push_str.result c.push_str.ensures.ok (λ added.
    added ∙ ap (λ (text : List ℕ). c.args.note.now ++ text) (c.as_str.ensures.value ∙ (c.in_ok-link.ensures.ok
    ∙ link-written c.args.sign.now c.args.code.now c.args.divider.now api.name.now (codes "](") api.url.now (codes ")")
    (codes "\n"))))
