use Rattle.std.proofs.Common.{Some, cond, option_map, ap, ◌∙◌}
use Rattle.std.proofs.lemmas.Map.Text.{btree_map_updates_str}
use Rattle.deny_spec.specs.Text.{same_text}
use Rattle.deny_diags_build.specs.ByText.{found_at}
use Rattle.deny_diags_build.proofs.FoundLemmas.{seen_first}
use Rattle.deny_diags_build.proofs.by_text.ByText.put.Goals as goal

pub returns : goal.returns
returns g c text =
    let item = c.args.item in
    let old = found_at c.args.self.now text in
    ap (option_map (λ x. x.now))
    (btree_map_updates_str c.shown.result.now c.args.self.now.tree c.insert.new.self (Some item)
    c.in_ok-insert.ensures.updates text)
    ∙ (seen_first (λ x. x.now) (same_text c.shown.result.now text) item _
    ∙ ap (λ shown. cond (same_text shown text) (Some item.now) old) c.shown.ensures)
