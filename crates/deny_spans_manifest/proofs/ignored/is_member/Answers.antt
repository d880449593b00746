use Rattle.std.proofs.Common.{ap, ◌∙◌}
use Rattle.std.specs.Prelude.{◌==◌, is_ok}
use Rattle.std.specs.FinMap as finite
use Rattle.std.specs.List.{list_any}
use Rattle.std.specs.Ordering.{nat_cmp}
use Rattle.std.proofs.lemmas.Cmp.{nat_cmp_total}
use Rattle.deny_base_lists.proofs.Finding.{place_found}
use Rattle.deny_krates.proofs.SearchLemmas.{search_finds}
use Rattle.deny_spans_manifest.proofs.ignored.is_member.Goals as goal

pub returns : goal.returns
returns c =
    let members = c.workspace_members.result.now in
    c.is_ok.ensures.value
    ∙ (place_found (is_ok c.binary_search.result) members c.args.place
    (search_finds nat_cmp nat_cmp_total finite.nat_cmp-IsAntisymmetric members c.args.place c.binary_search.result
    c.workspace_members.ensures.ascending c.binary_search.ensures.bound c.binary_search.ensures.position)
    ∙ ap (list_any (λ member. member == c.args.place)) c.workspace_members.ensures.members)
