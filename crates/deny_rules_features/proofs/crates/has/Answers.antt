use Rattle.std.proofs.Common.{◌∙◌}
use Rattle.std.specs.Prelude.{is_ok}
use Rattle.std.specs.Cmp.Lexicographic.{nat_list_cmp_total, slice_cmp}
use Rattle.std.specs.Ordering.{nat_cmp}
use Rattle.deny_base_lists.proofs.TextMapLemmas.{texts_tie}
use Rattle.deny_krates.proofs.SearchLemmas.{search_finds}
use Rattle.deny_rules_features.proofs.CrateLemmas.{text_found}
use Rattle.deny_rules_features.proofs.crates.has.Goals as goal

pub returns : goal.returns
returns c =
    c.is_ok.ensures.value
    ∙ text_found (is_ok c.binary_search.result) c.args.features.now c.args.feature.now
    (search_finds (slice_cmp nat_cmp) nat_list_cmp_total texts_tie c.args.features.now c.args.feature.now
    c.binary_search.result c.requires c.binary_search.ensures.bound c.binary_search.ensures.position)
