use Rattle.std.proofs.Common.{◌∙◌}
use Rattle.std.specs.Prelude.{is_ok}
use Rattle.deny_base.specs.KeyOrder.{span_cmp}
use Rattle.deny_krates.proofs.SearchLemmas.{search_finds}
use Rattle.deny_rules_crates.proofs.DependentKeyLemmas.{hit-answers}
use Rattle.deny_rules_crates.proofs.banned.is_hit.Goals as goal

pub returns : goal.returns
returns c =
    c.is_ok.ensures.value
    ∙ hit-answers c.args.hits.now c.args.span.now (is_ok c.binary_search.result)
    (search_finds span_cmp c.span_order.ensures.total c.span_order.ensures.equal c.args.hits.now c.args.span.now
    c.binary_search.result c.requires c.binary_search.ensures.bound c.binary_search.ensures.position)
