use Rattle.std.proofs.Common.{◌∙◌}
use Rattle.std.specs.Prelude.{is_ok}
use Rattle.deny_base.specs.Entry.{entry_cmp}
use Rattle.deny_krates.proofs.SearchLemmas.{search_finds}
use Rattle.deny_gate.proofs.DeadEntries.{search-answers}
use Rattle.deny_gate.proofs.dead.is_among.Goals as goal

pub returns : goal.returns
returns c =
    c.is_ok.ensures.value
    ∙ search-answers c.entry_order.ensures.total c.entry_order.ensures.equal c.args.entries.now c.args.entry.now
    (is_ok c.binary_search.result)
    (search_finds entry_cmp c.entry_order.ensures.total c.entry_order.ensures.equal c.args.entries.now c.args.entry.now
    c.binary_search.result c.requires c.binary_search.ensures.bound c.binary_search.ensures.position)
