use Rattle.std.proofs.Common.{[]}
use Rattle.deny_spans_manifest.proofs.SectionLemmas.{finds_none, index_with, index_without}
use Rattle.deny_spans_manifest.proofs.sections.Sections.of.Goals as goal

pub returns-in_default : goal.returns-in_default
returns-in_default c = index_without c.args.tree.now
    (record { targets = c.none.result; entries = c.add_sections.new.entries }) c.in_default.ensures c.none.ensures
    (c.in_ok-add_sections.ensures [] (finds_none c.new-entries.result c.new-entries.ensures))

pub returns : goal.returns
returns c = index_with c.args.tree.now c.in-Some.keys.now
    (record { targets = c.in_ok-targets.targets; entries = c.add_targets.new.entries }) c.add_sections.new.entries
    c.in-Some.ensures c.in_ok-targets.ensures
    (c.in_ok-add_sections.ensures [] (finds_none c.new-entries.result c.new-entries.ensures))
    c.in_ok-add_targets.ensures
