use Rattle.std.proofs.Common.{◌++◌, List, map, take}
use Rattle.deny_spans_manifest.specs.private.Sections.{FindsKeyed, KeyedEntry, keyed_at}
use Rattle.deny_spans_manifest.proofs.sections.add_section.Given as goal

abbrev pub invariant-loop-entry : goal.invariant-loop-entry
invariant-loop-entry l = (keyed : List KeyedEntry) → FindsKeyed keyed l.fn.entries
    → FindsKeyed (keyed ++ map (keyed_at l.target l.kind) (take l.entry-index l.section)) l.entries
