use Rattle.std.proofs.Common.{◌++◌, ℕ, Bool, List, take}
use Rattle.deny_spans_manifest.specs.Agreement.{ReportsAgreement}
use Rattle.deny_spans_manifest.specs.private.Sections.{FindsKeyed, KeyedEntry, targets_keyed}
use Rattle.deny_spans_manifest.specs.private.Targets.{NumbersTargets, number_of}
use Rattle.deny_spans_manifest.proofs.sections.add_targets.Given as goal

abbrev pub invariant-loop-entry : goal.invariant-loop-entry
invariant-loop-entry l = (agrees : List ℕ → List ℕ → Bool) → ReportsAgreement agrees
    → (names : List (List ℕ)) → NumbersTargets names l.targets
    → (keyed : List KeyedEntry) → FindsKeyed keyed l.fn.entries
    → FindsKeyed (keyed ++ targets_keyed (number_of agrees names) (take l.entry-index l.keys)) l.entries
