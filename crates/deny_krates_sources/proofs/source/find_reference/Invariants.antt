use Rattle.std.proofs.Common.{◌≡◌, All}
use Rattle.form_urlencoded.specs.Form.{raw_pairs}
use Rattle.form_urlencoded.specs.Parse.{raw_pairs_left}
use Rattle.deny_krates_sources.specs.Source.{reference_in}
use Rattle.deny_krates_sources.proofs.SourceLemmas.{IsSmallPart}
use Rattle.deny_krates_sources.proofs.source.find_reference.Given as goal

abbrev pub invariant-loop-name : goal.invariant-loop-name
invariant-loop-name l =
    (goal.iterator-loop-name).can_next l.name-iterator ×
    (goal.iterator-loop-name).is_finite l.name-iterator ×
    (reference_in (raw_pairs l.query) ≡ reference_in (raw_pairs_left l.name-iterator)) ×
    All IsSmallPart (raw_pairs_left l.name-iterator)
