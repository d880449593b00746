use Rattle.std.proofs.Common.{◌≡◌, ◌+◌, drop}
use Rattle.std.specs.Prelude.{find, option_map}
use Rattle.deny_krates.specs.Crates.{crates_from}
use Rattle.deny_spans_manifest.specs.Found.{requirement_read}
use Rattle.deny_spans_workspace.specs.Agreement.{fits}
use Rattle.deny_spans_workspace.proofs.agreement.first_fitting.Given as goal

abbrev pub invariant-loop-index : goal.invariant-loop-index
invariant-loop-index l =
    find (fits l.home (option_map (λ r. requirement_read r.now) l.requirement))
    (crates_from (l.start + l.index) (drop l.index l.krates))
    ≡ find (fits l.home (option_map (λ r. requirement_read r.now) l.requirement)) (crates_from l.start l.krates)
