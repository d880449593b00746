use Rattle.std.proofs.Common.{List, subst}
use Rattle.std.specs.Prelude.{All}
use Rattle.deny_base.specs.declared.entry.EntryId.{EntryId}
use Rattle.deny_gate.specs.declared.report.Finding.{Finding}
use Rattle.deny_base_lists.proofs.Results.{on_ok_then}
use Rattle.deny_cli.specs.Values.{HasNumbers}
use Rattle.deny_cli.specs.private.Counted.{IsCounted}
use Rattle.deny_cli.proofs.ValueLemmas.{values_plain}
use Rattle.deny_cli.proofs.lines.push_lines.Goals as goal

pub returns-clause-plain : goal.returns-clause-plain
returns-clause-plain c =
    let report = c.args.report.now in
    on_ok_then c.push_str.result c.push_str.ensures.ok (λ pushed. values_plain report
    (subst (λ (findings : List Finding). All (IsCounted report.files) findings) c.as_slice-findings.ensures
    c.in_ok-push_findings.ensures.counted)
    (subst (λ (dead : List EntryId). All HasNumbers dead) c.as_slice.ensures c.in_ok-push_dead.ensures.fits)
    c.in_ok-verdict_line.ensures.fits)
