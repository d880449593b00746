use Rattle.std.proofs.Common.{refl}
use Rattle.std.specs.Option.{option_copied}
use Rattle.deny_spec_report.specs.Saying.{bytes_of}
use Rattle.deny_spans.specs.SpansView.{spans_view}
use Rattle.deny_gate.proofs.FindingLaws.{CheckLaws, hits_differ, results_are}
use Rattle.deny_gate.proofs.checks.run_checks.Goals as goal

pub joined_hits-requires : goal.joined_hits-requires
joined_hits-requires g c =
    let checked = c.in_ok-end.ensures.checked in
    hits_differ c.args.policy.now c.args.krates.now (bytes_of (option_copied c.args.extras.now.table)) _ _
    (spans_view c.args.spans.now) checked.packages _ _ _ _ _ c.requires.read c.requires.apart checked.is
    c.in_ok-licensed.ensures

pub returns-clause-checked : goal.returns-clause-checked
returns-clause-checked g c =
    let laws : CheckLaws = record {
      keys = c.bans_unlicensed.ensures.holds;
      packs = c.bans_unlicensed.ensures.reported;
      unexpired = c.bans_unexpired.ensures.holds;
      unexpired_packs = c.bans_unexpired.ensures.reported;
      warned = c.policy_keys.ensures;
      joined = c.joined_keys.ensures;
    } in
    let checked = c.in_ok-end.ensures.checked in
    record {
      packages = checked.packages;
      packages_seen = checked.seen;
      causes = checked.causes;
      results = results_are laws c.args.policy.now c.args.krates.now (option_copied c.args.extras.now.table) _ _
          (spans_view c.args.spans.now) checked.packages _ _ _ _ _ _ c.requires.file c.requires.lock checked.is
          c.new-packs.ensures c.in_ok-licensed.ensures c.in_ok-hits.ensures c.in_ok-findings.ensures refl;
    }
