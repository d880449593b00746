-- The circumstances that findings are made from: a configuration and a graph, with what was seen of manifests and of
-- packages, and the number of the lock text. No waiver expired in them: a configuration has none that did.
use Rattle.std.specs.Prelude.{List}
use Rattle.deny_spec.specs.declared.package.Package.{Package}
use Rattle.deny_cfg.specs.PolicyView.{building_of, builtin_file_of, policy_view}
use Rattle.deny_cfg.specs.declared.bans.cfg.valid.ValidConfig.{ValidConfig}
use Rattle.deny_spec_report.specs.Circumstances.{Circumstances, built, seen_by, with_packages}
use Rattle.deny_spec.specs.Graph.{Graph}
use Rattle.deny_spans.specs.SpansView.{spans_view}
use Rattle.deny_spans.specs.declared.krate_spans.KrateSpans.{KrateSpans}
use Rattle.deny_diags_parts.specs.declared.context.DiagContext.{DiagContext}

abbrev pub circumstances_by : ValidConfig → Graph → KrateSpans → List Package → Circumstances
circumstances_by cfg g spans packages =
    with_packages (built (seen_by (policy_view cfg) g cfg.file_id spans.lock_id (spans_view spans)) (building_of cfg))
    (builtin_file_of cfg) packages

abbrev pub circumstances_from : DiagContext → Circumstances
circumstances_from ctx = circumstances_by ctx.cfg.now ctx.krates.now ctx.spans.now ctx.packages.now
