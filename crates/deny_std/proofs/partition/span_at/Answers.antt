use Rattle.std.proofs.Common.{◌∙◌, Option, ap, map, option_map}
use Rattle.std.specs.Prelude.{option_and_then}
use Rattle.deny_base_lists.proofs.Results.{if_ok_then}
use Rattle.deny_cfg.specs.PolicyView.{entry_view}
use Rattle.deny_spec_report.specs.FirstMatch.{first_of}
use Rattle.deny_spec_report.specs.StdReplacements.{ignore_span, ignores}
use Rattle.deny_spec.specs.Graph.{Crate}
use Rattle.deny_std.proofs.partition.span_at.Goals as goal

pub returns-in-Some : goal.returns-in-Some
returns-in-Some c = if_ok_then c.first_span.result c.first_span.ensures (λ span is.
    is c.args.place
    ∙ ap (λ (o : Option Crate). option_and_then
    (λ d. option_map ignore_span (first_of ignores (map entry_view c.args.ignored.now.entries.now) d)) o)
    c.in-Some.ensures)
