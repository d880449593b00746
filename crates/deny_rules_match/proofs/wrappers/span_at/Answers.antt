use Rattle.std.proofs.Common.{Some, None, Bor, option_map, sym, ap, ◌∙◌}
use Rattle.std.specs.FinMap as finite
use Rattle.deny_krates.specs.Crates.{crate_view}
use Rattle.deny_krates.specs.krate.Krate.{Krate}
use Rattle.deny_rules_match.proofs.DependentLemmas.{span-got}
use Rattle.deny_rules_match.proofs.wrappers.span_at.Goals as goal

pub returns-in_err-krate : goal.returns-in_err-krate
returns-in_err-krate c =
    let none = ap (option_map (λ (k : Bor Krate). crate_view c.args.place k.now)) (sym c.in_err-krate.was)
    ∙ c.krate_at.ensures in
    c.from_residual.ensures ∙ sym (span-got c.args.krates.now c.args.spans.now c.args.place None none)

pub returns : goal.returns
returns c =
    let found = ap (option_map (λ (k : Bor Krate). crate_view c.args.place k.now)) (sym c.in_ok-krate.was)
    ∙ c.krate_at.ensures in
    c.copied.ensures
    ∙ (c.get.ensures
    ∙ (ap (finite.get c.args.spans.now) c.as_str.ensures
    ∙ sym (span-got c.args.krates.now c.args.spans.now c.args.place (Some c.in_ok-krate.krate.now) found)))
