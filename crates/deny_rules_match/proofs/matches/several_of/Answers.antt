use Rattle.std.proofs.Common.{◌≡◌, List, IfOk, map, subst}
use Rattle.std.specs.List.{list_any}
use Rattle.deny_cfg.specs.SpecView.{spec_view}
use Rattle.deny_spec.specs.Duplicates.{is_denied_multiple}
use Rattle.deny_spec.specs.Graph.{Crate}
use Rattle.deny_spec.specs.Match.{matches}
use Rattle.deny_rules_match.proofs.matches.several_of.Goals as goal

pub returns : goal.returns
unfolding is_denied_multiple
returns c =
    subst (λ (specs : List _). IfOk c.matched_marks.result
    (λ marks. marks ≡ map (λ (k : Crate). list_any (λ s. matches s k)
    (map spec_view specs)) c.args.krates.now.crates)) c.as_slice.ensures c.matched_marks.ensures
