use Rattle.std.proofs.Common.{List, ap, ◌++◌, ◌∙◌}
use Rattle.deny_base.specs.declared.entry.Hit.{Hit}
use Rattle.deny_spec_report.specs.StdReplacements.{ignore_hits_in}
use Rattle.deny_rules.proofs.CheckLemmas.{hits_then}
use Rattle.deny_rules.proofs.check.hits_found.Goals as goal

pub returns : goal.returns
returns c d found =
    hits_then _ (ignore_hits_in d) _ _ _
    (c.in_ok-add_ignore_hits.ensures d found ∙ ap (λ (hits : List Hit). hits ++ ignore_hits_in d) c.in_ok-hits.ensures)
    c.in_ok-add_bypass_hits.ensures
