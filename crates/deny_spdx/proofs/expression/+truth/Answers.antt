use Rattle.std.proofs.Common.{ap, sym, ◌∙◌}
use Rattle.std.specs.List.{list_any, list_all}
use Rattle.deny_spdx.specs.Truth.{truth}
use Rattle.deny_spdx.proofs.TruthLemmas.{truth-requirement, truth-all, truth-any}
use Rattle.deny_spdx.proofs.expression.+truth.Goals as goal

pub holds-returns-in-Requirement : goal.holds-returns-in-Requirement
holds-returns-in-Requirement t c = c.value_of.ensures
    ∙ sym (ap (truth c.args.allowed.now) c.in-Requirement.is ∙ truth-requirement _ _)

pub holds-returns-in-All : goal.holds-returns-in-All
holds-returns-in-All t c = c.all_hold.ensures
    ∙ (ap (list_all (truth c.args.allowed.now)) c.as_slice.ensures
    ∙ sym (ap (truth c.args.allowed.now) c.in-All.is ∙ truth-all _ _))

pub holds-returns-in-Any : goal.holds-returns-in-Any
holds-returns-in-Any t c = c.any_holds.ensures
    ∙ (ap (list_any (truth c.args.allowed.now)) c.as_slice-in-Any.ensures
    ∙ sym (ap (truth c.args.allowed.now) c.in-Any.is ∙ truth-any _ _))
