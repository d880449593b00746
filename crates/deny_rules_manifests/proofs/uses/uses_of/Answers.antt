use Rattle.std.proofs.Common.{sym, ap, ◌∙◌}
use Rattle.std.specs.Prelude.{option_map}
use Rattle.std.proofs.lemmas.Option.{none-some}
use Rattle.deny_cfg.specs.PolicyView.{sharing_view}
use Rattle.deny_rules_manifests.proofs.uses.uses_of.Goals as goal

pub returns-in-None : goal.returns-in-None
returns-in-None c = record {
  at = λ s is place. absurd (none-some s (sym (ap (option_map sharing_view) c.in-None.is) ∙ is));
}
