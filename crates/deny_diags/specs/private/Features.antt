-- Features as graph nodes, and the features that a policy names.
use Rattle.std.specs.Prelude.{◌++◌, [], ℕ, List, Some, codes}
use Rattle.std.specs.List.{flat_map}
use Rattle.deny_base.specs.declared.finding.GraphNode.{GraphNode}
use Rattle.deny_base.specs.declared.key.Key.{Key}
use Rattle.deny_base.specs.declared.level.Severity.TheVariants as severity
use Rattle.deny_base.specs.declared.span.Kid.{Kid}
use Rattle.deny_cfg.specs.PolicyView.{building_of, policy_view}
use Rattle.deny_cfg.specs.declared.bans.cfg.valid.ValidConfig.{ValidConfig}
use Rattle.deny_spec_report.specs.Features.{entry_and_crate, features_of, mismatch_labels}
use Rattle.deny_spec_report.specs.PackageDiags.{required_features}
use Rattle.deny_spec_report.specs.MessageParts.{plainly}
use Rattle.deny_spec_report.specs.declared.message.Message.{Message}
use Rattle.deny_spec.specs.Graph.{Graph}
use Rattle.deny_spec.specs.Policy.{Policy, SpannedText}
use Rattle.deny_spec.specs.DiagParts.{kid_at, of_crate}

-- the graph node of a feature
abbrev pub feature_node : Kid → List ℕ → GraphNode
feature_node kid feature = record { kid = kid; feature = Some feature }

-- the message about a crate whose features are not exactly those of its entry, without the features that are not
-- listed
abbrev pub mismatch_message : Policy → Graph → ℕ → Key → Message
mismatch_message p g file key = plainly severity.Error
    (of_crate (codes "feature set for crate '") g key (codes "' did not match exactly"))
    (entry_and_crate p g key (mismatch_labels file) [])
    (kid_at g key.place)

abbrev pub with_notes : Message → List (List ℕ) → Message
with_notes diag notes = record diag { notes = notes }

-- the features that entries allow or deny
abbrev pub listed_features : ValidConfig → List SpannedText
listed_features cfg = flat_map features_of (policy_view cfg).features

-- the features that entries allow or deny, and those that bypasses require
abbrev pub named_features : ValidConfig → List SpannedText
named_features cfg = listed_features cfg ++ required_features (building_of cfg)
