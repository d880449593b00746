use Rattle.std.proofs.Common.{◌≡◌, map, take}
use Rattle.deny_diags.specs.private.Features.{feature_node}
use Rattle.deny_diags.proofs.features.feature_nodes.Given as goal

abbrev pub invariant-loop-feature : goal.invariant-loop-feature
invariant-loop-feature l = l.nodes ≡ map (feature_node l.kid) (take l.feature-index l.features)
