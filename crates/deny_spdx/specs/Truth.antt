-- The truth of an expression, from the truth of each requirement by its number.
use Rattle.std.specs.Prelude.{Bool, false, List, unwrap_or, slice_get}
use Rattle.std.specs.List.{list_any, list_all}
use Rattle.deny_spdx.specs.declared.expression.Tree.{Tree, fold-Tree}
use Rattle.deny_spdx.specs.declared.expression.Tree.TheOpen.{Tree-F}

-- the truth of a tree whose parts have these truths
abbrev pub truth_step : List Bool → Tree-F Bool → Bool
truth_step allowed (Tree-F.Requirement number) = unwrap_or (slice_get allowed number) false
truth_step allowed (Tree-F.All parts) = list_all (λ t. t) parts
truth_step allowed (Tree-F.Any parts) = list_any (λ t. t) parts

-- the truth of a tree: that of its requirement by number, or whether all, or any, of its parts hold
abbrev pub truth : List Bool → Tree → Bool
truth allowed = fold-Tree Bool (truth_step allowed)
