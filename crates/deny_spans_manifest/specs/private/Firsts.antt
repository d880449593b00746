-- The first value under each key.
use Rattle.std.specs.Prelude.{Option}
use Rattle.std.specs.BTreeMap as tree
use Rattle.std.specs.declared.cmp.Ordering.{Ordering}
use Rattle.deny_spans_manifest.specs.declared.firsts.Firsts.{Firsts}

-- the value that a lookup of a key finds
abbrev pub first_at : {K V : Type 0} → (K → K → Ordering) → Firsts K V → K → Option V
first_at cmp firsts key = tree.get cmp firsts.tree key
