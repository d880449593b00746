-- Dependency specifications as the code holds them.
use Rattle.std.specs.Prelude.{option_map}
use Rattle.deny_spans_manifest.specs.Found.{held_spanned}
use Rattle.deny_spans_workspace.specs.declared.dep_spec.DepSpec.{DepSpec as Read}
use Rattle.deny_spans_workspace.specs.DepSpec.{DepSpec}

-- a specification as definitions see it, with the comparators of its requirement
abbrev pub dep_spec_view : Read → DepSpec
dep_spec_view w = record { origin = w.origin; version = option_map held_spanned w.version; rename = w.rename }
