-- A spec as the rules see it, and when two specs are equal.
use Rattle.std.specs.Prelude.{◌&&◌, Bool, option_map}
use Rattle.std.specs.Option.{option_eq}
use Rattle.deny_spec.specs.Policy.{Spec}
use Rattle.deny_spec.specs.Text.{same_text}
use Rattle.deny_cfg_entries.specs.declared.package_spec.PackageSpec.{PackageSpec}
use Rattle.deny_cfg_entries.specs.Requirement.{held_in}

abbrev pub spec_view : PackageSpec → Spec
spec_view spec =
    record {
      name = spec.name.value;
      requirement = option_map held_in
          spec.version_req;
      written = spec.req_text;
      span = spec.name.span;
    }

-- two specs are equal: their names are the same, and both lack a requirement or their written requirements are the same
abbrev pub same_spec : PackageSpec → PackageSpec → Bool
same_spec a b = same_text a.name.value b.name.value && option_eq same_text a.req_text b.req_text
