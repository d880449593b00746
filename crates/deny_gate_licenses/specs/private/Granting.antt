-- What the exceptions that match a crate grant, by their indices.
use Rattle.std.specs.Prelude.{ℕ, Bool, List, [], slice_get, if◌then◌else◌}
use Rattle.std.specs.Option.{option_map_or}
use Rattle.semver.specs.Identifiers.{parts_of}
use Rattle.deny_cfg.specs.LicensesException.{Exception}
use Rattle.deny_krates.specs.krate.Krate.{Krate}
use Rattle.deny_cfg.specs.SpecView.{spec_view}
use Rattle.deny_spec.specs.Match.{spec_matches}
use Rattle.deny_cfg.specs.LicensingView.{exception_view}
use Rattle.deny_gate_licenses.specs.declared.granter.Granter.{Granter}
use Rattle.deny_gate_licenses.specs.declared.grants.WantedLicence.{WantedLicence}
use Rattle.deny_gate_licenses.specs.private.Grants.{exception_grants}

abbrev pub exception_name : Exception → List ℕ
exception_name e = e.spec.name.value

abbrev pub does_match : Krate → Exception → Bool
does_match k e = spec_matches (spec_view e.spec) k.name (parts_of k.version)

abbrev pub grants_to : Krate → Exception → List (WantedLicence × Granter)
grants_to k e = if does_match k e then exception_grants (exception_view e) else []

abbrev pub grants_at : List Exception → Krate → ℕ → List (WantedLicence × Granter)
grants_at exceptions k number = option_map_or (grants_to k) (slice_get exceptions number) []
