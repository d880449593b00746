-- The licences of a policy as the rules see them.
use Rattle.std.specs.Prelude.{Option, map, option_map}
use Rattle.deny_spec.specs.Licensing as model
use Rattle.deny_spec.specs.Licensing.{Licensing}
use Rattle.deny_cfg_entries.specs.SpecView.{spec_view}
use Rattle.deny_cfg_tables.specs.declared.licenses.config.Config.{Config}
use Rattle.deny_cfg_tables.specs.declared.licenses.exception.Exception.{Exception}

abbrev pub exception_view : Exception → model.Exception
exception_view e = record { spec = spec_view e.spec; allow = e.allow }

abbrev pub licensing_view : Config → Licensing
licensing_view config = record {
  allow = config.allow;
  exceptions = map exception_view config.exceptions;
  ignores_private = config.private_ignore;
  registries = config.private_registries;
  include_dev = config.include_dev;
  unused_allowed = config.unused_allowed;
}

-- none where the policy has no table `licenses`
abbrev pub licensing_of : Option Config → Option Licensing
licensing_of config = option_map licensing_view config
