use Rattle.std.proofs.Common.{◌∙◌, ap}
use Rattle.std.specs.List.{list_any}
use Rattle.deny_toml.specs.Calls.{has_name}
use Rattle.deny_cfg_entries.specs.PolicyKey.{name_of}
use Rattle.deny_cfg_entries.specs.declared.policy_key.PolicyKey.TheVariants as key
use Rattle.deny_cfg_entries.proofs.TableLaws.{any_is}
use Rattle.deny_cfg_entries.proofs.spec.has_crate.Goals as goal

pub returns : goal.returns
returns c =
    c.has_key.ensures ∙ ap (λ es. list_any (has_name c.name.result.now) es) c.as_slice.ensures
    ∙ ap (λ n. list_any (has_name n) c.args.helper.now.entries) c.name.ensures
    ∙ any_is (has_name (name_of key.Crate)) (λ e. e.1) c.args.helper.now.entries
