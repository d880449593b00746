-- Commands as contracts see them.
use Rattle.std.specs.Prelude.{ℕ, List, option_map}
use Rattle.std.specs.Borrow.{Bor}
use Rattle.deny_spans_workspace.specs.declared.registries.Registry.{Registry}
use Rattle.deny_cli.specs.Registries.{registries_in}
use Rattle.deny_cli.specs.Arguments as argument
use Rattle.deny_cli.specs.declared.registries.RegistryOption.{RegistryOption}
use Rattle.deny_cli.specs.declared.arguments.CheckArguments.{CheckArguments}
use Rattle.deny_cli.specs.declared.arguments.PartialArguments.{PartialArguments}
use Rattle.deny_cli.specs.declared.arguments.Command.{Command}
use Rattle.deny_cli.specs.declared.arguments.Command.TheVariants.{Check, Generate}
use Rattle.deny_cli.specs.declared.arguments.Form.{Form}
use Rattle.deny_cli.specs.declared.arguments.Form.TheVariants.{Nothing, Checking, Generating}

abbrev pub text_view : Bor (List ℕ) → List ℕ
text_view text = text.now

abbrev pub registry_view : RegistryOption → Registry
registry_view named = record { name = named.name.now; address = named.address.now }

-- the arguments of a check; its registries are those that options among them name
abbrev pub check_view : CheckArguments → argument.CheckArguments
check_view asked = record {
  policy = asked.policy.now;
  metadata = asked.metadata.now;
  replacements = option_map text_view asked.replacements;
  home = option_map text_view asked.home;
  registries = registries_in (argument.texts asked.arguments.now);
  today = asked.today;
}

abbrev pub command_view : Command → argument.Command
command_view (Check asked) = argument.check (check_view asked)
command_view (Generate crates) = argument.generate crates

abbrev pub partial_view : PartialArguments → argument.PartialArguments
partial_view asked = record {
  policy = option_map text_view asked.policy;
  metadata = option_map text_view asked.metadata;
  replacements = option_map text_view asked.replacements;
  home = option_map text_view asked.home;
  today = asked.today;
}

abbrev pub form_view : Form → argument.Form
form_view Nothing = argument.nothing
form_view (Checking asked) = argument.checking (partial_view asked)
form_view (Generating crates) = argument.generating crates
