use Rattle.std.proofs.Common.{◌∙◌, List, Option, ap, sym, ℕ}
use Rattle.std.specs.Option.{option_copied}
use Rattle.std.specs.Prelude.{option_and_then}
use Rattle.deny_cli.specs.Registries.{named_by, registry_of}
use Rattle.deny_cli.proofs.registries.registry_of.Goals as goal

pub returns-in-Some : goal.returns-in-Some
unfolding registry_of
returns-in-Some c =
    c.named_by.ensures
    ∙ ap (λ (text : Option (List ℕ)). option_and_then named_by text)
    (ap option_copied (sym c.in-Some.is) ∙ c.behind.ensures)

pub returns-in-None : goal.returns-in-None
unfolding registry_of
returns-in-None c = ap (λ (text : Option (List ℕ)). option_and_then named_by text)
    (ap option_copied (sym c.in-None.is) ∙ c.behind.ensures)
