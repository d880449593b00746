use Rattle.std.proofs.Common.{◌≡◌, ◌∙◌, List, Some, ap, sym}
use Rattle.std.specs.Option.{option_copied}
use Rattle.std.proofs.lemmas.Option.{none-some}
use Rattle.deny_krates.specs.Crates.{crate_view}
use Rattle.deny_base_lists.specs.declared.text.Text.{Text}
use Rattle.deny_build_bypass.proofs.CrateLemmas.{enabled_there}
use Rattle.deny_build_bypass.proofs.required.enabled_of.Goals as goal

same : {a b : List Text} → Some a ≡ Some b → a ≡ b
same e = cc

pub returns-in-Some : goal.returns-in-Some
returns-in-Some c = λ place is.
    same (ap option_copied (sym c.in-Some.is) ∙ (c.get_enabled_features.ensures
    ∙ enabled_there c.args.krates.now (crate_view place c.args.krate.now) c.krates-orderly.ensures.orderly is))

pub returns-in-None : goal.returns-in-None
returns-in-None c = λ place is.
    absurd (none-some c.args.krate.now.enabled (ap option_copied (sym c.in-None.is) ∙ (c.get_enabled_features.ensures
    ∙ enabled_there c.args.krates.now (crate_view place c.args.krate.now) c.krates-orderly.ensures.orderly is)))
