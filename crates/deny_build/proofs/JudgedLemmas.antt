-- The crates that are judged and their packages, where one crate is judged alone.
use Rattle.std.proofs.Common.{◌≡◌, ◌++◌, ◌∷◌, [], zero, suc, ℕ, Bool, Option, None, Some, refl}
use Rattle.std.specs.Prelude.{replicate}
use Rattle.deny_spec.specs.Building.{Building}
use Rattle.deny_spec.specs.Graph.{Crate, Graph}
use Rattle.deny_spec.specs.Unseen.{package_at, unseen_package}
use Rattle.deny_spec.specs.declared.package.Package.{Package}
use Rattle.deny_spec_report.specs.BuildScripts.{is_checked, is_script_denied, is_walked}
use Rattle.deny_spec_report.specs.Members.{is_member}
use Rattle.deny_build.specs.ScanningOf.{graph_judged}

-- ---- the package of the crate that is judged alone

at_place : (n : ℕ) (p : Package) → package_at (replicate n unseen_package ++ p ∷ []) n ≡ p
at_place zero p = refl
at_place (suc n) p = at_place n p

pub package_alone : (c : Crate) (p : Package) → package_at (replicate c.place unseen_package ++ p ∷ []) c.place ≡ p
package_alone c p = at_place c.place p

-- ---- which crates are checked, walked and denied does not depend on which are judged

pub checked_judged : (alone : Option ℕ) (b : Building) (g : Graph) (reached : Crate → Bool) (c : Crate)
    → is_checked b g reached c ≡ is_checked b (graph_judged alone g) reached c
unfolding is_checked is_member
checked_judged None b g reached c = refl
checked_judged (Some place) b g reached c = refl

pub denied_judged : (alone : Option ℕ) (b : Building) (g : Graph) (reached : Crate → Bool) (p : Package) (c : Crate)
    → is_script_denied b g reached p c ≡ is_script_denied b (graph_judged alone g) reached p c
unfolding is_script_denied is_checked is_member
denied_judged None b g reached p c = refl
denied_judged (Some place) b g reached p c = refl

pub walked_judged : (alone : Option ℕ) (b : Building) (g : Graph) (reached : Crate → Bool) (p : Package) (c : Crate)
    → is_walked b g reached p c ≡ is_walked b (graph_judged alone g) reached p c
unfolding is_walked is_checked is_member
walked_judged None b g reached p c = refl
walked_judged (Some place) b g reached p c = refl
