-- The package of one crate, whose files and folders are found by their shown paths.
use Rattle.std.specs.Prelude.{◌≡◌, ℕ, List}
use Rattle.deny_spec.specs.Unseen.{package_at}
use Rattle.deny_spec.specs.declared.package.Package.{Package}
use Rattle.deny_diags_build.specs.ByText.{IsByText}
use Rattle.deny_diags_build.specs.declared.at_hand.AtHand.{AtHand}

pub record IsAtHand (packages : List Package) (place : ℕ) (at : AtHand) : Type 0 where
  pub same_place : at.place ≡ place
  pub files : IsByText (λ file. file.seen.shown) (package_at packages place).files at.files
  pub folders : IsByText (λ seen. seen.shown) (package_at packages place).unlisted at.folders
