-- Files as they are shown.
use Rattle.std.specs.Prelude.{ℕ, List, Option}
use Rattle.deny_build_file.specs.Home.{home_path}
use Rattle.deny_spec.specs.declared.package.Found.{Found}
use Rattle.deny_spec.specs.declared.package.PackageFile.{PackageFile}
use Rattle.deny_build_scan.specs.Paths.{below}

-- the file at a path, by the globs that decide it and what was found
abbrev pub file_of : List ℕ → Option (List ℕ) → List ℕ → List (List ℕ) → Found → PackageFile
file_of root home path globs found =
    record { path = below root path; globs = globs; seen = record { shown = home_path path root home; found = found } }
