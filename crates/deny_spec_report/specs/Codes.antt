-- Which keys need no manifest and no package, and which check a section belongs to, or the policy itself.
use Rattle.std.specs.Prelude.{Bool, true, false, List, filter}
use Rattle.deny_base.specs.Code.{asks_no_file}
use Rattle.deny_base.specs.declared.key.Key.{Key}
use Rattle.deny_base.specs.declared.key.Section.{Section}
use Rattle.deny_base.specs.declared.key.Section.TheVariants as section

-- the keys whose codes need no manifest and no package: they hold on a disk of which nothing is known
abbrev pub unseeing : List Key → List Key
unseeing keys = filter (λ key. asks_no_file key.code) keys

-- the section of the warnings about the policy itself, which are made as it is read
abbrev pub is_of_policy : Section → Bool
is_of_policy section.Deprecated = true
is_of_policy section.Crates = false
is_of_policy section.Groups = false
is_of_policy section.Workspace = false
is_of_policy section.Unused = false
is_of_policy section.Std = false
is_of_policy section.Licenses = false
is_of_policy section.LicensesUnused = false

-- the sections of the bans check
abbrev pub is_of_bans : Section → Bool
is_of_bans section.Deprecated = false
is_of_bans section.Crates = true
is_of_bans section.Groups = true
is_of_bans section.Workspace = true
is_of_bans section.Unused = true
is_of_bans section.Std = true
is_of_bans section.Licenses = false
is_of_bans section.LicensesUnused = false

-- the sections of the licence check
abbrev pub is_of_licenses : Section → Bool
is_of_licenses section.Deprecated = false
is_of_licenses section.Crates = false
is_of_licenses section.Groups = false
is_of_licenses section.Workspace = false
is_of_licenses section.Unused = false
is_of_licenses section.Std = false
is_of_licenses section.Licenses = true
is_of_licenses section.LicensesUnused = true
