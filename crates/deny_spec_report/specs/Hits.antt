-- The hits of entries of all kinds.
use Rattle.std.specs.Prelude.{◌++◌, Bool, List, [], Option, None, Some}
use Rattle.std.specs.Option.{option_map_or}
use Rattle.deny_base.specs.declared.entry.Hit.{Hit}
use Rattle.deny_spec.specs.Graph.{Crate, Graph}
use Rattle.deny_spec.specs.Hits.{all_hits}
use Rattle.deny_spec.specs.Licensing.{Licensing}
use Rattle.deny_spec_report.specs.Circumstances.{Circumstances}
use Rattle.deny_spec_report.specs.Facts.{Facts}
use Rattle.deny_spec_report.specs.Licences.{TestsCounting, licence_hits}
use Rattle.deny_spec_report.specs.Packages.{bypass_hits_in}
use Rattle.deny_spec_report.specs.StdReplacements.{ignore_hits_in}

-- the hits of the bans check, one for each entry that is hit: of the crate rules, then of ignores, then of bypasses
abbrev pub hits_in : Circumstances → Facts → List Hit
hits_in c facts = all_hits c.policy c.graph facts.chains ++ (ignore_hits_in c ++ bypass_hits_in c facts)

-- a test is right about which crates the licence check counts, where the policy has a licence check
abbrev pub TestsLicensed : Option Licensing → Graph → (Crate → Bool) → Type 0
TestsLicensed None g counts = Unit
TestsLicensed (Some l) g counts = TestsCounting l g counts

-- the hits of the licence check, by a test of which crates count
abbrev pub licence_hits_in : (Crate → Bool) → Circumstances → List Hit
licence_hits_in counts c = option_map_or (λ l. licence_hits counts l c.graph) c.licensing []

-- the hits of both checks
abbrev pub both_hits : Circumstances → Facts → (Crate → Bool) → List Hit
both_hits c facts counts = hits_in c facts ++ licence_hits_in counts c
