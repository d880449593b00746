-- The packs and hits that the licence check gives.
use Rattle.std.specs.Prelude.{◌≡◌, ◌++◌, ℕ, Bool, List, Some, map}
use Rattle.deny_base.specs.declared.entry.Hit.{Hit}
use Rattle.deny_base.specs.declared.finding.Pack.{Pack}
use Rattle.deny_base.specs.declared.key.Key.{Key}
use Rattle.deny_spec.specs.Graph.{Crate, Graph}
use Rattle.deny_spec.specs.Licensing.{Licensing}
use Rattle.deny_spec_report.specs.Circumstances.{Circumstances}
use Rattle.deny_spec_report.specs.Codes.{is_of_licenses}
use Rattle.deny_spec_report.specs.Facts.{Facts}
use Rattle.deny_spec_report.specs.Licences.{TestsCounting, licence_hits}
use Rattle.deny_spec_report.specs.Holding.{ListsOwn}
use Rattle.deny_spec_report.specs.Diags.{key_pack}

-- circumstances with this licensing and graph, where the policy's file has this number
abbrev pub of_licences : Licensing → Graph → ℕ → Circumstances → Circumstances
of_licences l g file c = record c {
  licensing = Some l;
  graph = g;
  files = record c.files { policy = file };
}

-- each key that holds in the sections of the licence check has its pack, in the order of the keys, whatever else the
-- circumstances are; and each licence and exception that is hit has its hit
pub record IsLicensed (l : Licensing) (g : Graph) (file : ℕ) (old new : List Pack) (hits : List Hit) : Type 0 where
  pub keys : List Key
  pub listed : (c : Circumstances) (facts : Facts) → ListsOwn is_of_licenses (of_licences l g file c) facts keys
  pub reported : (c : Circumstances) → new ≡ old ++ map (key_pack (of_licences l g file c)) keys
  pub counts : Crate → Bool
  pub reports : TestsCounting l g counts
  pub hits_are : hits ≡ licence_hits counts l g
