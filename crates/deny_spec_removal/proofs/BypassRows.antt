-- Worked cases of bypasses, paths and globs that are taken out, or whose spans are replaced; and why what is hit has to
-- stay, and why different spans of two paths of one bypass, and of two bypasses, must stay different.
use Rattle.std.proofs.Common.{◌≡◌, List, [], ◌∷◌, Some, codes, false, refl, true}
use Rattle.std.specs.Prelude.{filter_map}
use Rattle.deny_base.specs.Entry.{entry_kind_number}
use Rattle.deny_base.specs.declared.code.Code.TheVariants as code
use Rattle.deny_base.specs.declared.key.Key.{Key}
use Rattle.deny_spec.specs.Building.{Building}
use Rattle.deny_spec.specs.Keys.{crate_key, no_span, unused_key}
use Rattle.deny_spec_report.specs.Packages.{deprecated_key, deprecated_keys, path_key}
use Rattle.deny_spec_report.proofs.BuildCases.{bypass_of, listing, checking, path_with_sum, script_glob, with_sum}
use Rattle.deny_spec_report.proofs.Cases.{span, spec_at, spanned_at}
use Rattle.deny_spec_removal.specs.Dead.{unused_entry}
use Rattle.deny_spec_removal.specs.Removal.{cut_building, is_taken, unnaming}
use Rattle.deny_spec_removal.specs.Renaming.{renamed_building}
use Rattle.deny_spec_removal.proofs.BypassCases.{bypass, bypass_hit_at, bypasses_on_cases, glob, glob_hit_at, hits_by}
use Rattle.deny_spec_removal.proofs.BypassCases.{keys_by}
use Rattle.deny_spec_removal.proofs.BypassCases.{path, path_hit_at, two_bypasses}
use Rattle.deny_spec_removal.proofs.RenamingRows.{all_at_once, farther}

-- ---- what nothing hits can go

-- both files pass before anything is taken out
abbrev passed : List Key
passed = path_key code.PathBypassedByGlob 1 no_span (codes "$crate/a.sh")
    ∷ path_key code.PathBypassed 1 (span 30) (codes "$crate/run") ∷ []

before : keys_by two_bypasses ≡ path_key code.PathBypassedByGlob 1 no_span (codes "$crate/a.sh")
    ∷ path_key code.PathBypassed 1 (span 30) (codes "$crate/run")
    ∷ crate_key code.UnmatchedPathBypass 1 (span 40) ∷ crate_key code.UnmatchedGlob 1 (span 60)
    ∷ unused_key code.UnmatchedBypass (span 70) ∷ []
unfolding bypasses_on_cases
before = refl

-- the path of the second bypass has neither a hit nor a report
dead : filter_map unused_entry (keys_by two_bypasses) ≡ path 40 ∷ glob 60 ∷ bypass 70 ∷ []
unfolding bypasses_on_cases unused_entry
dead = refl

hit : hits_by two_bypasses ≡ bypass_hit_at 20 ∷ path_hit_at 30 (codes "run") ∷ glob_hit_at 50 (codes "a.sh") ∷ []
unfolding bypasses_on_cases
hit = refl

unfoldable without_dead : Building
without_dead = cut_building (path 40 ∷ glob 60 ∷ bypass 70 ∷ []) two_bypasses

none_unmatched : (keys_by without_dead ≡ passed)
    × (unnaming (path 40 ∷ glob 60 ∷ bypass 70 ∷ []) (keys_by two_bypasses) ≡ passed)
    × (hits_by without_dead ≡ hits_by two_bypasses)
unfolding bypasses_on_cases without_dead is_taken entry_kind_number
none_unmatched = (refl, refl, refl)

-- a path that has neither a hit nor a report can go too, and the report of its bypass stays
unreported : (keys_by (cut_building (path 80 ∷ []) two_bypasses) ≡ keys_by two_bypasses)
    × (unnaming (path 80 ∷ []) (keys_by two_bypasses) ≡ keys_by two_bypasses)
unfolding bypasses_on_cases is_taken entry_kind_number
unreported = (refl, refl)

-- an entry of another kind with the same span is another entry
kinds_apart : cut_building (glob 40 ∷ bypass 60 ∷ path 70 ∷ []) two_bypasses ≡ two_bypasses
unfolding bypasses_on_cases is_taken entry_kind_number
kinds_apart = refl

-- ---- what is hit has to stay

-- without a path that is hit the other path is hit
other_path : hits_by (cut_building (path 30 ∷ []) two_bypasses)
    ≡ bypass_hit_at 20 ∷ path_hit_at 40 (codes "run") ∷ glob_hit_at 50 (codes "a.sh") ∷ []
unfolding bypasses_on_cases is_taken entry_kind_number
other_path = refl

-- without a glob that is hit its file no longer passes
no_glob : keys_by (cut_building (glob 50 ∷ glob 60 ∷ path 40 ∷ bypass 70 ∷ []) two_bypasses)
    ≡ path_key code.PathBypassed 1 (span 30) (codes "$crate/run") ∷ []
unfolding bypasses_on_cases is_taken entry_kind_number
no_glob = refl

-- without a bypass that is used the other bypass is used
other_bypass : (hits_by (cut_building (bypass 20 ∷ []) two_bypasses)
    ≡ bypass_hit_at 70 ∷ path_hit_at 80 (codes "a.sh") ∷ [])
    × (keys_by (cut_building (bypass 20 ∷ []) two_bypasses)
    ≡ path_key code.PathBypassed 1 (span 80) (codes "$crate/a.sh") ∷ [])
unfolding bypasses_on_cases is_taken entry_kind_number
other_bypass = (refl, refl)

-- ---- new spans

keys_farther : keys_by (renamed_building farther two_bypasses)
    ≡ path_key code.PathBypassedByGlob 1 no_span (codes "$crate/a.sh")
    ∷ path_key code.PathBypassed 1 (span 130) (codes "$crate/run")
    ∷ crate_key code.UnmatchedPathBypass 1 (span 140) ∷ crate_key code.UnmatchedGlob 1 (span 160)
    ∷ unused_key code.UnmatchedBypass (span 170) ∷ []
unfolding bypasses_on_cases farther
keys_farther = refl

hits_farther : hits_by (renamed_building farther two_bypasses)
    ≡ bypass_hit_at 120 ∷ path_hit_at 130 (codes "run") ∷ glob_hit_at 150 (codes "a.sh") ∷ []
unfolding bypasses_on_cases farther
hits_farther = refl

-- where two entries get one span, the second is hit with the first
not_apart : hits_by (renamed_building all_at_once two_bypasses)
    ≡ bypass_hit_at 7 ∷ path_hit_at 7 (codes "run") ∷ path_hit_at 7 (codes "run") ∷ glob_hit_at 7 (codes "a.sh")
    ∷ bypass_hit_at 7 ∷ path_hit_at 7 (codes "a.sh") ∷ []
unfolding bypasses_on_cases all_at_once
not_apart = refl

-- everything in the policy has a new span; built-in globs keep theirs
unfoldable written : Building
written = record (listing (spec_at (codes "q") 11 ∷ []) checking) {
  extensions = script_glob (codes "*.sh") 12 false ∷ script_glob (codes "*.sh") 13 true ∷ [];
  bypass = record (with_sum 22 (bypass_of (codes "p") 20)) {
    required = spanned_at (codes "r") 24 ∷ [];
    allow = path_with_sum (codes "run") 30 ∷ [];
  } ∷ [];
  older_key = Some (span 10);
}

written_farther : renamed_building farther written ≡ record (listing (spec_at (codes "q") 111 ∷ []) checking) {
  extensions = script_glob (codes "*.sh") 112 false ∷ script_glob (codes "*.sh") 13 true ∷ [];
  bypass = record (with_sum 122 (bypass_of (codes "p") 120)) {
    required = spanned_at (codes "r") 124 ∷ [];
    allow = path_with_sum (codes "run") 130 ∷ [];
  } ∷ [];
  older_key = Some (span 110);
}
unfolding bypasses_on_cases written farther
written_farther = refl

deprecated_farther : deprecated_keys (renamed_building farther written) ≡ deprecated_key (span 110) ∷ []
unfolding bypasses_on_cases written farther deprecated_keys deprecated_key
deprecated_farther = refl
