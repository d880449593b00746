-- Worked cases of entries and the patches that replace them.
use Rattle.std.proofs.Common.{◌≡◌, [], ◌∷◌, Some, None, codes, rules}
use Rattle.semver.proofs.OnLiterals.{semver_on_literals}
use Rattle.deny_spans_manifest.specs.Found.{rename_of, requirement_in, version_of, versioned}
use Rattle.deny_spans_manifest.proofs.Cases.{entry, span, table, text}
use Rattle.deny_toml.specs.Key.{Key}
use Rattle.deny_toml.specs.value.Content.{the_lemmas}
use Rattle.deny_toml.specs.value.Value.{Value}
use Rattle.deny_spans_workspace.proofs.Cases.{at, from_major}
use Rattle.deny_spans_workspace.specs.Entries.{entries_of, patch_of, patched_entry}
use Rattle.deny_spans_workspace.specs.ManifestKey.{name_of}
use Rattle.deny_spans_workspace.specs.Origin.{origin_in}
use Rattle.deny_spans_workspace.specs.DepSpec.{dep_spec_in}
use Rattle.deny_spans_workspace.specs.declared.origin.Origin.TheVariants.{Path, Registry}

-- x = { version = "1", package = "y" }
abbrev renamed : Key × Value
renamed = entry 20 (codes "x")
    (table 21 (entry 22 (codes "package") (text 23 (codes "y")) ∷ entry 24 (codes "version")
    (text 25 (codes "1")) ∷ []))

-- x = { path = "x" }
abbrev patch : Key × Value
patch = entry 30 (codes "x") (table 31 (entry 32 (codes "path") (text 33 (codes "x")) ∷ []))

-- a patch replaces the entry together with its package name
patched : entries_of (patch ∷ []) (renamed ∷ []) ≡ (record {
  name = codes "x";
  key = span 30;
  value = span 21;
  spec = record { origin = Path (codes "x"); version = None; rename = None };
  patched = Some (span 20);
}) ∷ []
unfolding entries_of patched_entry patch_of dep_spec_in origin_in name_of version_of versioned requirement_in rename_of
    semver_on_literals
patched = search (rules, the_lemmas)

-- a patch of another key replaces nothing
not_patched : entries_of (entry 30 (codes "y") patch.1 ∷ []) (renamed ∷ []) ≡ (record {
  name = codes "x";
  key = span 20;
  value = span 21;
  spec = record { origin = Registry None; version = at 25 (from_major 1); rename = at 23 (codes "y") };
  patched = None;
}) ∷ []
unfolding entries_of patched_entry patch_of dep_spec_in origin_in name_of version_of versioned requirement_in rename_of
    semver_on_literals
not_patched = search (rules, the_lemmas)

-- a patch that is passed over replaces nothing
passed_over : entries_of (entry 30 (codes "x") (text 31 (codes "one")) ∷ []) (renamed ∷ [])
    ≡ entries_of [] (renamed ∷ [])
unfolding entries_of patched_entry patch_of dep_spec_in origin_in name_of version_of versioned requirement_in rename_of
    semver_on_literals
passed_over = search (rules, the_lemmas)

-- an entry of a folder is not of crates.io, which is what is patched
of_a_folder : entries_of (patch ∷ []) (entry 20 (codes "x") patch.1 ∷ []) ≡ (record {
  name = codes "x";
  key = span 20;
  value = span 31;
  spec = record { origin = Path (codes "x"); version = None; rename = None };
  patched = None;
}) ∷ []
unfolding entries_of patched_entry patch_of dep_spec_in origin_in name_of version_of versioned requirement_in rename_of
of_a_folder = search (rules, the_lemmas)
