-- Worked cases of the values of entries.
use Rattle.std.proofs.Common.{◌≡◌, [], ◌∷◌, true, Some, None, codes, rules}
use Rattle.semver.proofs.OnLiterals.{semver_on_literals}
use Rattle.deny_spans_manifest.specs.Found.{rename_of, requirement_in, version_of, versioned}
use Rattle.deny_spans_manifest.proofs.Cases.{entry, flag, table, text}
use Rattle.deny_krates.specs.source.GitSpec.TheVariants as spec
use Rattle.deny_toml.specs.value.Content.{the_lemmas}
use Rattle.deny_spans_workspace.proofs.Cases.{at, from_major}
use Rattle.deny_spans_workspace.specs.ManifestKey.{name_of}
use Rattle.deny_spans_workspace.specs.Origin.{origin_in, reference_in}
use Rattle.deny_spans_workspace.specs.DepSpec.{dep_spec_in}
use Rattle.deny_spans_workspace.specs.declared.origin.Origin.TheVariants.{Path, Registry}

-- x = "1"
a_text : dep_spec_in (text 4 (codes "1"))
    ≡ Some (record { origin = Registry None; version = at 4 (from_major 1); rename = None })
unfolding dep_spec_in origin_in name_of version_of versioned requirement_in rename_of semver_on_literals
a_text = search (rules, the_lemmas)

-- x = "one"
no_requirement : dep_spec_in (text 4 (codes "one")) ≡ None
unfolding dep_spec_in origin_in name_of version_of versioned requirement_in rename_of semver_on_literals
no_requirement = search (rules, the_lemmas)

-- x = true
no_entry : dep_spec_in (flag 4 true) ≡ None
unfolding dep_spec_in origin_in name_of version_of versioned requirement_in rename_of
no_entry = search (rules, the_lemmas)

-- x = { package = "y" }
no_source : dep_spec_in (table 4 (entry 6 (codes "package") (text 16 (codes "y")) ∷ [])) ≡ None
unfolding dep_spec_in origin_in name_of version_of versioned requirement_in rename_of
no_source = search (rules, the_lemmas)

-- x = { path = "../x", version = "1", package = "y" }
a_path : dep_spec_in (table 4 (entry 6 (codes "package") (text 7 (codes "y"))
    ∷ entry 8 (codes "path") (text 9 (codes "../x")) ∷ entry 10 (codes "version") (text 11 (codes "1")) ∷ []))
    ≡ Some (record { origin = Path (codes "../x"); version = at 11 (from_major 1); rename = at 7 (codes "y") })
unfolding dep_spec_in origin_in name_of version_of versioned requirement_in rename_of semver_on_literals
a_path = search (rules, the_lemmas)

-- x = { path = "../x", version = "one" }
a_path_of_no_version : dep_spec_in (table 4 (entry 8 (codes "path") (text 9 (codes "../x"))
    ∷ entry 10 (codes "version") (text 11 (codes "one")) ∷ [])) ≡ None
unfolding dep_spec_in origin_in name_of version_of versioned requirement_in rename_of semver_on_literals
a_path_of_no_version = search (rules, the_lemmas)

-- x = { path = "../x", registry = "r" }
registry_first : origin_in (table 4 (entry 8 (codes "path") (text 9 (codes "../x"))
    ∷ entry 10 (codes "registry") (text 11 (codes "r")) ∷ [])) ≡ Some (Registry (Some (codes "r")))
unfolding origin_in name_of
registry_first = search (rules, the_lemmas)

-- x = { registry = true, path = "../x" }
no_name : origin_in (table 4 (entry 8 (codes "path") (text 9 (codes "../x"))
    ∷ entry 10 (codes "registry") (flag 11 true) ∷ [])) ≡ None
unfolding origin_in name_of
no_name = search (rules, the_lemmas)

-- x = { branch = "b", rev = "r", tag = "t" }
rev_first : reference_in (table 4 (entry 8 (codes "branch") (text 9 (codes "b"))
    ∷ entry 10 (codes "rev") (text 11 (codes "r")) ∷ entry 12 (codes "tag") (text 13 (codes "t")) ∷ []))
    ≡ Some (record { spec = spec.Rev; value = Some (codes "r") })
unfolding reference_in name_of
rev_first = search (rules, the_lemmas)

-- x = { branch = true, tag = "t" }
no_branch : reference_in (table 4 (entry 8 (codes "branch") (flag 9 true)
    ∷ entry 12 (codes "tag") (text 13 (codes "t")) ∷ [])) ≡ None
unfolding reference_in name_of
no_branch = search (rules, the_lemmas)
