-- Worked cases of the values of dependencies.
use Rattle.std.proofs.Common.{◌≡◌, [], ◌∷◌, true, false, None, Some, codes, rules}
use Rattle.semver.proofs.OnLiterals.{semver_on_literals}
use Rattle.semver.specs.declared.Op.TheVariants as op
use Rattle.deny_toml.specs.value.Content.{the_lemmas}
use Rattle.deny_spans_manifest.proofs.Cases.{array, entry, flag, span, table, text}
use Rattle.deny_spans_manifest.specs.Found.{rename_of, requirement_in, version_of, versioned, workspace_of}

-- x = "1"
a_text : version_of (text 4 (codes "1"))
    ≡ Some (record { value = (op.Caret, 1, None, None, []) ∷ []; span = span 4 })
unfolding version_of versioned requirement_in semver_on_literals
a_text = search (rules, the_lemmas)

-- x = { version = "1" }
a_table : version_of (table 4 (entry 6 (codes "version") (text 16 (codes "1")) ∷ []))
    ≡ Some (record { value = (op.Caret, 1, None, None, []) ∷ []; span = span 16 })
unfolding version_of versioned requirement_in semver_on_literals
a_table = search (rules, the_lemmas)

-- any version has no comparators, and is read all the same
any_version : version_of (text 4 (codes "*")) ≡ Some (record { value = []; span = span 4 })
unfolding version_of versioned requirement_in semver_on_literals
any_version = search (rules, the_lemmas)

-- x = "one"
no_requirement : version_of (text 4 (codes "one")) ≡ None
unfolding version_of versioned requirement_in semver_on_literals
no_requirement = search (rules, the_lemmas)

-- x = { version = ["1"] }
no_text : version_of (table 4 (entry 6 (codes "version") (array 16 (text 17 (codes "1") ∷ [])) ∷ [])) ≡ None
unfolding version_of versioned requirement_in
no_text = search (rules, the_lemmas)

-- x = { path = "../x" }
no_version : version_of (table 4 (entry 6 (codes "path") (text 13 (codes "../x")) ∷ [])) ≡ None
unfolding version_of versioned requirement_in
no_version = search (rules, the_lemmas)

-- x = { workspace = true }, and false
of_the_workspace : workspace_of (table 4 (entry 6 (codes "workspace") (flag 18 true) ∷ []))
    ≡ Some (record { value = true; span = span 18 })
unfolding workspace_of
of_the_workspace = search (rules, the_lemmas)

not_of_the_workspace : workspace_of (table 4 (entry 6 (codes "workspace") (flag 18 false) ∷ []))
    ≡ Some (record { value = false; span = span 18 })
unfolding workspace_of
not_of_the_workspace = search (rules, the_lemmas)

-- x = { workspace = "true" }
no_flag : workspace_of (table 4 (entry 6 (codes "workspace") (text 18 (codes "true")) ∷ [])) ≡ None
unfolding workspace_of
no_flag = search (rules, the_lemmas)

-- x = true
a_flag_alone : workspace_of (flag 4 true) ≡ None
unfolding workspace_of
a_flag_alone = search (rules, the_lemmas)

-- x = { package = "y" }
renamed : rename_of (table 4 (entry 6 (codes "package") (text 16 (codes "y")) ∷ []))
    ≡ Some (record { value = codes "y"; span = span 16 })
unfolding rename_of
renamed = search (rules, the_lemmas)

-- x = "y"
a_text_is_no_name : rename_of (text 4 (codes "y")) ≡ None
unfolding rename_of
a_text_is_no_name = search (rules, the_lemmas)
