-- Worked cases of wildcards: which keys hold, and the messages.
use Rattle.std.proofs.Common.{◌≡◌, List, [], ◌∷◌, true, false, None, Some, codes, refl}
use Rattle.std.specs.Prelude.{⊤, ◌++◌}
use Rattle.deny_base.specs.declared.code.Code.TheVariants as code
use Rattle.deny_base.specs.declared.edge.DepKind.TheVariants.{Build, Dev}
use Rattle.deny_base.specs.declared.key.Key.{Key}
use Rattle.deny_base.specs.declared.level.LintLevel.TheVariants.{Allow, Deny, Warn}
use Rattle.deny_base.specs.declared.level.Severity.TheVariants as severity
use Rattle.deny_base.specs.declared.span.Kid.{Kid}
use Rattle.deny_spec.specs.Graph.{Any, Crate, Git}
use Rattle.deny_spec.specs.Groups.{is_marked, is_in_skipped_tree}
use Rattle.deny_spec.specs.Keys.{crate_key, key_of, no_span}
use Rattle.deny_spec.specs.Match.{matches}
use Rattle.deny_spec.specs.Policy.{Policy}
use Rattle.deny_spec.specs.DiagParts.{primary, secondary}
use Rattle.deny_spec.specs.View.{Declared, View, nothing_seen}
use Rattle.deny_spec_report.specs.Circumstances.{Circumstances, policy_alone, seen_in}
use Rattle.deny_spec_report.specs.EachCode.{message_as}
use Rattle.deny_spec_report.specs.MessageParts.{plainly}
use Rattle.deny_spec_report.specs.Wildcards.{is_allowed_path, is_asked, is_active_in, is_shared, is_unresolved}
use Rattle.deny_spec_report.specs.Wildcards.{is_wildcard}
use Rattle.deny_spec_report.specs.Wildcards.{labels_of_wildcard, paths_sentence, shared_labels, unresolved_key}
use Rattle.deny_spec_report.specs.Wildcards.{unresolved_keys, unresolved_keys_of, unresolved_labels}
use Rattle.deny_spec_report.specs.Wildcards.{unresolved_labels_in}
use Rattle.deny_spec_report.specs.Wildcards.{unresolved_labels_of_dep, unresolved_diag, wildcard_keys, wildcard_keys_of}
use Rattle.deny_spec_report.specs.Wildcards.{wildcard_label, wildcard_labels, wildcard_labels_in, wildcard_labels_of}
use Rattle.deny_spec_report.specs.Wildcards.{wildcard_message, wildcard_diag, wildcards_in, wildcards_of}
use Rattle.deny_spec_report.proofs.Cases.{all_count, app, entry_at, plain, span, root_of}
use Rattle.deny_spec_report.proofs.ManifestCases.{any_version, behind, entry_from, entry_with_version, from}
use Rattle.deny_spec_report.proofs.ManifestCases.{manifests_on_cases, not_sharing_it, of_kind, one_version, seeing}
use Rattle.deny_spec_report.proofs.ManifestCases.{sharing_it, sharing_x, with_version, written}

unfoldable pub checking : Policy
checking = record plain { wildcards = Deny }

-- a policy that checks wildcards and allows paths
unfoldable lenient : Policy
lenient = record checking { allow_wildcard_paths = true }

-- `app` is published nowhere, or in a registry alone
unfoldable private : Crate
private = record app { publish = Some [] }

unfoldable published : Crate
published = record app { publish = Some (codes "a" ∷ []) }

-- what a row unfolds
unfoldable pub wildcards_on_cases : ⊤
unfolding manifests_on_cases checking lenient private published key_of is_marked is_in_skipped_tree matches is_wildcard
    is_allowed_path is_active_in wildcards_in is_asked wildcards_of wildcard_keys_of is_shared is_unresolved
    unresolved_key unresolved_keys_of shared_labels wildcard_label labels_of_wildcard wildcard_labels_in
    wildcard_labels_of wildcard_labels paths_sentence wildcard_message wildcard_diag unresolved_labels_of_dep
    unresolved_labels_in unresolved_labels unresolved_diag message_as
wildcards_on_cases = tt

-- the keys of a first crate with these declarations, where all crates count
abbrev hold : Policy → Crate → List Declared → List Key
hold p first deps = wildcard_keys p (behind first) all_count (seeing deps)

-- the first crate has a wildcard that is reported
abbrev pub one_holds : List Key
one_holds = crate_key code.Wildcard 0 no_span ∷ []

-- ---- the level

at_deny : hold checking app (written any_version 1 10 ∷ []) ≡ one_holds
unfolding wildcards_on_cases
at_deny = refl

at_warn : hold (record checking { wildcards = Warn }) app (written any_version 1 10 ∷ []) ≡ one_holds
unfolding wildcards_on_cases
at_warn = refl

at_allow : hold (record checking { wildcards = Allow }) app (written any_version 1 10 ∷ []) ≡ []
unfolding wildcards_on_cases
at_allow = refl

-- ---- which crates are checked

-- a requirement with a version is no wildcard; one wildcard of several is enough, and the crate is reported once
by_version : hold checking app (written one_version 1 10 ∷ []) ≡ []
unfolding wildcards_on_cases
by_version = refl

reported_once : hold checking app (written one_version 1 10 ∷ written any_version 2 20 ∷ written any_version 3 30 ∷ [])
    ≡ one_holds
unfolding wildcards_on_cases
reported_once = refl

-- each crate whose manifest was read is checked, whether it is a member or not
of_a_folder : wildcard_keys checking (behind app) all_count (record (seeing []) {
  manifests = None ∷ None ∷ None ∷ (seeing (written any_version 1 10 ∷ [])).manifests;
}) ≡ crate_key code.Wildcard 3 no_span ∷ []
unfolding wildcards_on_cases
of_a_folder = refl

without_manifest : wildcard_keys checking (behind app) all_count (record (seeing []) { manifests = None ∷ [] }) ≡ []
unfolding wildcards_on_cases
without_manifest = refl

nothing_read : wildcard_keys checking (behind app) all_count nothing_seen ≡ []
unfolding wildcards_on_cases
nothing_read = refl

-- a skip that matches the crate, and one that does not
skipped : hold (record checking { skip = entry_at (codes "app") 29 ∷ [] }) app (written any_version 1 10 ∷ []) ≡ []
unfolding wildcards_on_cases
skipped = refl

another_skipped : hold (record checking { skip = entry_at (codes "x") 29 ∷ [] }) app (written any_version 1 10 ∷ [])
    ≡ one_holds
unfolding wildcards_on_cases
another_skipped = refl

-- a skipped tree in which the crate lies, and one in which it does not
with_tree : Policy
with_tree = record checking { skip_tree = root_of (codes "app") 20 ∷ [] }

in_a_tree : wildcard_keys with_tree (behind app) (record all_count { in_tree = λ t c. true })
    (seeing (written any_version 1 10 ∷ [])) ≡ []
unfolding wildcards_on_cases with_tree
in_a_tree = refl

in_no_tree : hold with_tree app (written any_version 1 10 ∷ []) ≡ one_holds
unfolding wildcards_on_cases with_tree
in_no_tree = refl

-- a crate that does not count is not checked
not_counting : wildcard_keys checking (behind app) (record all_count { counts = λ c. false })
    (seeing (written any_version 1 10 ∷ [])) ≡ []
unfolding wildcards_on_cases
not_counting = refl

-- a crate from a git repository is not checked
of_a_repository : hold checking (from (Git (codes "b") Any None) app) (written any_version 1 10 ∷ []) ≡ []
unfolding wildcards_on_cases
of_a_repository = refl

-- ---- which dependencies are passed over

-- a crate that depends on itself by a wildcard is not reported for it
itself : hold checking app (written any_version 0 10 ∷ []) ≡ []
unfolding wildcards_on_cases
itself = refl

-- a path dependency is reported where paths are not allowed, also in a private crate and as a dev dependency
without_leave : hold checking private (written (of_kind Dev any_version) 3 10 ∷ []) ≡ one_holds
unfolding wildcards_on_cases
without_leave = refl

-- a path dependency is reported where paths are allowed and the crate may be published, to whichever registry
in_a_public_crate : hold lenient app (written any_version 3 10 ∷ []) ≡ one_holds
unfolding wildcards_on_cases
in_a_public_crate = refl

in_a_published_crate : hold lenient published (written any_version 3 10 ∷ []) ≡ one_holds
unfolding wildcards_on_cases
in_a_published_crate = refl

in_a_private_crate : hold lenient private (written any_version 3 10 ∷ []) ≡ []
unfolding wildcards_on_cases
in_a_private_crate = refl

-- a dev dependency by a path is not reported where paths are allowed
as_dev : hold lenient app (written (of_kind Dev any_version) 3 10 ∷ []) ≡ []
unfolding wildcards_on_cases
as_dev = refl

as_build : hold lenient app (written (of_kind Build any_version) 3 10 ∷ []) ≡ one_holds
unfolding wildcards_on_cases
as_build = refl

-- a dependency from a git repository comes from no registry
needing_a_repository : hold lenient private (written any_version 4 10 ∷ []) ≡ []
unfolding wildcards_on_cases
needing_a_repository = refl

-- a dependency from any registry is reported, also in a private crate and as a dev dependency
needing_crates_io : hold lenient private (written (of_kind Dev any_version) 1 10 ∷ []) ≡ one_holds
unfolding wildcards_on_cases
needing_crates_io = refl

needing_a_registry : hold lenient private (written (of_kind Dev any_version) 2 10 ∷ []) ≡ one_holds
unfolding wildcards_on_cases
needing_a_registry = refl

needing_a_sparse_registry : hold lenient private (written (of_kind Dev any_version) 5 10 ∷ []) ≡ one_holds
unfolding wildcards_on_cases
needing_a_sparse_registry = refl

-- ---- shared declarations that resolve to no shared entry

abbrev unresolved : Policy → List Declared → List Key
unresolved p deps = unresolved_keys p (behind app) all_count (seeing deps)

no_entry : unresolved checking (sharing_it (written any_version 1 10) ∷ [])
    ≡ crate_key code.UnresolvedWorkspaceDependency 0 (span 10) ∷ []
unfolding wildcards_on_cases
no_entry = refl

-- the wildcard is reported too
beside_it : hold checking app (sharing_it (written any_version 1 10) ∷ []) ≡ one_holds
unfolding wildcards_on_cases
beside_it = refl

with_an_entry : unresolved_keys checking (behind app) all_count
    (sharing_x (entry_from 60) (seeing (sharing_it (written any_version 1 10) ∷ []))) ≡ []
unfolding wildcards_on_cases
with_an_entry = refl

-- a shared entry of another crate does not count
with_another_entry : unresolved_keys checking (behind app) all_count
    (sharing_x (entry_from 60) (seeing (sharing_it (written any_version 2 10) ∷ [])))
    ≡ crate_key code.UnresolvedWorkspaceDependency 0 (span 10) ∷ []
unfolding wildcards_on_cases
with_another_entry = refl

said_not_to_be : unresolved checking (not_sharing_it (written any_version 1 10) ∷ written any_version 2 20 ∷ []) ≡ []
unfolding wildcards_on_cases
said_not_to_be = refl

-- declarations with a version, and those that are allowed, are not reported as unresolved
sharing_a_version : unresolved checking (sharing_it (written one_version 1 10) ∷ []) ≡ []
unfolding wildcards_on_cases
sharing_a_version = refl

sharing_a_path : unresolved lenient (sharing_it (written (of_kind Dev any_version) 3 10) ∷ []) ≡ []
unfolding wildcards_on_cases
sharing_a_path = refl

unresolved_and_allowed : unresolved (record checking { wildcards = Allow }) (sharing_it (written any_version 1 10) ∷ [])
    ≡ []
unfolding wildcards_on_cases
unresolved_and_allowed = refl

unresolved_and_skipped : unresolved (record checking { skip = entry_at (codes "app") 29 ∷ [] })
    (sharing_it (written any_version 1 10) ∷ []) ≡ []
unfolding wildcards_on_cases
unresolved_and_skipped = refl

-- ---- messages

unfoldable app_kid : Kid
app_kid = record { 0 = codes "app" }

abbrev here : Policy → View → Circumstances
here p view = seen_in (policy_alone 3) p (behind app) view

-- the label is at the value, in the file of the manifest
reported_at_the_value : message_as code.Wildcard (here checking (seeing (written any_version 1 10 ∷ [])))
    (crate_key code.Wildcard 0 no_span)
    ≡ plainly severity.Error (codes "found 1 wildcard dependency for crate 'app'")
    (primary 4 (span 20) (codes "wildcard dependency") ∷ []) (Some app_kid)
unfolding wildcards_on_cases app_kid
reported_at_the_value = refl

-- the label is at the version, where the declaration has one
reported_at_the_version : message_as code.Wildcard
    (here (record checking { wildcards = Warn }) (seeing (with_version (written any_version 1 10) ∷ [])))
    (crate_key code.Wildcard 0 no_span)
    ≡ plainly severity.Warning (codes "found 1 wildcard dependency for crate 'app'")
    (primary 4 (span 40) (codes "wildcard dependency") ∷ []) (Some app_kid)
unfolding wildcards_on_cases app_kid
reported_at_the_version = refl

-- only wildcards that are not allowed have labels, in their order
reported_of_two : message_as code.Wildcard
    (here lenient (seeing (written any_version 2 110 ∷ written one_version 1 10 ∷ written (of_kind Dev any_version) 3 60
    ∷ written any_version 1 210 ∷ [])))
    (crate_key code.Wildcard 0 no_span)
    ≡ plainly severity.Error (codes "found 2 wildcard dependencies for crate 'app'. allow-wildcard-paths is enabled, "
    ++ codes "but does not apply to public crates as crates.io disallows path dependencies.")
    (primary 4 (span 120) (codes "wildcard dependency") ∷ primary 4 (span 220) (codes "wildcard dependency") ∷ [])
    (Some app_kid)
unfolding wildcards_on_cases app_kid
reported_of_two = refl

-- the shared entry has a label in the workspace's file, which the message counts too
reported_with_an_entry : message_as code.Wildcard
    (here checking (sharing_x (entry_from 60) (seeing (sharing_it (written any_version 1 10) ∷ []))))
    (crate_key code.Wildcard 0 no_span)
    ≡ plainly severity.Error (codes "found 2 wildcard dependencies for crate 'app'")
    (primary 4 (span 20) (codes "wildcard dependency") ∷ secondary 7 (span 70) (codes "workspace dependency") ∷ [])
    (Some app_kid)
unfolding wildcards_on_cases app_kid
reported_with_an_entry = refl

reported_with_its_version : message_as code.Wildcard
    (here checking (sharing_x (entry_with_version (entry_from 60))
    (seeing (sharing_it (written any_version 1 10) ∷ []))))
    (crate_key code.Wildcard 0 no_span)
    ≡ plainly severity.Error (codes "found 2 wildcard dependencies for crate 'app'")
    (primary 4 (span 20) (codes "wildcard dependency") ∷ secondary 7 (span 90) (codes "workspace dependency") ∷ [])
    (Some app_kid)
unfolding wildcards_on_cases app_kid
reported_with_its_version = refl

-- the shared entry has no label where the declaration is not shared, or where there is no entry
reported_without_saying : message_as code.Wildcard
    (here checking (sharing_x (entry_from 60) (seeing (written any_version 1 10 ∷ not_sharing_it (written any_version 1
    30) ∷ []))))
    (crate_key code.Wildcard 0 no_span)
    ≡ plainly severity.Error (codes "found 2 wildcard dependencies for crate 'app'")
    (primary 4 (span 20) (codes "wildcard dependency") ∷ primary 4 (span 40) (codes "wildcard dependency") ∷ [])
    (Some app_kid)
unfolding wildcards_on_cases app_kid
reported_without_saying = refl

reported_without_an_entry : message_as code.Wildcard
    (here checking (seeing (sharing_it (written any_version 1 10) ∷ []))) (crate_key code.Wildcard 0 no_span)
    ≡ plainly severity.Error (codes "found 1 wildcard dependency for crate 'app'")
    (primary 4 (span 20) (codes "wildcard dependency") ∷ []) (Some app_kid)
unfolding wildcards_on_cases app_kid
reported_without_an_entry = refl

-- an unresolved declaration has labels at the flag and at the value
reported_unresolved : message_as code.UnresolvedWorkspaceDependency
    (here checking (seeing (written any_version 2 110 ∷ sharing_it (written any_version 1 10) ∷ [])))
    (crate_key code.UnresolvedWorkspaceDependency 0 (span 10))
    ≡ plainly severity.Bug (codes "failed to resolve a workspace dependency")
    (primary 4 (span 30) (codes "usage of workspace dependency") ∷ secondary 4 (span 20) [] ∷ []) (Some app_kid)
unfolding wildcards_on_cases app_kid
reported_unresolved = refl
