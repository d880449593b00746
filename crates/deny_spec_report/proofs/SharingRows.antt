-- Worked cases of dependencies that a workspace shares: which keys hold, and the messages.
use Rattle.std.proofs.Common.{◌≡◌, ◌++◌, ℕ, List, [], ◌∷◌, true, false, None, Some, codes, refl}
use Rattle.std.specs.Prelude.{⊤}
use Rattle.deny_base.specs.Edge.{kind_number}
use Rattle.deny_base.specs.declared.code.Code.TheVariants as code
use Rattle.deny_base.specs.declared.edge.DepKind.TheVariants.{Build, Dev}
use Rattle.deny_base.specs.declared.key.Key.{Key}
use Rattle.deny_base.specs.declared.key.Section.TheVariants as section
use Rattle.deny_base.specs.declared.level.LintLevel.TheVariants.{Allow, Deny, Warn}
use Rattle.deny_base.specs.declared.level.Severity.TheVariants as severity
use Rattle.deny_base.specs.declared.span.Kid.{Kid}
use Rattle.deny_spec.specs.Graph.{Dependency}
use Rattle.deny_spec.specs.Keys.{key_of, no_span}
use Rattle.deny_spec.specs.Policy.{Policy, Sharing}
use Rattle.deny_spec.specs.DiagParts.{primary, secondary}
use Rattle.deny_spec.specs.View.{Declared, Manifest, View, WorkspaceEntry, nothing_seen}
use Rattle.deny_spec_report.specs.Circumstances.{Circumstances, policy_alone, seen_in}
use Rattle.deny_spec_report.specs.EachCode.{message_as}
use Rattle.deny_spec_report.specs.Sharing.{all_uses, counts_here, entry_labels, entry_labels_in, is_duplicated}
use Rattle.deny_spec_report.specs.Sharing.{is_left_out}
use Rattle.deny_spec_report.specs.Sharing.{is_unshared, is_use_of, none_shared, not_all_shared, patched_note}
use Rattle.deny_spec_report.specs.Sharing.{renamed_entry_note, renamed_note, unshared_labels, unused_entry_key}
use Rattle.deny_spec_report.specs.Sharing.{unused_entry_keys, unused_entry_keys_by, unused_entry_message}
use Rattle.deny_spec_report.specs.Sharing.{unused_entry_diag}
use Rattle.deny_spec_report.specs.Sharing.{unused_entry_diag_by, unused_labels, unused_labels_in, use_in, use_labels}
use Rattle.deny_spec_report.specs.Sharing.{uses_at}
use Rattle.deny_spec_report.specs.Sharing.{uses_in, workspace_duplicate_keys, workspace_duplicate_keys_by}
use Rattle.deny_spec_report.specs.Sharing.{workspace_duplicate_keys_of, workspace_duplicate_labels}
use Rattle.deny_spec_report.specs.Sharing.{workspace_duplicate_message, workspace_duplicate_diag}
use Rattle.deny_spec_report.specs.Sharing.{workspace_duplicate_diag_by}
use Rattle.deny_spec_report.specs.MessageParts.{plainly}
use Rattle.deny_spec_report.proofs.Cases.{app, plain, span}
use Rattle.deny_spec_report.proofs.ManifestCases.{any_version, behind, entry_from, entry_patched, entry_with_rename}
use Rattle.deny_spec_report.proofs.ManifestCases.{manifest_in, manifests_on_cases, not_sharing_it, of_kind, one_version}
use Rattle.deny_spec_report.proofs.ManifestCases.{sharing_it, sharing_x, two_members, with_rename, written}

unfoldable pub strict : Sharing
strict = record { duplicates = Deny; with_paths = false; unused = Warn }

unfoldable pub by : Sharing → Policy
by s = record plain { sharing = Some s }

-- what two members write, `app` in file 4 and `z` in file 5
unfoldable both_seen : Manifest → Manifest → View
both_seen of_app of_z = record nothing_seen {
  manifests = Some of_app ∷ None ∷ None ∷ Some of_z ∷ [];
  workspace = Some 7;
}

unfoldable both : List Declared → List Declared → View
both of_app of_z = both_seen (manifest_in 4 of_app) (manifest_in 5 of_z)

-- what a row unfolds
unfoldable pub sharing_on_cases : ⊤
unfolding manifests_on_cases strict by both_seen both key_of kind_number is_left_out counts_here use_in uses_in uses_at
    all_uses is_use_of is_unshared is_duplicated workspace_duplicate_keys_of workspace_duplicate_keys_by
    unused_entry_key unused_entry_keys_by patched_note renamed_entry_note renamed_note entry_labels entry_labels_in
    use_labels unshared_labels workspace_duplicate_labels not_all_shared none_shared workspace_duplicate_message
    workspace_duplicate_diag_by workspace_duplicate_diag unused_labels unused_labels_in unused_entry_message
    unused_entry_diag_by unused_entry_diag message_as
sharing_on_cases = tt

-- ---- crates that several declarations resolve to

abbrev hold : Sharing → View → List Key
hold s view = workspace_duplicate_keys (by s) two_members view

unfoldable key_at : ℕ → Key
key_at place = key_of section.Workspace code.WorkspaceDuplicate place no_span 0

abbrev x_holds : List Key
x_holds = key_at 1 ∷ []

one_declaration : hold strict (both (written any_version 1 10 ∷ []) []) ≡ []
unfolding sharing_on_cases
one_declaration = refl

one_each : hold strict (both (written any_version 1 10 ∷ []) (written one_version 1 20 ∷ [])) ≡ x_holds
unfolding sharing_on_cases key_at
one_each = refl

two_in_one : hold strict (both [] (written any_version 1 10 ∷ written one_version 1 20 ∷ [])) ≡ x_holds
unfolding sharing_on_cases key_at
two_in_one = refl

-- two crates that are declared several times have a key each
one_of_each : hold strict (both (written any_version 1 10 ∷ []) (written any_version 2 20 ∷ [])) ≡ []
unfolding sharing_on_cases
one_of_each = refl

two_of_each : hold strict
    (both (written any_version 2 10 ∷ written any_version 1 20 ∷ [])
    (written any_version 1 10 ∷ written any_version 2 20 ∷ [])) ≡ key_at 1 ∷ key_at 2 ∷ []
unfolding sharing_on_cases key_at
two_of_each = refl

-- a declaration that does not say whether the workspace declares the dependency is enough, and needed
one_shares : hold strict (both (sharing_it (written any_version 1 10) ∷ []) (written any_version 1 20 ∷ []))
    ≡ x_holds
unfolding sharing_on_cases key_at
one_shares = refl

one_does_not : hold strict (both (not_sharing_it (written any_version 1 10) ∷ []) (written any_version 1 20 ∷ []))
    ≡ x_holds
unfolding sharing_on_cases key_at
one_does_not = refl

both_share : hold strict
    (both (sharing_it (written any_version 1 10) ∷ []) (sharing_it (written any_version 1 20) ∷ [])) ≡ []
unfolding sharing_on_cases
both_share = refl

neither_shares : hold strict
    (both (not_sharing_it (written any_version 1 10) ∷ []) (not_sharing_it (written any_version 1 20) ∷ [])) ≡ []
unfolding sharing_on_cases
neither_shares = refl

-- declarations by a path count where the policy says so
by_path : Dependency
by_path = record any_version { path = Some (codes "/z") }

without_paths : hold strict (both (written by_path 1 10 ∷ []) (written any_version 1 20 ∷ [])) ≡ []
unfolding sharing_on_cases by_path
without_paths = refl

with_paths : hold (record strict { with_paths = true })
    (both (written by_path 1 10 ∷ []) (written any_version 1 20 ∷ [])) ≡ x_holds
unfolding sharing_on_cases by_path key_at
with_paths = refl

-- kinds that a manifest leaves out, of its own declarations
kind_left_out : hold strict
    (both_seen (record (manifest_in 4 (written (of_kind Dev any_version) 1 10 ∷ [])) { ignored = Build ∷ Dev ∷ [] })
    (manifest_in 5 (written any_version 1 20 ∷ []))) ≡ []
unfolding sharing_on_cases
kind_left_out = refl

another_kind_left_out : hold strict
    (both_seen (record (manifest_in 4 (written any_version 1 10 ∷ [])) { ignored = Build ∷ Dev ∷ [] })
    (record (manifest_in 5 (written any_version 1 20 ∷ [])) { ignored = Build ∷ [] })) ≡ x_holds
unfolding sharing_on_cases key_at
another_kind_left_out = refl

-- a workspace of one member shares nothing, and what is no member declares nothing for it
one_member : workspace_duplicate_keys (by strict) (behind app)
    (both (written any_version 1 10 ∷ written any_version 1 20 ∷ []) []) ≡ []
unfolding sharing_on_cases
one_member = refl

no_member : workspace_duplicate_keys (by strict) (record two_members { members = 0 ∷ 1 ∷ [] })
    (both (written any_version 1 10 ∷ []) (written any_version 1 20 ∷ [])) ≡ []
unfolding sharing_on_cases
no_member = refl

-- what was not read declares nothing
one_unread : hold strict
    (record nothing_seen { manifests = Some (manifest_in 4 (written any_version 1 10 ∷ [])) ∷ [] })
    ≡ []
unfolding sharing_on_cases
one_unread = refl

-- a shared entry of the crate makes no difference
of_an_entry : hold strict
    (sharing_x (entry_from 60) (both (written any_version 1 10 ∷ []) (written one_version 1 20 ∷ []))) ≡ x_holds
unfolding sharing_on_cases key_at
of_an_entry = refl

-- ---- the levels

active_at : Sharing → List Key
active_at s = hold s (both (written any_version 1 10 ∷ []) (written any_version 1 20 ∷ []))

at_warn : active_at (record strict { duplicates = Warn }) ≡ x_holds
unfolding sharing_on_cases key_at active_at
at_warn = refl

at_allow : active_at (record strict { duplicates = Allow }) ≡ []
unfolding sharing_on_cases active_at
at_allow = refl

-- a policy that does not check what a workspace shares
inactive : workspace_duplicate_keys plain two_members
    (both (written any_version 1 10 ∷ []) (written any_version 1 20 ∷ [])) ≡ []
unfolding sharing_on_cases
inactive = refl

-- ---- entries that no crate comes from

unfoldable pub two_unused : View
two_unused = record nothing_seen { workspace = Some 7; unused = entry_from 60 ∷ entry_from 160 ∷ [] }

unfoldable pub unused_at : ℕ → Key
unused_at start = key_of section.Workspace code.UnusedWorkspaceDependency 0 (span start) 0

each_unused : unused_entry_keys (by strict) two_unused ≡ unused_at 60 ∷ unused_at 160 ∷ []
unfolding sharing_on_cases two_unused unused_at
each_unused = refl

unused_at_deny : unused_entry_keys (by (record strict { unused = Deny })) two_unused ≡ unused_at 60 ∷ unused_at 160 ∷ []
unfolding sharing_on_cases two_unused unused_at
unused_at_deny = refl

unused_at_allow : unused_entry_keys (by (record strict { unused = Allow })) two_unused ≡ []
unfolding sharing_on_cases two_unused
unused_at_allow = refl

unused_and_inactive : unused_entry_keys plain two_unused ≡ []
unfolding sharing_on_cases
unused_and_inactive = refl

-- ---- the message of a crate that is declared several times

unfoldable x_kid : Kid
x_kid = record { 0 = codes "x" }

abbrev here : Sharing → View → Circumstances
here s view = seen_in (policy_alone 3) (by s) two_members view

-- a label at each key, by members and in the order of each, in the file of its manifest
reported_without_an_entry : message_as code.WorkspaceDuplicate
    (here strict (both (written any_version 1 110 ∷ written any_version 2 60 ∷ written one_version 1 10 ∷ [])
    (written any_version 1 20 ∷ []))) (key_at 1)
    ≡ plainly severity.Error (codes "crate x = 1.0.0 is used 3 times in the workspace, "
    ++ codes "and there is no shared workspace dependency for it")
    (primary 4 (span 110) [] ∷ primary 4 (span 10) [] ∷ primary 5 (span 20) [] ∷ []) (Some x_kid)
unfolding sharing_on_cases key_at x_kid
reported_without_an_entry = refl

-- declarations that say whether the workspace declares them are counted, and have no label; nor has what is left out
reported_with_an_entry : message_as code.WorkspaceDuplicate
    (here (record strict { duplicates = Warn }) (sharing_x (entry_from 60)
    (both (sharing_it (written any_version 1 110) ∷ not_sharing_it (written any_version 1 10) ∷ [])
    (written any_version 1 20 ∷ written (record any_version { path = Some [] }) 1 220 ∷ [])))) (key_at 1)
    ≡ plainly severity.Warning (codes "crate x = 1.0.0 is used 3 times in the workspace, "
    ++ codes "but not all declarations use the shared workspace dependency")
    (secondary 7 (span 60) (codes "workspace dependency") ∷ primary 5 (span 20) [] ∷ []) (Some x_kid)
unfolding sharing_on_cases key_at x_kid
reported_with_an_entry = refl

-- what is patched and renamed has labels of its own
reported_with_all : message_as code.WorkspaceDuplicate
    (here strict (sharing_x (entry_patched (entry_with_rename (entry_from 60)))
    (both (with_rename (written any_version 1 110) ∷ []) (with_rename (written any_version 1 10) ∷ [])))) (key_at 1)
    ≡ plainly severity.Error (codes "crate x = 1.0.0 is used 2 times in the workspace, "
    ++ codes "but not all declarations use the shared workspace dependency")
    (secondary 7 (span 60) (codes "patched workspace dependency")
    ∷ secondary 7 (span 110) (codes "note this is the original dependency that is patched")
    ∷ secondary 7 (span 100) (codes "note the workspace dependency is renamed")
    ∷ primary 4 (span 110) [] ∷ secondary 4 (span 150) (codes "note the dependency is renamed")
    ∷ primary 5 (span 10) [] ∷ secondary 5 (span 50) (codes "note the dependency is renamed") ∷ []) (Some x_kid)
unfolding sharing_on_cases key_at x_kid
reported_with_all = refl

-- ---- the message of an unused entry

abbrev of_unused : WorkspaceEntry → Circumstances
of_unused e = here strict (record two_unused { unused = entry_from 160 ∷ e ∷ [] })

reported_unused : message_as code.UnusedWorkspaceDependency (of_unused (entry_from 60)) (unused_at 60)
    ≡ plainly severity.Warning (codes "workspace dependency is declared, but unused")
    (primary 7 (span 60) (codes "unused workspace dependency") ∷ []) None
unfolding sharing_on_cases two_unused unused_at
reported_unused = refl

reported_unused_and_patched : message_as code.UnusedWorkspaceDependency (of_unused (entry_patched (entry_from 60)))
    (unused_at 60)
    ≡ plainly severity.Warning (codes "workspace dependency is declared, but unused")
    (primary 7 (span 60) (codes "unused and patched workspace dependency")
    ∷ secondary 7 (span 110) (codes "note this is the original dependency that is patched") ∷ []) None
unfolding sharing_on_cases two_unused unused_at
reported_unused_and_patched = refl

reported_unused_and_renamed : message_as code.UnusedWorkspaceDependency (of_unused (entry_with_rename (entry_from 60)))
    (unused_at 60)
    ≡ plainly severity.Warning (codes "workspace dependency is declared, but unused")
    (primary 7 (span 60) (codes "unused workspace dependency")
    ∷ secondary 7 (span 100) (codes "note the dependency is renamed") ∷ []) None
unfolding sharing_on_cases two_unused unused_at
reported_unused_and_renamed = refl

reported_unused_at_deny : (message_as code.UnusedWorkspaceDependency (here (record strict { unused = Deny }) two_unused)
    (unused_at 160)) ≡ plainly severity.Error (codes "workspace dependency is declared, but unused")
    (primary 7 (span 160) (codes "unused workspace dependency") ∷ []) None
unfolding sharing_on_cases two_unused unused_at
reported_unused_at_deny = refl
