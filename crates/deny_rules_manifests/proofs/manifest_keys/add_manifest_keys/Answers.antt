use Rattle.std.proofs.Common.{◌⊎◌, inl, inr}
use Rattle.std.specs.Prelude.{Contains}
use Rattle.std.proofs.lemmas.Result.{on_ok_weaker}
use Rattle.deny_base.specs.declared.key.Key.{Key}
use Rattle.deny_cfg.specs.PolicyView.{policy_view}
use Rattle.deny_spec_report.specs.Sharing.{unused_entry_keys, workspace_duplicate_keys}
use Rattle.deny_spec_report.specs.Wildcards.{unresolved_keys, wildcard_keys}
use Rattle.deny_rules_match.specs.Marks.{facts_of}
use Rattle.deny_base_lists.proofs.Adding.{adds_list, adds_same, adds_then}
use Rattle.deny_spans.specs.SpansView.{spans_view}
use Rattle.deny_rules_manifests.specs.ManifestKeys.{IsOfManifests}
use Rattle.deny_rules_manifests.proofs.manifest_keys.add_manifest_keys.Goals as goal

pub returns : goal.returns
returns c =
    let p = policy_view c.args.found.now.cfg.now in
    let g = c.args.found.now.krates.now in
    let facts = facts_of c.args.found.now.marks in
    let view = spans_view c.args.spans.now in
    let at0 = c.args.keys.now in
    let at1 = c.add_wildcard_keys.new.keys in
    let at2 = c.add_duplicate_keys.new.keys in
    let at3 = c.add_unused_keys.new.keys in
    let Wild = λ (key : Key). Contains (wildcard_keys p g facts view) key
    ⊎ Contains (unresolved_keys p g facts view) key in
    let Shared = λ (key : Key). Contains (workspace_duplicate_keys p g view) key
    ⊎ Contains (unused_entry_keys p view) key in
    on_ok_weaker c.add_unused_keys.result
    (λ last. adds_same (λ key. Wild key ⊎ Shared key) (IsOfManifests p g facts view) at0 at3
    (adds_then Wild Shared at0 at1 at3 c.in_ok-add_wildcard_keys.ensures
    (adds_then (Contains (workspace_duplicate_keys p g view)) (Contains (unused_entry_keys p view)) at1 at2 at3
    (adds_list at1 at2 (workspace_duplicate_keys p g view) (c.in_ok-add_duplicate_keys.ensures view c.requires.uses))
    (adds_list at2 at3 (unused_entry_keys p view) last)))
    (λ key is. elim is as (λ _. IsOfManifests p g facts view key) [
      | inl wild ↦ elim wild as (λ _. IsOfManifests p g facts view key) [ inl one ↦ inl one | inr two ↦ inr (inl two) ]
      | inr shared ↦ inr (inr shared)
    ])
    (λ key is. elim is as (λ _. Wild key ⊎ Shared key) [
      | inl one ↦ inl (inl one)
      | inr rest ↦ elim rest as (λ _. Wild key ⊎ Shared key) [ inl two ↦ inl (inr two) | inr shared ↦ inr shared ]
    ])) c.add_unused_keys.ensures
