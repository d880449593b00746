-- The keys of all rules on manifests.
use Rattle.std.specs.Prelude.{◌⊎◌, Contains}
use Rattle.deny_base.specs.declared.key.Key.{Key}
use Rattle.deny_spec_report.specs.Sharing.{unused_entry_keys, workspace_duplicate_keys}
use Rattle.deny_spec_report.specs.Wildcards.{unresolved_keys, wildcard_keys}
use Rattle.deny_spec.specs.Facts.{Facts}
use Rattle.deny_spec.specs.Graph.{Graph}
use Rattle.deny_spec.specs.Policy.{Policy}
use Rattle.deny_spec.specs.View.{View}

-- the key is one of a rule on manifests
abbrev pub IsOfManifests : Policy → Graph → Facts → View → Key → Type 0
IsOfManifests p g facts view key = Contains (wildcard_keys p g facts view) key
    ⊎ (Contains (unresolved_keys p g facts view) key
    ⊎ (Contains (workspace_duplicate_keys p g view) key
    ⊎ Contains (unused_entry_keys p view) key))
