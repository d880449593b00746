-- The labels of findings on manifests lie in the files of the manifests.
use Rattle.std.proofs.Common.{◌≡◌, ◌≢◌, ◌≤◌, ◌<◌, ◌∙◌, ℕ, Bool, true, false, List, [], ◌∷◌, ◌++◌, Contains, Option, None, Some}
use Rattle.std.proofs.Common.{arith, refl, subst, sym}
use Rattle.std.specs.Prelude.{IfSome, codes, filter, if◌then◌else◌, option_and_then, option_map, slice_get}
use Rattle.std.specs.Option.{option_map_or}
use Rattle.std.proofs.lemmas.List.Elements.{All-nil, All-cons, All-append}
use Rattle.std.proofs.lemmas.Option.{same_Some}
use Rattle.deny_base.specs.declared.files.File.{File}
use Rattle.deny_base.specs.declared.key.Key.{Key}
use Rattle.deny_base.specs.declared.label.Label.{Label}
use Rattle.deny_base.specs.declared.span.Span.{Span}
use Rattle.deny_base.specs.declared.span.Spanned.{Spanned}
use Rattle.deny_base_lists.proofs.Members.{Contains-from_flat_map, filtered, from_contains_map, no_member}
use Rattle.deny_spec.specs.Graph.{Crate, Graph}
use Rattle.deny_spec.specs.Policy.{Policy, Sharing}
use Rattle.deny_spec.specs.DiagParts.{crate_at, primary, secondary}
use Rattle.deny_spec.specs.View.{Declared, Manifest, View, WorkspaceEntry, manifest_of, shared_at}
use Rattle.deny_spec.specs.Wrappers.{same_span}
use Rattle.deny_toml.specs.Spans.{IsSpan}
use Rattle.deny_spec_report.specs.Sharing.{Use, all_uses, counts_here, declared_rename, entry_labels, entry_labels_in}
use Rattle.deny_spec_report.specs.Sharing.{entry_rename, entry_message, is_unshared, is_use_of, note_at, patched_note}
use Rattle.deny_spec_report.specs.Sharing.{renamed_entry_note, renamed_note, unshared_labels, unused_entry_diag}
use Rattle.deny_spec_report.specs.Sharing.{unused_entry_diag_by, unused_labels, unused_labels_in, unused_message}
use Rattle.deny_spec_report.specs.Sharing.{use_in}
use Rattle.deny_spec_report.specs.Sharing.{use_labels, uses_at, uses_in, uses_of}
use Rattle.deny_spec_report.specs.Sharing.{workspace_duplicate_labels, workspace_duplicate_diag}
use Rattle.deny_spec_report.specs.Sharing.{workspace_duplicate_diag_by}
use Rattle.deny_spec_report.specs.MessageParts.{not_built}
use Rattle.deny_spec_report.specs.Wildcards.{is_active_in, is_shared, labels_of_wildcard, shared_labels}
use Rattle.deny_spec_report.specs.Wildcards.{shared_span, unresolved_labels, unresolved_labels_in}
use Rattle.deny_spec_report.specs.Wildcards.{unresolved_labels_of_dep}
use Rattle.deny_spec_report.specs.Wildcards.{unresolved_diag, version_span, wildcard_label, wildcard_labels}
use Rattle.deny_spec_report.specs.Wildcards.{wildcard_labels_in, wildcard_labels_of, wildcard_diag, wildcards_in}
use Rattle.deny_spec_report.specs.Wildcards.{workspace_label, workspace_label_at}
use Rattle.deny_spans.specs.Spans.{DeclaredLies, EntryLies, ManifestLies, SharedLies, ViewLies}
use Rattle.deny_gate.specs.Labels.{ArePlaced, IsPlaced}
use Rattle.deny_gate.specs.Report.{policy_id}
use Rattle.deny_gate.proofs.Found.{all_flat, flat_there, of_found, of_option}

-- the span of an optional value, or else another
or_span : {T : Type 0} (text : List ℕ) (o : Option (Spanned T)) (value : Span) → IfSome o (λ s. IsSpan text s.span)
    → IsSpan text value → IsSpan text (option_map_or (λ s. s.span) o value)
or_span text None value there lies = lies
or_span text (Some s) value there lies = there

span_in : {T : Type 0} (text : List ℕ) (o : Option (Spanned T)) → IfSome o (λ s. IsSpan text s.span)
    → IfSome (option_map (λ s. s.span) o) (IsSpan text)
span_in text None lies = lies
span_in text (Some s) lies = lies

module _ (files : List File) where
  pub no_labels : ArePlaced files []
  no_labels = All-nil (IsPlaced files)

  -- ---- labels at spans of one file

  module _ (number : ℕ) (other : number ≢ policy_id) (file : File) (there : slice_get files number ≡ Some file) where
    placed_at : (label : Label) → label.file_id ≡ number → IsSpan file.source label.span → IsPlaced files label
    placed_at label at lies = record {
      file = file;
      there = subst (λ (n : ℕ). slice_get files n ≡ Some file) (sym at) there;
      span = lies;
      marked = λ in_policy. absurd (other (sym at ∙ in_policy));
    }

    pub first_label : (label : Label) (labels : List Label) → label.file_id ≡ number → IsSpan file.source label.span
        → ArePlaced files labels → ArePlaced files (label ∷ labels)
    first_label label labels at lies others =
        All-cons (IsPlaced files) label labels (placed_at label at lies) others

    note_placed : (message : List ℕ) (o : Option Span) → IfSome o (IsSpan file.source)
        → ArePlaced files (note_at number message o)
    note_placed message None lies = no_labels
    note_placed message (Some span) lies = first_label (secondary number span message) [] refl lies no_labels

    -- the labels of an entry that the workspace shares: at its key, and at its patch and its rename
    entry_placed : (label : Label) (message : List ℕ) (e : WorkspaceEntry) → label.file_id ≡ number → label.span ≡ e.key
        → EntryLies file.source e
        → ArePlaced files (label ∷ (note_at number patched_note e.patched ++ note_at number message (entry_rename e)))
    entry_placed label message e at key lies =
        let patched = note_at number patched_note e.patched in
        let renamed = note_at number message (entry_rename e) in
        first_label label (patched ++ renamed) at (subst (IsSpan file.source) (sym key) lies.key)
        (All-append (IsPlaced files) patched renamed (note_placed patched_note e.patched lies.patched)
        (note_placed message (entry_rename e) (span_in file.source e.rename lies.rename)))

  module _ (view : View) (first : ℕ) (past : policy_id < first) (lies : ViewLies first files view) where
    -- files behind the first ones are not the policy's
    not_policys : (number : ℕ) → first ≤ number → number ≢ policy_id
    not_policys number behind same = omega (arith, past, behind, same)

    -- ---- what the view holds

    manifest_lies : (c : Crate) (m : Manifest) → manifest_of view c ≡ Some m → ManifestLies first files m
    manifest_lies c m is = lies.manifests m (flat_there view.manifests c.place m is)

    shared_lies : (place : ℕ) (e : WorkspaceEntry) → shared_at view place ≡ Some e → SharedLies first files view.workspace e
    shared_lies place e is = lies.shared e (flat_there view.shared place e is)

    found_manifest : (o : Option Crate) (m : Manifest) → option_and_then (manifest_of view) o ≡ Some m
        → ManifestLies first files m
    found_manifest None m is = absurd (cc is)
    found_manifest (Some c) m is = manifest_lies c m is

    of_flag : (b : Bool) (labels : List Label) → ArePlaced files labels → ArePlaced files (if b then labels else [])
    of_flag true labels placed = placed
    of_flag false labels placed = no_labels

    -- labels at an entry lie in the file of the workspace's manifest
    in_workspace : (e : WorkspaceEntry) (labels : ℕ → List Label) → SharedLies first files view.workspace e
        → ((number : ℕ) → number ≢ policy_id → (file : File) → slice_get files number ≡ Some file
        → EntryLies file.source e
        → ArePlaced files (labels number)) → ArePlaced files (option_map_or labels view.workspace [])
    in_workspace e labels shared placed = of_option (ArePlaced files) labels view.workspace no_labels
        (λ number is. placed number
        (subst (λ (n : ℕ). n ≢ policy_id) (same_Some shared.number number (sym shared.in_file ∙ is))
        (not_policys shared.number shared.behind)) shared.file
        (subst (λ (n : ℕ). slice_get files n ≡ Some shared.file)
        (same_Some shared.number number (sym shared.in_file ∙ is)) shared.is) shared.entry)

    -- ---- wildcards

    workspace_placed : (e : WorkspaceEntry) → SharedLies first files view.workspace e
        → ArePlaced files (option_map_or (λ file. workspace_label file e) view.workspace [])
    workspace_placed e shared = in_workspace e (λ number. workspace_label number e) shared
        (λ number other file there entry.
        first_label number other file there (secondary number (shared_span e) (codes "workspace dependency")) [] refl
        (or_span file.source e.version e.value entry.version entry.value) no_labels)

    shared_placed : (d : Declared) → ArePlaced files (shared_labels view d)
    unfolding shared_labels
    shared_placed d = of_flag (is_shared d)
        (option_map_or (workspace_label_at view d.child) (shared_at view d.child) [])
        (of_option (ArePlaced files) (workspace_label_at view d.child) (shared_at view d.child) no_labels
        (λ e is. workspace_placed e (shared_lies d.child e is)))

    of_wildcard : (m : Manifest) (lie : ManifestLies first files m) (d : Declared) → Contains m.deps d
        → ArePlaced files (labels_of_wildcard view m.file d)
    unfolding labels_of_wildcard wildcard_label
    of_wildcard m lie d written =
        let at = lie.deps d written in
        first_label m.file (not_policys m.file lie.behind) lie.file lie.is (primary m.file (version_span d) (codes "wildcard dependency"))
        (shared_labels view d) refl (or_span lie.file.source d.version_req d.value at.version_req at.value)
        (shared_placed d)

    wildcards_placed : (p : Policy) (g : Graph) (key : Key) → ArePlaced files (wildcard_labels p g view key)
    unfolding wildcard_labels wildcard_labels_of wildcard_labels_in wildcards_in
    wildcards_placed p g key =
        of_option (ArePlaced files) (wildcard_labels_of p g view) (crate_at g key.place) no_labels (λ c here.
        of_option (ArePlaced files) (wildcard_labels_in p g view c) (manifest_of view c) no_labels (λ m is.
        all_flat (IsPlaced files) (labels_of_wildcard view m.file) (wildcards_in p g c m) (λ d at.
        of_wildcard m (manifest_lies c m is) d (filtered (is_active_in p g c) m.deps d at))))

    pub wildcard_placed : (p : Policy) (g : Graph) (key : Key) → ArePlaced files (wildcard_diag p g view key).labels
    unfolding wildcard_diag
    wildcard_placed p g key = wildcards_placed p g key

    -- ---- what the workspace does not share

    flag_placed : (number : ℕ) → number ≢ policy_id → (file : File) → slice_get files number ≡ Some file → (d : Declared)
        → DeclaredLies file.source d → ArePlaced files (unresolved_labels_of_dep number d)
    unfolding unresolved_labels_of_dep
    flag_placed number other file there d lie =
        let value = secondary number d.value [] in
        let flag : Spanned Bool → List Label =
        λ at. primary number at.span (codes "usage of workspace dependency") ∷ [] in
        All-append (IsPlaced files) (option_map_or flag d.workspace []) (value ∷ [])
        (of_option (ArePlaced files) flag d.workspace no_labels
        (λ at is. first_label number other file there (primary number at.span (codes "usage of workspace dependency")) [] refl
        (subst (λ (o : Option (Spanned Bool)). IfSome o (λ s. IsSpan file.source s.span)) is lie.workspace) no_labels))
        (first_label number other file there value [] refl lie.value no_labels)

    pub unresolved_placed : (g : Graph) (key : Key) → ArePlaced files (unresolved_diag g view key).labels
    unfolding unresolved_diag unresolved_labels unresolved_labels_in
    unresolved_placed g key = of_option (ArePlaced files) (unresolved_labels_in key.entry)
        (option_and_then (manifest_of view) (crate_at g key.place)) no_labels
        (λ m is. of_found (ArePlaced files) (unresolved_labels_of_dep m.file) (λ d. same_span d.key key.entry) m.deps
        no_labels (λ d written.
        let lie = found_manifest (crate_at g key.place) m is in
        flag_placed m.file (not_policys m.file lie.behind) lie.file lie.is d (lie.deps d written)))

    -- ---- what members declare

    declared_placed : (m : Manifest) (lie : ManifestLies first files m) (d : Declared) → Contains m.deps d
        → ArePlaced files (use_labels (use_in m d))
    unfolding use_labels use_in
    declared_placed m lie d written =
        let at = lie.deps d written in
        first_label m.file (not_policys m.file lie.behind) lie.file lie.is (primary m.file d.key [])
        (note_at m.file renamed_note (declared_rename d)) refl at.key
        (note_placed m.file (not_policys m.file lie.behind) lie.file lie.is renamed_note (declared_rename d)
        (span_in lie.file.source d.rename at.rename))

    of_manifest : (s : Sharing) (o : Option Manifest) → ((m : Manifest) → o ≡ Some m → ManifestLies first files m)
        → (used : Use) → Contains (option_map_or (uses_in s) o []) used → ArePlaced files (use_labels used)
    unfolding uses_in
    of_manifest s None lie used is = absurd (no_member used is)
    of_manifest s (Some m) lie used is =
        let of = from_contains_map (use_in m) (filter (counts_here s m) m.deps) used is in
        subst (λ (u : Use). ArePlaced files (use_labels u)) of.2
        (declared_placed m (lie m refl) of.0 (filtered (counts_here s m) m.deps of.0 of.1))

    use_placed : (s : Sharing) (g : Graph) (used : Use) → Contains (all_uses s g view) used
        → ArePlaced files (use_labels used)
    unfolding all_uses uses_at
    use_placed s g used is =
        let of = Contains-from_flat_map (uses_at s g view) g.members used is in
        let at = crate_at g of.from in
        of_manifest s (option_and_then (manifest_of view) at) (found_manifest at) used of.of

    uses_placed : (s : Sharing) (g : Graph) (place : ℕ) → ArePlaced files (unshared_labels (uses_of s g view place))
    unfolding unshared_labels
    uses_placed s g place =
        all_flat (IsPlaced files) use_labels (filter is_unshared (uses_of s g view place)) (λ used is.
        use_placed s g used (filtered (is_use_of place) (all_uses s g view) used
        (filtered is_unshared (uses_of s g view place) used is)))

    entry_there : (e : WorkspaceEntry) → SharedLies first files view.workspace e → ArePlaced files (entry_labels_in view e)
    unfolding entry_labels_in entry_labels
    entry_there e shared = in_workspace e (λ number. entry_labels number e) shared (λ number other file there entry.
        entry_placed number other file there (secondary number e.key (entry_message e)) renamed_entry_note e refl refl
        entry)

    duplicate_by : (g : Graph) (key : Key) (o : Option Sharing)
        → ArePlaced files (option_map_or (workspace_duplicate_diag_by g view key) o not_built).labels
    unfolding workspace_duplicate_diag_by workspace_duplicate_labels
    duplicate_by g key None = no_labels
    duplicate_by g key (Some s) =
        All-append (IsPlaced files) (option_map_or (entry_labels_in view) (shared_at view key.place) [])
        (unshared_labels (uses_of s g view key.place))
        (of_option (ArePlaced files) (entry_labels_in view) (shared_at view key.place) no_labels
        (λ e is. entry_there e (shared_lies key.place e is)))
        (uses_placed s g key.place)

    pub duplicate_placed : (p : Policy) (g : Graph) (key : Key)
        → ArePlaced files (workspace_duplicate_diag p g view key).labels
    unfolding workspace_duplicate_diag
    duplicate_placed p g key = duplicate_by g key p.sharing

    -- ---- entries that no crate comes from

    unused_by : (key : Key) (o : Option Sharing)
        → ArePlaced files (option_map_or (unused_entry_diag_by view key) o not_built).labels
    unfolding unused_entry_diag_by unused_labels_in unused_labels
    unused_by key None = no_labels
    unused_by key (Some s) =
        of_found (ArePlaced files) (unused_labels_in view) (λ e. same_span e.key key.entry) view.unused no_labels
        (λ e at. in_workspace e (λ number. unused_labels number e) (lies.unused e at) (λ number other file there entry.
        entry_placed number other file there (primary number e.key (unused_message e)) renamed_note e refl refl entry))

    pub unused_placed : (p : Policy) (key : Key) → ArePlaced files (unused_entry_diag p view key).labels
    unfolding unused_entry_diag
    unused_placed p key = unused_by key p.sharing
