-- The spans of what is read of a tree lie in its text: of entries of tables, of declarations, and of what a workspace
-- shares.
use Rattle.std.proofs.Common.{◌∷◌, [], ℕ, Bool, true, false, List, Option, None, Some, cond}
use Rattle.std.specs.Prelude.{IfSome, codes, find, option_map, unwrap_or}
use Rattle.std.specs.List.{AllByRecursion, enumerate_from, flat_map}
use Rattle.std.specs.Option.{option_and_then, option_map_or}
use Rattle.deny_base.specs.declared.span.Span.{Span}
use Rattle.deny_base_lists.proofs.Each.{all_append, all_flat, all_found, all_given, all_mapped, all_weaker}
use Rattle.deny_spans_manifest.specs.Declarations.{declared_at, declared_by, declared_in}
use Rattle.deny_spans_manifest.specs.Found.{rename_of, requirement_in, spanned_in, version_of, versioned, workspace_of}
use Rattle.deny_spans_manifest.specs.Written.{Written, declares, entries_at, entries_of as entries_below, entry_in}
use Rattle.deny_spans_manifest.specs.Written.{found_in}
use Rattle.deny_spans_manifest.specs.Written.{kinds, of_target, section_in, section_name, sections_in, written_in}
use Rattle.deny_spans_manifest.specs.Written.{written_with}
use Rattle.deny_spec.specs.Graph.{Crate, Dependency, Graph}
use Rattle.deny_spec.specs.Resolution.{resolution}
use Rattle.deny_spans.specs.Spans.{DeclaredLies, EntryLies, IsPlaced}
use Rattle.deny_toml.specs.Calls.{Layer, below_name, bool_in, entry_at, has_name, layer_in, table_in, table_of, text_in}
use Rattle.deny_toml.specs.Key.{Key}
use Rattle.deny_toml.specs.Spans.{AllOfContent, AllOfEntries, AllOfValue, IsSpan, KeyOccurs, OccursIn, ValueOccurs}
use Rattle.deny_toml.specs.Value.{entries_in, span_in}
use Rattle.deny_toml.specs.value.Table.{Table}
use Rattle.deny_toml.specs.value.Value.{Value}
use Rattle.deny_spans_workspace.specs.Entries.{SharedEntry, dependencies_in, entries_of, entry_of, keys_in}
use Rattle.deny_spans_workspace.specs.Entries.{may_be_patched}
use Rattle.deny_spans_workspace.specs.Entries.{patch_from, patch_of, patched_entry, patches_in, replaced_by}
use Rattle.deny_spans_workspace.specs.Entries.{table_below}
use Rattle.deny_spans_workspace.specs.ManifestKey.{name_of}
use Rattle.deny_spans_workspace.specs.Origin.{origin_in, value_at_key}
use Rattle.deny_spans_workspace.specs.DepSpec.{DepSpec, is_readable, dep_spec_from, dep_spec_in}
use Rattle.deny_spans_workspace.specs.Workspace.{entries_in as shared_in, resolved_entry}
use Rattle.deny_spans_workspace.specs.declared.manifest_key.ManifestKey.{ManifestKey}
use Rattle.deny_spans_workspace.specs.declared.manifest_key.ManifestKey.TheVariants as key
use Rattle.deny_spans_workspace.specs.declared.registries.Registry.{Registry}

all_trivial : {X : Type 0} (xs : List X) → AllByRecursion (λ _. Unit {0}) xs
all_trivial [] = tt
all_trivial (x ∷ xs) = (tt, all_trivial xs)

module _ (text : List ℕ) where
  -- ---- values and entries

  abbrev Value_holds : Value → Type 0
  Value_holds v = OccursIn text v

  record Entry_holds (e : Key × Value) : Type 0 where
    key : KeyOccurs text e.0
    value : OccursIn text e.1

  value_lies : (v : Value) → OccursIn text v → IsSpan text (span_in v)
  value_lies _ (AllOfValue.value v here below) = here.lies

  content_of : (v : Value) → OccursIn text v → AllOfContent (KeyOccurs text) (ValueOccurs text) (layer_in v)
  content_of _ (AllOfValue.value v here below) = below

  each_entry : (es : List (Key × Value)) → AllOfEntries (KeyOccurs text) (ValueOccurs text) es
      → AllByRecursion Entry_holds es
  each_entry _ AllOfEntries.no_entries = tt
  each_entry _ (AllOfEntries.entries k v more named here rest) =
      (record { key = named; value = here }, each_entry more rest)

  layer_entries : (l : Layer) → AllOfContent (KeyOccurs text) (ValueOccurs text) l
      → AllByRecursion Entry_holds (option_map_or entries_in (table_of l) [])
  layer_entries _ (AllOfContent.scalar_content s) = tt
  layer_entries _ (AllOfContent.array_content vs all) = tt
  layer_entries _ (AllOfContent.table_content t all) = each_entry (entries_in t) all

  entries_hold : (v : Value) → OccursIn text v → AllByRecursion Entry_holds (option_map_or entries_in (table_in v) [])
  entries_hold v holds = layer_entries (layer_in v) (content_of v holds)

  below_holds : (name : List ℕ) (v : Value) → OccursIn text v → IfSome (below_name name v) Value_holds
  below_holds name v holds = by_table (table_in v) (entries_hold v holds)
    where
      of_entry : (o : Option (Key × Value)) → IfSome o Entry_holds → IfSome (option_map (λ e. e.1) o) Value_holds
      of_entry None is = tt
      of_entry (Some e) is = is.value

      by_table : (o : Option Table) → AllByRecursion Entry_holds (option_map_or entries_in o [])
          → IfSome (option_and_then (λ t. option_map (λ e. e.1) (entry_at name (entries_in t))) o) Value_holds
      by_table None all = tt
      by_table (Some t) all = of_entry (entry_at name (entries_in t))
          (all_found Entry_holds (has_name name) (entries_in t) all)

  -- ---- what is read of a value

  spanned_lies : {A : Type 0} (read : Value → Option A) (v : Value) → OccursIn text v
      → IsPlaced text (spanned_in read v)
  spanned_lies {A} read v holds = by_read (read v)
    where
      by_read : (o : Option A) → IsPlaced text (option_map (λ thing. record { value = thing; span = span_in v }) o)
      by_read None = tt
      by_read (Some thing) = value_lies v holds

  below_lies : {A : Type 0} (read : Value → Option A) (name : List ℕ) (v : Value) → OccursIn text v
      → IsPlaced text (option_and_then (spanned_in read) (below_name name v))
  below_lies read name v holds = by_value (below_name name v) (below_holds name v holds)
    where
      by_value : (o : Option Value) → IfSome o Value_holds → IsPlaced text (option_and_then (spanned_in read) o)
      by_value None is = tt
      by_value (Some w) is = spanned_lies read w is

  rename_lies : (v : Value) → OccursIn text v → IsPlaced text (rename_of v)
  unfolding rename_of
  rename_lies v holds = below_lies text_in (codes "package") v holds

  workspace_lies : (v : Value) → OccursIn text v → IsPlaced text (workspace_of v)
  unfolding workspace_of
  workspace_lies v holds = below_lies bool_in (codes "workspace") v holds

  version_lies : (v : Value) → OccursIn text v → IsPlaced text (version_of v)
  unfolding version_of versioned
  version_lies v holds = spanned_lies requirement_in (unwrap_or (below_name (codes "version") v) v)
      (by_value (below_name (codes "version") v) (below_holds (codes "version") v holds))
    where
      by_value : (o : Option Value) → IfSome o Value_holds → OccursIn text (unwrap_or o v)
      by_value None is = holds
      by_value (Some w) is = is

  -- ---- declarations

  abbrev Written_holds : Written → Type 0
  Written_holds w = Entry_holds (entry_in w)

  entries_at_hold : (name : List ℕ) (v : Value) → OccursIn text v → AllByRecursion Entry_holds (entries_at name v)
  unfolding entries_below
  entries_at_hold name v holds = by_entry (entry_at name (entries_below v))
      (all_found Entry_holds (has_name name) (entries_below v) (entries_hold v holds))
    where
      by_entry : (o : Option (Key × Value)) → IfSome o Entry_holds
          → AllByRecursion Entry_holds (option_map_or (λ e. entries_below e.1) o [])
      by_entry None is = tt
      by_entry (Some e) is = entries_hold e.1 is.value

  sections_hold : (target : Option (List ℕ)) (v : Value) → OccursIn text v
      → AllByRecursion Written_holds (sections_in target v)
  unfolding sections_in
  sections_hold target v holds = all_flat (λ _. Unit {0}) Written_holds (section_in target v)
      (λ kind _. all_mapped Written_holds (written_with target kind) (entries_at (section_name kind) v)
      (entries_at_hold (section_name kind) v holds)) kinds (all_trivial kinds)

  written_hold : (tree : Value) → OccursIn text tree → AllByRecursion Written_holds (written_in tree)
  unfolding written_in
  written_hold tree holds = all_append Written_holds (sections_in None tree)
      (flat_map of_target (entries_at (codes "target") tree)) (sections_hold None tree holds)
      (all_flat Entry_holds Written_holds of_target (λ e is. sections_hold (Some e.0.name) e.1 is.value)
      (entries_at (codes "target") tree) (entries_at_hold (codes "target") tree holds))

  found_holds : (agrees : List ℕ → List ℕ → Bool) (tree : Value) (d : Dependency) → OccursIn text tree
      → IfSome (found_in agrees tree d) Entry_holds
  unfolding found_in
  found_holds agrees tree d holds = by_written (find (declares agrees d) (written_in tree))
      (all_found Written_holds (declares agrees d) (written_in tree) (written_hold tree holds))
    where
      by_written : (o : Option Written) → IfSome o Written_holds → IfSome (option_map entry_in o) Entry_holds
      by_written None is = tt
      by_written (Some w) is = is

  declared_lies : (index : ℕ) (d : Dependency) (child : ℕ) (e : Key × Value) → Entry_holds e
      → DeclaredLies text (declared_by index d child e)
  declared_lies index d child e is = record {
    key = is.key.lies;
    value = value_lies e.1 is.value;
    version_req = version_lies e.1 is.value;
    workspace = workspace_lies e.1 is.value;
    rename = rename_lies e.1 is.value;
  }

  declared_at_lies : (agrees : List ℕ → List ℕ → Bool) (g : Graph) (place : ℕ) (tree : Value)
      (numbered : ℕ × Dependency) → OccursIn text tree
      → IfSome (declared_at agrees g place tree numbered) (DeclaredLies text)
  unfolding declared_at
  declared_at_lies agrees g place tree numbered holds = by_child (resolution g place numbered.1)
    where
      by_found : (child : ℕ) (o : Option (Key × Value)) → IfSome o Entry_holds
          → IfSome (option_map (declared_by numbered.0 numbered.1 child) o) (DeclaredLies text)
      by_found child None is = tt
      by_found child (Some e) is = declared_lies numbered.0 numbered.1 child e is

      by_child : (o : Option ℕ) → IfSome (option_and_then
          (λ child. option_map (declared_by numbered.0 numbered.1 child) (found_in agrees tree numbered.1)) o)
          (DeclaredLies text)
      by_child None = tt
      by_child (Some child) = by_found child (found_in agrees tree numbered.1)
          (found_holds agrees tree numbered.1 holds)

  -- the spans of a manifest's declarations lie in its text
  pub declarations_lie : (agrees : List ℕ → List ℕ → Bool) (g : Graph) (c : Crate) (tree : Value) → OccursIn text tree
      → AllByRecursion (DeclaredLies text) (declared_in agrees g c tree)
  unfolding declared_in
  declarations_lie agrees g c tree holds = all_given (λ _. Unit {0}) (DeclaredLies text)
      (declared_at agrees g c.place tree) (λ numbered _. declared_at_lies agrees g c.place tree numbered holds)
      (enumerate_from 0 c.deps) (all_trivial (enumerate_from 0 c.deps))

  -- ---- what a workspace shares

  record Spec_lies (w : DepSpec) : Type 0 where
    version : IsPlaced text w.version
    rename : IsPlaced text w.rename

  spec_lies : (v : Value) → OccursIn text v → IfSome (dep_spec_in v) Spec_lies
  unfolding dep_spec_in
  spec_lies v holds = by_test (is_readable v)
    where
      by_origin : (o : Option _) → IfSome (option_map (dep_spec_from v) o) Spec_lies
      by_origin None = tt
      by_origin (Some origin) = record { version = version_lies v holds; rename = rename_lies v holds }

      by_test : (b : Bool) → IfSome (cond b (option_map (dep_spec_from v) (origin_in v)) None) Spec_lies
      by_test true = by_origin (origin_in v)
      by_test false = tt

  record Patch_lies (p : Span × DepSpec) : Type 0 where
    key : IsSpan text p.0
    spec : Spec_lies p.1

  patch_lies : (patches : List (Key × Value)) (name : List ℕ) → AllByRecursion Entry_holds patches
      → IfSome (patch_of patches name) Patch_lies
  unfolding patch_of
  patch_lies patches name all = by_entry (entry_at name patches) (all_found Entry_holds (has_name name) patches all)
    where
      by_spec : (e : Key × Value) → Entry_holds e → (o : Option DepSpec) → IfSome o Spec_lies
          → IfSome (option_map (λ spec. (e.0.span, spec)) o) Patch_lies
      by_spec e is None lies = tt
      by_spec e is (Some spec) lies = record { key = is.key.lies; spec = lies }

      by_entry : (o : Option (Key × Value)) → IfSome o Entry_holds → IfSome (option_and_then patch_from o) Patch_lies
      by_entry None is = tt
      by_entry (Some e) is = by_spec e is (dep_spec_in e.1) (spec_lies e.1 is.value)

  record Shared_lies (e : SharedEntry) : Type 0 where
    key : IsSpan text e.key
    value : IsSpan text e.value
    spec : Spec_lies e.spec
    patched : IfSome e.patched (IsSpan text)

  replaced_lies : (patch : Option (Span × DepSpec)) (k : Key) (value : Span) (spec : DepSpec) → IfSome patch Patch_lies
      → KeyOccurs text k → IsSpan text value → Spec_lies spec → Shared_lies (replaced_by patch k value spec)
  replaced_lies None k value spec patch named here lies =
      record { key = named.lies; value = here; spec = lies; patched = tt }
  replaced_lies (Some p) k value spec patch named here lies =
      record { key = patch.key; value = here; spec = patch.spec; patched = named.lies }

  entry_lies : (patches : List (Key × Value)) (e : Key × Value) → AllByRecursion Entry_holds patches → Entry_holds e
      → IfSome (entry_of patches e) Shared_lies
  unfolding patched_entry
  entry_lies patches e all is = by_spec (dep_spec_in e.1) (spec_lies e.1 is.value)
    where
      by_test : (b : Bool) → IfSome (cond b (patch_of patches e.0.name) None) Patch_lies
      by_test true = patch_lies patches e.0.name all
      by_test false = tt

      by_spec : (o : Option DepSpec) → IfSome o Spec_lies
          → IfSome (option_map (patched_entry patches e.0 (span_in e.1)) o) Shared_lies
      by_spec None lies = tt
      by_spec (Some spec) lies =
          replaced_lies (cond (may_be_patched spec.origin) (patch_of patches e.0.name) None) e.0 (span_in e.1) spec
          (by_test (may_be_patched spec.origin)) is.key (value_lies e.1 is.value) lies

  table_holds : (outer inner : ManifestKey) (tree : Value) → OccursIn text tree
      → AllByRecursion Entry_holds (keys_in (table_below outer inner tree))
  table_holds outer inner tree holds = by_outer (value_at_key outer tree) (below_holds (name_of outer) tree holds)
    where
      by_inner : (o : Option Value) → IfSome o Value_holds
          → AllByRecursion Entry_holds (keys_in (option_and_then table_in o))
      by_inner None is = tt
      by_inner (Some w) is = entries_hold w is

      by_outer : (o : Option Value) → IfSome o Value_holds
          → AllByRecursion Entry_holds (keys_in (option_and_then table_in (option_and_then (value_at_key inner) o)))
      by_outer None is = tt
      by_outer (Some w) is = by_inner (value_at_key inner w) (below_holds (name_of inner) w is)

  -- the spans of the entries that a workspace shares lie in the text of its manifest
  pub shared_lie : (g : Graph) (registries : List Registry) (tree : Value) → OccursIn text tree
      → AllByRecursion (EntryLies text) (shared_in g registries tree)
  unfolding shared_in entries_of
  shared_lie g registries tree holds =
      let patches = table_holds key.Patch key.CratesIo tree holds in
      all_mapped (EntryLies text) (resolved_entry g registries) (entries_of (patches_in tree) (dependencies_in tree))
      (all_weaker Shared_lies (λ e. EntryLies text (resolved_entry g registries e))
      (λ e is. record {
        key = is.key;
        value = is.value;
        version = is.spec.version;
        rename = is.spec.rename;
        patched = is.patched;
      })
      (entries_of (patches_in tree) (dependencies_in tree))
      (all_given Entry_holds Shared_lies (entry_of (patches_in tree))
      (λ e is. entry_lies (patches_in tree) e patches is) (dependencies_in tree)
      (table_holds key.Workspace key.Dependencies tree holds)))
