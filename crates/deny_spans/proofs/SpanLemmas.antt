-- The spans of what was seen lie in the files that they point into.
use Rattle.std.proofs.Common.{◌≡◌, ◌∙◌, ◌+◌, ◌-◌, ◌<◌, ◌≤◌, ◌++◌, ℕ, Bool, List, Option, None, Some, IsUtf8, ap}
use Rattle.std.proofs.Common.{append_assoc, arith, cond, length, length-append, refl, reverse, subst, sym}
use Rattle.std.specs.Prelude.{Contains, IfSome, is_none, option_map, slice_get}
use Rattle.std.specs.List.{flat_map}
use Rattle.std.specs.Option.{option_map_or}
use Rattle.std.proofs.lemmas.List.{get_or-reverse, length-reverse}
use Rattle.std.proofs.lemmas.Option.{same_Some}
use Rattle.std.proofs.lemmas.Str.{is_utf8-from_IsUtf8}
use Rattle.deny_base.specs.declared.files.File.{File}
use Rattle.deny_krates.proofs.NumberLemmas.{slice_get-right}
use Rattle.deny_base_lists.proofs.Members.{Contains-from_filter, at_member, from_contains_map, no_member}
use Rattle.deny_base_lists.proofs.Finding.{found_member}
use Rattle.deny_spans_manifest.proofs.AgreementLaw.{agree_so, reports_agreement}
use Rattle.deny_spans_manifest.specs.Declarations.{declared_in}
use Rattle.deny_spec.specs.Graph.{Crate, Graph}
use Rattle.deny_spec.specs.View.{Manifest, View, WorkspaceEntry}
use Rattle.deny_base_disk.specs.Disk.{Files}
use Rattle.deny_spans.proofs.ManifestScanLemmas.{file_of, kept_at, kept_text, numbered_behind}
use Rattle.deny_spans.proofs.TreeLies.{declarations_lie, shared_lie}
use Rattle.deny_spans.specs.ManifestScan.{IsReadAt, ManifestScan, ReadsAs, Reading, is_workspaces, kept_as, kept_of}
use Rattle.deny_spans.specs.ManifestScan.{number_of, tree_of}
use Rattle.deny_spans.specs.ManifestScan.{workspace_scan, workspace_reading}
use Rattle.deny_spans.specs.Paths.{workspace_path}
use Rattle.deny_spans.specs.Spans.{DeclaredLies, EntryLies, ManifestLies, SharedLies, ViewLies}
use Rattle.deny_spans.specs.Seen.{IsSeen, entries_by, manifest_by, manifest_in, manifest_read}
use Rattle.deny_toml.proofs.ParserLaws.{tree_holds}
use Rattle.deny_toml.specs.Parser.{IsTreeOf, whole}
use Rattle.deny_toml.specs.Spans.{OccursIn}
use Rattle.deny_toml.specs.value.Value.{Value}
use Rattle.deny_base.specs.declared.unread.Unread.{Unread}
use Rattle.deny_spans_workspace.specs.Workspace.{resolves_to, span_of}
use Rattle.deny_spans_workspace.specs.declared.registries.Registry.{Registry}

-- the spans of a tree lie in its text
holds_in : (text : List ℕ) (tree : Value) → IsUtf8 text → IsTreeOf text tree → OccursIn text tree
holds_in text tree utf8 is = tree_holds text is.0 (whole text) tree utf8 is.1 refl is.3

of_reverse : {X : Type 0} (xs : List X) (x : X) → Contains (reverse xs) x → Contains xs x
of_reverse xs x is =
    let inside : is.0 < length xs = omega (arith, is.1, length-reverse xs) in
    (length xs - 1 - is.0, omega (arith, inside), sym (get_or-reverse xs is.0 x inside) ∙ is.2)

-- a text that was read has a tree, whose spans lie in it
record IsTreeRead (read : Option Reading) : Type 0 where
  pub reading : Reading
  pub tree : Value
  pub is : read ≡ Some reading
  pub has : reading.tree ≡ Some tree

tree_read : (read : Option Reading) (tree : Value) → tree_of read ≡ Some tree → IsTreeRead read
tree_read None tree is = absurd (cc is)
tree_read (Some r) tree is = record { reading = r; tree = tree; is = refl; has = is }

module _ (told : Option Files) (g : Graph) (registries : List Registry) (old new : List File) (unread : List Unread)
    (malformed : List (List ℕ)) (view : View) (seen : IsSeen told g registries old new unread malformed view) where
  holds_read : (path : List ℕ) (r : Reading) (tree : Value) → IsReadAt told path r → r.tree ≡ Some tree
      → IsUtf8 r.text × OccursIn r.text tree
  holds_read path r tree at has =
      let reads : ReadsAs r.text (Some tree) = subst (λ (o : Option Value). ReadsAs r.text o) has at.reads in
      (reads.0, holds_in r.text tree reads.0 reads.1)

  read_at : (path : List ℕ) (o : Option Reading) (r : Reading) → IfSome o (IsReadAt told path) → o ≡ Some r
      → IsReadAt told path r
  read_at path o r at is = subst (λ (q : Option Reading). IfSome q (IsReadAt told path)) is at

  file_at : (l : ManifestScan) (r : Reading) → Contains seen.scans l → l.read ≡ Some r → IsUtf8 r.text
      → slice_get new r.number ≡ Some (file_of l.crate.manifest_path r.text)
  file_at l r member read utf8 = ap (λ (fs : List File). slice_get fs r.number) seen.files
      ∙ kept_at (length old) old seen.scans (kept_as (workspace_path g.root) seen.alone)
      l r refl seen.are.numbers member
      read (is_utf8-from_IsUtf8 r.text utf8)

  number_alone : (r : Reading) → seen.alone ≡ Some r → length old ≤ r.number
  number_alone r read =
      let number : r.number ≡ length old + length (flat_map kept_of seen.scans) =
      subst (λ (o : Option Reading). IfSome o (λ q. q.number ≡ length old + length (flat_map kept_of seen.scans))) read
      seen.are.number in
      omega (arith, number)

  file_alone : (r : Reading) → seen.alone ≡ Some r → IsUtf8 r.text
      → slice_get new r.number ≡ Some (file_of (workspace_path g.root) r.text)
  file_alone r read utf8 =
      let yes = is_utf8-from_IsUtf8 r.text utf8 in
      let number : r.number ≡ length old + length (flat_map kept_of seen.scans) =
      subst (λ (o : Option Reading). IfSome o (λ q. q.number ≡ length old + length (flat_map kept_of seen.scans))) read
      seen.are.number in
      let at : r.number ≡ length (old ++ flat_map kept_of seen.scans) + 0 =
      omega (arith, number, length-append old (flat_map kept_of seen.scans)) in
      ap (λ (fs : List File). slice_get fs r.number) (seen.files
      ∙ sym (append_assoc old (flat_map kept_of seen.scans) (kept_as (workspace_path g.root) seen.alone)))
      ∙ slice_get-right (old ++ flat_map kept_of seen.scans) (kept_as (workspace_path g.root) seen.alone) r.number 0 at
      ∙ ap (λ (o : Option Reading). slice_get (kept_as (workspace_path g.root) o) 0) read
      ∙ ap (λ (fs : List File). slice_get fs 0) (kept_text (workspace_path g.root) r yes)

  -- ---- manifests

  manifest_of_scan : (l : ManifestScan) (m : Manifest) → Contains seen.scans l → manifest_in agree_so g l ≡ Some m
      → ManifestLies (length old) new m
  unfolding manifest_in
  manifest_of_scan l m member is = by_read l.read refl is
    where
      by_tree : (r : Reading) → l.read ≡ Some r → (o : Option Value) → r.tree ≡ o
          → option_map (manifest_by agree_so g l.crate r.number) o ≡ Some m → ManifestLies (length old) new m
      by_tree r read None has e = absurd (cc e)
      by_tree r read (Some tree) has e =
          let at = read_at l.crate.manifest_path l.read r (seen.are.each l member).read read in
          let candidates = holds_read l.crate.manifest_path r tree at has in
          subst (λ (n : Manifest). ManifestLies (length old) new n) (same_Some (manifest_by agree_so g l.crate r.number tree) m e)
          (record {
            file = file_of l.crate.manifest_path r.text;
            behind = numbered_behind (length old) seen.scans l r seen.are.numbers member read;
            is = file_at l r member read candidates.0;
            deps = λ d there_is. at_member (DeclaredLies r.text) (declared_in agree_so g l.crate tree) d
                (declarations_lie r.text agree_so g l.crate tree candidates.1) there_is;
          })

      by_read : (o : Option Reading) → l.read ≡ o → option_map_or (manifest_read agree_so g l.crate) o None ≡ Some m
          → ManifestLies (length old) new m
      by_read None read e = absurd (cc e)
      by_read (Some r) read e = by_tree r read r.tree refl e

  manifest_lies : (m : Manifest) → Contains view.manifests (Some m) → ManifestLies (length old) new m
  manifest_lies m is =
      let of = from_contains_map (manifest_in agree_so g) seen.scans (Some m)
      (subst (λ (ms : List (Option Manifest)). Contains ms (Some m))
      (seen.seen.manifests agree_so reports_agreement) is) in
      manifest_of_scan of.0 m of.1 of.2

  -- ---- what the workspace shares

  -- the workspace's manifest has this tree, and is this file
  record IsShared (r : Reading) (tree : Value) : Type 0 where
    utf8 : IsUtf8 r.text
    holds : OccursIn r.text tree
    behind : length old ≤ r.number
    file : File
    is : slice_get new r.number ≡ Some file
    source : file.source ≡ r.text

  shared_at : (r : Reading) (tree : Value) → workspace_reading g seen.scans seen.alone ≡ Some r → r.tree ≡ Some tree
      → IsShared r tree
  unfolding workspace_reading
  shared_at r tree read has = by_scan (workspace_scan g seen.scans) refl read
    where
      by_scan : (o : Option ManifestScan) → workspace_scan g seen.scans ≡ o
          → option_map_or (λ l. l.read) o seen.alone ≡ Some r
          → IsShared r tree
      by_scan None scan e =
          let at = read_at (workspace_path g.root) seen.alone r seen.are.own e in
          let candidates = holds_read (workspace_path g.root) r tree at has in
          record {
            utf8 = candidates.0;
            holds = candidates.1;
            behind = number_alone r e;
            file = file_of (workspace_path g.root) r.text;
            is = file_alone r e candidates.0;
            source = refl;
          }
      by_scan (Some l) scan e =
          let member = found_member (λ (k : ManifestScan). is_workspaces g k.crate) seen.scans l scan in
          let at = read_at l.crate.manifest_path l.read r (seen.are.each l member).read e in
          let candidates = holds_read l.crate.manifest_path r tree at has in
          record {
            utf8 = candidates.0;
            holds = candidates.1;
            behind = numbered_behind (length old) seen.scans l r seen.are.numbers member e;
            file = file_of l.crate.manifest_path r.text;
            is = file_at l r member e candidates.0;
            source = refl;
          }

  entry_lies : (e : WorkspaceEntry) (o : Option Value) → tree_of (workspace_reading g seen.scans seen.alone) ≡ o
      → Contains (entries_by g registries o) e → SharedLies (length old) new view.workspace e
  entry_lies e None has is = absurd (no_member e is)
  entry_lies e (Some tree) has is =
      let of = tree_read (workspace_reading g seen.scans seen.alone) tree has in
      let same : of.tree ≡ tree = same_Some of.tree tree (sym of.has
      ∙ ap (λ (o : Option Reading). tree_of o) (sym of.is) ∙ has) in
      let shared = shared_at of.reading tree of.is (of.has ∙ ap (λ (t : Value). Some t) same) in
      record {
        number = of.reading.number;
        file = shared.file;
        behind = shared.behind;
        in_file = seen.seen.number ∙ ap (λ (o : Option Reading). number_of o) of.is
            ∙ ap (λ (b : Bool). cond b (Some of.reading.number) None) (is_utf8-from_IsUtf8 of.reading.text shared.utf8);
        is = shared.is;
        entry = subst (λ (text : List ℕ). EntryLies text e) (sym shared.source)
            (at_member (EntryLies of.reading.text) _ e (shared_lie of.reading.text g registries tree shared.holds) is);
      }

  entries : List WorkspaceEntry
  entries = entries_by g registries (tree_of (workspace_reading g seen.scans seen.alone))

  one_lies : (e : WorkspaceEntry) → Contains entries e → SharedLies (length old) new view.workspace e
  unfolding entries
  one_lies e is = entry_lies e (tree_of (workspace_reading g seen.scans seen.alone)) refl is

  span_lies : (e : WorkspaceEntry) → Contains view.shared (Some e) → SharedLies (length old) new view.workspace e
  unfolding entries span_of
  span_lies e is =
      let of = from_contains_map (λ (c : Crate). span_of entries c.place) g.crates (Some e)
      (subst (λ (es : List (Option WorkspaceEntry)). Contains es (Some e)) seen.seen.shared is) in
      one_lies e (of_reverse entries e (found_member (resolves_to of.0.place) (reverse entries) e of.2))

  unused_lies : (e : WorkspaceEntry) → Contains view.unused e → SharedLies (length old) new view.workspace e
  unfolding entries
  unused_lies e is = one_lies e (Contains-from_filter (λ (u : WorkspaceEntry). is_none u.place) entries e
      (subst (λ (es : List WorkspaceEntry). Contains es e) seen.seen.unused is)).0

  pub view_lies : ViewLies (length old) new view
  view_lies = record { manifests = manifest_lies; shared = span_lies; unused = unused_lies }
