-- A disk that tells its files determines what is seen of manifests.
use Rattle.std.proofs.Common.{◌≡◌, ◌∙◌, ◌+◌, ◌<◌, ◌++◌, ◌∷◌, [], ℕ, List, Option, None, Some, ap, arith, get_or, inl}
use Rattle.std.proofs.Common.{inr, length, map, refl, subst, sym}
use Rattle.std.specs.Prelude.{◌≢◌, AllPairs, Contains, IfSome, slice_get}
use Rattle.std.specs.Cmp.Lexicographic.{nat_list_cmp_total}
use Rattle.std.specs.List.{flat_map}
use Rattle.std.proofs.lemmas.Bool.{cases_lt}
use Rattle.std.proofs.lemmas.List.{length-map}
use Rattle.std.proofs.lemmas.Option.{get_or_from_slice_get, same_Some, slice_get_within}
use Rattle.deny_base.specs.declared.files.File.{File}
use Rattle.deny_base.specs.declared.span.Kid.{Kid}
use Rattle.deny_base_lists.proofs.Members.{Contains-first, Contains-rest, map_at, one_there, there}
use Rattle.deny_base_lists.proofs.Sorted.{one_list}
use Rattle.deny_spans_manifest.proofs.AgreementLaw.{agree_so, reports_agreement}
use Rattle.deny_spec.specs.Graph.{Crate, Graph, Source, kid_of}
use Rattle.deny_spec.specs.View.{View, WorkspaceEntry}
use Rattle.deny_base_disk.specs.Disk.{Files}
use Rattle.deny_spans.proofs.ManifestScanLemmas.{reads_once}
use Rattle.deny_spans.specs.ManifestScan.{AreNumbered, IsManifestScan, IsReadAt, ManifestScan, ReadsAs, Reading}
use Rattle.deny_spans.specs.ManifestScan.{kept_as, kept_of, number_of}
use Rattle.deny_spans.specs.ManifestScan.{tree_of, workspace_scan, workspace_reading}
use Rattle.deny_spans.specs.OneView.{AreSame}
use Rattle.deny_spans.specs.Paths.{workspace_path}
use Rattle.deny_spans.specs.Seen.{IsMalformed, IsMissing, IsSeen, entries_by, manifest_in, of_crate, of_workspace}
use Rattle.deny_base.specs.Unread.{asked}
use Rattle.deny_base.specs.declared.purpose.Purpose.TheVariants as purpose
use Rattle.deny_base.specs.declared.unread.Unread.{Unread}
use Rattle.deny_spans_workspace.specs.Workspace.{span_of, unused_in}
use Rattle.deny_spans_workspace.specs.declared.registries.Registry.{Registry}

-- ---- what is read at one path

module _ (files : Files) where
  same_reading : (path : List ℕ) (r q : Reading) → IsReadAt (Some files) path r → IsReadAt (Some files) path q
      → r.number ≡ q.number → r ≡ q
  same_reading path r q at other number =
      let text : r.text ≡ q.text = at.bytes ∙ sym other.bytes in
      let tree : r.tree ≡ q.tree = reads_once r.text r.tree q.tree at.reads
      (subst (λ (t : List ℕ). ReadsAs t q.tree) (sym text) other.reads) in
      λ i. record { text = text i; tree = tree i; number = number i }

  -- of two readings of one path both succeeded, or neither
  same_read : (path : List ℕ) (number : ℕ) (o p : Option Reading) → IfSome o (IsReadAt (Some files) path)
      → IfSome p (IsReadAt (Some files) path) → IfSome o (λ r. r.number ≡ number) → IfSome p (λ r. r.number ≡ number)
      → (o ≡ None → p ≡ None) → (p ≡ None → o ≡ None) → o ≡ p
  same_read path number None p at other numbered other_numbered to from = sym (to refl)
  same_read path number (Some r) None at other numbered other_numbered to from = from refl
  same_read path number (Some r) (Some q) at other numbered other_numbered to from =
      ap (λ (x : Reading). Some x) (same_reading path r q at other (numbered ∙ sym other_numbered))

  -- ---- the scans of crates, one after another

  record AreAlike (ls ks : List ManifestScan) : Type 0 where
    each : (l : ManifestScan) → Contains ls l → IsManifestScan (Some files) l
    other : (l : ManifestScan) → Contains ks l → IsManifestScan (Some files) l
    to : (a b : ManifestScan) → Contains ls a → Contains ks b → a.crate ≡ b.crate → a.read ≡ None → b.read ≡ None
    from : (a b : ManifestScan) → Contains ls a → Contains ks b → a.crate ≡ b.crate → b.read ≡ None → a.read ≡ None

  same_scans : (number : ℕ) (ls ks : List ManifestScan) → map (λ l. l.crate) ls ≡ map (λ l. l.crate) ks
      → AreNumbered number ls → AreNumbered number ks → AreAlike ls ks → ls ≡ ks
  same_scans number [] [] crates numbered other alike = refl
  same_scans number [] (b ∷ ks) crates numbered other alike = absurd (cc crates)
  same_scans number (a ∷ ls) [] crates numbered other alike = absurd (cc crates)
  same_scans number (a ∷ ls) (b ∷ ks) crates numbered other alike =
      let crate : a.crate ≡ b.crate = cc in
      let crates_behind : map (λ (l : ManifestScan). l.crate) ls ≡ map (λ (l : ManifestScan). l.crate) ks = cc in
      let here = Contains-first a ls in
      let there_b = Contains-first b ks in
      let at_b : IfSome b.read (IsReadAt (Some files) a.crate.manifest_path) =
      subst (λ (c : Crate). IfSome b.read (IsReadAt (Some files) c.manifest_path)) (sym crate)
      (alike.other b there_b).read in
      let read : a.read ≡ b.read = same_read a.crate.manifest_path number a.read b.read (alike.each a here).read at_b
      numbered.0 other.0 (alike.to a b here there_b crate) (alike.from a b here there_b crate) in
      let same : a ≡ b = λ i. record { crate = crate i; read = read i } in
      let behind : ls ≡ ks = same_scans (number + length (kept_of a)) ls ks crates_behind numbered.1
      (subst (λ (l : ManifestScan). AreNumbered (number + length (kept_of l)) ks) (sym same) other.1)
      (record {
        each = λ l is. alike.each l (Contains-rest a ls l is);
        other = λ l is. alike.other l (Contains-rest b ks l is);
        to = λ l m is other_is. alike.to l m (Contains-rest a ls l is) (Contains-rest b ks m other_is);
        from = λ l m is other_is. alike.from l m (Contains-rest a ls l is) (Contains-rest b ks m other_is);
      }) in
      cc

-- ---- entries name crates

module _ (g : Graph) (ids : AllPairs (λ c d. c.id ≢ d.id) g.crates) (scans : List ManifestScan)
    (crates : map (λ l. l.crate) scans ≡ g.crates) where
  at_place : (k : ℕ) (l : ManifestScan) (d : Crate) → slice_get scans k ≡ Some l → get_or g.crates k d ≡ l.crate
  at_place k l d is = get_or_from_slice_get g.crates k l.crate d
      (ap (λ (cs : List Crate). slice_get cs k) (sym crates) ∙ map_at (λ (x : ManifestScan). x.crate) scans k l is)

  inside : (k : ℕ) (l : ManifestScan) → slice_get scans k ≡ Some l → k < length g.crates
  inside k l is =
      let long = length-map scans (λ (x : ManifestScan). x.crate) in
      omega (arith, slice_get_within scans k l is, long, ap length crates)

  apart : (i j : ℕ) (a b : ManifestScan) → slice_get scans i ≡ Some a → slice_get scans j ≡ Some b
      → a.crate.id ≡ b.crate.id
      → i < j → ⊥
  apart i j a b at_a at_b same below = ids i j a.crate below (inside j b at_b)
      (ap (λ (c : Crate). c.id) (at_place i a a.crate at_a) ∙ same
      ∙ sym (ap (λ (c : Crate). c.id) (at_place j b a.crate at_b)))

  one_scan : (a b : ManifestScan) → Contains scans a → Contains scans b → a.crate.id ≡ b.crate.id → a ≡ b
  one_scan a b is other same =
      let i = there scans a is in
      let j = there scans b other in
      elim (cases_lt i.0 j.0) as (λ _. a ≡ b) [
        | inl below ↦ absurd (apart i.0 j.0 a b i.1 j.1 same below)
        | inr not_below ↦ elim (cases_lt j.0 i.0) as (λ _. a ≡ b) [
          | inl above ↦ absurd (apart j.0 i.0 b a j.1 i.1 (sym same) above)
          | inr not_above ↦
              let one : j.0 ≡ i.0 = omega arith in
              one_there scans i.0 a b i.1 (subst (λ (n : ℕ). slice_get scans n ≡ Some b) one j.1)
        ]
      ]

  -- an entry for a crate's manifest means that it was not read
  unread_of : (alone : Option Reading) (b : ManifestScan) → Contains scans b
      → IsMissing g scans alone (asked (Some (kid_of b.crate)) purpose.Manifest b.crate.manifest_path) → b.read ≡ None
  unread_of alone b member (of_crate l there_is local unread is) =
      let krate : Some (kid_of b.crate) ≡ Some (kid_of l.crate) = ap (λ (u : Unread). u.krate) is in
      let id : b.crate.id ≡ l.crate.id =
      ap (λ (k : Kid). k.0) (same_Some (kid_of b.crate) (kid_of l.crate) krate) in
      ap (λ (x : ManifestScan). x.read) (one_scan b l member there_is id) ∙ unread
  unread_of alone b member (of_workspace unscanned unread is) = absurd (none_some (ap (λ (u : Unread). u.krate) is))
    where
      none_some : Some (kid_of b.crate) ≡ None → ⊥
      none_some e = cc e

unread_alone : (g : Graph) (scans : List ManifestScan) (alone : Option Reading)
    → IsMissing g scans alone (asked None purpose.Manifest (workspace_path g.root)) → alone ≡ None
unread_alone g scans alone (of_crate l member local unread is) = absurd (none_some (ap (λ (u : Unread). u.krate) is))
  where
    none_some : None ≡ Some (kid_of l.crate) → ⊥
    none_some e = cc e
unread_alone g scans alone (of_workspace unscanned unread is) = unread

-- ---- two views of one disk

module _ (files : Files) (g : Graph) (registries : List Registry) (ids : AllPairs (λ c d. c.id ≢ d.id) g.crates)
    (old : List File) (unread : List Unread) where
  abbrev Seen : List File → List (List ℕ) → View → Type 0
  Seen new malformed view = IsSeen (Some files) g registries old new unread malformed view

  module _ (new other_new : List File) (malformed other_malformed : List (List ℕ)) (view other_view : View)
      (one : Seen new malformed view) (other : Seen other_new other_malformed other_view) where
    crate_unread : (a b : ManifestScan) → Contains one.scans a → Contains other.scans b → a.crate ≡ b.crate
        → a.read ≡ None
        → b.read ≡ None
    crate_unread a b is other_is crate none = by_source a.crate.source refl
      where
        by_source : (o : Option Source) → a.crate.source ≡ o → b.read ≡ None
        by_source (Some source) is_source = subst (λ (o : Option Source). IfSome o (λ _. b.read ≡ None))
            (ap (λ (c : Crate). c.source) (sym crate) ∙ is_source) (other.are.each b other_is).local
        by_source None local =
            let member = one.missing.whole (asked (Some (kid_of a.crate)) purpose.Manifest a.crate.manifest_path)
            (of_crate a is local none refl) in
            unread_of g ids other.scans other.are.crates other.alone b other_is
            (subst (λ (c : Crate). IsMissing g other.scans other.alone
            (asked (Some (kid_of c)) purpose.Manifest c.manifest_path)) crate
            (other.missing.sound (asked (Some (kid_of a.crate)) purpose.Manifest a.crate.manifest_path) member))

    alone_unread : workspace_scan g one.scans ≡ None → one.alone ≡ None → other.alone ≡ None
    alone_unread unscanned none =
        unread_alone g other.scans other.alone (other.missing.sound (asked None purpose.Manifest
        (workspace_path g.root))
        (one.missing.whole (asked None purpose.Manifest (workspace_path g.root)) (of_workspace unscanned none refl)))

  module _ (new other_new : List File) (malformed other_malformed : List (List ℕ)) (view other_view : View)
      (one : Seen new malformed view) (other : Seen other_new other_malformed other_view) where
    scans_same : one.scans ≡ other.scans
    scans_same = same_scans files (length old) one.scans other.scans (one.are.crates ∙ sym other.are.crates)
        one.are.numbers other.are.numbers (record {
          each = one.are.each;
          other = other.are.each;
          to = crate_unread new other_new malformed other_malformed view other_view one other;
          from = λ a b is other_is crate none.
              crate_unread other_new new other_malformed malformed other_view view other
              one b a other_is is (sym crate) none;
        })

    home_same : workspace_scan g one.scans ≡ workspace_scan g other.scans
    home_same = ap (workspace_scan g) scans_same

    alone_same : one.alone ≡ other.alone
    alone_same = by_scan (workspace_scan g one.scans) refl
      where
        by_scan : (o : Option ManifestScan) → workspace_scan g one.scans ≡ o → one.alone ≡ other.alone
        by_scan (Some l) scan =
            subst (λ (o : Option ManifestScan). IfSome o (λ _. one.alone ≡ None)) scan one.are.once
            ∙ sym (subst (λ (o : Option ManifestScan). IfSome o (λ _. other.alone ≡ None)) (sym home_same
            ∙ scan) other.are.once)
        by_scan None unscanned = same_read files (workspace_path g.root)
            (length old + length (flat_map kept_of one.scans)) one.alone other.alone one.are.own other.are.own
            one.are.number
            (subst (λ (ls : List ManifestScan). IfSome other.alone
            (λ r. r.number ≡ length old + length (flat_map kept_of ls)))
            (sym scans_same) other.are.number)
            (alone_unread new other_new malformed other_malformed view other_view one other unscanned)
            (alone_unread other_new new other_malformed malformed other_view view other one (sym home_same ∙ unscanned))

    workspace_same : workspace_reading g one.scans one.alone ≡ workspace_reading g other.scans other.alone
    workspace_same = λ i. workspace_reading g (scans_same i) (alone_same i)

    entries_same : entries_by g registries (tree_of (workspace_reading g one.scans one.alone))
        ≡ entries_by g registries (tree_of (workspace_reading g other.scans other.alone))
    entries_same = ap (λ (o : Option Reading). entries_by g registries (tree_of o)) workspace_same

    view_same : view ≡ other_view
    view_same =
        let manifests : view.manifests ≡ other_view.manifests = one.seen.manifests agree_so reports_agreement
        ∙ ap (map (manifest_in agree_so g)) scans_same ∙ sym (other.seen.manifests agree_so reports_agreement) in
        let workspace : view.workspace ≡ other_view.workspace =
        one.seen.number ∙ ap (λ (o : Option Reading). number_of o) workspace_same ∙ sym other.seen.number in
        let shared : view.shared ≡ other_view.shared = one.seen.shared
        ∙ ap (λ (es : List WorkspaceEntry). map (λ (c : Crate). span_of es c.place) g.crates) entries_same
        ∙ sym other.seen.shared in
        let unused : view.unused ≡ other_view.unused =
        one.seen.unused ∙ ap (λ (es : List WorkspaceEntry). unused_in es) entries_same ∙ sym other.seen.unused in
        λ i. record { manifests = manifests i; workspace = workspace i; shared = shared i; unused = unused i }

    pub same_seen : AreSame new other_new malformed other_malformed view other_view
    same_seen = record {
      files = one.files
          ∙ (λ i. old ++ (flat_map kept_of (scans_same i) ++ kept_as (workspace_path g.root) (alone_same i)))
          ∙ sym other.files;
      paths = one_list nat_list_cmp_total malformed other_malformed one.broken
          (record {
            ascending = other.broken.ascending;
            whole = λ p is. other.broken.whole p (moved p is);
            sound = λ p member. back p (other.broken.sound p member);
          });
      seen = view_same;
    }
      where
        moved : (p : List ℕ) → IsMalformed g one.scans one.alone p → IsMalformed g other.scans other.alone p
        moved p is = subst (λ (o : Option Reading). IsMalformed g other.scans o p) alone_same
            (subst (λ (ls : List ManifestScan). IsMalformed g ls one.alone p) scans_same is)

        back : (p : List ℕ) → IsMalformed g other.scans other.alone p → IsMalformed g one.scans one.alone p
        back p is = subst (λ (o : Option Reading). IsMalformed g one.scans o p) (sym alone_same)
            (subst (λ (ls : List ManifestScan). IsMalformed g ls other.alone p) (sym scans_same) is)
