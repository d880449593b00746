-- The found manifests, put in order, are what was seen.
use Rattle.std.proofs.Common.{◌≡◌, ◌∙◌, ◌+◌, ◌<◌, ◌++◌, ◌∷◌, [], ℕ, List, Option, None, Some, ap, append_assoc, arith}
use Rattle.std.proofs.Common.{cond, inl, inr, length, map, refl, subst, sym, suc}
use Rattle.std.specs.Prelude.{◌||◌, Contains, IfSome, is_none, is_some, option_map, slice_get}
use Rattle.std.specs.Cmp.Lexicographic.{slice_cmp}
use Rattle.std.specs.List.{AllZip, flat_map}
use Rattle.std.specs.Option.{option_flatten}
use Rattle.std.specs.Ordering.{nat_cmp}
use Rattle.std.specs.declared.cmp.Ordering.{Ordering}
use Rattle.std.proofs.lemmas.List.{length-map}
use Rattle.std.proofs.lemmas.List.Elements.{Contains-append_cases, Contains-append_left, Contains-append_right}
use Rattle.std.proofs.lemmas.Option.{same_Some}
use Rattle.deny_base.specs.declared.files.File.{File}
use Rattle.deny_base_lists.proofs.Members.{Contains-by_cases, Contains-first, Contains-flat_map, Contains-from_flat_map}
use Rattle.deny_base_lists.proofs.Members.{contains_map, map_at, no_member, some_at}
use Rattle.deny_base_lists.specs.Ascending.{Lists}
use Rattle.deny_krates.proofs.NumberLemmas.{slice_get-right}
use Rattle.deny_krates.specs.Crates.{crates_from}
use Rattle.deny_krates.specs.krate.Krate.{Krate}
use Rattle.deny_krates_lock.specs.Text.{IsLineOf, lock_span_at, lock_text}
use Rattle.deny_krates_lock.specs.declared.line.LockSpan.{LockSpan}
use Rattle.deny_spans_manifest.proofs.AgreementLaw.{agree_so, reports_agreement}
use Rattle.deny_spans_manifest.specs.declared.manifest.Manifest.{Manifest as Read}
use Rattle.deny_spec.specs.Graph.{Crate, Graph, Source, kid_of}
use Rattle.deny_spec.specs.View.{View, WorkspaceEntry}
use Rattle.deny_base_disk.specs.Disk.{Files}
use Rattle.deny_spans.proofs.IdLemmas.{placed}
use Rattle.deny_spans.proofs.SharedLemmas.{length-shared, shared_from-at}
use Rattle.deny_spans.specs.ManifestScan.{IsBroken, ManifestScan, Reading, tree_of, workspace_scan, workspace_reading}
use Rattle.deny_spans.specs.Paths.{workspace_path}
use Rattle.deny_spans.specs.Seen.{IsMalformed, IsMissing, IsSeen, at_crate, at_workspace, entries_by, manifest_in}
use Rattle.deny_spans.specs.Seen.{of_crate, of_workspace}
use Rattle.deny_spans.specs.SpansView.{AreSpansOf, IsManifestAt, IsSharedAt, manifest_view, shared_from, spans_view}
use Rattle.deny_spans.specs.declared.krate_spans.FoundManifests.{FoundManifests}
use Rattle.deny_spans.specs.declared.krate_spans.KrateSpans.{KrateSpans}
use Rattle.deny_spans.specs.declared.krate_spans.Lock.{Lock}
use Rattle.deny_spans.specs.Wanted.{AreWanted, IsWanted, by_crate, by_workspace}
use Rattle.deny_spans.specs.private.Found.{IsFound, IsPutTogether, broken_alone, missing_alone}
use Rattle.deny_spans.specs.private.Gathered.{broken_if, broken_of, is_broken, missing_of}
use Rattle.deny_spans.specs.private.Workspace.{AreShared}
use Rattle.deny_toml.specs.value.Value.{Value}
use Rattle.deny_base.specs.Unread.{asked, if_unread, unread_cmp}
use Rattle.deny_base.specs.declared.purpose.Purpose.TheVariants as purpose
use Rattle.deny_base.specs.declared.unread.Unread.{Unread}
use Rattle.deny_spans_workspace.specs.Workspace.{AreSpans, dep_view, span_at, span_of, span_view}
use Rattle.deny_spans_workspace.specs.declared.registries.Registry.{Registry}
use Rattle.deny_spans_workspace.specs.declared.workspace.WorkspaceSpan.{WorkspaceSpan}

-- ---- what is missing

one_member : {X : Type 0} (x y : X) → Contains (x ∷ []) y → y ≡ x
one_member x y is = Contains-by_cases x [] y is (λ same. sym same) (λ none. absurd (no_member y none))

module _ (g : Graph) (scans : List ManifestScan) (alone : Option Reading) where
  missing_here : (l : ManifestScan) (u : Unread) → Contains scans l → Contains (missing_of l) u
      → IsMissing g scans alone u
  missing_here l u member is = by_source l.crate.source refl is
    where
      by_read : l.crate.source ≡ None → (o : Option Reading) → l.read ≡ o
          → Contains (if_unread (asked (Some (kid_of l.crate)) purpose.Manifest l.crate.manifest_path) (is_some o)) u
          → IsMissing g scans alone u
      by_read local None e there = of_crate l member local e (one_member _ u there)
      by_read local (Some r) e there = absurd (no_member u there)

      by_source : (o : Option Source) → l.crate.source ≡ o
          → Contains (cond (is_some o) []
          (if_unread (asked (Some (kid_of l.crate)) purpose.Manifest l.crate.manifest_path) (is_some l.read))) u
          → IsMissing g scans alone u
      by_source None e there = by_read e l.read refl there
      by_source (Some source) e there = absurd (no_member u there)

  alone_missing : (u : Unread) → Contains (missing_alone g scans alone) u → IsMissing g scans alone u
  alone_missing u is = by_scan (workspace_scan g scans) refl is
    where
      by_read : workspace_scan g scans ≡ None → (o : Option Reading) → alone ≡ o
          → Contains (if_unread (asked None purpose.Manifest (workspace_path g.root)) (is_some o)) u
          → IsMissing g scans alone u
      by_read unscanned None e there = of_workspace unscanned e (one_member _ u there)
      by_read unscanned (Some r) e there = absurd (no_member u there)

      by_scan : (o : Option ManifestScan) → workspace_scan g scans ≡ o
          → Contains (if_unread (asked None purpose.Manifest (workspace_path g.root)) (is_some o || is_some alone)) u
          → IsMissing g scans alone u
      by_scan None e there = by_read e alone refl there
      by_scan (Some l) e there = absurd (no_member u there)

  missing_list : List Unread
  missing_list = flat_map missing_of scans ++ missing_alone g scans alone

  missing_from : (u : Unread) → Contains missing_list u → IsMissing g scans alone u
  unfolding missing_list
  missing_from u is = elim (Contains-append_cases (flat_map missing_of scans) (missing_alone g scans alone) u is)
      as (λ _. IsMissing g scans alone u) [
        | inl crates ↦ let of = Contains-from_flat_map missing_of scans u crates in
            missing_here of.from u of.member of.of
        | inr own ↦ alone_missing u own
      ]

  missing_to : (u : Unread) → IsMissing g scans alone u → Contains missing_list u
  unfolding missing_list
  missing_to u (of_crate l member local unread is) =
      let entry : Unread = asked (Some (kid_of l.crate)) purpose.Manifest l.crate.manifest_path in
      let has : missing_of l ≡ entry ∷ [] =
      ap (λ (o : Option Source). cond (is_some o) [] (if_unread entry (is_some l.read))) local
      ∙ ap (λ (o : Option Reading). if_unread entry (is_some o)) unread in
      Contains-append_left (flat_map missing_of scans) (missing_alone g scans alone) u
      (Contains-flat_map missing_of scans l u member
      (subst (λ (us : List Unread). Contains us u) (sym has) (subst (λ (v : Unread). Contains (v ∷ []) u) is
      (Contains-first u []))))
  missing_to u (of_workspace unscanned unread is) =
      let entry : Unread = asked None purpose.Manifest (workspace_path g.root) in
      let has : missing_alone g scans alone ≡ entry ∷ [] =
      ap (λ (o : Option ManifestScan). if_unread entry (is_some o || is_some alone)) unscanned
      ∙ ap (λ (o : Option Reading). if_unread entry (is_some o)) unread in
      Contains-append_right (flat_map missing_of scans) (missing_alone g scans alone) u
      (subst (λ (us : List Unread). Contains us u) (sym has) (subst (λ (v : Unread). Contains (v ∷ []) u) is
      (Contains-first u [])))

  -- ---- what is malformed

  broken_from : (path : List ℕ) (read : Option Reading) (p : List ℕ) → Contains (broken_if path (is_broken read)) p
      → IsBroken read × (p ≡ path)
  broken_from path None p is = absurd (no_member p is)
  broken_from path (Some r) p is = by_tree r.tree is
    where
      by_tree : (o : Option Value) → Contains (broken_if path (is_none o)) p → (o ≡ None) × (p ≡ path)
      by_tree None there = (refl, one_member path p there)
      by_tree (Some v) there = absurd (no_member p there)

  broken_to : (path : List ℕ) (read : Option Reading) (p : List ℕ) → IsBroken read → p ≡ path
      → Contains (broken_if path (is_broken read)) p
  broken_to path None p broken is = absurd broken
  broken_to path (Some r) p broken is = subst (λ (o : Option Value). Contains (broken_if path (is_none o)) p)
      (sym broken)
      (subst (λ (q : List ℕ). Contains (q ∷ []) p) is (Contains-first p []))

  broken_list : List (List ℕ)
  broken_list = flat_map broken_of scans ++ broken_alone g alone

  malformed_from : (p : List ℕ) → Contains broken_list p → IsMalformed g scans alone p
  unfolding broken_list
  malformed_from p is = elim (Contains-append_cases (flat_map broken_of scans) (broken_alone g alone) p is)
      as (λ _. IsMalformed g scans alone p) [
        | inl crates ↦
            let of = Contains-from_flat_map broken_of scans p crates in
            let parts = broken_from of.from.crate.manifest_path of.from.read p of.of in
            at_crate of.from of.member parts.0 parts.1
        | inr own ↦ let parts = broken_from (workspace_path g.root) alone p own in at_workspace parts.0 parts.1
      ]

  malformed_to : (p : List ℕ) → IsMalformed g scans alone p → Contains broken_list p
  unfolding broken_list
  malformed_to p (at_crate l member broken is) =
      Contains-append_left (flat_map broken_of scans) (broken_alone g alone) p
      (Contains-flat_map broken_of scans l p member (broken_to l.crate.manifest_path l.read p broken is))
  malformed_to p (at_workspace broken is) =
      Contains-append_right (flat_map broken_of scans) (broken_alone g alone) p
      (broken_to (workspace_path g.root) alone p broken is)

  relisted : {T : Type 0} (cmp : T → T → Ordering) (P : T → Type 0) (old all new : List T) → old ≡ all
      → ((x : T) → Contains all x → P x) → ((x : T) → P x → Contains all x) → Lists cmp (Contains old) new
      → Lists cmp P new
  relisted {T} cmp P old all new is from to listed = record {
    ascending = listed.ascending;
    whole = λ x so. listed.whole x (subst (λ (xs : List T). Contains xs x) (sym is) (to x so));
    sound = λ x member. from x (subst (λ (xs : List T). Contains xs x) is (listed.sound x member));
  }

  missing_listed : (old new : List Unread) → old ≡ flat_map missing_of scans ++ missing_alone g scans alone
      → Lists unread_cmp (Contains old) new → Lists unread_cmp (IsMissing g scans alone) new
  unfolding missing_list
  missing_listed old new is = relisted unread_cmp (IsMissing g scans alone) old missing_list new is
      missing_from missing_to

  broken_listed : (old new : List (List ℕ)) → old ≡ flat_map broken_of scans ++ broken_alone g alone
      → Lists (slice_cmp nat_cmp) (Contains old) new → Lists (slice_cmp nat_cmp) (IsMalformed g scans alone) new
  unfolding broken_list
  broken_listed old new is =
      relisted (slice_cmp nat_cmp) (IsMalformed g scans alone) old broken_list new is malformed_from malformed_to

-- ---- what is shared, by the places of crates

same_at : {X : Type 0} (xs ys : List X) → length xs ≡ length ys
    → ((k : ℕ) → k < length xs → slice_get xs k ≡ slice_get ys k) → xs ≡ ys
same_at [] [] long each = refl
same_at [] (y ∷ ys) long each = absurd (omega (arith, long))
same_at (x ∷ xs) [] long each = absurd (omega (arith, long))
same_at (x ∷ xs) (y ∷ ys) long each =
    let head : x ≡ y = same_Some x y (each 0 (omega arith)) in
    let tail : xs ≡ ys = same_at xs ys (omega (arith, long)) (λ k inside. each (suc k) (omega (arith, inside))) in
    cc

abbrev entry_for : List WorkspaceEntry → Crate → Option WorkspaceEntry
entry_for es c = span_of es c.place

shared_is : (g : Graph) (ks : List Krate) (es : List WorkspaceEntry) (ss : List (Option WorkspaceSpan))
    → crates_from 0 ks ≡ g.crates → AreSpans g es ss → shared_from 0 ss ≡ map (λ c. span_of es c.place) g.crates
shared_is g ks es ss crates are = same_at (shared_from 0 ss) (map (entry_for es) g.crates)
    (length-shared 0 ss ∙ are.long ∙ sym (length-map g.crates (entry_for es))) each
  where
    each : (k : ℕ) → k < length (shared_from 0 ss)
        → slice_get (shared_from 0 ss) k ≡ slice_get (map (entry_for es) g.crates) k
    each k inside =
        let zero_on : 0 + k ≡ k = omega arith in
        let span = some_at ss k (omega (arith, inside, length-shared 0 ss)) in
        let at = some_at g.crates k (omega (arith, inside, length-shared 0 ss, are.long)) in
        let entry : option_map (span_view k) span.0 ≡ span_of es k =
        ap (λ (o : Option (Option WorkspaceSpan)). option_map (span_view k) (option_flatten o)) (sym span.1)
        ∙ are.at k in
        shared_from-at 0 ss k
        ∙ ap (λ (n : ℕ). option_map (option_map (span_view n)) (slice_get ss k)) zero_on
        ∙ ap (option_map (option_map (span_view k))) span.1
        ∙ ap (λ e. Some e) (entry ∙ ap (span_of es) (sym (placed ks g.crates k at.0 crates at.1)))
        ∙ sym (map_at (entry_for es) g.crates k at.0 at.1)

-- ---- the whole

module _ (told : Option Files) (g : Graph) (registries : List Registry) (ks : List Krate) (old new : List File)
    (lock : Lock)
    (f : FoundManifests) (s : KrateSpans) (crates : crates_from 0 ks ≡ g.crates)
    (found : IsFound told g registries old new f)
    (put : IsPutTogether g lock f s) where
  workspace_read : Option Reading
  workspace_read = workspace_reading g found.scans found.alone

  shared_are : AreShared g registries (tree_of workspace_read) put.shared
  unfolding workspace_read
  shared_are = put.are registries (tree_of (workspace_reading g found.scans found.alone)) found.workspace.deps

  pub seen_is : IsSeen told g registries old new s.unread s.malformed (spans_view s)
  unfolding workspace_read
  seen_is = record {
    scans = found.scans;
    alone = found.alone;
    are = found.are;
    files = found.files;
    missing = missing_listed g found.scans found.alone f.missed.unread s.unread found.unread put.unread;
    broken = broken_listed g found.scans found.alone f.missed.malformed s.malformed found.malformed put.malformed;
    seen = record {
      manifests = λ agrees reports. ap (map (option_map manifest_view)) put.manifests ∙ found.manifests agrees reports;
      number = put.id ∙ found.workspace.id;
      shared = ap (shared_from 0) put.spans
          ∙ shared_is g ks (entries_by g registries (tree_of workspace_read)) put.shared.spans.items
          crates shared_are.spans;
      unused = ap (map (dep_view None)) put.unused ∙ shared_are.unused;
    };
  }

  pub spans_are : lock.spans ≡ map (lock_span_at g.crates) g.crates
      → AllZip (IsLineOf (lock_text g.crates)) g.crates lock.spans → AreSpansOf g s
  spans_are locked lines = record {
    graph = put.graph;
    lock = put.lock_spans ∙ locked;
    lines = subst (λ (spans : List LockSpan). AllZip (IsLineOf (lock_text g.crates)) g.crates spans)
        (sym put.lock_spans)
        lines;
    manifests_long = ap length put.manifests ∙ manifests_long;
    shared_long = ap length put.spans ∙ shared_are.spans.long;
    manifests = λ place. subst (λ (ms : List (Option Read)). IfSome (option_flatten (slice_get ms place))
        (IsManifestAt g place))
        (sym put.manifests) (found.own place);
    shared = λ place. subst (λ (ss : List (Option WorkspaceSpan)). IfSome (span_at ss place) (IsSharedAt g place))
        (sym put.spans) (shared_are.spans.krates place);
  }
    where
      manifests_long : length f.manifests ≡ length g.crates
      manifests_long = sym (length-map f.manifests (option_map manifest_view))
          ∙ ap length (found.manifests agree_so reports_agreement)
          ∙ length-map found.scans (manifest_in agree_so g)
          ∙ sym (length-map found.scans (λ (l : ManifestScan). l.crate)) ∙ ap length found.are.crates

-- the lock text is the first file behind the old ones
pub lock_at : {F : Type 0} (start mid new behind : List F) (lock : F) (id : ℕ) → mid ≡ start ++ lock ∷ []
    → new ≡ mid ++ behind
    → id ≡ length start → slice_get new id ≡ Some lock
lock_at {F} start mid new behind lock id added more is =
    let all : new ≡ start ++ (lock ∷ behind) = more ∙ ap (λ (fs : List F). fs ++ behind) added
    ∙ append_assoc start (lock ∷ []) behind in
    ap (λ (fs : List F). slice_get fs id) all ∙ slice_get-right start (lock ∷ behind) id 0 (omega (arith, is))

-- an entry for a missing manifest is for one that was to be read
pub wanted_are : (told : Option Files) (g : Graph) (registries : List Registry) (old new : List File)
    (unread : List Unread) (malformed : List (List ℕ)) (view : View)
    → IsSeen told g registries old new unread malformed view → AreWanted g unread
wanted_are told g registries old new unread malformed view seen u member = by_missing (seen.missing.sound u member)
  where
    by_missing : IsMissing g seen.scans seen.alone u → IsWanted g u
    by_missing (of_crate l is local none entry) = by_crate l.crate
        (subst (λ (cs : List Crate). Contains cs l.crate) seen.are.crates
        (contains_map (λ (k : ManifestScan). k.crate) seen.scans l is)) local entry
    by_missing (of_workspace unscanned none entry) = by_workspace entry
