-- What is there of the files of manifests after an error.
use Rattle.std.proofs.Common.{◌≡◌, ◌∙◌, ◌+◌, ◌<◌, ◌^◌, ◌++◌, ◌∷◌, [], ℕ, List, Option, None, Some, IsUtf8, ap}
use Rattle.std.proofs.Common.{append-nil, append_assoc, cond, drop, inl, inr, length, map, refl, subst, sym, take}
use Rattle.std.specs.Prelude.{◌||◌, Contains, IfSome, OnErr, Result, is_some, option_map, slice_get}
use Rattle.std.specs.List.{flat_map}
use Rattle.std.specs.Option.{option_map_or}
use Rattle.std.proofs.lemmas.Grind.{flat_map-append}
use Rattle.std.proofs.lemmas.List.{take-append-drop, take_more}
use Rattle.std.proofs.lemmas.Option.{get_or_from_slice_get, slice_get_within}
use Rattle.std.proofs.Math.Seq.{take-append_seam}
use Rattle.deny_base.specs.Unread.{asked, if_unread}
use Rattle.deny_base.specs.declared.files.File.{File}
use Rattle.deny_base.specs.declared.purpose.Purpose.TheVariants as purpose
use Rattle.deny_base.specs.declared.unread.Unread.{Unread}
use Rattle.deny_base_disk.specs.Disk.{Disk, Files, IsLater, bytes_at}
use Rattle.deny_base_disk.proofs.PieceLemmas.{later_same}
use Rattle.deny_base_lists.proofs.Members.{Contains-first, Contains-rest}
use Rattle.deny_base_lists.proofs.Results.{on_err_then}
use Rattle.deny_base_lists.specs.Prefix.{Gains, IsPrefix}
use Rattle.deny_base_unread.proofs.CauseLemmas.{caused_wider}
use Rattle.deny_base_unread.specs.Bound.{Folders}
use Rattle.deny_base_unread.specs.Causes.{AreCaused}
use Rattle.deny_spec.specs.Graph.{Crate, Graph, Source, kid_of}
use Rattle.deny_spans.proofs.HomeLemmas.{HomeIs, home_is, nowhere, there}
use Rattle.deny_spans.proofs.KeepLemmas.{file_more}
use Rattle.deny_spans.proofs.ManifestScanLemmas.{file_of}
use Rattle.deny_spans.specs.Begun.{AreKept, AreOfFirst, IsTextAt, lone_manifest, manifests_in_order, none, one_read}
use Rattle.deny_spans.specs.Begun.{one_unread, own_manifest}
use Rattle.deny_spans.specs.ManifestScan.{IsManifestScan, IsReadAt, ManifestScan, Reading, home_in, kept_as, kept_of}
use Rattle.deny_spans.specs.ManifestScan.{number_of, text_file, workspace_scan}
use Rattle.deny_spans.specs.Paths.{workspace_path}
use Rattle.deny_spans.specs.Seen.{AreManifestScans}
use Rattle.deny_spans.specs.declared.gathered.GatheredManifests.{GatheredManifests}
use Rattle.deny_spans.specs.declared.krate_spans.FoundManifests.{FoundManifests}
use Rattle.deny_spans.specs.private.Begun.{MayHave, MayHaveText}
use Rattle.deny_spans.specs.private.Found.{IsFound, missing_alone}
use Rattle.deny_spans.specs.private.Gathered.{IsGathered, IsReadLocally, missing_of}
use Rattle.deny_spans_workspace.specs.declared.registries.Registry.{Registry}

-- ---- one text

-- the file of a text that is UTF-8 was added
pub have_text : (path bytes text : List ℕ) (old new : List File) → IsUtf8 bytes → text ≡ bytes
    → new ≡ old ++ file_of path text ∷ [] → MayHaveText path (Some bytes) old new
have_text path bytes text old new utf8 same is =
    inr (file_more path bytes old new utf8 (is ∙ ap (λ t. old ++ file_of path t ∷ []) same))

-- what was read was kept
pub have_reading : (path : List ℕ) (read : Option Reading) (text : Option (List ℕ)) (old new : List File)
    → option_map (λ r. r.text) read ≡ text → new ≡ old ++ kept_as path read → MayHaveText path text old new
have_reading path None text old new texts is =
    inr (is ∙ ap (λ (o : Option (List ℕ)). old ++ option_map_or (text_file path) o []) texts)
have_reading path (Some r) text old new texts is =
    inr (is ∙ ap (λ (o : Option (List ℕ)). old ++ option_map_or (text_file path) o []) texts)

-- ---- one manifest

module _ (told : Option Files) where
  pub have_manifest : (m : Unread) (text : List ℕ) (old new : List File) → IsTextAt told m.path text
      → MayHaveText m.path (Some text) old new → MayHave told (m ∷ []) old new
  have_manifest m text old new at (inl same) = inl same
  have_manifest m text old new at (inr is) = inr (record {
    more = text_file m.path text ++ [];
    behind = is ∙ ap (λ fs. old ++ fs) (sym (append-nil (text_file m.path text)));
    are = one_read m text at none;
  })

  -- the manifest of a crate, where it has no source
  pub have_own : (c : Crate) (text : Option (List ℕ)) (us vs : List Unread) (old new : List File)
      → IsReadLocally told c us vs text → MayHaveText c.manifest_path text old new
      → MayHave told (own_manifest c) old new
  have_own c text us vs old new read (inl same) = inl same
  have_own c None us vs old new read (inr is) = inl (is ∙ append-nil old)
  have_own c (Some text) us vs old new read (inr is) = by_source c.source refl read.local
    where
      by_source : (o : Option Source) → c.source ≡ o → IfSome o (λ _. ◌≡◌ {A = Option (List ℕ)} (Some text) None)
          → MayHave told (own_manifest c) old new
      by_source (Some source) e local = absurd (cc local)
      by_source None e local =
          let m : Unread = asked (Some (kid_of c)) purpose.Manifest c.manifest_path in
          subst (λ (o : Option Source). MayHave told (cond (is_some o) [] (m ∷ [])) old new) (sym e)
          (have_manifest m text old new (record { bytes = read.bytes; short = read.short }) (inr is))

  -- the bytes of a manifest were kept at its path, which has several names here
  pub have_bytes : {T E V : Type 0} (r : Result T E) (m : Unread) (path name : List ℕ) (items : V → List ℕ)
      (read : Option V) (v : V) (bytes : List ℕ) (old new : List File) → path ≡ m.path → name ≡ path → read ≡ Some v
      → bytes ≡ items v
      → IfSome read (λ w. IfSome told (λ files. items w ≡ bytes_at files name))
      → IfSome read (λ w. length (items w) < 2 ^ 28) → OnErr r (MayHaveText path (Some bytes) old new)
      → OnErr r (MayHave told (m ∷ []) old new)
  have_bytes {V} r m path name items read v bytes old new same named is all here short have =
      on_err_then r have (λ (may : MayHaveText path (Some bytes) old new).
      have_manifest m bytes old new at (subst (λ (p : List ℕ). MayHaveText p (Some bytes) old new) same may))
    where
      at : IsTextAt told m.path bytes
      at = record {
        bytes = subst (λ (p : List ℕ). IfSome told (λ files. bytes ≡ bytes_at files p)) (named ∙ same)
            (subst (λ (bs : List ℕ). IfSome told (λ files. bs ≡ bytes_at files name)) (sym all)
            (subst (λ (o : Option V). IfSome o (λ w. IfSome told (λ files. items w ≡ bytes_at files name))) is here));
        short = subst (λ (bs : List ℕ). length bs < 2 ^ 28) (sym all)
            (subst (λ (o : Option V). IfSome o (λ w. length (items w) < 2 ^ 28)) is short);
      }

  -- ---- manifests one after another

  kept_then : (ms ns us vs : List Unread) (fs gs : List File) → AreKept told ms fs us → AreKept told ns gs vs
      → AreKept told (ms ++ ns) (fs ++ gs) (us ++ vs)
  kept_then _ ns _ vs _ gs none behind = behind
  kept_then _ ns _ vs _ gs (one_read {manifests = ms} {unread = us} {files = fs} m text at rest) behind =
      subst (λ (hs : List File). AreKept told (m ∷ (ms ++ ns)) hs (us ++ vs))
      (sym (append_assoc (text_file m.path text) fs gs))
      (one_read m text at (kept_then ms ns us vs fs gs rest behind))
  kept_then _ ns _ vs _ gs (one_unread {manifests = ms} {unread = us} {files = fs} m rest) behind =
      one_unread m (kept_then ms ns us vs fs gs rest behind)

  -- a manifest that is to be read, unless there is something in its place
  one_kept : {S : Type 0} (m : Unread) (place : Option S) (read : Option Reading) → IfSome place (λ _. read ≡ None)
      → IfSome read (IsReadAt told m.path)
      → AreKept told (cond (is_some place) [] (m ∷ [])) (kept_as m.path read)
      (cond (is_some place) [] (if_unread m (is_some read)))
  one_kept m None None once at = one_unread m none
  one_kept m None (Some r) once at = subst (λ (fs : List File). AreKept told (m ∷ []) fs [])
      (append-nil (text_file m.path r.text)) (one_read m r.text (record { bytes = at.bytes; short = at.short }) none)
  one_kept m (Some s) None once at = none
  one_kept m (Some s) (Some r) once at = absurd (cc once)

  scans_kept : (scans : List ManifestScan) → ((l : ManifestScan) → Contains scans l → IsManifestScan told l)
      → AreKept told (flat_map own_manifest (map (λ l. l.crate) scans)) (flat_map kept_of scans)
      (flat_map missing_of scans)
  unfolding kept_of
  scans_kept [] each = none
  scans_kept (l ∷ scans) each =
      let is = each l (Contains-first l scans) in
      kept_then (own_manifest l.crate) _ (missing_of l) _ (kept_of l) _
      (one_kept (asked (Some (kid_of l.crate)) purpose.Manifest l.crate.manifest_path) l.crate.source l.read is.local
      is.read)
      (scans_kept scans (λ k member. each k (Contains-rest l scans k member)))

  lone_kept : (m : Unread) (home : Option ℕ) (scan : Option ManifestScan) (alone : Option Reading)
      → is_some home ≡ is_some scan → IfSome scan (λ _. alone ≡ None) → IfSome alone (IsReadAt told m.path)
      → AreKept told (cond (is_some home) [] (m ∷ [])) (kept_as m.path alone)
      (if_unread m (is_some scan || is_some alone))
  lone_kept m None None alone same once at = one_kept m (the_none ℕ) alone tt at
    where
      the_none : (X : Type 0) → Option X
      the_none X = None
  lone_kept m (Some place) (Some l) alone same once at = one_kept m (Some l) alone once at
  lone_kept m None (Some l) alone same once at = absurd (cc same)
  lone_kept m (Some place) None alone same once at = absurd (cc same)

  -- the manifests of all crates, and the workspace's
  all_kept : (g : Graph) (number : ℕ) (scans : List ManifestScan) (alone : Option Reading)
      → AreManifestScans told g number scans alone
      → AreKept told (manifests_in_order g) (flat_map kept_of scans ++ kept_as (workspace_path g.root) alone)
      (flat_map missing_of scans ++ missing_alone g scans alone)
  all_kept g number scans alone are =
      kept_then (flat_map own_manifest g.crates) (lone_manifest g) (flat_map missing_of scans) _
      (flat_map kept_of scans) _
      (subst (λ (cs : List Crate). AreKept told (flat_map own_manifest cs) (flat_map kept_of scans)
      (flat_map missing_of scans)) are.crates (scans_kept scans are.each))
      (lone_kept (asked None purpose.Manifest (workspace_path g.root)) (home_in g) (workspace_scan g scans) alone
      (by_home (home_is g scans _ are.crates refl)) are.once are.own)
    where
      by_home : HomeIs g scans (map (λ l. number_of l.read) scans)
          → is_some (home_in g) ≡ is_some (workspace_scan g scans)
      by_home (nowhere home scan) = ap is_some home ∙ ap is_some (sym scan)
      by_home (there place l home scan member kept) = ap is_some home ∙ ap is_some (sym scan)

-- ---- the first manifests

is_first_of : (g : Graph) (first rest : List Unread) → first ++ rest ≡ manifests_in_order g
    → IsPrefix (manifests_in_order g) first
is_first_of g first rest is =
    (length first, sym (take-append_seam first rest) ∙ ap (λ ms. take (length first) ms) is)

module _ (a b now : Disk) (g : Graph) (before : IsLater a b) (after : IsLater b now) (start mid end : List File)
    (s : GatheredManifests) (caused : (folder : Folders) → AreCaused folder a b s.missed.unread) where
  still_caused : (folder : Folders) → AreCaused folder a now s.missed.unread
  still_caused folder = caused_wider folder a a b now s.missed.unread (later_same a) after (caused folder)

  -- what was gathered of crates, and then what may have been added of further manifests
  begun_then : (cs : List Crate) (next rest : List Unread)
      → flat_map own_manifest cs ++ (next ++ rest) ≡ manifests_in_order g → IsGathered a.files g cs start mid s
      → MayHave a.files next mid end → Gains (AreOfFirst a now g) start end
  begun_then cs next rest all are have = by_have have
    where
      own : AreKept a.files (flat_map own_manifest cs) (flat_map kept_of are.scans) s.missed.unread
      own = subst (λ (us : List Unread). AreKept a.files (flat_map own_manifest cs) (flat_map kept_of are.scans) us)
          (sym are.unread) (subst (λ (ds : List Crate). AreKept a.files (flat_map own_manifest ds)
          (flat_map kept_of are.scans) (flat_map missing_of are.scans)) are.crates
          (scans_kept a.files are.scans are.each))

      by_have : MayHave a.files next mid end → Gains (AreOfFirst a now g) start end
      by_have (inl same) = record {
        more = flat_map kept_of are.scans;
        behind = same ∙ are.files;
        are = record {
          first = flat_map own_manifest cs;
          is_first = is_first_of g (flat_map own_manifest cs) (next ++ rest) all;
          unread = s.missed.unread;
          kept = own;
          caused = still_caused;
        };
      }
      by_have (inr gains) = record {
        more = flat_map kept_of are.scans ++ gains.more;
        behind = gains.behind ∙ ap (λ fs. fs ++ gains.more) are.files
            ∙ append_assoc start (flat_map kept_of are.scans) gains.more;
        are = record {
          first = flat_map own_manifest cs ++ next;
          is_first = is_first_of g (flat_map own_manifest cs ++ next) rest
              (append_assoc (flat_map own_manifest cs) next rest ∙ all);
          unread = s.missed.unread;
          kept = subst (λ (us : List Unread). AreKept a.files (flat_map own_manifest cs ++ next)
              (flat_map kept_of are.scans ++ gains.more) us) (append-nil s.missed.unread)
              (kept_then a.files (flat_map own_manifest cs) next s.missed.unread [] (flat_map kept_of are.scans)
              gains.more own gains.are);
          caused = still_caused;
        };
      }

  -- an error at the crate at a place
  pub begun_at : (place : ℕ) (c : Crate) → slice_get g.crates place ≡ Some c
      → IsGathered a.files g (take place g.crates) start mid s → MayHave b.files (own_manifest c) mid end
      → Gains (AreOfFirst a now g) start end
  begun_at place c at are have =
      begun_then (take place g.crates) (own_manifest c)
      (flat_map own_manifest (drop (place + 1) g.crates) ++ lone_manifest g) all are
      (subst (λ (t : Option Files). MayHave t (own_manifest c) mid end) before.files have)
    where
      more : take (place + 1) g.crates ≡ take place g.crates ++ c ∷ []
      more = take_more g.crates place c (slice_get_within g.crates place c at)
          ∙ ap (λ (d : Crate). take place g.crates ++ d ∷ []) (get_or_from_slice_get g.crates place c c at)

      own_more : flat_map own_manifest (take place g.crates) ++ own_manifest c
          ≡ flat_map own_manifest (take (place + 1) g.crates)
      own_more = ap (λ ms. flat_map own_manifest (take place g.crates) ++ ms) (sym (append-nil (own_manifest c)))
          ∙ sym (flat_map-append own_manifest (take place g.crates) (c ∷ []))
          ∙ ap (flat_map own_manifest) (sym more)

      all : flat_map own_manifest (take place g.crates)
          ++ (own_manifest c ++ (flat_map own_manifest (drop (place + 1) g.crates) ++ lone_manifest g))
          ≡ manifests_in_order g
      all = sym (append_assoc (flat_map own_manifest (take place g.crates)) (own_manifest c) _)
          ∙ ap (λ ms. ms ++ (flat_map own_manifest (drop (place + 1) g.crates) ++ lone_manifest g)) own_more
          ∙ sym (append_assoc (flat_map own_manifest (take (place + 1) g.crates))
          (flat_map own_manifest (drop (place + 1) g.crates)) (lone_manifest g))
          ∙ ap (λ ms. ms ++ lone_manifest g) (sym (flat_map-append own_manifest (take (place + 1) g.crates)
          (drop (place + 1) g.crates)) ∙ ap (flat_map own_manifest) (take-append-drop (place + 1) g.crates))

  -- an error at the workspace's manifest
  pub begun_last : IsGathered a.files g g.crates start mid s → MayHave b.files (lone_manifest g) mid end
      → Gains (AreOfFirst a now g) start end
  begun_last are have = begun_then g.crates (lone_manifest g) []
      (ap (λ ms. flat_map own_manifest g.crates ++ ms) (append-nil (lone_manifest g))) are
      (subst (λ (t : Option Files). MayHave t (lone_manifest g) mid end) before.files have)

-- an error behind all manifests
pub begun_whole : (old new : Disk) (g : Graph) (registries : List Registry) (start mid end : List File)
    (f : FoundManifests) → mid ≡ start → IsFound old.files g registries mid end f
    → ((folder : Folders) → AreCaused folder old new f.missed.unread) → Gains (AreOfFirst old new g) start end
begun_whole old new g registries start mid end f same found caused = record {
  more = flat_map kept_of found.scans ++ kept_as (workspace_path g.root) found.alone;
  behind = found.files
      ∙ ap (λ fs. fs ++ (flat_map kept_of found.scans ++ kept_as (workspace_path g.root) found.alone)) same;
  are = record {
    first = manifests_in_order g;
    is_first = is_first_of g (manifests_in_order g) [] (append-nil (manifests_in_order g));
    unread = f.missed.unread;
    kept = subst (λ (us : List Unread). AreKept old.files (manifests_in_order g)
        (flat_map kept_of found.scans ++ kept_as (workspace_path g.root) found.alone) us) (sym found.unread)
        (all_kept old.files g (length mid) found.scans found.alone found.are);
    caused = caused;
  };
}
