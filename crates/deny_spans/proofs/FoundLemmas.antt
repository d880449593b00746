-- The found manifests: those of crates, and that of the workspace.
use Rattle.std.proofs.Common.{◌≡◌, ◌∙◌, ◌+◌, ◌<◌, ◌^◌, ◌++◌, [], ℕ, false, List, Option, None, Some, ap, append-nil}
use Rattle.std.proofs.Common.{append_assoc, length, length-append, refl, subst, sym}
use Rattle.std.specs.Prelude.{◌||◌, Contains, IfSome, MatchOption, is_some}
use Rattle.std.specs.List.{flat_map}
use Rattle.std.specs.Option.{option_map_or}
use Rattle.deny_base.specs.declared.files.File.{File}
use Rattle.deny_spec.specs.Graph.{Graph}
use Rattle.deny_base_disk.specs.Disk.{Files}
use Rattle.deny_spans.proofs.HomeLemmas.{HomeIs, home_is, nowhere, shared_by, text_is, text_short, there, utf8_text}
use Rattle.deny_spans.specs.ManifestScan.{IsReadAt, ManifestScan, ReadsAs, Reading, kept_as, kept_of, number_of}
use Rattle.deny_spans.specs.ManifestScan.{tree_of}
use Rattle.deny_spans.specs.ManifestScan.{home_in, workspace_scan, workspace_reading}
use Rattle.deny_spans.specs.Paths.{workspace_path}
use Rattle.deny_spans.specs.declared.gathered.GatheredManifests.{GatheredManifests}
use Rattle.deny_spans.specs.declared.krate_spans.FoundManifests.{FoundManifests}
use Rattle.deny_spans.specs.declared.missed.Missed.{Missed}
use Rattle.deny_spans.specs.declared.workspace.Workspace.{Workspace}
use Rattle.deny_spans.specs.private.Found.{IsFound, broken_alone}
use Rattle.deny_spans.specs.private.Gathered.{IsGathered, broken_of, missing_of}
use Rattle.deny_spans.specs.private.Workspace.{AreSharedIf, AreSharedOf, IsNotRead, IsReadAlone, IsShortAt}
use Rattle.deny_spans.specs.private.Workspace.{IsWorkspaceBy, IsWorkspaceIn, home_file, text_at}
use Rattle.deny_base.specs.Unread.{asked, if_unread}
use Rattle.deny_base.specs.declared.purpose.Purpose.TheVariants as purpose
use Rattle.deny_base.specs.declared.unread.Unread.{Unread}
use Rattle.deny_spans_workspace.specs.declared.registries.Registry.{Registry}

module _ (told : Option Files) (g : Graph) (start mid : List File) (s : GatheredManifests)
    (are : IsGathered told g g.crates start mid s) where
  home : HomeIs g are.scans s.numbers
  home = home_is g are.scans s.numbers are.crates are.numbers

  text_of : (l : ManifestScan) → Contains are.scans l → text_at mid (number_of l.read) ≡ utf8_text l.read
  text_of l member = ap (λ (fs : List File). text_at fs (number_of l.read)) are.files
      ∙ text_is start are.scans l are.numbered member

  pub home_short : IsShortAt g s.numbers mid
  home_short = by_home home
    where
      by_home : HomeIs g are.scans s.numbers → IsShortAt g s.numbers mid
      by_home (nowhere none unscanned) = subst (λ (o : Option ℕ). IfSome (text_at mid o) (λ text. length text < 2 ^ 28))
          (sym (no_file none)) tt
        where
          no_file : home_in g ≡ None → home_file g s.numbers ≡ None
          no_file e = rw e refl
      by_home (there place l is scan member kept) = subst (λ (o : Option (List ℕ)). IfSome o
          (λ text. length text < 2 ^ 28))
          (sym (ap (text_at mid) kept ∙ text_of l member))
          (text_short told l.crate.manifest_path l.read (are.each l member).read)

  module _ (registries : List Registry) (end : List File) (missed : Missed) (w : Workspace) where
    abbrev found_of : FoundManifests
    found_of = record { manifests = s.manifests; missed = missed; workspace = w }

    next_number : (alone : Option Reading) → IfSome alone (λ r. r.number ≡ length mid)
        → IfSome alone (λ r. r.number ≡ length start + length (flat_map kept_of are.scans))
    next_number None is = tt
    next_number (Some r) is = is ∙ ap length are.files ∙ length-append start (flat_map kept_of are.scans)

    -- the workspace's manifest is no crate's, and was read on its own
    found_alone : workspace_scan g are.scans ≡ None → IsReadAlone told g registries mid end s.missed missed w
        → IsFound told g registries start end found_of
    unfolding workspace_reading
    found_alone unscanned is = record {
      scans = are.scans;
      alone = is.alone;
      are = record {
        crates = are.crates;
        each = are.each;
        numbers = are.numbered;
        once = subst (λ (o : Option ManifestScan). IfSome o (λ _. is.alone ≡ None)) (sym unscanned) tt;
        own = is.at;
        number = next_number is.alone is.numbered;
      };
      files = is.files ∙ ap (λ fs. fs ++ kept_as (workspace_path g.root) is.alone) are.files
          ∙ append_assoc start (flat_map kept_of are.scans) (kept_as (workspace_path g.root) is.alone);
      unread = is.unread
          ∙ ap (λ us. us ++ if_unread (asked None purpose.Manifest (workspace_path g.root))
          (is_some is.alone)) are.unread
          ∙ ap (λ (o : Option ManifestScan). flat_map missing_of are.scans
          ++ if_unread (asked None purpose.Manifest (workspace_path g.root)) (is_some o || is_some is.alone))
          (sym unscanned);
      malformed = is.malformed ∙ ap (λ ps. ps ++ broken_alone g is.alone) are.malformed;
      manifests = are.manifests;
      own = are.own;
      workspace = subst (λ (o : Option ManifestScan). IsWorkspaceBy g registries
          (option_map_or (λ l. l.read) o is.alone) w)
          (sym unscanned) is.is;
    }

    -- the workspace's manifest is that of a crate
    found_there : (l : ManifestScan) → workspace_scan g are.scans ≡ Some l → Contains are.scans l
        → home_file g s.numbers ≡ number_of l.read → IsNotRead g registries s.numbers mid end s.missed missed w
        → IsFound told g registries start end found_of
    unfolding workspace_reading
    found_there l scan member kept is = record {
      scans = are.scans;
      alone = None;
      are = record {
        crates = are.crates;
        each = are.each;
        numbers = are.numbered;
        once = subst (λ (o : Option ManifestScan). IfSome o (λ _. ◌≡◌ {A = Option Reading} None None)) (sym scan) refl;
        own = tt;
        number = tt;
      };
      files = is.files ∙ are.files ∙ ap (λ fs. start ++ fs) (sym (append-nil (flat_map kept_of are.scans)));
      unread = is.unread ∙ are.unread ∙ sym (append-nil (flat_map missing_of are.scans))
          ∙ ap (λ (o : Option ManifestScan). flat_map missing_of are.scans
          ++ if_unread (asked None purpose.Manifest (workspace_path g.root)) (is_some o || false)) (sym scan);
      malformed = is.malformed ∙ are.malformed ∙ sym (append-nil (flat_map broken_of are.scans));
      manifests = are.manifests;
      own = are.own;
      workspace = subst (λ (o : Option ManifestScan). IsWorkspaceBy g registries (option_map_or (λ l. l.read) o None) w)
          (sym scan) (record { id = is.is.id ∙ kept; deps = deps });
    }
      where
        text : text_at mid w.id ≡ utf8_text l.read
        text = ap (text_at mid) (is.is.id ∙ kept) ∙ text_of l member

        reads : (o : Option Reading) → IfSome o (IsReadAt told l.crate.manifest_path)
            → IfSome o (λ r. ReadsAs r.text r.tree)
        reads None at = tt
        reads (Some r) at = at.reads

        deps : AreSharedIf g registries (tree_of l.read) w.deps
        deps = shared_by g registries l.read w.deps (reads l.read (are.each l member).read)
            (subst (λ (o : Option (List ℕ)). AreSharedOf g registries o w.deps) text is.is.deps)

    found_is : IsWorkspaceIn told g registries s.numbers mid end s.missed missed w
        → IsFound told g registries start end found_of
    found_is is = by_home home
      where
        by_home : HomeIs g are.scans s.numbers → IsFound told g registries start end found_of
        by_home (nowhere none unscanned) = found_alone unscanned (subst (λ (o : Option ℕ). MatchOption o
            (IsReadAlone told g registries mid end s.missed missed w)
            (λ place. IsNotRead g registries s.numbers mid end s.missed missed w)) none is)
        by_home (there place l at scan member kept) = found_there l scan member kept
            (subst (λ (o : Option ℕ). MatchOption o (IsReadAlone told g registries mid end s.missed missed w)
            (λ place. IsNotRead g registries s.numbers mid end s.missed missed w)) at is)

-- the entries that the workspace's manifest adds
pub unread_behind : (told : Option Files) (g : Graph) (registries : List Registry) (numbers : List (Option ℕ))
    (old_files new_files : List File) (old new : Missed) (w : Workspace)
    → IsWorkspaceIn told g registries numbers old_files new_files old new w
    → (more : List Unread) × (new.unread ≡ old.unread ++ more)
unread_behind told g registries numbers old_files new_files old new w is = by_home (home_in g) is
  where
    by_home : (o : Option ℕ) → MatchOption o (IsReadAlone told g registries old_files new_files old new w)
        (λ place. IsNotRead g registries numbers old_files new_files old new w)
        → (more : List Unread) × (new.unread ≡ old.unread ++ more)
    by_home None of = (if_unread (asked None purpose.Manifest (workspace_path g.root)) (is_some of.alone), of.unread)
    by_home (Some place) of = ([], of.unread ∙ sym (append-nil old.unread))

pub found_by : (told now : Option Files) (g : Graph) (registries : List Registry) (start mid end : List File)
    (s : GatheredManifests)
    (numbers : List (Option ℕ)) (missed : Missed) (w : Workspace) → now ≡ told → numbers ≡ s.numbers
    → IsGathered told g g.crates start mid s → IsWorkspaceIn now g registries numbers mid end s.missed missed w
    → IsFound told g registries start end (record { manifests = s.manifests; missed = missed; workspace = w })
found_by told now g registries start mid end s numbers missed w same all are is =
    found_is told g start mid s are registries end missed w
    (subst (λ (t : Option Files). IsWorkspaceIn t g registries s.numbers mid end s.missed missed w) same
    (subst (λ (ns : List (Option ℕ)). IsWorkspaceIn now g registries ns mid end s.missed missed w) all is))
