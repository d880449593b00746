-- What is seen of a file by the rule that decides it, and of one more file.
use Rattle.std.proofs.Common.{◌≡◌, ◌∙◌, ◌+◌, ◌<◌, ◌++◌, ◌∷◌, [], ℕ, List, Option, Some, ap, append_assoc, get_or}
use Rattle.std.proofs.Common.{length, map, not, subst, sym, take}
use Rattle.std.specs.List.{AllZip}
use Rattle.std.proofs.lemmas.List.{map-append, take_more}
use Rattle.deny_base.specs.declared.span.Kid.{Kid}
use Rattle.deny_build_file.specs.Home.{home_path}
use Rattle.deny_spec.specs.Building.{Building, Bypass}
use Rattle.deny_spec.specs.declared.package.Found.{Found}
use Rattle.deny_spec.specs.declared.package.PackageFile.{PackageFile}
use Rattle.deny_spec_report.specs.BuildScripts.{used}
use Rattle.deny_spec_report.specs.PackageFiles.{is_decided_by, step_of}
use Rattle.deny_spec.specs.Crates as crates
use Rattle.deny_spec.specs.Graph.{Crate, kid_of}
use Rattle.deny_base_disk.specs.Disk.{Disk, Files, IsLater}
use Rattle.deny_build_scan.proofs.FilesLemmas.{entries_more, found_by_asks, seen_more}
use Rattle.deny_build_scan.specs.Deciding.{AreDeciding}
use Rattle.deny_build_scan.specs.Paths.{below}
use Rattle.deny_build_scan.specs.Seen.{IsFileSeen, of_crate}
use Rattle.deny_build_scan.specs.Why.{IsBecause, Why}
use Rattle.deny_build_scan.specs.declared.decide.Asks.{Asks}
use Rattle.deny_build_scan.specs.declared.decide.Decision.{Decision}
use Rattle.deny_build_scan.specs.declared.order.FilePath.{FilePath}
use Rattle.deny_build_scan.specs.private.Deciding.{IsDecided, asks_by, is_among}
use Rattle.deny_build_scan.specs.private.Entries.{IsFoundFor, asks_of, entries_for, entries_of, entries_of_all, gaps_of}
use Rattle.deny_build_scan.specs.private.Files.{file_of}
use Rattle.deny_base_disk.proofs.PieceLemmas.{later_same}
use Rattle.deny_base_unread.specs.Bound.{Folders}
use Rattle.deny_base.specs.declared.unread.Unread.{Unread}

-- ---- one file

module _ (b : Building) (c : Crate) (owner : Option Bypass) (used_is : used b c ≡ owner) (path root rest : List ℕ)
    (root_is : root ≡ crates.folder c) (rest_is : rest ≡ below root path) (d : Decision)
    (decided : IsDecided b owner rest d) (home : Option (List ℕ)) (found : Found) (file : PackageFile)
    (is : file ≡ file_of root home path d.globs found) where
  abbrev made : PackageFile
  made = file_of root home path d.globs found

  asks_same : d.asks ≡ asks_of b c made
  unfolding is_decided_by
  asks_same = decided.asks ∙ (λ i. asks_by (step_of b (sym used_is i) (rest_is i) (is_among d.globs)))

  pub file_noted : (krate : Option Kid) (old new : List Unread) → krate ≡ Some (kid_of c)
      → new ≡ old ++ entries_for d.asks krate path found → new ≡ old ++ entries_of b c path file
  file_noted krate old new of_c noted =
      noted ∙ (λ i. old ++ entries_for (asks_same i) (of_c i) path found)
      ∙ ap (λ f. old ++ entries_of b c path f) (sym is)

  made_seen : (why : Why) (told : Option Files)
      → IsFoundFor (of_crate why c) told (not b.with_archives) path d.asks found
      → IsFileSeen why told b home (gaps_of made) c path made
  made_seen why told found_for = record {
    rest = ap (λ r. below r path) root_is;
    globs = subst (λ (o : Option Bypass). AreDeciding b o made.path d.globs) (sym used_is)
        (subst (λ (p : List ℕ). AreDeciding b owner p d.globs) rest_is decided.globs);
    shown = ap (λ r. home_path path r home) root_is;
    found = found_by_asks (of_crate why c) told (not b.with_archives) path
        (step_of b (used b c) made.path (is_decided_by made)) found
        (subst (λ (a : Asks). IsFoundFor (of_crate why c) told (not b.with_archives) path a found) asks_same found_for);
  }

  pub file_seen : (why : Why) (told : Option Files)
      → IsFoundFor (of_crate why c) told (not b.with_archives) path d.asks found
      → IsFileSeen why told b home (gaps_of file) c path file
  file_seen why told found_for =
      subst (λ (f : PackageFile). IsFileSeen why told b home (gaps_of f) c path f) (sym is)
      (made_seen why told found_for)

-- ---- one more file

path_more : (xs : List FilePath) (i : ℕ) (x : FilePath) → i < length xs → x ≡ get_or xs i x
    → map (λ (p : FilePath). p.path) (take (i + 1) xs) ≡ map (λ (p : FilePath). p.path) (take i xs) ++ x.path ∷ []
path_more xs i x inside is =
    ap (map (λ (p : FilePath). p.path)) (take_more xs i x inside ∙ ap (λ y. take i xs ++ y ∷ []) (sym is))
    ∙ map-append (λ (p : FilePath). p.path) (take i xs) (x ∷ [])

module _ (b : Building) (home : Option (List ℕ)) (c : Crate) (start mid end : Disk) (before : IsLater start mid)
    (after : IsLater mid end) (xs : List FilePath) (i : ℕ) (x : FilePath) (inside : i < length xs)
    (is : x ≡ get_or xs i x) (files new : List PackageFile) (file : PackageFile) (pushed : new ≡ files ++ file ∷ [])
    (path : List ℕ) (path_is : path ≡ x.path) where
  abbrev paths : ℕ → List (List ℕ)
  paths n = map (λ (p : FilePath). p.path) (take n xs)

  pub next_seen : (folder : Folders)
      → AllZip (λ p f. IsFileSeen (IsBecause folder start mid) start.files b home (gaps_of f) c p f) (paths i) files
      → IsFileSeen (IsBecause folder mid end) mid.files b home (gaps_of file) c path file
      → AllZip (λ p f. IsFileSeen (IsBecause folder start end) start.files b home (gaps_of f) c p f) (paths (i + 1)) new
  next_seen folder zip one =
      subst (λ (fs : List PackageFile). AllZip (λ p f. IsFileSeen (IsBecause folder start end) start.files b home
      (gaps_of f) c p f) (paths (i + 1)) fs) (sym pushed)
      (subst (λ (ps : List (List ℕ)). AllZip (λ p f. IsFileSeen (IsBecause folder start end) start.files b home
      (gaps_of f) c p f) ps (files ++ file ∷ [])) (sym (path_more xs i x inside is))
      (seen_more b home c folder start mid end (paths i) files x.path file (later_same start) before after
      (later_same end) zip
      (subst (λ (p : List ℕ). IsFileSeen (IsBecause folder mid end) mid.files b home (gaps_of file) c p file) path_is
      one)))

  pub next_noted : (R : List ℕ → PackageFile → Type 0) (u0 u1 u2 : List Unread) → AllZip R (paths i) files
      → u1 ≡ u0 ++ entries_of_all b c (paths i) files → u2 ≡ u1 ++ entries_of b c path file
      → u2 ≡ u0 ++ entries_of_all b c (paths (i + 1)) new
  next_noted R u0 u1 u2 zip noted one =
      one ∙ ap (λ us. us ++ entries_of b c path file) noted
      ∙ append_assoc u0 (entries_of_all b c (paths i) files) (entries_of b c path file)
      ∙ ap (λ p. u0 ++ (entries_of_all b c (paths i) files ++ entries_of b c p file)) path_is
      ∙ ap (λ us. u0 ++ us) (sym (entries_more b home c (λ k. []) start R (paths i) files x.path file zip))
      ∙ (λ j. u0 ++ entries_of_all b c (sym (path_more xs i x inside is) j) (sym pushed j))
