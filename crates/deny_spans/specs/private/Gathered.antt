-- What is made of the manifests of crates, one after another.
use Rattle.std.specs.Prelude.{◌≡◌, ◌<◌, ℕ, ◌^◌, ◌++◌, Bool, Contains, IfSome, List, [], ◌∷◌, None, Option, Some, false}
use Rattle.std.specs.Prelude.{if◌then◌else◌, is_none, is_some, length, map, option_map, slice_get}
use Rattle.std.specs.List.{flat_map}
use Rattle.std.specs.Option.{option_flatten, option_map_or}
use Rattle.deny_base_disk.specs.Disk.{Files, bytes_at}
use Rattle.deny_base.specs.declared.files.File.{File}
use Rattle.deny_spans_manifest.specs.Agreement.{ReportsAgreement}
use Rattle.deny_spans_manifest.specs.declared.manifest.Manifest.{Manifest}
use Rattle.deny_spec.specs.Graph.{Crate, Graph, kid_of}
use Rattle.deny_spans.specs.ManifestScan.{AreNumbered, IsManifestScan, ManifestScan, ReadsAs, Reading, kept_as, kept_of}
use Rattle.deny_spans.specs.ManifestScan.{number_of}
use Rattle.deny_spans.specs.Seen.{manifest_by, manifest_in, manifest_read}
use Rattle.deny_spans.specs.SpansView.{IsManifestAt, manifest_view}
use Rattle.deny_spans.specs.declared.gathered.GatheredManifests.{GatheredManifests}
use Rattle.deny_spans.specs.declared.gathered.ReadManifest.{ReadManifest}
use Rattle.deny_toml.specs.value.Value.{Value}
use Rattle.deny_base.specs.Unread.{asked, if_unread}
use Rattle.deny_base.specs.declared.purpose.Purpose.TheVariants as purpose
use Rattle.deny_base.specs.declared.unread.Unread.{Unread}

-- the entry for a crate's manifest, or none where it was read or is not to be read
abbrev pub missing_if : Crate → Bool → List Unread
missing_if c was_read =
    if is_some c.source then [] else if_unread (asked (Some (kid_of c)) purpose.Manifest c.manifest_path) was_read

abbrev pub missing_of : ManifestScan → List Unread
missing_of l = missing_if l.crate (is_some l.read)

-- whether a manifest was read and has no tree
abbrev pub is_broken : Option Reading → Bool
is_broken read = option_map_or (λ r. is_none r.tree) read false

abbrev pub broken_if : List ℕ → Bool → List (List ℕ)
broken_if path broken = if broken then path ∷ [] else []

abbrev pub broken_of : ManifestScan → List (List ℕ)
broken_of l = broken_if l.crate.manifest_path (is_broken l.read)

-- the bytes of a crate's manifest were read, or an entry for it was added
pub record IsReadLocally (told : Option Files) (c : Crate) (old new : List Unread) (read : Option (List ℕ))
    : Type 0 where
  pub local : IfSome c.source (λ _. read ≡ None)
  pub bytes : IfSome read (λ bytes. IfSome told (λ files. bytes ≡ bytes_at files c.manifest_path))
  pub short : IfSome read (λ bytes. length bytes < 2 ^ 28)
  pub unread : new ≡ old ++ missing_if c (is_some read)

abbrev pub reading : List ℕ → Option Value → ℕ → Reading
reading text tree number = record { text = text; tree = tree; number = number }

-- a manifest has the declarations of its text
abbrev pub SaysRead : Graph → Crate → Option Reading → Option Manifest → Type 0
SaysRead g c read manifest = (agrees : List ℕ → List ℕ → Bool) → ReportsAgreement agrees
    → option_map manifest_view manifest ≡ option_map_or (manifest_read agrees g c) read None

-- the manifest of a text
pub record IsManifestRead (g : Graph) (c : Crate) (text : List ℕ) (number : ℕ)
    (manifest : Option Manifest) : Type 0 where
  pub tree : Option Value
  pub reads : ReadsAs text tree
  pub says : (agrees : List ℕ → List ℕ → Bool) → ReportsAgreement agrees
      → option_map manifest_view manifest ≡ option_map (manifest_by agrees g c number) tree
  pub own : IfSome manifest (IsManifestAt g c.place)

-- a text was kept as a file, where it is UTF-8, and as a manifest, where it has a tree
pub record IsKept (g : Graph) (c : Crate) (text : Option (List ℕ)) (old new : List File)
    (kept : ReadManifest) : Type 0 where
  pub read : Option Reading
  pub texts : option_map (λ r. r.text) read ≡ text
  pub reads : IfSome read (λ r. ReadsAs r.text r.tree)
  pub numbered : IfSome read (λ r. r.number ≡ length old)
  pub files : new ≡ old ++ kept_as c.manifest_path read
  pub number : kept.number ≡ number_of read
  pub says : SaysRead g c read kept.manifest
  pub own : IfSome kept.manifest (IsManifestAt g c.place)

abbrev pub scan_of : Crate → Option Reading → ManifestScan
scan_of c read = record { crate = c; read = read }

-- a crate's manifest was scanned, and the result was put behind the others
pub record IsScanned (told : Option Files) (g : Graph) (c : Crate) (old_files new_files : List File)
    (old new : GatheredManifests)
    : Type 0 where
  pub read : Option Reading
  pub is : IsManifestScan told (scan_of c read)
  pub numbered : IfSome read (λ r. r.number ≡ length old_files)
  pub files : new_files ≡ old_files ++ kept_as c.manifest_path read
  pub numbers : new.numbers ≡ old.numbers ++ number_of read ∷ []
  pub unread : new.missed.unread ≡ old.missed.unread ++ missing_if c (is_some read)
  pub malformed : new.missed.malformed ≡ old.missed.malformed ++ broken_if c.manifest_path (is_broken read)
  pub manifest : Option Manifest
  pub manifests : new.manifests ≡ old.manifests ++ manifest ∷ []
  pub says : SaysRead g c read manifest
  pub own : IfSome manifest (IsManifestAt g c.place)

-- what was gathered of the first crates of a graph
pub record IsGathered (told : Option Files) (g : Graph) (cs : List Crate) (old new : List File)
    (s : GatheredManifests) : Type 0 where
  pub scans : List ManifestScan
  pub crates : map (λ l. l.crate) scans ≡ cs
  pub each : (l : ManifestScan) → Contains scans l → IsManifestScan told l
  pub numbered : AreNumbered (length old) scans
  pub files : new ≡ old ++ flat_map kept_of scans
  pub numbers : s.numbers ≡ map (λ l. number_of l.read) scans
  pub unread : s.missed.unread ≡ flat_map missing_of scans
  pub malformed : s.missed.malformed ≡ flat_map broken_of scans
  pub manifests : (agrees : List ℕ → List ℕ → Bool) → ReportsAgreement agrees
      → map (option_map manifest_view) s.manifests ≡ map (manifest_in agrees g) scans
  pub own : (place : ℕ) → IfSome (option_flatten (slice_get s.manifests place)) (IsManifestAt g place)
