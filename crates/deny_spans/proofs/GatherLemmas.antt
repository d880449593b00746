-- What is gathered of manifests, crate by crate.
use Rattle.std.proofs.Common.{◌≡◌, ◌∙◌, ◌+◌, ◌<◌, ◌≤◌, ◌^◌, ◌++◌, ◌∷◌, [], ℕ, Bool, true, false, List, Option, None}
use Rattle.std.proofs.Common.{Some, ap, append-nil, append_assoc, arith, cond, inl, inr, length, length-append, map}
use Rattle.std.proofs.Common.{refl, subst, sym, take, zero, suc}
use Rattle.std.specs.Prelude.{Contains, IfSome, ◌&&◌, is_none, is_some, option_map, slice_get}
use Rattle.std.specs.List.{flat_map}
use Rattle.std.specs.Option.{option_flatten}
use Rattle.std.proofs.lemmas.Grind.{flat_map-append}
use Rattle.std.specs.Str.{is_utf8}
use Rattle.std.proofs.lemmas.List.{length-map, length-take, map-append, take_all, take_more}
use Rattle.std.proofs.lemmas.Option.{get_or_from_slice_get, slice_get_within}
use Rattle.std.proofs.lemmas.List.Elements.{Contains-append_cases}
use Rattle.deny_base.specs.declared.files.File.{File}
use Rattle.deny_krates.proofs.CratesLemmas.{length-crates_from}
use Rattle.deny_krates.specs.Crates.{crates_from}
use Rattle.deny_krates.specs.krate.Krate.{Krate}
use Rattle.deny_base_lists.proofs.Members.{Contains-by_cases, no_member}
use Rattle.deny_base_lists.proofs.Options.{is_some-option_map}
use Rattle.deny_spans_manifest.proofs.AgreementLaw.{agree_so, reports_agreement}
use Rattle.deny_spans_manifest.specs.Agreement.{ReportsAgreement}
use Rattle.deny_spans_manifest.specs.declared.manifest.Manifest.{Manifest}
use Rattle.deny_spec.specs.Graph.{Crate, Graph}
use Rattle.deny_base_disk.specs.Disk.{Files, bytes_at}
use Rattle.deny_spans.proofs.ManifestScanLemmas.{numbered_more}
use Rattle.deny_spans.specs.ManifestScan.{IsManifestScan, ManifestScan, ReadsAs, Reading, kept_as, kept_of, number_of}
use Rattle.deny_spans.specs.Seen.{manifest_by, manifest_in}
use Rattle.deny_spans.specs.SpansView.{IsManifestAt, manifest_view}
use Rattle.deny_spans.specs.declared.gathered.GatheredManifests.{GatheredManifests}
use Rattle.deny_spans.specs.declared.gathered.ReadManifest.{ReadManifest}
use Rattle.deny_spans.specs.private.Gathered.{IsGathered, IsKept, IsScanned, IsReadLocally, SaysRead, broken_if}
use Rattle.deny_spans.specs.private.Gathered.{broken_of, is_broken, scan_of, missing_if, missing_of}
use Rattle.deny_base.specs.declared.unread.Unread.{Unread}

-- ---- lists that gain one

each_more : {X : Type 0} (P : X → Type 0) (xs : List X) (x : X) → ((y : X) → Contains xs y → P y) → P x
    → (y : X) → Contains (xs ++ x ∷ []) y → P y
each_more P xs x each here y member = elim (Contains-append_cases xs (x ∷ []) y member) as (λ _. P y) [
  | inl before ↦ each y before
  | inr last ↦ Contains-by_cases x [] y last (λ same. subst P same here) (λ none. absurd (no_member y none))
]

flat_more : {X Y : Type 0} (f : X → List Y) (xs : List X) (x : X) (old new : List Y) → old ≡ flat_map f xs
    → new ≡ old ++ f x → new ≡ flat_map f (xs ++ x ∷ [])
flat_more f xs x old new are is =
    is ∙ ap (λ ys. ys ++ f x) are ∙ ap (λ ys. flat_map f xs ++ ys) (sym (append-nil (f x)))
    ∙ sym (flat_map-append f xs (x ∷ []))

-- a property of each place of a list with gaps is kept when an item is added
own_more : {X : Type 0} (P : ℕ → X → Type 0) (ms : List (Option X)) (m : Option X)
    → ((p : ℕ) → IfSome (option_flatten (slice_get ms p)) (P p)) → IfSome m (P (length ms))
    → (p : ℕ) → IfSome (option_flatten (slice_get (ms ++ m ∷ []) p)) (P p)
own_more P [] m all here zero = here
own_more P [] m all here (suc p) = tt
own_more P (x ∷ ms) m all here zero = all 0
own_more P (x ∷ ms) m all here (suc p) = own_more (λ p. P (suc p)) ms m (λ p. all (suc p)) here p

-- ---- one crate more

module _ (told : Option Files) (g : Graph) (cs : List Crate) (c : Crate) (start mid end : List File)
    (old new : GatheredManifests)
    (are : IsGathered told g cs start mid old) (one : IsScanned told g c mid end old new)
    (place : c.place ≡ length cs) where
  abbrev here : ManifestScan
  here = scan_of c one.read

  scans_long : length are.scans ≡ length cs
  scans_long = sym (length-map are.scans (λ (l : ManifestScan). l.crate)) ∙ ap length are.crates

  manifests_long : length old.manifests ≡ length cs
  manifests_long = sym (length-map old.manifests (option_map manifest_view))
      ∙ ap length (are.manifests agree_so reports_agreement)
      ∙ length-map are.scans (manifest_in agree_so g) ∙ scans_long

  next_number : IfSome one.read (λ r. r.number ≡ length start + length (flat_map kept_of are.scans))
  next_number = by_read one.read one.numbered
    where
      by_read : (o : Option Reading) → IfSome o (λ r. r.number ≡ length mid)
          → IfSome o (λ r. r.number ≡ length start + length (flat_map kept_of are.scans))
      by_read None is = tt
      by_read (Some r) is = is ∙ ap length are.files ∙ length-append start (flat_map kept_of are.scans)

  own_each : (p : ℕ) → IfSome (option_flatten (slice_get new.manifests p)) (IsManifestAt g p)
  own_each p = subst (λ (ms : List (Option Manifest)). IfSome (option_flatten (slice_get ms p)) (IsManifestAt g p))
      (sym one.manifests)
      (own_more (IsManifestAt g) old.manifests one.manifest are.own
      (subst (λ (n : ℕ). IfSome one.manifest (IsManifestAt g n)) (place ∙ sym manifests_long) one.own) p)

  said : (agrees : List ℕ → List ℕ → Bool) → ReportsAgreement agrees
      → map (option_map manifest_view) new.manifests ≡ map (manifest_in agrees g) (are.scans ++ here ∷ [])
  unfolding manifest_in
  said agrees reports = ap (map (option_map manifest_view)) one.manifests
      ∙ map-append (option_map manifest_view) old.manifests (one.manifest ∷ [])
      ∙ ap (λ ms. ms ++ option_map manifest_view one.manifest ∷ []) (are.manifests agrees reports)
      ∙ ap (λ m. map (manifest_in agrees g) are.scans ++ m ∷ []) (one.says agrees reports)
      ∙ sym (map-append (manifest_in agrees g) are.scans (here ∷ []))

  files_more : end ≡ start ++ flat_map kept_of (are.scans ++ here ∷ [])
  unfolding kept_of
  files_more = one.files ∙ ap (λ fs. fs ++ kept_as c.manifest_path one.read) are.files
      ∙ append_assoc start (flat_map kept_of are.scans) (kept_as c.manifest_path one.read)
      ∙ ap (λ fs. start ++ fs) (flat_more kept_of are.scans here (flat_map kept_of are.scans)
      (flat_map kept_of are.scans ++ kept_as c.manifest_path one.read) refl refl)

  gathered_more : IsGathered told g (cs ++ c ∷ []) start end new
  gathered_more = record {
    scans = are.scans ++ here ∷ [];
    crates = map-append (λ (l : ManifestScan). l.crate) are.scans (here ∷ []) ∙ ap (λ ds. ds ++ c ∷ []) are.crates;
    each = each_more (IsManifestScan told) are.scans here are.each one.is;
    numbered = numbered_more (length start) are.scans here are.numbered next_number;
    files = files_more;
    numbers = one.numbers ∙ ap (λ ns. ns ++ number_of one.read ∷ []) are.numbers
        ∙ sym (map-append (λ (l : ManifestScan). number_of l.read) are.scans (here ∷ []));
    unread = flat_more missing_of are.scans here old.missed.unread new.missed.unread are.unread one.unread;
    malformed = flat_more broken_of are.scans here old.missed.malformed new.missed.malformed are.malformed
        one.malformed;
    manifests = said;
    own = own_each;
  }

-- ---- one crate, by what was read of its manifest and what was kept

module _ (told : Option Files) (c : Crate) where
  -- the properties of a text that was read are those of the scan
  read_is_scan : (read : Option Reading) (text : Option (List ℕ)) → option_map (λ r. r.text) read ≡ text
      → IfSome c.source (λ _. text ≡ None)
      → IfSome text (λ bytes. IfSome told (λ files. bytes ≡ bytes_at files c.manifest_path))
      → IfSome text (λ bytes. length bytes < 2 ^ 28) → IfSome read (λ r. ReadsAs r.text r.tree)
      → IsManifestScan told (scan_of c read)
  read_is_scan None None texts local bytes short reads = record { local = of_none c.source; read = tt }
    where
      of_none : {X : Type 0} (o : Option X) → IfSome o (λ _. ◌≡◌ {A = Option Reading} None None)
      of_none None = tt
      of_none (Some x) = refl
  read_is_scan None (Some text) texts local bytes short reads = absurd (cc texts)
  read_is_scan (Some r) None texts local bytes short reads = absurd (cc texts)
  read_is_scan (Some r) (Some text) texts local bytes short reads =
      let same : r.text ≡ text = cc in
      record {
        local = of_local c.source local;
        read = record {
          bytes = subst (λ (bs : List ℕ). IfSome told (λ files. bs ≡ bytes_at files c.manifest_path)) (sym same) bytes;
          short = subst (λ (bs : List ℕ). length bs < 2 ^ 28) (sym same) short;
          reads = reads;
        };
      }
    where
      of_local : {X : Type 0} (o : Option X) → IfSome o (λ _. ◌≡◌ {A = Option (List ℕ)} (Some text) None)
          → IfSome o (λ _. ◌≡◌ {A = Option Reading} (Some r) None)
      of_local None is = tt
      of_local (Some x) is = absurd (cc is)

was_read : (read : Option Reading) (text : Option (List ℕ)) → option_map (λ r. r.text) read ≡ text
    → is_some text ≡ is_some read
was_read None text is = ap is_some (sym is)
was_read (Some r) text is = ap is_some (sym is)

same_gap : {X Y Z : Type 0} (f : X → Z) (h : Y → Z) (o : Option X) (p : Option Y) → option_map f o ≡ option_map h p
    → is_none o ≡ is_none p
same_gap f h None None is = refl
same_gap f h None (Some y) is = absurd (cc is)
same_gap f h (Some x) None is = absurd (cc is)
same_gap f h (Some x) (Some y) is = refl

-- a manifest is missing exactly where a text was read that has no tree
broken_so : (g : Graph) (c : Crate) (read : Option Reading) (text : Option (List ℕ)) (manifest : Option Manifest)
    → option_map (λ r. r.text) read ≡ text → SaysRead g c read manifest
    → (is_some text && is_none manifest) ≡ is_broken read
broken_so g c None text manifest texts says = ap (λ (o : Option (List ℕ)). is_some o && is_none manifest) (sym texts)
broken_so g c (Some r) text manifest texts says =
    ap (λ (o : Option (List ℕ)). is_some o && is_none manifest) (sym texts)
    ∙ same_gap manifest_view (manifest_by agree_so g c r.number) manifest r.tree (says agree_so reports_agreement)

-- ---- the scan of one crate

pub scan_is : {V : Type 0} (told : Option Files) (g : Graph) (c : Crate) (old_files new_files : List File)
    (old new : GatheredManifests) (mid : List Unread) (items : V → List ℕ) (read : Option V) (kept : ReadManifest)
    (was : Bool)
    → IsReadLocally told c old.missed.unread mid (option_map items read)
    → IsKept g c (option_map items read) old_files new_files kept → was ≡ is_some read
    → new.manifests ≡ old.manifests ++ kept.manifest ∷ [] → new.numbers ≡ old.numbers ++ kept.number ∷ []
    → new.missed.unread ≡ mid
    → new.missed.malformed ≡ old.missed.malformed ++ broken_if c.manifest_path (was && is_none kept.manifest)
    → IsScanned told g c old_files new_files old new
scan_is told g c old_files new_files old new mid items read kept was local kept_is so manifests numbers unread
    malformed =
    let text : Option (List ℕ) = option_map items read in
    let broken : (was && is_none kept.manifest) ≡ is_broken kept_is.read =
    ap (λ (b : Bool). b && is_none kept.manifest) (so ∙ sym (is_some-option_map items read))
    ∙ broken_so g c kept_is.read (option_map items read) kept.manifest kept_is.texts kept_is.says in
    record {
      read = kept_is.read;
      is = read_is_scan told c kept_is.read (option_map items read) kept_is.texts local.local local.bytes local.short
          kept_is.reads;
      numbered = kept_is.numbered;
      files = kept_is.files;
      numbers = numbers ∙ ap (λ n. old.numbers ++ n ∷ []) kept_is.number;
      unread = unread ∙ local.unread ∙ ap (λ (b : Bool). old.missed.unread ++ missing_if c b)
          (was_read kept_is.read (option_map items read) kept_is.texts);
      malformed = malformed ∙ ap (λ (b : Bool). old.missed.malformed ++ broken_if c.manifest_path b) broken;
      manifest = kept.manifest;
      manifests = manifests;
      says = kept_is.says;
      own = kept_is.own;
    }

-- ---- a step of the loop, and its end

pub gathered_next : (told now : Option Files) (g : Graph) (place : ℕ) (c : Crate) (start mid end : List File)
    (old new : GatheredManifests) → now ≡ told → slice_get g.crates place ≡ Some c → c.place ≡ place
    → IsGathered told g (take place g.crates) start mid old → IsScanned now g c mid end old new
    → IsGathered told g (take (place + 1) g.crates) start end new
gathered_next told now g place c start mid end old new same at is are one =
    let inside : place < length g.crates = slice_get_within g.crates place c at in
    let more : take (place + 1) g.crates ≡ take place g.crates ++ c ∷ [] = take_more g.crates place c inside
    ∙ ap (λ (d : Crate). take place g.crates ++ d ∷ []) (get_or_from_slice_get g.crates place c c at) in
    let long : length (take place g.crates) ≡ place = omega (arith, length-take place g.crates, inside) in
    subst (λ (cs : List Crate). IsGathered told g cs start end new) (sym more)
    (gathered_more told g (take place g.crates) c start mid end old new are
    (subst (λ (t : Option Files). IsScanned t g c mid end old new) same one) (is ∙ sym long))

pub kept_few : (path : List ℕ) (read : Option Reading) → length (kept_as path read) ≤ 1
kept_few path None = omega arith
kept_few path (Some r) = by_test (is_utf8 r.text)
  where
    by_test : (b : Bool) → length {A = File} (cond b (record { path = path; source = r.text } ∷ []) []) ≤ 1
    by_test true = omega arith
    by_test false = omega arith

pub gathered_all : (told : Option Files) (g : Graph) (place : ℕ) (ks : List Krate) (start end : List File)
    (s : GatheredManifests)
    → crates_from 0 ks ≡ g.crates → length ks ≤ place → IsGathered told g (take place g.crates) start end s
    → IsGathered told g g.crates start end s
gathered_all told g place ks start end s crates past are =
    subst (λ (cs : List Crate). IsGathered told g cs start end s)
    (take_all place g.crates (omega (arith, past, length-crates_from 0 ks, ap length crates))) are
