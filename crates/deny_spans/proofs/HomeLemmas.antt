-- The workspace's manifest where it is a crate's.
use Rattle.std.proofs.Common.{◌≡◌, ◌∙◌, ◌+◌, ◌<◌, ◌≤◌, ◌^◌, ◌++◌, ◌∷◌, [], ℕ, Bool, true, false, List, Option, None}
use Rattle.std.proofs.Common.{Some, ap, append-nil, arith, cond, inl, inr, length, map, refl, subst, sym}
use Rattle.std.specs.Prelude.{◌&&◌, Contains, IfSome, is_none, nat_lt, option_map, position, slice_get}
use Rattle.std.specs.List.{flat_map, position_or_len}
use Rattle.std.specs.Option.{option_and_then, option_flatten}
use Rattle.std.specs.Str.{is_utf8}
use Rattle.std.proofs.lemmas.Bool.{cases_Bool, ltb-false, ltb-true, true≢false}
use Rattle.std.proofs.lemmas.List.Folds.{find_at}
use Rattle.std.proofs.lemmas.List.Quantifiers.{position-Some}
use Rattle.std.proofs.lemmas.Option.{slice_get_past}
use Rattle.std.proofs.lemmas.List.{length-map}
use Rattle.std.proofs.lemmas.Str.{is_utf8-from_IsUtf8}
use Rattle.deny_base.specs.declared.files.File.{File}
use Rattle.deny_krates.proofs.CratesLemmas.{length-crates_from}
use Rattle.deny_krates.specs.Crates.{crate_view, crates_from, source_view}
use Rattle.deny_krates.specs.krate.Krate.{Krate}
use Rattle.deny_base_lists.proofs.Members.{from_there, map_at, some_at}
use Rattle.deny_spec.specs.Graph.{Crate, Graph}
use Rattle.deny_spec.specs.Text.{same_text}
use Rattle.deny_base_disk.specs.Disk.{Files}
use Rattle.deny_spans.proofs.ManifestScanLemmas.{kept_at, reads_once}
use Rattle.deny_spans.specs.ManifestScan.{AreNumbered, IsReadAt, ManifestScan, ReadsAs, Reading, is_workspaces, kept_of}
use Rattle.deny_spans.specs.ManifestScan.{number_of}
use Rattle.deny_spans.specs.ManifestScan.{home_in, tree_of, workspace_scan}
use Rattle.deny_spans.specs.Paths.{workspace_path}
use Rattle.deny_spans.specs.private.Workspace.{AreSharedIf, AreSharedIn, AreSharedOf, home_file, is_home}
use Rattle.deny_spans.specs.private.Workspace.{text_at}
use Rattle.deny_toml.specs.value.Value.{Value}
use Rattle.deny_spans_workspace.specs.declared.registries.Registry.{Registry}
use Rattle.deny_spans_workspace.specs.declared.workspace.WorkspaceDeps.{WorkspaceDeps}

-- ---- the first crate whose manifest is the workspace's

none_of_map : {X Y : Type 0} (f : X → Y) (o : Option X) → is_none o ≡ is_none (option_map f o)
none_of_map f None = refl
none_of_map f (Some x) = refl

same_test : (g : Graph) (path : List ℕ) (n : ℕ) (k : Krate) → path ≡ workspace_path g.root
    → is_home path k ≡ is_workspaces g (crate_view n k)
unfolding is_workspaces
same_test g path n k is =
    ap (λ (b : Bool). b && same_text k.manifest_path path) (none_of_map source_view k.source)
    ∙ ap (λ (p : List ℕ). is_none (option_map source_view k.source) && same_text k.manifest_path p) is

first_home : (g : Graph) (path : List ℕ) (n : ℕ) (ks : List Krate) → path ≡ workspace_path g.root
    → position_or_len (is_home path) ks ≡ position_or_len (is_workspaces g) (crates_from n ks)
first_home g path n [] is = refl
first_home g path n (k ∷ ks) is =
    let test : is_home path k ≡ is_workspaces g (crate_view n k) = same_test g path n k is in
    let rest : position_or_len (is_home path) ks ≡ position_or_len (is_workspaces g) (crates_from (n + 1) ks) =
    first_home g path (n + 1) ks is in
    rw (test, rest) refl

pub home_found : (g : Graph) (path : List ℕ) (ks : List Krate) → path ≡ workspace_path g.root
    → crates_from 0 ks ≡ g.crates → position (is_home path) ks ≡ home_in g
home_found g path ks is crates =
    let at : position_or_len (is_home path) ks ≡ position_or_len (is_workspaces g) g.crates =
    first_home g path 0 ks is ∙ ap (position_or_len (is_workspaces g)) crates in
    let long : length ks ≡ length g.crates = sym (length-crates_from 0 ks) ∙ ap length crates in
    λ i. cond (nat_lt (at i) (long i)) (Some (at i)) None

pub home_inside : (g : Graph) (r : Option ℕ) → r ≡ home_in g → IfSome r (λ place. place < length g.crates)
home_inside g None is = tt
home_inside g (Some place) is = by_crates g.crates (sym is)
  where
    by_crates : (cs : List Crate) → position (is_workspaces g) cs ≡ Some place → place < length cs
    by_crates [] found = absurd (cc found)
    by_crates (c ∷ cs) found = (position-Some (is_workspaces g) (c ∷ cs) place c found).0

first_of_map : {X Y : Type 0} (p : Y → Bool) (f : X → Y) (xs : List X)
    → position_or_len (λ x. p (f x)) xs ≡ position_or_len p (map f xs)
first_of_map p f [] = refl
first_of_map p f (x ∷ xs) = rw (first_of_map p f xs) refl

-- the place of the crate whose manifest is the workspace's, and its scan, if there is such a crate
pub data HomeIs (g : Graph) (scans : List ManifestScan) (numbers : List (Option ℕ)) : Type 0 where
  nowhere : home_in g ≡ None → workspace_scan g scans ≡ None → HomeIs g scans numbers
  there : (place : ℕ) (l : ManifestScan) → home_in g ≡ Some place → workspace_scan g scans ≡ Some l → Contains scans l
      → home_file g numbers ≡ number_of l.read → HomeIs g scans numbers

module _ (g : Graph) (scans : List ManifestScan) (numbers : List (Option ℕ))
    (crates : map (λ l. l.crate) scans ≡ g.crates)
    (kept : numbers ≡ map (λ l. number_of l.read) scans) where
  first : ℕ
  first = position_or_len (is_workspaces g) g.crates

  scan : workspace_scan g scans ≡ slice_get scans first
  unfolding first
  scan = find_at (λ (l : ManifestScan). is_workspaces g l.crate) scans
      ∙ ap (slice_get scans) (first_of_map (is_workspaces g) (λ (l : ManifestScan). l.crate) scans
      ∙ ap (position_or_len (is_workspaces g)) crates)

  long : length scans ≡ length g.crates
  long = sym (length-map scans (λ (l : ManifestScan). l.crate)) ∙ ap length crates

  by_place : (b : Bool) → nat_lt first (length g.crates) ≡ b → HomeIs g scans numbers
  unfolding first
  by_place false past =
      nowhere (ap (λ (t : Bool). cond t (Some first) None) past)
      (scan ∙ slice_get_past scans first (let at : length g.crates ≤ first = ltb-false first (length g.crates) past in
      omega (arith, at, long)))
  by_place true inside =
      let below : first < length g.crates = ltb-true first (length g.crates) inside in
      let at = some_at scans first (omega (arith, below, long)) in
      let home : home_in g ≡ Some first = ap (λ (t : Bool). cond t (Some first) None) inside in
      there first at.0 home (scan ∙ at.1) (from_there scans first at.0 at.1)
      (ap (λ (o : Option ℕ). option_flatten (option_and_then (slice_get numbers) o)) home
      ∙ ap option_flatten (ap (λ (ns : List (Option ℕ)). slice_get ns first) kept
      ∙ map_at (λ (l : ManifestScan). number_of l.read) scans first at.0 at.1))

  pub home_is : HomeIs g scans numbers
  home_is = by_place (nat_lt first (length g.crates)) refl

-- ---- the text of the workspace's file

-- a text that was read, where it is UTF-8
abbrev pub utf8_text : Option Reading → Option (List ℕ)
utf8_text read = option_and_then (λ r. cond (is_utf8 r.text) (Some r.text) None) read

-- the file with the number of a manifest has its text
pub text_is : (start : List File) (scans : List ManifestScan) (l : ManifestScan) → AreNumbered (length start) scans
    → Contains scans l
    → text_at (start ++ flat_map kept_of scans) (number_of l.read) ≡ utf8_text l.read
text_is start scans l are member = by_read l.read refl
  where
    by_read : (o : Option Reading) → l.read ≡ o
        → text_at (start ++ flat_map kept_of scans) (number_of o) ≡ utf8_text o
    by_read None is = refl
    by_read (Some r) is = elim (cases_Bool (is_utf8 r.text))
        as (λ _. text_at (start ++ flat_map kept_of scans) (number_of (Some r)) ≡ utf8_text (Some r)) [
          | inl so ↦
              let files : List File = start ++ flat_map kept_of scans in
              let at : slice_get files r.number ≡ Some (record { path = l.crate.manifest_path; source = r.text }) =
              ap (λ (fs : List File). slice_get (start ++ fs) r.number) (sym (append-nil (flat_map kept_of scans)))
              ∙ kept_at (length start) start scans [] l r refl are member is so in
              ap (λ (b : Bool). text_at files (cond b (Some r.number) None)) so
              ∙ ap (option_map (λ (f : File). f.source)) at
              ∙ ap (λ (b : Bool). cond b (Some r.text) None) (sym so)
          | inr other ↦
              ap (λ (b : Bool). text_at (start ++ flat_map kept_of scans) (cond b (Some r.number) None)) other
              ∙ ap (λ (b : Bool). cond b (Some r.text) None) (sym other)
        ]

pub text_short : (told : Option Files) (path : List ℕ) (read : Option Reading) → IfSome read (IsReadAt told path)
    → IfSome (utf8_text read) (λ text. length text < 2 ^ 28)
text_short told path None is = tt
text_short told path (Some r) is = by_test (is_utf8 r.text)
  where
    by_test : (b : Bool) → IfSome (cond b (Some r.text) None) (λ text. length text < 2 ^ 28)
    by_test true = is.short
    by_test false = tt

-- ---- what the workspace's dependencies resolve to

module _ (g : Graph) (registries : List Registry) where
  none_shared : (deps : Option WorkspaceDeps) → deps ≡ None → AreSharedIf g registries None deps
  none_shared deps is = subst (λ (o : Option WorkspaceDeps). AreSharedIf g registries None o) (sym is)
      (record { some = refl; are = tt })

  no_tree : (text : List ℕ) (tree : Option Value) → is_utf8 text ≡ false → ReadsAs text tree → tree ≡ None
  no_tree text None other reads = refl
  no_tree text (Some v) other reads = absurd (true≢false (sym (is_utf8-from_IsUtf8 text reads.0) ∙ other))

  -- the dependencies by the text of the file are those by what was read
  pub shared_by : (read : Option Reading) (deps : Option WorkspaceDeps) → IfSome read (λ r. ReadsAs r.text r.tree)
      → AreSharedOf g registries (utf8_text read) deps → AreSharedIf g registries (tree_of read) deps
  shared_by None deps reads are = none_shared deps are
  shared_by (Some r) deps reads are = elim (cases_Bool (is_utf8 r.text)) as
      (λ _. AreSharedIf g registries r.tree deps) [
        | inl so ↦
            let by : AreSharedIn g registries r.text deps = subst
            (λ (b : Bool). AreSharedOf g registries (cond b (Some r.text) None) deps) so are in
            subst (λ (t : Option Value). AreSharedIf g registries t deps)
            (reads_once r.text by.tree r.tree by.reads reads) by.are
        | inr other ↦
            let none : deps ≡ None = subst
            (λ (b : Bool). AreSharedOf g registries (cond b (Some r.text) None) deps) other are in
            subst (λ (t : Option Value). AreSharedIf g registries t deps) (sym (no_tree r.text r.tree other reads))
            (none_shared deps none)
      ]
