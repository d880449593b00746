-- The document of the metadata resolves: each id is known, and all texts of the packages can be read.
use Rattle.std.proofs.Common.{◌≡◌, ◌≢◌, ◌≤◌, ◌<◌, ◌+◌, ◌%◌, ◌^◌, ◌==◌, ◌∙◌, ◌++◌, ℕ, zero, suc, Bool, true, false, List}
use Rattle.std.proofs.Common.{[], ◌∷◌, None, Ok, Result, Some, ap, ap₂, arith, codes, if◌then◌else◌, inl, inr, map}
use Rattle.std.proofs.Common.{refl, sym}
use Rattle.std.proofs.lemmas.Bool.{cases_eq}
use Rattle.std.proofs.lemmas.List.Folds.{list_any-append}
use Rattle.std.proofs.lemmas.Simd.{map-map}
use Rattle.std.specs.Cmp.Lexicographic.{bytes_decides}
use Rattle.std.specs.List.{list_any, position_from, range_with_len}
use Rattle.std.specs.Result.{result_ok}
use Rattle.semver.proofs.OnLiterals.{semver_on_literals}
use Rattle.semver.specs.Parse.{req_of, version_parts}
use Rattle.deny_base.specs.declared.edge.DepKind.TheVariants.{Normal}
use Rattle.deny_cli_generator.specs.Made.{below, version_at}
use Rattle.deny_cli_generator.specs.MetadataText.{id_at, path_text, registry}
use Rattle.deny_spec.specs.Text.{same_text}
use Rattle.deny_krates_sources.proofs.IndexLemmas.{is_new, no_more_ids}
use Rattle.deny_krates_sources.specs.Checked.{Numbering, Resolved, distinct, distinct_after, known, links_of}
use Rattle.deny_krates_sources.specs.Checked.{manifest_path_reads, node_ids, number_in, number_or, optional_reads}
use Rattle.deny_krates_sources.specs.Checked.{package_ids, packages_read, read_or, requirement_reads, requirements_read}
use Rattle.deny_krates_sources.specs.Checked.{resolved, resolved_by, resolved_node, source_reads, version_reads}
use Rattle.deny_base_lists.specs.Reader.{◌>>=◌, each, each_passes}
use Rattle.deny_krates_sources.specs.Source.{crates_io_of, known_or, source_of}
use Rattle.deny_krates_sources.specs.declared.checked.Link.{Link}
use Rattle.deny_krates_sources.specs.declared.checked.ResolvedNode.{ResolvedNode}
use Rattle.deny_krates_metadata.specs.declared.declaration.Declaration.{Declaration}
use Rattle.deny_krates_metadata.specs.declared.document.Document.{Document}
use Rattle.deny_krates_metadata.specs.declared.node.MetadataNode.{MetadataNode}
use Rattle.deny_krates_metadata.specs.declared.package.MetadataPackage.{MetadataPackage}
use Rattle.deny_krates_metadata.specs.declared.fault.MetadataFault.{MetadataFault}
use Rattle.deny_krates_metadata.specs.declared.fault.MetadataFault.TheVariants.{Requirement, Version}
use Rattle.deny_cli_generator_laws.proofs.MetadataClean.{IsFew}
use Rattle.deny_cli_generator_laws.proofs.MetadataDocument.{all_nodes, app, app_node, crate_node, crate_package}
use Rattle.deny_cli_generator_laws.proofs.MetadataDocument.{declared, document, needed, packages}
use Rattle.deny_cli_generator_laws.proofs.MetadataIdLemmas.{id_app, other_id}

-- ---- the ids of packages are those of nodes

abbrev ids : List ℕ → List (List ℕ)
ids numbers = codes "app" ∷ map id_at numbers

package_ids-document : (numbers : List ℕ) → package_ids (document numbers) ≡ ids numbers
package_ids-document numbers =
    ap (λ (rest : List (List ℕ)). codes "app" ∷ rest) (map-map (λ (p : MetadataPackage). p.id) crate_package numbers)

node_ids-document : (numbers : List ℕ) → node_ids (document numbers) ≡ ids numbers
node_ids-document numbers =
    ap (λ (rest : List (List ℕ)). codes "app" ∷ rest) (map-map (λ (n : MetadataNode). n.id) crate_node numbers)

-- ---- no id occurs twice

still_new : (before : List (List ℕ)) (m from : ℕ) → IsFew m → IsFew from → m ≢ from
    → list_any (same_text (id_at m)) before ≡ false
    → list_any (same_text (id_at m)) (before ++ id_at from ∷ []) ≡ false
still_new before m from few also differ is =
    list_any-append (same_text (id_at m)) before (id_at from ∷ []) ∙ rw (is, other_id m from few also differ)

later-distinct : (before : List (List ℕ)) (from count : ℕ) → from + count < 2 ^ 64
    → ((m : ℕ) → from ≤ m → m < from + count → list_any (same_text (id_at m)) before ≡ false)
    → distinct_after before (map id_at (range_with_len from count)) ≡ Ok tt
later-distinct before from zero few is = no_more_ids before
later-distinct before from (suc count) few is =
    is_new before (map id_at (range_with_len (from + 1) count)) (id_at from) (is from (omega arith) (omega arith))
    ∙ later-distinct (before ++ id_at from ∷ []) (from + 1) count (omega (arith, few))
    (λ m least less. still_new before m from (omega arith) (omega arith) (λ same. omega arith)
    (is m (omega arith) (omega arith)))

ids-distinct : (crates : ℕ) → crates < 2 ^ 64 → distinct (ids (below crates)) ≡ Ok tt
ids-distinct crates few =
    is_new [] (map id_at (below crates)) (codes "app") refl
    ∙ later-distinct (codes "app" ∷ []) 0 crates (omega (arith, few)) (λ m least less. rw (id_app m))

-- ---- each id is known: that of `app` by 0, that of a crate by one more than the crate's number

index_of_id : (m from count : ℕ) → from + count < 2 ^ 64 → from ≤ m → m < from + count
    → position_from (same_text (id_at m)) (from + 1) (map id_at (range_with_len from count)) ≡ Some (m + 1)
index_of_id m from zero few least less = absurd (omega arith)
index_of_id m from (suc count) few least less = elim (cases_eq m from) [
  | inl same ↦
      rw ((bytes_decides (id_at m) (id_at from)).1 (ap id_at same)) (ap (λ (n : ℕ). Some (n + 1)) (sym same))
  | inr other ↦
      rw (other_id m from (omega arith) (omega arith) other)
      (index_of_id m (from + 1) count (omega (arith, few)) (omega arith) (omega (arith, less)))
]

abbrev by_id : ℕ → Numbering
by_id crates = number_in (ids (below crates))

known-app : (crates : ℕ) → known (by_id crates) (by_id crates) (codes "app") ≡ Ok 0
unfolding known number_or
known-app crates = refl

known-crate : (crates m : ℕ) → crates < 2 ^ 64 → m < crates
    → known (by_id crates) (by_id crates) (id_at m) ≡ Ok (m + 1)
unfolding known number_or
known-crate crates m few less =
    rw (id_app m, index_of_id m 0 crates (omega (arith, few)) (omega arith) (omega (arith, less)))

-- ---- the resolved nodes

abbrev link : ℕ → Link
link m = record { node = m + 1; needed_as = record { kind = Normal; target = None } }

abbrev row : ℕ → ResolvedNode
row m = record { owner = m + 1; links = [] }

abbrev app_row : List ℕ → ResolvedNode
app_row numbers = record { owner = 0; links = map link numbers }

module _ (crates : ℕ) (few : crates < 2 ^ 64) where
  links-crates : (from count : ℕ) → from + count ≤ crates
      → links_of (by_id crates) (by_id crates) (map needed (range_with_len from count))
      ≡ Ok (map link (range_with_len from count))
  unfolding links_of
  links-crates from zero within = refl
  links-crates from (suc count) within =
      rw (known-crate crates from few (omega arith), links-crates (from + 1) count (omega (arith, within)))

  row-app : resolved_node (by_id crates) (by_id crates) (app_node (map needed (below crates)))
      ≡ Ok (app_row (below crates))
  unfolding resolved_node number_or
  row-app = rw (links-crates 0 crates (omega arith))

  row-crate : (m : ℕ) → m < crates → resolved_node (by_id crates) (by_id crates) (crate_node m) ≡ Ok (row m)
  unfolding resolved_node number_or links_of
  row-crate m less = rw (id_app m, index_of_id m 0 crates (omega (arith, few)) (omega arith) (omega (arith, less)))

  rows-crates : (from count : ℕ) → from + count ≤ crates
      → each (resolved_node (by_id crates) (by_id crates)) (map crate_node (range_with_len from count))
      ≡ Ok (map row (range_with_len from count))
  unfolding each
  rows-crates from zero within = refl
  rows-crates from (suc count) within =
      rw (row-crate from (omega arith), rows-crates (from + 1) count (omega (arith, within)))

  rows-all : each (resolved_node (by_id crates) (by_id crates)) (all_nodes (below crates))
      ≡ Ok (app_row (below crates) ∷ map row (below crates))
  unfolding each
  rows-all = rw (row-app, rows-crates 0 crates (omega arith))

-- ---- the texts of the packages

each_passes-all : {A : Type 0} (check : A → Result (Unit {0}) MetadataFault) (element : ℕ → A) (numbers : List ℕ)
    → ((n : ℕ) → check (element n) ≡ Ok tt) → each_passes check (map element numbers) ≡ Ok tt
unfolding each_passes
each_passes-all check element [] passes = refl
each_passes-all check element (n ∷ numbers) passes = rw (passes n, each_passes-all check element numbers passes)

either_version : (fault : MetadataFault) (b : Bool)
    → read_or fault (result_ok (version_parts (if b then codes "1.0.0" else codes "2.0.0"))) ≡ Ok tt
unfolding read_or semver_on_literals
either_version fault true = refl
either_version fault false = refl

either_requirement : (fault : MetadataFault) (b : Bool)
    → read_or fault (result_ok (req_of (if b then codes "1.0.0" else codes "2.0.0"))) ≡ Ok tt
unfolding read_or semver_on_literals
either_requirement fault true = refl
either_requirement fault false = refl

version-crate : (n : ℕ) → version_reads (crate_package n) ≡ Ok tt
unfolding version_reads optional_reads version_at
version-crate n =
    ap (λ (read : Result (Unit {0}) MetadataFault). read >>= λ _. Ok tt)
    (either_version (Version (id_at n)) (n % 2 == 0))

requirement-declared : (id : List ℕ) (n : ℕ) → requirement_reads id (declared n) ≡ Ok tt
unfolding requirement_reads version_at
requirement-declared id n = either_requirement (Requirement id) (n % 2 == 0)

requirements-crate : (n : ℕ) → requirements_read (crate_package n) ≡ Ok tt
unfolding requirements_read each_passes
requirements-crate n = refl

source-crate : (n : ℕ) → source_reads (crate_package n) ≡ Ok tt
unfolding source_reads optional_reads read_or source_of crates_io_of known_or registry
source-crate n = refl

manifest_path-crate : (n : ℕ) → manifest_path_reads (crate_package n) ≡ Ok tt
unfolding manifest_path_reads path_text
manifest_path-crate n = refl

-- what holds of `app` and of each crate holds of all packages
all_keep : (check : MetadataPackage → Result (Unit {0}) MetadataFault) (numbers : List ℕ)
    → check (app (map declared numbers)) ≡ Ok tt → ((n : ℕ) → check (crate_package n) ≡ Ok tt)
    → each_passes check (packages numbers) ≡ Ok tt
unfolding each_passes
all_keep check numbers first others = rw (first, each_passes-all check crate_package numbers others)

version-app : (declarations : List Declaration) → version_reads (app declarations) ≡ Ok tt
unfolding version_reads optional_reads read_or semver_on_literals
version-app declarations = refl

requirements-app : (numbers : List ℕ) → requirements_read (app (map declared numbers)) ≡ Ok tt
unfolding requirements_read
requirements-app numbers =
    each_passes-all (requirement_reads (codes "app")) declared numbers (requirement-declared (codes "app"))

source-app : (declarations : List Declaration) → source_reads (app declarations) ≡ Ok tt
unfolding source_reads optional_reads
source-app declarations = refl

manifest_path-app : (declarations : List Declaration) → manifest_path_reads (app declarations) ≡ Ok tt
unfolding manifest_path_reads
manifest_path-app declarations = refl

packages_read-packages : (numbers : List ℕ) → packages_read (packages numbers) ≡ Ok tt
unfolding packages_read
packages_read-packages numbers =
    let declarations = map declared numbers in
    rw (
      all_keep version_reads numbers (version-app declarations) version-crate,
      all_keep requirements_read numbers (requirements-app numbers) requirements-crate,
      all_keep source_reads numbers (source-app declarations) source-crate,
      all_keep manifest_path_reads numbers (manifest_path-app declarations) manifest_path-crate,
    )

-- ---- the whole document

abbrev by_ids : Document → List (List ℕ) → List (List ℕ) → Result Resolved MetadataFault
by_ids doc packages nodes =
    distinct packages >>= λ _. distinct nodes >>= λ _. resolved_by (number_in packages) (number_in nodes) doc

resolved-by_ids : (doc : Document) → resolved doc ≡ by_ids doc (package_ids doc) (node_ids doc)
unfolding resolved
resolved-by_ids doc = refl

-- the resolved document of a number of crates
abbrev pub outcome : ℕ → Resolved
outcome crates = record {
  document = document (below crates);
  starts = 0 ∷ [];
  rows = app_row (below crates) ∷ map row (below crates);
}

starts-members : (crates : ℕ)
    → each (known (by_id crates) (by_id crates)) (codes "app" ∷ []) ≡ Ok (0 ∷ [])
unfolding each
starts-members crates = rw (known-app crates)

module _ (crates : ℕ) (few : crates < 2 ^ 64) where
  resolved_by-document : resolved_by (by_id crates) (by_id crates) (document (below crates)) ≡ Ok (outcome crates)
  unfolding resolved_by
  resolved_by-document = rw (starts-members crates, rows-all crates few, packages_read-packages (below crates))

  pub resolved-document : resolved (document (below crates)) ≡ Ok (outcome crates)
  resolved-document =
      resolved-by_ids (document (below crates))
      ∙ (ap₂ (by_ids (document (below crates))) (package_ids-document (below crates)) (node_ids-document (below crates))
      ∙ rw (ids-distinct crates few, resolved_by-document))
