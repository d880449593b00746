-- The packages that are left after those of the first crates were moved out, and those that were moved.
use Rattle.std.proofs.Common.{◌≡◌, ◌≤◌, ◌+◌, ◌∷◌, ◌∙◌, ℕ, List, [], Option, Some, ap, length, map, refl, sym}
use Rattle.std.proofs.Common.{subst, arith}
use Rattle.std.specs.Prelude.{◌≢◌, AllPairs, option_map, slice_get, unwrap_or}
use Rattle.std.specs.List.{zip}
use Rattle.std.proofs.lemmas.List.{length-map}
use Rattle.std.proofs.lemmas.Simd.{map-map}
use Rattle.std.proofs.lemmas.Option.{get_or_from_slice_get, slice_get_within}
use Rattle.semver.specs.Identifiers.{parts_of}
use Rattle.semver.specs.Parse.{Held}
use Rattle.semver.specs.declared.VersionReq.{VersionReq}
use Rattle.deny_base_lists.proofs.Members.{map_at, one_there, tail-same}
use Rattle.deny_krates_graph.specs.Listed.{dependency_at, requirement_read}
use Rattle.deny_krates_graph.specs.private.Taken.{IsRead, IsWithout, dependency_with, requirement_held}
use Rattle.deny_krates_graph.specs.declared.crates.ReadPackage.{ReadPackage}
use Rattle.deny_krates_graph.specs.declared.graph.KeptPackage.{KeptPackage}
use Rattle.deny_krates_sources.specs.PackageTexts.{AreTextsOf, parsed_requirement, requirement_view}
use Rattle.deny_krates_sources.specs.PackageTexts.{parsed_requirements}
use Rattle.deny_krates_sources.specs.PackageTexts.{parsed_rust_version, parsed_source, parsed_version}
use Rattle.deny_krates_metadata.specs.declared.declaration.Declaration.{Declaration}
use Rattle.deny_krates_metadata.specs.declared.package.MetadataPackage.{MetadataPackage}
use Rattle.deny_krates_sources.specs.declared.package_texts.PackageTexts.{PackageTexts}
use Rattle.deny_krates_sources.specs.declared.package_texts.PackageVersions.{PackageVersions}
use Rattle.deny_krates_sources.specs.declared.source.Source.{Source}
use Rattle.deny_spec.specs.Graph.{Dependency}

-- the items of the kept packages from an index on are as they were
pub record AreLeft {A : Type 0} (all : List A) (kept : List KeptPackage) (from : ℕ) (now : List A) : Type 0 where
  pub long : length now ≡ length all
  pub each : (place : ℕ) (k : KeptPackage) → from ≤ place → slice_get kept place ≡ Some k
      → slice_get now k.owner ≡ slice_get all k.owner

pub all_left : {A : Type 0} (all : List A) (kept : List KeptPackage) → AreLeft all kept 0 all
all_left all kept = record { long = refl; each = λ place k upward at. refl }

pub left_after : {A : Type 0} (all : List A) (kept : List KeptPackage) (i : ℕ) (now after : List A) (k : KeptPackage)
    → AreLeft all kept i now → slice_get kept i ≡ Some k → IsWithout k.owner now after
    → AllPairs (λ m n. m ≢ n) (map (λ (l : KeptPackage). l.owner) kept) → AreLeft all kept (i + 1) after
left_after all kept i now after k so_far at without apart = record {
  long = without.long ∙ so_far.long;
  each = λ place l later there.
      let owners = map (λ (l : KeptPackage). l.owner) kept in
      let here = map_at (λ (l : KeptPackage). l.owner) kept i k at in
      let owner_there = map_at (λ (l : KeptPackage). l.owner) kept place l there in
      let differ : l.owner ≡ k.owner → ⊥ = λ same. apart i place 0 (omega (arith, later))
      (slice_get_within owners place l.owner owner_there)
      (get_or_from_slice_get owners i k.owner 0 here ∙ (sym same ∙ sym (get_or_from_slice_get owners place l.owner 0
      owner_there))) in
      without.others l.owner differ ∙ so_far.each place l (omega (arith, later)) there;
}

-- the lists of parsed texts are as long as the list of packages
pub record AreAsLong (packages : List MetadataPackage) (texts : PackageTexts) : Type 0 where
  pub versions : length texts.versions ≡ length packages
  pub requirements : length texts.requirements ≡ length packages
  pub sources : length texts.sources ≡ length packages

long_as : {A B C : Type 0} (view : B → C) (parsed : A → C) (read : List B) (xs : List A) → map view read ≡ map parsed xs
    → length read ≡ length xs
long_as {A} {B} {C} view parsed read xs same =
    sym (length-map read view) ∙ (ap (λ (zs : List C). length zs) same ∙ length-map xs parsed)

pub texts_long : (packages : List MetadataPackage) (texts : PackageTexts) → AreTextsOf packages texts
    → AreAsLong packages texts
texts_long packages texts are = record {
  versions = long_as (λ (v : PackageVersions). Some (parts_of v.version)) parsed_version texts.versions packages
      are.versions;
  requirements = long_as (map requirement_view) parsed_requirements texts.requirements packages are.requirements;
  sources = ap (λ (zs : List (Option Source)). length zs) are.sources ∙ length-map packages parsed_source;
}

-- the parsed text of a package is the one at its number
parsed_there : {A B C : Type 0} (view : B → C) (parsed : A → C) (read : List B) (xs : List A) (n : ℕ) (y : B) (x : A)
    → map view read ≡ map parsed xs → slice_get read n ≡ Some y → slice_get xs n ≡ Some x → view y ≡ parsed x
parsed_there {A} {B} {C} view parsed read xs n y x same read_there there =
    one_there (map parsed xs) n (view y) (parsed x) (subst (λ (zs : List C). slice_get zs n ≡ Some (view y)) same
    (map_at view read n y read_there)) (map_at parsed xs n x there)

requirements_held : (reqs : List VersionReq) (ds : List Declaration)
    → map requirement_view reqs ≡ map parsed_requirement ds
    → map requirement_held reqs ≡ map (λ d. requirement_read d.req) ds
requirements_held reqs ds same =
    let held = λ (o : Option (List Held)). unwrap_or o [] in
    sym (map-map held requirement_view reqs) ∙ (ap (map held) same ∙ map-map held parsed_requirement ds)

pub taken_reads : (packages : List MetadataPackage) (texts : PackageTexts) (n : ℕ) (r : ReadPackage)
    → AreTextsOf packages texts
    → slice_get packages n ≡ Some r.listed → slice_get texts.versions n ≡ Some r.versions
    → slice_get texts.requirements n ≡ Some r.requirements → slice_get texts.sources n ≡ Some r.source → IsRead r
taken_reads packages texts n r are listed versions requirements source = record {
  version = ap (λ o. unwrap_or o (0, 0, 0, [], [])) (parsed_there (λ (v : PackageVersions). Some (parts_of v.version))
      parsed_version texts.versions packages n r.versions r.listed are.versions versions listed);
  rust_version = parsed_there (λ (v : PackageVersions). option_map parts_of v.rust_version) parsed_rust_version
      texts.versions packages n r.versions r.listed are.rust_versions versions listed;
  requirements = requirements_held r.requirements r.listed.dependencies (parsed_there (map requirement_view)
      parsed_requirements texts.requirements packages n r.requirements r.listed are.requirements requirements listed);
  source = one_there (map parsed_source packages) n r.source (parsed_source r.listed)
      (subst (λ (zs : List (Option Source)). slice_get zs n ≡ Some r.source) are.sources source)
      (map_at parsed_source packages n r.listed listed);
}

-- the views of dependencies are those of declarations with their requirements
with_requirements : (ds : List Declaration) (reqs : List VersionReq)
    → map requirement_held reqs ≡ map (λ d. requirement_read d.req) ds
    → map (λ (p : Declaration × VersionReq). dependency_with p.0 (requirement_held p.1)) (zip ds reqs)
    ≡ map dependency_at ds
with_requirements [] reqs same = refl
with_requirements (d ∷ ds) [] same = absurd (cc)
with_requirements (d ∷ ds) (r ∷ reqs) same =
    let first : requirement_held r ≡ requirement_read d.req = cc in
    ap (λ (held : List Held). dependency_with d held ∷ map (λ (p : Declaration × VersionReq).
    dependency_with p.0 (requirement_held p.1)) (zip ds reqs)) first
    ∙ ap (λ (rest : List Dependency). dependency_at d ∷ rest) (with_requirements ds reqs (tail-same same))

pub dependencies_are : (ds : List Declaration) (reqs : List VersionReq) (pairs : List (Declaration × VersionReq))
    → map requirement_held reqs ≡ map (λ d. requirement_read d.req) ds
    → map (λ (p : Declaration × VersionReq). (p.0, p.1)) pairs ≡ zip ds reqs
    → map (λ (p : Declaration × VersionReq). dependency_with p.0 (requirement_held p.1)) pairs ≡ map dependency_at ds
dependencies_are ds reqs pairs same are =
    let made = λ (p : Declaration × VersionReq). dependency_with p.0 (requirement_held p.1) in
    sym (map-map made (λ (p : Declaration × VersionReq). (p.0, p.1)) pairs)
    ∙ (ap (map made) are ∙ with_requirements ds reqs same)
