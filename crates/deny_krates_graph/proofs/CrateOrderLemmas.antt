-- Crates ascend as their packages do, and so do their enabled features.
use Rattle.std.proofs.Common.{◌≡◌, ℕ, zero, suc, ◌+◌, List, [], ◌∷◌, Some, map, refl, sym, ap, ◌∙◌, subst}
use Rattle.std.specs.Prelude.{Contains, slice_get, unwrap_or}
use Rattle.std.specs.Cmp.Lexicographic.{slice_cmp}
use Rattle.std.specs.List.{AllByRecursion}
use Rattle.std.specs.List.Sorted.{IsStrictlySortedBy}
use Rattle.std.specs.Ordering.{nat_cmp, on}
use Rattle.std.specs.Result.{result_ok}
use Rattle.std.specs.declared.cmp.Ordering.{Ordering}
use Rattle.std.specs.declared.cmp.Ordering.TheVariants.{Less}
use Rattle.std.proofs.lemmas.Option.{none-some, same_Some}
use Rattle.semver.specs.Identifiers.{parts_text}
use Rattle.semver.proofs.Grammar.{version_parts-sound}
use Rattle.deny_base_lists.proofs.Members.{Contains-first, Contains-rest}
use Rattle.deny_spec.specs.Graph.{Crate}
use Rattle.deny_krates_graph.specs.Listed.{AreCratesAt, IsCrateAt, version_read}
use Rattle.deny_krates_graph.specs.private.Numbered.{HasVersion}
use Rattle.deny_krates_graph.specs.Orderly.{crate_cmp, crate_rank}
use Rattle.deny_krates_graph.specs.Packages.{package_cmp, rank_cmp, rank_of}
use Rattle.deny_krates_graph.specs.declared.graph.Rank.{Rank}
use Rattle.deny_krates_metadata.specs.declared.document.Document.{Document}
use Rattle.deny_krates_metadata.specs.declared.package.MetadataPackage.{MetadataPackage}

-- a list ascends by the images of its elements exactly where the list of the images ascends
module _ {A B : Type 0} (cmp : B → B → Ordering) (f : A → B) where
  below_map : (a : A) (xs : List A) → AllByRecursion (λ x. on f cmp a x ≡ Less) xs
      → AllByRecursion (λ y. cmp (f a) y ≡ Less) (map f xs)
  below_map a [] all = tt
  below_map a (x ∷ xs) all = (all.0, below_map a xs all.1)

  below_from_map : (a : A) (xs : List A) → AllByRecursion (λ y. cmp (f a) y ≡ Less) (map f xs)
      → AllByRecursion (λ x. on f cmp a x ≡ Less) xs
  below_from_map a [] all = tt
  below_from_map a (x ∷ xs) all = (all.0, below_from_map a xs all.1)

  map_ascends : (xs : List A) → IsStrictlySortedBy (on f cmp) xs → IsStrictlySortedBy cmp (map f xs)
  unfolding IsStrictlySortedBy
  map_ascends [] up = tt
  map_ascends (x ∷ xs) up = (below_map x xs up.0, map_ascends xs up.1)

  ascends_from_map : (xs : List A) → IsStrictlySortedBy cmp (map f xs) → IsStrictlySortedBy (on f cmp) xs
  unfolding IsStrictlySortedBy
  ascends_from_map [] up = tt
  ascends_from_map (x ∷ xs) up = (below_from_map x xs up.0, ascends_from_map xs up.1)

-- a version that parses prints as it was written
written_again : (p : MetadataPackage) → HasVersion p → parts_text (version_read p.version) ≡ p.version
written_again p has =
    ap (λ read. parts_text (unwrap_or (result_ok read) (0, 0, 0, [], []))) has.1
    ∙ (version_parts-sound p.version has.0 has.1).0

rank_with : MetadataPackage → List ℕ → Rank
rank_with p version = record { name = p.name; version = version; source = p.source; id = p.id }

rank_is : (doc : Document) (place : ℕ) (p : MetadataPackage) (c : Crate) → HasVersion p → IsCrateAt doc place p c
    → crate_rank c ≡ rank_of p
unfolding rank_with
rank_is doc place p c has is = ap crate_rank is.is ∙ ap (rank_with p) (written_again p has)

ranks_are : (doc : Document) (first : ℕ) (ps : List MetadataPackage) (cs : List Crate)
    → ((p : MetadataPackage) → Contains ps p → HasVersion p) → AreCratesAt doc first ps cs
    → map crate_rank cs ≡ map rank_of ps
ranks_are doc first [] [] versions are = refl
ranks_are doc first [] (c ∷ cs) versions are = absurd are
ranks_are doc first (p ∷ ps) [] versions are = absurd are
ranks_are doc first (p ∷ ps) (c ∷ cs) versions are =
    ap (λ (r : Rank). r ∷ map crate_rank cs) (rank_is doc first p c (versions p (Contains-first p ps)) are.0)
    ∙ ap (λ (rs : List Rank). rank_of p ∷ rs)
    (ranks_are doc (first + 1) ps cs (λ q holds. versions q (Contains-rest p ps q holds)) are.1)

pub crates_ascend : (doc : Document) (first : ℕ) (ps : List MetadataPackage) (cs : List Crate)
    → ((p : MetadataPackage) → Contains ps p → HasVersion p) → AreCratesAt doc first ps cs
    → IsStrictlySortedBy package_cmp ps → IsStrictlySortedBy crate_cmp cs
crates_ascend doc first ps cs versions are up =
    ascends_from_map rank_cmp crate_rank cs
    (subst (λ (rs : List Rank). IsStrictlySortedBy rank_cmp rs) (sym (ranks_are doc first ps cs versions are))
    (map_ascends rank_cmp rank_of ps up))

pub features_ascend : (doc : Document) (first : ℕ) (ps : List MetadataPackage) (cs : List Crate) (k : ℕ) (c : Crate)
    → AreCratesAt doc first ps cs → slice_get cs k ≡ Some c → IsStrictlySortedBy (slice_cmp nat_cmp) c.enabled
features_ascend doc first [] [] k c are at = absurd (none-some c at)
features_ascend doc first [] (x ∷ cs) k c are at = absurd are
features_ascend doc first (p ∷ ps) [] k c are at = absurd are
features_ascend doc first (p ∷ ps) (x ∷ cs) zero c are at =
    subst (λ (d : Crate). IsStrictlySortedBy (slice_cmp nat_cmp) d.enabled) (same_Some x c at) are.0.enabled.ascending
features_ascend doc first (p ∷ ps) (x ∷ cs) (suc k) c are at = features_ascend doc (first + 1) ps cs k c are.1 at
