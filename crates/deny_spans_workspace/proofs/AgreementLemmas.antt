-- The first crate that fits, among those of a name.
use Rattle.std.proofs.Common.{◌≡◌, ◌+◌, ◌<◌, ◌≤◌, ◌-◌, ℕ, List, [], ◌∷◌, Bool, true, false, Option, Some, None, length}
use Rattle.std.proofs.Common.{drop, refl, sym, ap, ◌∙◌, add-one, arith, suc}
use Rattle.std.specs.Prelude.{◌&&◌, IfSome, cond, filter, find, option_map, slice_index_or, take}
use Rattle.std.proofs.Math.Seq.{drop-cons}
use Rattle.semver.specs.Parse.{Held}
use Rattle.deny_krates.specs.Crates.{crate_view, crates_from}
use Rattle.deny_krates.specs.krate.Krate.{Krate}
use Rattle.deny_krates.proofs.CratesLemmas.{crates_from-part}
use Rattle.deny_base_lists.proofs.Filters.{find-filter}
use Rattle.deny_spec.specs.Graph.{Crate, Graph}
use Rattle.deny_spec.specs.Groups.{has_name}
use Rattle.deny_spans_workspace.specs.Agreement.{agrees, comes_from, fits, home_of, package_of, place_of}
use Rattle.deny_spans_workspace.specs.Agreement.{requirement_of}
use Rattle.deny_spans_workspace.specs.Entries.{SharedEntry}
use Rattle.deny_spans_workspace.specs.declared.agreement.Home.{Home}
use Rattle.deny_spans_workspace.specs.declared.registries.Registry.{Registry}
use Rattle.deny_spans_workspace.specs.declared.agreement.Home.TheVariants.{CratesIo, Folder, Registered, Repository}

-- whether a crate fits does not depend on its place
pub wherever : (home : Home) (requirement : Option (List Held)) (place other : ℕ) (k : Krate)
    → fits home requirement (crate_view place k) ≡ fits home requirement (crate_view other k)
unfolding fits comes_from
wherever CratesIo requirement place other k = refl
wherever (Registered source) requirement place other k = refl
wherever (Folder parts) requirement place other k = refl
wherever (Repository url reference) requirement place other k = refl

module _ (p : Crate → Bool) where
  next_crates : (start i : ℕ) (ks : List Krate) (k : Krate) → i < length ks → k ≡ slice_index_or ks i k
      → crates_from (start + i) (drop i ks) ≡ crate_view (start + i) k ∷ crates_from (start + (i + 1)) (drop (i + 1) ks)
  next_crates start i ks k inside is =
      ap (crates_from (start + i)) (drop-cons ks i k inside ∙ ap (λ j. j ∷ drop (suc i) ks) (sym is))
      ∙ ap (λ n. crate_view (start + i) k ∷ crates_from n (drop (suc i) ks)) (omega arith)
      ∙ ap (λ n. crate_view (start + i) k ∷ crates_from (start + (i + 1)) (drop n ks)) (sym (add-one i))

  -- the search goes on past a crate that does not fit
  pub passed : (start i : ℕ) (ks : List Krate) (k : Krate) → i < length ks → k ≡ slice_index_or ks i k
      → p (crate_view (start + i) k) ≡ false
      → find p (crates_from (start + i) (drop i ks)) ≡ find p (crates_from start ks)
      → find p (crates_from (start + (i + 1)) (drop (i + 1) ks)) ≡ find p (crates_from start ks)
  passed start i ks k inside is other so =
      sym (ap (find p) (next_crates start i ks k inside is)
      ∙ ap (λ b. cond b (Some (crate_view (start + i) k)) (find p (crates_from (start + (i + 1)) (drop (i + 1) ks))))
      other)
      ∙ so

  pub stopped : (start i : ℕ) (ks : List Krate) (k : Krate) → i < length ks → k ≡ slice_index_or ks i k
      → p (crate_view (start + i) k) ≡ true
      → find p (crates_from (start + i) (drop i ks)) ≡ find p (crates_from start ks)
      → Some (start + i) ≡ option_map (λ c. c.place) (find p (crates_from start ks))
  stopped start i ks k inside is fit so =
      ap (option_map (λ c. c.place))
      (sym (ap (find p) (next_crates start i ks k inside is)
      ∙ ap (λ b. cond b (Some (crate_view (start + i) k)) (find p (crates_from (start + (i + 1)) (drop (i + 1) ks))))
      fit)
      ∙ so)

  -- the first fit among the crates of a name, which are adjacent
  pub of_a_name : (ks : List Krate) (name : List ℕ) (start end : ℕ) → start ≤ end → end ≤ length ks
      → take (end - start) (drop start (crates_from 0 ks)) ≡ filter (has_name name) (crates_from 0 ks)
      → find p (crates_from start (take (end - start) (drop start ks)))
      ≡ find (λ c. p c && has_name name c) (crates_from 0 ks)
  of_a_name ks name start end up within named =
      let zero_on : start ≡ 0 + start = omega arith in
      ap (λ n. find p (crates_from n (take (end - start) (drop start ks)))) zero_on
      ∙ ap (find p) (crates_from-part 0 ks start (end - start) (omega arith) ∙ named)
      ∙ find-filter p (has_name name) (crates_from 0 ks)

  -- what is found is the place of a crate
  pub found_within : (start : ℕ) (ks : List Krate)
      → IfSome (option_map (λ c. c.place) (find p (crates_from start ks))) (λ n. n < start + length ks)
  found_within start [] = tt
  found_within start (k ∷ ks) = by_test (p (crate_view start k)) (found_within (start + 1) ks)
    where
      by_test : (b : Bool)
          → IfSome (option_map (λ c. c.place) (find p (crates_from (start + 1) ks))) (λ n. n < start + 1 + length ks)
          → IfSome (option_map (λ c. c.place)
          (cond b (Some (crate_view start k)) (find p (crates_from (start + 1) ks))))
          (λ n. n < start + length (k ∷ ks))
      by_test true rest = omega arith
      by_test false rest = later (option_map (λ c. c.place) (find p (crates_from (start + 1) ks))) rest
        where
          later : (o : Option ℕ) → IfSome o (λ n. n < start + 1 + length ks)
              → IfSome o (λ n. n < start + length (k ∷ ks))
          later None rest = tt
          later (Some n) rest = omega (arith, rest)

-- the place of an entry's crate, by its home, requirement and name
pub place_of_entry : (g : Graph) (registries : List Registry) (e : SharedEntry) (home : Home)
    (requirement : Option (List Held))
    (name : List ℕ) → home ≡ home_of g.root registries e.spec.origin → requirement ≡ requirement_of e.spec
    → name ≡ package_of e
    → option_map (λ c. c.place) (find (λ c. fits home requirement c && has_name name c) g.crates)
    ≡ place_of g registries e
unfolding place_of
place_of_entry g registries e home requirement name from asked named =
    ap (λ h. option_map (λ c. c.place) (find (λ c. fits h requirement c && has_name name c) g.crates)) from
    ∙ ap (λ r. option_map (λ c. c.place)
    (find (λ c. fits (home_of g.root registries e.spec.origin) r c && has_name name c) g.crates)) asked
    ∙ ap (λ n. option_map (λ c. c.place)
    (find (λ c. agrees g.root registries e.spec c && has_name n c) g.crates)) named
