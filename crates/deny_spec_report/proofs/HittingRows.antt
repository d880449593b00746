-- Worked cases of hits: all witnesses of an entry, in order, and a hit by one that is not the first.
use Rattle.std.proofs.Common.{◌≡◌, ℕ, List, [], ◌∷◌, true, codes, refl}
use Rattle.deny_base_lists.proofs.Members.{Contains-first, Contains-rest}
use Rattle.deny_base.specs.declared.entry.EntryKind.TheVariants as kind
use Rattle.deny_base.specs.declared.entry.Witness.TheVariants.{File, Krate, Parent}
use Rattle.deny_base.specs.declared.span.Kid.{Kid}
use Rattle.deny_spec.specs.Building.{Bypass}
use Rattle.deny_spec.specs.Graph.{Crate}
use Rattle.deny_spec.specs.Policy as policy
use Rattle.deny_spec.specs.Skips.{is_skipped}
use Rattle.deny_spec.specs.declared.package.Found.TheVariants.{Unasked}
use Rattle.deny_spec_report.proofs.BuildCases.{builds_on_cases, bypass_of, checking, file_of, macro, over, with_files}
use Rattle.deny_spec_report.proofs.Cases.{all_count, app, ban_at, bans_on_cases, by_two, crate, entry_at, not_the_first, plain}
use Rattle.deny_spec_report.proofs.Cases.{skips_on_cases, span, spanned_at, with_id, x_1_x_2}
use Rattle.deny_spec_report.specs.Circumstances.{Circumstances, unseen_by}
use Rattle.deny_spec_report.specs.Facts.{Facts}
use Rattle.deny_spec_report.specs.Hitting.{IsHit, by_crates, by_files, by_parents, by_skipped, entry_of}
use Rattle.deny_spec_report.specs.Hitting.{files_at, parents_at}
use Rattle.deny_spec_report.specs.PackageFiles.{hits_glob}
use Rattle.deny_spec_report.specs.Packages.{Scanning}

abbrev kid : List ℕ → Kid
kid id = record { 0 = id }

-- ---- crates

abbrev x1 : Crate
x1 = with_id (codes "x1") (crate 1 (codes "x") 1)

abbrev x2 : Crate
x2 = with_id (codes "x2") (crate 2 (codes "x") 2)

-- both versions hit a skip of their name, the first version first
both_versions : by_crates kind.Skip (span 29) (is_skipped all_count (entry_at (codes "x") 29)) x_1_x_2
    ≡ record {
      entry = entry_of kind.Skip (span 29);
      witnesses = Krate (kid (codes "x1")) ∷ Krate (kid (codes "x2")) ∷ [];
    }
unfolding skips_on_cases by_crates
both_versions = refl

-- the version that does not count hits nothing
counting_version : by_crates kind.Skip (span 29) (is_skipped not_the_first (entry_at (codes "x") 29)) x_1_x_2
    ≡ record { entry = entry_of kind.Skip (span 29); witnesses = Krate (kid (codes "x2")) ∷ [] }
unfolding skips_on_cases by_crates
counting_version = refl

unfoldable skipping_x : Circumstances
skipping_x = unseen_by (record plain { skip = entry_at (codes "x") 29 ∷ [] }) x_1_x_2 0

unfoldable counting : Facts
counting = record { chains = all_count; reached = λ c. true }

-- the second version hits the skip too
second_version : IsHit skipping_x counting (λ c. true) (entry_of kind.Skip (span 29)) (Krate (kid (codes "x2")))
unfolding skips_on_cases skipping_x counting
second_version = by_skipped (entry_at (codes "x") 29) (Contains-first (entry_at (codes "x") 29) []) x2
    (Contains-rest app (x1 ∷ x2 ∷ []) x2 (Contains-rest x1 (x2 ∷ []) x2 (Contains-first x2 []))) refl refl

-- ---- dependents

unfoldable wrapped_twice : policy.Ban
wrapped_twice = ban_at (codes "x") (spanned_at (codes "y") 30 ∷ spanned_at (codes "app") 40 ∷ spanned_at (codes "y") 50
    ∷ []) 20

-- each wrapper by the dependent of its name, and the second with a name by none
dependents_of_x : (by_parents plain by_two wrapped_twice (spanned_at (codes "y") 30)
    ≡ record {
      entry = entry_of kind.Wrapper (span 30);
      witnesses = Parent (kid (codes "x")) (kid (codes "y")) ∷ [];
    })
    × (by_parents plain by_two wrapped_twice (spanned_at (codes "app") 40)
    ≡ record {
      entry = entry_of kind.Wrapper (span 40);
      witnesses = Parent (kid (codes "x")) (kid (codes "app")) ∷ [];
    })
    × (by_parents plain by_two wrapped_twice (spanned_at (codes "y") 50)
    ≡ record { entry = entry_of kind.Wrapper (span 50); witnesses = [] })
unfolding bans_on_cases by_parents parents_at wrapped_twice
dependents_of_x = (refl, refl, refl)

-- ---- files

unfoldable on_sh : Bypass
on_sh = record (bypass_of (codes "p") 10) { globs = spanned_at (codes "*.sh") 60 ∷ [] }

unfoldable scripts_in_both : Scanning
scripts_in_both = over (record checking { bypass = on_sh ∷ [] })
    (with_id (codes "p1") (macro 1 (codes "p") 1) ∷ with_id (codes "p2") (macro 2 (codes "p") 2) ∷ [])
    (with_files (file_of (codes "a.sh") (codes "*.sh" ∷ []) Unasked ∷ file_of (codes "b.sh") (codes "*.sh" ∷ []) Unasked
    ∷ [])
    ∷ with_files (file_of (codes "c.sh") (codes "*.sh" ∷ []) Unasked ∷ file_of (codes "d") [] Unasked ∷ []) ∷ [])

-- the files of the first crate come first
files_of_both : by_files kind.BypassGlob (span 60) scripts_in_both on_sh (hits_glob on_sh (spanned_at (codes "*.sh") 60))
    ≡ record {
      entry = entry_of kind.BypassGlob (span 60);
      witnesses = File (kid (codes "p1")) (codes "a.sh") ∷ File (kid (codes "p1")) (codes "b.sh")
          ∷ File (kid (codes "p2")) (codes "c.sh") ∷ [];
    }
unfolding builds_on_cases by_files files_at on_sh scripts_in_both
files_of_both = refl
