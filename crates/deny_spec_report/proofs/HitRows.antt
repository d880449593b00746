-- Worked cases of the hits of both checks: entries of each kind, one beside the other.
use Rattle.std.proofs.Common.{◌≡◌, ◌++◌, ℕ, List, [], ◌∷◌, None, Some, codes, refl}
use Rattle.std.specs.Prelude.{⊤}
use Rattle.deny_base.specs.declared.entry.EntryKind.{EntryKind}
use Rattle.deny_base.specs.declared.entry.EntryKind.TheVariants as kind
use Rattle.deny_base.specs.declared.entry.Hit.{Hit}
use Rattle.deny_base.specs.declared.entry.Witness.TheVariants.{File, Krate, Parent}
use Rattle.deny_base.specs.declared.span.Kid.{Kid}
use Rattle.deny_spec.specs.Building.{Building}
use Rattle.deny_spec.specs.declared.package.Found.TheVariants.{Unasked}
use Rattle.deny_spec.specs.Graph.{Crate, Graph}
use Rattle.deny_spec.specs.Hits.{hit_of, root_hit, skip_hit, wrapper_hit, wrapper_hit_at}
use Rattle.deny_spec.specs.Policy.{Policy}
use Rattle.deny_spec.specs.Unseen.{unseen_package}
use Rattle.deny_spec_report.specs.Circumstances.{Circumstances, built, licensed, tabled, unseen_by, with_packages}
use Rattle.deny_spec_report.specs.Facts.{Facts}
use Rattle.deny_spec_report.specs.Hits.{both_hits, hits_in, licence_hits_in}
use Rattle.deny_spec_report.proofs.BuildCases.{builds_on_cases, bypass_of, checking, file_of, nowhere, path_at}
use Rattle.deny_spec_report.proofs.BuildCases.{with_files, with_targets}
use Rattle.deny_spec_report.proofs.Cases.{all_count, ban_at, bans_on_cases, edge, entry_at, graph, plain, root_of}
use Rattle.deny_spec_report.proofs.Cases.{skips_on_cases, span, spanned_at}
use Rattle.deny_spec_report.proofs.LicenceRows.{asking, every, licences_on_cases, mit_alone}
use Rattle.deny_spec_report.proofs.SayingRows.{small_table, table_on_cases}
use Rattle.deny_spec_report.proofs.StdReplacementRows.{plainly_replacing, replacing_on_cases, x}

-- a procedural macro of crates.io with a licence, which `app` needs
unfoldable licensed_x : Crate
licensed_x = asking (with_targets (codes "proc-macro" ∷ []) x) (codes "MIT")

unfoldable needed : Graph
needed = graph (licensed_x ∷ []) (edge 0 1 ∷ [])

-- `x` is banned but where `app` needs it, is skipped with its tree and without, and its replacement is ignored
unfoldable waiving : Policy
waiving = record plain {
  deny = ban_at (codes "x") (spanned_at (codes "app") 16 ∷ []) 12 ∷ [];
  skip = entry_at (codes "x") 29 ∷ [];
  skip_tree = root_of (codes "x") 35 ∷ [];
  replacing = Some (record plainly_replacing { ignore = entry_at (codes "x") 39 ∷ [] });
}

-- one file of `x` passes by its path, and another by a glob
unfoldable passing : Building
passing = record checking {
  bypass = record (bypass_of (codes "x") 50) {
    allow = path_at (codes "run") 55 ∷ [];
    globs = spanned_at (codes "*.sh") 60 ∷ [];
  } ∷ [];
}

unfoldable with_each : Circumstances
with_each = licensed
    (built
    (with_packages (tabled (unseen_by waiving needed 3) small_table) None
    (unseen_package
    ∷ with_files (file_of (codes "a.sh") (codes "*.sh" ∷ []) Unasked ∷ file_of (codes "run") [] Unasked ∷ []) ∷ []))
    (Some passing))
    (Some mit_alone)

unfoldable facts : Facts
facts = record { chains = all_count; reached = nowhere }

abbrev kid_x : Kid
kid_x = record { 0 = codes "x" }

abbrev by_x : EntryKind → ℕ → Hit
by_x entry start = hit_of entry (span start) (Krate kid_x)

-- the hits of the crate rules, of ignores, of bypasses and of the licence check
abbrev of_crates : List Hit
of_crates = by_x kind.Skip 29 ∷ by_x kind.SkipRoot 35
    ∷ hit_of kind.Wrapper (span 16) (Parent kid_x (record { 0 = codes "app" })) ∷ []

abbrev of_ignores : List Hit
of_ignores = by_x kind.ReplacementIgnore 39 ∷ []

abbrev of_bypasses : List Hit
of_bypasses = by_x kind.Bypass 50 ∷ hit_of kind.BypassPath (span 55) (File kid_x (codes "run"))
    ∷ hit_of kind.BypassGlob (span 60) (File kid_x (codes "a.sh")) ∷ []

abbrev of_licences : List Hit
of_licences = by_x kind.LicenseAllow 20 ∷ []

-- what a row unfolds
unfoldable hits_on_cases : ⊤
unfolding bans_on_cases skips_on_cases replacing_on_cases table_on_cases builds_on_cases licences_on_cases skip_hit
    root_hit wrapper_hit wrapper_hit_at licensed_x needed waiving passing with_each facts
hits_on_cases = tt

of_the_bans_check : hits_in with_each facts ≡ of_crates ++ (of_ignores ++ of_bypasses)
unfolding hits_on_cases
of_the_bans_check = refl

of_the_licence_check : licence_hits_in every with_each ≡ of_licences
unfolding hits_on_cases
of_the_licence_check = refl

of_both : both_hits with_each facts every ≡ of_crates ++ (of_ignores ++ (of_bypasses ++ of_licences))
unfolding hits_on_cases
of_both = refl

-- without a table nothing is replaced, and the entries of the other kinds are hit all the same
without_a_table : both_hits (tabled with_each []) facts every ≡ of_crates ++ (of_bypasses ++ of_licences)
unfolding hits_on_cases
without_a_table = refl

-- a policy that says nothing of builds, and one without a licence check
without_builds : both_hits (built with_each None) facts every ≡ of_crates ++ (of_ignores ++ of_licences)
unfolding hits_on_cases
without_builds = refl

without_licences : both_hits (licensed with_each None) facts every ≡ of_crates ++ (of_ignores ++ of_bypasses)
unfolding hits_on_cases
without_licences = refl
