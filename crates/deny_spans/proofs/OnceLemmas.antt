-- Each manifest is given at most once.
use Rattle.std.proofs.Common.{◌≡◌, ◌∙◌, ◌+◌, ◌≤◌, ◌++◌, ◌∷◌, [], ℕ, List, Some, ap, arith, length, subst, take}
use Rattle.std.specs.Prelude.{slice_get}
use Rattle.std.specs.List.{sum_by}
use Rattle.std.proofs.lemmas.List.{take_all, take_more}
use Rattle.std.proofs.lemmas.List.Sums.{sum_by-append}
use Rattle.std.proofs.lemmas.Option.{get_or_from_slice_get, slice_get_within}
use Rattle.deny_krates.proofs.CratesLemmas.{length-crates_from}
use Rattle.deny_krates.specs.Crates.{crates_from}
use Rattle.deny_krates.specs.krate.Krate.{Krate}
use Rattle.deny_spec.specs.Graph.{Crate, Graph}
use Rattle.deny_base_disk.proofs.PieceLemmas.{gave_then, gave_within}
use Rattle.deny_base_disk.specs.Disk.{Disk, Files}
use Rattle.deny_base_disk.specs.Read.{GaveAtMost}
use Rattle.deny_spans.specs.Wanted.{bytes_of}

-- the bytes given so far with those of one more crate's manifest
pub given_next : (g : Graph) (place : ℕ) (c : Crate) (a b now : Disk) → slice_get g.crates place ≡ Some c
    → b.files ≡ a.files → GaveAtMost a b (λ files. sum_by (bytes_of files) (take place g.crates))
    → GaveAtMost b now (λ files. bytes_of files c)
    → GaveAtMost a now (λ files. sum_by (bytes_of files) (take (place + 1) g.crates))
given_next g place c a b now at same before behind =
    gave_within a now (λ files. sum_by (bytes_of files) (take place g.crates) + bytes_of files c) _ next
    (gave_then a b now _ _ same before behind)
  where
    more : take (place + 1) g.crates ≡ take place g.crates ++ c ∷ []
    more = take_more g.crates place c (slice_get_within g.crates place c at)
        ∙ ap (λ (d : Crate). take place g.crates ++ d ∷ []) (get_or_from_slice_get g.crates place c c at)

    next : (files : Files) → sum_by (bytes_of files) (take place g.crates) + bytes_of files c
        ≤ sum_by (bytes_of files) (take (place + 1) g.crates)
    next files = omega (
      arith,
      ap (sum_by (bytes_of files)) more,
      sum_by-append (bytes_of files) (take place g.crates) (c ∷ []),
    )

-- the bytes given for the manifests of all crates
pub given_all : (g : Graph) (place : ℕ) (ks : List Krate) (a b : Disk) → crates_from 0 ks ≡ g.crates → length ks ≤ place
    → GaveAtMost a b (λ files. sum_by (bytes_of files) (take place g.crates))
    → GaveAtMost a b (λ files. sum_by (bytes_of files) g.crates)
given_all g place ks a b crates past gave =
    subst (λ (cs : List Crate). GaveAtMost a b (λ files. sum_by (bytes_of files) cs))
    (take_all place g.crates (omega (arith, past, length-crates_from 0 ks, ap length crates))) gave
