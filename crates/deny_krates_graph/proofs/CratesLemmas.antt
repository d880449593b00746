-- Crates at consecutive places.
use Rattle.std.proofs.Common.{add-zero, ◌+◌, zero, suc, take, drop, ◌≡◌, ◌≤◌, ℕ, List, [], ◌∷◌, length, refl, arith, ap}
use Rattle.std.proofs.Math.Seq.{take-nil, drop-nil}
use Rattle.deny_krates_graph.specs.Crates.{crate_view, crates_from}
use Rattle.deny_krates_graph.specs.declared.krate.Krate.{Krate}

-- a slice of the crates, each at its place
pub crates_from-part : (place : ℕ) (ks : List Krate) (s n : ℕ) → s ≤ length ks
    → crates_from (place + s) (take n (drop s ks)) ≡ take n (drop s (crates_from place ks))
crates_from-part place [] s n room = rw (drop-nil, drop-nil, take-nil, take-nil)
crates_from-part place (k ∷ ks) zero zero room = refl
crates_from-part place (k ∷ ks) zero (suc n) room =
    rw add-zero (ap (λ rest. crate_view place k ∷ rest) (part_of_rest place ks n))
  where
    part_of_rest : (place : ℕ) (ks : List Krate) (n : ℕ)
        → crates_from (place + 1) (take n ks) ≡ take n (crates_from (place + 1) ks)
    part_of_rest place [] n = rw (take-nil, take-nil)
    part_of_rest place (k ∷ ks) zero = refl
    part_of_rest place (k ∷ ks) (suc n) = ap (λ rest. crate_view (place + 1) k ∷ rest) (part_of_rest (place + 1) ks n)
crates_from-part place (k ∷ ks) (suc s) n room =
    let same : place + suc s ≡ (place + 1) + s = omega arith in
    rw same (crates_from-part (place + 1) ks s n (omega (arith, room)))

pub length-crates_from : (place : ℕ) (ks : List Krate) → length (crates_from place ks) ≡ length ks
length-crates_from place [] = refl
length-crates_from place (k ∷ ks) = ap suc (length-crates_from (place + 1) ks)
