-- The folder of a path.
use Rattle.std.proofs.Common.{◌≡◌, ◌<◌, ◌+◌, ◌-◌, ℕ, List, [], ◌∷◌, length, take, sym, ap, ◌∙◌, arith}
use Rattle.std.specs.Prelude.{◌==◌, ◌≢◌, not, slice_index_or}
use Rattle.std.specs.List.{before_last, suffix_len}
use Rattle.std.proofs.lemmas.Bool.{eq-eqb, ne_eqb}
use Rattle.std.proofs.lemmas.List.Sums.{suffix_len_is}
use Rattle.deny_spec.specs.Crates.{folder_of, or_root}

-- the prefix before the last occurrence of a byte, which is at an index and nowhere after it
before_last_at : (byte : ℕ) (path : List ℕ) (k : ℕ) → k < length path → slice_index_or path k 0 ≡ byte
    → ((i : ℕ) → k < i → i < length path → slice_index_or path i 0 ≢ byte)
    → before_last (λ b. b == byte) path ≡ take k path
before_last_at byte path k inside here after =
    let is : suffix_len (λ b. not (b == byte)) path ≡ length path - (k + 1) =
    suffix_len_is (λ b. not (b == byte)) path (k + 1) 0 (omega (arith, inside))
    (λ i past below. ap not (ne_eqb (slice_index_or path i 0) byte (after i (omega (arith, past)) below)))
    (λ low. ap not (eq-eqb (slice_index_or path (k + 1 - 1) 0) byte
    (ap (λ n. slice_index_or path n 0) (back k) ∙ here))) in
    ap (λ n. take (length path - n - 1) path) is ∙ ap (λ n. take n path) (left (length path) k inside)
  where
    back : (k : ℕ) → k + 1 - 1 ≡ k
    back k = omega arith

    left : (n k : ℕ) → k < n → n - (n - (k + 1)) - 1 ≡ k
    left n k below = omega (arith, below)

before_last_none : (byte : ℕ) (path : List ℕ) → ((i : ℕ) → i < length path → slice_index_or path i 0 ≢ byte)
    → before_last (λ b. b == byte) path ≡ []
before_last_none byte path none =
    let is : suffix_len (λ b. not (b == byte)) path ≡ length path - 0 =
    suffix_len_is (λ b. not (b == byte)) path 0 0 (omega arith)
    (λ i past below. ap not (ne_eqb (slice_index_or path i 0) byte (none i below)))
    (λ low. absurd (omega (arith, low))) in
    ap (λ n. take (length path - n - 1) path) is ∙ ap (λ n. take n path) (nothing (length path))
  where
    nothing : (n : ℕ) → n - (n - 0) - 1 ≡ 0
    nothing n = omega arith

pub folder_found : (path : List ℕ) (k : ℕ) → k < length path → slice_index_or path k 0 ≡ 47
    → ((i : ℕ) → k < i → i < length path → slice_index_or path i 0 ≢ 47) → or_root (take k path) ≡ folder_of path
unfolding folder_of
folder_found path k inside here after = ap or_root (sym (before_last_at 47 path k inside here after))

pub folder_none : (path : List ℕ) → ((i : ℕ) → i < length path → slice_index_or path i 0 ≢ 47)
    → 47 ∷ [] ≡ folder_of path
unfolding folder_of
folder_none path none = ap or_root (sym (before_last_none 47 path none))
