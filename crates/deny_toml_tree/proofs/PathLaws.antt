-- Indices, and the parts of a path.
use Rattle.std.proofs.Common.{◌≡◌, ℕ, suc, ◌+◌, ◌-◌, ◌*◌, ◌<◌, ◌≤◌, Bool, true, false, List, [], ◌∷◌, length}
use Rattle.std.proofs.Common.{drop, take, length-drop, get_or, Some, None, nat_lt, cond, ◌==◌, position, refl, inl, inr}
use Rattle.std.proofs.Common.{arith}
use Rattle.std.specs.List.{slice_split, position_or_len}
use Rattle.std.proofs.lemmas.List.{take_all}
use Rattle.std.proofs.lemmas.Bool.Decides.{nat_tests}
use Rattle.std.proofs.lemmas.List.Splits.{slice_split_first}
use Rattle.deny_toml_tree.proofs.EntryLaws.{none_passes}
use Rattle.std.proofs.lemmas.Bool.{cases_Bool}
use Rattle.deny_toml_tree.specs.Calls.{is_decimal_digit, digits_index, parts_of}
use Rattle.deny_toml_tree.specs.private.Calls.{IsPast}

-- further digits do not make an index smaller
digits_index-past : (count index : ℕ) (bytes : List ℕ) → count ≤ index → IsPast count (digits_index index bytes)
digits_index-past count index [] past = past
digits_index-past count index (byte ∷ bytes) past =
    elim (cases_Bool (is_decimal_digit byte)) [
      | inl digit ↦ rw digit (digits_index-past count (index * 10 + (byte - 48)) bytes (omega arith))
      | inr other ↦ rw other tt
    ]

pub digits_index-end : (count index byte : ℕ) (bytes : List ℕ)
    → (is_decimal_digit byte ≡ true → count ≤ index * 10 + (byte - 48))
    → IsPast count (digits_index index (byte ∷ bytes))
digits_index-end count index byte bytes past =
    elim (cases_Bool (is_decimal_digit byte)) [
      | inl digit ↦ rw digit (digits_index-past count (index * 10 + (byte - 48)) bytes (past digit))
      | inr other ↦ rw other tt
    ]

-- a path without a slash is its only part
no_slash : (p : ℕ → Bool) (path : List ℕ) → ((k : ℕ) (d : ℕ) → k < length path → p (get_or path k d) ≡ false)
    → slice_split p path ≡ path ∷ []
no_slash p [] fails = refl
no_slash p (b ∷ path) fails =
    rw (fails 0 b (omega arith), no_slash p path (λ k d below. fails (suc k) d (omega arith)))

at_position : (p : ℕ → Bool) (path : List ℕ) (end : ℕ) (b : Bool) → nat_lt (position_or_len p path) (length path) ≡ b
    → cond b (Some (position_or_len p path)) None ≡ Some end → (position_or_len p path < length path)
    × (position_or_len p path ≡ end)
at_position p path end true is at = (grind (arith, nat_tests), cc at)
at_position p path end false is at = cc at

-- the first slash ends the first part
first_slash : (path : List ℕ) (end : ℕ) → position (λ b. b == 47) path ≡ Some end
    → parts_of path ≡ take end path ∷ parts_of (drop (end + 1) path)
first_slash path end at =
    let (below, is) = at_position (λ b. b == 47) path end (nat_lt (position_or_len (λ b. b == 47) path) (length path))
    refl at in
    rw (← is) (slice_split_first (λ b. b == 47) path 0 below)

pub no_slash_in : (path : List ℕ) → position (λ b. b == 47) path ≡ None → parts_of path ≡ path ∷ []
no_slash_in path none = no_slash (λ b. b == 47) path (none_passes (λ b. b == 47) path none)

-- the first part and the rest of a path, as slices
pub sliced_parts : (path : List ℕ) (end : ℕ) → position (λ b. b == 47) path ≡ Some end
    → parts_of path ≡ take end path ∷ parts_of (take (length path - (end + 1)) (drop (end + 1) path))
sliced_parts path end at =
    let enough : length (drop (end + 1) path) ≤ length path - (end + 1) = omega (arith, length-drop (end + 1) path) in
    rw (take_all (length path - (end + 1)) (drop (end + 1) path) enough) (first_slash path end at)
