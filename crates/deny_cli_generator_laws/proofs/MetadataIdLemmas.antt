-- The ids of different packages differ.
use Rattle.std.proofs.Common.{◌≡◌, ◌≢◌, ◌<◌, ◌/◌, ◌%◌, ◌^◌, ◌==◌, ◌++◌, ℕ, zero, suc, Bool, true, false, List, [], ◌∷◌}
use Rattle.std.proofs.Common.{ap, arith, codes, get_or, if◌then◌else◌, inl, inr, length, refl, sym}
use Rattle.std.proofs.lemmas.Bool.{cases_Bool, eqb-true}
use Rattle.std.proofs.lemmas.Fmt.{decimal_injective, decimal_is_IsNumeral}
use Rattle.std.proofs.lemmas.List.{append_cancel_left}
use Rattle.std.proofs.lemmas.Str.Parse.{digit_at}
use Rattle.std.specs.Cmp.Lexicographic.{bytes_decides}
use Rattle.std.specs.Fmt.{decimal}
use Rattle.deny_cli_generator.specs.Made.{name_at, name_of, version_at}
use Rattle.deny_cli_generator.specs.MetadataText.{id_at, registry}
use Rattle.deny_spec.specs.Text.{same_text}
use Rattle.deny_cli_generator_laws.proofs.MetadataClean.{IsFew}

-- ---- a name ends before the first `@`

abbrev LacksAt : List ℕ → Type 0
LacksAt [] = Unit {0}
LacksAt (byte ∷ bytes) = (byte ≢ 64) × LacksAt bytes

lacks_at : (bytes : List ℕ) → ((k : ℕ) → k < length bytes → get_or bytes k 0 ≢ 64) → LacksAt bytes
lacks_at [] none = tt
lacks_at (byte ∷ bytes) none = (none 0 (omega arith), lacks_at bytes (λ k less. none (suc k) (omega arith)))

decimal_lacks_at : (n : ℕ) → n < 2 ^ 64 → LacksAt (decimal n)
decimal_lacks_at n small = lacks_at (decimal n) (λ k less is.
    let digit = digit_at (decimal n) k (decimal_is_IsNumeral n small).0.1 less in omega (arith, digit.1, is))

cut_at : (first second first_rest second_rest : List ℕ) → LacksAt first → LacksAt second
    → first ++ (64 ∷ first_rest) ≡ second ++ (64 ∷ second_rest)
    → (first ≡ second) × (first_rest ≡ second_rest)
cut_at [] [] first_rest second_rest lacks also is = (refl, cc)
cut_at [] (y ∷ second) first_rest second_rest lacks also is = absurd (also.0 (cc))
cut_at (x ∷ first) [] first_rest second_rest lacks also is = absurd (lacks.0 (cc))
cut_at (x ∷ first) (y ∷ second) first_rest second_rest lacks also is =
    let head : x ≡ y = cc in
    let rest : first ++ (64 ∷ first_rest) ≡ second ++ (64 ∷ second_rest) = cc in
    let both = cut_at first second first_rest second_rest lacks.1 also.1 rest in
    let prefixes = both.0 in
    (cc, both.1)

-- ---- the version tells an even number from an odd one

same_choice : (a b : Bool) → (if a then codes "1.0.0" else codes "2.0.0") ≡ (if b then codes "1.0.0" else codes "2.0.0")
    → a ≡ b
same_choice true true is = refl
same_choice true false is = absurd (let first = ap (λ (text : List ℕ). get_or text 0 0) is in omega arith)
same_choice false true is = absurd (let first = ap (λ (text : List ℕ). get_or text 0 0) is in omega arith)
same_choice false false is = refl

same_rest : (a b : ℕ) → a < 2 → b < 2 → (a == 0) ≡ (b == 0) → a ≡ b
same_rest zero zero first second is = refl
same_rest zero (suc b) first second is = absurd (omega (arith, eqb-true (suc b) 0 (sym is)))
same_rest (suc a) zero first second is = absurd (omega (arith, eqb-true (suc a) 0 is))
same_rest (suc a) (suc b) first second is = omega arith

same_half : (m n : ℕ) → version_at m ≡ version_at n → m % 2 ≡ n % 2
unfolding version_at
same_half m n is = same_rest (m % 2) (n % 2) (omega arith) (omega arith) (same_choice (m % 2 == 0) (n % 2 == 0) is)

-- ---- ids

name_at-lacks_at : (number : ℕ) → IsFew number → LacksAt (name_at number)
unfolding name_at name_of
name_at-lacks_at number few = (λ is. absurd (omega arith), decimal_lacks_at (number / 2) (omega (arith, few)))

same_name : (m n : ℕ) → IsFew m → IsFew n → name_at m ≡ name_at n → m / 2 ≡ n / 2
unfolding name_at name_of
same_name m n few also is = decimal_injective (m / 2) (n / 2) (omega (arith, few)) (omega (arith, also))
    (append_cancel_left (codes "c") (decimal (m / 2)) (decimal (n / 2)) is)

module _ (m n : ℕ) (few : IsFew m) (also : IsFew n) where
  id_parts : id_at m ≡ id_at n → (name_at m ≡ name_at n) × (version_at m ≡ version_at n)
  unfolding id_at
  id_parts is = cut_at (name_at m) (name_at n) (version_at m) (version_at n) (name_at-lacks_at m few)
      (name_at-lacks_at n also) (append_cancel_left (codes "#") _ _ (append_cancel_left registry _ _ is))

  id_at_injective : id_at m ≡ id_at n → m ≡ n
  id_at_injective is =
      let both = id_parts is in
      omega (arith, same_name m n few also both.0, same_half m n both.1)

  pub other_id : m ≢ n → same_text (id_at m) (id_at n) ≡ false
  other_id differ = elim (cases_Bool (same_text (id_at m) (id_at n))) as (λ _. same_text (id_at m) (id_at n) ≡ false) [
    | inl same ↦ absurd (differ (id_at_injective ((bytes_decides (id_at m) (id_at n)).0 same)))
    | inr other ↦ other
  ]

pub id_app : (n : ℕ) → same_text (id_at n) (codes "app") ≡ false
unfolding id_at registry
id_app n = refl
