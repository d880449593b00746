-- The specs of the policy, as they are read.
use Rattle.std.proofs.Common.{◌≡◌, ◌+◌, ◌++◌, ◌==◌, ◌∷◌, ℕ, List, true, false, not, length, refl, ap, None, Some, ◌∙◌}
use Rattle.std.proofs.Common.{arith, codes}
use Rattle.std.proofs.Math.Seq.{drop-append-add, take-append_seam}
use Rattle.std.proofs.lemmas.Bool.Decides.{nat_tests}
use Rattle.std.proofs.lemmas.List.{length-append}
use Rattle.std.specs.Char.{is_ascii_digit}
use Rattle.std.specs.List.{list_all, position_or_len}
use Rattle.semver.proofs.OnLiterals.{semver_on_literals}
use Rattle.deny_toml_grammar.proofs.LexicalLaws.{prefix_len-run}
use Rattle.deny_cfg_entries.specs.Requirement.{requirement_in}
use Rattle.deny_cfg_entries.specs.Spec.{checked, divided, divided_at, or_else, parts_or, spec_in}
use Rattle.deny_cli_generator.specs.Made.{name_of}
use Rattle.deny_cli_generator_laws.proofs.PolicySkipped.{spec_text}
use Rattle.deny_cli_generator_laws.proofs.PolicyNamesLaws.{name-pass}

-- the texts that the first `@` divides
divided_at-first : (name rest : List ℕ) → list_all (λ b. not (b == 64)) name ≡ true
    → divided_at 64 (name ++ (64 ∷ rest)) ≡ Some (name, rest)
divided_at-first name rest none =
    let text = name ++ (64 ∷ rest) in
    let offset : position_or_len (λ b. b == 64) text ≡ length name =
    prefix_len-run (λ b. not (b == 64)) name (64 ∷ rest) none refl in
    let lens : length text ≡ length name + length (64 ∷ rest) = length-append name (64 ∷ rest) in
    let other : (length name == length text) ≡ false = grind (arith, nat_tests) in
    rw (offset, other, take-append_seam name (64 ∷ rest), drop-append-add name (64 ∷ rest) 1) refl

digit_divides_not : (c : ℕ) → is_ascii_digit c ≡ true → not (c == 64) ≡ true
digit_divides_not c digit = grind (arith, nat_tests)

name_there : (number : ℕ) → (length (name_of number) == 0) ≡ false
unfolding name_of
name_there number = grind (arith, nat_tests)

checked_exact : (name : List ℕ) → (length name == 0) ≡ false
    → checked (name, Some (codes "=1.0.0")) ≡ Some (name, Some (codes "=1.0.0"))
unfolding requirement_in semver_on_literals
checked_exact name there = rw there refl

pub spec-in : (number : ℕ) → spec_in (spec_text number) ≡ Some (name_of number, Some (codes "=1.0.0"))
unfolding spec_in divided spec_text
spec-in number =
    let name = name_of number in
    let text = name ++ codes "@=1.0.0" in
    let apart = name-pass (λ b. not (b == 64)) digit_divides_not refl number in
    ap (λ d. checked (parts_or (or_else d (divided_at 58 text)) text))
    (divided_at-first name (codes "=1.0.0") apart)
    ∙ checked_exact name (name_there number)

pub spec-denied : spec_in (codes "c1") ≡ Some (codes "c1", None)
unfolding spec_in divided
spec-denied = refl
