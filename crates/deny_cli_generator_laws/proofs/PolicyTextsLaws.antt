-- The text of the policy as a text for its entries of `skip`, and that it is UTF-8.
use Rattle.std.proofs.Common.{◌≡◌, ◌<◌, ◌+◌, ◌++◌, ◌==◌, ◌∷◌, [], ℕ, List, Bool, true, false, zero, suc, codes, refl}
use Rattle.std.proofs.Common.{IsUtf8, ap, append_assoc, arith, filter, map, sym, ◌∙◌}
use Rattle.std.proofs.lemmas.Bool.Decides.{nat_tests}
use Rattle.std.proofs.lemmas.Str.{IsUtf8-append}
use Rattle.std.specs.List.{AllByRecursion, flat_map, range_with_len}
use Rattle.std.specs.Prelude.{if◌then◌else◌}
use Rattle.deny_cli_generator.specs.Made.{name_of}
use Rattle.deny_cli_generator.specs.PolicyText.{divided, name_count, policy_text, skip_text}
use Rattle.deny_cli_generator_laws.proofs.PolicyDocument.{text_of}
use Rattle.deny_cli_generator_laws.proofs.PolicyElements.{after_element, elements_text, in_quotes}
use Rattle.deny_cli_generator_laws.proofs.PolicySkipped.{is_skipped, skipped_specs, spec_text, specs_in}
use Rattle.deny_cli_generator_laws.proofs.PolicyElementsLaws.{ArePlain, IsPlain}
use Rattle.deny_cli_generator_laws.proofs.PolicyNamesLaws.{ascii-utf8, spec-plain, spec-utf8}

-- an element as the generator writes it
abbrev element_of : ℕ → List ℕ
element_of number = codes "\"" ++ (name_of number ++ codes "@=1.0.0\"")

element_quoted : (number : ℕ) → element_of number ≡ in_quotes (spec_text number)
unfolding spec_text
element_quoted number = rw (append_assoc (name_of number) (codes "@=1.0.0") (34 ∷ [])) refl

-- an element in front of the text of other elements
element_before : (number : ℕ) (rest tail others end : List ℕ) → rest ++ tail ≡ others ++ end
    → (element_of number ++ rest) ++ tail ≡ (in_quotes (spec_text number) ++ others) ++ end
element_before number rest tail others end same =
    append_assoc (element_of number) rest tail
    ∙ ((λ i. element_quoted number i ++ same i) ∙ sym (append_assoc (in_quotes (spec_text number)) others end))

-- an element, if the number's name is skipped, behind other elements
behind_by : (is : Bool) (number : ℕ) (divider rest end : List ℕ) (numbers : List ℕ) → divider ≡ codes ", "
    → rest ++ (93 ∷ end) ≡ after_element (map spec_text numbers) ++ end
    → ((if is then divider ++ element_of number else []) ++ rest) ++ (93 ∷ end)
    ≡ after_element (map spec_text (if is then number ∷ numbers else numbers)) ++ end
behind_by true number divider rest end numbers divides same =
    ap (λ d. ((d ++ element_of number) ++ rest) ++ (93 ∷ end)) divides
    ∙ ap (λ xs. 44 ∷ (32 ∷ xs))
    (element_before number rest (93 ∷ end) (after_element (map spec_text numbers)) end same)
behind_by false number divider rest end numbers divides same = same

divides_behind : (number : ℕ) (divider : List ℕ) → 0 < number → divided number divider ≡ divider
divides_behind number divider some = let other : (number == 0) ≡ false = grind (arith, nat_tests) in rw other refl

behind : (at count : ℕ) (end : List ℕ) → 0 < at
    → flat_map skip_text (range_with_len at count) ++ (93 ∷ end)
    ≡ after_element (specs_in (range_with_len at count)) ++ end
unfolding skip_text
behind at zero end some = refl
behind at (suc count) end some =
    behind_by (is_skipped at) at (divided at (codes ", ")) (flat_map skip_text (range_with_len (at + 1) count)) end
    (filter is_skipped (range_with_len (at + 1) count)) (divides_behind at (codes ", ") some)
    (behind (at + 1) count end (omega arith))

-- the text of all elements, with the closing bracket
all_elements : (count : ℕ) (end : List ℕ)
    → flat_map skip_text (range_with_len 0 count) ++ (93 ∷ end)
    ≡ elements_text (specs_in (range_with_len 0 count)) ++ end
unfolding skip_text
all_elements zero end = refl
all_elements (suc count) end =
    let numbers = range_with_len 1 count in
    element_before 0 (flat_map skip_text numbers) (93 ∷ end) (after_element (specs_in numbers)) end
    (behind 1 count end (omega arith))

pub policy-text : (crates : ℕ) → policy_text crates ≡ text_of (skipped_specs crates)
unfolding policy_text
policy-text crates =
    ap (λ xs. codes "[bans]\nmultiple-versions = \"deny\"\ndeny = [\"c1\"]\nskip = [" ++ xs)
    (all_elements (name_count crates) (codes "\n"))

-- what holds of the spec of any number holds of each spec of some numbers
each_spec : (P : List ℕ → Type 0) → ((number : ℕ) → P (spec_text number)) → (numbers : List ℕ)
    → AllByRecursion P (map spec_text numbers)
each_spec P is [] = tt
each_spec P is (number ∷ numbers) = (is number, each_spec P is numbers)

pub specs-plain : (numbers : List ℕ) → ArePlain (map spec_text numbers)
specs-plain numbers = each_spec IsPlain spec-plain numbers

quoted_utf8 : (text : List ℕ) → IsUtf8 text → IsUtf8 (in_quotes text)
quoted_utf8 text is =
    let quote = ascii-utf8 (codes "\"") refl in
    IsUtf8-append (codes "\"") (text ++ codes "\"") quote (IsUtf8-append text (codes "\"") is quote)

after_utf8 : (texts : List (List ℕ)) → AllByRecursion IsUtf8 texts → IsUtf8 (after_element texts)
after_utf8 [] all = ascii-utf8 (codes "]") refl
after_utf8 (text ∷ texts) all =
    IsUtf8-append (codes ", ") (in_quotes text ++ after_element texts) (ascii-utf8 (codes ", ") refl)
    (IsUtf8-append (in_quotes text) (after_element texts) (quoted_utf8 text all.0) (after_utf8 texts all.1))

elements_utf8 : (texts : List (List ℕ)) → AllByRecursion IsUtf8 texts → IsUtf8 (elements_text texts)
elements_utf8 [] all = ascii-utf8 (codes "]") refl
elements_utf8 (text ∷ texts) all =
    IsUtf8-append (in_quotes text) (after_element texts) (quoted_utf8 text all.0) (after_utf8 texts all.1)

pub text-utf8 : (numbers : List ℕ) → IsUtf8 (text_of (map spec_text numbers))
text-utf8 numbers =
    let specs = map spec_text numbers in
    let head = codes "[bans]\nmultiple-versions = \"deny\"\ndeny = [\"c1\"]\nskip = [" in
    IsUtf8-append head (elements_text specs ++ codes "\n") (ascii-utf8 head refl)
    (IsUtf8-append (elements_text specs) (codes "\n") (elements_utf8 specs (each_spec IsUtf8 spec-utf8 numbers))
    (ascii-utf8 (codes "\n") refl))
