-- The readings of texts, computed.
use Rattle.std.proofs.Common.{◌≡◌, ℕ, zero, suc, List, [], ◌∷◌, ◌++◌, map, None, refl}
use Rattle.std.specs.Prelude.{codes}
use Rattle.deny_spdx.specs.declared.requirement.Requirement.{Requirement}
use Rattle.deny_spdx.specs.declared.expression.Tree.{Tree}
use Rattle.deny_spdx.specs.declared.expression.Tree.TheVariants as tree
use Rattle.deny_spdx.specs.Tokens.{is_blank, is_word_byte, token_of}
use Rattle.deny_spdx.specs.Reader.{settled, word_step, with_step, open_step, and_step, or_step, close_step, step, whole}
use Rattle.deny_spdx.specs.Reads.{Reading, Read, BadAt, word_ended, plus_ended, mark_taken, byte_taken, reading_in}
use Rattle.deny_spdx.proofs.MeaningRows.{excepted}

abbrev licence : List ℕ → Requirement
licence id = record { id = id; exception = None }

abbrev read : List Requirement → Tree → Reading
read requirements whole = Read (record { requirements = requirements; tree = whole })

-- the requirements with these numbers, all or one of them
abbrev all : List ℕ → Tree
all numbers = tree.All (map tree.Requirement numbers)

abbrev any : List ℕ → Tree
any numbers = tree.Any (map tree.Requirement numbers)

abbrev one : List Requirement → Reading
one requirements = read requirements (tree.Requirement 0)

abbrev a : Requirement
a = licence (codes "A")

abbrev b : Requirement
b = licence (codes "B")

-- A in this many parentheses
grouped : ℕ → List ℕ
grouped zero = codes "A"
grouped (suc n) = codes "(" ++ grouped n ++ codes ")"

-- a word is a requirement, whose + is dropped, and which is no operator with one
words : (reading_in (codes "MIT") ≡ one (licence (codes "MIT") ∷ []))
    × (reading_in (codes "AND+") ≡ one (licence (codes "AND") ∷ []))
    × (reading_in (codes "or") ≡ one (licence (codes "or") ∷ []))
    × (reading_in (codes "\tA+WITH  E+ ") ≡ one (excepted (codes "A") (codes "E") ∷ []))
unfolding reading_in byte_taken word_ended plus_ended mark_taken is_blank is_word_byte token_of step word_step with_step
    open_step and_step or_step close_step settled whole
words = (refl, refl, refl, refl)

-- AND binds closer than OR, which / is too; equal requirements are repeated
operators : (reading_in (codes "MIT OR Apache-2.0")
    ≡ read (licence (codes "MIT") ∷ licence (codes "Apache-2.0") ∷ []) (any (0 ∷ 1 ∷ [])))
    × (reading_in (codes "A/B") ≡ read (a ∷ b ∷ []) (any (0 ∷ 1 ∷ [])))
    × (reading_in (codes "A OR B AND A")
    ≡ read (a ∷ b ∷ a ∷ []) (tree.Any (tree.Requirement 0 ∷ all (1 ∷ 2 ∷ []) ∷ [])))
    × (reading_in (codes "A AND GPL-2.0 WITH E")
    ≡ read (a ∷ excepted (codes "GPL-2.0") (codes "E") ∷ []) (all (0 ∷ 1 ∷ [])))
unfolding reading_in byte_taken word_ended plus_ended mark_taken is_blank is_word_byte token_of step word_step with_step
    open_step and_step or_step close_step settled whole
operators = (refl, refl, refl, refl)

-- parentheses, nested to 64
groups : (reading_in (codes "(A OR B+) AND A")
    ≡ read (a ∷ b ∷ a ∷ []) (tree.All (any (0 ∷ 1 ∷ []) ∷ tree.Requirement 2 ∷ [])))
    × (reading_in (codes "((A))") ≡ one (a ∷ []))
    × (reading_in (grouped 64) ≡ one (a ∷ []))
    × (reading_in (grouped 65) ≡ BadAt 64)
unfolding reading_in byte_taken word_ended plus_ended mark_taken is_blank is_word_byte token_of step word_step with_step
    open_step and_step or_step close_step settled whole grouped
groups = (refl, refl, refl, refl)

-- a byte that begins no token: a second +, a line end, or one that is in no word
bad_bytes : (reading_in (codes "A++") ≡ BadAt 2)
    × (reading_in (codes "A +") ≡ BadAt 2)
    × (reading_in (codes "MIT\n") ≡ BadAt 3)
    × (reading_in (codes "A_B") ≡ BadAt 1)
unfolding reading_in byte_taken word_ended plus_ended mark_taken is_blank is_word_byte token_of step word_step with_step
    open_step and_step or_step close_step settled whole
bad_bytes = (refl, refl, refl, refl)

-- a word or an operator in the wrong place, whatever follows it
bad_words : (reading_in (codes "A+B") ≡ BadAt 2)
    × (reading_in (codes "MIT and ISC") ≡ BadAt 4)
    × (reading_in (codes "A B_") ≡ BadAt 2)
    × (reading_in (codes "AND") ≡ BadAt 0)
    × (reading_in (codes "A WITH OR") ≡ BadAt 7)
    × (reading_in (codes "A WITH B WITH C") ≡ BadAt 9)
    × (reading_in (codes "(A) WITH B") ≡ BadAt 4)
unfolding reading_in byte_taken word_ended plus_ended mark_taken is_blank is_word_byte token_of step word_step with_step
    open_step and_step or_step close_step settled whole
bad_words = (refl, refl, refl, refl, refl, refl, refl)

-- a parenthesis in the wrong place
bad_parentheses : (reading_in (codes "MIT)") ≡ BadAt 3)
    × (reading_in (codes "MIT (ISC)") ≡ BadAt 4)
    × (reading_in (codes "()") ≡ BadAt 1)
unfolding reading_in byte_taken word_ended plus_ended mark_taken is_blank is_word_byte token_of step word_step with_step
    open_step and_step or_step close_step settled whole
bad_parentheses = (refl, refl, refl)

-- the end of the text, after its last blank
bad_ends : (reading_in (codes "MIT AND ") ≡ BadAt 8)
    × (reading_in (codes "MIT WITH") ≡ BadAt 8)
    × (reading_in (codes "(MIT") ≡ BadAt 4)
    × (reading_in [] ≡ BadAt 0)
    × (reading_in (codes " ") ≡ BadAt 1)
unfolding reading_in byte_taken word_ended plus_ended mark_taken is_blank is_word_byte token_of step word_step with_step
    open_step and_step or_step close_step settled whole
bad_ends = (refl, refl, refl, refl, refl)
