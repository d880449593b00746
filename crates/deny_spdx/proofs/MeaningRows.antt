-- The meanings of texts as one requirement, computed.
use Rattle.std.proofs.Common.{◌≡◌, ℕ, List, [], Some, None, refl}
use Rattle.std.specs.Prelude.{codes}
use Rattle.deny_spdx.specs.declared.requirement.Requirement.{Requirement}
use Rattle.deny_spdx.specs.Tokens.{is_blank, is_word_byte, token_of}
use Rattle.deny_spdx.specs.Meaning.{requirement_in}

abbrev licence : List ℕ → Requirement
licence id = record { id = id; exception = None }

abbrev pub excepted : List ℕ → List ℕ → Requirement
excepted id exception = record { id = id; exception = Some exception }

word : requirement_in (codes "MIT") ≡ Some (licence (codes "MIT"))
unfolding requirement_in is_blank is_word_byte token_of
word = refl

plus : requirement_in (codes " GPL-2.0+ ") ≡ Some (licence (codes "GPL-2.0"))
unfolding requirement_in is_blank is_word_byte token_of
plus = refl

exception : requirement_in (codes "GPL-2.0+WITH  Classpath-exception-2.0+")
    ≡ Some (excepted (codes "GPL-2.0") (codes "Classpath-exception-2.0"))
unfolding requirement_in is_blank is_word_byte token_of
exception = refl

word_of_an_operator : requirement_in (codes "AND+") ≡ Some (licence (codes "AND"))
unfolding requirement_in is_blank is_word_byte token_of
word_of_an_operator = refl

operator : requirement_in (codes "AND") ≡ None
unfolding requirement_in is_blank is_word_byte token_of
operator = refl

expression : requirement_in (codes "MIT OR ISC") ≡ None
unfolding requirement_in is_blank is_word_byte token_of
expression = refl

parentheses : requirement_in (codes "(MIT)") ≡ None
unfolding requirement_in is_blank is_word_byte token_of
parentheses = refl

no_exception : requirement_in (codes "MIT WITH") ≡ None
unfolding requirement_in is_blank is_word_byte token_of
no_exception = refl

no_word : requirement_in (codes "+") ≡ None
unfolding requirement_in is_blank is_word_byte token_of
no_word = refl

two_plus : requirement_in (codes "MIT++") ≡ None
unfolding requirement_in is_blank is_word_byte token_of
two_plus = refl

two_words : requirement_in (codes "A+B") ≡ None
unfolding requirement_in is_blank is_word_byte token_of
two_words = refl

no_blank : requirement_in (codes "MIT\n") ≡ None
unfolding requirement_in is_blank is_word_byte token_of
no_blank = refl

nothing : requirement_in [] ≡ None
unfolding requirement_in is_blank is_word_byte token_of
nothing = refl
