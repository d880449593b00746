-- The readers of values, step by step.
use Rattle.std.proofs.Common.{◌≡◌, ℕ, zero, suc, ◌-◌, ◌<◌, ◌||◌, ◌==◌, true, false, List, [], ◌∷◌, ◌++◌, length, drop}
use Rattle.std.proofs.Common.{Some, None, option_map, refl, inl, inr, arith}
use Rattle.std.proofs.lemmas.Bool.{false≢true, cases_Bool}
use Rattle.std.proofs.lemmas.Bool.Decides.{nat_tests}
use Rattle.deny_toml_grammar.specs.declared.parts.Key.{Key}
use Rattle.deny_toml_grammar.specs.declared.expression.Written.{Written}
use Rattle.deny_toml_grammar.specs.declared.expression.WrittenContent.TheVariants as written
use Rattle.deny_toml_grammar.specs.declared.expression.Assignment.{Assignment}
use Rattle.deny_toml_grammar.specs.Expression.{assignment_with}
use Rattle.deny_toml_grammar.specs.Lexical.{Read, first, is_token_byte, skip_spaces, skip_from}
use Rattle.deny_toml_grammar.specs.private.Lexical.{skip_blank}
use Rattle.deny_toml_grammar.specs.private.Unquoted.{unquoted, token_len}
use Rattle.deny_toml_grammar.specs.private.Keys.{key}
use Rattle.deny_toml_grammar.specs.private.Values.{scalar, after_element, elements, assigned, assignment, members}
use Rattle.deny_toml_grammar.specs.private.Values.{inline_table, value, whole}

pub elements_end : (val : List ℕ → Read Written) (m : ℕ) (found : List Written) (text : List ℕ) → 0 < m
    → (first (skip_blank text) == 93) ≡ true
    → elements val m found text ≡ Some (found, drop 1 (skip_blank text))
unfolding elements
elements_end val zero found text some closing = absurd (omega arith)
elements_end val (suc m) found text some closing = rw closing

pub elements_zero : (val : List ℕ → Read Written) (found : List Written) (text : List ℕ)
    → elements val 0 found text ≡ None
unfolding elements
elements_zero val found text = refl

pub elements_closing : (val : List ℕ → Read Written) (n : ℕ) (found : List Written) (rest : List ℕ)
    → elements val (suc n) found (93 ∷ rest) ≡ Some (found, rest)
unfolding elements skip_from
elements_closing val n found rest = refl

pub elements_more : (val : List ℕ → Read Written) (m : ℕ) (found : List Written) (text : List ℕ) (v : Written)
    (after next : List ℕ) → 0 < m
    → (first (skip_blank text) == 93) ≡ false → val (skip_blank text) ≡ Some (v, after)
    → after_element after ≡ Some next
    → elements val m found text ≡ elements val (m - 1) (found ++ v ∷ []) next
unfolding elements
elements_more val zero found text v after next some other read element = absurd (omega arith)
elements_more val (suc m) found text v after next some other read element =
    let less : suc m - 1 ≡ m = omega arith in
    rw (other, read, element, less)

pub elements_bad : (val : List ℕ → Read Written) (m : ℕ) (found : List Written) (text : List ℕ)
    → (first (skip_blank text) == 93) ≡ false → val (skip_blank text) ≡ None → elements val m found text ≡ None
unfolding elements
elements_bad val zero found text other read = refl
elements_bad val (suc m) found text other read = rw (other, read)

pub elements_bad_end : (val : List ℕ → Read Written) (m : ℕ) (found : List Written) (text : List ℕ) (v : Written)
    (after : List ℕ)
    → (first (skip_blank text) == 93) ≡ false → val (skip_blank text) ≡ Some (v, after) → after_element after ≡ None
    → elements val m found text ≡ None
unfolding elements
elements_bad_end val zero found text v after other read element = refl
elements_bad_end val (suc m) found text v after other read element = rw (other, read, element)

pub members_zero : (val : List ℕ → Read Written) (total : ℕ) (found : List Assignment) (text : List ℕ)
    → members val 0 total found text ≡ None
unfolding members
members_zero val total found text = refl

pub members_bad : (val : List ℕ → Read Written) (m total : ℕ) (found : List Assignment) (text : List ℕ)
    → assignment val total text ≡ None → members val m total found text ≡ None
unfolding members
members_bad val zero total found text none = refl
members_bad val (suc m) total found text none = rw none

pub members_more : (val : List ℕ → Read Written) (m total : ℕ) (found : List Assignment) (text : List ℕ)
    (member : Assignment) (after : List ℕ) → 0 < m
    → assignment val total text ≡ Some (member, after) → (first (skip_spaces after) == 44) ≡ true
    → members val m total found text ≡ members val (m - 1) total (found ++ member ∷ [])
    (skip_spaces (drop 1 (skip_spaces after)))
unfolding members
members_more val zero total found text member after some read more = absurd (omega arith)
members_more val (suc m) total found text member after some read more =
    let less : suc m - 1 ≡ m = omega arith in
    rw (read, more, less)

pub members_last : (val : List ℕ → Read Written) (m total : ℕ) (found : List Assignment) (text : List ℕ)
    (member : Assignment) (after : List ℕ) → 0 < m
    → assignment val total text ≡ Some (member, after) → (first (skip_spaces after) == 44) ≡ false
    → (first (skip_spaces after) == 125) ≡ true
    → members val m total found text ≡ Some (found ++ member ∷ [], drop 1 (skip_spaces after))
unfolding members
members_last val zero total found text member after some read last closing = absurd (omega arith)
members_last val (suc m) total found text member after some read last closing = rw (read, last, closing)

pub members_bad_end : (val : List ℕ → Read Written) (m total : ℕ) (found : List Assignment) (text : List ℕ)
    (member : Assignment) (after : List ℕ)
    → assignment val total text ≡ Some (member, after) → (first (skip_spaces after) == 44) ≡ false
    → (first (skip_spaces after) == 125) ≡ false
    → members val m total found text ≡ None
unfolding members
members_bad_end val zero total found text member after read last closing = refl
members_bad_end val (suc m) total found text member after read last closing = rw (read, last, closing)

pub assignment_no_key : (val : List ℕ → Read Written) (total : ℕ) (text : List ℕ) → key total text ≡ None
    → assignment val total text ≡ None
unfolding assignment
assignment_no_key val total text none = rw none

pub assignment_is : (val : List ℕ → Read Written) (total : ℕ) (text after : List ℕ) (path : List Key)
    → key total text ≡ Some (path, after)
    → assignment val total text ≡ assigned val path after
unfolding assignment
assignment_is val total text after path read = rw read

pub assigned_no_equals : (val : List ℕ → Read Written) (path : List Key) (text : List ℕ) → (first text == 61) ≡ false
    → assigned val path text ≡ None
unfolding assigned
assigned_no_equals val path text none = rw none

pub assigned_none : (val : List ℕ → Read Written) (path : List Key) (text : List ℕ)
    → val (skip_spaces (drop 1 text)) ≡ None → assigned val path text ≡ None
unfolding assigned
assigned_none val path text none =
    elim (cases_Bool (first text == 61)) [ inl equals ↦ rw (equals, none) | inr other ↦ rw other ]

pub assigned_some : (val : List ℕ → Read Written) (path : List Key) (text rest : List ℕ) (v : Written)
    → (first text == 61) ≡ true
    → val (skip_spaces (drop 1 text)) ≡ Some (v, rest) → assigned val path text ≡ Some (assignment_with path v, rest)
unfolding assigned
assigned_some val path text rest v equals read = rw (equals, read)

pub inline_table_empty : (val : List ℕ → Read Written) (total : ℕ) (text : List ℕ)
    → (first (skip_spaces text) == 125) ≡ true
    → inline_table val total text ≡ Some ([], drop 1 (skip_spaces text))
unfolding inline_table
inline_table_empty val total text closing = rw closing

pub inline_table_is : (val : List ℕ → Read Written) (total : ℕ) (text : List ℕ)
    → (first (skip_spaces text) == 125) ≡ false
    → inline_table val total text ≡ members val (suc (length text)) total [] (skip_spaces text)
unfolding inline_table
inline_table_is val total text other = rw other

pub value_zero : (total : ℕ) (text : List ℕ) → value 0 total text ≡ scalar total text
unfolding value
value_zero total text = refl

pub value_scalar : (depth total : ℕ) (text : List ℕ) → (first text == 91) ≡ false → (first text == 123) ≡ false
    → value depth total text ≡ scalar total text
unfolding value
value_scalar zero total text a b = refl
value_scalar (suc depth) total text a b = rw (a, b)

pub value_array : (depth total : ℕ) (text : List ℕ) → 0 < depth → (first text == 91) ≡ true
    → value depth total text ≡ option_map (whole written.Array total text)
    (elements (value (depth - 1) total) (length text) [] (drop 1 text))
unfolding value
value_array zero total text some a = absurd (omega arith)
value_array (suc depth) total text some a = let less : suc depth - 1 ≡ depth = omega arith in rw (less, a)

pub value_table : (depth total : ℕ) (text : List ℕ) → 0 < depth → (first text == 91) ≡ false
    → (first text == 123) ≡ true
    → value depth total text ≡ option_map (whole written.InlineTable total text)
    (inline_table (value (depth - 1) total) total (drop 1 text))
unfolding value
value_table zero total text some a b = absurd (omega arith)
value_table (suc depth) total text some a b = let less : suc depth - 1 ≡ depth = omega arith in rw (less, a, b)

-- where no depth is left, a bracket begins no value
pub value_deep : (total : ℕ) (text : List ℕ) → ((first text == 91) || (first text == 123)) ≡ true
    → value 0 total text ≡ None
unfolding value scalar unquoted token_len
value_deep total [] h = absurd (false≢true h)
value_deep total (c ∷ cs) h =
    let not_quote : (c == 34) ≡ false = grind (arith, nat_tests) in
    let not_apostrophe : (c == 39) ≡ false = grind (arith, nat_tests) in
    let not_token : is_token_byte c ≡ false = grind (arith, nat_tests) in
    rw (not_quote, not_apostrophe, not_token)
