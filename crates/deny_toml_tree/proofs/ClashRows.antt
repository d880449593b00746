-- Documents, and the spans of their clashes. Each segment here is one byte long, with a span of its own.
use Rattle.std.proofs.Common.{◌≡◌, ℕ, true, false, List, [], ◌∷◌, refl, Option, Some, None, codes}
use Rattle.deny_base.specs.declared.span.Span.{Span}
use Rattle.deny_toml_grammar.specs.declared.parts.Key.{Key}
use Rattle.deny_toml_grammar.specs.declared.parts.Scalar.TheVariants.{Boolean}
use Rattle.deny_toml_grammar.specs.declared.expression.TomlExpression.{TomlExpression}
use Rattle.deny_toml_grammar.specs.declared.expression.TomlExpression.TheVariants as expression
use Rattle.deny_toml_grammar.specs.declared.expression.Assignment.{Assignment}
use Rattle.deny_toml_grammar.specs.declared.expression.Written.{Written}
use Rattle.deny_toml_grammar.specs.declared.expression.WrittenContent.TheVariants.{Scalar, Array, InlineTable}
use Rattle.deny_toml_grammar.specs.Expression.{header_with, written_with, assignment_with, span_of}
use Rattle.deny_toml_tree.specs.Clash.{clash, clash_in, clash_after, walk, hold}
use Rattle.deny_toml_tree.proofs.ClashLaws.{clash_in-scalar, clash_in-array, clash_in-table}
use Rattle.deny_toml_tree.proofs.TreeRows.{assigned}

abbrev a : ℕ → Key
a at = record { name = codes "a"; span = span_of at 1 }

abbrev b : ℕ → Key
b at = record { name = codes "b"; span = span_of at 1 }

abbrev c : ℕ → Key
c at = record { name = codes "c"; span = span_of at 1 }

abbrev table : List Key → TomlExpression
table path = expression.Header (header_with false path)

abbrev array : List Key → TomlExpression
array path = expression.Header (header_with true path)

abbrev yes : Written
yes = written_with (span_of 0 0) (Scalar (Boolean true))

abbrev key : List Key → TomlExpression
key path = expression.Assignment (assignment_with path yes)

abbrev at : ℕ → Option Span
at offset = Some (span_of offset 1)

yes-none : clash_in yes ≡ None
yes-none = clash_in-scalar (span_of 0 0) (Boolean true)

-- a = true, a = true
key_twice : clash (key (a 1 ∷ []) ∷ key (a 2 ∷ []) ∷ []) ≡ at 2
unfolding clash_after walk hold
key_twice = rw yes-none refl

-- a.b = true, a.c = true
table_entered_again : clash (key (a 1 ∷ b 2 ∷ []) ∷ key (a 3 ∷ c 4 ∷ []) ∷ []) ≡ None
unfolding clash_after walk hold
table_entered_again = rw yes-none refl

-- a.b = true, a.b.c = true
value_entered : clash (key (a 1 ∷ b 2 ∷ []) ∷ key (a 3 ∷ b 4 ∷ c 5 ∷ []) ∷ []) ≡ at 4
unfolding clash_after walk hold
value_entered = rw yes-none refl

-- [a], [a]
table_twice : clash (table (a 1 ∷ []) ∷ table (a 2 ∷ []) ∷ []) ≡ at 2
unfolding clash_after walk hold
table_twice = refl

-- [a.b], [a]
table_after_its_inner_one : clash (table (a 1 ∷ b 2 ∷ []) ∷ table (a 3 ∷ []) ∷ []) ≡ None
unfolding clash_after walk hold
table_after_its_inner_one = refl

-- [a.b], [a], b = true
key_at_a_table : clash (table (a 1 ∷ b 2 ∷ []) ∷ table (a 3 ∷ []) ∷ key (b 4 ∷ []) ∷ []) ≡ at 4
unfolding clash_after walk hold
key_at_a_table = refl

-- a.b = true, [a]
table_that_a_key_entered : clash (key (a 1 ∷ b 2 ∷ []) ∷ table (a 3 ∷ []) ∷ []) ≡ at 3
unfolding clash_after walk hold
table_that_a_key_entered = rw yes-none refl

-- [a], b.c = true, [a.b]
inner_table_that_a_key_entered : clash (table (a 1 ∷ []) ∷ key (b 2 ∷ c 3 ∷ []) ∷ table (a 4 ∷ b 5 ∷ []) ∷ []) ≡ at 5
unfolding clash_after walk hold
inner_table_that_a_key_entered = rw yes-none refl

-- [a], b.c = true, [a.b.a]
header_through_a_table_that_a_key_entered : clash (table (a 1 ∷ []) ∷ key (b 2 ∷ c 3 ∷ []) ∷ table
    (a 4 ∷ b 5 ∷ a 6 ∷ []) ∷ []) ≡ None
unfolding clash_after walk hold
header_through_a_table_that_a_key_entered = rw yes-none refl

-- [a.b], [a], b.c = true
key_into_a_table_that_a_header_named : clash (table (a 1 ∷ b 2 ∷ []) ∷ table (a 3 ∷ []) ∷ key (b 4 ∷ c 5 ∷ []) ∷ []) ≡
    at 4
unfolding clash_after walk hold
key_into_a_table_that_a_header_named = refl

-- [a.b.c], [a], b.a = true
key_into_a_table_that_headers_went_through : clash (table (a 1 ∷ b 2 ∷ c 3 ∷ []) ∷ table (a 4 ∷ []) ∷ key
    (b 5 ∷ a 6 ∷ []) ∷ []) ≡ None
unfolding clash_after walk hold
key_into_a_table_that_headers_went_through = rw yes-none refl

-- [a.b.c], [a], b.a = true, [a.b]
that_table_named_after_it : clash (table (a 1 ∷ b 2 ∷ c 3 ∷ []) ∷ table (a 4 ∷ []) ∷ key (b 5 ∷ a 6 ∷ []) ∷ table
    (a 7 ∷ b 8 ∷ []) ∷ []) ≡ at 8
unfolding clash_after walk hold
that_table_named_after_it = rw yes-none refl

-- [[a]], [[a]]
array_of_two : clash (array (a 1 ∷ []) ∷ array (a 2 ∷ []) ∷ []) ≡ None
unfolding clash_after walk hold
array_of_two = refl

-- [[a]], [a]
table_at_an_array : clash (array (a 1 ∷ []) ∷ table (a 2 ∷ []) ∷ []) ≡ at 2
unfolding clash_after walk hold
table_at_an_array = refl

-- [a], [[a]]
array_at_a_table : clash (table (a 1 ∷ []) ∷ array (a 2 ∷ []) ∷ []) ≡ at 2
unfolding clash_after walk hold
array_at_a_table = refl

-- [a.b], [[a]]
array_at_a_table_that_a_header_went_through : clash (table (a 1 ∷ b 2 ∷ []) ∷ array (a 3 ∷ []) ∷ []) ≡ at 3
unfolding clash_after walk hold
array_at_a_table_that_a_header_went_through = refl

-- [[a]], [a.b], [[a]], [a.b]
same_table_in_two_elements : clash (array (a 1 ∷ []) ∷ table (a 2 ∷ b 3 ∷ []) ∷ array (a 4 ∷ []) ∷ table
    (a 5 ∷ b 6 ∷ []) ∷ []) ≡ None
unfolding clash_after walk hold
same_table_in_two_elements = refl

-- [[a]], [a.b], [a.b]
table_twice_in_an_element : clash (array (a 1 ∷ []) ∷ table (a 2 ∷ b 3 ∷ []) ∷ table (a 4 ∷ b 5 ∷ []) ∷ []) ≡ at 5
unfolding clash_after walk hold
table_twice_in_an_element = refl

-- [[a]], b = true, [[a]], b = true, b = true
key_twice_in_an_element : clash (array (a 1 ∷ []) ∷ key (b 2 ∷ []) ∷ array (a 3 ∷ []) ∷ key (b 4 ∷ []) ∷ key (b 5 ∷ [])
    ∷ []) ≡ at 5
unfolding clash_after walk hold
key_twice_in_an_element = rw yes-none refl

-- ---- with arrays and inline tables

abbrev member : List Key → Assignment
member path = assignment_with path yes

abbrev inline : List Assignment → Written
inline members = written_with (span_of 0 0) (InlineTable members)

abbrev elements : List Written → Written
elements values = written_with (span_of 0 0) (Array values)

-- a = {}, a.b = true
key_into_an_inline_table : clash (assigned (a 1 ∷ []) (inline []) ∷ key (a 2 ∷ b 3 ∷ []) ∷ []) ≡ at 2
unfolding clash_after walk hold
key_into_an_inline_table = rw (clash_in-table (span_of 0 0) []) refl

-- a = {}, [a.b]
header_into_an_inline_table : clash (assigned (a 1 ∷ []) (inline []) ∷ table (a 2 ∷ b 3 ∷ []) ∷ []) ≡ at 2
unfolding clash_after walk hold
header_into_an_inline_table = rw (clash_in-table (span_of 0 0) []) refl

-- a = [], [[a]]
array_at_a_value : clash (assigned (a 1 ∷ []) (elements []) ∷ array (a 2 ∷ []) ∷ []) ≡ at 2
unfolding clash_after walk hold
array_at_a_value = rw (clash_in-array (span_of 0 0) []) refl

-- a = { b = true, b = true }
key_twice_in_an_inline_table : clash (assigned (a 1 ∷ []) (inline (member (b 2 ∷ []) ∷ member (b 3 ∷ []) ∷ [])) ∷ []) ≡
    at 3
unfolding clash_after walk hold
key_twice_in_an_inline_table = rw (clash_in-table (span_of 0 0) (member (b 2 ∷ []) ∷ member (b 3 ∷ []) ∷ []), yes-none)
    refl

-- a = { a = true }
same_name_in_an_inline_table : clash (assigned (a 1 ∷ []) (inline (member (a 2 ∷ []) ∷ [])) ∷ []) ≡ None
unfolding clash_after walk hold
same_name_in_an_inline_table = rw (clash_in-table (span_of 0 0) (member (a 2 ∷ []) ∷ []), yes-none) refl

-- a = [{ b = true }, { b = true }]
key_in_two_inline_tables : clash (assigned (a 1 ∷ []) (elements
    (inline (member (b 2 ∷ []) ∷ []) ∷ inline (member (b 3 ∷ []) ∷ []) ∷ [])) ∷ []) ≡ None
unfolding clash_after walk hold
key_in_two_inline_tables =
    rw (
      clash_in-array (span_of 0 0) (inline (member (b 2 ∷ []) ∷ []) ∷ inline (member (b 3 ∷ []) ∷ []) ∷ []),
      clash_in-table (span_of 0 0) (member (b 2 ∷ []) ∷ []),
      clash_in-table (span_of 0 0) (member (b 3 ∷ []) ∷ []),
      yes-none,
    ) refl

-- a = [{ b.c = true, b = true }]
key_at_a_table_in_an_array : clash (assigned (a 1 ∷ []) (elements
    (inline (member (b 2 ∷ c 3 ∷ []) ∷ member (b 4 ∷ []) ∷ []) ∷ [])) ∷ []) ≡ at 4
unfolding clash_after walk hold
key_at_a_table_in_an_array =
    rw (
      clash_in-array (span_of 0 0) (inline (member (b 2 ∷ c 3 ∷ []) ∷ member (b 4 ∷ []) ∷ []) ∷ []),
      clash_in-table (span_of 0 0) (member (b 2 ∷ c 3 ∷ []) ∷ member (b 4 ∷ []) ∷ []),
      yes-none,
    ) refl

-- a = true, a = { b = true, b = true }: the segments of the key are checked before its value
own_segments_first : clash (key (a 1 ∷ []) ∷ assigned (a 2 ∷ []) (inline (member (b 3 ∷ []) ∷ member (b 4 ∷ []) ∷ [])) ∷
    []) ≡ at 2
unfolding clash_after walk hold
own_segments_first = rw yes-none refl
