-- A value that is read is in the grammar.
use Rattle.std.proofs.Common.{◌≡◌, ℕ, zero, suc, ◌+◌, ◌-◌, ◌≤◌, true, false, ◌==◌, List, [], ◌∷◌, ◌++◌, length, drop}
use Rattle.std.proofs.Common.{Option, Some, None, option_map, ap, refl, sym, subst}
use Rattle.std.proofs.Common.{subst₂, ◌∙◌, inl, inr, arith, le_trans}
use Rattle.std.proofs.Common.{append_assoc, append-nil, length-append}
use Rattle.std.proofs.lemmas.Option.{none-some, same_Some}
use Rattle.std.proofs.lemmas.Bool.{cases_Bool, true≢false, false≢true}
use Rattle.std.proofs.lemmas.Bool.Decides.{nat_tests}
use Rattle.deny_base.specs.declared.span.Spanned.{Spanned}
use Rattle.deny_toml_grammar.specs.declared.parts.Key.{Key}
use Rattle.deny_toml_grammar.specs.declared.parts.Scalar.{Scalar}
use Rattle.deny_toml_grammar.specs.declared.expression.Written.{Written}
use Rattle.deny_toml_grammar.specs.declared.expression.WrittenContent.TheVariants as written
use Rattle.deny_toml_grammar.specs.declared.expression.Assignment.{Assignment}
use Rattle.deny_toml_grammar.specs.Expression.{span_of, written_with, assignment_with}
use Rattle.deny_toml_grammar.specs.Lexical.{Read, first, is_comment_byte, skip_spaces}
use Rattle.deny_toml_grammar.specs.private.Lexical.{skip_blank}
use Rattle.deny_toml_grammar.specs.private.Reading.{read_map}
use Rattle.deny_toml_grammar.specs.Strings.{quoted}
use Rattle.deny_toml_grammar.specs.private.Strings.{starts_string}
use Rattle.deny_toml_grammar.specs.private.Unquoted.{unquoted}
use Rattle.deny_toml_grammar.specs.Expression.{depth_limit}
use Rattle.deny_toml_grammar.specs.private.Keys.{key}
use Rattle.deny_toml_grammar.specs.private.Values.{quoted_value, whole, scalar, after_element, elements, assigned}
use Rattle.deny_toml_grammar.specs.private.Values.{assignment, members, inline_table, value}
use Rattle.deny_toml_grammar.specs.GrammarStrings.{AreSpaces, IsBlank}
use Rattle.deny_toml_grammar.specs.Grammar.{IsKey, IsValue, IsElements, IsMembers, IsAssignment}
use Rattle.deny_toml_grammar.specs.Grammar as grammar
use Rattle.deny_toml_grammar.proofs.Blanks.{Skipped, done, unclosed, skip_from_found}
use Rattle.deny_toml_grammar.proofs.StringsSound.{read_of, read_same, SpacesPrefix, spaces_prefix, spaces_found}
use Rattle.deny_toml_grammar.proofs.StringsSound.{BytePrefix, byte_prefix, byte_found}
use Rattle.deny_toml_grammar.proofs.QuotedLaws.{Prefix, prefix, WholeText, record_of, quoted-sound}
use Rattle.deny_toml_grammar.proofs.KeysGrammar.{KeyPrefix, key_prefix, key_after-sound}
use Rattle.deny_toml_grammar.proofs.UnquotedGrammar.{IsToken, scalar_of, unquoted-sound}
use Rattle.deny_toml_grammar.proofs.ValuesComplete.{begins, value_first, its_span_is}
use Rattle.deny_toml_grammar.proofs.ValuesLaws as laws

-- a string that is read as a value
text_found : (depth total : ℕ) (text rest : List ℕ) (w : Written) (o : Read (Spanned Scalar))
    → starts_string text ≡ true → length text ≤ total → quoted total text ≡ o
    → read_map quoted_value o ≡ read_of w rest → Prefix (IsValue depth (total - length text)) rest text w
text_found depth total text rest w None starts within is e = absurd (none-some (w, rest) e)
text_found depth total text rest w (Some (s, r)) starts within is e =
    read_same (λ x t. Prefix (IsValue depth (total - length text)) t text x) (quoted_value s) w r rest e
    (text_prefix depth (total - length text) r text s (quoted-sound total text r s starts within is))
  where
    text_prefix : (depth at : ℕ) (r text : List ℕ) (s : Spanned Scalar) → Prefix (WholeText at) r text s
        → Prefix (IsValue depth at) r text (quoted_value s)
    text_prefix depth at r text s (prefix cs _ is) = prefix cs (quoted_value s)
        (grammar.text depth at cs s.value s.span is)

token_prefix : (depth total : ℕ) (text rest : List ℕ) (v : Scalar) → length text ≤ total → Prefix IsToken rest text v
    → Prefix (IsValue depth (total - length text)) rest text
    (written_with (record_of (total - length text) (total - length rest)) (written.Scalar v))
token_prefix depth total text rest v within (prefix cs _ is) =
    let at = total - length (cs ++ rest) in
    let offset : at + length (cs ++ rest) ≡ total = omega arith in
    subst (λ s. Prefix (IsValue depth at) rest (cs ++ rest) (written_with s (written.Scalar v)))
    (sym (its_span_is at total cs rest offset))
    (prefix cs (written_with (span_of at (length cs)) (written.Scalar v))
    (grammar.token depth at cs v (scalar_of cs v is)))

token_found : (depth total : ℕ) (text rest : List ℕ) (w : Written) (o : Read Scalar) → length text ≤ total
    → unquoted text ≡ o
    → option_map (whole written.Scalar total text) o ≡ read_of w rest
    → Prefix (IsValue depth (total - length text)) rest text w
token_found depth total text rest w None within is e = absurd (none-some (w, rest) e)
token_found depth total text rest w (Some (v, r)) within is e =
    read_same (λ x t. Prefix (IsValue depth (total - length text)) t text x)
    (written_with (record_of (total - length text) (total - length r)) (written.Scalar v)) w r rest e
    (token_prefix depth total text r v within (unquoted-sound text r v is))

scalar-sound : (depth total : ℕ) (text rest : List ℕ) (w : Written) → length text ≤ total
    → scalar total text ≡ read_of w rest → Prefix (IsValue depth (total - length text)) rest text w
unfolding scalar
scalar-sound depth total text rest w within e =
    elim (cases_Bool (starts_string text)) [
      | inl starts ↦ text_found depth total text rest w (quoted total text) starts within refl (rw starts at e)
      | inr other ↦ token_found depth total text rest w (unquoted text) within refl (rw other at e)
    ]

-- blanks and the text after them, which does not begin with a control character
data BlankPrefix (start : List ℕ) : List ℕ → Type 0 where
  blank_prefix : (blank : List ℕ) → IsBlank true blank → BlankPrefix start (blank ++ start)

blank_found : (text : List ℕ) → is_comment_byte (first (skip_blank text)) ≡ true → BlankPrefix (skip_blank text) text
blank_found text inked = of_skipped (skip_blank text) text inked (skip_from_found true text)
  where
    of_skipped : (start text : List ℕ) → is_comment_byte (first start) ≡ true → Skipped true start text
        → BlankPrefix start text
    of_skipped start text inked (done blank is) = blank_prefix blank is
    of_skipped start text inked (unclosed blank body allowed is all stop) = absurd (true≢false (sym inked ∙ stop))

-- the text after an element: a comma, or the closing bracket
data AfterPrefix : List ℕ → List ℕ → Type 0 where
  comma : (blank rest : List ℕ) → IsBlank true blank → AfterPrefix (blank ++ (44 ∷ rest)) rest
  closing : (blank rest : List ℕ) → IsBlank true blank → AfterPrefix (blank ++ (93 ∷ rest)) (93 ∷ rest)

after_comma : (start text : List ℕ) → (first start == 44) ≡ true → BlankPrefix start text
    → AfterPrefix text (drop 1 start)
after_comma [] text e is = absurd (false≢true e)
after_comma (c ∷ rest) text e (blank_prefix blank is) =
    let c_is : 44 ≡ c = grind (arith, nat_tests) in
    subst (λ x. AfterPrefix (blank ++ (x ∷ rest)) rest) c_is (comma blank rest is)

after_closing : (start text : List ℕ) → (first start == 93) ≡ true → BlankPrefix start text → AfterPrefix text start
after_closing [] text e is = absurd (false≢true e)
after_closing (c ∷ rest) text e (blank_prefix blank is) =
    let c_is : 93 ≡ c = grind (arith, nat_tests) in
    subst (λ x. AfterPrefix (blank ++ (x ∷ rest)) (x ∷ rest)) c_is (closing blank rest is)

after_element-sound : (text next : List ℕ) → after_element text ≡ Some next → AfterPrefix text next
unfolding after_element
after_element-sound text next e =
    let start = skip_blank text in
    elim (cases_Bool (first start == 44)) [
      | inl is_comma ↦ subst (AfterPrefix text) (same_Some (drop 1 start) next (rw is_comma at e))
          (after_comma start text is_comma (blank_found text (grind (arith, nat_tests))))
      | inr other ↦ elim (cases_Bool (first start == 93)) [
        | inl is_closing ↦ subst (AfterPrefix text) (same_Some start next (rw (other, is_closing) at e))
            (after_closing start text is_closing (blank_found text (grind (arith, nat_tests))))
        | inr none ↦ absurd (none-some next (rw (other, none) at e))
      ]
    ]

-- values of a smaller depth that are read are in the grammar
abbrev ValueSound : ℕ → ℕ → Type 0
ValueSound depth total = (text rest : List ℕ) (w : Written) → length text ≤ total
    → value depth total text ≡ read_of w rest → Prefix (IsValue depth (total - length text)) rest text w

-- the rest of an array at the start of a text, after the elements found before
data ElementsPrefix (depth at : ℕ) (found : List Written) (rest : List ℕ) : List ℕ → List Written → Type 0 where
  elements_prefix : (cs : List ℕ) (vs : List Written) → IsElements depth at cs vs
      → ElementsPrefix depth at found rest (cs ++ rest) (found ++ vs)

abbrev ElementsRest : ℕ → ℕ → ℕ → List ℕ → Type 0
ElementsRest n depth total rest = (found : List Written) (text : List ℕ) (all : List Written) → length text ≤ total
    → elements (value depth total) n found text ≡ read_of all rest
    → ElementsPrefix depth (total - length text) found rest text all

closed_prefix : (depth at : ℕ) (found : List Written) (start text : List ℕ) → (first start == 93) ≡ true
    → BlankPrefix start text
    → ElementsPrefix depth at found (drop 1 start) text found
closed_prefix depth at found [] text e is = absurd (false≢true e)
closed_prefix depth at found (c ∷ rest) text e (blank_prefix blank is) =
    let c_is : 93 ≡ c = grind (arith, nat_tests) in
    subst₂ (ElementsPrefix depth at found rest)
    (append_assoc blank (93 ∷ []) rest ∙ ap (λ (x : ℕ). blank ++ (x ∷ rest)) c_is) (append-nil found)
    (elements_prefix (blank ++ 93 ∷ []) [] (grammar.closed depth at blank is))

-- the last element, where no comma follows
last_element_prefix : (n depth total : ℕ) (found : List Written) (blank cs more tail rest : List ℕ) (v : Written)
    (all : List Written)
    → length (blank ++ (cs ++ (more ++ (93 ∷ tail)))) ≤ total
    → IsBlank true blank → IsValue depth (total - length (cs ++ (more ++ (93 ∷ tail)))) cs v → IsBlank true more
    → elements (value depth total) n (found ++ v ∷ []) (93 ∷ tail) ≡ read_of all rest
    → ElementsPrefix depth (total - length (blank ++ (cs ++ (more ++ (93 ∷ tail))))) found rest
    (blank ++ (cs ++ (more ++ (93 ∷ tail)))) all
last_element_prefix zero depth total found blank cs more tail rest v all within is_blank is is_more e =
    absurd (none-some (all, rest) (sym (laws.elements_zero (value depth total) (found ++ v ∷ []) (93 ∷ tail)) ∙ e))
last_element_prefix (suc n) depth total found blank cs more tail rest v all within is_blank is is_more e =
    let text = blank ++ (cs ++ (more ++ (93 ∷ tail))) in
    let at = total - length text in
    let lens = length-append blank (cs ++ (more ++ (93 ∷ tail))) in
    let at_is : total - length (cs ++ (more ++ (93 ∷ tail))) ≡ at + length blank = omega arith in
    let here : ElementsPrefix depth at found tail text (found ++ v ∷ []) =
    subst (λ t. ElementsPrefix depth at found tail t (found ++ v ∷ []))
    (rw (
      append_assoc blank (cs ++ (more ++ 93 ∷ [])) tail,
      append_assoc cs (more ++ 93 ∷ []) tail,
      append_assoc more
          (93 ∷ []) tail,
    ))
    (elements_prefix (blank ++ (cs ++ (more ++ 93 ∷ []))) (v ∷ [])
    (grammar.last_element depth at blank cs more v is_blank (subst (λ a. IsValue depth a cs v) at_is is)
    is_more)) in
    read_same (λ x r. ElementsPrefix depth at found r text x) (found ++ v ∷ []) all tail rest
    (sym (laws.elements_closing (value depth total) n (found ++ v ∷ []) tail) ∙ e) here

more_elements_prefix : (depth total : ℕ) (found : List Written) (blank cs more text rest : List ℕ) (v : Written)
    (all : List Written)
    → length (blank ++ (cs ++ (more ++ (44 ∷ text)))) ≤ total
    → IsBlank true blank → IsValue depth (total - length (cs ++ (more ++ (44 ∷ text)))) cs v → IsBlank true more
    → ElementsPrefix depth (total - length text) (found ++ v ∷ []) rest text all
    → ElementsPrefix depth (total - length (blank ++ (cs ++ (more ++ (44 ∷ text))))) found rest
    (blank ++ (cs ++ (more ++ (44 ∷ text)))) all
more_elements_prefix depth total found blank cs more text rest v all within is_blank is is_more
    (elements_prefix cs' vs is') =
    let text_ = cs' ++ rest in
    let whole = blank ++ (cs ++ (more ++ (44 ∷ text_))) in
    let at = total - length whole in
    let lens : length whole ≡ length blank + (length cs + (length more + (1 + length text_))) =
    simp length-append (omega arith) in
    let inner : length (cs ++ (more ++ (44 ∷ text_))) ≡ length cs + (length more + (1 + length text_)) =
    simp length-append (omega arith) in
    let at_is : total - length (cs ++ (more ++ (44 ∷ text_))) ≡ at + length blank = omega arith in
    let at_more : total - length text_ ≡ at + length blank + length cs + length more + 1 = omega arith in
    subst (λ t. ElementsPrefix depth at found rest t ((found ++ v ∷ []) ++ vs))
    (rw (
      append_assoc blank (cs ++ (more ++ 44 ∷ cs')) rest,
      append_assoc cs (more ++ 44 ∷ cs') rest,
      append_assoc more
          (44 ∷ cs') rest,
    ))
    (subst (ElementsPrefix depth at found rest ((blank ++ (cs ++ (more ++ 44 ∷ cs'))) ++ rest))
    (sym (append_assoc found (v ∷ []) vs))
    (elements_prefix (blank ++ (cs ++ (more ++ 44 ∷ cs'))) (v ∷ vs)
    (grammar.more_elements depth at blank cs more cs' v vs is_blank (subst (λ a. IsValue depth a cs v) at_is is) is_more
    (subst (λ a. IsElements depth a cs' vs) at_more is'))))

after_prefix : (n depth total : ℕ) (found : List Written) (blank cs after next rest : List ℕ) (v : Written)
    (all : List Written)
    → length (blank ++ (cs ++ after)) ≤ total → IsBlank true blank → IsValue depth (total - length (cs ++ after)) cs v
    → ElementsRest n depth total rest
    → AfterPrefix after next → elements (value depth total) n (found ++ v ∷ []) next ≡ read_of all rest
    → ElementsPrefix depth (total - length (blank ++ (cs ++ after))) found rest (blank ++ (cs ++ after)) all
after_prefix n depth total found blank cs after next rest v all within is_blank is ih (comma more text is_more) e =
    let lens : length (blank ++ (cs ++ (more ++ (44 ∷ text)))) ≡ length blank +
    (length cs + (length more + (1 + length text))) = simp length-append (omega arith) in
    more_elements_prefix depth total found blank cs more text rest v all within is_blank is is_more
    (ih (found ++ v ∷ []) text all (omega arith) e)
after_prefix n depth total found blank cs after next rest v all within is_blank is ih (closing more tail is_more) e =
    last_element_prefix n depth total found blank cs more tail rest v all within is_blank is is_more e

-- the element that was read, with the blanks before it
element_prefix : (n depth total : ℕ) (found : List Written) (text start after next rest : List ℕ) (v : Written)
    (all : List Written)
    → length text ≤ total → BlankPrefix start text → Prefix (IsValue depth (total - length start)) after start v
    → ElementsRest n depth total rest
    → AfterPrefix after next → elements (value depth total) n (found ++ v ∷ []) next ≡ read_of all rest
    → ElementsPrefix depth (total - length text) found rest text all
element_prefix n depth total found text start after next rest v all within (blank_prefix blank is_blank)
    (prefix cs _ is) ih follows e =
    after_prefix n depth total found blank cs after next rest v all within is_blank is ih follows e

value_inked : (depth at : ℕ) (start after : List ℕ) (v : Written) → Prefix (IsValue depth at) after start v
    → is_comment_byte (first start) ≡ true
value_inked depth at start after v (prefix cs _ is) = inked (first (cs ++ after)) (value_first depth at cs after v is)
  where
    inked : (c : ℕ) → begins c ≡ true → is_comment_byte c ≡ true
    inked c e = grind (arith, nat_tests)

next_by : (n depth total : ℕ) (found : List Written) (text after rest : List ℕ) (v : Written) (all : List Written)
    (o : Option (List ℕ)) → ValueSound depth total
    → ElementsRest n depth total rest → length text ≤ total → length (skip_blank text) ≤ total
    → (first (skip_blank text) == 93) ≡ false → value depth total (skip_blank text) ≡ Some (v, after)
    → after_element after ≡ o → elements (value depth total) (suc n) found text ≡ read_of all rest
    → ElementsPrefix depth (total - length text) found rest text all
next_by n depth total found text after rest v all None sound ih within inner other read follows e =
    absurd (none-some (all, rest) (sym (laws.elements_bad_end (value depth total) (suc n) found text v after other read
    follows) ∙ e))
next_by n depth total found text after rest v all (Some next) sound ih within inner other read follows e =
    let start = skip_blank text in
    let less : suc n - 1 ≡ n = omega arith in
    let value_ = sound start after v inner read in
    let goes_on : elements (value depth total) n (found ++ v ∷ []) next ≡ read_of all rest =
    rw less at (sym (laws.elements_more (value depth total) (suc n) found text v after next (omega arith) other read
    follows) ∙ e) in
    element_prefix n depth total found text start after next rest v all within
    (blank_found text (value_inked depth (total - length start) start after v value_)) value_ ih
    (after_element-sound after next follows) goes_on

element_by : (n depth total : ℕ) (found : List Written) (text rest : List ℕ) (all : List Written) (o : Read Written)
    → ValueSound depth total
    → ElementsRest n depth total rest → length text ≤ total → length (skip_blank text) ≤ total
    → (first (skip_blank text) == 93) ≡ false → value depth total (skip_blank text) ≡ o
    → elements (value depth total) (suc n) found text ≡ read_of all rest
    → ElementsPrefix depth (total - length text) found rest text all
element_by n depth total found text rest all None sound ih within inner other read e =
    absurd (none-some (all, rest) (sym (laws.elements_bad (value depth total) (suc n) found text other read) ∙ e))
element_by n depth total found text rest all (Some (v, after)) sound ih within inner other read e =
    next_by n depth total found text after rest v all (after_element after) sound ih within inner other read refl e

skip_blank_within : (text : List ℕ) → length (skip_blank text) ≤ length text
skip_blank_within text = of_skipped (skip_blank text) text (skip_from_found true text)
  where
    of_skipped : (start text : List ℕ) → Skipped true start text → length start ≤ length text
    of_skipped start text (done blank is) = omega (arith, length-append blank start)
    of_skipped start text (unclosed blank body allowed is all stop) =
        omega (arith, length-append blank (35 ∷ (body ++ start)), length-append body start)

elements-sound : (n depth total : ℕ) (rest : List ℕ) → ValueSound depth total → ElementsRest n depth total rest
elements-sound zero depth total rest sound found text all within e =
    absurd (none-some (all, rest) (sym (laws.elements_zero (value depth total) found text) ∙ e))
elements-sound (suc n) depth total rest sound found text all within e =
    let start = skip_blank text in
    elim (cases_Bool (first start == 93)) [
      | inl closes ↦
          read_same (λ x r. ElementsPrefix depth (total - length text) found r text x) found all (drop 1 start) rest
          (sym (laws.elements_end (value depth total) (suc n) found text (omega arith) closes) ∙ e)
          (closed_prefix depth (total - length text) found start text closes
          (blank_found text (grind (arith, nat_tests))))
      | inr other ↦
          element_by n depth total found text rest all (value depth total start) sound
          (elements-sound n depth total rest sound) within
          (le_trans (skip_blank_within text) within) other refl e
    ]

spaces_within : (text : List ℕ) → length (skip_spaces text) ≤ length text
spaces_within text = of_prefix (skip_spaces text) text (spaces_found text)
  where
    of_prefix : (start text : List ℕ) → SpacesPrefix start text → length start ≤ length text
    of_prefix start text (spaces_prefix spaces all) = omega (arith, length-append spaces start)

-- a key, `=` and a value
assigned_prefix : (depth total : ℕ) (cs spaces more start rest : List ℕ) (path : List Key) (v : Written)
    → length (cs ++ (spaces ++ (61 ∷ (more ++ start)))) ≤ total
    → IsKey depth_limit (total - length (cs ++ (spaces ++ (61 ∷ (more ++ start))))) cs path → AreSpaces spaces
    → AreSpaces more
    → Prefix (IsValue depth (total - length start)) rest start v
    → Prefix (IsAssignment depth (total - length (cs ++ (spaces ++ (61 ∷ (more ++ start)))))) rest
    (cs ++ (spaces ++ (61 ∷ (more ++ start)))) (assignment_with path v)
assigned_prefix depth total cs spaces more start rest path v within is_key are_spaces are_more (prefix inner _ is) =
    let start_ = inner ++ rest in
    let whole = cs ++ (spaces ++ (61 ∷ (more ++ start_))) in
    let at = total - length whole in
    let lens : length whole ≡ length cs + (length spaces + (1 + (length more + length start_))) =
    simp length-append (omega arith) in
    let at_is : total - length start_ ≡ at + length cs + length spaces + 1 + length more = omega arith in
    subst (λ t. Prefix (IsAssignment depth at) rest t (assignment_with path v))
    (rw (
      append_assoc cs (spaces ++ 61 ∷ (more ++ inner)) rest,
      append_assoc spaces (61 ∷ (more ++ inner)) rest,
      append_assoc more inner rest,
    ))
    (prefix (cs ++ (spaces ++ 61 ∷ (more ++ inner))) (assignment_with path v)
    (grammar.assigned depth at cs spaces more inner path v is_key are_spaces are_more
    (subst (λ a. IsValue depth a inner v) at_is is)))

equals_prefix : (depth total : ℕ) (cs spaces tail start rest : List ℕ) (path : List Key) (v : Written)
    → length (cs ++ (spaces ++ (61 ∷ tail))) ≤ total
    → IsKey depth_limit (total - length (cs ++ (spaces ++ (61 ∷ tail)))) cs path → AreSpaces spaces
    → SpacesPrefix start tail
    → Prefix (IsValue depth (total - length start)) rest start v
    → Prefix (IsAssignment depth (total - length (cs ++ (spaces ++ (61 ∷ tail))))) rest (cs ++ (spaces ++ (61 ∷ tail)))
    (assignment_with path v)
equals_prefix depth total cs spaces tail start rest path v within is_key are_spaces (spaces_prefix more are_more)
    is_value =
    assigned_prefix depth total cs spaces more start rest path v within is_key are_spaces are_more is_value

value_by : (depth total : ℕ) (cs spaces tail rest : List ℕ) (path : List Key) (a : Assignment) (o : Read Written)
    → ValueSound depth total
    → length (cs ++ (spaces ++ (61 ∷ tail))) ≤ total
    → IsKey depth_limit (total - length (cs ++ (spaces ++ (61 ∷ tail)))) cs path → AreSpaces spaces
    → value depth total (skip_spaces tail) ≡ o
    → read_map (assignment_with path) o ≡ read_of a rest
    → Prefix (IsAssignment depth (total - length (cs ++ (spaces ++ (61 ∷ tail))))) rest (cs ++ (spaces ++ (61 ∷ tail)))
    a
value_by depth total cs spaces tail rest path a None sound within is_key are_spaces is e =
    absurd (none-some (a, rest) e)
value_by depth total cs spaces tail rest path a (Some (v, r)) sound within is_key are_spaces is e =
    let whole = cs ++ (spaces ++ (61 ∷ tail)) in
    let inner : length (skip_spaces tail) ≤ total = shorter_tail total cs spaces tail within (spaces_within tail) in
    read_same (λ x t. Prefix (IsAssignment depth (total - length whole)) t whole x) (assignment_with path v) a r rest e
    (equals_prefix depth total cs spaces tail (skip_spaces tail) r path v within is_key are_spaces (spaces_found tail)
    (sound (skip_spaces tail) r v inner is))
  where
    shorter_tail : (total : ℕ) (cs spaces tail : List ℕ) → length (cs ++ (spaces ++ (61 ∷ tail))) ≤ total
        → length (skip_spaces tail) ≤ length tail → length (skip_spaces tail) ≤ total
    shorter_tail total cs spaces tail within shorter = omega
        (arith, length-append cs (spaces ++ (61 ∷ tail)), length-append spaces (61 ∷ tail))

equals_by : (depth total : ℕ) (cs spaces krest rest : List ℕ) (path : List Key) (a : Assignment)
    → ValueSound depth total → length (cs ++ (spaces ++ krest)) ≤ total
    → IsKey depth_limit (total - length (cs ++ (spaces ++ krest))) cs path → AreSpaces spaces
    → assigned (value depth total) path krest ≡ read_of a rest
    → Prefix (IsAssignment depth (total - length (cs ++ (spaces ++ krest)))) rest (cs ++ (spaces ++ krest)) a
unfolding assigned
equals_by depth total cs spaces [] rest path a sound within is_key are_spaces e = absurd (none-some (a, rest) e)
equals_by depth total cs spaces (c ∷ tail) rest path a sound within is_key are_spaces e =
    elim (cases_Bool (c == 61)) [
      | inl equals ↦
          let c_is : c ≡ 61 = grind (arith, nat_tests) in
          let read : read_map (assignment_with path) (value depth total (skip_spaces tail)) ≡ read_of a rest =
          rw equals at e in
          subst (λ x. Prefix (IsAssignment depth (total - length (cs ++ (spaces ++ (x ∷ tail))))) rest
          (cs ++ (spaces ++ (x ∷ tail))) a) (sym c_is)
          (value_by depth total cs spaces tail rest path a (value depth total (skip_spaces tail)) sound
          (subst (λ x. length (cs ++ (spaces ++ (x ∷ tail))) ≤ total) c_is within)
          (subst (λ x. IsKey depth_limit (total - length (cs ++ (spaces ++ (x ∷ tail)))) cs path) c_is is_key)
          are_spaces refl read)
      | inr other ↦ absurd (none-some (a, rest) (rw other at e))
    ]

key_then : (depth total : ℕ) (text krest rest : List ℕ) (path : List Key) (a : Assignment) → ValueSound depth total
    → length text ≤ total
    → KeyPrefix depth_limit (total - length text) [] krest text path
    → assigned (value depth total) path krest ≡ read_of a rest
    → Prefix (IsAssignment depth (total - length text)) rest text a
key_then depth total text krest rest path a sound within (key_prefix cs spaces path' is_key are_spaces) e =
    equals_by depth total cs spaces krest rest path' a sound within is_key are_spaces e

assignment_by : (depth total : ℕ) (text rest : List ℕ) (a : Assignment) (o : Read (List Key)) → ValueSound depth total
    → length text ≤ total → key total text ≡ o
    → assignment (value depth total) total text ≡ read_of a rest
    → Prefix (IsAssignment depth (total - length text)) rest text a
assignment_by depth total text rest a None sound within is e =
    absurd (none-some (a, rest) (sym (laws.assignment_no_key (value depth total) total text is) ∙ e))
assignment_by depth total text rest a (Some (path, krest)) sound within is e =
    key_then depth total text krest rest path a sound within
    (key_after-sound depth_limit total krest [] text path within is)
    (sym (laws.assignment_is (value depth total) total text krest path is) ∙ e)

assignment_of : (depth total : ℕ) (text rest : List ℕ) (a : Assignment) → ValueSound depth total → length text ≤ total
    → assignment (value depth total) total text ≡ read_of a rest
    → Prefix (IsAssignment depth (total - length text)) rest text a
assignment_of depth total text rest a sound within e = assignment_by depth total text rest a (key total text) sound
    within refl e

-- the rest of an inline table at the start of a text, after the keys found before
data MembersPrefix (depth at : ℕ) (found : List Assignment) (rest : List ℕ) : List ℕ → List Assignment → Type 0 where
  members_prefix : (cs : List ℕ) (ms : List Assignment) → IsMembers depth at cs ms
      → MembersPrefix depth at found rest (cs ++ rest) (found ++ ms)

abbrev MembersRest : ℕ → ℕ → ℕ → List ℕ → Type 0
MembersRest n depth total rest = (found : List Assignment) (text : List ℕ) (all : List Assignment) → length text ≤ total
    → members (value depth total) n total found text ≡ read_of all rest
    → MembersPrefix depth (total - length text) found rest text all

last_member_prefix : (depth at : ℕ) (found : List Assignment) (cs after inner : List ℕ) (a : Assignment)
    → (first inner == 125) ≡ true → IsAssignment depth at cs a
    → SpacesPrefix inner after → MembersPrefix depth at found (drop 1 inner) (cs ++ after) (found ++ a ∷ [])
last_member_prefix depth at found cs after [] a e is spaced = absurd (false≢true e)
last_member_prefix depth at found cs after (c ∷ rest) a e is (spaces_prefix spaces are_spaces) =
    let c_is : 125 ≡ c = grind (arith, nat_tests) in
    subst (λ x. MembersPrefix depth at found rest (cs ++ (spaces ++ (x ∷ rest))) (found ++ a ∷ [])) c_is
    (subst (λ t. MembersPrefix depth at found rest t (found ++ a ∷ []))
    (rw (append_assoc cs (spaces ++ 125 ∷ []) rest, append_assoc spaces (125 ∷ []) rest))
    (members_prefix (cs ++ (spaces ++ 125 ∷ [])) (a ∷ []) (grammar.last_member depth at cs spaces a is are_spaces)))

more_members_prefix : (depth total : ℕ) (found : List Assignment) (cs spaces more text rest : List ℕ) (a : Assignment)
    (all : List Assignment)
    → length (cs ++ (spaces ++ (44 ∷ (more ++ text)))) ≤ total
    → IsAssignment depth (total - length (cs ++ (spaces ++ (44 ∷ (more ++ text))))) cs a → AreSpaces spaces
    → AreSpaces more
    → MembersPrefix depth (total - length text) (found ++ a ∷ []) rest text all
    → MembersPrefix depth (total - length (cs ++ (spaces ++ (44 ∷ (more ++ text))))) found rest
    (cs ++ (spaces ++ (44 ∷ (more ++ text)))) all
more_members_prefix depth total found cs spaces more text rest a all within is are_spaces are_more
    (members_prefix cs' ms is') =
    let text_ = cs' ++ rest in
    let whole = cs ++ (spaces ++ (44 ∷ (more ++ text_))) in
    let at = total - length whole in
    let lens : length whole ≡ length cs + (length spaces + (1 + (length more + length text_))) =
    simp length-append (omega arith) in
    let at_is : total - length text_ ≡ at + length cs + length spaces + 1 + length more = omega arith in
    subst (λ t. MembersPrefix depth at found rest t ((found ++ a ∷ []) ++ ms))
    (rw (
      append_assoc cs (spaces ++ 44 ∷ (more ++ cs')) rest,
      append_assoc spaces (44 ∷ (more ++ cs')) rest,
      append_assoc more cs' rest,
    ))
    (subst (MembersPrefix depth at found rest ((cs ++ (spaces ++ 44 ∷ (more ++ cs'))) ++ rest))
    (sym (append_assoc found (a ∷ []) ms))
    (members_prefix (cs ++ (spaces ++ 44 ∷ (more ++ cs'))) (a ∷ ms)
    (grammar.more_members depth at cs spaces more cs' a ms is are_spaces are_more
    (subst (λ x. IsMembers depth x cs' ms) at_is is'))))

comma_prefix : (n depth total : ℕ) (found : List Assignment) (cs after text rest : List ℕ) (a : Assignment)
    (all : List Assignment) → length (cs ++ after) ≤ total
    → IsAssignment depth (total - length (cs ++ after)) cs a → MembersRest n depth total rest → BytePrefix 44 text after
    → members (value depth total) n total (found ++ a ∷ []) text ≡ read_of all rest
    → MembersPrefix depth (total - length (cs ++ after)) found rest (cs ++ after) all
comma_prefix n depth total found cs after text rest a all within is ih (byte_prefix spaces more are_spaces are_more) e =
    let lens : length (cs ++ (spaces ++ (44 ∷ (more ++ text)))) ≡ length cs +
    (length spaces + (1 + (length more + length text))) = simp length-append (omega arith) in
    more_members_prefix depth total found cs spaces more text rest a all within is are_spaces are_more
    (ih (found ++ a ∷ []) text all (omega arith) e)

member_then : (n depth total : ℕ) (found : List Assignment) (text after rest : List ℕ) (a : Assignment)
    (all : List Assignment) → length text ≤ total
    → Prefix (IsAssignment depth (total - length text)) after text a → MembersRest n depth total rest
    → assignment (value depth total) total text ≡ Some (a, after)
    → members (value depth total) (suc n) total found text ≡ read_of all rest
    → MembersPrefix depth (total - length text) found rest text all
member_then n depth total found text after rest a all within (prefix cs _ is) ih read e =
    let at = total - length (cs ++ after) in
    let inner = skip_spaces after in
    let less : suc n - 1 ≡ n = omega arith in
    elim (cases_Bool (first inner == 44)) [
      | inl is_comma ↦
          comma_prefix n depth total found cs after (skip_spaces (drop 1 inner)) rest a all within is ih
          (byte_found 44 after (omega arith) is_comma)
          (rw less at (sym (laws.members_more (value depth total) (suc n) total found (cs ++ after) a after
          (omega arith) read is_comma) ∙ e))
      | inr other ↦ elim (cases_Bool (first inner == 125)) [
        | inl closes ↦
            read_same (λ x r. MembersPrefix depth at found r (cs ++ after) x) (found ++ a ∷ []) all (drop 1 inner) rest
            (sym (laws.members_last (value depth total) (suc n) total found (cs ++ after) a after (omega arith) read
            other closes) ∙ e)
            (last_member_prefix depth at found cs after inner a closes is (spaces_found after))
        | inr none ↦ absurd (none-some (all, rest) (sym (laws.members_bad_end (value depth total) (suc n) total found
            (cs ++ after) a after read other none) ∙ e))
      ]
    ]

member_by : (n depth total : ℕ) (found : List Assignment) (text rest : List ℕ) (all : List Assignment)
    (o : Read Assignment) → ValueSound depth total → length text ≤ total
    → MembersRest n depth total rest → assignment (value depth total) total text ≡ o
    → members (value depth total) (suc n) total found text ≡ read_of all rest
    → MembersPrefix depth (total - length text) found rest text all
member_by n depth total found text rest all None sound within ih is e =
    absurd (none-some (all, rest) (sym (laws.members_bad (value depth total) (suc n) total found text is) ∙ e))
member_by n depth total found text rest all (Some (a, after)) sound within ih is e =
    member_then n depth total found text after rest a all within
    (assignment_of depth total text after a sound within is) ih is e

members-sound : (n depth total : ℕ) (rest : List ℕ) → ValueSound depth total → MembersRest n depth total rest
members-sound zero depth total rest sound found text all within e =
    absurd (none-some (all, rest) (sym (laws.members_zero (value depth total) total found text) ∙ e))
members-sound (suc n) depth total rest sound found text all within e =
    member_by n depth total found text rest all (assignment (value depth total) total text) sound within
    (members-sound n depth total rest sound) refl e

array_prefix : (depth total : ℕ) (tail rest : List ℕ) (vs : List Written) → length (91 ∷ tail) ≤ total
    → ElementsPrefix depth (total - length tail) [] rest tail vs
    → Prefix (IsValue (suc depth) (total - length (91 ∷ tail))) rest (91 ∷ tail)
    (written_with (record_of (total - length (91 ∷ tail)) (total - length rest)) (written.Array vs))
array_prefix depth total tail rest vs within (elements_prefix cs vs' is) =
    let at = total - length (91 ∷ (cs ++ rest)) in
    let inner : total - length (cs ++ rest) ≡ at + 1 = omega arith in
    let offset : at + length ((91 ∷ cs) ++ rest) ≡ total = omega arith in
    subst (λ s. Prefix (IsValue (suc depth) at) rest (91 ∷ (cs ++ rest)) (written_with s (written.Array vs')))
    (sym (its_span_is at total (91 ∷ cs) rest offset))
    (prefix (91 ∷ cs) (written_with (span_of at (length (91 ∷ cs))) (written.Array vs'))
    (grammar.array depth at cs vs' (subst (λ a. IsElements depth a cs vs') inner is)))

array_by : (depth total : ℕ) (tail rest : List ℕ) (w : Written) (o : Read (List Written)) → ValueSound depth total
    → length (91 ∷ tail) ≤ total
    → elements (value depth total) (length (91 ∷ tail)) [] tail ≡ o
    → option_map (whole written.Array total (91 ∷ tail)) o ≡ read_of w rest
    → Prefix (IsValue (suc depth) (total - length (91 ∷ tail))) rest (91 ∷ tail) w
array_by depth total tail rest w None sound within is e = absurd (none-some (w, rest) e)
array_by depth total tail rest w (Some (vs, r)) sound within is e =
    read_same (λ x t. Prefix (IsValue (suc depth) (total - length (91 ∷ tail))) t (91 ∷ tail) x)
    (written_with (record_of (total - length (91 ∷ tail)) (total - length r)) (written.Array vs)) w r rest e
    (array_prefix depth total tail r vs within (elements-sound (length (91 ∷ tail)) depth total r sound [] tail vs
    (omega arith) is))

-- an inline table
abbrev TablePrefix : ℕ → ℕ → List ℕ → List ℕ → List Assignment → Type 0
TablePrefix depth total rest tail ms =
    Prefix (IsValue (suc depth) (total - length (123 ∷ tail))) rest (123 ∷ tail)
    (written_with (record_of (total - length (123 ∷ tail)) (total - length rest)) (written.InlineTable ms))

empty_prefix : (depth total : ℕ) (tail inner : List ℕ) → length (123 ∷ tail) ≤ total → (first inner == 125) ≡ true
    → SpacesPrefix inner tail → TablePrefix depth total (drop 1 inner) tail []
empty_prefix depth total tail [] within e spaced = absurd (false≢true e)
empty_prefix depth total tail (c ∷ rest) within e (spaces_prefix spaces are_spaces) =
    let c_is : c ≡ 125 = grind (arith, nat_tests) in
    subst (λ x. TablePrefix depth total rest (spaces ++ (x ∷ rest)) []) (sym c_is)
    (closed (subst (λ x. length (123 ∷ (spaces ++ (x ∷ rest))) ≤ total) c_is within))
  where
    closed : length (123 ∷ (spaces ++ (125 ∷ rest))) ≤ total → TablePrefix depth total rest (spaces ++ (125 ∷ rest)) []
    closed within =
        let joined : (spaces ++ 125 ∷ []) ++ rest ≡ spaces ++ (125 ∷ rest) = append_assoc spaces (125 ∷ []) rest in
        let at = total - length (123 ∷ (spaces ++ (125 ∷ rest))) in
        let offset : at + length ((123 ∷ (spaces ++ 125 ∷ [])) ++ rest) ≡ total = rw joined (omega arith) in
        let span = its_span_is at total (123 ∷ (spaces ++ 125 ∷ [])) rest offset in
        let span' : record_of at (total - length rest) ≡ span_of at (length (123 ∷ (spaces ++ 125 ∷ []))) =
        rw joined at span in
        let here : Prefix (IsValue (suc depth) at) rest (123 ∷ (spaces ++ (125 ∷ rest)))
        (written_with (span_of at (length (123 ∷ (spaces ++ 125 ∷ [])))) (written.InlineTable [])) =
        subst (λ t. Prefix (IsValue (suc depth) at) rest (123 ∷ t)
        (written_with (span_of at (length (123 ∷ (spaces ++ 125 ∷ [])))) (written.InlineTable []))) joined
        (prefix (123 ∷ (spaces ++ 125 ∷ [])) _ (grammar.empty_table depth at spaces are_spaces)) in
        subst (λ s. Prefix (IsValue (suc depth) at) rest (123 ∷ (spaces ++ (125 ∷ rest)))
        (written_with s (written.InlineTable []))) (sym span') here

table_prefix : (depth total : ℕ) (spaces inner rest : List ℕ) (ms : List Assignment)
    → length (123 ∷ (spaces ++ inner)) ≤ total → AreSpaces spaces
    → MembersPrefix depth (total - length inner) [] rest inner ms → TablePrefix depth total rest (spaces ++ inner) ms
table_prefix depth total spaces inner rest ms within are_spaces (members_prefix cs ms' is) =
    let joined : (spaces ++ cs) ++ rest ≡ spaces ++ (cs ++ rest) = append_assoc spaces cs rest in
    let at = total - length (123 ∷ (spaces ++ (cs ++ rest))) in
    let lens : length (spaces ++ (cs ++ rest)) ≡ length spaces + length (cs ++ rest) =
    length-append spaces (cs ++ rest) in
    let at_is : total - length (cs ++ rest) ≡ at + 1 + length spaces = omega arith in
    let offset : at + length ((123 ∷ (spaces ++ cs)) ++ rest) ≡ total = rw joined (omega arith) in
    let span' : record_of at (total - length rest) ≡ span_of at (length (123 ∷ (spaces ++ cs))) =
    rw joined at (its_span_is at total (123 ∷ (spaces ++ cs)) rest offset) in
    let here : Prefix (IsValue (suc depth) at) rest (123 ∷ (spaces ++ (cs ++ rest)))
    (written_with (span_of at (length (123 ∷ (spaces ++ cs)))) (written.InlineTable ms')) =
    subst (λ t. Prefix (IsValue (suc depth) at) rest (123 ∷ t)
    (written_with (span_of at (length (123 ∷ (spaces ++ cs)))) (written.InlineTable ms'))) joined
    (prefix (123 ∷ (spaces ++ cs)) _ (grammar.inline_table depth at spaces cs ms' are_spaces
    (subst (λ a. IsMembers depth a cs ms') at_is is))) in
    subst (λ s. Prefix (IsValue (suc depth) at) rest (123 ∷ (spaces ++ (cs ++ rest)))
    (written_with s (written.InlineTable ms'))) (sym span') here

members_after : (depth total : ℕ) (tail inner rest : List ℕ) (ms : List Assignment) → length (123 ∷ tail) ≤ total
    → SpacesPrefix inner tail
    → (length inner ≤ total → MembersPrefix depth (total - length inner) [] rest inner ms)
    → TablePrefix depth total rest tail ms
members_after depth total tail inner rest ms within (spaces_prefix spaces are_spaces) is =
    table_prefix depth total spaces inner rest ms within are_spaces (is (omega (arith, length-append spaces inner)))

inline_table-sound : (depth total : ℕ) (tail rest : List ℕ) (ms : List Assignment) → ValueSound depth total
    → length (123 ∷ tail) ≤ total
    → inline_table (value depth total) total tail ≡ read_of ms rest → TablePrefix depth total rest tail ms
inline_table-sound depth total tail rest ms sound within e =
    elim (cases_Bool (first (skip_spaces tail) == 125)) [
      | inl closes ↦
          read_same (λ x r. TablePrefix depth total r tail x) [] ms (drop 1 (skip_spaces tail)) rest
          (sym (laws.inline_table_empty (value depth total) total tail closes) ∙ e)
          (empty_prefix depth total tail (skip_spaces tail) within closes (spaces_found tail))
      | inr other ↦
          members_after depth total tail (skip_spaces tail) rest ms within (spaces_found tail)
          (λ room. members-sound (suc (length tail)) depth total rest sound [] (skip_spaces tail) ms room
          (sym (laws.inline_table_is (value depth total) total tail other) ∙ e))
    ]

table_by : (depth total : ℕ) (tail rest : List ℕ) (w : Written) (o : Read (List Assignment)) → ValueSound depth total
    → length (123 ∷ tail) ≤ total
    → inline_table (value depth total) total tail ≡ o → option_map (whole written.InlineTable total (123 ∷ tail)) o ≡
    read_of w rest
    → Prefix (IsValue (suc depth) (total - length (123 ∷ tail))) rest (123 ∷ tail) w
table_by depth total tail rest w None sound within is e = absurd (none-some (w, rest) e)
table_by depth total tail rest w (Some (ms, r)) sound within is e =
    read_same (λ x t. Prefix (IsValue (suc depth) (total - length (123 ∷ tail))) t (123 ∷ tail) x)
    (written_with (record_of (total - length (123 ∷ tail)) (total - length r)) (written.InlineTable ms)) w r rest e
    (inline_table-sound depth total tail r ms sound within is)

bracket_by : (depth total c : ℕ) (tail rest : List ℕ) (w : Written) → ValueSound depth total → length (c ∷ tail) ≤ total
    → value (suc depth) total (c ∷ tail) ≡ read_of w rest
    → Prefix (IsValue (suc depth) (total - length (c ∷ tail))) rest (c ∷ tail) w
bracket_by depth total c tail rest w sound within e =
    let less : suc depth - 1 ≡ depth = omega arith in
    elim (cases_Bool (c == 91)) [
      | inl opens ↦
          let c_is : c ≡ 91 = grind (arith, nat_tests) in
          let within' : length (91 ∷ tail) ≤ total = within in
          let e' : value (suc depth) total (91 ∷ tail) ≡ read_of w rest =
          subst (λ x. value (suc depth) total (x ∷ tail) ≡ read_of w rest) c_is e in
          subst (λ x. Prefix (IsValue (suc depth) (total - length (x ∷ tail))) rest (x ∷ tail) w) (sym c_is)
          (array_by depth total tail rest w (elements (value depth total) (length (91 ∷ tail)) [] tail) sound within'
          refl
          (sym (rw less at (laws.value_array (suc depth) total (91 ∷ tail) (omega arith) refl)) ∙ e'))
      | inr other ↦ elim (cases_Bool (c == 123)) [
        | inl opens ↦
            let c_is : c ≡ 123 = grind (arith, nat_tests) in
            let within' : length (123 ∷ tail) ≤ total = within in
            let e' : value (suc depth) total (123 ∷ tail) ≡ read_of w rest =
            subst (λ x. value (suc depth) total (x ∷ tail) ≡ read_of w rest) c_is e in
            subst (λ x. Prefix (IsValue (suc depth) (total - length (x ∷ tail))) rest (x ∷ tail) w) (sym c_is)
            (table_by depth total tail rest w (inline_table (value depth total) total tail) sound within' refl
            (sym (rw less at (laws.value_table (suc depth) total (123 ∷ tail) (omega arith) refl refl)) ∙ e'))
        | inr none ↦ scalar-sound (suc depth) total (c ∷ tail) rest w within
            (sym (laws.value_scalar (suc depth) total (c ∷ tail) other none) ∙ e)
      ]
    ]

-- a value that is read is in the grammar
value-sound : (depth total : ℕ) → ValueSound depth total
value-sound zero total text rest w within e = scalar-sound 0 total text rest w within
    (sym (laws.value_zero total text) ∙ e)
value-sound (suc depth) total [] rest w within e =
    scalar-sound (suc depth) total [] rest w within (sym (laws.value_scalar (suc depth) total [] refl refl) ∙ e)
value-sound (suc depth) total (c ∷ tail) rest w within e = bracket_by depth total c tail rest w
    (value-sound depth total) within e

-- an assignment that is read is in the grammar
pub assignment-sound : (depth total : ℕ) (text rest : List ℕ) (a : Assignment) → length text ≤ total
    → assignment (value depth total) total text ≡ read_of a rest
    → Prefix (IsAssignment depth (total - length text)) rest text a
assignment-sound depth total text rest a within e = assignment_of depth total text rest a (value-sound depth total)
    within e
