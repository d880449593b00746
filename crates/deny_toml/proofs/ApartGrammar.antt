-- The values of a text follow one another, so that at most one scalar of its tree begins at an offset.
use Rattle.std.proofs.Common.{◌≡◌, ℕ, ◌+◌, ◌<◌, ◌≤◌, cond, ◌==◌, nat_lt, List, [], ◌∷◌, ◌++◌, map, length, refl, sym}
use Rattle.std.proofs.Common.{ap, subst, ◌∙◌, inl, inr, arith, rules, length-append}
use Rattle.std.proofs.lemmas.Bool.{cases_Bool}
use Rattle.std.proofs.lemmas.Bool.Decides.{nat_tests}
use Rattle.deny_base.specs.declared.span.Span.{Span}
use Rattle.deny_toml_grammar.specs.declared.parts.Key.{Key}
use Rattle.deny_toml_grammar.specs.declared.parts.Scalar.{Scalar}
use Rattle.deny_toml_tree.specs.declared.value.Value.{Value}
use Rattle.deny_toml_grammar.specs.declared.expression.Written.{Written}
use Rattle.deny_toml_grammar.specs.declared.expression.WrittenContent.{WrittenContent, the_lemmas}
use Rattle.deny_toml_grammar.specs.declared.expression.WrittenContent.TheVariants as content
use Rattle.deny_toml_grammar.specs.declared.expression.Assignment.{Assignment}
use Rattle.deny_toml_grammar.specs.declared.expression.TomlExpression.{TomlExpression}
use Rattle.deny_toml_grammar.specs.Expression.{span_of}
use Rattle.deny_toml_tree.specs.Value.{value_with}
use Rattle.deny_toml_grammar.specs.Expression.{written_with, assignment_with, assigned_value}
use Rattle.deny_toml_grammar.specs.Expression.{depth_limit}
use Rattle.deny_toml_grammar.specs.GrammarStrings.{IsText}
use Rattle.deny_toml_grammar.specs.GrammarStrings as strings
use Rattle.deny_toml_grammar.specs.Grammar.{IsValue, IsElements, IsMembers, IsAssignment, IsExpression, IsLine}
use Rattle.deny_toml_grammar.specs.Grammar.{AreLines}
use Rattle.deny_toml_grammar.specs.Grammar as grammar
use Rattle.deny_toml_tree.specs.Tree.{written_value, written_in, written_member, table_of_members, tree}
use Rattle.deny_toml_tree.specs.Apart.{AreApart}
use Rattle.deny_toml.specs.Parser.{IsDocumentOf}
use Rattle.deny_toml_grammar.proofs.ValuesComplete.{some_bytes}
use Rattle.deny_toml_tree.proofs.TreeValues.{scalar_in, elements_in, members_in}
use Rattle.deny_toml_tree.proofs.ApartLaws.{times, apart_from_times, starts_of_scalar}
use Rattle.deny_toml_tree.proofs.ApartTree.{weight, values_weight, members_weight, array_weight, table_value_weight}
use Rattle.deny_toml_tree.proofs.ApartTree.{members_no_more, assigned_weight, document_weight, tree_no_more}

-- a written value, by its span and its content
value_made : (span : Span) (what : WrittenContent) → written_value (written_with span what) ≡ value_with span
    (written_in span what)
value_made span what = search (rules, the_lemmas)

assigned_made : (path : List Key) (w : Written) → assigned_value (assignment_with path w) ≡ w
assigned_made path w = search (rules, the_lemmas)

module _ (x : ℕ) where
  -- the offset is counted at most once, and only where it lies from `from` to before `to`
  record IsOnce (from to count : ℕ) : Type 0 where
    at_most : count ≤ 1
    before : x < from → count ≡ 0
    after : to ≤ x → count ≡ 0

  none : (from to : ℕ) → IsOnce from to 0
  none from to = record { at_most = omega arith; before = λ below. refl; after = λ above. refl }

  -- a wider range, or a smaller count
  wider : (from to start end count : ℕ) → start ≤ from → to ≤ end → IsOnce from to count → IsOnce start end count
  wider from to start end count low high once =
      record {
        at_most = once.at_most;
        before = λ below. once.before (omega arith);
        after =
            λ above. once.after (omega arith);
      }

  fewer : (from to count less : ℕ) → less ≤ count → IsOnce from to count → IsOnce from to less
  fewer from to count less le once =
      record {
        at_most = omega (arith, once.at_most);
        before = λ below. omega (arith, once.before below);
        after = λ above. omega (arith, once.after above);
      }

  -- two ranges, one after the other
  both : (from middle to one other : ℕ) → from ≤ middle → middle ≤ to → IsOnce from middle one → IsOnce middle to other
      → IsOnce from to (one + other)
  both from middle to one other low high here there =
      elim (cases_Bool (nat_lt x middle)) [
        | inl below ↦
            let before : x < middle = grind (arith, nat_tests) in
            let no : other ≡ 0 = there.before before in
            fewer from to one (one + other) (omega arith) (wider from middle from to one (omega arith) high here)
        | inr above ↦
            let after : middle ≤ x = grind (arith, nat_tests) in
            let no : one ≡ 0 = here.after after in
            fewer from to other (one + other) (omega arith) (wider middle to from to other low (omega arith) there)
      ]

  -- a scalar that begins in the range
  point : (from to start : ℕ) → from ≤ start → start < to → IsOnce from to (cond (start == x) 1 0 + 0)
  point from to start low high =
      elim (cases_Bool (start == x)) [
        | inl same ↦
            let is : start ≡ x = grind (arith, nat_tests) in
            rw same (record {
              at_most = omega arith;
              before = λ below. absurd (omega arith);
              after =
                  λ above. absurd (omega arith);
            })
        | inr other ↦ rw other (none from to)
      ]

  scalar_once : (from to : ℕ) (span : Span) (s : Scalar) → from ≤ span.start → span.start < to
      → IsOnce from to (weight x (written_value (written_with span (content.Scalar s))))
  scalar_once from to span s low high =
      let made = value_made span (content.Scalar s) ∙ ap (value_with span)
      (sym (scalar_in span (content.Scalar s) s refl)) in
      subst (IsOnce from to) (sym (ap (weight x) made ∙ ap (times x) (starts_of_scalar span s)))
      (point from to span.start low high)

  text_starts : (at : ℕ) (cs : List ℕ) (v : Scalar) (span : Span) → IsText at cs v span → (at ≤ span.start)
      × (span.start < at + length cs)
  text_starts at cs v span (strings.one_line _ _ _ (strings.quoted d inner _ is_d is)) =
      (omega arith, omega (arith, length-append inner (d ∷ [])))
  text_starts at cs v span (strings.multi_line _ _ _ (strings.framed d opening inner _ is_d is_opening is)) =
      let closing = d ∷ (d ∷ (d ∷ [])) in
      (omega arith, omega (arith, length-append opening (inner ++ closing), length-append inner closing))

  array_is : (span : Span) (ws : List Written) → weight x (written_value (written_with span (content.Array ws))) ≡
      values_weight x (map written_value ws)
  array_is span ws =
      ap (weight x) (value_made span (content.Array ws) ∙ ap (value_with span)
      (sym (elements_in span (content.Array ws) ws refl)))
      ∙ array_weight x span (map written_value ws)

  table_is : (span : Span) (ms : List Assignment) → weight x
      (written_value (written_with span (content.InlineTable ms))) ≤ members_weight x (map written_member ms)
  table_is span ms =
      let made =
      ap (weight x) (value_made span (content.InlineTable ms)
      ∙ ap (value_with span) (sym (members_in span (content.InlineTable ms) ms refl)))
      ∙ table_value_weight x span (table_of_members span (map written_member ms)) in
      omega (arith, made, members_no_more x span (map written_member ms))

  mutual
    value_once : (depth at : ℕ) (cs : List ℕ) (w : Written) → IsValue depth at cs w
        → IsOnce at (at + length cs) (weight x (written_value w))
    value_once depth at cs w (grammar.text _ _ _ v span is) =
        let (low, high) = text_starts at cs v span is in
        scalar_once at (at + length cs) span v low high
    value_once depth at cs w (grammar.token _ _ _ v is) =
        let some = some_bytes depth at cs w (grammar.token depth at cs v is) in
        scalar_once at (at + length cs) (span_of at (length cs)) v (omega arith) (omega arith)
    value_once depth at cs w (grammar.array depth' _ cs' ws is) =
        let span = span_of at (length (91 ∷ cs')) in
        subst (IsOnce at (at + length (91 ∷ cs'))) (sym (array_is span ws))
        (wider (at + 1) (at + 1 + length cs') at (at + length (91 ∷ cs')) (values_weight x (map written_value ws))
        (omega arith) (omega arith) (elements_once depth' (at + 1) cs' ws is))
    value_once depth at cs w (grammar.inline_table depth' _ spaces cs' ms are_spaces is) =
        let span = span_of at (length (123 ∷ (spaces ++ cs'))) in
        let count = members_weight x (map written_member ms) in
        fewer at (at + length cs) count (weight x (written_value w)) (table_is span ms)
        (wider (at + 1 + length spaces) (at + 1 + length spaces + length cs') at (at + length cs) count (omega arith)
        (omega (arith, length-append spaces cs'))
        (members_once depth' (at + 1 + length spaces) cs' ms is))
    value_once depth at cs w (grammar.empty_table depth' _ spaces are_spaces) =
        fewer at (at + length cs) 0 (weight x (written_value w))
        (table_is (span_of at (length (123 ∷ (spaces ++ 125 ∷ [])))) []) (none at (at + length cs))

    elements_once : (depth at : ℕ) (cs : List ℕ) (ws : List Written) → IsElements depth at cs ws
        → IsOnce at (at + length cs) (values_weight x (map written_value ws))
    elements_once depth at cs ws (grammar.closed _ _ blank is) = none at (at + length cs)
    elements_once depth at cs ws (grammar.last_element _ _ blank cs' more w is_blank is is_more) =
        let start = at + length blank in
        let len = length-append blank (cs' ++ (more ++ 93 ∷ [])) in
        let len' = length-append cs' (more ++ 93 ∷ []) in
        wider start (start + length cs') at (at + length cs) (weight x (written_value w) + 0) (omega arith)
        (omega arith)
        (both start (start + length cs') (start + length cs') (weight x (written_value w)) 0 (omega arith) (omega arith)
        (value_once depth start cs' w is) (none (start + length cs') (start + length cs')))
    elements_once depth at cs ws (grammar.more_elements _ _ blank cs' after rest w ws' is_blank is is_after more) =
        let start = at + length blank in
        let next = start + length cs' + length after + 1 in
        let count = weight x (written_value w) in
        let others = values_weight x (map written_value ws') in
        let len = length-append blank (cs' ++ (after ++ 44 ∷ rest)) in
        let len' = length-append cs' (after ++ 44 ∷ rest) in
        let len'' = length-append after (44 ∷ rest) in
        wider start (next + length rest) at (at + length cs) (count + others) (omega arith) (omega arith)
        (both start next (next + length rest) count others (omega arith) (omega arith)
        (wider start (start + length cs') start next count (omega arith) (omega arith)
        (value_once depth start cs' w is)) (elements_once depth next rest ws' more))

    members_once : (depth at : ℕ) (cs : List ℕ) (ms : List Assignment) → IsMembers depth at cs ms
        → IsOnce at (at + length cs) (members_weight x (map written_member ms))
    members_once depth at cs ms (grammar.last_member _ _ cs' spaces a is are_spaces) =
        let count = weight x (written_value (assigned_value a)) in
        let len = length-append cs' (spaces ++ 125 ∷ []) in
        wider at (at + length cs') at (at + length cs) (count + 0) (omega arith) (omega arith)
        (both at (at + length cs') (at + length cs') count 0 (omega arith) (omega arith)
        (assignment_once depth at cs' a is) (none (at + length cs') (at + length cs')))
    members_once depth at cs ms (grammar.more_members _ _ cs' spaces after rest a ms' is are_spaces are_after more) =
        let next = at + length cs' + length spaces + 1 + length after in
        let count = weight x (written_value (assigned_value a)) in
        let others = members_weight x (map written_member ms') in
        let len = length-append cs' (spaces ++ 44 ∷ (after ++ rest)) in
        let len' = length-append spaces (44 ∷ (after ++ rest)) in
        let len'' = length-append after rest in
        wider at (next + length rest) at (at + length cs) (count + others) (omega arith) (omega arith)
        (both at next (next + length rest) count others (omega arith) (omega arith)
        (wider at (at + length cs') at next count (omega arith) (omega arith) (assignment_once depth at cs' a is))
        (members_once depth next rest ms' more))

    assignment_once : (depth at : ℕ) (cs : List ℕ) (a : Assignment) → IsAssignment depth at cs a
        → IsOnce at (at + length cs) (weight x (written_value (assigned_value a)))
    assignment_once depth at cs a (grammar.assigned _ _ key_ spaces after cs' path w is_key are_spaces are_after is) =
        let start = at + length key_ + length spaces + 1 + length after in
        let len = length-append key_ (spaces ++ 61 ∷ (after ++ cs')) in
        let len' = length-append spaces (61 ∷ (after ++ cs')) in
        let len'' = length-append after cs' in
        subst (λ v. IsOnce at (at + length cs) (weight x (written_value v))) (sym (assigned_made path w))
        (wider start (start + length cs') at (at + length cs) (weight x (written_value w)) (omega arith) (omega arith)
        (value_once depth start cs' w is))

  expression_once : (at : ℕ) (cs : List ℕ) (e : TomlExpression) → IsExpression at cs e
      → IsOnce at (at + length cs) (assigned_weight x e)
  expression_once at cs e (grammar.table spaces cs' after path are_spaces is_key are_after) = none at (at + length cs)
  expression_once at cs e (grammar.array_of_tables spaces cs' after path are_spaces is_key are_after) =
      none at (at + length cs)
  expression_once at cs e (grammar.assignment _ a is) = assignment_once depth_limit at cs a is

  line_once : (at : ℕ) (cs : List ℕ) (es : List TomlExpression) → IsLine at cs es
      → IsOnce at (at + length cs) (document_weight x es)
  line_once at cs es (grammar.blank spaces comment are_spaces is) = none at (at + length cs)
  line_once at cs es (grammar.says spaces cs' after comment e are_spaces is are_after is_comment) =
      let start = at + length spaces in
      let len = length-append spaces (cs' ++ (after ++ comment)) in
      let len' = length-append cs' (after ++ comment) in
      wider start (start + length cs') at (at + length cs) (assigned_weight x e + 0) (omega arith) (omega arith)
      (both start (start + length cs') (start + length cs') (assigned_weight x e) 0 (omega arith) (omega arith)
      (expression_once start cs' e is) (none (start + length cs') (start + length cs')))

  document_weight-append : (es fs : List TomlExpression) → document_weight x (es ++ fs) ≡ document_weight x es +
      document_weight x fs
  document_weight-append [] fs = omega arith
  document_weight-append (e ∷ es) fs = omega (arith, document_weight-append es fs)

  lines_once : (at : ℕ) (cs : List ℕ) (es : List TomlExpression) → AreLines at cs es
      → IsOnce at (at + length cs) (document_weight x es)
  lines_once at cs es (grammar.last _ _ _ is) = line_once at cs es is
  lines_once at cs es (grammar.more _ cs' end rest fs gs is is_end others) =
      let next = at + length cs' + length end in
      let len = length-append cs' (end ++ rest) in
      let len' = length-append end rest in
      subst (IsOnce at (at + length cs)) (sym (document_weight-append fs gs))
      (wider at (next + length rest) at (at + length cs) (document_weight x fs + document_weight x gs) (omega arith)
      (omega arith)
      (both at next (next + length rest) (document_weight x fs) (document_weight x gs) (omega arith) (omega arith)
      (wider at (at + length cs') at next (document_weight x fs) (omega arith) (omega arith) (line_once at cs' fs is))
      (lines_once next rest gs others)))

pub tree_apart : (text : List ℕ) (es : List TomlExpression) (span : Span) (v : Value) → IsDocumentOf text es
    → v ≡ tree span es → AreApart v
tree_apart text es span v of exact =
    subst AreApart (sym exact)
    (apart_from_times _ (λ x. omega (arith, tree_no_more x span es, (lines_once x 0 text es of.written).at_most)))
