-- A property of each part of a key and of each value, where it occurs in a text, holds at any depth of the expressions
-- of the text.
use Rattle.std.proofs.Common.{◌≡◌, ℕ, ◌+◌, List, [], ◌∷◌, ◌++◌, length, sym, ap, subst, ◌∙◌}
use Rattle.std.proofs.lemmas.List.Elements.{All-nil, All-cons, All-append}
use Rattle.std.specs.Prelude.{All}
use Rattle.deny_toml_grammar.specs.declared.parts.Key.{Key}
use Rattle.deny_toml_grammar.specs.declared.expression.Written.{Written}
use Rattle.deny_toml_grammar.specs.declared.expression.WrittenContent.TheViews.{roll-WrittenContent, out-WrittenContent}
use Rattle.deny_toml_grammar.specs.declared.expression.WrittenContent.TheViews.{out-roll-WrittenContent}
use Rattle.deny_toml_grammar.specs.declared.expression.WrittenContent.TheViews.{out-roll-Written, out-roll-Assignment}
use Rattle.deny_toml_grammar.specs.declared.expression.WrittenContent.{WrittenContent}
use Rattle.deny_toml_grammar.specs.declared.expression.WrittenContent.TheOpen.{WrittenContent-F}
use Rattle.deny_toml_grammar.specs.declared.expression.WrittenContent.TheVariants as content
use Rattle.deny_toml_grammar.specs.declared.expression.Assignment.{Assignment}
use Rattle.deny_toml_grammar.specs.declared.expression.TomlExpression.{TomlExpression}
use Rattle.deny_toml_grammar.specs.Expression.{span_of}
use Rattle.deny_base.specs.declared.span.Span.{Span}
use Rattle.deny_toml_grammar.specs.Expression.{written_with, written_span, assignment_with}
use Rattle.deny_toml_grammar.specs.Expression.{depth_limit}
use Rattle.deny_toml_grammar.specs.Grammar.{IsPart, IsKey, IsValue, IsElements, IsMembers, IsAssignment, IsExpression}
use Rattle.deny_toml_grammar.specs.Grammar.{IsLine, AreLines}
use Rattle.deny_toml_grammar.specs.Grammar as grammar
use Rattle.deny_toml_grammar.specs.Spans.{WrittenLayer, written_layer, AllOfWritten, AllOfLayer, AllOfElements}
use Rattle.deny_toml_grammar.specs.Spans.{AllOfMembers, AllOfAssignment, AllOfExpression, AllOf}
use Rattle.deny_toml_grammar.specs.Spans as spans
use Rattle.deny_toml_grammar.proofs.OccurringBytes.{HasAt, holds_prefix, holds_rest}

-- the span of a written value, and the parts of an assignment
pub written_span-is : (span : Span) (what : WrittenContent) → written_span (written_with span what) ≡ span
written_span-is span what = ap (λ r. r.span) (out-roll-Written (record { span = span; content = what }))

pub written_layer-is : (span : Span) (what : WrittenContent) (layer : WrittenLayer) → roll-WrittenContent layer ≡ what
    → written_layer (written_with span what) ≡ layer
written_layer-is span what layer same =
    ap (λ r. out-WrittenContent r.content) (out-roll-Written (record { span = span; content = what }))
    ∙ ap out-WrittenContent (sym same) ∙ out-roll-WrittenContent layer

all_assigned : (K : Key → Type 0) (V : Written → Type 0) (path : List Key) (w : Written) → All K path
    → AllOfWritten K V w → AllOfAssignment K V (assignment_with path w)
all_assigned K V path w keys value =
    let parts = out-roll-Assignment (record { path = path; value = w }) in
    spans.assignment (assignment_with path w) (subst (All K) (sym (ap (λ r. r.path) parts)) keys)
    (subst (AllOfWritten K V) (sym (ap (λ r. r.value) parts)) value)

all_written : (K : Key → Type 0) (V : Written → Type 0) (span : Span) (what : WrittenContent) (layer : WrittenLayer)
    → roll-WrittenContent layer ≡ what
    → V (written_with span what) → AllOfLayer K V layer → AllOfWritten K V (written_with span what)
all_written K V span what layer same here below =
    spans.written (written_with span what) here (subst (AllOfLayer K V) (sym (written_layer-is span what layer same))
    below)

-- The property holds of each part of a key that occurs in the text.
abbrev pub AtParts : List ℕ → (Key → Type 0) → Type 0
AtParts text K = (at : ℕ) (cs : List ℕ) (part : Key) → HasAt text at cs → IsPart at cs part → K part

-- The property holds of each value that occurs in the text.
abbrev pub AtValues : List ℕ → (Written → Type 0) → Type 0
AtValues text V = (depth at : ℕ) (cs : List ℕ) (w : Written) → HasAt text at cs → IsValue depth at cs w → V w

key_parts : (text : List ℕ) (K : Key → Type 0) → AtParts text K → (left at : ℕ) (cs : List ℕ) (path : List Key)
    → HasAt text at cs → IsKey left at cs path → All K path
key_parts text K parts left at cs path here (grammar.last _ _ _ part is) =
    All-cons K part [] (parts at cs part here is) (All-nil K)
key_parts text K parts left at cs path here (grammar.dotted left' _ cs' spaces more rest part path' is are_spaces
    are_more is_key) =
    let after = holds_rest text at cs' (spaces ++ 46 ∷ (more ++ rest)) here in
    let dot = holds_rest text (at + length cs') spaces (46 ∷ (more ++ rest)) after in
    let next = holds_rest text (at + length cs' + length spaces) (46 ∷ []) (more ++ rest) dot in
    let last = holds_rest text (at + length cs' + length spaces + 1) more rest next in
    All-cons K part path' (parts at cs' part (holds_prefix text at cs' (spaces ++ 46 ∷ (more ++ rest)) here) is)
    (key_parts text K parts left' (at + length cs' + length spaces + 1 + length more) rest path' last is_key)

mutual
  value_parts : (text : List ℕ) (K : Key → Type 0) (V : Written → Type 0) → AtParts text K → AtValues text V
      → (depth at : ℕ) (cs : List ℕ) (w : Written) → HasAt text at cs → IsValue depth at cs w → AllOfWritten K V w
  value_parts text K V parts values depth at cs w here (grammar.text _ _ _ v span is) =
      all_written K V span (content.Scalar v) (WrittenContent-F.Scalar v) (content.rolls-Scalar v)
      (values depth at cs w here (grammar.text depth at cs v span is)) (spans.no_parts v)
  value_parts text K V parts values depth at cs w here (grammar.token _ _ _ v is) =
      all_written K V (span_of at (length cs)) (content.Scalar v) (WrittenContent-F.Scalar v) (content.rolls-Scalar v)
      (values depth at cs w here (grammar.token depth at cs v is)) (spans.no_parts v)
  value_parts text K V parts values depth at cs w here (grammar.array depth' _ cs' ws is) =
      all_written K V (span_of at (length (91 ∷ cs'))) (content.Array ws) (WrittenContent-F.Array ws)
      (content.rolls-Array ws) (values depth at cs w here (grammar.array depth' at cs' ws is))
      (spans.array ws (elements_parts text K V parts values depth' (at + 1) cs' ws
      (holds_rest text at (91 ∷ []) cs' here) is))
  value_parts text K V parts values depth at cs w here (grammar.inline_table depth' _ spaces cs' ms are_spaces is) =
      let inside = holds_rest text at (123 ∷ []) (spaces ++ cs') here in
      all_written K V (span_of at (length (123 ∷ (spaces ++ cs')))) (content.InlineTable ms)
      (WrittenContent-F.InlineTable ms) (content.rolls-InlineTable ms)
      (values depth at cs w here (grammar.inline_table depth' at spaces cs' ms are_spaces is))
      (spans.inline_table ms (members_parts text K V parts values depth' (at + 1 + length spaces) cs' ms
      (holds_rest text (at + 1) spaces cs' inside) is))
  value_parts text K V parts values depth at cs w here (grammar.empty_table depth' _ spaces are_spaces) =
      all_written K V (span_of at (length (123 ∷ (spaces ++ 125 ∷ [])))) (content.InlineTable [])
      (WrittenContent-F.InlineTable []) (content.rolls-InlineTable [])
      (values depth at cs w here (grammar.empty_table depth' at spaces are_spaces))
      (spans.inline_table [] spans.no_members)

  elements_parts : (text : List ℕ) (K : Key → Type 0) (V : Written → Type 0) → AtParts text K → AtValues text V
      → (depth at : ℕ) (cs : List ℕ) (ws : List Written) → HasAt text at cs → IsElements depth at cs ws
      → AllOfElements K V ws
  elements_parts text K V parts values depth at cs ws here (grammar.closed _ _ blank is) = spans.no_elements
  elements_parts text K V parts values depth at cs ws here (grammar.last_element _ _ blank cs' more w is_blank is
      is_more) =
      let start = holds_rest text at blank (cs' ++ (more ++ 93 ∷ [])) here in
      spans.elements w [] (value_parts text K V parts values depth (at + length blank) cs' w
      (holds_prefix text (at + length blank) cs' (more ++ 93 ∷ []) start) is)
      spans.no_elements
  elements_parts text K V parts values depth at cs ws here (grammar.more_elements _ _ blank cs' after rest w ws'
      is_blank is is_after more) =
      let start = holds_rest text at blank (cs' ++ (after ++ 44 ∷ rest)) here in
      let end = holds_rest text (at + length blank) cs' (after ++ 44 ∷ rest) start in
      let comma = holds_rest text (at + length blank + length cs') after (44 ∷ rest) end in
      let next = holds_rest text (at + length blank + length cs' + length after) (44 ∷ []) rest comma in
      spans.elements w ws' (value_parts text K V parts values depth (at + length blank) cs' w
      (holds_prefix text (at + length blank) cs' (after ++ 44 ∷ rest) start) is)
      (elements_parts text K V parts values depth (at + length blank + length cs' + length after + 1) rest ws' next
      more)

  members_parts : (text : List ℕ) (K : Key → Type 0) (V : Written → Type 0) → AtParts text K → AtValues text V
      → (depth at : ℕ) (cs : List ℕ) (ms : List Assignment) → HasAt text at cs → IsMembers depth at cs ms
      → AllOfMembers K V ms
  members_parts text K V parts values depth at cs ms here (grammar.last_member _ _ cs' spaces a is are_spaces) =
      spans.members a [] (assignment_parts text K V parts values depth at cs' a
      (holds_prefix text at cs' (spaces ++ 125 ∷ []) here) is) spans.no_members
  members_parts text K V parts values depth at cs ms here (grammar.more_members _ _ cs' spaces after rest a ms' is
      are_spaces are_after more) =
      let end = holds_rest text at cs' (spaces ++ 44 ∷ (after ++ rest)) here in
      let comma = holds_rest text (at + length cs') spaces (44 ∷ (after ++ rest)) end in
      let next = holds_rest text (at + length cs' + length spaces) (44 ∷ []) (after ++ rest) comma in
      let start = holds_rest text (at + length cs' + length spaces + 1) after rest next in
      spans.members a ms' (assignment_parts text K V parts values depth at cs' a
      (holds_prefix text at cs' (spaces ++ 44 ∷ (after ++ rest)) here) is)
      (members_parts text K V parts values depth (at + length cs' + length spaces + 1 + length after) rest ms' start
      more)

  assignment_parts : (text : List ℕ) (K : Key → Type 0) (V : Written → Type 0) → AtParts text K → AtValues text V
      → (depth at : ℕ) (cs : List ℕ) (a : Assignment) → HasAt text at cs → IsAssignment depth at cs a
      → AllOfAssignment K V a
  assignment_parts text K V parts values depth at cs a here (grammar.assigned _ _ key_ spaces after cs' path w is_key
      are_spaces are_after is) =
      let end = holds_rest text at key_ (spaces ++ 61 ∷ (after ++ cs')) here in
      let equals = holds_rest text (at + length key_) spaces (61 ∷ (after ++ cs')) end in
      let next = holds_rest text (at + length key_ + length spaces) (61 ∷ []) (after ++ cs') equals in
      let start = holds_rest text (at + length key_ + length spaces + 1) after cs' next in
      all_assigned K V path w (key_parts text K parts depth_limit at key_ path
      (holds_prefix text at key_ (spaces ++ 61 ∷ (after ++ cs')) here) is_key)
      (value_parts text K V parts values depth (at + length key_ + length spaces + 1 + length after) cs' w start is)

expression_parts : (text : List ℕ) (K : Key → Type 0) (V : Written → Type 0) → AtParts text K → AtValues text V
    → (at : ℕ) (cs : List ℕ) (e : TomlExpression) → HasAt text at cs → IsExpression at cs e → AllOfExpression K V e
expression_parts text K V parts values at cs e here (grammar.table spaces cs' after path are_spaces is_key are_after) =
    let inside = holds_rest text at (91 ∷ []) (spaces ++ (cs' ++ (after ++ 93 ∷ []))) here in
    let start = holds_rest text (at + 1) spaces (cs' ++ (after ++ 93 ∷ [])) inside in
    key_parts text K parts depth_limit (at + 1 + length spaces) cs' path
    (holds_prefix text (at + 1 + length spaces) cs' (after ++ 93 ∷ []) start) is_key
expression_parts text K V parts values at cs e here (grammar.array_of_tables spaces cs' after path are_spaces is_key
    are_after) =
    let inside = holds_rest text at (91 ∷ (91 ∷ [])) (spaces ++ (cs' ++ (after ++ 93 ∷ (93 ∷ [])))) here in
    let start = holds_rest text (at + 2) spaces (cs' ++ (after ++ 93 ∷ (93 ∷ []))) inside in
    key_parts text K parts depth_limit (at + 2 + length spaces) cs' path
    (holds_prefix text (at + 2 + length spaces) cs' (after ++ 93 ∷ (93 ∷ [])) start) is_key
expression_parts text K V parts values at cs e here (grammar.assignment _ a is) =
    assignment_parts text K V parts values depth_limit at cs a here is

line_parts : (text : List ℕ) (K : Key → Type 0) (V : Written → Type 0) → AtParts text K → AtValues text V
    → (at : ℕ) (cs : List ℕ) (es : List TomlExpression) → HasAt text at cs → IsLine at cs es → AllOf K V es
line_parts text K V parts values at cs es here (grammar.blank spaces comment are_spaces is) =
    All-nil (AllOfExpression K V)
line_parts text K V parts values at cs es here (grammar.says spaces cs' after comment e are_spaces is are_after
    is_comment) =
    let start = holds_rest text at spaces (cs' ++ (after ++ comment)) here in
    All-cons (AllOfExpression K V) e []
    (expression_parts text K V parts values (at + length spaces) cs' e
    (holds_prefix text (at + length spaces) cs' (after ++ comment) start) is)
    (All-nil (AllOfExpression K V))

pub lines_parts : (text : List ℕ) (K : Key → Type 0) (V : Written → Type 0) → AtParts text K → AtValues text V
    → (at : ℕ) (cs : List ℕ) (es : List TomlExpression) → HasAt text at cs → AreLines at cs es → AllOf K V es
lines_parts text K V parts values at cs es here (grammar.last _ _ _ is) =
    line_parts text K V parts values at cs es here is
lines_parts text K V parts values at cs es here (grammar.more _ cs' end rest fs gs is is_end others) =
    let after = holds_rest text at cs' (end ++ rest) here in
    let next = holds_rest text (at + length cs') end rest after in
    All-append (AllOfExpression K V) fs gs (line_parts text K V parts values at cs' fs
    (holds_prefix text at cs' (end ++ rest) here) is)
    (lines_parts text K V parts values (at + length cs' + length end) rest gs next others)
