-- The first clash has the span of a key.
use Rattle.std.proofs.Common.{◌≡◌, ℕ, List, [], ◌∷◌, map, Option, Some, None, Result, Ok, Err, sym, subst, ◌∙◌, inl}
use Rattle.std.proofs.Common.{inr}
use Rattle.std.proofs.lemmas.Bool.{cases_Bool}
use Rattle.std.proofs.lemmas.List.Elements.{All-head, All-tail}
use Rattle.std.specs.Prelude.{All, IfErr, IfSome, if◌then◌else◌}
use Rattle.std.specs.List.{AllByRecursion}
use Rattle.std.specs.Option.{option_or}
use Rattle.deny_base.specs.declared.span.Span.{Span}
use Rattle.deny_toml_tree.specs.declared.clash.Role.{Role}
use Rattle.deny_toml_grammar.specs.declared.parts.Key.{Key}
use Rattle.deny_toml_grammar.specs.declared.expression.Written.{Written, fold_out-Written}
use Rattle.deny_toml_grammar.specs.declared.expression.WrittenContent.{WrittenContent}
use Rattle.deny_toml_grammar.specs.declared.expression.WrittenContent.{fold_out-WrittenContent, map-WrittenContent}
use Rattle.deny_toml_grammar.specs.declared.expression.Assignment.{Assignment, fold_out-Assignment}
use Rattle.deny_toml_grammar.specs.declared.expression.TomlExpression.{TomlExpression}
use Rattle.deny_toml_grammar.specs.declared.expression.TomlExpression.TheVariants as expression
use Rattle.deny_toml_grammar.specs.Expression.{written_content, assigned_value}
use Rattle.deny_toml_grammar.specs.Spans.{WrittenLayer, written_layer, AllOfWritten, AllOfLayer, AllOfElements}
use Rattle.deny_toml_grammar.specs.Spans.{AllOfMembers, AllOfAssignment, AllOfExpression, AllOf}
use Rattle.deny_toml_grammar.specs.Spans as spans
use Rattle.deny_toml_tree.specs.Clash.{Segment, at_slot, roles_of, may_duplicate, hold, follow, walk, walk_header}
use Rattle.deny_toml_tree.specs.Clash.{walk_key}
use Rattle.deny_toml_tree.specs.Clash.{is_empty, ClashLine, header_line, key_line, clash_after, first_of}
use Rattle.deny_toml_tree.specs.Clash.{clash_of_content}
use Rattle.deny_toml_tree.specs.Clash.{line_of_assignment, clash_in, line_of, clash}
use Rattle.deny_toml_tree.proofs.ClashLaws.{fold_content, fold_member}

hold_lies : (P : Span → Type 0) (before : List Segment) (table : ℕ) (role : Role) (key : Key) → P key.span
    → IfErr (hold before table role key) P
unfolding hold
hold_lies P before table role key here =
    elim (cases_Bool (may_duplicate role (roles_of (at_slot table key.name before)))) [
      | inl may ↦ rw may tt
      | inr not_ ↦ rw not_ here
    ]

follow_lies : (P : Span → Type 0) (r : Result (List Segment × ℕ) Span)
    (following : List Segment → ℕ → Result (List Segment × ℕ) Span) → IfErr r P
    → ((now : List Segment) (entered : ℕ) → IfErr (following now entered) P) → IfErr (follow r Err following) P
follow_lies P (Ok p) following here more = more p.0 p.1
follow_lies P (Err span) following here more = here

walk_lies : (P : Span → Type 0) (before : List Segment) (table : ℕ) (passing last : Role) (path : List Key)
    → All (λ key. P key.span) path
    → IfErr (walk before table passing last path) P
unfolding walk
walk_lies P before table passing last [] keys = tt
walk_lies P before table passing last (key ∷ path) keys =
    follow_lies P (hold before table (if is_empty path then last else passing) key)
    (λ now entered. walk now entered passing last path)
    (hold_lies P before table (if is_empty path then last else passing) key (All-head (λ k. P k.span) key path keys))
    (λ now entered. walk_lies P now entered passing last path (All-tail (λ k. P k.span) key path keys))

follow_found : (P : Span → Type 0) (r : Result (List Segment × ℕ) Span) (following : List Segment → ℕ → Option Span)
    → IfErr r P
    → ((now : List Segment) (entered : ℕ) → IfSome (following now entered) P) → IfSome (follow r Some following) P
follow_found P (Ok p) following here more = more p.0 p.1
follow_found P (Err span) following here more = here

or_lies : (P : Span → Type 0) (one other : Option Span) → IfSome one P → IfSome other P
    → IfSome (option_or one other) P
or_lies P None other here there = there
or_lies P (Some span) other here there = here

-- the keys of a line have the property, and so has the clash in its value
abbrev LineLies : (Span → Type 0) → ClashLine → Type 0
LineLies P (header_line h) = All (λ key. P key.span) h.path
LineLies P (key_line path inner) = All (λ key. P key.span) path × IfSome inner P

clash_after_lies : (P : Span → Type 0) (before : List Segment) (table : ℕ) (lines : List ClashLine)
    → AllByRecursion (LineLies P) lines → IfSome (clash_after before table lines) P
unfolding clash_after
clash_after_lies P before table [] all = tt
clash_after_lies P before table (header_line h ∷ lines) all =
    follow_found P (walk_header before h) (λ now entered. clash_after now entered lines)
    (walk_lies P before 0 _ _ h.path all.0)
    (λ now entered. clash_after_lies P now entered lines all.1)
clash_after_lies P before table (key_line path inner ∷ lines) all =
    follow_found P (walk_key before table path) (λ now _. option_or inner (clash_after now table lines))
    (walk_lies P before table _ _ path all.0.0)
    (λ now entered. or_lies P inner (clash_after now table lines) all.0.1
    (clash_after_lies P now table lines all.1))

-- the first clash in one layer of a written value
abbrev clash_of_layer : WrittenLayer → Option Span
clash_of_layer layer = clash_of_content (map-WrittenContent WrittenContent Assignment Written (Option Span) ClashLine
    (Option Span) fold_content fold_member clash_in layer)

clash_in-layer : (w : Written) → clash_in w ≡ clash_of_layer (written_layer w)
clash_in-layer w =
    fold_out-Written (Option Span) ClashLine (Option Span) clash_of_content line_of_assignment (λ x. x.content) w
    ∙ fold_out-WrittenContent (Option Span) ClashLine (Option Span) clash_of_content line_of_assignment (λ x. x.content)
    (written_content w)

module _ (P : Span → Type 0) (V : Written → Type 0) where
  mutual
    clash_in_lies : (w : Written) → AllOfWritten (λ key. P key.span) V w → IfSome (clash_in w) P
    clash_in_lies w (spans.written _ here below) = subst (λ o. IfSome o P) (sym (clash_in-layer w))
        (layer_lies (written_layer w) below)

    layer_lies : (layer : WrittenLayer) → AllOfLayer (λ key. P key.span) V layer → IfSome (clash_of_layer layer) P
    layer_lies layer (spans.no_parts s) = tt
    layer_lies layer (spans.array ws all) = elements_lie ws all
    layer_lies layer (spans.inline_table ms all) = clash_after_lies P [] 0 (map fold_member ms)
        (members_lie ms all)

    elements_lie : (ws : List Written) → AllOfElements (λ key. P key.span) V ws
        → IfSome (first_of (map clash_in ws)) P
    elements_lie ws spans.no_elements = tt
    elements_lie ws (spans.elements w more here all) = or_lies P (clash_in w) (first_of (map clash_in more))
        (clash_in_lies w here) (elements_lie more all)

    members_lie : (ms : List Assignment) → AllOfMembers (λ key. P key.span) V ms
        → AllByRecursion (LineLies P) (map fold_member ms)
    members_lie ms spans.no_members = tt
    members_lie ms (spans.members a more here all) = (member_lies a here, members_lie more all)

    member_lies : (a : Assignment) → AllOfAssignment (λ key. P key.span) V a → LineLies P (fold_member a)
    member_lies a (spans.assignment _ keys value) =
        subst (LineLies P) (sym (fold_out-Assignment (Option Span) ClashLine (Option Span) clash_of_content
        line_of_assignment (λ w. w.content) a)) (keys, clash_in_lies (assigned_value a) value)

  expression_lies : (e : TomlExpression) → AllOfExpression (λ key. P key.span) V e → LineLies P (line_of e)
  expression_lies (expression.Header h) keys = keys
  expression_lies (expression.Assignment a) (spans.assignment _ keys value) =
      (keys, clash_in_lies (assigned_value a) value)

  expressions_lie : (es : List TomlExpression) → AllOf (λ key. P key.span) V es
      → AllByRecursion (LineLies P) (map line_of es)
  expressions_lie [] all = tt
  expressions_lie (e ∷ es) all = (
    expression_lies e (All-head (AllOfExpression (λ key. P key.span) V) e es all),
    expressions_lie es (All-tail (AllOfExpression (λ key. P key.span) V) e es all),
  )

  -- a property of the spans of all keys holds of the span of the first clash
  pub clash_lies : (es : List TomlExpression) → AllOf (λ key. P key.span) V es → IfSome (clash es) P
  clash_lies es all = clash_after_lies P [] 0 (map line_of es) (expressions_lie es all)
