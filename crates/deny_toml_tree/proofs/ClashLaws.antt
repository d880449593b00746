-- The clash rule for one more segment, key or line.
use Rattle.std.proofs.Common.{◌≡◌, ℕ, ◌+◌, ◌<◌, ◌≤◌, ◌==◌, ◌&&◌, ◌||◌, Bool, true, false, List, [], ◌∷◌, ◌++◌, length}
use Rattle.std.proofs.Common.{drop, map, refl, sym, ap, ◌∙◌, Option, Some, None, Result, Ok, Err, arith, add-one}
use Rattle.std.proofs.Math.Bool.{and-true}
use Rattle.std.specs.Prelude.{if◌then◌else◌, not, cond, slice_index_or}
use Rattle.std.specs.List.{list_all, list_any}
use Rattle.std.specs.Option.{option_or, option_map_or}
use Rattle.std.specs.Str.{bytes_eq}
use Rattle.std.proofs.Math.ListN.{drop_of_length-le}
use Rattle.std.proofs.Math.Nat.{le_of_eq}
use Rattle.std.proofs.Math.Seq.{drop-cons}
use Rattle.std.proofs.lemmas.List.{reverse-append}
use Rattle.std.proofs.lemmas.List.Elements.{filter-append}
use Rattle.std.proofs.lemmas.List.Folds.{list_all-append, list_any-append}
use Rattle.deny_base.specs.declared.span.Span.{Span}
use Rattle.deny_toml_tree.specs.declared.clash.Role.{Role}
use Rattle.deny_toml_tree.specs.declared.clash.Role.TheVariants.{HeaderPasses, HeaderNames, ArrayNames, KeyPasses}
use Rattle.deny_toml_tree.specs.declared.clash.Role.TheVariants.{KeySets}
use Rattle.deny_toml_grammar.specs.declared.parts.Key.{Key}
use Rattle.deny_toml_grammar.specs.declared.expression.Header.{Header}
use Rattle.deny_toml_grammar.specs.declared.expression.TomlExpression.{TomlExpression}
use Rattle.deny_toml_grammar.specs.declared.expression.Written.{Written, fold-roll-Written}
use Rattle.deny_toml_grammar.specs.declared.expression.Assignment.{Assignment, fold-Assignment, fold_out-Assignment}
use Rattle.deny_toml_grammar.specs.declared.expression.WrittenContent.{WrittenContent, WrittenContent-F}
use Rattle.deny_toml_grammar.specs.declared.expression.WrittenContent.{fold-WrittenContent, fold-roll-WrittenContent}
use Rattle.deny_toml_grammar.specs.declared.expression.WrittenContent.{roll-WrittenContent, map-WrittenContent}
use Rattle.deny_toml_grammar.specs.declared.expression.WrittenContent.TheOpen as open_content
use Rattle.deny_toml_grammar.specs.declared.expression.WrittenContent.TheVariants as written
use Rattle.deny_toml_grammar.specs.declared.expression.WrittenContent.TheVariants.{rolls-Scalar, rolls-Array}
use Rattle.deny_toml_grammar.specs.declared.expression.WrittenContent.TheVariants.{rolls-InlineTable}
use Rattle.deny_toml_grammar.specs.declared.parts.Scalar.{Scalar}
use Rattle.deny_toml_grammar.specs.Expression.{written_with, assigned_path, assigned_value}
use Rattle.deny_toml_tree.specs.Clash.{Segment, at_slot, passes_header, passes, names_array, sets, may_duplicate}
use Rattle.deny_toml_tree.specs.Clash.{table_of}
use Rattle.deny_toml_tree.specs.Clash.{hold, follow, walk, walk_header, walk_key, ClashLine, header_line, is_empty}
use Rattle.deny_toml_tree.specs.Clash.{clash_after}
use Rattle.deny_toml_tree.specs.Clash.{first_of, clash_of_content, line_of_assignment, clash_in, member_line, line_of}

-- whether a segment may be at a slot with one more segment, from whether it might be there before
abbrev pub may_occur_more : Role → Role → Bool → Bool → Bool
may_occur_more HeaderPasses role might free = might && not (sets role)
may_occur_more HeaderNames role might free = might && passes_header role
may_occur_more ArrayNames role might free = if free then names_array role else might
may_occur_more KeyPasses role might free = might && passes role
may_occur_more KeySets role might free = false

not_or : (a b : Bool) → not (a || (b || false)) ≡ (not a && not b)
not_or true b = refl
not_or false true = refl
not_or false false = refl

pub may_duplicate-more : (q role : Role) (there : List Role) → may_duplicate q (there ++ role ∷ []) ≡ may_occur_more q
    role
    (may_duplicate q there) (may_duplicate KeySets there)
may_duplicate-more HeaderPasses role there = ap not (list_any-append sets there (role ∷ []))
    ∙ not_or (list_any sets there) (sets role)
may_duplicate-more HeaderNames role there = list_all-append passes_header there (role ∷ [])
    ∙ ap (λ b. list_all passes_header there && b) (and-true (passes_header role))
may_duplicate-more ArrayNames role [] = refl
may_duplicate-more ArrayNames role (first ∷ there) = refl
may_duplicate-more KeyPasses role there = list_all-append passes there (role ∷ [])
    ∙ ap (λ b. list_all passes there && b) (and-true (passes role))
may_duplicate-more KeySets role [] = refl
may_duplicate-more KeySets role (first ∷ there) = refl

-- the table at the slot of one more segment
pub table_of-first : (segment : Segment) → table_of (segment ∷ []) ≡ segment.number
table_of-first segment = by_test (names_array segment.role)
  where
    by_test : (b : Bool) → option_map_or (λ s. s.number) (option_or (cond b (Some segment) None) (Some segment)) 0 ≡
        segment.number
    by_test true = refl
    by_test false = refl

pub table_of-array : (there : List Segment) (segment : Segment) → names_array segment.role ≡ true
    → table_of (there ++ segment ∷ []) ≡ segment.number
table_of-array there segment is = rw (reverse-append there (segment ∷ []), is) refl

pub table_of-other : (first : Segment) (there : List Segment) (segment : Segment) → names_array segment.role ≡ false
    → table_of ((first ∷ there) ++ segment ∷ []) ≡ table_of (first ∷ there)
table_of-other first there segment is = rw (reverse-append (first ∷ there) (segment ∷ []), is) refl

-- the segments at a slot, with one more
pub at_slot-more : (table : ℕ) (name : List ℕ) (before : List Segment) (segment : Segment)
    → at_slot table name (before ++ segment ∷ []) ≡ at_slot table name before ++
    (if (segment.table == table) && bytes_eq segment.name name then segment ∷ [] else [])
at_slot-more table name before segment = filter-append (λ s. (s.table == table) && bytes_eq s.name name) before
    (segment ∷ [])

-- ---- the segments of a path, in order
--
-- the role of a part of a path
pub role_last : (passing last : Role) (path : List Key) (part : ℕ) → part + 1 ≡ length path
    → (if is_empty (drop (part + 1) path) then last else passing) ≡ last
role_last passing last path part ends = rw (drop_of_length-le path (le_of_eq (sym ends))) refl

pub role_passing : (passing last : Role) (path : List Key) (part : ℕ) → part + 1 < length path
    → (if is_empty (drop (part + 1) path) then last else passing) ≡ passing
role_passing passing last [] part more = absurd (omega (arith, more))
role_passing passing last (first ∷ path) part more = rw (drop-cons (first ∷ path) (part + 1) first more) refl

pub walk_on : (before now : List Segment) (table entered : ℕ) (passing last : Role) (path rest : List Key) (part : Key)
    → path ≡ part ∷ rest → hold before table (if is_empty rest then last else passing) part ≡ Ok (now, entered)
    → walk before table passing last path ≡ walk now entered passing last rest
unfolding walk
walk_on before now table entered passing last path rest part is holds = rw (is, holds) refl

pub walk_stops : (before : List Segment) (table : ℕ) (passing last : Role) (path rest : List Key) (part : Key)
    (span : Span)
    → path ≡ part ∷ rest → hold before table (if is_empty rest then last else passing) part ≡ Err span
    → walk before table passing last path ≡ Err span
unfolding walk
walk_stops before table passing last path rest part span is holds = rw (is, holds) refl

pub walk_ends : (before : List Segment) (table : ℕ) (passing last : Role) (path : List Key) (part : ℕ)
    → length path ≤ part
    → walk before table passing last (drop part path) ≡ Ok (before, table)
unfolding walk
walk_ends before table passing last path part past = rw (drop_of_length-le path past) refl

-- ---- lines

pub header_goes : (before now : List Segment) (table entered : ℕ) (h : Header) (lines : List ClashLine)
    → walk_header before h ≡ Ok (now, entered)
    → clash_after before table (header_line h ∷ lines) ≡ clash_after now entered lines
unfolding clash_after
header_goes before now table entered h lines is = rw is refl

pub header_clashes : (before : List Segment) (table : ℕ) (h : Header) (lines : List ClashLine) (span : Span)
    → walk_header before h ≡ Err span
    → clash_after before table (header_line h ∷ lines) ≡ Some span
unfolding clash_after
header_clashes before table h lines span is = rw is refl

pub key_goes : (before now : List Segment) (table entered : ℕ) (a : Assignment) (lines : List ClashLine)
    → walk_key before table (assigned_path a) ≡ Ok (now, entered) → clash_in (assigned_value a) ≡ None
    → clash_after before table (member_line a ∷ lines) ≡ clash_after now table lines
unfolding clash_after
key_goes before now table entered a lines is none = rw (is, none) refl

pub key_clashes : (before : List Segment) (table : ℕ) (a : Assignment) (lines : List ClashLine) (span : Span)
    → follow (walk_key before table (assigned_path a)) Some (λ _ _. clash_in (assigned_value a)) ≡ Some span
    → clash_after before table (member_line a ∷ lines) ≡ Some span
unfolding clash_after
key_clashes before table a lines span is = by_walk (walk_key before table (assigned_path a))
    (clash_in (assigned_value a)) (λ now. clash_after now table lines) is
  where
    by_walk : (walked : Result (List Segment × ℕ) Span) (inner : Option Span) (rest : List Segment → Option Span)
        → follow walked Some (λ _ _. inner) ≡ Some span → follow walked Some (λ now _. option_or inner (rest now)) ≡
        Some span
    by_walk (Ok p) None rest e = cc e
    by_walk (Ok p) (Some found) rest e = e
    by_walk (Err found) inner rest e = e

pub lines_end : (before : List Segment) (table : ℕ) (lines : List ClashLine) → lines ≡ []
    → clash_after before table lines ≡ None
unfolding clash_after
lines_end before table lines is = rw is refl

-- a list from one index on is its element and the list from the next index on
pub drop_next : {A : Type 0} (xs : List A) (i : ℕ) (x : A) → i < length xs → x ≡ slice_index_or xs i x
    → drop i xs ≡ x ∷ drop (i + 1) xs
drop_next xs i x inside is = rw (drop-cons xs i x inside, ← is, add-one) refl

pub map_next : {A B : Type 0} (f : A → B) (xs : List A) (i : ℕ) (x : A) → i < length xs → x ≡ slice_index_or xs i x
    → map f (drop i xs) ≡ f x ∷ map f (drop (i + 1) xs)
map_next f xs i x inside is = ap (map f) (drop_next xs i x inside is)

pub map_end : {A B : Type 0} (f : A → B) (xs : List A) (i : ℕ) → length xs ≤ i → map f (drop i xs) ≡ []
map_end f xs i past = rw (drop_of_length-le xs past) refl

pub lines_next : (expressions : List TomlExpression) (i : ℕ) (item e : TomlExpression) → i < length expressions
    → item ≡ slice_index_or expressions i item → item ≡ e
    → map line_of (drop i expressions) ≡ line_of e ∷ map line_of (drop (i + 1) expressions)
lines_next expressions i item e inside at is = map_next line_of expressions i item inside at
    ∙ ap (λ x. line_of x ∷ map line_of (drop (i + 1) expressions)) is

-- ---- values, by what is written

abbrev pub fold_content : WrittenContent → Option Span
fold_content = fold-WrittenContent (Option Span) ClashLine (Option Span) clash_of_content line_of_assignment
    (λ w. w.content)

abbrev pub fold_member : Assignment → ClashLine
fold_member = fold-Assignment (Option Span) ClashLine (Option Span) clash_of_content line_of_assignment (λ w. w.content)

map_same : {A B : Type 0} (f g : A → B) → ((x : A) → f x ≡ g x) → (xs : List A) → map f xs ≡ map g xs
map_same f g same [] = refl
map_same f g same (x ∷ xs) = λ i. same x i ∷ map_same f g same xs i

clash_in-content : (span : Span) (content : WrittenContent) → clash_in (written_with span content) ≡ fold_content
    content
clash_in-content span content = fold-roll-Written (Option Span) ClashLine (Option Span) clash_of_content
    line_of_assignment
    (λ w. w.content) (record { span = span; content = content })

content-is : (x : WrittenContent-F WrittenContent Assignment Written) (content : WrittenContent)
    → roll-WrittenContent x ≡ content
    → fold_content content ≡ clash_of_content (map-WrittenContent WrittenContent Assignment Written (Option Span)
    ClashLine
    (Option Span) fold_content fold_member clash_in x)
content-is x content is = ap fold_content (sym is) ∙ fold-roll-WrittenContent (Option Span) ClashLine (Option Span)
    clash_of_content line_of_assignment (λ w. w.content) x

pub clash_in-scalar : (span : Span) (scalar : Scalar) → clash_in (written_with span (written.Scalar scalar)) ≡ None
clash_in-scalar span scalar = clash_in-content span (written.Scalar scalar)
    ∙ content-is (open_content.Scalar scalar) _ (rolls-Scalar scalar)

pub clash_in-array : (span : Span) (elements : List Written)
    → clash_in (written_with span (written.Array elements)) ≡ first_of (map clash_in elements)
clash_in-array span elements = clash_in-content span (written.Array elements)
    ∙ content-is (open_content.Array elements) _ (rolls-Array elements)

pub clash_in-table : (span : Span) (members : List Assignment)
    → clash_in (written_with span (written.InlineTable members)) ≡ clash_after [] 0 (map member_line members)
clash_in-table span members =
    clash_in-content span (written.InlineTable members)
    ∙ (content-is (open_content.InlineTable members) _ (rolls-InlineTable members)
    ∙ ap (clash_after [] 0) (map_same fold_member member_line
    (fold_out-Assignment (Option Span) ClashLine (Option Span) clash_of_content line_of_assignment (λ w. w.content))
    members))
