-- A mark in a value that occurs in a text lies in the text, between characters.
use Rattle.std.proofs.lemmas.Option.{same_Some}
use Rattle.std.proofs.Common.{◌≡◌, ◌⊎◌, ◌<◌, ◌≤◌, ◌+◌, ◌-◌, ◌==◌, ℕ, Bool, true, false, cond, not, List}
use Rattle.std.proofs.Common.{length, get_or, take, drop, Option, Some, None, inl, inr, refl, sym, ap, ◌∙◌, subst}
use Rattle.std.proofs.Common.{arith, eqb-true}
use Rattle.std.specs.Prelude.{IfSome, option_and_then}
use Rattle.std.specs.List.{AllByRecursion, position_or_len}
use Rattle.std.specs.Option.{option_map_or}
use Rattle.std.specs.Str.{IsCharBoundary}
use Rattle.std.proofs.lemmas.Bool.{cases_Bool}
use Rattle.std.proofs.lemmas.List.{get_or-take, get_or-drop, length-take-le}
use Rattle.std.proofs.lemmas.Bool.Decides.{nat_tests}
use Rattle.std.proofs.lemmas.List.Sums.{passes_at_first, prefix_len-le-length}
use Rattle.std.proofs.lemmas.Str.{IsCharBoundary-before_ascii}
use Rattle.deny_base.specs.declared.span.Span.{Span}
use Rattle.deny_base_lists.proofs.Members.{at_member}
use Rattle.deny_toml.specs.Calls.{Layer, array_of, is_verbatim, layer_in, one_line_of, scalar_of}
use Rattle.deny_toml.specs.Calls.{table_of, text_in, text_of}
use Rattle.deny_toml.specs.Key.{Key}
use Rattle.deny_toml.specs.Scalar.{Scalar}
use Rattle.deny_toml.specs.Scalar.TheVariants as scalar
use Rattle.deny_toml.specs.Spans as spans
use Rattle.deny_toml.specs.Spans.{AllOfContent, AllOfEntries, AllOfValues, IsSpan, KeyOccurs, OccursIn, ScalarOccurs}
use Rattle.deny_toml.specs.Spans.{ValueOccurs, bytes_in}
use Rattle.deny_toml.specs.Value.{entries_in, span_in, span_of}
use Rattle.deny_toml.specs.value.Table.{Table}
use Rattle.deny_toml.specs.value.Value.{Value}
use Rattle.deny_cfg_entries.proofs.SpecLaws.{verbatim_length}
use Rattle.deny_cfg_entries.specs.Spec.{divided, divided_at, name_span, or_else, parts_or, spec_in}
use Rattle.deny_cfg.specs.Marks.{IsMarkIn, IsValueIn}
use Rattle.deny_cfg.specs.Marks.IsValueIn.{itself, in_item, below_key}

-- ---- values in a value

holds_itself : (text : List ℕ) (v : Value) → OccursIn text v → ValueOccurs text v
holds_itself text v (spans.value _ here below) = here

holds_below : (text : List ℕ) (v : Value) → OccursIn text v
    → AllOfContent (KeyOccurs text) (ValueOccurs text) (layer_in v)
holds_below text v (spans.value _ here below) = below

items_hold : (text : List ℕ) (vs : List Value) → AllOfValues (KeyOccurs text) (ValueOccurs text) vs
    → AllByRecursion (OccursIn text) vs
items_hold text vs spans.no_values = tt
items_hold text vs (spans.values v more here all) = (here, items_hold text more all)

items_by : (text : List ℕ) (l : Layer) (vs : List Value) → array_of l ≡ Some vs
    → AllOfContent (KeyOccurs text) (ValueOccurs text) l → AllByRecursion (OccursIn text) vs
items_by text l vs is (spans.scalar_content s) = cc
items_by text l vs is (spans.array_content ws all) =
    subst (AllByRecursion (OccursIn text)) (same_Some ws vs is) (items_hold text ws all)
items_by text l vs is (spans.table_content t all) = cc

abbrev EntriesHold : List ℕ → List (Key × Value) → Type 0
EntriesHold text entries = AllByRecursion (λ (e : Key × Value). OccursIn text e.1) entries

entries_hold : (text : List ℕ) (entries : List (Key × Value))
    → AllOfEntries (KeyOccurs text) (ValueOccurs text) entries → EntriesHold text entries
entries_hold text entries spans.no_entries = tt
entries_hold text entries (spans.entries k v more key here all) = (here, entries_hold text more all)

entries_by : (text : List ℕ) (l : Layer) (t : Table) → table_of l ≡ Some t
    → AllOfContent (KeyOccurs text) (ValueOccurs text) l → EntriesHold text (entries_in t)
entries_by text l t is (spans.scalar_content s) = cc
entries_by text l t is (spans.array_content ws all) = cc
entries_by text l t is (spans.table_content u all) =
    subst (λ w. EntriesHold text (entries_in w)) (same_Some u t is) (entries_hold text (entries_in u) all)

part_holds : (text : List ℕ) (v part : Value) → IsValueIn v part → OccursIn text v → OccursIn text part
part_holds text v part (itself _) holds = holds
part_holds text v part (in_item _ w _ items is at inside) holds =
    part_holds text w part inside
    (at_member (OccursIn text) items w (items_by text (layer_in v) items is (holds_below text v holds)) at)
part_holds text v part (below_key _ w _ t key is at inside) holds =
    part_holds text w part inside
    (at_member (λ (e : Key × Value). OccursIn text e.1) (entries_in t) (key, w)
    (entries_by text (layer_in v) t is (holds_below text v holds)) at)

-- ---- names

-- A name is the whole text, or ends before an ASCII character of it.
abbrev EndsWell : List ℕ → List ℕ → Type 0
EndsWell t name = (name ≡ t) ⊎ ((length name < length t) × (get_or t (length name) 0 < 128))

divided_by : (b : Bool) (before after : List ℕ) (parts : List ℕ × List ℕ)
    → cond b None (Some (before, after)) ≡ Some parts → (b ≡ false) × (before ≡ parts.0)
divided_by true before after parts e = cc
divided_by false before after parts e = (refl, ap (λ (p : List ℕ × List ℕ). p.0) (same_Some (before, after) parts e))

not_equal : (a b : ℕ) → (a == b) ≡ false → a ≡ b → ⊥
not_equal a b e same = grind (arith, nat_tests)

divided_well : (d : ℕ) (t : List ℕ) (parts : List ℕ × List ℕ) → d < 128 → divided_at d t ≡ Some parts
    → EndsWell t parts.0
divided_well d t parts ascii is =
    let offset = position_or_len (λ (b : ℕ). b == d) t in
    let found = divided_by (offset == length t) (take offset t) (drop (offset + 1) t) parts is in
    let inside : offset < length t =
    omega (arith, not_equal offset (length t) found.0, prefix_len-le-length (λ (b : ℕ). not (b == d)) t) in
    let len : length (take offset t) ≡ offset = length-take-le offset t (omega arith) in
    let at : get_or t offset 0 ≡ d = eqb-true _ _ (passes_at_first (λ (b : ℕ). b == d) t 0 inside) in
    let ends : (length (take offset t) < length t) × (get_or t (length (take offset t)) 0 < 128) =
    rw len (inside, rw at ascii) in
    inr (subst (λ (n : List ℕ). (length n < length t) × (get_or t (length n) 0 < 128)) found.1 ends)

or_cases : {X : Type 0} (o q : Option X) (x : X) (P : Type 0) → or_else o q ≡ Some x → (o ≡ Some x → P)
    → (q ≡ Some x → P) → P
or_cases None q x P is one other = other is
or_cases (Some y) q x P is one other = one is

divided_ends : (t : List ℕ) (parts : List ℕ × List ℕ) → divided t ≡ Some parts → EndsWell t parts.0
unfolding divided
divided_ends t parts is =
    or_cases (divided_at 64 t) (divided_at 58 t) parts (EndsWell t parts.0) is (divided_well 64 t parts (omega arith))
    (divided_well 58 t parts (omega arith))

parts_end : (o : Option (List ℕ × List ℕ)) (t : List ℕ)
    → ((parts : List ℕ × List ℕ) → o ≡ Some parts → EndsWell t parts.0) → EndsWell t (parts_or o t).0
parts_end None t ends = inl refl
parts_end (Some parts) t ends = ends parts refl

checked_by : {X : Type 0} (b : Bool) (x y : X) → cond b (Some x) None ≡ Some y → x ≡ y
checked_by true x y e = same_Some x y e
checked_by false x y e = cc

spec_ends : (t name : List ℕ) (requirement : Option (List ℕ)) → spec_in t ≡ Some (name, requirement) → EndsWell t name
unfolding spec_in
spec_ends t name requirement is =
    subst (EndsWell t)
    (ap (λ (p : List ℕ × Option (List ℕ)). p.0) (checked_by _ (parts_or (divided t) t) (name, requirement) is))
    (parts_end (divided t) t (divided_ends t))

-- a verbatim string is the bytes at its span
bytes_by : (text : List ℕ) (span : Span) (o : Option Scalar) (t : List ℕ) → option_and_then text_of o ≡ Some t
    → option_map_or (λ s. span.start + length s == span.end) (option_and_then one_line_of o) false ≡ true
    → IfSome o (ScalarOccurs text span) → t ≡ bytes_in text span
bytes_by text span None t is verbatim here = cc
bytes_by text span (Some (scalar.Text bytes)) t is verbatim here =
    let same : bytes ≡ t = same_Some bytes t is in
    sym same ∙ here.same (here.without_escapes (eqb-true _ _ verbatim))
bytes_by text span (Some (scalar.Multiline bytes)) t is verbatim here = cc
bytes_by text span (Some (scalar.Integer n)) t is verbatim here = cc
bytes_by text span (Some (scalar.Float bytes)) t is verbatim here = cc
bytes_by text span (Some (scalar.Boolean b)) t is verbatim here = cc
bytes_by text span (Some (scalar.Date bytes)) t is verbatim here = cc

prefix_ends : (text : List ℕ) (span : Span) (t name : List ℕ) → span.start + length t ≡ span.end → IsSpan text span
    → t ≡ bytes_in text span
    → EndsWell t name → IsCharBoundary text (span.start + length name)
prefix_ends text span t name long located bytes (inl whole) =
    let end : span.end ≡ span.start + length name =
    sym long ∙ ap (λ (s : List ℕ). span.start + length s) (sym whole) in
    subst (IsCharBoundary text) end located.ends
prefix_ends text span t name long located bytes (inr before) =
    let k = length name in
    let short : k < span.end - span.start = omega (arith, before.0) in
    let byte : get_or t k 0 ≡ get_or text (span.start + k) 0 =
    ap (λ (s : List ℕ). get_or s k 0) bytes
    ∙ (get_or-take (span.end - span.start) (drop span.start text) k 0 short
    ∙ get_or-drop span.start text k 0) in
    IsCharBoundary-before_ascii text (span.start + k) (omega (arith, before.0, located.within))
    (subst (λ b. b < 128) byte before.1)

ends_within : (t name : List ℕ) → EndsWell t name → length name ≤ length t
ends_within t name (inl whole) = omega (arith, ap length whole)
ends_within t name (inr before) = omega (arith, before.0)

prefix_lies : (text : List ℕ) (span : Span) (t name : List ℕ) → span.start + length t ≡ span.end → IsSpan text span
    → t ≡ bytes_in text span
    → EndsWell t name → IsSpan text (span_of span.start (length name))
prefix_lies text span t name long located bytes well = record {
  ordered = omega arith;
  within = omega (arith, located.within, ends_within t name well);
  starts = located.starts;
  ends = prefix_ends text span t name long located bytes well;
}

name_lies : (text : List ℕ) (v : Value) (t name : List ℕ) → text_in v ≡ Some t → EndsWell t name → ValueOccurs text v
    → IsSpan text (name_span v name)
name_lies text v t name is well here =
    elim (cases_Bool (is_verbatim v)) [
      | inl verbatim ↦
          subst (λ (b : Bool). IsSpan text (cond b (span_of (span_in v).start (length name)) (span_in v)))
          (sym verbatim)
          (prefix_lies text (span_in v) t name (verbatim_length v t is verbatim) here.lies
          (bytes_by text (span_in v) (scalar_of (layer_in v)) t is verbatim here.written) well)
      | inr other ↦ subst (λ (b : Bool). IsSpan text (cond b (span_of (span_in v).start (length name)) (span_in v)))
          (sym other) here.lies
    ]

-- ---- marks

pub mark_lies : (text : List ℕ) (v : Value) → OccursIn text v → (span : Span) → IsMarkIn v span → IsSpan text span
mark_lies text v holds span mark =
    let here = holds_itself text mark.part (part_holds text v mark.part mark.inside holds) in
    elim mark.marks [
      | inl whole ↦ subst (IsSpan text) (sym whole) here.lies
      | inr name ↦
          subst (IsSpan text) (sym name.is)
          (name_lies text mark.part name.text name.name name.is_text
          (spec_ends name.text name.name name.requirement name.is_spec) here)
    ]
