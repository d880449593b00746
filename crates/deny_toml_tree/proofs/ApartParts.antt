-- Parts of a value in which no two scalars begin at one offset.
use Rattle.std.proofs.Common.{◌≡◌, ◌≢◌, ℕ, suc, ◌+◌, ◌<◌, ◌≤◌, true, false, cond, ◌==◌, List, [], ◌∷◌, ◌++◌}
use Rattle.std.proofs.Common.{length, get_or, Option, Some, None, option_and_then, refl, sym, ap, ◌∙◌, inl, inr, arith}
use Rattle.std.proofs.lemmas.Option.{none-some, same_Some}
use Rattle.std.proofs.lemmas.Bool.{cases_Bool}
use Rattle.std.proofs.lemmas.Bool.Decides.{nat_tests}
use Rattle.std.specs.Prelude.{AllPairs, nat_eq}
use Rattle.std.specs.List.{AllByRecursion, IsDistinct, flat_map}
use Rattle.std.specs.Cmp.Lexicographic.{pointwise, same_text, other_text}
use Rattle.deny_toml_grammar.specs.declared.parts.Key.{Key}
use Rattle.deny_toml_tree.specs.declared.value.Value.{Value}
use Rattle.deny_toml_tree.specs.declared.value.Table.{Table}
use Rattle.deny_toml_tree.specs.declared.value.Content.TheOpen.{Content-F}
use Rattle.deny_toml_tree.specs.Value.{span_in, entries_in}
use Rattle.deny_toml_tree.specs.Calls.{Layer, layer_in, table_of, array_of, scalar_of, text_of, table_in, array_in}
use Rattle.deny_toml_tree.specs.Calls.{text_in}
use Rattle.deny_toml_tree.specs.Calls.{has_name, value_at}
use Rattle.deny_toml_tree.specs.Apart.{starts_in}
use Rattle.deny_toml_tree.proofs.ApartLaws.{times, times-append, apart_from_times, starts_of_entries, starts_of_layer}
use Rattle.deny_toml_tree.proofs.ApartLaws.{starts_by_layer}

-- ---- lists of different offsets

-- the offsets are pairwise different
abbrev pub AreDistinct : List ℕ → Type 0
AreDistinct xs = AllPairs (λ one other. one ≢ other) xs

-- each offset is in the first list no more often than in the second
abbrev pub IsPartOf : List ℕ → List ℕ → Type 0
IsPartOf xs ys = (x : ℕ) → times x xs ≤ times x ys

pub part_itself : (xs : List ℕ) → IsPartOf xs xs
part_itself xs x = omega arith

pub part_of_part : (xs ys zs : List ℕ) → IsPartOf xs ys → IsPartOf ys zs → IsPartOf xs zs
part_of_part xs ys zs one other x = omega (arith, one x, other x)

pub part_nothing : (xs : List ℕ) → IsPartOf [] xs
part_nothing xs x = omega arith

pub parts_append : (xs ys zs ws : List ℕ) → IsPartOf xs zs → IsPartOf ys ws → IsPartOf (xs ++ ys) (zs ++ ws)
parts_append xs ys zs ws one other x = omega (arith, times-append x xs ys, times-append x zs ws, one x, other x)

-- different offsets are in their list once at most
times_from_apart : (xs : List ℕ) → AreDistinct xs → (x : ℕ) → times x xs ≤ 1
times_from_apart [] apart x = omega arith
times_from_apart (y ∷ xs) apart x =
    let rest : AreDistinct xs = λ i j d below within. apart (suc i) (suc j) d (omega arith) (omega arith) in
    elim (cases_Bool (y == x)) [
      | inl same ↦
          let is : y ≡ x = grind (arith, nat_tests) in
          let none = nowhere x xs (λ k d within e. apart 0 (suc k) d (omega arith) (omega arith) (is ∙ sym e)) in
          omega (arith, none, ap (λ b. cond b 1 0 + times x xs) same)
      | inr other ↦ omega (arith, times_from_apart xs rest x, ap (λ b. cond b 1 0 + times x xs) other)
    ]
  where
    nowhere : (x : ℕ) (xs : List ℕ) → ((k : ℕ) (d : ℕ) → k < length xs → get_or xs k d ≡ x → ⊥) → times x xs ≡ 0
    nowhere x [] not_there = refl
    nowhere x (y ∷ xs) not_there =
        let more = nowhere x xs (λ k d within e. not_there (suc k) d (omega arith) e) in
        elim (cases_Bool (y == x)) [
          | inl same ↦ absurd (not_there 0 y (omega arith) (grind (arith, nat_tests)))
          | inr other ↦ omega (arith, more, ap (λ b. cond b 1 0 + times x xs) other)
        ]

-- a part of different offsets has different offsets
pub apart_part : (xs ys : List ℕ) → AreDistinct ys → IsPartOf xs ys → AreDistinct xs
apart_part xs ys apart part = apart_from_times xs (λ x. omega (arith, times_from_apart ys apart x, part x))

-- ---- the parts of a value

array_layer : (l : Layer) (at : ℕ) (vs : List Value) → array_of l ≡ Some vs
    → starts_of_layer l at ≡ flat_map starts_in vs
array_layer (Content-F.Scalar s) at vs is = absurd (none-some vs is)
array_layer (Content-F.Array ws) at vs is = ap (flat_map starts_in) (same_Some ws vs is)
array_layer (Content-F.Table t) at vs is = absurd (none-some vs is)

table_layer : (l : Layer) (at : ℕ) (t : Table) → table_of l ≡ Some t
    → starts_of_layer l at ≡ starts_of_entries (entries_in t)
table_layer (Content-F.Scalar s) at t is = absurd (none-some t is)
table_layer (Content-F.Array ws) at t is = absurd (none-some t is)
table_layer (Content-F.Table u) at t is = ap (λ u. starts_of_entries (entries_in u)) (same_Some u t is)

text_layer : (l : Layer) (at : ℕ) (text : List ℕ) → option_and_then text_of (scalar_of l) ≡ Some text
    → starts_of_layer l at ≡ at ∷ []
text_layer (Content-F.Scalar s) at text is = refl
text_layer (Content-F.Array ws) at text is = absurd (none-some text is)
text_layer (Content-F.Table t) at text is = absurd (none-some text is)

pub starts_of_elements : (v : Value) (vs : List Value) → array_in v ≡ Some vs → starts_in v ≡ flat_map starts_in vs
starts_of_elements v vs is = starts_by_layer v ∙ array_layer (layer_in v) (span_in v).start vs is

pub starts_of_keys : (v : Value) (t : Table) → table_in v ≡ Some t → starts_in v ≡ starts_of_entries (entries_in t)
starts_of_keys v t is = starts_by_layer v ∙ table_layer (layer_in v) (span_in v).start t is

pub starts_of_text : (v : Value) (text : List ℕ) → text_in v ≡ Some text → starts_in v ≡ (span_in v).start ∷ []
starts_of_text v text is = starts_by_layer v ∙ text_layer (layer_in v) (span_in v).start text is

-- the starts of the value at a name of a table
abbrev pub starts_of : Option Value → List ℕ
starts_of None = []
starts_of (Some v) = starts_in v

abbrev pub starts_at : List (Key × Value) → List ℕ → List ℕ
starts_at entries name = starts_of (value_at name entries)

-- the number of times that an offset is in the starts of an entry, if the entry has one of the names
abbrev named_times : ℕ → Key × Value → List (List ℕ) → ℕ
named_times x e [] = 0
named_times x e (n ∷ ns) = cond (has_name n e) (times x (starts_in e.1)) 0 + named_times x e ns

starts_at-cons : (x : ℕ) (e : Key × Value) (es : List (Key × Value)) (n : List ℕ)
    → times x (starts_at (e ∷ es) n) ≤ cond (has_name n e) (times x (starts_in e.1)) 0 + times x (starts_at es n)
starts_at-cons x e es n = elim (cases_Bool (has_name n e)) [
  | inl has ↦ rw has (omega arith)
  | inr other ↦
      rw other (omega arith)
]

names_step : (x : ℕ) (e : Key × Value) (es : List (Key × Value)) (ns : List (List ℕ))
    → times x (flat_map (starts_at (e ∷ es)) ns) ≤ named_times x e ns + times x (flat_map (starts_at es) ns)
names_step x e es [] = omega arith
names_step x e es (n ∷ ns) =
    omega (
      arith,
      times-append x (starts_at (e ∷ es) n) (flat_map (starts_at (e ∷ es)) ns),
      times-append x (starts_at es n) (flat_map (starts_at es) ns),
      starts_at-cons x e es n,
      names_step x e es ns,
    )

-- an entry has at most one of different names
named_none : (x : ℕ) (e : Key × Value) (n : List ℕ) (ns : List (List ℕ)) → has_name n e ≡ true
    → AllByRecursion (λ m. pointwise nat_eq n m ≡ false) ns → named_times x e ns ≡ 0
named_none x e n [] has apart = refl
named_none x e n (m ∷ ns) has apart =
    elim (cases_Bool (has_name m e)) [
      | inl too ↦ absurd (other_text n m (sym apart.0) (sym (same_text e.0.name n (sym has))
          ∙ same_text e.0.name m (sym too)))
      | inr other ↦ let more = named_none x e n ns has apart.1 in rw other (omega arith)
    ]

named_once : (x : ℕ) (e : Key × Value) (ns : List (List ℕ)) → IsDistinct (pointwise nat_eq) ns
    → named_times x e ns ≤ times x (starts_in e.1)
unfolding IsDistinct
named_once x e [] apart = omega arith
named_once x e (n ∷ ns) apart =
    elim (cases_Bool (has_name n e)) [
      | inl has ↦ let none = named_none x e n ns has apart.0 in rw has (omega arith)
      | inr other ↦ let more = named_once x e ns apart.1 in rw other (omega arith)
    ]

no_entry : (x : ℕ) (ns : List (List ℕ)) → times x (flat_map (starts_at []) ns) ≡ 0
no_entry x [] = refl
no_entry x (n ∷ ns) = no_entry x ns

-- the starts of the values at different names are a part of the table's starts
pub names_part : (ns : List (List ℕ)) (entries : List (Key × Value)) → IsDistinct (pointwise nat_eq) ns
    → IsPartOf (flat_map (starts_at entries) ns) (starts_of_entries entries)
names_part ns [] apart x = omega (arith, no_entry x ns)
names_part ns (e ∷ es) apart x =
    omega (
      arith,
      times-append x (starts_in e.1) (starts_of_entries es),
      names_step x e es ns,
      named_once x e ns apart,
      names_part ns es apart x,
    )

pub name_part : (n : List ℕ) (entries : List (Key × Value)) (v : Value) → value_at n entries ≡ Some v
    → IsPartOf (starts_in v) (starts_of_entries entries)
unfolding IsDistinct
name_part n entries v is x =
    let part : times x (starts_at entries n ++ []) ≤ times x (starts_of_entries entries) =
    names_part (n ∷ []) entries (tt, tt) x in
    omega (arith, part, times-append x (starts_at entries n) [], ap (λ o. times x (starts_of o)) is)
