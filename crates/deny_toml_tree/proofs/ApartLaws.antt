-- The offsets at which the scalars of a value begin, layer by layer, and how often an offset is among them.
use Rattle.std.proofs.Common.{◌≡◌, ◌≢◌, ℕ, ◌+◌, ◌≤◌, true, cond, ◌==◌, List, [], ◌∷◌, ◌++◌, refl, sym, ap, ◌∙◌, inl}
use Rattle.std.proofs.Common.{inr, arith, rules}
use Rattle.std.proofs.lemmas.Bool.{cases_Bool}
use Rattle.std.proofs.lemmas.Bool.Decides.{nat_tests}
use Rattle.std.proofs.lemmas.List.Elements.{All-nil, All-cons}
use Rattle.std.proofs.lemmas.List.Folds.{flat_map-map}
use Rattle.std.proofs.lemmas.List.Kept.{AllPairs-cons}
use Rattle.std.specs.Prelude.{All, AllPairs}
use Rattle.std.specs.List.{flat_map}
use Rattle.deny_base.specs.declared.span.Span.{Span}
use Rattle.deny_toml_grammar.specs.declared.parts.Key.{Key}
use Rattle.deny_toml_grammar.specs.declared.parts.Scalar.{Scalar}
use Rattle.deny_toml_tree.specs.declared.value.Value.{Value}
use Rattle.deny_toml_tree.specs.declared.value.Table.{Table}
use Rattle.deny_toml_tree.specs.declared.value.Content.{Content, the_lemmas}
use Rattle.deny_toml_tree.specs.declared.value.Content.TheFolds.{fold-Content, fold-Table, fold-Value, map-Content}
use Rattle.deny_toml_tree.specs.declared.value.Content.TheFolds.{fold_out-Content, fold_out-Table, fold_out-Value}
use Rattle.deny_toml_tree.specs.declared.value.Content.TheViews.{roll-Content, out-Content, out-roll-Content}
use Rattle.deny_toml_tree.specs.declared.value.Content.TheOpen.{Content-F}
use Rattle.deny_toml_tree.specs.declared.value.Content.TheVariants as content
use Rattle.deny_toml_tree.specs.Value.{span_in, content_in, value_with, entries_in}
use Rattle.deny_toml_tree.specs.Calls.{Layer, layer_in}
use Rattle.deny_toml_tree.specs.Apart.{content_starts, table_starts, value_starts, starts_in}
use Rattle.deny_toml_tree.proofs.TreeOrderLaws.{layer_is}

-- the number of times that an offset is in a list
abbrev pub times : ℕ → List ℕ → ℕ
times x [] = 0
times x (y ∷ ys) = cond (y == x) 1 0 + times x ys

pub times-append : (x : ℕ) (ys zs : List ℕ) → times x (ys ++ zs) ≡ times x ys + times x zs
times-append x [] zs = omega arith
times-append x (y ∷ ys) zs = omega (arith, times-append x ys zs)

absent : (x : ℕ) (ys : List ℕ) → times x ys ≡ 0 → All (λ y. x ≢ y) ys
absent x [] none = All-nil (λ y. x ≢ y)
absent x (y ∷ ys) none =
    elim (cases_Bool (y == x)) [
      | inl same ↦ absurd (omega (arith, ap (λ b. cond b 1 0 + times x ys) same))
      | inr other ↦ All-cons (λ y. x ≢ y) y ys (λ e. grind (arith, nat_tests))
          (absent x ys (omega (arith, ap (λ b. cond b 1 0 + times x ys) other)))
    ]

-- offsets that are in a list once at most are pairwise different
pub apart_from_times : (xs : List ℕ) → ((x : ℕ) → times x xs ≤ 1) → AllPairs (λ one other. one ≢ other) xs
apart_from_times [] once = λ i j d below within. absurd (omega arith)
apart_from_times (x ∷ xs) once =
    let same : (x == x) ≡ true = grind (arith, nat_tests) in
    let here : cond (x == x) 1 0 + times x xs ≤ 1 = once x in
    AllPairs-cons (λ one other. one ≢ other) x xs (absent x xs (omega (arith, ap (λ b. cond b 1 0 + times x xs) same)))
    (apart_from_times xs (λ y. let more : cond (x == y) 1 0 + times y xs ≤ 1 = once y in omega arith))

-- the starts of the entries of a table
abbrev pub starts_of_entries : List (Key × Value) → List ℕ
starts_of_entries entries = flat_map (λ e. starts_in e.1) entries

-- the starts of one layer of a value that begins at an offset
abbrev pub starts_of_layer : Layer → ℕ → List ℕ
starts_of_layer (Content-F.Scalar s) at = at ∷ []
starts_of_layer (Content-F.Array vs) at = flat_map starts_in vs
starts_of_layer (Content-F.Table t) at = starts_of_entries (entries_in t)

abbrev content_fold : Content → ℕ → List ℕ
content_fold = fold-Content (ℕ → List ℕ) (List ℕ) (List ℕ) content_starts table_starts value_starts

abbrev table_fold : Table → List ℕ
table_fold = fold-Table (ℕ → List ℕ) (List ℕ) (List ℕ) content_starts table_starts value_starts

abbrev value_fold : Value → List ℕ
value_fold = fold-Value (ℕ → List ℕ) (List ℕ) (List ℕ) content_starts table_starts value_starts

abbrev fold_entry : Key × Value → Key × List ℕ
fold_entry entry = (entry.0, value_fold entry.1)

abbrev second_starts : Key × List ℕ → List ℕ
second_starts entry = entry.1

layer_starts : (l : Layer) (at : ℕ) → content_starts (map-Content Content Table Value (ℕ → List ℕ) (List ℕ) (List ℕ)
    content_fold table_fold value_fold l) at ≡ starts_of_layer l at
unfolding starts_in
layer_starts (Content-F.Scalar s) at = refl
layer_starts (Content-F.Array vs) at = flat_map-map (λ starts. starts) value_fold vs
layer_starts (Content-F.Table t) at =
    fold_out-Table (ℕ → List ℕ) (List ℕ) (List ℕ) content_starts table_starts value_starts t
    ∙ flat_map-map second_starts fold_entry (entries_in t)

-- the starts of a value are those of its layer
pub starts_by_layer : (v : Value) → starts_in v ≡ starts_of_layer (layer_in v) (span_in v).start
unfolding starts_in
starts_by_layer v =
    fold_out-Value (ℕ → List ℕ) (List ℕ) (List ℕ) content_starts table_starts value_starts v
    ∙ ap (λ f. f (span_in v).start) (fold_out-Content (ℕ → List ℕ) (List ℕ) (List ℕ) content_starts table_starts
    value_starts (content_in v))
    ∙ layer_starts (layer_in v) (span_in v).start

span_made : (span : Span) (what : Content) → span_in (value_with span what) ≡ span
span_made span what = search (rules, the_lemmas)

made_starts : (span : Span) (what : Content) (layer : Layer) → roll-Content layer ≡ what
    → starts_in (value_with span what) ≡ starts_of_layer layer span.start
made_starts span what layer same =
    let opened : layer_in (value_with span what) ≡ layer = layer_is span what ∙ ap out-Content (sym same)
    ∙ out-roll-Content layer in
    starts_by_layer (value_with span what) ∙ ap (λ l. starts_of_layer l (span_in (value_with span what)).start) opened
    ∙ ap (λ s. starts_of_layer layer s.start) (span_made span what)

pub starts_of_array : (span : Span) (vs : List Value) → starts_in (value_with span (content.Array vs)) ≡ flat_map
    starts_in vs
starts_of_array span vs = made_starts span (content.Array vs) (Content-F.Array vs) (content.rolls-Array vs)

pub starts_of_table : (span : Span) (t : Table) → starts_in (value_with span (content.Table t)) ≡ starts_of_entries
    (entries_in t)
starts_of_table span t = made_starts span (content.Table t) (Content-F.Table t) (content.rolls-Table t)

pub starts_of_scalar : (span : Span) (s : Scalar) → starts_in (value_with span (content.Scalar s)) ≡ span.start ∷ []
starts_of_scalar span s = made_starts span (content.Scalar s) (Content-F.Scalar s) (content.rolls-Scalar s)
