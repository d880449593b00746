-- The spans of what is read from a value are marks in it, and those of words start where scalars of the value start,
-- each at another scalar.
use Rattle.std.proofs.lemmas.Bool.{and_parts, not-true}
use Rattle.std.proofs.Common.{◌≡◌, ◌+◌, ◌&&◌, ◌++◌, ℕ, Bool, true, false, cond, not, List, [], ◌∷◌, map, append-nil}
use Rattle.std.proofs.Common.{Option, Some, None, inl, refl, sym, ap, ◌∙◌, subst, arith}
use Rattle.std.specs.Prelude.{Contains, nat_eq, option_and_then, option_map, find}
use Rattle.std.specs.Cmp.Lexicographic.{pointwise}
use Rattle.std.specs.List.{AllByRecursion, IsDistinct, flat_map}
use Rattle.std.proofs.lemmas.List.{map-append}
use Rattle.deny_base.specs.declared.span.Span.{Span}
use Rattle.deny_base_lists.proofs.Each.{all_append, all_weaker}
use Rattle.deny_base_lists.proofs.Finding.{found_member}
use Rattle.deny_base_lists.proofs.Members.{Contains-by_cases, Contains-first, Contains-rest, no_member}
use Rattle.deny_toml.proofs.ApartLaws.{times, times-append, starts_of_entries}
use Rattle.deny_toml.proofs.ApartParts.{IsPartOf, names_part, part_nothing, part_of_part, parts_append, starts_at}
use Rattle.deny_toml.proofs.ApartParts.{starts_of, starts_of_elements, starts_of_keys}
use Rattle.deny_toml.specs.Apart.{starts_in}
use Rattle.deny_toml.specs.Calls.{array_in, below_name, entry_at, has_name, table_in, value_at, without}
use Rattle.deny_toml.specs.Deserialize.{ReadsArray, ReadsEach}
use Rattle.deny_toml.specs.Key.{Key}
use Rattle.deny_toml.specs.Value.{entries_in, span_in}
use Rattle.deny_toml.specs.value.Table.{Table}
use Rattle.deny_toml.specs.value.Value.{Value}
use Rattle.deny_cfg.specs.LabelSpans.{joined, of_some}
use Rattle.deny_cfg.specs.Marks.{IsMarkIn}
use Rattle.deny_cfg.specs.Marks.IsValueIn.{itself, in_item, below_key}
use Rattle.deny_cfg_entries.specs.Table.{Entries, ReadsIn, ReadsIfThere, ReadsOr, ReadsTable}
use Rattle.deny_cfg_entries.specs.Words.{ReadsList}

-- ---- spans in a value

-- what holds of each of some spans
abbrev pub Lie : (Span → Type 0) → List Span → Type 0
Lie P spans = AllByRecursion P spans

abbrev pub starts : List Span → List ℕ
starts spans = map (λ span. span.start) spans

-- a span is a mark in the value that is there
abbrev pub IsMarkAt : Option Value → Span → Type 0
IsMarkAt None span = ⊥
IsMarkAt (Some v) span = IsMarkIn v span

-- a span is a mark in one of some values
pub record IsMarkAmong (vs : List Value) (span : Span) : Type 0 where
  pub value : Value
  pub there : Contains vs value
  pub mark : IsMarkIn value span

-- a span is a mark in the value of an entry
pub record IsMarkBelow (entries : Entries) (span : Span) : Type 0 where
  pub entry : Key × Value
  pub there : Contains entries entry
  pub mark : IsMarkIn entry.1 span

pub mark_itself : (v : Value) → IsMarkIn v (span_in v)
mark_itself v = record { part = v; inside = itself v; marks = inl refl }

-- the span of what is read from a value, which is that of the value
pub own_mark : (v : Value) (span : Span) → span ≡ span_in v → Lie (IsMarkIn v) (span ∷ [])
own_mark v span same = (subst (IsMarkIn v) (sym same) (mark_itself v), tt)

mark_in_item : (v : Value) (vs : List Value) → array_in v ≡ Some vs → (span : Span) → IsMarkAmong vs span
    → IsMarkIn v span
mark_in_item v vs is span among = record {
  part = among.mark.part;
  inside = in_item v among.value among.mark.part vs is among.there among.mark.inside;
  marks = among.mark.marks;
}

mark_in_entry : (v : Value) (t : Table) → table_in v ≡ Some t → (span : Span) → IsMarkBelow (entries_in t) span
    → IsMarkIn v span
mark_in_entry v t is span below = record {
  part = below.mark.part;
  inside = below_key v below.entry.1 below.mark.part t below.entry.0 is below.there below.mark.inside;
  marks = below.mark.marks;
}

mark_at_key : (name : List ℕ) (entries : Entries) (span : Span) → IsMarkAt (value_at name entries) span
    → IsMarkBelow entries span
mark_at_key name entries span mark = by_entry (entry_at name entries) refl mark
  where
    by_entry : (o : Option (Key × Value)) → entry_at name entries ≡ o → IsMarkAt (option_map (λ e. e.1) o) span
        → IsMarkBelow entries span
    by_entry None is mark = absurd mark
    by_entry (Some e) is mark =
        record { entry = e; there = found_member (has_name name) entries e is; mark = mark }

pub items_inside : (v : Value) (vs : List Value) (spans : List Span) → array_in v ≡ Some vs
    → Lie (IsMarkAmong vs) spans → Lie (IsMarkIn v) spans
items_inside v vs spans is = all_weaker (IsMarkAmong vs) (IsMarkIn v) (mark_in_item v vs is) spans

pub entries_inside : (v : Value) (t : Table) (spans : List Span) → table_in v ≡ Some t
    → Lie (IsMarkBelow (entries_in t)) spans → Lie (IsMarkIn v) spans
entries_inside v t spans is = all_weaker (IsMarkBelow (entries_in t)) (IsMarkIn v) (mark_in_entry v t is) spans

pub key_inside : (name : List ℕ) (entries : Entries) (spans : List Span) → Lie (IsMarkAt (value_at name entries)) spans
    → Lie (IsMarkBelow entries) spans
key_inside name entries spans =
    all_weaker (IsMarkAt (value_at name entries)) (IsMarkBelow entries) (mark_at_key name entries) spans

-- an empty table has no marks
pub nothing_below : (spans : List Span) (P : Span → Type 0) → Lie (IsMarkBelow []) spans → Lie P spans
nothing_below spans P = all_weaker (IsMarkBelow []) P (λ span below. absurd (no_member below.entry below.there)) spans

pub name_inside : (name : List ℕ) (v : Value) (spans : List Span) → Lie (IsMarkAt (below_name name v)) spans
    → Lie (IsMarkIn v) spans
name_inside name v spans inside = by_table (table_in v) refl inside
  where
    by_table : (o : Option Table) → table_in v ≡ o
        → Lie (IsMarkAt (option_and_then (λ t. value_at name (entries_in t)) o)) spans → Lie (IsMarkIn v) spans
    by_table None is inside = all_weaker (λ span. ⊥) (IsMarkIn v) (λ span none. absurd none) spans inside
    by_table (Some t) is inside = entries_inside v t spans is (key_inside name (entries_in t) spans inside)

first_inside : (v : Value) (vs : List Value) (spans : List Span) → Lie (IsMarkIn v) spans
    → Lie (IsMarkAmong (v ∷ vs)) spans
first_inside v vs spans =
    all_weaker (IsMarkIn v) (IsMarkAmong (v ∷ vs))
    (λ span mark. record { value = v; there = Contains-first v vs; mark = mark }) spans

rest_inside : (v : Value) (vs : List Value) (spans : List Span) → Lie (IsMarkAmong vs) spans
    → Lie (IsMarkAmong (v ∷ vs)) spans
rest_inside v vs spans =
    all_weaker (IsMarkAmong vs) (IsMarkAmong (v ∷ vs))
    (λ span among. record {
      value = among.value;
      there = Contains-rest v vs among.value among.there;
      mark = among.mark;
    }) spans

-- what is read from the values of a list, item by item
pub each_inside : {T : Type 0} (f : T → List Span) (Reads : Value → T → Type 0)
    → ((v : Value) (x : T) → Reads v x → Lie (IsMarkIn v) (f x))
    → (vs : List Value) (xs : List T) → ReadsEach Reads vs xs → Lie (IsMarkAmong vs) (flat_map f xs)
each_inside f Reads each [] [] reads = tt
each_inside f Reads each [] (x ∷ xs) reads = absurd reads
each_inside f Reads each (v ∷ vs) [] reads = absurd reads
each_inside f Reads each (v ∷ vs) (x ∷ xs) reads =
    all_append (IsMarkAmong (v ∷ vs)) (f x) (flat_map f xs)
    (first_inside v vs (f x) (each v x reads.0))
    (rest_inside v vs (flat_map f xs) (each_inside f Reads each vs xs reads.1))

pub list_inside : {T : Type 0} (f : T → List Span) (Reads : Value → T → Type 0)
    → ((v : Value) (x : T) → Reads v x → Lie (IsMarkIn v) (f x))
    → (v : Value) (xs : List T) → ReadsList Reads v xs → Lie (IsMarkIn v) (flat_map f xs)
list_inside f Reads each v xs reads = by_array (array_in v) refl reads
  where
    by_array : (o : Option (List Value)) → array_in v ≡ o → ReadsArray Reads o xs → Lie (IsMarkIn v) (flat_map f xs)
    by_array None is reads = absurd reads
    by_array (Some vs) is reads = items_inside v vs (flat_map f xs) is (each_inside f Reads each vs xs reads)

pub table_inside : {T : Type 0} (spans : List Span) (Reads : Entries → T → Type 0) (x : T)
    → ((entries : Entries) → Reads entries x → Lie (IsMarkBelow entries) spans)
    → (v : Value) → ReadsTable Reads v x → Lie (IsMarkIn v) spans
table_inside spans Reads x each v reads = by_table (table_in v) refl reads
  where
    by_table : (o : Option Table) → table_in v ≡ o → ReadsIn Reads o x → Lie (IsMarkIn v) spans
    by_table None is reads = absurd reads
    by_table (Some t) is reads = entries_inside v t spans is (each (entries_in t) reads)

mark_taken : (name : List ℕ) (entries : Entries) (e : Key × Value) → Contains (without name entries) e
    → Contains entries e
unfolding without
mark_taken name [] e is = is
mark_taken name (d ∷ ds) e is = by_test (has_name name d) (mark_taken name ds e) is
  where
    by_test : (b : Bool) → (Contains (without name ds) e → Contains ds e)
        → Contains (cond b ds (d ∷ without name ds)) e → Contains (d ∷ ds) e
    by_test true later is = Contains-rest d ds e is
    by_test false later is =
        Contains-by_cases d (without name ds) e is
        (λ same. subst (Contains (d ∷ ds)) same (Contains-first d ds))
        (λ more. Contains-rest d ds e (later more))

without_inside : (name : List ℕ) (entries : Entries) (spans : List Span)
    → Lie (IsMarkBelow (without name entries)) spans → Lie (IsMarkBelow entries) spans
without_inside name entries spans =
    all_weaker (IsMarkBelow (without name entries)) (IsMarkBelow entries)
    (λ span below. record {
      entry = below.entry;
      there = mark_taken name entries below.entry below.there;
      mark = below.mark;
    }) spans

times_taken : (name : List ℕ) (entries : Entries) (x : ℕ)
    → times x (starts_at entries name) + times x (starts_of_entries (without name entries))
    ≡ times x (starts_of_entries entries)
unfolding without
times_taken name [] x = refl
times_taken name (e ∷ es) x = by_test (has_name name e) (times_taken name es x)
  where
    by_test : (b : Bool)
        → times x (starts_at es name) + times x (starts_of_entries (without name es)) ≡ times x (starts_of_entries es)
        → times x (starts_of (option_map (λ f. f.1) (cond b (Some e) (find (has_name name) es)))) + times x
        (starts_of_entries (cond b es (e ∷ without name es))) ≡ times x (starts_of_entries (e ∷ es))
    by_test true rest = sym (times-append x (starts_in e.1) (starts_of_entries es))
    by_test false rest =
        omega (
          arith,
          rest,
          times-append x (starts_in e.1) (starts_of_entries es),
          times-append x (starts_in e.1)
              (starts_of_entries (without name es)),
        )

-- ---- the spans of what is read

pub record Within (v : Value) (spans : List Span) : Type 0 where
  pub inside : Lie (IsMarkIn v) spans
  pub part : IsPartOf (starts spans) (starts_in v)

pub record WithinKey (o : Option Value) (spans : List Span) : Type 0 where
  pub inside : Lie (IsMarkAt o) spans
  pub part : IsPartOf (starts spans) (starts_of o)

pub record WithinKeys (entries : Entries) (spans : List Span) : Type 0 where
  pub inside : Lie (IsMarkBelow entries) spans
  pub part : IsPartOf (starts spans) (starts_of_entries entries)

part_both : (xs ys : List Span) (ns ms : List ℕ) → IsPartOf (starts xs) ns → IsPartOf (starts ys) ms
    → IsPartOf (starts (xs ++ ys)) (ns ++ ms)
part_both xs ys ns ms one other =
    subst (λ zs. IsPartOf zs (ns ++ ms)) (sym (map-append (λ (span : Span). span.start) xs ys))
    (parts_append (starts xs) (starts ys) ns ms one other)

pub key_at : (v : Value) (spans : List Span) → Within v spans → WithinKey (Some v) spans
key_at v spans within = record { inside = within.inside; part = within.part }

key_none : (o : Option Value) → WithinKey o []
key_none o = record { inside = tt; part = part_nothing (starts_of o) }

pub optional_within : {T : Type 0} (f : T → List Span) (Reads : Value → T → Type 0)
    → ((v : Value) (x : T) → Reads v x → Within v (f x))
    → (o : Option Value) (read : Option T) → ReadsIfThere Reads o read → WithinKey o (of_some f read)
optional_within f Reads each None read reads =
    subst (λ r. WithinKey None (of_some f r)) (sym reads) (key_none None)
optional_within f Reads each (Some v) None reads = absurd reads
optional_within f Reads each (Some v) (Some x) reads = key_at v (f x) (each v x reads)

pub or_within : {T : Type 0} (f : T → List Span) (default : T) (Reads : Value → T → Type 0)
    → f default ≡ [] → ((v : Value) (x : T) → Reads v x → Within v (f x))
    → (o : Option Value) (x : T) → ReadsOr default Reads o x → WithinKey o (f x)
or_within f default Reads none each None x reads =
    subst (WithinKey None) (sym none ∙ ap f (sym reads)) (key_none None)
or_within f default Reads none each (Some v) x reads = key_at v (f x) (each v x reads)

each_part : {T : Type 0} (f : T → List Span) (Reads : Value → T → Type 0)
    → ((v : Value) (x : T) → Reads v x → Within v (f x))
    → (vs : List Value) (xs : List T) → ReadsEach Reads vs xs
    → IsPartOf (starts (flat_map f xs)) (flat_map starts_in vs)
each_part f Reads each [] [] reads = part_nothing []
each_part f Reads each [] (x ∷ xs) reads = absurd reads
each_part f Reads each (v ∷ vs) [] reads = absurd reads
each_part f Reads each (v ∷ vs) (x ∷ xs) reads =
    part_both (f x) (flat_map f xs) (starts_in v) (flat_map starts_in vs) (each v x reads.0).part
    (each_part f Reads each vs xs reads.1)

list_part : {T : Type 0} (f : T → List Span) (Reads : Value → T → Type 0)
    → ((v : Value) (x : T) → Reads v x → Within v (f x))
    → (v : Value) (xs : List T) → ReadsList Reads v xs → IsPartOf (starts (flat_map f xs)) (starts_in v)
list_part f Reads each v xs reads = by_array (array_in v) refl reads
  where
    by_array : (o : Option (List Value)) → array_in v ≡ o → ReadsArray Reads o xs
        → IsPartOf (starts (flat_map f xs)) (starts_in v)
    by_array None is reads = absurd reads
    by_array (Some vs) is reads =
        subst (IsPartOf (starts (flat_map f xs))) (sym (starts_of_elements v vs is))
        (each_part f Reads each vs xs reads)

pub list_within : {T : Type 0} (f : T → List Span) (Reads : Value → T → Type 0)
    → ((v : Value) (x : T) → Reads v x → Within v (f x))
    → (v : Value) (xs : List T) → ReadsList Reads v xs → Within v (flat_map f xs)
list_within f Reads each v xs reads = record {
  inside = list_inside f Reads (λ w x read. (each w x read).inside) v xs reads;
  part = list_part f Reads each v xs reads;
}

pub table_within : {T : Type 0} (spans : List Span) (Reads : Entries → T → Type 0) (x : T)
    → ((entries : Entries) → Reads entries x → WithinKeys entries spans)
    → (v : Value) → ReadsTable Reads v x → Within v spans
table_within spans Reads x each v reads = by_table (table_in v) refl reads
  where
    by_table : (o : Option Table) → table_in v ≡ o → ReadsIn Reads o x → Within v spans
    by_table None is reads = absurd reads
    by_table (Some t) is reads =
        let all = each (entries_in t) reads in
        record {
          inside = entries_inside v t spans is all.inside;
          part = subst (IsPartOf (starts spans)) (sym (starts_of_keys v t is)) all.part;
        }

-- ---- the keys of a table

pub put_key : (name : List ℕ) (entries : Entries) (xs ys : List Span) → WithinKey (value_at name entries) xs
    → WithinKeys (without name entries) ys → WithinKeys entries (xs ++ ys)
put_key name entries xs ys first rest = record {
  inside =
      all_append (IsMarkBelow entries) xs ys (key_inside name entries xs first.inside)
      (without_inside name entries ys rest.inside);
  part = λ x.
      omega (
        arith,
        first.part x,
        rest.part x,
        times_taken name entries x,
        times-append x (starts xs) (starts ys),
        ap (times x) (map-append (λ (span : Span). span.start) xs ys),
      );
}

pub skip_key : (name : List ℕ) (entries : Entries) (ys : List Span) → WithinKeys (without name entries) ys
    → WithinKeys entries ys
skip_key name entries ys rest = put_key name entries [] ys (key_none (value_at name entries)) rest

pub no_keys : (entries : Entries) → WithinKeys entries []
no_keys entries = record { inside = tt; part = part_nothing (starts_of_entries entries) }

pub one_key : (name : List ℕ) (entries : Entries) (xs : List Span) → WithinKey (value_at name entries) xs
    → WithinKeys entries xs
one_key name entries xs within =
    subst (WithinKeys entries) (append-nil xs)
    (put_key name entries xs [] within (no_keys (without name entries)))

-- what is read from these keys, in order, has its spans within the values of the table at them
pub data EachKey (entries : Entries) : List (List ℕ) → List (List Span) → Type 0 where
  no_more : EachKey entries [] []
  ◌▸◌ : {n : List ℕ} {ns : List (List ℕ)} {xs : List Span} {xss : List (List Span)}
      → WithinKey (value_at n entries) xs → EachKey entries ns xss → EachKey entries (n ∷ ns) (xs ∷ xss)

infixr 4 ◌▸◌
keys_inside : (entries : Entries) {ns : List (List ℕ)} {xss : List (List Span)}
    → EachKey entries ns xss → Lie (IsMarkBelow entries) (joined xss)
keys_inside entries no_more = tt
keys_inside entries (◌▸◌ {n = n} {xs = xs} {xss = xss} first more) =
    all_append (IsMarkBelow entries) xs (joined xss) (key_inside n entries xs first.inside) (keys_inside entries more)

keys_part : (entries : Entries) {ns : List (List ℕ)} {xss : List (List Span)}
    → EachKey entries ns xss → IsPartOf (starts (joined xss)) (flat_map (starts_at entries) ns)
keys_part entries no_more = part_nothing []
keys_part entries (◌▸◌ {n = n} {ns = ns} {xs = xs} {xss = xss} first more) =
    part_both xs (joined xss) (starts_at entries n) (flat_map (starts_at entries) ns) first.part
    (keys_part entries more)

-- whether names differ
abbrev pub is_new_name : List ℕ → List (List ℕ) → Bool
is_new_name n [] = true
is_new_name n (m ∷ ns) = not (pointwise nat_eq n m) && is_new_name n ns

abbrev pub are_distinct : List (List ℕ) → Bool
are_distinct [] = true
are_distinct (n ∷ ns) = is_new_name n ns && are_distinct ns

new_name : (n : List ℕ) (ns : List (List ℕ)) → is_new_name n ns ≡ true
    → AllByRecursion (λ m. pointwise nat_eq n m ≡ false) ns
new_name n [] e = tt
new_name n (m ∷ ns) e =
    let parts = and_parts (not (pointwise nat_eq n m)) (is_new_name n ns)
    e in (not-true (pointwise nat_eq n m) parts.0, new_name n ns parts.1)

distinct_names : (ns : List (List ℕ)) → are_distinct ns ≡ true → IsDistinct (pointwise nat_eq) ns
unfolding IsDistinct
distinct_names [] e = tt
distinct_names (n ∷ ns) e =
    let parts = and_parts (is_new_name n ns) (are_distinct ns) e in (new_name n ns parts.0, distinct_names ns parts.1)

pub keys_within : (entries : Entries) {ns : List (List ℕ)} {xss : List (List Span)}
    → EachKey entries ns xss → are_distinct ns ≡ true → WithinKeys entries (joined xss)
keys_within entries {ns} {xss} each apart = record {
  inside = keys_inside entries each;
  part =
      part_of_part (starts (joined xss)) (flat_map (starts_at entries) ns) (starts_of_entries entries)
      (keys_part entries each) (names_part ns entries (distinct_names ns apart));
}
