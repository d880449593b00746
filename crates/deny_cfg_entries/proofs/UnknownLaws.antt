-- The entries of a table that are left once the known keys were taken out are its unknown keys.
use Rattle.std.proofs.lemmas.Bool.{and_parts, not-true}
use Rattle.deny_base_lists.proofs.Each.{all_append}
use Rattle.std.proofs.Common.{◌≡◌, ◌||◌, ℕ, Bool, true, false, cond, Contains, refl, sym, ap, subst, eqb-true, inl, inr}
use Rattle.std.proofs.Common.{◌∙◌}
use Rattle.std.specs.Prelude.{◌&&◌, ◌++◌, ◌∷◌, List, [], filter, map, nat_eq, not}
use Rattle.std.specs.Cmp.Lexicographic.{pointwise}
use Rattle.std.specs.List.{AllByRecursion}
use Rattle.std.proofs.lemmas.List.Elements.{All-contains, All-contains_itself, All-from_recursion}
use Rattle.std.proofs.lemmas.List.Elements.{Contains-append_cases, Contains-append_left, Contains-append_right}
use Rattle.std.proofs.lemmas.List.Elements.{filter_agree, recursion_from_All}
use Rattle.deny_toml.proofs.FaultLaws.{in_order-lists, in_order-only}
use Rattle.deny_toml.specs.Calls.{has_name, without}
use Rattle.deny_toml.specs.Faults.{in_order}
use Rattle.deny_toml.specs.TableHelper.{unknown}
use Rattle.deny_toml.specs.error.ConfigFault.{ConfigFault}
use Rattle.deny_toml.specs.Key.{Key}
use Rattle.deny_toml.specs.value.Value.{Value}
use Rattle.deny_cfg_entries.specs.Table.{Entries, Field, are_apart, is_other, repeated, unknown_keys}

pub same_is : (xs ys : List ℕ) → pointwise nat_eq xs ys ≡ true → xs ≡ ys
same_is [] [] e = refl
same_is [] (y ∷ ys) e = cc e
same_is (x ∷ xs) [] e = cc e
same_is (x ∷ xs) (y ∷ ys) e =
    let parts = and_parts (nat_eq x y) (pointwise nat_eq xs ys) e in
    let first : x ≡ y = eqb-true x y parts.0 in
    let rest : xs ≡ ys = same_is xs ys parts.1 in
    cc (first, rest)

-- the entries of a table that are left without these keys
abbrev pub left : List Field → Entries → Entries
left [] entries = entries
left (f ∷ fs) entries = left fs (without f.name entries)

-- ---- one entry of a table

-- the fields of other names
abbrev fields_besides : List ℕ → List Field → List Field
fields_besides name fs = filter (λ f. not (pointwise nat_eq name f.name)) fs

besides-other : (name : List ℕ) (fs : List Field) → is_other name fs ≡ true → fields_besides name fs ≡ fs
besides-other name [] other = refl
besides-other name (f ∷ fs) other =
    let parts = and_parts (not (pointwise nat_eq name f.name)) (is_other name fs) other in
    rw parts.0 (ap (λ rest. f ∷ rest) (besides-other name fs parts.1))

-- a name is none of the fields of other names exactly where it is none of all fields, or is that other name
other_by : (name other : List ℕ) (f : Field) (fs : List Field) (taken here : Bool)
    → pointwise nat_eq other f.name ≡ taken → pointwise nat_eq name other ≡ here
    → is_other name (fields_besides other fs) ≡ is_other name fs || pointwise nat_eq name other
    → is_other name (fields_besides other (f ∷ fs)) ≡ is_other name (f ∷ fs) || pointwise nat_eq name other
other_by name other f fs true here taken is rest =
    let same : other ≡ f.name = same_is other f.name taken in
    rw taken (rest
    ∙ subst (λ n. is_other name fs || pointwise nat_eq name other
    ≡ (not (pointwise nat_eq name n) && is_other name fs) || pointwise nat_eq name other) same
    (absorbed (is_other name fs) (pointwise nat_eq name other)))
  where
    absorbed : (o p : Bool) → o || p ≡ (not p && o) || p
    absorbed true true = refl
    absorbed true false = refl
    absorbed false true = refl
    absorbed false false = refl
other_by name other f fs false true taken is rest =
    let same : name ≡ other = same_is name other is in
    let apart : pointwise nat_eq name f.name ≡ false =
    subst (λ n. pointwise nat_eq n f.name ≡ false) (sym same) taken in
    rw taken (rw apart rest)
other_by name other f fs false false taken is rest =
    rw taken (ap (λ b. not (pointwise nat_eq name f.name) && b)
    (rest ∙ ap (λ b. is_other name fs || b) is ∙ or_false (is_other name fs))
    ∙ sym (ap (λ b. (not (pointwise nat_eq name f.name) && is_other name fs) || b) is
    ∙ or_false (not (pointwise nat_eq name f.name) && is_other name fs)))
  where
    or_false : (b : Bool) → b || false ≡ b
    or_false true = refl
    or_false false = refl

other_besides : (name other : List ℕ) (fs : List Field)
    → is_other name (fields_besides other fs) ≡ is_other name fs || pointwise nat_eq name other
other_besides name other [] = refl
other_besides name other (f ∷ fs) =
    other_by name other f fs (pointwise nat_eq other f.name) (pointwise nat_eq name other) refl refl
    (other_besides name other fs)

besides_apart : (name : List ℕ) (fs : List Field) → are_apart fs ≡ true → are_apart (fields_besides name fs) ≡ true
besides_apart name [] apart = refl
besides_apart name (f ∷ fs) apart =
    let parts = and_parts (is_other f.name fs) (are_apart fs) apart in
    by_name (pointwise nat_eq name f.name)
    (other_besides f.name name fs ∙ ap (λ b. b || pointwise nat_eq f.name name) parts.0)
    (besides_apart name fs parts.1)
  where
    by_name : (b : Bool) → is_other f.name (fields_besides name fs) ≡ true → are_apart (fields_besides name fs) ≡ true
        → are_apart (cond (not b) (f ∷ fields_besides name fs) (fields_besides name fs)) ≡ true
    by_name true other rest = rest
    by_name false other rest = rw other rest

-- what is left of a table with one entry more in front: that entry too where its key is unknown, and else what is left
-- of the others without that one field
left-other : (fs : List Field) (e : Key × Value) (es : Entries) → is_other e.0.name fs ≡ true
    → left fs (e ∷ es) ≡ e ∷ left fs es
unfolding without
left-other [] e es other = refl
left-other (f ∷ fs) e es other =
    let parts = and_parts (not (pointwise nat_eq e.0.name f.name)) (is_other e.0.name fs) other in
    let kept : without f.name (e ∷ es) ≡ e ∷ without f.name es =
    rw (not-true (pointwise nat_eq e.0.name f.name) parts.0) refl in
    ap (left fs) kept ∙ left-other fs e (without f.name es) parts.1

known_later : (here later : Bool) → here ≡ false → not here && later ≡ false → later ≡ false
known_later true later e known = cc e
known_later false later e known = known

known_by : (f : Field) (fs : List Field) (e : Key × Value) (es : Entries) (here : Bool)
    → pointwise nat_eq e.0.name f.name ≡ here → is_other f.name fs ≡ true
    → is_other e.0.name (f ∷ fs) ≡ false
    → (is_other e.0.name fs ≡ false
    → left fs (e ∷ without f.name es) ≡ left (fields_besides e.0.name fs) (without f.name es))
    → left fs (without f.name (e ∷ es)) ≡ left (fields_besides e.0.name (f ∷ fs)) es
unfolding without
known_by f fs e es true is apart known more =
    let rest : is_other e.0.name fs ≡ true =
    subst (λ n. is_other n fs ≡ true) (sym (same_is e.0.name f.name is)) apart in
    let taken : without f.name (e ∷ es) ≡ es = rw is refl in
    let fewer : fields_besides e.0.name (f ∷ fs) ≡ fs = rw is (besides-other e.0.name fs rest) in
    ap (left fs) taken ∙ ap (λ gs. left gs es) (sym fewer)
known_by f fs e es false is apart known more =
    let kept : without f.name (e ∷ es) ≡ e ∷ without f.name es = rw is refl in
    let as_many : fields_besides e.0.name (f ∷ fs) ≡ f ∷ fields_besides e.0.name fs = rw is refl in
    ap (left fs) kept
    ∙ (more (known_later (pointwise nat_eq e.0.name f.name) (is_other e.0.name fs) is known)
    ∙ ap (λ gs. left gs es) (sym as_many))

left-known : (fs : List Field) (e : Key × Value) (es : Entries) → are_apart fs ≡ true → is_other e.0.name fs ≡ false
    → left fs (e ∷ es) ≡ left (fields_besides e.0.name fs) es
left-known [] e es apart known = cc known
left-known (f ∷ fs) e es apart known =
    let parts = and_parts (is_other f.name fs) (are_apart fs) apart in
    known_by f fs e es (pointwise nat_eq e.0.name f.name) refl parts.0 known
    (λ later. left-known fs e (without f.name es) parts.1 later)

left_first : (fs : List Field) (e : Key × Value) (es : Entries) → are_apart fs ≡ true
    → left fs (e ∷ es)
    ≡ cond (is_other e.0.name fs) (e ∷ left (fields_besides e.0.name fs) es) (left (fields_besides e.0.name fs) es)
left_first fs e es apart = by_other (is_other e.0.name fs) refl
  where
    by_other : (b : Bool) → is_other e.0.name fs ≡ b
        → left fs (e ∷ es) ≡ cond b (e ∷ left (fields_besides e.0.name fs) es) (left (fields_besides e.0.name fs) es)
    by_other true is = left-other fs e es is ∙ ap (λ gs. e ∷ left gs es) (sym (besides-other e.0.name fs is))
    by_other false is = left-known fs e es apart is

left_nothing : (fs : List Field) → left fs [] ≡ []
unfolding without
left_nothing [] = refl
left_nothing (f ∷ fs) = left_nothing fs

-- ---- a property of all entries that are left holds of all unknown keys, and conversely

-- the entries whose key is none of these fields
abbrev of_others : List Field → Entries → Entries
of_others fs es = filter (λ e. is_other e.0.name fs) es

-- the entries whose key is none of these fields, or has this name
abbrev with_name : List ℕ → List Field → Entries → Entries
with_name name fs es = filter (λ e. is_other e.0.name fs || has_name name e) es

with_name-is : (name : List ℕ) (fs : List Field) (es : Entries)
    → of_others (fields_besides name fs) es ≡ with_name name fs es
with_name-is name fs es =
    filter_agree (λ e. is_other e.0.name (fields_besides name fs)) (λ e. is_other e.0.name fs || has_name name e)
    (λ e. other_besides e.0.name name fs) es

module _ {X : Type 0} (P : X → Type 0) where
  all_prefix : (xs ys : List X) → AllByRecursion P (xs ++ ys) → AllByRecursion P xs
  all_prefix [] ys all = tt
  all_prefix (x ∷ xs) ys all = (all.0, all_prefix xs ys all.1)

  all_rest : (xs ys : List X) → AllByRecursion P (xs ++ ys) → AllByRecursion P ys
  all_rest [] ys all = all
  all_rest (x ∷ xs) ys all = all_rest xs ys all.1

  either_by : (a b : Bool) (x : X) (ones others either : List X) → AllByRecursion P (cond a (x ∷ ones) ones)
      → AllByRecursion P (cond b (x ∷ others) others)
      → (AllByRecursion P ones → AllByRecursion P others → AllByRecursion P either)
      → AllByRecursion P (cond (a || b) (x ∷ either) either)
  either_by true true x ones others either one other more = (one.0, more one.1 other.1)
  either_by true false x ones others either one other more = (one.0, more one.1 other)
  either_by false true x ones others either one other more = (other.0, more one other.1)
  either_by false false x ones others either one other more = more one other

  all_either : (a b : X → Bool) (xs : List X) → AllByRecursion P (filter a xs) → AllByRecursion P (filter b xs)
      → AllByRecursion P (filter (λ x. a x || b x) xs)
  all_either a b [] one other = tt
  all_either a b (x ∷ xs) one other =
      either_by (a x) (b x) x (filter a xs) (filter b xs) (filter (λ y. a y || b y) xs) one other (all_either a b xs)

  one_by : (a b : Bool) (x : X) (ones either : List X) → AllByRecursion P (cond (a || b) (x ∷ either) either)
      → (AllByRecursion P either → AllByRecursion P ones)
      → AllByRecursion P (cond a (x ∷ ones) ones)
  one_by true b x ones either all more = (all.0, more all.1)
  one_by false true x ones either all more = more all.1
  one_by false false x ones either all more = more all

  all_one : (a b : X → Bool) (xs : List X) → AllByRecursion P (filter (λ x. a x || b x) xs)
      → AllByRecursion P (filter a xs)
  all_one a b [] all = tt
  all_one a b (x ∷ xs) all = one_by (a x) (b x) x (filter a xs) (filter (λ y. a y || b y) xs) all (all_one a b xs)

  other_one_by : (a b : Bool) (x : X) (others either : List X) → AllByRecursion P (cond (a || b) (x ∷ either) either)
      → (AllByRecursion P either → AllByRecursion P others)
      → AllByRecursion P (cond b (x ∷ others) others)
  other_one_by true true x others either all more = (all.0, more all.1)
  other_one_by true false x others either all more = more all.1
  other_one_by false true x others either all more = (all.0, more all.1)
  other_one_by false false x others either all more = more all

  all_other : (a b : X → Bool) (xs : List X) → AllByRecursion P (filter (λ x. a x || b x) xs)
      → AllByRecursion P (filter b xs)
  all_other a b [] all = tt
  all_other a b (x ∷ xs) all =
      other_one_by (a x) (b x) x (filter b xs) (filter (λ y. a y || b y) xs) all (all_other a b xs)

module _ (P : Key × Value → Type 0) where
  -- behind an entry in front: the keys that are unknown without its field, and those that have its name
  put : (name : List ℕ) (fs : List Field) (es : Entries) → AllByRecursion P (unknown_keys (fields_besides name fs) es)
      → AllByRecursion P (of_others fs es ++ (filter (has_name name) es ++ repeated es))
  put name fs es all =
      let some =
      subst (AllByRecursion P) (with_name-is name fs es)
      (all_prefix P (of_others (fields_besides name fs) es) (repeated es) all) in
      let rest = all_rest P (of_others (fields_besides name fs) es) (repeated es) all in
      let others = all_one P (λ e. is_other e.0.name fs) (has_name name) es some in
      let named = all_other P (λ e. is_other e.0.name fs) (has_name name) es some in
      all_append P (of_others fs es) (filter (has_name name) es ++ repeated es) others
      (all_append P (filter (has_name name) es) (repeated es) named rest)

  take : (name : List ℕ) (fs : List Field) (es : Entries)
      → AllByRecursion P (of_others fs es ++ (filter (has_name name) es ++ repeated es))
      → AllByRecursion P (unknown_keys (fields_besides name fs) es)
  take name fs es all =
      let others = all_prefix P (of_others fs es) (filter (has_name name) es ++ repeated es) all in
      let behind = all_rest P (of_others fs es) (filter (has_name name) es ++ repeated es) all in
      let named = all_prefix P (filter (has_name name) es) (repeated es) behind in
      let some = all_either P (λ e. is_other e.0.name fs) (has_name name) es others named in
      all_append P (of_others (fields_besides name fs) es) (repeated es)
      (subst (AllByRecursion P) (sym (with_name-is name fs es)) some)
      (all_rest P (filter (has_name name) es) (repeated es) behind)

  unknown_by : (other : Bool) (e : Key × Value) (fs : List Field) (es rest : Entries)
      → AllByRecursion P (cond other (e ∷ rest) rest)
      → (AllByRecursion P rest → AllByRecursion P (unknown_keys (fields_besides e.0.name fs) es))
      → AllByRecursion P
      (cond other (e ∷ of_others fs es) (of_others fs es) ++ (filter (has_name e.0.name) es ++ repeated es))
  unknown_by true e fs es rest all more = (all.0, put e.0.name fs es (more all.1))
  unknown_by false e fs es rest all more = put e.0.name fs es (more all)

  each_unknown : (fs : List Field) (es : Entries) → are_apart fs ≡ true → AllByRecursion P (left fs es)
      → AllByRecursion P (unknown_keys fs es)
  each_unknown fs [] apart all = tt
  each_unknown fs (e ∷ es) apart all =
      unknown_by (is_other e.0.name fs) e fs es (left (fields_besides e.0.name fs) es)
      (subst (AllByRecursion P) (left_first fs e es apart) all)
      (each_unknown (fields_besides e.0.name fs) es (besides_apart e.0.name fs apart))

  left_by : (other : Bool) (e : Key × Value) (fs : List Field) (es rest : Entries)
      → AllByRecursion P
      (cond other (e ∷ of_others fs es) (of_others fs es) ++ (filter (has_name e.0.name) es ++ repeated es))
      → (AllByRecursion P (unknown_keys (fields_besides e.0.name fs) es) → AllByRecursion P rest)
      → AllByRecursion P (cond other (e ∷ rest) rest)
  left_by true e fs es rest all more = (all.0, more (take e.0.name fs es all.1))
  left_by false e fs es rest all more = more (take e.0.name fs es all)

  each_left : (fs : List Field) (es : Entries) → are_apart fs ≡ true → AllByRecursion P (unknown_keys fs es)
      → AllByRecursion P (left fs es)
  each_left fs [] apart all = subst (AllByRecursion P) (sym (left_nothing fs)) tt
  each_left fs (e ∷ es) apart all =
      subst (AllByRecursion P) (sym (left_first fs e es apart))
      (left_by (is_other e.0.name fs) e fs es (left (fields_besides e.0.name fs) es) all
      (each_left (fields_besides e.0.name fs) es (besides_apart e.0.name fs apart)))

-- ---- the faults of the entries that are left are those of the unknown keys

mapped : (P : ConfigFault → Type 0) (es : Entries) → AllByRecursion (λ e. P (unknown e)) es
    → AllByRecursion P (map unknown es)
mapped P [] all = tt
mapped P (e ∷ es) all = (all.0, mapped P es all.1)

unmapped : (P : ConfigFault → Type 0) (es : Entries) → AllByRecursion P (map unknown es)
    → AllByRecursion (λ e. P (unknown e)) es
unmapped P [] all = tt
unmapped P (e ∷ es) all = (all.0, unmapped P es all.1)

found : (kept : List ConfigFault) (xs ys : Entries)
    → ((P : Key × Value → Type 0) → AllByRecursion P ys → AllByRecursion P xs)
    → (f : ConfigFault) → Contains (kept ++ map unknown xs) f → Contains (kept ++ map unknown ys) f
found kept xs ys covers f is = elim (Contains-append_cases kept (map unknown xs) f is) [
  | inl before ↦ Contains-append_left kept (map unknown ys) f before
  | inr after ↦
      let there = Contains (map unknown ys) in
      let themselves =
      unmapped there ys (recursion_from_All there (map unknown ys) (All-contains_itself (map unknown ys))) in
      Contains-append_right kept (map unknown ys) f
      (All-contains there (map unknown xs) f
      (All-from_recursion there (map unknown xs) (mapped there xs (covers (λ e. there (unknown e)) themselves)))
      after)
]

pub left_unknown : (kept : List ConfigFault) (fs : List Field) (es : Entries) → are_apart fs ≡ true
    → in_order (kept ++ map unknown (left fs es)) ≡ in_order (kept ++ map unknown (unknown_keys fs es))
left_unknown kept fs es apart =
    let lists = in_order-lists (kept ++ map unknown (left fs es)) in
    in_order-only (kept ++ map unknown (unknown_keys fs es)) (in_order (kept ++ map unknown (left fs es))) (
    record {
      ascending = lists.ascending;
      whole =
          λ f is. lists.whole f (found kept (unknown_keys fs es) (left fs es) (λ P. each_unknown P fs es apart) f is);
      sound = λ f is. found kept (left fs es) (unknown_keys fs es) (λ P. each_left P fs es apart) f (lists.sound f is);
    })
