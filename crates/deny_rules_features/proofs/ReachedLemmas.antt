-- Chains of steps on numbers are chains of plain entries on texts.
use Rattle.std.proofs.Common.{◌≡◌, ℕ, zero, suc, ◌<◌, Bool, true, false, List, [], Option, Some, None, map, is_some}
use Rattle.std.proofs.Common.{length, refl, sym, ap, ◌∙◌, subst, subst₂, arith}
use Rattle.std.specs.Prelude.{IsTrue, All, Contains, cond, filter_map, slice_get, slice_index_or}
use Rattle.std.specs.FinMap as finite
use Rattle.std.specs.Cmp.Lexicographic.{bytes_decides}
use Rattle.std.specs.List.{flat_map, range_with_len}
use Rattle.std.proofs.lemmas.Cmp.{nat_list_eq_equiv}
use Rattle.std.proofs.lemmas.List.{length-map}
use Rattle.std.proofs.lemmas.List.FromFn.{get_or-range_with_len, length-range_with_len}
use Rattle.std.proofs.lemmas.Option.{get_or_from_slice_get, none-some, slice_get-get_or, slice_get_within}
use Rattle.deny_base_lists.proofs.Members.{Contains-filter, Contains-filter_map, Contains-flat_map}
use Rattle.deny_base_lists.proofs.Members.{Contains-from_filter, Contains-from_flat_map, any_from, any_passes}
use Rattle.deny_base_lists.proofs.Members.{from_filter_map, from_there, map_at, no_member, one_there}
use Rattle.deny_base_lists.specs.TextMap.{TextFinMap}
use Rattle.deny_base_lists.specs.Walk.{AreMarks, Chain, IsReached, StaysBelow}
use Rattle.deny_spec.specs.Graph.{Crate}
use Rattle.deny_spec.specs.Policy.{SpannedText}
use Rattle.deny_spec.specs.Text.{same_text}
use Rattle.deny_spec_report.specs.Features.{LeadsTo, Reaches, step, on, is_plain}
use Rattle.deny_rules_match.specs.Marks.{mark_at}
use Rattle.deny_rules_features.specs.private.Reached.{AreReachedByTable, IsReachedBy, IsSetOf, led_to_by}
use Rattle.deny_rules_features.specs.private.Steps.{AreNames, AreNumbers, enables, plain_number, plain_of, row_of}

never : false ≡ true → ⊥
never is = (cc)

-- ---- the entries of a table

module _ (features : TextFinMap (List (List ℕ))) (c : Crate) (of : c.features ≡ features) where
  leads_by : (name other : List ℕ) → Contains (enables features name) other → is_plain other ≡ true
      → LeadsTo c name other
  leads_by name other one plain = by_got (finite.get features name) refl one
    where
      by_got : (got : Option (List (List ℕ))) → finite.get features name ≡ got → Contains (enables features name) other
          → LeadsTo c name other
      by_got None is one = absurd (no_member other (rw is at one))
      by_got (Some entries) is one = record {
        entries = entries;
        listed = ap (λ m. finite.get m name) of ∙ is;
        one = rw is at one;
        plain = plain;
      }

  -- a feature that one leads to is an entry of its list in the table
  led_by : (name other : List ℕ) → LeadsTo c name other → Contains (enables features name) other
  led_by name other leads = rw (ap (λ m. finite.get m name) (sym of) ∙ leads.listed) leads.one

  in_table : (name other : List ℕ) → LeadsTo c name other → IsTrue (is_some (finite.get features name))
  in_table name other leads = ap is_some (ap (λ m. finite.get m name) (sym of) ∙ leads.listed)

-- ---- numbers of features

plain_number_of : (numbers : TextFinMap ℕ) (entry : List ℕ) (n : ℕ) → plain_number numbers entry ≡ Some n
    → (is_plain entry ≡ true) × (finite.get numbers entry ≡ Some n)
unfolding plain_number
plain_number_of numbers entry n is = by_test (is_plain entry) refl is
  where
    by_test : (b : Bool) → is_plain entry ≡ b → cond b (finite.get numbers entry) None ≡ Some n
        → (is_plain entry ≡ true) × (finite.get numbers entry ≡ Some n)
    by_test true plain is = (plain, is)
    by_test false plain is = absurd (none-some n is)

number_of_plain : (numbers : TextFinMap ℕ) (entry : List ℕ) → is_plain entry ≡ true
    → plain_number numbers entry ≡ finite.get numbers entry
unfolding plain_number
number_of_plain numbers entry plain = ap (λ b. cond b (finite.get numbers entry) None) plain

-- the value of an option that has one
record Got {V : Type 0} (o : Option V) : Type 0 where
  value : V
  is : o ≡ Some value

got : {V : Type 0} (o : Option V) → IsTrue (is_some o) → Got o
got None some = absurd (never some)
got (Some v) some = record { value = v; is = refl }

in_range : (n k : ℕ) → k < n → Contains (range_with_len 0 n) k
in_range n k inside =
    (k, omega (arith, length-range_with_len 0 n, inside), omega (arith, get_or-range_with_len 0 n k k inside))

from_span : (n k : ℕ) → Contains (range_with_len 0 n) k → k < n
from_span n k is =
    let inside : is.0 < n = omega (arith, is.1, length-range_with_len 0 n) in
    omega (arith, inside, is.2, get_or-range_with_len 0 n is.0 k inside)

module _ (features : TextFinMap (List (List ℕ))) (names : List (List ℕ)) (numbers : TextFinMap ℕ)
    (named : AreNames features names) (numbered : AreNumbers names numbers) where
  abbrev rows : List (List ℕ)
  rows = map (row_of features numbers) names

  abbrev leads : ℕ → ℕ → Type 0
  leads n = Contains (slice_index_or rows n [])

  row_at : (n : ℕ) (name : List ℕ) → slice_get names n ≡ Some name
      → slice_index_or rows n [] ≡ row_of features numbers name
  row_at n name at = get_or_from_slice_get rows n (row_of features numbers name) []
      (map_at (row_of features numbers) names n name at)

  -- a step on numbers is a step along a plain entry
  record StepTo (name : List ℕ) (m : ℕ) : Type 0 where
    other : List ℕ
    at : slice_get names m ≡ Some other
    listed : Contains (enables features name) other
    plain : is_plain other ≡ true

  steps_to : (n m : ℕ) (name : List ℕ) → slice_get names n ≡ Some name → leads n m → StepTo name m
  unfolding row_of
  steps_to n m name at led =
      let given = from_filter_map (plain_number numbers) (enables features name) m
      (subst (λ (row : List ℕ). Contains row m) (row_at n name at) led) in
      let is = plain_number_of numbers given.from m given.gives in
      record {
        other = given.from;
        at = numbered.sound given.from m is.1;
        listed = given.member;
        plain = is.0;
      }

  -- steps from a number of the table lead to numbers of the table alone
  stays : StaysBelow leads (length names)
  stays n m inside led =
      let to = steps_to n m (slice_index_or names n []) (slice_get-get_or names n [] inside) led in
      slice_get_within names m to.other to.at

  roots_inside : (listed : List SpannedText)
      → All (λ root. root < length names) (filter_map (λ w. finite.get numbers w.value) listed)
  roots_inside listed k d inside =
      let given = from_filter_map (λ (w : SpannedText). finite.get numbers w.value) listed
      (slice_index_or (filter_map (λ w. finite.get numbers w.value) listed) k d) (within _ k d inside) in
      slice_get_within names _ given.from.value (numbered.sound given.from.value _ given.gives)
    where
      within : (xs : List ℕ) (k d : ℕ) → k < length xs → Contains xs (slice_index_or xs k d)
      within xs k d inside = from_there xs k (slice_index_or xs k d) (slice_get-get_or xs k d inside)

  -- rows and roots, as the code has them, stay among the numbers of the table
  pub stays_in : (rs : List (List ℕ)) → rs ≡ rows → StaysBelow (λ n. Contains (slice_index_or rs n [])) (length rs)
  stays_in rs is = subst (λ (all : List (List ℕ)). StaysBelow (λ n. Contains (slice_index_or all n [])) (length all))
      (sym is)
      (subst (λ (count : ℕ). StaysBelow leads count) (sym (length-map names (row_of features numbers))) stays)

  pub roots_in : (rs : List (List ℕ)) (starts : List ℕ) (listed : List SpannedText) → rs ≡ rows
      → starts ≡ filter_map (λ w. finite.get numbers w.value) listed → All (λ root. root < length rs) starts
  roots_in rs starts listed is are =
      let long : length names ≡ length rs =
      sym (length-map names (row_of features numbers)) ∙ ap (λ (all : List (List ℕ)). length all) (sym is) in
      subst₂ (λ (count : ℕ) (from : List ℕ). All (λ root. root < count) from) long (sym are) (roots_inside listed)

  -- ---- from chains of numbers to chains of features

  goes : (c : Crate) → c.features ≡ features → (steps n m : ℕ) (name last other : List ℕ)
      → slice_get names n ≡ Some name
      → slice_get names m ≡ Some last → Chain leads n m steps → Contains (plain_of features last) other
      → Reaches c name other
  goes c of zero n m name last other at end chain one =
      let is = Contains-from_filter is_plain (enables features last) other one in
      let same : last ≡ name = one_there names n last name (ap (slice_get names) chain ∙ end) at in
      subst (λ (from : List ℕ). Reaches c from other) same
      (step last other (leads_by features c of last other is.0 is.1))
  goes c of (suc steps) n m name last other at end chain one =
      let to = steps_to n chain.0 name at chain.1 in
      on name to.other other (leads_by features c of name to.other to.listed to.plain)
      (goes c of steps chain.0 m to.other last other to.at end chain.2 one)

  -- ---- from chains of features to chains of numbers

  -- a chain of numbers leads from a feature to one that has the other as a plain entry
  record Comes (name other : List ℕ) : Type 0 where
    number : ℕ
    of : finite.get numbers name ≡ Some number
    steps : ℕ
    end : ℕ
    chain : Chain leads number end steps
    last : List ℕ
    at : slice_get names end ≡ Some last
    one : Contains (plain_of features last) other

  number_of : (name : List ℕ) → IsTrue (is_some (finite.get features name)) → Got (finite.get numbers name)
  number_of name known = got (finite.get numbers name) (numbered.whole name ((named.each name).1 known))

  leads_on : (c : Crate) → c.features ≡ features → (name middle : List ℕ) (n m : ℕ) → LeadsTo c name middle
      → finite.get numbers name ≡ Some n → finite.get numbers middle ≡ Some m → leads n m
  unfolding row_of
  leads_on c of name middle n m leads from to =
      subst (λ (row : List ℕ). Contains row m) (sym (row_at n name (numbered.sound name n from)))
      (Contains-filter_map (plain_number numbers) (enables features name) middle m
      (led_by features c of name middle leads) (number_of_plain numbers middle leads.plain ∙ to))

  comes : (c : Crate) → c.features ≡ features → (name other : List ℕ) → Reaches c name other → Comes name other
  comes c of _ _ (step name other leads) =
      let first = number_of name (in_table features c of name other leads) in
      record {
        number = first.value;
        of = first.is;
        steps = 0;
        end = first.value;
        chain = refl;
        last = name;
        at = numbered.sound name first.value first.is;
        one = Contains-filter is_plain (enables features name) other
            (led_by features c of name other leads) leads.plain;
      }
  comes c of _ _ (on name middle other leads rest) =
      let first = number_of name (in_table features c of name middle leads) in
      let then = comes c of middle other rest in
      record {
        number = first.value;
        of = first.is;
        steps = suc then.steps;
        end = then.end;
        chain = (then.number, leads_on c of name middle first.value then.number leads first.is then.of, then.chain);
        last = then.last;
        at = then.at;
        one = then.one;
      }

  -- ---- the features that are reached

  module _ (listed : List SpannedText) (marks : List Bool) (set : TextFinMap Bool)
      (marked : AreMarks leads (length names) (filter_map (λ w. finite.get numbers w.value) listed) marks)
      (is_set : IsSetOf (flat_map (led_to_by features names marks) (range_with_len 0 (length names))) set) where
    abbrev texts : List (List ℕ)
    texts = flat_map (led_to_by features names marks) (range_with_len 0 (length names))

    abbrev roots : List ℕ
    roots = filter_map (λ w. finite.get numbers w.value) listed

    is_whole : (c : Crate) (feature : List ℕ) (w : SpannedText) → c.features ≡ features → Contains listed w
        → Reaches c w.value feature → IsTrue (is_some (finite.get set feature))
    unfolding led_to_by
    is_whole c feature w of one reaches =
        let led = comes c of w.value feature reaches in
        let root = Contains-filter_map (λ (v : SpannedText). finite.get numbers v.value) listed w led.number one
        led.of in
        let is_marked : mark_at marks led.end ≡ true = (marked.each led.end).1 (record {
          steps = led.steps;
          led = record { root = led.number; is_root = root; chain = led.chain };
        }) in
        let inside = slice_get_within names led.end led.last led.at in
        let here : Contains (led_to_by features names marks led.end) feature =
        subst (λ b. Contains (cond b (plain_of features (slice_index_or names led.end [])) []) feature) (sym is_marked)
        (subst (λ (name : List ℕ). Contains (plain_of features name) feature)
        (sym (get_or_from_slice_get names led.end led.last [] led.at)) led.one) in
        is_set.each feature
        ∙ any_from (same_text feature) texts feature
        (Contains-flat_map (led_to_by features names marks) (range_with_len 0 (length names)) led.end feature
        (in_range (length names) led.end inside) here)
        (nat_list_eq_equiv.refl feature)

    is_sound : (feature : List ℕ) → IsTrue (is_some (finite.get set feature)) → IsReachedBy features listed feature
    unfolding led_to_by
    is_sound feature held =
        let found = any_passes (same_text feature) texts (sym (is_set.each feature) ∙ held) in
        let same : feature ≡ found.one = (bytes_decides feature found.one).0 found.passes in
        let of = Contains-from_flat_map (led_to_by features names marks) (range_with_len 0 (length names)) found.one
        found.member in
        by_mark of.from (from_span (length names) of.from of.member) (mark_at marks of.from) refl
        (subst (Contains (led_to_by features names marks of.from)) (sym same) of.of)
      where
        by_root : (n : ℕ) → IsReached leads roots n → (last : List ℕ) → slice_get names n ≡ Some last
            → Contains (plain_of features last) feature → IsReachedBy features listed feature
        by_root n reached last at one =
            let given = from_filter_map
            (λ (v : SpannedText). finite.get numbers v.value) listed reached.led.root reached.led.is_root in
            record {
              name = given.from;
              one = given.member;
              reaches = λ c of. goes c of reached.steps reached.led.root n given.from.value last feature
                  (numbered.sound given.from.value reached.led.root given.gives) at reached.led.chain one;
            }

        by_mark : (n : ℕ) → n < length names → (b : Bool) → mark_at marks n ≡ b
            → Contains (cond b (plain_of features (slice_index_or names n [])) []) feature
            → IsReachedBy features listed feature
        by_mark n inside false is one = absurd (no_member feature one)
        by_mark n inside true is one =
            by_root n ((marked.each n).0 is) (slice_index_or names n []) (slice_get-get_or names n [] inside) one

    pub are_reached : AreReachedByTable features listed set
    are_reached = record { whole = is_whole; sound = is_sound }

  pub marks_are : (rs : List (List ℕ)) (starts : List ℕ) (listed : List SpannedText) (marks : List Bool) → rs ≡ rows
      → starts ≡ filter_map (λ w. finite.get numbers w.value) listed
      → AreMarks (λ n. Contains (slice_index_or rs n [])) (length rs) starts marks
      → AreMarks leads (length names) (filter_map (λ w. finite.get numbers w.value) listed) marks
  marks_are rs starts listed marks is are marked =
      let of_rows : AreMarks leads (length rows) (filter_map (λ w. finite.get numbers w.value) listed) marks =
      subst₂ (λ (all : List (List ℕ)) (from : List ℕ). AreMarks (λ n. Contains (slice_index_or all n [])) (length all)
      from marks) is are marked in
      subst (λ (count : ℕ). AreMarks leads count (filter_map (λ w. finite.get numbers w.value) listed) marks)
      (length-map names (row_of features numbers)) of_rows
