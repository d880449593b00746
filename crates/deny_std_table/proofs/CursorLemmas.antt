-- The items that are left.
use Rattle.std.proofs.Common.{◌≡◌, ℕ, zero, suc, ◌-◌, ◌<◌, List, [], ◌∷◌, ◌++◌, map, Result, Ok, refl, sym, ap, ◌∙◌}
use Rattle.std.proofs.Common.{arith, subst, subst₂, append_assoc}
use Rattle.std.specs.Prelude.{flat_map}
use Rattle.deny_std_table.specs.declared.error.ReplacementError.{ReplacementError}
use Rattle.deny_std_table.specs.declared.spans.ApiSpans.{ApiSpans}
use Rattle.deny_std_table.specs.declared.spans.ReplacementSpans.{ReplacementSpans}
use Rattle.deny_std_table.specs.declared.spans.ItemSpans.{ItemSpans}
use Rattle.deny_std_table.specs.declared.spans.ItemSpans.TheVariants.{Stable, Unstable, Unavailable}
use Rattle.deny_std_table.specs.declared.spans.GroupHead.{GroupHead}
use Rattle.deny_std_table.specs.declared.spans.Counts.{Counts}
use Rattle.deny_std_table.specs.declared.spans.Read.{Read}
use Rattle.deny_std_table.specs.Reading.{read, many}
use Rattle.deny_std_table.specs.Region.{Bounds, Group, Items, api, replacement, group_head, group, counted_items}
use Rattle.deny_std_table.specs.Item.{group_items, items_of}
use Rattle.deny_std_table.specs.Cursor.{coming}
use Rattle.deny_std_table.proofs.LayoutLemmas.{bind-ok}
use Rattle.deny_base_lists.proofs.Equalities.{subst₃}

-- a row with at least one part: the first part and the others
many-first : {A : Type 0} (reader : ℕ → Result (Read A) ReplacementError) (left at : ℕ) (all : Read (List A))
    → many reader (suc left) at ≡ Ok all
    → (first : Read A) × (reader at ≡ Ok first) × (others : Read (List A)) × (many reader left first.next ≡ Ok others)
    × (read (first.value ∷ others.value) others.next ≡ all)
unfolding many
many-first reader left at all is =
    let first = bind-ok (reader at) _ all is in
    let others = bind-ok (many reader left first.0.next) _ all first.2 in
    (first.0, first.1, others.0, others.1, cc)

many-zero : {A : Type 0} (reader : ℕ → Result (Read A) ReplacementError) (at : ℕ)
    → many reader zero at ≡ Ok (read [] at)
unfolding many
many-zero reader at = refl

pub ok-is : {A : Type 0} {x y : A} (e : Result A ReplacementError) → e ≡ Ok x → e ≡ Ok y → x ≡ y
ok-is e first second = cc

zero-is : {A : Type 0} (reader : ℕ → Result (Read A) ReplacementError) (at : ℕ) (all : Read (List A))
    → many reader zero at ≡ Ok all → read [] at ≡ all
unfolding many
zero-is reader at all is = cc

-- The items that are left, part by part.
record IsComing (b : Bounds) (minor stable : ℕ) (counts : Counts) (at : ℕ) (items : List ItemSpans) : Type 0 where
  pub own : Read (List ReplacementSpans)
  pub others : Read (List Group)
  pub unstable : Read (List ReplacementSpans)
  pub unavailable : Read (List ApiSpans)
  pub own_read : many (replacement b) stable at ≡ Ok own
  pub others_read : many (group b) counts.groups own.next ≡ Ok others
  pub unstable_read : many (replacement b) counts.unstable others.next ≡ Ok unstable
  pub unavailable_read : many (api b) counts.unavailable unstable.next ≡ Ok unavailable
  pub all : map (λ r. Stable r minor) own.value
      ++ (flat_map group_items others.value ++ map Unstable unstable.value ++ map Unavailable unavailable.value) ≡ items

coming-parts : (b : Bounds) (minor stable : ℕ) (counts : Counts) (at : ℕ) (items : List ItemSpans)
    → coming b minor stable counts at ≡ Ok items → IsComing b minor stable counts at items
unfolding coming counted_items
coming-parts b minor stable counts at items is =
    let own = bind-ok (many (replacement b) stable at) _ items is in
    let rest = bind-ok (counted_items b counts own.0.next) _ items own.2 in
    let others = bind-ok (many (group b) counts.groups own.0.next) _ rest.0 rest.1 in
    let unstable = bind-ok (many (replacement b) counts.unstable others.0.next) _ rest.0 others.2 in
    let unavailable = bind-ok (many (api b) counts.unavailable unstable.0.next) _ rest.0 unstable.2 in
    let same : read (record { groups = others.0.value; unstable = unstable.0.value; unavailable = unavailable.0.value })
    unavailable.0.next ≡ rest.0 = cc in
    let whole : map (λ r. Stable r minor) own.0.value ++ items_of rest.0.value ≡ items = cc in
    record {
      own = own.0;
      others = others.0;
      unstable = unstable.0;
      unavailable = unavailable.0;
      own_read = own.1;
      others_read = others.1;
      unstable_read = unstable.1;
      unavailable_read = unavailable.1;
      all = ap (λ (r : Read Items). map (λ p. Stable p minor) own.0.value ++ items_of r.value) same ∙ whole;
    }

coming-whole : (b : Bounds) (minor stable : ℕ) (counts : Counts) (at : ℕ) (items : List ItemSpans)
    → IsComing b minor stable counts at items → coming b minor stable counts at ≡ Ok items
unfolding coming counted_items
coming-whole b minor stable counts at items is =
    rw (is.own_read, is.others_read, is.unstable_read, is.unavailable_read) (ap Ok is.all)

-- The items that are left after one item.
pub record IsStep (b : Bounds) (minor stable : ℕ) (counts : Counts) (at : ℕ) (items : List ItemSpans)
    (spans : ItemSpans) : Type 0 where
  pub rest : List ItemSpans
  pub reads : coming b minor stable counts at ≡ Ok rest
  pub item : items ≡ spans ∷ rest

stable_step : (b : Bounds) (minor left : ℕ) (counts : Counts) (at : ℕ) (items : List ItemSpans)
    → IsComing b minor (suc left) counts at items
    → (first : Read ReplacementSpans) × (replacement b at ≡ Ok first) × IsStep b minor left counts first.next items
    (Stable first.value minor)
stable_step b minor left counts at items is =
    let parts = many-first (replacement b) left at is.own is.own_read in
    let later : List ItemSpans = flat_map group_items is.others.value ++ map Unstable is.unstable.value
    ++ map Unavailable is.unavailable.value in (
      parts.0,
      parts.1,
      record {
        rest = map (λ r. Stable r minor) parts.2.value ++ later;
        reads = coming-whole b minor left counts parts.0.next (map (λ r. Stable r minor) parts.2.value ++ later)
            (record {
              own = parts.2;
              others = is.others;
              unstable = is.unstable;
              unavailable = is.unavailable;
              own_read = parts.3;
              others_read = subst
                  (λ (r : Read (List ReplacementSpans)). many (group b) counts.groups r.next ≡ Ok is.others)
                  (sym parts.4) is.others_read;
              unstable_read = is.unstable_read;
              unavailable_read = is.unavailable_read;
              all = refl;
            });
        item = sym is.all ∙ sym
            (ap (λ (r : Read (List ReplacementSpans)). map (λ p. Stable p minor) r.value ++ later) parts.4);
      },
    )

-- where nothing is left of the current group, the other groups follow
others-first : (b : Bounds) (minor : ℕ) (counts : Counts) (at : ℕ) (items : List ItemSpans)
    (is : IsComing b minor 0 counts at items)
    → (many (group b) counts.groups at ≡ Ok is.others)
    × (flat_map group_items is.others.value ++ map Unstable is.unstable.value ++ map Unavailable is.unavailable.value
    ≡ items)
others-first b minor counts at items is =
    let none : read [] at ≡ is.own = zero-is (replacement b) at is.own is.own_read in
    let later : List ItemSpans = flat_map group_items is.others.value ++ map Unstable is.unstable.value
    ++ map Unavailable is.unavailable.value in (
      subst (λ (r : Read (List ReplacementSpans)). many (group b) counts.groups r.next ≡ Ok is.others) (sym none)
          is.others_read,
      subst (λ (r : Read (List ReplacementSpans)). map (λ p. Stable p minor) r.value ++ later ≡ items) (sym none)
          is.all,
    )

unstable_step : (b : Bounds) (minor left unavailable at : ℕ) (items : List ItemSpans)
    → IsComing b minor 0 (record { groups = 0; unstable = suc left; unavailable = unavailable }) at items
    → (first : Read ReplacementSpans) × (replacement b at ≡ Ok first)
    × IsStep b minor 0 (record { groups = 0; unstable = left; unavailable = unavailable }) first.next items
    (Unstable first.value)
unstable_step b minor left unavailable at items is =
    let prefix =
    others-first b minor (record { groups = 0; unstable = suc left; unavailable = unavailable }) at items is in
    let none : read [] at ≡ is.others = zero-is (group b) at is.others prefix.0 in
    let last : List ItemSpans = map Unavailable is.unavailable.value in
    let here : many (replacement b) (suc left) at ≡ Ok is.unstable =
    subst (λ (r : Read (List Group)). many (replacement b) (suc left) r.next ≡ Ok is.unstable) (sym none)
    is.unstable_read in
    let all : map Unstable is.unstable.value ++ last ≡ items =
    subst (λ (r : Read (List Group)). flat_map group_items r.value ++ map Unstable is.unstable.value ++ last ≡ items)
    (sym none) prefix.1 in
    let parts = many-first (replacement b) left at is.unstable here in (
      parts.0,
      parts.1,
      record {
        rest = map Unstable parts.2.value ++ last;
        reads = coming-whole b minor 0 (record { groups = 0; unstable = left; unavailable = unavailable }) parts.0.next
            (map Unstable parts.2.value ++ last) (record {
              own = read [] parts.0.next;
              others = read [] parts.0.next;
              unstable = parts.2;
              unavailable = is.unavailable;
              own_read = many-zero (replacement b) parts.0.next;
              others_read = many-zero (group b) parts.0.next;
              unstable_read = parts.3;
              unavailable_read = subst
                  (λ (r : Read (List ReplacementSpans)).
                  many (api b) unavailable r.next ≡ Ok is.unavailable) (sym parts.4)
                  is.unavailable_read;
              all = refl;
            });
        item = sym all ∙ sym (ap (λ (r : Read (List ReplacementSpans)). map Unstable r.value ++ last) parts.4);
      },
    )

unavailable_step : (b : Bounds) (minor left at : ℕ) (items : List ItemSpans)
    → IsComing b minor 0 (record { groups = 0; unstable = 0; unavailable = suc left }) at items
    → (first : Read ApiSpans) × (api b at ≡ Ok first)
    × IsStep b minor 0 (record { groups = 0; unstable = 0; unavailable = left }) first.next items
    (Unavailable first.value)
unavailable_step b minor left at items is =
    let prefix = others-first b minor (record { groups = 0; unstable = 0; unavailable = suc left }) at items is in
    let no_groups : read [] at ≡ is.others = zero-is (group b) at is.others prefix.0 in
    let unstable_read : many (replacement b) 0 at ≡ Ok is.unstable =
    subst (λ (r : Read (List Group)). many (replacement b) 0 r.next ≡ Ok is.unstable) (sym no_groups) is.unstable_read
    in
    let no_unstable : read [] at ≡ is.unstable = zero-is (replacement b) at is.unstable unstable_read in
    let here : many (api b) (suc left) at ≡ Ok is.unavailable =
    subst (λ (r : Read (List ReplacementSpans)). many (api b) (suc left) r.next ≡ Ok is.unavailable) (sym no_unstable)
    is.unavailable_read in
    let behind : map Unstable is.unstable.value ++ map Unavailable is.unavailable.value ≡ items =
    subst (λ (r : Read (List Group)). flat_map group_items r.value ++ map Unstable is.unstable.value
    ++ map Unavailable is.unavailable.value ≡ items)
    (sym no_groups) prefix.1 in
    let all : map Unavailable is.unavailable.value ≡ items =
    subst (λ (r : Read (List ReplacementSpans)). map Unstable r.value ++ map Unavailable is.unavailable.value ≡ items)
    (sym no_unstable) behind in
    let parts = many-first (api b) left at is.unavailable here in (
      parts.0,
      parts.1,
      record {
        rest = map Unavailable parts.2.value;
        reads = coming-whole b minor 0 (record { groups = 0; unstable = 0; unavailable = left }) parts.0.next
            (map Unavailable parts.2.value) (record {
              own = read [] parts.0.next;
              others = read [] parts.0.next;
              unstable = read [] parts.0.next;
              unavailable = parts.2;
              own_read = many-zero (replacement b) parts.0.next;
              others_read = many-zero (group b) parts.0.next;
              unstable_read = many-zero (replacement b) parts.0.next;
              unavailable_read = parts.3;
              all = refl;
            });
        item = sym all ∙ sym (ap (λ (r : Read (List ApiSpans)). map Unavailable r.value) parts.4);
      },
    )

-- none is left
pub none_left : (b : Bounds) (minor at : ℕ)
    → coming b minor 0 (record { groups = 0; unstable = 0; unavailable = 0 }) at ≡ Ok []
unfolding coming counted_items many
none_left b minor at = refl

-- a group is its head and its replacements
group-parts : (b : Bounds) (at : ℕ) (whole : Read Group) → group b at ≡ Ok whole
    → (head : Read GroupHead) × (group_head b at ≡ Ok head) × (own : Read (List ReplacementSpans))
    × (many (replacement b) head.value.count head.next ≡ Ok own)
    × (read (record { minor = head.value.minor; replacements = own.value }) own.next ≡ whole)
unfolding group
group-parts b at whole is =
    let head = bind-ok (group_head b at) _ whole is in
    let own = bind-ok (many (replacement b) head.0.value.count head.0.next) _ whole head.2 in
    (head.0, head.1, own.0, own.1, cc)

regrouped : (own later unstable unavailable : List ItemSpans)
    → own ++ (later ++ unstable ++ unavailable) ≡ (own ++ later) ++ unstable ++ unavailable
regrouped own later unstable unavailable = simp append_assoc

-- the next group becomes the current one, with all of its replacements
group_step : (b : Bounds) (minor left unstable unavailable at : ℕ) (items : List ItemSpans)
    → IsComing b minor 0 (record { groups = suc left; unstable = unstable; unavailable = unavailable }) at items
    → (head : Read GroupHead) × (group_head b at ≡ Ok head)
    × (coming b head.value.minor head.value.count
    (record { groups = left; unstable = unstable; unavailable = unavailable }) head.next ≡ Ok items)
group_step b minor left unstable unavailable at items is =
    let prefix = others-first b minor (record { groups = suc left; unstable = unstable; unavailable = unavailable }) at
    items is in
    let parts = many-first (group b) left at is.others prefix.0 in
    let own = group-parts b at parts.0 parts.1 in
    let later : List ItemSpans = map Unstable is.unstable.value ++ map Unavailable is.unavailable.value in
    let all : (group_items parts.0.value ++ flat_map group_items parts.2.value) ++ map Unstable is.unstable.value
    ++ map Unavailable is.unavailable.value ≡ items =
    ap (λ (r : Read (List Group)). flat_map group_items r.value ++ map Unstable is.unstable.value
    ++ map Unavailable is.unavailable.value) parts.4 ∙ prefix.1 in
    let own_items : map (λ r. Stable r own.0.value.minor) own.2.value ≡ group_items parts.0.value =
    ap (λ (r : Read Group). group_items r.value) own.4 in (
      own.0,
      own.1,
      coming-whole b own.0.value.minor own.0.value.count
          (record { groups = left; unstable = unstable; unavailable = unavailable }) own.0.next items (record {
            own = own.2;
            others = parts.2;
            unstable = is.unstable;
            unavailable = is.unavailable;
            own_read = own.3;
            others_read = subst (λ (r : Read Group). many (group b) left r.next ≡ Ok parts.2) (sym own.4) parts.3;
            unstable_read = subst (λ (r : Read (List Group)). many (replacement b) unstable r.next ≡ Ok is.unstable)
                (sym parts.4) is.unstable_read;
            unavailable_read = is.unavailable_read;
            all = ap (λ l. l ++ (flat_map group_items parts.2.value ++ map Unstable is.unstable.value
                ++ map Unavailable is.unavailable.value)) own_items
                ∙ regrouped (group_items parts.0.value) (flat_map group_items parts.2.value)
                (map Unstable is.unstable.value) (map Unavailable is.unavailable.value)
                ∙ all;
          }),
    )

-- all items of an entry are left before its first group
pub coming-begin : (b : Bounds) (minor : ℕ) (counts : Counts) (at : ℕ) (all : Read Items)
    → counted_items b counts at ≡ Ok all → coming b minor 0 counts at ≡ Ok (items_of all.value)
unfolding coming many
coming-begin b minor counts at all is = rw is refl

-- the first item where the counts are not zero

pub stable_gives : (b : Bounds) (minor stable : ℕ) (counts : Counts) (at : ℕ) (items : List ItemSpans) → 0 < stable
    → coming b minor stable counts at ≡ Ok items
    → (first : Read ReplacementSpans) × (replacement b at ≡ Ok first) × IsStep b minor (stable - 1) counts first.next
    items (Stable first.value minor)
stable_gives b minor stable counts at items some is =
    let e : stable ≡ suc (stable - 1) = omega arith in
    stable_step b minor (stable - 1) counts at items
    (coming-parts b minor (suc (stable - 1)) counts at items (subst (λ n. coming b minor n counts at ≡ Ok items) e is))

pub counts_are : (counts : Counts) (groups unstable unavailable : ℕ) → counts.groups ≡ groups
    → counts.unstable ≡ unstable
    → counts.unavailable ≡ unavailable
    → counts ≡ record { groups = groups; unstable = unstable; unavailable = unavailable }
counts_are counts groups unstable unavailable first second third = rw (← first, ← second, ← third) refl

pub unstable_gives : (b : Bounds) (minor stable : ℕ) (counts : Counts) (at : ℕ) (items : List ItemSpans) → stable ≡ 0
    → counts.groups ≡ 0 → 0 < counts.unstable → coming b minor stable counts at ≡ Ok items
    → (first : Read ReplacementSpans) × (replacement b at ≡ Ok first)
    × IsStep b minor stable (record counts { unstable = counts.unstable - 1 }) first.next items (Unstable first.value)
unstable_gives b minor stable counts at items none groups some is =
    let e : counts.unstable ≡ suc (counts.unstable - 1) = omega arith in
    let whole : coming b minor 0
    (record { groups = 0; unstable = suc (counts.unstable - 1); unavailable = counts.unavailable }) at ≡ Ok items =
    subst (λ c. coming b minor 0 c at ≡ Ok items)
    (counts_are counts 0 (suc (counts.unstable - 1)) counts.unavailable groups e refl)
    (subst (λ n. coming b minor n counts at ≡ Ok items) none is) in
    let step = unstable_step b minor (counts.unstable - 1) counts.unavailable at items
    (coming-parts b minor 0 _ at items whole) in (
      step.0,
      step.1,
      subst (λ n. IsStep b minor n (record counts { unstable = counts.unstable - 1 }) step.0.next items
          (Unstable step.0.value)) (sym none)
          (subst (λ g. IsStep b minor 0
          (record { groups = g; unstable = counts.unstable - 1; unavailable = counts.unavailable }) step.0.next
          items (Unstable step.0.value))
          (sym groups) step.2),
    )

pub unavailable_gives : (b : Bounds) (minor stable : ℕ) (counts : Counts) (at : ℕ) (items : List ItemSpans) → stable ≡ 0
    → counts.groups ≡ 0 → counts.unstable ≡ 0 → 0 < counts.unavailable → coming b minor stable counts at ≡ Ok items
    → (first : Read ApiSpans) × (api b at ≡ Ok first)
    × IsStep b minor stable (record counts { unavailable = counts.unavailable - 1 }) first.next items
    (Unavailable first.value)
unavailable_gives b minor stable counts at items none groups unstable some is =
    let e : counts.unavailable ≡ suc (counts.unavailable - 1) = omega arith in
    let whole : coming b minor 0 (record { groups = 0; unstable = 0; unavailable = suc (counts.unavailable - 1) }) at
    ≡ Ok items =
    subst₂ (λ (n : ℕ) (c : Counts). coming b minor n c at ≡ Ok items) none
    (counts_are counts 0 0 (suc (counts.unavailable - 1)) groups unstable e) is in
    let step = unavailable_step b minor (counts.unavailable - 1) at items (coming-parts b minor 0 _ at items whole) in (
      step.0,
      step.1,
      subst₃ (λ (n g u : ℕ). IsStep b minor n
          (record { groups = g; unstable = u; unavailable = counts.unavailable - 1 }) step.0.next items
          (Unavailable step.0.value)) (sym none) (sym groups) (sym unstable) step.2,
    )

pub group_gives : (b : Bounds) (minor stable : ℕ) (counts : Counts) (at : ℕ) (items : List ItemSpans) → stable ≡ 0
    → 0 < counts.groups → coming b minor stable counts at ≡ Ok items
    → (head : Read GroupHead) × (group_head b at ≡ Ok head)
    × (coming b head.value.minor head.value.count (record counts { groups = counts.groups - 1 }) head.next ≡ Ok items)
group_gives b minor stable counts at items none some is =
    let e : counts.groups ≡ suc (counts.groups - 1) = omega arith in
    let whole : coming b minor 0
    (record { groups = suc (counts.groups - 1); unstable = counts.unstable; unavailable = counts.unavailable }) at
    ≡ Ok items =
    subst (λ c. coming b minor 0 c at ≡ Ok items)
    (counts_are counts (suc (counts.groups - 1)) counts.unstable counts.unavailable e refl refl)
    (subst (λ n. coming b minor n counts at ≡ Ok items) none is) in
    group_step b minor (counts.groups - 1) counts.unstable counts.unavailable at items
    (coming-parts b minor 0 _ at items whole)
