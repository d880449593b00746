-- A plain value is read back from its text.
use Rattle.std.proofs.Common.{◌≡◌, ℕ, List, Some, ap, ap₂, refl, sym, ◌∙◌, arith, option_map, option_and_then, suc}
use Rattle.std.specs.Prelude.{max, ⊤}
use Rattle.std.specs.Cmp.Lexicographic.{slice_cmp}
use Rattle.std.specs.Ordering.{match_ordering, nat_cmp, ordering_reverse}
use Rattle.std.specs.declared.cmp.Ordering.{Ordering}
use Rattle.std.specs.declared.cmp.Ordering.TheVariants.{Less, Greater}
use Rattle.std.proofs.lemmas.Cmp.{nat_list_cmp_total}
use Rattle.json.proofs.Printed.Decimals.{IsNumber-decimal}
use Rattle.json.specs.Tree as tree
use Rattle.serde_json.proofs.Numbers.{number_of-decimal}
use Rattle.serde_json.specs.Data.{Data, null, boolean, number, string, array, object, unsigned, negative, float, Items}
use Rattle.serde_json.specs.Data.{no_items, item, Members, no_members, member, put, depth, items_depth, members_depth}
use Rattle.serde_json.specs.Read.{of_items, of_json, of_members}
use Rattle.serde_json.specs.Written.{compact_text, items_outline, members_outline, outline}
use Rattle.deny_krates_metadata.proofs.ReadBackLemmas.{read-compact_text, tokens-compact_text}
use Rattle.deny_gate_json.specs.Reading.{IsBeforeNext, IsJsonOf, IsPlain, ItemsArePlain, MembersArePlain}

-- ---- the numbers of a plain value are numbers of JSON

mutual
  numbers : (value : Data) → IsPlain value → tree.HasNumbers (outline value)
  numbers null is = tt
  numbers (boolean b) is = tt
  numbers (number (unsigned n)) is = IsNumber-decimal n is
  numbers (number (negative z)) is = absurd is
  numbers (number (float x)) is = absurd is
  numbers (string s) is = tt
  numbers (array values) is = item_numbers values is
  numbers (object members) is = member_numbers members is

  item_numbers : (values : Items) → ItemsArePlain values → tree.ItemsHaveNumbers (items_outline values)
  item_numbers no_items are = tt
  item_numbers (item value others) are = (numbers value are.0, item_numbers others are.1)

  member_numbers : (members : Members) → MembersArePlain members → tree.MembersHaveNumbers (members_outline members)
  member_numbers no_members are = tt
  member_numbers (member key value others) are = (numbers value are.1, member_numbers others are.2)

-- ---- the members of a plain value are put in one after another, each behind those before it

abbrev joined : Members → Members → Members
joined no_members more = more
joined (member key value others) more = member key value (joined others more)

-- each key of these members comes before this one
abbrev AllBefore : Members → List ℕ → Type 0
AllBefore no_members key = ⊤
AllBefore (member first value others) key = (slice_cmp nat_cmp key first ≡ Greater) × AllBefore others key

put_behind : (found : Members) (key : List ℕ) (value : Data) → AllBefore found key
    → put key value found ≡ joined found (member key value no_members)
put_behind no_members key value before = refl
put_behind (member first held others) key value before =
    ap (λ (o : Ordering). match_ordering o (member key value (member first held others)) (member first value others)
    (member first held (put key value others))) before.0
    ∙ ap (member first held) (put_behind others key value before.1)

joined_twice : (found : Members) (key : List ℕ) (value : Data) (more : Members)
    → joined (joined found (member key value no_members)) more ≡ joined found (member key value more)
joined_twice no_members key value more = refl
joined_twice (member first held others) key value more = ap (member first held) (joined_twice others key value more)

after_twice : (first key next : List ℕ) → slice_cmp nat_cmp key first ≡ Greater → slice_cmp nat_cmp key next ≡ Less
    → slice_cmp nat_cmp next first ≡ Greater
after_twice first key next before less =
    nat_list_cmp_total.antisymm next first
    ∙ ap ordering_reverse (nat_list_cmp_total.trans first key next
    (nat_list_cmp_total.antisymm first key ∙ ap ordering_reverse before) less)

before_next : (found : Members) (key next : List ℕ) (value : Data) → AllBefore found key
    → slice_cmp nat_cmp key next ≡ Less → AllBefore (joined found (member key value no_members)) next
before_next no_members key next value before less =
    (nat_list_cmp_total.antisymm next key ∙ ap ordering_reverse less, tt)
before_next (member first held others) key next value before less =
    (after_twice first key next before.0 less, before_next others key next value before.1 less)

-- the keys that were found come before the first of those to come
abbrev AreBefore : Members → Members → Type 0
AreBefore found no_members = ⊤
AreBefore found (member key value others) = AllBefore found key

still_before : (found : Members) (key : List ℕ) (value : Data) (others : Members) → AllBefore found key
    → IsBeforeNext key others → AreBefore (joined found (member key value no_members)) others
still_before found key value no_members before next = tt
still_before found key value (member other held more) before next = before_next found key other value before next

joined-none : (found : Members) → joined found no_members ≡ found
joined-none no_members = refl
joined-none (member key value others) = ap (member key value) (joined-none others)

mutual
  value_read : (value : Data) → IsPlain value → of_json (outline value) ≡ Some value
  value_read null is = refl
  value_read (boolean b) is = refl
  value_read (number (unsigned n)) is = ap (option_map number) (number_of-decimal n is)
  value_read (number (negative z)) is = absurd is
  value_read (number (float x)) is = absurd is
  value_read (string s) is = refl
  value_read (array values) is = ap (option_map array) (items_read values is)
  value_read (object members) is = ap (option_map object) (members_read members no_members is (none_before members))

  items_read : (values : Items) → ItemsArePlain values → of_items (items_outline values) ≡ Some values
  items_read no_items are = refl
  items_read (item value others) are =
      ap (option_and_then (λ (d : Data). option_map (item d) (of_items (items_outline others))))
      (value_read value are.0)
      ∙ ap (option_map (item value)) (items_read others are.1)

  members_read : (members found : Members) → MembersArePlain members → AreBefore found members
      → of_members (members_outline members) found ≡ Some (joined found members)
  members_read no_members found are before = ap Some (sym (joined-none found))
  members_read (member key value others) found are before =
      ap (option_and_then (λ (d : Data). of_members (members_outline others) (put key d found)))
      (value_read value are.1)
      ∙ (ap (of_members (members_outline others)) (put_behind found key value before)
      ∙ (members_read others (joined found (member key value no_members)) are.2
      (still_before found key value others before are.0)
      ∙ ap Some (joined_twice found key value others)))

  none_before : (members : Members) → AreBefore no_members members
  none_before no_members = tt
  none_before (member key value others) = tt

-- ---- the JSON of a plain value is as deep as the value

mutual
  same_depth : (value : Data) → tree.depth (outline value) ≡ depth value
  same_depth null = refl
  same_depth (boolean b) = refl
  same_depth (number n) = refl
  same_depth (string s) = refl
  same_depth (array values) = ap suc (same_items_depth values)
  same_depth (object members) = ap suc (same_members_depth members)

  same_items_depth : (values : Items) → tree.items_depth (items_outline values) ≡ items_depth values
  same_items_depth no_items = refl
  same_items_depth (item value others) = ap₂ max (same_depth value) (same_items_depth others)

  same_members_depth : (members : Members) → tree.members_depth (members_outline members) ≡ members_depth members
  same_members_depth no_members = refl
  same_members_depth (member key value others) = ap₂ max (same_depth value) (same_members_depth others)

pub is_json : (value : Data) → IsPlain value → IsJsonOf (compact_text value) value
is_json value is = record {
  tree = outline value;
  spells = tokens-compact_text value (numbers value is);
  reads = value_read value is;
  reads_back = λ shallow.
      read-compact_text value (numbers value is) (omega (arith, same_depth value, shallow)) ∙ value_read value is;
}
