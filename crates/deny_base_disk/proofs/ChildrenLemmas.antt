-- Listing a folder gives the entries with its prefix, with names that ascend.
use Rattle.std.proofs.Common.{◌≡◌, ℕ, ◌&&◌, Bool, true, false, List, [], ◌∷◌, ◌++◌, map, cond, drop, length, Option}
use Rattle.std.proofs.Common.{None, Some, Result, Ok, Err, T, refl, sym, ap, ◌∙◌, subst, String}
use Rattle.std.specs.Prelude.{IfOk, IsTrue, MatchOption, codes, option_map, option_copied, nat_eq, unwrap_or}
use Rattle.std.specs.Borrow.{Bor}
use Rattle.std.specs.BTreeMap.{BTreeMap, IsOrdered}
use Rattle.std.specs.Cmp.{nat_cmp_total}
use Rattle.std.specs.Cmp.Lexicographic.{nat_list_cmp_total, slice_cmp}
use Rattle.std.specs.FinMap as finite
use Rattle.std.specs.FinMap.Entries.{below_all, is_sorted}
use Rattle.std.specs.List.{AllByRecursion, cons_option, ends_with, filter_map, starts_with}
use Rattle.std.specs.List.Sorted.{IsStrictlySortedBy}
use Rattle.std.specs.Option.{option_and_then}
use Rattle.std.specs.Ordering.{is_lt, nat_cmp}
use Rattle.std.specs.Str.Pattern.{FindsTextPrefix, StripsPrefix}
use Rattle.std.specs.String.{string_cmp}
use Rattle.std.specs.declared.cmp.Ordering.{Ordering}
use Rattle.std.specs.declared.cmp.Ordering.TheVariants.{Less, Equal, Greater}
use Rattle.std.proofs.lemmas.Bool.Decides.{Decides-eqb}
use Rattle.std.proofs.lemmas.List.Elements.{All-from_recursion, All-nil}
use Rattle.std.proofs.lemmas.Option.{none-some}
use Rattle.std.proofs.lemmas.Slice.Eq.{starts_is}
use Rattle.std.proofs.lemmas.Str.Pattern.{starts_text}
use Rattle.deny_base_lists.proofs.Loops.{appended}
use Rattle.deny_base_lists.proofs.TextMapLemmas.{texts_tie}
use Rattle.deny_base_lists.specs.TextMap.{map_of, with_bytes}
use Rattle.deny_base_lists.specs.declared.memory.NoMemory.{NoMemory}
use Rattle.deny_base_lists.proofs.Orders.{slice_cmp-append}
use Rattle.deny_base_disk.specs.Children.{AreListed, children, entry_behind, prefix_of, if_child_name, is_child_name}
use Rattle.deny_base_disk.specs.Children.{text_behind}
use Rattle.deny_base_disk.specs.Disk.{Files, is_folder}
use Rattle.deny_base_disk.specs.declared.disk.Entry.{Entry}
use Rattle.deny_base_disk.specs.declared.disk.Place.{Place}

-- ---- the rest of a path behind a prefix

pub behind_is : (result : Option (Bor (List ℕ))) (prefix path : List ℕ)
    → MatchOption result (FindsTextPrefix prefix path None) (λ x. StripsPrefix (FindsTextPrefix prefix) path x.now)
    → option_copied result ≡ text_behind prefix path
unfolding text_behind
behind_is None prefix path lacks = rw (sym (starts_text false prefix path lacks)) refl
behind_is (Some x) prefix path strips =
    let begins : starts_with (λ a b. nat_eq a b) path prefix ≡ true = (starts_is Decides-eqb path prefix _ refl).1
    (drop strips.0 path) strips.1.1 in
    rw begins (ap (λ t. Some t) (strips.2 ∙ ap (λ n. drop n path) strips.1.0))

-- a path is its prefix and the rest behind that
pub prefix_found : (prefix path rest : List ℕ) → Some rest ≡ text_behind prefix path → path ≡ prefix ++ rest
unfolding text_behind
prefix_found prefix path rest is = elim (starts_with nat_eq path prefix) as (λ b. starts_with nat_eq path prefix ≡ b
    → Some rest ≡ cond b (Some (drop (length prefix) path)) None → path ≡ prefix ++ rest) [
      | true ↦ λ begins found. (starts_is Decides-eqb path prefix _ refl).0 begins
          ∙ ap (λ (o : Option (List ℕ)). prefix ++ unwrap_or o rest) (sym found)
      | false ↦ λ _ found. absurd (none-some rest (sym found))
    ] refl is

-- the rest behind two texts is the rest behind the second, of the rest behind the first
behind_both : (prefix more path : List ℕ)
    → text_behind (prefix ++ more) path ≡ option_and_then (text_behind more) (text_behind prefix path)
unfolding text_behind
behind_both [] more [] = refl
behind_both [] more (p ∷ ps) = refl
behind_both (f ∷ fs) more [] = refl
behind_both (f ∷ fs) more (p ∷ ps) = elim (nat_eq f p) as (λ b. nat_eq f p ≡ b
    → text_behind (f ∷ fs ++ more) (p ∷ ps) ≡ option_and_then (text_behind more) (text_behind (f ∷ fs) (p ∷ ps))) [
      | true ↦ λ same. rw same (behind_both fs more ps)
      | false ↦ λ other. rw other refl
    ] refl

-- the rest behind a folder and its slash, from the rest behind the folder
below_prefix : (dir path : List ℕ) → text_behind (prefix_of dir) path
    ≡ cond (ends_with nat_eq dir (codes "/")) (text_behind dir path)
    (option_and_then (text_behind (codes "/")) (text_behind dir path))
unfolding prefix_of
below_prefix dir path = elim (ends_with nat_eq dir (codes "/"))
    as (λ b. text_behind (cond b dir (dir ++ codes "/")) path
    ≡ cond b (text_behind dir path) (option_and_then (text_behind (codes "/")) (text_behind dir path)))
    [ true ↦ refl | false ↦ behind_both dir (codes "/") path ]

pub below_some : (dir path rest : List ℕ) → Some rest ≡ text_behind dir path
    → cond (ends_with nat_eq dir (codes "/")) (Some rest) (text_behind (codes "/") rest)
    ≡ text_behind (prefix_of dir) path
below_some dir path rest is = ap (λ (found : Option (List ℕ)). cond (ends_with nat_eq dir (codes "/")) found
    (option_and_then (text_behind (codes "/")) found)) is ∙ sym (below_prefix dir path)

pub below_none : (dir path : List ℕ) → None ≡ text_behind dir path → None ≡ text_behind (prefix_of dir) path
below_none dir path is = never (ends_with nat_eq dir (codes "/"))
    ∙ (ap (λ (found : Option (List ℕ)). cond (ends_with nat_eq dir (codes "/")) found
    (option_and_then (text_behind (codes "/")) found)) is ∙ sym (below_prefix dir path)) where
      never : (b : Bool) → None ≡ cond b None (option_and_then (text_behind (codes "/")) None)
      never true = refl
      never false = refl

-- the entry of a path that has the prefix
record IsBehind (prefix : List ℕ) (at : List ℕ × Place) (entry : Entry) : Type 0 where
  named : is_child_name entry.name ≡ true
  path : at.0 ≡ prefix ++ entry.name

behind_named : (prefix : List ℕ) (at : List ℕ × Place) (name : List ℕ) (entry : Entry) → at.0 ≡ prefix ++ name
    → option_map (λ n. record { name = n; folder = is_folder (Some at.1) }) (if_child_name name) ≡ Some entry
    → IsBehind prefix at entry
behind_named prefix at name entry begins = elim (is_child_name name)
    as (λ b. is_child_name name ≡ b
    → option_map (λ n. record { name = n; folder = is_folder (Some at.1) }) (cond b (Some name) None) ≡ Some entry
    → IsBehind prefix at entry) [
      | true ↦ λ good is.
          let same : record { name = name; folder = is_folder (Some at.1) } ≡ entry =
          ap (λ o. unwrap_or o entry) is in
          record {
            named = subst (λ (e : Entry). is_child_name e.name ≡ true) same good;
            path = begins ∙ ap (λ (e : Entry). prefix ++ e.name) same;
          }
      | false ↦ λ _ is. absurd (none-some entry is)
    ] refl

behind_of : (prefix : List ℕ) (at : List ℕ × Place) (entry : Entry) → entry_behind prefix at ≡ Some entry
    → IsBehind prefix at entry
unfolding text_behind
behind_of prefix at entry = elim (starts_with nat_eq at.0 prefix)
    as (λ b. starts_with nat_eq at.0 prefix ≡ b
    → option_map (λ n. record { name = n; folder = is_folder (Some at.1) })
    (option_and_then if_child_name (cond b (Some (drop (length prefix) at.0)) None)) ≡ Some entry
    → IsBehind prefix at entry) [
      | true ↦ λ begins is. behind_named prefix at (drop (length prefix) at.0) entry
          ((starts_is Decides-eqb at.0 prefix _ refl).0 begins) is
      | false ↦ λ _ is. absurd (none-some entry is)
    ] refl

-- ---- names ascend as their paths do

less : (o : Ordering) → T (is_lt o) → o ≡ Less
less Less p = refl
less Equal p = absurd p
less Greater p = absurd p

first : (a b : Bool) → T (a && b) → T a
first true b p = tt
first false b p = p

second : (a b : Bool) → T (a && b) → T b
second true b p = p
second false b p = absurd p

both : (a b : Bool) → T a → T b → T (a && b)
both true b p q = q
both false b p q = p

names_good : (prefix : List ℕ) (es : List (List ℕ × Place))
    → AllByRecursion (λ entry. IsTrue (is_child_name entry.name)) (filter_map (entry_behind prefix) es)
names_good prefix [] = tt
names_good prefix (e ∷ es) =
    let others = filter_map (entry_behind prefix) es in
    elim (entry_behind prefix e)
    as (λ o. entry_behind prefix e ≡ o
    → AllByRecursion (λ entry. IsTrue (is_child_name entry.name)) (cons_option o others)) [
      | None ↦ λ _. names_good prefix es
      | Some entry ↦ λ is. ((behind_of prefix e entry is).named, names_good prefix es)
    ] refl

names_above : (prefix : List ℕ) (at : List ℕ × Place) (first_entry : Entry) (es : List (List ℕ × Place))
    → at.0 ≡ prefix ++ first_entry.name → T (below_all (slice_cmp nat_cmp) at.0 es)
    → AllByRecursion (λ name. slice_cmp nat_cmp first_entry.name name ≡ Less)
    (map (λ entry. entry.name) (filter_map (entry_behind prefix) es))
names_above prefix at first_entry [] here below = tt
names_above prefix at first_entry (e ∷ es) here below =
    let others = filter_map (entry_behind prefix) es in
    let further = names_above prefix at first_entry es here (second _ _ below) in
    elim (entry_behind prefix e)
    as (λ o. entry_behind prefix e ≡ o
    → AllByRecursion (λ name. slice_cmp nat_cmp first_entry.name name ≡ Less)
    (map (λ entry. entry.name) (cons_option o others))) [
      | None ↦ λ _. further
      | Some entry ↦ λ is. (
        sym (slice_cmp-append nat_cmp_total prefix first_entry.name entry.name)
            ∙ (λ i. slice_cmp nat_cmp (sym here i) (sym ((behind_of prefix e entry is).path) i))
            ∙ less _ (first _ _ below),
        further,
      )
    ] refl

names_ascend : (prefix : List ℕ) (es : List (List ℕ × Place)) → T (is_sorted (slice_cmp nat_cmp) es)
    → IsStrictlySortedBy (slice_cmp nat_cmp) (map (λ entry. entry.name) (filter_map (entry_behind prefix) es))
unfolding IsStrictlySortedBy
names_ascend prefix [] sorted = tt
names_ascend prefix (e ∷ es) sorted =
    let others = filter_map (entry_behind prefix) es in
    let further = names_ascend prefix es (second _ _ sorted) in
    elim (entry_behind prefix e)
    as (λ o. entry_behind prefix e ≡ o
    → IsStrictlySortedBy (slice_cmp nat_cmp) (map (λ entry. entry.name) (cons_option o others))) [
      | None ↦ λ _. further
      | Some entry ↦ λ is.
          (names_above prefix e entry es ((behind_of prefix e entry is).path) (first _ _ sorted), further)
    ] refl

-- the entries of a folder have names that children can have, ascending
pub children_listed : (files : Files) (dir : List ℕ) → AreListed (children files dir)
unfolding children IsStrictlySortedBy
children_listed files dir = elim (is_folder (finite.get files dir))
    as (λ b. AreListed (cond b (filter_map (entry_behind (prefix_of dir)) (finite.entries files)) [])) [
      | true ↦ record {
        names = All-from_recursion _ _ (names_good (prefix_of dir) (finite.entries files));
        ascending = names_ascend (prefix_of dir) (finite.entries files) (finite.entries_sorted files);
      }
      | false ↦ record { names = All-nil _; ascending = tt }
    ]

-- ---- iterating over a map

below_bytes : {V A : Type 0} (key : List ℕ) (es : List (String A × V))
    → AllByRecursion (λ k. slice_cmp nat_cmp key k.bytes.items ≡ Less) (map (λ e. e.0) es)
    → T (below_all (slice_cmp nat_cmp) key (map with_bytes es))
below_bytes key [] below = tt
below_bytes key (e ∷ es) below =
    both _ _ (subst (λ o. T (is_lt o)) (sym below.0) tt) (below_bytes key es below.1)

sorted_bytes : {V A : Type 0} (es : List (String A × V)) → IsStrictlySortedBy string_cmp (map (λ e. e.0) es)
    → T (is_sorted (slice_cmp nat_cmp) (map with_bytes es))
unfolding IsStrictlySortedBy
sorted_bytes [] sorted = tt
sorted_bytes (e ∷ es) sorted =
    both _ _ (below_bytes e.0.bytes.items es sorted.0) (sorted_bytes es sorted.1)

entries_of : {V : Type 0} (es : List (List ℕ × V)) → T (is_sorted (slice_cmp nat_cmp) es)
    → finite.entries (finite.from_entries {R = slice_cmp nat_cmp} es) ≡ es
entries_of es sorted =
    ap finite.entries (finite.same_map nat_list_cmp_total texts_tie (finite.from_entries es) (finite.from_sorted es)
    (λ q. finite.get-from_entries nat_list_cmp_total es q
    ∙ sym (finite.get-from_sorted (slice_cmp nat_cmp) es q sorted)))
    ∙ finite.entries-from_sorted (slice_cmp nat_cmp) es sorted

kept_first : {Y : Type 0} (o : Option Y) (others : List Y) → cons_option o others ≡ cons_option o [] ++ others
kept_first None others = refl
kept_first (Some y) others = refl

-- a step of an iteration that keeps what the next entry gives, if it gives something
pub kept_next : {X Y : Type 0} (f : X → Option Y) (x : X) (left rest : List X) (old new whole : List Y)
    → left ≡ x ∷ rest → new ≡ old ++ cons_option (f x) [] → old ++ filter_map f left ≡ whole
    → new ++ filter_map f rest ≡ whole
kept_next f x left rest old new whole next put = appended (filter_map f) left rest (cons_option (f x) []) old new whole
    (ap (filter_map f) next ∙ kept_first (f x) (filter_map f rest)) put

-- iterating over the tree of a map gives the entries of the folder
pub children_are : {A : Type 0} (result : Result (List Entry) NoMemory) (tree : BTreeMap (String A) Place)
    (files : Files) (dir prefix : List ℕ) → map_of tree.entries ≡ files → IsOrdered string_cmp tree
    → is_folder (finite.get files dir) ≡ true → prefix ≡ prefix_of dir
    → IfOk result (λ entries. entries ≡ filter_map (entry_behind prefix) (map with_bytes tree.entries))
    → IfOk result (λ entries. entries ≡ children files dir)
unfolding children
children_are (Err e) tree files dir prefix view sorted folder at is = tt
children_are (Ok entries) tree files dir prefix view sorted folder at is =
    let walked : map with_bytes tree.entries ≡ finite.entries files =
    sym (entries_of (map with_bytes tree.entries) (sorted_bytes tree.entries sorted)) ∙ ap finite.entries view in
    is ∙ (λ i. filter_map (entry_behind (at i)) (walked i))
    ∙ ap (λ b. cond b (filter_map (entry_behind (prefix_of dir)) (finite.entries files)) []) (sym folder)
