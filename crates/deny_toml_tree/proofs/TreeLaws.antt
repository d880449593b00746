-- The loops of the tree, step by step.
use Rattle.deny_base_lists.proofs.Orders.{text_cmp-exact}
use Rattle.std.proofs.Common.{◌≡◌, ℕ, Bool, true, false, cond, List, [], ◌∷◌, ◌++◌, map, filter, fold, append_assoc}
use Rattle.std.proofs.Common.{append-nil, length, length-append, ◌+◌, arith, Some, None, unwrap_or, Ordering, refl}
use Rattle.std.proofs.Common.{sym, ap, subst, ◌∙◌}
use Rattle.std.proofs.lemmas.Bool.{cond-true, cond-false}
use Rattle.std.proofs.lemmas.List.{map-append, nil_from_length}
use Rattle.std.proofs.lemmas.List.Elements.{filter-append}
use Rattle.std.proofs.lemmas.List.Sums.{fold-append}
use Rattle.std.specs.Cmp.{IsTotalOrder, Equal-is}
use Rattle.std.specs.Cmp.Lexicographic.{slice_cmp, pointwise, nat_list_cmp_total, nat_list_eq_equiv, texts_ties}
use Rattle.std.specs.FinMap.{IsAntisymmetric}
use Rattle.std.specs.List.{AllByRecursion, remove}
use Rattle.std.specs.List.Sorted.{IsStrictlySortedBy}
use Rattle.std.specs.Iterator.{Yields}
use Rattle.std.specs.Vec.Iter.{into_iter_items, into_iter_len, into_iter_steps}
use Rattle.std.specs.declared.vec.IntoIter.{IntoIter}
use Rattle.std.specs.Map.{lookup, remove_entry}
use Rattle.std.specs.BTreeMap.{insert_entry, is_at}
use Rattle.std.specs.BTreeSet.{insert_key}
use Rattle.std.specs.Bool.{nat_eq}
use Rattle.std.specs.Ordering.{nat_cmp, is_eq, ordering_reverse, match_ordering}
use Rattle.std.specs.declared.cmp.Ordering.TheVariants.{Less, Equal, Greater}
use Rattle.deny_base.specs.declared.span.Span.{Span}
use Rattle.deny_toml_grammar.specs.declared.parts.Key.{Key}
use Rattle.deny_toml_grammar.specs.declared.expression.Assignment.{Assignment}
use Rattle.deny_toml_grammar.specs.declared.expression.Header.{Header}
use Rattle.deny_toml_grammar.specs.declared.expression.TomlExpression.{TomlExpression}
use Rattle.deny_toml_grammar.specs.declared.expression.TomlExpression.TheVariants as expression
use Rattle.deny_toml_tree.specs.declared.lines.Line.{Line}
use Rattle.deny_toml_tree.specs.declared.lines.TableMember.{TableMember}
use Rattle.deny_toml_tree.specs.Tree.{lines, leading, header_lines, header_line, written_member, until_element}
use Rattle.deny_toml_tree.specs.Tree.{elements}
use Rattle.deny_toml_tree.specs.Tree.{is_element, as_table, names, lines_through, groups}
use Rattle.deny_toml_tree.specs.private.Gathered.{lines_with, elements_with, IsGrouped}

-- an equation that each item keeps is kept by all of them
pub goes_on : {X A : Type 0} (all before after : List X → A) (seen : List X) (x : X)
    → ((rest : List X) → all (seen ++ rest) ≡ before rest) → ((rest : List X) → before (x ∷ rest) ≡ after rest)
    → (rest : List X) → all ((seen ++ x ∷ []) ++ rest) ≡ after rest
goes_on all before after seen x so step rest =
    ap all (append_assoc seen (x ∷ []) rest) ∙ so (x ∷ rest) ∙ step rest

pub lines_begin : (span : Span) (es : List TomlExpression) (found : List Line) (path : List Key)
    (members : List TableMember)
    → found ≡ [] → path ≡ [] → members ≡ []
    → lines_with span found (record { path = path; is_array = false }) members es ≡ lines span es
lines_begin span es found path members f p m = rw (f, p, m) refl

pub lines_member : (span : Span) (found : List Line) (h : Header) (members : List TableMember) (a : Assignment)
    (more : List TableMember) → more ≡ members ++ written_member a ∷ []
    → (rest : List TomlExpression)
    → lines_with span found h members (expression.Assignment a ∷ rest) ≡ lines_with span found h more rest
unfolding leading header_lines
lines_member span found h members a more is rest =
    rw is
    (ap (λ ms. found ++ header_line span h ms ∷ header_lines span rest)
    (sym (append_assoc members (written_member a ∷ []) (leading rest))))

pub lines_header : (span : Span) (found : List Line) (h : Header) (members : List TableMember) (next : Header)
    (more : List Line) (begun : Header) (none : List TableMember)
    → more ≡ found ++ header_line span h members ∷ [] → begun ≡ next → none ≡ []
    → (rest : List TomlExpression)
    → lines_with span found h members (expression.Header next ∷ rest) ≡ lines_with span more begun none rest
unfolding leading header_lines
lines_header span found h members next more begun none is same empty rest =
    rw (is, same, empty)
    (ap (λ ms. found ++ header_line span h ms ∷ header_line span next (leading rest) ∷ header_lines span rest)
    (append-nil members)
    ∙ sym (append_assoc found (header_line span h members ∷ [])
    (header_line span next (leading rest) ∷ header_lines span rest)))

pub lines_end : (span : Span) (found : List Line) (h : Header) (members : List TableMember)
    → lines_with span found h members [] ≡ found ++ header_line span h members ∷ []
unfolding leading header_lines
lines_end span found h members = ap (λ ms. found ++ header_line span h ms ∷ []) (append-nil members)

pub elements_next : (found : List (List Line)) (table : List Line) (line : Line) (more : List (List Line))
    (begun : List Line) → is_element line ≡ true → more ≡ found ++ table ∷ [] → begun ≡ as_table line ∷ []
    → (rest : List Line) → elements_with found table (line ∷ rest) ≡ elements_with more begun rest
unfolding until_element elements
elements_next found table line more_tables begun is ended first rest =
    let begins : until_element (line ∷ rest) ≡ [] = rw is in
    let more : elements (line ∷ rest) ≡ (as_table line ∷ until_element rest) ∷ elements rest = rw is in
    rw (ended, first)
    (ap (λ ls. found ++ (table ++ ls) ∷ elements (line ∷ rest)) begins
    ∙ ap (λ ls. found ++ ls ∷ elements (line ∷ rest)) (append-nil table)
    ∙ ap (λ es. found ++ table ∷ es) more
    ∙ sym (append_assoc found (table ∷ []) ((as_table line ∷ until_element rest) ∷ elements rest)))

pub elements_more : (found : List (List Line)) (table : List Line) (line : Line) (longer : List Line)
    → is_element line ≡ false → longer ≡ table ++ line ∷ []
    → (rest : List Line) → elements_with found table (line ∷ rest) ≡ elements_with found longer rest
unfolding until_element elements
elements_more found table line longer other is rest =
    let goes_on : until_element (line ∷ rest) ≡ line ∷ until_element rest = rw other in
    let later : elements (line ∷ rest) ≡ elements rest = rw other in
    rw is
    (ap (λ ls. found ++ (table ++ ls) ∷ elements (line ∷ rest)) goes_on
    ∙ ap (λ es. found ++ (table ++ line ∷ until_element rest) ∷ es) later
    ∙ ap (λ ls. found ++ ls ∷ elements rest) (sym (append_assoc table (line ∷ []) (until_element rest))))

pub elements_end : (found : List (List Line)) (table : List Line)
    → elements_with found table [] ≡ found ++ table ∷ []
unfolding until_element elements
elements_end found table = ap (λ ls. found ++ ls ∷ []) (append-nil table)

-- the lines before the first header are dropped
pub elements_all : (lines : List Line) (before : List (List Line)) (leading : List Line) (found : List (List Line))
    (table : List Line) (whole rest : List (List Line))
    → before ≡ [] → leading ≡ [] → elements_with before leading lines ≡ found ++ table ∷ []
    → whole ≡ found ++ table ∷ [] → rest ≡ remove whole 0 → rest ≡ elements lines
elements_all lines before leading found table whole rest none empty so is left =
    let begins : elements_with before leading lines ≡ until_element lines ∷ elements lines = rw (none, empty) refl in
    left ∙ ap (λ es. remove es 0) (is ∙ (sym so ∙ begins))

-- the items that an iterator of a vector has given are a prefix of the vector
taken_prefix : {X A : Type 0} (s : IntoIter X A) (xs : List X) (t : IntoIter X A) → Yields into_iter_steps s xs t
    → into_iter_items s ≡ xs ++ into_iter_items t
taken_prefix s [] t y = ap into_iter_items y
taken_prefix s (x ∷ xs) t y = y.1.0 ∙ ap (λ ys. x ∷ ys) (taken_prefix y.0 xs t y.2)

taken_len : {X A : Type 0} (s : IntoIter X A) (xs : List X) (t : IntoIter X A) → Yields into_iter_steps s xs t
    → length xs + into_iter_len t ≡ into_iter_len s
taken_len s [] t y = let same : into_iter_len s ≡ into_iter_len t = ap into_iter_len y in omega arith
taken_len s (x ∷ xs) t y = let more = taken_len y.0 xs t y.2 in let one = y.1.1 in omega arith

-- a loop over a vector that has ended has seen all items
pub taken_all : {X A : Type 0} (s : IntoIter X A) (xs : List X) (t : IntoIter X A) (all : List X)
    → Yields into_iter_steps s xs t
    → into_iter_items s ≡ all → into_iter_len s ≡ length all → into_iter_len t ≡ 0 → xs ≡ all
taken_all s xs t all y is long none =
    let prefix = taken_prefix s xs t y in
    let taken = taken_len s xs t y in
    let empty : into_iter_items t ≡ [] = nil_from_length _ (omega
    (arith, ap length prefix, length-append xs (into_iter_items t), ap length is)) in
    sym (append-nil xs) ∙ ap (λ ys. xs ++ ys) (sym empty) ∙ sym prefix ∙ is

module _ {K : Type 0} {cmp : K → K → Ordering} (total : IsTotalOrder cmp) (exact : IsAntisymmetric cmp) where
  above : (k x : K) (xs : List K) → cmp k x ≡ Less → AllByRecursion (λ y. cmp x y ≡ Less) xs
      → AllByRecursion (λ y. cmp k y ≡ Less) xs
  above k x [] below all = tt
  above k x (y ∷ ys) below all = (total.trans k x y below all.0, above k x ys below all.1)

  turned : (k x : K) → cmp k x ≡ Greater → cmp x k ≡ Less
  turned k x e = total.antisymm x k ∙ ap ordering_reverse e

  all_by : (P : K → Type 0) (k x : K) (xs ys : List K) (r : Ordering) → P k → P x → AllByRecursion P xs
      → AllByRecursion P ys
      → AllByRecursion P (match_ordering r (k ∷ x ∷ xs) (x ∷ xs) (x ∷ ys))
  all_by P k x xs ys Less here first rest more = (here, (first, rest))
  all_by P k x xs ys Equal here first rest more = (first, rest)
  all_by P k x xs ys Greater here first rest more = (first, more)

  all_with : (P : K → Type 0) (k : K) (xs : List K) → P k → AllByRecursion P xs → AllByRecursion P (insert_key cmp xs k)
  all_with P k [] here all = (here, tt)
  all_with P k (x ∷ xs) here all = all_by P k x xs (insert_key cmp xs k) (cmp k x) here all.0 all.1
      (all_with P k xs here all.1)

  sorted_by : (k x : K) (xs ys : List K) (r : Ordering) → cmp k x ≡ r → IsStrictlySortedBy cmp (x ∷ xs)
      → (cmp x k ≡ Less → AllByRecursion (λ y. cmp x y ≡ Less) ys) → IsStrictlySortedBy cmp ys
      → IsStrictlySortedBy cmp (match_ordering r (k ∷ x ∷ xs) (x ∷ xs) (x ∷ ys))
  unfolding IsStrictlySortedBy
  sorted_by k x xs ys Less e up over rest = ((e, above k x xs e up.0), up)
  sorted_by k x xs ys Equal e up over rest = up
  sorted_by k x xs ys Greater e up over rest = (over (turned k x e), rest)

  sorted_with : (k : K) (xs : List K) → IsStrictlySortedBy cmp xs → IsStrictlySortedBy cmp (insert_key cmp xs k)
  unfolding IsStrictlySortedBy
  sorted_with k [] up = (tt, tt)
  sorted_with k (x ∷ xs) up =
      sorted_by k x xs (insert_key cmp xs k) (cmp k x) refl up (λ below. all_with (λ y. cmp x y ≡ Less) k xs below up.0)
      (sorted_with k xs up.1)

  module _ {X : Type 0} (f g : K → X) (k : K) (others : (n : K) → is_eq (cmp k n) ≡ false → f n ≡ g n) where
    abbrev pairs : (K → X) → List K → List (K × X)
    pairs h ns = map (λ n. (n, h n)) ns

    less_is : (n : K) → cmp k n ≡ Less → is_eq (cmp k n) ≡ false
    less_is n e = rw e

    -- keys above k keep their values, and the entry of k is put before them
    kept_above : (ns : List K) → AllByRecursion (λ y. cmp k y ≡ Less) ns → pairs f ns ≡ pairs g ns
    kept_above [] all = refl
    kept_above (n ∷ ns) all =
        ap (λ v. (n, v) ∷ pairs f ns) (others n (less_is n all.0)) ∙ ap (λ es. (n, g n) ∷ es) (kept_above ns all.1)

    none_above : (ns : List K) → AllByRecursion (λ y. cmp k y ≡ Less) ns
        → remove_entry (is_at (cmp k)) (pairs f ns) ≡ pairs f ns
    none_above [] all = refl
    none_above (n ∷ ns) all = let e = less_is n all.0 in rw e (ap (λ es. (n, f n) ∷ es) (none_above ns all.1))

    first_above : (ns : List K) (v : X) → AllByRecursion (λ y. cmp k y ≡ Less) ns
        → insert_entry cmp (pairs f ns) k v ≡ (k, v) ∷ pairs f ns
    first_above [] v all = refl
    first_above (n ∷ ns) v all = let e = all.0 in rw e

    put_by : (n : K) (ns : List K) (r : Ordering) → cmp k n ≡ r → AllByRecursion (λ y. cmp n y ≡ Less) ns
        → insert_entry cmp (remove_entry (is_at (cmp k)) (pairs f ns)) k (g k) ≡ pairs g (insert_key cmp ns k)
        → insert_entry cmp (remove_entry (is_at (cmp k)) (pairs f (n ∷ ns))) k (g k) ≡ pairs g
        (insert_key cmp (n ∷ ns) k)
    put_by n ns Less e up rest =
        let all = above k n ns e up in
        rw (e, e) (ap (λ es. (k, g k) ∷ (n, f n) ∷ es) (none_above ns all)
        ∙ ap (λ es. (k, g k) ∷ es) (kept_above (n ∷ ns) (e, all)))
    put_by n ns Equal e up rest =
        let same : k ≡ n = exact k n e in
        let all : AllByRecursion (λ y. cmp k y ≡ Less) ns = subst (λ z. AllByRecursion (λ y. cmp z y ≡ Less) ns)
        (sym same) up in
        rw e (first_above ns (g k) all ∙ ap (λ es. (k, g k) ∷ es) (kept_above ns all)
        ∙ ap (λ z. (z, g z) ∷ pairs g ns) same)
    put_by n ns Greater e up rest =
        let other : is_eq (cmp k n) ≡ false = rw e in
        rw (e, e) (ap (λ v. (n, v) ∷ insert_entry cmp (remove_entry (is_at (cmp k)) (pairs f ns)) k (g k))
        (others n other) ∙ ap (λ es. (n, g n) ∷ es) rest)

    -- an entry that is removed and inserted again with another value
    put_back : (ns : List K) → IsStrictlySortedBy cmp ns
        → insert_entry cmp (remove_entry (is_at (cmp k)) (pairs f ns)) k (g k) ≡ pairs g (insert_key cmp ns k)
    unfolding IsStrictlySortedBy
    put_back [] up = refl
    put_back (n ∷ ns) up = put_by n ns (cmp k n) refl up.0 (put_back ns up.1)

-- the names with one more, by their bytes
names_more : (seen : List (List ℕ × Line)) (name : List ℕ) (line : Line)
    → names (seen ++ (name, line) ∷ []) ≡ insert_key (slice_cmp nat_cmp) (names seen) name
unfolding names
names_more seen name line = fold-append _ [] seen ((name, line) ∷ [])

ascending_from : (found : List (List ℕ)) (seen : List (List ℕ × Line)) → IsStrictlySortedBy (slice_cmp nat_cmp) found
    → IsStrictlySortedBy (slice_cmp nat_cmp) (fold (λ found s. insert_key (slice_cmp nat_cmp) found s.0) found seen)
ascending_from found [] up = up
ascending_from found (s ∷ seen) up = ascending_from (insert_key (slice_cmp nat_cmp) found s.0) seen
    (sorted_with nat_list_cmp_total text_cmp-exact s.0 found up)

-- the names of a table ascend
pub names_ascend : (seen : List (List ℕ × Line)) → IsStrictlySortedBy (slice_cmp nat_cmp) (names seen)
unfolding names IsStrictlySortedBy
names_ascend seen = ascending_from [] seen tt

abbrev lines_if : Bool → Line → List Line
lines_if b line = cond b (line ∷ []) []

lines_of_one : (q name : List ℕ) (line : Line) (b : Bool) → pointwise nat_eq name q ≡ b
    → lines_through q ((name, line) ∷ []) ≡ lines_if b line
unfolding lines_through
lines_of_one q name line true e = rw e
lines_of_one q name line false e = rw e

lines_through_more : (q : List ℕ) (seen : List (List ℕ × Line)) (name : List ℕ) (line : Line) (b : Bool)
    → is_at (slice_cmp nat_cmp name) q ≡ b
    → lines_through q (seen ++ (name, line) ∷ []) ≡ lines_through q seen ++ lines_if b line
unfolding lines_through
lines_through_more q seen name line b e =
    ap (map (λ s. s.1)) (filter-append (λ s. pointwise nat_eq s.0 q) seen ((name, line) ∷ []))
    ∙ map-append (λ s. s.1) (filter (λ s. pointwise nat_eq s.0 q) seen)
    (filter (λ s. pointwise nat_eq s.0 q) ((name, line) ∷ []))
    ∙ ap (λ ls. lines_through q seen ++ ls) (lines_of_one q name line b (texts_ties name q ∙ e))

pub grouped_none : IsGrouped [] []
unfolding groups names lines_through
grouped_none = record { is = refl; whole = λ q. refl }

module _ (seen : List (List ℕ × Line)) (name : List ℕ) (line : Line) (old mid new : List (List ℕ × List Line))
    (path_end : List Line) where
  -- the lines of the other names are unchanged
  others_stay : (n : List ℕ) → is_eq (slice_cmp nat_cmp name n) ≡ false
      → lines_through n seen ≡ lines_through n (seen ++ (name, line) ∷ [])
  others_stay n e = sym (append-nil (lines_through n seen)) ∙ sym (lines_through_more n seen name line false e)

  same_name : is_at (slice_cmp nat_cmp name) name ≡ true
  same_name = sym (texts_ties name name) ∙ nat_list_eq_equiv.refl name

  put_is : path_end ≡ lines_through name seen ++ line ∷ [] → path_end ≡ lines_through name (seen ++ (name, line) ∷ [])
  put_is e = e ∙ sym (lines_through_more name seen name line true same_name)

  grouped_is : old ≡ groups seen → mid ≡ remove_entry (is_at (slice_cmp nat_cmp name)) old
      → new ≡ insert_entry (slice_cmp nat_cmp) mid name path_end
      → path_end ≡ lines_through name seen ++ line ∷ [] → new ≡ groups (seen ++ (name, line) ∷ [])
  unfolding groups
  grouped_is was removed inserted is =
      inserted
      ∙ ap (λ es. insert_entry (slice_cmp nat_cmp) es name path_end)
      (removed ∙ ap (remove_entry (is_at (slice_cmp nat_cmp name))) was)
      ∙ ap (λ ls. insert_entry (slice_cmp nat_cmp) (remove_entry (is_at (slice_cmp nat_cmp name)) (groups seen)) name
      ls) (put_is is)
      ∙ put_back nat_list_cmp_total text_cmp-exact (λ n. lines_through n seen)
      (λ n. lines_through n (seen ++ (name, line) ∷ [])) name others_stay (names seen) (names_ascend seen)
      ∙ ap (map (λ n. (n, lines_through n (seen ++ (name, line) ∷ [])))) (sym (names_more seen name line))

  found_by : (q : List ℕ) (b : Bool) → is_at (slice_cmp nat_cmp name) q ≡ b
      → unwrap_or (lookup (is_at (slice_cmp nat_cmp q)) old) [] ≡ lines_through q seen
      → lookup (is_at (slice_cmp nat_cmp q)) mid ≡ cond (is_at (slice_cmp nat_cmp name) q) None
      (lookup (is_at (slice_cmp nat_cmp q)) old)
      → lookup (is_at (slice_cmp nat_cmp q)) new ≡ cond (is_at (slice_cmp nat_cmp name) q) (Some path_end)
      (lookup (is_at (slice_cmp nat_cmp q)) mid)
      → path_end ≡ lines_through name seen ++ line ∷ []
      → unwrap_or (lookup (is_at (slice_cmp nat_cmp q)) new) [] ≡ lines_through q (seen ++ (name, line) ∷ [])
  found_by q true e was removed inserted is =
      let same : name ≡ q = text_cmp-exact name q ((Equal-is (slice_cmp nat_cmp name q)).0 e) in
      ap (λ o. unwrap_or o []) (inserted ∙ cond-true _ _ _ e) ∙ put_is is
      ∙ ap (λ n. lines_through n (seen ++ (name, line) ∷ [])) same
  found_by q false e was removed inserted is =
      ap (λ o. unwrap_or o []) (inserted ∙ cond-false _ _ _ e ∙ (removed ∙ cond-false _ _ _ e)) ∙ was ∙ others_stay q e

  pub grouped_more : IsGrouped seen old
      → mid ≡ remove_entry (is_at (slice_cmp nat_cmp name)) old
      → ((q : List ℕ) → lookup (is_at (slice_cmp nat_cmp q)) mid ≡ cond (is_at (slice_cmp nat_cmp name) q) None
      (lookup (is_at (slice_cmp nat_cmp q)) old))
      → new ≡ insert_entry (slice_cmp nat_cmp) mid name path_end
      → ((q : List ℕ) → lookup (is_at (slice_cmp nat_cmp q)) new ≡ cond (is_at (slice_cmp nat_cmp name) q)
      (Some path_end) (lookup (is_at (slice_cmp nat_cmp q)) mid))
      → path_end ≡ unwrap_or (lookup (is_at (slice_cmp nat_cmp name)) old) [] ++ line ∷ []
      → IsGrouped (seen ++ (name, line) ∷ []) new
  grouped_more was removed without inserted with is =
      let put_at : path_end ≡ lines_through name seen ++ line ∷ [] = is ∙ ap (λ ls. ls ++ line ∷ []) (was.whole name) in
      record {
        is = grouped_is was.is removed inserted put_at;
        whole = λ q. found_by q (is_at (slice_cmp nat_cmp name) q) refl (was.whole q) (without q) (with q) put_at;
      }
