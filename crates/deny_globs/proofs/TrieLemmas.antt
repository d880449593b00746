-- A trie, with nodes, edges and numbers added.
use Rattle.std.proofs.Common.{◌≡◌, ◌≢◌, ℕ, zero, suc, ◌+◌, ◌<◌, ◌≤◌, List, [], ◌∷◌, ◌++◌, length, drop, get_or}
use Rattle.std.proofs.Common.{Bool, true, false, refl, sym, ap, subst, inl, inr, ◌∙◌, arith, append_assoc}
use Rattle.std.proofs.Common.{length-append, length-set}
use Rattle.std.specs.Prelude.{◌⊎◌, ◌↔◌, Option, Some, None, Contains, slice_get, slice_set}
use Rattle.std.specs.BTreeMap.{BTreeMap, get, is_at, Updates, IsEmpty}
use Rattle.std.specs.Cmp.{Equal-is}
use Rattle.std.specs.FinMap.{nat_cmp-IsAntisymmetric}
use Rattle.std.specs.Map.{lookup}
use Rattle.std.specs.Ordering.{nat_cmp}
use Rattle.std.proofs.lemmas.Bool.{cases_eq, cases_lt}
use Rattle.std.proofs.lemmas.Option.{slice_get_within, slice_get_past, slice_get_read}
use Rattle.std.proofs.lemmas.List.Elements.{Contains-push, Contains-push_cases, Contains-append_left}
use Rattle.std.proofs.lemmas.List.Elements.{Contains-append_right, Contains-append_cases}
use Rattle.deny_base_lists.proofs.Members.{tail-same, contains_none}
use Rattle.deny_base_lists.proofs.Indices.{slice_get-push_cases, slice_get-push_left, slice_get-push_last}
use Rattle.deny_base_lists.proofs.Indices.{slice_get-set_same}
use Rattle.deny_base_lists.proofs.Indices.{slice_get-set_cases, slice_get-set_other}
use Rattle.deny_base_lists.proofs.Options.{none_is_no_some, some_inj}
use Rattle.deny_globs.specs.declared.trie.TrieNode.{TrieNode}
use Rattle.deny_globs.specs.Trie.{IsEdge, IsTrie, Finds, ends_here, goes_on}
use Rattle.deny_globs.specs.private.Trie.{next_of, HasNoEdge, IsBare, AddsBare}
use Rattle.deny_globs.specs.private.Trie.{PutsEdge, PutsNoEdge, PutsNumber, Keeps, AddsLiteral}
use Rattle.deny_globs.proofs.WalkLemmas.{drop_one}

none_led : {entries : List (ℕ × ℕ)} (c : ℕ) {next : ℕ} → entries ≡ [] → lookup (is_at (nat_cmp c)) entries ≡ Some next
    → ⊥
none_led {entries} c {next} e h = none_is_no_some (subst (λ l. lookup (is_at (nat_cmp c)) l ≡ Some next) e h)

pub bare_new : {numbers : List ℕ} {edges : BTreeMap ℕ ℕ} → numbers ≡ [] → IsEmpty edges
    → IsBare (record { numbers = numbers; edges = edges })
bare_new {numbers} {edges} e none = record {
  numbers = λ found h. contains_none (subst (λ l. Contains l found) e h);
  edges = λ c next h. none_led c none h;
}

bare_finds : {nodes : List TrieNode} {number found : ℕ} {path : List ℕ} (node : TrieNode)
    → slice_get nodes number ≡ Some node
    → IsBare node → Finds nodes number path found → ⊥
bare_finds {found = found} node at bare (ends_here other there has) = bare.numbers found
    (subst (λ (n : TrieNode). Contains n.numbers found) (some_inj (sym there ∙ at)) has)
bare_finds node at bare (goes_on {c = c} {next = next} edge rest) = bare.edges c next
    (subst (λ (n : TrieNode). get nat_cmp n.edges c ≡ Some next) (some_inj (sym edge.at ∙ at)) edge.leads)

pub keeps_same : {old new : List TrieNode} → IsTrie old → new ≡ old → Keeps old new
keeps_same {old} {new} trie e = subst (λ l. Keeps old l) (sym e) (record {
  trie = trie;
  size = omega arith;
  edges = λ n c next h. h;
  finds = λ n path found. (λ h. h, λ h. h);
})

pub keeps_on : {old mid new : List TrieNode} → Keeps old mid → Keeps mid new → Keeps old new
keeps_on a b = record {
  trie = b.trie;
  size = omega (arith, a.size, b.size);
  edges = λ n c next h. b.edges n c next (a.edges n c next h);
  finds = λ n path found. (
    λ h. (a.finds n path found).0 ((b.finds n path found).0 h),
    λ h. (b.finds n path found).1 ((a.finds n path found).1 h),
  );
}

-- ---- a bare node is added

pub keeps_pushed : {old new : List TrieNode} (node : TrieNode) → IsTrie old → IsBare node → new ≡ old ++ node ∷ []
    → Keeps old new
keeps_pushed {old} {new} node trie bare e = subst (λ l. Keeps old l) (sym e) (record {
  trie = record { within = λ n c next edge. omega (arith, size, inside n c next (back n c next edge)) };
  size = omega (arith, size);
  edges = on;
  finds = λ n path found. (λ h. to h, λ h. from h);
}) where
  size : length (old ++ node ∷ []) ≡ length old + 1
  size = length-append old (node ∷ [])

  on : (n c next : ℕ) → IsEdge old n c next → IsEdge (old ++ node ∷ []) n c next
  on n c next edge = record { node = edge.node; at = slice_get-push_left old node n edge.at; leads = edge.leads }

  inside : (n c next : ℕ) → IsEdge old n c next → next < length old
  inside n c next edge = trie.within n c next edge

  back : (n c next : ℕ) → IsEdge (old ++ node ∷ []) n c next → IsEdge old n c next
  back n c next edge = elim (slice_get-push_cases old node n edge.at) [
    | inl there ↦ record { node = edge.node; at = there; leads = edge.leads }
    | inr last ↦ absurd (bare.edges c next (subst (λ (x : TrieNode). get nat_cmp x.edges c ≡ Some next) last.1
        edge.leads))
  ]

  to : {n found : ℕ} {path : List ℕ} → Finds (old ++ node ∷ []) n path found → Finds old n path found
  to {n} {found} (ends_here x at has) = elim (slice_get-push_cases old node n at) [
    | inl there ↦ ends_here x there has
    | inr last ↦ absurd (bare.numbers found (subst (λ (y : TrieNode). Contains y.numbers found) last.1 has))
  ]
  to {n} (goes_on {c = c} {next = next} edge rest) = goes_on (back n c next edge) (to rest)

  from : {n found : ℕ} {path : List ℕ} → Finds old n path found → Finds (old ++ node ∷ []) n path found
  from {n} (ends_here x at has) = ends_here x (slice_get-push_left old node n at) has
  from {n} (goes_on {c = c} {next = next} edge rest) = goes_on (on n c next edge) (from rest)

-- ---- a node changes

-- Each other node is bare.
record IsBareApart (nodes : List TrieNode) (number next : ℕ) : Type 0 where
  pub node : TrieNode
  pub at : slice_get nodes next ≡ Some node
  pub bare : IsBare node
  pub apart : next ≢ number

keeps_set : {old new : List TrieNode} (number : ℕ) (node node' : TrieNode) → IsTrie old
    → slice_get old number ≡ Some node
    → node'.numbers ≡ node.numbers →
    ((c next : ℕ) → get nat_cmp node.edges c ≡ Some next → get nat_cmp node'.edges c ≡ Some next) →
    ((c next : ℕ) → get nat_cmp node'.edges c ≡ Some next
    → (get nat_cmp node.edges c ≡ Some next) ⊎ IsBareApart old number next) →
    new ≡ slice_set old number node' → Keeps old new
keeps_set {old} {new} number node node' trie at same led leads e = subst (λ l. Keeps old l) (sym e) (record {
  trie = record { within = λ n c next edge. omega (arith, size, inside n c next (back n c next edge)) };
  size = omega (arith, size);
  edges = on;
  finds = λ n path found. (λ h. to h, λ h. from h);
}) where
  set : List TrieNode
  set = slice_set old number node'

  size : length set ≡ length old
  size = length-set old number node'

  here : slice_get set number ≡ Some node'
  here = slice_get-set_same old number node' node at

  on : (n c next : ℕ) → IsEdge old n c next → IsEdge set n c next
  on n c next edge = elim (cases_eq n number) [
    | inl own ↦
        let is : edge.node ≡ node = some_inj (sym edge.at ∙ subst (λ k. slice_get old k ≡ Some node) (sym own) at) in
        record {
          node = node';
          at = subst (λ k. slice_get set k ≡ Some node') (sym own) here;
          leads = led c next (subst (λ (x : TrieNode). get nat_cmp x.edges c ≡ Some next) is edge.leads);
        }
    | inr other ↦ record
        { node = edge.node; at = slice_get-set_other old number node' n other ∙ edge.at; leads = edge.leads }
  ]

  back : (n c next : ℕ) → IsEdge set n c next → IsEdge old n c next ⊎ IsBareApart old number next
  back n c next edge = elim (slice_get-set_cases old number node' n edge.node edge.at) [
    | inl own ↦ elim (leads c next (subst (λ (x : TrieNode). get nat_cmp x.edges c ≡ Some next) own.1 edge.leads)) [
      | inl there ↦ inl (record
          { node = node; at = subst (λ k. slice_get old k ≡ Some node) (sym own.0) at; leads = there })
      | inr bare ↦ inr bare
    ]
    | inr other ↦ inl (record { node = edge.node; at = other.1; leads = edge.leads })
  ]

  inside : (n c next : ℕ) → IsEdge old n c next ⊎ IsBareApart old number next → next < length old
  inside n c next (inl edge) = trie.within n c next edge
  inside n c next (inr bare) = slice_get_within old next bare.node bare.at

  to : {n found : ℕ} {path : List ℕ} → Finds set n path found → Finds old n path found
  to {n} {found} (ends_here x there has) = elim (slice_get-set_cases old number node' n x there) [
    | inl own ↦ ends_here node (subst (λ k. slice_get old k ≡ Some node) (sym own.0) at)
        (subst (λ l. Contains l found) (ap (λ (y : TrieNode). y.numbers) own.1 ∙ same) has)
    | inr other ↦ ends_here x other.1 has
  ]
  to {n} {found} (goes_on {c = c} {next = next} edge rest) = elim (back n c next edge) [
    | inl there ↦ goes_on there (to rest)
    | inr bare ↦ absurd (bare_finds bare.node
        (slice_get-set_other old number node' next bare.apart ∙ bare.at) bare.bare rest)
  ]

  from : {n found : ℕ} {path : List ℕ} → Finds old n path found → Finds set n path found
  from {n} {found} (ends_here x there has) = elim (cases_eq n number) [
    | inl own ↦
        let is : x ≡ node = some_inj (sym there ∙ subst (λ k. slice_get old k ≡ Some node) (sym own) at) in
        ends_here node' (subst (λ k. slice_get set k ≡ Some node') (sym own) here)
        (subst (λ l. Contains l found) (ap (λ (y : TrieNode). y.numbers) is ∙ sym same) has)
    | inr other ↦ ends_here x (slice_get-set_other old number node' n other ∙ there) has
  ]
  from {n} (goes_on {c = c} {next = next} edge rest) = goes_on (on n c next edge) (from rest)

-- the edges of a node, with one more

edge_cases : (old new : BTreeMap ℕ ℕ) (c own d next : ℕ) → Updates nat_cmp old new c (Some own)
    → get nat_cmp new d ≡ Some next → (get nat_cmp old d ≡ Some next) ⊎ (next ≡ own)
edge_cases old new c own d next updates e = by_test (is_at (nat_cmp c) d) refl where
  by_test : (test : Bool) → is_at (nat_cmp c) d ≡ test → (get nat_cmp old d ≡ Some next) ⊎ (next ≡ own)
  by_test true is =
      let same : c ≡ d = nat_cmp-IsAntisymmetric c d ((Equal-is (nat_cmp c d)).0 is) in
      inr (some_inj (sym e ∙ subst (λ k. get nat_cmp new k ≡ Some own) same updates.1))
  by_test false isnt = inl (sym (updates.2 d isnt) ∙ e)

edge_kept : (old new : BTreeMap ℕ ℕ) (c own d next : ℕ) → Updates nat_cmp old new c (Some own)
    → get nat_cmp old c ≡ None → get nat_cmp old d ≡ Some next → get nat_cmp new d ≡ Some next
edge_kept old new c own d next updates fresh e = by_test (is_at (nat_cmp c) d) refl where
  by_test : (test : Bool) → is_at (nat_cmp c) d ≡ test → get nat_cmp new d ≡ Some next
  by_test true is =
      let same : c ≡ d = nat_cmp-IsAntisymmetric c d ((Equal-is (nat_cmp c d)).0 is) in
      none_is_no_some (sym (subst (λ k. get nat_cmp old k ≡ None) same fresh) ∙ e)
  by_test false isnt = updates.2 d isnt ∙ e

-- ---- a literal is added

-- the characters lead from the first node to this one
pub data Along (nodes : List TrieNode) : List ℕ → ℕ → Type 0 where
  at_root : Along nodes [] 0
  further : {literal : List ℕ} {number c next : ℕ} → Along nodes literal number → IsEdge nodes number c next
      → Along nodes (literal ++ c ∷ []) next

pub along_kept : {old new : List TrieNode} {literal : List ℕ} {number : ℕ} →
    ((number c next : ℕ) → IsEdge old number c next → IsEdge new number c next) → Along old literal number
    → Along new literal number
along_kept kept at_root = at_root
along_kept kept (further {number = n} {c = c} {next = next} before edge) = further (along_kept kept before)
    (kept n c next edge)

finds_along : {nodes : List TrieNode} {literal path : List ℕ} {number found : ℕ} → Along nodes literal number
    → Finds nodes number path found → Finds nodes 0 (literal ++ path) found
finds_along at_root h = h
finds_along {nodes} {path = path} {found = found} (further {literal} {c = c} before edge) h =
    subst (λ l. Finds nodes 0 l found) (sym (append_assoc literal (c ∷ []) path))
    (finds_along before (goes_on edge h))

literal_added : {first old new : List TrieNode} {literal : List ℕ} {number own : ℕ} (node node' : TrieNode)
    → Keeps first old
    → Along old literal number → slice_get old number ≡ Some node →
    node'.numbers ≡ node.numbers ++ own ∷ [] → node'.edges ≡ node.edges → new ≡ slice_set old number node'
    → AddsLiteral literal own first new
literal_added {first} {old} {new} {literal} {number} {own} node node' keeps along at more same e =
    subst (λ l. AddsLiteral literal own first l) (sym e) (record {
      trie = record { within = λ n c next edge. omega (arith, size, keeps.trie.within n c next (back n c next edge)) };
      kept = λ path found h. from ((keeps.finds 0 path found).1 h);
      added = λ path begun. subst (λ l. Finds set 0 l own) (sym begun.whole) (finds_along (along_kept on along)
          (ends_here node' here (subst (λ l. Contains l own) (sym more) (Contains-push node.numbers own))));
      only = λ path found h. elim (to h) [
        | inl there ↦ inl ((keeps.finds 0 path found).0 there)
        | inr is ↦ inr is
      ];
    }) where
      set : List TrieNode
      set = slice_set old number node'

      size : length set ≡ length old
      size = length-set old number node'

      here : slice_get set number ≡ Some node'
      here = slice_get-set_same old number node' node at

      on : (n c next : ℕ) → IsEdge old n c next → IsEdge set n c next
      on n c next edge = elim (cases_eq n number) [
        | inl there ↦
            let is : edge.node ≡ node = some_inj (sym edge.at
            ∙ subst (λ k. slice_get old k ≡ Some node) (sym there) at) in
            record {
              node = node';
              at = subst (λ k. slice_get set k ≡ Some node') (sym there) here;
              leads = subst (λ m. get nat_cmp m c ≡ Some next) (ap (λ (x : TrieNode). x.edges) is ∙ sym same)
                  edge.leads;
            }
        | inr other ↦ record
            { node = edge.node; at = slice_get-set_other old number node' n other ∙ edge.at; leads = edge.leads }
      ]

      back : (n c next : ℕ) → IsEdge set n c next → IsEdge old n c next
      back n c next edge = elim (slice_get-set_cases old number node' n edge.node edge.at) [
        | inl there ↦ record {
          node = node;
          at = subst (λ k. slice_get old k ≡ Some node) (sym there.0) at;
          leads = subst (λ m. get nat_cmp m c ≡ Some next) (ap (λ (x : TrieNode). x.edges) there.1 ∙ same) edge.leads;
        }
        | inr other ↦ record { node = edge.node; at = other.1; leads = edge.leads }
      ]

      from : {n found : ℕ} {path : List ℕ} → Finds old n path found → Finds set n path found
      from {n} {found} (ends_here x there has) = elim (cases_eq n number) [
        | inl is_it ↦
            let is : x ≡ node = some_inj (sym there ∙ subst (λ k. slice_get old k ≡ Some node) (sym is_it) at) in
            ends_here node' (subst (λ k. slice_get set k ≡ Some node') (sym is_it) here)
            (subst (λ l. Contains l found) (sym more) (Contains-append_left node.numbers (own ∷ []) found
            (subst (λ (y : TrieNode). Contains y.numbers found) is has)))
        | inr other ↦ ends_here x (slice_get-set_other old number node' n other ∙ there) has
      ]
      from {n} (goes_on {c = c} {next = next} edge rest) = goes_on (on n c next edge) (from rest)

      to : {n found : ℕ} {path : List ℕ} → Finds set n path found → Finds old n path found ⊎ (found ≡ own)
      to {n} {found} (ends_here x there has) = elim (slice_get-set_cases old number node' n x there) [
        | inl is_it ↦ elim (Contains-push_cases node.numbers own found
            (subst (λ l. Contains l found) (ap (λ (y : TrieNode). y.numbers) is_it.1 ∙ more) has)) [
              | inl old_one ↦ inl (ends_here node (subst (λ k. slice_get old k ≡ Some node) (sym is_it.0) at) old_one)
              | inr new_one ↦ inr (sym new_one)
            ]
        | inr other ↦ inl (ends_here x other.1 has)
      ]
      to {n} (goes_on {c = c} {next = next} edge rest) = elim (to rest) [
        | inl there ↦ inl (goes_on (back n c next edge) there)
        | inr is ↦ inr is
      ]

-- ---- literals are found

record Turn (nodes : List TrieNode) (node : TrieNode) (rest : List ℕ) (found : ℕ) : Type 0 where
  c : ℕ
  cs : List ℕ
  next : ℕ
  whole : rest ≡ c ∷ cs
  leads : next_of node rest ≡ Some next
  finds : Finds nodes next cs found

turn : {nodes : List TrieNode} {number found : ℕ} {rest : List ℕ} (node : TrieNode) → slice_get nodes number ≡ Some node
    → Finds nodes number rest found → Contains node.numbers found ⊎ Turn nodes node rest found
turn {found = found} node at (ends_here x there has) = inl
    (subst (λ (y : TrieNode). Contains y.numbers found) (some_inj (sym there ∙ at)) has)
turn node at (goes_on {c = c} {next = next} {path = path} edge rest) = inr (record {
  c = c;
  cs = path;
  next = next;
  whole = refl;
  leads = subst (λ (x : TrieNode). get nat_cmp x.edges c ≡ Some next) (some_inj (sym edge.at ∙ at)) edge.leads;
  finds = rest;
})

-- The numbers found at a node or below it are those found before or at the next node, from which the rest of the path
-- is read.
pub record IsReading (nodes : List TrieNode) (path first found : List ℕ) (number : ℕ) (rest : List ℕ) : Type 0 where
  pub same : (k : ℕ) → (Contains first k ⊎ Finds nodes 0 path k) ↔ (Contains found k ⊎ Finds nodes number rest k)

pub reading_first : (nodes : List TrieNode) (path first : List ℕ) → IsReading nodes path first first 0 path
reading_first nodes path first = record { same = λ k. (λ h. h, λ h. h) }

no_turn : {nodes : List TrieNode} {node : TrieNode} {rest : List ℕ} {k : ℕ} → next_of node rest ≡ None
    → Turn nodes node rest k → ⊥
no_turn none t = none_is_no_some (sym none ∙ t.leads)

reading_last : {nodes : List TrieNode} {path first found after : List ℕ} {number : ℕ} {rest : List ℕ} (node : TrieNode)
    → slice_get nodes number ≡ Some node → after ≡ found ++ node.numbers → next_of node rest ≡ None →
    IsReading nodes path first found number rest → (k : ℕ)
    → Contains after k ↔ (Contains first k ⊎ Finds nodes 0 path k)
reading_last {nodes} {path} {first} {found} {after} {number} {rest} node at e none reading k = (
  λ h. (reading.same k).1 (to (Contains-append_cases found node.numbers k (subst (λ l. Contains l k) e h))),
  λ h. subst (λ l. Contains l k) (sym e) (from ((reading.same k).0 h)),
) where
  to : Contains found k ⊎ Contains node.numbers k → Contains found k ⊎ Finds nodes number rest k
  to (inl h) = inl h
  to (inr h) = inr (ends_here node at h)

  ended : Contains node.numbers k ⊎ Turn nodes node rest k → Contains node.numbers k
  ended (inl h) = h
  ended (inr t) = absurd (no_turn none t)

  from : Contains found k ⊎ Finds nodes number rest k → Contains (found ++ node.numbers) k
  from (inl h) = Contains-append_left found node.numbers k h
  from (inr h) = Contains-append_right found node.numbers k (ended (turn node at h))

past_none : {nodes : List TrieNode} {number found : ℕ} {path : List ℕ} → length nodes ≤ number
    → Finds nodes number path found → ⊥
past_none {nodes} {number} past (ends_here node at has) = none_is_no_some (sym (slice_get_past nodes number past) ∙ at)
past_none {nodes} {number} past (goes_on edge more) = none_is_no_some (sym (slice_get_past nodes number past) ∙ edge.at)

pub reading_past : {nodes : List TrieNode} {path first found : List ℕ} {number : ℕ} {rest : List ℕ}
    → length nodes ≤ number → IsReading nodes path first found number rest → (k : ℕ)
    → Contains found k ↔ (Contains first k ⊎ Finds nodes 0 path k)
reading_past {nodes} {path} {first} {found} {number} {rest} past reading k = (
  λ h. (reading.same k).1 (inl h),
  λ h. from ((reading.same k).0 h),
) where
  from : Contains found k ⊎ Finds nodes number rest k → Contains found k
  from (inl h) = h
  from (inr h) = absurd (past_none past h)

reading_more : {nodes : List TrieNode} {path first found after : List ℕ} {number next c : ℕ} {rest cs : List ℕ}
    (node : TrieNode) → slice_get nodes number ≡ Some node → after ≡ found ++ node.numbers →
    next_of node rest ≡ Some next → rest ≡ c ∷ cs → IsReading nodes path first found number rest
    → IsReading nodes path first after next cs
reading_more {nodes} {path} {first} {found} {after} {number} {next} {c} {rest} {cs} node at e leads whole reading =
    record {
      same = λ k. (λ h. to k ((reading.same k).0 h), λ h. (reading.same k).1 (from k h));
    } where
      edge : IsEdge nodes number c next
      edge = record { node = node; at = at; leads = subst (λ l. next_of node l ≡ Some next) whole leads }

      by_turn : (k : ℕ) → Contains node.numbers k ⊎ Turn nodes node rest k → Contains after k ⊎ Finds nodes next cs k
      by_turn k (inl h) = inl (subst (λ l. Contains l k) (sym e) (Contains-append_right found node.numbers k h))
      by_turn k (inr t) = inr (subst (λ l. Finds nodes next l k) (tail-same (sym t.whole ∙ whole))
          (subst (λ n. Finds nodes n t.cs k) (some_inj (sym t.leads ∙ leads)) t.finds))

      to : (k : ℕ) → Contains found k ⊎ Finds nodes number rest k → Contains after k ⊎ Finds nodes next cs k
      to k (inl h) = inl (subst (λ l. Contains l k) (sym e) (Contains-append_left found node.numbers k h))
      to k (inr h) = by_turn k (turn node at h)

      by_cases : (k : ℕ) → Contains found k ⊎ Contains node.numbers k → Contains found k ⊎ Finds nodes number rest k
      by_cases k (inl h) = inl h
      by_cases k (inr h) = inr (ends_here node at h)

      from : (k : ℕ) → Contains after k ⊎ Finds nodes next cs k → Contains found k ⊎ Finds nodes number rest k
      from k (inl h) = by_cases k (Contains-append_cases found node.numbers k (subst (λ l. Contains l k) e h))
      from k (inr h) = inr (subst (λ l. Finds nodes number l k) (sym whole) (goes_on edge h))

read_at : (nodes : List TrieNode) (number : ℕ) (node : TrieNode) → number < length nodes
    → node ≡ get_or nodes number node
    → slice_get nodes number ≡ Some node
read_at nodes number node less is = slice_get_read nodes (length nodes) number node refl less is

drop_past : (path : List ℕ) (index : ℕ) → length path ≤ index → drop index path ≡ []
drop_past [] zero p = refl
drop_past [] (suc n) p = refl
drop_past (c ∷ cs) zero p = absurd (omega (arith, p))
drop_past (c ∷ cs) (suc n) p = drop_past cs n (omega (arith, p))

pub reading_step : (nodes : List TrieNode) (path : List ℕ) (index : ℕ) {first found after slice rest : List ℕ}
    {number next : ℕ} (one two : TrieNode) → number < length nodes → one ≡ get_or nodes number one →
    two ≡ get_or nodes number two → slice ≡ one.numbers → after ≡ found ++ slice → rest ≡ drop index path →
    next_of two rest ≡ Some next → index ≤ length path → IsReading nodes path first found number (drop index path)
    → IsReading nodes path first after next (drop (index + 1) path) × (index + 1 ≤ length path)
reading_step nodes path index {first} {found} {after} {slice} {rest} {number}
    {next} one two less is same has added whole leads inside reading = elim (cases_lt index (length path)) [
      | inl below ↦
          let d = drop_one path index below in (
            subst (λ n. IsReading nodes path first after next (drop n path)) step
                (reading_more one at (added ∙ ap (λ l. found ++ l) has) leads_one d.1 reading),
            omega (arith, below),
          )
      | inr past ↦ none_is_no_some (subst (λ r. next_of one r ≡ Some next) (drop_past path index past) leads_one)
    ] where
      at : slice_get nodes number ≡ Some one
      at = read_at nodes number one less is

      equal : two ≡ one
      equal = some_inj (sym (read_at nodes number two less same) ∙ at)

      leads_one : next_of one (drop index path) ≡ Some next
      leads_one = subst (λ (n : TrieNode). next_of n (drop index path) ≡ Some next) equal
          (subst (λ r. next_of two r ≡ Some next) whole leads)

      step : suc index ≡ index + 1
      step = omega arith

pub reading_end : (nodes : List TrieNode) (path : List ℕ) (index : ℕ) {first found after slice rest : List ℕ}
    {number : ℕ}
    (one two : TrieNode) → number < length nodes → one ≡ get_or nodes number one → two ≡ get_or nodes number two →
    slice ≡ one.numbers → after ≡ found ++ slice → rest ≡ drop index path → next_of two rest ≡ None
    → IsReading nodes path first found number (drop index path) →
    (k : ℕ) → Contains after k ↔ (Contains first k ⊎ Finds nodes 0 path k)
reading_end nodes path index {first} {found} {after} {slice} {rest}
    {number} one two less is same has added whole none reading =
    reading_last one at (added ∙ ap (λ l. found ++ l) has) none_one reading where
      at : slice_get nodes number ≡ Some one
      at = read_at nodes number one less is

      equal : two ≡ one
      equal = some_inj (sym (read_at nodes number two less same) ∙ at)

      none_one : next_of one (drop index path) ≡ None
      none_one = subst (λ (n : TrieNode). next_of n (drop index path) ≡ None) equal
          (subst (λ r. next_of two r ≡ None) whole none)

-- ---- the promises of each step of adding a literal

pub along_on : {nodes : List TrieNode} {literal longer : List ℕ} {number c next : ℕ} → Along nodes literal number
    → IsEdge nodes number c next → longer ≡ literal ++ c ∷ [] → Along nodes longer next
along_on {nodes} {next = next} before edge e = subst (λ w. Along nodes w next) (sym e) (further before edge)

pub literal_put : {first old new : List TrieNode} {literal done : List ℕ} {number own : ℕ} → Keeps first old
    → Along old done number → done ≡ literal → PutsNumber old number own new → AddsLiteral literal own first new
literal_put {first} {old} {new} {literal} {done} {number} {own} keeps along e puts = literal_added puts.node
    (record { numbers = puts.node.numbers ++ own ∷ []; edges = puts.node.edges }) keeps
    (subst (λ w. Along old w number) e along) puts.at refl refl puts.whole

pub keeps_still : {first old new : List TrieNode} → Keeps first old → new ≡ old → Keeps first new
keeps_still {first} keeps e = subst (λ l. Keeps first l) (sym e) keeps

keeps_bare : {old new : List TrieNode} → IsTrie old → AddsBare old new → Keeps old new
keeps_bare trie adds = keeps_pushed adds.node trie adds.bare adds.whole

pub bare_some : {old new : List TrieNode} → AddsBare old new → 0 < length new
bare_some {old} adds = omega (arith, ap length adds.whole, length-append old (adds.node ∷ []))

pub edge_read : (nodes : List TrieNode) (number c : ℕ) {next : ℕ} (node : TrieNode) → number < length nodes
    → node ≡ get_or nodes number node → get nat_cmp node.edges c ≡ Some next → IsEdge nodes number c next
edge_read nodes number c node less is leads =
    record { node = node; at = read_at nodes number node less is; leads = leads }

pub no_edge_read : (nodes : List TrieNode) (number c : ℕ) (node : TrieNode) → number < length nodes
    → node ≡ get_or nodes number node → get nat_cmp node.edges c ≡ None → HasNoEdge nodes number c
no_edge_read nodes number c node less is none next edge =
    let same : edge.node ≡ node = some_inj (sym edge.at ∙ read_at nodes number node less is) in
    none_is_no_some (sym none ∙ subst (λ (n : TrieNode). get nat_cmp n.edges c ≡ Some next) same edge.leads)

pub edge_put : {nodes : List TrieNode} {new : List TrieNode} {number c next : ℕ} → PutsEdge nodes number c next new
    → IsEdge new number c next
edge_put {nodes} {new} {number} {c} {next} puts = record {
  node = record { numbers = puts.node.numbers; edges = puts.edges };
  at = subst (λ l. slice_get l number ≡ Some (record { numbers = puts.node.numbers; edges = puts.edges }))
      (sym puts.whole)
      (slice_get-set_same nodes number (record { numbers = puts.node.numbers; edges = puts.edges }) puts.node puts.at);
  leads = puts.updates.1;
}

none_or : (o : Option ℕ) → ((next : ℕ) → o ≡ Some next → ⊥) → o ≡ None
none_or None h = refl
none_or (Some next) h = absurd (h next refl)

keeps_led : {old mid new : List TrieNode} {number c : ℕ} → IsTrie old → number < length old → HasNoEdge old number c
    → AddsBare old mid → PutsEdge mid number c (length old) new → Keeps old new
keeps_led {old} {mid} {new} {number} {c} trie inside fresh adds puts = keeps_on (keeps_bare trie adds)
    (keeps_set number puts.node (record { numbers = puts.node.numbers; edges = puts.edges })
    (keeps_bare trie adds).trie puts.at refl
    (λ d next e. edge_kept puts.node.edges puts.edges c (length old) d next puts.updates none e)
    (λ d next e. leads d next (edge_cases puts.node.edges puts.edges c (length old) d next puts.updates e))
    puts.whole) where
      there : (node : TrieNode) → (slice_get old number ≡ Some node) ⊎ ((number ≡ length old) × (node ≡ adds.node))
          → slice_get old number ≡ Some node
      there node (inl h) = h
      there node (inr h) = absurd (omega (arith, inside, h.0))

      before : slice_get old number ≡ Some puts.node
      before = there puts.node (slice_get-push_cases old adds.node number
          (subst (λ l. slice_get l number ≡ Some puts.node) adds.whole puts.at))

      none : get nat_cmp puts.node.edges c ≡ None
      none = none_or (get nat_cmp puts.node.edges c)
          (λ next e. fresh next (record { node = puts.node; at = before; leads = e }))

      bare : IsBareApart mid number (length old)
      bare = record {
        node = adds.node;
        at = subst (λ l. slice_get l (length old) ≡ Some adds.node) (sym adds.whole)
            (slice_get-push_last old adds.node (length old) refl);
        bare = adds.bare;
        apart = λ e. omega (arith, inside, e);
      }

      leads : (d next : ℕ) → (get nat_cmp puts.node.edges d ≡ Some next) ⊎ (next ≡ length old)
          → (get nat_cmp puts.node.edges d ≡ Some next) ⊎ IsBareApart mid number next
      leads d next (inl h) = inl h
      leads d next (inr e) = inr (subst (λ n. IsBareApart mid number n) (sym e) bare)

pub keeps_edge : {old mid new : List TrieNode} {number c next : ℕ} → IsTrie old → number < length old
    → HasNoEdge old number c → AddsBare old mid → next ≡ length old → PutsEdge mid number c next new → Keeps old new
keeps_edge {old} {mid} {new} {number} {c} trie inside fresh adds e puts = keeps_led trie inside fresh adds
    (subst (λ n. PutsEdge mid number c n new) e puts)

pub keeps_no_edge : {old mid new : List TrieNode} {number : ℕ} → Keeps old mid → PutsNoEdge mid number new
    → Keeps old new
keeps_no_edge {old} {mid} {new} {number} keeps puts = keeps_on keeps
    (keeps_set number puts.node (record { numbers = puts.node.numbers; edges = puts.edges }) keeps.trie puts.at refl
    (λ d next e. subst (λ l. lookup (is_at (nat_cmp d)) l ≡ Some next) (sym puts.unchanged) e)
    (λ d next e. inl (subst (λ l. lookup (is_at (nat_cmp d)) l ≡ Some next) puts.unchanged e)) puts.whole)
