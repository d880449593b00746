-- Values are read and reduced to a selection, an element or a member at a time.
use Rattle.std.proofs.Common.{◌≡◌, ◌∙◌, ◌-◌, ◌<◌, ◌≤◌, ◌++◌, ◌&&◌, ℕ, List, [], ◌∷◌, Bool, true, false, Some, None}
use Rattle.std.proofs.Common.{length, refl, sym, ap}
use Rattle.std.specs.Prelude.{if◌then◌else◌}
use Rattle.std.specs.Borrow.{Bor}
use Rattle.json.specs.Json.{Json, Items, no_items, item, Members, no_members, member, after_end_array, items, members}
use Rattle.json.specs.Json.{parse_map, read_key, value}
use Rattle.json.specs.Token.{Token}
use Rattle.json.specs.Value.{items_view, members_view, value_view}
use Rattle.json.specs.declared.value.Value.{Value}
use Rattle.json.proofs.Grammar.{items_end, items_more, members_end, members_more}
use Rattle.json.proofs.Trees.{items_before, items_before-no_items, members_before, members_before-no_members}
use Rattle.deny_krates_metadata.specs.declared.selection.Selection.{Selection}
use Rattle.deny_krates_metadata.specs.private.Borrowed.{are_items_whole, are_members_whole, is_whole}
use Rattle.deny_krates_metadata.specs.private.Selection.{is_nothing, member_selected, pruned, pruned_items}
use Rattle.deny_krates_metadata.specs.private.Selection.{pruned_members}

both : (a b : Bool) → a ≡ true → b ≡ true → a && b ≡ true
both a b x y = rw (x, y) refl

-- ---- elements

-- whatever elements follow, they and those that were found are the reduced elements of the array
abbrev pub GoOn : {A : Type 0} → Selection → ℕ → ℕ → List Token → List Token → List (Value A) → Type 0
GoOn w depth n first now found = (js : Items) (rest : List Token) → items (value depth) n now ≡ Some (js, rest)
    → are_items_whole js ≡ true
    → (all : Items) × (items (value depth) (length first) first ≡ Some (all, rest)) × (are_items_whole all ≡ true)
    × (pruned_items w all ≡ items_before found (pruned_items w js))

push_item : {A : Type 0} (vs : List (Value A)) (v : Value A) (rest : Items)
    → items_before vs (item (value_view v) rest) ≡ items_before (vs ++ v ∷ []) rest
push_item [] v rest = refl
push_item (w ∷ vs) v rest = ap (item (value_view w)) (push_item vs v rest)

one_item : {A : Type 0} (w : Selection) (depth n : ℕ) (first now r : List Token) (j : Json) (found new : List (Value A))
    → 0 < n → after_end_array now ≡ None → value depth now ≡ Some (j, r) → is_whole j ≡ true
    → ((js : Items) → items_before found (pruned_items w (item j js)) ≡ items_before new (pruned_items w js))
    → GoOn w depth n first now found → GoOn w depth (n - 1) first r new
one_item w depth n first now r j found new more going reads fits grown so_far js rest is whole =
    let turn : items (value depth) n now ≡ Some (item j js, rest) =
    items_more (value depth) n now r j more going reads ∙ ap (parse_map (item j)) is in
    let all = so_far (item j js) rest turn (both (is_whole j) (are_items_whole js) fits whole) in
    (all.0, all.1, all.2, all.3 ∙ grown js)

grown_item : {A : Type 0} (b : Bool) (w : Selection) (j : Json) (v : Value A) (found new : List (Value A))
    → is_nothing w ≡ b → value_view v ≡ pruned w j → new ≡ (if b then found else found ++ v ∷ []) → (js : Items)
    → items_before found (pruned_items w (item j js)) ≡ items_before new (pruned_items w js)
grown_item true w j v found new is seen pushed js =
    ap (λ b. items_before found (if b then pruned_items w js else item (pruned w j) (pruned_items w js))) is
    ∙ ap (λ vs. items_before vs (pruned_items w js)) (sym pushed)
grown_item false w j v found new is seen pushed js =
    ap (λ b. items_before found (if b then pruned_items w js else item (pruned w j) (pruned_items w js))) is
    ∙ (ap (λ k. items_before found (item k (pruned_items w js))) (sym seen)
    ∙ (push_item found v (pruned_items w js)
    ∙ ap (λ vs. items_before vs (pruned_items w js)) (sym pushed)))

pub next_item : {A : Type 0} (w : Selection) (depth n : ℕ) (first now r : List Token) (v : Value A)
    (found new : List (Value A)) → 0 < n → after_end_array now ≡ None
    → (j : Json) × (value depth now ≡ Some (j, r)) × (is_whole j ≡ true) × (value_view v ≡ pruned w j)
    → new ≡ (if is_nothing w then found else found ++ v ∷ [])
    → GoOn w depth n first now found → GoOn w depth (n - 1) first r new
next_item w depth n first now r v found new more going read pushed so_far =
    one_item w depth n first now r read.0 found new more going read.1 read.2
    (grown_item (is_nothing w) w read.0 v found new refl read.3 pushed) so_far

pub items_read : {A : Type 0} (w : Selection) (depth n : ℕ) (first now r : List Token) (found : List (Value A))
    → length now ≤ n → after_end_array now ≡ Some r → GoOn w depth n first now found
    → (js : Items) × (items (value depth) (length first) first ≡ Some (js, r)) × (are_items_whole js ≡ true)
    × (items_view found ≡ pruned_items w js)
items_read w depth n first now r found few closed so_far =
    let all = so_far no_items r (items_end (value depth) n now r few closed) refl in
    (all.0, all.1, all.2, sym (all.3 ∙ items_before-no_items found))

-- ---- members

-- whatever members follow, they and those that were found are the reduced members of the object
abbrev pub KeepOn : {A : Type 0} → Selection → ℕ → ℕ → List Token → List Token → List (Bor (List ℕ) × Value A) → Type 0
KeepOn w depth n first now found = (ms : Members) (rest : List Token) → members (value depth) n now ≡ Some (ms, rest)
    → are_members_whole ms ≡ true
    → (all : Members) × (members (value depth) (length first) first ≡ Some (all, rest))
    × (are_members_whole all ≡ true) × (pruned_members w all ≡ members_before found (pruned_members w ms))

push_member : {A : Type 0} (vs : List (Bor (List ℕ) × Value A)) (v : Bor (List ℕ) × Value A) (rest : Members)
    → members_before vs (member v.0.now (value_view v.1) rest) ≡ members_before (vs ++ v ∷ []) rest
push_member [] v rest = refl
push_member (w ∷ vs) v rest = ap (member w.0.now (value_view w.1)) (push_member vs v rest)

one_member : {A : Type 0} (w : Selection) (depth n : ℕ) (first now s r : List Token) (key : List ℕ) (j : Json)
    (found new : List (Bor (List ℕ) × Value A)) → 0 < n → read_key now ≡ Some (Some key, s)
    → value depth s ≡ Some (j, r) → is_whole j ≡ true
    → ((ms : Members) → members_before found (pruned_members w (member key j ms))
    ≡ members_before new (pruned_members w ms))
    → KeepOn w depth n first now found → KeepOn w depth (n - 1) first r new
one_member w depth n first now s r key j found new more going reads fits grown so_far ms rest is whole =
    let turn : members (value depth) n now ≡ Some (member key j ms, rest) =
    members_more (value depth) n key now s r j more going reads ∙ ap (parse_map (member key j)) is in
    let all = so_far (member key j ms) rest turn (both (is_whole j) (are_members_whole ms) fits whole) in
    (all.0, all.1, all.2, all.3 ∙ grown ms)

grown_member : {A : Type 0} (b : Bool) (w : Selection) (key : Bor (List ℕ)) (j : Json) (v : Value A)
    (found new : List (Bor (List ℕ) × Value A)) → is_nothing (member_selected w key.now) ≡ b
    → value_view v ≡ pruned (member_selected w key.now) j → new ≡ (if b then found else found ++ (key, v) ∷ [])
    → (ms : Members)
    → members_before found (pruned_members w (member key.now j ms)) ≡ members_before new (pruned_members w ms)
grown_member true w key j v found new is seen pushed ms =
    ap (λ b. members_before found (if b then pruned_members w ms
    else member key.now (pruned (member_selected w key.now) j) (pruned_members w ms))) is
    ∙ ap (λ vs. members_before vs (pruned_members w ms)) (sym pushed)
grown_member false w key j v found new is seen pushed ms =
    ap (λ b. members_before found (if b then pruned_members w ms
    else member key.now (pruned (member_selected w key.now) j) (pruned_members w ms))) is
    ∙ (ap (λ k. members_before found (member key.now k (pruned_members w ms))) (sym seen)
    ∙ (push_member found (key, v) (pruned_members w ms)
    ∙ ap (λ vs. members_before vs (pruned_members w ms)) (sym pushed)))

pub next_member : {A : Type 0} (w : Selection) (depth n : ℕ) (first now s r : List Token) (key : Bor (List ℕ))
    (v : Value A) (found new : List (Bor (List ℕ) × Value A)) → 0 < n → read_key now ≡ Some (Some key.now, s)
    → (j : Json) × (value depth s ≡ Some (j, r)) × (is_whole j ≡ true)
    × (value_view v ≡ pruned (member_selected w key.now) j)
    → new ≡ (if is_nothing (member_selected w key.now) then found else found ++ (key, v) ∷ [])
    → KeepOn w depth n first now found → KeepOn w depth (n - 1) first r new
next_member w depth n first now s r key v found new more going read pushed so_far =
    one_member w depth n first now s r key.now read.0 found new more going read.1 read.2
    (grown_member (is_nothing (member_selected w key.now)) w key read.0 v found new refl read.3 pushed) so_far

pub members_read : {A : Type 0} (w : Selection) (depth n : ℕ) (first now r : List Token)
    (found : List (Bor (List ℕ) × Value A)) → length now ≤ n → read_key now ≡ Some (None, r)
    → KeepOn w depth n first now found
    → (ms : Members) × (members (value depth) (length first) first ≡ Some (ms, r)) × (are_members_whole ms ≡ true)
    × (members_view found ≡ pruned_members w ms)
members_read w depth n first now r found few closed so_far =
    let all = so_far no_members r (members_end (value depth) n now r few closed) refl in
    (all.0, all.1, all.2, sym (all.3 ∙ members_before-no_members found))
