-- The slots describe the segments before, and keep doing so with one more segment.
use Rattle.std.proofs.Common.{◌≡◌, ℕ, ◌+◌, ◌==◌, ◌&&◌, Bool, true, false, List, [], ◌∷◌, ◌++◌, length, refl, sym, ap}
use Rattle.std.proofs.Common.{◌∙◌, subst, Option, Some, None, Result, Ok, Err, length-append}
use Rattle.std.specs.Prelude.{if◌then◌else◌, cond, SomeIff, IsErrAnd, option_map, ◌<◌, ◌^◌}
use Rattle.std.specs.BTreeMap.{BTreeMap}
use Rattle.std.specs.BTreeMap as tree
use Rattle.std.specs.Cmp.Lexicographic.{slice_cmp}
use Rattle.std.specs.Ordering.{nat_cmp, ordering_then, is_eq}
use Rattle.std.specs.Str.{bytes_eq}
use Rattle.std.specs.declared.cmp.Ordering.{Ordering}
use Rattle.std.specs.declared.cmp.Ordering.TheVariants.{Less, Equal, Greater}
use Rattle.std.proofs.lemmas.Bool.{eqb-true, and_parts}
use Rattle.std.proofs.lemmas.List.{append-nil, map-append}
use Rattle.std.proofs.lemmas.Map.Text.{is_eq-slice_cmp}
use Rattle.std.proofs.lemmas.Slice.Eq.{bytes_eq-Decides}
use Rattle.deny_base_lists.proofs.Orders.{is_eq-nat_cmp}
use Rattle.deny_base.specs.declared.span.Span.{Span}
use Rattle.deny_toml_tree.specs.declared.clash.Role.{Role}
use Rattle.deny_toml_tree.specs.declared.clash.Role.TheVariants.{HeaderPasses, HeaderNames, ArrayNames, KeyPasses}
use Rattle.deny_toml_tree.specs.declared.clash.Role.TheVariants.{KeySets}
use Rattle.deny_toml_tree.specs.declared.clash.Slot.{Slot}
use Rattle.deny_toml_tree.specs.declared.clash.Slots.{Slots}
use Rattle.deny_toml_tree.specs.declared.clash.Occupant.{Occupant}
use Rattle.deny_toml_tree.specs.declared.clash.Refusal.{Refusal}
use Rattle.deny_toml_tree.specs.declared.clash.Refusal.TheVariants.{Clash, Memory}
use Rattle.deny_toml_grammar.specs.declared.parts.Key.{Key}
use Rattle.deny_toml_grammar.specs.declared.expression.Header.{Header}
use Rattle.deny_toml_grammar.specs.declared.expression.Assignment.{Assignment}
use Rattle.deny_toml_grammar.specs.Expression.{assigned_path, assigned_value}
use Rattle.deny_toml_tree.specs.Clash.{Segment, at_slot, roles_of, names_array, is_empty, may_duplicate, table_of}
use Rattle.deny_toml_tree.specs.Clash.{segment_after, hold, walk, walk_header, walk_key, ClashLine, header_line}
use Rattle.deny_toml_tree.specs.Clash.{clash_in}
use Rattle.deny_toml_tree.specs.Clash.{member_line, clash_after}
use Rattle.deny_toml_tree.specs.private.Slots.{admits, occupant_after, occupant_at, ReportsSlot, Reports, Takes}
use Rattle.deny_toml_tree.specs.private.Slots.{TakesKey}
use Rattle.deny_toml_tree.specs.private.Slots.{Finds}
use Rattle.deny_toml_tree.proofs.ClashLaws.{may_occur_more, may_duplicate-more, table_of-first, table_of-array}
use Rattle.deny_toml_tree.proofs.ClashLaws.{table_of-other}
use Rattle.deny_toml_tree.proofs.ClashLaws.{at_slot-more, walk_stops, key_clashes, header_clashes}

-- ---- a look-up after one slot was put in

is_eq-then : (r s : Ordering) → is_eq (ordering_then r s) ≡ (is_eq r && is_eq s)
is_eq-then Less s = refl
is_eq-then Equal s = refl
is_eq-then Greater s = refl

slot_with : ℕ → List ℕ → Slot
slot_with table name = record { table = table; name = record { ref_ptr = (0, 0); now = name } }

pub occupant_at-put : (old new : BTreeMap Slot Occupant) (segments more : ℕ) (slot : Slot) (occupant : Occupant)
    → ((q : Slot) → tree.get (λ a b. ordering_then (nat_cmp a.table b.table) (slice_cmp nat_cmp a.name.now b.name.now))
    new q
    ≡ cond (is_eq (ordering_then (nat_cmp slot.table q.table) (slice_cmp nat_cmp slot.name.now q.name.now)))
    (Some occupant) (tree.get (λ a b. ordering_then (nat_cmp a.table b.table)
    (slice_cmp nat_cmp a.name.now b.name.now)) old q))
    → (table : ℕ) (name : List ℕ) → occupant_at (record { occupants = new; segments = more }) table name
    ≡ (if (slot.table == table) && bytes_eq slot.name.now name then Some occupant else occupant_at
    (record { occupants = old; segments = segments }) table name)
unfolding slot_with
occupant_at-put old new segments more slot occupant updates table name =
    updates (slot_with table name)
    ∙ ap (λ b. cond b (Some occupant) (occupant_at (record { occupants = old; segments = segments }) table name))
    (is_eq-then (nat_cmp slot.table table) (slice_cmp nat_cmp slot.name.now name)
    ∙ rw (is_eq-nat_cmp slot.table table, is_eq-slice_cmp slot.name.now name) refl)

-- ---- one segment more at a slot

role_after : Option Role → Role → Role
role_after None role = role
role_after (Some stood) HeaderPasses = stood
role_after (Some stood) role = role

role-occupant_after : (occupant : Option Occupant) (role : Role) (number : ℕ)
    → (occupant_after occupant role number).role ≡ role_after (option_map (λ s. s.role) occupant) role
unfolding role_after
role-occupant_after None role number = refl
role-occupant_after (Some occupant) HeaderPasses number = refl
role-occupant_after (Some occupant) HeaderNames number = refl
role-occupant_after (Some occupant) ArrayNames number = refl
role-occupant_after (Some occupant) KeyPasses number = refl
role-occupant_after (Some occupant) KeySets number = refl

agree : Bool → Bool → Bool
agree true b = b
agree false true = false
agree false false = true

agree_same : (a b : Bool) → agree a b ≡ true → a ≡ b
unfolding agree
agree_same true b e = sym e
agree_same false true e = cc
agree_same false false e = refl

every_role : (Role → Bool) → Bool
every_role p = p HeaderPasses && (p HeaderNames && (p ArrayNames && (p KeyPasses && p KeySets)))

every_role_says : (p : Role → Bool) → every_role p ≡ true → (role : Role) → p role ≡ true
unfolding every_role
every_role_says p e role =
    let first = and_parts (p HeaderPasses) (p HeaderNames && (p ArrayNames && (p KeyPasses && p KeySets))) e in
    let second = and_parts (p HeaderNames) (p ArrayNames && (p KeyPasses && p KeySets)) first.1 in
    let third = and_parts (p ArrayNames) (p KeyPasses && p KeySets) second.1 in
    let last = and_parts (p KeyPasses) (p KeySets) third.1 in
    elim role as (λ r. p r ≡ true) [
      | HeaderPasses ↦ first.0
      | HeaderNames ↦ second.0
      | ArrayNames ↦ third.0
      | KeyPasses ↦ last.0
      | KeySets ↦ last.1
    ]

-- a role that is admitted leaves a slot that admits exactly the roles which may follow it
follows_at : Role → Role → Option Role → Bool
follows_at q role stood =
    cond (admits role stood) (agree (may_occur_more q role (admits q stood) (admits KeySets stood))
    (admits q (Some (role_after stood role)))) true

follows : every_role (λ q. every_role (λ role. follows_at q role None && every_role
    (λ stood. follows_at q role (Some stood)))) ≡ true
unfolding every_role follows_at role_after agree
follows = refl

follows_for : (q role : Role) (stood : Option Role) → follows_at q role stood ≡ true
follows_for q role None = (and_parts _ _ (every_role_says _ (every_role_says _ follows q) role)).0
follows_for q role (Some stood) = every_role_says _ (and_parts _ _
    (every_role_says _ (every_role_says _ follows q) role)).1 stood

admits_more : (q role : Role) (stood : Option Role) → admits role stood ≡ true
    → may_occur_more q role (admits q stood) (admits KeySets stood) ≡ admits q (Some (role_after stood role))
unfolding follows_at
admits_more q role stood is = agree_same _ _ (by_admitted (admits role stood) _ is (follows_for q role stood))
  where
    by_admitted : (admitted agreed : Bool) → admitted ≡ true → cond admitted agreed true ≡ true → agreed ≡ true
    by_admitted true agreed e is = is
    by_admitted false agreed e is = cc

none_there : (there : List Segment) → is_empty (roles_of there) ≡ true → there ≡ []
none_there [] e = refl
none_there (first ∷ there) e = cc

table_after : (there : List Segment) (occupant : Option Occupant) (segment : Segment) (role : Role)
    → segment.role ≡ role → ReportsSlot there occupant
    → table_of (there ++ segment ∷ []) ≡ (occupant_after occupant role segment.number).table
table_after there None segment role is reports = rw (none_there there (reports.hold KeySets)) (table_of-first segment)
table_after there (Some occupant) segment ArrayNames is reports = table_of-array there segment (ap names_array is)
table_after [] (Some occupant) segment HeaderPasses is reports = cc (reports.hold KeySets)
table_after [] (Some occupant) segment HeaderNames is reports = cc (reports.hold KeySets)
table_after [] (Some occupant) segment KeyPasses is reports = cc (reports.hold KeySets)
table_after [] (Some occupant) segment KeySets is reports = cc (reports.hold KeySets)
table_after (first ∷ there) (Some occupant) segment HeaderPasses is reports =
    table_of-other first there segment (ap names_array is) ∙ reports.table
table_after (first ∷ there) (Some occupant) segment HeaderNames is reports =
    table_of-other first there segment (ap names_array is) ∙ reports.table
table_after (first ∷ there) (Some occupant) segment KeyPasses is reports =
    table_of-other first there segment (ap names_array is) ∙ reports.table
table_after (first ∷ there) (Some occupant) segment KeySets is reports =
    table_of-other first there segment (ap names_array is) ∙ reports.table

reports_slot_more : (there : List Segment) (occupant : Option Occupant) (segment : Segment) → ReportsSlot there occupant
    → admits segment.role (option_map (λ s. s.role) occupant) ≡ true
    → ReportsSlot (there ++ segment ∷ []) (Some (occupant_after occupant segment.role segment.number))
reports_slot_more there occupant segment reports admitted =
    let stood : Option Role = option_map (λ s. s.role) occupant in
    record {
      hold = λ q.
          ap (may_duplicate q) (map-append (λ s. s.role) there (segment ∷ []))
          ∙ (may_duplicate-more q segment.role (roles_of there)
          ∙ (rw (reports.hold q, reports.hold KeySets) (admits_more q segment.role stood admitted)
          ∙ ap (λ role. admits q (Some role)) (sym (role-occupant_after occupant segment.role segment.number))));
      table = table_after there occupant segment segment.role refl reports;
    }

-- ---- one segment more

module _ (old new : Slots) (before : List Segment) (table : ℕ) (name : List ℕ) (role : Role) where
  after : Occupant
  after = occupant_after (occupant_at old table name) role (length before + 1)

  at_more : Reports old before → admits role (option_map (λ s. s.role) (occupant_at old table name)) ≡ true
      → (t : ℕ) (n : List ℕ) (b : Bool) → (b ≡ true → (table ≡ t) × (name ≡ n))
      → ReportsSlot (at_slot t n before ++ (if b then segment_after before table role name ∷ [] else []))
      (if b then Some after else occupant_at old t n)
  unfolding after
  at_more reports admitted t n true same =
      let here = reports_slot_more (at_slot table name before) (occupant_at old table name)
      (segment_after before table role name) (reports.each table name) admitted in
      subst (λ u. ReportsSlot (at_slot u n before ++ segment_after before table role name ∷ []) (Some after))
      (same refl).0
      (subst (λ m. ReportsSlot (at_slot table m before ++ segment_after before table role name ∷ []) (Some after))
      (same refl).1 here)
  at_more reports admitted t n false same = rw (append-nil (at_slot t n before)) (reports.each t n)

  same_slot : (t : ℕ) (n : List ℕ) → ((table == t) && bytes_eq name n) ≡ true → (table ≡ t) × (name ≡ n)
  same_slot t n is = (eqb-true table t (and_parts _ _ is).0, (bytes_eq-Decides name n).0 (and_parts _ _ is).1)

  reports_more : Reports old before → admits role (option_map (λ s. s.role) (occupant_at old table name)) ≡ true
      → new.segments ≡ old.segments + 1
      → ((t : ℕ) (n : List ℕ) → occupant_at new t n ≡ (if (table == t) && bytes_eq name n then Some
      (occupant_after (occupant_at old table name) role (length before + 1)) else occupant_at old t n))
      → Reports new (before ++ segment_after before table role name ∷ [])
  unfolding after
  reports_more reports admitted count puts = record {
    count = count ∙ (ap (λ k. k + 1) reports.count ∙ sym (length-append before
        (segment_after before table role name ∷ [])));
    each = λ t n.
        rw (at_slot-more t n before (segment_after before table role name), puts t n)
        (at_more reports admitted t n ((table == t) && bytes_eq name n) (same_slot t n));
  }

-- ---- a segment that may be at its slot, or not

pub hold_refused : (slots : Slots) (before : List Segment) (table : ℕ) (role : Role) (key : Key)
    (there : Option Occupant)
    → Reports slots before → there ≡ occupant_at slots table key.name
    → admits role (option_map (λ s. s.role) there) ≡ false
    → hold before table role key ≡ Err key.span
unfolding hold
hold_refused slots before table role key there reports is refused =
    let none : may_duplicate role (roles_of (at_slot table key.name before)) ≡ false =
    (reports.each table key.name).hold role ∙ (ap (λ s. admits role (option_map (λ s. s.role) s)) (sym is) ∙ refused) in
    rw none refl

pub hold_taken : (old new : Slots) (before : List Segment) (table : ℕ) (role : Role) (key : Key) (name : List ℕ)
    (there : Option Occupant) (number : ℕ) (occupant : Occupant)
    → Reports old before → name ≡ key.name → there ≡ occupant_at old table name
    → admits role (option_map (λ s. s.role) there) ≡ true
    → number ≡ old.segments + 1 → occupant ≡ occupant_after there role number → new.segments ≡ number
    → ((t : ℕ) (n : List ℕ) → occupant_at new t n ≡ (if (table == t) && bytes_eq name n then Some occupant else
    occupant_at old t n))
    → (now : List Segment) × (hold before table role key ≡ Ok (now, occupant.table)) × Reports new now
unfolding hold
hold_taken old new before table role key name there number occupant reports named is admitted next holds count puts =
    let room = reports.each table name in
    let here : admits role (option_map (λ s. s.role) (occupant_at old table name)) ≡ true =
    subst (λ s. admits role (option_map (λ s. s.role) s) ≡ true) is admitted in
    let allowed : may_duplicate role (roles_of (at_slot table name before)) ≡ true = room.hold role ∙ here in
    let last : number ≡ length before + 1 = next ∙ ap (λ k. k + 1) reports.count in
    let made : occupant_after (occupant_at old table name) role (length before + 1) ≡ occupant =
    rw (holds, is, last) refl in (
      before ++ segment_after before table role key.name ∷ [],
      rw (← named, allowed) (ap (λ t. Ok (before ++ segment_after before table role name ∷ [], t))
          (table_after (at_slot table name before) (occupant_at old table name) (segment_after before table role name)
          role refl room ∙ ap (λ s. s.table) made)),
      rw (← named) (reports_more old new before table name role reports here (count ∙ next)
          (λ t n. puts t n ∙ ap (λ s. if (table == t) && bytes_eq name n then Some s else occupant_at old t n)
          (sym made))),
    )

pub number_next : (sum : Option ℕ) (old number : ℕ) → sum ≡ Some number → SomeIff sum (old + 1 < 2 ^ 64) (old + 1)
    → number ≡ old + 1
number_next None old number is fits = cc is
number_next (Some sum) old number is fits = cc (is, fits.1)

-- ---- a refusal, in the steps after it

pub takes_err : (r : Result ℕ Refusal) (slots others : Slots) (expected : Result (List Segment × ℕ) Span)
    (e : Refusal) (Q : Refusal → Type 0)
    → IsErrAnd r Q → ((y : Refusal) → Q y → y ≡ e) → Takes (Err e) others expected → Takes r slots expected
takes_err (Ok table) slots others expected e Q h same is = absurd h
takes_err (Err y) slots others expected (Clash span) Q h same is = rw (same y h) is
takes_err (Err y) slots others expected Memory Q h same is = rw (same y h) is

pub walk_refused : (e : Refusal) (slots : Slots) (walked : Result (List Segment × ℕ) Span) (before : List Segment)
    (table : ℕ) (passing last role : Role) (path rest : List Key) (part : Key)
    → walked ≡ walk before table passing last path → path ≡ part ∷ rest
    → role ≡ (if is_empty rest then last else passing)
    → Takes (Err e) slots (hold before table role part) → Takes (Err e) slots walked
walk_refused (Clash span) slots walked before table passing last role path rest part is parts roles holds =
    is ∙ walk_stops before table passing last path rest part span parts
    (ap (λ r. hold before table r part) (sym roles) ∙ holds)
walk_refused Memory slots walked before table passing last role path rest part is parts roles holds = tt

pub finds_err : (r : Result (Unit {0}) Refusal) (expected : Option Span) (e : Refusal) (Q : Refusal → Type 0)
    → IsErrAnd r Q → ((y : Refusal) → Q y → y ≡ e) → Finds (Err e) expected → Finds r expected
finds_err (Ok done) expected e Q h same is = absurd h
finds_err (Err y) expected e Q h same is = rw (same y h) is

pub key_refused : (e : Refusal) (slots : Slots) (found : Option Span) (before : List Segment) (table : ℕ)
    (a : Assignment) (lines : List ClashLine)
    → found ≡ clash_after before table (member_line a ∷ lines)
    → TakesKey (Err e) slots (walk_key before table (assigned_path a)) (clash_in (assigned_value a))
    → Finds (Err e) found
key_refused (Clash span) slots found before table a lines is clashes = is
    ∙ key_clashes before table a lines span clashes
key_refused Memory slots found before table a lines is clashes = tt

pub header_refused : (e : Refusal) (slots : Slots) (found : Option Span) (before : List Segment) (table : ℕ)
    (h : Header) (lines : List ClashLine)
    → found ≡ clash_after before table (header_line h ∷ lines) → Takes (Err e) slots (walk_header before h)
    → Finds (Err e) found
header_refused (Clash span) slots found before table h lines is clashes = is
    ∙ header_clashes before table h lines span clashes
header_refused Memory slots found before table h lines is clashes = tt
