-- Lines are appended one after another, and the spans of each crate are set at its place.
use Rattle.std.proofs.Common.{◌≡◌, ◌≢◌, ◌+◌, ◌∙◌, ◌<◌, ◌≤◌, ◌++◌, ℕ, suc, List, [], ◌∷◌, AllPairs, Contains, Option}
use Rattle.std.proofs.Common.{None, Some, drop, get_or, length, map, take, refl, sym, ap, subst, arith, inl, inr, ◌⊎◌}
use Rattle.std.specs.Prelude.{option_map, slice_get, slice_set}
use Rattle.std.specs.List.{AllZip}
use Rattle.std.specs.List.Sorted.{IsStrictlySortedBy}
use Rattle.std.specs.Str.{IsUtf8}
use Rattle.std.proofs.Math.Seq.{split_at}
use Rattle.std.proofs.lemmas.Bool.{cases_lt}
use Rattle.std.proofs.lemmas.List.{append-nil, ext_get_or, get_or-set_other, get_or-set_same, length-map, length-set}
use Rattle.std.proofs.lemmas.List.{take-append-drop, take_all, take_more}
use Rattle.std.proofs.lemmas.List.Elements.{Contains-append_cases, Contains-append_left}
use Rattle.std.proofs.lemmas.List.Sorted.{Contains-permutation, IsPermutation-sym}
use Rattle.std.proofs.lemmas.Option.{get_or_from_slice_get, none-some, same_Some, slice_get-get_or, slice_get-map}
use Rattle.std.proofs.lemmas.Option.{slice_get_read, slice_get_within}
use Rattle.deny_krates.specs.Bounds.{lock_length, lock_line_length}
use Rattle.deny_krates.specs.Crates.{crate_view, crates_from}
use Rattle.deny_krates.specs.krate.Krate.{Krate}
use Rattle.deny_krates.proofs.ResolutionLemmas.{crates_from-at}
use Rattle.deny_base_lists.proofs.Members.{at_member, from_there, no_member, some_at, there}
use Rattle.deny_krates_lock.proofs.OrderLemmas.{moved-in_lock_order, strict-in_lock_order}
use Rattle.deny_krates_lock.proofs.PartLemmas.{AllZip-made, line-holds_in}
use Rattle.deny_krates_lock.proofs.TextLemmas.{line_start-is, lock_lines-append, room_for}
use Rattle.deny_krates_lock.specs.Line.{line_span}
use Rattle.deny_krates_lock.specs.Order.{in_lock_order, lock_cmp}
use Rattle.deny_krates_lock.specs.Text.{IsLineOf, ended_line, lock_lines, lock_span_at, lock_text}
use Rattle.deny_krates_lock.specs.declared.line.LockSpan.{LockSpan}
use Rattle.deny_krates_lock.specs.declared.order.Placed.{Placed}
use Rattle.deny_krates_lock.specs.private.Placed.{placed_view}
use Rattle.deny_spec.specs.Graph.{Crate}
use Rattle.deny_spec.proofs.IdLemmas.{distinct-ids}

-- ---- crates at their places

-- the place of each crate is its index, and no two crates share an id
pub record AreOwn (crates : List Crate) : Type 0 where
  pub at : (n : ℕ) (c : Crate) → slice_get crates n ≡ Some c → c.place ≡ n
  pub apart : AllPairs (λ c d. c.id ≢ d.id) crates

place_from : (place : ℕ) (k : Option Krate) (c : Crate) → option_map (crate_view place) k ≡ Some c → c.place ≡ place
place_from place None c is = absurd (none-some c is)
place_from place (Some k) c is = sym (ap (λ (d : Crate). d.place) (same_Some (crate_view place k) c is))

pub are_own : (ks : List Krate) (crates : List Crate) → crates_from 0 ks ≡ crates
    → AllPairs (λ c d. c.id ≢ d.id) crates → AreOwn crates
are_own ks crates e apart = record {
  at = λ n c is.
      place_from (0 + n) (slice_get ks n) c (sym (crates_from-at 0 ks n) ∙ (ap (λ cs. slice_get cs n) e ∙ is))
      ∙ omega arith;
  apart = apart;
}

-- ---- writing

-- the lines of the first crates in order are written, and their spans set at their places
pub record IsWriting (crates : List Crate) (count : ℕ) (text : List ℕ) (spans : List LockSpan) : Type 0 where
  pub lines : text ≡ lock_lines (take count (in_lock_order crates))
  pub long : length spans ≡ length crates
  pub put : (c : Crate) → Contains (take count (in_lock_order crates)) c
      → slice_get spans c.place ≡ Some (lock_span_at crates c)

one_line : (before : List Crate) (c : Crate)
    → lock_lines before ++ lock_lines (c ∷ []) ≡ lock_lines before ++ ended_line c
unfolding lock_lines
one_line before c = ap (λ line. lock_lines before ++ line) (append-nil (ended_line c))

pub writing_none : (crates : List Crate) (spans : List LockSpan) → length spans ≡ length crates
    → IsWriting crates 0 [] spans
unfolding lock_lines
writing_none crates spans long = record { lines = refl; long = long; put = λ c is. absurd (no_member c is) }

slice_get-set_same : {X : Type 0} (xs : List X) (i : ℕ) (x : X) → i < length xs
    → slice_get (slice_set xs i x) i ≡ Some x
slice_get-set_same xs i x inside =
    slice_get-get_or (slice_set xs i x) i x (omega (arith, length-set xs i x))
    ∙ ap (λ y. Some y) (get_or-set_same xs i x x inside)

slice_get-set_other : {X : Type 0} (xs : List X) (i j : ℕ) (x y : X) → j ≢ i → slice_get xs j ≡ Some y
    → slice_get (slice_set xs i x) j ≡ Some y
slice_get-set_other xs i j x y other is =
    let inside : j < length xs = slice_get_within xs j y is in
    slice_get-get_or (slice_set xs i x) j y (omega (arith, length-set xs i x))
    ∙ ap (λ z. Some z) (get_or-set_other xs i j x y other ∙ get_or_from_slice_get xs j y y is)

same_or_not : (m n : ℕ) → (m ≡ n) ⊎ (m ≢ n)
same_or_not m n = elim (cases_lt m n) [
  | inl under ↦ inr (λ e. omega (arith, e))
  | inr up ↦ elim (cases_lt n m) [ inl over ↦ inr (λ e. omega (arith, e)) | inr down ↦ inl (omega arith) ]
]

pub parted : {X : Type 0} (xs : List X) (i : ℕ) (x : X) → slice_get xs i ≡ Some x
    → xs ≡ take i xs ++ x ∷ drop (i + 1) xs
parted xs i x is =
    let next : suc i ≡ i + 1 = omega arith in
    split_at xs i x (slice_get_within xs i x is)
    ∙ (λ j. take i xs ++ get_or_from_slice_get xs i x x is j ∷ drop (next j) xs)

module _ (crates : List Crate) (own : AreOwn crates) where
  pub order_ascends : IsStrictlySortedBy lock_cmp (in_lock_order crates)
  order_ascends = strict-in_lock_order crates (distinct-ids crates own.apart)

  -- a crate in the order of lines is the crate of the graph at its place
  at_own_place : (c : Crate) → Contains (in_lock_order crates) c → slice_get crates c.place ≡ Some c
  at_own_place c is =
      let holds = there crates c (Contains-permutation (in_lock_order crates) crates c
      (IsPermutation-sym crates (in_lock_order crates) (moved-in_lock_order crates)) is) in
      ap (slice_get crates) (own.at holds.0 c holds.1) ∙ holds.1

  -- the crates before and behind a crate in the order of lines
  pub around : (i : ℕ) (c : Crate) → slice_get (in_lock_order crates) i ≡ Some c
      → in_lock_order crates ≡ take i (in_lock_order crates) ++ c ∷ drop (i + 1) (in_lock_order crates)
  around i c is = parted (in_lock_order crates) i c is

  span_at : (i : ℕ) (c : Crate) → slice_get (in_lock_order crates) i ≡ Some c
      → line_span (length (lock_lines (take i (in_lock_order crates)))) c ≡ lock_span_at crates c
  span_at i c is =
      ap (λ start. line_span start c)
      (sym (line_start-is crates (take i (in_lock_order crates)) (drop (i + 1) (in_lock_order crates)) c order_ascends
      (around i c is)))

  pub room_at : (i : ℕ) (c : Crate) (text : List ℕ) (spans : List LockSpan)
      → slice_get (in_lock_order crates) i ≡ Some c → IsWriting crates i text spans
      → length text + lock_line_length c ≤ lock_length crates
  room_at i c text spans is writing =
      let order : List Crate = in_lock_order crates in
      let room = room_for crates (take i order) (drop (i + 1) order) c (around i c is) in
      omega (arith, room, ap length writing.lines)

  pub place_within : (i : ℕ) (c : Crate) → slice_get (in_lock_order crates) i ≡ Some c → c.place < length crates
  place_within i c is =
      slice_get_within crates c.place c (at_own_place c (from_there (in_lock_order crates) i c is))

  more : (i : ℕ) (c : Crate) → slice_get (in_lock_order crates) i ≡ Some c
      → take (i + 1) (in_lock_order crates) ≡ take i (in_lock_order crates) ++ c ∷ []
  more i c is =
      let order : List Crate = in_lock_order crates in
      take_more order i c (slice_get_within order i c is)
      ∙ ap (λ d. take i order ++ d ∷ []) (get_or_from_slice_get order i c c is)

  within_take : (i : ℕ) (d : Crate) → Contains (take i (in_lock_order crates)) d → Contains (in_lock_order crates) d
  within_take i d is =
      let order : List Crate = in_lock_order crates in
      subst (λ (cs : List Crate). Contains cs d) (take-append-drop i order)
      (Contains-append_left (take i order) (drop i order) d is)

  pub writing_more : (i : ℕ) (c : Crate) (text : List ℕ) (spans : List LockSpan)
      → slice_get (in_lock_order crates) i ≡ Some c → IsWriting crates i text spans
      → IsWriting crates (i + 1) (text ++ ended_line c) (slice_set spans c.place (line_span (length text) c))
  writing_more i c text spans is writing =
      let order : List Crate = in_lock_order crates in
      let here : line_span (length text) c ≡ lock_span_at crates c =
      ap (λ (lines : List ℕ). line_span (length lines) c) writing.lines ∙ span_at i c is in
      let inside : c.place < length spans = omega (arith, place_within i c is, writing.long) in
      let next : List LockSpan = slice_set spans c.place (line_span (length text) c) in
      let itself : slice_get next c.place ≡ Some (lock_span_at crates c) =
      slice_get-set_same spans c.place (line_span (length text) c) inside ∙ ap (λ span. Some span) here in
      record {
        lines = (λ j. writing.lines j ++ ended_line c)
            ∙ sym (ap lock_lines (more i c is)
            ∙ (lock_lines-append (take i order) (c ∷ []) ∙ one_line (take i order) c));
        long = length-set spans c.place (line_span (length text) c) ∙ writing.long;
        put = λ d member. elim (Contains-append_cases (take i order) (c ∷ []) d
            (subst (λ (cs : List Crate). Contains cs d) (more i c is) member)) [
              | inl before ↦ elim (same_or_not d.place c.place) [
                | inl same ↦ (let one : d ≡ c = same_Some d c (sym (at_own_place d (within_take i d before))
                    ∙ (ap (slice_get crates) same ∙ at_own_place c (from_there order i c is))) in
                    subst (λ (e : Crate). slice_get next e.place ≡ Some (lock_span_at crates e)) (sym one) itself)
                | inr other ↦ slice_get-set_other spans c.place d.place (line_span (length text) c)
                    (lock_span_at crates d) other (writing.put d before)
              ]
              | inr last ↦ at_member (λ (e : Crate). slice_get next e.place ≡ Some (lock_span_at crates e)) (c ∷ []) d
                  (itself, tt) last
            ];
      }

  nowhere : LockSpan
  nowhere = record { total = record { start = 0; end = 0 }; source = record { start = 0; end = 0 } }

  put_at : (spans : List LockSpan) → ((c : Crate) → Contains (in_lock_order crates) c
      → slice_get spans c.place ≡ Some (lock_span_at crates c)) → (n : ℕ) → n < length crates
      → get_or spans n nowhere ≡ get_or (map (lock_span_at crates) crates) n nowhere
  put_at spans put n inside =
      let found = some_at crates n inside in
      let c : Crate = found.0 in
      let place : c.place ≡ n = own.at n c found.1 in
      let member : Contains (in_lock_order crates) c =
      Contains-permutation crates (in_lock_order crates) c (moved-in_lock_order crates)
      (from_there crates n c found.1) in
      get_or_from_slice_get spans n (lock_span_at crates c) nowhere
      (ap (slice_get spans) (sym place) ∙ put c member)
      ∙ sym (get_or_from_slice_get (map (lock_span_at crates) crates) n (lock_span_at crates c) nowhere
      (slice_get-map (lock_span_at crates) crates n ∙ ap (option_map (lock_span_at crates)) found.1))

  pub writing_done : (i : ℕ) (text : List ℕ) (spans : List LockSpan) → length (in_lock_order crates) ≤ i
      → IsWriting crates i text spans
      → (text ≡ lock_text crates) × (spans ≡ map (lock_span_at crates) crates)
  unfolding lock_text
  writing_done i text spans all writing =
      let order : List Crate = in_lock_order crates in
      let whole : take i order ≡ order = take_all i order all in (
        writing.lines ∙ ap lock_lines whole,
        ext_get_or nowhere spans (map (lock_span_at crates) crates)
            (writing.long ∙ sym (length-map crates (lock_span_at crates)))
            (λ n inside. put_at spans
            (λ c is. writing.put c (subst (λ (cs : List Crate). Contains cs c) (sym whole) is)) n
            (omega (arith, inside, writing.long))),
      )

  -- the lock text has the line of each crate
  pub lines-hold : (text : List ℕ) → IsUtf8 text → text ≡ lock_text crates
      → AllZip (IsLineOf text) crates (map (lock_span_at crates) crates)
  unfolding lock_text
  lines-hold text utf8 is =
      AllZip-made (IsLineOf text) (lock_span_at crates) crates (λ c member.
      let order : List Crate = in_lock_order crates in
      let holds = there order c (Contains-permutation crates order c (moved-in_lock_order crates) member) in
      let i : ℕ = holds.0 in
      let parted : text ≡ lock_lines (take i order) ++ lock_lines (c ∷ drop (i + 1) order) =
      is ∙ (ap lock_lines (around i c holds.1) ∙ lock_lines-append (take i order) (c ∷ drop (i + 1) order)) in
      subst (λ (span : LockSpan). IsLineOf text c span) (span_at i c holds.1)
      (line-holds_in text (take i order) (drop (i + 1) order) c utf8 parted))

-- ---- crates in order, in code

pub line_here : (placed : List Placed) (crates : List Crate) (i : ℕ) (p : Placed)
    → map placed_view placed ≡ in_lock_order crates → i < length placed → p ≡ get_or placed i p
    → slice_get (in_lock_order crates) i ≡ Some (placed_view p)
line_here placed crates i p order inside is =
    ap (λ cs. slice_get cs i) (sym order)
    ∙ (slice_get-map placed_view placed i
    ∙ ap (option_map placed_view) (slice_get_read placed (length placed) i p refl inside is))

pub all_written : (placed : List Placed) (crates : List Crate) (i : ℕ) → map placed_view placed ≡ in_lock_order crates
    → length placed ≤ i → length (in_lock_order crates) ≤ i
all_written placed crates i order all =
    let long : length (in_lock_order crates) ≡ length placed = ap length (sym order) ∙ length-map placed placed_view in
    omega (arith, long, all)
