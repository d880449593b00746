-- An entry that is opened, and all of its items.
use Rattle.std.proofs.Common.{◌≡◌, ℕ, List, [], None, Result, Ok, Err, refl, sym, ap, ◌∙◌, subst}
use Rattle.std.specs.Prelude.{IsOk}
use Rattle.std.specs.Result.{result_unwrap_or}
use Rattle.deny_std_table.specs.declared.error.ReplacementError.{ReplacementError}
use Rattle.deny_std_table.specs.declared.spans.TextSpan.{TextSpan}
use Rattle.deny_std_table.specs.declared.spans.Counts.{Counts}
use Rattle.deny_std_table.specs.declared.spans.ItemSpans.{ItemSpans}
use Rattle.deny_std_table.specs.declared.spans.Read.{Read}
use Rattle.deny_std_table.specs.Region.{Bounds, Items, text, counts, counted_items, items}
use Rattle.deny_std_table.specs.Entries.{Entry, entry}
use Rattle.deny_std_table.specs.Item.{items_of}
use Rattle.deny_std_table.specs.Cursor.{coming}
use Rattle.deny_std_table.specs.Replacement.{items_read}
use Rattle.deny_std_table.proofs.LayoutLemmas.{bind-ok}
use Rattle.deny_std_table.proofs.CursorLemmas.{ok-is, coming-begin}
use Rattle.deny_std_table.proofs.CursorSteps.{is-ok}

-- the value of a reading that succeeded
ok-of : {A : Type 0} (r : Result A ReplacementError) → IsOk r → (x : A) × (r ≡ Ok x)
ok-of (Ok x) is = (x, refl)
ok-of (Err e) is = cc

ok-left : (r : Result (List ItemSpans) ReplacementError) (x : List ItemSpans) → r ≡ Ok x
    → (r ≡ Ok (result_unwrap_or r [])) × (result_unwrap_or r [] ≡ x)
ok-left r x is =
    let left : result_unwrap_or r [] ≡ x = ap (λ t. result_unwrap_or t []) is in
    (is ∙ ap Ok (sym left), left)

pub iter_all : (b : Bounds) (counts : Counts) (at : ℕ) → IsOk (counted_items b counts at)
    → (coming b 0 0 counts at ≡ Ok (result_unwrap_or (coming b 0 0 counts at) []))
    × (result_unwrap_or (coming b 0 0 counts at) [] ≡ items_of (items_read (counted_items b counts at)))
iter_all b counts at is =
    let all = ok-of (counted_items b counts at) is in
    let left = ok-left (coming b 0 0 counts at) (items_of all.0.value) (coming-begin b 0 counts at all.0 all.1) in
    (left.0, left.1 ∙ ap (λ t. items_of (items_read t)) (sym all.1))

-- An entry, part by part.
record IsOpen (b : Bounds) (start : ℕ) (e : Entry) : Type 0 where
  pub name : Read TextSpan
  pub count : Read Counts
  pub all : Read Items
  pub name_read : text b start ≡ Ok name
  pub count_read : counts b name.next ≡ Ok count
  pub all_read : counted_items b count.value count.next ≡ Ok all
  pub items : all.value ≡ e.items

open-parts : (b : Bounds) (start : ℕ) (e : Entry) → entry b None start ≡ Ok e → IsOpen b start e
unfolding entry items
open-parts b start e is =
    let name = bind-ok (text b start) _ e is in
    let rest = bind-ok (items b name.0.next) _ e name.2 in
    let count = bind-ok (counts b name.0.next) _ rest.0 rest.1 in
    let same : record { name = name.0.value; items = rest.0.value } ≡ e = cc in
    record {
      name = name.0;
      count = count.0;
      all = rest.0;
      name_read = name.1;
      count_read = count.1;
      all_read = count.2;
      items = ap (λ (t : Entry). t.items) same;
    }

pub open_name : (b : Bounds) (start : ℕ) (r : Result (Read TextSpan) ReplacementError) → IsOk (entry b None start)
    → r ≡ text b start → IsOk r
open_name b start r is same =
    let e = ok-of (entry b None start) is in
    let parts = open-parts b start e.0 e.1 in
    is-ok r _ parts.name same parts.name_read

pub open_counts : (b : Bounds) (start : ℕ) (name : Read TextSpan) (r : Result (Read Counts) ReplacementError)
    → IsOk (entry b None start)
    → text b start ≡ Ok name → r ≡ counts b name.next → IsOk r
open_counts b start name r is named same =
    let e = ok-of (entry b None start) is in
    let parts = open-parts b start e.0 e.1 in
    let one : parts.name ≡ name = ok-is _ parts.name_read named in
    is-ok r _ parts.count same (subst (λ (n : Read TextSpan). counts b n.next ≡ Ok parts.count) one parts.count_read)

pub open_items : (b : Bounds) (start : ℕ) (name : Read TextSpan) (count : Read Counts) (e : Entry)
    → entry b None start ≡ Ok e
    → text b start ≡ Ok name → counts b name.next ≡ Ok count
    → IsOk (counted_items b count.value count.next) × (items_read (counted_items b count.value count.next) ≡ e.items)
open_items b start name count e is named counted =
    let parts = open-parts b start e is in
    let one : parts.name ≡ name = ok-is _ parts.name_read named in
    let two : parts.count ≡ count =
    ok-is _ (subst (λ (n : Read TextSpan). counts b n.next ≡ Ok parts.count) one parts.count_read) counted in
    let all : counted_items b count.value count.next ≡ Ok parts.all =
    subst (λ (k : Read Counts). counted_items b k.value k.next ≡ Ok parts.all) two parts.all_read in
    (is-ok _ _ parts.all refl all, ap items_read all ∙ parts.items)

pub open_holds : (b : Bounds) (start : ℕ) (name : Read TextSpan) (count : Read Counts) → IsOk (entry b None start)
    → text b start ≡ Ok name → counts b name.next ≡ Ok count → IsOk (counted_items b count.value count.next)
open_holds b start name count is named counted =
    let e = ok-of (entry b None start) is in (open_items b start name count e.0 e.1 named counted).0
