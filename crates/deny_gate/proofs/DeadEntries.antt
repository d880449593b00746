-- The dead entries that keys name: those that a key calls unused and that have no hit.
use Rattle.std.proofs.Common.{◌≡◌, ◌∙◌, Bool, true, false, List, Option, None, Some, ap, inl, inr, refl, subst, sym}
use Rattle.std.specs.Prelude.{Contains, filter_map, map, option_and_then, if◌then◌else◌}
use Rattle.std.specs.Cmp.{Equal-is, IsTotalOrder, eq_by_cmp_equiv}
use Rattle.std.specs.FinMap.{IsAntisymmetric}
use Rattle.std.specs.Ordering.{eq_by_cmp}
use Rattle.std.proofs.lemmas.Bool.{cases_Bool, false≢true}
use Rattle.std.proofs.lemmas.Option.{none-some, same_Some}
use Rattle.deny_base_lists.specs.Ascending.{Lists}
use Rattle.deny_base_lists.proofs.Booleans.{tests_agree}
use Rattle.deny_base_lists.proofs.Members.{Contains-filter_map, any_from, any_passes, contains_map, from_contains_map}
use Rattle.deny_base_lists.proofs.Members.{from_filter_map}
use Rattle.deny_base.specs.Entry.{entry_cmp}
use Rattle.deny_base.specs.declared.entry.EntryId.{EntryId}
use Rattle.deny_base.specs.declared.entry.Hit.{Hit}
use Rattle.deny_base.specs.declared.key.Key.{Key}
use Rattle.deny_spec_removal.specs.Dead.{AreDead, IsDead, unused_entry}
use Rattle.deny_gate.specs.private.Dead.{dead_entry, is_among}
use Rattle.deny_gate.specs.Hits.{entry_of}

is_there : IsTotalOrder entry_cmp → (entries : List EntryId) (e : EntryId) → Contains entries e
    → is_among entries e ≡ true
unfolding is_among
is_there total entries e at = any_from (λ other. eq_by_cmp entry_cmp other e) entries e at
    ((eq_by_cmp_equiv {R = entry_cmp} total).refl e)

there_is : IsAntisymmetric entry_cmp → (entries : List EntryId) (e : EntryId) → is_among entries e ≡ true
    → Contains entries e
unfolding is_among
there_is exact entries e is =
    let found = any_passes (λ other. eq_by_cmp entry_cmp other e) entries is in
    subst (Contains entries) (exact found.one e ((Equal-is (entry_cmp found.one e)).0 found.passes)) found.member

-- a binary search finds an entry exactly where the list contains it
pub search-answers : IsTotalOrder entry_cmp → IsAntisymmetric entry_cmp → (entries : List EntryId) (e : EntryId)
    (b : Bool) → (b ≡ true → Contains entries e) × (Contains entries e → b ≡ true) → b ≡ is_among entries e
search-answers total exact entries e b answers = tests_agree b (is_among entries e)
    (λ is. is_there total entries e (answers.0 is)) (λ is. answers.1 (there_is exact entries e is))

-- ---- the dead entry of one key

unless : (b : Bool) (x e : EntryId) → (if b then None else Some x) ≡ Some e → (b ≡ false) × (x ≡ e)
unless true x e is = absurd (none-some e is)
unless false x e is = (refl, same_Some x e is)

-- a key names an entry, and the entry is not hit
record IsNamed (hit : List EntryId) (key : Key) (e : EntryId) : Type 0 where
  named : unused_entry key ≡ Some e
  free : is_among hit e ≡ false

by_name : (hit : List EntryId) (key : Key) (e : EntryId) (o : Option EntryId) → unused_entry key ≡ o
    → option_and_then (λ x. if is_among hit x then None else Some x) o ≡ Some e → IsNamed hit key e
by_name hit key e None at is = absurd (none-some e is)
by_name hit key e (Some x) at is = let of = unless (is_among hit x) x e is in record {
  named = at ∙ ap Some of.1;
  free = ap (is_among hit) (sym of.1) ∙ of.0;
}

from_dead_entry : (hit : List EntryId) (key : Key) (e : EntryId) → dead_entry hit key ≡ Some e → IsNamed hit key e
unfolding dead_entry
from_dead_entry hit key e is = by_name hit key e (unused_entry key) refl is

dead_entry_of : (hit : List EntryId) (key : Key) (e : EntryId) → IsNamed hit key e → dead_entry hit key ≡ Some e
unfolding dead_entry
dead_entry_of hit key e is =
    ap (option_and_then (λ x. if is_among hit x then None else Some x)) is.named
    ∙ ap (λ (b : Bool). if b then None else Some e) is.free

-- ---- the dead entries of all keys

module _ (total : IsTotalOrder entry_cmp) (exact : IsAntisymmetric entry_cmp) (keys : List Key) (hits : List Hit) where
  free_of : (e : EntryId) → IsDead keys hits e → is_among (map entry_of hits) e ≡ false
  free_of e dead = elim (cases_Bool (is_among (map entry_of hits) e)) as (λ _. is_among (map entry_of hits) e ≡ false) [
    | inl is ↦ let of = from_contains_map entry_of hits e (there_is exact (map entry_of hits) e is) in
        absurd (dead.unhit of.0 of.1 of.2)
    | inr is ↦ is
  ]

  unhit_of : (e : EntryId) → is_among (map entry_of hits) e ≡ false → (h : Hit) → Contains hits h → h.entry ≡ e → ⊥
  unhit_of e free h at same = false≢true
      (sym free
      ∙ is_there total (map entry_of hits) e
      (subst (Contains (map entry_of hits)) same (contains_map entry_of hits h at)))

  pub dead_listed : (entries dead : List EntryId) → entries ≡ filter_map (dead_entry (map entry_of hits)) keys
      → Lists entry_cmp (Contains entries) dead → AreDead keys hits dead
  dead_listed entries dead are listed = record {
    ascending = listed.ascending;
    whole = λ e is.
        let from = from_filter_map unused_entry keys e is.reported in
        listed.whole e (subst (λ (es : List EntryId). Contains es e) (sym are)
        (Contains-filter_map (dead_entry (map entry_of hits)) keys from.from e from.member
        (dead_entry_of (map entry_of hits) from.from e (record { named = from.gives; free = free_of e is }))));
    sound = λ e at.
        let from = from_filter_map (dead_entry (map entry_of hits)) keys e
        (subst (λ (es : List EntryId). Contains es e) are (listed.sound e at)) in
        let of = from_dead_entry (map entry_of hits) from.from e from.gives in record {
          reported = Contains-filter_map unused_entry keys from.from e from.member of.named;
          unhit = unhit_of e of.free;
        };
  }
