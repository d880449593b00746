-- Duplicates: crates of one name, name by name.
use Rattle.std.proofs.Common.{◌≡◌, ◌≢◌, ◌⊎◌, ℕ, ◌-◌, ◌≤◌, not, List, [], ◌++◌, Contains, length, take, drop, map}
use Rattle.std.proofs.Common.{filter, Option, Some, None, refl, sym, ap, ◌∙◌, subst, inl, inr, arith, ltb, cond}
use Rattle.std.specs.List.{list_any}
use Rattle.std.specs.Option.{option_to_list}
use Rattle.std.proofs.lemmas.Bool.{cases_Bool, cond-true, cond-false, le-ltb, ltb-false}
use Rattle.std.proofs.lemmas.List.{take_all}
use Rattle.std.proofs.lemmas.List.Elements.{Contains-append_left, Contains-append_right, Contains-append_cases}
use Rattle.std.proofs.lemmas.Option.{same_Some}
use Rattle.deny_base_lists.specs.Ascending.{Adds, Lists}
use Rattle.deny_base.specs.declared.key.Key.{Key}
use Rattle.deny_base.specs.declared.level.LintLevel.{LintLevel}
use Rattle.deny_base.specs.declared.level.LintLevel.TheVariants.{Allow, Warn, Deny}
use Rattle.deny_base_lists.proofs.Sorted.{one_list}
use Rattle.deny_spec.specs.Duplicates.{IsDuplicate, duplicate_level, is_denied_multiple}
use Rattle.deny_spec.specs.Facts.{Facts}
use Rattle.deny_spec.specs.Graph.{Crate, Graph}
use Rattle.deny_spec.specs.Groups.{has_name, is_marked, reduced, unmarked}
use Rattle.deny_spec.specs.Keys.{duplicate_key}
use Rattle.deny_spec.specs.Policy.{Policy}
use Rattle.deny_spec.specs.VersionOrder.{version_cmp}
use Rattle.deny_base_lists.proofs.Agreement.{filter_on, list_any_on}
use Rattle.deny_rules_crates.specs.private.Duplicates.{AddsDuplicates, AddsKey, IsKeyOfCrates, IsKeyOfName}
use Rattle.deny_rules_crates.specs.private.Duplicates.{IsDuplicatePolicy, is_unmarked, is_unmarked_at, key_at}
use Rattle.deny_rules_crates.specs.private.Duplicates.{key_of_group, level_at}
use Rattle.deny_rules_match.specs.Marks.{marked}
use Rattle.deny_rules_match.specs.Placed.{ArePlaced}
use Rattle.deny_rules_crates.specs.declared.duplicates.DuplicatePolicy.{DuplicatePolicy}
use Rattle.deny_base_lists.proofs.Filters.{filter-filter}
use Rattle.deny_rules_match.proofs.GroupLemmas.{reduced_by_marks}
use Rattle.deny_rules_match.proofs.MarkLemmas.{marked-is}
use Rattle.deny_base_lists.proofs.Members.{Contains-by_cases, Contains-first, Contains-from_filter, no_member}
use Rattle.deny_rules_match.proofs.RunLemmas.{IsRunOf, take-next}
use Rattle.deny_rules_crates.proofs.VersionLemmas.{version_cmp-total}

-- keys of duplicates, name by name

module _ (g : Graph) (m : DuplicatePolicy) where
  one_key : (run : List Crate) (k l : Option Key) → IsKeyOfCrates m run k → IsKeyOfCrates m run l → k ≡ l
  one_key run k l this that =
      this.is ∙ (ap (λ (cs : List Crate). key_of_group (level_at m cs) cs)
      (one_list version_cmp-total this.crates that.crates this.listed that.listed) ∙ sym that.is)

  only : (key : Key) → Contains (option_to_list (Some key)) key
  only key = Contains-first key []

  key_is : (name : List ℕ) (k : Option Key) (key : Key) → IsKeyOfName g m name k → Contains (option_to_list k) key
      → IsKeyOfName g m name (Some key)
  key_is name None key is here = absurd (no_member key here)
  key_is name (Some k) key is here = Contains-by_cases k [] key here
      (λ same. subst (λ l. IsKeyOfName g m name (Some l)) same is) (λ later. absurd (no_member key later))

  pub after_run : (place next : ℕ) (old keys new : List Key) → AddsDuplicates g m (take place g.crates) old keys
      → AddsKey g m place next keys new → AddsDuplicates g m (take next g.crates) old new
  after_run place next old keys new so run =
      let split = take-next g.crates place next (omega (arith, run.up)) in
      let now = λ (key : Key) (is : Contains (keys ++ option_to_list run.key) key). subst
      (λ (ks : List Key). Contains ks key) (sym run.added) is in
      record {
        kept = λ key is. now key (Contains-append_left keys (option_to_list run.key) key (so.kept key is));
        whole = λ c key is of.
            elim (Contains-append_cases (take place g.crates) (take (next - place) (drop place g.crates)) c
            (subst (λ (cs : List Crate). Contains cs c) split is)) as (λ _. Contains new key) [
              | inl before ↦ now key (Contains-append_left keys (option_to_list run.key) key (so.whole c key before of))
              | inr here ↦
                  let same : Some key ≡ run.key = one_key (filter (has_name run.name) g.crates) (Some key) run.key
                  (subst (λ name. IsKeyOfName g m name (Some key)) (run.named c here) of) run.is_key in
                  now key (Contains-append_right keys (option_to_list run.key) key
                  (subst (λ k. Contains (option_to_list k) key) same (only key)))
            ];
        sound = λ key is.
            elim (Contains-append_cases keys (option_to_list run.key) key
            (subst (λ (ks : List Key). Contains ks key) run.added is)) as
            (λ _. Contains old key ⊎ ((c : Crate) × Contains g.crates c × IsKeyOfName g m c.name (Some key))) [
              | inl before ↦ so.sound key before
              | inr here ↦ inr (
                run.owner,
                run.holds,
                subst (λ name. IsKeyOfName g m name (Some key)) (sym run.owned)
                    (key_is run.name run.key key run.is_key here),
              )
            ];
      }

  pub all_names : (place : ℕ) (old keys : List Key) → length g.crates ≤ place
      → AddsDuplicates g m (take place g.crates) old keys → AddsDuplicates g m g.crates old keys
  all_names place old keys past so =
      subst (λ (cs : List Crate). AddsDuplicates g m cs old keys) (take_all place g.crates past) so

-- the key of a run comes after those of the names before
pub adds_key : (g : Graph) (m : DuplicatePolicy) (name : List ℕ) (place start end : ℕ) (key : Option Key)
    (old new : List Key) → end ≤ length g.crates → IsRunOf g.crates name place start end
    → take (end - start) (drop start g.crates) ≡ filter (has_name name) g.crates
    → IsKeyOfCrates m (take (end - start) (drop start g.crates)) key → new ≡ old ++ option_to_list key
    → AddsKey g m place end old new
adds_key g m name place start end key old new within run named is_key added = record {
  name = name;
  key = key;
  is_key = subst (λ (cs : List Crate). IsKeyOfCrates m cs key) named is_key;
  added = added;
  up = run.past;
  within = within;
  owner = run.owner;
  holds = run.holds;
  owned = run.owned;
  named = run.named;
}

-- the key of several crates, at a level that is active

key_at-active : (level : LintLevel) (crates : List Crate) → level ≢ Allow
    → key_at level crates ≡ Some (duplicate_key (map (λ c. c.place) crates))
key_at-active Allow crates active = absurd (active refl)
key_at-active Warn crates active = refl
key_at-active Deny crates active = refl

active_at : (level : LintLevel) (crates : List Crate) (key : Key) → Some key ≡ key_at level crates
    → (level ≢ Allow) × (key ≡ duplicate_key (map (λ c. c.place) crates))
active_at Allow crates key e = absurd (cc e)
active_at Warn crates key e = (λ same. absurd (cc same), same_Some _ _ e)
active_at Deny crates key e = (λ same. absurd (cc same), same_Some _ _ e)

several_have : (level : LintLevel) (crates : List Crate) → 2 ≤ length crates → level ≢ Allow
    → key_of_group level crates ≡ Some (duplicate_key (map (λ c. c.place) crates))
unfolding key_of_group
several_have level crates several active = cond-false (ltb (length crates) 2) None (key_at level crates)
    (le-ltb (length crates) 2 several) ∙ key_at-active level crates active

record AreSeveral (level : LintLevel) (crates : List Crate) (key : Key) : Type 0 where
  pub several : 2 ≤ length crates
  pub active : level ≢ Allow
  pub is : key ≡ duplicate_key (map (λ c. c.place) crates)

are_several : (level : LintLevel) (crates : List Crate) (key : Key) → Some key ≡ key_of_group level crates
    → AreSeveral level crates key
unfolding key_of_group
are_several level crates key e = elim (cases_Bool (ltb (length crates) 2)) as (λ _. AreSeveral level crates key) [
  | inl few ↦ let none : Some key ≡ None =
      e ∙ cond-true (ltb (length crates) 2) None (key_at level crates) few in absurd (cc none)
  | inr enough ↦
      let at = active_at level crates key (e ∙ cond-false (ltb (length crates) 2) None (key_at level crates) enough) in
      record { several = ltb-false (length crates) 2 enough; active = at.0; is = at.1 }
]

-- the duplicate policy of the matches

module _ (p : Policy) (g : Graph) (facts : Facts) (m : DuplicatePolicy) (placed : ArePlaced g.crates)
    (is_on : IsDuplicatePolicy p g facts m) where
  unmarked-marks : (name : List ℕ) → filter (is_unmarked m.groups.now)
      (filter (has_name name) g.crates) ≡ unmarked p g facts name
  unfolding is_unmarked_at
  unmarked-marks name =
      let run = filter (has_name name) g.crates in
      sym (filter-filter (marked m.groups.now.reduced) (λ c. not (marked m.groups.now.marked c)) run)
      ∙ (ap (filter (λ (c : Crate). not (marked m.groups.now.marked c)))
      (reduced_by_marks p g facts name m.groups.now.reduced placed is_on.groups.reduced)
      ∙ filter_on (λ (c : Crate). not (marked m.groups.now.marked c)) (λ c. not (is_marked p c))
      (reduced p g facts name)
      (λ c is. ap (λ b. not b) (marked-is g.crates placed (is_marked p) m.groups.now.marked is_on.groups.marked c
      (known name c is))))
    where
      known : (name : List ℕ) (c : Crate) → Contains (reduced p g facts name) c → Contains g.crates c
      known name c is =
          let marks = filter (marked m.groups.now.reduced) (filter (has_name name) g.crates) in
          let here = subst (λ (cs : List Crate). Contains cs c)
          (sym (reduced_by_marks p g facts name m.groups.now.reduced placed is_on.groups.reduced)) is in
          (Contains-from_filter (has_name name) g.crates c (Contains-from_filter (marked m.groups.now.reduced)
          (filter (has_name name) g.crates) c here).0).0

  known_unmarked : (name : List ℕ) (c : Crate) → Contains (filter (is_unmarked m.groups.now)
      (filter (has_name name) g.crates)) c → Contains g.crates c
  known_unmarked name c is = (Contains-from_filter (has_name name) g.crates c
      (Contains-from_filter (is_unmarked m.groups.now) (filter (has_name name) g.crates) c is).0).0

  level-marks : (crates : List Crate) → ((c : Crate) → Contains crates c → Contains g.crates c)
      → level_at m crates ≡ duplicate_level p crates
  unfolding level_at duplicate_level
  level-marks crates known =
      ap (λ b. cond b Deny m.level) (list_any_on (marked m.denied.now) (is_denied_multiple p) crates
      (λ c is. marked-is g.crates placed (is_denied_multiple p) m.denied.now is_on.denied c (known c is)))
      ∙ ap (λ (l : LintLevel). cond (list_any (is_denied_multiple p) crates) Deny l) is_on.level

  from_key : (key : Key) (c : Crate) → Contains g.crates c → IsKeyOfName g m c.name (Some key)
      → IsDuplicate p g facts key
  from_key key c known is =
      let several = are_several (level_at m is.crates) is.crates key is.is in (
        c,
        known,
        record {
          crates = is.crates;
          listed = subst (λ (cs : List Crate). Lists version_cmp (Contains cs) is.crates)
              (unmarked-marks c.name) is.listed;
          several = several.several;
          active = subst (λ (l : LintLevel). l ≢ Allow) (level-marks is.crates (λ d here. known_unmarked c.name d
              (is.listed.sound d here))) several.active;
          is = several.is;
        },
      )

  to_key : (key : Key) (is : IsDuplicate p g facts key) → IsKeyOfName g m is.0.name (Some key)
  to_key key is =
      let of = is.2 in
      let listed = subst (λ (cs : List Crate). Lists version_cmp (Contains cs) of.crates)
      (sym (unmarked-marks is.0.name)) of.listed in
      let level = level-marks of.crates (λ d here. known_unmarked is.0.name d (listed.sound d here)) in
      record {
        crates = of.crates;
        listed = listed;
        is = ap Some of.is ∙ sym (several_have (level_at m of.crates) of.crates of.several
            (subst (λ (l : LintLevel). l ≢ Allow) (sym level) of.active));
      }

  pub duplicates_added : (old keys : List Key) → AddsDuplicates g m g.crates old keys
      → Adds (IsDuplicate p g facts) old keys
  duplicates_added old keys so = record {
    kept = so.kept;
    whole = λ key is. so.whole is.0 key is.1 (to_key key is);
    sound = λ key is. elim (so.sound key is) as (λ _. Contains old key ⊎ IsDuplicate p g facts key) [
      | inl before ↦ inl before
      | inr found ↦ inr (from_key key found.0 found.1 found.2)
    ];
  }
