-- The hits and dead entries that depend on no files: entries of kinds that no file decides are hit whatever was seen
-- of packages, and the keys that name them as unused depend on no files either.
use Rattle.std.proofs.Common.{◌≡◌, ◌∙◌, Bool, true, false, List, Option, None, Some, ap, refl, subst, sym}
use Rattle.std.specs.Prelude.{Contains, option_map}
use Rattle.std.specs.Option.{option_map_or}
use Rattle.std.proofs.lemmas.Bool.{false≢true}
use Rattle.std.proofs.lemmas.List.Kept.{IsStrictlySortedBy-filter}
use Rattle.std.proofs.lemmas.Option.{none-some, same_Some}
use Rattle.deny_base_lists.proofs.Members.{Contains-filter, Contains-filter_map, from_filter_map, filtered}
use Rattle.deny_base_lists.proofs.Members.{passes_filter}
use Rattle.deny_base_lists.proofs.Sorted.{one_ascending}
use Rattle.deny_base.specs.Code.{asks_no_file, bans_unused_kind, is_free, unused_kind}
use Rattle.deny_base.proofs.EntryEqual.{entry_cmp-total}
use Rattle.deny_base.specs.declared.code.Code.{Code}
use Rattle.deny_base.specs.declared.code.Code.TheVariants as code
use Rattle.deny_base.specs.declared.code.DiagnosticCode.{DiagnosticCode}
use Rattle.deny_base.specs.declared.code.DiagnosticCode.TheVariants.{Deprecated, Bans, License, Expired}
use Rattle.deny_base.specs.declared.entry.EntryId.{EntryId}
use Rattle.deny_base.specs.declared.entry.EntryKind.{EntryKind}
use Rattle.deny_base.specs.declared.entry.Hit.{Hit}
use Rattle.deny_base.specs.declared.key.Key.{Key}
use Rattle.deny_spec_report.specs.Codes.{unseeing}
use Rattle.deny_spec_removal.specs.Dead.{AreDead, IsDead, unused_entry}
use Rattle.deny_gate.specs.Unseeing.{is_free_kind, unseeing_entries, unseeing_hits}

-- ---- keys that name an entry that no file decides

free_as : (d : Code) (k : EntryKind) → bans_unused_kind d ≡ Some k → is_free_kind k ≡ true → is_free d ≡ true
free_as d k is free = by d (ap (λ (o : Option EntryKind). option_map_or is_free_kind o false) is ∙ free)
  where
    by : (d : Code) → option_map_or is_free_kind (bans_unused_kind d) false ≡ true → is_free d ≡ true
    by code.UnmatchedSkip e = refl
    by code.UnmatchedSkipRoot e = refl
    by code.UnusedWrapper e = refl
    by code.UnmatchedReplacementIgnore e = refl
    by _ e = absurd (false≢true e)

free_by : (d : DiagnosticCode) (k : EntryKind) → unused_kind d ≡ Some k → is_free_kind k ≡ true
    → asks_no_file d ≡ true
free_by Deprecated k is free = refl
free_by (Bans d) k is free = free_as d k is free
free_by (License d) k is free = refl
free_by Expired k is free = refl

named_by : (key : Key) (e : EntryId) (o : Option EntryKind) → unused_kind key.code ≡ o
    → option_map (λ kind. record { kind = kind; range = key.entry }) o ≡ Some e → is_free_kind e.kind ≡ true
    → asks_no_file key.code ≡ true
named_by key e None at is free = absurd (none-some e is)
named_by key e (Some k) at is free = free_by key.code k at
    (ap (λ (x : EntryId). is_free_kind x.kind) (same_Some _ e is) ∙ free)

names_free : (key : Key) (e : EntryId) → unused_entry key ≡ Some e → is_free_kind e.kind ≡ true
    → asks_no_file key.code ≡ true
unfolding unused_entry
names_free key e is free = named_by key e (unused_kind key.code) refl is free

-- ---- dead entries

module _ (xs ys : List Key) (hits others : List Hit) (free_keys : unseeing xs ≡ unseeing ys)
    (free_hits : unseeing_hits hits ≡ unseeing_hits others) where
  -- an entry that is dead by the first keys and hits is dead by the second
  stays_dead : (e : EntryId) → is_free_kind e.kind ≡ true → IsDead xs hits e → IsDead ys others e
  stays_dead e free dead = record {
    reported =
        let from = from_filter_map unused_entry xs e dead.reported in
        let mine = names_free from.from e from.gives free in
        let at : Contains (unseeing ys) from.from = subst (λ (ks : List Key). Contains ks from.from) free_keys
        (Contains-filter (λ (key : Key). asks_no_file key.code) xs from.from from.member mine) in
        Contains-filter_map unused_entry ys from.from e
        (filtered (λ (key : Key). asks_no_file key.code) ys from.from at) from.gives;
    unhit = λ h at same.
        let mine : is_free_kind h.entry.kind ≡ true = ap (λ (x : EntryId). is_free_kind x.kind) same ∙ free in
        let there : Contains (unseeing_hits hits) h = subst (λ (hs : List Hit). Contains hs h) (sym free_hits)
        (Contains-filter (λ (k : Hit). is_free_kind k.entry.kind) others h at mine) in
        dead.unhit h (filtered (λ (k : Hit). is_free_kind k.entry.kind) hits h there) same;
  }

abbrev mine : EntryId → Bool
mine e = is_free_kind e.kind

pub dead_unseen : (xs ys : List Key) (hits others : List Hit) (dead gone : List EntryId) → unseeing xs ≡ unseeing ys
    → unseeing_hits hits ≡ unseeing_hits others → AreDead xs hits dead → AreDead ys others gone
    → unseeing_entries dead ≡ unseeing_entries gone
dead_unseen xs ys hits others dead gone free_keys free_hits are too =
    one_ascending entry_cmp-total (unseeing_entries dead) (unseeing_entries gone)
    (IsStrictlySortedBy-filter _ mine dead are.ascending) (IsStrictlySortedBy-filter _ mine gone too.ascending)
    (λ e at. let free = passes_filter mine dead e at in
    Contains-filter mine gone e (too.whole e
    (stays_dead xs ys hits others free_keys free_hits e free (are.sound e (filtered mine dead e at)))) free)
    (λ e at. let free = passes_filter mine gone e at in
    Contains-filter mine dead e (are.whole e
    (stays_dead ys xs others hits (sym free_keys) (sym free_hits) e free (too.sound e (filtered mine gone e at)))) free)
