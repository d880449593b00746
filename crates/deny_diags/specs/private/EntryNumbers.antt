-- The numbers of a policy's entries in their lists, by the spans of their names.
use Rattle.std.specs.Prelude.{◌≡◌, ◌&&◌, ◌==◌, ℕ, Bool, List, Option, Some, if◌then◌else◌}
use Rattle.std.specs.BTreeMap.{get_by}
use Rattle.std.specs.List.{position_from}
use Rattle.std.specs.Option.{option_or}
use Rattle.std.specs.Ordering.{nat_cmp, on, ordering_then}
use Rattle.std.specs.declared.cmp.Ordering.{Ordering}
use Rattle.deny_base.specs.declared.span.Span.{Span}
use Rattle.deny_cfg.specs.declared.bans.cfg.valid.ValidConfig.{ValidConfig}
use Rattle.deny_rules_match.specs.declared.matches.BanMatch.{BanMatch}
use Rattle.deny_spec.specs.Wrappers.{same_span}
use Rattle.deny_diags.specs.declared.entry_numbers.EntryList.{EntryList}
use Rattle.deny_diags.specs.declared.entry_numbers.EntryList.TheVariants.{Deny, Allow, Skip, SkipTree, Features}
use Rattle.deny_diags.specs.declared.entry_numbers.EntryNumbers.{EntryNumbers}

-- the number of a list, in the order of declaration
unfoldable pub list_number : EntryList → ℕ
list_number Deny = 0
list_number Allow = 1
list_number Skip = 2
list_number SkipTree = 3
list_number Features = 4

abbrev pub list_cmp : EntryList → EntryList → Ordering
list_cmp = on list_number nat_cmp

abbrev pub same_list : EntryList → EntryList → Bool
same_list a b = list_number a == list_number b

-- the number that is held for a list at a span
abbrev pub number_at : EntryNumbers → EntryList → Span → Option ℕ
number_at held list span = get_by (λ k. ordering_then (list_cmp list k.list)
    (ordering_then (nat_cmp span.start k.span.start) (nat_cmp span.end k.span.end))) held.numbers

-- this number at its list and span, and the number held before elsewhere
abbrev pub number_or : EntryList → Span → ℕ → EntryList → Span → Option ℕ → Option ℕ
number_or list span number l r held = if same_list list l && same_span span r then Some number else held

-- the numbers of these entries of a list, counted on from one, and behind them the numbers held before
abbrev pub NumbersBefore : {T : Type 0} → (T → Span) → EntryList → ℕ → List T → EntryNumbers → EntryNumbers → Type 0
NumbersBefore span_of list from entries old new = (l : EntryList) (r : Span) → number_at new l r
    ≡ (if same_list list l
    then option_or (position_from (λ e. same_span (span_of e) r) from entries) (number_at old l r)
    else number_at old l r)

-- in a list the first entry of each span has its number
abbrev pub AreNumbered : {T : Type 0} → (T → Span) → EntryList → List T → EntryNumbers → Type 0
AreNumbered span_of list entries held = (span : Span)
    → number_at held list span ≡ position_from (λ e. same_span (span_of e) span) 0 entries

-- the entries of each list of a policy have their numbers
pub record NumbersEntries (cfg : ValidConfig) (bans : List BanMatch) (held : EntryNumbers) : Type 0 where
  pub deny : AreNumbered (λ m. m.ban.now.spec.name.span) Deny bans held
  pub allow : AreNumbered (λ e. e.spec.name.span) Allow cfg.allowed held
  pub skip : AreNumbered (λ e. e.spec.name.span) Skip cfg.skipped held
  pub skip_tree : AreNumbered (λ e. e.spec.name.span) SkipTree cfg.tree_skipped held
  pub features : AreNumbered (λ e. e.spec.name.span) Features cfg.features held
