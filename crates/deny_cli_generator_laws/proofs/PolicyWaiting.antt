-- No entry of the policy has a last day: none waits for the day on which the policy is read, and none has expired.
use Rattle.std.proofs.Common.{◌≡◌, ◌+◌, ◌++◌, ◌∷◌, [], ℕ, List, None, Option, Some, ap, arith, codes, filter, length}
use Rattle.std.proofs.Common.{refl, subst, sym, true, ◌∙◌}
use Rattle.std.specs.Option.{option_map_or}
use Rattle.std.specs.Prelude.{filter_map, option_and_then}
use Rattle.deny_base_lists.proofs.Members.{no_member}
use Rattle.std.specs.List.Sorted.{IsStrictlySortedBy}
use Rattle.deny_base.specs.declared.entry.EntryKind.TheVariants as kind
use Rattle.deny_base.specs.declared.span.Span.{Span}
use Rattle.deny_cfg.specs.Current.{AreInOrder, IsCurrent, counts, current_bans, expired_in, expired_in_bans, expired_skip}
use Rattle.deny_cfg.specs.Current.{skip_expires}
use Rattle.deny_cfg.specs.Waiting.{no_today, waiting_from, waiting_in, waiting_of}
use Rattle.deny_cfg.specs.declared.expired.ExpiredWaiver.{ExpiredWaiver}
use Rattle.deny_cfg_entries.specs.PolicyKey.{name_of}
use Rattle.deny_cfg_entries.specs.declared.day.Day.{Day}
use Rattle.deny_cfg_entries.specs.declared.policy_key.PolicyKey.TheVariants as key
use Rattle.deny_cfg_entries.specs.declared.spec_or_extended.PackageSpecOrExtended.{PackageSpecOrExtended}
use Rattle.deny_cfg_entries.specs.declared.waiver.Waiver.{Waiver}
use Rattle.deny_toml.specs.Calls.{value_at, value_below}
use Rattle.deny_toml.specs.Value.{span_of}
use Rattle.deny_toml.specs.error.ConfigFault.{ConfigFault}
use Rattle.deny_toml.specs.value.Value.{Value}
use Rattle.deny_cli_generator_laws.proofs.PolicyConfig.{skipped_entry, skipped_from}
use Rattle.deny_cli_generator_laws.proofs.PolicyDocument.{key_at}
use Rattle.deny_cli_generator_laws.proofs.PolicyElements.{elements_text, in_quotes}
use Rattle.deny_cli_generator_laws.proofs.PolicySkipped.{spec_text}
use Rattle.deny_cli_generator_laws.proofs.PolicyValid.{policy_of, valid_of}
use Rattle.deny_cli_generator_laws.proofs.PolicyValues.{bans_entries, bans_value, skip_value, text_value, tree_of}
use Rattle.deny_cli_generator_laws.proofs.PolicyValues.{values_from}
use Rattle.deny_cli_generator_laws.proofs.PolicyValuesLaws.{array-in, below-part, below-text}

-- ---- no entry waits for the day

-- the value at a path that begins with `bans`
in_bans : (name : List ℕ) (names : List (List ℕ)) (span : Span) (level deny skip : Value)
    → value_below (codes "bans" ∷ name ∷ names) (tree_of span (bans_value level deny skip))
    ≡ option_and_then (value_below names) (value_at name (bans_entries level deny skip))
in_bans name names span level deny skip =
    let bans = bans_value level deny skip in
    ap (option_and_then (value_below (name ∷ names)))
    (below-part (codes "bans") span ((key_at 1 (codes "bans"), bans) ∷ []))
    ∙ ap (option_and_then (value_below names)) (below-part name (span_of 1 4) (bans_entries level deny skip))

waiting_texts : (array : List ℕ) (index at : ℕ) (texts : List (List ℕ))
    → waiting_from array index (values_from at texts) ≡ []
waiting_texts array index at [] = refl
waiting_texts array index at (text ∷ texts) =
    rw (below-text (name_of key.Expires) at text)
    (waiting_texts array (index + 1) (at + length (in_quotes text) + 2) texts)

waiting_skips : (texts : List (List ℕ)) → waiting_of (codes "bans.skip") (Some (skip_value texts)) ≡ []
waiting_skips texts =
    ap (λ values. option_map_or (waiting_from (codes "bans.skip") 0) values [])
    (array-in (span_of 55 (length (91 ∷ elements_text texts))) (values_from 56 texts))
    ∙ waiting_texts (codes "bans.skip") 0 56 texts

none_of : (one two three four five : List ConfigFault) → one ≡ [] → two ≡ [] → three ≡ [] → four ≡ [] → five ≡ []
    → one ++ (two ++ (three ++ (four ++ five))) ≡ []
none_of one two three four five first second third fourth fifth = rw (first, second, third, fourth, fifth) refl

none_waits : (span : Span) (level deny : Value) (texts : List (List ℕ))
    → waiting_in (tree_of span (bans_value level deny (skip_value texts))) ≡ []
unfolding waiting_in
none_waits span level deny texts =
    let skip = skip_value texts in
    let bans = bans_value level deny skip in
    none_of _ _ _ _ _
    (ap (waiting_of (codes "bans.skip")) (in_bans (codes "skip") [] span level deny skip) ∙ waiting_skips texts)
    (ap (waiting_of (codes "bans.skip-tree")) (in_bans (codes "skip-tree") [] span level deny skip))
    (ap (waiting_of (codes "bans.std-replacements.ignore"))
    (in_bans (codes "std-replacements") (codes "ignore" ∷ []) span level deny skip))
    (ap (waiting_of (codes "bans.build.bypass"))
    (in_bans (codes "build") (codes "bypass" ∷ []) span level deny skip))
    (ap (λ found. waiting_of (codes "licenses.exceptions") (option_and_then (value_below (codes "exceptions" ∷ [])) found))
    (below-part (codes "licenses") span ((key_at 1 (codes "bans"), bans) ∷ [])))

pub waits-for-none : (today : Option Day) (span : Span) (level deny : Value) (texts : List (List ℕ))
    → no_today today (tree_of span (bans_value level deny (skip_value texts))) ≡ []
waits-for-none None span level deny texts = none_waits span level deny texts
waits-for-none (Some today) span level deny texts = refl

-- ---- each entry counts on each day

counting : (today : Option Day) → counts today None ≡ true
counting None = refl
counting (Some today) = refl

all_count : (today : Option Day) (at : ℕ) (numbers : List ℕ)
    → filter (λ (e : PackageSpecOrExtended Waiver). counts today (skip_expires e)) (skipped_from at numbers)
    ≡ skipped_from at numbers
all_count today at [] = refl
all_count today at (number ∷ numbers) =
    rw (counting today)
    (ap (λ entries. skipped_entry (text_value at (spec_text number)) number ∷ entries)
    (all_count today (at + length (in_quotes (spec_text number)) + 2) numbers))

past : (today : Option Day) (entry : PackageSpecOrExtended Waiver) → skip_expires entry ≡ None
    → expired_skip today kind.Skip entry ≡ None
past None entry none = refl
past (Some today) entry none = rw none refl

none_past : (today : Option Day) (at : ℕ) (numbers : List ℕ)
    → filter_map (expired_skip today kind.Skip) (skipped_from at numbers) ≡ []
none_past today at [] = refl
none_past today at (number ∷ numbers) =
    rw (past today (skipped_entry (text_value at (spec_text number)) number) refl)
    (none_past today (at + length (in_quotes (spec_text number)) + 2) numbers)

none_expired : (today : Option Day) (file : ℕ) (numbers : List ℕ) → expired_in today (valid_of file numbers) None ≡ []
unfolding expired_in_bans
none_expired today file numbers = rw (none_past today 56 numbers) refl

nothing_in_order : AreInOrder [] []
unfolding IsStrictlySortedBy
nothing_in_order = record {
  ids = record {
    ascending = tt;
    whole = λ id is. absurd (no_member id is);
    sound = λ id is. absurd (no_member id is);
  };
  first = λ n d within. let none : ⊥ = omega (arith, within) in absurd none;
}

pub is-current : (today : Option Day) (file : ℕ) (numbers : List ℕ)
    → IsCurrent today (valid_of file numbers) None (policy_of file numbers)
unfolding current_bans
is-current today file numbers = record {
  bans = ap (λ entries. record (valid_of file numbers) { skipped = entries }) (sym (all_count today 56 numbers));
  licenses = refl;
  waivers = subst (λ (all : List ExpiredWaiver). AreInOrder all []) (sym (none_expired today file numbers))
      nothing_in_order;
  expired = refl;
}
