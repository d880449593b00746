-- What the bans check gives: first the keys of the rules, and then those of replaced crates.
use Rattle.std.proofs.Common.{List, [], None, Option, Some, ap, append-nil, false, inl, inr, length, map, refl, suc}
use Rattle.std.proofs.Common.{sym, take, zero, ℕ, ◌++◌, ◌+◌, ◌∙◌, ◌∷◌, ◌≡◌}
use Rattle.std.proofs.Math.Seq.{take-append-add}
use Rattle.std.proofs.lemmas.List.{append_assoc, map-append}
use Rattle.std.proofs.lemmas.List.Elements.{All-contains_itself, All-take, filter-append}
use Rattle.std.specs.List.Sorted.{IsStrictlySortedBy}
use Rattle.std.specs.Prelude.{IsTrue, filter}
use Rattle.deny_base_lists.specs.Ascending.{Lists}
use Rattle.deny_base.specs.Code.{is_reported_here}
use Rattle.deny_base.specs.KeyOrder.{key_cmp}
use Rattle.deny_base.specs.declared.code.Code.{Code}
use Rattle.deny_base.specs.declared.code.Code.TheVariants as code
use Rattle.deny_base.specs.declared.code.DiagnosticCode.TheVariants.{Bans}
use Rattle.deny_base.specs.declared.entry.Hit.{Hit}
use Rattle.deny_base.specs.declared.finding.Pack.{Pack}
use Rattle.deny_base.specs.declared.key.Key.{Key}
use Rattle.deny_spec_report.specs.Circumstances.{Circumstances, tabled}
use Rattle.deny_spec_report.specs.Facts.{Facts}
use Rattle.deny_spec_report.specs.Saying.{said_by}
use Rattle.deny_spec_report.specs.Diags.{key_pack}
use Rattle.deny_spec_report.proofs.Kept.{filter_fails_on}
use Rattle.deny_base_lists.proofs.Members.{no_member}
use Rattle.deny_spec_report.proofs.Made.{replaced_made, unmatched_ignore_made}
use Rattle.deny_rules_dup_edges.specs.DupEdges.{is_duplicate, is_of_duplicate}
use Rattle.deny_std.specs.Found.{IsOfStd}
use Rattle.deny_std.specs.declared.replacements.Replacements.{Replacements}
use Rattle.deny_diags.specs.Here.{AreReportedHere}
use Rattle.deny_diags.specs.Reporting.{CanAllHold, ReportsPrefix}
use Rattle.deny_diags.proofs.TableLemmas.{reported_untabled}
use Rattle.deny_rules.proofs.OwnRuleLemmas.{rules_here, rules_are_written}
use Rattle.deny_rules.proofs.StdLemmas.{nothing_of_std}
use Rattle.deny_rules.specs.private.OwnRules.{IsByRule}
use Rattle.deny_rules.specs.private.Replaced.{IsFoundForPolicy, IsFoundOf}

-- ---- the keys of the rules are reported by the table over codes

pub reported_by_rules : (c : Circumstances) (facts : Facts) (keys : List Key) → Lists key_cmp (IsByRule c facts) keys
    → AreReportedHere keys
reported_by_rules c facts keys listed k d within =
    rules_here c facts _ (listed.sound _ (All-contains_itself keys k d within))

-- the keys of the rules hold
pub holding_by_rules : (c : Circumstances) (facts : Facts) (keys : List Key) → Lists key_cmp (IsByRule c facts) keys
    → CanAllHold c keys
holding_by_rules c facts keys listed k d within =
    (facts, rules_are_written c facts _ (listed.sound _ (All-contains_itself keys k d within)))

-- ---- the findings of the rules, and then those of replaced crates

take_before : {X : Type 0} (n : ℕ) (xs ys : List X) → (m : ℕ) × (take m (xs ++ ys) ≡ take n xs)
take_before zero xs ys = (zero, refl)
take_before (suc n) [] ys = (zero, refl)
take_before (suc n) (x ∷ xs) ys =
    let rest = take_before n xs ys in
    (suc rest.0, ap (λ zs. x ∷ zs) rest.1)

module _ (c : Circumstances) (table : List ℕ) (rules : List Key) (here : AreReportedHere rules) where
  -- the findings of the rules, and then those of replaced crates, by the table of replacements
  pub both_reported : (std : List Key) (old mid new : List Pack) → mid ≡ old ++ map (key_pack c) rules
      → new ≡ mid ++ map (key_pack (tabled c table)) std
      → new ≡ old ++ map (key_pack (tabled c table)) (rules ++ std)
  both_reported std old mid new first second =
      let pack = key_pack (tabled c table) in
      second
      ∙ (ap (λ (packs : List Pack). packs ++ map pack std)
      (first ∙ ap (λ (packs : List Pack). old ++ packs) (sym (reported_untabled c table rules here)))
      ∙ (append_assoc old (map pack rules) (map pack std)
      ∙ ap (λ (packs : List Pack). old ++ packs) (sym (map-append pack rules std))))

  -- a prefix of the findings of the rules
  pub first_cut : (std : List Key) (old new : List Pack) → ReportsPrefix c rules old new
      → ReportsPrefix (tabled c table) (rules ++ std) old new
  first_cut std old new prefix =
      let cut = take_before prefix.0 rules std in (
        cut.0,
        prefix.1
            ∙ ap (λ (packs : List Pack). old ++ packs)
            (sym (reported_untabled c table (take prefix.0 rules)
            (All-take (λ (key : Key). IsTrue (is_reported_here key.code)) prefix.0 rules here))
            ∙ ap (map (key_pack (tabled c table))) (sym cut.1)),
      )

  -- all findings of the rules, and a prefix of those of replaced crates
  pub second_cut : (std : List Key) (number : ℕ) (old mid new : List Pack) → mid ≡ old ++ map (key_pack c) rules
      → new ≡ mid ++ map (key_pack (tabled c table)) (take number std)
      → ReportsPrefix (tabled c table) (rules ++ std) old new
  second_cut std number old mid new first second = (
    length rules + number,
    both_reported (take number std) old mid new first second
        ∙ ap (λ (keys : List Key). old ++ map (key_pack (tabled c table)) keys)
        (sym (take-append-add rules std number)),
  )

-- the hits of three groups of entries, one after the other
pub hits_then : (one two three mid all : List Hit) → mid ≡ one ++ two → all ≡ mid ++ three
    → all ≡ one ++ (two ++ three)
hits_then one two three mid all second third =
    third ∙ (ap (λ (hits : List Hit). hits ++ three) second ∙ append_assoc one two three)

-- ---- the replacements that were found

pub found_of : (c : Circumstances) (file : ℕ) (found : Option Replacements) → c.files.policy ≡ file
    → IsFoundForPolicy c.policy c.graph (said_by c.table) found → IsFoundOf c file found
found_of c file None file_is none = nothing_of_std c none
found_of c file (Some found) file_is by = record {
  replacing = by.0;
  active = by.1;
  found_from = by.2;
  file_is = file_is;
}

-- the empty list has the keys of replaced crates, where none holds
pub lists_nothing : (c : Circumstances) → ((key : Key) → IsOfStd c key → ⊥) → Lists key_cmp (IsOfStd c) []
unfolding IsStrictlySortedBy
lists_nothing c none = record {
  ascending = tt;
  whole = λ key is. absurd (none key is);
  sound = λ key is. absurd (no_member key is);
}

-- ---- no duplicate is among the keys of replaced crates

of_other_code : (d : Code) (key : Key) → key.code ≡ Bans d → is_duplicate (Bans d) ≡ false
    → is_of_duplicate key ≡ false
unfolding is_of_duplicate
of_other_code d key is other = ap is_duplicate is ∙ other

no_duplicate : (c : Circumstances) (key : Key) → IsOfStd c key → is_of_duplicate key ≡ false
no_duplicate c key (inl ignored) = of_other_code code.UnmatchedReplacementIgnore key
    (unmatched_ignore_made c key ignored).code_is refl
no_duplicate c key (inr replaced) = of_other_code code.ReplacedInStd key (replaced_made c key replaced).code_is refl

pub same_duplicates : (c : Circumstances) (rules std : List Key) → Lists key_cmp (IsOfStd c) std
    → filter is_of_duplicate rules ≡ filter is_of_duplicate (rules ++ std)
same_duplicates c rules std listed = sym
    (filter-append is_of_duplicate rules std
    ∙ (ap (λ (keys : List Key). filter is_of_duplicate rules ++ keys)
    (filter_fails_on is_of_duplicate std (λ key is. no_duplicate c key (listed.sound key is)))
    ∙ append-nil (filter is_of_duplicate rules)))
