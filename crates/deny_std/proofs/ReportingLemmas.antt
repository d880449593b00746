-- The packs of what is kept are those of the keys that hold, or a prefix of them.
use Rattle.std.proofs.Common.{◌≡◌, ◌++◌, ◌⊎◌, ℕ, List, [], Option, Some, Contains, length, map, take, sym, ap, ◌∙◌}
use Rattle.std.proofs.Common.{subst, inl, inr, arith, append_assoc}
use Rattle.std.specs.Prelude.{option_map}
use Rattle.std.specs.Option.{option_map_or}
use Rattle.std.proofs.lemmas.Bool.{cases_lt}
use Rattle.std.proofs.lemmas.List.{map-append, take-append-le, take-map, take_all}
use Rattle.std.proofs.lemmas.List.Elements.{All-contains}
use Rattle.std.proofs.lemmas.Simd.{map-map}
use Rattle.deny_base_lists.specs.Ascending.{Lists}
use Rattle.deny_base_lists.specs.Prefix.{GainsPrefix}
use Rattle.deny_base_lists.proofs.Agreement.{map_on}
use Rattle.deny_base_lists.proofs.PrefixLemmas.{gains_mapped, gains_second}
use Rattle.deny_base.specs.KeyOrder.{key_cmp}
use Rattle.deny_base.specs.declared.finding.Pack.{Pack}
use Rattle.deny_base.specs.declared.key.Key.{Key}
use Rattle.deny_base.specs.declared.level.LintLevel.{LintLevel}
use Rattle.deny_spec.specs.Graph.{Graph}
use Rattle.deny_spec.specs.Keys.{key_of}
use Rattle.deny_spec.specs.Policy.{Replacing}
use Rattle.deny_spec_report.specs.Circumstances.{Circumstances}
use Rattle.deny_spec_report.specs.EachCode.{message_as}
use Rattle.deny_spec_report.specs.Saying.{Saying, said_by, said_in}
use Rattle.deny_spec_report.specs.StdReplacements.{ignore_at, replaced_key, replaced_keys, replaced_diag}
use Rattle.deny_spec_report.specs.StdReplacements.{unmatched_ignore_keys, unmatched_ignore_diag}
use Rattle.deny_spec_report.specs.MessageParts.{not_built}
use Rattle.deny_spec_report.specs.Diags.{pack_of, key_pack}
use Rattle.deny_std.specs.Found.{IsFoundIn, IsOfStd, ReportsStd, ReportsStdPrefix}
use Rattle.deny_std.specs.declared.replacements.Replacements.{Replacements}
use Rattle.deny_std.specs.declared.diags.Unmatched.{Unmatched}
use Rattle.deny_std.specs.private.Diags.{ReportsFirst, replaced_pack, unmatched_of, unmatched_pack}
use Rattle.deny_std.proofs.KeyLemmas.{ignore_key, lists-all, replaced-reported, unmatched-reported}

-- a prefix of the first part is a prefix of the whole
gains_first : (first second old new : List Pack) → GainsPrefix first old new → GainsPrefix (first ++ second) old new
gains_first first second old new gains = elim (cases_lt (length first) gains.count)
    as (λ _. GainsPrefix (first ++ second) old new) [
      | inl more ↦ record {
        count = length first;
        behind = gains.behind ∙ ap (λ xs. old ++ xs) (take_all gains.count first (omega arith)
            ∙ (sym (take_all (length first) first (omega arith))
            ∙ sym (take-append-le (length first) first second (omega arith))));
      }
      | inr less ↦ record {
        count = gains.count;
        behind = gains.behind ∙ ap (λ xs. old ++ xs) (sym (take-append-le gains.count first second less));
      }
    ]

pack-unmatched : (c : Circumstances) (r : Replacing) (file : ℕ) (u : Unmatched) → c.policy.replacing ≡ Some r
    → c.files.policy ≡ file → option_map unmatched_of (ignore_at r u.span) ≡ Some u
    → key_pack c (ignore_key u.span) ≡ unmatched_pack file u
unfolding key_of message_as unmatched_pack
pack-unmatched c r file u active file_is is = ap (pack_of (ignore_key u.span))
    (ap (λ (o : Option Replacing). option_map_or
    (λ r. unmatched_ignore_diag r c.files.policy (ignore_key u.span)) o not_built) active
    ∙ (ap (λ (number : ℕ). unmatched_ignore_diag r number (ignore_key u.span)) file_is
    ∙ unmatched-reported r file u is))

pack-replaced : (c : Circumstances) (r : Replacing) (place : ℕ) → c.policy.replacing ≡ Some r
    → key_pack c (replaced_key place) ≡ replaced_pack r.level c.graph (said_by c.table) place
unfolding key_of message_as replaced_pack
pack-replaced c r place active = ap (pack_of (replaced_key place))
    (ap (λ (o : Option Replacing). option_map_or
    (λ r. replaced_diag r c.graph (said_by c.table) (replaced_key place)) o not_built) active
    ∙ replaced-reported r c.graph (said_by c.table) place)

module _ (c : Circumstances) (file : ℕ) (found : Replacements) (is : IsFoundIn c file found) where
  abbrev spanned : List Key
  spanned = map ignore_key (map (λ u. u.span) found.unmatched)

  abbrev keys : List Key
  keys = spanned ++ map replaced_key found.replaced

  keys-listed : Lists key_cmp (IsOfStd c) keys
  keys-listed =
      subst (λ (o : Option Replacing). Lists key_cmp
      (λ key. Contains (option_map_or (λ r. unmatched_ignore_keys r c.graph (said_by c.table)) o []) key
      ⊎ Contains (option_map_or (λ r. replaced_keys r c.graph (said_by c.table)) o []) key) keys) (sym is.active)
      (lists-all is.replacing c.graph (said_by c.table) found.unmatched found.replaced is.found_from.kept.unmatched
      is.found_from.kept.reported)

  unmatched-packs : map (key_pack c) spanned ≡ map (unmatched_pack file) found.unmatched
  unmatched-packs =
      ap (map (key_pack c)) (map-map ignore_key (λ (u : Unmatched). u.span) found.unmatched)
      ∙ (map-map (key_pack c) (λ (u : Unmatched). ignore_key u.span) found.unmatched
      ∙ map_on (λ (u : Unmatched). key_pack c (ignore_key u.span)) (unmatched_pack file) found.unmatched
      (λ u holds. pack-unmatched c is.replacing file u is.active is.file_is
      (All-contains (λ (u : Unmatched). option_map unmatched_of (ignore_at is.replacing u.span) ≡ Some u)
      found.unmatched u is.found_from.kept.unmatched.first holds)))

  replaced-packs : (g : Graph) → c.graph ≡ g → map (key_pack c) (map replaced_key found.replaced)
      ≡ map (replaced_pack found.level g (said_in found.table)) found.replaced
  replaced-packs g same =
      map-map (key_pack c) replaced_key found.replaced
      ∙ map_on (λ (place : ℕ). key_pack c (replaced_key place))
      (replaced_pack found.level g (said_in found.table)) found.replaced
      (λ place _. pack-replaced c is.replacing place is.active
      ∙ (ap (λ (level : LintLevel). replaced_pack level c.graph (said_by c.table) place)
      (sym is.found_from.kept.level_is)
      ∙ (ap (λ (graph : Graph). replaced_pack found.level graph (said_by c.table) place) same
      ∙ ap (λ (said : Saying). replaced_pack found.level g said place) (sym is.found_from.said_is))))

  all-packs : (g : Graph) → c.graph ≡ g → map (key_pack c) keys ≡ map (unmatched_pack file) found.unmatched
      ++ map (replaced_pack found.level g (said_in found.table)) found.replaced
  all-packs g same =
      map-append (key_pack c) spanned (map replaced_key found.replaced)
      ∙ (ap (λ packs. packs ++ map (key_pack c) (map replaced_key found.replaced)) unmatched-packs
      ∙ ap (λ packs. map (unmatched_pack file) found.unmatched ++ packs) (replaced-packs g same))

  pub reported-all : (g : Graph) (old mid new : List Pack) → c.graph ≡ g
      → mid ≡ old ++ map (unmatched_pack file) found.unmatched
      → new ≡ mid ++ map (replaced_pack found.level g (said_in found.table)) found.replaced → ReportsStd c old new
  reported-all g old mid new same first second = record {
    keys = keys;
    listed = keys-listed;
    reported = rw (second, first) (simp append_assoc (ap (λ packs. old ++ packs) (sym (all-packs g same))));
  }

  of-prefix : (g : Graph) (old new : List Pack) → c.graph ≡ g
      → GainsPrefix (map (unmatched_pack file) found.unmatched
      ++ map (replaced_pack found.level g (said_in found.table)) found.replaced) old new
      → ReportsStdPrefix c old new
  of-prefix g old new same gains = record {
    keys = keys;
    listed = keys-listed;
    number = gains.count;
    reported = gains.behind ∙ ap (λ packs. old ++ packs)
        (ap (take gains.count) (sym (all-packs g same)) ∙ take-map (key_pack c) gains.count keys);
  }

  pub reported-first : (g : Graph) (old new : List Pack) → c.graph ≡ g
      → ReportsFirst (unmatched_pack file) found.unmatched old new → ReportsStdPrefix c old new
  reported-first g old new same first = of-prefix g old new same
      (gains_first _ _ old new (gains_mapped (unmatched_pack file) found.unmatched first.0 old new first.1))

  pub reported-second : (g : Graph) (old mid new : List Pack) → c.graph ≡ g
      → mid ≡ old ++ map (unmatched_pack file) found.unmatched
      → ReportsFirst (replaced_pack found.level g (said_in found.table)) found.replaced mid new
      → ReportsStdPrefix c old new
  reported-second g old mid new same whole second = of-prefix g old new same
      (gains_second _ _ old mid new whole
      (gains_mapped (replaced_pack found.level g (said_in found.table)) found.replaced second.0 mid new second.1))
