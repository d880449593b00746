-- The keys of replaced crates, and the hits of ignores, where spans of the policy are replaced.
use Rattle.std.proofs.Common.{◌≡◌, ◌&&◌, ◌∙◌, None, Option, Some, [], ap, map, not, refl}
use Rattle.std.specs.Prelude.{Contains, is_none, option_map}
use Rattle.std.specs.Option.{option_map_or}
use Rattle.deny_base_lists.proofs.Agreement.{filter_on, find_on, list_any_on}
use Rattle.deny_base.specs.declared.code.Code.TheVariants as code
use Rattle.deny_base.specs.declared.entry.EntryKind.TheVariants.{ReplacementIgnore}
use Rattle.deny_base.specs.declared.entry.Witness.TheVariants.{Krate}
use Rattle.deny_spec.specs.Graph.{Crate, Graph, kid_of}
use Rattle.deny_spec.specs.Hits.{hit_of}
use Rattle.deny_spec.specs.Keys.{key_of, unused_key}
use Rattle.deny_spec.specs.Match.{matches}
use Rattle.deny_spec.specs.Policy.{Entry, Replacing}
use Rattle.deny_spec_report.specs.Circumstances.{Circumstances}
use Rattle.deny_spec_report.specs.FirstMatch.{first_of, is_first}
use Rattle.deny_spec_report.specs.Saying.{Saying, said_by}
use Rattle.deny_spec_report.specs.StdReplacements.{counting_version, hits_ignore, ignore_hit, ignore_hits}
use Rattle.deny_spec_report.specs.StdReplacements.{ignore_hits_in}
use Rattle.deny_spec_report.specs.StdReplacements.{ignore_of, ignore_span, ignores, is_hit_ignore, is_replaced}
use Rattle.deny_spec_report.specs.StdReplacements.{is_reported_replaced, is_unmatched_ignore, looks_at_none}
use Rattle.deny_spec_report.specs.StdReplacements.{may_replace}
use Rattle.deny_spec_report.specs.StdReplacements.{replaced_key, replaced_keys, replaced_keys_in, satisfies}
use Rattle.deny_spec_report.specs.StdReplacements.{unmatched_ignore_keys, unmatched_ignore_keys_in}
use Rattle.deny_spec_removal.specs.Renaming.{KeepsApart, Renaming, renamed_entry, renamed_hit, renamed_in}
use Rattle.deny_spec_removal.specs.Renaming.{renamed_replacing}
use Rattle.deny_spec_removal.proofs.Anew.{crate_hit_anew, filter_map_anew, none_anew, spanned, reported_anew}
use Rattle.deny_spec_removal.proofs.FirstMatch.{first_anew, is_first_renamed}

-- ---- a policy that checks replaced crates

module _ (r : Renaming) (s : Replacing) (g : Graph) (said : Saying) where
  pub replaced_same : (c : Crate) → is_replaced (renamed_replacing r s) g said c ≡ is_replaced s g said c
  unfolding is_replaced may_replace satisfies counting_version
  replaced_same c = refl

  ignored_same : (c : Crate) → is_none (ignore_of (renamed_replacing r s) c) ≡ is_none (ignore_of s c)
  unfolding ignore_of matches
  ignored_same c =
      ap (λ (o : Option Entry). is_none o) (first_anew ignores (renamed_entry r) s.ignore c (λ e is. refl))
      ∙ none_anew (renamed_entry r) (first_of ignores s.ignore c)

  reported_same : (c : Crate) → is_reported_replaced (renamed_replacing r s) g said c ≡ is_reported_replaced s g said c
  unfolding is_reported_replaced
  reported_same c =
      ap (λ b. b && is_none (ignore_of (renamed_replacing r s) c)) (replaced_same c)
      ∙ ap (λ b. is_replaced s g said c && b) (ignored_same c)

  replaced_stay : replaced_keys (renamed_replacing r s) g said ≡ replaced_keys s g said
  unfolding replaced_keys
  replaced_stay = ap (map (λ (c : Crate). replaced_key c.place))
      (filter_on (is_reported_replaced (renamed_replacing r s) g said) (is_reported_replaced s g said) g.crates
      (λ c known. reported_same c))

module _ (r : Renaming) (s : Replacing) (g : Graph) (said : Saying)
    (apart : (d e : Entry) → Contains s.ignore d → Contains s.ignore e
    → r.span (ignore_span d) ≡ r.span (ignore_span e) → ignore_span d ≡ ignore_span e) where
  pub first_same : (e : Entry) (c : Crate) → Contains s.ignore e
      → is_first ignore_span ignores (map (renamed_entry r) s.ignore) (renamed_entry r e) c
      ≡ is_first ignore_span ignores s.ignore e c
  unfolding matches
  first_same e c written = is_first_renamed ignore_span ignores (renamed_entry r) s.ignore e c (λ d is. refl)
      (λ d is same. apart d e is written same) (λ d same. ap r.span same)

  hits_same : (e : Entry) (c : Crate) → Contains s.ignore e
      → hits_ignore (renamed_replacing r s) g said (renamed_entry r e) c ≡ hits_ignore s g said e c
  unfolding hits_ignore
  hits_same e c written =
      ap (λ b. b && is_first ignore_span ignores (map (renamed_entry r) s.ignore) (renamed_entry r e) c)
      (replaced_same r s g said c)
      ∙ ap (λ b. is_replaced s g said c && b) (first_same e c written)

  is_hit_same : (e : Entry) → Contains s.ignore e
      → is_hit_ignore (renamed_replacing r s) g said (renamed_entry r e) ≡ is_hit_ignore s g said e
  unfolding is_hit_ignore
  is_hit_same e written = list_any_on (hits_ignore (renamed_replacing r s) g said (renamed_entry r e))
      (hits_ignore s g said e) g.crates (λ c known. hits_same e c written)

  unmatched_same : (e : Entry) → Contains s.ignore e
      → is_unmatched_ignore (renamed_replacing r s) g said (renamed_entry r e) ≡ is_unmatched_ignore s g said e
  unfolding is_unmatched_ignore
  unmatched_same e written = ap (λ b. not (looks_at_none s.scope) && not b) (is_hit_same e written)

  unmatched_anew : unmatched_ignore_keys (renamed_replacing r s) g said ≡ map (spanned r)
      (unmatched_ignore_keys s g said)
  unfolding unmatched_ignore_keys key_of
  unmatched_anew = reported_anew (is_unmatched_ignore (renamed_replacing r s) g said) (is_unmatched_ignore s g said)
      (renamed_entry r) (λ e. unused_key code.UnmatchedReplacementIgnore (ignore_span e))
      (λ e. unused_key code.UnmatchedReplacementIgnore (ignore_span e)) (spanned r) s.ignore
      (λ e written. unmatched_same e written) (λ e. refl)

  -- ---- hits

  hit_anew : (e : Entry) → Contains s.ignore e → ignore_hit (renamed_replacing r s) g said (renamed_entry r e)
      ≡ option_map (renamed_hit r) (ignore_hit s g said e)
  unfolding ignore_hit
  hit_anew e written =
      ap (option_map (λ (c : Crate). hit_of ReplacementIgnore (r.span (ignore_span e)) (Krate (kid_of c))))
      (find_on (hits_ignore (renamed_replacing r s) g said (renamed_entry r e)) (hits_ignore s g said e) g.crates
      (λ c known. hits_same e c written))
      ∙ crate_hit_anew r ReplacementIgnore (ignore_span e) _

  hits_anew : ignore_hits (renamed_replacing r s) g said ≡ map (renamed_hit r) (ignore_hits s g said)
  unfolding ignore_hits
  hits_anew = filter_map_anew (ignore_hit (renamed_replacing r s) g said) (ignore_hit s g said) (renamed_entry r)
      (renamed_hit r) s.ignore (λ e written. hit_anew e written)

-- ---- a policy that may not check replaced crates

module _ (r : Renaming) (c : Circumstances) where
  pub replaced_in_stay : replaced_keys_in (renamed_in r c) ≡ replaced_keys_in c
  replaced_in_stay = by c.policy.replacing
    where
      by : (o : Option Replacing)
          → option_map_or (λ s. replaced_keys s c.graph (said_by c.table)) (option_map (renamed_replacing r) o) []
          ≡ option_map_or (λ s. replaced_keys s c.graph (said_by c.table)) o []
      by None = refl
      by (Some s) = replaced_stay r s c.graph (said_by c.table)

module _ (r : Renaming) (c : Circumstances) (apart : KeepsApart r c.policy) where
  -- different spans of ignores stay different
  abbrev Apart : Option Replacing → Type 0
  Apart o = (s : Replacing) → o ≡ Some s → (d e : Entry) → Contains s.ignore d → Contains s.ignore e
      → r.span (ignore_span d) ≡ r.span (ignore_span e) → ignore_span d ≡ ignore_span e

  pub unmatched_in_anew : unmatched_ignore_keys_in (renamed_in r c) ≡ map (spanned r) (unmatched_ignore_keys_in c)
  unmatched_in_anew = by c.policy.replacing apart.ignores
    where
      by : (o : Option Replacing) → Apart o
          → option_map_or (λ s. unmatched_ignore_keys s c.graph (said_by c.table)) (option_map (renamed_replacing r) o)
          [] ≡ map (spanned r) (option_map_or (λ s. unmatched_ignore_keys s c.graph (said_by c.table)) o [])
      by None stay = refl
      by (Some s) stay = unmatched_anew r s c.graph (said_by c.table) (stay s refl)

  pub ignore_hits_anew : ignore_hits_in (renamed_in r c) ≡ map (renamed_hit r) (ignore_hits_in c)
  ignore_hits_anew = by c.policy.replacing apart.ignores
    where
      by : (o : Option Replacing) → Apart o
          → option_map_or (λ s. ignore_hits s c.graph (said_by c.table)) (option_map (renamed_replacing r) o) []
          ≡ map (renamed_hit r) (option_map_or (λ s. ignore_hits s c.graph (said_by c.table)) o [])
      by None stay = refl
      by (Some s) stay = hits_anew r s c.graph (said_by c.table) (stay s refl)
