-- The keys of wildcards are the same where the same crates are checked and the same dependencies of each are active.
use Rattle.std.proofs.Common.{◌≡◌, ◌∙◌, ◌&&◌, ◌==◌, ap, List, [], ◌∷◌, None, Option, Some, map, not, refl}
use Rattle.std.specs.Prelude.{Contains, filter, length, if◌then◌else◌}
use Rattle.std.specs.List.{flat_map}
use Rattle.std.specs.Option.{option_map_or}
use Rattle.deny_base_lists.proofs.Agreement.{AgreeOn, flat_map_on, list_any_on, same_test}
use Rattle.deny_base.specs.declared.code.Code.TheVariants as code
use Rattle.deny_base.specs.declared.key.Key.{Key}
use Rattle.deny_base.specs.declared.level.LintLevel.{LintLevel}
use Rattle.deny_spec.proofs.Agreement.{TwoFacts}
use Rattle.deny_spec.specs.Crates.{is_git_source}
use Rattle.deny_spec.specs.Facts.{Facts}
use Rattle.deny_spec.specs.Graph.{Crate, Graph}
use Rattle.deny_spec.specs.Groups.{is_marked, is_in_skipped_tree}
use Rattle.deny_spec.specs.Keys.{crate_key, no_span}
use Rattle.deny_spec.specs.Policy.{Policy}
use Rattle.deny_spec.specs.View.{Declared, Manifest, View, manifest_of}
use Rattle.deny_spec_report.specs.Wildcards.{is_asked, is_active, is_unresolved, unresolved_key, unresolved_keys}
use Rattle.deny_spec_report.specs.Wildcards.{unresolved_keys_of, wildcard_keys, wildcard_keys_of, wildcards_in}
use Rattle.deny_spec_report.specs.Wildcards.{wildcards_of}

-- ---- by two policies and facts

pub record AskAlike (p q : Policy) (g : Graph) (these those : Facts) : Type 0 where
  pub level : p.wildcards ≡ q.wildcards
  pub asked : (c : Crate) → Contains g.crates c → is_asked p these c ≡ is_asked q those c
  pub active : (c : Crate) (m : Manifest) → wildcards_in p g c m ≡ wildcards_in q g c m

module _ (p q : Policy) (g : Graph) (these those : Facts) (view : View) (alike : AskAlike p q g these those) where
  by_manifest : (c : Crate) (o : Option Manifest)
      → option_map_or (wildcards_in p g c) o [] ≡ option_map_or (wildcards_in q g c) o []
  by_manifest c None = refl
  by_manifest c (Some m) = alike.active c m

  same_wildcards : (c : Crate) → Contains g.crates c → wildcards_of p g these view c ≡ wildcards_of q g those view c
  unfolding wildcards_of
  same_wildcards c known =
      ap (λ b. if b then option_map_or (wildcards_in p g c) (manifest_of view c) [] else []) (alike.asked c known)
      ∙ ap (λ (deps : List Declared). if is_asked q those c then deps else []) (by_manifest c (manifest_of view c))

  same_wildcard_keys_of : (c : Crate) → Contains g.crates c
      → wildcard_keys_of p g these view c ≡ wildcard_keys_of q g those view c
  unfolding wildcard_keys_of
  same_wildcard_keys_of c known =
      ap (λ (deps : List Declared). if length deps == 0 then [] else crate_key code.Wildcard c.place no_span ∷ [])
      (same_wildcards c known)

  same_unresolved_keys_of : (c : Crate) → Contains g.crates c
      → unresolved_keys_of p g these view c ≡ unresolved_keys_of q g those view c
  unfolding unresolved_keys_of
  same_unresolved_keys_of c known =
      ap (λ (deps : List Declared). map (unresolved_key c) (filter (is_unresolved view) deps)) (same_wildcards c known)

  pub same_wildcard_keys : wildcard_keys p g these view ≡ wildcard_keys q g those view
  same_wildcard_keys =
      ap (λ (level : LintLevel). if is_active level then flat_map (wildcard_keys_of p g these view) g.crates else [])
      alike.level
      ∙ ap (λ (keys : List Key). if is_active q.wildcards then keys else [])
      (flat_map_on (wildcard_keys_of p g these view) (wildcard_keys_of q g those view) g.crates same_wildcard_keys_of)

  pub same_unresolved_keys : unresolved_keys p g these view ≡ unresolved_keys q g those view
  same_unresolved_keys =
      ap (λ (level : LintLevel). if is_active level then flat_map (unresolved_keys_of p g these view) g.crates else [])
      alike.level
      ∙ ap (λ (keys : List Key). if is_active q.wildcards then keys else [])
      (flat_map_on (unresolved_keys_of p g these view) (unresolved_keys_of q g those view) g.crates
      same_unresolved_keys_of)

-- ---- by one policy, and facts that are true

module _ (p : Policy) (g : Graph) (these those : Facts) (both : TwoFacts p g these those) where
  count_alike : AgreeOn g.crates these.counts those.counts
  count_alike = λ c known. same_test (these.counts c) (those.counts c) (both.left.counts c known)
      (both.right.counts c known)

  root_alike : AgreeOn g.crates (is_in_skipped_tree p these) (is_in_skipped_tree p those)
  unfolding is_in_skipped_tree
  root_alike = λ c known. list_any_on (λ t. these.in_tree t c) (λ t. those.in_tree t c) p.skip_tree
      (λ t written. same_test (these.in_tree t c) (those.in_tree t c) (both.left.in_tree t written c known)
      (both.right.in_tree t written c known))

  asked_alike : AgreeOn g.crates (is_asked p these) (is_asked p those)
  unfolding is_asked
  asked_alike = λ c known.
      ap (λ b. b && (not (is_marked p c) && (not (is_in_skipped_tree p these c) && not (is_git_source c))))
      (count_alike c known)
      ∙ ap (λ b. those.counts c && (not (is_marked p c) && (not b && not (is_git_source c)))) (root_alike c known)

  by_facts : AskAlike p p g these those
  by_facts = record { level = refl; asked = asked_alike; active = λ c m. refl }

pub wildcard_keys_alike : (p : Policy) (g : Graph) (these those : Facts) (view : View) → TwoFacts p g these those
    → wildcard_keys p g these view ≡ wildcard_keys p g those view
wildcard_keys_alike p g these those view both =
    same_wildcard_keys p p g these those view (by_facts p g these those both)

pub unresolved_keys_alike : (p : Policy) (g : Graph) (these those : Facts) (view : View) → TwoFacts p g these those
    → unresolved_keys p g these view ≡ unresolved_keys p g those view
unresolved_keys_alike p g these those view both =
    same_unresolved_keys p p g these those view (by_facts p g these those both)
