-- The keys of manifests hold still where entries of other parts are taken out, as long as the same crates are checked
-- for wildcards.
use Rattle.std.proofs.Common.{◌≡◌, List, Option, false, refl}
use Rattle.std.specs.Prelude.{Contains}
use Rattle.deny_base.specs.declared.entry.EntryId.{EntryId}
use Rattle.deny_base.specs.declared.key.Key.{Key}
use Rattle.deny_spec.specs.Building.{Building}
use Rattle.deny_spec.specs.Facts as chains
use Rattle.deny_spec.specs.Graph.{Crate}
use Rattle.deny_spec.specs.Groups.{is_in_skipped_tree, is_marked}
use Rattle.deny_spec.specs.Licensing.{Licensing}
use Rattle.deny_spec.specs.Policy.{Ban, Entry, Policy, Replacing, Root}
use Rattle.deny_spec_report.specs.Circumstances.{Circumstances}
use Rattle.deny_spec_report.specs.Facts.{Facts}
use Rattle.deny_spec_report.specs.Wildcards.{is_active_in, is_allowed_path, is_asked, unresolved_keys, wildcard_keys}
use Rattle.deny_spec_report.specs.Wildcards.{wildcards_in}
use Rattle.deny_spec_report.proofs.WildcardLemmas.{AskAlike, same_unresolved_keys, same_wildcard_keys}
use Rattle.deny_spec_removal.proofs.KeyParts.{same_listed}
use Rattle.deny_spec_removal.proofs.PolicyParts.{ManifestsHold, with_lists, with_parts}

-- which crates are checked for wildcards does not depend on bans and ignores
pub asked_same : (p : Policy) (f : chains.Facts) (deny : List Ban) (replacing : Option Replacing) (k : Crate)
    → is_asked (with_lists p deny p.skip p.skip_tree replacing) f k ≡ is_asked p f k
unfolding is_asked is_marked is_in_skipped_tree
asked_same p f deny replacing k = refl

module _ (c : Circumstances) (facts : Facts) (deny : List Ban) (skip : List Entry) (skip_tree : List Root)
    (replacing : Option Replacing) where
  abbrev other : Policy
  other = with_lists c.policy deny skip skip_tree replacing

  abbrev AskTheSame : Type 0
  AskTheSame = (k : Crate) → Contains c.graph.crates k
      → is_asked other facts.chains k ≡ is_asked c.policy facts.chains k

  alike : AskTheSame → AskAlike other c.policy c.graph facts.chains facts.chains
  unfolding wildcards_in is_active_in is_allowed_path
  alike asked = record { level = refl; asked = asked; active = λ k m. refl }

  wildcards_same : AskTheSame → wildcard_keys other c.graph facts.chains c.view
      ≡ wildcard_keys c.policy c.graph facts.chains c.view
  wildcards_same asked =
      same_wildcard_keys other c.policy c.graph facts.chains facts.chains c.view (alike asked)

  unresolved_same : AskTheSame → unresolved_keys other c.graph facts.chains c.view
      ≡ unresolved_keys c.policy c.graph facts.chains c.view
  unresolved_same asked =
      same_unresolved_keys other c.policy c.graph facts.chains facts.chains c.view (alike asked)

  pub manifests_hold : AskTheSame → (taken : List EntryId) (key : Key) (licensing : Option Licensing)
      (building : Option Building)
      → ManifestsHold c (with_parts c deny skip skip_tree replacing licensing building) facts taken key
  manifests_hold asked taken key licensing building = record {
    wildcard = λ of. same_listed (wildcard_keys c.policy c.graph facts.chains c.view)
        (wildcard_keys other c.graph facts.chains c.view) key false refl (wildcards_same asked);
    workspace_duplicate = λ of. (λ unnamed is. is, λ is. (is, refl));
    unresolved = λ of. same_listed (unresolved_keys c.policy c.graph facts.chains c.view)
        (unresolved_keys other c.graph facts.chains c.view) key false refl (unresolved_same asked);
    unused = λ of. (λ unnamed is. is, λ is. (is, refl));
  }
