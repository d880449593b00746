-- The crates that the entries of a policy match, by their places.
use Rattle.std.specs.Prelude.{◌≡◌, ℕ, Bool, All, List, filter, map, option_map}
use Rattle.std.specs.FinMap as finite
use Rattle.deny_cfg.specs.PolicyView.{ban_view}
use Rattle.deny_spec.specs.Bans.{concerns}
use Rattle.deny_spec.specs.Facts.{Facts}
use Rattle.deny_spec.specs.Graph.{Crate, Graph}
use Rattle.deny_spec.specs.Match.{matches}
use Rattle.deny_spec.specs.Policy.{Ban, Entry, Policy, Root, Spec}
use Rattle.deny_spec.specs.Skips.{is_skipped}
use Rattle.deny_rules_match.specs.Wrappers.{first_of}
use Rattle.deny_rules_match.specs.declared.entry_match.EntryMatch.{EntryMatch}
use Rattle.deny_rules_match.specs.declared.matches.BanMatch.{BanMatch}

-- the places of the crates that pass a test, ascending
abbrev pub places_of : Graph → (Crate → Bool) → List ℕ
places_of g test = map (λ c. c.place) (filter test g.crates)

abbrev pub match_by : Graph → Spec → (Crate → Bool) → EntryMatch
match_by g spec test = record { name = spec.name; span = spec.span; places = places_of g test }

-- a spec with all crates that it matches
abbrev pub spec_match : Graph → Spec → EntryMatch
spec_match g spec = match_by g spec (matches spec)

-- a skip with the crates that it matches and that count
abbrev pub skip_match : Graph → Facts → Entry → EntryMatch
skip_match g facts s = match_by g s.spec (is_skipped facts s)

-- an entry of `skip-tree` with all crates that it matches
abbrev pub root_match : Graph → Root → EntryMatch
root_match g t = spec_match g t.spec

-- the places of the crates that a ban concerns
unfoldable pub places_concerned : Policy → Graph → Ban → List ℕ
places_concerned p g ban = places_of g (concerns p g ban)

abbrev pub ban_of : BanMatch → Ban
ban_of m = ban_view m.ban.now

-- a ban with the places of the crates that it concerns, and with the span of the first wrapper of each name
pub record IsBanMatch (p : Policy) (g : Graph) (m : BanMatch) : Type 0 where
  pub places : m.places ≡ places_concerned p g (ban_of m)
  pub first : (name : List ℕ) → finite.get m.spans name ≡ option_map (λ w. w.span) (first_of (ban_of m).wrappers name)

-- matches of these entries, in their order, each of which fulfils the property
pub record Represent {M E : Type 0} (entry_of : M → E) (Is : M → Type 0) (entries : List E) (ms : List M) : Type 0 where
  pub of : map entry_of ms ≡ entries
  pub each : All Is ms

-- matches of the bans of a list, in their order
abbrev pub AreBanMatches : Policy → Graph → List Ban → List BanMatch → Type 0
AreBanMatches p g = Represent ban_of (IsBanMatch p g)
