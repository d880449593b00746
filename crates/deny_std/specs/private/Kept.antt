-- What is kept of replaced crates, and of ignores that were not hit.
use Rattle.std.specs.Prelude.{◌≡◌, ℕ, All, List, Contains, Some, filter, map, option_map}
use Rattle.std.specs.List.Sorted.{IsStrictlySortedBy}
use Rattle.std.specs.Ordering.{nat_cmp}
use Rattle.deny_base_lists.specs.Ascending.{Lists}
use Rattle.deny_base.specs.KeyOrder.{span_cmp}
use Rattle.deny_base.specs.declared.entry.Hit.{Hit}
use Rattle.deny_base.specs.declared.level.LintLevel.{LintLevel}
use Rattle.deny_spec.specs.Graph.{Graph}
use Rattle.deny_spec.specs.Policy.{Replacing}
use Rattle.deny_spec_report.specs.Saying.{Saying}
use Rattle.deny_spec_report.specs.StdReplacements.{ignore_at, ignore_hits, ignore_span, is_reported_replaced}
use Rattle.deny_spec_report.specs.StdReplacements.{is_unmatched_ignore}
use Rattle.deny_std.specs.declared.diags.Unmatched.{Unmatched}
use Rattle.deny_std.specs.private.Diags.{unmatched_of}

-- the unmatched ignores by their spans, each span once with its first entry
pub record AreUnmatched (r : Replacing) (g : Graph) (said : Saying) (us : List Unmatched) : Type 0 where
  pub listed : Lists span_cmp (Contains (map ignore_span (filter (is_unmatched_ignore r g said) r.ignore)))
      (map (λ u. u.span) us)
  pub first : All (λ u. option_map unmatched_of (ignore_at r u.span) ≡ Some u) us

-- the places of the replaced crates that no ignore matches
pub record AreReportedPlaces (r : Replacing) (g : Graph) (said : Saying) (places : List ℕ) : Type 0 where
  pub ascending : IsStrictlySortedBy nat_cmp places
  pub are : places ≡ map (λ c. c.place) (filter (is_reported_replaced r g said) g.crates)

pub record AreKept (r : Replacing) (g : Graph) (said : Saying) (level : LintLevel) (us : List Unmatched)
    (places : List ℕ) (hits : List Hit) : Type 0 where
  pub level_is : level ≡ r.level
  pub unmatched : AreUnmatched r g said us
  pub reported : AreReportedPlaces r g said places
  pub hits_are : hits ≡ ignore_hits r g said
