-- The hits of a report: one for each entry that is hit.
use Rattle.std.specs.Prelude.{List, Contains}
use Rattle.std.specs.Ordering.{on}
use Rattle.std.specs.declared.cmp.Ordering.{Ordering}
use Rattle.deny_base_lists.specs.Ascending.{Lists}
use Rattle.deny_base.specs.Entry.{entry_cmp}
use Rattle.deny_base.specs.declared.entry.EntryId.{EntryId}
use Rattle.deny_base.specs.declared.entry.Hit.{Hit}

abbrev pub entry_of : Hit → EntryId
entry_of h = h.entry

-- hits are ordered by the span of their entries, and then by their kind
abbrev pub hit_cmp : Hit → Hit → Ordering
hit_cmp = on entry_of entry_cmp

-- the hits of a report are exactly these, in the order of their entries, of which no two are equal
abbrev pub AreHits : List Hit → List Hit → Type 0
AreHits all hits = Lists hit_cmp (Contains all) hits
