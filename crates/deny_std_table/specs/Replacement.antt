-- The items of an entry, and those that are left, with the bytes that have their texts.
use Rattle.std.specs.Prelude.{ℕ, List, [], Result, Ok, Err}
use Rattle.deny_std_table.specs.declared.error.ReplacementError.{ReplacementError}
use Rattle.deny_std_table.specs.declared.spans.ItemSpans.{ItemSpans}
use Rattle.deny_std_table.specs.declared.spans.Read.{Read}
use Rattle.deny_std_table.specs.Region.{Items}

pub record EntryItems : Type 0 where
  pub bytes : List ℕ
  pub items : Items

pub record ItemsLeft : Type 0 where
  pub bytes : List ℕ
  pub items : List ItemSpans

-- the items of a reading that succeeds
abbrev pub items_read : Result (Read Items) ReplacementError → Items
items_read (Ok all) = all.value
items_read (Err e) = record { groups = []; unstable = []; unavailable = [] }
