-- The next item of a cursor, and its end.
use Rattle.std.specs.Prelude.{◌≡◌, [], ◌∷◌, Ok}
use Rattle.deny_std_table.specs.declared.spans.ItemSpans.{ItemSpans}
use Rattle.deny_std_table.specs.declared.cursor.Cursor.{Cursor}
use Rattle.deny_std_table.specs.private.Spans.{IsItemIn}
use Rattle.deny_std_table.specs.Cursor.{coming_of, left_of}

-- One item was given: the first of those left, and the others follow it.
pub record GivesItem (old new : Cursor) (spans : ItemSpans) : Type 0 where
  pub same : new.region ≡ old.region
  pub reads : coming_of new ≡ Ok (left_of new)
  pub item : left_of old ≡ spans ∷ left_of new
  pub texts : IsItemIn old.region.bytes.now spans

-- No item is left, now and later.
pub record Ends (old new : Cursor) : Type 0 where
  pub same : new.region ≡ old.region
  pub reads : coming_of new ≡ Ok (left_of new)
  pub before : left_of old ≡ []
  pub after : left_of new ≡ []
