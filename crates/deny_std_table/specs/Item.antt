-- The items of an entry, and the texts of an item that is returned.
use Rattle.std.specs.Prelude.{◌≡◌, ℕ, List, ◌++◌, map, flat_map, option_map, option_copied}
use Rattle.deny_std_table.specs.declared.item.Api.{Api}
use Rattle.deny_std_table.specs.declared.item.ApiReplacement.{ApiReplacement}
use Rattle.deny_std_table.specs.declared.item.ReplacementItem.{ReplacementItem}
use Rattle.deny_std_table.specs.declared.item.ReplacementItem.TheVariants as item
use Rattle.deny_std_table.specs.declared.spans.ApiSpans.{ApiSpans}
use Rattle.deny_std_table.specs.declared.spans.ReplacementSpans.{ReplacementSpans}
use Rattle.deny_std_table.specs.declared.spans.ItemSpans.{ItemSpans}
use Rattle.deny_std_table.specs.declared.spans.ItemSpans.TheVariants.{Stable, Unstable, Unavailable}
use Rattle.deny_std_table.specs.Spans.{contents}
use Rattle.deny_std_table.specs.Region.{Group, Items}

-- the items of a group
abbrev pub group_items : Group → List ItemSpans
group_items group = map (λ replacement. Stable replacement group.minor) group.replacements

-- all stable items, then the unstable ones, then the unavailable ones
abbrev pub items_of : Items → List ItemSpans
items_of items = flat_map group_items items.groups ++ map Unstable items.unstable ++ map Unavailable items.unavailable

-- An API has the texts of its spans.
pub record IsApiAt (bytes : List ℕ) (spans : ApiSpans) (api : Api) : Type 0 where
  pub name : api.name.now ≡ contents bytes spans.name
  pub url : api.url.now ≡ contents bytes spans.url

-- A replacement has the texts of its spans.
pub record IsReplacementAt (bytes : List ℕ) (spans : ReplacementSpans) (replacement : ApiReplacement) : Type 0 where
  pub krate : IsApiAt bytes spans.krate replacement.krate
  pub std : IsApiAt bytes spans.std replacement.std
  pub note : option_copied replacement.note ≡ option_map (contents bytes) spans.note

-- An item is of the kind of its spans, and has their texts.
abbrev pub IsItemAt : List ℕ → ItemSpans → ReplacementItem → Type 0
IsItemAt bytes (Stable spans minor) (item.Stable replacement since) = IsReplacementAt bytes spans replacement
    × (since ≡ minor)
IsItemAt bytes (Unstable spans) (item.Unstable replacement) = IsReplacementAt bytes spans replacement
IsItemAt bytes (Unavailable spans) (item.Unavailable api) = IsApiAt bytes spans api
IsItemAt bytes spans other = ⊥
