-- The texts of items, in a table and as they are returned.
use Rattle.std.specs.Prelude.{◌++◌, ℕ, List, flat_map, map, option_copied}
use Rattle.deny_std_table.specs.declared.item.Api.{Api}
use Rattle.deny_std_table.specs.declared.item.ApiReplacement.{ApiReplacement}
use Rattle.deny_std_table.specs.declared.item.ReplacementItem.{ReplacementItem}
use Rattle.deny_std_table.specs.declared.item.ReplacementItem.TheVariants as item
use Rattle.deny_std_table.specs.declared.spans.ItemSpans.{ItemSpans}
use Rattle.deny_std_table.specs.declared.spans.ItemSpans.TheVariants as spans
use Rattle.deny_std_table.specs.Replacement.{ItemsLeft}
use Rattle.deny_std_table.specs.Spelling.{ApiText, GroupText, ItemsText, ReplacementText, api_text, replacement_text}

pub data ItemText : Type 0 where
  Stable : ReplacementText → ℕ → ItemText
  Unstable : ReplacementText → ItemText
  Unavailable : ApiText → ItemText

-- the texts of an item in the bytes of a table
abbrev pub item_text : List ℕ → ItemSpans → ItemText
item_text bytes (spans.Stable r minor) = Stable (replacement_text bytes r) minor
item_text bytes (spans.Unstable r) = Unstable (replacement_text bytes r)
item_text bytes (spans.Unavailable api) = Unavailable (api_text bytes api)

-- the texts of an API, a replacement and an item that are returned
abbrev pub api_given : Api → ApiText
api_given api = record { name = api.name.now; url = api.url.now }

abbrev pub replacement_given : ApiReplacement → ReplacementText
replacement_given r = record { krate = api_given r.krate; std = api_given r.std; note = option_copied r.note }

abbrev pub item_given : ReplacementItem → ItemText
item_given (item.Stable r minor) = Stable (replacement_given r) minor
item_given (item.Unstable r) = Unstable (replacement_given r)
item_given (item.Unavailable api) = Unavailable (api_given api)

-- the texts of the items that are left
abbrev pub texts_left : ItemsLeft → List ItemText
texts_left left = map (item_text left.bytes) left.items

abbrev pub group_texts : GroupText → List ItemText
group_texts group = map (λ r. Stable r group.minor) group.replacements

abbrev pub item_texts : ItemsText → List ItemText
item_texts items = flat_map group_texts items.groups
    ++ (map Unstable items.unstable ++ map Unavailable items.unavailable)
