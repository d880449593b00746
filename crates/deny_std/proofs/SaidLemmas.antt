-- The items that an entry of the table gives are those that the table says.
use Rattle.std.proofs.Common.{◌≡◌, ap, ◌∙◌, map}
use Rattle.deny_std_table.specs.Item.{items_of}
use Rattle.deny_std_table.specs.Replacement.{EntryItems, ItemsLeft}
use Rattle.deny_std_table.specs.Spelling.{items_text}
use Rattle.deny_std_table.specs.Texts.{item_text, item_texts, texts_left}
use Rattle.deny_std_table.proofs.TextLemmas.{all-said}

pub entry-said : (e : EntryItems) (left : ItemsLeft) → left.bytes ≡ e.bytes → left.items ≡ items_of e.items
    → texts_left left ≡ item_texts (items_text e.bytes e.items)
entry-said e left bytes items =
    ap (λ bs. map (item_text bs) left.items) bytes ∙ (ap (map (item_text e.bytes)) items ∙ all-said e.bytes e.items)
