-- The items that an entry of the table says.
use Rattle.deny_std_table.specs.Replacement.{EntryItems}
use Rattle.deny_std_table.specs.Spelling.{items_text}
use Rattle.deny_spec_report.specs.Saying.{Items, items_said}

abbrev pub said_of : EntryItems → Items
said_of e = items_said (items_text e.bytes e.items)
