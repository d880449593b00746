use Rattle.std.proofs.Common.{◌∙◌, Some}
use Rattle.deny_std_table.specs.Texts.{item_given, texts_left}
use Rattle.deny_std_table.proofs.TextLemmas.{next-given}
use Rattle.deny_spec_report.specs.StdReplacements.{replacement_note}
use Rattle.deny_std.specs.private.Said.{said_of}
use Rattle.deny_std.proofs.NoteLemmas.{note-goes-on, note-starts}
use Rattle.deny_std.proofs.note.replacement_note.Goals as goal

pub loop-item-init : goal.loop-item-init
loop-item-init c =
    note-starts c.args.name.now c.as_str-code.result.now c.in_ok-note.note c.args.replacement.now c.iter-items.result
    (c.as_str-code.ensures ∙ c.in_ok-code_name.ensures) c.in_ok-note.ensures c.iter-items.ensures.bytes
    c.iter-items.ensures.items

pub loop-item-preserved : goal.loop-item-preserved
loop-item-preserved c =
    let item = item_given c.in-Some.item in
    note-goes-on c.args.name.now c.as_str-code.result.now c.loop-item.last c.heading_of-heading.result item
    (texts_left c.loop-item.items)
    (texts_left c.next.new.self) c.loop-item.note c.add_new_heading.new.note c.add_item.new.note
    (replacement_note c.args.name.now (said_of c.args.replacement.now))
    c.heading_of-heading.ensures
    (next-given c.loop-item.items c.next.new.self (Some c.in-Some.item) c.in-Some.ensures.bytes c.in-Some.ensures.items)
    c.in_ok-add_new_heading.ensures c.in_ok-add_item.ensures c.loop-item.invariant
