use Rattle.std.proofs.Common.{option_map, ap, sym, ◌∙◌}
use Rattle.json.specs.Value.{value_view}
use Rattle.deny_krates_metadata.specs.private.Borrowed.{data_of}
use Rattle.deny_krates_metadata.proofs.BorrowedLemmas.{get-data_of, view-value_view}
use Rattle.deny_krates_metadata.proofs.borrowed.member_of.Goals as goal

pub returns : goal.returns
returns c = view-value_view c.get.result
    ∙ (ap (option_map data_of) c.get.ensures ∙ sym (get-data_of c.args.name.now (value_view c.args.object.now)))
