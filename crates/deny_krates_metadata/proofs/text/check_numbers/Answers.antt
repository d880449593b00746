use Rattle.std.proofs.Common.{◌∙◌, sym}
use Rattle.json.specs.Value.{value_view}
use Rattle.deny_krates_metadata.proofs.WholeLemmas.{value_is, value_whole}
use Rattle.deny_krates_metadata.proofs.text.check_numbers.Goals as goal

pub returns-then-is_whole : goal.returns-then-is_whole
returns-then-is_whole c = value_whole c.args.bytes.now (value_view c.args.value.now) c.requires.text c.requires.parsed
    (sym c.is_whole.ensures ∙ c.if-is_whole.true)

pub returns-in-Ok : goal.returns-in-Ok
returns-in-Ok c = value_is c.args.bytes.now (value_view c.args.value.now) _ c.requires.parsed c.in-Ok.ensures
