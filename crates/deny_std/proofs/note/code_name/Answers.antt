use Rattle.std.proofs.Common.{◌∙◌}
use Rattle.deny_std.proofs.NoteLemmas.{code-letters}
use Rattle.deny_std.proofs.note.code_name.Goals as goal

pub returns : goal.returns
returns c = c.from_string.ensures ∙ (c.in_ok-code_letters.ensures ∙ code-letters c.args.name.now c.utf8.name)
