use Rattle.std.proofs.Common.{◌∙◌, codes}
use Rattle.deny_build_file.proofs.HomeLemmas.{join_texts}
use Rattle.deny_build_file.proofs.home.text_of.Goals as goal

pub returns : goal.returns
returns c = c.from_string.ensures ∙ (c.in_ok-text.ensures.ok ∙ join_texts (codes "/") c.args.parts.now)
