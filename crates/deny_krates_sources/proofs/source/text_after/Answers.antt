use Rattle.deny_krates_sources.proofs.SourceLemmas.{after_is}
use Rattle.deny_krates_sources.proofs.source.text_after.Goals as goal

pub returns : goal.returns
returns c = after_is c.strip_prefix.result c.args.prefix.now c.args.text.now c.strip_prefix.ensures.cases
