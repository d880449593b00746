use Rattle.std.proofs.Common.{◌∙◌}
use Rattle.deny_krates_sources.proofs.IndexLemmas.{asked_by}
use Rattle.deny_krates_sources.proofs.index.number_by.Goals as goal

pub returns : goal.returns
returns c = asked_by (λ o. o) c.args.index.now c.hashed-key.result.hash c.hashed-key.result.id.now c.args.id.now _
    c.hashed-key.ensures.hash c.hashed-key.ensures.id (c.copied.ensures ∙ c.get.ensures.value)
