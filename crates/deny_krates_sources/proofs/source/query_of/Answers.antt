use Rattle.deny_krates_sources.proofs.SourceLemmas.{kept_small}
use Rattle.deny_krates_sources.proofs.source.query_of.Goals as goal

pub returns-in-Some-clause-small : goal.returns-in-Some-clause-small
returns-in-Some-clause-small c =
    kept_small _ _ c.in-Some.query.now c.in-Some.ensures.value c.in-Some.ensures.valid.query
