use Rattle.deny_cfg_index.proofs.IndexLemmas.{indexed_none, bucket_empty}
use Rattle.deny_cfg_index.proofs.spec_index.SpecIndex.new.Goals as goal

pub invariant_of-result : goal.invariant_of-result
invariant_of-result c = indexed_none c.new.ensures (λ hash. bucket_empty c.new-2.result hash c.new-2.ensures.empty)
