use Rattle.std.proofs.Common.{rules, ◌≡◌, ◌++◌, ◌∷◌, [], subst, sym}
use Rattle.deny_cfg_index.specs.Index.{IsBucket, bucket_at}
use Rattle.deny_cfg_index.specs.private.Index.{Extends}
use Rattle.deny_cfg_index.proofs.IndexLemmas.{indexed_more}
use Rattle.deny_cfg_index.proofs.spec_index.SpecIndex.add.Goals as goal

pub invariant_of-self-2 : goal.invariant_of-self-2
invariant_of-self-2 c hash =
    let names = c.self.inside.names in
    let name = c.args.name.now in
    let whole : c.push.new.self.items ≡ names ++ name ∷ [] = search rules in
    let more : Extends (bucket_at c.self.inside.buckets) name c.len-number.result (bucket_at c.index_name.new.buckets) =
    search rules in
    subst (λ ns. IsBucket ns hash (bucket_at c.index_name.new.buckets hash)) (sym whole)
    (indexed_more c.len-number.ensures c.self.invariant more hash)
