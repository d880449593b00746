use Rattle.deny_spans.proofs.OneViewLemmas.{same_seen}
use Rattle.deny_spans.proofs.laws.one_view.Goals as goal

pub returns : goal.returns
returns c = λ files registries old new other_new unread malformed other_malformed view other_view one other.
    same_seen files c.args.krates.now registries c.krates.ensures.orderly.ids old unread new other_new malformed
    other_malformed view other_view one other
