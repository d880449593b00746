use Rattle.std.proofs.Common.{refl}
use Rattle.deny_spans.proofs.krate_spans.put_together.Goals as goal

pub returns : goal.returns
returns c = record {
  graph = refl;
  lock_id = refl;
  lock_spans = refl;
  manifests = refl;
  id = refl;
  unread = c.in_ok-put_in_order.ensures.unread;
  malformed = c.in_ok-put_in_order.ensures.malformed;
  shared = c.in_ok-spans.field-0;
  spans = c.from_vec.ensures;
  unused = refl;
  are = c.in_ok-spans.ensures;
}
