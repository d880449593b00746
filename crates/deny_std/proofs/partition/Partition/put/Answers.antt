use Rattle.std.proofs.Common.{◌++◌, Option, sym, subst}
use Rattle.deny_base.specs.declared.span.Span.{Span}
use Rattle.deny_base_lists.specs.First.{FindsFirst}
use Rattle.deny_base_lists.proofs.FirstLemmas.{finds_more}
use Rattle.deny_base_lists.proofs.Results.{on_ok_then}
use Rattle.deny_std.specs.private.FirstWitnesses.{place_in, is_same_span}
use Rattle.deny_std.specs.private.Partition.{ignored_of}
use Rattle.deny_std.proofs.partition.Partition.put.Goals as goal

pub returns-in-Some-clause-witnesses : goal.returns-in-Some-clause-witnesses
returns-in-Some-clause-witnesses c = on_ok_then c.add.result c.add.ensures (λ gains entries finds.
    subst (λ (span : Option Span). FindsFirst is_same_span (entries ++ ignored_of span c.args.place)
    (place_in c.add.new.self)) (sym c.in-Some.is)
    (finds_more is_same_span entries c.in-Some.span c.args.place (place_in c.args.self.now.witnesses)
    (place_in c.add.new.self) finds gains))
