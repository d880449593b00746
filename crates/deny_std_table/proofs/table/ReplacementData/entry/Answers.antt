use Rattle.std.proofs.Common.{rules, ap}
use Rattle.deny_std_table.specs.Width.{width_of}
use Rattle.deny_std_table.proofs.EntryLemmas.{has_names, none_answer, some_answer, open_answer}
use Rattle.deny_std_table.proofs.table.ReplacementData.entry.Goals as goal

pub find-requires : goal.find-requires
find-requires c = has_names (width_of c.self.inside.width) c.self.inside.bytes.now c.self.inside.count c.self.invariant

pub returns-in_err-i : goal.returns-in_err-i
returns-in_err-i c =
    rw (none_answer (width_of c.self.inside.width) c.args.self.now c.self.inside.bytes.now c.self.inside.count
    c.args.name.now _ c.self.view_is c.self.invariant
    c.as_bytes.ensures.value c.in_err-i.ensures) (search rules)

pub open-requires : goal.open-requires
open-requires c =
    open_answer (width_of c.self.inside.width) _ c.self.inside.bytes.now _ c.self.inside.count c.in_ok-i.i _ _
    c.self.invariant c.in_ok-i.ensures.0
    (ap width_of c.region_of-region.ensures.width) c.region_of-region.ensures.bytes c.region_of-region.ensures.stop
    c.start_of.ensures

pub returns : goal.returns
returns c =
    some_answer (width_of c.self.inside.width) _ c.args.self.now c.self.inside.bytes.now _ c.self.inside.count
    c.in_ok-i.i _ _ c.args.name.now _ c.open.result
    c.self.view_is c.self.invariant c.as_bytes.ensures.value c.in_ok-i.ensures.0 c.in_ok-i.ensures.1
    (ap width_of c.region_of-region.ensures.width) c.region_of-region.ensures.bytes c.region_of-region.ensures.stop
    c.start_of.ensures
    c.open.ensures.bytes c.open.ensures.items
