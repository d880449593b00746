use Rattle.deny_base_lists.proofs.Results.{on_ok_then}
use Rattle.deny_std_table.specs.Texts.{replacement_given}
use Rattle.deny_std.proofs.NoteLemmas.{replaced-written}
use Rattle.deny_std.proofs.note.add_replacement.Goals as goal

pub returns : goal.returns
returns c = on_ok_then c.add_remark.result c.add_remark.ensures (λ added.
    replaced-written c.args.code.now (replacement_given c.args.replacement.now) c.args.note.now c.push_str.new.self
    c.add_link.new.note c.add_link-2.new.note c.push_str-2.new.self c.add_remark.new.note c.in_ok-push_str.ensures.ok
    c.in_ok-add_link.ensures c.in_ok-add_link-2.ensures c.in_ok-push_str-2.ensures.ok added)
