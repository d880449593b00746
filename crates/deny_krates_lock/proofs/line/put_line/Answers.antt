use Rattle.std.proofs.Common.{◌++◌, ◌∙◌, ap}
use Rattle.deny_krates.specs.Crates.{crate_view}
use Rattle.deny_krates_lock.proofs.LineLemmas.{span-is}
use Rattle.deny_krates_lock.proofs.line.put_line.Goals as goal

pub returns-clause-span : goal.returns-clause-span
returns-clause-span c =
    span-is (crate_view 0 c.args.krate.now) c.args.text.now c.put_start.new.text c.push_str.new.self
    c.len_of-start.result c.len_of-source.result c.len_of-end.result c.in_ok-put_start.ensures
    (c.in_ok-push_str.ensures.ok ∙ ap (λ part. c.put_start.new.text ++ part) c.source_or_folder.ensures)
    c.len_of-start.ensures c.len_of-source.ensures c.len_of-end.ensures
