use Rattle.std.proofs.Common.{List, Bool, length, filter, ap, ◌∙◌}
use Rattle.std.specs.List.{range_with_len}
use Rattle.std.specs.Prelude.{◌-◌}
use Rattle.deny_rules_match.specs.Marks.{mark_at}
use Rattle.deny_rules_match.proofs.GroupLemmas.{reduced_length}
use Rattle.deny_rules_match.proofs.groups.reduced_len.Goals as goal

pub returns : goal.returns
returns c =
    let run = c.places_by_name-run in
    record {
      is = λ p facts are.
          reduced_length c.args.krates.now c.args.groups.now.reduced c.args.name.now run.result.start run.result.end
          c.count_marked.result c.are_placed.ensures
          run.ensures.upward run.ensures.within run.ensures.named
          (c.count_marked.ensures ∙ ap (λ (marks : List Bool). length
          (filter (mark_at marks) (range_with_len run.result.start
          (run.result.end - run.result.start)))) c.as_slice.ensures) p facts are.reduced;
    }
