use Rattle.std.proofs.Common.{[], ◌∷◌, ◌++◌, unwrap_or, ap, ◌∙◌}
use Rattle.std.specs.BTreeMap.{is_at}
use Rattle.std.specs.Map.{lookup}
use Rattle.std.specs.Cmp.Lexicographic.{slice_cmp}
use Rattle.std.specs.Ordering.{nat_cmp}
use Rattle.deny_toml_tree.proofs.TreeLaws.{grouped_more}
use Rattle.deny_toml_tree.proofs.lines.add_to_group.Goals as goal

pub returns : goal.returns
returns c = λ seen was.
    let found = c.args.found.now.entries in
    let path_end =
    c.in_ok-push.ensures.ok
    ∙ ap (λ ls. ls ++ c.args.line ∷ [])
    (c.unwrap_or-lines.ensures ∙ ap (λ o. unwrap_or o c.new.result) c.remove.ensures.value
    ∙ ap (λ ls. unwrap_or (lookup (is_at (slice_cmp nat_cmp c.args.name)) found) ls) c.new.ensures) in
    grouped_more seen c.args.name c.args.line found c.remove.new.self.entries c.insert.new.self.entries c.push.new.self
    was c.remove.ensures.entries c.remove.ensures.updates.0 c.in_ok-insert.ensures.entries
    c.in_ok-insert.ensures.updates.0 path_end
