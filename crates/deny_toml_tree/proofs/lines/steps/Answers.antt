use Rattle.std.proofs.Common.{[], ◌∷◌, ◌++◌, append-nil, sym, ap, ◌∙◌}
use Rattle.std.proofs.lemmas.List.Concat.{flat_map-append, flat_map-cons}
use Rattle.std.specs.List.{flat_map}
use Rattle.deny_toml_tree.specs.declared.lines.Line.{Line}
use Rattle.deny_toml_tree.specs.Tree.{line_steps, steps}
use Rattle.deny_toml_tree.proofs.lines.steps.Goals as goal

pub lines-preserved : goal.lines-preserved
unfolding steps
lines-preserved c =
    let steps_of = λ (line : Line). line_steps line.path_end line.path in
    let line = c.in-Some.line in
    let seen = c.lines.yielded in
    let last = flat_map-cons steps_of line [] ∙ append-nil (steps_of line) in
    c.in_ok-add_steps.ensures
    ∙ ap (λ found. found ++ steps_of line) c.lines.invariant
    ∙ sym (flat_map-append steps_of seen (line ∷ []) ∙ ap (λ more. flat_map steps_of seen ++ more) last)
