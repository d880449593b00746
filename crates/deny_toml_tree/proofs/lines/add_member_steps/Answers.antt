use Rattle.std.proofs.Common.{[], ◌∷◌, ◌++◌, append_assoc, append-nil, sym, ap, ◌∙◌}
use Rattle.std.proofs.lemmas.List.Concat.{flat_map-append, flat_map-cons}
use Rattle.std.specs.List.{flat_map}
use Rattle.deny_toml_tree.specs.declared.lines.TableMember.{TableMember}
use Rattle.deny_toml_tree.specs.Tree.{member_steps}
use Rattle.deny_toml_tree.proofs.lines.add_member_steps.Goals as goal

pub members-preserved : goal.members-preserved
members-preserved c =
    let steps_of = λ (m : TableMember). member_steps m.value m.path in
    let member = c.in-Some.member in
    let seen = c.members.yielded in
    let last = flat_map-cons steps_of member [] ∙ append-nil (steps_of member) in
    c.in_ok-add_member_step.ensures
    ∙ ap (λ found. found ++ steps_of member) c.members.invariant
    ∙ append_assoc c.args.found.now _ (steps_of member)
    ∙ ap (λ more. c.args.found.now ++ more)
    (sym (flat_map-append steps_of seen (member ∷ []) ∙ ap (λ more. flat_map steps_of seen ++ more) last))
