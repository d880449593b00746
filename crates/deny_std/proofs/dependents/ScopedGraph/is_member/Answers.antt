use Rattle.std.proofs.Common.{ℕ, Bool, List, false, slice_index_or, ap, sym, ◌∙◌}
use Rattle.std.proofs.lemmas.Option.{slice_get_within}
use Rattle.deny_spec_report.specs.Members.{is_member}
use Rattle.deny_std.specs.private.Members.{is_among}
use Rattle.deny_std.proofs.dependents.ScopedGraph.is_member.Goals as goal

pub returns : goal.returns
unfolding is_member
returns c = λ krate at.
    let self = c.args.self.now in
    let g = self.krates.now in
    c.mark_at.ensures
    ∙ (ap (λ (marks : List Bool). slice_index_or marks c.args.place false) c.as_slice.ensures
    ∙ (self.marked.each c.args.place (slice_get_within g.crates c.args.place krate at)
    ∙ ap (λ (place : ℕ). is_among g.members place) (sym (c.are_placed.ensures.place c.args.place krate at))))
