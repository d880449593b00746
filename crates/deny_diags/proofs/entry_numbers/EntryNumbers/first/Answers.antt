use Rattle.std.proofs.Common.{Some, ap, arith, length, sym, ◌<◌, ◌∙◌}
use Rattle.std.proofs.lemmas.Option.{slice_get-get_or}
use Rattle.deny_spec.specs.Wrappers.{same_span}
use Rattle.deny_diags.proofs.NumberLemmas.{at_number, has_number, number_within}
use Rattle.deny_diags.proofs.entry_numbers.EntryNumbers.first.Goals as goal

pub offset_bounds-entries-number : goal.offset_bounds-entries-number
offset_bounds-entries-number g c =
    let within : c.in-Some.number < length c.args.entries.now =
    number_within (λ e. same_span (g.T.HasSpan.span e) c.args.span) c.args.entries.now c.in-Some.number
    (c.in-Some.ensures ∙ c.requires.numbered c.args.span) c.requires.there in
    omega arith

pub bounds-entries-number : goal.bounds-entries-number
bounds-entries-number g c =
    number_within (λ e. same_span (g.T.HasSpan.span e) c.args.span) c.args.entries.now c.in-Some.number
    (c.in-Some.ensures ∙ c.requires.numbered c.args.span) c.requires.there

pub unreachable-requires : goal.unreachable-requires
unreachable-requires g c =
    has_number (λ e. same_span (g.T.HasSpan.span e) c.args.span) c.args.entries.now
    (c.in-None.ensures ∙ c.requires.numbered c.args.span) c.requires.there

pub returns : goal.returns
returns g c =
    let test = λ (e : g.row.T.Denot). same_span (g.T.HasSpan.span e) c.args.span in
    let entries = c.args.entries.now in
    let number = c.in-Some.number in
    let is = c.in-Some.ensures ∙ c.requires.numbered c.args.span in
    sym (at_number test entries number is)
    ∙ (slice_get-get_or entries number c.index-entries-number.result
    (number_within test entries number is c.requires.there)
    ∙ ap Some (sym c.index-entries-number.is))
