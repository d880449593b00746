use Rattle.std.proofs.Common.{◌≡◌, ℕ, List, Contains, Some, ap, ◌∙◌, subst}
use Rattle.std.specs.Prelude.{◌↔◌, find, option_and_then, slice_get}
use Rattle.deny_std.specs.private.Ignored.{entry_span, matches_at}
use Rattle.deny_std.proofs.IgnoredLemmas.{span-found}
use Rattle.deny_std.proofs.ignored.Ignored.first_span.Goals as goal

pub returns : goal.returns
returns c = λ place.
    let self = c.args.self.now in
    let krate = c.args.krate.now in
    let numbers = c.numbers_of.new.numbers.items in
    c.first_span.ensures
    ∙ (ap (λ (ns : List ℕ). option_and_then (entry_span self.entries.now) (find (matches_at self.entries.now krate) ns))
    c.as_slice.ensures.value
    ∙ span-found self.entries.now krate numbers self.names place self.named c.in_ok-numbers_of.ensures.ascending
    (subst (λ (name : List ℕ). (i : ℕ) → Contains numbers i ↔ (slice_get self.names i ≡ Some name))
    c.as_str.ensures c.in_ok-numbers_of.ensures.exact))
