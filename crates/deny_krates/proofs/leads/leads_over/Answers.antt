use Rattle.std.proofs.Common.{◌∙◌, false, true, arith, refl, sym}
use Rattle.deny_krates_graph.specs.Crates.{dependency_view}
use Rattle.deny_krates.specs.Nodes.{is_called}
use Rattle.deny_krates.proofs.LeadLemmas.{led_over, not_led_over}
use Rattle.deny_krates.proofs.leads.leads_over.Goals as goal

pub returns-then-eq : goal.returns-then-eq
returns-then-eq c =
    let at = c.in-Some.ensures.byte (omega arith) (λ text found is. is) in
    led_over (dependency_view c.args.declaration.now) c.args.feature.now c.args.entry.now c.in-Some.name.now
    c.in-Some.rest.now true c.is_called.result at.0 at.1 at.2 (sym c.if-eq.true ∙ c.eq.ensures) c.is_called.ensures

pub returns-else-eq : goal.returns-else-eq
returns-else-eq c =
    let at = c.in-Some.ensures.byte (omega arith) (λ text found is. is) in
    c.if-eq.false
    ∙ led_over (dependency_view c.args.declaration.now) c.args.feature.now c.args.entry.now c.in-Some.name.now
    c.in-Some.rest.now false (is_called (dependency_view c.args.declaration.now) c.in-Some.name.now) at.0 at.1 at.2
    (sym c.if-eq.false ∙ c.eq.ensures) refl

pub returns-in-None : goal.returns-in-None
returns-in-None c =
    not_led_over (dependency_view c.args.declaration.now) c.args.feature.now c.args.entry.now
    (c.in-None.ensures.byte (omega arith) (λ text found is. is))
