use Rattle.std.proofs.Common.{◌∙◌, ℕ, Option, Some, ap, sym, subst, take, arith}
use Rattle.std.specs.Prelude.{option_map, string_bytes}
use Rattle.std.proofs.lemmas.List.{length-map, take_all}
use Rattle.deny_cli.specs.private.Commands.{command_view, form_view}
use Rattle.deny_cli.specs.Arguments.{IsUsageAt, filled, nothing, step, texts}
use Rattle.deny_cli.specs.declared.arguments.Command.{Command}
use Rattle.deny_cli.specs.declared.arguments.Form.{Form}
use Rattle.deny_cli.proofs.ArgumentsLemmas.{asks_by, filled_more, texts_more, usage_at_end, usage_here}
use Rattle.deny_cli.proofs.arguments.read_arguments.Goals as goal

pub returns-in-None : goal.returns-in-None
returns-in-None c =
    let arguments = c.args.arguments.now in
    let at = c.loop-at.at in
    let form = form_view c.loop-at.form in
    let argument = c.index-arguments-at.result in
    let inside = c.loop-at-test.true in
    usage_here (texts arguments) at form (string_bytes argument)
    (omega (arith, inside, length-map arguments string_bytes)) c.loop-at.invariant
    (texts_more arguments at argument (omega (arith, inside)) c.index-arguments-at.is)
    (ap (step form) (sym c.as_str.ensures.value)
    ∙ (sym c.step.ensures ∙ ap (λ (next : Option Form). option_map form_view next) c.in-None.is))

pub loop-at-preserved : goal.loop-at-preserved
loop-at-preserved c =
    let arguments = c.args.arguments.now in
    let at = c.loop-at.at in
    let form = form_view c.loop-at.form in
    let argument = c.index-arguments-at.result in
    ap (filled (Some nothing)) (texts_more arguments at argument (omega (arith, c.loop-at-test.true))
    c.index-arguments-at.is)
    ∙ (filled_more (take at (texts arguments)) form (string_bytes argument) c.loop-at.invariant
    ∙ (ap (step form) (sym c.as_str.ensures.value)
    ∙ (sym c.step.ensures ∙ ap (λ (next : Option Form). option_map form_view next) c.in-Some.is)))

pub returns-in-Some-command_of : goal.returns-in-Some-command_of
returns-in-Some-command_of c =
    let arguments = texts c.args.arguments.now in
    let form = form_view c.loop-at.form in
    let all = take_all c.loop-at.at arguments
    (omega (arith, c.loop-at-test.false, length-map c.args.arguments.now string_bytes)) in
    asks_by arguments form (command_view c.in-Some-command_of.command)
    (ap (filled (Some nothing)) (sym all) ∙ c.loop-at.invariant)
    (sym c.command_of.ensures
    ∙ ap (λ (command : Option Command). option_map command_view command) c.in-Some-command_of.is)

pub returns-in-None-command_of : goal.returns-in-None-command_of
returns-in-None-command_of c =
    let arguments = texts c.args.arguments.now in
    let form = form_view c.loop-at.form in
    let all = take_all c.loop-at.at arguments
    (omega (arith, c.loop-at-test.false, length-map c.args.arguments.now string_bytes)) in
    subst (λ (n : ℕ). IsUsageAt arguments n) (length-map c.args.arguments.now string_bytes)
    (usage_at_end arguments form (ap (filled (Some nothing)) (sym all) ∙ c.loop-at.invariant)
    (sym c.command_of.ensures
    ∙ ap (λ (command : Option Command). option_map command_view command) c.in-None-command_of.is))
