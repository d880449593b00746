use Rattle.std.proofs.Common.{◌∙◌, [], ◌++◌, ◌∷◌, ap, sym}
use Rattle.std.specs.Path.{parent_dir}
use Rattle.deny_spans_workspace.proofs.PathLemmas.{name_goes, root_stays, up_stays}
use Rattle.deny_spans_workspace.proofs.paths.above.Goals as goal

pub returns-then-is_root : goal.returns-then-is_root
returns-then-is_root c = c.in_ok-push-2.ensures.ok
    ∙ root_stays c.args.parts.now c.pop.new.self.items c.in-Some.last (sym c.parts.view_is ∙ c.in-Some.ensures.items)
    (sym c.is_root.ensures ∙ c.if-is_root.true)

pub returns-then-leads_up : goal.returns-then-leads_up
returns-then-leads_up c =
    c.in_ok-push-4.ensures.ok
    ∙ ap (λ part. c.push-then-leads_up.new.self ++ part ∷ []) c.in_ok-from_str-2.ensures
    ∙ ap (λ parts. parts ++ parent_dir ∷ []) c.in_ok-push-3.ensures.ok
    ∙ up_stays c.args.parts.now c.pop.new.self.items c.in-Some.last (sym c.parts.view_is ∙ c.in-Some.ensures.items)
    (sym c.is_root.ensures ∙ c.if-is_root.false) (sym c.leads_up.ensures ∙ c.if-leads_up.true)

pub returns : goal.returns
returns c =
    name_goes c.args.parts.now c.pop.new.self.items c.in-Some.last (sym c.parts.view_is ∙ c.in-Some.ensures.items)
    (sym c.is_root.ensures ∙ c.if-is_root.false) (sym c.leads_up.ensures ∙ c.if-leads_up.false)
