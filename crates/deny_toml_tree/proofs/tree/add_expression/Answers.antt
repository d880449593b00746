use Rattle.std.proofs.Common.{◌∷◌, ap, ◌∙◌}
use Rattle.std.proofs.lemmas.Result.{on_ok_weaker}
use Rattle.deny_toml_tree.specs.private.Gathered.{lines_with}
use Rattle.deny_toml_tree.proofs.TreeLaws.{lines_member, lines_header}
use Rattle.deny_toml_tree.proofs.tree.add_expression.Goals as goal

pub returns-in-Assignment : goal.returns-in-Assignment
returns-in-Assignment c =
    let found = c.args.found.now in
    let header = c.args.header.now in
    let members = c.args.members.now in
    on_ok_weaker c.add_member.result
    (λ more rest. ap (λ e. lines_with c.args.span found header members (e ∷ rest)) c.in-Assignment.is
    ∙ lines_member c.args.span found header members c.in-Assignment.assignment c.add_member.new.members more rest)
    c.add_member.ensures

pub returns-in-Header : goal.returns-in-Header
returns-in-Header c =
    let found = c.args.found.now in
    let header = c.args.header.now in
    let members = c.args.members.now in
    on_ok_weaker c.add_header.result
    (λ more rest. ap (λ e. lines_with c.args.span found header members (e ∷ rest)) c.in-Header.is
    ∙ lines_header c.args.span found header members c.in-Header.begun c.add_header.new.found c.add_header.new.header
    c.add_header.new.members more c.add_header.ensures.header c.add_header.ensures.members rest)
    c.add_header.ensures.found
