use Rattle.std.proofs.Common.{◌∙◌, ap, sym}
use Rattle.std.specs.Option.{option_copied}
use Rattle.deny_build_file.proofs.WrittenLemmas.{written_below}
use Rattle.deny_build_file.proofs.home.written_below.Goals as goal

pub returns-in-Some : goal.returns-in-Some
returns-in-Some c =
    written_below c.args.folder.now c.args.path.now c.in-Some.slashed.now c.component_behind.result
    (sym c.is_empty.ensures ∙ c.if-not-is_empty.true) (ap option_copied (sym c.in-Some.is) ∙ c.path_behind.ensures)
    c.component_behind.ensures.behind c.component_behind.ensures.component
