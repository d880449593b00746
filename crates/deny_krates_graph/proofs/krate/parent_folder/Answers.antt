use Rattle.std.proofs.Common.{◌≡◌, ◌-◌, ◌∙◌, Some, None, lit<, ap, arith}
use Rattle.std.proofs.Common.{take}
use Rattle.std.proofs.lemmas.Str.Pattern.{rfind_char}
use Rattle.deny_spec.specs.Crates.{or_root}
use Rattle.deny_krates_graph.proofs.FolderLemmas.{folder_found, folder_none}
use Rattle.deny_krates_graph.proofs.krate.parent_folder.Goals as goal

pub returns-in-Some : goal.returns-in-Some
returns-in-Some c =
    let path = c.args.path.now in
    let end = c.in-Some.end in
    let at = rfind_char 47 path (Some end) c.in-Some.ensures.cases (lit< tt) in
    let whole : end - 0 ≡ end = omega arith in
    c.or_root.ensures ∙ (ap or_root (c.range.ensures.value ∙ ap (λ n. take n path) whole) ∙ folder_found path end at.0
    at.1 at.2)

pub returns-in-None : goal.returns-in-None
returns-in-None c = folder_none c.args.path.now (rfind_char 47 c.args.path.now None c.in-None.ensures.cases (lit< tt))
