use Rattle.std.proofs.Common.{◌∙◌, ℕ, List, ap, is_some, sym}
use Rattle.std.specs.FinMap as finite
use Rattle.std.proofs.lemmas.Result.{on_ok_weaker}
use Rattle.deny_base_lists.specs.TextMap.{TextFinMap}
use Rattle.deny_build.proofs.SetLemmas.{kept_at, put_at}
use Rattle.deny_build.proofs.matched.note_glob.Goals as goal
use Rattle.deny_spec.proofs.Texts.{get-insert}

pub returns-then-contains_key : goal.returns-then-contains_key
returns-then-contains_key c = λ text. kept_at c.args.firsts.now c.args.glob.now text c.args.number
    (ap (λ t. is_some (finite.get c.args.firsts.now t)) (sym c.as_str.ensures)
    ∙ (sym c.contains_key.ensures ∙ c.if-contains_key.true))

pub returns : goal.returns
returns c =
    let firsts = c.args.firsts.now in
    let glob = c.args.glob.now in
    on_ok_weaker c.insert.result
    (λ is text. ap (λ (m : TextFinMap ℕ). finite.get m text)
    (is ∙ ap (λ (t : List ℕ). finite.insert firsts t c.args.number) c.in_ok-clone.ensures.cases)
    ∙ (get-insert firsts glob c.args.number text
    ∙ put_at firsts glob text c.args.number
    (ap (λ t. is_some (finite.get firsts t)) (sym c.as_str.ensures)
    ∙ (sym c.contains_key.ensures ∙ c.if-contains_key.false))))
    c.insert.ensures.ok
