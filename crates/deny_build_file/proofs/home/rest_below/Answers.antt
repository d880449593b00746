use Rattle.std.proofs.Common.{◌≡◌, ◌∙◌, List, ℕ, Bor, Some, None, ap, option_map, sym}
use Rattle.deny_spec.specs.Paths.{parts}
use Rattle.deny_build_file.proofs.HomeLemmas.{apart, found, texts}
use Rattle.deny_build_file.proofs.home.rest_below.Goals as goal

pub returns-then-not-same_start : goal.returns-then-not-same_start
returns-then-not-same_start c =
    apart c.args.folder.now c.args.path.now (sym c.same_start.ensures ∙ c.if-not-same_start.true)

pub returns-in-Some : goal.returns-in-Some
returns-in-Some c =
    let names : texts c.as_slice.result.now ≡ parts c.args.folder.now =
    ap texts c.as_slice.ensures.value ∙ c.in_ok-names.ensures in
    let own : texts c.as_slice-2.result.now ≡ parts c.args.path.now =
    ap texts c.as_slice-2.ensures.value ∙ c.in_ok-own.ensures in
    ap (λ (text : List ℕ). Some text) c.in_ok-text-in-Some.ensures
    ∙ found c.args.folder.now c.args.path.now (texts c.as_slice.result.now) (texts c.as_slice-2.result.now)
    (Some (texts c.in-Some.rest.now)) (sym c.same_start.ensures ∙ c.if-not-same_start.false) names own
    (ap (option_map (λ (rest : Bor (List (Bor (List ℕ)))). texts rest.now)) (sym c.in-Some.is) ∙ c.parts_below.ensures)

pub returns : goal.returns
returns c =
    let names : texts c.as_slice.result.now ≡ parts c.args.folder.now =
    ap texts c.as_slice.ensures.value ∙ c.in_ok-names.ensures in
    let own : texts c.as_slice-2.result.now ≡ parts c.args.path.now =
    ap texts c.as_slice-2.ensures.value ∙ c.in_ok-own.ensures in
    found c.args.folder.now c.args.path.now (texts c.as_slice.result.now) (texts c.as_slice-2.result.now) None
    (sym c.same_start.ensures ∙ c.if-not-same_start.false) names own
    (ap (option_map (λ (rest : Bor (List (Bor (List ℕ)))). texts rest.now)) (sym c.in-None.is) ∙ c.parts_below.ensures)
