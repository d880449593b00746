use Rattle.std.proofs.Common.{◌≡◌, ℕ, List, All, ap, sym, subst, ◌∙◌}
use Rattle.std.proofs.lemmas.List.Elements.{All-tail}
use Rattle.form_urlencoded.specs.Form.{raw_pairs}
use Rattle.form_urlencoded.specs.Parse.{raw_pairs_left}
use Rattle.deny_krates_sources.specs.Source.{reference_in, spec_of}
use Rattle.deny_krates_sources.proofs.SourceLemmas.{IsSmallPart, parts_small, found, passed}
use Rattle.deny_krates_sources.proofs.source.find_reference.Goals as goal

pub loop-name-init : goal.loop-name-init
loop-name-init c =
    let left : raw_pairs_left c.into_iter-name-iterator.result ≡ raw_pairs c.args.query.now =
    ap raw_pairs_left c.into_iter-name-iterator.ensures.into_iter_gives
    ∙ (c.raw_pairs-name-items.ensures.value ∙ ap raw_pairs c.as_bytes.ensures.value) in
    (tt, tt, ap reference_in (sym left), subst (All IsSmallPart) (sym left) (parts_small c.args.query.now c.requires))

pub returns-in-Some-spec_in : goal.returns-in-Some-spec_in
returns-in-Some-spec_in c =
    let part : List ℕ × List ℕ = (c.in-Some.name.now, c.in-Some.value.now) in
    let parts = raw_pairs_left c.next.new.self in
    let named = sym c.in-Some-spec_in.is ∙ (c.spec_in.ensures ∙ ap spec_of (c.as_str.ensures ∙ c.in_ok-name.ensures)) in
    sym (c.loop-name.invariant.2 ∙ (ap reference_in c.in-Some.ensures.steps ∙ found part parts _ _ named
    c.in_ok-value.ensures))

pub loop-name-preserved : goal.loop-name-preserved
loop-name-preserved c =
    let part : List ℕ × List ℕ = (c.in-Some.name.now, c.in-Some.value.now) in
    let parts = raw_pairs_left c.next.new.self in
    let none = sym c.in_default.is ∙ (c.spec_in.ensures ∙ ap spec_of (c.as_str.ensures ∙ c.in_ok-name.ensures)) in
    let small = All-tail IsSmallPart part parts
    (subst (All IsSmallPart) c.in-Some.ensures.steps c.loop-name.invariant.3) in
    (tt, tt, c.loop-name.invariant.2 ∙ (ap reference_in c.in-Some.ensures.steps ∙ passed part parts none), small)

pub returns : goal.returns
unfolding reference_in
returns c = sym (c.loop-name.invariant.2 ∙ ap reference_in c.in-None.ensures.steps.0)
