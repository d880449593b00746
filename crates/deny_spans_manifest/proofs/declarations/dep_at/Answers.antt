use Rattle.std.proofs.Common.{ap, sym, ◌≡◌, ◌∙◌}
use Rattle.std.specs.Prelude.{false, is_some, option_map, slice_get, true}
use Rattle.std.specs.Borrow.{Bor}
use Rattle.std.specs.Option.{option_and_then}
use Rattle.deny_krates.proofs.GetLemmas.{got}
use Rattle.deny_krates.proofs.ResolutionLemmas.{crate_got}
use Rattle.deny_krates.specs.Crates.{crate_view, dependency_view}
use Rattle.deny_krates.specs.krate.Krate.{Krate}
use Rattle.deny_spans_manifest.proofs.DeclarationLemmas.{declared_parts, not_written, resolved_place, unresolved}
use Rattle.deny_spans_manifest.proofs.DeclarationLemmas.{written_so}
use Rattle.deny_spec.specs.Resolution.{resolution}
use Rattle.deny_spans_manifest.proofs.declarations.dep_at.Goals as goal

pub returns-in_default-clause-declared : goal.returns-in_default-clause-declared
returns-in_default-clause-declared c = λ agrees reports tree index.
    let d = dependency_view c.args.dep.now in
    let resolves = c.resolved_dependency.ensures
    ∙ ap (option_and_then (resolution c.args.krates.now c.args.place)) c.requires.numbered in
    unresolved agrees c.args.krates.now c.args.place tree c.args.index d (sym resolves ∙ c.in_default.is)

pub returns-in_default-get-clause-declared : goal.returns-in_default-get-clause-declared
returns-in_default-get-clause-declared c = λ agrees reports tree index.
    let d = dependency_view c.args.dep.now in
    let resolves = c.resolved_dependency.ensures
    ∙ ap (option_and_then (resolution c.args.krates.now c.args.place)) c.requires.numbered in
    let inside : is_some (slice_get c.args.krates.now.crates c.in-Some.child) ≡ true =
    resolved_place c.args.krates.now c.args.place d c.in-Some.child (sym resolves ∙ c.in-Some.is) in
    let here = crate_got c.krates.result.now c.in-Some.child c.get.result
    (got c.krates.result.now c.in-Some.child c.get.result c.get.ensures.lookup.3) in
    let none : is_some (slice_get c.args.krates.now.crates c.in-Some.child) ≡ false =
    ap (λ cs. is_some (slice_get cs c.in-Some.child)) (sym c.krates.ensures.crates)
    ∙ (ap is_some (sym here)
    ∙ ap (λ r. is_some (option_map (λ (k : Bor Krate). crate_view c.in-Some.child k.now) r)) c.in_default-get.is) in
    let both : true ≡ false = sym inside ∙ none in
    absurd (cc both)

pub returns-in_default-2-clause-declared : goal.returns-in_default-2-clause-declared
returns-in_default-2-clause-declared c = λ agrees reports tree index.
    let d = dependency_view c.args.dep.now in
    let resolves = c.resolved_dependency.ensures
    ∙ ap (option_and_then (resolution c.args.krates.now c.args.place)) c.requires.numbered in
    not_written agrees c.args.krates.now c.args.place tree c.args.index d c.in-Some.child c.in_ok-key.field-0
    (sym resolves ∙ c.in-Some.is) (c.in_ok-key.ensures agrees reports tree index) c.in_default-2.is

pub returns-clause-declared : goal.returns-clause-declared
returns-clause-declared c = λ agrees reports tree index.
    let d = dependency_view c.args.dep.now in
    let entry = c.in-Some-2.field-0 in
    let resolves = c.resolved_dependency.ensures
    ∙ ap (option_and_then (resolution c.args.krates.now c.args.place)) c.requires.numbered in
    written_so agrees c.args.krates.now c.args.place tree c.args.index d c.in-Some.child c.in_ok-key.field-0 entry _
    (sym resolves ∙ c.in-Some.is) (c.in_ok-key.ensures agrees reports tree index) c.in-Some-2.is
    (declared_parts c.args.index d c.in-Some.child entry.now _ _ _ c.in_ok-version_of.ensures c.workspace_of.ensures
    c.in_ok-rename_of.ensures)

pub returns-clause-krates : goal.returns-clause-krates
returns-clause-krates c =
    let here = crate_got c.krates.result.now c.in-Some.child c.get.result
    (got c.krates.result.now c.in-Some.child c.get.result c.get.ensures.lookup.3) in
    ap (λ cs. slice_get cs c.in-Some.child) (sym c.krates.ensures.crates)
    ∙ (sym here ∙ ap (option_map (λ (k : Bor Krate). crate_view c.in-Some.child k.now)) c.in-Some-get.is)
