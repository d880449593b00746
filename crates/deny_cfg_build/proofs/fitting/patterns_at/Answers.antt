use Rattle.std.proofs.Common.{List, [], ◌∷◌, None, Some, Option, append-nil, ap, arith, get_or, map, refl, sym, ◌∙◌}
use Rattle.std.proofs.lemmas.List.{map-append}
use Rattle.std.specs.Prelude.{filter_map, slice_get}
use Rattle.deny_cfg_build.specs.declared.pattern.GlobPattern.{GlobPattern}
use Rattle.deny_cfg_build.proofs.FittingLaws.{given_next}
use Rattle.deny_cfg_build.proofs.fitting.patterns_at.Goals.{in-Some+in_ok-push, in_default}
use Rattle.deny_cfg_build.proofs.fitting.patterns_at.Goals as goal

pub loop-index-preserved : goal.loop-index-preserved
loop-index-preserved c =
    let index = get_or c.args.indices.now c.loop-index.index-index 0 in
    let old = map (λ pattern. pattern.now) c.loop-index.all.items in
    let next = λ (o : Option GlobPattern) (new : List GlobPattern). given_next (slice_get c.args.patterns.now)
    c.args.indices.now c.loop-index.index-index index 0 o old new
    (filter_map (slice_get c.args.patterns.now) c.args.indices.now)
    (omega (arith, c.loop-index-test.true)) refl in
    elim c.match-pattern_at.branch [
      | in-Some+in_ok-push w ↦
          next (Some w.in-Some.pattern.now) (map (λ pattern. pattern.now) c.match-pattern_at.all.items)
          (sym w.in-Some.ensures)
          (ap (λ (v : _). map (λ pattern. pattern.now) v.items) w.all-is
          ∙ (ap (map (λ pattern. pattern.now)) w.in_ok-push.ensures.items
          ∙ map-append (λ pattern. pattern.now) c.loop-index.all.items (w.in-Some.pattern ∷ [])))
          c.loop-index.invariant
      | in_default w ↦
          next None (map (λ pattern. pattern.now) c.match-pattern_at.all.items) (sym w.in_default.ensures)
          (ap (λ (v : _). map (λ pattern. pattern.now) v.items) w.all-is ∙ sym (append-nil old))
          c.loop-index.invariant
    ]
