use Rattle.std.proofs.Common.{◌≡◌, ◌++◌, Bool, List, [], ◌∷◌, Option, ap, append_assoc, sym, ◌∙◌}
use Rattle.std.proofs.lemmas.List.Elements.{filter-append, filter_map-append}
use Rattle.std.specs.Prelude.{filter, filter_map}
use Rattle.deny_cfg.proofs.expired.take_expired.Goals as goal

-- one more item of which those that pass a test are put behind the others
more_kept : {T : Type 0} (test : T → Bool) (xs kept new : List T) (x : T) → new ≡ kept ++ filter test (x ∷ [])
    → kept ≡ filter test xs → new ≡ filter test (xs ++ x ∷ [])
more_kept test xs kept new x put so_far =
    put ∙ ap (λ ys. ys ++ filter test (x ∷ [])) so_far ∙ sym (filter-append test xs (x ∷ []))

more_made : {S T : Type 0} (make : S → Option T) (old kept new : List T) (xs : List S) (x : S)
    → new ≡ kept ++ filter_map make (x ∷ []) → kept ≡ old ++ filter_map make xs
    → new ≡ old ++ filter_map make (xs ++ x ∷ [])
more_made make old kept new xs x put so_far =
    put ∙ ap (λ ys. ys ++ filter_map make (x ∷ [])) so_far
    ∙ append_assoc old (filter_map make xs) (filter_map make (x ∷ []))
    ∙ ap (λ ys. old ++ ys) (sym (filter_map-append make xs (x ∷ [])))

pub all-preserved : goal.all-preserved
all-preserved g c = record {
  counting =
      more_kept _ c.all.yielded c.all.entries _ _ c.in_ok-divide.ensures.counting c.all.invariant.counting;
  expired =
      more_made _ _ c.all.expired _ c.all.yielded _ c.in_ok-divide.ensures.expired c.all.invariant.expired;
}
