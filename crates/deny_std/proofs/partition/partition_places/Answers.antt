use Rattle.std.proofs.Common.{◌≡◌, ◌++◌, ◌+◌, ◌<◌, ◌∷◌, ℕ, [], List, Option, append-nil, arith, get_or, length, sym}
use Rattle.std.proofs.Common.{ap, ◌∙◌, subst, take}
use Rattle.std.specs.List.{flat_map}
use Rattle.std.proofs.lemmas.List.{take_more}
use Rattle.std.proofs.lemmas.List.Concat.{flat_map-append}
use Rattle.deny_base.specs.declared.span.Span.{Span}
use Rattle.deny_base_lists.specs.First.{FindsFirst}
use Rattle.deny_std.specs.private.FirstWitnesses.{place_in, is_same_span}
use Rattle.deny_std.specs.private.Partition.{ignored_at, ignored_of, reported_at, reported_of}
use Rattle.deny_std.proofs.partition.partition_places.Goals as goal

one-more : {X Y : Type 0} (f : X → List Y) (xs : List X) (i : ℕ) (d : X) → i < length xs
    → flat_map f (take i xs) ++ f (get_or xs i d) ≡ flat_map f (take (i + 1) xs)
one-more f xs i d inside =
    let here = get_or xs i d in
    sym (ap (flat_map f) (take_more xs i d inside)
    ∙ (flat_map-append f (take i xs) (here ∷ []) ∙ ap (λ ys. flat_map f (take i xs) ++ ys) (append-nil (f here))))

pub loop-place-preserved : goal.loop-place-preserved
loop-place-preserved c =
    let entries = c.args.ignored.now.entries.now in
    let g = c.args.krates.now in
    let places = c.args.places.now in
    let i = c.loop-place.place-index in
    let place = get_or places i 0 in
    let old = c.loop-place.partition in
    let before = flat_map (ignored_at entries g) (take i places) in
    record {
      reported = c.in_ok-put.ensures.reported
          ∙ (ap (λ (span : Option Span). old.reported ++ reported_of span place) c.in_ok-span.ensures
          ∙ (ap (λ (ns : List ℕ). ns ++ reported_at entries g place) c.loop-place.invariant.reported
          ∙ one-more (reported_at entries g) places i 0 (omega (arith, c.loop-place-test.true))));
      witnesses = subst (λ (es : List (Span × ℕ)). FindsFirst is_same_span es (place_in c.put.new.self.witnesses))
          (ap (λ (span : Option Span). before ++ ignored_of span place) c.in_ok-span.ensures
          ∙ one-more (ignored_at entries g) places i 0 (omega (arith, c.loop-place-test.true)))
          (c.in_ok-put.ensures.witnesses before c.loop-place.invariant.witnesses);
    }
