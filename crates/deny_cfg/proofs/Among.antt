-- Spans that are among others: what holds of the others holds of them, and no start occurs more often.
use Rattle.std.proofs.Common.{◌≡◌, ◌+◌, ◌++◌, ℕ, List, [], ◌∷◌, ap, ◌∙◌, subst, arith}
use Rattle.std.specs.List.{AllByRecursion, flat_map}
use Rattle.std.proofs.lemmas.List.{map-append}
use Rattle.deny_base.specs.declared.span.Span.{Span}
use Rattle.deny_base_lists.proofs.Each.{all_append}
use Rattle.deny_toml.proofs.ApartLaws.{times, times-append}
use Rattle.deny_toml.proofs.ApartParts.{IsPartOf, part_itself, part_nothing, part_of_part}
use Rattle.deny_cfg.specs.LabelSpans.{joined}
use Rattle.deny_cfg.proofs.LabelLaws.{Lie, starts}

-- of spans among others all holds that holds of the others, and they have distinct starts where the others have
pub record Among (xs ys : List Span) : Type 1 where
  pub lie : (P : Span → Type 0) → Lie P ys → Lie P xs
  pub part : IsPartOf (starts xs) (starts ys)

pub among_itself : (xs : List Span) → Among xs xs
among_itself xs = record { lie = λ P lie. lie; part = part_itself (starts xs) }

pub among_same : (xs ys : List Span) → xs ≡ ys → Among xs ys
among_same xs ys e = subst (Among xs) e (among_itself xs)

pub among_then : (xs ys zs : List Span) → Among xs ys → Among ys zs → Among xs zs
among_then xs ys zs one other =
    record {
      lie = λ P lie. one.lie P (other.lie P lie);
      part = part_of_part (starts xs) (starts ys)
          (starts zs) one.part other.part;
    }

pub lie_prefix : (P : Span → Type 0) (xs ys : List Span) → Lie P (xs ++ ys) → Lie P xs
lie_prefix P [] ys lie = tt
lie_prefix P (x ∷ xs) ys lie = (lie.0, lie_prefix P xs ys lie.1)

pub lie_rest : (P : Span → Type 0) (xs ys : List Span) → Lie P (xs ++ ys) → Lie P ys
lie_rest P [] ys lie = lie
lie_rest P (x ∷ xs) ys lie = lie_rest P xs ys lie.1

-- what is true of the spans of all entries is true of those of each
pub lie_each : {X : Type 0} (P : Span → Type 0) (f : X → List Span) (xs : List X) → Lie P (flat_map f xs)
    → AllByRecursion (λ x. Lie P (f x)) xs
lie_each P f [] lie = tt
lie_each P f (x ∷ xs) lie =
    (lie_prefix P (f x) (flat_map f xs) lie, lie_each P f xs (lie_rest P (f x) (flat_map f xs) lie))

starts-append : (xs ys : List Span) → starts (xs ++ ys) ≡ starts xs ++ starts ys
starts-append xs ys = map-append (λ (span : Span). span.start) xs ys

pub times_both : (xs ys : List Span) (x : ℕ) → times x (starts (xs ++ ys)) ≡ times x (starts xs) + times x (starts ys)
times_both xs ys x = ap (times x) (starts-append xs ys) ∙ times-append x (starts xs) (starts ys)

pub among_both : (xs ys zs ws : List Span) → Among xs zs → Among ys ws → Among (xs ++ ys) (zs ++ ws)
among_both xs ys zs ws one other = record {
  lie =
      λ P lie. all_append P xs ys (one.lie P (lie_prefix P zs ws lie))
      (other.lie P (lie_rest P zs ws lie));
  part = λ x. omega (arith, one.part x, other.part x, times_both xs ys x, times_both zs ws x);
}

pub among_rest : (xs ys : List Span) → Among ys (xs ++ ys)
among_rest xs ys = record { lie = λ P lie. lie_rest P xs ys lie; part = λ x. omega (arith, times_both xs ys x) }

among_nothing : (ys : List Span) → Among [] ys
among_nothing ys = record { lie = λ P lie. tt; part = part_nothing (starts ys) }

-- lists of spans, each among the one at its place; a list that is left out is empty
abbrev pub AmongEach : List (List Span) → List (List Span) → Type 1
AmongEach [] yss = Unit {1}
AmongEach (xs ∷ xss) [] = Among xs [] × AmongEach xss []
AmongEach (xs ∷ xss) (ys ∷ yss) = Among xs ys × AmongEach xss yss

pub among_joined : (xss yss : List (List Span)) → AmongEach xss yss → Among (joined xss) (joined yss)
among_joined [] yss each = among_nothing (joined yss)
among_joined (xs ∷ xss) [] each = among_both xs (joined xss) [] [] each.0 (among_joined xss [] each.1)
among_joined (xs ∷ xss) (ys ∷ yss) each =
    among_both xs (joined xss) ys (joined yss) each.0 (among_joined xss yss each.1)
