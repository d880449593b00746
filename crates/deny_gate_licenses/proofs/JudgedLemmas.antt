-- The packs of the crates that count, and the first crate to which each entry grants a licence.
use Rattle.std.proofs.Common.{◌≡◌, ◌++◌, ◌-◌, ◌+◌, ◌<◌, ◌&&◌, ◌||◌, ℕ, suc, Bool, true, false, List, [], ◌∷◌, Contains}
use Rattle.std.proofs.Common.{Option, Some, None, cond, filter, find, length, map, not, refl, sym, ap, ◌∙◌, arith}
use Rattle.std.specs.Prelude.{option_map}
use Rattle.std.specs.List.{flat_map, list_any, range_with_len}
use Rattle.std.specs.Map.{lookup}
use Rattle.std.specs.Option.{option_map_or}
use Rattle.std.proofs.lemmas.List.Folds.{list_any-append}
use Rattle.deny_base_lists.proofs.Filters.{find-filter}
use Rattle.deny_base_lists.proofs.Loops.{appended}
use Rattle.deny_base_lists.proofs.Members.{Contains-first, Contains-from_filter, Contains-rest}
use Rattle.deny_base_lists.proofs.Numbers.{range_with_len-same}
use Rattle.deny_base.specs.declared.finding.Pack.{Pack}
use Rattle.deny_spdx.specs.Reads.{BadAt, Read, Reading, reading_in}
use Rattle.deny_spdx.specs.declared.expression.Expression.{Expression}
use Rattle.deny_spdx.specs.declared.requirement.Requirement.{Requirement}
use Rattle.deny_krates.specs.Crates.{crate_view}
use Rattle.deny_krates.specs.krate.Krate.{Krate}
use Rattle.deny_spec.specs.Graph.{Crate, Graph}
use Rattle.deny_spec.specs.DiagParts.{crate_at}
use Rattle.deny_spec.specs.Licensing.{Licensing}
use Rattle.deny_spec_report.specs.Licences.{Asked, asked_in, asked_of, expression_in, expression_of, hits_by, holds}
use Rattle.deny_spec_report.specs.Licences.{is_licensed, is_scanned, is_passed_over, licence_text}
use Rattle.deny_rules_match.specs.Marks.{mark_at, marked}
use Rattle.deny_rules_match.specs.Placed.{ArePlaced}
use Rattle.deny_krates.proofs.PlaceLemmas.{place_of}
use Rattle.deny_gate_licenses.specs.declared.granter.Granter.{Granter}
use Rattle.deny_gate_licenses.specs.declared.judgement.Judgement.{Judgement}
use Rattle.deny_gate_licenses.specs.declared.judgement.Judgement.TheVariants as judgement
use Rattle.deny_gate_licenses.specs.private.Answers.{granter_for, granters_by, granters_for, notes_for}
use Rattle.deny_gate_licenses.specs.private.Counted.{place_if}
use Rattle.deny_gate_licenses.specs.private.JudgedCrates.{crate_granters, crate_pack, packs_at, witnessed_at}
use Rattle.deny_gate_licenses.specs.private.Granters.{granter_of}
use Rattle.deny_gate_licenses.specs.private.Judgements.{granters_in, judgement_of, of_reading}
use Rattle.deny_gate_licenses.specs.private.Witnesses.{same_granter, witnessed}
use Rattle.deny_gate_licenses.specs.private.Reported.{judged_pack}
use Rattle.deny_gate_licenses.proofs.GrantLemmas.{one-of-two}
use Rattle.deny_gate_licenses.proofs.JudgementLemmas.{anywhere}

-- ---- the places of the crates that count

pub places-more : (marks : List Bool) (old new whole : List ℕ) (place end : ℕ) → place < end
    → new ≡ old ++ place_if marks place
    → old ++ flat_map (place_if marks) (range_with_len place (end - place)) ≡ whole
    → new ++ flat_map (place_if marks) (range_with_len (place + 1) (end - (place + 1))) ≡ whole
places-more marks old new whole place end below added =
    appended (flat_map (place_if marks)) (range_with_len place (end - place))
    (range_with_len (place + 1) (end - (place + 1))) (place_if marks place) old new whole
    (ap (flat_map (place_if marks))
    (range_with_len-same place place (end - place) (suc (end - (place + 1))) refl (omega arith))) added

places-from : (marks : List Bool) (cs : List Crate)
    → flat_map (place_if marks) (map place_of cs) ≡ map place_of (filter (marked marks) cs)
places-from marks [] = refl
places-from marks (c ∷ cs) = by (mark_at marks c.place) (places-from marks cs)
  where
    by : (b : Bool) → flat_map (place_if marks) (map place_of cs) ≡ map place_of (filter (marked marks) cs)
        → cond b (c.place ∷ []) [] ++ flat_map (place_if marks) (map place_of cs)
        ≡ map place_of (cond b (c ∷ filter (marked marks) cs) (filter (marked marks) cs))
    by true rest = ap (λ ns. c.place ∷ ns) rest
    by false rest = rest

pub places-are : (marks : List Bool) (crates : List Crate) → ArePlaced crates
    → flat_map (place_if marks) (range_with_len 0 (length crates)) ≡ map place_of (filter (marked marks) crates)
places-are marks crates placed = ap (flat_map (place_if marks)) (sym placed.places) ∙ places-from marks crates

-- ---- the packs of those crates

module _ (l : Licensing) (g : Graph) where
  -- the pack of the crate at a place is that of its judgement, which does not depend on the place
  pub pack-there : (k : Krate) (place : ℕ) (j : Judgement) → Some (crate_view place k) ≡ crate_at g place
      → j ≡ judgement_of l (crate_view 0 k) → judged_pack (crate_view place k) j ∷ [] ≡ packs_at l g place
  pack-there k place j here is =
      ap (λ (i : Judgement). judged_pack (crate_view place k) i ∷ []) (is ∙ anywhere l k place)
      ∙ ap (λ (o : Option Crate). option_map_or (λ d. crate_pack l d ∷ []) o []) here

  pub witnessed-there : (k : Krate) (place : ℕ) (j : Judgement) → Some (crate_view place k) ≡ crate_at g place
      → j ≡ judgement_of l (crate_view 0 k) → witnessed (granters_in j) place ≡ witnessed_at l g place
  witnessed-there k place j here is =
      ap (λ (i : Judgement). witnessed (granters_in i) place) (is ∙ anywhere l k place)
      ∙ ap (λ (o : Option Crate). option_map_or (λ d. witnessed (crate_granters l d) place) o []) here

module _ (l : Licensing) (g : Graph) (placed : ArePlaced g.crates) where
  packs-from : (cs : List Crate) → ((c : Crate) → Contains cs c → Contains g.crates c)
      → flat_map (packs_at l g) (map place_of cs) ≡ map (crate_pack l) cs
  packs-from [] hold = refl
  packs-from (c ∷ cs) hold =
      ap (λ (o : Option Crate). option_map_or (λ d. crate_pack l d ∷ []) o []
      ++ flat_map (packs_at l g) (map place_of cs)) (placed.at c (hold c (Contains-first c cs)))
      ∙ ap (λ (packs : List Pack). crate_pack l c ∷ packs) (packs-from cs (λ d is. hold d (Contains-rest c cs d is)))

  pub packs-are : (counts : Crate → Bool)
      → flat_map (packs_at l g) (map place_of (filter counts g.crates)) ≡ map (crate_pack l) (filter counts g.crates)
  packs-are counts = packs-from (filter counts g.crates) (λ c is. (Contains-from_filter counts g.crates c is).0)

  -- ---- the entries that grant them a licence

  first-witness : (by : Granter) (granters : List Granter) (place : ℕ) (more : List (Granter × ℕ))
      → lookup (same_granter by) (witnessed granters place ++ more)
      ≡ cond (list_any (same_granter by) granters) (Some place) (lookup (same_granter by) more)
  first-witness by [] place more = refl
  first-witness by (x ∷ xs) place more =
      one-of-two (same_granter by x) (same_granter by x) (list_any (same_granter by) xs) (Some place)
      (lookup (same_granter by) (witnessed xs place ++ more)) (lookup (same_granter by) more) refl
      (first-witness by xs place more)

  witnesses-from : (by : Granter) (cs : List Crate) → ((c : Crate) → Contains cs c → Contains g.crates c)
      → lookup (same_granter by) (flat_map (witnessed_at l g) (map place_of cs))
      ≡ option_map place_of (find (λ c. list_any (same_granter by) (crate_granters l c)) cs)
  witnesses-from by [] hold = refl
  witnesses-from by (c ∷ cs) hold =
      ap (λ (o : Option Crate). lookup (same_granter by)
      (option_map_or (λ d. witnessed (crate_granters l d) c.place) o [] ++ more))
      (placed.at c (hold c (Contains-first c cs)))
      ∙ (first-witness by (crate_granters l c) c.place more
      ∙ by_any (list_any (same_granter by) (crate_granters l c))
      (witnesses-from by cs (λ d is. hold d (Contains-rest c cs d is))))
    where
      more : List (Granter × ℕ)
      more = flat_map (witnessed_at l g) (map place_of cs)

      rest : Option Crate
      rest = find (λ c. list_any (same_granter by) (crate_granters l c)) cs

      by_any : (b : Bool) → lookup (same_granter by) more ≡ option_map place_of rest
          → cond b (Some c.place) (lookup (same_granter by) more) ≡ option_map place_of (cond b (Some c) rest)
      by_any true so = refl
      by_any false so = so

  pub witness-is : (by : Granter) (counts : Crate → Bool)
      → lookup (same_granter by) (flat_map (witnessed_at l g) (map place_of (filter counts g.crates)))
      ≡ option_map place_of (find (λ c. list_any (same_granter by) (crate_granters l c) && counts c) g.crates)
  witness-is by counts =
      witnesses-from by (filter counts g.crates) (λ c is. (Contains-from_filter counts g.crates c is).0)
      ∙ ap (option_map place_of)
      (find-filter (λ c. list_any (same_granter by) (crate_granters l c)) counts g.crates)

-- ---- a crate hits the entries that grant it a licence

and-swapped : (a n : Bool) → (a && n) ≡ ((n && true) && a)
and-swapped true true = refl
and-swapped true false = refl
and-swapped false true = refl
and-swapped false false = refl

module _ (l : Licensing) (c : Crate) (by : Granter) (grants : Asked → Bool)
    (is : (asked : Asked) → grants asked ≡ option_map_or (same_granter by) (granter_of l asked) false) where
  one-granter : (o : Option Granter)
      → list_any (same_granter by) (granters_by o) ≡ option_map_or (same_granter by) o false
  one-granter None = refl
  one-granter (Some x) = or_none (same_granter by x)
    where
      or_none : (b : Bool) → (b || false) ≡ b
      or_none true = refl
      or_none false = refl

  any-granter : (rs : List Requirement)
      → list_any (same_granter by) (granters_for l c rs) ≡ list_any grants (map (asked_of c) rs)
  any-granter [] = refl
  any-granter (r ∷ rs) =
      list_any-append (same_granter by) (granters_by (granter_for l c r)) (granters_for l c rs)
      ∙ (ap (λ b. b || list_any (same_granter by) (granters_for l c rs))
      (one-granter (granter_for l c r) ∙ sym (is (asked_of c r)))
      ∙ ap (λ b. grants (asked_of c r) || b) (any-granter rs))

  abbrev asked_by : Bool → Reading → List Asked
  asked_by licensed reading = option_map_or (λ (e : Expression). map (asked_of c) e.requirements)
      (cond licensed (expression_in reading) None) []

  in-either : (e : Expression) (so : Bool) → granters_in (cond so (judgement.Accepted (granters_for l c e.requirements))
      (judgement.Rejected (granters_for l c e.requirements) (notes_for l c e.requirements)))
      ≡ granters_for l c e.requirements
  in-either e true = refl
  in-either e false = refl

  hits-cases : (passed licensed : Bool) (reading : Reading) (n : Bool)
      → (list_any (same_granter by) (granters_in (cond passed judgement.Private
      (cond licensed (of_reading l c reading) judgement.Unlicensed))) && n)
      ≡ ((n && not passed) && list_any grants (asked_by licensed reading))
  hits-cases true licensed reading true = refl
  hits-cases true licensed reading false = refl
  hits-cases false false reading true = refl
  hits-cases false false reading false = refl
  hits-cases false true (BadAt at) true = refl
  hits-cases false true (BadAt at) false = refl
  hits-cases false true (Read e) n =
      ap (λ (xs : List Granter). list_any (same_granter by) xs && n) (in-either e (holds l c e))
      ∙ (ap (λ b. b && n) (any-granter e.requirements)
      ∙ and-swapped (list_any grants (map (asked_of c) e.requirements)) n)

  pub hits-is : (counts : Crate → Bool)
      → (list_any (same_granter by) (crate_granters l c) && counts c) ≡ hits_by counts l grants c
  unfolding hits_by is_scanned asked_in expression_of judgement_of
  hits-is counts = hits-cases (is_passed_over l c) (is_licensed c) (reading_in (licence_text c)) (counts c)
