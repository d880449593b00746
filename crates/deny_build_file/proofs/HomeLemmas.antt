-- The rest of a path below a folder, by the parts of both.
use Rattle.std.proofs.Common.{◌≡◌, ◌++◌, ◌∙◌, ℕ, true, false, Bool, List, [], ◌∷◌, Bor, Option, Some, None, length}
use Rattle.std.proofs.Common.{map, refl, ap, sym, codes, option_map, if◌then◌else◌}
use Rattle.std.specs.Prelude.{filter}
use Rattle.std.specs.List.{flat_map, join_by, starts_with}
use Rattle.std.specs.Option.{option_and_then}
use Rattle.deny_spec.specs.Paths.{components, is_component, parts}
use Rattle.deny_build_file.specs.Home.{is_absolute, lies_in, parts_behind, rest_below, same_name, same_start}
use Rattle.deny_build_file.specs.private.Home.{parts_after, parts_below}

abbrev text_of : Bor (List ℕ) → List ℕ
text_of part = part.now

abbrev pub texts : List (Bor (List ℕ)) → List (List ℕ)
texts parts = map text_of parts

flat_texts : (sep : List ℕ) (parts : List (Bor (List ℕ)))
    → flat_map (λ part. sep ++ text_of part) parts ≡ flat_map (λ (part : List ℕ). sep ++ part) (texts parts)
flat_texts sep [] = refl
flat_texts sep (part ∷ parts) = rw (flat_texts sep parts) refl

pub join_texts : (sep : List ℕ) (parts : List (Bor (List ℕ)))
    → join_by text_of sep parts ≡ join_by (λ (part : List ℕ). part) sep (texts parts)
join_texts sep [] = refl
join_texts sep (part ∷ parts) = ap (λ (rest : List ℕ). part.now ++ rest) (flat_texts sep parts)

-- the rest of a path, by the parts of a folder and of the path
abbrev below_names : List (List ℕ) → List (List ℕ) → Option (List (List ℕ))
below_names names own = if starts_with same_name (filter is_component own) names
    then Some (parts_behind (length names) own) else None

below_name : (name : List ℕ) (names : List (List ℕ))
    → ((own : List (List ℕ)) → parts_below names own ≡ below_names (filter is_component names) own)
    → (own : List (List ℕ)) → option_and_then (λ rest. parts_below names rest) (parts_after name (parts_behind 0 own))
    ≡ below_names (name ∷ filter is_component names) own
below_name name names below [] = refl
below_name name names below (part ∷ own) = elim (is_component part) as (λ b. is_component part ≡ b →
    option_and_then (λ rest. parts_below names rest) (parts_after name (parts_behind 0 (part ∷ own)))
    ≡ below_names (name ∷ filter is_component names) (part ∷ own)) [
      | true ↦ λ is. rw is (elim (same_name name part) as (λ b. same_name name part ≡ b →
          option_and_then (λ rest. parts_below names rest) (parts_after name (part ∷ own))
          ≡ (if starts_with same_name (part ∷ filter is_component own) (name ∷ filter is_component names)
          then Some (parts_behind (length (filter is_component names)) own) else None))
          [ true ↦ λ same. rw same (below own) | false ↦ λ other. rw other refl ] refl)
      | false ↦ λ isnt. rw isnt (below_name name names below own)
    ] refl

below_parts : (names own : List (List ℕ)) → parts_below names own ≡ below_names (filter is_component names) own
below_parts [] own = refl
below_parts (name ∷ names) own = elim (is_component name) as (λ b. is_component name ≡ b →
    parts_below (name ∷ names) own ≡ below_names (filter is_component (name ∷ names)) own) [
      | true ↦ λ is. rw is (below_name name names (below_parts names) own)
      | false ↦ λ isnt. rw isnt (below_parts names own)
    ] refl

abbrev pub joined : List (List ℕ) → List ℕ
joined rest = join_by (λ (part : List ℕ). part) (codes "/") rest

pub apart : (folder path : List ℕ) → same_start (is_absolute folder) (is_absolute path) ≡ false
    → None ≡ rest_below folder path
unfolding rest_below lies_in
apart folder path not = rw not refl

if_joined : (b : Bool) (rest : List (List ℕ)) → (if b then Some (joined rest) else None)
    ≡ option_map joined (if b then Some rest else None)
if_joined true rest = refl
if_joined false rest = refl

together : (folder path : List ℕ) → same_start (is_absolute folder) (is_absolute path) ≡ true
    → rest_below folder path ≡ option_map joined (parts_below (parts folder) (parts path))
unfolding rest_below lies_in components
together folder path same = rw same (rw (below_parts (parts folder) (parts path)) (if_joined
    (starts_with same_name (filter is_component (parts path)) (filter is_component (parts folder)))
    (parts_behind (length (filter is_component (parts folder))) (parts path))))

pub found : (folder path : List ℕ) (names own : List (List ℕ)) (rest : Option (List (List ℕ)))
    → same_start (is_absolute folder) (is_absolute path) ≡ true → names ≡ parts folder → own ≡ parts path
    → rest ≡ parts_below names own → option_map joined rest ≡ rest_below folder path
found folder path names own rest same is_names is_own is =
    ap (option_map joined) (is ∙ (λ i. parts_below (is_names i) (is_own i))) ∙ sym (together folder path same)
