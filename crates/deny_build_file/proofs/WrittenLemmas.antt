-- The rest of a path that is written as a folder, a slash and a component.
use Rattle.std.proofs.Common.{◌≡◌, ◌++◌, ◌∙◌, ℕ, arith, true, false, Bool, List, [], ◌∷◌, Bor, Option, Some, None}
use Rattle.std.proofs.Common.{append-nil, length, refl, ap, codes, suc, zero}
use Rattle.std.specs.Prelude.{◌<◌, ◌==◌, ◌||◌, IfSome, filter, not, if◌then◌else◌}
use Rattle.std.specs.Cmp.Lexicographic.{bytes_decides}
use Rattle.std.specs.List.{join_with_byte, onto_first, starts_with}
use Rattle.std.proofs.lemmas.List.Elements.{filter-append}
use Rattle.std.proofs.lemmas.List.Splits.{join_with_byte-slice_split, length-slice_split}
use Rattle.deny_base_disk.proofs.ChildrenLemmas.{prefix_found}
use Rattle.deny_base_disk.specs.Children.{text_behind}
use Rattle.deny_spec.specs.Paths.{components, is_component, is_slash, parts}
use Rattle.deny_build_file.specs.Home.{is_absolute, lies_in, parts_behind, rest_below, same_name, same_start}
use Rattle.deny_build_file.specs.private.Home.{begins_plainly}
use Rattle.deny_build_file.proofs.HomeLemmas.{joined}

-- ---- parts of a path

onto_both : (byte : ℕ) (some more : List (List ℕ)) → 0 < length some
    → onto_first byte (some ++ more) ≡ onto_first byte some ++ more
onto_both byte [] more full = absurd (omega arith)
onto_both byte (part ∷ some) more full = refl

-- a slash separates the parts before it from the parts after it
pub parts_both : (prefix rest : List ℕ) → parts (prefix ++ 47 ∷ rest) ≡ parts prefix ++ parts rest
parts_both [] rest = refl
parts_both (byte ∷ prefix) rest = elim (is_slash byte) as (λ b. is_slash byte ≡ b
    → parts (byte ∷ prefix ++ 47 ∷ rest) ≡ parts (byte ∷ prefix) ++ parts rest) [
      | true ↦ λ is. rw is (ap (λ (ps : List (List ℕ)). [] ∷ ps) (parts_both prefix rest))
      | false ↦ λ isnt. rw isnt (ap (onto_first byte) (parts_both prefix rest)
          ∙ onto_both byte (parts prefix) (parts rest) (omega (arith, length-slice_split is_slash prefix)))
    ] refl

join_parts : (parts : List (List ℕ)) → joined parts ≡ join_with_byte 47 parts
join_parts [] = refl
join_parts (part ∷ []) = append-nil part
join_parts (part ∷ next ∷ parts) = ap (λ (rest : List ℕ). part ++ 47 ∷ rest) (join_parts (next ∷ parts))

-- the parts joined with slashes are the path
joined_again : (path : List ℕ) → joined (parts path) ≡ path
joined_again path = join_parts (parts path) ∙ join_with_byte-slice_split 47 path

-- ---- what follows the components of a folder

passed : (count : ℕ) (part : List ℕ) (parts : List (List ℕ)) → is_component part ≡ false
    → parts_behind count (part ∷ parts) ≡ parts_behind count parts
passed zero part parts isnt = rw isnt refl
passed (suc count) part parts isnt = rw isnt refl

counted : (count : ℕ) (part : List ℕ) (parts : List (List ℕ)) → is_component part ≡ true
    → parts_behind (suc count) (part ∷ parts) ≡ parts_behind count parts
counted count part parts is = rw is refl

behind_all : (prefix more : List (List ℕ))
    → parts_behind (length (filter is_component prefix)) (prefix ++ more) ≡ parts_behind 0 more
behind_all [] more = refl
behind_all (part ∷ prefix) more = elim (is_component part) as (λ b. is_component part ≡ b
    → parts_behind (length (filter is_component (part ∷ prefix))) (part ∷ prefix ++ more) ≡ parts_behind 0 more) [
      | true ↦ λ is. rw is (counted (length (filter is_component prefix)) part (prefix ++ more) is
          ∙ behind_all prefix more)
      | false ↦ λ isnt. rw isnt (passed (length (filter is_component prefix)) part (prefix ++ more) isnt
          ∙ behind_all prefix more)
    ] refl

starts_with_all : (prefix more : List (List ℕ)) → starts_with same_name (prefix ++ more) prefix ≡ true
starts_with_all [] more = refl
starts_with_all (name ∷ prefix) more =
    rw ((bytes_decides name name).1 refl) (starts_with_all prefix more)

same_twice : (b : Bool) → same_start b b ≡ true
same_twice true = refl
same_twice false = refl

plain_component : (byte : ℕ) (part : List ℕ) → (byte == 46) ≡ false → is_component (byte ∷ part) ≡ true
plain_component byte part other = rw other refl

first_of : (byte : ℕ) (parts : List (List ℕ)) → (byte == 46) ≡ false
    → parts_behind 0 (onto_first byte parts) ≡ onto_first byte parts
first_of byte [] other = rw (plain_component byte [] other) refl
first_of byte (part ∷ parts) other = rw (plain_component byte part other) refl

plain_byte : (slash dot : Bool) → not (slash || dot) ≡ true → (slash ≡ false) × (dot ≡ false)
plain_byte true dot plain = absurd (cc)
plain_byte false true plain = absurd (cc)
plain_byte false false plain = (refl, refl)

first_part : (rest : List ℕ) → begins_plainly rest ≡ true → parts_behind 0 (parts rest) ≡ parts rest
first_part [] plain = absurd (cc)
first_part (byte ∷ rest) plain =
    let other = plain_byte (byte == 47) (byte == 46) plain in
    rw other.0 (first_of byte (parts rest) other.1)

behind_names : (names more own : List (List ℕ)) → own ≡ names ++ more
    → (if starts_with same_name (filter is_component own) (filter is_component names)
    then Some (joined (parts_behind (length (filter is_component names)) own)) else None)
    ≡ Some (joined (parts_behind 0 more))
behind_names names more own is =
    rw is (rw (filter-append is_component names more)
    (rw (starts_with_all (filter is_component names) (filter is_component more))
    (ap (λ (ps : List (List ℕ)). Some (joined ps)) (behind_all names more))))

-- a path that is written as a folder, a slash and a component lies in the folder, and its rest begins with the
-- component
written : (folder rest : List ℕ) → (length folder == 0) ≡ false → begins_plainly rest ≡ true
    → rest_below folder (folder ++ 47 ∷ rest) ≡ Some rest
unfolding rest_below lies_in components
written [] rest full plain = absurd (cc)
written (first ∷ folder) rest full plain =
    rw (same_twice (is_absolute (first ∷ folder)))
    (behind_names (parts (first ∷ folder)) (parts rest) (parts (first ∷ folder ++ 47 ∷ rest))
    (parts_both (first ∷ folder) rest))
    ∙ (ap (λ (ps : List (List ℕ)). Some (joined ps)) (first_part rest plain)
    ∙ ap (λ (text : List ℕ). Some text) (joined_again rest))

written_so : (folder path slashed rest : List ℕ) → (length folder == 0) ≡ false → Some slashed ≡ text_behind folder path
    → Some rest ≡ text_behind (codes "/") slashed → begins_plainly rest ≡ true → rest_below folder path ≡ Some rest
written_so folder path slashed rest full first second plain =
    ap (rest_below folder) (prefix_found folder path slashed first
    ∙ ap (λ (text : List ℕ). folder ++ text) (prefix_found (codes "/") slashed rest second))
    ∙ written folder rest full plain

pub written_below : (folder path slashed : List ℕ) (found : Option (Bor (List ℕ))) → (length folder == 0) ≡ false
    → Some slashed ≡ text_behind folder path → IfSome found (λ rest. Some rest.now ≡ text_behind (codes "/") slashed)
    → IfSome found (λ rest. begins_plainly rest.now ≡ true)
    → IfSome found (λ rest. rest_below folder path ≡ Some rest.now)
written_below folder path slashed None full first second plain = tt
written_below folder path slashed (Some rest) full first second plain =
    written_so folder path slashed rest.now full first second plain
