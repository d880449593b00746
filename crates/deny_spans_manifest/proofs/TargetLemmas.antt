-- The numbers of target keys are equal exactly where the keys agree.
use Rattle.std.proofs.Common.{◌≡◌, ◌<◌, ◌≤◌, ◌+◌, ◌++◌, ◌∷◌, ◌∙◌, [], ℕ, Bool, List, None, Option, Some, ap, arith}
use Rattle.std.proofs.Common.{cond, false, inl, inr, length, map, refl, sym, take, true}
use Rattle.std.specs.Prelude.{Contains, slice_index_or, unwrap_or}
use Rattle.std.specs.Cmp.{Equal-is}
use Rattle.std.specs.Cmp.Lexicographic.{lists_total, nat_list_cmp_total}
use Rattle.std.specs.FinMap.{IsAntisymmetric, slice_cmp-IsAntisymmetric}
use Rattle.std.specs.List.{position_from}
use Rattle.std.specs.Option.{option_or}
use Rattle.std.specs.Ordering.{eq_by_cmp, is_eq, ordering_reverse}
use Rattle.std.specs.declared.cmp.Ordering.{Ordering}
use Rattle.std.specs.declared.cmp.Ordering.TheVariants.{Equal, Greater, Less}
use Rattle.std.proofs.lemmas.Bool.{cases_Bool}
use Rattle.std.proofs.lemmas.List.{length-map, length-take-le}
use Rattle.deny_base_lists.proofs.Booleans.{tests_agree}
use Rattle.deny_base_lists.proofs.Members.{Contains-by_cases, no_member}
use Rattle.deny_base_lists.proofs.Orders.{text_cmp-exact}
use Rattle.deny_base_lists.specs.First.{GainsEntry}
use Rattle.deny_base_lists.proofs.Indices.{map-take_next}
use Rattle.deny_spans_manifest.proofs.FormLemmas.{agree-sym, agree-trans, agree_from, same_forms}
use Rattle.deny_spans_manifest.specs.Agreement.{ReportsAgreement}
use Rattle.deny_spans_manifest.specs.private.Firsts.{first_at}
use Rattle.deny_spans_manifest.specs.private.Targets.{IsForm, NumbersTargets, form_cmp, number_of}
use Rattle.deny_spans_manifest.specs.declared.targets.Targets.{Targets}
use Rattle.deny_spans_cfg_expr.specs.Grammar.{Agree}

-- ---- the first index that passes a test

some_by : (b : Bool) (n : ℕ) (o : Option ℕ) → (b ≡ false → (c : ℕ) × (o ≡ Some c))
    → (c : ℕ) × (cond b (Some n) o ≡ Some c)
some_by true n o later = (n, refl)
some_by false n o later = later refl

module _ {X : Type 0} where
  position_from-same : (p q : X → Bool) (n : ℕ) (xs : List X) → ((x : X) → p x ≡ q x)
      → position_from p n xs ≡ position_from q n xs
  position_from-same p q n [] same = refl
  position_from-same p q n (x ∷ xs) same =
      ap (λ b. cond b (Some n) (position_from p (n + 1) xs)) (same x)
      ∙ ap (cond (q x) (Some n)) (position_from-same p q (n + 1) xs same)

  position_from-push : (p : X → Bool) (n : ℕ) (xs : List X) (x : X)
      → position_from p n (xs ++ x ∷ [])
      ≡ option_or (position_from p n xs) (cond (p x) (Some (n + length xs)) None)
  position_from-push p n [] x = ap (λ m. cond (p x) (Some m) None) (omega arith)
  position_from-push p n (y ∷ ys) x = elim (cases_Bool (p y)) as (λ _. position_from p n (y ∷ ys ++ x ∷ [])
      ≡ option_or (position_from p n (y ∷ ys)) (cond (p x) (Some (n + length (y ∷ ys))) None)) [
        | inl e ↦ rw e refl
        | inr e ↦ rw e (position_from-push p (n + 1) ys x
            ∙ ap (λ m. option_or (position_from p (n + 1) ys) (cond (p x) (Some m) None)) (omega arith))
      ]

  within_by : (b : Bool) (n : ℕ) (x : X) (xs : List X) (c : ℕ) (o : Option ℕ)
      → (o ≡ Some c → (n + 1 ≤ c) × (c < n + 1 + length xs)) → cond b (Some n) o ≡ Some c
      → (n ≤ c) × (c < n + length (x ∷ xs))
  within_by true n x xs c o later e = let same : n ≡ c = cc in (omega arith, omega arith)
  within_by false n x xs c o later e = let within = later e in (omega arith, omega arith)

  position_from-within : (p : X → Bool) (n : ℕ) (xs : List X) (c : ℕ) → position_from p n xs ≡ Some c
      → (n ≤ c) × (c < n + length xs)
  position_from-within p n [] c e = absurd (cc e)
  position_from-within p n (x ∷ xs) c e =
      within_by (p x) n x xs c (position_from p (n + 1) xs) (position_from-within p (n + 1) xs c) e

  abbrev BothPass : (X → Bool) → (X → Bool) → Type 0
  BothPass p q = (x : X) × (p x ≡ true) × (q x ≡ true)

  both_by : (p q : X → Bool) (x : X) (a b : Bool) (n c : ℕ) (o r : Option ℕ) → p x ≡ a → q x ≡ b
      → (o ≡ Some c → n + 1 ≤ c) → (r ≡ Some c → n + 1 ≤ c) → (o ≡ Some c → r ≡ Some c → BothPass p q)
      → cond a (Some n) o ≡ Some c → cond b (Some n) r ≡ Some c → BothPass p q
  both_by p q x true true n c o r a b above over later e f = (x, a, b)
  both_by p q x true false n c o r a b above over later e f =
      let same : n ≡ c = cc in let past : n + 1 ≤ c = over f in absurd (omega arith)
  both_by p q x false true n c o r a b above over later e f =
      let same : n ≡ c = cc in let past : n + 1 ≤ c = above e in absurd (omega arith)
  both_by p q x false false n c o r a b above over later e f = later e f

  -- two tests with the same first passing index pass there together
  both_pass : (p q : X → Bool) (n : ℕ) (xs : List X) (c : ℕ) → position_from p n xs ≡ Some c
      → position_from q n xs ≡ Some c → BothPass p q
  both_pass p q n [] c e f = absurd (cc e)
  both_pass p q n (x ∷ xs) c e f = both_by p q x (p x) (q x) n c (position_from p (n + 1) xs)
      (position_from q (n + 1) xs) refl refl (λ is. (position_from-within p (n + 1) xs c is).0)
      (λ is. (position_from-within q (n + 1) xs c is).0) (both_pass p q (n + 1) xs c) e f

  -- a test that passes a member has a first passing index
  some_position : (p : X → Bool) (n : ℕ) (xs : List X) (x : X) → Contains xs x → p x ≡ true
      → (c : ℕ) × (position_from p n xs ≡ Some c)
  some_position p n [] x is passes = absurd (no_member x is)
  some_position p n (y ∷ ys) x is passes = some_by (p y) n (position_from p (n + 1) ys)
      (λ fails. Contains-by_cases y ys x is
      (λ same. absurd (let both : false ≡ true = sym fails ∙ (ap p same ∙ passes) in cc both))
      (λ later. some_position p (n + 1) ys x later passes))

position_next : {X Y : Type 0} (p : Y → Bool) (f : X → Y) (xs : List X) (i : ℕ) (x : X) → i < length xs
    → x ≡ slice_index_or xs i x
    → position_from p 0 (map f (take (i + 1) xs))
    ≡ option_or (position_from p 0 (map f (take i xs))) (cond (p (f x)) (Some i) None)
position_next p f xs i x inside is =
    let long : length (map f (take i xs)) ≡ i = length-map (take i xs) f ∙ length-take-le i xs (omega arith) in
    let count : 0 + length (map f (take i xs)) ≡ i = omega arith in
    ap (position_from p 0) (map-take_next f xs i x inside is)
    ∙ (position_from-push p 0 (map f (take i xs)) (f x)
    ∙ ap (λ n. option_or (position_from p 0 (map f (take i xs))) (cond (p (f x)) (Some n) None)) count)

-- ---- numbers

form_cmp-exact : IsAntisymmetric form_cmp
form_cmp-exact = slice_cmp-IsAntisymmetric text_cmp-exact

tie_of : (r : Ordering) → r ≡ ordering_reverse r → is_eq r ≡ true
tie_of Less e = cc e
tie_of Equal e = refl
tie_of Greater e = cc e

ties_itself : (form other : List (List ℕ)) → form ≡ other → eq_by_cmp form_cmp other form ≡ true
ties_itself form other same =
    ap (λ (x : List (List ℕ)). is_eq (form_cmp x form)) (sym same)
    ∙ tie_of (form_cmp form form) ((lists_total nat_list_cmp_total).antisymm form form)

module _ (agrees : List ℕ → List ℕ → Bool) (reports : ReportsAgreement agrees) where
  reported : (a b : List ℕ) → Agree a b → agrees a b ≡ true
  reported a b is = (reports.at a b).1 is

  reports_so : (a b : List ℕ) → agrees a b ≡ true → Agree a b
  reports_so a b is = (reports.at a b).0 is

  -- the test does not tell keys apart that agree
  same_tests : (a b : List ℕ) → agrees a b ≡ true → (x : List ℕ) → agrees x a ≡ agrees x b
  same_tests a b is x = tests_agree (agrees x a) (agrees x b)
      (λ e. reported x b (agree-trans x a b (reports_so x a e) (reports_so a b is)))
      (λ e. reported x a (agree-trans x b a (reports_so x b e) (agree-sym a b (reports_so a b is))))

  pub same_numbers : (keys : List (List ℕ)) (a b : List ℕ) → agrees a b ≡ true
      → number_of agrees keys a ≡ number_of agrees keys b
  unfolding number_of
  same_numbers keys a b is = ap (λ o. unwrap_or o (length keys))
      (position_from-same (λ x. agrees x a) (λ x. agrees x b) 0 keys (same_tests a b is))

  agree_at : (keys : List (List ℕ)) (a b : List ℕ) (c : ℕ) (o : Option ℕ)
      → position_from (λ x. agrees x a) 0 keys ≡ Some c → position_from (λ x. agrees x b) 0 keys ≡ o
      → c ≡ unwrap_or o (length keys) → agrees a b ≡ true
  agree_at keys a b c None first none same =
      let within = position_from-within (λ x. agrees x a) 0 keys c first in absurd (omega arith)
  agree_at keys a b c (Some d) first second same =
      let both = both_pass (λ x. agrees x a) (λ x. agrees x b) 0 keys c first (second ∙ ap (λ n. Some n) (sym same)) in
      reported a b (agree-trans a both.0 b (agree-sym both.0 a (reports_so both.0 a both.1))
      (reports_so both.0 b both.2))

  pub numbers_report : (keys : List (List ℕ)) (a b : List ℕ) → Contains keys a
      → number_of agrees keys a ≡ number_of agrees keys b → agrees a b ≡ true
  unfolding number_of
  numbers_report keys a b holds same =
      let first = some_position (λ x. agrees x a) 0 keys a holds (reported a a (inl refl)) in
      agree_at keys a b first.0 (position_from (λ x. agrees x b) 0 keys) first.1 refl
      (ap (λ o. unwrap_or o (length keys)) (sym first.1) ∙ same)

  -- forms compare as equal exactly where their keys agree
  forms_report : (key name : List ℕ) (form other : List (List ℕ)) → IsForm key form → IsForm name other
      → eq_by_cmp form_cmp form other ≡ agrees name key
  forms_report key name form other is named = tests_agree (eq_by_cmp form_cmp form other) (agrees name key)
      (λ e. reported name key (agree_from name key other form named is
      (sym (form_cmp-exact form other ((Equal-is (form_cmp form other)).0 e)))))
      (λ e. ties_itself other form (same_forms name key other form named is (reports_so name key e)))

  -- adding one more key
  pub numbers_next : {E : Type 0} (name_of : E → List ℕ) (entries : List E) (i : ℕ) (entry : E)
      (name : List ℕ) (other key : List (List ℕ)) (old new : List (List ℕ) → Option ℕ) (asked : List ℕ)
      → i < length entries → entry ≡ slice_index_or entries i entry → name ≡ name_of entry
      → IsForm name other → IsForm asked key → GainsEntry (eq_by_cmp form_cmp) other i old new
      → old key ≡ position_from (λ x. agrees x asked) 0 (map name_of (take i entries))
      → new key ≡ position_from (λ x. agrees x asked) 0 (map name_of (take (i + 1) entries))
  numbers_next name_of entries i entry name other key old new asked inside is named form asks gains before =
      let earlier = position_from (λ x. agrees x asked) 0 (map name_of (take i entries)) in
      gains.at key
      ∙ (ap (λ o. option_or o (cond (eq_by_cmp form_cmp key other) (Some i) None)) before
      ∙ (ap (λ b. option_or earlier (cond b (Some i) None))
      (forms_report asked name key other asks form ∙ ap (λ (x : List ℕ). agrees x asked) named)
      ∙ sym (position_next (λ x. agrees x asked) name_of entries i entry inside is)))

  -- a lookup finds the number of the key
  pub number_found : (keys : List (List ℕ)) (targets : Targets) (key : List ℕ) (form : List (List ℕ)) (r : Option ℕ)
      → NumbersTargets keys targets → IsForm key form → r ≡ first_at form_cmp targets.numbers form
      → unwrap_or r targets.count ≡ number_of agrees keys key
  unfolding number_of
  number_found keys targets key form r numbers is found =
      ap (λ o. unwrap_or o targets.count) (found ∙ numbers.numbers agrees reports key form is)
      ∙ ap (unwrap_or (position_from (λ x. agrees x key) 0 keys)) numbers.count
