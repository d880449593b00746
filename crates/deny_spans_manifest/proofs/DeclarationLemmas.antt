-- The crates that declarations resolve to, and declarations that are gathered.
use Rattle.std.proofs.Common.{◌≡◌, ◌<◌, ◌+◌, ◌++◌, ◌∷◌, ◌∙◌, [], ℕ, Bool, List, None, Option, Some, add-one, ap}
use Rattle.std.proofs.Common.{append-nil, append_assoc, arith, drop, false, length, map, refl, subst, suc, sym, true}
use Rattle.std.proofs.Common.{zero}
use Rattle.std.specs.Prelude.{◌&&◌, All, IfSome, filter_map, find, is_some, option_map, slice_get, slice_index_or}
use Rattle.std.specs.List.{AllByRecursion, cons_option, enumerate_from}
use Rattle.std.specs.Borrow.{Bor}
use Rattle.std.specs.Option.{option_and_then, option_copied, option_map_or, option_or}
use Rattle.semver.specs.Parse.{Held}
use Rattle.deny_base.specs.declared.span.Spanned.{Spanned}
use Rattle.deny_toml.specs.Key.{Key}
use Rattle.deny_toml.specs.Value.{span_in}
use Rattle.deny_toml.specs.value.Value.{Value}
use Rattle.std.proofs.Math.Seq.{drop-cons}
use Rattle.std.proofs.lemmas.List.{map-append}
use Rattle.std.proofs.lemmas.List.Elements.{All-append, All-nil}
use Rattle.std.proofs.lemmas.Option.{get_or_from_slice_get, slice_get_within}
use Rattle.deny_krates.specs.Crates.{crate_view, dependency_view}
use Rattle.deny_krates.specs.krate.Dependency.{Dependency as Own}
use Rattle.deny_krates.specs.krate.Krate.{Krate}
use Rattle.deny_base_lists.proofs.Each.{all_found, all_mapped, all_from_members}
use Rattle.deny_base_lists.proofs.Members.{map_at, passes_filter}
use Rattle.deny_base_lists.proofs.Indices.{slice_get-read}
use Rattle.deny_spans_manifest.specs.Declarations.{declared_at, declared_by}
use Rattle.deny_spec.specs.View.{Declared}
use Rattle.deny_spans_manifest.specs.Found.{rename_of, version_of, workspace_of}
use Rattle.deny_spans_manifest.specs.Written.{found_in}
use Rattle.deny_spec.specs.Graph.{Crate, Dependency, Graph}
use Rattle.deny_spec.specs.Groups.{has_name}
use Rattle.deny_spec.specs.Resolution.{agreeing, declaration_at, is_wanted, resolution, suits}
use Rattle.deny_spec.specs.declared.target_edge.TargetEdge.{TargetEdge}

-- ---- what a declaration resolves to is a crate

abbrev IsPlace : List Crate → ℕ → Type 0
IsPlace crates place = is_some (slice_get crates place) ≡ true

passes_there : (test : Crate → Bool) (o : Option Crate) → option_map_or test o false ≡ true → is_some o ≡ true
passes_there test None e = cc e
passes_there test (Some c) e = refl

second_part : (a b c : Bool) → a && (b && c) ≡ true → c ≡ true
second_part true true c e = e
second_part true false c e = cc e
second_part false b c e = cc e

suits_place : (crates : List Crate) (d : Dependency) (e : TargetEdge) → suits crates d e ≡ true → IsPlace crates e.child
unfolding suits
suits_place crates d e is =
    passes_there (has_name d.name) (slice_get crates e.child) (second_part _ _ _ is)

agreeing_places : (g : Graph) (parent : ℕ) (d : Dependency)
    → AllByRecursion (IsPlace g.crates) (agreeing g parent d)
unfolding agreeing
agreeing_places g parent d = all_mapped (IsPlace g.crates) (λ (e : TargetEdge). e.child) _
    (all_from_members (λ (e : TargetEdge). IsPlace g.crates e.child) _
    (λ e is. suits_place g.crates d e (passes_filter (suits g.crates d) _ e is)))

first_of : {X : Type 0} (P : X → Type 0) (xs : List X) → AllByRecursion P xs → IfSome (slice_get xs 0) P
first_of P [] all = tt
first_of P (x ∷ xs) all = all.0

either_is : {X : Type 0} (P : X → Type 0) (o r : Option X) → IfSome o P → IfSome r P → IfSome (option_or o r) P
either_is P None r one other = other
either_is P (Some x) r one other = one

some_is : {X : Type 0} (P : X → Type 0) (o : Option X) (x : X) → IfSome o P → o ≡ Some x → P x
some_is P o x is e = subst (λ r. IfSome r P) e is

pub resolved_place : (g : Graph) (parent : ℕ) (d : Dependency) (child : ℕ) → resolution g parent d ≡ Some child
    → is_some (slice_get g.crates child) ≡ true
unfolding resolution
resolved_place g parent d child is =
    let all = agreeing_places g parent d in
    some_is (IsPlace g.crates) _ child
    (either_is (IsPlace g.crates) (find (is_wanted g.crates d) (agreeing g parent d))
    (slice_get (agreeing g parent d) 0)
    (all_found (IsPlace g.crates) (is_wanted g.crates d) (agreeing g parent d) all)
    (first_of (IsPlace g.crates) (agreeing g parent d) all)) is

-- ---- declarations that are gathered one by one

pub own_item : (k : Krate) (ds : List Own) (index : ℕ) (d : Own) → ds ≡ k.deps → index < length ds
    → d ≡ slice_index_or ds index d → slice_get (map dependency_view k.deps) index ≡ Some (dependency_view d)
own_item k ds index d same inside is = map_at dependency_view k.deps index d
    (ap (λ (es : List Own). slice_get es index) (sym same) ∙ slice_get-read ds index d inside is)

-- an item of a crate's declarations is the declaration with its index
pub declaration_numbered : (g : Graph) (place index : ℕ) (k : Krate) (ds : List Own) (d : Own)
    → slice_get g.crates place ≡ Some (crate_view place k) → ds ≡ k.deps → index < length ds
    → d ≡ slice_index_or ds index d → declaration_at g place index ≡ Some (dependency_view d)
declaration_numbered g place index k ds d at_place same inside is =
    ap (option_and_then (λ (c : Crate). slice_get c.deps index)) at_place ∙ own_item k ds index d same inside is

module _ {D M Y : Type 0} (h : ℕ × D → Option Y) (view : M → Y) where
  next_is : (xs : List D) (i : ℕ) (x : D) → slice_get xs i ≡ Some x
      → filter_map h (enumerate_from i (drop i xs))
      ≡ cons_option (h (i, x)) (filter_map h (enumerate_from (i + 1) (drop (i + 1) xs)))
  next_is xs i x at =
      let inside : i < length xs = slice_get_within xs i x at in
      let is : slice_index_or xs i x ≡ x = get_or_from_slice_get xs i x x at in
      rw (drop-cons xs i x inside, is, add-one) refl

  with_next : (deps : List M) (found : Option M) (rest : List Y)
      → map view (deps ++ cons_option found []) ++ rest ≡ map view deps ++ cons_option (option_map view found) rest
  with_next deps None rest = ap (λ ms. map view ms ++ rest) (append-nil deps)
  with_next deps (Some m) rest =
      ap (λ ys. ys ++ rest) (map-append view deps (m ∷ [])) ∙ append_assoc (map view deps) (view m ∷ []) rest

  pub gathered : (xs : List D) (i : ℕ) (x : D) (deps new : List M) (found : Option M) (whole : List Y)
      → slice_get xs i ≡ Some x → option_map view found ≡ h (i, x) → new ≡ deps ++ cons_option found []
      → map view deps ++ filter_map h (enumerate_from i (drop i xs)) ≡ whole
      → map view new ++ filter_map h (enumerate_from (i + 1) (drop (i + 1) xs)) ≡ whole
  gathered xs i x deps new found whole at same grown so =
      let rest = filter_map h (enumerate_from (i + 1) (drop (i + 1) xs)) in
      ap (λ ms. map view ms ++ rest) grown
      ∙ (with_next deps found rest
      ∙ (ap (λ o. map view deps ++ cons_option o rest) same
      ∙ (ap (λ ys. map view deps ++ ys) (sym (next_is xs i x at)) ∙ so)))

all_one : {M : Type 0} (P : M → Type 0) (m : M) → P m → All P (m ∷ [])
all_one P m is zero d below = is
all_one P m is (suc k) d below = absurd (omega arith)

-- a property of all declarations is kept when one more is found
pub all_with : {M : Type 0} (P : M → Type 0) (deps new : List M) (found : Option M) → All P deps → IfSome found P
    → new ≡ deps ++ cons_option found [] → All P new
all_with P deps new None all is grown = subst (λ ms. All P ms) (sym (grown ∙ append-nil deps)) all
all_with P deps new (Some m) all is grown = subst (λ ms. All P ms) (sym grown)
    (All-append P deps (m ∷ []) all (all_one P m is))

pub all_of_none : {M : Type 0} (P : M → Type 0) (deps : List M) → deps ≡ [] → All P deps
all_of_none P deps none = subst (λ ms. All P ms) (sym none) (All-nil P)

-- ---- one declaration

module _ (agrees : List ℕ → List ℕ → Bool) (g : Graph) (place : ℕ) (tree : Value) (index : ℕ) (d : Dependency) where
  pub unresolved : resolution g place d ≡ None → None ≡ declared_at agrees g place tree (index, d)
  unfolding declared_at
  unresolved none =
      sym (ap (option_and_then (λ child. option_map (declared_by index d child) (found_in agrees tree d))) none)

  resolved_so : (child : ℕ) (o : Option (Key × Value)) → resolution g place d ≡ Some child
      → o ≡ found_in agrees tree d
      → option_map (declared_by index d child) o ≡ declared_at agrees g place tree (index, d)
  unfolding declared_at
  resolved_so child o resolves found = ap (option_map (declared_by index d child)) found
      ∙ sym (ap (option_and_then (λ n. option_map (declared_by index d n) (found_in agrees tree d))) resolves)

  pub not_written : (child : ℕ) (o : Option (Bor (Key × Value))) → resolution g place d ≡ Some child
      → option_copied o ≡ found_in agrees tree d → o ≡ None → None ≡ declared_at agrees g place tree (index, d)
  not_written child o resolves found none =
      resolved_so child None resolves (sym (ap option_copied none) ∙ found)

  pub written_so : (child : ℕ) (o : Option (Bor (Key × Value))) (entry : Bor (Key × Value)) (declared : Declared)
      → resolution g place d ≡ Some child → option_copied o ≡ found_in agrees tree d → o ≡ Some entry
      → declared ≡ declared_by index d child entry.now
      → Some declared ≡ declared_at agrees g place tree (index, d)
  written_so child o entry declared resolves found some is =
      ap (λ x. Some x) is ∙ resolved_so child (Some entry.now) resolves (sym (ap option_copied some) ∙ found)

-- the parts that are read from an entry's value
pub declared_parts : (index : ℕ) (d : Dependency) (child : ℕ) (entry : Key × Value)
    (version : Option (Spanned (List Held))) (workspace : Option (Spanned Bool)) (rename : Option (Spanned (List ℕ)))
    → version ≡ version_of entry.1
    → workspace ≡ workspace_of entry.1 → rename ≡ rename_of entry.1
    → (let declared : Declared = record {
      index = index;
      declaration = d;
      child = child;
      key = entry.0.span;
      value = span_in entry.1;
      version_req = version;
      workspace = workspace;
      rename = rename;
    } in declared) ≡ declared_by index d child entry
declared_parts index d child entry version workspace rename e f h = cc
