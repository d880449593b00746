-- The lengths of the generated texts, for up to 20000 crates.
use Rattle.std.proofs.Common.{◌+◌, ◌*◌, ◌/◌, ◌%◌, ◌<◌, ◌≤◌, ◌^◌, ◌==◌, ◌++◌, ℕ, zero, suc, Bool, true, false, List, []}
use Rattle.std.proofs.Common.{length, codes, arith, if◌then◌else◌}
use Rattle.std.specs.Fmt.{decimal}
use Rattle.std.specs.List.{flat_map, range_with_len}
use Rattle.std.proofs.lemmas.Fmt.{length-decimal-le}
use Rattle.std.proofs.lemmas.List.{length-append}
use Rattle.deny_cli_generator.specs.Made.{below, name_at, name_of, version_at}
use Rattle.deny_cli_generator.specs.MetadataText.{declaration_text, dep_text, id_at, member_text, metadata_text}
use Rattle.deny_cli_generator.specs.MetadataText.{naming_text, node_text, nodes_text, package_text, packages_text}
use Rattle.deny_cli_generator.specs.MetadataText.{path_text, placing_text, registry, workspace_text}
use Rattle.deny_cli_generator.specs.PolicyText.{divided, name_count, policy_text, skip_text}

-- ---- bounds of texts made of parts

-- a text with a bound of its length
record Bounded : Type 0 where
  text : List ℕ
  most : ℕ
  is : length text ≤ most

abbrev bounded : (text : List ℕ) (most : ℕ) → length text ≤ most → Bounded
bounded text most is = record { text = text; most = most; is = is }

-- a literal text, whose bound is its length
abbrev just : List ℕ → Bounded
just text = bounded text (length text) (omega arith)

abbrev before : Bounded → Bounded → Bounded
before a b = bounded (a.text ++ b.text) (a.most + b.most) (rw (length-append a.text b.text) (omega (arith, a.is, b.is)))

either : (most : ℕ) (b : Bool) (xs ys : List ℕ) → length xs ≤ most → length ys ≤ most
    → length (if b then xs else ys) ≤ most
either most true xs ys first second = first
either most false xs ys first second = second

pieces : (f : ℕ → List ℕ) (a n : ℕ) → ((m : ℕ) → m < a + n → length (f m) ≤ 400)
    → length (flat_map f (range_with_len a n)) ≤ n * 400
pieces f a zero each = omega arith
pieces f a (suc n) each =
    let here = each a (omega arith) in
    let later = pieces f (a + 1) n (λ m small. each m (omega (arith, small))) in
    rw (length-append (f a) (flat_map f (range_with_len (a + 1) n))) (omega (arith, here, later))

-- ---- the texts of a crate

module _ (n : ℕ) (small : n < 20000) where
  name_by : length (name_of n) ≤ 6
  unfolding name_of
  name_by = (before (just (codes "c"))
      (bounded (decimal n) 5 (length-decimal-le 5 n (omega arith) (omega (arith, small)) (omega (arith, small))))).is

  abbrev named : Bounded
  named = bounded (name_of n) 6 name_by

  abbrev divider : List ℕ → Bounded
  divider text = bounded (divided n text) (length text)
      (either (length text) (n == 0) [] text (omega arith) (omega arith))

  skip : length (skip_text n) ≤ 400
  unfolding skip_text
  skip =
      let text = before (divider (codes ", "))
      (before (just (codes "\"")) (before named (just (codes "@=1.0.0\"")))) in
      either 400 (n % 10 == 0) text.text [] (omega (arith, text.is)) (omega arith)

name_at_by : (n : ℕ) → n < 20000 → length (name_at n) ≤ 6
unfolding name_at
name_at_by n small = name_by (n / 2) (omega (arith, small))

version_by : (n : ℕ) → length (version_at n) ≤ 5
unfolding version_at
version_by n = either 5 (n % 2 == 0) (codes "1.0.0") (codes "2.0.0") (omega arith) (omega arith)

module _ (n : ℕ) (small : n < 20000) where
  abbrev name : Bounded
  name = bounded (name_at n) 6 (name_at_by n small)

  abbrev version : Bounded
  version = bounded (version_at n) 5 (version_by n)

  id_by : length (id_at n) ≤ 80
  unfolding id_at registry
  id_by =
      let text = before (just registry) (before (just (codes "#")) (before name (before (just (codes "@")) version)))
      in
      omega (arith, text.is)

  abbrev id : Bounded
  id = bounded (id_at n) 80 id_by

  declaration : length (declaration_text n) ≤ 400
  unfolding declaration_text
  declaration =
      let text = before (divider n small (codes ",")) (before (just (codes "{\"name\":\""))
      (before name (before (just (codes "\",\"req\":\"")) (before version (just (codes "\"}")))))) in
      omega (arith, text.is)

  naming : length (naming_text n) ≤ 200
  unfolding naming_text
  naming =
      let text = before (just (codes ",{\"name\":\"")) (before name (before (just (codes "\",\"version\":\""))
      (before version (before (just (codes "\",\"id\":\"")) id)))) in
      omega (arith, text.is)

  placing : length (placing_text n) ≤ 200
  unfolding placing_text path_text registry
  placing =
      let path = before (just (codes "/r/")) (before name (before (just (codes "-"))
      (before version (just (codes "/Cargo.toml"))))) in
      let text = before (just (codes "\",\"source\":\"")) (before (just registry)
      (before (just (codes "\",\"manifest_path\":\"")) (before path (just (codes "\"}"))))) in
      omega (arith, text.is)

  packaging : length (package_text n) ≤ 400
  unfolding package_text
  packaging = rw (length-append (naming_text n) (placing_text n)) (omega (arith, naming, placing))

  dep : length (dep_text n) ≤ 400
  unfolding dep_text
  dep =
      let text = before (divider n small (codes ","))
      (before (just (codes "{\"pkg\":\"")) (before id (just (codes "\"}")))) in
      omega (arith, text.is)

  node : length (node_text n) ≤ 400
  unfolding node_text
  node =
      let text = before (just (codes ",{\"id\":\"")) (before id (just (codes "\"}"))) in
      omega (arith, text.is)

-- ---- the whole texts

module _ (crates : ℕ) (few : crates ≤ 20000) where
  -- a text for each crate
  abbrev each : (f : ℕ → List ℕ) → ((n : ℕ) → n < 20000 → length (f n) ≤ 400) → Bounded
  each f short = bounded (flat_map f (below crates)) (crates * 400)
      (pieces f 0 crates (λ m less. short m (omega (arith, few, less))))

  packages : length (packages_text (below crates)) ≤ crates * 800 + 200
  unfolding packages_text member_text
  packages =
      let text = before (just member_text) (before (just (codes ",\"dependencies\":["))
      (before (each declaration_text declaration) (before (just (codes "]}")) (each package_text packaging)))) in
      omega (arith, text.is)

  nodes : length (nodes_text (below crates)) ≤ crates * 800 + 200
  unfolding nodes_text
  nodes =
      let text = before (just (codes "{\"id\":\"app\",\"deps\":[")) (before (each dep_text dep)
      (before (just (codes "]}")) (each node_text node))) in
      omega (arith, text.is)

  pub short_metadata : length (metadata_text crates) < 2 ^ 28
  unfolding metadata_text workspace_text
  short_metadata =
      let first = bounded (packages_text (below crates)) (crates * 800 + 200) packages in
      let last = bounded (nodes_text (below crates)) (crates * 800 + 200) nodes in
      let text = before (just (codes "{\"packages\":[")) (before first (before (just workspace_text)
      (before last (just (codes "]}}"))))) in
      omega (arith, few, text.is)

  pub short_policy : length (policy_text crates) < 2 ^ 28
  unfolding policy_text
  short_policy =
      let names = bounded (flat_map skip_text (below (name_count crates))) (name_count crates * 400)
      (pieces skip_text 0 (name_count crates) (λ m less. skip m (omega (arith, few, less)))) in
      let text = before (just (codes "[bans]\nmultiple-versions = \"deny\"\ndeny = [\"c1\"]\nskip = ["))
      (before names (just (codes "]\n"))) in
      omega (arith, few, text.is)
