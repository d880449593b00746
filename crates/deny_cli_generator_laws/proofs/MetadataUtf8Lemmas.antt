-- The generated metadata is UTF-8: all its bytes are ASCII.
use Rattle.std.proofs.Common.{◌≡◌, ◌<◌, ◌+◌, ◌/◌, ◌%◌, ◌^◌, ◌==◌, ◌++◌, ℕ, zero, suc, Bool, true, false, List, []}
use Rattle.std.proofs.Common.{arith, codes, if◌then◌else◌, IsUtf8, refl}
use Rattle.std.proofs.lemmas.Fmt.{IsAscii-decimal}
use Rattle.std.proofs.lemmas.Str.{IsUtf8-append, IsUtf8-from_ascii, IsUtf8-nil, is_utf8-from_IsUtf8}
use Rattle.std.specs.Fmt.{decimal}
use Rattle.std.specs.List.{flat_map, range_with_len}
use Rattle.std.specs.Str.{is_utf8}
use Rattle.json.proofs.Printed.Utf8.{are_ascii, IsUtf8-are_ascii}
use Rattle.deny_cli_generator.specs.Made.{below, name_at, name_of, version_at}
use Rattle.deny_cli_generator.specs.MetadataText.{declaration_text, dep_text, id_at, member_text, metadata_text}
use Rattle.deny_cli_generator.specs.MetadataText.{naming_text, node_text, nodes_text, package_text, packages_text}
use Rattle.deny_cli_generator.specs.MetadataText.{path_text, placing_text, registry, workspace_text}
use Rattle.deny_cli_generator.specs.PolicyText.{divided}
use Rattle.deny_cli_generator_laws.proofs.MetadataClean.{IsFew}

-- a text that is UTF-8
record Written : Type 0 where
  text : List ℕ
  is : IsUtf8 text

abbrev just : (text : List ℕ) → are_ascii text ≡ true → Written
just text ascii = record { text = text; is = IsUtf8-are_ascii text ascii }

abbrev before : Written → Written → Written
before a b = record { text = a.text ++ b.text; is = IsUtf8-append a.text b.text a.is b.is }

either : (b : Bool) (prefix back : List ℕ) → IsUtf8 prefix → IsUtf8 back → IsUtf8 (if b then prefix else back)
either true prefix back first second = first
either false prefix back first second = second

pieces : (text : ℕ → List ℕ) (from count : ℕ) → ((m : ℕ) → m < from + count → IsUtf8 (text m))
    → IsUtf8 (flat_map text (range_with_len from count))
pieces text from zero each = IsUtf8-nil
pieces text from (suc count) each =
    IsUtf8-append (text from) (flat_map text (range_with_len (from + 1) count)) (each from (omega arith))
    (pieces text (from + 1) count (λ m less. each m (omega (arith, less))))

-- ---- the texts of a crate

name_of-utf8 : (number : ℕ) → IsFew number → IsUtf8 (name_of number)
unfolding name_of
name_of-utf8 number few =
    IsUtf8-append (codes "c") (decimal number) (IsUtf8-are_ascii (codes "c") refl)
    (IsUtf8-from_ascii (decimal number) (IsAscii-decimal number few))

version_at-utf8 : (number : ℕ) → IsUtf8 (version_at number)
unfolding version_at
version_at-utf8 number =
    either (number % 2 == 0) (codes "1.0.0") (codes "2.0.0") (IsUtf8-are_ascii (codes "1.0.0") refl)
    (IsUtf8-are_ascii (codes "2.0.0") refl)

registry-utf8 : IsUtf8 registry
unfolding registry
registry-utf8 = IsUtf8-are_ascii registry refl

module _ (number : ℕ) (few : IsFew number) where
  name_at-utf8 : IsUtf8 (name_at number)
  unfolding name_at
  name_at-utf8 = name_of-utf8 (number / 2) (omega (arith, few))

  abbrev name : Written
  name = record { text = name_at number; is = name_at-utf8 }

  abbrev version : Written
  version = record { text = version_at number; is = version_at-utf8 number }

  abbrev source : Written
  source = record { text = registry; is = registry-utf8 }

  abbrev comma : Written
  comma = record {
    text = divided number (codes ",");
    is = either (number == 0) [] (codes ",") IsUtf8-nil (IsUtf8-are_ascii (codes ",") refl);
  }

  id_at-utf8 : IsUtf8 (id_at number)
  unfolding id_at
  id_at-utf8 =
      (before source (before (just (codes "#") refl) (before name (before (just (codes "@") refl) version)))).is

  abbrev id : Written
  id = record { text = id_at number; is = id_at-utf8 }

  declaration-utf8 : IsUtf8 (declaration_text number)
  unfolding declaration_text
  declaration-utf8 =
      (before comma (before (just (codes "{\"name\":\"") refl) (before name
      (before (just (codes "\",\"req\":\"") refl) (before version (just (codes "\"}") refl)))))).is

  naming-utf8 : IsUtf8 (naming_text number)
  unfolding naming_text
  naming-utf8 =
      (before (just (codes ",{\"name\":\"") refl) (before name (before (just (codes "\",\"version\":\"") refl)
      (before version (before (just (codes "\",\"id\":\"") refl) id))))).is

  path-utf8 : IsUtf8 (path_text number)
  unfolding path_text
  path-utf8 =
      (before (just (codes "/r/") refl) (before name (before (just (codes "-") refl)
      (before version (just (codes "/Cargo.toml") refl))))).is

  abbrev path : Written
  path = record { text = path_text number; is = path-utf8 }

  placing-utf8 : IsUtf8 (placing_text number)
  unfolding placing_text
  placing-utf8 =
      (before (just (codes "\",\"source\":\"") refl) (before source
      (before (just (codes "\",\"manifest_path\":\"") refl) (before path (just (codes "\"}") refl))))).is

  package-utf8 : IsUtf8 (package_text number)
  unfolding package_text
  package-utf8 = IsUtf8-append (naming_text number) (placing_text number) naming-utf8 placing-utf8

  dep-utf8 : IsUtf8 (dep_text number)
  unfolding dep_text
  dep-utf8 = (before comma (before (just (codes "{\"pkg\":\"") refl) (before id (just (codes "\"}") refl)))).is

  node-utf8 : IsUtf8 (node_text number)
  unfolding node_text
  node-utf8 = (before (just (codes ",{\"id\":\"") refl) (before id (just (codes "\"}") refl))).is

-- ---- the whole text

module _ (crates : ℕ) (few : crates < 2 ^ 64) where
  -- a text for each crate
  abbrev each : (text : ℕ → List ℕ) → ((m : ℕ) → IsFew m → IsUtf8 (text m)) → Written
  each text is = record {
    text = flat_map text (below crates);
    is = pieces text 0 crates (λ m less. is m (omega (arith, few, less)));
  }

  packages-utf8 : IsUtf8 (packages_text (below crates))
  unfolding packages_text member_text
  packages-utf8 =
      (before (just member_text refl) (before (just (codes ",\"dependencies\":[") refl)
      (before (each declaration_text declaration-utf8) (before (just (codes "]}") refl)
      (each package_text package-utf8))))).is

  nodes-utf8 : IsUtf8 (nodes_text (below crates))
  unfolding nodes_text
  nodes-utf8 =
      (before (just (codes "{\"id\":\"app\",\"deps\":[") refl) (before (each dep_text dep-utf8)
      (before (just (codes "]}") refl) (each node_text node-utf8)))).is

  pub metadata-utf8 : is_utf8 (metadata_text crates) ≡ true
  unfolding metadata_text workspace_text
  metadata-utf8 =
      let packages : Written = record { text = packages_text (below crates); is = packages-utf8 } in
      let nodes : Written = record { text = nodes_text (below crates); is = nodes-utf8 } in
      is_utf8-from_IsUtf8 (metadata_text crates) (before (just (codes "{\"packages\":[") refl) (before packages
      (before (just workspace_text refl) (before nodes (just (codes "]}}") refl))))).is
