-- A lock text worked out: three crates in graph order, by version text, and their lines, by precedence.
use Rattle.std.proofs.Common.{◌≡◌, ℕ, List, [], ◌∷◌, ◌++◌, Option, None, Some, codes, map, refl}
use Rattle.std.specs.FinMap as finite
use Rattle.std.specs.Fmt.{digits}
use Rattle.deny_krates_lock.specs.Line.{line_span}
use Rattle.deny_krates_lock.specs.Order.{in_lock_order, with_crate}
use Rattle.deny_krates_lock.specs.Text.{line_start, lock_lines, lock_span_at, lock_text}
use Rattle.deny_spec.specs.Crates.{folder_of}
use Rattle.deny_spec.specs.Graph.{Crate}

crate : ℕ → List ℕ → ℕ → Option (List ℕ) → Crate
crate place name minor source = record {
  place = place;
  name = name;
  version = (1, minor, 0, [], []);
  id = name;
  source = None;
  source_text = source;
  license = None;
  manifest_path = codes "/w/b/Cargo.toml";
  publish = None;
  rust_version = None;
  features = finite.empty;
  targets = [];
  deps = [];
  enabled = [];
}

-- `b 1.10.0` from a folder, `b 1.9.0` from a registry, and `c 1.0.0`; 10 is before 9 as text
crates : List Crate
crates =
    crate 0 (codes "b") 10 None
    ∷ crate 1 (codes "b") 9 (Some (codes "reg"))
    ∷ crate 2 (codes "c") 0 (Some [])
    ∷ []

text_of_three : lock_text crates
    ≡ codes "b 1.9.0 reg" ++ 10 ∷ (codes "b 1.10.0 /w/b" ++ 10 ∷ (codes "c 1.0.0 " ++ 10 ∷ []))
unfolding lock_text lock_lines in_lock_order with_crate crates crate folder_of digits
text_of_three = refl

no_crates : lock_text [] ≡ []
unfolding lock_text lock_lines in_lock_order
no_crates = refl

-- the first crate of the graph is the second of the text; an empty source has an empty span at the end of the line
spans_of_three : map (lock_span_at crates) crates ≡
    record { total = record { start = 12; end = 25 }; source = record { start = 21; end = 25 } }
    ∷ record { total = record { start = 0; end = 11 }; source = record { start = 8; end = 11 } }
    ∷ record { total = record { start = 26; end = 34 }; source = record { start = 34; end = 34 } }
    ∷ []
unfolding line_span line_start crates crate folder_of digits
spans_of_three = refl

-- two builds of one version, which have the same precedence, are in the order of their ids
build : ℕ → List ℕ → List ℕ → Crate
build place id suffix = record (crate place (codes "d") 0 None) { id = id; version = (1, 0, 0, [], suffix) }

by_id : in_lock_order (build 0 (codes "y") (codes "a") ∷ build 1 (codes "x") (codes "z") ∷ [])
    ≡ build 1 (codes "x") (codes "z") ∷ build 0 (codes "y") (codes "a") ∷ []
unfolding in_lock_order with_crate build crate
by_id = refl
