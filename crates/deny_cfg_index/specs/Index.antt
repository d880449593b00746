-- The buckets of an index: names by their hashes.
use Rattle.std.specs.Prelude.{ℕ, ◌≡◌, List, [], Some, Contains, slice_get, unwrap_or}
use Rattle.std.specs.BTreeMap as tree
use Rattle.std.specs.BTreeMap.{BTreeMap}
use Rattle.std.specs.Ordering.{nat_cmp}
use Rattle.deny_cfg_index.specs.declared.bucket.Named.{Named}
use Rattle.deny_cfg_index.specs.Bucket.{Ascend, IsNamedAt}
use Rattle.deny_cfg_index.specs.Hash.{hash_of}
use Rattle.deny_cfg_index.specs.Names.{HasNumber, AreNumbers}

-- the bucket of a hash
abbrev pub bucket_at : BTreeMap ℕ (List Named) → ℕ → List Named
bucket_at buckets hash = unwrap_or (tree.get nat_cmp buckets hash) []

-- a name of this hash, with all its numbers
pub record IsEntry (names : List (List ℕ)) (hash : ℕ) (named : Named) : Type 0 where
  pub hashed : hash_of named.name ≡ hash
  pub are : AreNumbers names named.name named.numbers
  pub some : (i : ℕ) × Contains named.numbers i

-- a bucket has the names of its hash, each once and with all its numbers
pub record IsBucket (names : List (List ℕ)) (hash : ℕ) (bucket : List Named) : Type 0 where
  pub ascend : Ascend bucket
  pub each : (index : ℕ) (named : Named) → slice_get bucket index ≡ Some named → IsEntry names hash named
  pub all : (i : ℕ) (name : List ℕ) → HasNumber names name i → hash_of name ≡ hash
      → (index : ℕ) × IsNamedAt bucket name index

abbrev pub IsIndexed : List (List ℕ) → (ℕ → List Named) → Type 0
IsIndexed names buckets = (hash : ℕ) → IsBucket names hash (buckets hash)
