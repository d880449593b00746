-- An index of ids.
use Rattle.std.specs.Prelude.{◌≡◌, ◌+◌, ◌*◌, ◌%◌, ◌^◌, ℕ, List, Option, fold}
use Rattle.std.specs.BTreeMap.{BTreeMap, get_by}
use Rattle.std.specs.Cmp.Lexicographic.{slice_cmp}
use Rattle.std.specs.Ordering.{nat_cmp, ordering_then}
use Rattle.std.specs.declared.cmp.Ordering.{Ordering}
use Rattle.deny_krates_sources.specs.Checked.{number_in}
use Rattle.deny_krates_sources.specs.declared.index.HashedId.{HashedId}

abbrev pub mixed : ℕ → ℕ → ℕ
mixed hash byte = (hash * 31 % 2 ^ 32 + byte) % 2 ^ 32

-- the hash of a text
abbrev pub hash_of : List ℕ → ℕ
hash_of bytes = fold mixed 0 bytes

-- the order of ids with their hashes: by their hashes, and then byte by byte
abbrev pub hashed_cmp : ℕ → List ℕ → HashedId → Ordering
hashed_cmp hash id other = ordering_then (nat_cmp hash other.hash) (slice_cmp nat_cmp id other.id.now)

abbrev pub number_by : BTreeMap HashedId ℕ → List ℕ → Option ℕ
number_by index id = get_by (hashed_cmp (hash_of id) id) index

-- looking up an id gives its index among these
pub record IsIndex (index : BTreeMap HashedId ℕ) (ids : List (List ℕ)) : Type 0 where
  pub at : (id : List ℕ) → number_by index id ≡ number_in ids id
