-- An index that gains a name, and what is found in a bucket.
use Rattle.std.specs.Prelude.{ℕ, ◌≡◌, ◌≢◌, List}
use Rattle.deny_cfg_index.specs.declared.bucket.Named.{Named}
use Rattle.deny_cfg_index.specs.private.Bucket.{IsExtended}
use Rattle.deny_cfg_index.specs.Hash.{hash_of}
use Rattle.deny_cfg_index.specs.Names.{AreNumbers, AreFirstNumbers, KeepsBound}
use Rattle.deny_cfg_index.specs.Index.{IsBucket}

-- the number is added to its name in the bucket of the name's hash, and the other buckets do not change
pub record Extends (old : ℕ → List Named) (name : List ℕ) (number : ℕ) (new : ℕ → List Named) : Type 0 where
  pub own : IsExtended (old (hash_of name)) name number (new (hash_of name))
  pub others : (hash : ℕ) → hash ≢ hash_of name → new hash ≡ old hash

abbrev pub Stays : (ℕ → List Named) → (ℕ → List Named) → Type 0
Stays old new = (hash : ℕ) → new hash ≡ old hash

-- the numbers of the name, or a prefix of them, for any names of which this is the bucket
abbrev pub GivesNumbers : List Named → List ℕ → List ℕ → Type 0
GivesNumbers bucket name numbers = (names : List (List ℕ)) → IsBucket names (hash_of name) bucket
    → AreNumbers names name numbers

abbrev pub GivesFirst : List Named → List ℕ → List ℕ → Type 0
GivesFirst bucket name numbers = (names : List (List ℕ)) → IsBucket names (hash_of name) bucket
    → AreFirstNumbers names name numbers

-- the steps in the bucket: a comparison for each halving of its names, and a step for each number
abbrev pub BoundsSteps : List Named → List ℕ → ℕ → ℕ → Type 0
BoundsSteps bucket name old new = (names : List (List ℕ)) → IsBucket names (hash_of name) bucket
    → KeepsBound names name old new
