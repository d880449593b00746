-- The hash of a name.
use Rattle.std.specs.Prelude.{ℕ, ◌+◌, ◌*◌, ◌^◌, ◌%◌, List, fold}

abbrev pub mixed : ℕ → ℕ → ℕ
mixed hash byte = (hash * 31 % 2 ^ 32 + byte) % 2 ^ 32

abbrev pub hash_of : List ℕ → ℕ
hash_of bytes = fold mixed 0 bytes
