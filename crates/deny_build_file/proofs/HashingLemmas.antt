-- A checksum that takes a file piece by piece.
use Rattle.std.proofs.Common.{◌≡◌, ℕ, Bool, true, false, Err, nat_lt, Ok, Result, ◌^◌, ◌+◌, ◌<◌, ◌≤◌, List, ◌++◌}
use Rattle.std.proofs.Common.{length, take, Option, None, Some, IfSome, sym, ap, subst, ◌∙◌, arith, rules}
use Rattle.std.proofs.Common.{length-append}
use Rattle.std.proofs.lemmas.Bool.{ltb-false}
use Rattle.std.proofs.lemmas.List.{append-nil, length-take, length-take-le, take_all}
use Rattle.sha2.specs.Hashers.{Holds256}
use Rattle.sha2.specs.declared.Sha256.{Sha256}
use Rattle.deny_base_disk.specs.Count.{counted}
use Rattle.deny_base_disk.specs.Disk.{Disk, Files, IsLater, IsPieceOf, bytes_at}
use Rattle.deny_base_disk.proofs.PieceLemmas.{reading_more}
use Rattle.deny_build_file.specs.declared.check_end.CheckEnd.{CheckEnd}
use Rattle.deny_build_file.specs.private.Hashing.{IsHashing, HasHashed}

pub hashing_more : (start old new : Disk) (path buf : List ℕ) (before after : Sha256) (count n : ℕ)
    → n ≤ length buf → IsHashing start old path before count → IsLater old new → new.given ≡ counted old.given n
    → new.faults ≡ old.faults → IfSome old.files (λ files. IsPieceOf (bytes_at files path) count n buf)
    → ((m : List ℕ) → Holds256 before m → Holds256 after (m ++ take n buf))
    → IsHashing start new path after (count + n)
hashing_more start old new path buf before after count n fits hashing later given same next taken = record {
  message = hashing.message ++ take n buf;
  holds = taken hashing.message hashing.holds;
  long = omega (arith, length-append hashing.message (take n buf), length-take-le n buf fits, hashing.long);
  reading = reading_more start old new path hashing.message buf count n fits (sym hashing.long) hashing.reading later
      given same next;
}

abbrev bool_of : Result Bool CheckEnd → Bool
bool_of (Ok b) = b
bool_of (Err e) = true

pub none_left : (n : ℕ) → ◌≡◌ {A = Result Bool CheckEnd} (Ok (nat_lt 0 n)) (Ok false) → n ≡ 0
none_left n e = omega (arith, ltb-false 0 n (ap bool_of e))

-- what was read is the whole text where the next read gives nothing
all_read : (known : Option Files) (path message buf : List ℕ) (after : Sha256) (count n : ℕ) → n ≡ 0
    → length message ≡ count → 0 < length buf → Holds256 after message
    → IfSome known (λ files. message ≡ take (length message) (bytes_at files path))
    → IfSome known (λ files. IsPieceOf (bytes_at files path) count n buf)
    → IfSome known (λ files. Holds256 after (bytes_at files path) × (length (bytes_at files path) ≡ count + n))
all_read None path message buf after count n none long room holds prefix next = search rules
all_read (Some files) path message buf after count n none long room holds prefix next =
    let text = bytes_at files path in
    let end = next.ends none room in
    let whole : message ≡ text = prefix ∙ take_all (length message) text (omega (arith, end, long)) in
    let size : length text ≡ length message = ap length (sym whole) in
    (subst (Holds256 after) whole holds, omega (arith, size, long, none))

pub hashing_ended : (start old : Disk) (path buf : List ℕ) (before after : Sha256) (count n : ℕ) → n ≡ 0
    → 0 < length buf → IsHashing start old path before count
    → IfSome old.files (λ files. IsPieceOf (bytes_at files path) count n buf)
    → ((m : List ℕ) → Holds256 before m → Holds256 after (m ++ take n buf))
    → HasHashed start path after (count + n)
hashing_ended start old path buf before after count n none room hashing next taken =
    let P : Option Files → Type 0 = λ known. IfSome known (λ files. IsPieceOf (bytes_at files path) count n buf) in
    let same : hashing.message ++ take n buf ≡ hashing.message
    = ap (λ k. hashing.message ++ take k buf) none ∙ append-nil hashing.message in
    all_read start.files path hashing.message buf after count n none hashing.long room
    (subst (Holds256 after) same (taken hashing.message hashing.holds))
    hashing.reading.text (subst P hashing.reading.later.files next)

pub short_told : (known : Option Files) (path : List ℕ) (hasher : Sha256) (count : ℕ) → count < 2 ^ 40
    → IfSome known (λ files. Holds256 hasher (bytes_at files path) × (length (bytes_at files path) ≡ count))
    → IfSome known (λ files. length (bytes_at files path) < 2 ^ 40)
short_told None path hasher count few told = search rules
short_told (Some files) path hasher count few told = omega (arith, told.1)

pub long_told : (known : Option Files) (path message : List ℕ) → 2 ^ 40 ≤ length message
    → IfSome known (λ files. message ≡ take (length message) (bytes_at files path))
    → IfSome known (λ files. 2 ^ 40 ≤ length (bytes_at files path))
long_told None path message long told = search rules
long_told (Some files) path message long told =
    let size = ap length told ∙ length-take (length message) (bytes_at files path) in omega (arith, size)
