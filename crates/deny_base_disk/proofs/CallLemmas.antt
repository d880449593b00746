-- A disk in memory after a call that gave nothing.
use Rattle.std.proofs.Common.{◌≡◌, ◌<◌, ◌^◌, ℕ, List, Result, Ok, Err, IsErrAnd, refl, sym, ap, subst, ◌∙◌, arith}
use Rattle.std.specs.Prelude.{IsErrOf, MatchResult}
use Rattle.deny_base_disk.specs.Count.{counted}
use Rattle.deny_base_disk.specs.Disk.{FailedAt, IsLater}
use Rattle.deny_base_disk.specs.MemoryDisk.{Memory, called, failed_by, memory_seen}
use Rattle.deny_base_disk.specs.declared.disk.Call.{Call}
use Rattle.deny_base_disk.specs.declared.disk.DiskError.{DiskError}
use Rattle.deny_base_disk.specs.declared.disk.DiskError.TheVariants.{Failed, Memory as OutOfMemory}
use Rattle.deny_base_disk.proofs.PieceLemmas.{later_same}

-- ---- the disk failed the call

pub after_failure : (inside m new : Memory) (calls : ℕ) → inside ≡ m → calls ≡ counted inside.calls 1
    → new ≡ record inside { calls = calls; faults = counted inside.faults 1 } → new ≡ failed_by Failed m
after_failure inside m new calls view number is =
    is ∙ (λ i. record inside { calls = number i; faults = counted inside.faults 1 }) ∙ ap (failed_by Failed) view

pub failure_later : (inside m new : Memory) → inside ≡ m → inside.faults < 2 ^ 64 → new ≡ failed_by Failed m
    → IsLater (memory_seen m) (memory_seen new)
failure_later inside m new view below is =
    let within : m.faults < 2 ^ 64 = subst (λ (k : Memory). k.faults < 2 ^ 64) view below in
    subst (λ n. IsLater (memory_seen m) (memory_seen n)) (sym is) (record {
      files = refl;
      faults = omega (arith, within);
      faults_at = λ call path. omega (arith, within);
      given = omega arith;
      listed = omega arith;
    })

pub failure_counted : (m new : Memory) (call : Call) (path : List ℕ) → new ≡ failed_by Failed m
    → FailedAt (memory_seen m) (memory_seen new) call path
failure_counted m new call path is = subst (λ n. FailedAt (memory_seen m) (memory_seen n) call path) (sym is) (record {
  faults = omega arith;
  faults_at = omega arith;
})

-- ---- memory ran out

pub after_memory : {T : Type 0} (r : Result T DiskError) (P : T → Type 0) (inside m : Memory) (calls : ℕ)
    → IsErrAnd r (λ e. e ≡ OutOfMemory) → inside ≡ m → calls ≡ counted inside.calls 1
    → MatchResult r P (λ error. record inside { calls = calls } ≡ failed_by error m)
after_memory (Ok x) P inside m calls memory view number = absurd memory
after_memory (Err e) P inside m calls memory view number =
    (λ i. record inside { calls = number i }) ∙ ap called view ∙ (λ i. failed_by (sym memory i) m)

pub memory_later : (inside m : Memory) → inside ≡ m → IsLater (memory_seen m) (memory_seen inside)
memory_later inside m view =
    subst (λ k. IsLater (memory_seen k) (memory_seen inside)) view (later_same (memory_seen inside))

pub memory_listed : {T : Type 0} (r : Result T DiskError) (P : T → Type 0) (inside m : Memory)
    → IsErrAnd r (λ e. e ≡ OutOfMemory) → inside ≡ m → MatchResult r P (λ _. inside.listed ≡ m.listed)
memory_listed (Ok x) P inside m memory view = absurd memory
memory_listed (Err e) P inside m memory view = ap (λ (k : Memory). k.listed) view

pub memory_no_failure : {T : Type 0} (r : Result T DiskError) → IsErrAnd r (λ e. e ≡ OutOfMemory) → IsErrOf r Failed
    → ⊥
memory_no_failure (Ok x) memory is = memory
memory_no_failure (Err e) memory is = cc
