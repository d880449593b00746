-- How the check of a file ends, and what was read by then.
use Rattle.std.proofs.Common.{◌≡◌, ℕ, ◌≤◌, Result, Ok, Err, IfOk, IsErrAnd, refl, arith}
use Rattle.std.specs.Prelude.{IsErrOf, MatchResult}
use Rattle.deny_base_disk.specs.Count.{RoseBy}
use Rattle.deny_base_disk.specs.declared.disk.DiskError.{DiskError}
use Rattle.deny_base_disk.specs.declared.disk.DiskError.TheVariants.{Failed, Memory}
use Rattle.deny_build_file.specs.CheckEnd.{check_end_of}
use Rattle.deny_build_file.specs.declared.check_end.CheckEnd.{CheckEnd}
use Rattle.deny_build_file.specs.declared.check_end.CheckEnd.TheVariants.{Fault, Long, Memory as OutOfMemory}

-- out of memory is neither a fault nor too long
pub memory_no_fault : {T : Type 0} (r : Result T CheckEnd) → IsErrAnd r (λ e. e ≡ OutOfMemory) → IsErrOf r Fault → ⊥
memory_no_fault (Ok x) memory is = memory
memory_no_fault (Err e) memory is = cc

pub memory_not_long : {T : Type 0} (r : Result T CheckEnd) → IsErrAnd r (λ e. e ≡ OutOfMemory) → IsErrOf r Long → ⊥
memory_not_long (Ok x) memory is = memory
memory_not_long (Err e) memory is = cc

-- only a failed call is a fault
pub disk_failed : {T : Type 0} (r : Result T CheckEnd) (error : DiskError) → IsErrAnd r (λ e. e ≡ check_end_of error)
    → IsErrOf r Fault → error ≡ Failed
disk_failed (Ok x) error ended is = absurd ended
disk_failed (Err e) Failed ended is = refl
disk_failed (Err e) Memory ended is = cc

pub disk_not_long : {T : Type 0} (r : Result T CheckEnd) (error : DiskError)
    → IsErrAnd r (λ e. e ≡ check_end_of error) → IsErrOf r Long → ⊥
disk_not_long (Ok x) error ended is = ended
disk_not_long (Err e) Failed ended is = cc
disk_not_long (Err e) Memory ended is = cc

-- a result that is an error has no value to speak of
pub no_value : {T : Type 0} (Q : T → Type 0) (r : Result T CheckEnd) (end : CheckEnd) → IsErrAnd r (λ e. e ≡ end)
    → IfOk r Q
no_value Q (Ok x) end ended = absurd ended
no_value Q (Err e) end ended = tt

-- what is so of every error
pub ended_so : {T : Type 0} (P : T → Type 0) (Q : Type 0) (r : Result T CheckEnd) (end : CheckEnd)
    → IsErrAnd r (λ e. e ≡ end) → Q → MatchResult r P (λ _. Q)
ended_so P Q (Ok x) end ended holds = absurd ended
ended_so P Q (Err e) end ended holds = holds

-- an error that is handed on is that error
pub end_handed : {T : Type 0} (r : Result T CheckEnd) (first end : CheckEnd) → IsErrAnd r (λ e. e ≡ first)
    → IsErrOf r end → first ≡ end
end_handed (Ok x) first end ended is = absurd ended
end_handed (Err e) first end ended is = cc

-- a count that rose by at least a number rose by at least any lesser one
pub rose_by_less : (most least before after : ℕ) → least ≤ most → RoseBy most before after → RoseBy least before after
rose_by_less most least before after less rose = omega arith
