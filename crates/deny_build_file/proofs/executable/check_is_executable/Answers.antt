use Rattle.std.proofs.Common.{Err, arith, refl, take}
use Rattle.deny_base_disk.proofs.PieceLemmas.{faults_handed}
use Rattle.deny_build_file.proofs.EndLemmas.{end_handed, memory_no_fault, memory_not_long}
use Rattle.deny_build_file.proofs.PrefixLemmas.{kind_reported}
use Rattle.deny_build_file.specs.CheckEnd.{failed_calls}
use Rattle.deny_build_file.specs.declared.check_end.CheckEnd.TheVariants.{Memory}
use Rattle.deny_build_file.proofs.executable.check_is_executable.Goals as goal

-- the prefix was not read
pub returns-in_err-n-clause-later : goal.returns-in_err-n-clause-later
returns-in_err-n-clause-later g c = c.prefix_of.ensures.later

pub returns-in_err-n-clause-fault : goal.returns-in_err-n-clause-fault
returns-in_err-n-clause-fault g c = λ is.
    let handed = end_handed _ c.in_err-n.field-0.0 _ c.from_residual.ensures.1 is in
    c.in_err-n.ensures.fault (λ i. Err (handed i))

pub returns-in_err-n-clause-faults : goal.returns-in_err-n-clause-faults
returns-in_err-n-clause-faults g c = faults_handed failed_calls c.from_residual.result c.in_err-n.field-0.0 _ _ _
    c.from_residual.ensures.1 refl c.in_err-n.ensures.faults

pub returns-in_err-n-clause-never_long : goal.returns-in_err-n-clause-never_long
returns-in_err-n-clause-never_long g c = λ is.
    let handed = end_handed _ c.in_err-n.field-0.0 _ c.from_residual.ensures.1 is in
    c.in_err-n.ensures.never_long (λ i. Err (handed i))

-- out of memory
pub returns-in_err-executable_in-clause-later : goal.returns-in_err-executable_in-clause-later
returns-in_err-executable_in-clause-later g c = c.prefix_of.ensures.later

pub returns-in_err-executable_in-clause-fault : goal.returns-in_err-executable_in-clause-fault
returns-in_err-executable_in-clause-fault g c = λ is.
    absurd (memory_no_fault _ c.from_residual-in_err-executable_in.ensures.1 is)

pub returns-in_err-executable_in-clause-faults : goal.returns-in_err-executable_in-clause-faults
returns-in_err-executable_in-clause-faults g c =
    faults_handed failed_calls c.from_residual-in_err-executable_in.result Memory _ _ _
    c.from_residual-in_err-executable_in.ensures.1 refl (omega (arith, c.in_ok-n.ensures.faults))

pub returns-in_err-executable_in-clause-never_long : goal.returns-in_err-executable_in-clause-never_long
returns-in_err-executable_in-clause-never_long g c =
    memory_not_long _ c.from_residual-in_err-executable_in.ensures.1

-- the prefix determines the kind
pub returns-clause-kind : goal.returns-clause-kind
returns-clause-kind g c = kind_reported (g.D.PackageFiles.seen c.args.disk.now).files c.args.exclude_archives
    c.args.path.now (take c.in_ok-n.n c.prefix_of.new.buffer) c.in_ok-executable_in.field-0
    c.in_ok-executable_in.ensures c.in_ok-n.ensures.prefix

pub returns-clause-few : goal.returns-clause-few
returns-clause-few g c = c.prefix_of.ensures.few

pub returns-clause-later : goal.returns-clause-later
returns-clause-later g c = c.prefix_of.ensures.later

pub returns-in_err-n-clause-few : goal.returns-in_err-n-clause-few
returns-in_err-n-clause-few g c = c.prefix_of.ensures.few

pub returns-in_err-n-clause-once : goal.returns-in_err-n-clause-once
returns-in_err-n-clause-once g c = c.prefix_of.ensures.once

pub returns-in_err-executable_in-clause-few : goal.returns-in_err-executable_in-clause-few
returns-in_err-executable_in-clause-few g c = c.prefix_of.ensures.few

pub returns-in_err-executable_in-clause-once : goal.returns-in_err-executable_in-clause-once
returns-in_err-executable_in-clause-once g c = c.prefix_of.ensures.once

pub returns-clause-once : goal.returns-clause-once
returns-clause-once g c = c.prefix_of.ensures.once

pub returns-clause-faults : goal.returns-clause-faults
returns-clause-faults g c = c.in_ok-n.ensures.faults
