use Rattle.std.proofs.Common.{◌∙◌, ◌<◌, ◌^◌, arith, refl, subst, sym}
use Rattle.std.proofs.lemmas.Bool.{false≢true}
use Rattle.deny_base_disk.specs.Children.{AreListed}
use Rattle.deny_base_disk.proofs.CallLemmas.{after_failure, after_memory, failure_counted, failure_later, memory_later}
use Rattle.deny_base_disk.proofs.CallLemmas.{memory_listed, memory_no_failure}
use Rattle.deny_base_disk.proofs.ChildrenLemmas.{children_listed}
use Rattle.deny_base_disk.proofs.memory_disk.MemoryDiskPackageFiles.list.Goals as goal

-- the disk failed the call
pub returns-then-not-is_listing-clause-later : goal.returns-then-not-is_listing-clause-later
returns-then-not-is_listing-clause-later c =
    let below : c.self.inside.faults < 2 ^ 64 = omega arith in
    failure_later _ c.args.self.now c.count_fault.new.self c.self.view_is below
    (after_failure _ _ _ _ c.self.view_is c.saturating_add-self-inside.ensures c.count_fault.ensures)

pub returns-then-not-is_listing-clause-failed : goal.returns-then-not-is_listing-clause-failed
returns-then-not-is_listing-clause-failed c = λ _. failure_counted c.args.self.now c.count_fault.new.self _ _
    (after_failure _ _ _ _ c.self.view_is c.saturating_add-self-inside.ensures c.count_fault.ensures)

pub returns-then-not-is_listing-clause-exact : goal.returns-then-not-is_listing-clause-exact
returns-then-not-is_listing-clause-exact c = (λ _. sym c.if-not-is_listing.ensures, λ _. refl)

pub returns-then-not-is_listing-clause-after : goal.returns-then-not-is_listing-clause-after
returns-then-not-is_listing-clause-after c =
    after_failure _ _ _ _ c.self.view_is c.saturating_add-self-inside.ensures c.count_fault.ensures

-- memory ran out
pub returns-in_err-entries-clause-later : goal.returns-in_err-entries-clause-later
returns-in_err-entries-clause-later c = memory_later _ _ c.self.view_is

pub returns-in_err-entries-clause-listed : goal.returns-in_err-entries-clause-listed
returns-in_err-entries-clause-listed c =
    memory_listed c.from_residual.result _ _ _ c.from_residual.ensures.1 c.self.view_is

pub returns-in_err-entries-clause-failed : goal.returns-in_err-entries-clause-failed
returns-in_err-entries-clause-failed c = λ is. absurd (memory_no_failure _ c.from_residual.ensures.1 is)

pub returns-in_err-entries-clause-exact : goal.returns-in_err-entries-clause-exact
returns-in_err-entries-clause-exact c = (
  λ is. absurd (memory_no_failure _ c.from_residual.ensures.1 is),
  λ fails. absurd (false≢true (sym (c.if-not-is_listing.ensures ∙ fails))),
)

pub returns-in_err-entries-clause-after : goal.returns-in_err-entries-clause-after
returns-in_err-entries-clause-after c =
    after_memory c.from_residual.result _ _ _ _ c.from_residual.ensures.1 c.self.view_is
    c.saturating_add-self-inside.ensures

-- the folder was listed
pub returns-clause-names : goal.returns-clause-names
returns-clause-names c = subst AreListed (sym c.in_ok-entries.ensures) (children_listed _ _)
