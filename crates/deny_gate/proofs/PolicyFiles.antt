-- The files of a policy that was read, and the number of the lock text behind them.
use Rattle.std.proofs.Common.{◌≡◌, ◌∙◌, ◌+◌, ◌<◌, ◌≤◌, ◌^◌, ◌∷◌, ℕ, List, Option, None, Some, ap, arith, length, refl}
use Rattle.std.proofs.Common.{subst, sym}
use Rattle.std.specs.Prelude.{IfSome}
use Rattle.deny_base.specs.declared.files.File.{File}
use Rattle.deny_cfg.proofs.BuiltLaws.{globs_read, next_file}
use Rattle.deny_cfg.specs.Current.{current_bans}
use Rattle.deny_cfg.specs.PolicyText.{IsPolicyOf, globs_files, policy_file, policy_files}
use Rattle.deny_cfg.specs.PolicyView.{AreGlobsRead, builtin_file_of}
use Rattle.deny_cfg.specs.declared.bans.cfg.valid.ValidConfig.{ValidConfig}
use Rattle.deny_cfg.specs.declared.policy.Policy.{Policy}
use Rattle.deny_cfg_entries.specs.declared.day.Day.{Day}
use Rattle.deny_gate.specs.Report.{lock_id, policy_id}

pub read_there : (today : Option Day) (text : List ℕ) (policy : Policy) → IsPolicyOf today text policy_id policy
    → AreGlobsRead policy.bans
read_there today text policy is = globs_read today text policy_id policy is

-- what counts on a day is of the file of the written text
pub file_number : (today : Option Day) (text : List ℕ) (policy : Policy) → IsPolicyOf today text policy_id policy
    → policy.bans.file_id ≡ policy_id
unfolding current_bans
file_number today text policy is = ap (λ (bans : ValidConfig). bans.file_id) is.current.bans ∙ is.valid.file_id

lock_behind : (text : List ℕ) (globs : Option ℕ) → IfSome globs (λ n. n ≡ 1)
    → length (policy_file text ∷ globs_files globs) ≡ lock_id globs
lock_behind text None at = refl
lock_behind text (Some n) at = ap (λ (m : ℕ). m + 1) (sym at)

one_or_two : (text : List ℕ) (globs : Option ℕ) → length (policy_file text ∷ globs_files globs) ≤ 2
one_or_two text None = omega arith
one_or_two text (Some n) = omega arith

pub few_files : (text : List ℕ) (policy : Policy) (files : List File) → files ≡ policy_files text policy.bans
    → length files < 2 ^ 31
few_files text policy files same =
    let few : length files ≤ 2 = subst (λ (fs : List File). length fs ≤ 2) (sym same)
    (one_or_two text (builtin_file_of policy.bans)) in
    omega (arith, few)

pub lock_number : (today : Option Day) (text : List ℕ) (policy : Policy) (files : List File)
    → IsPolicyOf today text policy_id policy → files ≡ policy_files text policy.bans
    → length files ≡ lock_id (builtin_file_of policy.bans)
lock_number today text policy files is same = ap (λ (fs : List File). length fs) same
    ∙ lock_behind text (builtin_file_of policy.bans) (next_file today text policy_id policy is)
