-- What decides whether a script is read, and whether a package is walked.
use Rattle.std.proofs.Common.{◌≡◌, ◌∙◌, [], Bool, Option, ap, cond, not}
use Rattle.std.specs.Prelude.{◌&&◌, ◌||◌, None, is_some}
use Rattle.deny_spec.specs.Building.{Building}
use Rattle.deny_spec.specs.declared.package.Package.{Package}
use Rattle.deny_spec.specs.declared.package.Seen.{Seen}
use Rattle.deny_spec_report.specs.BuildScripts.{asks_script, is_checked, is_active, is_script_ok, is_script_right}
use Rattle.deny_spec_report.specs.BuildScripts.{is_walked}
use Rattle.deny_spec_report.specs.BuildScripts.{passes_by_script, script_of, wanted_sum}
use Rattle.deny_spec_report.specs.Members.{is_member}
use Rattle.deny_spec.specs.Graph.{Crate, Graph}
use Rattle.deny_build_scan.specs.Seen.{script_asked}
use Rattle.deny_krates_reach.specs.Reached.{executes_at_build_time}

module _ (b : Building) (g : Graph) (c : Crate) where
  -- the check of a crate depends only on whether the crate itself is reached
  checks_same : (reached other : Crate → Bool) → reached c ≡ other c → is_checked b g reached c ≡ is_checked b g other c
  unfolding is_checked
  checks_same reached other same = ap (λ (r : Bool). (not (is_script_ok b c) || is_active b.executables)
      && ((not (is_member g c) || b.with_workspace)
      && (executes_at_build_time c || (b.with_dependencies && r)))) same

  pub asked_same : (reached other : Crate → Bool) → reached c ≡ other c
      → script_asked b g reached c ≡ script_asked b g other c
  unfolding asks_script
  asked_same reached other same =
      ap (λ (r : Bool). cond (r && (is_some (wanted_sum b c) || not (is_script_ok b c))) (script_of c) None)
      (checks_same reached other same)

  -- whether a package is walked depends only on its script
  pub walks_by_script : (reached : Crate → Bool) (p q : Package) → p.script ≡ q.script
      → is_walked b g reached p c ≡ is_walked b g reached q c
  unfolding is_walked passes_by_script is_script_right
  walks_by_script reached p q same =
      ap (λ (s : Option Seen). is_walked b g reached (record { script = s; unlisted = []; files = [] }) c) same

  pub walks_same : (reached other : Crate → Bool) (p q : Package) → reached c ≡ other c → p.script ≡ q.script
      → is_walked b g reached p c ≡ is_walked b g other q c
  unfolding is_walked
  walks_same reached other p q same script =
      ap (λ (r : Bool). r && (is_script_ok b c && not (passes_by_script b p c))) (checks_same reached other same)
      ∙ walks_by_script other p q script
