-- The labels of globs of scripts, by their patterns.
use Rattle.std.proofs.Common.{◌≡◌, ℕ, Bool, true, false, List, [], ◌∷◌, Option, Some, None, cond, filter, map, codes}
use Rattle.std.proofs.Common.{refl, sym, ap, ◌∙◌}
use Rattle.std.specs.Prelude.{if◌then◌else◌, option_and_then, unwrap_or}
use Rattle.std.specs.Option.{option_map_or}
use Rattle.deny_base.specs.declared.label.Label.{Label}
use Rattle.deny_cfg_build.specs.BuildingView.{globs_file, is_built_in, script_glob_view, words_of}
use Rattle.deny_cfg_build.specs.Globs.{extension_text}
use Rattle.deny_cfg_build.specs.declared.pattern.GlobPattern.{GlobPattern}
use Rattle.deny_cfg_build.specs.declared.valid.ValidBuildConfig.{ValidBuildConfig}
use Rattle.deny_spec.specs.declared.package.PackageFile.{PackageFile}
use Rattle.deny_spec_report.specs.Circumstances.{FileNumbers}
use Rattle.deny_spec_report.specs.PackageFiles.{is_decided_by}
use Rattle.deny_spec_report.specs.PackageDiags.{script_glob_label}
use Rattle.deny_spec.specs.DiagParts.{secondary}
use Rattle.deny_diags_build.specs.private.Globs.{script_label}

-- the number of the file of the built-in globs; 0 where there is none
or_none : (o : Option ℕ) → unwrap_or o 0 ≡ option_map_or (λ number. number) o 0
or_none None = refl
or_none (Some number) = refl

pub number_of : (build : ValidBuildConfig) (o : Option ValidBuildConfig) (file : Option ℕ) (number : ℕ)
    → o ≡ Some build → file ≡ globs_file build → number ≡ unwrap_or file 0
    → number ≡ option_map_or (λ n. n) (option_and_then globs_file o) 0
number_of build o file number is given by =
    by ∙ (or_none file ∙ (ap (λ f. option_map_or (λ n. n) f 0) given
    ∙ ap (λ (b : Option ValidBuildConfig). option_map_or (λ n. n) (option_and_then globs_file b) 0) (sym is)))

module _ (files : FileNumbers) (number : ℕ) (f : PackageFile)
    (is : number ≡ option_map_or (λ n. n) files.globs 0) where
  label_seen : (p : GlobPattern)
      → script_label files.policy number p ≡ script_glob_label files (script_glob_view p)
  label_seen p = ap (λ n. if is_built_in p then secondary n (words_of p).span (codes "builtin")
      else secondary files.policy (words_of p).span []) is

  -- the labels of the patterns that decide about a file
  pub labels_seen : (patterns : List GlobPattern)
      → map (script_label files.policy number) (filter (λ p. is_decided_by f (extension_text p)) patterns)
      ≡ map (script_glob_label files) (filter (λ e. is_decided_by f e.text) (map script_glob_view patterns))
  labels_seen [] = refl
  labels_seen (p ∷ ps) = by_test (is_decided_by f (extension_text p)) (labels_seen ps)
    where
      by_test : (b : Bool)
          → map (script_label files.policy number) (filter (λ q. is_decided_by f (extension_text q)) ps)
          ≡ map (script_glob_label files) (filter (λ e. is_decided_by f e.text) (map script_glob_view ps))
          → map (script_label files.policy number) (cond b (p ∷ filter (λ q. is_decided_by f (extension_text q)) ps)
          (filter (λ q. is_decided_by f (extension_text q)) ps))
          ≡ map (script_glob_label files) (cond b (script_glob_view p
          ∷ filter (λ e. is_decided_by f e.text) (map script_glob_view ps))
          (filter (λ e. is_decided_by f e.text) (map script_glob_view ps)))
      by_test true rest =
          ap (λ (l : Label). l ∷ map (script_label files.policy number)
          (filter (λ q. is_decided_by f (extension_text q)) ps)) (label_seen p)
          ∙ ap (λ (ls : List Label). script_glob_label files (script_glob_view p) ∷ ls) rest
      by_test false rest = rest
