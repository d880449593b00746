use Rattle.std.proofs.Common.{◌≡◌, ◌∙◌, ℕ, Bor, Contains, List, Some, ap, find, map, option_map, subst, sym}
use Rattle.std.specs.Prelude.{◌↔◌, option_and_then, slice_get}
use Rattle.std.specs.Option.{option_copied}
use Rattle.std.proofs.lemmas.Result.{IfOk-weaker}
use Rattle.deny_cfg_build.specs.BuildingView.{bypass_view, path_view}
use Rattle.deny_spec_report.specs.PackageFiles.{path_of_used}
use Rattle.deny_cfg_tables.specs.declared.bans.cfg.bypass.BypassPath.{BypassPath}
use Rattle.deny_build_bypass.specs.private.Paths.{spelled}
use Rattle.deny_build_bypass.specs.private.Components.{has_components_at}
use Rattle.deny_build_bypass.proofs.PathLemmas.{none_allowed, path_found}
use Rattle.deny_build_bypass.proofs.paths.Allowed.path_of.Goals as goal

pub returns-then-is_empty : goal.returns-then-is_empty
returns-then-is_empty c =
    none_allowed (option_copied c.args.self.now.bypass) c.files_of-files.result.now c.args.path.now
    c.files_of-files.ensures (sym c.is_empty.ensures ∙ c.if-is_empty.true)

pub returns : goal.returns
returns c =
    let self = c.args.self.now in
    let bypass = option_copied self.bypass in
    let path = c.args.path.now in
    let text : Bor (List ℕ) → List ℕ = λ name. name.now in
    let names = map text c.as_slice-3.result.now in
    let asked = c.as_str.result.now in
    let numbers = c.numbers_of.new.numbers.items in
    let files = c.files_of-files.result.now in
    IfOk-weaker c.first_with.result
    (λ found. option_copied found
    ≡ option_and_then (slice_get files) (find (has_components_at files names) c.as_slice-2.result.now))
    (λ found. option_map (λ (file : Bor BypassPath). path_view file.now) found
    ≡ path_of_used (option_map bypass_view bypass) path)
    (λ found is. path_found bypass path names asked numbers files found
    (ap (map text) c.as_slice-3.ensures.value ∙ c.in_ok-names.ensures)
    (c.as_str.ensures ∙ (c.in_ok-spelling.ensures
    ∙ ap (λ (ns : List (Bor (List ℕ))). spelled (map text ns))
    (c.as_slice.ensures.value ∙ sym c.as_slice-3.ensures.value)))
    c.files_of-files.ensures c.in_ok-numbers_of.ensures.ascending
    (subst (λ (ns : List (List ℕ)). (i : ℕ) → Contains numbers i ↔ (slice_get ns i ≡ Some asked)) self.spelled
    c.in_ok-numbers_of.ensures.exact)
    (is ∙ ap (λ (ns : List ℕ). option_and_then (slice_get files) (find (has_components_at files names) ns))
    c.as_slice-2.ensures.value))
    c.first_with.ensures
