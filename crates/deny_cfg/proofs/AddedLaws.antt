-- The files that a text adds where it is no policy.
use Rattle.std.proofs.Common.{◌≡◌, ℕ, List, Option, Ok, Err, inl, inr, sym, subst}
use Rattle.std.specs.Prelude.{IfErr, Result}
use Rattle.std.specs.Result.{IsErrAnd}
use Rattle.deny_base.specs.declared.files.File.{File}
use Rattle.deny_cfg_build.specs.Build.{HasFiles}
use Rattle.deny_cfg_entries.specs.declared.day.Day.{Day}
use Rattle.deny_cfg_tables.specs.declared.bans.cfg.config.Config.{Config}
use Rattle.deny_cfg_tables.specs.declared.licenses.config.Config as licenses
use Rattle.deny_cfg.specs.PolicyText.{Says}
use Rattle.deny_cfg.specs.private.PolicyText.{AddsOnError}
use Rattle.deny_cfg.specs.Valid.{files_asked}
use Rattle.deny_cfg.specs.declared.policy.PolicyError.{PolicyError}
use Rattle.deny_cfg.specs.declared.policy.PolicyError.TheVariants as error

-- a property of an error also holds of the same error in another result
pub handed_on : {T : Type 0} (r : Result T PolicyError) (e : PolicyError) (P : PolicyError → Type 0)
    → IsErrAnd r (λ f. f ≡ e) → P e → IfErr r P
handed_on (Ok x) e P is holds = tt
handed_on (Err f) e P is holds = subst P (sym is) holds

-- when out of memory, the files that are asked for are added, or none is
pub memory_adds : (today : Option Day) (text : List ℕ) (config : Config) (licensing : Option licenses.Config)
    (old new : List File) → Says today text config licensing → HasFiles (files_asked config) old new
    → AddsOnError today error.Memory text old new
memory_adds today text config licensing old new says (inl same) = inl same
memory_adds today text config licensing old new says (inr added) =
    inr record { config = config; licensing = licensing; says = says; is = added }
