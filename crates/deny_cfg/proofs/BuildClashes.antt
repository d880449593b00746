-- Tables that are alike have the same faults.
use Rattle.std.proofs.Common.{◌≡◌, ◌++◌, ℕ, List, [], ◌∷◌, Contains, Option, None, Some, inl, inr, ap, subst, sym}
use Rattle.std.specs.Prelude.{filter_map}
use Rattle.std.specs.List.{AllZip}
use Rattle.deny_cfg_build.specs.Build.{listed}
use Rattle.deny_cfg_build.specs.Wrong.{IsGlobFault, IsGlobFaultOf, IsOfAny, IsWrong, extension_fault, faults_by_text}
use Rattle.deny_cfg_build.specs.Wrong.{path_fault, path_faults}
use Rattle.deny_cfg_build.specs.declared.wrong.BuildFault.{BuildFault}
use Rattle.deny_base_lists.proofs.Alike.{Same, same_flat_map}
use Rattle.deny_base_lists.proofs.Members.{Contains-cases, Contains-first, Contains-rest, no_member}
use Rattle.deny_base_lists.specs.Ascending.{Lists}
use Rattle.deny_cfg_tables.proofs.ConfigLaws.{BothAlike, ConfigsAlike}
use Rattle.deny_cfg_tables.specs.declared.bans.cfg.build.BuildConfig.{BuildConfig}
use Rattle.deny_cfg_tables.specs.declared.bans.cfg.config.Config.{Config}
use Rattle.deny_cfg.proofs.BuildAlike.{BuildsAlike, BuiltAlike, BypassesAlike, listed_alike}
use Rattle.deny_cfg.proofs.ViewLaws.{same_clashes}
use Rattle.deny_cfg.specs.Clashes.{IsBuildClash, IsClash, clash_cmp}
use Rattle.deny_cfg.specs.declared.clash.Clash.{Clash}

-- a fault of an item is a fault of an item that is alike
any_alike : {X T : Type 0} (Alike : X → X → Type 0) (Is : X → T → Type 0) (found : T)
    → ((x y : X) → Alike x y → Is x found → Is y found) → (xs ys : List X) → AllZip Alike xs ys
    → IsOfAny Is xs found → IsOfAny Is ys found
any_alike Alike Is found each [] ys alike some = absurd (no_member some.0 some.1.0)
any_alike Alike Is found each (x ∷ xs) [] alike some = absurd alike
any_alike Alike Is found each (x ∷ xs) (y ∷ ys) alike some =
    elim (Contains-cases x xs some.0 some.1.0) as (λ _. IsOfAny Is (y ∷ ys) found) [
      | inl first ↦
          (y, (Contains-first y ys, each x y alike.0 (subst (λ z. Is z found) (sym first) some.1.1)))
      | inr later ↦
          let more = any_alike Alike Is found each xs ys alike.1 (some.0, (later, some.1.1)) in
          (more.0, (Contains-rest y ys more.0 more.1.0, more.1.1))
    ]

same_path_faults : Same BypassesAlike path_faults path_faults
unfolding path_faults
same_path_faults x y alike = ap (λ k. filter_map path_fault k.allow) alike.1

same_faults_by_text : (source : List ℕ) (a b : BuildConfig) → BuildsAlike a b
    → faults_by_text source a ≡ faults_by_text source b
unfolding faults_by_text
same_faults_by_text source a b alike =
    let paths =
    same_flat_map BypassesAlike path_faults path_faults same_path_faults (listed a.bypass) (listed b.bypass)
    (listed_alike BypassesAlike a.bypass b.bypass alike.bypass) in
    λ i. filter_map (extension_fault source) (listed (alike.extensions i)) ++ paths i

wrong_alike : (source : List ℕ) (a b : BuildConfig) → BuildsAlike a b → (found : BuildFault) → IsWrong source a found
    → IsWrong source b found
wrong_alike source a b alike found (inl by_text) =
    inl (subst (λ (faults : List BuildFault). Contains faults found) (same_faults_by_text source a b alike) by_text)
wrong_alike source a b alike found (inr by_glob) =
    inr (any_alike BypassesAlike IsGlobFault found
    (λ x y same is. subst (λ globs. IsOfAny IsGlobFaultOf (listed globs) found) (ap (λ k. k.allow_globs) same.1) is)
    (listed a.bypass) (listed b.bypass) (listed_alike BypassesAlike a.bypass b.bypass alike.bypass) by_glob)

build_clash_alike : (source : List ℕ) (a b : Option BuildConfig) → BothAlike BuildsAlike a b → (found : Clash)
    → IsBuildClash source a found → IsBuildClash source b found
build_clash_alike source None b alike found is = absurd is
build_clash_alike source (Some a) None alike found is = absurd alike
build_clash_alike source (Some a) (Some b) alike found is =
    record { of = is.of; wrong = wrong_alike source a b alike is.of is.wrong; is = is.is }

pub clash_alike : (source : List ℕ) (a b : Config) → ConfigsAlike a b → BuiltAlike a b → (found : Clash)
    → IsClash source a found → IsClash source b found
clash_alike source a b alike built found (inl entries) =
    inl (subst (λ (clashes : List Clash). Contains clashes found) (same_clashes a b alike) entries)
clash_alike source a b alike built found (inr wrong) =
    inr (build_clash_alike source a.build b.build built.build found wrong)

-- a list of the clashes of one configuration lists those of the other
pub clashes_alike : (source : List ℕ) (a b : Config) → ConfigsAlike a b → BuiltAlike a b → ConfigsAlike b a
    → BuiltAlike b a → (clashes : List Clash) → Lists clash_cmp (IsClash source a) clashes
    → Lists clash_cmp (IsClash source b) clashes
clashes_alike source a b alike built back too clashes listed = record {
  ascending = listed.ascending;
  whole = λ found is. listed.whole found (clash_alike source b a back too found is);
  sound = λ found is. clash_alike source a b alike built found (listed.sound found is);
}
