-- The granters that are found are those of the definition: of allowed licences, and of exceptions.
use Rattle.std.proofs.Common.{◌≡◌, ◌++◌, ◌&&◌, ◌||◌, ℕ, Bool, true, false, List, [], ◌∷◌, Contains, Option, Some, None}
use Rattle.std.proofs.Common.{append-nil, cond, find, map, refl, sym, ap, ◌∙◌, subst}
use Rattle.std.specs.Prelude.{◌↔◌, option_and_then, option_map, slice_get}
use Rattle.std.specs.List.{flat_map, list_any}
use Rattle.std.specs.List.Sorted.{IsStrictlyIncreasing}
use Rattle.std.specs.Map.{lookup}
use Rattle.std.specs.Option.{option_map_or}
use Rattle.std.proofs.lemmas.Bool.{and_parts}
use Rattle.std.proofs.lemmas.Slice.Eq.{bytes_eq-Decides}
use Rattle.deny_base_lists.specs.First.{FindsFirst}
use Rattle.deny_base_lists.proofs.Filters.{find-map}
use Rattle.deny_base.specs.declared.span.Spanned.{Spanned}
use Rattle.deny_spdx.specs.declared.requirement.Requirement.{Requirement}
use Rattle.deny_cfg.specs.LicensesConfig.{Config}
use Rattle.deny_cfg.specs.LicensesException.{Exception}
use Rattle.deny_krates.specs.Crates.{crate_view}
use Rattle.deny_krates.specs.krate.Krate.{Krate}
use Rattle.deny_spec.specs.Graph.{Crate}
use Rattle.deny_spec.specs.Licensing as model
use Rattle.deny_spec.specs.Match.{matches}
use Rattle.deny_spec.specs.Text.{same_text}
use Rattle.deny_spec_report.specs.FirstMatch.{first_of}
use Rattle.deny_spec_report.specs.Licences.{allows, asked_of, exception_of, excepts}
use Rattle.deny_cfg.specs.LicensingView.{exception_view, licensing_view}
use Rattle.deny_gate_licenses.specs.declared.granter.Granter.{Granter}
use Rattle.deny_gate_licenses.specs.declared.grants.Grants.{Grants}
use Rattle.deny_gate_licenses.specs.declared.grants.WantedLicence.{WantedLicence}
use Rattle.deny_gate_licenses.specs.private.Granters.{allowance_granter, exception_granter}
use Rattle.deny_gate_licenses.specs.private.Granting.{exception_name, grants_at, grants_to, does_match}
use Rattle.deny_gate_licenses.specs.private.Grants.{allowance_grant, exception_grants, grant_by, granter_in}
use Rattle.deny_gate_licenses.specs.private.Grants.{same_wanted}
use Rattle.deny_gate_licenses.specs.private.Grants.{wanted_of}
use Rattle.deny_base_lists.proofs.Finding.{first-numbered}
use Rattle.deny_gate_licenses.proofs.OrderLemmas.{same-licence}

first-entry : {X Y : Type 0} (f : X → Y) (b d : Bool) (x : X) (later : Option Y) (rest : Option X) → b ≡ d
    → later ≡ option_map f rest → cond b (Some (f x)) later ≡ option_map f (cond d (Some x) rest)
first-entry f true true x later rest same so = refl
first-entry f false false x later rest same so = so
first-entry f true false x later rest same so = absurd (cc same)
first-entry f false true x later rest same so = absurd (cc same)

pub one-of-two : {Y : Type 0} (b d any : Bool) (y : Option Y) (later rest : Option Y) → b ≡ d
    → later ≡ cond any y rest → cond b y later ≡ cond (d || any) y rest
one-of-two true true any y later rest same so = refl
one-of-two false false any y later rest same so = so
one-of-two true false any y later rest same so = absurd (cc same)
one-of-two false true any y later rest same so = absurd (cc same)

module _ (c : Crate) (r : Requirement) where
  abbrev wants : WantedLicence → Bool
  wants = same_wanted (wanted_of r)

  abbrev lists : Spanned Requirement → Bool
  lists a = allows a (asked_of c r)

  listed : (a : Spanned Requirement) → wants (wanted_of a.value) ≡ lists a
  unfolding allows
  listed a = same-licence r a.value

  -- ---- allowed licences

  pub allowed-is : (allow : List (Spanned Requirement))
      → lookup wants (map allowance_grant allow) ≡ option_map allowance_granter (first_of allows allow (asked_of c r))
  allowed-is [] = refl
  allowed-is (a ∷ others) = first-entry allowance_granter (wants (wanted_of a.value)) (lists a) a
      (lookup wants (map allowance_grant others)) (find lists others) (listed a) (allowed-is others)

  -- ---- exceptions

  granted : (by : Granter) (allow : List (Spanned Requirement)) (more : List (WantedLicence × Granter))
      → lookup wants (map (grant_by by) allow ++ more) ≡ cond (list_any lists allow) (Some by) (lookup wants more)
  granted by [] more = refl
  granted by (a ∷ others) more = one-of-two (wants (wanted_of a.value)) (lists a) (list_any lists others) (Some by)
      (lookup wants (map (grant_by by) others ++ more)) (lookup wants more) (listed a) (granted by others more)

  module _ (k : Krate) (es : List Exception) where
    abbrev passes : Exception → Bool
    passes e = does_match k e && list_any lists e.allow

    abbrev passes_at : ℕ → Bool
    passes_at n = option_map_or passes (slice_get es n) false

    abbrev by_exception : Exception → Granter
    by_exception e = exception_granter (exception_view e)

    at-numbers : (ns : List ℕ) → lookup wants (flat_map (grants_at es k) ns)
        ≡ option_map by_exception (option_and_then (slice_get es) (find passes_at ns))
    at-numbers [] = refl
    at-numbers (n ∷ ns) = by (slice_get es n) refl (at-numbers ns)
      where
        more : List (WantedLicence × Granter)
        more = flat_map (grants_at es k) ns

        rest : Option ℕ
        rest = find passes_at ns

        by_list : (e : Exception) (b : Bool) → slice_get es n ≡ Some e
            → lookup wants more ≡ option_map by_exception (option_and_then (slice_get es) rest)
            → cond b (Some (by_exception e)) (lookup wants more)
            ≡ option_map by_exception (option_and_then (slice_get es) (cond b (Some n) rest))
        by_list e true at so = ap (option_map by_exception) (sym at)
        by_list e false at so = so

        by_match : (e : Exception) (b : Bool) → slice_get es n ≡ Some e
            → lookup wants more ≡ option_map by_exception (option_and_then (slice_get es) rest)
            → lookup wants (cond b (exception_grants (exception_view e)) [] ++ more)
            ≡ option_map by_exception
            (option_and_then (slice_get es) (cond (b && list_any lists e.allow) (Some n) rest))
        by_match e true at so = granted (by_exception e) e.allow more ∙ by_list e (list_any lists e.allow) at so
        by_match e false at so = so

        by : (o : Option Exception) → slice_get es n ≡ o
            → lookup wants more ≡ option_map by_exception (option_and_then (slice_get es) rest)
            → lookup wants (option_map_or (grants_to k) o [] ++ more)
            ≡ option_map by_exception (option_and_then (slice_get es)
            (cond (option_map_or passes o false) (Some n) rest))
        by None at so = so
        by (Some e) at so = by_match e (does_match k e) at so

    named : (e : Exception) → passes e ≡ true → exception_name e ≡ k.name
    named e is = (bytes_eq-Decides e.spec.name.value k.name).0
        (and_parts (same_text e.spec.name.value k.name) _ (and_parts (does_match k e) _ is).0).0

twice : {A B C : Type 0} (f : A → B) (g : B → C) (o : Option A)
    → option_map (λ x. g (f x)) o ≡ option_map g (option_map f o)
twice f g None = refl
twice f g (Some x) = refl

-- the exceptions that match a crate are found at the indices of the crate's name
pub excepted-is : (cfg : Config) (k : Krate) (names : List (List ℕ)) (numbers : List ℕ) (grants : Grants)
    → names ≡ map exception_name cfg.exceptions → IsStrictlyIncreasing numbers
    → ((i : ℕ) → Contains numbers i ↔ (slice_get names i ≡ Some k.name))
    → FindsFirst same_wanted (flat_map (grants_at cfg.exceptions k) numbers) (granter_in grants) → (r : Requirement)
    → granter_in grants (wanted_of r)
    ≡ option_map exception_granter (exception_of (licensing_view cfg) (asked_of (crate_view 0 k) r))
unfolding exception_of excepts matches
excepted-is cfg k names numbers grants are up exact finds r =
    let c = crate_view 0 k in
    let es = cfg.exceptions in
    finds.at (wanted_of r)
    ∙ (at-numbers c r k es numbers
    ∙ (ap (option_map (by_exception c r k es))
    (first-numbered (passes c r k es) es exception_name k.name numbers up
    (subst (λ (ns : List (List ℕ)). (i : ℕ) → Contains numbers i ↔ (slice_get ns i ≡ Some k.name)) are exact)
    (named c r k es))
    ∙ (twice exception_view exception_granter (find (passes c r k es) es)
    ∙ ap (option_map exception_granter)
    (sym (find-map (λ (e : model.Exception). excepts e (asked_of c r)) exception_view es)))))

-- a list of entries that is extended by nothing
pub finds-same : (entries : List (WantedLicence × Granter)) (grants : Grants)
    → FindsFirst same_wanted entries (granter_in grants)
    → FindsFirst same_wanted (entries ++ []) (granter_in grants)
finds-same entries grants finds =
    subst (λ (es : List (WantedLicence × Granter)). FindsFirst same_wanted es (granter_in grants))
    (sym (append-nil entries)) finds
