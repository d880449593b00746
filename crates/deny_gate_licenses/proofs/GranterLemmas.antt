-- The entry that grants a requirement is that of the definition.
use Rattle.std.proofs.Common.{◌≡◌, ◌&&◌, ◌||◌, false, Option, Some, None, is_some, refl, sym, ◌∙◌}
use Rattle.std.specs.Prelude.{is_none, option_map}
use Rattle.std.specs.List.{list_any}
use Rattle.std.specs.Option.{option_map_or, option_or}
use Rattle.deny_base_lists.proofs.Filters.{find-any}
use Rattle.deny_base_lists.proofs.Options.{is_some-option_map}
use Rattle.deny_base.specs.declared.span.Spanned.{Spanned}
use Rattle.deny_spdx.specs.declared.requirement.Requirement.{Requirement}
use Rattle.deny_spec.specs.Licensing.{Exception, Licensing}
use Rattle.deny_spec.specs.Wrappers.{same_span}
use Rattle.deny_spec.proofs.SpanLemmas.{eq_by_cmp-span_cmp}
use Rattle.deny_spec_report.specs.FirstMatch.{first_of}
use Rattle.deny_spec_report.specs.Licences.{Asked, allowance_span, allows, exception_of, exception_span}
use Rattle.deny_spec_report.specs.Licences.{grants_by_allowance, grants_by_exception, is_granted}
use Rattle.deny_gate_licenses.specs.private.Granters.{allowance_granter, exception_granter, granter_of}
use Rattle.deny_gate_licenses.specs.private.Witnesses.{same_granter}

module _ (l : Licensing) (asked : Asked) where
  pub granted-by : is_granted l asked ≡ is_some (granter_of l asked)
  unfolding is_granted granter_of
  granted-by = by (exception_of l asked)
    where
      by : (o : Option Exception) → (is_some o || list_any (λ a. allows a asked) l.allow)
          ≡ is_some (option_or (option_map exception_granter o)
          (option_map allowance_granter (first_of allows l.allow asked)))
      by (Some e) = refl
      by None = find-any (λ a. allows a asked) l.allow
          ∙ sym (is_some-option_map allowance_granter (first_of allows l.allow asked))

  pub by-exception : (e : Exception)
      → grants_by_exception l e asked ≡ option_map_or (same_granter (exception_granter e)) (granter_of l asked) false
  unfolding grants_by_exception granter_of exception_of
  by-exception e = by (exception_of l asked)
    where
      no_allowance : (o : Option (Spanned Requirement))
          → false ≡ option_map_or (same_granter (exception_granter e)) (option_map allowance_granter o) false
      no_allowance None = refl
      no_allowance (Some a) = refl

      by : (o : Option Exception) → option_map_or (λ f. same_span (exception_span f) (exception_span e)) o false
          ≡ option_map_or (same_granter (exception_granter e)) (option_or (option_map exception_granter o)
          (option_map allowance_granter (first_of allows l.allow asked))) false
      by (Some f) = sym (eq_by_cmp-span_cmp (exception_span e) (exception_span f))
      by None = no_allowance (first_of allows l.allow asked)

  pub by-allowance : (a : Spanned Requirement)
      → grants_by_allowance l a asked ≡ option_map_or (same_granter (allowance_granter a)) (granter_of l asked) false
  unfolding grants_by_allowance granter_of
  by-allowance a = by (exception_of l asked)
    where
      first_allowance : (o : Option (Spanned Requirement))
          → option_map_or (λ f. same_span (allowance_span f) (allowance_span a)) o false
          ≡ option_map_or (same_granter (allowance_granter a)) (option_map allowance_granter o) false
      first_allowance None = refl
      first_allowance (Some f) = sym (eq_by_cmp-span_cmp (allowance_span a) (allowance_span f))

      by : (o : Option Exception)
          → (is_none o && option_map_or (λ f. same_span (allowance_span f) (allowance_span a))
          (first_of allows l.allow asked) false)
          ≡ option_map_or (same_granter (allowance_granter a)) (option_or (option_map exception_granter o)
          (option_map allowance_granter (first_of allows l.allow asked))) false
      by (Some e) = refl
      by None = first_allowance (first_of allows l.allow asked)
