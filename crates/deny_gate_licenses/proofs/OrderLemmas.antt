-- Licences compare as equal exactly where they are equal.
use Rattle.std.proofs.Common.{◌≡◌, ℕ, List, Option, Some, None, refl, sym, ◌∙◌}
use Rattle.std.specs.Cmp.{IsTotalOrder, on_total, then_total}
use Rattle.std.specs.Cmp.Lexicographic.{nat_list_cmp_total, options_total, slice_cmp, texts_ties}
use Rattle.std.specs.FinMap.{IsAntisymmetric}
use Rattle.std.specs.Option.{option_cmp}
use Rattle.std.specs.Ordering.{is_eq, nat_cmp}
use Rattle.deny_base_lists.proofs.Orders.{option_text_cmp-exact, text_cmp-exact, then_first, then_second, is_eq-then}
use Rattle.deny_spdx.specs.declared.requirement.Requirement.{Requirement}
use Rattle.deny_spec_report.specs.Licences.{same_exception, same_requirement}
use Rattle.deny_gate_licenses.specs.declared.grants.WantedLicence.{WantedLicence}
use Rattle.deny_gate_licenses.specs.private.Grants.{same_wanted, wanted_cmp, wanted_of}
use Rattle.deny_gate_licenses.proofs.MapLemmas.{turned}

wanted_from : List ℕ → Option (List ℕ) → WantedLicence
wanted_from id exception = record { id = id; exception = exception }

wanted_from-is : (w : WantedLicence) → wanted_from w.id w.exception ≡ w
unfolding wanted_from
wanted_from-is w = refl

pub wanted_cmp-exact : IsAntisymmetric wanted_cmp
wanted_cmp-exact a b e =
    let id : a.id ≡ b.id = text_cmp-exact a.id b.id (then_first _ _ e) in
    let exception : a.exception ≡ b.exception =
    option_text_cmp-exact a.exception b.exception (then_second (slice_cmp nat_cmp a.id b.id) _ e) in
    cc (wanted_from-is a, wanted_from-is b)

pub wanted_cmp-total : IsTotalOrder wanted_cmp
wanted_cmp-total =
    then_total (on_total (λ (w : WantedLicence). w.id) nat_list_cmp_total)
    (on_total (λ (w : WantedLicence). w.exception) (options_total nat_list_cmp_total))

exceptions-tie : (x y : Option (List ℕ)) → same_exception x y ≡ is_eq (option_cmp (slice_cmp nat_cmp) x y)
exceptions-tie None None = refl
exceptions-tie None (Some y) = refl
exceptions-tie (Some x) None = refl
exceptions-tie (Some x) (Some y) = texts_ties x y

pub same-licence : (r s : Requirement) → same_wanted (wanted_of r) (wanted_of s) ≡ same_requirement s r
unfolding same_requirement
same-licence r s =
    sym (turned wanted_cmp-total wanted_cmp-exact (wanted_of r) (wanted_of s))
    ∙ sym (is_eq-then _ _ _ _ (texts_ties s.id r.id) (exceptions-tie s.exception r.exception))
