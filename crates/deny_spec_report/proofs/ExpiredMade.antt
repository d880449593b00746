-- The keys of expired waivers have their code, are in the section of the policy itself, and are those of waivers.
use Rattle.std.proofs.Common.{◌≡◌, List, ap, sym}
use Rattle.std.specs.Prelude.{Contains}
use Rattle.deny_base_lists.proofs.Members.{from_contains_map}
use Rattle.deny_base.specs.declared.code.DiagnosticCode.TheVariants.{Expired}
use Rattle.deny_base.specs.declared.key.Key.{Key}
use Rattle.deny_base.specs.declared.key.Section.TheVariants as section
use Rattle.deny_spec.specs.Expired.{PastWaiver, expired_key, expired_keys}

pub record MadeExpired (waivers : List PastWaiver) (key : Key) : Type 0 where
  pub waiver : PastWaiver
  pub known : Contains waivers waiver
  pub is : key ≡ expired_key waiver
  pub code_is : key.code ≡ Expired
  pub section_is : key.section ≡ section.Deprecated

pub expired_made : (waivers : List PastWaiver) (key : Key) → Contains (expired_keys waivers) key
    → MadeExpired waivers key
unfolding expired_key
expired_made waivers key is =
    let from = from_contains_map expired_key waivers key is in
    record {
      waiver = from.0;
      known = from.1;
      is = sym from.2;
      code_is = ap (λ (k : Key). k.code) (sym from.2);
      section_is = ap (λ (k : Key). k.section) (sym from.2);
    }
