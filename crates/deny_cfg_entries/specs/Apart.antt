-- No two keys of an entry's table have the same name.
use Rattle.std.proofs.Common.{◌≡◌, Bool, true, false, refl}
use Rattle.std.specs.Prelude.{List, ◌++◌, is_some, if◌then◌else◌}
use Rattle.deny_cfg_entries.specs.PolicyKey.{name_of}
use Rattle.deny_cfg_entries.specs.declared.policy_key.PolicyKey.TheVariants as key
use Rattle.deny_cfg_entries.specs.Table.{Entries, Field, are_apart, at_key}
use Rattle.deny_cfg_entries.specs.Spec.{crate_fields, name_fields, spec_fields}
use Rattle.deny_cfg_entries.specs.Entry.{entry_fields}
use Rattle.deny_cfg_entries.specs.Reasons.{reason_fields}
use Rattle.deny_cfg_entries.specs.Waivers.{waiver_fields}

by_crate : (fields : List Field) (has_crate : Bool) → are_apart (crate_fields ++ fields) ≡ true
    → are_apart (name_fields ++ fields) ≡ true
    → are_apart ((if has_crate then crate_fields else name_fields) ++ fields) ≡ true
by_crate fields true with_crate with_name = with_crate
by_crate fields false with_crate with_name = with_name

-- the keys of an entry's table differ where they differ from the keys of each form of a spec
pub entry-apart : (fields : List Field) → are_apart (crate_fields ++ fields) ≡ true
    → are_apart (name_fields ++ fields) ≡ true
    → (entries : Entries) → are_apart (entry_fields fields entries) ≡ true
entry-apart fields with_crate with_name entries =
    by_crate fields (is_some (at_key key.Crate entries)) with_crate with_name

spec_by : (has_crate : Bool) → are_apart (if has_crate then crate_fields else name_fields) ≡ true
unfolding name_of
spec_by true = refl
spec_by false = refl

pub spec-apart : (entries : Entries) → are_apart (spec_fields entries) ≡ true
spec-apart entries = spec_by (is_some (at_key key.Crate entries))

pub name-apart : are_apart name_fields ≡ true
unfolding name_of
name-apart = refl

pub reason_entry-apart : (entries : Entries) → are_apart (entry_fields reason_fields entries) ≡ true
unfolding name_of
reason_entry-apart = entry-apart reason_fields refl refl

pub waiver-apart : are_apart waiver_fields ≡ true
unfolding name_of
waiver-apart = refl

pub waiver_entry-apart : (entries : Entries) → are_apart (entry_fields waiver_fields entries) ≡ true
unfolding name_of
waiver_entry-apart = entry-apart waiver_fields refl refl
