-- What is read twice from one value is the same: for the parts of which values are made, and for specs.
use Rattle.std.proofs.Common.{◌≡◌, ℕ, List, [], ◌∷◌, Option, None, Some, refl, sym, ap, ◌∙◌, subst}
use Rattle.std.specs.List.{AllZip, each_same}
use Rattle.std.specs.Prelude.{option_map, option_and_then}
use Rattle.semver.specs.declared.VersionReq.{VersionReq}
use Rattle.deny_toml.specs.Calls.{array_in, bool_in, integer_in, table_in, text_in}
use Rattle.deny_toml.specs.Deserialize.{ReadsArray, ReadsEach, small_number}
use Rattle.deny_toml.specs.Value.{entries_in}
use Rattle.deny_toml.specs.value.Value.{Value}
use Rattle.deny_cfg_entries.specs.declared.package_spec.PackageSpec.{PackageSpec}
use Rattle.deny_cfg_entries.specs.declared.policy_key.PolicyKey.TheVariants as key
use Rattle.deny_cfg_entries.specs.PolicyKey.{name_of}
use Rattle.deny_cfg_entries.specs.Requirement.{held_in, requirement_in, requirement_text}
use Rattle.deny_cfg_entries.specs.Spec.{ReadsName, ReadsSpecBy, ReadsSpecKeys, ReadsSpecOf, ReadsSpecText, name_in}
use Rattle.deny_cfg_entries.specs.Spec.{name_span, parts_in, spec_in}
use Rattle.deny_cfg_entries.specs.SpecView.{spec_view}
use Rattle.deny_cfg_entries.specs.Table.{Entries, ReadsIn, ReadsIfThere, ReadsOr, ReadsThere, ReadsTable, at_key}
use Rattle.deny_cfg_entries.specs.Words.{ReadsAs, ReadsBool, ReadsCount, ReadsList, ReadsSpanned, ReadsText, ReadsTexts}
use Rattle.deny_cfg_entries.specs.Words.{meaning_in}
use Rattle.deny_cfg_entries.proofs.KeyLaws.{says_of}

-- two values that are read from the same value are alike, or equal
abbrev pub ReadsAlike : {A T : Type 0} → (A → T → Type 0) → (T → T → Type 0) → Type 0
ReadsAlike {A} {T} Reads Alike = (v : A) (x y : T) → Reads v x → Reads v y → Alike x y

abbrev pub ReadsOne : {A T : Type 0} → (A → T → Type 0) → Type 0
ReadsOne Reads = ReadsAlike Reads (λ x y. x ≡ y)

some_once : {A : Type 0} (found : Option A) (x y : A) → found ≡ Some x → found ≡ Some y → x ≡ y
some_once found x y one two = cc (one, two)

pub one_as : {A : Type 0} (meaning : List ℕ → Option A) → ReadsOne (ReadsAs meaning)
one_as meaning v x y one two = some_once (meaning_in meaning v) x y one two

pub one_bool : ReadsOne ReadsBool
one_bool v x y one two = some_once (bool_in v) x y one two

pub one_text : ReadsOne ReadsText
one_text v x y one two = some_once (text_in v) x y one two

pub one_count : ReadsOne ReadsCount
one_count v x y one two = some_once (option_and_then small_number (integer_in v)) x y one two

pub one_spanned : {T : Type 0} (Reads : Value → T → Type 0) → ReadsOne Reads → ReadsOne (ReadsSpanned Reads)
one_spanned Reads same v x y one two =
    let value : x.value ≡ y.value = same v x.value y.value one.1 two.1 in
    let span : x.span ≡ y.span = one.0 ∙ sym two.0 in
    λ i. record { value = value i; span = span i }

alike_each : {T : Type 0} (Reads : Value → T → Type 0) (Alike : T → T → Type 0) → ReadsAlike Reads Alike
    → ReadsAlike (ReadsEach Reads) (AllZip Alike)
alike_each Reads Alike alike [] [] [] one two = tt
alike_each Reads Alike alike [] [] (y ∷ ys) one two = absurd two
alike_each Reads Alike alike [] (x ∷ xs) ys one two = absurd one
alike_each Reads Alike alike (v ∷ vs) [] ys one two = absurd one
alike_each Reads Alike alike (v ∷ vs) (x ∷ xs) [] one two = absurd two
alike_each Reads Alike alike (v ∷ vs) (x ∷ xs) (y ∷ ys) one two =
    (alike v x y one.0 two.0, alike_each Reads Alike alike vs xs ys one.1 two.1)

alike_array : {T : Type 0} (Reads : Value → T → Type 0) (Alike : T → T → Type 0) → ReadsAlike Reads Alike
    → ReadsAlike (ReadsArray Reads) (AllZip Alike)
alike_array Reads Alike alike None xs ys one two = absurd one
alike_array Reads Alike alike (Some vs) xs ys one two = alike_each Reads Alike alike vs xs ys one two

pub alike_list : {T : Type 0} (Reads : Value → T → Type 0) (Alike : T → T → Type 0) → ReadsAlike Reads Alike
    → ReadsAlike (ReadsList Reads) (AllZip Alike)
alike_list Reads Alike alike v xs ys one two = alike_array Reads Alike alike (array_in v) xs ys one two

pub one_texts : ReadsOne ReadsTexts
one_texts v xs ys one two =
    sym (each_same xs ys
    (alike_list (ReadsSpanned ReadsText) (λ x y. y ≡ x)
    (λ w x y here there. one_spanned ReadsText one_text w y x there here) v xs ys one two))

-- the keys of a table
pub one_optional : {T : Type 0} (Reads : Value → T → Type 0) → ReadsOne Reads → ReadsOne (ReadsIfThere Reads)
one_optional Reads same None x y one two = one ∙ sym two
one_optional Reads same (Some v) None y one two = absurd one
one_optional Reads same (Some v) (Some x) None one two = absurd two
one_optional Reads same (Some v) (Some x) (Some y) one two = ap Some (same v x y one two)

alike_or : {T : Type 0} (default : T) (Reads : Value → T → Type 0) (Alike : T → T → Type 0) → Alike default default
    → ReadsAlike Reads Alike → ReadsAlike (ReadsOr default Reads) Alike
alike_or default Reads Alike itself alike None x y one two =
    subst (λ z. Alike x z) (sym two) (subst (λ z. Alike z default) (sym one) itself)
alike_or default Reads Alike itself alike (Some v) x y one two = alike v x y one two

pub one_or : {T : Type 0} (default : T) (Reads : Value → T → Type 0) → ReadsOne Reads → ReadsOne (ReadsOr default Reads)
one_or default Reads same = alike_or default Reads (λ x y. x ≡ y) refl same

pub alike_list_or : {T : Type 0} (Reads : Value → T → Type 0) (Alike : T → T → Type 0) → ReadsAlike Reads Alike
    → ReadsAlike (ReadsOr [] (ReadsList Reads)) (AllZip Alike)
alike_list_or Reads Alike alike = alike_or [] (ReadsList Reads) (AllZip Alike) tt (alike_list Reads Alike alike)

pub one_required : {T : Type 0} (Reads : Value → T → Type 0) → ReadsOne Reads → ReadsOne (ReadsThere Reads)
one_required Reads same None x y one two = absurd one
one_required Reads same (Some v) x y one two = same v x y one two

alike_in : {T : Type 0} (Reads : Entries → T → Type 0) (Alike : T → T → Type 0) → ReadsAlike Reads Alike
    → ReadsAlike (ReadsIn Reads) Alike
alike_in Reads Alike alike None x y one two = absurd one
alike_in Reads Alike alike (Some t) x y one two = alike (entries_in t) x y one two

pub alike_table : {T : Type 0} (Reads : Entries → T → Type 0) (Alike : T → T → Type 0) → ReadsAlike Reads Alike
    → ReadsAlike (ReadsTable Reads) Alike
alike_table Reads Alike alike v x y one two = alike_in Reads Alike alike (table_in v) x y one two

-- Two specs are alike where the rules see the same of them.
abbrev pub SpecsAlike : PackageSpec → PackageSpec → Type 0
SpecsAlike a b = spec_view a ≡ spec_view b

held_alike : (a b : Option VersionReq) → option_map (λ r. Some (held_in r)) a ≡ option_map (λ r. Some (held_in r)) b
    → option_map held_in a ≡ option_map held_in b
held_alike None None e = refl
held_alike None (Some s) e = cc e
held_alike (Some r) None e = cc e
held_alike (Some r) (Some s) e = let inner : held_in r ≡ held_in s = cc e in ap Some inner

specs_alike : (a b : PackageSpec) → a.name.value ≡ b.name.value → a.name.span ≡ b.name.span → a.req_text ≡ b.req_text
    → SpecsAlike a b
specs_alike a b name span written =
    let requirement =
    held_alike a.version_req b.version_req (a.read ∙ ap (option_map requirement_in) written ∙ sym b.read) in
    λ i. record { name = name i; requirement = requirement i; written = written i; span = span i }

of_text_alike : (text : Option (List ℕ)) (v : Value) (a b : PackageSpec) → ReadsSpecOf text v a → ReadsSpecOf text v b
    → SpecsAlike a b
of_text_alike None v a b one two = absurd one
of_text_alike (Some text) v a b one two =
    let parts : parts_in a ≡ parts_in b = some_once (spec_in text) (parts_in a) (parts_in b) one.0 two.0 in
    let name : a.name.value ≡ b.name.value = ap (λ p. p.0) parts in
    specs_alike a b name (one.1 ∙ ap (name_span v) name ∙ sym two.1) (ap (λ p. p.1) parts)

pub text_alike : ReadsAlike ReadsSpecText SpecsAlike
text_alike v a b one two = of_text_alike (text_in v) v a b one two

name_alike : ReadsAlike ReadsName SpecsAlike
unfolding name_of
name_alike entries a b one two =
    let name : a.name ≡ b.name =
    one_required (ReadsSpanned (ReadsAs name_in)) (one_spanned (ReadsAs name_in) (one_as name_in))
    (at_key key.Name entries) a.name b.name (says_of key.Name one) (says_of key.Name two) in
    specs_alike a b (ap (λ n. n.value) name) (ap (λ n. n.span) name)
    (one_optional (ReadsAs requirement_text) (one_as requirement_text) (at_key key.Version entries) a.req_text
    b.req_text (says_of key.Version one) (says_of key.Version two))

keys_by_alike : (crate : Option Value) (entries : Entries) (a b : PackageSpec) → ReadsSpecBy crate entries a
    → ReadsSpecBy crate entries b → SpecsAlike a b
keys_by_alike None entries a b one two = name_alike entries a b one two
keys_by_alike (Some v) entries a b one two = text_alike v a b one two

pub keys_alike : ReadsAlike ReadsSpecKeys SpecsAlike
keys_alike entries a b one two = keys_by_alike (at_key key.Crate entries) entries a b one two
