-- Equal specs match the same crates, and a verbatim string is as long as its span.
use Rattle.std.proofs.lemmas.Bool.{and_parts}
use Rattle.std.proofs.Common.{◌≡◌, ◌+◌, ◌==◌, length, eqb-true, ℕ, true, false, ◌&&◌, List, Option, None, Some, refl}
use Rattle.std.proofs.Common.{sym, ap, ◌∙◌}
use Rattle.std.specs.Prelude.{option_and_then, option_map}
use Rattle.std.specs.Option.{option_eq, option_map_or}
use Rattle.semver.specs.Parse.{Held}
use Rattle.semver.specs.declared.VersionReq.{VersionReq}
use Rattle.deny_spec.specs.Graph.{Crate}
use Rattle.deny_spec.specs.Match.{matches, meets}
use Rattle.deny_spec.specs.Policy.{Spec}
use Rattle.deny_spec.specs.Text.{same_text}
use Rattle.deny_spec.proofs.Texts.{equal_from_option_eq}
use Rattle.deny_toml.specs.Calls.{is_verbatim, layer_in, one_line_of, scalar_of, text_in, text_of}
use Rattle.deny_toml.specs.Value.{span_in}
use Rattle.deny_toml.specs.Scalar.{Scalar}
use Rattle.deny_toml.specs.Scalar.TheVariants as scalar
use Rattle.deny_toml.specs.value.Value.{Value}
use Rattle.deny_cfg_entries.specs.declared.package_spec.PackageSpec.{PackageSpec}
use Rattle.deny_cfg_entries.specs.Requirement.{held_in, requirement_in}
use Rattle.deny_cfg_entries.specs.SpecView.{same_spec, spec_view}
use Rattle.deny_cfg_entries.proofs.UnknownLaws.{same_is}

unwrapped : (a b : Option (List Held)) → option_map Some a ≡ option_map Some b → a ≡ b
unwrapped None None e = refl
unwrapped None (Some y) e = cc e
unwrapped (Some x) None e = cc e
unwrapped (Some x) (Some y) e = let inner : x ≡ y = cc e in ap Some inner

wrapped : (r : Option VersionReq) → option_map Some (option_map held_in r) ≡ option_map (λ x. Some (held_in x)) r
wrapped None = refl
wrapped (Some r) = refl

matches-by : (s t : Spec) (c : Crate) → s.name ≡ t.name → s.requirement ≡ t.requirement → matches s c ≡ matches t c
unfolding matches
matches-by s t c name requirement =
    ap (λ n. same_text n c.name && meets s.requirement c.version) name
    ∙ ap (λ r. same_text t.name c.name && meets r c.version) requirement

pub equal_match : (a b : PackageSpec) → same_spec a b ≡ true → (c : Crate)
    → matches (spec_view a) c ≡ matches (spec_view b) c
equal_match a b same c =
    let parts = and_parts (same_text a.name.value b.name.value) (option_eq same_text a.req_text b.req_text) same in
    let texts : a.req_text ≡ b.req_text = equal_from_option_eq a.req_text b.req_text parts.1 in
    let requirements =
    wrapped a.version_req ∙ a.read ∙ ap (option_map requirement_in) texts ∙ sym b.read
    ∙ sym (wrapped b.version_req) in
    matches-by (spec_view a) (spec_view b) c (same_is a.name.value b.name.value parts.0)
    (unwrapped (option_map held_in a.version_req) (option_map held_in b.version_req) requirements)

-- a verbatim string is as long as its span
verbatim_scalar : (o : Option Scalar) (text : List ℕ) (start end : ℕ) → option_and_then text_of o ≡ Some text
    → option_map_or (λ t. start + length t == end) (option_and_then one_line_of o) false ≡ true
    → start + length text ≡ end
verbatim_scalar None text start end is verbatim = cc
verbatim_scalar (Some (scalar.Text bytes)) text start end is verbatim =
    let same : bytes ≡ text = cc in ap (λ t. start + length t) (sym same) ∙ eqb-true _ _ verbatim
verbatim_scalar (Some (scalar.Multiline bytes)) text start end is verbatim = cc
verbatim_scalar (Some (scalar.Integer n)) text start end is verbatim = cc
verbatim_scalar (Some (scalar.Float bytes)) text start end is verbatim = cc
verbatim_scalar (Some (scalar.Boolean b)) text start end is verbatim = cc
verbatim_scalar (Some (scalar.Date bytes)) text start end is verbatim = cc

pub verbatim_length : (v : Value) (text : List ℕ) → text_in v ≡ Some text → is_verbatim v ≡ true
    → (span_in v).start + length text ≡ (span_in v).end
verbatim_length v text is verbatim =
    verbatim_scalar (scalar_of (layer_in v)) text (span_in v).start (span_in v).end is verbatim
