-- The spans of words, specs and entries, in relation to the marks and the scalars of a value.
use Rattle.std.proofs.Common.{◌≡◌, ◌++◌, ℕ, Bool, true, false, cond, List, [], ◌∷◌, length, Option, Some, None, inr}
use Rattle.std.proofs.Common.{refl, sym, ap, ◌∙◌, subst}
use Rattle.std.specs.Prelude.{is_some, option_and_then, if◌then◌else◌}
use Rattle.deny_base.specs.declared.span.Span.{Span}
use Rattle.deny_base.specs.declared.span.Spanned.{Spanned}
use Rattle.deny_spec.specs.Policy.{SpannedText}
use Rattle.deny_toml.proofs.ApartLaws.{starts_by_layer, starts_of_layer}
use Rattle.deny_toml.proofs.ApartParts.{IsPartOf, part_itself, starts_of_text}
use Rattle.deny_toml.specs.Apart.{starts_in}
use Rattle.deny_toml.specs.Calls.{Layer, bool_of, date_of, is_verbatim, layer_in, scalar_of, text_in, text_of}
use Rattle.deny_toml.specs.Calls.{without}
use Rattle.deny_toml.specs.Value.{span_in, span_of}
use Rattle.deny_toml.specs.value.Content.TheOpen.{Content-F}
use Rattle.deny_toml.specs.Scalar.{Scalar}
use Rattle.deny_toml.specs.value.Value.{Value}
use Rattle.deny_cfg_entries.specs.Reasons.{ReadsReason}
use Rattle.deny_cfg_entries.specs.Entry.{ReadsEntry, ReadsEntryBy, ReadsEntryKeys, ReadsPair, entry_fields}
use Rattle.deny_cfg.specs.LabelSpans.{of_some, own_span, reason_span, spec_span, word_spans}
use Rattle.deny_cfg.specs.Marks.IsValueIn.{itself}
use Rattle.deny_cfg_entries.proofs.KeyLaws.{says_of}
use Rattle.deny_cfg_entries.specs.PolicyKey.{name_of}
use Rattle.deny_cfg_entries.specs.Spec.{ReadsName, ReadsSpecBy, ReadsSpecKeys, ReadsSpecOf, ReadsSpecText, crate_fields}
use Rattle.deny_cfg_entries.specs.Spec.{name_fields, name_in, or_else, spec_fields}
use Rattle.deny_cfg_entries.specs.Table.{DependsOn, Entries, Field, ReadsThere, are_apart, at_key}
use Rattle.deny_cfg_entries.specs.Waivers.{ReadsExpiry}
use Rattle.deny_cfg_entries.specs.Words.{ReadsAs, ReadsBool, ReadsSpanned, ReadsText, ReadsTexts}
use Rattle.deny_cfg_entries.specs.declared.expiry.Expiry.{Expiry}
use Rattle.deny_cfg_entries.specs.declared.package_spec.PackageSpec.{PackageSpec}
use Rattle.deny_cfg_entries.specs.declared.policy_key.PolicyKey.TheVariants as key
use Rattle.deny_cfg_entries.specs.declared.reason.Reason.{Reason}
use Rattle.deny_cfg.proofs.LabelLaws.{Within, WithinKey, WithinKeys, key_at, list_within, own_mark, put_key, skip_key}
use Rattle.deny_cfg.proofs.LabelLaws.{table_within}
use Rattle.deny_cfg_entries.proofs.TableLaws.{said_left}
use Rattle.deny_cfg_entries.proofs.UnknownLaws.{left}

-- ---- scalars

scalar_there : {A : Type 0} (f : Scalar → Option A) (o : Option Scalar) (x : A) → option_and_then f o ≡ Some x
    → (s : Scalar) × (o ≡ Some s)
scalar_there f None x e = cc
scalar_there f (Some s) x e = (s, refl)

text_there : {A : Type 0} (f : List ℕ → Option A) (o : Option (List ℕ)) (x : A) → option_and_then f o ≡ Some x
    → (t : List ℕ) × (o ≡ Some t)
text_there f None x e = cc
text_there f (Some t) x e = (t, refl)

layer_starts : (l : Layer) (at : ℕ) (s : Scalar) → scalar_of l ≡ Some s → starts_of_layer l at ≡ at ∷ []
layer_starts (Content-F.Scalar r) at s e = refl
layer_starts (Content-F.Array vs) at s e = cc
layer_starts (Content-F.Table t) at s e = cc

scalar_starts : (v : Value) (s : Scalar) → scalar_of (layer_in v) ≡ Some s → starts_in v ≡ (span_in v).start ∷ []
scalar_starts v s is = starts_by_layer v ∙ layer_starts (layer_in v) (span_in v).start s is

same_starts : (xs ys : List ℕ) → xs ≡ ys → IsPartOf xs ys
same_starts xs ys e = subst (IsPartOf xs) e (part_itself xs)

own_within : {T : Type 0} (v : Value) (x : Spanned T) (s : Scalar) → x.span ≡ span_in v
    → scalar_of (layer_in v) ≡ Some s → Within v (own_span x)
own_within v x s same is = record {
  inside = own_mark v x.span same;
  part =
      same_starts (x.span.start ∷ []) (starts_in v)
      (ap (λ (span : Span). span.start ∷ []) same ∙ sym (scalar_starts v s is));
}

pub word_within : (v : Value) (word : SpannedText) → ReadsSpanned ReadsText v word
    → Within v (own_span word)
word_within v word reads =
    let there = scalar_there text_of (scalar_of (layer_in v)) word.value reads.1 in own_within v word there.0
    reads.0 there.1

pub flag_within : (v : Value) (flag : Spanned Bool) → ReadsSpanned ReadsBool v flag
    → Within v (own_span flag)
flag_within v flag reads =
    let there = scalar_there bool_of (scalar_of (layer_in v)) flag.value reads.1 in own_within v flag there.0
    reads.0 there.1

pub meaning_within : {A : Type 0} (meaning : List ℕ → Option A) (v : Value) (read : Spanned A)
    → ReadsSpanned (ReadsAs meaning) v read → Within v (own_span read)
meaning_within meaning v read reads =
    let word = text_there meaning (text_in v) read.value reads.1 in
    let there = scalar_there text_of (scalar_of (layer_in v)) word.0 word.1 in
    own_within v read there.0 reads.0 there.1

pub words_within : (v : Value) (words : List SpannedText) → ReadsTexts v words
    → Within v (word_spans words)
words_within v words reads = list_within own_span (ReadsSpanned ReadsText) word_within v words reads

pub reason_within : (v : Value) (reason : Reason) → ReadsReason v reason
    → Within v (reason_span reason)
reason_within v reason reads = word_within v reason.0 reads

-- a value with a text, be it a string or a date, is a scalar
dated_there : (o : Option Scalar) (t : List ℕ)
    → or_else (option_and_then text_of o) (option_and_then date_of o) ≡ Some t → (s : Scalar) × (o ≡ Some s)
dated_there None t e = cc
dated_there (Some s) t e = (s, refl)

pub day_within : (v : Value) (day : Spanned Expiry) → ReadsSpanned ReadsExpiry v day
    → Within v (own_span day)
day_within v day reads =
    let there = dated_there (scalar_of (layer_in v)) day.value.written reads.1.0 in
    own_within v day there.0 reads.0 there.1

-- ---- specs and entries

start_by : (b : Bool) (span : Span) (n : ℕ) → (cond b (span_of span.start n) span).start ≡ span.start
start_by true span n = refl
start_by false span n = refl

spec_text_within : (v : Value) (spec : PackageSpec) → ReadsSpecText v spec
    → Within v (spec_span spec)
spec_text_within v spec reads = by_text (text_in v) refl reads
  where
    by_text : (o : Option (List ℕ)) → text_in v ≡ o → ReadsSpecOf o v spec → Within v (spec_span spec)
    by_text None is reads = absurd reads
    by_text (Some t) is reads =
        let name = spec.name.value in
        record {
          inside = (
            record {
              part = v;
              inside = itself v;
              marks = inr (record {
                text = t;
                name = name;
                requirement = spec.req_text;
                is_text = is;
                is_spec = reads.0;
                is = reads.1;
              });
            },
            tt,
          );
          part = same_starts (spec.name.span.start ∷ []) (starts_in v)
              (ap (λ (span : Span). span.start ∷ []) reads.1
              ∙ (ap (λ n. n ∷ []) (start_by (is_verbatim v) (span_in v) (length name))
              ∙ sym (starts_of_text v t is)));
        }

name_key_within : (o : Option Value) (spec : PackageSpec)
    → ReadsThere (ReadsSpanned (ReadsAs name_in)) o spec.name → WithinKey o (spec_span spec)
name_key_within None spec reads = absurd reads
name_key_within (Some v) spec reads =
    let word = text_there name_in (text_in v) spec.name.value reads.1 in
    let there = scalar_there text_of (scalar_of (layer_in v)) word.0 word.1 in
    key_at v (spec_span spec) (own_within v spec.name there.0 reads.0 there.1)

name_read : (entries : Entries) (spec : PackageSpec) → ReadsName entries spec
    → ReadsThere (ReadsSpanned (ReadsAs name_in)) (at_key key.Name entries) spec.name
unfolding name_of
name_read entries spec reads = says_of key.Name reads

spec_keys_within : (entries : Entries) (spec : PackageSpec) (ys : List Span)
    → ReadsSpecKeys entries spec
    → WithinKeys (left (spec_fields entries) entries) ys → WithinKeys entries (spec_span spec ++ ys)
spec_keys_within entries spec ys reads rest = by_crate (at_key key.Crate entries) refl reads rest
  where
    by_crate : (o : Option Value) → at_key key.Crate entries ≡ o → ReadsSpecBy o entries spec
        → WithinKeys (left (if is_some o then crate_fields else name_fields) entries) ys
        → WithinKeys entries (spec_span spec ++ ys)
    by_crate (Some v) is reads rest =
        put_key (name_of key.Crate) entries (spec_span spec) ys
        (subst (λ (o : Option Value). WithinKey o (spec_span spec)) (sym is)
        (key_at v (spec_span spec) (spec_text_within v spec reads))) rest
    by_crate None is reads rest =
        put_key (name_of key.Name) entries (spec_span spec) ys
        (name_key_within (at_key key.Name entries) spec (name_read entries spec reads))
        (skip_key (name_of key.Version) (without (name_of key.Name) entries) ys rest)

pub entry_keys_within : {T : Type 0} (fields : List Field)
    (apart : (entries : Entries) → are_apart (entry_fields fields entries) ≡ true) (Reads : Entries → T → Type 0)
    → DependsOn fields Reads → (ys : List Span) (spec : PackageSpec) (said : T)
    → ((entries : Entries) → Reads entries said → WithinKeys entries ys) → (entries : Entries)
    → ReadsEntryKeys Reads entries spec said → WithinKeys entries (spec_span spec ++ ys)
entry_keys_within fields apart Reads depends ys spec said each entries reads =
    let rest = said_left (spec_fields entries) fields Reads entries said depends (apart entries) reads.besides in
    spec_keys_within entries spec ys reads.of_spec (each (left (spec_fields entries) entries) rest)

pub entry_within : {T : Type 0} (fields : List Field)
    (apart : (entries : Entries) → are_apart (entry_fields fields entries) ≡ true) (f : T → List Span)
    (Reads : Entries → Option T → Type 0) → DependsOn fields Reads
    → ((entries : Entries) (said : Option T) → Reads entries said → WithinKeys entries (of_some f said))
    → (v : Value) (spec : PackageSpec) (inner : Option T) → ReadsEntry Reads v spec inner
    → Within v (spec_span spec ++ of_some f inner)
entry_within fields apart f Reads depends each v spec inner reads = by_text (text_in v) reads
  where
    by_text : (o : Option (List ℕ)) → ReadsEntryBy Reads o v spec inner
        → Within v (spec_span spec ++ of_some f inner)
    by_text None reads =
        table_within (spec_span spec ++ of_some f inner) (ReadsPair Reads) (spec, inner)
        (entry_keys_within fields apart Reads depends (of_some f inner) spec inner
        (λ entries said. each entries inner said)) v reads
    by_text (Some t) reads =
        subst (λ i. Within v (spec_span spec ++ of_some f i)) (sym reads.1) (spec_text_within v spec reads.0)
