-- The spans of the faults of a table `build` lie in the text.
use Rattle.std.proofs.Common.{◌≡◌, ◌⊎◌, ◌+◌, ◌-◌, ◌<◌, ◌&&◌, ◌++◌, ℕ, Bool, true, false, cond, not, List, [], ◌∷◌, length}
use Rattle.std.proofs.Common.{drop, take, get_or, Option, None, Some, inl, inr, refl, sym, ap, subst, ◌∙◌, arith}
use Rattle.std.specs.Prelude.{IfSome, IsUtf8, filter_map, option_map}
use Rattle.std.specs.Cmp.Lexicographic.{same_text as texts_same}
use Rattle.std.specs.List.{AllByRecursion, flat_map}
use Rattle.std.proofs.lemmas.List.{get_or-drop, get_or-take, length-drop, length-take-le}
use Rattle.std.proofs.lemmas.List.Quantifiers.{position-Some}
use Rattle.std.proofs.lemmas.Str.{IsCharBoundary-after_ascii, IsCharBoundary-before_ascii}
use Rattle.deny_base.specs.declared.span.Span.{Span}
use Rattle.deny_cfg_build.proofs.BuiltinLaws.{ascii_from_test}
use Rattle.deny_cfg_build.specs.Build.{listed}
use Rattle.deny_cfg_build.specs.Wrong.{IsGlobFault, IsWrong, bad_at, bad_span, byte_span, bytes_at, extension_fault}
use Rattle.deny_cfg_build.specs.Wrong.{faults_by_text, is_absolute, is_ascii_text, line_end, path_fault, path_faults}
use Rattle.deny_cfg_build.specs.Wrong.{written_at}
use Rattle.deny_cfg_build.specs.declared.wrong.BuildFault.{BuildFault}
use Rattle.deny_cfg_build.specs.declared.wrong.BuildFault.TheVariants as fault
use Rattle.deny_base_lists.proofs.Each.{all_append, all_flat, all_given}
use Rattle.deny_base_lists.proofs.Members.{at_member}
use Rattle.deny_base_lists.proofs.Numbers.{nat_le-true}
use Rattle.deny_spec.specs.Policy.{SpannedText}
use Rattle.deny_spec.specs.Text.{same_text}
use Rattle.deny_cfg_tables.specs.declared.bans.cfg.build.BuildConfig.{BuildConfig}
use Rattle.deny_cfg_tables.specs.declared.bans.cfg.bypass.Bypass.{Bypass}
use Rattle.deny_cfg_tables.specs.declared.bans.cfg.bypass.BypassPath.{BypassPath}
use Rattle.deny_toml.specs.Spans.{IsSpan}
use Rattle.deny_cfg.proofs.LabelLaws.{Lie}
use Rattle.deny_cfg.proofs.Among.{lie_each, lie_prefix, lie_rest}
use Rattle.deny_cfg.specs.Marks.{IsByteOfMarked, IsClashSpan, IsMarked, IsPolicySpan}
use Rattle.deny_cfg.specs.LabelSpans.{of_some, own_span, path_spans, spec_span, word_spans}
use Rattle.deny_cfg.specs.private.LabelSpans.{written_build_spans}
use Rattle.deny_cfg.specs.private.LabelSpans.{written_bypass_spans}

-- ---- the byte of an extension that is not allowed

module _ (text : List ℕ) (utf8 : IsUtf8 text) (w : SpannedText) (located : IsSpan text w.span) where
  bytes : List ℕ
  bytes = bytes_at text w.span

  bytes_are : bytes ≡ take (w.span.end - w.span.start) (drop w.span.start text)
  unfolding bytes
  bytes_are =
      ap (λ b. cond b (take (w.span.end - w.span.start) (drop w.span.start text)) [])
      (λ i. nat_le-true w.span.start w.span.end located.ordered i
      && nat_le-true w.span.end (length text) located.within i)

  bytes_long : length bytes ≡ w.span.end - w.span.start
  unfolding bytes
  bytes_long =
      let rest : length (drop w.span.start text) ≡ length text - w.span.start =
      length-drop w.span.start text in
      ap length bytes_are
      ∙ length-take-le (w.span.end - w.span.start) (drop w.span.start text)
      (omega (arith, rest, located.ordered, located.within))

  -- an ASCII byte within the span
  ascii_span : (at : ℕ) → at < length bytes → get_or bytes at 0 < 128
      → IsSpan text (byte_span w.span at)
  unfolding bytes
  ascii_span at inside ascii =
      let long = bytes_long in
      let before : w.span.start + at < length text =
      omega (arith, long, inside, located.ordered, located.within) in
      let same : get_or bytes at 0 ≡ get_or text (w.span.start + at) 0 =
      ap (λ (bs : List ℕ). get_or bs at 0) bytes_are
      ∙ (get_or-take (w.span.end - w.span.start) (drop w.span.start text) at 0 (omega (arith, long, inside))
      ∙ get_or-drop w.span.start text at 0) in
      let byte : get_or text (w.span.start + at) 0 < 128 = subst (λ b. b < 128) same ascii in
      record {
        ordered = omega arith;
        within = omega (arith, before);
        starts = IsCharBoundary-before_ascii text (w.span.start + at) before byte;
        ends = IsCharBoundary-after_ascii text (w.span.start + at) utf8 before byte;
      }

  bad_lies : (at : ℕ) → is_ascii_text w.value ≡ true → at < length w.value → IsSpan text (bad_span text w at)
  unfolding bytes
  bad_lies at ascii inside = by_same (same_text w.value (written_at text w.span)) refl
    where
      by_same : (b : Bool) → same_text w.value (written_at text w.span) ≡ b
          → IsSpan text (cond b (byte_span w.span (line_end bytes + at)) w.span)
      by_same false other = located
      by_same true same =
          let value : w.value ≡ drop (line_end bytes) bytes =
          texts_same w.value (written_at text w.span) (sym same) in
          let long : length w.value ≡ length bytes - line_end bytes =
          ap length value ∙ length-drop (line_end bytes) bytes in
          let byte : get_or w.value at 0 ≡ get_or bytes (line_end bytes + at) 0 =
          ap (λ (bs : List ℕ). get_or bs at 0) value ∙ get_or-drop (line_end bytes) bytes at 0 in
          ascii_span (line_end bytes + at) (omega (arith, long, inside))
          (subst (λ b. b < 128) byte (ascii_from_test w.value ascii at))

  -- the first byte that is not allowed, or the whole extension
  bad_marked : IsMarked text w.span → (at : ℕ) → is_ascii_text w.value ≡ true → at < length w.value
      → IsMarked text (bad_span text w at) ⊎ IsByteOfMarked text (bad_span text w at)
  unfolding bytes
  bad_marked marked at ascii inside = by_same (same_text w.value (written_at text w.span)) refl
    where
      by_same : (b : Bool) → same_text w.value (written_at text w.span) ≡ b
          → IsMarked text (cond b (byte_span w.span (line_end bytes + at)) w.span)
          ⊎ IsByteOfMarked text (cond b (byte_span w.span (line_end bytes + at)) w.span)
      by_same false other = inl marked
      by_same true same =
          let value : w.value ≡ drop (line_end bytes) bytes =
          texts_same w.value (written_at text w.span) (sym same) in
          let long : length w.value ≡ length bytes - line_end bytes =
          ap length value ∙ length-drop (line_end bytes) bytes in
          inr (record {
            whole = w.span;
            marked = marked;
            from = omega arith;
            one = omega arith;
            to = omega (arith, inside, long, bytes_long, located.ordered);
          })

-- ---- faults

-- the spans of a fault
unfoldable pub FaultLies : List ℕ → BuildFault → Type 0
FaultLies text (fault.NonAscii span) = IsClashSpan text span
FaultLies text (fault.NoLetter span byte) = IsClashSpan text span × IsClashSpan text byte
FaultLies text (fault.Glob span byte) = IsClashSpan text span
FaultLies text (fault.Absolute span) = IsClashSpan text span

-- what any label may mark, a label of a clash may
pub of_clash : (text : List ℕ) (span : Span) → IsPolicySpan text span → IsClashSpan text span
of_clash text span is = record { located = is.located; marked = inl is.marked }

module _ (text : List ℕ) (utf8 : IsUtf8 text) where
  abbrev OfPolicy : Span → Type 0
  OfPolicy span = IsPolicySpan text span

  extension_lies : (w : SpannedText) → OfPolicy w.span → IfSome (extension_fault text w) (FaultLies text)
  unfolding extension_fault FaultLies
  extension_lies w located = by_ascii (is_ascii_text w.value) refl
    where
      by_offset : (o : Option ℕ) → is_ascii_text w.value ≡ true → bad_at w.value ≡ o
          → IfSome (option_map (λ at. fault.NoLetter w.span (bad_span text w at)) o) (FaultLies text)
      by_offset None ascii is = tt
      by_offset (Some at) ascii is =
          let inside = (position-Some _ w.value at 0 is).0 in (
            of_clash text w.span located,
            record {
              located = bad_lies text utf8 w located.located at ascii inside;
              marked = bad_marked text utf8 w located.located located.marked at ascii inside;
            },
          )

      by_ascii : (b : Bool) → is_ascii_text w.value ≡ b
          → IfSome (cond (not b) (Some (fault.NonAscii w.span))
          (option_map (λ at. fault.NoLetter w.span (bad_span text w at)) (bad_at w.value))) (FaultLies text)
      by_ascii false other = of_clash text w.span located
      by_ascii true ascii = by_offset (bad_at w.value) ascii refl

  path_lies : (file : BypassPath) → Lie OfPolicy (path_spans file) → IfSome (path_fault file) (FaultLies text)
  unfolding path_fault FaultLies
  path_lies file lie = by_test (is_absolute file.path.value)
    where
      by_test : (b : Bool) → IfSome (cond b (Some (fault.Absolute file.path.span)) None) (FaultLies text)
      by_test true = of_clash text file.path.span lie.0
      by_test false = tt

  words_lie : (words : List SpannedText) → Lie OfPolicy (word_spans words)
      → AllByRecursion (λ (w : SpannedText). OfPolicy w.span) words
  words_lie [] lie = tt
  words_lie (w ∷ ws) lie = (lie.0, words_lie ws lie.1)

  listed_lies : (words : Option (List SpannedText)) → Lie OfPolicy (of_some word_spans words)
      → AllByRecursion (λ (w : SpannedText). OfPolicy w.span) (listed words)
  listed_lies None lie = tt
  listed_lies (Some words) lie = words_lie words lie

  listed_each : (entries : Option (List Bypass)) → Lie OfPolicy (of_some (flat_map written_bypass_spans) entries)
      → AllByRecursion (λ (b : Bypass). Lie OfPolicy (written_bypass_spans b)) (listed entries)
  listed_each None lie = tt
  listed_each (Some entries) lie = lie_each OfPolicy written_bypass_spans entries lie

  -- the globs of an entry, its paths and its last day
  after_required : (b : Bypass) → Lie OfPolicy (written_bypass_spans b)
      → Lie OfPolicy
      (of_some word_spans b.allow_globs ++ (flat_map path_spans b.allow ++ (of_some own_span b.expires ++ [])))
  after_required b lie =
      let script = of_some own_span b.build_script in
      let required = word_spans b.required_features in
      lie_rest OfPolicy required _ (lie_rest OfPolicy script _ (lie_rest OfPolicy (spec_span b.spec) _ lie))

  paths_lie : (b : Bypass) → Lie OfPolicy (written_bypass_spans b) → AllByRecursion (FaultLies text) (path_faults b)
  unfolding path_faults
  paths_lie b lie =
      all_given (λ file. Lie OfPolicy (path_spans file)) (FaultLies text) path_fault path_lies b.allow
      (lie_each OfPolicy path_spans b.allow (lie_prefix OfPolicy (flat_map path_spans b.allow) _
      (lie_rest OfPolicy (of_some word_spans b.allow_globs) _ (after_required b lie))))

  globs_lie : (b : Bypass) → Lie OfPolicy (written_bypass_spans b) → (found : BuildFault) → IsGlobFault b found
      → FaultLies text found
  unfolding FaultLies
  globs_lie b lie found is =
      let words = listed_lies b.allow_globs
      (lie_prefix OfPolicy (of_some word_spans b.allow_globs) _ (after_required b lie)) in
      subst (FaultLies text) (sym is.1.1.is)
      (of_clash text is.0.span (at_member (λ (w : SpannedText). OfPolicy w.span) (listed b.allow_globs) is.0 words is.1.0))

  pub wrong_lies : (build : BuildConfig) → Lie OfPolicy (written_build_spans build) → (found : BuildFault)
      → IsWrong text build found → FaultLies text found
  unfolding faults_by_text
  wrong_lies build lie found wrong =
      let extensions = of_some word_spans build.script_extensions in
      let entries = of_some (flat_map written_bypass_spans) build.bypass in
      let each = listed_each build.bypass (lie_prefix OfPolicy entries [] (lie_rest OfPolicy extensions _ lie)) in
      let by_text =
      all_append (FaultLies text) (filter_map (extension_fault text) (listed build.script_extensions))
      (flat_map path_faults (listed build.bypass))
      (all_given (λ (w : SpannedText). OfPolicy w.span) (FaultLies text) (extension_fault text) extension_lies
      (listed build.script_extensions)
      (listed_lies build.script_extensions (lie_prefix OfPolicy extensions _ lie)))
      (all_flat (λ (b : Bypass). Lie OfPolicy (written_bypass_spans b)) (FaultLies text) path_faults paths_lie
      (listed build.bypass) each) in
      elim wrong as (λ _. FaultLies text found) [
        | inl is ↦ at_member (FaultLies text) (faults_by_text text build) found by_text is
        | inr some ↦
            globs_lie some.0
            (at_member (λ (b : Bypass). Lie OfPolicy (written_bypass_spans b)) (listed build.bypass) some.0 each some.1.0)
            found some.1.1
      ]
