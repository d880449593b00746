-- A mismatch of a script's checksum is reported at the same level without entries that have no hit: the remaining ones
-- still write it, and no path has the same span.
use Rattle.std.proofs.Common.{◌≡◌, ◌∙◌, ℕ, Bool, true, false, List, Option, None, Some, ap, refl, sym}
use Rattle.std.specs.Prelude.{Contains, filter, if◌then◌else◌}
use Rattle.std.specs.Option.{option_map_or}
use Rattle.std.proofs.lemmas.Bool.{false≢true, false_from_ne_true}
use Rattle.deny_base_lists.proofs.Members.{any_passes, filtered, from_contains_map}
use Rattle.deny_base.specs.declared.code.Code.TheVariants as code
use Rattle.deny_base.specs.declared.code.DiagnosticCode.TheVariants.{Bans}
use Rattle.deny_base.specs.declared.entry.EntryId.{EntryId}
use Rattle.deny_base.specs.declared.key.Key.{Key}
use Rattle.deny_base.specs.declared.level.Severity.TheVariants as severity
use Rattle.deny_base.specs.declared.span.Span.{Span}
use Rattle.deny_base.specs.declared.span.Spanned.{Spanned}
use Rattle.deny_spec.specs.Building.{AllowedPath, Building, Bypass}
use Rattle.deny_spec.specs.Graph.{Crate}
use Rattle.deny_spec.specs.Wrappers.{same_span}
use Rattle.deny_spec.proofs.SpanLemmas.{same-span}
use Rattle.deny_spec_report.specs.Packages.{Scanning}
use Rattle.deny_spec_report.specs.PackageDiags.{is_script_sum, is_sum_of_script, mismatch_severity}
use Rattle.deny_spec_removal.specs.Asking.{AreAskedAlike}
use Rattle.deny_spec_removal.specs.Removal.{cut_building, cut_bypass, stays_bypass}
use Rattle.deny_spec_removal.proofs.Asking.{used_member}
use Rattle.deny_gate.proofs.BuildOrigins.{IsPathSum, Origin, denied, is_mild, is_of_files, mild, of_file, of_script}
use Rattle.deny_gate.proofs.BuildOrigins.{of_sum}
use Rattle.deny_gate.proofs.BuildErrors.{same_code, script_sum_there}

-- no checksum of a script has the span of one of a path
abbrev pub SumsDiffer : Building → Type 0
SumsDiffer b = (y z : Bypass) → Contains b.bypass y → Contains b.bypass z → (sum : Spanned (List ℕ))
    → y.script ≡ Some sum → (a : AllowedPath) → Contains z.allow a → (other : Spanned (List ℕ))
    → a.checksum ≡ Some other → sum.span ≡ other.span → ⊥

-- a checksum of a script has this span
record IsScriptSumOf (b : Building) (this_span : Span) : Type 0 where
  bypass : Bypass
  written : Contains b.bypass bypass
  sum : Spanned (List ℕ)
  is : bypass.script ≡ Some sum
  same : sum.span ≡ this_span

sum_by : (b : Building) (this_span : Span) (y : Bypass) → Contains b.bypass y → (o : Option (Spanned (List ℕ)))
    → y.script ≡ o → option_map_or (λ sum. same_span sum.span this_span) o false ≡ true → IsScriptSumOf b this_span
sum_by b this_span y written None at is = absurd (false≢true is)
sum_by b this_span y written (Some sum) at is = record {
  bypass = y;
  written = written;
  sum = sum;
  is = at;
  same = same-span sum.span this_span is;
}

script_sum_of : (b : Building) (this_span : Span) → is_script_sum b this_span ≡ true → IsScriptSumOf b this_span
unfolding is_script_sum
script_sum_of b this_span is =
    let found = any_passes (is_sum_of_script this_span) b.bypass is in
    sum_by b this_span found.one found.member found.one.script refl found.passes

-- what a policy writes without some entries it writes with them
cut_sum : (b : Building) (taken : List EntryId) (this_span : Span) → IsScriptSumOf (cut_building taken b) this_span
    → IsScriptSumOf b this_span
cut_sum b taken this_span of =
    let from = from_contains_map (cut_bypass taken) (filter (stays_bypass taken) b.bypass) of.bypass of.written in
    record {
      bypass = from.0;
      written = filtered (stays_bypass taken) b.bypass from.0 from.1;
      sum = of.sum;
      is = ap (λ (y : Bypass). y.script) from.2 ∙ of.is;
      same = of.same;
    }

module _ (l : Scanning) (taken : List EntryId) (stay : AreAskedAlike l (cut_building taken l.building) taken)
    (differ : SumsDiffer l.building) (key : Key) (coded : key.code ≡ Bans code.ChecksumMismatch) where
  abbrev rest : Building
  rest = cut_building taken l.building

  -- the span of a path's checksum is that of no script
  no_script : (c : Crate) (sum : Spanned (List ℕ)) → IsPathSum l c sum → key.entry ≡ sum.span
      → IsScriptSumOf l.building key.entry → ⊥
  no_script c sum path same of = differ of.bypass path.bypass of.written
      (used_member l.building c path.bypass path.is_used) of.sum of.is path.allowed path.written sum path.is
      (of.same ∙ same)

  sums_alike : Origin l key → is_script_sum rest key.entry ≡ is_script_sum l.building key.entry
  sums_alike (mild d code_is mine) =
      absurd (false≢true (ap is_mild (same_code key code.ChecksumMismatch d coded code_is) ∙ mine))
  sums_alike (denied c code_is bad) =
      absurd (cc (same_code key code.ChecksumMismatch code.BuildScriptNotAllowed coded code_is))
  sums_alike (of_file c d code_is mine walked) =
      absurd (false≢true (ap is_of_files (same_code key code.ChecksumMismatch d coded code_is) ∙ mine))
  sums_alike (of_script c sum known code_is checked wanted same) =
      script_sum_there (record l { building = rest }) c sum key.entry (stay.sums c known checked ∙ wanted) same
      ∙ sym (script_sum_there l c sum key.entry wanted same)
  sums_alike (of_sum c sum code_is walked path same) =
      false_from_ne_true (is_script_sum rest key.entry) (λ is. no_script c sum path same
      (cut_sum l.building taken key.entry (script_sum_of rest key.entry is)))
      ∙ sym (false_from_ne_true (is_script_sum l.building key.entry) (λ is. no_script c sum path same
      (script_sum_of l.building key.entry is)))

  pub mismatch_alike : Origin l key → mismatch_severity rest key ≡ mismatch_severity l.building key
  unfolding mismatch_severity
  mismatch_alike of = ap (λ (b : Bool). if b then severity.Warning else severity.Error) (sums_alike of)
