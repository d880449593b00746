-- Worked cases of waivers that expired: their keys, what the warnings say, and which keys hold beside them.
use Rattle.std.proofs.Common.{◌≡◌, ℕ, List, [], ◌∷◌, None, Some, codes, false, refl}
use Rattle.std.specs.Prelude.{⊤}
use Rattle.std.specs.List.{slice_range}
use Rattle.deny_base.specs.declared.check.Check.TheVariants.{Bans}
use Rattle.deny_base.specs.declared.code.DiagnosticCode.TheVariants.{Expired}
use Rattle.deny_base.specs.declared.key.Section.TheVariants as section
use Rattle.deny_base.specs.declared.level.Severity.TheVariants as severity
use Rattle.deny_base.specs.declared.span.Span.{Span}
use Rattle.deny_base_lists.proofs.Members.{Contains-first}
use Rattle.deny_spec.specs.DiagParts.{primary, secondary, spec_text}
use Rattle.deny_spec.specs.Expired.{PastWaiver, expired_key, expired_labels, expired_message}
use Rattle.deny_spec.specs.Keys.{duplicate_key}
use Rattle.deny_spec_report.specs.Circumstances.{Circumstances, unseen_by, with_expired}
use Rattle.deny_spec_report.specs.Diags.{diag_of, key_message, key_pack, pack_of}
use Rattle.deny_spec_report.specs.Expired.{expired_diag}
use Rattle.deny_spec_report.specs.Facts.{Facts}
use Rattle.deny_spec_report.specs.Holding.{Holds}
use Rattle.deny_spec_report.specs.MessageParts.{not_built, plainly}
use Rattle.deny_spec_report.proofs.BuildCases.{nowhere}
use Rattle.deny_spec_report.proofs.Cases.{all_count, exactly, on_cases, plain, span, spanned_at, spec_at, two_x}
use Rattle.deny_spec_report.proofs.DuplicateRows.{two_hold}

-- the text of a policy whose one skip counts until the end of a January
text : List ℕ
text = codes "[bans]\nmultiple-versions = \"deny\"\nskip = [{ crate = \"x@=1.0.0\", expires = \"2026-01-31\" }]\n"

unfoldable day : Span
day = record { start = 75; end = 85 }

-- the skip, where its day is over
unfoldable past_skip : PastWaiver
past_skip = record {
  spec = record (exactly 1 (spec_at (codes "x") 53)) { written = Some (codes "=1.0.0") };
  expires = record { value = codes "2026-01-31"; span = day };
  reason = None;
}

-- another waiver of `x`, which expired on the day before, and has a reason
unfoldable past_root : PastWaiver
past_root = record {
  spec = spec_at (codes "x") 110;
  expires = record { value = codes "2026-01-30"; span = record { start = 130; end = 140 } };
  reason = Some (spanned_at (codes "late") 150);
}

-- the policy in February, of `app`, which needs two versions of `x`; without the skip it skips nothing
unfoldable in_february : Circumstances
in_february = with_expired (unseen_by plain two_x 3) (past_skip ∷ [])

unfoldable with_both : Circumstances
with_both = with_expired (unseen_by plain two_x 3) (past_skip ∷ past_root ∷ [])

unfoldable facts : Facts
facts = record { chains = all_count; reached = nowhere }

-- what a row unfolds
unfoldable expired_on_cases : ⊤
unfolding on_cases day past_skip past_root in_february with_both expired_key expired_message expired_labels expired_diag
    spec_text
expired_on_cases = tt

-- ---- spans

name_in_text : slice_range text 53 54 ≡ codes "x"
unfolding text
name_in_text = refl

day_in_text : slice_range text 75 85 ≡ codes "2026-01-31"
unfolding text
day_in_text = refl

-- ---- keys

key_is : expired_key past_skip ≡ record {
  section = section.Deprecated;
  place = 0;
  code = Expired;
  entry = record { start = 53; end = 54 };
  text = [];
  other = 0;
  places = [];
}
unfolding expired_on_cases
key_is = refl

holds : Holds in_february facts (expired_key past_skip)
unfolding expired_on_cases
holds = Contains-first (expired_key past_skip) []

-- the two versions that the skip kept apart are a duplicate again
duplicate_holds : Holds in_february facts (duplicate_key (1 ∷ 2 ∷ []))
unfolding in_february facts duplicate_key
duplicate_holds = two_hold

-- ---- messages

reported : key_pack in_february (expired_key past_skip) ≡ record {
  check = Bans;
  kid = None;
  diags = record {
    key = expired_key past_skip;
    diag = record {
      severity = severity.Warning;
      code = Some Expired;
      message = codes "waiver 'x = =1.0.0' expired on 2026-01-31";
      labels = primary 3 (record { start = 75; end = 85 }) (codes "expired here") ∷ [];
      notes = [];
    };
    graph_nodes = [];
    with_features = false;
  } ∷ [];
}
unfolding expired_on_cases diag_of pack_of
reported = refl

-- each key has the message of its own waiver, with a label at its reason
reported_with_a_reason : key_message with_both (expired_key past_root)
    ≡ plainly severity.Warning (codes "waiver 'x' expired on 2026-01-30")
    (primary 3 (record { start = 130; end = 140 }) (codes "expired here")
    ∷ secondary 3 (span 150) (codes "reason") ∷ []) None
unfolding expired_on_cases
reported_with_a_reason = refl

first_beside : key_message with_both (expired_key past_skip) ≡ key_message in_february (expired_key past_skip)
unfolding expired_on_cases
first_beside = refl

-- no waiver with the key's span expired
none_expired : key_message in_february (expired_key past_root) ≡ not_built
unfolding expired_on_cases
none_expired = refl
