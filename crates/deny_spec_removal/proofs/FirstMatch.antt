-- The first match of a list without some entries, or with new spans.
use Rattle.std.proofs.Common.{◌≡◌, ◌∙◌, Bool, List, None, Option, Some, ap, false, map, refl, true}
use Rattle.std.specs.Prelude.{Contains, filter, option_map}
use Rattle.std.specs.Option.{option_map_or}
use Rattle.deny_base_lists.proofs.Agreement.{find_on}
use Rattle.deny_base_lists.proofs.Booleans.{tests_agree}
use Rattle.deny_base_lists.proofs.Filters.{find-map}
use Rattle.deny_base_lists.proofs.Finding.{found_member}
use Rattle.deny_base.specs.declared.span.Span.{Span}
use Rattle.deny_spec.specs.Wrappers.{same_span}
use Rattle.deny_spec.proofs.SpanLemmas.{same_span-true, same-span}
use Rattle.deny_spec_report.specs.FirstMatch.{first_of, is_first}
use Rattle.deny_spec_report.proofs.Kept.{find_first_kept}

-- ---- spans

-- ---- a list without some entries

-- the first entry that matches is the same where it stays
pub first_stays : {E W : Type 0} (does_match : E → W → Bool) (keep : E → Bool) (entries : List E) (w : W)
    → ((e : E) → first_of does_match entries w ≡ Some e → keep e ≡ true)
    → first_of does_match (filter keep entries) w ≡ first_of does_match entries w
first_stays does_match keep entries w stays = find_first_kept keep (λ e. does_match e w) entries stays

pub is_first_stays : {E W : Type 0} (span : E → Span) (does_match : E → W → Bool) (keep : E → Bool) (entries : List E)
    (e : E) (w : W) → ((x : E) → first_of does_match entries w ≡ Some x → keep x ≡ true)
    → is_first span does_match (filter keep entries) e w ≡ is_first span does_match entries e w
is_first_stays {E} span does_match keep entries e w stays =
    ap (λ (o : Option E). option_map_or (λ first. same_span (span first) (span e)) o false)
    (first_stays does_match keep entries w stays)

-- ---- a list with new spans

-- the first entry with a new span that matches is that of the first one before
pub first_anew : {E W : Type 0} (does_match : E → W → Bool) (anew : E → E) (entries : List E) (w : W)
    → ((e : E) → Contains entries e → does_match (anew e) w ≡ does_match e w)
    → first_of does_match (map anew entries) w ≡ option_map anew (first_of does_match entries w)
first_anew does_match anew entries w same = find-map (λ e. does_match e w) anew entries
    ∙ ap (option_map anew) (find_on (λ e. does_match (anew e) w) (λ e. does_match e w) entries same)

same_first : {E : Type 0} (span : E → Span) (anew : E → E) (e : E) (o : Option E)
    → ((x : E) → o ≡ Some x → span (anew x) ≡ span (anew e) → span x ≡ span e)
    → ((x : E) → span x ≡ span e → span (anew x) ≡ span (anew e))
    → option_map_or (λ first. same_span (span first) (span (anew e))) (option_map anew o) false
    ≡ option_map_or (λ first. same_span (span first) (span e)) o false
same_first span anew e None apart along = refl
same_first span anew e (Some x) apart along = tests_agree
    (same_span (span (anew x)) (span (anew e))) (same_span (span x) (span e))
    (λ same. same_span-true (span x) (span e) (apart x refl (same-span (span (anew x)) (span (anew e)) same)))
    (λ same. same_span-true (span (anew x)) (span (anew e)) (along x (same-span (span x) (span e) same)))

-- an entry is the first that matches where it was before, as long as different spans stay different
pub is_first_renamed : {E W : Type 0} (span : E → Span) (does_match : E → W → Bool) (anew : E → E) (entries : List E)
    (e : E) (w : W) → ((x : E) → Contains entries x → does_match (anew x) w ≡ does_match x w)
    → ((x : E) → Contains entries x → span (anew x) ≡ span (anew e) → span x ≡ span e)
    → ((x : E) → span x ≡ span e → span (anew x) ≡ span (anew e))
    → is_first span does_match (map anew entries) (anew e) w ≡ is_first span does_match entries e w
is_first_renamed {E} span does_match anew entries e w same apart along =
    ap (λ (o : Option E). option_map_or (λ first. same_span (span first) (span (anew e))) o false)
    (first_anew does_match anew entries w same)
    ∙ same_first span anew e (first_of does_match entries w)
    (λ x is. apart x (found_member (λ y. does_match y w) entries x is)) along
