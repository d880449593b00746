-- A cursor after it gave an item.
use Rattle.std.proofs.Common.{◌≡◌, ℕ, ◌-◌, ◌<◌, ◌≤◌, [], ◌∷◌, length, Option, Some, Result, Ok, refl, sym, ap, ◌∙◌}
use Rattle.std.proofs.Common.{arith, subst}
use Rattle.std.specs.Prelude.{IsOk}
use Rattle.std.specs.Result.{result_unwrap_or}
use Rattle.deny_std_table.specs.declared.error.ReplacementError.{ReplacementError}
use Rattle.deny_std_table.specs.declared.spans.TextSpan.{TextSpan}
use Rattle.deny_std_table.specs.declared.spans.ApiSpans.{ApiSpans}
use Rattle.deny_std_table.specs.declared.spans.ReplacementSpans.{ReplacementSpans}
use Rattle.deny_std_table.specs.declared.spans.ItemSpans.{ItemSpans}
use Rattle.deny_std_table.specs.declared.spans.ItemSpans.TheVariants.{Stable, Unstable, Unavailable}
use Rattle.deny_std_table.specs.declared.spans.GroupHead.{GroupHead}
use Rattle.deny_std_table.specs.declared.spans.Read.{Read}
use Rattle.deny_std_table.specs.declared.cursor.Cursor.{Cursor}
use Rattle.deny_std_table.specs.private.Spans.{IsTextIn, IsApiIn, IsReplacementIn, IsItemIn}
use Rattle.deny_std_table.specs.Width.{width_of}
use Rattle.deny_std_table.specs.Region.{Bounds, bounds, api, replacement, group_head, nonempty_note}
use Rattle.deny_std_table.specs.Layout.{IsText, IsApi}
use Rattle.deny_std_table.specs.Cursor.{coming, coming_of, left_of}
use Rattle.deny_std_table.specs.private.Cursor.{GivesItem, Ends}
use Rattle.deny_std_table.proofs.LayoutLemmas.{api-sound, replacement-sound, group_head-sound}
use Rattle.deny_std_table.proofs.CursorLemmas.{ok-is, counts_are, none_left, IsStep, stable_gives, unstable_gives}
use Rattle.deny_std_table.proofs.CursorLemmas.{unavailable_gives, group_gives}

text-in : (b : Bounds) (at : ℕ) (span : TextSpan) (next : ℕ) → b.stop ≤ length b.bytes → IsText b at span next
    → IsTextIn b.bytes span
text-in b at span next within is =
    let after = is.after in
    let inside = is.inside in
    record { inside = omega arith; utf8 = is.utf8 }

api-in : (b : Bounds) (at : ℕ) (spans : ApiSpans) (next : ℕ) → b.stop ≤ length b.bytes → IsApi b at spans next
    → IsApiIn b.bytes spans
api-in b at spans next within is = record {
  name = text-in b at spans.name is.after_name within is.name;
  url = text-in b is.after_name spans.url next within is.url;
}

note-in : (b : Bounds) (at : ℕ) (span : TextSpan) (next : ℕ) (said : Option TextSpan) → b.stop ≤ length b.bytes
    → IsText b at span next
    → said ≡ nonempty_note span → (t : TextSpan) → said ≡ Some t → IsTextIn b.bytes t
note-in b at span next said within is noted t some = picked span (text-in b at span next within is) t (sym noted
    ∙ some)
  where
    picked : (p : TextSpan) → IsTextIn b.bytes p → (t : TextSpan) → nonempty_note p ≡ Some t → IsTextIn b.bytes t
    picked p here t is_t = grind arith

pub replacement-in : (b : Bounds) (at : ℕ) (r : Read ReplacementSpans) → b.stop ≤ length b.bytes
    → replacement b at ≡ Ok r → IsReplacementIn b.bytes r.value
replacement-in b at r within is =
    let layout = replacement-sound b at r is in
    record {
      krate = api-in b at r.value.krate layout.after_krate within layout.krate;
      std = api-in b layout.after_krate r.value.std layout.after_std within layout.std;
      note = note-in b layout.after_std layout.note_span r.next r.value.note within layout.note_text layout.note;
    }

pub api-read-in : (b : Bounds) (at : ℕ) (r : Read ApiSpans) → b.stop ≤ length b.bytes → api b at ≡ Ok r
    → IsApiIn b.bytes r.value
api-read-in b at r within is = api-in b at r.value r.next within (api-sound b at r is)

pub is-ok : {A : Type 0} (r s : Result A ReplacementError) (x : A) → r ≡ s → s ≡ Ok x → IsOk r
is-ok r s x first second = subst IsOk (sym (first ∙ second)) refl

left-is : {A : Type 0} (r : Result A ReplacementError) (x other : A) → r ≡ Ok x → x ≡ result_unwrap_or r other
left-is r x other is = sym (ap (λ t. result_unwrap_or t other) is)

-- the item of a step is the one that a cursor gives
gives : (old new : Cursor) (spans : ItemSpans) → new.region ≡ old.region
    → IsStep (bounds (width_of new.region.width) new.region.bytes.now new.region.stop) new.minor new.stable new.counts
    new.at (left_of old) spans
    → IsItemIn old.region.bytes.now spans → GivesItem old new spans
gives old new spans same step texts =
    let rest_is : step.rest ≡ left_of new = left-is (coming_of new) step.rest [] step.reads in
    record {
      same = same;
      reads = step.reads ∙ ap Ok rest_is;
      item = step.item ∙ ap (λ l. spans ∷ l) rest_is;
      texts = texts;
    }

pub stable_answer : (old : Cursor) (got : Read ReplacementSpans) → 0 < old.stable → coming_of old ≡ Ok (left_of old)
    → replacement (bounds (width_of old.region.width) old.region.bytes.now old.region.stop) old.at ≡ Ok got
    → GivesItem old (record old { at = got.next; stable = old.stable - 1 }) (Stable got.value old.minor)
stable_answer old got some reads is =
    let b = bounds (width_of old.region.width) old.region.bytes.now old.region.stop in
    let step = stable_gives b old.minor old.stable old.counts old.at (left_of old) some reads in
    let same : step.0 ≡ got = ok-is _ step.1 is in
    gives old (record old { at = got.next; stable = old.stable - 1 }) (Stable got.value old.minor) refl
    (subst (λ (r : Read ReplacementSpans). IsStep b old.minor (old.stable - 1) old.counts r.next (left_of old)
    (Stable r.value old.minor)) same step.2)
    (replacement-in b old.at got old.region.within is)

pub unstable_answer : (old : Cursor) (got : Read ReplacementSpans) → old.stable ≡ 0 → old.counts.groups ≡ 0
    → 0 < old.counts.unstable
    → coming_of old ≡ Ok (left_of old)
    → replacement (bounds (width_of old.region.width) old.region.bytes.now old.region.stop) old.at ≡ Ok got
    → GivesItem old (record old { at = got.next; counts = record old.counts { unstable = old.counts.unstable - 1 } })
    (Unstable got.value)
unstable_answer old got none groups some reads is =
    let b = bounds (width_of old.region.width) old.region.bytes.now old.region.stop in
    let counts = record old.counts { unstable = old.counts.unstable - 1 } in
    let step = unstable_gives b old.minor old.stable old.counts old.at (left_of old) none groups some reads in
    let same : step.0 ≡ got = ok-is _ step.1 is in
    gives old (record old { at = got.next; counts = counts }) (Unstable got.value) refl
    (subst (λ (r : Read ReplacementSpans). IsStep b old.minor old.stable counts r.next (left_of old) (Unstable r.value))
    same step.2)
    (replacement-in b old.at got old.region.within is)

pub unavailable_answer : (old : Cursor) (got : Read ApiSpans) → old.stable ≡ 0 → old.counts.groups ≡ 0
    → old.counts.unstable ≡ 0
    → 0 < old.counts.unavailable → coming_of old ≡ Ok (left_of old)
    → api (bounds (width_of old.region.width) old.region.bytes.now old.region.stop) old.at ≡ Ok got
    → GivesItem old
    (record old { at = got.next; counts = record old.counts { unavailable = old.counts.unavailable - 1 } })
    (Unavailable got.value)
unavailable_answer old got none groups unstable some reads is =
    let b = bounds (width_of old.region.width) old.region.bytes.now old.region.stop in
    let counts = record old.counts { unavailable = old.counts.unavailable - 1 } in
    let step = unavailable_gives b old.minor old.stable old.counts old.at (left_of old) none groups unstable some reads
    in
    let same : step.0 ≡ got = ok-is _ step.1 is in
    gives old (record old { at = got.next; counts = counts }) (Unavailable got.value) refl
    (subst (λ (r : Read ApiSpans). IsStep b old.minor old.stable counts r.next (left_of old) (Unavailable r.value)) same
    step.2)
    (api-read-in b old.at got old.region.within is)

pub group_answer : (old : Cursor) (got : Read GroupHead) → old.stable ≡ 0 → 0 < old.counts.groups
    → coming_of old ≡ Ok (left_of old)
    → group_head (bounds (width_of old.region.width) old.region.bytes.now old.region.stop) old.at ≡ Ok got
    → (coming_of (record old {
      at = got.next;
      minor = got.value.minor;
      stable = got.value.count;
      counts = record old.counts { groups = old.counts.groups - 1 };
    }) ≡ Ok (left_of old)) × (0 < got.value.count)
group_answer old got none some reads is =
    let b = bounds (width_of old.region.width) old.region.bytes.now old.region.stop in
    let counts = record old.counts { groups = old.counts.groups - 1 } in
    let next = group_gives b old.minor old.stable old.counts old.at (left_of old) none some reads in
    let same : next.0 ≡ got = ok-is _ next.1 is in (
      subst (λ (h : Read GroupHead). coming b h.value.minor h.value.count counts h.next ≡ Ok (left_of old)) same next.2,
      (group_head-sound b old.at got is).3,
    )

-- the item that a cursor reads next is there
pub stable_ready : (old : Cursor) (r : Result (Read ReplacementSpans) ReplacementError) → 0 < old.stable
    → coming_of old ≡ Ok (left_of old)
    → r ≡ replacement (bounds (width_of old.region.width) old.region.bytes.now old.region.stop) old.at → IsOk r
stable_ready old r some reads is =
    let step = stable_gives (bounds (width_of old.region.width) old.region.bytes.now old.region.stop) old.minor
    old.stable old.counts old.at (left_of old) some reads in
    is-ok r _ step.0 is step.1

pub unstable_ready : (old : Cursor) (r : Result (Read ReplacementSpans) ReplacementError) → old.stable ≡ 0
    → old.counts.groups ≡ 0
    → 0 < old.counts.unstable → coming_of old ≡ Ok (left_of old)
    → r ≡ replacement (bounds (width_of old.region.width) old.region.bytes.now old.region.stop) old.at → IsOk r
unstable_ready old r none groups some reads is =
    let step = unstable_gives (bounds (width_of old.region.width) old.region.bytes.now old.region.stop) old.minor
    old.stable old.counts old.at (left_of old) none groups some reads in
    is-ok r _ step.0 is step.1

pub unavailable_ready : (old : Cursor) (r : Result (Read ApiSpans) ReplacementError) → old.stable ≡ 0
    → old.counts.groups ≡ 0
    → old.counts.unstable ≡ 0 → 0 < old.counts.unavailable → coming_of old ≡ Ok (left_of old)
    → r ≡ api (bounds (width_of old.region.width) old.region.bytes.now old.region.stop) old.at → IsOk r
unavailable_ready old r none groups unstable some reads is =
    let step = unavailable_gives (bounds (width_of old.region.width) old.region.bytes.now old.region.stop) old.minor
    old.stable old.counts old.at (left_of old) none groups unstable some reads in
    is-ok r _ step.0 is step.1

pub group_ready : (old : Cursor) (r : Result (Read GroupHead) ReplacementError) → old.stable ≡ 0 → 0 < old.counts.groups
    → coming_of old ≡ Ok (left_of old)
    → r ≡ group_head (bounds (width_of old.region.width) old.region.bytes.now old.region.stop) old.at → IsOk r
group_ready old r none some reads is =
    let next = group_gives (bounds (width_of old.region.width) old.region.bytes.now old.region.stop) old.minor
    old.stable old.counts old.at (left_of old) none some reads in
    is-ok r _ next.0 is next.1

-- a cursor with nothing left has ended
pub ended_answer : (c : Cursor) → c.stable ≡ 0 → c.counts.groups ≡ 0 → c.counts.unstable ≡ 0 → c.counts.unavailable ≡ 0
    → coming_of c ≡ Ok (left_of c) → Ends c c
ended_answer c none groups unstable unavailable reads =
    let b = bounds (width_of c.region.width) c.region.bytes.now c.region.stop in
    let counts : c.counts ≡ record { groups = 0; unstable = 0; unavailable = 0 } = counts_are c.counts 0 0 0 groups
    unstable unavailable in
    let nothing : coming_of c ≡ Ok [] =
    subst (λ n. coming b c.minor n c.counts c.at ≡ Ok []) (sym none)
    (subst (λ n. coming b c.minor 0 n c.at ≡ Ok []) (sym counts) (none_left b c.minor c.at)) in
    let left : [] ≡ left_of c = left-is (coming_of c) [] [] nothing in
    record { same = refl; reads = reads; before = sym left; after = sym left }
