-- The readers give exactly what the layout of a table allows.
use Rattle.std.proofs.Common.{◌≡◌, ℕ, zero, suc, ◌+◌, ◌<◌, ◌≤◌, ◌&&◌, nat_lt, nat_le, Bool, true, false, List, [], ◌∷◌}
use Rattle.std.proofs.Common.{length, Result, Ok, Err, slice_index, refl, sym, ap, ◌∙◌, arith, subst, if◌then◌else◌}
use Rattle.std.proofs.lemmas.Bool.{and_parts, ltb-true, lt-ltb}
use Rattle.std.proofs.lemmas.Bool.Decides.{nat_tests}
use Rattle.std.specs.Str.{is_utf8}
use Rattle.std.proofs.lemmas.Str.{IsUtf8-from_is_utf8, is_utf8-from_IsUtf8}
use Rattle.deny_std_table.specs.declared.error.ReplacementError.{ReplacementError}
use Rattle.deny_std_table.specs.declared.error.ReplacementError.TheVariants.{Bad}
use Rattle.deny_std_table.specs.declared.spans.TextSpan.{TextSpan}
use Rattle.deny_std_table.specs.declared.spans.ApiSpans.{ApiSpans}
use Rattle.deny_std_table.specs.declared.spans.ReplacementSpans.{ReplacementSpans}
use Rattle.deny_std_table.specs.declared.spans.GroupHead.{GroupHead}
use Rattle.deny_std_table.specs.declared.spans.Counts.{Counts}
use Rattle.deny_std_table.specs.declared.spans.Read.{Read}
use Rattle.deny_std_table.specs.Spans.{contents}
use Rattle.deny_base_lists.specs.Reader.{◌>>=◌}
use Rattle.deny_std_table.specs.Reading.{◌>>◌, unless_bad, read, number, many}
use Rattle.deny_std_table.specs.Region.{Bounds, Group, Items, nonempty_note, text_span, byte, text, api, replacement}
use Rattle.deny_std_table.specs.Region.{group_head, group, counts, counted_items, items}
use Rattle.deny_std_table.specs.Layout.{IsByte, IsText, IsApi, IsReplacement, IsRow, ended, more, IsGroup, IsItems}

-- a step that succeeded has a first part that succeeded
pub bind-ok : {A B : Type 0} (r : Result A ReplacementError) (f : A → Result B ReplacementError) (y : B)
    → (r >>= f) ≡ Ok y → (x : A) × (r ≡ Ok x) × (f x ≡ Ok y)
bind-ok (Ok x) f y is = (x, refl, is)
bind-ok (Err e) f y is = cc

-- a step after a test that succeeded has a test that holds
pub unless_bad-then : {A : Type 0} (test : Bool) (offset : ℕ) (r : Result A ReplacementError) (y : A)
    → (unless_bad test offset >> r) ≡ Ok y → (test ≡ true) × (r ≡ Ok y)
unless_bad-then true offset r y is = (refl, is)
unless_bad-then false offset r y is = cc

test-ok : {A : Type 0} (test : Bool) (x y : A) (e : ReplacementError) → (if test then Ok x else Err e) ≡ Ok y
    → (test ≡ true) × (x ≡ y)
test-ok true x y e is = (refl, cc)
test-ok false x y e is = cc

test-true : {A : Type 0} (test : Bool) (x y : A) → test ≡ true → (if test then x else y) ≡ x
test-true true x y is = refl
test-true false x y is = cc

byte-sound : (b : Bounds) (at : ℕ) (r : Read ℕ) → byte b at ≡ Ok r → IsByte b at r.value r.next
unfolding byte
byte-sound b at r is =
    let parts = test-ok (nat_lt at b.stop) (read (slice_index b.bytes at) (at + 1)) r (Bad b.stop) is in
    subst (λ t. IsByte b at t.value t.next) parts.1
    (record { inside = ltb-true at b.stop parts.0; is = refl; after = refl })

byte-complete : (b : Bounds) (at value next : ℕ) → IsByte b at value next → byte b at ≡ Ok (read value next)
unfolding byte
byte-complete b at value next is =
    test-true (nat_lt at b.stop) _ _ (lt-ltb at b.stop is.inside) ∙ rw (is.is, is.after) refl

pub text-sound : (b : Bounds) (at : ℕ) (r : Read TextSpan) → text b at ≡ Ok r → IsText b at r.value r.next
unfolding text
text-sound b at r is =
    let span = text_span b at in
    let parts = test-ok (nat_le span.at b.stop && nat_le (span.at + span.size) b.stop && is_utf8
    (contents b.bytes span))
    (read span (span.at + span.size)) r (Bad at) is in
    let both = and_parts (nat_le span.at b.stop && nat_le (span.at + span.size) b.stop)
    (is_utf8 (contents b.bytes span)) parts.0 in
    let within = and_parts (nat_le span.at b.stop) (nat_le (span.at + span.size) b.stop) both.0 in
    let last : nat_le (span.at + span.size) b.stop ≡ true = within.1 in
    subst (λ t. IsText b at t.value t.next) parts.1 (record {
      after_length = refl;
      size = refl;
      after = refl;
      inside = grind (arith, nat_tests);
      utf8 = IsUtf8-from_is_utf8 (contents b.bytes span) both.1;
    })

pub api-sound : (b : Bounds) (at : ℕ) (r : Read ApiSpans) → api b at ≡ Ok r → IsApi b at r.value r.next
unfolding api
api-sound b at r is =
    let first = bind-ok (text b at) _ r is in
    let second = bind-ok (text b first.0.next) _ r first.2 in
    let same : read (record { name = first.0.value; url = second.0.value }) second.0.next ≡ r = cc in
    subst (λ t. IsApi b at t.value t.next) same (record {
      after_name = first.0.next;
      name = text-sound b at first.0 first.1;
      url = text-sound b first.0.next second.0 second.1;
    })

pub replacement-sound : (b : Bounds) (at : ℕ) (r : Read ReplacementSpans) → replacement b at ≡ Ok r
    → IsReplacement b at r.value r.next
unfolding replacement
replacement-sound b at r is =
    let krate = bind-ok (api b at) _ r is in
    let std = bind-ok (api b krate.0.next) _ r krate.2 in
    let note = bind-ok (text b std.0.next) _ r std.2 in
    let same : read (record { krate = krate.0.value; std = std.0.value; note = nonempty_note note.0.value }) note.0.next
    ≡ r = cc in
    subst (λ t. IsReplacement b at t.value t.next) same (record {
      after_krate = krate.0.next;
      after_std = std.0.next;
      note_span = note.0.value;
      krate = api-sound b at krate.0 krate.1;
      std = api-sound b krate.0.next std.0 std.1;
      note_text = text-sound b std.0.next note.0 note.1;
      note = refl;
    })

-- parts that were read make a row of their number
pub many-sound : {A : Type 0} (reader : ℕ → Result (Read A) ReplacementError) (IsOne : ℕ → A → ℕ → Type 0)
    → ((at : ℕ) (r : Read A) → reader at ≡ Ok r → IsOne at r.value r.next)
    → (count at : ℕ) (r : Read (List A)) → many reader count at ≡ Ok r
    → IsRow IsOne at r.value r.next × (length r.value ≡ count)
unfolding many
many-sound {A} reader IsOne one zero at r is =
    let same : read [] at ≡ r = cc in
    subst (λ (t : Read (List A)). IsRow IsOne at t.value t.next × (length t.value ≡ 0)) same (ended, refl)
many-sound {A} reader IsOne one (suc count) at r is =
    let first = bind-ok (reader at) _ r is in
    let others = bind-ok (many reader count first.0.next) _ r first.2 in
    let same : read (first.0.value ∷ others.0.value) others.0.next ≡ r = cc in
    let later = many-sound reader IsOne one count first.0.next others.0 others.1 in
    subst (λ (t : Read (List A)). IsRow IsOne at t.value t.next × (length t.value ≡ suc count)) same
    (more (one at first.0 first.1) later.0, ap suc later.1)

pub group_head-sound : (b : Bounds) (at : ℕ) (r : Read GroupHead) → group_head b at ≡ Ok r
    → (middle : ℕ) × IsByte b at r.value.minor middle × IsByte b middle r.value.count r.next × (0 < r.value.count)
unfolding group_head
group_head-sound b at r is =
    let minor = bind-ok (byte b at) _ r is in
    let count = bind-ok (byte b minor.0.next) _ r minor.2 in
    let tested = unless_bad-then (nat_lt 0 count.0.value) minor.0.next
    (Ok (read (record { minor = minor.0.value; count = count.0.value }) count.0.next)) r count.2 in
    let same : read (record { minor = minor.0.value; count = count.0.value }) count.0.next ≡ r = cc in
    subst (λ (t : Read GroupHead). (middle : ℕ) × IsByte b at t.value.minor middle
    × IsByte b middle t.value.count t.next × (0 < t.value.count))
    same (
      minor.0.next,
      byte-sound b at minor.0 minor.1,
      byte-sound b minor.0.next count.0 count.1,
      ltb-true 0 count.0.value tested.0,
    )

group-sound : (b : Bounds) (at : ℕ) (r : Read Group) → group b at ≡ Ok r → IsGroup b at r.value r.next
unfolding group
group-sound b at r is =
    let head = bind-ok (group_head b at) _ r is in
    let rest = bind-ok (many (replacement b) head.0.value.count head.0.next) _ r head.2 in
    let same : read (record { minor = head.0.value.minor; replacements = rest.0.value }) rest.0.next ≡ r = cc in
    let top = group_head-sound b at head.0 head.1 in
    let row = many-sound (replacement b) (IsReplacement b) (replacement-sound b) head.0.value.count head.0.next rest.0
    rest.1 in
    subst (λ t. IsGroup b at t.value t.next) same (record {
      after_minor = top.0;
      after_count = head.0.next;
      minor = top.1;
      count = rw row.1 top.2;
      some = rw row.1 top.3;
      replacements = row.0;
    })

counts-sound : (b : Bounds) (at : ℕ) (r : Read Counts) → counts b at ≡ Ok r
    → (one : ℕ) × (two : ℕ) × IsByte b at r.value.groups one × IsByte b one r.value.unstable two
    × IsByte b two r.value.unavailable r.next
unfolding counts
counts-sound b at r is =
    let groups = bind-ok (byte b at) _ r is in
    let unstable = bind-ok (byte b groups.0.next) _ r groups.2 in
    let unavailable = bind-ok (byte b unstable.0.next) _ r unstable.2 in
    let same : read (record { groups = groups.0.value; unstable = unstable.0.value; unavailable = unavailable.0.value })
    unavailable.0.next ≡ r = cc in
    subst (λ (t : Read Counts). (one : ℕ) × (two : ℕ) × IsByte b at t.value.groups one
    × IsByte b one t.value.unstable two × IsByte b two t.value.unavailable t.next)
    same (
      groups.0.next,
      unstable.0.next,
      byte-sound b at groups.0 groups.1,
      byte-sound b groups.0.next unstable.0 unstable.1,
      byte-sound b unstable.0.next unavailable.0 unavailable.1,
    )

pub items-sound : (b : Bounds) (at : ℕ) (r : Read Items) → items b at ≡ Ok r → IsItems b at r.value r.next
unfolding items counted_items
items-sound b at r is =
    let count = bind-ok (counts b at) _ r is in
    let groups = bind-ok (many (group b) count.0.value.groups count.0.next) _ r count.2 in
    let unstable = bind-ok (many (replacement b) count.0.value.unstable groups.0.next) _ r groups.2 in
    let unavailable = bind-ok (many (api b) count.0.value.unavailable unstable.0.next) _ r unstable.2 in
    let same : read (record { groups = groups.0.value; unstable = unstable.0.value; unavailable = unavailable.0.value })
    unavailable.0.next ≡ r = cc in
    let top = counts-sound b at count.0 count.1 in
    let group_row = many-sound (group b) (IsGroup b) (group-sound b) count.0.value.groups count.0.next groups.0 groups.1
    in
    let unstable_row = many-sound (replacement b) (IsReplacement b) (replacement-sound b) count.0.value.unstable
    groups.0.next unstable.0 unstable.1 in
    let unavailable_row = many-sound (api b) (IsApi b) (api-sound b) count.0.value.unavailable unstable.0.next
    unavailable.0 unavailable.1 in
    subst (λ t. IsItems b at t.value t.next) same (record {
      after_groups = top.0;
      after_unstable = top.1;
      after_counts = count.0.next;
      groups_count = rw group_row.1 top.2;
      unstable_count = rw unstable_row.1 top.3;
      unavailable_count = rw unavailable_row.1 top.4;
      unstable_at = groups.0.next;
      unavailable_at = unstable.0.next;
      groups = group_row.0;
      unstable = unstable_row.0;
      unavailable = unavailable_row.0;
    })

pub span_is : (at size : ℕ) (span : TextSpan) → span.at ≡ at → span.size ≡ size
    → span ≡ record { at = at; size = size }
span_is at size span first second = rw (← first, ← second) refl

pub text-complete : (b : Bounds) (at : ℕ) (span : TextSpan) (next : ℕ) → IsText b at span next
    → text b at ≡ Ok (read span next)
unfolding text
text-complete b at span next is =
    let same : span ≡ text_span b at = span_is (at + b.width) (number b.width b.bytes at) span is.after_length
    is.size in
    let ends : span.at + span.size ≡ next = sym is.after in
    let last : span.at + span.size ≤ b.stop = omega arith in
    let inside : nat_le span.at b.stop ≡ true = grind (arith, nat_tests) in
    let whole : nat_le (span.at + span.size) b.stop ≡ true = grind (arith, nat_tests) in
    let utf8 : is_utf8 (contents b.bytes span) ≡ true = is_utf8-from_IsUtf8 (contents b.bytes span) is.utf8 in
    let P : TextSpan → Type
    0 = λ p. (if nat_le p.at b.stop && nat_le (p.at + p.size) b.stop && is_utf8 (contents b.bytes p)
    then Ok (read p (p.at + p.size)) else Err (Bad at)) ≡ Ok (read span next) in
    subst P same (rw (inside, whole, utf8, ends) refl)

api-complete : (b : Bounds) (at : ℕ) (spans : ApiSpans) (next : ℕ) → IsApi b at spans next
    → api b at ≡ Ok (read spans next)
unfolding api
api-complete b at spans next is =
    rw (text-complete b at spans.name is.after_name is.name, text-complete b is.after_name spans.url next is.url) refl

replacement-complete : (b : Bounds) (at : ℕ) (spans : ReplacementSpans) (next : ℕ) → IsReplacement b at spans next
    → replacement b at ≡ Ok (read spans next)
unfolding replacement
replacement-complete b at spans next is =
    rw (
      api-complete b at spans.krate is.after_krate is.krate,
      api-complete b is.after_krate spans.std is.after_std is.std,
      text-complete b is.after_std is.note_span next is.note_text,
      ← is.note,
    ) refl

many-complete : {A : Type 0} (reader : ℕ → Result (Read A) ReplacementError) (IsOne : ℕ → A → ℕ → Type 0)
    → ((at : ℕ) (x : A) (next : ℕ) → IsOne at x next → reader at ≡ Ok (read x next))
    → (at : ℕ) (xs : List A) (next : ℕ) → IsRow IsOne at xs next → many reader (length xs) at ≡ Ok (read xs next)
unfolding many
many-complete reader IsOne one at [] next ended = refl
many-complete reader IsOne one at (x ∷ xs) next (more {between = between} first others) =
    rw (one at x between first, many-complete reader IsOne one between xs next others) refl

group-complete : (b : Bounds) (at : ℕ) (g : Group) (next : ℕ) → IsGroup b at g next → group b at ≡ Ok (read g next)
unfolding group group_head
group-complete b at g next is =
    let test : nat_lt 0 (length g.replacements) ≡ true = lt-ltb 0 (length g.replacements) is.some in
    rw (
      byte-complete b at g.minor is.after_minor is.minor,
      byte-complete b is.after_minor (length g.replacements) is.after_count is.count,
      test,
      many-complete (replacement b) (IsReplacement b) (replacement-complete b) is.after_count g.replacements next
          is.replacements,
    ) refl

pub items-complete : (b : Bounds) (at : ℕ) (all : Items) (next : ℕ) → IsItems b at all next
    → items b at ≡ Ok (read all next)
unfolding items counts counted_items
items-complete b at all next is =
    rw (
      byte-complete b at (length all.groups) is.after_groups is.groups_count,
      byte-complete b is.after_groups (length all.unstable) is.after_unstable is.unstable_count,
      byte-complete b is.after_unstable (length all.unavailable) is.after_counts is.unavailable_count,
      many-complete (group b) (IsGroup b) (group-complete b) is.after_counts all.groups is.unstable_at is.groups,
      many-complete (replacement b) (IsReplacement b) (replacement-complete b) is.unstable_at all.unstable
          is.unavailable_at is.unstable,
      many-complete (api b) (IsApi b) (api-complete b) is.unavailable_at all.unavailable next is.unavailable,
    ) refl
