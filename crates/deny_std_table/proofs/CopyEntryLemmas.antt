-- An entry is written part by part, as it is read.
use Rattle.std.proofs.Common.{◌≡◌, ℕ, List, [], ◌∷◌, ◌++◌, length, map, Result, Ok, Err, None, refl, sym, ap, ◌∙◌}
use Rattle.std.proofs.Common.{subst}
use Rattle.std.specs.Prelude.{flat_map, IsOk}
use Rattle.std.proofs.lemmas.List.{length-map}
use Rattle.deny_std_table.specs.declared.error.ReplacementError.{ReplacementError}
use Rattle.deny_std_table.specs.declared.spans.TextSpan.{TextSpan}
use Rattle.deny_std_table.specs.declared.spans.Read.{Read}
use Rattle.deny_std_table.specs.declared.spans.Counts.{Counts}
use Rattle.deny_std_table.specs.declared.spans.GroupHead.{GroupHead}
use Rattle.deny_std_table.specs.declared.draft.Draft.{Draft}
use Rattle.deny_std_table.specs.Spans.{contents}
use Rattle.deny_std_table.specs.Reading.{read, many}
use Rattle.deny_std_table.specs.private.Reading.{next_of}
use Rattle.deny_std_table.specs.Region.{Bounds, Group, Items, text, api, replacement, group_head, group, counts}
use Rattle.deny_std_table.specs.Region.{counted_items, items}
use Rattle.deny_std_table.specs.Entries.{Entry, entry}
use Rattle.deny_std_table.specs.Spelling.{api_text, replacement_text, group_text, items_text, entry_text, text_bytes}
use Rattle.deny_std_table.specs.Spelling.{api_bytes, replacement_bytes, group_bytes, items_bytes, entry_bytes}
use Rattle.deny_std_table.specs.private.Draft.{Writes}
use Rattle.deny_std_table.proofs.LayoutLemmas.{bind-ok, many-sound}
use Rattle.deny_std_table.proofs.DraftLemmas.{writes-then, writes-same}

-- A row of parts is written, where it can be read.
pub record RowWritten {A T : Type 0} (reader : ℕ → Result (Read A) ReplacementError) (say : A → T)
    (spell : T → List ℕ) (count at : ℕ) (old new : Draft) : Type 0 where
  pub row : (r : Read (List A)) → many reader count at ≡ Ok r → Writes old new (flat_map spell (map say r.value))

many-length : {A : Type 0} (reader : ℕ → Result (Read A) ReplacementError) (count at : ℕ) (r : Read (List A))
    → many reader count at ≡ Ok r → length r.value ≡ count
many-length {A = A} reader count at r is = (many-sound reader (λ (n : ℕ) (x : A) (m : ℕ). Unit {0}) (λ n x one. tt)
    count at r is).1

pub group-written : (b : Bounds) (at : ℕ) (head : Read GroupHead) (d0 d1 d2 d3 : Draft) (r : Read Group)
    → group_head b at ≡ Ok head → Writes d0 d1 (head.value.minor ∷ []) → Writes d1 d2 (head.value.count ∷ [])
    → RowWritten (replacement b) (replacement_text b.bytes) replacement_bytes head.value.count head.next d2 d3
    → group b at ≡ Ok r → Writes d0 d3 (group_bytes (group_text b.bytes r.value))
unfolding group group_bytes
group-written b at head d0 d1 d2 d3 r here minor count rows is =
    let first = bind-ok (group_head b at) _ r is in
    let same : head ≡ first.0 = cc in
    let rest = bind-ok (many (replacement b) first.0.value.count first.0.next) _ r first.2 in
    let all : read (record { minor = first.0.value.minor; replacements = rest.0.value }) rest.0.next ≡ r = cc in
    let texts = map (replacement_text b.bytes) rest.0.value in
    let reads = ap (λ (h : Read GroupHead). many (replacement b) h.value.count h.next) same ∙ rest.1 in
    let size : length texts ≡ head.value.count = length-map rest.0.value (replacement_text b.bytes)
    ∙ many-length (replacement b) head.value.count head.next rest.0 reads in
    let of_minor : head.value.minor ≡ first.0.value.minor = ap (λ (h : Read GroupHead). h.value.minor) same in
    let spelled = flat_map replacement_bytes texts in
    let bytes_are : head.value.minor ∷ head.value.count ∷ spelled ≡ first.0.value.minor ∷ length texts ∷ spelled = cc in
    subst (λ (g : Read Group). Writes d0 d3 (group_bytes (group_text b.bytes g.value))) all
    (writes-same d0 d3 _ _ bytes_are
    (writes-then d0 d1 d3 (head.value.minor ∷ []) _ minor
    (writes-then d1 d2 d3 (head.value.count ∷ []) _ count (rows.row rest.0 reads))))

-- The items of an entry are written, after their numbers.
pub record ItemsWritten (b : Bounds) (count : Read Counts) (unstable unavailable : ℕ)
    (d0 d1 d2 d3 d4 d5 d6 : Draft) : Type 0 where
  pub groups_count : Writes d0 d1 (count.value.groups ∷ [])
  pub unstable_count : Writes d1 d2 (count.value.unstable ∷ [])
  pub unavailable_count : Writes d2 d3 (count.value.unavailable ∷ [])
  pub groups_end : next_of (many (group b) count.value.groups count.next) ≡ Ok unstable
  pub groups : RowWritten (group b) (group_text b.bytes) group_bytes count.value.groups count.next d3 d4
  pub unstable_end : next_of (many (replacement b) count.value.unstable unstable) ≡ Ok unavailable
  pub unstable_row : RowWritten (replacement b) (replacement_text b.bytes) replacement_bytes count.value.unstable
      unstable d4 d5
  pub unavailable_row : RowWritten (api b) (api_text b.bytes) api_bytes count.value.unavailable unavailable d5 d6

next-is : {A : Type 0} (r : Result (Read A) ReplacementError) (x : Read A) (next : ℕ) → next_of r ≡ Ok next → r ≡ Ok x
    → x.next ≡ next
next-is (Ok y) x next stops is = cc
next-is (Err e) x next stops is = cc

-- three numbers, then three rows
all-written : (d0 d1 d2 d3 d4 d5 d6 : Draft) (one two three : ℕ) (xs ys zs : List ℕ) → Writes d0 d1 (one ∷ [])
    → Writes d1 d2 (two ∷ []) → Writes d2 d3 (three ∷ []) → Writes d3 d4 xs → Writes d4 d5 ys → Writes d5 d6 zs
    → Writes d0 d6 (one ∷ two ∷ three ∷ (xs ++ (ys ++ zs)))
all-written d0 d1 d2 d3 d4 d5 d6 one two three xs ys zs first second third fourth fifth sixth =
    writes-then d0 d1 d6 (one ∷ []) (two ∷ three ∷ (xs ++ (ys ++ zs))) first
    (writes-then d1 d2 d6 (two ∷ []) (three ∷ (xs ++ (ys ++ zs))) second
    (writes-then d2 d3 d6 (three ∷ []) (xs ++ (ys ++ zs)) third
    (writes-then d3 d4 d6 xs (ys ++ zs) fourth (writes-then d4 d5 d6 ys zs fifth sixth))))

pub items-written : (b : Bounds) (at : ℕ) (count : Read Counts) (unstable unavailable : ℕ)
    (d0 d1 d2 d3 d4 d5 d6 : Draft) (r : Read Items) → counts b at ≡ Ok count
    → ItemsWritten b count unstable unavailable d0 d1 d2 d3 d4 d5 d6
    → items b at ≡ Ok r → Writes d0 d6 (items_bytes (items_text b.bytes r.value))
unfolding items counted_items items_bytes
items-written b at count unstable unavailable d0 d1 d2 d3 d4 d5 d6 r here written is =
    let first = bind-ok (counts b at) _ r is in
    let same : first.0 ≡ count = cc in
    let groups = bind-ok (many (group b) first.0.value.groups first.0.next) _ r first.2 in
    let group_reads = ap (λ (c : Read Counts). many (group b) c.value.groups c.next) (sym same) ∙ groups.1 in
    let group_end = next-is (many (group b) count.value.groups count.next) groups.0 unstable written.groups_end
    group_reads in
    let others = bind-ok (many (replacement b) first.0.value.unstable groups.0.next) _ r groups.2 in
    let other_reads : many (replacement b) count.value.unstable unstable ≡ Ok others.0 =
    ap (λ n. many (replacement b) count.value.unstable n) (sym group_end)
    ∙ (ap (λ (c : Read Counts). many (replacement b) c.value.unstable groups.0.next) (sym same) ∙ others.1) in
    let other_end = next-is (many (replacement b) count.value.unstable unstable) others.0 unavailable
    written.unstable_end other_reads in
    let apis = bind-ok (many (api b) first.0.value.unavailable others.0.next) _ r others.2 in
    let api_reads : many (api b) count.value.unavailable unavailable ≡ Ok apis.0 =
    ap (λ n. many (api b) count.value.unavailable n) (sym other_end)
    ∙ (ap (λ (c : Read Counts). many (api b) c.value.unavailable others.0.next) (sym same) ∙ apis.1) in
    let all : read (record { groups = groups.0.value; unstable = others.0.value; unavailable = apis.0.value })
    apis.0.next ≡ r = cc in
    let group_texts = map (group_text b.bytes) groups.0.value in
    let other_texts = map (replacement_text b.bytes) others.0.value in
    let api_texts = map (api_text b.bytes) apis.0.value in
    let group_size : count.value.groups ≡ length group_texts = sym (length-map groups.0.value (group_text b.bytes)
    ∙ many-length (group b) count.value.groups count.next groups.0 group_reads) in
    let other_size : count.value.unstable ≡ length other_texts =
    sym (length-map others.0.value (replacement_text b.bytes)
    ∙ many-length (replacement b) count.value.unstable unstable others.0 other_reads) in
    let api_size : count.value.unavailable ≡ length api_texts = sym (length-map apis.0.value (api_text b.bytes)
    ∙ many-length (api b) count.value.unavailable unavailable apis.0 api_reads) in
    let spelled = flat_map group_bytes group_texts
    ++ (flat_map replacement_bytes other_texts ++ flat_map api_bytes api_texts) in
    let bytes_are : count.value.groups ∷ count.value.unstable ∷ count.value.unavailable ∷ spelled
    ≡ length group_texts ∷ length other_texts ∷ length api_texts ∷ spelled = cc in
    subst (λ (i : Read Items). Writes d0 d6 (items_bytes (items_text b.bytes i.value))) all
    (writes-same d0 d6 _ _ bytes_are
    (all-written d0 d1 d2 d3 d4 d5 d6 count.value.groups count.value.unstable count.value.unavailable
    (flat_map group_bytes group_texts) (flat_map replacement_bytes other_texts) (flat_map api_bytes api_texts)
    written.groups_count written.unstable_count written.unavailable_count (written.groups.row groups.0 group_reads)
    (written.unstable_row.row others.0 other_reads) (written.unavailable_row.row apis.0 api_reads)))

-- an entry is written, where it can be read
pub entry-written : (b : Bounds) (start : ℕ) (name : Read TextSpan) (d0 d1 d2 : Draft)
    (stop : Result ℕ ReplacementError) (e : Entry) → text b start ≡ Ok name
    → Writes d0 d1 (text_bytes (contents b.bytes name.value))
    → stop ≡ next_of (items b name.next)
    → ((r : Read Items) → items b name.next ≡ Ok r → Writes d1 d2 (items_bytes (items_text b.bytes r.value)))
    → entry b None start ≡ Ok e → IsOk stop × Writes d0 d2 (entry_bytes (entry_text b.bytes e))
unfolding entry entry_bytes
entry-written b start name d0 d1 d2 stop e here name_written stops items_written is =
    let first = bind-ok (text b start) _ e is in
    let same : first.0 ≡ name = cc in
    let rest = bind-ok (items b first.0.next) _ e first.2 in
    let reads : items b name.next ≡ Ok rest.0 = ap (λ (n : Read TextSpan). items b n.next) (sym same) ∙ rest.1 in
    let all : record { name = first.0.value; items = rest.0.value } ≡ e = cc in
    let there : stop ≡ Ok rest.0.next = stops ∙ ap next_of reads in (
      subst IsOk (sym there) refl,
      subst (λ (x : Entry). Writes d0 d2 (text_bytes (contents b.bytes x.name)
          ++ items_bytes (items_text b.bytes x.items)))
          all
          (subst (λ (n : Read TextSpan). Writes d0 d2 (text_bytes (contents b.bytes n.value)
          ++ items_bytes (items_text b.bytes rest.0.value))) (sym same)
          (writes-then d0 d1 d2 _ _ name_written (items_written rest.0 reads))),
    )

-- an entry whose name breaks is no entry
pub no-entry : (b : Bounds) (start : ℕ) (x : ReplacementError) (e : Entry) → text b start ≡ Err x
    → entry b None start ≡ Ok e → ⊥
unfolding entry
no-entry b start x e breaks is =
    let first = bind-ok (text b start) _ e is in
    cc
