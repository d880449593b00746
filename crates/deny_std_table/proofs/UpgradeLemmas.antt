-- A table is written entry by entry: the head and the offsets to one draft, the entries to another.
use Rattle.std.proofs.Common.{◌≡◌, ℕ, ◌+◌, ◌*◌, ◌<◌, ◌≤◌, List, [], ◌∷◌, ◌++◌, length, take, drop, Some, None, Ok, sym}
use Rattle.std.proofs.Common.{ap, ◌∙◌, arith, subst, append_assoc, append-nil, length-append}
use Rattle.std.specs.Prelude.{flat_map, option_map}
use Rattle.std.specs.List.{slice_get}
use Rattle.std.proofs.lemmas.List.{length-map, take_all}
use Rattle.std.proofs.lemmas.Grind.{flat_map-append}
use Rattle.std.proofs.lemmas.List.{take-append-drop}
use Rattle.std.proofs.lemmas.Option.{slice_get-map}
use Rattle.deny_base_lists.proofs.Indices.{take-next}
use Rattle.deny_std_table.specs.declared.draft.Draft.{Draft}
use Rattle.deny_std_table.specs.Head.{start_of}
use Rattle.deny_std_table.specs.Entries.{Entry, stop_of, entry}
use Rattle.deny_std_table.specs.Region.{bounds}
use Rattle.deny_std_table.specs.Table.{IsRead, read_entries}
use Rattle.deny_std_table.specs.Spelling.{EntryText, entry_text, texts_of, number_bytes, entry_bytes, offset_bytes}
use Rattle.deny_std_table.specs.Spelling.{table_bytes}
use Rattle.deny_std_table.specs.private.Draft.{IsDraft, Writes}
use Rattle.deny_std_table.proofs.EntryLemmas.{named, all-entries, opened}

-- the mark, the version and the number of entries
abbrev head_bytes : ℕ → List ℕ
head_bytes count = (0xcd ∷ 0xcd ∷ 0xcd ∷ 2 ∷ []) ++ number_bytes 4 count

-- This many entries were written, and their offsets.
pub record CopiedSoFar (es : List EntryText) (i : ℕ) (start later : Draft) : Type 0 where
  pub head : IsDraft start (head_bytes (length es) ++ offset_bytes (8 + 4 * length es) (take i es))
  pub body : IsDraft later (flat_map entry_bytes (take i es))

pub copied-start : (es : List EntryText) (count : ℕ) (none head body : Draft) → length es ≡ count → IsDraft none []
    → Writes none head (head_bytes count) → IsDraft body [] → CopiedSoFar es 0 head body
copied-start es count none head body size empty writes nothing = record {
  head = subst (λ n. IsDraft head (head_bytes n ++ [])) (sym size)
      (subst (IsDraft head) (sym (append-nil (head_bytes count))) (writes.adds [] empty));
  body = nothing;
}

offsets-one : (at : ℕ) (es : List EntryText) (e : EntryText)
    → offset_bytes at (es ++ e ∷ []) ≡ offset_bytes at es ++ number_bytes 4 (at + length (flat_map entry_bytes es))
offsets-one at [] e = let same : at ≡ at + 0 = omega arith in ap (number_bytes 4) same
offsets-one at (x ∷ es) e =
    let next = at + length (entry_bytes x) in
    let sizes = length-append (entry_bytes x) (flat_map entry_bytes es) in
    let same : next + length (flat_map entry_bytes es) ≡ at + length (entry_bytes x ++ flat_map entry_bytes es)
    = omega arith in
    ap (λ l. number_bytes 4 at ++ l) (offsets-one next es e
    ∙ ap (λ n. offset_bytes next es ++ number_bytes 4 n) same)
    ∙ sym (append_assoc (number_bytes 4 at) (offset_bytes next es)
    (number_bytes 4 (at + length (entry_bytes x ++ flat_map entry_bytes es))))

entries-one : (es : List EntryText) (e : EntryText)
    → flat_map entry_bytes (es ++ e ∷ []) ≡ flat_map entry_bytes es ++ entry_bytes e
entries-one es e = flat_map-append entry_bytes es (e ∷ [])
    ∙ ap (λ l. flat_map entry_bytes es ++ l) (append-nil (entry_bytes e))

pub copied-more : (es : List EntryText) (count i : ℕ) (e : EntryText) (head body new_head new_body : Draft)
    → length es ≡ count → slice_get es i ≡ Some e → body.size < 268435456
    → Writes head new_head (number_bytes 4 (8 + 4 * count + body.size)) → Writes body new_body (entry_bytes e)
    → CopiedSoFar es i head body → CopiedSoFar es (i + 1) new_head new_body
copied-more es count i e head body new_head new_body size at short head_writes body_writes is =
    let before = take i es in
    let begin = 8 + 4 * length es in
    let so_far = flat_map entry_bytes before in
    let start : 8 + 4 * count + body.size ≡ begin + length so_far =
    (let counted = is.body.counted short in omega arith) in
    let offset : offset_bytes begin before ++ number_bytes 4 (8 + 4 * count + body.size)
    ≡ offset_bytes begin (take (i + 1) es) =
    ap (λ n. offset_bytes begin before ++ number_bytes 4 n) start ∙ (sym (offsets-one begin before e)
    ∙ ap (offset_bytes begin) (sym (take-next es i e at))) in
    let all : so_far ++ entry_bytes e ≡ flat_map entry_bytes (take (i + 1) es) = sym (entries-one before e)
    ∙ ap (flat_map entry_bytes) (sym (take-next es i e at)) in
    record {
      head = subst (IsDraft new_head)
          (append_assoc (head_bytes (length es)) (offset_bytes begin before)
          (number_bytes 4 (8 + 4 * count + body.size)) ∙ ap (λ l. head_bytes (length es) ++ l) offset)
          (head_writes.adds _ is.head);
      body = subst (IsDraft new_body) all (body_writes.adds _ is.body);
    }

-- the length of all bytes, where this many entries were written
whole-size : (es : List EntryText) (i : ℕ) → length (flat_map entry_bytes (take i es)) ≤ length (table_bytes es)
unfolding table_bytes
whole-size es i =
    let at = 8 + 4 * length es in
    let mark : List ℕ = 0xcd ∷ 0xcd ∷ 0xcd ∷ 2 ∷ [] in
    let body = flat_map entry_bytes es in
    let parts : flat_map entry_bytes (take i es) ++ flat_map entry_bytes (drop i es) ≡ body =
    sym (flat_map-append entry_bytes (take i es) (drop i es)) ∙ ap (flat_map entry_bytes) (take-append-drop i es) in
    let size = ap length parts in
    let halves = length-append (flat_map entry_bytes (take i es)) (flat_map entry_bytes (drop i es)) in
    let one = length-append mark (number_bytes 4 (length es) ++ (offset_bytes at es ++ body)) in
    let two = length-append (number_bytes 4 (length es)) (offset_bytes at es ++ body) in
    let three = length-append (offset_bytes at es) body in
    omega arith

pub copied-long : (es : List EntryText) (i : ℕ) (head body : Draft) → CopiedSoFar es i head body
    → 268435456 ≤ body.size → 268435456 ≤ length (table_bytes es)
copied-long es i head body is many =
    let long = is.body.long many in
    let size = whole-size es i in
    omega arith

joined-table : (es : List EntryText)
    → (head_bytes (length es) ++ offset_bytes (8 + 4 * length es) es) ++ flat_map entry_bytes es ≡ table_bytes es
unfolding table_bytes
joined-table es =
    append_assoc (head_bytes (length es)) (offset_bytes (8 + 4 * length es) es) (flat_map entry_bytes es)
    ∙ append_assoc (0xcd ∷ 0xcd ∷ 0xcd ∷ 2 ∷ []) (number_bytes 4 (length es))
    (offset_bytes (8 + 4 * length es) es ++ flat_map entry_bytes es)

-- All entries were written.
pub record CopiedAll (es : List EntryText) (start later : Draft) : Type 0 where
  pub xs : List ℕ
  pub ys : List ℕ
  pub head : IsDraft start xs
  pub body : IsDraft later ys
  pub whole : xs ++ ys ≡ table_bytes es

pub copied-all : (es : List EntryText) (i : ℕ) (head body : Draft) → length es ≤ i → CopiedSoFar es i head body
    → CopiedAll es head body
copied-all es i head body end is = record {
  xs = head_bytes (length es) ++ offset_bytes (8 + 4 * length es) es;
  ys = flat_map entry_bytes es;
  head = subst (λ l. IsDraft head (head_bytes (length es) ++ offset_bytes (8 + 4 * length es) l)) (take_all i es end)
      is.head;
  body = subst (λ l. IsDraft body (flat_map entry_bytes l)) (take_all i es end) is.body;
  whole = joined-table es;
}

-- the texts of the entries that were read
abbrev pub read_texts : ℕ → List ℕ → ℕ → List EntryText
read_texts width bytes count = texts_of bytes (read_entries width bytes count)

pub texts-size : (width : ℕ) (bytes : List ℕ) (count : ℕ) → IsRead width bytes count
    → length (read_texts width bytes count) ≡ count
texts-size width bytes count is = length-map (read_entries width bytes count) (entry_text bytes)
    ∙ (all-entries width bytes count is).0

-- The entry with a number, in its region.
pub record EntryRead (width : ℕ) (bytes : List ℕ) (count i of_width : ℕ) (of_region : List ℕ)
    (stop start : ℕ) : Type 0 where
  pub e : Entry
  pub reads : entry (bounds of_width of_region stop) None start ≡ Ok e
  pub says : slice_get (read_texts width bytes count) i ≡ Some (entry_text bytes e)

pub entry-read : (width of_width : ℕ) (bytes of_region : List ℕ) (count i stop start : ℕ) → IsRead width bytes count
    → i < count → of_width ≡ width → of_region ≡ bytes → stop ≡ stop_of bytes count i → start ≡ start_of bytes i
    → EntryRead width bytes count i of_width of_region stop start
entry-read width of_width bytes of_region count i stop start is below wide same ends begins =
    let n = named width bytes count i is below in
    record {
      e = n.e;
      reads = opened width of_width bytes of_region count i stop start n wide same ends begins;
      says = slice_get-map (entry_text bytes) (read_entries width bytes count) i
          ∙ ap (option_map (entry_text bytes)) n.at;
    }
