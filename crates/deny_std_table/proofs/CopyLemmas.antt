-- Rows of parts that are read and written one after the other.
use Rattle.std.proofs.Common.{◌≡◌, ℕ, suc, ◌+◌, List, [], ◌∷◌, ◌++◌, map, Result, Ok, Err, refl, sym, ap, ◌∙◌, arith}
use Rattle.std.proofs.Common.{subst, append_assoc, append-nil}
use Rattle.std.specs.Prelude.{flat_map}
use Rattle.deny_std_table.specs.declared.error.ReplacementError.{ReplacementError}
use Rattle.deny_std_table.specs.declared.spans.Read.{Read}
use Rattle.deny_std_table.specs.declared.draft.Draft.{Draft}
use Rattle.deny_std_table.specs.Reading.{read, many}
use Rattle.deny_std_table.specs.private.Reading.{next_of}
use Rattle.deny_std_table.specs.private.Draft.{Writes}
use Rattle.deny_std_table.proofs.LayoutLemmas.{bind-ok}
use Rattle.deny_std_table.proofs.ReadingLemmas.{next_of-many_more, next_of-many_break, next_of-many_none}
use Rattle.deny_std_table.proofs.DraftLemmas.{writes-none, writes-then, writes-same}

-- The parts of a row that were read were written, and the rest remains.
pub record PartWritten {A T : Type 0} (reader : ℕ → Result (Read A) ReplacementError) (say : A → T)
    (spell : T → List ℕ) (left next : ℕ) (old now : Draft) (all : List A) : Type 0 where
  pub so_far : List ℕ
  pub rest : Read (List A)
  pub reads : many reader left next ≡ Ok rest
  pub written : Writes old now so_far
  pub whole : so_far ++ flat_map spell (map say rest.value) ≡ flat_map spell (map say all)

-- The state of a loop that copies this many parts.
pub record Progress {A T : Type 0} (reader : ℕ → Result (Read A) ReplacementError) (say : A → T)
    (spell : T → List ℕ) (count at left next : ℕ) (old now : Draft) : Type 0 where
  pub value : next_of (many reader left next) ≡ next_of (many reader count at)
  pub part : (r : Read (List A)) → many reader count at ≡ Ok r
      → PartWritten reader say spell left next old now r.value

-- a reading that stops at an offset has read something
read-of : {A : Type 0} (r : Result (Read A) ReplacementError) (next : ℕ) → next_of r ≡ Ok next
    → (x : Read A) × (r ≡ Ok x) × (x.next ≡ next)
read-of (Ok x) next is = (x, refl, cc)
read-of (Err e) next is = cc

pub progress-start : {A T : Type 0} (reader : ℕ → Result (Read A) ReplacementError) (say : A → T)
    (spell : T → List ℕ) (count at left : ℕ) (d : Draft) → left ≡ count → Progress reader say spell count at left at d d
progress-start reader say spell count at left d same = record {
  value = ap (λ n. next_of (many reader n at)) same;
  part = λ r is. record {
    so_far = [];
    rest = r;
    reads = ap (λ n. many reader n at) same ∙ is;
    written = writes-none d;
    whole = refl;
  };
}

part_one : {A T : Type 0} (reader : ℕ → Result (Read A) ReplacementError) (say : A → T) (spell : T → List ℕ)
    (left next : ℕ) (old now new : Draft) (all : List A) (one : Read A)
    → reader next ≡ Ok one → Writes now new (spell (say one.value))
    → PartWritten reader say spell (suc left) next old now all → PartWritten reader say spell left one.next old new all
unfolding many
part_one {A = A} reader say spell left next old now new all one first writes is =
    let head = bind-ok (reader next) _ is.rest is.reads in
    let others = bind-ok (many reader left head.0.next) _ is.rest head.2 in
    let same : head.0 ≡ one = cc in
    let all : read (head.0.value ∷ others.0.value) others.0.next ≡ is.rest = cc in
    let rest : head.0.value ∷ others.0.value ≡ is.rest.value = ap (λ (r : Read (List A)). r.value) all in
    record {
      so_far = is.so_far ++ spell (say one.value);
      rest = others.0;
      reads = ap (λ (h : Read A). many reader left h.next) (sym same) ∙ others.1;
      written = writes-then old now new is.so_far (spell (say one.value)) is.written writes;
      whole = append_assoc is.so_far (spell (say one.value)) (flat_map spell (map say others.0.value))
          ∙ (ap (λ (h : Read A). is.so_far ++ (spell (say h.value) ++ flat_map spell (map say others.0.value)))
          (sym same)
          ∙ (ap (λ l. is.so_far ++ flat_map spell (map say l)) rest ∙ is.whole));
    }

pub progress-more : {A T : Type 0} (reader : ℕ → Result (Read A) ReplacementError) (say : A → T)
    (spell : T → List ℕ) (count at now_left left next after : ℕ) (old now new : Draft)
    → left + 1 ≡ now_left → next_of (reader next) ≡ Ok after
    → ((r : Read A) → reader next ≡ Ok r → Writes now new (spell (say r.value)))
    → Progress reader say spell count at now_left next old now → Progress reader say spell count at left after old new
progress-more reader say spell count at now_left left next after old now new fewer stops writes is =
    let one = read-of (reader next) after stops in
    let same : suc left ≡ now_left = omega arith in
    record {
      value = sym (next_of-many_more reader now_left left next after fewer stops) ∙ is.value;
      part = λ r reads. subst (λ n. PartWritten reader say spell left n old new r.value) one.2
          (part_one reader say spell left next old now new r.value one.0 one.1 (writes one.0 one.1)
          (subst (λ n. PartWritten reader say spell n next old now r.value) (sym same) (is.part r reads)));
    }

-- the next part breaks
pub progress-break : {A T : Type 0} (reader : ℕ → Result (Read A) ReplacementError) (say : A → T)
    (spell : T → List ℕ) (count at now_left left next : ℕ) (e : ReplacementError) (old now : Draft)
    → left + 1 ≡ now_left → next_of (reader next) ≡ Err e
    → Progress reader say spell count at now_left next old now → next_of (many reader count at) ≡ Err e
progress-break reader say spell count at now_left left next e old now fewer breaks is =
    sym is.value ∙ next_of-many_break reader now_left left next e fewer breaks

-- all parts were read
pub progress-value : {A T : Type 0} (reader : ℕ → Result (Read A) ReplacementError) (say : A → T)
    (spell : T → List ℕ) (count at left next : ℕ) (old now : Draft) → left ≡ 0
    → Progress reader say spell count at left next old now → Ok next ≡ next_of (many reader count at)
progress-value reader say spell count at left next old now none is =
    sym (next_of-many_none reader left next none) ∙ is.value

pub progress-written : {A T : Type 0} (reader : ℕ → Result (Read A) ReplacementError) (say : A → T)
    (spell : T → List ℕ) (count at left next : ℕ) (old now : Draft) → left ≡ 0
    → Progress reader say spell count at left next old now
    → (r : Read (List A)) → many reader count at ≡ Ok r → Writes old now (flat_map spell (map say r.value))
unfolding many
progress-written {A = A} reader say spell count at left next old now none is r reads =
    let part = is.part r reads in
    let rest : many reader 0 next ≡ Ok part.rest = ap (λ n. many reader n next) (sym none) ∙ part.reads in
    let empty : read [] next ≡ part.rest = cc in
    writes-same old now part.so_far (flat_map spell (map say r.value))
    (sym (append-nil part.so_far)
    ∙ (ap (λ (p : Read (List A)). part.so_far ++ flat_map spell (map say p.value)) empty ∙ part.whole)) part.written

-- a reading that breaks gives nothing
pub broken-nothing : {A : Type 0} (r : Result (Read A) ReplacementError) (e : ReplacementError) (x : Read A)
    → next_of r ≡ Err e → r ≡ Ok x → ⊥
broken-nothing (Ok y) e x breaks is = cc
broken-nothing (Err d) e x breaks is = cc

-- the part that was read is the part that was written
pub writes-read : {A T : Type 0} (reader : ℕ → Result (Read A) ReplacementError) (say : A → T) (spell : T → List ℕ)
    (next : ℕ) (now new : Draft) (one r : Read A) → reader next ≡ Ok one → reader next ≡ Ok r
    → Writes now new (spell (say one.value)) → Writes now new (spell (say r.value))
writes-read {A = A} reader say spell next now new one r first second writes =
    let same : one ≡ r = cc in
    subst (λ (x : Read A). Writes now new (spell (say x.value))) same writes
