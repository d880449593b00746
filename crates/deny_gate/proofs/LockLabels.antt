-- The label of a duplicate lies in the lock text: it begins with the line of its first crate and ends with that of its
-- last.
use Rattle.std.proofs.Common.{◌≡◌, ◌≢◌, ◌⊎◌, ◌≤◌, ◌∙◌, ℕ, List, [], ◌∷◌, Contains, Option, None, Some, ap, refl, sym, subst}
use Rattle.std.proofs.Common.{arith, inl, inr}
use Rattle.std.specs.Prelude.{codes, map, option_and_then, slice_get}
use Rattle.std.specs.Cmp.Lexicographic.{nat_list_cmp_total, slice_cmp}
use Rattle.std.specs.List.{AllZip, last_or}
use Rattle.std.specs.List.Sorted.{IsStrictlySortedBy}
use Rattle.std.specs.Ordering.{nat_cmp, ordering_then}
use Rattle.std.specs.declared.cmp.Ordering.{Ordering}
use Rattle.std.specs.declared.cmp.Ordering.TheVariants.{Equal, Less}
use Rattle.std.proofs.lemmas.Cmp.{tied_itself}
use Rattle.std.proofs.lemmas.Option.{same_Some}
use Rattle.deny_base.specs.declared.files.File.{File}
use Rattle.deny_base.specs.declared.key.Key.{Key}
use Rattle.deny_base_lists.proofs.Members.{Contains-first, Contains-rest, at_member, map_at, there, zip_at}
use Rattle.deny_base_lists.proofs.Equalities.{subst₃}
use Rattle.deny_krates_lock.specs.Order.{lock_cmp}
use Rattle.deny_krates_lock.specs.Text.{IsLineOf, LinesAscend, lock_span_at, lock_text}
use Rattle.deny_krates_lock.specs.declared.line.LockSpan.{LockSpan}
use Rattle.deny_spec.specs.Duplicates.{IsDuplicate}
use Rattle.deny_spec.specs.Facts.{Facts}
use Rattle.deny_spec.specs.Graph.{Crate, Graph}
use Rattle.deny_spec.specs.Keys.{duplicate_key}
use Rattle.deny_spec.specs.Policy.{Policy}
use Rattle.deny_spec.specs.DiagParts.{crate_at, primary}
use Rattle.deny_spec.specs.VersionOrder.{version_cmp}
use Rattle.deny_spans.specs.SpansView.{AreSpansOf}
use Rattle.deny_spans.specs.declared.krate_spans.KrateSpans.{KrateSpans}
use Rattle.deny_toml.specs.Spans.{IsSpan}
use Rattle.deny_spec_report.specs.Duplicates.{duplicate_diag, lock_label, lock_labels, lock_lines}
use Rattle.deny_gate.specs.Labels.{ArePlaced}
use Rattle.deny_gate.specs.Report.{policy_id}
use Rattle.deny_gate.specs.private.Labels.{AreLockLines}
use Rattle.deny_gate.proofs.Beside.{listed_from}
use Rattle.deny_gate.proofs.ManifestLabels.{first_label, no_labels}
use Rattle.deny_gate.proofs.Placed.{ArePlaced as AtPlaces}

-- ---- lines

-- the lines of crates are in the lock text where their spans say
lines_of : (g : Graph) → AllZip (IsLineOf (lock_text g.crates)) g.crates (map (lock_span_at g.crates) g.crates)
    → LinesAscend g.crates → AreLockLines g
lines_of g zip ascend = record {
  each = λ c known.
      let at = there g.crates c known in
      let line = zip_at (IsLineOf (lock_text g.crates)) g.crates
      (map (lock_span_at g.crates) g.crates) at.0 c zip at.1 in
      subst (λ (span : LockSpan). IsLineOf (lock_text g.crates) c span)
      (same_Some line.0 (lock_span_at g.crates c)
      (sym line.1 ∙ map_at (lock_span_at g.crates) g.crates at.0 c at.1)) line.2;
  ascend = ascend;
}

pub lines_of_spans : (g : Graph) (spans : KrateSpans) → AreSpansOf g spans → LinesAscend g.crates → AreLockLines g
lines_of_spans g spans are ascend =
    lines_of g (subst (λ (lines : List LockSpan). AllZip (IsLineOf (lock_text g.crates)) g.crates lines) are.lock
    are.lines)
    ascend

-- of two crates of one name the one with the lower version is first in the lock text
lower_line : (c d : Crate) → c.name ≡ d.name → version_cmp c d ≡ Less → lock_cmp c d ≡ Less
lower_line c d named below =
    let tie : slice_cmp nat_cmp c.name d.name ≡ Equal =
    subst (λ (name : List ℕ). slice_cmp nat_cmp c.name name ≡ Equal) named (tied_itself nat_list_cmp_total c.name) in
    ap (λ (o : Ordering). ordering_then o (version_cmp c d)) tie ∙ below

-- a crate is the other, or its line is before the other's
abbrev IsUpTo : Crate → Crate → Type 0
IsUpTo c d = (c ≡ d) ⊎ (lock_cmp c d ≡ Less)

module _ (g : Graph) (lines : AreLockLines g) where
  ends_behind : (c d : Crate) → Contains g.crates c → Contains g.crates d → IsUpTo c d
      → (lock_span_at g.crates c).total.start ≤ (lock_span_at g.crates d).total.end
  ends_behind c d one other (inl same) =
      subst (λ (e : Crate). (lock_span_at g.crates c).total.start ≤ (lock_span_at g.crates e).total.end) same
      (lines.each c one).line.upward
  ends_behind c d one other (inr below) =
      omega (
        arith,
        (lines.each c one).line.upward,
        lines.ascend c d one other below,
        (lines.each d other).line.upward,
      )

  -- from the line of a crate to that of another is a span of the lock text
  lines_are : (c d : Crate) → Contains g.crates c → Contains g.crates d → IsUpTo c d
      → IsSpan (lock_text g.crates) (lock_lines g c d)
  unfolding lock_lines
  lines_are c d one other up = record {
    ordered = ends_behind c d one other up;
    within = (lines.each d other).line.ends.0;
    starts = (lines.each c one).line.starts;
    ends = (lines.each d other).line.ends;
  }

  -- ---- the first and the last of several crates

  module _ (placed : AtPlaces g g.crates) where
    at_place : (c : Crate) → Contains g.crates c → option_and_then (crate_at g) (Some c.place) ≡ Some c
    at_place c one = placed c one

    -- the last of a crate and those behind it
    record IsLast (o : Option ℕ) (d : Crate) (cs : List Crate) : Type 0 where
      last : Crate
      one : (d ≡ last) ⊎ Contains cs last
      is : option_and_then (crate_at g) (last_or o (map (λ c. c.place) cs)) ≡ Some last

    last_of : (o : Option ℕ) (d : Crate) (cs : List Crate) → option_and_then (crate_at g) o ≡ Some d
        → ((c : Crate) → Contains cs c → Contains g.crates c) → IsLast o d cs
    last_of o d [] is known = record { last = d; one = inl refl; is = is }
    last_of o d (c ∷ cs) is known =
        let rest = last_of (Some c.place) c cs (at_place c (known c (Contains-first c cs)))
        (λ e at. known e (Contains-rest c cs e at)) in
        record {
          last = rest.last;
          one = inr (elim rest.one as (λ _. Contains (c ∷ cs) rest.last) [
            | inl same ↦ subst (λ (e : Crate). Contains (c ∷ cs) e) same (Contains-first c cs)
            | inr at ↦ Contains-rest c cs rest.last at
          ]);
          is = rest.is;
        }

    -- ---- the label

    module _ (files : List File) (lock : ℕ) (apart : lock ≢ policy_id) (file : File) (there : slice_get files lock ≡ Some file)
        (source : file.source ≡ lock_text g.crates) where
      label_placed : (first other : Option Crate) (c d : Crate) → first ≡ Some c → other ≡ Some d
          → Contains g.crates c → Contains g.crates d → IsUpTo c d → ArePlaced files (lock_label g lock first other)
      unfolding lock_label
      label_placed None other c d first_is other_is one last up = absurd (cc first_is)
      label_placed (Some a) None c d first_is other_is one last up = absurd (cc other_is)
      label_placed (Some a) (Some b) c d first_is other_is one last up =
          first_label files lock apart file there (primary lock (lock_lines g a b) (codes "lock entries")) [] refl
          (subst₃ (λ (text : List ℕ) (e f : Crate). IsSpan text (lock_lines g e f)) (sym source)
          (same_Some c a (sym first_is)) (same_Some d b (sym other_is)) (lines_are c d one last up)) (no_labels files)

      labels_placed : (crates : List Crate) (name : List ℕ) → IsStrictlySortedBy version_cmp crates
          → ((c : Crate) → Contains crates c → Contains g.crates c × (c.name ≡ name))
          → ArePlaced files (lock_labels g lock (map (λ c. c.place) crates))
      unfolding lock_labels lock_label IsStrictlySortedBy
      labels_placed [] name up known = no_labels files
      labels_placed (c ∷ cs) name up known =
          let first = known c (Contains-first c cs) in
          let others : (d : Crate) → Contains cs d → Contains g.crates d × (d.name ≡ name) =
          λ d at. known d (Contains-rest c cs d at) in
          let last = last_of (Some c.place) c cs (at_place c first.0) (λ d at. (others d at).0) in
          let one : Contains g.crates last.last = elim last.one as (λ _. Contains g.crates last.last) [
            | inl same ↦ subst (λ (e : Crate). Contains g.crates e) same first.0
            | inr at ↦ (others last.last at).0
          ] in
          let order : IsUpTo c last.last = elim last.one as (λ _. IsUpTo c last.last) [
            | inl same ↦ inl same
            | inr at ↦ inr (lower_line c last.last (first.1 ∙ sym (others last.last at).1)
                (at_member (λ e. version_cmp c e ≡ Less) cs last.last up.0 at))
          ] in
          label_placed (option_and_then (crate_at g) (Some c.place))
          (option_and_then (crate_at g) (last_or (Some c.place) (map (λ e. e.place) cs))) c last.last
          (at_place c first.0) last.is first.0 one order

      pub lock_placed : (p : Policy) (facts : Facts) (key : Key) → IsDuplicate p g facts key
          → ArePlaced files (duplicate_diag p g (Some lock) key).labels
      unfolding duplicate_diag duplicate_key
      lock_placed p facts key is =
          let of = is.2 in
          let beside = listed_from p g facts is.0.name of.crates of.listed of.several in
          subst (λ (k : Key). ArePlaced files (lock_labels g lock k.places)) (sym of.is)
          (labels_placed of.crates is.0.name of.listed.ascending
          (λ c at. ((beside.sound c at).known, (beside.sound c at).named)))
