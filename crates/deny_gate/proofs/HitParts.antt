-- Hits without equal entries, by their kinds.
use Rattle.std.proofs.Common.{◌≡◌, ◌∙◌, ◌++◌, ◌<◌, ◌≤◌, ℕ, List, [], Option, None, Some, ap, arith, inl, inr, sym}
use Rattle.std.specs.Prelude.{Contains, filter_map, option_map}
use Rattle.std.proofs.lemmas.List.Elements.{Contains-append_cases, Contains-append_left, Contains-append_right}
use Rattle.std.proofs.lemmas.Option.{none-some, same_Some}
use Rattle.deny_base_lists.proofs.Members.{from_filter_map, no_member}
use Rattle.deny_base.specs.Entry.{entry_kind_number}
use Rattle.deny_base.specs.declared.entry.EntryId.{EntryId}
use Rattle.deny_base.specs.declared.entry.EntryKind.{EntryKind}
use Rattle.deny_base.specs.declared.entry.Hit.{Hit}
use Rattle.deny_base.specs.declared.entry.Witness.TheVariants.{Krate}
use Rattle.deny_base.specs.declared.span.Span.{Span}
use Rattle.deny_spec.specs.Graph.{Crate, kid_of}
use Rattle.deny_spec.specs.Hits.{hit_of}
use Rattle.deny_gate.specs.private.Hits.{IsOneEach}
use Rattle.deny_spec_removal.proofs.Taken.{entry}

-- ---- hits of one kind, and of several

-- no two of the hits have the same entry, and their kinds lie between two
pub record Part (low high : ℕ) (hits : List Hit) : Type 0 where
  pub once : IsOneEach hits
  pub kinds : (h : Hit) → Contains hits h
      → (low ≤ entry_kind_number h.entry.kind) × (entry_kind_number h.entry.kind ≤ high)

pub no_part : (low high : ℕ) → Part low high []
no_part low high = record {
  once = λ h k at_h at_k same. absurd (no_member h at_h);
  kinds = λ h at. absurd (no_member h at);
}

pub joined_parts : (low mid next high : ℕ) (xs ys : List Hit) → Part low mid xs → Part next high ys → mid < next
    → low ≤ next
    → mid ≤ high → Part low high (xs ++ ys)
joined_parts low mid next high xs ys one other past up down = record {
  once = λ h k at_h at_k same. elim (Contains-append_cases xs ys h at_h) as (λ _. h ≡ k) [
    | inl left ↦ elim (Contains-append_cases xs ys k at_k) as (λ _. h ≡ k) [
      | inl here ↦ one.once h k left here same
      | inr there ↦ absurd (never h k left there same)
    ]
    | inr right ↦ elim (Contains-append_cases xs ys k at_k) as (λ _. h ≡ k) [
      | inl here ↦ absurd (never k h here right (sym same))
      | inr there ↦ other.once h k right there same
    ]
  ];
  kinds = λ h at. elim (Contains-append_cases xs ys h at)
      as (λ _. (low ≤ entry_kind_number h.entry.kind) × (entry_kind_number h.entry.kind ≤ high)) [
        | inl left ↦ let of = one.kinds h left in (of.0, omega (arith, of.1, down))
        | inr right ↦ let of = other.kinds h right in (omega (arith, of.0, up), of.1)
      ];
}
  where
    never : (h k : Hit) → Contains xs h → Contains ys k → h.entry ≡ k.entry → ⊥
    never h k left right same =
        let of = one.kinds h left in
        let too = other.kinds k right in
        let equal : entry_kind_number h.entry.kind ≡ entry_kind_number k.entry.kind =
        ap (λ (e : EntryId). entry_kind_number e.kind) same in
        omega (arith, of.1, too.0, equal, past)

-- a part stays one when its lists change places
pub part_turned : (low high : ℕ) (xs ys : List Hit) → Part low high (xs ++ ys) → Part low high (ys ++ xs)
part_turned low high xs ys part = record {
  once = λ h k at_h at_k same. part.once h k (turned h at_h) (turned k at_k) same;
  kinds = λ h at. part.kinds h (turned h at);
}
  where
    turned : (h : Hit) → Contains (ys ++ xs) h → Contains (xs ++ ys) h
    turned h at = elim (Contains-append_cases ys xs h at) as (λ _. Contains (xs ++ ys) h) [
      | inl left ↦ Contains-append_right xs ys h left
      | inr right ↦ Contains-append_left xs ys h right
    ]

-- the hits of one kind are a part, where two with the same span are equal
module _ {X : Type 0} (kind : EntryKind) (span : X → Span) (hit : X → Option Hit)
    (entry_is : (x : X) (h : Hit) → hit x ≡ Some h → h.entry ≡ entry kind (span x)) where
  given_span : (x y : X) (h k : Hit) → hit x ≡ Some h → hit y ≡ Some k → h.entry ≡ k.entry → span x ≡ span y
  given_span x y h k of_x of_y same = ap (λ (e : EntryId). e.range)
      (sym (entry_is x h of_x) ∙ (same ∙ entry_is y k of_y))

  pub given_part : (xs : List X)
      → ((x y : X) → Contains xs x → Contains xs y → span x ≡ span y → hit x ≡ hit y)
      → Part (entry_kind_number kind) (entry_kind_number kind) (filter_map hit xs)
  given_part xs once = record {
    once = λ h k at_h at_k same.
        let x = from_filter_map hit xs h at_h in
        let y = from_filter_map hit xs k at_k in
        same_Some h k
        (sym x.gives
        ∙ (once x.from y.from x.member y.member (given_span x.from y.from h k x.gives y.gives same) ∙ y.gives));
    kinds = λ h at.
        let from = from_filter_map hit xs h at in
        let is : entry_kind_number h.entry.kind ≡ entry_kind_number kind =
        ap (λ (e : EntryId). entry_kind_number e.kind) (entry_is from.from h from.gives) in
        (omega (arith, is), omega (arith, is));
  }

pub by_crate : (kind : EntryKind) (span : Span) (o : Option Crate) (h : Hit)
    → option_map (λ c. hit_of kind span (Krate (kid_of c))) o ≡ Some h → h.entry ≡ entry kind span
by_crate kind span None h is = absurd (none-some h is)
by_crate kind span (Some c) h is = ap (λ (k : Hit). k.entry) (sym (same_Some _ h is))
