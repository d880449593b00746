-- Keys that the table over codes reports and that come before those of replaced crates: keys of an earlier section,
-- and of unused entries of another kind.
use Rattle.std.proofs.Common.{List, [], ap, inl, inr, map, refl, subst, sym, ◌∙◌, ◌≡◌}
use Rattle.std.specs.Option.{option_map_or}
use Rattle.std.specs.Prelude.{Contains, IsTrue, None, Option, Some, filter, not}
use Rattle.std.specs.declared.cmp.Ordering.TheVariants.{Less}
use Rattle.deny_base.specs.Code.{diagnostic_code_cmp, is_reported_here, section_cmp, section_number}
use Rattle.deny_base.specs.KeyOrder.{key_cmp}
use Rattle.deny_base.specs.declared.code.Code.{Code}
use Rattle.deny_base.specs.declared.code.Code.TheVariants as code
use Rattle.deny_base.specs.declared.code.DiagnosticCode.{DiagnosticCode}
use Rattle.deny_base.specs.declared.code.DiagnosticCode.TheVariants.{Bans}
use Rattle.deny_base.specs.declared.key.Key.{Key}
use Rattle.deny_base.specs.declared.key.Section.{Section}
use Rattle.deny_base.specs.declared.key.Section.TheVariants as section
use Rattle.deny_base.specs.declared.span.Span.{Span}
use Rattle.deny_spec.specs.Facts as chains
use Rattle.deny_spec.specs.Graph.{Graph}
use Rattle.deny_spec.specs.Keys.{key_of, unused_key}
use Rattle.deny_spec.specs.Policy as policy
use Rattle.deny_spec.specs.Policy.{Ban, Entry, Policy, Replacing, Root}
use Rattle.deny_spec.specs.Skips.{has_root, is_hit_skip, is_needless, unmatched_skip_keys, unmatched_skip_root_keys}
use Rattle.deny_spec.specs.Skips.{unnecessary_skip_keys}
use Rattle.deny_spec.specs.Wrappers.{is_hit_wrapper, unused_wrapper_keys_of}
use Rattle.deny_spec_report.specs.Circumstances.{Circumstances}
use Rattle.deny_spec_report.specs.Saying.{Saying, said_by}
use Rattle.deny_spec_report.specs.StdReplacements.{ignore_span, is_unmatched_ignore, unmatched_ignore_keys}
use Rattle.deny_spec_report.specs.StdReplacements.{unmatched_ignore_keys_in}
use Rattle.deny_spec_report.specs.Wrappers.{unused_wrapper_keys}
use Rattle.deny_base_lists.proofs.Members.{Contains-from_flat_map, from_contains_map, no_member}
use Rattle.deny_base_lists.proofs.Orders.{then-less}
use Rattle.deny_spec_report.proofs.Made.{Made, replaced_made, unmatched_ignore_made}
use Rattle.deny_std.specs.Found.{IsOfStd}

-- ---- keys of unused entries have no place

pub record IsUnused (d : Code) (key : Key) : Type 0 where
  pub entry : Span
  pub is : unused_key d entry ≡ key

pub unused_map : {X : Type 0} (d : Code) (span : X → Span) (xs : List X) (key : Key)
    → Contains (map (λ x. unused_key d (span x)) xs) key → IsUnused d key
unused_map d span xs key is =
    let from = from_contains_map (λ x. unused_key d (span x)) xs key is in
    record { entry = span from.0; is = from.2 }

unused_wrappers_of : (p : Policy) (g : Graph) (key : Key) (ban : Ban) → Contains (unused_wrapper_keys_of p g ban) key
    → IsUnused code.UnusedWrapper key
unfolding unused_wrapper_keys_of
unused_wrappers_of p g key ban is = unused_map code.UnusedWrapper (λ (w : policy.SpannedText). w.span)
    (filter (λ w. not (is_hit_wrapper p g ban w)) ban.wrappers) key is

pub unused_wrappers : (p : Policy) (g : Graph) (key : Key) → Contains (unused_wrapper_keys p g) key
    → IsUnused code.UnusedWrapper key
unused_wrappers p g key is =
    let from = Contains-from_flat_map (unused_wrapper_keys_of p g) p.deny key is in
    unused_wrappers_of p g key from.from from.of

pub unmatched_skips : (p : Policy) (g : Graph) (facts : chains.Facts) (key : Key)
    → Contains (unmatched_skip_keys p g facts) key → IsUnused code.UnmatchedSkip key
unfolding unmatched_skip_keys
unmatched_skips p g facts key is = unused_map code.UnmatchedSkip (λ (s : Entry). s.spec.span)
    (filter (λ s. not (is_hit_skip g facts s)) p.skip) key is

pub unnecessary_skips : (p : Policy) (g : Graph) (facts : chains.Facts) (key : Key)
    → Contains (unnecessary_skip_keys p g facts) key → IsUnused code.UnnecessarySkip key
unfolding unnecessary_skip_keys
unnecessary_skips p g facts key is = unused_map code.UnnecessarySkip (λ (s : Entry). s.spec.span)
    (filter (is_needless p g facts) p.skip) key is

pub unmatched_roots : (p : Policy) (g : Graph) (key : Key) → Contains (unmatched_skip_root_keys p g) key
    → IsUnused code.UnmatchedSkipRoot key
unfolding unmatched_skip_root_keys
unmatched_roots p g key is = unused_map code.UnmatchedSkipRoot (λ (t : Root). t.spec.span)
    (filter (λ t. not (has_root g t)) p.skip_tree) key is

unmatched_ignores_of : (r : Replacing) (g : Graph) (said : Saying) (key : Key)
    → Contains (unmatched_ignore_keys r g said) key → IsUnused code.UnmatchedReplacementIgnore key
unfolding unmatched_ignore_keys
unmatched_ignores_of r g said key is = unused_map code.UnmatchedReplacementIgnore ignore_span
    (filter (is_unmatched_ignore r g said) r.ignore) key is

unmatched_ignores : (c : Circumstances) (key : Key) → Contains (unmatched_ignore_keys_in c) key
    → IsUnused code.UnmatchedReplacementIgnore key
unmatched_ignores c key is = by c.policy.replacing is
  where
    by : (o : Option Replacing)
        → Contains (option_map_or (λ r. unmatched_ignore_keys r c.graph (said_by c.table)) o []) key
        → IsUnused code.UnmatchedReplacementIgnore key
    by None is = absurd (no_member key is)
    by (Some r) is = unmatched_ignores_of r c.graph (said_by c.table) key is

-- ---- which key comes first

-- the key is reported by the table over codes, and comes before all keys of replaced crates
pub record IsFirst (key : Key) : Type 0 where
  pub here : IsTrue (is_reported_here key.code)
  pub first : (c : Circumstances) (other : Key) → IsOfStd c other → key_cmp key other ≡ Less

by_section : (x y : Key) → section_cmp x.section y.section ≡ Less → key_cmp x y ≡ Less
by_section x y below = then-less _ _ below

in_sections : (x y : Key) (s t : Section) → x.section ≡ s → y.section ≡ t → section_cmp s t ≡ Less → key_cmp x y ≡ Less
in_sections x y s t one other below = by_section x y
    (subst (λ (z : Section). section_cmp z y.section ≡ Less) (sym one)
    (subst (λ (z : Section). section_cmp s z ≡ Less) (sym other) below))

by_code : (d : Code) (e f : Span) → diagnostic_code_cmp (Bans d) (Bans code.UnmatchedReplacementIgnore) ≡ Less
    → key_cmp (unused_key d e) (unused_key code.UnmatchedReplacementIgnore f) ≡ Less
unfolding key_of section_number
by_code d e f below = then-less _ _ below

reported_here : (d : Code) (key : Key) → key.code ≡ Bans d → IsTrue (is_reported_here (Bans d))
    → IsTrue (is_reported_here key.code)
reported_here d key is here = subst (λ (e : DiagnosticCode). IsTrue (is_reported_here e)) (sym is) here

-- a key of a section before that of unused entries comes first
pub of_section : (s : Section) (d : Code) (key : Key) → IsTrue (is_reported_here (Bans d))
    → section_cmp s section.Unused ≡ Less → section_cmp s section.Std ≡ Less → Made s d key → IsFirst key
of_section s d key here unused std made = record {
  here = reported_here d key made.code_is here;
  first = λ c other is. elim is as (λ _. key_cmp key other ≡ Less) [
    | inl ignored ↦ in_sections key other s section.Unused made.section_is
        (unmatched_ignore_made c other ignored).section_is unused
    | inr replaced ↦ in_sections key other s section.Std made.section_is (replaced_made c other replaced).section_is std
  ];
}

code_of_unused : (d : Code) (e : Span) → (unused_key d e).code ≡ Bans d
unfolding key_of
code_of_unused d e = refl

section_of_unused : (d : Code) (e : Span) → (unused_key d e).section ≡ section.Unused
unfolding key_of
section_of_unused d e = refl

-- the key of an unused entry has its code in the section of unused entries
pub unused_made : (d : Code) (key : Key) → IsUnused d key → Made section.Unused d key
unused_made d key unused = record {
  code_is = ap (λ (k : Key). k.code) (sym unused.is) ∙ code_of_unused d unused.entry;
  section_is = ap (λ (k : Key). k.section) (sym unused.is) ∙ section_of_unused d unused.entry;
}

-- a key of an unused entry of another kind comes first
pub of_unused : (d : Code) (key : Key) → IsTrue (is_reported_here (Bans d))
    → diagnostic_code_cmp (Bans d) (Bans code.UnmatchedReplacementIgnore) ≡ Less
    → section_cmp section.Unused section.Std ≡ Less → IsUnused d key → IsFirst key
of_unused d key here below std unused = record {
  here = reported_here d key (unused_made d key unused).code_is here;
  first = λ c other is. elim is as (λ _. key_cmp key other ≡ Less) [
    | inl ignored ↦
        let there = unmatched_ignores c other ignored in
        subst (λ (k : Key). key_cmp k other ≡ Less) unused.is
        (subst (λ (k : Key). key_cmp (unused_key d unused.entry) k ≡ Less) there.is
        (by_code d unused.entry there.entry below))
    | inr replaced ↦ in_sections key other section.Unused section.Std
        (unused_made d key unused).section_is (replaced_made c other replaced).section_is std
  ];
}
