-- The key of each kind of finding, written out, and which spans are equal.
use Rattle.std.proofs.Common.{◌≡◌, [], ◌∷◌, true, false, refl}
use Rattle.deny_base.specs.declared.code.Code.TheVariants as code
use Rattle.deny_base.specs.declared.code.DiagnosticCode.TheVariants.{Bans}
use Rattle.deny_base.specs.declared.key.Section.TheVariants as section
use Rattle.deny_spec.specs.Keys.{crate_key, dependent_key, duplicate_key, key_of, unused_key}
use Rattle.deny_spec.specs.Wrappers.{same_span}
use Rattle.deny_spec_report.proofs.Cases.{span}

of_a_crate : crate_key code.Allowed 2 (span 16) ≡ record {
  section = section.Crates;
  place = 2;
  code = Bans code.Allowed;
  entry = record { start = 16; end = 17 };
  text = [];
  other = 0;
  places = [];
}
unfolding key_of span
of_a_crate = refl

of_a_dependent : dependent_key code.UnmatchedWrapper 1 (span 16) 2 ≡ record {
  section = section.Crates;
  place = 1;
  code = Bans code.UnmatchedWrapper;
  entry = record { start = 16; end = 17 };
  text = [];
  other = 2;
  places = [];
}
unfolding key_of span
of_a_dependent = refl

of_an_entry : unused_key code.UnmatchedSkip (span 29) ≡ record {
  section = section.Unused;
  place = 0;
  code = Bans code.UnmatchedSkip;
  entry = record { start = 29; end = 30 };
  text = [];
  other = 0;
  places = [];
}
unfolding key_of span
of_an_entry = refl

-- a duplicate has the place of its first crate
of_a_group : duplicate_key (2 ∷ 1 ∷ []) ≡ record {
  section = section.Groups;
  place = 2;
  code = Bans code.Duplicate;
  entry = record { start = 0; end = 0 };
  text = [];
  other = 0;
  places = 2 ∷ 1 ∷ [];
}
unfolding duplicate_key
of_a_group = refl

-- ---- spans

same : same_span (span 16) (span 16) ≡ true
unfolding span
same = refl

another_end : same_span (span 16) (record { start = 16; end = 18 }) ≡ false
unfolding span
another_end = refl

another_start : same_span (span 16) (record { start = 15; end = 17 }) ≡ false
unfolding span
another_start = refl
