-- Keys of findings, by what they are about.
use Rattle.std.specs.Prelude.{ℕ, List, [], ◌∷◌}
use Rattle.deny_base.specs.declared.code.Code.{Code}
use Rattle.deny_base.specs.declared.code.Code.TheVariants as code
use Rattle.deny_base.specs.declared.code.DiagnosticCode.{DiagnosticCode}
use Rattle.deny_base.specs.declared.code.DiagnosticCode.TheVariants.{Bans}
use Rattle.deny_base.specs.declared.key.Key.{Key}
use Rattle.deny_base.specs.declared.key.Section.{Section}
use Rattle.deny_base.specs.declared.key.Section.TheVariants as section
use Rattle.deny_base.specs.declared.span.Span.{Span}

-- the span of a key that is about no entry
abbrev pub no_span : Span
no_span = record { start = 0; end = 0 }

-- the key of a code of any check, about a crate and an entry of the policy
abbrev pub plain_key : Section → DiagnosticCode → ℕ → Span → Key
plain_key section code place entry = record {
  section = section;
  place = place;
  code = code;
  entry = entry;
  text = [];
  other = 0;
  places = [];
}

-- the key of a code of the bans check, about a crate, an entry of the policy, and another crate
unfoldable pub key_of : Section → Code → ℕ → Span → ℕ → Key
key_of section code place entry other = record (plain_key section (Bans code) place entry) { other = other }

-- the key of a crate and an entry that matches it
abbrev pub crate_key : Code → ℕ → Span → Key
crate_key code place entry = key_of section.Crates code place entry 0

-- the key of a crate, an entry that bans it, and a direct dependent
abbrev pub dependent_key : Code → ℕ → Span → ℕ → Key
dependent_key code place entry parent = key_of section.Crates code place entry parent

-- the key of an entry that has no effect
abbrev pub unused_key : Code → Span → Key
unused_key code entry = key_of section.Unused code 0 entry 0

abbrev pub first_place : List ℕ → ℕ
first_place [] = 0
first_place (place ∷ places) = place

-- the key of a duplicate, by the places of its crates
unfoldable pub duplicate_key : List ℕ → Key
duplicate_key places = record {
  section = section.Groups;
  place = first_place places;
  code = Bans code.Duplicate;
  entry = no_span;
  text = [];
  other = 0;
  places = places;
}
