-- Worked cases of a table's bytes: what they say of crates, which keys hold by them, and the message.
use Rattle.std.proofs.Common.{◌≡◌, ℕ, List, [], ◌∷◌, Some, None, arith, codes, refl}
use Rattle.std.specs.Prelude.{⊤}
use Rattle.std.specs.Char.{encode_utf8}
use Rattle.std.specs.Str.{chars, is_utf8}
use Rattle.deny_base.specs.declared.code.Code.TheVariants as code
use Rattle.deny_base.specs.declared.level.Severity.TheVariants as severity
use Rattle.deny_std_table.specs.Entries.{entries, entry, stop_of}
use Rattle.deny_std_table.specs.Head.{count_of, header, offsets, version}
use Rattle.deny_std_table.specs.Reading.{many, number}
use Rattle.deny_std_table.specs.Region.{api, byte, counted_items, counts, group, group_head, items, replacement, text}
use Rattle.deny_std_table.specs.Table.{table}
use Rattle.deny_spec_report.specs.Circumstances.{Circumstances, tabled, unseen_by}
use Rattle.deny_spec_report.specs.EachCode.{message_as}
use Rattle.deny_spec_report.specs.Saying.{IsBreakIn, said_by, said_in}
use Rattle.deny_spec_report.specs.StdReplacements.{replaced_key, replaced_keys_in}
use Rattle.deny_spec_report.proofs.Cases.{plain}
use Rattle.deny_spec_report.proofs.StdReplacementRows.{f_by_g, one, plainly_replacing, replacing_on_cases, since}

-- a table of version 1: of `x` it says that `f` is `g` of the standard library since 1.70
unfoldable pub small_table : List ℕ
small_table =
    0xcd ∷ 0xcd ∷ 0xcd ∷ 1 ∷ 1 ∷ 0 ∷ 0 ∷ 0 ∷ 12 ∷ 0 ∷ 0 ∷ 0
    ∷ 1 ∷ 0x78 ∷ 1 ∷ 0 ∷ 0 ∷ 70 ∷ 1 ∷ 1 ∷ 0x66 ∷ 0 ∷ 1 ∷ 0x67 ∷ 0 ∷ 0 ∷ []

-- what a row unfolds
unfoldable pub table_on_cases : ⊤
unfolding small_table said_in table header version count_of number offsets entries entry stop_of text byte counts
    counted_items group group_head many replacement api items is_utf8 chars encode_utf8 f_by_g since
table_on_cases = tt

of_x : said_by small_table (codes "x") ≡ Some (since 70)
unfolding table_on_cases
of_x = refl

of_no_other : said_by small_table (codes "y") ≡ None
unfolding table_on_cases
of_no_other = refl

without_a_table : said_by [] (codes "x") ≡ None
unfolding table_on_cases
without_a_table = refl

-- ---- where a table breaks

-- a table that is not there breaks at 0, and nowhere else
not_there : IsBreakIn None 0
not_there = refl

not_behind_the_mark : IsBreakIn None 4 → ⊥
not_behind_the_mark is = omega (arith, is)

-- without bytes the mark is missing, and behind the mark the number of entries
empty_table : IsBreakIn (Some []) 0
unfolding table_on_cases
empty_table = refl

mark_alone : IsBreakIn (Some (0xcd ∷ 0xcd ∷ 0xcd ∷ 1 ∷ [])) 4
unfolding table_on_cases
mark_alone = refl

-- ---- in circumstances

-- the circumstances of a policy that checks replaced crates, of `app`, which needs `x`, and of these bytes
unfoldable with_table : List ℕ → Circumstances
with_table bytes = tabled (unseen_by (record plain { replacing = Some plainly_replacing }) one 3) bytes

holds : replaced_keys_in (with_table small_table) ≡ replaced_key 1 ∷ []
unfolding table_on_cases replacing_on_cases with_table
holds = refl

does_not_hold : replaced_keys_in (with_table []) ≡ []
unfolding table_on_cases replacing_on_cases with_table
does_not_hold = refl

-- a policy that does not check replaced crates
inactive : replaced_keys_in (tabled (unseen_by plain one 3) small_table) ≡ []
unfolding table_on_cases replacing_on_cases
inactive = refl

reported : (message_as code.ReplacedInStd (with_table small_table) (replaced_key 1)).message
    ≡ codes "crate 'x = 1.0.0' is partially or fully replaced in std and/or core"
unfolding table_on_cases replacing_on_cases with_table message_as
reported = refl

noted : (message_as code.ReplacedInStd (with_table small_table) (replaced_key 1)).notes
    ≡ codes "## Stable\n### 1.70.0\n```diff\n- [x::f]()\n+ [g]()\n```\n\n" ∷ []
unfolding table_on_cases replacing_on_cases with_table message_as
noted = refl

at_its_level : (message_as code.ReplacedInStd (with_table small_table) (replaced_key 1)).severity ≡ severity.Error
unfolding table_on_cases replacing_on_cases with_table message_as
at_its_level = refl
