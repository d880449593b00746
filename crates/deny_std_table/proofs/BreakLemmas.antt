-- Reading a table never runs out of memory: each of its breaks has an offset.
use Rattle.std.proofs.Common.{◌≡◌, ℕ, zero, suc, ◌+◌, ◌*◌, ◌&&◌, Bool, true, false, nat_lt, nat_le, List, length}
use Rattle.std.proofs.Common.{Option, None, Some, Result, Ok, Err, if◌then◌else◌, ap, ◌∙◌}
use Rattle.deny_std_table.specs.declared.error.ReplacementError.{ReplacementError}
use Rattle.deny_std_table.specs.declared.error.ReplacementError.TheVariants.{Bad, Memory}
use Rattle.deny_std_table.specs.declared.spans.TextSpan.{TextSpan}
use Rattle.deny_std_table.specs.declared.spans.Read.{Read}
use Rattle.deny_base_lists.specs.Reader.{◌>>=◌}
use Rattle.deny_std_table.specs.Reading.{◌>>◌, unless_bad, many, number}
use Rattle.deny_std_table.specs.Region.{Bounds, byte, text, api, replacement, group_head, group, counts, counted_items}
use Rattle.deny_std_table.specs.Region.{items}
use Rattle.deny_std_table.specs.Head.{has_byte, header, version, count_of, offsets, is_offset, start_of}
use Rattle.deny_std_table.specs.Entries.{Entry, entry, entries, bounds_of}
use Rattle.deny_std_table.specs.Table.{table}
use Rattle.deny_std_table.specs.Layout.{IsTable}
use Rattle.deny_std_table.proofs.TableLaw.{table-complete}

-- The result is not that memory ran out.
record IsAnswer {A : Type 0} (r : Result A ReplacementError) : Type 0 where
  pub never : r ≡ Err Memory → ⊥

given : {A : Type 0} (x : A) → IsAnswer (Ok x)
given x = record { never = λ is. cc }

tested : {A : Type 0} (test : Bool) (x : A) (offset : ℕ) → IsAnswer (if test then Ok x else Err (Bad offset))
tested true x offset = record { never = λ is. cc }
tested false x offset = record { never = λ is. cc }

bound : {A B : Type 0} (r : Result A ReplacementError) (f : A → Result B ReplacementError) → IsAnswer r
    → ((x : A) → IsAnswer (f x)) → IsAnswer (r >>= f)
bound (Ok x) f one rest = rest x
bound (Err e) f one rest = record { never = λ is. let same : e ≡ Memory = cc in one.never (ap Err same) }

after : {A : Type 0} (test : Bool) (offset : ℕ) (s : Result A ReplacementError) → IsAnswer s
    → IsAnswer (unless_bad test offset >> s)
after true offset s rest = rest
after false offset s rest = record { never = λ is. cc }

byte-answer : (b : Bounds) (at : ℕ) → IsAnswer (byte b at)
unfolding byte
byte-answer b at = tested _ _ _

text-answer : (b : Bounds) (at : ℕ) → IsAnswer (text b at)
unfolding text
text-answer b at = tested _ _ _

api-answer : (b : Bounds) (at : ℕ) → IsAnswer (api b at)
unfolding api
api-answer b at = bound _ _ (text-answer b at) (λ name. bound _ _ (text-answer b name.next) (λ url. given _))

replacement-answer : (b : Bounds) (at : ℕ) → IsAnswer (replacement b at)
unfolding replacement
replacement-answer b at = bound _ _ (api-answer b at) (λ krate. bound _ _ (api-answer b krate.next)
    (λ std. bound _ _ (text-answer b std.next) (λ said. given _)))

many-answer : {A : Type 0} (reader : ℕ → Result (Read A) ReplacementError) → ((at : ℕ) → IsAnswer (reader at))
    → (count at : ℕ) → IsAnswer (many reader count at)
unfolding many
many-answer reader one zero at = given _
many-answer reader one (suc count) at = bound _ _ (one at)
    (λ x. bound _ _ (many-answer reader one count x.next) (λ others. given _))

group-answer : (b : Bounds) (at : ℕ) → IsAnswer (group b at)
unfolding group group_head
group-answer b at = bound _ _
    (bound _ _ (byte-answer b at) (λ minor. bound _ _ (byte-answer b minor.next) (λ count. after _ _ _ (given _))))
    (λ head. bound _ _ (many-answer (replacement b) (replacement-answer b) head.value.count head.next) (λ all. given _))

items-answer : (b : Bounds) (at : ℕ) → IsAnswer (items b at)
unfolding items counts counted_items
items-answer b at = bound _ _
    (bound _ _ (byte-answer b at)
    (λ groups. bound _ _ (byte-answer b groups.next)
    (λ unstable. bound _ _ (byte-answer b unstable.next) (λ last. given _))))
    (λ count. bound _ _ (many-answer (group b) (group-answer b) count.value.groups count.next)
    (λ groups. bound _ _ (many-answer (replacement b) (replacement-answer b) count.value.unstable groups.next)
    (λ unstable. bound _ _ (many-answer (api b) (api-answer b) count.value.unavailable unstable.next)
    (λ last. given _))))

entry-answer : (b : Bounds) (before : Option TextSpan) (start : ℕ) → IsAnswer (entry b before start)
unfolding entry
entry-answer b before start = bound _ _ (text-answer b start)
    (λ name. after _ _ _ (bound _ _ (items-answer b name.next) (λ rest. given _)))

entries-answer : (width : ℕ) (bytes : List ℕ) (count : ℕ) (before : Option TextSpan) (i left : ℕ)
    → IsAnswer (entries width bytes count before i left)
unfolding entries
entries-answer width bytes count before i zero = given _
entries-answer width bytes count before i (suc left) =
    bound _ _ (entry-answer (bounds_of width bytes count i) before (start_of bytes i))
    (λ one. bound _ _ (entries-answer width bytes count (Some one.name) (i + 1) left) (λ others. given _))

first : {A : Type 0} (test : Bool) (offset : ℕ) (r : Result (Unit {0}) ReplacementError) (s : Result A ReplacementError)
    → IsAnswer (r >> s) → IsAnswer ((unless_bad test offset >> r) >> s)
first true offset r s rest = rest
first false offset r s rest = record { never = λ is. cc }

offsets-answer : {A : Type 0} (bytes : List ℕ) (count i left : ℕ) (s : Result A ReplacementError) → IsAnswer s
    → IsAnswer (offsets bytes count i left >> s)
unfolding offsets
offsets-answer bytes count i zero s rest = rest
offsets-answer bytes count i (suc left) s rest =
    first (is_offset bytes count i) (8 + 4 * i) (offsets bytes count (i + 1) left) s
    (offsets-answer bytes count (i + 1) left s rest)

version-answer : (bytes : List ℕ) → IsAnswer (version bytes)
unfolding version
version-answer bytes = by_tests (has_byte bytes 3 1) (has_byte bytes 3 2)
  where
    by_tests : (one two : Bool) → IsAnswer {A = ℕ} (if one then Ok 1 else (if two then Ok 2 else Err (Bad 3)))
    by_tests true two = given _
    by_tests false true = given _
    by_tests false false = record { never = λ is. cc }

header-answer : (bytes : List ℕ) → IsAnswer (header bytes)
unfolding header
header-answer bytes = after (has_byte bytes 0 0xcd) 0 _
    (after (has_byte bytes 1 0xcd) 1 _ (after (has_byte bytes 2 0xcd) 2 _
    (version-answer bytes)))

count-answer : (bytes : List ℕ) → IsAnswer (count_of bytes)
unfolding count_of
count-answer bytes = after (nat_le 8 (length bytes) && nat_lt 0 (number 4 bytes 4)) 4 _ (given _)

table-answer : (bytes : List ℕ) → IsAnswer (table bytes)
unfolding table
table-answer bytes = bound _ _ (header-answer bytes) (λ width. bound _ _ (count-answer bytes)
    (λ count. offsets-answer bytes count 0 count _ (entries-answer width bytes count None 0 count)))

-- a table's break has an offset
table-no_memory : (bytes : List ℕ) → table bytes ≡ Err Memory → ⊥
table-no_memory bytes = (table-answer bytes).never

-- no bytes have both a break and entries
pub ok-no_break : (bytes : List ℕ) (es : List Entry) → table bytes ≡ Ok es → (offset : ℕ)
    → table bytes ≡ Err (Bad offset) → ⊥
ok-no_break bytes es first offset second = cc

pub break-no_table : (bytes : List ℕ) (e : ReplacementError) → table bytes ≡ Err e → (es : List Entry)
    → IsTable bytes es → ⊥
break-no_table bytes e broken es is = let holds = table-complete bytes es is in cc

pub break-no_memory : (bytes : List ℕ) (e : ReplacementError) → table bytes ≡ Err e → e ≡ Memory → ⊥
break-no_memory bytes e broken same = table-no_memory bytes (broken ∙ ap Err same)
