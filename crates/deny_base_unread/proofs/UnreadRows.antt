-- Worked cases at the edges: the order of entries, bounds, and what a view shows.
use Rattle.std.proofs.Common.{◌≡◌, ◌+◌, ◌-◌, ◌^◌, ℕ, true, false, List, [], ◌∷◌, Option, None, Some, codes, refl, arith}
use Rattle.std.specs.declared.cmp.Ordering.TheVariants.{Equal, Greater, Less}
use Rattle.deny_base_disk.specs.Count.{RoseBy}
use Rattle.deny_base_disk.specs.Disk.{Files, bytes_at, untold}
use Rattle.deny_base.specs.declared.span.Kid.{Kid}
use Rattle.deny_base_unread.specs.Added.{added}
use Rattle.deny_base_unread.specs.Bound.{is_bound, is_past}
use Rattle.deny_base_unread.specs.Causes.{AreCaused}
use Rattle.deny_base.specs.Purpose.{limit_for, purpose_number}
use Rattle.deny_base.specs.Unread.{asked, if_unread, is_unread, unread_cmp}
use Rattle.deny_base_unread.specs.View.{view_by, view_of}
use Rattle.deny_base.specs.declared.purpose.Purpose.TheVariants.{Manifest, Script, Header, Sum}
use Rattle.deny_base.specs.declared.purpose.Purpose.TheVariants as purpose
use Rattle.deny_base.specs.declared.unread.Unread.{Unread}

-- a crate by its id
abbrev app : Option Kid
app = Some record { 0 = codes "app" }

abbrev util : Option Kid
util = Some record { 0 = codes "util" }

abbrev manifest_path : List ℕ
manifest_path = codes "/w/Cargo.toml"

-- ---- the order

none_before_some : unread_cmp (asked None purpose.Sum (codes "/z")) (asked app Manifest (codes "/a")) ≡ Less
unfolding purpose_number
none_before_some = refl

crate_before_path : unread_cmp (asked util Manifest (codes "/a")) (asked app Manifest (codes "/z")) ≡ Greater
unfolding purpose_number
crate_before_path = refl

path_before_purpose : unread_cmp (asked app Sum (codes "/a")) (asked app Manifest (codes "/b")) ≡ Less
unfolding purpose_number
path_before_purpose = refl

script_before_list : unread_cmp (asked app Script (codes "/a")) (asked app purpose.List (codes "/a")) ≡ Less
unfolding purpose_number
script_before_list = refl

header_after_list : unread_cmp (asked app Header (codes "/a")) (asked app purpose.List (codes "/a")) ≡ Greater
unfolding purpose_number
header_after_list = refl

same_entry : unread_cmp (asked app Manifest (codes "/a")) (asked app Manifest (codes "/a")) ≡ Equal
unfolding purpose_number
same_entry = refl

-- ---- bounds

told_one_short : is_past (limit_for Manifest) (Some 268435455) 0 (2 ^ 40) ≡ false
told_one_short = refl

told_at_the_limit : is_past (limit_for Manifest) (Some 268435456) 0 0 ≡ true
told_at_the_limit = refl

script_one_short : is_past (limit_for Script) (Some 1099511627775) 0 0 ≡ false
script_one_short = refl

sum_at_the_limit : is_past (limit_for Sum) (Some 1099511627776) 0 0 ≡ true
sum_at_the_limit = refl

list_one_short : is_past (limit_for purpose.List) (Some 16777216) 0 0 ≡ false
list_one_short = refl

list_at_the_limit : is_past (limit_for purpose.List) (Some 16777217) 0 0 ≡ true
list_at_the_limit = refl

-- where files are not told, by the count
count_one_short : is_past (limit_for Manifest) None 7 (7 + 268435455) ≡ false
count_one_short = refl

count_at_the_limit : is_past (limit_for Manifest) None 7 (7 + 268435456) ≡ true
count_at_the_limit = refl

count_at_its_end : is_past (limit_for Sum) None (2 ^ 64 - 5) (2 ^ 64 - 1) ≡ true
count_at_its_end = refl

count_before_its_end : is_past (limit_for Sum) None (2 ^ 64 - 5) (2 ^ 64 - 2) ≡ false
count_before_its_end = refl

header_without_limit : is_past (limit_for Header) (Some (2 ^ 60)) 0 (2 ^ 60) ≡ false
header_without_limit = refl

on_an_untold_disk : is_bound (λ krate. []) (untold 0 0 0) (untold 1 100 100) (asked app Manifest manifest_path) ≡ false
unfolding is_bound
on_an_untold_disk = refl

-- of a list by the count of entries, whatever was read
list_by_entries : is_bound (λ krate. []) (untold 0 0 0) (untold 1 0 16777217) (asked app purpose.List manifest_path)
    ≡ true
unfolding is_bound
list_by_entries = refl

not_by_bytes : is_bound (λ krate. []) (untold 0 0 0) (untold 1 16777217 0) (asked app purpose.List manifest_path)
    ≡ false
unfolding is_bound
not_by_bytes = refl

-- one failed call is no cause of two entries
two_for_one : AreCaused (λ krate. []) (untold 0 0 0) (untold 1 0 0)
    (asked app Manifest manifest_path ∷ asked util Manifest manifest_path ∷ []) → ⊥
unfolding is_bound
two_for_one caused = let few : RoseBy 2 0 1 = caused.few in omega (arith, few)

two_for_two : RoseBy 2 0 2
two_for_two = omega arith

-- ---- entries and views

nothing_for_what_was_read : if_unread (asked app Manifest manifest_path) true ≡ []
nothing_for_what_was_read = refl

what_a_call_put : added {T = ℕ} (1 ∷ 2 ∷ []) (1 ∷ 2 ∷ 3 ∷ []) ≡ 3 ∷ []
what_a_call_put = refl

abbrev entries : List Unread
entries = asked app Manifest manifest_path ∷ asked util Header (codes "/u/run") ∷ []

not_read : (files : Files) → (view_of files entries app).text Manifest manifest_path ≡ None
unfolding view_of view_by is_unread purpose_number
not_read files = refl

-- one path, read for another purpose
read_for_another : (files : Files)
    → (view_of files entries app).text Header manifest_path ≡ Some (bytes_at files manifest_path)
unfolding view_of view_by is_unread purpose_number
read_for_another files = refl

-- the same path, read for another crate
read_of_another : (files : Files)
    → (view_of files entries util).text Manifest manifest_path ≡ Some (bytes_at files manifest_path)
unfolding view_of view_by is_unread purpose_number
read_of_another files = refl

read_of_none : (files : Files)
    → (view_of files entries None).text Manifest manifest_path ≡ Some (bytes_at files manifest_path)
unfolding view_of view_by is_unread purpose_number
read_of_none files = refl
