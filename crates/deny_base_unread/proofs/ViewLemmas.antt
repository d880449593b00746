-- Entries for other purposes change nothing of what was not read, and a view has what no entry is for.
use Rattle.std.proofs.Common.{◌≡◌, ◌∙◌, ◌||◌, ℕ, true, false, List, ◌++◌, Option, None, Some, refl, sym, ap, subst}
use Rattle.std.specs.Prelude.{Contains}
use Rattle.std.specs.Cmp.{Equal-is, eq_by_cmp_equiv}
use Rattle.std.specs.Ordering.{eq_by_cmp}
use Rattle.std.proofs.lemmas.Bool.{false_from_ne_true}
use Rattle.std.proofs.lemmas.List.Folds.{list_any-append}
use Rattle.deny_base_lists.proofs.Members.{any_from, any_passes}
use Rattle.deny_base_lists.proofs.Booleans.{or-false}
use Rattle.deny_base_disk.specs.Children.{children}
use Rattle.deny_base_disk.specs.Disk.{Files, bytes_at}
use Rattle.deny_base.specs.declared.span.Kid.{Kid}
use Rattle.deny_base.proofs.UnreadEqual.{unread_cmp-exact, unread_cmp-total}
use Rattle.deny_base.specs.Unread.{asked, is_unread, unread_cmp}
use Rattle.deny_base_unread.specs.View.{unless, view_by, view_of}
use Rattle.deny_base.specs.declared.purpose.Purpose.{Purpose}
use Rattle.deny_base.specs.declared.purpose.Purpose.TheVariants as purposes
use Rattle.deny_base.specs.declared.unread.Unread.{Unread}

-- ---- the test is membership

pub holds_there : (us : List Unread) (krate : Option Kid) (purpose : Purpose) (path : List ℕ)
    → is_unread us krate purpose path ≡ true → Contains us (asked krate purpose path)
unfolding is_unread
holds_there us krate purpose path is =
    let entry : Unread = asked krate purpose path in
    let found = any_passes (λ u. eq_by_cmp unread_cmp entry u) us is in
    subst (λ (u : Unread). Contains us u)
    (sym (unread_cmp-exact entry found.one ((Equal-is (unread_cmp entry found.one)).0 found.passes))) found.member

pub is_left_out : (us : List Unread) (krate : Option Kid) (purpose : Purpose) (path : List ℕ)
    → Contains us (asked krate purpose path) → is_unread us krate purpose path ≡ true
unfolding is_unread
is_left_out us krate purpose path there =
    let entry : Unread = asked krate purpose path in
    any_from (λ u. eq_by_cmp unread_cmp entry u) us entry there ((eq_by_cmp_equiv unread_cmp-total).refl entry)

not_left_out : (us : List Unread) (krate : Option Kid) (purpose : Purpose) (path : List ℕ)
    → (Contains us (asked krate purpose path) → ⊥) → is_unread us krate purpose path ≡ false
not_left_out us krate purpose path absent =
    false_from_ne_true (is_unread us krate purpose path) (λ is. absent (holds_there us krate purpose path is))

-- ---- entries before and after others

is_unread-append : (us vs : List Unread) (krate : Option Kid) (purpose : Purpose) (path : List ℕ)
    → is_unread (us ++ vs) krate purpose path ≡ (is_unread us krate purpose path || is_unread vs krate purpose path)
unfolding is_unread
is_unread-append us vs krate purpose path =
    list_any-append (λ u. eq_by_cmp unread_cmp (asked krate purpose path) u) us vs

-- later entries for something else change nothing
absent_behind : (us vs : List Unread) (krate : Option Kid) (purpose : Purpose) (path : List ℕ)
    → (Contains vs (asked krate purpose path) → ⊥)
    → is_unread (us ++ vs) krate purpose path ≡ is_unread us krate purpose path
absent_behind us vs krate purpose path absent =
    is_unread-append us vs krate purpose path
    ∙ (ap (λ b. is_unread us krate purpose path || b) (not_left_out vs krate purpose path absent)
    ∙ or-false (is_unread us krate purpose path))

-- earlier entries for something else change nothing
absent_before : (us vs : List Unread) (krate : Option Kid) (purpose : Purpose) (path : List ℕ)
    → (Contains us (asked krate purpose path) → ⊥)
    → is_unread (us ++ vs) krate purpose path ≡ is_unread vs krate purpose path
absent_before us vs krate purpose path absent =
    is_unread-append us vs krate purpose path
    ∙ ap (λ b. b || is_unread vs krate purpose path) (not_left_out us krate purpose path absent)

-- ---- entries for other purposes

-- no entry is for this purpose
abbrev pub AreForOthers : Purpose → List Unread → Type 0
AreForOthers purpose us = (u : Unread) → Contains us u → u.purpose ≡ purpose → ⊥

pub unread_behind : (us vs : List Unread) (krate : Option Kid) (purpose : Purpose) (path : List ℕ)
    → AreForOthers purpose vs → is_unread (us ++ vs) krate purpose path ≡ is_unread us krate purpose path
unread_behind us vs krate purpose path others =
    absent_behind us vs krate purpose path (λ there. others (asked krate purpose path) there refl)

pub unread_last : (us vs : List Unread) (krate : Option Kid) (purpose : Purpose) (path : List ℕ)
    → AreForOthers purpose us → is_unread (us ++ vs) krate purpose path ≡ is_unread vs krate purpose path
unread_last us vs krate purpose path others =
    absent_before us vs krate purpose path (λ there. others (asked krate purpose path) there refl)

-- ---- the view of one crate

-- ---- the texts of a view

-- a text is none exactly where its entry stands
pub text_unread : (files : Files) (us : List Unread) (krate : Option Kid) (purpose : Purpose) (path : List ℕ)
    → Contains us (asked krate purpose path) → (view_of files us krate).text purpose path ≡ None
unfolding view_of view_by
text_unread files us krate purpose path there =
    ap (λ b. unless b (bytes_at files path)) (is_left_out us krate purpose path there)

pub text_read : (files : Files) (us : List Unread) (krate : Option Kid) (purpose : Purpose) (path : List ℕ)
    → (Contains us (asked krate purpose path) → ⊥)
    → (view_of files us krate).text purpose path ≡ Some (bytes_at files path)
unfolding view_of view_by
text_read files us krate purpose path absent =
    ap (λ b. unless b (bytes_at files path)) (not_left_out us krate purpose path absent)

-- ---- the lists of a view

-- a folder has no list exactly where its entry stands
pub list_unread : (files : Files) (us : List Unread) (krate : Option Kid) (path : List ℕ)
    → Contains us (asked krate purposes.List path) → (view_of files us krate).list path ≡ None
unfolding view_of view_by
list_unread files us krate path there =
    ap (λ b. unless b (children files path)) (is_left_out us krate purposes.List path there)

pub list_read : (files : Files) (us : List Unread) (krate : Option Kid) (path : List ℕ)
    → (Contains us (asked krate purposes.List path) → ⊥)
    → (view_of files us krate).list path ≡ Some (children files path)
unfolding view_of view_by
list_read files us krate path absent =
    ap (λ b. unless b (children files path)) (not_left_out us krate purposes.List path absent)
