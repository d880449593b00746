-- The item at a place of a list, and the shared entry there.
use Rattle.std.proofs.Common.{◌≡◌, ◌∙◌, ◌+◌, [], ◌∷◌, ℕ, List, Option, None, Some, ap, arith, get_or, length, refl, suc}
use Rattle.std.proofs.Common.{sym, zero}
use Rattle.std.specs.Borrow.{Bor}
use Rattle.std.specs.Prelude.{IfSome, is_some, nat_lt, option_copied, option_map, slice_get}
use Rattle.std.specs.Option.{option_flatten}
use Rattle.std.proofs.lemmas.Bool.{ltb-false, ltb-true}
use Rattle.std.proofs.lemmas.Option.{slice_get_past, slice_get_read}
use Rattle.deny_spans.specs.SpansView.{shared_from}
use Rattle.deny_spans_workspace.specs.Workspace.{span_at, span_view}
use Rattle.deny_spans_workspace.specs.declared.workspace.WorkspaceSpan.{WorkspaceSpan}

pub got_at : {X : Type 0} (xs ys : List X) (n : ℕ) (r : Option (Bor X)) → is_some r ≡ nat_lt n (length xs)
    → IfSome r (λ x. x.now ≡ get_or xs n x.now) → xs ≡ ys → slice_get ys n ≡ option_copied r
got_at {X} xs ys n None is at same =
    ap (λ (zs : List X). slice_get zs n) (sym same) ∙ slice_get_past xs n (ltb-false n (length xs) (sym is))
got_at {X} xs ys n (Some x) is at same =
    ap (λ (zs : List X). slice_get zs n) (sym same)
    ∙ slice_get_read xs (length xs) n x.now refl (ltb-true n (length xs) (sym is)) at

pub copied_map : {X Y : Type 0} (f : X → Y) (r : Option (Bor X))
    → option_map (λ x. f x.now) r ≡ option_map f (option_copied r)
copied_map f None = refl
copied_map f (Some x) = refl

pub copied_some : {X : Type 0} (P : X → Type 0) (r : Option (Bor X)) → IfSome (option_copied r) P
    → IfSome r (λ x. P x.now)
copied_some P None is = tt
copied_some P (Some x) is = is

pub length-shared : (place : ℕ) (ss : List (Option WorkspaceSpan)) → length (shared_from place ss) ≡ length ss
length-shared place [] = refl
length-shared place (s ∷ ss) = ap suc (length-shared (place + 1) ss)

pub shared_from-at : (place : ℕ) (ss : List (Option WorkspaceSpan)) (k : ℕ)
    → slice_get (shared_from place ss) k ≡ option_map (option_map (span_view (place + k))) (slice_get ss k)
shared_from-at place [] k = refl
shared_from-at place (s ∷ ss) zero =
    let none : place + 0 ≡ place = omega arith in
    ap (λ (n : ℕ). Some (option_map (span_view n) s)) (sym none)
shared_from-at place (s ∷ ss) (suc k) =
    let moved : (place + 1) + k ≡ place + suc k = omega arith in
    shared_from-at (place + 1) ss k ∙ ap (λ (n : ℕ). option_map (option_map (span_view n)) (slice_get ss k)) moved

flatten_map : {X Y : Type 0} (f : X → Y) (o : Option (Option X))
    → option_flatten (option_map (option_map f) o) ≡ option_map f (option_flatten o)
flatten_map f None = refl
flatten_map f (Some o) = refl

-- the shared entry at a place, as contracts see it
pub shared_got : (ss : List (Option WorkspaceSpan)) (place : ℕ)
    → option_flatten (slice_get (shared_from 0 ss) place) ≡ option_map (span_view place) (span_at ss place)
shared_got ss place =
    let zero_on : 0 + place ≡ place = omega arith in
    ap option_flatten (shared_from-at 0 ss place
    ∙ ap (λ (n : ℕ). option_map (option_map (span_view n)) (slice_get ss place)) zero_on)
    ∙ flatten_map (span_view place) (slice_get ss place)
