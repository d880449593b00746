-- Results: facts of values and of errors, and their equivalents.
use Rattle.std.specs.Prelude.{◌≡◌, Result, Ok, Err, OnErr}
use Rattle.std.proofs.Common.{OnOk, IfOk}

-- equal results with values have equal values
pub ok_inj : {T E : Type 0} {x y : T} → ◌≡◌ {A = Result T E} (Ok x) (Ok y) → x ≡ y
ok_inj e = cc

pub err_is_no_ok : {T E P : Type 0} {e : E} {x : T} → Err e ≡ Ok x → P
err_is_no_ok h = absurd (cc)

pub on_err_always : {T X P : Type 0} (r : Result T X) → P → OnErr r P
on_err_always (Ok x) h = tt
on_err_always (Err e) h = h

-- a fact of a result replaced by one that follows from it
pub on_ok_then : {T E P Q : Type 0} (r : Result T E) → OnOk r P → (P → Q) → OnOk r Q
on_ok_then (Ok x) is then = then is
on_ok_then (Err e) is then = tt

pub on_err_then : {T E P Q : Type 0} (r : Result T E) → OnErr r P → (P → Q) → OnErr r Q
on_err_then (Ok x) is then = tt
on_err_then (Err e) is then = then is

pub if_ok_then : {T E : Type 0} {P Q : T → Type 0} (r : Result T E) → IfOk r P → ((x : T) → P x → Q x) → IfOk r Q
if_ok_then (Ok x) is then = then x is
if_ok_then (Err e) is then = tt

-- two facts of a result replaced by one that follows from both
pub if_ok_both : {T E : Type 0} {P Q R : T → Type 0} (r : Result T E) → IfOk r P → IfOk r Q
    → ((x : T) → P x → Q x → R x) → IfOk r R
if_ok_both (Ok x) is too then = then x is too
if_ok_both (Err e) is too then = tt
