-- Options: their values, tests of them, and what mapping and choosing keep.
use Rattle.std.proofs.Common.{◌≡◌, false, is_some, Option, refl, Bool, true, option_map, not, Bor}
use Rattle.std.specs.Prelude.{Some, None, is_none}
use Rattle.std.specs.Option.{option_map_or, option_copied, option_or}

-- equal options that have values have equal values
pub some_inj : {A : Type 0} {x y : A} → Some x ≡ Some y → x ≡ y
some_inj e = cc

pub none_is_no_some : {A P : Type 0} {x : A} → None ≡ Some x → P
none_is_no_some h = cc

pub none_from_is_some : {V : Type 0} (o : Option V) → is_some o ≡ false → o ≡ None
none_from_is_some None e = refl
none_from_is_some (Some v) e = (cc)

-- an option that passes a test has a value
pub some_from_passes : {E : Type 0} (p : E → Bool) (o : Option E) → option_map_or p o false ≡ true
    → (e : E) × (o ≡ Some e) × (p e ≡ true)
some_from_passes p None is = absurd (cc is)
some_from_passes p (Some e) is = (e, refl, is)

pub is_some-option_map : {X Y : Type 0} (v : X → Y) (o : Option X) → is_some (option_map v o) ≡ is_some o
is_some-option_map v None = refl
is_some-option_map v (Some x) = refl

pub is_none-option_map : {X Y : Type 0} (f : X → Y) (o : Option X) → is_none (option_map f o) ≡ not (is_some o)
is_none-option_map f None = refl
is_none-option_map f (Some x) = refl

-- the value behind an optional reference
pub option_map-now : {X Y : Type 0} (v : X → Y) (r : Option (Bor X))
    → option_map (λ (x : Bor X). v x.now) r ≡ option_map v (option_copied r)
option_map-now v None = refl
option_map-now v (Some x) = refl

pub option_or-none : {X : Type 0} (o : Option X) → o ≡ option_or o None
option_or-none None = refl
option_or-none (Some x) = refl
