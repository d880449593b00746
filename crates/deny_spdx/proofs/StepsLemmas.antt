-- The steps of a reader along tokens.
use Rattle.std.proofs.Common.{◌≡◌, List, [], ◌∷◌, ◌++◌, Option, Some, None, ap, ◌∙◌, append_assoc, option_and_then}
use Rattle.deny_spdx.specs.declared.token.SpdxToken.{SpdxToken}
use Rattle.deny_spdx.specs.private.Reader.{run_by}

-- the tokens after the first ones are read from where those led
pub run_by-append : {R : Type 0} (step : R → SpdxToken → Option R) (s r : R) (tokens more : List SpdxToken)
    → run_by step s tokens ≡ Some r → run_by step s (tokens ++ more) ≡ run_by step r more
run_by-append step s r [] more e = cc
run_by-append {R} step s r (t ∷ tokens) more e = on_at (λ x. run_by-append step x r tokens more) (step s t) e
  where
    on_at : ((x : R) → run_by step x tokens ≡ Some r → run_by step x (tokens ++ more) ≡ run_by step r more)
        → (o : Option R) → option_and_then (λ after. run_by step after tokens) o ≡ Some r
        → option_and_then (λ after. run_by step after (tokens ++ more)) o ≡ run_by step r more
    on_at on None e = cc
    on_at on (Some x) e = on x e

-- a token that may not come ends the run
pub run_by-stuck : {R : Type 0} (step : R → SpdxToken → Option R) (s r : R) (tokens more : List SpdxToken)
    (t : SpdxToken)
    → run_by step s tokens ≡ Some r → step r t ≡ None → run_by step s ((tokens ++ t ∷ []) ++ more) ≡ None
run_by-stuck step s r tokens more t e stuck = ap (run_by step s) (append_assoc tokens (t ∷ []) more)
    ∙ (run_by-append step s r tokens (t ∷ more) e ∙ ap (option_and_then (λ after. run_by step after more)) stuck)

-- The tokens lead to a reader that has read x.
pub record LeadsTo {R A : Type 0} (step : R → SpdxToken → Option R) (start : R) (whole : R → Option A)
    (tokens : List SpdxToken) (x : A) : Type 0 where
  pub to : R
  pub runs : run_by step start tokens ≡ Some to
  pub is : whole to ≡ Some x
