-- A reader that keeps to a grammar returns what the grammar says.
use Rattle.std.proofs.Common.{◌≡◌, ℕ, List, [], ◌∷◌, ◌++◌, length, Option, Some, None, Err, sym, ◌∙◌, ap}
use Rattle.std.proofs.Common.{arith}
use Rattle.deny_spdx.specs.declared.error.SpdxError.{SpdxError}
use Rattle.deny_spdx.specs.declared.error.SpdxError.TheVariants.{Bad, Memory}
use Rattle.deny_spdx.specs.declared.token.SpdxToken.{SpdxToken}
use Rattle.deny_spdx.specs.private.Reader.{run_by}
use Rattle.deny_spdx.specs.Bad.{Spells, AreWhole, Begin, GoesWrong, ends, no_token, token, IsBadAt}
use Rattle.deny_spdx.specs.private.Bad.{IsAnswer}
use Rattle.deny_spdx.specs.private.Reading as reading
use Rattle.deny_spdx.specs.private.Reading.{IsRead, IsStuck, StopsAt, Stops, NoBlankFirst}
use Rattle.deny_spdx.proofs.StepsLemmas.{LeadsTo, run_by-stuck}
use Rattle.deny_spdx.proofs.BadLemmas.{IsClear}

-- The reader reads exactly what S spells.
pub record KeepsTo {R A : Type 0} (S : List SpdxToken → A → Type 0) (step : R → SpdxToken → Option R) (start : R)
    (whole : R → Option A) : Type 0 where
  pub reads : (tokens : List SpdxToken) (x : A) → S tokens x → LeadsTo step start whole tokens x
  pub spelled : (tokens : List SpdxToken) (r : R) (x : A) → run_by step start tokens ≡ Some r → whole r ≡ Some x
      → S tokens x
  pub begins : (tokens : List SpdxToken) (r : R) → run_by step start tokens ≡ Some r → Begin S tokens

pub is_clear : {R A : Type 0} (S : List SpdxToken → A → Type 0) (step : R → SpdxToken → Option R) (start : R) (whole : R
    → Option A) → KeepsTo S step start whole → IsClear S
is_clear {R} {A} S step start whole k tokens x y d e =
    let first = k.reads tokens x d in
    let second = k.reads tokens y e in
    let to_same : Some first.to ≡ Some second.to = sym first.runs ∙ second.runs in
    let same : first.to ≡ second.to = cc in
    let found : Some x ≡ Some y = sym first.is ∙ (ap whole same ∙ second.is) in
    cc

pub spells : {R A : Type 0} (S : List SpdxToken → A → Type 0) (step : R → SpdxToken → Option R) (start : R) (whole : R
    → Option A) → KeepsTo S step start whole → (text : List ℕ) (last : R) (found : Option A) (x : A)
    → IsRead step start text last → found ≡ whole last → found ≡ Some x → Spells S text x
spells S step start whole k text last found x d e f = record
    { tokens = d.tokens; all = d.all; spelled = k.spelled d.tokens last x d.runs (sym e ∙ f) }

not_whole : {R A : Type 0} (S : List SpdxToken → A → Type 0) (step : R → SpdxToken → Option R) (start : R) (whole : R
    → Option A) → KeepsTo S step start whole → (tokens : List SpdxToken) (last : R) → run_by step start tokens ≡ Some
    last
    → whole last ≡ None → AreWhole S tokens → ⊥
not_whole S step start whole k tokens last runs nothing w =
    let lead = k.reads tokens w.0 w.1 in
    let to_same : Some lead.to ≡ Some last = sym lead.runs ∙ runs in
    let same : lead.to ≡ last = cc in
    let found : Some w.0 ≡ None = sym lead.is ∙ (ap whole same ∙ nothing) in
    cc

-- the text ends too early
pub ends_bad : {R A : Type 0} (S : List SpdxToken → A → Type 0) (step : R → SpdxToken → Option R) (start : R) (whole : R
    → Option A) → KeepsTo S step start whole → (text : List ℕ) (last : R) (found : Option A)
    → IsRead step start text last → found ≡ whole last → found ≡ None → IsBadAt S text (length text)
ends_bad S step start whole k text last found d e f = record {
  tokens = d.tokens;
  rest = [];
  before = d.all;
  begins = k.begins d.tokens last d.runs;
  wrong = ends (not_whole S step start whole k d.tokens last d.runs (sym e ∙ f));
  at = omega arith;
}

wrong_at : {R A : Type 0} (S : List SpdxToken → A → Type 0) (step : R → SpdxToken → Option R) (start : R)
    (whole : R → Option A)
    → KeepsTo S step start whole → (tokens : List SpdxToken) (last : R) (rest : List ℕ)
    → run_by step start tokens ≡ Some last → NoBlankFirst rest → IsStuck step last rest → GoesWrong S tokens rest
wrong_at S step start whole k tokens last rest runs plain (reading.no_token b other) = no_token b plain other
wrong_at {A = A} S step start whole k tokens last rest runs plain (reading.token t begins stuck) = token t begins
    refuses
  where
    refuses : Begin S (tokens ++ t ∷ []) → ⊥
    refuses b =
        let lead = k.reads _ b.1.0 b.1.1 in
        let nowhere : Some lead.to ≡ None = sym lead.runs ∙ run_by-stuck step start last tokens b.0 t runs stuck in
        cc

-- a byte or a token may not come at an offset
pub stops_bad : {R A : Type 0} (S : List SpdxToken → A → Type 0) (step : R → SpdxToken → Option R) (start : R)
    (whole : R
    → Option A) → KeepsTo S step start whole → (text : List ℕ) (offset : ℕ) → StopsAt step start text offset
    → IsBadAt S text offset
stops_bad S step start whole k text offset d = record {
  tokens = d.to.tokens;
  rest = d.rest;
  before = d.to.before;
  begins = k.begins d.to.tokens d.last d.to.runs;
  wrong = wrong_at S step start whole k d.to.tokens d.last d.rest d.to.runs d.to.plain d.stuck;
  at = d.at;
}

pub stops_answer : {R A : Type 0} (S : List SpdxToken → A → Type 0) (step : R → SpdxToken → Option R) (start : R)
    (whole : R
    → Option A) → KeepsTo S step start whole → (text : List ℕ) (e : SpdxError) → Stops step start text e
    → IsAnswer S text (Err e)
stops_answer S step start whole k text (Bad offset) d = stops_bad S step start whole k text offset d
stops_answer S step start whole k text Memory d = tt
