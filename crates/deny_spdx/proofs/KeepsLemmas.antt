-- The reader of an expression keeps to the grammar, and so does the reader of one requirement.
use Rattle.std.proofs.Common.{◌≡◌, ℕ, List, [], ◌∷◌, ◌++◌, length, Option, Some, None, Err, refl, sym, ap, subst}
use Rattle.std.proofs.Common.{append_assoc, append-nil, option_and_then}
use Rattle.deny_spdx.specs.declared.token.SpdxToken.{SpdxToken}
use Rattle.deny_spdx.specs.declared.token.SpdxToken.TheVariants.{Word, And, Or, With, Open, Close}
use Rattle.deny_spdx.specs.declared.requirement.Requirement.{Requirement}
use Rattle.deny_spdx.specs.declared.requirement_reader.RequirementReader.{RequirementReader}
use Rattle.deny_spdx.specs.declared.requirement_reader.RequirementReader.TheVariants.{Start, Named, Excepted, Whole}
use Rattle.deny_spdx.specs.Grammar.{IsRequirement, plain, excepted, IsExpression}
use Rattle.deny_spdx.specs.declared.expression.Expression.{Expression}
use Rattle.deny_spdx.specs.declared.reader.Reader.{Reader}
use Rattle.deny_spdx.specs.declared.error.SpdxError.{SpdxError}
use Rattle.deny_spdx.specs.Bad.{Begin, Spells, IsBadAt}
use Rattle.deny_spdx.specs.private.Bad.{IsAnswer}
use Rattle.deny_spdx.specs.private.Reading.{IsRead, Stops}
use Rattle.deny_spdx.specs.Reader.{step, start, settled, whole}
use Rattle.deny_spdx.specs.private.Reader.{run_by}
use Rattle.deny_spdx.specs.private.RequirementReader.{requirement_step, behind_word, behind_with, whole_requirement}
use Rattle.deny_spdx.proofs.RunLemmas.{reads}
use Rattle.deny_spdx.proofs.AfterLemmas.{whole_after, begin_after}
use Rattle.deny_spdx.proofs.StepsLemmas.{LeadsTo}
use Rattle.deny_spdx.proofs.AnswerLemmas.{KeepsTo, is_clear, spells, ends_bad, stops_answer}
use Rattle.deny_spdx.proofs.BadLemmas.{IsClear}

pub expression_keeps : KeepsTo IsExpression step start (λ s. whole (settled s))
expression_keeps = record {
  reads = reads;
  spelled = whole_after;
  begins = begin_after;
}

leads_to_requirement : (tokens : List SpdxToken) (r : Requirement) → IsRequirement tokens r
    → LeadsTo requirement_step Start whole_requirement tokens r
leads_to_requirement tokens r (plain id) = record { to = Named id; runs = refl; is = refl }
leads_to_requirement tokens r (excepted id x) = record { to = Whole r; runs = refl; is = refl }

-- the tokens that the reader of a requirement has read
abbrev ComesBehind : List SpdxToken → RequirementReader → Type 0
ComesBehind tokens Start = tokens ≡ []
ComesBehind tokens (Named id) = tokens ≡ Word id ∷ []
ComesBehind tokens (Excepted id) = tokens ≡ Word id ∷ With ∷ []
ComesBehind tokens (Whole r) = IsRequirement tokens r

behind_as : (tokens : List SpdxToken) (s s' : RequirementReader) → Some s ≡ Some s' → ComesBehind tokens s
    → ComesBehind tokens s'
behind_as tokens s s' e d = let same : s ≡ s' = cc in let P : RequirementReader → Type 0 = λ x. ComesBehind tokens x in
    subst P same d

word_behind : (tokens : List SpdxToken) (s s' : RequirementReader) (w : List ℕ) → ComesBehind tokens s
    → behind_word s w ≡ Some s' → ComesBehind (tokens ++ Word w ∷ []) s'
word_behind tokens Start s' w d e = behind_as _ (Named w) s' e (ap (λ x. x ++ Word w ∷ []) d)
word_behind tokens (Named id) s' w d e = cc
word_behind tokens (Excepted id) s' w d e =
    let P : List SpdxToken → Type 0 = λ x. IsRequirement x (record { id = id; exception = Some w }) in
    behind_as _ (Whole (record { id = id; exception = Some w })) s' e
    (subst P (sym (ap (λ x. x ++ Word w ∷ []) d)) (excepted id w))
word_behind tokens (Whole r) s' w d e = cc

with_behind : (tokens : List SpdxToken) (s s' : RequirementReader) → ComesBehind tokens s → behind_with s ≡ Some s'
    → ComesBehind (tokens ++ With ∷ []) s'
with_behind tokens Start s' d e = cc
with_behind tokens (Named id) s' d e = behind_as _ (Excepted id) s' e (ap (λ x. x ++ With ∷ []) d)
with_behind tokens (Excepted id) s' d e = cc
with_behind tokens (Whole r) s' d e = cc

step_behind : (tokens : List SpdxToken) (t : SpdxToken) (s s' : RequirementReader) → ComesBehind tokens s
    → requirement_step s t ≡ Some s' → ComesBehind (tokens ++ t ∷ []) s'
step_behind tokens (Word w) s s' d e = word_behind tokens s s' w d e
step_behind tokens And s s' d e = cc
step_behind tokens Or s s' d e = cc
step_behind tokens With s s' d e = with_behind tokens s s' d e
step_behind tokens Open s s' d e = cc
step_behind tokens Close s s' d e = cc

behind_more : (tokens more : List SpdxToken) (t : SpdxToken) (s s' : RequirementReader)
    → ((x : RequirementReader) → ComesBehind (tokens ++ t ∷ []) x → run_by requirement_step x more ≡ Some s'
    → ComesBehind ((tokens ++ t ∷ []) ++ more) s') → ComesBehind tokens s → (o : Option RequirementReader)
    → requirement_step s t ≡ o → option_and_then (λ x. run_by requirement_step x more) o ≡ Some s'
    → ComesBehind (tokens ++ t ∷ more) s'
behind_more tokens more t s s' on d None which e = cc
behind_more tokens more t s s' on d (Some x) which e = let P : List SpdxToken → Type 0 = λ a. ComesBehind a s' in
    subst P (append_assoc tokens (t ∷ []) more) (on x (step_behind tokens t s x d which) e)

run_behind : (tokens more : List SpdxToken) (s s' : RequirementReader) → ComesBehind tokens s
    → run_by requirement_step s more ≡ Some s' → ComesBehind (tokens ++ more) s'
run_behind tokens [] s s' d e = let P : List SpdxToken → Type 0 = λ a. ComesBehind a s' in
    subst P (sym (append-nil tokens)) (behind_as tokens s s' e d)
run_behind tokens (t ∷ more) s s' d e = behind_more tokens more t s s' (λ x. run_behind (tokens ++ t ∷ []) more x s') d
    (requirement_step s t) refl e

requirement_of : (tokens : List SpdxToken) (s : RequirementReader) (r : Requirement) → ComesBehind tokens s
    → whole_requirement s ≡ Some r → IsRequirement tokens r
requirement_of tokens Start r d e = cc
requirement_of tokens (Named id) r d e =
    let P : List SpdxToken → Type 0 = λ x. IsRequirement x r in
    let Q : Requirement → Type 0 = λ x. IsRequirement (Word id ∷ []) x in
    let q : Requirement = record { id = id; exception = None } in
    let same : q ≡ r = cc in
    subst P (sym d) (subst Q same (plain id))
requirement_of tokens (Excepted id) r d e = cc
requirement_of tokens (Whole q) r d e = let Q : Requirement → Type 0 = λ x. IsRequirement tokens x in
    let same : q ≡ r = cc in subst Q same d

begun_as : (tokens tokens' : List SpdxToken) → tokens ≡ tokens' → Begin IsRequirement tokens'
    → Begin IsRequirement tokens
begun_as tokens tokens' e b = let P : List SpdxToken → Type 0 = λ x. Begin IsRequirement x in subst P (sym e) b

begun : (tokens : List SpdxToken) (s : RequirementReader) → ComesBehind tokens s → Begin IsRequirement tokens
begun tokens Start d = begun_as tokens [] d (Word [] ∷ [], (_, plain []))
begun tokens (Named id) d = begun_as tokens (Word id ∷ []) d ([], (_, plain id))
begun tokens (Excepted id) d = begun_as tokens (Word id ∷ With ∷ []) d (Word [] ∷ [], (_, excepted id []))
begun tokens (Whole r) d = let P : List SpdxToken → Type 0 = λ x. IsRequirement x r in
    ([], (r, subst P (sym (append-nil tokens)) d))

pub requirement_keeps : KeepsTo IsRequirement requirement_step Start whole_requirement
requirement_keeps = record {
  reads = leads_to_requirement;
  spelled = λ tokens s r led is. requirement_of tokens s r (run_behind [] tokens Start s refl led) is;
  begins = λ tokens s led. begun tokens s (run_behind [] tokens Start s refl led);
}

pub expression_stops : (from : Reader) (text : List ℕ) (e : SpdxError) → from ≡ start → Stops step from text e
    → IsAnswer IsExpression text (Err e)
expression_stops from text e same d = let P : Reader → Type 0 = λ x. Stops step x text e in
    stops_answer IsExpression step start (λ s. whole (settled s)) expression_keeps text e (subst P same d)

pub expression_found : (from last : Reader) (text : List ℕ) (found : Option Expression) (e : Expression) → from ≡ start
    → IsRead step from text last → found ≡ whole (settled last) → found ≡ Some e → Spells IsExpression text e
expression_found from last text found e same d f g = let P : Reader → Type 0 = λ x. IsRead step x text last in
    spells IsExpression step start (λ s. whole (settled s)) expression_keeps text last found e (subst P same d) f g

pub expression_ends : (from last : Reader) (text : List ℕ) (found : Option Expression) → from ≡ start
    → IsRead step from text last → found ≡ whole (settled last) → found ≡ None → IsBadAt IsExpression text (length text)
expression_ends from last text found same d f g = let P : Reader → Type 0 = λ x. IsRead step x text last in
    ends_bad IsExpression step start (λ s. whole (settled s)) expression_keeps text last found (subst P same d) f g

pub expression_clear : IsClear IsExpression
expression_clear = is_clear IsExpression step start (λ s. whole (settled s)) expression_keeps

pub requirement_clear : IsClear IsRequirement
requirement_clear = is_clear IsRequirement requirement_step Start whole_requirement requirement_keeps
