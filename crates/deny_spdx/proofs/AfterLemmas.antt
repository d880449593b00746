-- The tokens that a reader has read, and how they can continue.
use Rattle.std.proofs.Common.{◌≡◌, ℕ, suc, ◌+◌, ◌-◌, ◌<◌, Bool, true, false, cond, List, [], ◌∷◌, ◌++◌, length, Option}
use Rattle.std.proofs.Common.{Some, None, refl, sym, ◌∙◌, ap, subst, append_assoc, append-nil, length-append, arith}
use Rattle.std.proofs.Common.{nat_lt, option_and_then}
use Rattle.std.proofs.lemmas.Bool.{ltb-true}
use Rattle.deny_spdx.specs.declared.token.SpdxToken.{SpdxToken}
use Rattle.deny_spdx.specs.declared.token.SpdxToken.TheVariants.{Word, And, Or, With, Open, Close}
use Rattle.deny_spdx.specs.declared.requirement.Requirement.{Requirement}
use Rattle.deny_spdx.specs.declared.expression.Expression.{Expression}
use Rattle.deny_spdx.specs.declared.expression.Tree.{Tree}
use Rattle.deny_spdx.specs.declared.expression.Tree.TheVariants as tree
use Rattle.deny_spdx.specs.declared.level.ParenLevel.{ParenLevel}
use Rattle.deny_spdx.specs.declared.reader.Phase.{Phase}
use Rattle.deny_spdx.specs.declared.reader.Phase.TheVariants.{Operand, Named, Excepted, Operator}
use Rattle.deny_spdx.specs.declared.reader.Reader.{Reader}
use Rattle.deny_spdx.specs.Grammar.{any_of, IsRequirement, plain, excepted, IsUnit, requirement, group, IsAnd, unit}
use Rattle.deny_spdx.specs.Grammar.{and, IsOr, alternative, or, IsExpression}
use Rattle.deny_spdx.specs.Reader.{empty_level, start, with_part, all_alternatives, with_requirement, settled}
use Rattle.deny_spdx.specs.Reader.{settled_at, with_phase, word_step, word_step_at, with_step, with_step_at, open_step}
use Rattle.deny_spdx.specs.Reader.{open_step_at, opened, and_step, or_step, next_alternative, close_step, closed}
use Rattle.deny_spdx.specs.Reader.{closed_to, split_last, step, whole, whole_at, expression_of, if_operator}
use Rattle.deny_spdx.specs.private.Reader.{run}
use Rattle.deny_spdx.specs.Reader.{if_closed}
use Rattle.deny_spdx.specs.Bad.{AreWhole, Begin}
use Rattle.deny_spdx.proofs.RunLemmas.{reader, level, split_last-snoc}

-- the tokens of a level that ends with a part
data IsHolding : ℕ → ℕ → List SpdxToken → List Requirement → ParenLevel → Type 0 where
  alone : {nesting before : ℕ} {tokens : List SpdxToken} {rs : List Requirement} (parts : List Tree)
      → IsAnd nesting before tokens rs parts
      → IsHolding nesting before tokens rs (record { alternatives = []; parts = parts })
  behind : {nesting before : ℕ} (tokens more : List SpdxToken) (rs ss : List Requirement)
      (alternatives parts : List Tree)
      → IsOr nesting before tokens rs alternatives → IsAnd nesting (before + length rs) more ss parts
      → IsHolding nesting before (tokens ++ Or ∷ more) (rs ++ ss)
      (record { alternatives = alternatives; parts = parts })

-- the tokens of a level at its start, or after AND or OR
data IsWanting : ℕ → ℕ → List SpdxToken → List Requirement → ParenLevel → Type 0 where
  begin : {nesting before : ℕ} → IsWanting nesting before [] [] (record { alternatives = []; parts = [] })
  behind_or : {nesting before : ℕ} (tokens : List SpdxToken) {rs : List Requirement} (alternatives : List Tree)
      → IsOr nesting before tokens rs alternatives
      → IsWanting nesting before (tokens ++ Or ∷ []) rs (record { alternatives = alternatives; parts = [] })
  behind_and : {nesting before : ℕ} (tokens : List SpdxToken) {rs : List Requirement} {l : ParenLevel}
      → IsHolding nesting before tokens rs l → IsWanting nesting before (tokens ++ And ∷ []) rs l

holding_as : {nesting before : ℕ} (tokens tokens' : List SpdxToken) (rs rs' : List Requirement) (l : ParenLevel)
    → tokens ≡ tokens' → rs ≡ rs' → IsHolding nesting before tokens rs l → IsHolding nesting before tokens' rs' l
holding_as {nesting} {before} tokens tokens' rs rs' l e f h =
    let P : List SpdxToken → Type 0 = λ t. IsHolding nesting before t rs' l in
    let Q : List Requirement → Type 0 = λ r. IsHolding nesting before tokens r l in
    subst P e (subst Q f h)

unit_at : {nesting : ℕ} (before before' : ℕ) {tokens : List SpdxToken} {rs : List Requirement} {t : Tree}
    → before ≡ before'
    → IsUnit nesting before tokens rs t → IsUnit nesting before' tokens rs t
unit_at {nesting} before before' {tokens} {rs} {t} e d = let P : ℕ → Type 0 = λ n. IsUnit nesting n tokens rs t in
    subst P e d

add_length : (n : ℕ) (rs ss : List Requirement) → n + length (rs ++ ss) ≡ (n + length rs) + length ss
add_length n rs ss = simp length-append (omega arith)

held_with : {nesting before : ℕ} {tokens : List SpdxToken} {rs : List Requirement} {l : ParenLevel}
    (more : List SpdxToken)
    (ss : List Requirement) (t : Tree) → IsHolding nesting before tokens rs l
    → IsUnit nesting (before + length rs) more ss t
    → IsHolding nesting before ((tokens ++ And ∷ []) ++ more) (rs ++ ss) (with_part l t)
held_with {tokens = tokens} more ss t (alone parts d) e = holding_as _ _ _ _ _
    (sym (append_assoc tokens (And ∷ []) more)) refl (alone _ (and _ more _ ss parts t d e))
held_with {before = before} more ss t (behind tokens others rs qs alternatives parts d f) e =
    holding_as (tokens ++ Or ∷ (others ++ And ∷ more)) _ (rs ++ (qs ++ ss)) _ _
    (sym (append_assoc (tokens ++ Or ∷ others) (And ∷ []) more ∙ append_assoc tokens (Or ∷ others) (And ∷ more)))
    (sym (append_assoc rs qs ss))
    (behind tokens (others ++ And ∷ more) rs (qs ++ ss) alternatives (parts ++ t ∷ []) d
    (and others more qs ss parts t f (unit_at _ _ (add_length before rs qs) e)))

-- a level at which a part must come, and the part
part_added : {nesting before : ℕ} {tokens : List SpdxToken} {rs : List Requirement} {l : ParenLevel}
    (more : List SpdxToken)
    (ss : List Requirement) (t : Tree) → IsWanting nesting before tokens rs l
    → IsUnit nesting (before + length rs) more ss t
    → IsHolding nesting before (tokens ++ more) (rs ++ ss) (with_part l t)
part_added {before = before} more ss t begin e = alone (t ∷ []) (unit (unit_at _ _ (omega arith) e))
part_added {rs = rs} more ss t (behind_or tokens alternatives d) e = holding_as _ _ _ _ _
    (sym (append_assoc tokens (Or ∷ []) more)) refl (behind tokens more rs ss alternatives (t ∷ []) d (unit e))
part_added more ss t (behind_and tokens h) e = held_with more ss t h e

-- a level that ends with a part is an expression
level_whole : {nesting before : ℕ} {tokens : List SpdxToken} {rs : List Requirement} {l : ParenLevel}
    → IsHolding nesting before tokens rs l → IsOr nesting before tokens rs (all_alternatives l)
level_whole (alone parts d) = alternative parts d
level_whole (behind tokens more rs ss alternatives parts d e) = or tokens more rs ss alternatives parts d e

-- the tokens up to the last open parenthesis
data IsOuter : ℕ → List SpdxToken → List Requirement → List ParenLevel → Type 0 where
  outermost : IsOuter 64 [] [] []
  inside : {nesting : ℕ} (tokens more : List SpdxToken) (rs ss : List Requirement) (o : List ParenLevel)
      (l : ParenLevel)
      → IsOuter (suc nesting) tokens rs o → IsWanting (suc nesting) (length rs) more ss l
      → IsOuter nesting ((tokens ++ more) ++ Open ∷ []) (rs ++ ss) (o ++ l ∷ [])

outer_nesting : {nesting : ℕ} {tokens : List SpdxToken} {rs : List Requirement} {o : List ParenLevel}
    → IsOuter nesting tokens rs o → length o + nesting ≡ 64
outer_nesting outermost = refl
outer_nesting (inside tokens more rs ss o l d w) = let h : length o + suc _ ≡ 64 = outer_nesting d in
    simp length-append (omega arith)

-- the tokens of a level in each phase
abbrev IsLevel : Phase → ℕ → ℕ → List SpdxToken → List Requirement → ParenLevel → Type 0
IsLevel Operand nesting before tokens rs l = IsWanting nesting before tokens rs l
IsLevel (Named id) nesting before tokens rs l = (prefix : List SpdxToken) × (tokens ≡ prefix ++ Word id ∷ [])
    × IsWanting nesting before prefix rs l
IsLevel (Excepted id) nesting before tokens rs l = (prefix : List SpdxToken) × (tokens ≡ prefix ++ Word id ∷ With ∷ [])
    × IsWanting nesting before prefix rs l
IsLevel Operator nesting before tokens rs l = IsHolding nesting before tokens rs l

-- The reader has read these tokens.
record IsAfter (tokens : List SpdxToken) (q : List Requirement) (o : List ParenLevel) (l : ParenLevel)
    (p : Phase) : Type 0 where
  pub nesting : ℕ
  pub outside : List SpdxToken
  pub inner : List SpdxToken
  pub before : List Requirement
  pub within : List Requirement
  pub tokens_are : tokens ≡ outside ++ inner
  pub requirements_are : q ≡ before ++ within
  pub outer : IsOuter nesting outside before o
  pub last : IsLevel p nesting (length before) inner within l

abbrev ComesAfter : List SpdxToken → Reader → Type 0
ComesAfter tokens s = IsAfter tokens s.requirements s.outer s.level s.phase

-- a requirement where one must come
requirement_added : {nesting : ℕ} (tokens outside prefix more : List SpdxToken) (q before within : List Requirement)
    (o : List ParenLevel) (l : ParenLevel) (r : Requirement) → tokens ≡ outside ++ (prefix ++ more)
    → q ≡ before ++ within
    → IsOuter nesting outside before o → IsWanting nesting (length before) prefix within l → IsRequirement more r
    → IsAfter tokens (q ++ r ∷ []) o (with_part l (tree.Requirement (length q))) Operator
requirement_added {nesting} tokens outside prefix more q before within o l r e f outer w d =
    let number : length before + length within ≡ length q = sym (ap length f ∙ length-append before within) in
    let P : ℕ → Type 0 = λ n. IsHolding nesting (length before) (prefix ++ more) (within ++ r ∷ [])
    (with_part l (tree.Requirement n)) in
    record {
      nesting = nesting;
      outside = outside;
      inner = prefix ++ more;
      before = before;
      within = within ++ r ∷ [];
      tokens_are = e;
      requirements_are = ap (λ x. x ++ r ∷ []) f ∙ append_assoc before within (r ∷ []);
      outer = outer;
      last = subst P number
          (part_added more (r ∷ []) (tree.Requirement (length before + length within)) w (requirement d));
    }

joined : (tokens outside inner prefix more : List SpdxToken) → tokens ≡ outside ++ inner → inner ≡ prefix ++ more
    → tokens ≡ outside ++ (prefix ++ more)
joined tokens outside inner prefix more e f = e ∙ ap (λ x. outside ++ x) f

-- one more token
extended : (tokens outside inner : List SpdxToken) (t : SpdxToken) → tokens ≡ outside ++ inner
    → tokens ++ t ∷ [] ≡ outside ++ (inner ++ t ∷ [])
extended tokens outside inner t e = ap (λ x. x ++ t ∷ []) e ∙ append_assoc outside inner (t ∷ [])

-- settling a reader keeps its tokens
settled_after : (tokens : List SpdxToken) (q : List Requirement) (o : List ParenLevel) (l : ParenLevel) (p : Phase)
    → IsAfter tokens q o l p → ComesAfter tokens (settled_at p (reader q o l p))
settled_after tokens q o l Operand d = d
settled_after tokens q o l (Named id) d = requirement_added tokens d.outside d.last.0 (Word id ∷ []) q d.before d.within
    o l _ (joined tokens d.outside d.inner d.last.0 (Word id ∷ []) d.tokens_are d.last.1) d.requirements_are d.outer
    d.last.2 (plain id)
settled_after tokens q o l (Excepted id) d = d
settled_after tokens q o l Operator d = d

-- a level at the same point, with another end
moved : (tokens more : List SpdxToken) (q : List Requirement) (o : List ParenLevel) (l l' : ParenLevel) (p p' : Phase)
    (d : IsAfter tokens q o l p) → tokens ++ more ≡ d.outside ++ (d.inner ++ more)
    → IsLevel p' d.nesting (length d.before) (d.inner ++ more) d.within l' → IsAfter (tokens ++ more) q o l' p'
moved tokens more q o l l' p p' d e last = record {
  nesting = d.nesting;
  outside = d.outside;
  inner = d.inner ++ more;
  before = d.before;
  within = d.within;
  tokens_are = e;
  requirements_are = d.requirements_are;
  outer = d.outer;
  last = last;
}

along : {tokens : List SpdxToken} (s s' : Reader) → Some s ≡ Some s' → ComesAfter tokens s → ComesAfter tokens s'
along {tokens} s s' e d = let P : Reader → Type 0 = λ x. ComesAfter tokens x in let same : s ≡ s' = cc in
    subst P same d

word_after : (tokens : List SpdxToken) (q : List Requirement) (o : List ParenLevel) (l : ParenLevel) (p : Phase)
    (w : List ℕ)
    (s' : Reader) → IsAfter tokens q o l p → word_step_at p (reader q o l p) w ≡ Some s'
    → ComesAfter (tokens ++ Word w ∷ []) s'
word_after tokens q o l Operand w s' d e = along (reader q o l (Named w)) s' e
    (moved tokens (Word w ∷ []) q o l l Operand (Named w) d (extended _ _ _ _ d.tokens_are) (d.inner, refl, d.last))
word_after tokens q o l (Named id) w s' d e = cc
word_after tokens q o l (Excepted id) w s' d e = along
    (with_requirement (reader q o l Operator) (record { id = id; exception = Some w })) s' e
    (requirement_added (tokens ++ Word w ∷ []) d.outside d.last.0 (Word id ∷ With ∷ Word w ∷ []) q d.before d.within o l
    _ (extended _ _ _ _ d.tokens_are
    ∙ ap (λ x. d.outside ++ x) (ap (λ x. x ++ Word w ∷ []) d.last.1
    ∙ append_assoc d.last.0 (Word id ∷ With ∷ []) (Word w ∷ []))) d.requirements_are d.outer d.last.2
    (excepted id w))
word_after tokens q o l Operator w s' d e = cc

with_after : (tokens : List SpdxToken) (q : List Requirement) (o : List ParenLevel) (l : ParenLevel) (p : Phase)
    (s' : Reader)
    → IsAfter tokens q o l p → with_step_at p (reader q o l p) ≡ Some s' → ComesAfter (tokens ++ With ∷ []) s'
with_after tokens q o l Operand s' d e = cc
with_after tokens q o l (Named id) s' d e = along (reader q o l (Excepted id)) s' e
    (moved tokens (With ∷ []) q o l l (Named id) (Excepted id) d (extended _ _ _ _ d.tokens_are) (
      d.last.0,
      ap (λ x. x ++ With ∷ []) d.last.1 ∙ append_assoc d.last.0 (Word id ∷ []) (With ∷ []),
      d.last.2,
    ))
with_after tokens q o l (Excepted id) s' d e = cc
with_after tokens q o l Operator s' d e = cc

chosen : (b : Bool) (x y : Reader) → cond b (Some x) None ≡ Some y → (b ≡ true) × (Some x ≡ Some y)
chosen true x y e = (refl, e)
chosen false x y e = cc

outer_in : {tokens : List SpdxToken} {rs : List Requirement} {o : List ParenLevel} (n m : ℕ) → n ≡ m
    → IsOuter n tokens rs o
    → IsOuter m tokens rs o
outer_in {tokens} {rs} {o} n m e d = let P : ℕ → Type 0 = λ k. IsOuter k tokens rs o in subst P e d

wanting_in : {before : ℕ} {tokens : List SpdxToken} {rs : List Requirement} {l : ParenLevel} (n m : ℕ) → n ≡ m
    → IsWanting n before tokens rs l → IsWanting m before tokens rs l
wanting_in {before} {tokens} {rs} {l} n m e d = let P : ℕ → Type 0 = λ k. IsWanting k before tokens rs l in subst P e d

opened_after : (tokens : List SpdxToken) (q : List Requirement) (o : List ParenLevel) (l : ParenLevel) → length o < 64
    → IsAfter tokens q o l Operand → IsAfter (tokens ++ Open ∷ []) q (o ++ l ∷ []) empty_level Operand
opened_after tokens q o l room d =
    let left : length o + d.nesting ≡ 64 = outer_nesting d.outer in
    let less : d.nesting ≡ suc (d.nesting - 1) = omega arith in
    record {
      nesting = d.nesting - 1;
      outside = (d.outside ++ d.inner) ++ Open ∷ [];
      inner = [];
      before = d.before ++ d.within;
      within = [];
      tokens_are = ap (λ x. x ++ Open ∷ []) d.tokens_are ∙ sym (append-nil _);
      requirements_are = d.requirements_are ∙ sym (append-nil _);
      outer = inside d.outside d.inner d.before d.within o l (outer_in _ _ less d.outer) (wanting_in _ _ less d.last);
      last = begin;
    }

open_after : (tokens : List SpdxToken) (q : List Requirement) (o : List ParenLevel) (l : ParenLevel) (p : Phase)
    (s' : Reader)
    → IsAfter tokens q o l p → open_step_at p (reader q o l p) ≡ Some s' → ComesAfter (tokens ++ Open ∷ []) s'
open_after tokens q o l Operand s' d e = let which = chosen (nat_lt (length o) 64) (opened (reader q o l Operand)) s'
    e in along _ s' which.1 (opened_after tokens q o l (ltb-true _ _ which.0) d)
open_after tokens q o l (Named id) s' d e = cc
open_after tokens q o l (Excepted id) s' d e = cc
open_after tokens q o l Operator s' d e = cc

and_after : (tokens : List SpdxToken) (q : List Requirement) (o : List ParenLevel) (l : ParenLevel) (p : Phase)
    (s' : Reader)
    → IsAfter tokens q o l p → if_operator p (Some (with_phase (reader q o l p) Operand)) ≡ Some s'
    → ComesAfter (tokens ++ And ∷ []) s'
and_after tokens q o l Operand s' d e = cc
and_after tokens q o l (Named id) s' d e = cc
and_after tokens q o l (Excepted id) s' d e = cc
and_after tokens q o l Operator s' d e = along (reader q o l Operand) s' e
    (moved tokens (And ∷ []) q o l l Operator Operand d (extended _ _ _ _ d.tokens_are) (behind_and d.inner d.last))

or_after : (tokens : List SpdxToken) (q : List Requirement) (o : List ParenLevel) (l : ParenLevel) (p : Phase)
    (s' : Reader)
    → IsAfter tokens q o l p → if_operator p (Some (next_alternative (reader q o l p))) ≡ Some s'
    → ComesAfter (tokens ++ Or ∷ []) s'
or_after tokens q o l Operand s' d e = cc
or_after tokens q o l (Named id) s' d e = cc
or_after tokens q o l (Excepted id) s' d e = cc
or_after tokens q o l Operator s' d e = along (next_alternative (reader q o l Operator)) s' e
    (moved tokens (Or ∷ []) q o l (level (all_alternatives l) []) Operator Operand d (extended _ _ _ _ d.tokens_are)
    (behind_or d.inner (all_alternatives l) (level_whole d.last)))

-- the tokens before the last open parenthesis, and those after it
record IsInside (nesting : ℕ) (outside : List SpdxToken) (before : List Requirement) (prefix : List ParenLevel)
    (last : ParenLevel) : Type 0 where
  pub tokens : List SpdxToken
  pub more : List SpdxToken
  pub rs : List Requirement
  pub ss : List Requirement
  pub outside_is : outside ≡ (tokens ++ more) ++ Open ∷ []
  pub before_is : before ≡ rs ++ ss
  pub outer : IsOuter (suc nesting) tokens rs prefix
  pub wants : IsWanting (suc nesting) (length rs) more ss last

inside_of : {nesting : ℕ} {outside : List SpdxToken} {before : List Requirement} {o : List ParenLevel}
    (found : List ParenLevel × ParenLevel) → IsOuter nesting outside before o → split_last o ≡ Some found
    → IsInside nesting outside before found.0 found.1
inside_of found outermost e = cc
inside_of {nesting} found (inside tokens more rs ss o l d w) e =
    let same : Some (o, l) ≡ Some found = sym (split_last-snoc o l) ∙ e in
    let pair : (o, l) ≡ found = cc in
    let P : List ParenLevel × ParenLevel → Type 0 = λ f. IsInside nesting ((tokens ++ more) ++ Open ∷ []) (rs ++ ss)
    f.0 f.1 in
    subst P pair (record {
      tokens = tokens;
      more = more;
      rs = rs;
      ss = ss;
      outside_is = refl;
      before_is = refl;
      outer = d;
      wants = w;
    })

closed_after : (tokens : List SpdxToken) (q : List Requirement) (o : List ParenLevel) (l : ParenLevel)
    (found : List ParenLevel × ParenLevel)
    (d : IsAfter tokens q o l Operator) → IsInside d.nesting d.outside d.before found.0 found.1
    → ComesAfter (tokens ++ Close ∷ []) (closed_to (reader q o l Operator) found)
closed_after tokens q o l found d i =
    let count : length d.before ≡ length i.rs + length i.ss = ap length i.before_is ∙ length-append i.rs i.ss in
    record {
      nesting = suc d.nesting;
      outside = i.tokens;
      inner = i.more ++ (Open ∷ (d.inner ++ Close ∷ []));
      before = i.rs;
      within = i.ss ++ d.within;
      tokens_are = ap (λ x. x ++ Close ∷ []) (d.tokens_are ∙ ap (λ x. x ++ d.inner) i.outside_is) ∙ simp append_assoc;
      requirements_are = d.requirements_are ∙ (ap (λ x. x ++ d.within) i.before_is ∙ append_assoc i.rs i.ss d.within);
      outer = i.outer;
      last = part_added (Open ∷ (d.inner ++ Close ∷ [])) d.within (any_of (all_alternatives l)) i.wants
          (unit_at _ _ count (group d.inner (all_alternatives l) (level_whole d.last)));
    }

closed_at : (tokens : List SpdxToken) (q : List Requirement) (o : List ParenLevel) (l : ParenLevel) (s' : Reader)
    (d : IsAfter tokens q o l Operator) (f : Option (List ParenLevel × ParenLevel)) → split_last o ≡ f
    → closed (reader q o l Operator) f ≡ Some s' → ComesAfter (tokens ++ Close ∷ []) s'
closed_at tokens q o l s' d None which e = cc
closed_at tokens q o l s' d (Some found) which e = along (closed_to (reader q o l Operator) found) s' e
    (closed_after tokens q o l found d (inside_of found d.outer which))

close_after : (tokens : List SpdxToken) (q : List Requirement) (o : List ParenLevel) (l : ParenLevel) (p : Phase)
    (s' : Reader)
    → IsAfter tokens q o l p → if_operator p (closed (reader q o l p) (split_last o)) ≡ Some s'
    → ComesAfter (tokens ++ Close ∷ []) s'
close_after tokens q o l Operand s' d e = cc
close_after tokens q o l (Named id) s' d e = cc
close_after tokens q o l (Excepted id) s' d e = cc
close_after tokens q o l Operator s' d e = closed_at tokens q o l s' d (split_last o) refl e

-- a reader that takes a token has read it
step_after : (tokens : List SpdxToken) (t : SpdxToken) (s s' : Reader) → ComesAfter tokens s → step s t ≡ Some s'
    → ComesAfter (tokens ++ t ∷ []) s'
unfolding step word_step with_step open_step and_step or_step close_step settled
step_after tokens (Word w) s s' d e = word_after tokens s.requirements s.outer s.level s.phase w s' d e
step_after tokens And s s' d e = and_after tokens (settled s).requirements (settled s).outer (settled s).level
    (settled s).phase s' (settled_after tokens s.requirements s.outer s.level s.phase d) e
step_after tokens Or s s' d e = or_after tokens (settled s).requirements (settled s).outer (settled s).level
    (settled s).phase s' (settled_after tokens s.requirements s.outer s.level s.phase d) e
step_after tokens With s s' d e = with_after tokens s.requirements s.outer s.level s.phase s' d e
step_after tokens Open s s' d e = open_after tokens s.requirements s.outer s.level s.phase s' d e
step_after tokens Close s s' d e = close_after tokens (settled s).requirements (settled s).outer (settled s).level
    (settled s).phase s' (settled_after tokens s.requirements s.outer s.level s.phase d) e

start_after : ComesAfter [] start
start_after = record {
  nesting = 64;
  outside = [];
  inner = [];
  before = [];
  within = [];
  tokens_are = refl;
  requirements_are = refl;
  outer = outermost;
  last = begin;
}

after_more : (tokens more : List SpdxToken) (t : SpdxToken) (s s' : Reader)
    → ((x : Reader) → ComesAfter (tokens ++ t ∷ []) x → run x more ≡ Some s'
    → ComesAfter ((tokens ++ t ∷ []) ++ more) s')
    → ((x : Reader) → step s t ≡ Some x → ComesAfter (tokens ++ t ∷ []) x) → (o : Option Reader) → step s t ≡ o
    → option_and_then (λ x. run x more) o ≡ Some s' → ComesAfter (tokens ++ t ∷ more) s'
after_more tokens more t s s' on one None which e = cc
after_more tokens more t s s' on one (Some x) which e = let P : List SpdxToken → Type 0 = λ a. ComesAfter a s' in
    subst P (append_assoc tokens (t ∷ []) more) (on x (one x which) e)

run_on : (tokens more : List SpdxToken) (s s' : Reader) → ComesAfter tokens s → run s more ≡ Some s'
    → ComesAfter (tokens ++ more) s'
run_on tokens [] s s' d e = let P : List SpdxToken → Type 0 = λ a. ComesAfter a s' in
    subst P (sym (append-nil tokens)) (along s s' e d)
run_on tokens (t ∷ more) s s' d e = after_more tokens more t s s' (λ x. run_on (tokens ++ t ∷ []) more x s')
    (λ x which. step_after tokens t s x d which) (step s t) refl e

-- a reader that takes all of the tokens has read them
run_after : (tokens : List SpdxToken) (s : Reader) → run start tokens ≡ Some s → ComesAfter tokens s
run_after tokens s e = run_on [] tokens start s start_after e

nothing_outside : {nesting : ℕ} {outside : List SpdxToken} {before : List Requirement} {o : List ParenLevel}
    → IsOuter nesting outside before o → o ≡ [] → (nesting ≡ 64) × (outside ≡ []) × (before ≡ [])
nothing_outside outermost e = (refl, refl, refl)
nothing_outside (inside tokens more rs ss o l d w) e = let none : length (o ++ l ∷ []) ≡ 0 = ap length e in
    absurd (omega (arith, simp length-append at none))

or_in : {tokens : List SpdxToken} {rs : List Requirement} {alternatives : List Tree} (n n' b b' : ℕ) → n ≡ n' → b ≡ b'
    → IsOr n b tokens rs alternatives → IsOr n' b' tokens rs alternatives
or_in {tokens} {rs} {alternatives} n n' b b' e f d = let P : ℕ → Type 0 = λ k. IsOr k b' tokens rs alternatives in
    let Q : ℕ → Type 0 = λ k. IsOr n k tokens rs alternatives in subst P e (subst Q f d)

expression_after : (tokens : List SpdxToken) (q : List Requirement) (o : List ParenLevel) (l : ParenLevel) → o ≡ []
    → IsAfter tokens q o l Operator
    → IsExpression tokens (record { requirements = q; tree = any_of (all_alternatives l) })
expression_after tokens q o l none d =
    let out = nothing_outside d.outer none in
    let P : List SpdxToken → Type 0 = λ a. IsOr 64 0 a q (all_alternatives l) in
    let Q : List Requirement → Type 0 = λ a. IsOr 64 0 d.inner a (all_alternatives l) in
    let here : d.inner ≡ tokens = sym (d.tokens_are ∙ ap (λ x. x ++ d.inner) out.1) in
    let wanted : d.within ≡ q = sym (d.requirements_are ∙ ap (λ x. x ++ d.within) out.2) in
    record {
      alternatives = all_alternatives l;
      spelled = subst P here
          (subst Q wanted (or_in _ _ _ _ out.0 (ap length out.2) (level_whole d.last)));
      tree = refl;
    }

whole_in : (tokens : List SpdxToken) (q : List Requirement) (o : List ParenLevel) (l : ParenLevel) (e : Expression)
    → IsAfter tokens q o l Operator → if_closed o (reader q o l Operator) ≡ Some e → IsExpression tokens e
whole_in tokens q [] l e d is = let same : expression_of (reader q [] l Operator) ≡ e = cc in let P : Expression
    → Type 0 = λ x. IsExpression tokens x in subst P same (expression_after tokens q [] l refl d)
whole_in tokens q (x ∷ xs) l e d is = cc

whole_after_at : (tokens : List SpdxToken) (q : List Requirement) (o : List ParenLevel) (l : ParenLevel) (p : Phase)
    (e : Expression)
    → IsAfter tokens q o l p → whole_at p (reader q o l p) ≡ Some e → IsExpression tokens e
whole_after_at tokens q o l Operand e d is = cc
whole_after_at tokens q o l (Named id) e d is = cc
whole_after_at tokens q o l (Excepted id) e d is = cc
whole_after_at tokens q o l Operator e d is = whole_in tokens q o l e d is

-- a reader at the end of an expression has read an expression of the grammar
pub whole_after : (tokens : List SpdxToken) (s : Reader) (e : Expression) → run start tokens ≡ Some s
    → whole (settled s) ≡ Some e → IsExpression tokens e
unfolding whole settled
whole_after tokens s e led is = whole_after_at tokens (settled s).requirements (settled s).outer (settled s).level
    (settled s).phase e (settled_after tokens s.requirements s.outer s.level s.phase (run_after tokens s led)) is

spelled_as : (tokens tokens' : List SpdxToken) → tokens ≡ tokens' → AreWhole IsExpression tokens
    → AreWhole IsExpression tokens'
spelled_as tokens tokens' e d = let P : List SpdxToken → Type 0 = λ a. AreWhole IsExpression a in subst P e d

-- closing parentheses complete an expression
closing_makes : {nesting : ℕ} {outside : List SpdxToken} {before : List Requirement} {o : List ParenLevel}
    (inner : List SpdxToken)
    (within : List Requirement) (l : ParenLevel) → IsOuter nesting outside before o
    → IsHolding nesting (length before) inner within l → Begin IsExpression (outside ++ inner)
closing_makes inner within l outermost h = (
  [],
  spelled_as inner (inner ++ []) (sym (append-nil inner)) (
    record { requirements = within; tree = any_of (all_alternatives l) },
    record { alternatives = all_alternatives l; spelled = level_whole h; tree = refl },
  ),
)
closing_makes inner within l (inside tokens more rs ss o m d w) h =
    let closed_here = part_added (Open ∷ (inner ++ Close ∷ [])) within (any_of (all_alternatives l)) w
    (unit_at _ _ (length-append rs ss) (group inner (all_alternatives l) (level_whole h))) in
    let on = closing_makes (more ++ Open ∷ (inner ++ Close ∷ [])) (ss ++ within)
    (with_part m (any_of (all_alternatives l))) d closed_here in
    (Close ∷ on.0, spelled_as _ _ (simp append_assoc) on.1)

begin_operator : (tokens : List SpdxToken) (q : List Requirement) (o : List ParenLevel) (l : ParenLevel)
    → IsAfter tokens q o l Operator → Begin IsExpression tokens
begin_operator tokens q o l d = let on = closing_makes d.inner d.within l d.outer d.last in
    (on.0, spelled_as _ _ (ap (λ x. x ++ on.0) (sym d.tokens_are)) on.1)

begin_shorter : (tokens more : List SpdxToken) → Begin IsExpression (tokens ++ more) → Begin IsExpression tokens
begin_shorter tokens more b = (more ++ b.0, spelled_as _ _ (append_assoc tokens more b.0) b.1)

begin_at : (tokens : List SpdxToken) (q : List Requirement) (o : List ParenLevel) (l : ParenLevel) (p : Phase)
    → IsAfter tokens q o l p → Begin IsExpression tokens
begin_at tokens q o l Operand d = begin_shorter tokens (Word [] ∷ [])
    (begin_operator (tokens ++ Word [] ∷ []) _ o _
    (requirement_added (tokens ++ Word [] ∷ []) d.outside d.inner (Word [] ∷ []) q d.before d.within o l _
    (extended _ _ _ _ d.tokens_are) d.requirements_are d.outer d.last (plain [])))
begin_at tokens q o l (Named id) d = begin_operator tokens _ o _ (settled_after tokens q o l (Named id) d)
begin_at tokens q o l (Excepted id) d = begin_shorter tokens (Word [] ∷ [])
    (begin_operator (tokens ++ Word [] ∷ []) _ o _ (word_after tokens q o l (Excepted id) [] _ d refl))
begin_at tokens q o l Operator d = begin_operator tokens q o l d

-- the tokens that a reader has read begin an expression
pub begin_after : (tokens : List SpdxToken) (s : Reader) → run start tokens ≡ Some s → Begin IsExpression tokens
begin_after tokens s e = begin_at tokens s.requirements s.outer s.level s.phase (run_after tokens s e)
