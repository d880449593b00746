-- What is spelled is read: the reader after the tokens of a unit, of units with AND, and of an expression.
use Rattle.std.proofs.Common.{◌≡◌, ℕ, suc, ◌+◌, ◌<◌, ◌≤◌, cond, List, [], ◌∷◌, ◌++◌, length, Some, None, refl, sym, ◌∙◌}
use Rattle.std.proofs.Common.{ap, subst, append_assoc, length-append, arith, option_and_then}
use Rattle.std.proofs.lemmas.Bool.{lt-ltb}
use Rattle.deny_spdx.specs.declared.token.SpdxToken.{SpdxToken}
use Rattle.deny_spdx.specs.declared.token.SpdxToken.TheVariants.{And, Or, Open, Close}
use Rattle.deny_spdx.specs.declared.requirement.Requirement.{Requirement}
use Rattle.deny_spdx.specs.declared.expression.Expression.{Expression}
use Rattle.deny_spdx.specs.declared.expression.Tree.{Tree}
use Rattle.deny_spdx.specs.declared.expression.Tree.TheVariants as tree
use Rattle.deny_spdx.specs.declared.level.ParenLevel.{ParenLevel}
use Rattle.deny_spdx.specs.declared.reader.Phase.{Phase}
use Rattle.deny_spdx.specs.declared.reader.Phase.TheVariants.{Operand, Named, Operator}
use Rattle.deny_spdx.specs.declared.reader.Reader.{Reader}
use Rattle.deny_spdx.specs.Grammar.{all_of, any_of, IsRequirement, plain, excepted, IsUnit, requirement, group, IsAnd}
use Rattle.deny_spdx.specs.Grammar.{unit, and, IsOr, alternative, or, IsExpression}
use Rattle.deny_spdx.specs.Reader.{empty_level, start, with_part, all_alternatives, settled, word_step, with_step}
use Rattle.deny_spdx.specs.Reader.{open_step, opened, and_step, or_step, close_step, closed, split_last, with_first}
use Rattle.deny_spdx.specs.Reader.{step, whole, if_operator}
use Rattle.deny_spdx.specs.private.Reader.{run}
use Rattle.deny_spdx.proofs.StepsLemmas.{LeadsTo, run_by-append}

abbrev pub reader : List Requirement → List ParenLevel → ParenLevel → Phase → Reader
reader q o l p = record { requirements = q; outer = o; level = l; phase = p }

abbrev pub level : List Tree → List Tree → ParenLevel
level alternatives parts = record { alternatives = alternatives; parts = parts }

pub split_last-snoc : {A : Type 0} (xs : List A) (x : A) → split_last (xs ++ x ∷ []) ≡ Some (xs, x)
split_last-snoc [] x = refl
split_last-snoc (y ∷ xs) x = ap (with_first y) (split_last-snoc xs x)

-- The tokens lead from s to the reader `after`, except for a last word.
record Leads (s : Reader) (tokens : List SpdxToken) (after : Reader) : Type 0 where
  pub to : Reader
  pub runs : run s tokens ≡ Some to
  pub settles : settled to ≡ after

leads_and : (s middle after : Reader) (tokens more : List SpdxToken) (q : List Requirement) (o : List ParenLevel)
    (l : ParenLevel)
    → middle ≡ reader q o l Operator → Leads s tokens middle → Leads (reader q o l Operand) more after
    → Leads s (tokens ++ And ∷ more) after
unfolding step and_step
leads_and s middle after tokens more q o l e first second = record {
  to = second.to;
  runs = run_by-append step s first.to tokens (And ∷ more) first.runs
      ∙ (ap (λ r. option_and_then (λ x. run x more) (and_step r)) (first.settles ∙ e) ∙ second.runs);
  settles = second.settles;
}

leads_or : (s middle after : Reader) (tokens more : List SpdxToken) (q : List Requirement) (o : List ParenLevel)
    (l : ParenLevel)
    → middle ≡ reader q o l Operator → Leads s tokens middle
    → Leads (reader q o (level (all_alternatives l) []) Operand) more after → Leads s (tokens ++ Or ∷ more) after
unfolding step or_step
leads_or s middle after tokens more q o l e first second = record {
  to = second.to;
  runs = run_by-append step s first.to tokens (Or ∷ more) first.runs
      ∙ (ap (λ r. option_and_then (λ x. run x more) (or_step r)) (first.settles ∙ e) ∙ second.runs);
  settles = second.settles;
}

leads_requirement : (q : List Requirement) (o : List ParenLevel) (l : ParenLevel) (tokens : List SpdxToken)
    (r : Requirement)
    → IsRequirement tokens r
    → Leads (reader q o l Operand) tokens (reader (q ++ r ∷ []) o (with_part l (tree.Requirement (length q))) Operator)
unfolding step word_step with_step settled
leads_requirement q o l tokens r (plain id) = record { to = reader q o l (Named id); runs = refl; settles = refl }
leads_requirement q o l tokens r (excepted id x) = record
    { to = reader (q ++ r ∷ []) o (with_part l (tree.Requirement (length q))) Operator; runs = refl; settles = refl }

leads_open : (q : List Requirement) (o : List ParenLevel) (l : ParenLevel) (tokens : List SpdxToken) (after : Reader)
    → length o < 64
    → Leads (opened (reader q o l Operand)) tokens after → Leads (reader q o l Operand) (Open ∷ tokens) after
unfolding step open_step
leads_open q o l tokens after room inner = record {
  to = inner.to;
  runs = ap (λ b. option_and_then (λ x. run x tokens) (cond b (Some (opened (reader q o l Operand))) None))
      (lt-ltb (length o) 64 room) ∙ inner.runs;
  settles = inner.settles;
}

leads_close : (s : Reader) (q : List Requirement) (o : List ParenLevel) (l m : ParenLevel) (tokens : List SpdxToken)
    → Leads s tokens (reader q (o ++ l ∷ []) m Operator)
    → Leads s (tokens ++ Close ∷ []) (reader q o (with_part l (any_of (all_alternatives m))) Operator)
unfolding step close_step settled
leads_close s q o l m tokens first = record {
  to = reader q o (with_part l (any_of (all_alternatives m))) Operator;
  runs = run_by-append step s first.to tokens (Close ∷ []) first.runs
      ∙ (ap (λ r. option_and_then (λ x. Some x) (close_step r)) first.settles
      ∙ ap (λ f. option_and_then (λ x. Some x) (closed (reader q (o ++ l ∷ []) m Operator) f)) (split_last-snoc o l));
  settles = refl;
}

-- the requirements and levels of a reader, up to the association of their lists
leads_to : (s : Reader) (tokens : List SpdxToken) (q q' : List Requirement) (o : List ParenLevel) (l l' : ParenLevel)
    → q ≡ q'
    → l ≡ l' → Leads s tokens (reader q o l Operator) → Leads s tokens (reader q' o l' Operator)
leads_to s tokens q q' o l l' e f lead = record { to = lead.to; runs = lead.runs; settles = cc (lead.settles) }

-- An expression is read into a level that has its alternatives.
record LeadsLevel (s : Reader) (tokens : List SpdxToken) (q : List Requirement) (o : List ParenLevel)
    (alternatives : List Tree) : Type 0 where
  pub last : ParenLevel
  pub is : all_alternatives last ≡ alternatives
  pub lead : Leads s tokens (reader q o last Operator)

leads_alternative : (s : Reader) (tokens : List SpdxToken) (q : List Requirement) (o : List ParenLevel)
    (parts : List Tree)
    → Leads s tokens (reader q o (level [] parts) Operator) → LeadsLevel s tokens q o (all_of parts ∷ [])
leads_alternative s tokens q o parts d = record { last = level [] parts; is = refl; lead = d }

leads_more_or : (s : Reader) (tokens more : List SpdxToken) (q qs : List Requirement) (o : List ParenLevel)
    (alternatives parts : List Tree) → LeadsLevel s tokens q o alternatives
    → Leads (reader q o (level alternatives []) Operand) more (reader qs o (level alternatives parts) Operator)
    → LeadsLevel s (tokens ++ Or ∷ more) qs o (alternatives ++ all_of parts ∷ [])
leads_more_or s tokens more q qs o alternatives parts first second = record {
  last = level alternatives parts;
  is = refl;
  lead = leads_or s _ _ tokens more q o first.last refl first.lead (let P : List Tree
      → Type 0 = λ a. Leads (reader q o (level a []) Operand) more (reader qs o (level alternatives parts) Operator) in
      subst P (sym first.is) second);
}

-- a level is closed into the part for which it was read
leads_group : (q qs : List Requirement) (o : List ParenLevel) (l : ParenLevel) (tokens : List SpdxToken)
    (alternatives : List Tree)
    → length o < 64 → LeadsLevel (reader q (o ++ l ∷ []) empty_level Operand) tokens qs (o ++ l ∷ []) alternatives
    → Leads (reader q o l Operand) (Open ∷ (tokens ++ Close ∷ []))
    (reader qs o (with_part l (any_of alternatives)) Operator)
leads_group q qs o l tokens alternatives room inner = leads_open q o l (tokens ++ Close ∷ []) _ room
    (leads_to _ _ _ _ _ _ _ refl (ap (λ a. with_part l (any_of a)) inner.is)
    (leads_close _ qs o l inner.last tokens inner.lead))

deeper : (o : List ParenLevel) (l : ParenLevel) (n : ℕ) → length o + suc n ≤ 64
    → (length o < 64) × (length (o ++ l ∷ []) + n ≤ 64)
deeper o l n room = (omega arith, simp length-append (omega arith))

counted_on : (q rs : List Requirement) (before : ℕ) → length q ≡ before → length (q ++ rs) ≡ before + length rs
counted_on q rs before e = length-append q rs ∙ ap (λ n. n + length rs) e

-- A reader at which a unit, units or an expression must come takes it.
mutual
  leads_unit : {nesting before : ℕ} {tokens : List SpdxToken} {rs : List Requirement} {t : Tree}
      → IsUnit nesting before tokens rs t → (q : List Requirement) (o : List ParenLevel) (l : ParenLevel)
      → length q ≡ before
      → length o + nesting ≤ 64 → Leads (reader q o l Operand) tokens (reader (q ++ rs) o (with_part l t) Operator)
  leads_unit (requirement r) q o l counted room = leads_to _ _ _ _ _ _ _ refl
      (ap (λ n. with_part l (tree.Requirement n)) counted) (leads_requirement q o l _ _ r)
  leads_unit (group inner alternatives d) q o l counted room = leads_group q _ o l inner alternatives
      (deeper o l _ room).0 (leads_or_list d q (o ++ l ∷ []) counted (deeper o l _ room).1)

  leads_and_list : {nesting before : ℕ} {tokens : List SpdxToken} {rs : List Requirement} {parts : List Tree}
      → IsAnd nesting before tokens rs parts → (q : List Requirement) (o : List ParenLevel) (alternatives : List Tree)
      → length q ≡ before → length o + nesting ≤ 64
      → Leads (reader q o (level alternatives []) Operand) tokens
      (reader (q ++ rs) o (level alternatives parts) Operator)
  leads_and_list (unit d) q o alternatives counted room = leads_unit d q o (level alternatives []) counted room
  leads_and_list (and tokens more rs ss parts t d e) q o alternatives counted room = leads_and _ _ _ tokens more
      (q ++ rs) o (level alternatives parts) refl (leads_and_list d q o alternatives counted room)
      (leads_to _ _ _ _ _ _ _ (append_assoc q rs ss) refl
      (leads_unit e (q ++ rs) o (level alternatives parts) (counted_on q rs _ counted) room))

  leads_or_list : {nesting before : ℕ} {tokens : List SpdxToken} {rs : List Requirement} {alternatives : List Tree}
      → IsOr nesting before tokens rs alternatives → (q : List Requirement) (o : List ParenLevel) → length q ≡ before
      → length o + nesting ≤ 64 → LeadsLevel (reader q o empty_level Operand) tokens (q ++ rs) o alternatives
  leads_or_list (alternative parts d) q o counted room = leads_alternative _ _ _ o parts
      (leads_and_list d q o [] counted room)
  leads_or_list (or tokens more rs ss alternatives parts d e) q o counted room = leads_more_or _ tokens more (q ++ rs) _
      o alternatives parts (leads_or_list d q o counted room)
      (leads_to _ _ _ _ _ _ _ (append_assoc q rs ss) refl
      (leads_and_list e (q ++ rs) o alternatives (counted_on q rs _ counted) room))

reads_level : (tokens : List SpdxToken) (e : Expression) (alternatives : List Tree) → e.tree ≡ any_of alternatives
    → LeadsLevel start tokens e.requirements [] alternatives → LeadsTo step start (λ s. whole (settled s)) tokens e
unfolding whole
reads_level tokens e alternatives same found = record {
  to = found.lead.to;
  runs = found.lead.runs;
  is = ap whole found.lead.settles
      ∙ ap (λ t. Some (record { requirements = e.requirements; tree = t })) (ap any_of found.is ∙ sym same);
}

-- the tokens of an expression lead to a reader of that expression
pub reads : (tokens : List SpdxToken) (e : Expression) → IsExpression tokens e
    → LeadsTo step start (λ s. whole (settled s)) tokens e
reads tokens e d = reads_level tokens e d.alternatives d.tree (leads_or_list d.spelled [] [] refl (omega arith))

-- a reader whose level is closed into the enclosing one
pub close_step_is : (s : Reader) (q : List Requirement) (o prefix : List ParenLevel) (last : ParenLevel)
    (inner : List Tree)
    (made : Tree) (after : ParenLevel) → s.phase ≡ Operator → q ≡ s.requirements → o ≡ s.outer → o ≡ prefix ++ last ∷ []
    → inner ≡ all_alternatives s.level → made ≡ any_of inner → after ≡ with_part last made
    → Some (reader q prefix after Operator) ≡ close_step s
unfolding close_step
close_step_is s q o prefix last inner made after p kept outside e alternatives one level =
    let found : split_last s.outer ≡ Some (prefix, last) = ap split_last (sym outside ∙ e)
    ∙ split_last-snoc prefix last in
    let added : after ≡ with_part last (any_of (all_alternatives s.level)) =
    level ∙ ap (λ t. with_part last t) (one ∙ ap any_of alternatives) in
    ap (λ x. Some (reader x prefix after Operator)) kept
    ∙ (ap (λ l. Some (reader s.requirements prefix l Operator)) added
    ∙ sym (ap (λ q. if_operator q (closed s (split_last s.outer))) p ∙ ap (closed s) found))
