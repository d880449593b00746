-- The reader after each token.
use Rattle.std.specs.Prelude.{ℕ, nat_lt, if◌then◌else◌, List, [], ◌∷◌, ◌++◌, length, Option, Some, None}
use Rattle.deny_spdx.specs.declared.token.SpdxToken.{SpdxToken}
use Rattle.deny_spdx.specs.declared.token.SpdxToken.TheVariants.{Word, And, Or, With, Open, Close}
use Rattle.deny_spdx.specs.declared.requirement.Requirement.{Requirement}
use Rattle.deny_spdx.specs.declared.expression.Expression.{Expression}
use Rattle.deny_spdx.specs.declared.expression.Tree.{Tree}
use Rattle.deny_spdx.specs.declared.expression.Tree.TheVariants as tree
use Rattle.deny_spdx.specs.Grammar.{all_of, any_of}
use Rattle.deny_spdx.specs.declared.level.ParenLevel.{ParenLevel}
use Rattle.deny_spdx.specs.declared.reader.Phase.{Phase}
use Rattle.deny_spdx.specs.declared.reader.Phase.TheVariants.{Operand, Named, Excepted, Operator}
use Rattle.deny_spdx.specs.declared.reader.Reader.{Reader}

abbrev pub empty_level : ParenLevel
empty_level = record { alternatives = []; parts = [] }

-- the reader before the first token
abbrev pub start : Reader
start = record { requirements = []; outer = []; level = empty_level; phase = Operand }

abbrev pub with_part : ParenLevel → Tree → ParenLevel
with_part l t = record { alternatives = l.alternatives; parts = l.parts ++ t ∷ [] }

-- the alternatives with the last one
abbrev pub all_alternatives : ParenLevel → List Tree
all_alternatives l = l.alternatives ++ all_of l.parts ∷ []

-- the reader with one more whole requirement
abbrev pub with_requirement : Reader → Requirement → Reader
with_requirement s r = record {
  requirements = s.requirements ++ r ∷ [];
  outer = s.outer;
  level = with_part s.level
      (tree.Requirement (length s.requirements));
  phase = Operator;
}

-- a word at the end is a whole requirement
abbrev pub settled_at : Phase → Reader → Reader
settled_at Operand s = s
settled_at (Named id) s = with_requirement s (record { id = id; exception = None })
settled_at (Excepted id) s = s
settled_at Operator s = s

unfoldable pub settled : Reader → Reader
settled s = settled_at s.phase s

abbrev pub with_phase : Reader → Phase → Reader
with_phase s p = record { requirements = s.requirements; outer = s.outer; level = s.level; phase = p }

abbrev pub word_step_at : Phase → Reader → List ℕ → Option Reader
word_step_at Operand s word = Some (with_phase s (Named word))
word_step_at (Named id) s word = None
word_step_at (Excepted id) s word = Some (with_requirement s (record { id = id; exception = Some word }))
word_step_at Operator s word = None

unfoldable pub word_step : Reader → List ℕ → Option Reader
word_step s word = word_step_at s.phase s word

abbrev pub with_step_at : Phase → Reader → Option Reader
with_step_at Operand s = None
with_step_at (Named id) s = Some (with_phase s (Excepted id))
with_step_at (Excepted id) s = None
with_step_at Operator s = None

unfoldable pub with_step : Reader → Option Reader
with_step s = with_step_at s.phase s

abbrev pub opened : Reader → Reader
opened s = record {
  requirements = s.requirements;
  outer = s.outer ++ s.level ∷ [];
  level = empty_level;
  phase = Operand;
}

abbrev pub open_step_at : Phase → Reader → Option Reader
open_step_at Operand s = if nat_lt (length s.outer) 64 then Some (opened s) else None
open_step_at (Named id) s = None
open_step_at (Excepted id) s = None
open_step_at Operator s = None

unfoldable pub open_step : Reader → Option Reader
open_step s = open_step_at s.phase s

-- the reader after an operator, which may come only after a whole requirement or parenthesis
abbrev pub if_operator : Phase → Option Reader → Option Reader
if_operator Operand after = None
if_operator (Named id) after = None
if_operator (Excepted id) after = None
if_operator Operator after = after

unfoldable pub and_step : Reader → Option Reader
and_step s = if_operator s.phase (Some (with_phase s Operand))

abbrev pub next_alternative : Reader → Reader
next_alternative s = record {
  requirements = s.requirements;
  outer = s.outer;
  level = record
      { alternatives = all_alternatives s.level; parts = [] };
  phase = Operand;
}

unfoldable pub or_step : Reader → Option Reader
or_step s = if_operator s.phase (Some (next_alternative s))

-- the elements before the last, and the last
abbrev pub with_first : {A : Type 0} → A → Option (List A × A) → Option (List A × A)
with_first x None = Some ([], x)
with_first x (Some found) = Some (x ∷ found.0, found.1)

abbrev pub split_last : {A : Type 0} → List A → Option (List A × A)
split_last [] = None
split_last (x ∷ xs) = with_first x (split_last xs)

abbrev pub closed_to : Reader → List ParenLevel × ParenLevel → Reader
closed_to s found = record {
  requirements = s.requirements;
  outer = found.0;
  level = with_part found.1 (any_of (all_alternatives s.level));
  phase = Operator;
}

abbrev pub closed : Reader → Option (List ParenLevel × ParenLevel) → Option Reader
closed s None = None
closed s (Some found) = Some (closed_to s found)

unfoldable pub close_step : Reader → Option Reader
close_step s = if_operator s.phase (closed s (split_last s.outer))

-- the reader after the token, or none where the token may not come
unfoldable pub step : Reader → SpdxToken → Option Reader
step s (Word word) = word_step s word
step s And = and_step (settled s)
step s Or = or_step (settled s)
step s With = with_step s
step s Open = open_step s
step s Close = close_step (settled s)

abbrev pub expression_of : Reader → Expression
expression_of s = record { requirements = s.requirements; tree = any_of (all_alternatives s.level) }

abbrev pub if_closed : List ParenLevel → Reader → Option Expression
if_closed [] s = Some (expression_of s)
if_closed (l ∷ ls) s = None

abbrev pub whole_at : Phase → Reader → Option Expression
whole_at Operand s = None
whole_at (Named id) s = None
whole_at (Excepted id) s = None
whole_at Operator s = if_closed s.outer s

-- the expression that the tokens so far are, if they are one
unfoldable pub whole : Reader → Option Expression
whole s = whole_at s.phase s
