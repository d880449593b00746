-- The depth by which a table is defined is large enough: any larger one gives an equal table.
use Rattle.std.proofs.Common.{◌≡◌, ℕ, zero, suc, ◌+◌, ◌-◌, ◌≤◌, max, Bool, true, false, cond, List, [], ◌∷◌, ◌++◌, map}
use Rattle.std.proofs.Common.{filter, fold, length, Option, Some, None, refl, sym, ap, ◌∙◌, arith}
use Rattle.std.specs.Cmp.Lexicographic.{pointwise}
use Rattle.std.specs.Bool.{nat_eq}
use Rattle.std.specs.List.{flat_map, AllByRecursion}
use Rattle.deny_toml_grammar.specs.declared.parts.Key.{Key}
use Rattle.deny_toml_tree.specs.declared.value.Value.{Value}
use Rattle.deny_toml_tree.specs.declared.value.Table.{Table}
use Rattle.deny_toml_tree.specs.declared.value.Content.TheVariants as content
use Rattle.deny_toml_tree.specs.declared.lines.Line.{Line}
use Rattle.deny_toml_tree.specs.declared.lines.TableMember.{TableMember}
use Rattle.deny_toml_tree.specs.declared.lines.PathEnd.{PathEnd}
use Rattle.deny_toml_tree.specs.declared.lines.PathEnd.TheVariants as path_end
use Rattle.deny_toml_tree.specs.Value.{value_with, table_with}
use Rattle.deny_toml_tree.specs.Tree as tree
use Rattle.deny_toml_tree.proofs.TreeOrderLaws.{all_seconds}
use Rattle.deny_base_lists.proofs.Each.{all_append, all_filter, all_if}

-- a line has at most n parts left
abbrev IsWithin : ℕ → Line → Type 0
IsWithin n l = length l.path + tree.end_depth l.path_end ≤ n

abbrev AreWithin : ℕ → List Line → Type 0
AreWithin n ls = AllByRecursion (IsWithin n) ls

abbrev StepsAreWithin : ℕ → List (List ℕ × Line) → Type 0
StepsAreWithin n ss = AllByRecursion (λ s. IsWithin n s.1) ss

abbrev MembersAreWithin : ℕ → List TableMember → Type 0
MembersAreWithin n ms = AllByRecursion (λ m. length m.path ≤ n) ms

members_from : (n most : ℕ) (ms : List TableMember) → fold (λ most m. max most (length m.path)) most ms ≤ n → (most ≤ n)
    × MembersAreWithin n ms
members_from n most [] le = (le, tt)
members_from n most (m ∷ ms) le =
    let (here, rest) = members_from n (max most (length m.path)) ms le in
    (omega arith, (omega arith, rest))

members_within : (n : ℕ) (ms : List TableMember) → tree.longest ms ≤ n → MembersAreWithin n ms
unfolding tree.longest
members_within n ms le = (members_from n 0 ms le).1

lines_from : (n most : ℕ) (ls : List Line) → fold (λ most l. max most (length l.path + tree.end_depth l.path_end)) most
    ls ≤ n → (most ≤ n) × AreWithin n ls
lines_from n most [] le = (le, tt)
lines_from n most (l ∷ ls) le =
    let (here, rest) = lines_from n (max most (length l.path + tree.end_depth l.path_end)) ls le in
    (omega arith, (omega arith, rest))

lines_within : (n : ℕ) (ls : List Line) → tree.depth ls ≤ n → AreWithin n ls
unfolding tree.depth
lines_within n ls le = (lines_from n 0 ls le).1

more_within : (n : ℕ) (ls : List Line) → AreWithin n ls → AreWithin (suc n) ls
more_within n [] all = tt
more_within n (l ∷ ls) all = let here = all.0 in (omega arith, more_within n ls all.1)

-- a step removes one part
one_member : (n : ℕ) (v : Value) (path : List Key) → length path ≤ suc n → StepsAreWithin n (tree.member_steps v path)
one_member n v [] le = tt
one_member n v (key ∷ path) le = (omega arith, tt)

all_members : (n : ℕ) (ms : List TableMember) → MembersAreWithin (suc n) ms
    → StepsAreWithin n (flat_map (λ m. tree.member_steps m.value m.path) ms)
all_members n [] all = tt
all_members n (m ∷ ms) all = all_append (λ s. IsWithin n s.1) (tree.member_steps m.value m.path) _
    (one_member n m.value m.path all.0) (all_members n ms all.1)

end_steps_within : (n : ℕ) (p : PathEnd) → tree.end_depth p ≤ suc n → StepsAreWithin n (tree.end_steps p)
end_steps_within n (path_end.Value v) le = tt
end_steps_within n (path_end.Table ms) le = all_members n ms (members_within (suc n) ms le)
end_steps_within n (path_end.Element ms) le = tt

line_steps_within : (n : ℕ) (p : PathEnd) (path : List Key) → length path + tree.end_depth p ≤ suc n
    → StepsAreWithin n (tree.line_steps p path)
line_steps_within n p [] le = end_steps_within n p (omega arith)
line_steps_within n p (key ∷ path) le = (omega arith, tt)

steps_within : (n : ℕ) (ls : List Line) → AreWithin (suc n) ls → StepsAreWithin n (tree.steps ls)
unfolding tree.steps
steps_within n [] all = tt
steps_within n (l ∷ ls) all = all_append (λ s. IsWithin n s.1) (tree.line_steps l.path_end l.path) _
    (line_steps_within n l.path_end l.path all.0) (steps_within n ls all.1)

-- with no parts left there is no step
no_member : (v : Value) (path : List Key) → length path ≤ 0 → tree.member_steps v path ≡ []
no_member v [] le = refl
no_member v (key ∷ path) le = absurd (omega arith)

no_members : (ms : List TableMember) → MembersAreWithin 0 ms → flat_map (λ m. tree.member_steps m.value m.path) ms ≡ []
no_members [] all = refl
no_members (m ∷ ms) all = let none = no_member m.value m.path all.0 in let rest = no_members ms all.1 in rw (none, rest)

no_end_steps : (p : PathEnd) → tree.end_depth p ≤ 0 → tree.end_steps p ≡ []
no_end_steps (path_end.Value v) le = refl
no_end_steps (path_end.Table ms) le = no_members ms (members_within 0 ms le)
no_end_steps (path_end.Element ms) le = refl

no_line_steps : (p : PathEnd) (path : List Key) → length path + tree.end_depth p ≤ 0 → tree.line_steps p path ≡ []
no_line_steps p [] le = no_end_steps p (omega arith)
no_line_steps p (key ∷ path) le = absurd (omega arith)

no_steps : (ls : List Line) → AreWithin 0 ls → tree.steps ls ≡ []
unfolding tree.steps
no_steps [] all = refl
no_steps (l ∷ ls) all =
    ap (λ ss. ss ++ flat_map (λ line. tree.line_steps line.path_end line.path) ls)
    (no_line_steps l.path_end l.path all.0) ∙ no_steps ls all.1

through_within : (n : ℕ) (name : List ℕ) (ss : List (List ℕ × Line)) → StepsAreWithin n ss
    → AreWithin n (tree.lines_through name ss)
unfolding tree.lines_through
through_within n name ss all =
    all_seconds (IsWithin n) (filter (λ s. pointwise nat_eq s.0 name) ss)
    (all_filter (λ s. IsWithin n s.1) (λ s. pointwise nat_eq s.0 name) ss all)

as_table_depth : (p : PathEnd) → tree.end_depth (tree.end_as_table p) ≡ tree.end_depth p
as_table_depth (path_end.Value v) = refl
as_table_depth (path_end.Table ms) = refl
as_table_depth (path_end.Element ms) = refl

until_by : (n : ℕ) (b : Bool) (l : Line) (ls : List Line) → IsWithin n l → AreWithin n ls
    → AreWithin n (cond b [] (l ∷ ls))
until_by n true l ls is all = tt
until_by n false l ls is all = (is, all)

until_within : (n : ℕ) (ls : List Line) → AreWithin n ls → AreWithin n (tree.until_element ls)
unfolding tree.until_element
until_within n [] all = tt
until_within n (l ∷ ls) all = until_by n (tree.is_element l) l (tree.until_element ls) all.0 (until_within n ls all.1)

elements_within : (n : ℕ) (ls : List Line) → AreWithin n ls → AllByRecursion (AreWithin n) (tree.elements ls)
unfolding tree.elements
elements_within n [] all = tt
elements_within n (l ∷ ls) all =
    let same = as_table_depth l.path_end in
    let here = all.0 in
    all_if (AreWithin n) (tree.is_element l) (tree.as_table l ∷ tree.until_element ls) (tree.elements ls)
    (omega arith, until_within n ls all.1) (elements_within n ls all.1)

module _ (n : ℕ) (f g : List Line → Table) (same : (ls : List Line) → AreWithin n ls → f ls ≡ g ls) where
  same_table : (ls : List Line) → AreWithin n ls → tree.table_value f ls ≡ tree.table_value g ls
  same_table ls all = ap (λ t. value_with (tree.slot_span ls) (content.Table t)) (same ls all)

  same_each : (es : List (List Line)) → AllByRecursion (AreWithin n) es
      → map (tree.table_value f) es ≡ map (tree.table_value g) es
  same_each [] all = refl
  same_each (e ∷ es) all =
      ap (λ v. v ∷ map (tree.table_value f) es) (same_table e all.0)
      ∙ ap (λ vs. tree.table_value g e ∷ vs) (same_each es all.1)

  same_container : (b : Bool) (ls : List Line) → AreWithin n ls
      → cond b (tree.array_value f ls) (tree.table_value f ls) ≡ cond b (tree.array_value g ls) (tree.table_value g ls)
  same_container true ls all = ap (λ vs. value_with (tree.slot_span ls) (content.Array vs))
      (same_each (tree.elements ls) (elements_within n ls all))
  same_container false ls all = same_table ls all

  same_or : (o : Option Value) (ls : List Line) → AreWithin n ls → tree.value_or f o ls ≡ tree.value_or g o ls
  same_or (Some v) ls all = refl
  same_or None ls all = same_container (tree.starts_array ls) ls all

  same_value : (ls : List Line) → AreWithin n ls → tree.value_of_lines f ls ≡ tree.value_of_lines g ls
  unfolding tree.value_of_lines
  same_value ls all = same_or (tree.assigned ls) ls all

  same_entries : (ss : List (List ℕ × Line)) (ns : List (List ℕ)) → StepsAreWithin n ss
      → map (tree.entry_of f) (map (λ m. (m, tree.lines_through m ss)) ns) ≡ map (tree.entry_of g)
      (map (λ m. (m, tree.lines_through m ss)) ns)
  same_entries ss [] all = refl
  same_entries ss (m ∷ ns) all =
      ap (λ v. (record { name = m; span = tree.slot_span (tree.lines_through m ss) }, v) ∷ map (tree.entry_of f)
      (map (λ m. (m, tree.lines_through m ss)) ns))
      (same_value (tree.lines_through m ss) (through_within n m ss all))
      ∙ ap (λ es. tree.entry_of g (m, tree.lines_through m ss) ∷ es) (same_entries ss ns all)

one_more : (n : ℕ) (ls : List Line) → AreWithin n ls → tree.table n ls ≡ tree.table (suc n) ls
unfolding tree.table tree.groups tree.names
one_more zero ls all = let none = no_steps ls all in rw none
one_more (suc n) ls all =
    ap table_with (same_entries n (tree.table n) (tree.table (suc n)) (one_more n) (tree.steps ls)
    (tree.names (tree.steps ls)) (steps_within n ls all))

any_more : (k n : ℕ) (ls : List Line) → AreWithin n ls → tree.table n ls ≡ tree.table (k + n) ls
any_more zero n ls all = let same : 0 + n ≡ n = omega arith in rw same
any_more (suc k) n ls all =
    let next : k + suc n ≡ suc k + n = omega arith in
    one_more n ls all ∙ any_more k (suc n) ls (more_within n ls all) ∙ ap (λ m. tree.table m ls) next

pub depth_suffices : (n : ℕ) (ls : List Line) → tree.depth ls ≤ n → tree.table n ls ≡ tree.table_of ls
unfolding tree.table_of
depth_suffices n ls le =
    let total : (n - tree.depth ls) + tree.depth ls ≡ n = omega arith in
    sym (any_more (n - tree.depth ls) (tree.depth ls) ls (lines_within (tree.depth ls) ls (omega arith))
    ∙ ap (λ m. tree.table m ls) total)
