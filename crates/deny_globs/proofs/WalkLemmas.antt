-- The globs that the walk finds, index by index.
use Rattle.std.proofs.Common.{◌≡◌, ℕ, zero, suc, ◌+◌, ◌*◌, ◌<◌, ◌≤◌, List, [], ◌∷◌, ◌++◌, length, take, drop, Bool}
use Rattle.std.proofs.Common.{true, refl, sym, ap, subst, inl, inr, ◌∙◌, arith, get_or, eqb-true}
use Rattle.std.specs.Prelude.{◌⊎◌, ◌↔◌, ◌==◌, Some, None, Contains, nat_eq, slice_get}
use Rattle.std.proofs.lemmas.Bool.{cases_lt, false≢true}
use Rattle.std.proofs.lemmas.List.{take_more, get_or_append_left, get_or_default}
use Rattle.std.proofs.lemmas.List.Elements.{Contains-get_or, Contains-push, Contains-push_cases, Contains-append_left}
use Rattle.std.proofs.lemmas.Option.{slice_get_read}
use Rattle.deny_base_lists.proofs.Members.{tail-same, contains_none}
use Rattle.deny_base_lists.proofs.Options.{some_inj}
use Rattle.deny_globs.specs.declared.state.GlobState.{GlobState}
use Rattle.deny_globs.specs.declared.state.GlobState.TheVariants.{End, Character, AnyCharacter, OneOf, AnyText, Either}
use Rattle.deny_globs.specs.declared.state.GlobState.TheVariants.{Never}
use Rattle.deny_globs.specs.declared.token.CharacterClass.{CharacterClass}
use Rattle.deny_globs.specs.Class.{class_takes}
use Rattle.deny_globs.specs.private.Marked.{Extends, Marks, MarksIf}
use Rattle.deny_globs.specs.States.{IsAtOnce, IsBehind, Leads, ends, over, aside}
use Rattle.deny_globs.specs.private.States.{end_of, SomeLeads}
use Rattle.deny_globs.specs.private.Walk.{first_passes, StepsOver, HasEnd, Passes, Notes}
use Rattle.deny_globs.proofs.MarkedLemmas.{extends_same, extends_on, extended_contains}

head_same : {A : Type 0} {x y : A} {xs ys : List A} → x ∷ xs ≡ y ∷ ys → x ≡ y
head_same e = cc

nil_is : {A P : Type 0} {x : A} {xs : List A} → [] ≡ x ∷ xs → P
nil_is e = cc

-- ---- one state

record FirstIs (test : ℕ → Bool) (rest : List ℕ) : Type 0 where
  pub c : ℕ
  pub cs : List ℕ
  pub whole : rest ≡ c ∷ cs
  pub passes : test c ≡ true

first_is : (test : ℕ → Bool) (rest : List ℕ) → first_passes test rest ≡ true → FirstIs test rest
first_is test [] e = absurd (false≢true e)
first_is test (c ∷ cs) e = record { c = c; cs = cs; whole = refl; passes = e }

pub steps_over_none : {states : List GlobState} {rest : List ℕ} {number : ℕ} {now next : List ℕ} (kind : GlobState)
    → slice_get states number ≡ Some kind →
    ((t : ℕ) → IsAtOnce kind t → ⊥) → ((c t : ℕ) → IsBehind number kind c t → ⊥)
    → StepsOver states rest number now now next next
steps_over_none {now = now} {next = next} kind at none_at_once none_behind = record {
  state = kind;
  at = at;
  now_extends = extends_same now;
  next_extends = extends_same next;
  at_once = λ t g h l. absurd (none_at_once t h);
  behind = λ t g c cs e h l. absurd (none_behind c t h);
  now_only = λ t h. inl h;
  next_only = λ t h. inl h;
}

steps_over_one : {states : List GlobState} {rest : List ℕ} {number next_number : ℕ} {now next after : List ℕ}
    (kind : GlobState) (test : ℕ → Bool) → slice_get states number ≡ Some kind →
    ((t : ℕ) → IsAtOnce kind t → ⊥) → ((c t : ℕ) → IsBehind number kind c t → (test c ≡ true) × (t ≡ next_number)) →
    ((c : ℕ) → test c ≡ true → IsBehind number kind c next_number)
    → MarksIf (first_passes test rest) next_number next after → StepsOver states rest number now now next after
steps_over_one {states} {rest} {number} {next_number} {now} {next} {after} kind test at none to from m = record {
  state = kind;
  at = at;
  now_extends = extends_same now;
  next_extends = m.extends;
  at_once = λ t g h l. absurd (none t h);
  behind = λ t g c cs e h l.
      let b = to c t h in subst (λ k. Contains after k) (sym b.1) (m.is_there (ap (first_passes test) e ∙ b.0));
  now_only = λ t h. inl h;
  next_only = λ t h. only t (m.only t h);
} where
  only : (t : ℕ) → Contains next t ⊎ ((first_passes test rest ≡ true) × (t ≡ next_number))
      → Contains next t ⊎ ((c : ℕ) × (cs : List ℕ) × (rest ≡ c ∷ cs) × IsBehind number kind c t)
  only t (inl h) = inl h
  only t (inr h) =
      let f = first_is test rest h.0 in
      inr (f.c, f.cs, f.whole, subst (λ k. IsBehind number kind f.c k) (sym h.1) (from f.c f.passes))

pub steps_over_character : {states : List GlobState} {rest : List ℕ} {number d next_number : ℕ}
    {now next after : List ℕ}
    → slice_get states number ≡ Some (Character d next_number) →
    MarksIf (first_passes (nat_eq d) rest) next_number next after → StepsOver states rest number now now next after
steps_over_character {d = d} {next_number = n} at m = steps_over_one (Character d n) (nat_eq d) at (λ t h. h)
    (λ c t h. h) (λ c e. (e, refl)) m

pub steps_over_any_character : {states : List GlobState} {rest : List ℕ} {number next_number : ℕ}
    {now next after : List ℕ}
    → slice_get states number ≡ Some (AnyCharacter next_number) →
    MarksIf (first_passes (λ _. true) rest) next_number next after → StepsOver states rest number now now next after
steps_over_any_character {next_number = n} at m = steps_over_one (AnyCharacter n) (λ _. true) at (λ t h. h)
    (λ c t h. (refl, h)) (λ c e. refl) m

pub steps_over_class : {states : List GlobState} {rest : List ℕ} {number next_number : ℕ} {class : CharacterClass}
    {now next after : List ℕ} → slice_get states number ≡ Some (OneOf class next_number) →
    MarksIf (first_passes (class_takes class) rest) next_number next after
    → StepsOver states rest number now now next after
steps_over_class {next_number = n} {class = class} at m = steps_over_one (OneOf class n) (class_takes class) at
    (λ t h. h) (λ c t h. h) (λ c e. (e, refl)) m

pub steps_over_any_text : {states : List GlobState} {rest : List ℕ} {number next_number : ℕ}
    {now later next after : List ℕ}
    → slice_get states number ≡ Some (AnyText next_number) →
    Marks next_number now later → MarksIf (first_passes (λ _. true) rest) number next after
    → StepsOver states rest number now later next after
steps_over_any_text {states} {rest} {number} {next_number} {now} {later} {next} {after} at m n = record {
  state = AnyText next_number;
  at = at;
  now_extends = m.extends;
  next_extends = n.extends;
  at_once = λ t g h l. subst (λ k. Contains later k) (sym h) m.is_there;
  behind = λ t g c cs e h l. subst (λ k. Contains after k) (sym h) (n.is_there (ap (first_passes (λ _. true)) e));
  now_only = m.only;
  next_only = λ t h. only t (n.only t h);
} where
  only : (t : ℕ) → Contains next t ⊎ ((first_passes (λ _. true) rest ≡ true) × (t ≡ number))
      → Contains next t ⊎ ((c : ℕ) × (cs : List ℕ) × (rest ≡ c ∷ cs) × (t ≡ number))
  only t (inl h) = inl h
  only t (inr h) = let f = first_is (λ _. true) rest h.0 in inr (f.c, f.cs, f.whole, h.1)

pub steps_over_either : {states : List GlobState} {rest : List ℕ} {number first second : ℕ}
    {now mid later next : List ℕ}
    → slice_get states number ≡ Some (Either first second) →
    Marks first now mid → Marks second mid later → StepsOver states rest number now later next next
steps_over_either {states} {rest} {number} {first} {second} {now} {mid} {later} {next} at a b = record {
  state = Either first second;
  at = at;
  now_extends = extends_on a.extends b.extends;
  next_extends = extends_same next;
  at_once = λ t g h l. there t h;
  behind = λ t g c cs e h l. absurd h;
  now_only = λ t h. only t (b.only t h);
  next_only = λ t h. inl h;
} where
  there : (t : ℕ) → (t ≡ first) ⊎ (t ≡ second) → Contains later t
  there t (inl e) = subst (λ k. Contains later k) (sym e) (extended_contains b.extends a.is_there)
  there t (inr e) = subst (λ k. Contains later k) (sym e) b.is_there

  first_only : (t : ℕ) → Contains now t ⊎ (t ≡ first) → Contains now t ⊎ ((t ≡ first) ⊎ (t ≡ second))
  first_only t (inl h) = inl h
  first_only t (inr e) = inr (inl e)

  only : (t : ℕ) → Contains mid t ⊎ (t ≡ second) → Contains now t ⊎ ((t ≡ first) ⊎ (t ≡ second))
  only t (inl h) = first_only t (a.only t h)
  only t (inr e) = inr (inr e)

-- ---- the states of an index, as far as they were visited

pub record IsPassing (states : List GlobState) (rest : List ℕ) (index : ℕ) (before now next : List ℕ) : Type 0 where
  pub extends : Extends before now
  pub only : (number glob : ℕ) → Contains now number → Leads states glob number rest → SomeLeads states before glob rest
  pub next_only : (number glob c : ℕ) (cs : List ℕ) → Contains next number → rest ≡ c ∷ cs → Leads states glob number cs
      → SomeLeads states before glob rest
  pub next_some : (number : ℕ) → Contains next number → (c : ℕ) × (cs : List ℕ) × (rest ≡ c ∷ cs)
  pub at_once : (k number other glob : ℕ) (state : GlobState) → k < index → k < length now → get_or now k 0 ≡ number
      → slice_get states number ≡ Some state →
      IsAtOnce state other → Leads states glob other rest → Contains now other
  pub behind : (k number other glob c : ℕ) (cs : List ℕ) (state : GlobState) → k < index → k < length now
      → get_or now k 0 ≡ number → slice_get states number ≡ Some state →
      rest ≡ c ∷ cs → IsBehind number state c other → Leads states glob other cs → Contains next other

pub passing_start : {states : List GlobState} {rest before next : List ℕ} → next ≡ []
    → IsPassing states rest 0 before before next
passing_start {before = before} {next = next} e = record {
  extends = extends_same before;
  only = λ n g h l. record { number = n; is_marked = h; leads = l };
  next_only = λ n g c cs h w l. contains_none (subst (λ l. Contains l n) e h);
  next_some = λ n h. contains_none (subst (λ l. Contains l n) e h);
  at_once = λ k n t g s p q is at h l. absurd (omega (arith, p));
  behind = λ k n t g c cs s p q is at w h l. absurd (omega (arith, p));
}

pub passing_more : {states : List GlobState} {rest : List ℕ} {index number : ℕ} {before now later next after : List ℕ}
    → index < length now → number ≡ get_or now index 0 →
    IsPassing states rest index before now next → StepsOver states rest number now later next after
    → IsPassing states rest (index + 1) before later after
passing_more {states} {rest} {index} {number} {before} {now} {later} {next} {after} less is p s = record {
  extends = extends_on p.extends s.now_extends;
  only = λ n g h l. only n g (s.now_only n h) l;
  next_only = λ n g c cs h e l. next_only n g c cs e l (s.next_only n h);
  next_some = λ n h. next_some n (s.next_only n h);
  at_once = λ k n t g kind q r e at h l. at_once k n t g kind q e at h l;
  behind = λ k n t g c cs kind q r e at w h l. behind k n t g c cs kind q e at w h l;
} where
  here : Contains now number
  here = subst (λ k. Contains now k) (sym is) (Contains-get_or now index 0 less)

  only : (n g : ℕ) → Contains now n ⊎ IsAtOnce s.state n → Leads states g n rest → SomeLeads states before g rest
  only n g (inl h) l = p.only n g h l
  only n g (inr h) l = p.only number g here (aside s.state s.at h l)

  next_only : (n g c : ℕ) (cs : List ℕ) → rest ≡ c ∷ cs → Leads states g n cs →
      Contains next n ⊎ ((d : ℕ) × (ds : List ℕ) × (rest ≡ d ∷ ds) × IsBehind number s.state d n)
      → SomeLeads states before g rest
  next_only n g c cs e l (inl h) = p.next_only n g c cs h e l
  next_only n g c cs e l (inr h) =
      let b : IsBehind number s.state c n = subst (λ d. IsBehind number s.state d n) (head_same (sym h.2 ∙ e)) h.3 in
      p.only number g here (subst (λ ds. Leads states g number ds) (sym e) (over s.state s.at b l))

  next_some : (n : ℕ) → Contains next n ⊎ ((d : ℕ) × (ds : List ℕ) × (rest ≡ d ∷ ds) × IsBehind number s.state d n)
      → (c : ℕ) × (cs : List ℕ) × (rest ≡ c ∷ cs)
  next_some n (inl h) = p.next_some n h
  next_some n (inr h) = (h.0, h.1, h.2)

  before_it : (k n : ℕ) → k < index → get_or later k 0 ≡ n → get_or now k 0 ≡ n
  before_it k n q e = sym (get_or_append_left now s.now_extends.more 0 k (omega (arith, q, less)))
      ∙ (ap (λ l. get_or l k 0) (sym s.now_extends.whole) ∙ e)

  same_number : (k n : ℕ) → k ≡ index → get_or later k 0 ≡ n → n ≡ number
  same_number k n same e =
      let there : get_or later index 0 ≡ n = subst (λ j. get_or later j 0 ≡ n) same e in
      sym (sym (get_or_append_left now s.now_extends.more 0 index less)
      ∙ (ap (λ l. get_or l index 0) (sym s.now_extends.whole) ∙ there)) ∙ sym is

  same_state : (n : ℕ) (kind : GlobState) → n ≡ number → slice_get states n ≡ Some kind → kind ≡ s.state
  same_state n kind same at = some_inj (sym (subst (λ j. slice_get states j ≡ Some kind) same at) ∙ s.at)

  at_once : (k n t g : ℕ) (kind : GlobState) → k < index + 1 → get_or later k 0 ≡ n → slice_get states n ≡ Some kind
      → IsAtOnce kind t → Leads states g t rest → Contains later t
  at_once k n t g kind q e at h l = elim (cases_lt k index) [
    | inl old ↦ extended_contains s.now_extends
        (p.at_once k n t g kind old (omega (arith, old, less)) (before_it k n old e) at h l)
    | inr this ↦
        let same = same_number k n (omega (arith, q, this)) e in
        s.at_once t g (subst (λ j. IsAtOnce j t) (same_state n kind same at) h) l
  ]

  behind : (k n t g c : ℕ) (cs : List ℕ) (kind : GlobState) → k < index + 1 → get_or later k 0 ≡ n
      → slice_get states n ≡ Some kind → rest ≡ c ∷ cs → IsBehind n kind c t → Leads states g t cs → Contains after t
  behind k n t g c cs kind q e at w h l = elim (cases_lt k index) [
    | inl old ↦ extended_contains s.next_extends
        (p.behind k n t g c cs kind old (omega (arith, old, less)) (before_it k n old e) at w h l)
    | inr this ↦
        let same = same_number k n (omega (arith, q, this)) e in
        s.behind t g c cs w (subst (λ j. IsBehind j s.state c t) same
        (subst (λ j. IsBehind n j c t) (same_state n kind same at) h)) l
  ]

-- ---- all states of an index were visited
record IsClosed (states : List GlobState) (rest now next : List ℕ) : Type 0 where
  at_once : (number other glob : ℕ) (state : GlobState) → Contains now number → slice_get states number ≡ Some state
      → IsAtOnce state other → Leads states glob other rest → Contains now other
  behind : (number other glob c : ℕ) (cs : List ℕ) (state : GlobState) → Contains now number
      → slice_get states number ≡ Some state → rest ≡ c ∷ cs →
      IsBehind number state c other → Leads states glob other cs → Contains next other

closed_of : {states : List GlobState} {rest : List ℕ} {index : ℕ} {before now next : List ℕ} → length now ≤ index
    → IsPassing states rest index before now next → IsClosed states rest now next
closed_of {now = now} all p = record {
  at_once = λ n t g kind h at k l. p.at_once h.0 n t g kind (omega (arith, all, h.1)) h.1
      (get_or_default now h.0 0 n h.1 ∙ h.2) at k l;
  behind = λ n t g c cs kind h at e k l. p.behind h.0 n t g c cs kind (omega (arith, all, h.1)) h.1
      (get_or_default now h.0 0 n h.1 ∙ h.2) at e k l;
}

advance : {states : List GlobState} {rest now next : List ℕ} {glob number c : ℕ} {cs ds : List ℕ}
    → IsClosed states rest now next → rest ≡ c ∷ cs → ds ≡ rest → Contains now number →
    Leads states glob number ds → SomeLeads states next glob cs
advance closed e same h (ends at) = nil_is (same ∙ e)
advance {states} {rest} {now} {next} {glob} {number} closed e same h
    (over {next = t} {c = d} {cs = es} state at b l) = record {
      number = t;
      is_marked = closed.behind number t glob d es state h at (sym same) b l;
      leads = subst (λ x. Leads states glob t x) (tail-same (same ∙ e)) l;
    }
advance {states} {rest} {now} {next} {glob} {number} closed e same h (aside {next = t} state at b l) =
    advance closed e same (closed.at_once number t glob state h at b (subst (λ x. Leads states glob t x) same l)) l

arrive : {states : List GlobState} {rest now next : List ℕ} {glob number : ℕ} {ds : List ℕ}
    → IsClosed states rest now next
    → rest ≡ [] → ds ≡ rest → Contains now number →
    Leads states glob number ds → HasEnd states now glob
arrive {number = number} closed e same h (ends at) = record { number = number; is_marked = h; is_end = at }
arrive closed e same h (over state at b l) = nil_is (sym (same ∙ e))
arrive {states} {rest} {now} {next} {glob} {number} closed e same h (aside {next = t} state at b l) =
    arrive closed e same (closed.at_once number t glob state h at b (subst (λ x. Leads states glob t x) same l)) l

pub passed : {states : List GlobState} {rest : List ℕ} {index : ℕ} {before now next : List ℕ} → length now ≤ index
    → IsPassing states rest index before now next → Passes states rest before now next
passed {states} {rest} {index} {before} {now} {next} all p = record {
  on = λ c cs e glob. (
    λ s. advance closed e refl (extended_contains p.extends s.is_marked) s.leads,
    λ s. p.next_only s.number glob c cs s.is_marked e s.leads,
  );
  at_end = λ e glob. (
    λ s. arrive closed e refl (extended_contains p.extends s.is_marked) s.leads,
    λ h. p.only h.number glob h.is_marked (subst (λ ds. Leads states glob h.number ds) (sym e) (ends h.is_end)),
  );
} where
  closed : IsClosed states rest now next
  closed = closed_of all p

-- ---- the walk over the indices

pub record IsAtIndex (states : List GlobState) (starts path : List ℕ) (index : ℕ) (now : List ℕ) : Type 0 where
  pub leads : (glob : ℕ) → SomeLeads states starts glob path ↔ SomeLeads states now glob (drop index path)

pub drop_one : (path : List ℕ) (index : ℕ) → index < length path
    → (c : ℕ) × (drop index path ≡ c ∷ drop (suc index) path)
drop_one [] index p = absurd (omega arith)
drop_one (c ∷ cs) zero p = (c, refl)
drop_one (c ∷ cs) (suc index) p = drop_one cs index (omega (arith, p))

drop_all : (path : List ℕ) → drop (length path) path ≡ []
drop_all [] = refl
drop_all (c ∷ cs) = drop_all cs

-- nothing leads on from no states
nothing_leads : {states : List GlobState} {marked : List ℕ} {glob : ℕ} {cs : List ℕ} → marked ≡ []
    → SomeLeads states marked glob cs → ⊥
nothing_leads e s = contains_none (subst (λ l. Contains l s.number) e s.is_marked)

pub nothing_starts : {states : List GlobState} {glob : ℕ} {path : List ℕ} (starts : List ℕ)
    → (length starts == 0) ≡ true
    → SomeLeads states starts glob path → ⊥
nothing_starts [] e s = contains_none s.is_marked
nothing_starts (n ∷ ns) e s = absurd (omega (arith, eqb-true (suc (length ns)) 0 e))

pub no_more : {states : List GlobState} {starts path now : List ℕ} {index glob : ℕ} → now ≡ []
    → IsAtIndex states starts path index now → SomeLeads states starts glob path → ⊥
no_more {glob = glob} e at s = nothing_leads e ((at.leads glob).0 s)

pub at_next_index : {states : List GlobState} {starts path : List ℕ} (index : ℕ) {rest before now next : List ℕ}
    → index < length path → rest ≡ drop index path → IsAtIndex states starts path index before →
    Passes states rest before now next → IsAtIndex states starts path (index + 1) next
at_next_index {states} {starts} {path} index {rest} {before} {now} {next} less is at passes =
    subst (λ n. IsAtIndex states starts path n next) one here where
      one : suc index ≡ index + 1
      one = omega arith

      here : IsAtIndex states starts path (suc index) next
      here = record {
        leads = λ glob.
            let d = drop_one path index less in
            let on = passes.on d.0 (drop (suc index) path) (is ∙ d.1) glob in (
              λ s. on.0 (subst (λ r. SomeLeads states before glob r) (sym is) ((at.leads glob).0 s)),
              λ s. (at.leads glob).1 (subst (λ r. SomeLeads states before glob r) is (on.1 s)),
            );
      }

pub at_last_index : {states : List GlobState} {starts path : List ℕ} (index : ℕ) {rest before now next : List ℕ}
    → index ≡ length path → rest ≡ drop (length path) path → IsAtIndex states starts path index before →
    Passes states rest before now next → (glob : ℕ) → SomeLeads states starts glob path ↔ HasEnd states now glob
at_last_index {states} {starts} {path} index {rest} {before} {now} {next} last is at passes glob =
    let end = passes.at_end (is ∙ drop_all path) glob in
    let same : drop index path ≡ rest = ap (λ n. drop n path) last ∙ sym is in (
      λ s. end.0 (subst (λ r. SomeLeads states before glob r) same ((at.leads glob).0 s)),
      λ h. (at.leads glob).1 (subst (λ r. SomeLeads states before glob r) (sym same) (end.1 h)),
    )

pub rest_at_end : (path : List ℕ) {rest : List ℕ} → rest ≡ drop (length path) path → rest ≡ []
rest_at_end path is = is ∙ drop_all path

-- ---- notes

pub notes_same : {P Q : ℕ → Type 0} {old new : List ℕ} → ((glob : ℕ) → P glob ↔ Q glob) → Notes P old new
    → Notes Q old new
notes_same same notes = record {
  each = λ glob. (
    λ e. map_right (same glob).0 ((notes.each glob).0 e),
    λ h. (notes.each glob).1 (map_right (same glob).1 h),
  );
} where
  map_right : {A B C : Type 0} → (B → C) → A ⊎ B → A ⊎ C
  map_right f (inl a) = inl a
  map_right f (inr b) = inr (f b)

pub notes_on : {P Q R : ℕ → Type 0} {old mid new : List ℕ} → ((glob : ℕ) → R glob → P glob ⊎ Q glob)
    → ((glob : ℕ) → P glob ⊎ Q glob → R glob) → Notes P old mid → Notes Q mid new → Notes R old new
notes_on {P} {Q} {R} {old} {mid} {new} apart joined first second = record {
  each = λ glob. (λ e. to glob ((second.each glob).0 e), λ h. (second.each glob).1 (from glob h));
} where
  old_to : (glob : ℕ) → Contains old glob ⊎ P glob → Contains old glob ⊎ R glob
  old_to glob (inl e) = inl e
  old_to glob (inr h) = inr (joined glob (inl h))

  to : (glob : ℕ) → Contains mid glob ⊎ Q glob → Contains old glob ⊎ R glob
  to glob (inl e) = old_to glob ((first.each glob).0 e)
  to glob (inr h) = inr (joined glob (inr h))

  apart_to : (glob : ℕ) → P glob ⊎ Q glob → Contains mid glob ⊎ Q glob
  apart_to glob (inl h) = inl ((first.each glob).1 (inr h))
  apart_to glob (inr h) = inr h

  from : (glob : ℕ) → Contains old glob ⊎ R glob → Contains mid glob ⊎ Q glob
  from glob (inl e) = inl ((first.each glob).1 (inl e))
  from glob (inr h) = apart_to glob (apart glob h)

pub notes_none : {P : ℕ → Type 0} {old new : List ℕ} → new ≡ old → ((glob : ℕ) → P glob → ⊥) → Notes P old new
notes_none {P} {old} {new} e none = record {
  each = λ glob. (
    λ h. inl (subst (λ l. Contains l glob) e h),
    λ h. subst (λ l. Contains l glob) (sym e) (from glob h),
  );
} where
  from : (glob : ℕ) → Contains old glob ⊎ P glob → Contains old glob
  from glob (inl h) = h
  from glob (inr h) = absurd (none glob h)

pub notes_one : {n : ℕ} {old new : List ℕ} → new ≡ old ++ n ∷ [] → Notes (λ other. other ≡ n) old new
notes_one {n} {old} {new} e = record {
  each = λ glob. (
    λ h. to glob (Contains-push_cases old n glob (subst (λ l. Contains l glob) e h)),
    λ h. subst (λ l. Contains l glob) (sym e) (from glob h),
  );
} where
  to : (glob : ℕ) → Contains old glob ⊎ (n ≡ glob) → Contains old glob ⊎ (glob ≡ n)
  to glob (inl h) = inl h
  to glob (inr same) = inr (sym same)

  from : (glob : ℕ) → Contains old glob ⊎ (glob ≡ n) → Contains (old ++ n ∷ []) glob
  from glob (inl h) = Contains-append_left old (n ∷ []) glob h
  from glob (inr same) = subst (λ k. Contains (old ++ n ∷ []) k) (sym same) (Contains-push old n)

-- the end of a glob is noted as its number
pub notes_ended : (kind : GlobState) {n : ℕ} {old new : List ℕ} → end_of kind ≡ Some n → new ≡ old ++ n ∷ []
    → Notes (λ glob. end_of kind ≡ Some glob) old new
notes_ended kind {n} at e = notes_same (λ glob. (λ same. at ∙ ap Some (sym same), λ there. some_inj (sym there ∙ at)))
    (notes_one e)

pub notes_not_ended : (kind : GlobState) {old new : List ℕ} → end_of kind ≡ None → new ≡ old
    → Notes (λ glob. end_of kind ≡ Some glob) old new
notes_not_ended kind none e = notes_none e (λ glob there. no_number (sym none ∙ there)) where
  no_number : {n : ℕ} → None ≡ Some n → ⊥
  no_number h = cc

is_end_of : (kind : GlobState) (glob : ℕ) → end_of kind ≡ Some glob → kind ≡ End glob
is_end_of (End other) glob e = ap End (some_inj e)
is_end_of (Character d next) glob e = cc
is_end_of (AnyCharacter next) glob e = cc
is_end_of (OneOf class next) glob e = cc
is_end_of (AnyText next) glob e = cc
is_end_of (Either first second) glob e = cc
is_end_of Never glob e = cc

pub notes_end : (states : List GlobState) {number : ℕ} {kind : GlobState} {old new : List ℕ} → number < length states
    → kind ≡ get_or states number kind →
    Notes (λ glob. end_of kind ≡ Some glob) old new → Notes (λ glob. slice_get states number ≡ Some (End glob)) old new
notes_end states {number} {kind} inside is notes = notes_same same notes where
  at : slice_get states number ≡ Some kind
  at = slice_get_read states (length states) number kind refl inside is

  same : (glob : ℕ) → (end_of kind ≡ Some glob) ↔ (slice_get states number ≡ Some (End glob))
  same glob = (λ e. at ∙ ap Some (is_end_of kind glob e), λ e. ap end_of (some_inj (sym at ∙ e)))

-- one more of the marked states
pub notes_more : {states : List GlobState} (marked : List ℕ) {k n : ℕ} {old mid new : List ℕ} → k < length marked
    → n ≡ get_or marked k 0 →
    Notes (HasEnd states (take k marked)) old mid → Notes (λ glob. slice_get states n ≡ Some (End glob)) mid new
    → Notes (HasEnd states (take (k + 1) marked)) old new
notes_more {states} marked {k} {n} {old} {mid} {new} less is first second = notes_on apart joined first second where
  more : take (k + 1) marked ≡ take k marked ++ n ∷ []
  more = take_more marked k 0 less ∙ ap (λ m. take k marked ++ m ∷ []) (sym is)

  split : (glob number : ℕ) → slice_get states number ≡ Some (End glob) → Contains (take k marked) number ⊎ (n ≡ number)
      → HasEnd states (take k marked) glob ⊎ (slice_get states n ≡ Some (End glob))
  split glob number e (inl h) = inl (record { number = number; is_marked = h; is_end = e })
  split glob number e (inr same) = inr (subst (λ m. slice_get states m ≡ Some (End glob)) (sym same) e)

  apart : (glob : ℕ) → HasEnd states (take (k + 1) marked) glob
      → HasEnd states (take k marked) glob ⊎ (slice_get states n ≡ Some (End glob))
  apart glob h = split glob h.number h.is_end
      (Contains-push_cases (take k marked) n h.number (subst (λ l. Contains l h.number) more h.is_marked))

  joined : (glob : ℕ) → HasEnd states (take k marked) glob ⊎ (slice_get states n ≡ Some (End glob))
      → HasEnd states (take (k + 1) marked) glob
  joined glob (inl h) = record {
    number = h.number;
    is_marked = subst (λ l. Contains l h.number) (sym more)
        (Contains-append_left (take k marked) (n ∷ []) h.number h.is_marked);
    is_end = h.is_end;
  }
  joined glob (inr e) = record
      { number = n; is_marked = subst (λ l. Contains l n) (sym more) (Contains-push (take k marked) n); is_end = e }

pub notes_start : {states : List GlobState} (old : List ℕ) → Notes (HasEnd states []) old old
notes_start {states} old = notes_none refl (λ glob h. contains_none h.is_marked)

pub state_at : (states : List GlobState) {number : ℕ} {x y : GlobState} → number < length states
    → x ≡ get_or states number x
    → x ≡ y → slice_get states number ≡ Some y
state_at states {number} {x} inside is e = slice_get_read states (length states) number x refl inside is ∙ ap Some e

pub notes_back : {P Q : ℕ → Type 0} {old new : List ℕ} → ((glob : ℕ) → Q glob ↔ P glob) → Notes P old new
    → Notes Q old new
notes_back same notes = notes_same (λ glob. ((same glob).1, (same glob).0)) notes

-- notes of the members of a list

pub notes_listed : (globs : List ℕ) {k n : ℕ} {old mid new : List ℕ} → k < length globs
    → n ≡ get_or globs k 0 → Notes (Contains (take k globs)) old mid → Notes (λ other. other ≡ n) mid new →
    Notes (Contains (take (k + 1) globs)) old new
notes_listed globs {k} {n} less is first second = notes_on (λ glob h. apart glob
    (Contains-push_cases (take k globs) n glob (subst (λ l. Contains l glob) more h))) joined first second where
      more : take (k + 1) globs ≡ take k globs ++ n ∷ []
      more = take_more globs k 0 less ∙ ap (λ m. take k globs ++ m ∷ []) (sym is)

      apart : (glob : ℕ) → Contains (take k globs) glob ⊎ (n ≡ glob) → Contains (take k globs) glob ⊎ (glob ≡ n)
      apart glob (inl h) = inl h
      apart glob (inr e) = inr (sym e)

      joined : (glob : ℕ) → Contains (take k globs) glob ⊎ (glob ≡ n) → Contains (take (k + 1) globs) glob
      joined glob (inl h) = subst (λ l. Contains l glob) (sym more)
          (Contains-append_left (take k globs) (n ∷ []) glob h)
      joined glob (inr e) = subst (λ l. Contains l glob) (sym more)
          (subst (λ g. Contains (take k globs ++ n ∷ []) g) (sym e) (Contains-push (take k globs) n))

pub notes_unlisted : (old : List ℕ) → Notes (Contains []) old old
notes_unlisted old = notes_none refl (λ glob h. contains_none h)

pub times : (p n : ℕ) → (p + 1) * n ≡ p * n + n
times p n = grind arith
