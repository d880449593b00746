-- The index of a manifest's sections, and how it finds a declaration.
use Rattle.std.proofs.Common.{◌≡◌, ◌<◌, ◌+◌, ◌++◌, ◌∷◌, ◌∙◌, [], ℕ, Bool, List, None, Option, Some, ap, append_assoc}
use Rattle.std.proofs.Common.{append-nil, cond, false, length, map, refl, subst, sym, take, true}
use Rattle.std.specs.Prelude.{◌&&◌, ◌==◌, Contains, IfSome, find, nat_eq, option_map, slice_index_or}
use Rattle.std.specs.Borrow.{Bor}
use Rattle.std.specs.Cmp.Lexicographic.{slice_cmp, texts_ties}
use Rattle.std.specs.List.{AllByRecursion, flat_map}
use Rattle.std.specs.Map.{lookup}
use Rattle.std.specs.Option.{option_cmp, option_copied, option_eq, option_or}
use Rattle.std.specs.Ordering.{eq_by_cmp, is_eq, nat_cmp, ordering_then}
use Rattle.std.specs.declared.cmp.Ordering.{Ordering}
use Rattle.std.specs.declared.cmp.Ordering.TheVariants.{Equal, Greater, Less}
use Rattle.std.proofs.lemmas.Bool.Decides.{Decides-eqb}
use Rattle.std.proofs.lemmas.Grind.{flat_map-append}
use Rattle.std.proofs.lemmas.List.{map-append, take_more}
use Rattle.deny_base.specs.Edge.{kind_number}
use Rattle.deny_base.specs.declared.edge.DepKind.{DepKind}
use Rattle.deny_base.specs.declared.edge.DepKind.TheVariants.{Build, Dev, Normal}
use Rattle.deny_base_lists.proofs.Booleans.{tests_agree}
use Rattle.deny_base_lists.proofs.Each.{all_append, all_flat}
use Rattle.deny_base_lists.proofs.FirstLemmas.{finds_more}
use Rattle.deny_base_lists.proofs.Members.{Contains-first, Contains-rest}
use Rattle.deny_base_lists.specs.First.{FindsFirst, GainsEntry}
use Rattle.deny_base_lists.proofs.Orders.{is_eq-nat_cmp}
use Rattle.deny_base_lists.proofs.Indices.{map-take_next}
use Rattle.deny_spans_manifest.proofs.TargetLemmas.{numbers_report, same_numbers}
use Rattle.deny_spans_manifest.specs.Agreement.{ReportsAgreement}
use Rattle.deny_spans_manifest.specs.Written.{Written, declares, entries_at, entry_in, found_in, key_name, kinds}
use Rattle.deny_spans_manifest.specs.Written.{of_target}
use Rattle.deny_spans_manifest.specs.Written.{section_in, section_name, sections_in, written_in, written_with}
use Rattle.deny_spans_manifest.specs.declared.firsts.Firsts.{Firsts}
use Rattle.deny_spans_manifest.specs.declared.sections.SectionKey.{SectionKey}
use Rattle.deny_spans_manifest.specs.declared.sections.Sections.{Sections}
use Rattle.deny_spans_manifest.specs.private.Firsts.{first_at}
use Rattle.deny_spans_manifest.specs.private.Sections.{FindsKeyed, IsIndexOf, KeyedEntry, entry_found}
use Rattle.deny_spans_manifest.specs.private.Sections.{kind_keyed, section_key_cmp}
use Rattle.deny_spans_manifest.specs.private.Sections.{keyed_at, sections_keyed, target_entries, target_keys}
use Rattle.deny_spans_manifest.specs.private.Sections.{target_keyed, targets_keyed}
use Rattle.deny_spans_manifest.specs.private.Targets.{NumbersTargets, number_of}
use Rattle.deny_spec.specs.Graph.{Dependency}
use Rattle.deny_spec.specs.Text.{same_text}
use Rattle.deny_toml.specs.Key.{Key}
use Rattle.deny_toml.specs.value.Value.{Value}

-- ---- entries that are added

copied_or : {A : Type 0} (old : Option (Bor A)) (b : Bool) (r : Bor A)
    → option_copied (option_or old (cond b (Some r) None)) ≡ option_or (option_copied old) (cond b (Some r.now) None)
copied_or None true r = refl
copied_or None false r = refl
copied_or (Some x) true r = refl
copied_or (Some x) false r = refl

-- what the index finds by reference it finds by value
gains_value : (section_key : SectionKey) (r : Bor (Key × Value)) (old new : Firsts SectionKey (Bor (Key × Value)))
    → GainsEntry (eq_by_cmp section_key_cmp) section_key r (first_at section_key_cmp old) (first_at section_key_cmp new)
    → GainsEntry (eq_by_cmp section_key_cmp) section_key r.now (entry_found old) (entry_found new)
gains_value section_key r old new gains = record {
  at = λ asked. ap option_copied (gains.at asked)
      ∙ copied_or (first_at section_key_cmp old asked) (eq_by_cmp section_key_cmp asked section_key) r;
}

-- adding one more entry of a section
pub section_next : (target : Option ℕ) (kind : DepKind) (entries : List (Key × Value)) (i : ℕ) (r : Bor (Key × Value))
    (name : List ℕ) (keyed : List KeyedEntry) (old new : Firsts SectionKey (Bor (Key × Value)))
    → i < length entries → r.now ≡ slice_index_or entries i r.now → name ≡ r.now.0.name
    → FindsKeyed (keyed ++ map (keyed_at target kind) (take i entries)) old
    → GainsEntry (eq_by_cmp section_key_cmp) (record { target = target; kind = kind; name = name }) r
    (first_at section_key_cmp old) (first_at section_key_cmp new)
    → FindsKeyed (keyed ++ map (keyed_at target kind) (take (i + 1) entries)) new
section_next target kind entries i r name keyed old new inside is named finds gains =
    let section_key : List ℕ → SectionKey = λ bytes. record { target = target; kind = kind; name = bytes } in
    let before = map (keyed_at target kind) (take i entries) in
    let whole : keyed ++ map (keyed_at target kind) (take (i + 1) entries)
    ≡ (keyed ++ before) ++ (section_key name, r.now) ∷ [] =
    ap (λ es. keyed ++ es) (map-take_next (keyed_at target kind) entries i r.now inside is)
    ∙ (sym (append_assoc keyed before (keyed_at target kind r.now ∷ []))
    ∙ ap (λ (bytes : List ℕ). (keyed ++ before) ++ (section_key bytes, r.now) ∷ []) (sym named)) in
    subst (λ (es : List KeyedEntry). FindsKeyed es new) (sym whole)
    (finds_more (eq_by_cmp section_key_cmp) (keyed ++ before) (section_key name) r.now
    (entry_found old) (entry_found new) finds
    (gains_value (section_key name) r old new gains))

-- adding the sections of the three kinds
pub kinds_keyed : (target : Option ℕ) (v : Value) (keyed : List KeyedEntry)
    → ((keyed ++ kind_keyed target v Normal) ++ kind_keyed target v Dev) ++ kind_keyed target v Build
    ≡ keyed ++ sections_keyed target v
unfolding sections_keyed
kinds_keyed target v keyed =
    let one = kind_keyed target v Normal in
    let two = kind_keyed target v Dev in
    let three = kind_keyed target v Build in
    ap (λ es. es ++ three) (append_assoc keyed one two)
    ∙ (append_assoc keyed (one ++ two) three
    ∙ ap (λ es. keyed ++ es) (append_assoc one two three
    ∙ ap (λ es. one ++ (two ++ es)) (sym (append-nil three))))

-- adding the sections of one more target
target_next : (number : List ℕ → ℕ) (entries : List (Key × Value)) (i : ℕ) (entry : Key × Value)
    → i < length entries → entry ≡ slice_index_or entries i entry
    → targets_keyed number (take (i + 1) entries)
    ≡ targets_keyed number (take i entries) ++ target_keyed number entry
unfolding targets_keyed
target_next number entries i entry inside is = ap (flat_map (target_keyed number)) (take_more entries i entry inside)
    ∙ (flat_map-append (target_keyed number) (take i entries) (slice_index_or entries i entry ∷ [])
    ∙ (ap (λ es. flat_map (target_keyed number) (take i entries) ++ es)
    (append-nil (target_keyed number (slice_index_or entries i entry)))
    ∙ ap (λ e. flat_map (target_keyed number) (take i entries) ++ target_keyed number e) (sym is)))

pub targets_next : (number : List ℕ → ℕ) (entries : List (Key × Value)) (i : ℕ) (entry : Key × Value) (n : ℕ)
    (keyed : List KeyedEntry) → i < length entries → entry ≡ slice_index_or entries i entry → n ≡ number entry.0.name
    → (keyed ++ targets_keyed number (take i entries)) ++ sections_keyed (Some n) entry.1
    ≡ keyed ++ targets_keyed number (take (i + 1) entries)
targets_next number entries i entry n keyed inside is numbered =
    append_assoc keyed (targets_keyed number (take i entries)) (sections_keyed (Some n) entry.1)
    ∙ ap (λ es. keyed ++ es)
    (ap (λ (m : ℕ). targets_keyed number (take i entries) ++ sections_keyed (Some m) entry.1) numbered
    ∙ sym (target_next number entries i entry inside is))

pub section_key_is : (target other : Option ℕ) (kind : DepKind) (name named : List ℕ) → target ≡ other → name ≡ named
    → (let one : SectionKey = record { target = target; kind = kind; name = name } in one)
    ≡ record { target = other; kind = kind; name = named }
section_key_is target other kind name named one two =
    ap (λ (t : Option ℕ). record { target = t; kind = kind; name = name }) one
    ∙ ap (λ (n : List ℕ). record { target = other; kind = kind; name = n }) two

-- ---- the index of a tree

pub finds_none : (entries : Firsts SectionKey (Bor (Key × Value)))
    → FindsFirst (eq_by_cmp section_key_cmp) [] (first_at section_key_cmp entries) → FindsKeyed [] entries
finds_none entries finds = record { at = λ asked. ap option_copied (finds.at asked) }

index_from : (tree : Value) (keys : List (Key × Value)) (sections : Sections) → keys ≡ target_entries tree
    → NumbersTargets (map (λ e. e.0.name) keys) sections.targets
    → ((agrees : List ℕ → List ℕ → Bool) → ReportsAgreement agrees → FindsKeyed
    (sections_keyed None tree ++ targets_keyed (number_of agrees (map (λ e. e.0.name) keys)) keys) sections.entries)
    → IsIndexOf tree sections
index_from tree keys sections same numbers finds = record {
  targets = subst (λ (es : List (Key × Value)). NumbersTargets (map (λ e. e.0.name) es) sections.targets) same numbers;
  entries = subst (λ (es : List (Key × Value)). (agrees : List ℕ → List ℕ → Bool) → ReportsAgreement agrees → FindsKeyed
      (sections_keyed None tree ++ targets_keyed (number_of agrees (map (λ e. e.0.name) es)) es) sections.entries)
      same finds;
}

-- the index of a tree with target keys, and of one without
pub index_with : (tree : Value) (keys : List (Key × Value)) (sections : Sections)
    (own : Firsts SectionKey (Bor (Key × Value))) → keys ≡ target_entries tree
    → NumbersTargets (map (λ e. e.0.name) keys) sections.targets
    → FindsKeyed (sections_keyed None tree) own
    → ((agrees : List ℕ → List ℕ → Bool) → ReportsAgreement agrees → (names : List (List ℕ))
    → NumbersTargets names sections.targets → (keyed : List KeyedEntry) → FindsKeyed keyed own
    → FindsKeyed (keyed ++ targets_keyed (number_of agrees names) keys) sections.entries)
    → IsIndexOf tree sections
index_with tree keys sections own same numbers first more = index_from tree keys sections same numbers
    (λ agrees reports. more agrees reports (map (λ e. e.0.name) keys) numbers (sections_keyed None tree) first)

pub index_without : (tree : Value) (sections : Sections) → target_entries tree ≡ []
    → NumbersTargets [] sections.targets → FindsKeyed (sections_keyed None tree) sections.entries
    → IsIndexOf tree sections
unfolding targets_keyed
index_without tree sections none numbers first = index_from tree [] sections (sym none) numbers
    (λ agrees reports. subst (λ (es : List KeyedEntry). FindsKeyed es sections.entries)
    (sym (append-nil (sections_keyed None tree))) first)

-- ---- declarations by their section keys

-- the section key of a written declaration
abbrev section_key_of : (List ℕ → ℕ) → Written → SectionKey
section_key_of number w = record { target = option_map number w.target; kind = w.kind; name = w.key.name }

abbrev keyed_by : (List ℕ → ℕ) → Written → KeyedEntry
keyed_by number w = (section_key_of number w, entry_in w)

section_is : (number : List ℕ → ℕ) (target : Option (List ℕ)) (kind : DepKind) (entries : List (Key × Value))
    → map (keyed_by number) (map (written_with target kind) entries)
    ≡ map (keyed_at (option_map number target) kind) entries
section_is number target kind [] = refl
section_is number target kind (e ∷ es) =
    ap (λ ps. keyed_at (option_map number target) kind e ∷ ps) (section_is number target kind es)

kind_is : (number : List ℕ → ℕ) (target : Option (List ℕ)) (v : Value) (kind : DepKind)
    → map (keyed_by number) (section_in target v kind) ≡ kind_keyed (option_map number target) v kind
kind_is number target v kind = section_is number target kind (entries_at (section_name kind) v)

map-flat : {X Y Z : Type 0} (f : Y → Z) (g : X → List Y) (h : X → List Z) (xs : List X)
    → ((x : X) → map f (g x) ≡ h x) → map f (flat_map g xs) ≡ flat_map h xs
map-flat f g h [] same = refl
map-flat f g h (x ∷ xs) same = map-append f (g x) (flat_map g xs)
    ∙ (ap (λ ys. ys ++ map f (flat_map g xs)) (same x) ∙ ap (λ ys. h x ++ ys) (map-flat f g h xs same))

sections_are : (number : List ℕ → ℕ) (target : Option (List ℕ)) (v : Value)
    → map (keyed_by number) (sections_in target v) ≡ sections_keyed (option_map number target) v
unfolding sections_in sections_keyed
sections_are number target v = map-flat (keyed_by number) (section_in target v)
    (kind_keyed (option_map number target) v) kinds (kind_is number target v)

targets_are : (number : List ℕ → ℕ) (entries : List (Key × Value))
    → map (keyed_by number) (flat_map of_target entries) ≡ targets_keyed number entries
unfolding targets_keyed
targets_are number entries = map-flat (keyed_by number) of_target (target_keyed number) entries
    (λ entry. sections_are number (Some entry.0.name) entry.1)

-- all declarations of a manifest with their section keys
abbrev all_keyed : (List ℕ → ℕ) → Value → List KeyedEntry
all_keyed number tree = sections_keyed None tree ++ targets_keyed number (target_entries tree)

written_keyed : (number : List ℕ → ℕ) (tree : Value)
    → map (keyed_by number) (written_in tree) ≡ all_keyed number tree
unfolding written_in
written_keyed number tree =
    map-append (keyed_by number) (sections_in None tree) (flat_map of_target (target_entries tree))
    ∙ (ap (λ ps. ps ++ map (keyed_by number) (flat_map of_target (target_entries tree)))
    (sections_are number None tree)
    ∙ ap (λ ps. sections_keyed None tree ++ ps) (targets_are number (target_entries tree)))

-- ---- which declaration is found

is_eq-then : (r s : Ordering) → is_eq (ordering_then r s) ≡ is_eq r && is_eq s
is_eq-then Less s = refl
is_eq-then Equal s = refl
is_eq-then Greater s = refl

option_ties : (x y : Option ℕ) → is_eq (option_cmp nat_cmp x y) ≡ option_eq nat_eq x y
option_ties None None = refl
option_ties None (Some y) = refl
option_ties (Some x) None = refl
option_ties (Some x) (Some y) = is_eq-nat_cmp x y

section_key_ties : (a b : SectionKey) → eq_by_cmp section_key_cmp a b
    ≡ option_eq nat_eq a.target b.target && (kind_number a.kind == kind_number b.kind && same_text a.name b.name)
section_key_ties a b =
    let by_kind = nat_cmp (kind_number a.kind) (kind_number b.kind) in
    let by_name = slice_cmp nat_cmp a.name b.name in
    is_eq-then (option_cmp nat_cmp a.target b.target) (ordering_then by_kind by_name)
    ∙ (ap (λ t. t && is_eq (ordering_then by_kind by_name)) (option_ties a.target b.target)
    ∙ ap (λ t. option_eq nat_eq a.target b.target && t) (is_eq-then by_kind by_name
    ∙ (ap (λ t. t && is_eq by_name) (is_eq-nat_cmp (kind_number a.kind) (kind_number b.kind))
    ∙ ap (λ t. (kind_number a.kind == kind_number b.kind) && t) (sym (texts_ties a.name b.name)))))

-- the target of a written declaration is a target key of the tree
abbrev HasTarget : List (List ℕ) → Written → Type 0
HasTarget keys w = IfSome w.target (Contains keys)

entries_have : (keys : List (List ℕ)) (target : Option (List ℕ)) (kind : DepKind) → IfSome target (Contains keys)
    → (entries : List (Key × Value)) → AllByRecursion (HasTarget keys) (map (written_with target kind) entries)
entries_have keys target kind has [] = tt
entries_have keys target kind has (e ∷ es) = (has, entries_have keys target kind has es)

sections_have : (keys : List (List ℕ)) (target : Option (List ℕ)) (v : Value) → IfSome target (Contains keys)
    → AllByRecursion (HasTarget keys) (sections_in target v)
unfolding sections_in
sections_have keys target v has = all_flat (λ (kind : DepKind). Unit {0}) (HasTarget keys) (section_in target v)
    (λ kind _. entries_have keys target kind has (entries_at (section_name kind) v)) kinds (tt, (tt, (tt, tt)))

each_key : (keys : List (List ℕ)) (entries : List (Key × Value))
    → ((name : List ℕ) → Contains (map (λ e. e.0.name) entries) name → Contains keys name)
    → AllByRecursion (λ e. Contains keys e.0.name) entries
each_key keys [] within = tt
each_key keys (e ∷ es) within = (
  within e.0.name (Contains-first e.0.name (map (λ e. e.0.name) es)),
  each_key keys es (λ name is. within name (Contains-rest e.0.name (map (λ e. e.0.name) es) name is)),
)

written_have : (tree : Value) → AllByRecursion (HasTarget (target_keys tree)) (written_in tree)
unfolding written_in
written_have tree =
    let keys = target_keys tree in
    let entries = target_entries tree in
    all_append (HasTarget keys) (sections_in None tree) (flat_map of_target entries) (sections_have keys None tree tt)
    (all_flat (λ (e : Key × Value). Contains keys e.0.name) (HasTarget keys) of_target
    (λ e has. sections_have keys (Some e.0.name) e.1 has) entries (each_key keys entries (λ name is. is)))

module _ (agrees : List ℕ → List ℕ → Bool) (reports : ReportsAgreement agrees) (tree : Value) (d : Dependency) where
  abbrev number : List ℕ → ℕ
  number = number_of agrees (target_keys tree)

  -- the section key that a declaration asks for
  abbrev pub asked_key : SectionKey
  asked_key = record { target = option_map number d.target; kind = d.kind; name = key_name d }

  targets_report : (asked written : Option (List ℕ)) → IfSome written (Contains (target_keys tree))
      → option_eq nat_eq (option_map number asked) (option_map number written) ≡ option_eq agrees written asked
  targets_report None None has = refl
  targets_report None (Some w) has = refl
  targets_report (Some a) None has = refl
  targets_report (Some a) (Some w) has = tests_agree (nat_eq (number a) (number w)) (agrees w a)
      (λ e. numbers_report agrees reports (target_keys tree) w a has (sym ((Decides-eqb (number a) (number w)).0 e)))
      (λ e. (Decides-eqb (number a) (number w)).1 (sym (same_numbers agrees reports (target_keys tree) w a e)))

  is_declared : (w : Written) → HasTarget (target_keys tree) w
      → eq_by_cmp section_key_cmp asked_key (section_key_of number w) ≡ declares agrees d w
  unfolding declares
  is_declared w has = section_key_ties asked_key (section_key_of number w)
      ∙ ap (λ t. t && (kind_number d.kind == kind_number w.kind && same_text (key_name d) w.key.name))
      (targets_report d.target w.target has)

  by_test : (b : Bool) (w : Written) (o : Option (Key × Value)) (r : Option Written) → o ≡ option_map entry_in r
      → cond b (Some (entry_in w)) o ≡ option_map entry_in (cond b (Some w) r)
  by_test true w o r rest = refl
  by_test false w o r rest = rest

  found_among : (ws : List Written) → AllByRecursion (HasTarget (target_keys tree)) ws
      → lookup (eq_by_cmp section_key_cmp asked_key) (map (keyed_by number) ws)
      ≡ option_map entry_in (find (declares agrees d) ws)
  found_among [] all = refl
  found_among (w ∷ ws) all =
      let rest = lookup (eq_by_cmp section_key_cmp asked_key) (map (keyed_by number) ws) in
      ap (λ b. cond b (Some (entry_in w)) rest) (is_declared w all.0)
      ∙ by_test (declares agrees d w) w rest (find (declares agrees d) ws) (found_among ws all.1)

  -- the entry that the index finds for a declaration is the one that writes it
  pub found_by_key : (sections : Sections) → IsIndexOf tree sections
      → entry_found sections.entries asked_key ≡ found_in agrees tree d
  unfolding found_in
  found_by_key sections index =
      (index.entries agrees reports).at asked_key
      ∙ (ap (lookup (eq_by_cmp section_key_cmp asked_key)) (sym (written_keyed number tree))
      ∙ found_among (written_in tree) (written_have tree))
