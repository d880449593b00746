-- Tables whose keys are read one after another: the faults that the helper keeps, and what the other keys read.
use Rattle.std.proofs.lemmas.Bool.{and_parts, not-true}
use Rattle.std.proofs.Common.{◌≡◌, ℕ, Bool, true, false, not, List, [], ◌∷◌, ◌++◌, map, Option, None, Some, refl, sym}
use Rattle.std.proofs.Common.{ap, subst, append-nil, ◌∙◌}
use Rattle.std.proofs.lemmas.List.{append_assoc}
use Rattle.std.specs.Prelude.{nat_eq, find, option_map, is_some, ◌||◌}
use Rattle.std.specs.List.{list_any}
use Rattle.std.specs.Cmp.Lexicographic.{pointwise}
use Rattle.deny_base.specs.declared.span.Span.{Span}
use Rattle.deny_toml.specs.error.ConfigFault.{ConfigFault}
use Rattle.deny_toml.specs.value.Value.{Value}
use Rattle.deny_toml.specs.Key.{Key}
use Rattle.deny_toml.specs.Calls.{has_name, table_in, value_at, without}
use Rattle.deny_toml.specs.Value.{span_in, entries_in, table_with}
use Rattle.deny_toml.specs.value.Content.TheViews.{out-roll-Table}
use Rattle.deny_toml.specs.Faults.{in_order}
use Rattle.deny_toml.specs.TableHelper.{unknown}
use Rattle.deny_toml.specs.error.DeserError.{DeserError}
use Rattle.deny_toml.proofs.FaultLaws.{in_order-empty}
use Rattle.deny_toml.specs.Faults.{Reports}
use Rattle.deny_toml.specs.TableHelper.{optional_faults, table_faults}
use Rattle.deny_toml.specs.TableHelper as helper
use Rattle.deny_toml.proofs.ArrayLaws.{under-none}
use Rattle.deny_cfg_entries.specs.Table.{Entries, Field, faults_of_fields, faults_in_table, faults_of_table, ReadsIn}
use Rattle.deny_cfg_entries.specs.Table.{ReadsTable, unknown_keys, is_other, are_apart, AreAlikeAt, DependsOn}
use Rattle.deny_cfg_entries.specs.Table.{TableState, after}
use Rattle.deny_cfg_entries.specs.Table.{after_all, ReadAt, ReadsIfThere, optional}
use Rattle.deny_cfg_entries.proofs.UnknownLaws.{left, left_unknown, same_is}
use Rattle.deny_cfg_entries.specs.declared.policy_key.PolicyKey.{PolicyKey}
use Rattle.deny_cfg_entries.specs.PolicyKey.{name_of}
use Rattle.std.specs.Prelude.{Result, Ok, Err, IfOk, if◌then◌else◌}
use Rattle.deny_base_lists.specs.declared.memory.NoMemory.{NoMemory}

module _ {T : Type 0} (faults_of : Value → List ConfigFault) (Reads : Value → T → Type 0) (name : List ℕ) where
  -- what the helper reads at a key that may be left out, where its value has no fault
  pub optional_read : (v : Option Value) (read : Option T) → helper.ReadsOptional faults_of Reads v read
      → optional_faults faults_of name v ≡ [] → ReadsIfThere Reads v read
  optional_read None read says none = says
  optional_read (Some v) None says none = says (under-none name (faults_of v) none)
  optional_read (Some v) (Some x) says none = says.1

pub read_result : {T : Type 0} (faults_of : Value → List ConfigFault) (Reads : Value → T → Type 0) (name : List ℕ)
    (r : Result (Option T) NoMemory) (key : PolicyKey) (s : TableState)
    → name ≡ name_of key → IfOk r (helper.ReadsOptional faults_of Reads (value_at name s.entries))
    → IfOk r (λ x. ReadAt (optional key faults_of) s (λ v. ReadsIfThere Reads v x))
read_result faults_of Reads name (Ok x) key s named says =
    let renamed : helper.ReadsOptional faults_of Reads (value_at (name_of key) s.entries) x =
    subst (λ n. helper.ReadsOptional faults_of Reads (value_at n s.entries) x) named says in
    record {
      says = λ none. optional_read faults_of Reads (name_of key) (value_at (name_of key) s.entries) x renamed
          none;
    }
read_result faults_of Reads name (Err e) key s named says = tt

-- taking out a key does not change what is found under another name
without_by : (name : List ℕ) (e : Key × Value) (es rest : Entries) (taken : Bool)
    → (taken ≡ true → has_name name e ≡ false)
    → (option_map (λ x. x.1) (find (has_name name) rest) ≡ option_map (λ x. x.1) (find (has_name name) es))
    → option_map (λ x. x.1) (find (has_name name) (if taken then es else (e ∷ rest)))
    ≡ option_map (λ x. x.1) (find (has_name name) (e ∷ es))
without_by name e es rest true apart same = rw (apart refl) refl
without_by name e es rest false apart same = found (has_name name e)
  where
    found : (b : Bool)
        → option_map (λ x. x.1) (if b then Some e else find (has_name name) rest)
        ≡ option_map (λ x. x.1) (if b then Some e else find (has_name name) es)
    found true = refl
    found false = same

pub value_at-without : (name other : List ℕ) (es : Entries) → pointwise nat_eq other name ≡ false
    → value_at name (without other es) ≡ value_at name es
unfolding without
value_at-without name other [] apart = refl
value_at-without name other (e ∷ es) apart =
    without_by name e es (without other es) (has_name other e)
    (λ taken. subst (λ n. pointwise nat_eq n name ≡ false) (sym (same_is e.0.name other taken)) apart)
    (value_at-without name other es apart)

-- ---- two tables that hold the same values at some keys

pub alike-itself : (fs : List Field) (es : Entries) → AreAlikeAt fs es es
alike-itself [] es = tt
alike-itself (f ∷ fs) es = (refl, alike-itself fs es)

pub alike-trans : (fs : List Field) (one other third : Entries) → AreAlikeAt fs one other → AreAlikeAt fs other third
    → AreAlikeAt fs one third
alike-trans [] one other third first second = tt
alike-trans (f ∷ fs) one other third first second =
    (first.0 ∙ second.0, alike-trans fs one other third first.1 second.1)

alike-sym : (fs : List Field) (one other : Entries) → AreAlikeAt fs one other → AreAlikeAt fs other one
alike-sym [] one other alike = tt
alike-sym (f ∷ fs) one other alike = (sym alike.0, alike-sym fs one other alike.1)

pub alike-without : (fs : List Field) (other : List ℕ) (es : Entries) → is_other other fs ≡ true
    → AreAlikeAt fs (without other es) es
alike-without [] other es apart = tt
alike-without (f ∷ fs) other es apart =
    let parts = and_parts (not (pointwise nat_eq other f.name)) (is_other other fs) apart in
    (value_at-without f.name other es (not-true _ parts.0), alike-without fs other es parts.1)

other_rest : (name : List ℕ) (fs gs : List Field) → is_other name (fs ++ gs) ≡ true → is_other name gs ≡ true
other_rest name [] gs other = other
other_rest name (f ∷ fs) gs other =
    other_rest name fs gs (and_parts (not (pointwise nat_eq name f.name)) (is_other name (fs ++ gs)) other).1

-- a table without some keys still holds the same values at others
alike-left : (fs gs : List Field) (es : Entries) → are_apart (fs ++ gs) ≡ true → AreAlikeAt gs (left fs es) es
alike-left [] gs es apart = alike-itself gs es
alike-left (f ∷ fs) gs es apart =
    let parts = and_parts (is_other f.name (fs ++ gs)) (are_apart (fs ++ gs)) apart in
    alike-trans gs (left fs (without f.name es)) (without f.name es) es (alike-left fs gs (without f.name es) parts.1)
    (alike-without gs f.name es (other_rest f.name fs gs parts.0))

faults-alike : (fs : List Field) (span : Span) (one other : Entries) → AreAlikeAt fs one other
    → faults_of_fields fs span one ≡ faults_of_fields fs span other
faults-alike [] span one other alike = refl
faults-alike (f ∷ fs) span one other alike =
    rw alike.0 (ap (λ rest. f.faults span (value_at f.name other) ++ rest) (faults-alike fs span one other alike.1))

-- the entries that are left after some keys were read, and the faults that were kept
pub after_all-entries : (fs : List Field) (s : TableState) → (after_all fs s).entries ≡ left fs s.entries
after_all-entries [] s = refl
after_all-entries (f ∷ fs) s = after_all-entries fs (after f s)

after_all-span : (fs : List Field) (s : TableState) → (after_all fs s).span ≡ s.span
after_all-span [] s = refl
after_all-span (f ∷ fs) s = after_all-span fs (after f s)

after_all-faults : (fs : List Field) (s : TableState) → are_apart fs ≡ true
    → (after_all fs s).faults ≡ s.faults ++ faults_of_fields fs s.span s.entries
after_all-faults [] s apart = sym (append-nil s.faults)
after_all-faults (f ∷ fs) s apart =
    let parts = and_parts (is_other f.name fs) (are_apart fs) apart in
    after_all-faults fs (after f s) parts.1
    ∙ ap (λ rest. (s.faults ++ f.faults s.span (value_at f.name s.entries)) ++ rest)
    (faults-alike fs s.span (without f.name s.entries) s.entries (alike-without fs f.name s.entries parts.0))
    ∙ append_assoc s.faults (f.faults s.span (value_at f.name s.entries)) (faults_of_fields fs s.span s.entries)

-- a list of faults is empty exactly where each of its parts is
pub none_first : (fs gs : List ConfigFault) → fs ++ gs ≡ [] → fs ≡ []
none_first [] gs e = refl
none_first (f ∷ fs) gs e = cc e

pub none_rest : (fs gs : List ConfigFault) → fs ++ gs ≡ [] → gs ≡ []
none_rest [] gs e = e
none_rest (f ∷ fs) gs e = cc e

entries_back : (entries : Entries) → entries_in (table_with entries) ≡ entries
entries_back entries = ap (λ r. r.entries) (out-roll-Table (record { entries = entries }))

-- the faults of a table of these entries
faults_with : (Entries → List Field) → Span → Entries → List ConfigFault
faults_with fields span entries =
    in_order (faults_of_fields (fields entries) span entries ++ map unknown (unknown_keys (fields entries) entries))

faults_with-is : (fields : Entries → List Field) (v : Value) (entries : Entries) (span : Span)
    → table_in v ≡ Some (table_with entries) → span ≡ span_in v
    → faults_with fields span entries ≡ faults_of_table fields v
unfolding faults_with
faults_with-is fields v entries span table at =
    ap (λ (es : Entries). in_order (faults_of_fields (fields es) span es ++ map unknown (unknown_keys (fields es) es)))
    (sym (entries_back entries))
    ∙ ap (λ p. faults_in_table fields p (Some (table_with entries))) at
    ∙ ap (faults_in_table fields (span_in v)) (sym table)

-- the faults of a table whose keys were all read are those that the helper keeps at the end
pub all_faults : (fields : Entries → List Field) (v : Value) (start end : TableState)
    → are_apart (fields start.entries) ≡ true
    → table_in v ≡ Some (table_with start.entries) → start.span ≡ span_in v → start.faults ≡ []
    → end ≡ after_all (fields start.entries) start
    → table_faults end.faults end.entries ≡ faults_of_table fields v
unfolding faults_with
all_faults fields v start end apart table span no_fault_yet read =
    let fs : List Field = fields start.entries in
    let kept : end.faults ≡ faults_of_fields fs start.span start.entries =
    ap (λ (t : TableState). t.faults) read ∙ after_all-faults fs start apart
    ∙ ap (λ before. before ++ faults_of_fields fs start.span start.entries) no_fault_yet in
    let rest : end.entries ≡ left fs start.entries =
    ap (λ (t : TableState). t.entries) read ∙ after_all-entries fs start in
    ap (λ all. table_faults all end.entries) kept
    ∙ ap (table_faults (faults_of_fields fs start.span start.entries)) rest
    ∙ left_unknown (faults_of_fields fs start.span start.entries) fs start.entries apart
    ∙ faults_with-is fields v start.entries start.span table span

pub no_field_faults : (fields : Entries → List Field) (v : Value) (entries : Entries) (span : Span)
    → table_in v ≡ Some (table_with entries) → span ≡ span_in v → faults_of_table fields v ≡ []
    → faults_of_fields (fields entries) span entries ≡ []
unfolding faults_with
no_field_faults fields v entries span table at none =
    none_first (faults_of_fields (fields entries) span entries) (map unknown (unknown_keys (fields entries) entries))
    (in_order-empty _ (faults_with-is fields v entries span table at ∙ none))

pub read_in : {T : Type 0} (Reads : Entries → T → Type 0) (v : Value) (entries : Entries) (x : T)
    → table_in v ≡ Some (table_with entries) → Reads entries x → ReadsTable Reads v x
read_in Reads v entries x table reads =
    subst (λ t. ReadsIn Reads t x) (sym table) (subst (λ es. Reads es x) (sym (entries_back entries)) reads)

-- an error that reports one list reports an equal one
pub reports_same : (xs ys : List ConfigFault) (e : DeserError) → xs ≡ ys → Reports xs e → Reports ys e
reports_same xs ys e same reported = subst (λ fs. Reports fs e) same reported

-- some key has a name exactly where there is a value under the name
any_by : {X Y : Type 0} (p : X → Bool) (f : X → Y) (x : X) (xs : List X) (b : Bool)
    → list_any p xs ≡ is_some (option_map f (find p xs))
    → (b || list_any p xs) ≡ is_some (option_map f (if b then Some x else find p xs))
any_by p f x xs true same = refl
any_by p f x xs false same = same

pub any_is : {X Y : Type 0} (p : X → Bool) (f : X → Y) (xs : List X)
    → list_any p xs ≡ is_some (option_map f (find p xs))
any_is p f [] = refl
any_is p f (x ∷ xs) = any_by p f x xs (p x) (any_is p f xs)

pub optional_mapped : {S T : Type 0} (Reads : Value → T → Type 0) (f : S → T) (v : Option Value) (read : Option S)
    → ReadsIfThere (λ w x. Reads w (f x)) v read → ReadsIfThere Reads v (option_map f read)
optional_mapped Reads f None None reads = refl
optional_mapped Reads f None (Some x) reads = cc reads
optional_mapped Reads f (Some v) None reads = reads
optional_mapped Reads f (Some v) (Some x) reads = reads

-- keys that are read behind others
pub after_all-append : (fs gs : List Field) (s : TableState) → after_all (fs ++ gs) s ≡ after_all gs (after_all fs s)
after_all-append [] gs s = refl
after_all-append (f ∷ fs) gs s = after_all-append fs gs (after f s)

faults-append : (fs gs : List Field) (span : Span) (es : Entries)
    → faults_of_fields (fs ++ gs) span es ≡ faults_of_fields fs span es ++ faults_of_fields gs span es
faults-append [] gs span es = refl
faults-append (f ∷ fs) gs span es =
    ap (λ rest. f.faults span (value_at f.name es) ++ rest) (faults-append fs gs span es)
    ∙ sym (append_assoc (f.faults span (value_at f.name es)) (faults_of_fields fs span es)
    (faults_of_fields gs span es))

-- keys that are read behind others have no fault in what the others leave, where none has a fault in the whole table
pub none_left : (fs gs : List Field) (start between : TableState) → are_apart (fs ++ gs) ≡ true
    → between ≡ after_all fs start
    → faults_of_fields (fs ++ gs) start.span start.entries ≡ []
    → faults_of_fields gs between.span between.entries ≡ []
none_left fs gs start between apart chain none =
    ap (λ (t : TableState). faults_of_fields gs t.span t.entries) chain
    ∙ ap (λ p. faults_of_fields gs p (after_all fs start).entries) (after_all-span fs start)
    ∙ ap (faults_of_fields gs start.span) (after_all-entries fs start)
    ∙ faults-alike gs start.span (left fs start.entries) start.entries (alike-left fs gs start.entries apart)
    ∙ none_rest (faults_of_fields fs start.span start.entries) (faults_of_fields gs start.span start.entries)
    (sym (faults-append fs gs start.span start.entries) ∙ none)

pub none_before : (fs gs : List Field) (span : Span) (es : Entries) → faults_of_fields (fs ++ gs) span es ≡ []
    → faults_of_fields fs span es ≡ []
none_before fs gs span es none =
    none_first (faults_of_fields fs span es) (faults_of_fields gs span es) (sym (faults-append fs gs span es) ∙ none)

-- what is read from keys behind others is the same as from the whole table
pub said_whole : {T : Type 0} (fs gs : List Field) (Reads : Entries → T → Type 0) (es : Entries) (said : T)
    → DependsOn gs Reads → are_apart (fs ++ gs) ≡ true → Reads (left fs es) said → Reads es said
said_whole fs gs Reads es said depends apart reads = depends (left fs es) es said (alike-left fs gs es apart) reads

pub said_left : {T : Type 0} (fs gs : List Field) (Reads : Entries → T → Type 0) (es : Entries) (said : T)
    → DependsOn gs Reads → are_apart (fs ++ gs) ≡ true → Reads es said → Reads (left fs es) said
said_left fs gs Reads es said depends apart reads =
    depends es (left fs es) said (alike-sym gs (left fs es) es (alike-left fs gs es apart)) reads
