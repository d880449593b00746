-- The states at which walks start, with one more.
use Rattle.std.proofs.Common.{◌≡◌, ℕ, List, reverse, refl, sym, subst, inl, inr}
use Rattle.std.specs.Prelude.{◌⊎◌, ◌↔◌, Contains, [], Some, slice_get}
use Rattle.deny_base_lists.proofs.Options.{none_is_no_some}
use Rattle.deny_base_lists.proofs.Members.{contains_none}
use Rattle.deny_globs.specs.declared.starts.Starts.{Starts}
use Rattle.deny_globs.specs.declared.state.GlobState.{GlobState}
use Rattle.deny_globs.specs.declared.trie.TrieNode.{TrieNode}
use Rattle.deny_globs.specs.Starts.{AreStarts, Starting, SomeStarts}
use Rattle.deny_globs.specs.private.Starts.{KeepsStarts}
use Rattle.deny_globs.specs.private.States.{SomeLeads}
use Rattle.deny_globs.specs.Trie.{IsTrie, Finds, ends_here, goes_on}
use Rattle.deny_globs.specs.private.Trie.{Keeps}
use Rattle.deny_globs.proofs.TrieLemmas.{keeps_same}

map_left : {A B C : Type 0} → (A → B) → A ⊎ C → B ⊎ C
map_left f (inl a) = inl (f a)
map_left f (inr c) = inr c

map_right : {A B C : Type 0} → (B → C) → A ⊎ B → A ⊎ C
map_right f (inl a) = inl a
map_right f (inr b) = inr (f b)

keeps_starts : {old new : Starts} → Keeps old.beginnings.items new.beginnings.items
    → Keeps old.endings.items new.endings.items → KeepsStarts old new
keeps_starts prefix back = record {
  are = record { beginnings = prefix.trie; endings = back.trie };
  same = λ path number. (
    λ h. map_left (prefix.finds 0 path number).0 (map_right (back.finds 0 (reverse path) number).0 h),
    λ h. map_left (prefix.finds 0 path number).1 (map_right (back.finds 0 (reverse path) number).1 h),
  );
}

starts_same : {old new : Starts} → AreStarts old → new.beginnings.items ≡ old.beginnings.items
    → new.endings.items ≡ old.endings.items → KeepsStarts old new
starts_same are e f = keeps_starts (keeps_same are.beginnings e) (keeps_same are.endings f)

pub starts_stay : {starts : Starts} → AreStarts starts → KeepsStarts starts starts
starts_stay are = starts_same are refl refl

-- a trie without nodes finds nothing

no_node : {nodes : List TrieNode} {number found : ℕ} {path : List ℕ} → nodes ≡ [] → Finds nodes number path found → ⊥
no_node {number = number} e (ends_here node at has) = none_is_no_some (subst (λ l. slice_get l number ≡ Some node) e at)
no_node {number = number} e (goes_on edge rest) = none_is_no_some
    (subst (λ l. slice_get l number ≡ Some edge.node) e edge.at)

pub none_start : (starts : Starts) {path : List ℕ} {number : ℕ} → starts.beginnings.items ≡ []
    → starts.endings.items ≡ [] → Starting starts path number → ⊥
none_start starts e f (inl h) = no_node e h
none_start starts e f (inr h) = no_node f h

pub tree_none : {nodes : List TrieNode} → nodes ≡ [] → IsTrie nodes
tree_none {nodes} e = subst IsTrie (sym e) (record { within = λ n c next edge. none_is_no_some edge.at })

-- the states that are found are those at which a walk starts

pub found_starts : (starts : Starts) (path : List ℕ) (prefix ends : List TrieNode) (back none mid found : List ℕ)
    → none ≡ [] → prefix ≡ starts.beginnings.items → ends ≡ starts.endings.items → back ≡ reverse path →
    ((k : ℕ) → Contains mid k ↔ (Contains none k ⊎ Finds prefix 0 path k)) →
    ((k : ℕ) → Contains found k ↔ (Contains mid k ⊎ Finds ends 0 back k)) → (k : ℕ)
    → Contains found k ↔ Starting starts path k
found_starts starts path prefix ends back none mid found e f g b first second k = (
  λ h. to ((second k).0 h),
  λ h. (second k).1 (from h),
) where
  prefix_is : Finds prefix 0 path k ↔ Finds starts.beginnings.items 0 path k
  prefix_is = (λ h. subst (λ l. Finds l 0 path k) f h, λ h. subst (λ l. Finds l 0 path k) (sym f) h)

  back_to : Finds ends 0 back k → Finds starts.endings.items 0 (reverse path) k
  back_to h = subst (λ l. Finds l 0 (reverse path) k) g (subst (λ p. Finds ends 0 p k) b h)

  back_from : Finds starts.endings.items 0 (reverse path) k → Finds ends 0 back k
  back_from h = subst (λ p. Finds ends 0 p k) (sym b) (subst (λ l. Finds l 0 (reverse path) k) (sym g) h)

  begun : Contains none k ⊎ Finds prefix 0 path k → Starting starts path k
  begun (inl h) = contains_none (subst (λ l. Contains l k) e h)
  begun (inr h) = inl (prefix_is.0 h)

  to : Contains mid k ⊎ Finds ends 0 back k → Starting starts path k
  to (inl h) = begun ((first k).0 h)
  to (inr h) = inr (back_to h)

  from : Starting starts path k → Contains mid k ⊎ Finds ends 0 back k
  from (inl h) = inl ((first k).1 (inr (prefix_is.1 h)))
  from (inr h) = inr (back_from h)

pub leads_from_starts : {states : List GlobState} {starts : Starts} {found path : List ℕ}
    → ((k : ℕ) → Contains found k ↔ Starting starts path k) → (glob : ℕ)
    → SomeLeads states found glob path ↔ SomeStarts states starts glob path
leads_from_starts same glob = (
  λ s. record { number = s.number; starts_here = (same s.number).0 s.is_marked; leads = s.leads },
  λ s. record { number = s.number; is_marked = (same s.number).1 s.starts_here; leads = s.leads },
)
