-- Bytes that are written one after the other.
use Rattle.std.proofs.Common.{◌≡◌, ℕ, List, [], ◌++◌, sym, subst, append_assoc, append-nil}
use Rattle.deny_std_table.specs.declared.draft.Draft.{Draft}
use Rattle.deny_std_table.specs.Spelling.{text_bytes}
use Rattle.deny_std_table.specs.private.Draft.{IsDraft, Writes}

-- no bytes were written
pub writes-none : (d : Draft) → Writes d d []
writes-none d = record { adds = λ xs is. subst (IsDraft d) (sym (append-nil xs)) is }

-- bytes that are written after others
pub writes-then : (old mid new : Draft) (xs ys : List ℕ) → Writes old mid xs → Writes mid new ys
    → Writes old new (xs ++ ys)
writes-then old mid new xs ys first second = record {
  adds = λ zs is. subst (IsDraft new) (append_assoc zs xs ys) (second.adds (zs ++ xs) (first.adds zs is));
}

pub writes-same : (old new : Draft) (xs ys : List ℕ) → xs ≡ ys → Writes old new xs → Writes old new ys
writes-same old new xs ys same is = subst (Writes old new) same is

-- the text of a span is written
pub writes-text : (old new : Draft) (text other : List ℕ) → text ≡ other → Writes old new (text_bytes text)
    → Writes old new (text_bytes other)
writes-text old new text other same is = subst (λ t. Writes old new (text_bytes t)) same is
