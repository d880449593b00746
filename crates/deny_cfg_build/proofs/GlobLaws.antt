-- Sets of globs that grow by one pattern at a time.
use Rattle.std.proofs.Common.{◌≡◌, ◌++◌, ◌+◌, ◌<◌, ◌≤◌, ℕ, List, [], ◌∷◌, append_assoc, ap, get_or, length, map, sym}
use Rattle.std.proofs.Common.{subst, take, ◌∙◌}
use Rattle.std.proofs.lemmas.List.{map-append, take_all, take_more}
use Rattle.deny_globs.specs.Faults.{IsBadAt}
use Rattle.deny_globs.specs.Patterns.{Pattern}
use Rattle.deny_cfg_build.specs.Globs.{AreGlobsOf, IsGlobOf}
use Rattle.deny_cfg_build.specs.private.Globs.{Gathers, GathersMore}
use Rattle.deny_cfg_build.specs.Globs.AreGlobsOf.{none, one_more, left_out}
use Rattle.deny_cfg_build.specs.private.Globs.Gathers.{gathered, left_out as none_gathers}
use Rattle.deny_cfg_build.specs.declared.pattern.GlobPattern.{GlobPattern}

pub one_gathered : (text : List ℕ) (pattern : GlobPattern) (glob : Pattern) (patterns : List GlobPattern)
    (globs : List Pattern) (new : List GlobPattern) (set : List Pattern) → IsGlobOf text glob
    → new ≡ patterns ++ pattern ∷ [] → set ≡ globs ++ glob ∷ [] → Gathers text pattern patterns globs new set
one_gathered text pattern glob patterns globs new set is put added =
    subst (λ ps. Gathers text pattern patterns globs ps set) (sym put)
    (subst (λ gs. Gathers text pattern patterns globs (patterns ++ pattern ∷ []) gs) (sym added)
    (gathered glob is))

pub none_gathered : (text : List ℕ) (pattern : GlobPattern) (byte : ℕ) (patterns : List GlobPattern)
    (globs : List Pattern) → IsBadAt text byte → Gathers text pattern patterns globs patterns globs
none_gathered text pattern byte patterns globs bad = none_gathers byte bad

pub same_gathered : {text : List ℕ} {one other : GlobPattern} {patterns : List GlobPattern} {globs : List Pattern}
    {new : List GlobPattern} {set : List Pattern} → one ≡ other → Gathers text one patterns globs new set
    → Gathers text other patterns globs new set
same_gathered {text} {patterns = patterns} {globs = globs} {new = new} {set = set} is gathers =
    subst (λ pattern. Gathers text pattern patterns globs new set) is gathers

pub none_wanted : (text_of : GlobPattern → List ℕ) (patterns : List GlobPattern) (globs : List Pattern)
    → patterns ≡ [] → globs ≡ [] → AreGlobsOf text_of [] patterns globs
none_wanted text_of patterns globs none_there no_globs =
    subst (λ ps. AreGlobsOf text_of [] ps globs) (sym none_there)
    (subst (λ gs. AreGlobsOf text_of [] [] gs) (sym no_globs) none)

-- ---- one more pattern behind the others
module _ (text_of : GlobPattern → List ℕ) where
  are_one_more : (wanted patterns : List GlobPattern) (globs : List Pattern) (pattern : GlobPattern) (glob : Pattern)
      → IsGlobOf (text_of pattern) glob → AreGlobsOf text_of wanted patterns globs
      → AreGlobsOf text_of (wanted ++ pattern ∷ []) (patterns ++ pattern ∷ []) (globs ++ glob ∷ [])
  are_one_more [] _ _ pattern glob is none = one_more pattern glob is none
  are_one_more _ _ _ pattern glob is (one_more {wanted} {patterns} {globs} first its here rest) =
      one_more first its here (are_one_more wanted patterns globs pattern glob is rest)
  are_one_more _ _ _ pattern glob is (left_out {wanted} {patterns} {globs} first byte bad rest) =
      left_out first byte bad (are_one_more wanted patterns globs pattern glob is rest)

  are_one_less : (wanted patterns : List GlobPattern) (globs : List Pattern) (pattern : GlobPattern) (byte : ℕ)
      → IsBadAt (text_of pattern) byte → AreGlobsOf text_of wanted patterns globs
      → AreGlobsOf text_of (wanted ++ pattern ∷ []) patterns globs
  are_one_less [] _ _ pattern byte bad none = left_out pattern byte bad none
  are_one_less _ _ _ pattern byte bad (one_more {wanted} {patterns} {globs} first its here rest) =
      one_more first its here (are_one_less wanted patterns globs pattern byte bad rest)
  are_one_less _ _ _ pattern byte bad (left_out {wanted} {patterns} {globs} first other wrong rest) =
      left_out first other wrong (are_one_less wanted patterns globs pattern byte bad rest)

  gathered_next : (wanted patterns : List GlobPattern) (globs : List Pattern) (pattern : GlobPattern)
      (new : List GlobPattern) (set : List Pattern) → AreGlobsOf text_of wanted patterns globs
      → Gathers (text_of pattern) pattern patterns globs new set → AreGlobsOf text_of (wanted ++ pattern ∷ []) new set
  gathered_next wanted patterns globs pattern _ _ all (gathered glob is) =
      are_one_more wanted patterns globs pattern glob is all
  gathered_next wanted patterns globs pattern _ _ all (none_gathers byte bad) =
      are_one_less wanted patterns globs pattern byte bad all

  -- for patterns that are made of other items, one by one
  pub mapped_next : {X : Type 0} (make : X → GlobPattern) (done : List X) (x : X) (patterns : List GlobPattern)
      (globs : List Pattern) (new : List GlobPattern) (set : List Pattern)
      → AreGlobsOf text_of (map make done) patterns globs
      → Gathers (text_of (make x)) (make x) patterns globs new set
      → AreGlobsOf text_of (map make (done ++ x ∷ [])) new set
  mapped_next make done x patterns globs new set all gathers =
      subst (λ ws. AreGlobsOf text_of ws new set) (sym (map-append make done (x ∷ [])))
      (gathered_next (map make done) patterns globs (make x) new set all gathers)

  -- for patterns behind those that were read before
  pub more_next : {X : Type 0} (make : X → GlobPattern) (xs : List X) (i : ℕ) (default : X)
      (patterns : List GlobPattern) (globs : List Pattern) (mid : List GlobPattern) (set : List Pattern)
      (new : List GlobPattern) (last : List Pattern) → i < length xs
      → GathersMore text_of (map make (take i xs)) patterns globs mid set
      → Gathers (text_of (make (get_or xs i default))) (make (get_or xs i default)) mid set new last
      → GathersMore text_of (map make (take (i + 1) xs)) patterns globs new last
  more_next make xs i default patterns globs mid set new last inside so one wanted all =
      let x = get_or xs i default in
      subst (λ ws. AreGlobsOf text_of (wanted ++ ws) new last)
      (sym (map-append make (take i xs) (x ∷ [])) ∙ ap (map make) (sym (take_more xs i default inside)))
      (subst (λ ws. AreGlobsOf text_of ws new last) (append_assoc wanted (map make (take i xs)) (make x ∷ []))
      (gathered_next (wanted ++ map make (take i xs)) mid set (make x) new last (so wanted all) one))

  pub more_all : {X : Type 0} (make : X → GlobPattern) (xs : List X) (i : ℕ) (patterns : List GlobPattern)
      (globs : List Pattern) (new : List GlobPattern) (set : List Pattern) → length xs ≤ i
      → GathersMore text_of (map make (take i xs)) patterns globs new set
      → GathersMore text_of (map make xs) patterns globs new set
  more_all make xs i patterns globs new set past so wanted all =
      subst (λ ys. AreGlobsOf text_of (wanted ++ map make ys) new set) (take_all i xs past) (so wanted all)
