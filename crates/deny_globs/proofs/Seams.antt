-- The end of a part of a list.
use Rattle.std.proofs.Common.{◌≡◌, ℕ, zero, suc, ◌+◌, ◌≤◌, List, [], ◌∷◌, ◌++◌, length, take, drop, sym, ap, subst}
use Rattle.std.proofs.Common.{arith, length-append}
use Rattle.std.proofs.Math.Nat.{zero-add, suc-add}
use Rattle.std.proofs.Math.Seq.{take-append_seam, drop-append_seam}

pub record Seam (whole : List ℕ) (at size : ℕ) (piece behind : List ℕ) : Type 0 where
  pub fits : at + size ≤ length whole
  pub prefix : take (at + size) whole ≡ take at whole ++ piece
  pub rest : drop (at + size) whole ≡ behind

seam_here : (whole : List ℕ) (at : ℕ) (piece behind : List ℕ) → at ≤ length whole → drop at whole ≡ piece ++ behind
    → Seam whole at (length piece) piece behind
seam_here whole zero piece behind p e = record {
  fits = rw (zero-add (length piece), e, length-append piece behind) (omega arith);
  prefix = rw (zero-add (length piece), e) (take-append_seam piece behind);
  rest = rw (zero-add (length piece), e) (drop-append_seam piece behind);
}
seam_here [] (suc at) piece behind p e = absurd (omega arith)
seam_here (c ∷ whole) (suc at) piece behind p e =
    let s = seam_here whole at piece behind (omega arith) e in
    record {
      fits = rw (suc-add at (length piece)) (let h = s.fits in omega arith);
      prefix = rw (suc-add at (length piece)) (ap (λ l. c ∷ l) s.prefix);
      rest = rw (suc-add at (length piece)) s.rest;
    }

pub seam : (whole : List ℕ) (at size : ℕ) (piece behind : List ℕ) → at ≤ length whole → drop at whole ≡ piece ++ behind
    → size ≡ length piece → Seam whole at size piece behind
seam whole at size piece behind p e s = subst (λ n. Seam whole at n piece behind) (sym s)
    (seam_here whole at piece behind p e)
