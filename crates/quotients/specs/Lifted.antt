-- A polynomial that was stored in a part of a slice, from place b on, where b is 0 or 1 and what is before it is 0: the slice holds it moved up by b places.
-- Assumes nothing.
use Rattle.std.specs.Prelude.{◌≡◌, List, ◌++◌, ℕ, ◌+◌, ◌-◌, ◌≤◌, ◌<◌, length, get_or, set, take, drop}
use Rattle.std.proofs.Common.{sym, ◌∙◌, ap, subst, arith, length-append, length-take, length-drop, length-set, get_or-set_same}
use Rattle.std.proofs.Math.Decide.{dec_lt}
use Rattle.slices.specs.Stored.{back_before, back_inside}
use Rattle.series.specs.Series.{Seq}
use Rattle.series.specs.Degree.{Below}
use Rattle.series.specs.Reversal.{shift, shift_low, shift_at}
use Rattle.zmod.specs.Zmod.{Zmod, mk}
use Rattle.zmod.specs.Residues.{Residue, Residues, residue_same, residues_at, residues_filled}

module _ (p b m : ℕ) (f : Seq (Zmod p)) (xs part : List ℕ) (pos : 0 < p) (few : b ≤ 1) (some : 0 < length xs) (size : m ≡ length xs - b)
    (long : length part ≡ m) (h : Residues p f part) where
  abbrev cleared : List ℕ
  cleared = set xs 0 0

  abbrev back : List ℕ
  back = take b cleared ++ (part ++ drop m (drop b cleared))

  inside : b + m ≤ length cleared
  inside = omega (arith, length-set xs 0 0)

  same : length back ≡ length xs
  same =
      omega (
        arith,
        length-append (take b cleared) (part ++ drop m (drop b cleared)),
        length-append part (drop m (drop b cleared)),
        length-take b cleared,
        length-drop m (drop b cleared),
        length-drop b cleared,
        length-set xs 0 0,
      )

  pub lifted : Residues p (shift (Zmod p) b f) back
  lifted = residues_filled {a = shift (Zmod p) b f} pos (λ i l. go i (omega (arith, same)) (dec_lt i b))
    where
      go : (i : ℕ) → i < length xs → Dec (i < b) → Residue p (shift (Zmod p) b f i) (get_or back i 0)
      go i l (yes k) =
          let first : i ≡ 0 = omega arith in
          let null : get_or back i 0 ≡ 0 = back_before cleared part b m inside long i k ∙ ap (λ j. get_or cleared j 0) first ∙ get_or-set_same xs 0 0 0 some in
          record { below = omega (arith, null); class = ap (mk p) null ∙ sym (shift_low (Zmod p) b f i k) }
      go i l (no k) =
          let e : b + (i - b) ≡ i = omega arith in
          subst (λ j. Residue p (shift (Zmod p) b f j) (get_or back j 0)) e
          (subst (Residue p (shift (Zmod p) b f (b + (i - b)))) (sym (back_inside cleared part b m inside long (i - b) (omega arith)))
          (residue_same (sym (shift_at (Zmod p) b f (i - b))) (residues_at h (i - b) (omega arith))))

-- and has b coefficients more
pub lifted_below : (p b n : ℕ) (f : Seq (Zmod p)) → Below (Zmod p) n f → Below (Zmod p) (b + n) (shift (Zmod p) b f)
lifted_below p b n f h i l =
    let e : b + (i - b) ≡ i = omega arith in
    ap (shift (Zmod p) b f) (sym e) ∙ shift_at (Zmod p) b f (i - b) ∙ h (i - b) (omega arith)
