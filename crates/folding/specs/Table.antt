-- The table: flat, of rows of d words, of which the first d are xᵈ, .., x²ᵈ⁻¹ modulo xᵈ − n. Each row is x times the one before it: what is moved up out of
-- its d words is folded back by n, which is xᵈ.
-- Assumes nothing.
use Rattle.std.specs.Prelude.{◌≡◌, List, ◌∷◌, ◌++◌, ℕ, zero, suc, ◌+◌, ◌-◌, ◌*◌, ◌^◌, ◌≤◌, ◌<◌, length, get_or, take, drop}
use Rattle.std.proofs.Common.{sym, ◌∙◌, ap, ap₂, subst, arith, length-take}
use Rattle.std.proofs.Math.Path.{fun_ext}
use Rattle.std.proofs.Math.Nat as N
use Rattle.std.proofs.Math.Decide.{ℕ_discrete, dec_lt}
use Rattle.std.proofs.Math.ListN.{get_or-eq_default}
use Rattle.ring.specs.Ring
use Rattle.ring.specs.Ring.{CRing}
use Rattle.slices.specs.Stored.{Stored, part_at, back_before, back_inside, back_after}
use Rattle.series.specs.Series.{Seq, conv, sums, negs, scaled}
use Rattle.series.specs.Degree.{Below, Monic, sums_below, scaled_below}
use Rattle.series.specs.Indeterminate.{ind, conv_ind}
use Rattle.series.specs.Binomial.{ind_monic, ind_power, monic_power, poly_ind}
use Rattle.zmod.specs.Zmod.{Zmod, mk, plus, times}
use Rattle.zmod.specs.Residues.{Residue, Reduced, poly, poly_at, poly_past, poly_below, Residues, residues_poly, residues_filled}
use Rattle.divisibility.specs.Congruence.{Congruent, congruent_sym}
use Rattle.divisibility.specs.Divides.{divides_refl}
use Rattle.roots.specs.Power.{power_congruent, power_next}
use Rattle.modulo.specs.Modulo.{RemainderOf, remainder_copied}
use Rattle.modulo.specs.Power.{x_to}
use Rattle.folding.specs.Combination.{combination, combination_zero, combination_suc, folded_back}

-- row i, as a list and as a polynomial
abbrev pub row : ℕ → List ℕ → ℕ → List ℕ
row d t i = take d (drop (i * d) t)

abbrev pub rows : (p d : ℕ) → List ℕ → ℕ → Seq (Zmod p)
rows p d t i = poly p (row d t i)

-- the first n rows are xᵈ, xᵈ⁺¹, .. modulo g
pub record Table (p d : ℕ) (g : Seq (Zmod p)) (n : ℕ) (t : List ℕ) : Type 0 where
  pub powers : (i : ℕ) → i < n → Congruent (Zmod p) g (rows p d t i) (x_to p (d + i))

-- the monic polynomial xᵈ − n, where n has d words
abbrev pub monic_of : (p : ℕ) → List ℕ → Seq (Zmod p)
monic_of p n = sums (Zmod p) (x_to p (length n)) (negs (Zmod p) (poly p n))

-- a polynomial is xᵈ − n, where n is what is left of −g without its leading term
pub is_monic_of : {p : ℕ} {g : Seq (Zmod p)} {n : List ℕ} → Monic (Zmod p) (length n) g → Residues p (negs (Zmod p) g) n → monic_of p n ≡ g
is_monic_of {p} {g} {n} monic h = fun_ext λ k. go k (ℕ_discrete (length n) k) (dec_lt k (length n))
  where
    past : (k : ℕ) → length n ≤ k → plus p (x_to p (length n) k) (CRing.neg (Zmod p) (poly p n k)) ≡ x_to p (length n) k
    past k l =
        ap (λ x. plus p (x_to p (length n) k) (CRing.neg (Zmod p) x)) (poly_past p n k l)
        ∙ ap (plus p (x_to p (length n) k)) (Ring.neg-zero (Zmod p)) ∙ CRing.add-zero (Zmod p) _

    go : (k : ℕ) → Dec (length n ≡ k) → Dec (k < length n) → plus p (x_to p (length n) k) (CRing.neg (Zmod p) (poly p n k)) ≡ g k
    go k (yes e) _ =
        past k (omega arith) ∙ ap (x_to p (length n)) (sym e) ∙ (monic_power (Zmod p) (ind (Zmod p)) (ind_monic (Zmod p)) (length n)).one
        ∙ sym monic.one ∙ ap g e
    go k (no e) (yes l) =
        ap₂ (λ x y. plus p x (CRing.neg (Zmod p) y)) (ind_power (Zmod p) (length n) k e) (h.coefficients k l)
        ∙ Ring.zero-add (Zmod p) _ ∙ Ring.neg-neg (Zmod p) (g k)
    go k (no e) (no l) =
        past k (omega arith) ∙ ind_power (Zmod p) (length n) k e ∙ sym (monic.below k (omega arith))

-- ── the next row

-- a residue and a product of two are far below what a remainder takes
pub multiple_fits : (p x c y : ℕ) → p < 2 ^ 28 → x < p → c < p → y < p → x + c * y < 2 ^ 36 * p
multiple_fits p x c y hp hx hc hy =
    let product : c * y ≤ 268435456 * p = N.mul-le-mul {n₁ = c} {m₁ = y} {n₂ = 268435456} {m₂ = p} (omega arith) (omega arith) in
    omega arith

-- each word is the one before it
abbrev pub Before : List ℕ → ℕ → ℕ → Type 0
Before r j v = v ≡ get_or (0 ∷ r) j 0

pub before_all : (p : ℕ) (r₀ r : List ℕ) (k : ℕ) → length r ≤ k → Stored (Before r₀) r₀ r k → Reduced p r₀
    → Residues p (conv (Zmod p) (ind (Zmod p)) (poly p r₀)) r
before_all p r₀ r k end h low =
    residues_filled {a = conv (Zmod p) (ind (Zmod p)) (poly p r₀)} (omega (arith, low 0)) (λ j l. go j (h.filled j (omega arith)))
  where
    go : (j : ℕ) → Before r₀ j (get_or r j 0) → Residue p (conv (Zmod p) (ind (Zmod p)) (poly p r₀) j) (get_or r j 0)
    go zero e = record {
      below = omega (arith, e, low 0);
      class = ap (mk p) e ∙ sym (ap (λ f. f 0) (conv_ind (Zmod p) (poly p r₀)));
    }
    go (suc j) e = record {
      below = omega (arith, e, low j);
      class = ap (mk p) e ∙ sym (poly_at p r₀ j) ∙ sym (ap (λ f. f (suc j)) (conv_ind (Zmod p) (poly p r₀)));
    }

-- n is xᵈ
pub lowest_power : (p : ℕ) (n : List ℕ) → Congruent (Zmod p) (monic_of p n) (poly p n) (x_to p (length n))
lowest_power p n = congruent_sym (Zmod p) (monic_of p n) (x_to p (length n)) (poly p n) (divides_refl (Zmod p) (monic_of p n))

-- r moved up is s, and what was moved out is top
module _ (p top : ℕ) (n r s r' : List ℕ) (some : 0 < length n) (long : length r ≡ length n) (long_s : length s ≡ length n) (long' : length r' ≡ length n)
    (last : top ≡ get_or r (length r - 1) 0) (moved : Residues p (conv (Zmod p) (ind (Zmod p)) (poly p r)) s)
    (added : Residues p (sums (Zmod p) (poly p s) (scaled (Zmod p) (mk p top) (poly p n))) r') where
  abbrev up : Seq (Zmod p)
  up = conv (Zmod p) (ind (Zmod p)) (poly p r)

  up_at : (k : ℕ) → 0 < k → up k ≡ poly p r (k - 1)
  up_at zero pos = absurd (omega arith)
  up_at (suc k) pos = ap (λ f. f (suc k)) (conv_ind (Zmod p) (poly p r)) ∙ ap (poly p r) (omega arith)

  once : combination (Zmod p) 1 (λ i. mk p top) (λ i. poly p n) ≡ scaled (Zmod p) (mk p top) (poly p n)
  once = fun_ext λ k.
      combination_suc (Zmod p) 0 (λ i. mk p top) (λ i. poly p n) k
      ∙ ap (λ x. plus p x (times p (mk p top) (poly p n k))) (combination_zero (Zmod p) (λ i. mk p top) (λ i. poly p n) k)
      ∙ Ring.zero-add (Zmod p) _

  is : poly p r' ≡ sums (Zmod p) (poly p s) (scaled (Zmod p) (mk p top) (poly p n))
  is =
      residues_poly added (sums_below (Zmod p) (length r') (poly p s) (scaled (Zmod p) (mk p top) (poly p n)) (poly_below p s (length r') (omega arith))
      (scaled_below (Zmod p) (length r') (mk p top) (poly p n) (poly_below p n (length r') (omega arith))))

  pub times_x_is : RemainderOf p (length n) (monic_of p n) up r'
  times_x_is = record {
    reduced = added.reduced;
    below = poly_below p r' (length n) (omega arith);
    congruent = subst (λ f. Congruent (Zmod p) (monic_of p n) f up) (sym (is ∙ ap (sums (Zmod p) (poly p s)) (sym once)))
        (folded_back (Zmod p) (length n) 1 up (poly p s) (λ i. mk p top) (λ k l. up_at k (omega arith) ∙ poly_past p r (k - 1) (omega arith))
        (poly_below p s (length n) (omega arith)) (λ k l. moved.coefficients k (omega arith)) upper (monic_of p n) (λ i. poly p n)
        (λ i l. subst (λ k. Congruent (Zmod p) (monic_of p n) (poly p n) (x_to p k)) (omega arith) (lowest_power p n)));
  }
    where
      upper : (i : ℕ) → i < 1 → mk p top ≡ up (length n + i)
      upper i l =
          ap (mk p) last ∙ sym (poly_at p r (length r - 1)) ∙ ap (poly p r) (omega arith) ∙ sym (up_at (length n + i) (omega arith))

-- x times a remainder of xᵉ is one of xᵉ⁺¹
pub next_power : {p d : ℕ} (e : ℕ) {g : Seq (Zmod p)} {r r' : List ℕ} → RemainderOf p d g (x_to p e) r
    → RemainderOf p d g (conv (Zmod p) (ind (Zmod p)) (poly p r)) r' → RemainderOf p d g (x_to p (suc e)) r'
next_power {p} {d} e {g} {r} {r'} h k = record {
  reduced = k.reduced;
  below = k.below;
  congruent = power_congruent (Zmod p) g (ind (Zmod p)) (suc e) (conv (Zmod p) (ind (Zmod p)) (poly p r))
      (power_next (Zmod p) g (ind (Zmod p)) e (poly p r) h.congruent (poly_ind (Zmod p)) (d, h.below)) (poly p r') k.congruent;
}

-- ── the rows in their room: d of them and three of zeros

-- row j ends before the room does
pub row_inside : (d j : ℕ) → j ≤ d + 2 → j * d + d ≤ d * (d + 3)
row_inside d j le =
    omega (arith, N.mul-le-mul_right {m = j + 1} {n = d + 3} d (omega arith), N.add-mul j 1 d, N.one-mul d, N.mul_comm (d + 3) d)

-- the words of a table for a degree of up to 15
pub table_fits : (d : ℕ) → d ≤ 15 → d * (d + 3) ≤ 270
table_fits d few = N.mul-le-mul {n₁ = d} {m₁ = d + 3} {n₂ = 15} {m₂ = 18} few (omega arith)

pub row_at : (p d : ℕ) (t : List ℕ) (i k : ℕ) → k < d → rows p d t i k ≡ mk p (get_or t (i * d + k) 0)
row_at p d t i k l = poly_at p (row d t i) k ∙ ap (mk p) (part_at t (i * d) d k l)

pub row_below : (p d : ℕ) (t : List ℕ) (i : ℕ) → Below (Zmod p) d (rows p d t i)
row_below p d t i = poly_below p (row d t i) d (omega (arith, length-take d (drop (i * d) t)))

-- a row is what its words are
row_is : (p d : ℕ) (t : List ℕ) (i : ℕ) (f : Seq (Zmod p)) → Below (Zmod p) d f → ((k : ℕ) → k < d → mk p (get_or t (i * d + k) 0) ≡ f k) → rows p d t i ≡ f
row_is p d t i f short words = fun_ext λ k. go k (dec_lt k d)
  where
    go : (k : ℕ) → Dec (k < d) → rows p d t i k ≡ f k
    go k (yes l) = row_at p d t i k l ∙ words k l
    go k (no l) = row_below p d t i k (omega arith) ∙ sym (short k (omega arith))

-- the first i rows of the table of xᵈ − n are there, and what is behind the last row is reduced
pub record BegunTable (p : ℕ) (n : List ℕ) (i : ℕ) (t : List ℕ) : Type 0 where
  pub table : Table p (length n) (monic_of p n) i t
  pub reduced : (k : ℕ) → k < i * length n → get_or t k 0 < p
  pub behind : (k : ℕ) → length n * length n ≤ k → get_or t k 0 < p

-- n itself is the first power
pub begins : {p : ℕ} (n : List ℕ) {r : List ℕ} → Reduced p n → length r ≡ length n → Residues p (poly p n) r
    → RemainderOf p (length n) (monic_of p n) (x_to p (length n + 0)) r
begins {p} n {r} low long h =
    subst (λ e. RemainderOf p (length n) (monic_of p n) (x_to p e) r) (omega arith) (remainder_copied (omega arith)
    (record { reduced = low; below = poly_past p n; congruent = lowest_power p n }) h)

-- what is from `at` on was cleared
pub cleared_behind : (t part : List ℕ) (at len : ℕ) → at + len ≡ length t → length part ≡ len → ((j : ℕ) → get_or part j 0 ≡ 0)
    → (k : ℕ) → at ≤ k → get_or (take at t ++ (part ++ drop len (drop at t))) k 0 ≡ 0
cleared_behind t part at len whole long zeros k l = go (dec_lt k (at + len))
  where
    go : Dec (k < at + len) → get_or (take at t ++ (part ++ drop len (drop at t))) k 0 ≡ 0
    go (yes m) =
        let e : at + (k - at) ≡ k = omega arith in
        ap (λ u. get_or (take at t ++ (part ++ drop len (drop at t))) u 0) (sym e) ∙ back_inside t part at len (omega arith) long (k - at) (omega arith)
        ∙ zeros (k - at)
    go (no m) = back_after t part at len (omega arith) long k (omega arith) ∙ get_or-eq_default t 0 (omega arith)

module _ (p : ℕ) (n t : List ℕ) where
  abbrev d : ℕ
  d = length n

  abbrev g : Seq (Zmod p)
  g = monic_of p n

  pub begun_none : ((k : ℕ) → d * d ≤ k → get_or t k 0 < p) → BegunTable p n 0 t
  begun_none h = record {
    table = record { powers = λ i l. absurd (omega arith) };
    reduced = λ k l. absurd (omega arith);
    behind = h;
  }

  -- row i is put in: r, which is xᵈ⁺ⁱ
  pub begun_more : (i len : ℕ) (r part : List ℕ) → i < d → length t ≡ d * (d + 3) → len ≡ d → length part ≡ len → BegunTable p n i t
      → RemainderOf p d g (x_to p (d + i)) r → ((k : ℕ) → k < d → get_or part k 0 ≡ get_or r k 0)
      → BegunTable p n (i + 1) (take (i * d) t ++ (part ++ drop len (drop (i * d) t)))
  begun_more i len r part more size here long h power words = record {
    table = record { powers = λ j l. go j l (dec_lt j i) };
    reduced = λ k l. low k l (dec_lt k (i * d));
    behind = λ k l. omega (arith, back_after t part (i * d) len fits long k (omega (arith, ends_before i d more)), h.behind k l);
  }
    where
      t' : List ℕ
      t' = take (i * d) t ++ (part ++ drop len (drop (i * d) t))

      -- a row ends before a later one
      ends_before : (j k : ℕ) → j < k → j * d + d ≤ k * d
      ends_before j k l = omega (arith, N.mul-le-mul_right {m = j + 1} {n = k} d (omega arith), N.add-mul j 1 d, N.one-mul d)

      fits : i * d + len ≤ length t
      fits = omega (arith, row_inside d i (omega arith))

      new : rows p d t' i ≡ poly p r
      new = row_is p d t' i (poly p r) power.below (λ k l.
          ap (mk p) (back_inside t part (i * d) len fits long k (omega arith) ∙ words k l) ∙ sym (poly_at p r k))

      old : (j : ℕ) → j < i → rows p d t' j ≡ rows p d t j
      old j l = row_is p d t' j (rows p d t j) (row_below p d t j) (λ k m.
          ap (mk p) (back_before t part (i * d) len fits long (j * d + k) (omega (arith, ends_before j i l)))
          ∙ sym (row_at p d t j k m))

      go : (j : ℕ) → j < i + 1 → Dec (j < i) → Congruent (Zmod p) g (rows p d t' j) (x_to p (d + j))
      go j l (yes m) = subst (λ f. Congruent (Zmod p) g f (x_to p (d + j))) (sym (old j m)) (h.table.powers j m)
      go j l (no m) =
          let e : i ≡ j = omega arith in
          subst (λ j. Congruent (Zmod p) g (rows p d t' j) (x_to p (d + j))) e
          (subst (λ f. Congruent (Zmod p) g f (x_to p (d + i))) (sym new) power.congruent)

      low : (k : ℕ) → k < (i + 1) * d → Dec (k < i * d) → get_or t' k 0 < p
      low k l (yes m) = omega (arith, back_before t part (i * d) len fits long k m, h.reduced k m)
      low k l (no m) =
          let e : i * d + (k - i * d) ≡ k = omega arith in
          let j : ℕ = k - i * d in
          let inner : j < d = omega (arith, N.add-mul i 1 d, N.one-mul d) in
          omega (
            arith,
            ap (λ u. get_or t' u 0) e,
            back_inside t part (i * d) len fits long j (omega arith),
            words j inner,
            power.reduced j,
          )

  pub begun_all : (i : ℕ) → i ≡ d → BegunTable p n i t → (Reduced p t) × (Table p d g d t)
  begun_all i e h = (λ k. go k (dec_lt k (d * d)), subst (λ m. Table p d g m t) e h.table)
    where
      go : (k : ℕ) → Dec (k < d * d) → get_or t k 0 < p
      go k (yes l) = h.reduced k (subst (λ m. k < m * d) (sym e) l)
      go k (no l) = h.behind k (omega arith)
