-- What the search for the poles promises, and the states between: `Running`, two rows in slices; `Stepped`, what a step leaves; `Ended`, that no step is left
-- to make; `PolesOf`, the fraction in lowest terms and the sum of its denominator's roots, of which one is right at most (`poles_unique`).
-- Assumes nothing.
use Rattle.std.specs.Prelude.{◌≢◌, ◌≡◌, refl, List, Option, None, Some, ℕ, zero, suc, ◌+◌, ◌-◌, ◌/◌, ◌≤◌, ◌<◌, length, get_or, set, replicate}
use Rattle.std.proofs.Common.{sym, ◌∙◌, ap, ap₂, subst, arith, get_or-set_same, get_or-set_other}
use Rattle.std.proofs.Math.Path.{fun_ext}
use Rattle.std.proofs.Math.Decide.{dec_lt}
use Rattle.std.proofs.lemmas.List.{length-replicate}
use Rattle.ring.specs.Ring
use Rattle.ring.specs.Ring.{CRing, pow}
use Rattle.ring.specs.Field.{Inverse, product, unit_cancel}
use Rattle.ring.specs.Identity.{solve2, solve3}
use Rattle.ring.specs.Identity.Ex.{:0, ◌:-◌, ◌:*◌, :-◌}
use Rattle.series.specs.Series.{Series, Seq, conv, zeros, const, conv_const}
use Rattle.series.specs.Degree.{Below, Leading, leading}
use Rattle.series.specs.Indeterminate.{ind}
use Rattle.series.specs.Binomial.{monic_power, ind_monic}
use Rattle.zmod.specs.Zmod.{Zmod, mk, minus, times, mk_nonzero, mk_apart}
use Rattle.zmod.specs.Prime.{Prime, prime_pos, inverse, Zmod_field}
use Rattle.zmod.specs.Residues.{Residue, Reduced, poly, poly_at, residues_poly, residues_zeros}
use Rattle.divisibility.specs.Coprime.{Coprime}
use Rattle.reconstruction.specs.Approximant.{Fits, multiple_nonzero}
use Rattle.reconstruction.proofs.Approximant.{proportional}
use Rattle.poles.specs.Rows.{Rows, rows_start, rows_stop, rows_coprime, rows_nonzero, rows_leading, rows_below, turn}
use Rattle.poles.specs.Words.{remainder, RowsOf, cancelling}
use Rattle.poles.specs.Steps.{Sized, Highest, highest_unit}

-- two rows, that of t first, whose remainder has degree k and begins with top and next
pub record Running (p : ℕ) (h t u : List ℕ) (k top next : ℕ) : Type 0 where
  pub size : Sized h u k
  pub same : length t ≡ length u
  pub low_h : Reduced p h
  pub low_t : Reduced p t
  pub low_u : Reduced p u
  pub top_below : top < p
  pub next_below : next < p
  pub rows : RowsOf p h k top next t u

-- the remainder of u has no coefficient from x^(n/2) on
pub record Ended (p : ℕ) (h u : List ℕ) (k : ℕ) : Type 0 where
  pub size : Sized h u k
  pub low_u : Reduced p u
  pub top : ℕ
  pub next : ℕ
  pub t : List ℕ
  pub rows : RowsOf p h k top next t u
  pub none : (i : ℕ) → (length h - 1) / 2 ≤ i → i < k → remainder p h u i ≡ mk p 0

-- what a step leaves in t, with the degree l, the highest coefficient c and the next one d of u's remainder
pub record Stepped (p : ℕ) (h t u t' : List ℕ) (k l c d : ℕ) : Type 0 where
  pub ended : c ≡ 0 → (l ≡ k) × (t' ≡ t) × Ended p h u k
  pub going : 0 < c → (l < k) × Running p h u t' l c d

pub stepped_degree : {p : ℕ} {h t u t' : List ℕ} {k l c d : ℕ} → Stepped p h t u t' k l c d → l ≤ k
stepped_degree {k = k} {l = l} {c = c} s = go (dec_lt 0 c)
  where
    go : Dec (0 < c) → l ≤ k
    go (yes g) = omega (arith, (s.going g).0)
    go (no g) = omega (arith, (s.ended (omega arith)).0)

-- there is nothing left to divide, by the degree that the step gives
pub stepped_ended : {p : ℕ} {h t u t' : List ℕ} {k l c d : ℕ} → Stepped p h t u t' k l c d → c ≡ 0 → Ended p h u l
stepped_ended {p} {h} {t} {u} s e = subst (Ended p h u) (sym (s.ended e).0) (s.ended e).2

-- minus the second coefficient of t over its first, that of x^a, if this is not 0
abbrev pub SumOf : (p a : ℕ) (t : Seq (Zmod p)) → Option ℕ → Type 0
SumOf p a t None = t a ≡ mk p 0
SumOf p a t (Some σ) = (σ < p) × (t a ≢ mk p 0) × (times p (mk p σ) (t a) ≡ minus p (t (a - 1)))

-- the fraction that fits the expansion h₁/x + .. + h_n/xⁿ, in lowest terms, with the denominator t, and the sum of t's roots if it has degree n/2
pub record PolesOf (p : ℕ) (h : List ℕ) (result : Option ℕ) : Type 0 where
  pub r : Seq (Zmod p)
  pub t : Seq (Zmod p)
  pub found : Fits (Zmod p) (length h - 1) (poly p h) ((length h - 1) / 2) r t
  pub nonzero : t ≢ zeros (Zmod p)
  pub lowest : Coprime (Zmod p) found.s t
  pub sum : SumOf p ((length h - 1) / 2) t result

-- the same of the words of u, where k is the degree of the remainder before u's
abbrev pub QuotientOf : (p : ℕ) (u : List ℕ) (k : ℕ) → Option ℕ → Type 0
QuotientOf p u k None = k ≢ length u - 1
QuotientOf p u k (Some σ) =
    (k ≡ length u - 1) × (σ < p) × (times p (mk p σ) (poly p u (length u - 1)) ≡ minus p (poly p u (length u - 1 - 1)))

-- ── the beginning

pub running_start : (p : ℕ) (h t u : List ℕ) → 1 < p → Sized h u (length h - 1) → length t ≡ length u → Reduced p h → Reduced p t → Reduced p u
    → get_or h 0 0 ≡ 0 → poly p t ≡ zeros (Zmod p) → poly p u ≡ const (Zmod p) (mk p 1) → Running p h t u (length h - 1) 1 0
running_start p h t u large size same low_h low_t low_u first t_is u_is = record {
  size = size;
  same = same;
  low_h = low_h;
  low_t = low_t;
  low_u = low_u;
  top_below = large;
  next_below = omega arith;
  rows = subst (λ x. Rows (Zmod p) (length h - 1) (poly p h) (length h - 1) (mk p 1) (mk p 0) x (poly p u)) (sym t_is)
      (subst (Rows (Zmod p) (length h - 1) (poly p h) (length h - 1) (mk p 1) (mk p 0) (zeros (Zmod p))) (sym u_is)
      (rows_start (Zmod p) (length h - 1) (poly p h) (omega (arith, size.words, size.some)) (poly_at p h 0 ∙ ap (mk p) first)));
}

-- ── a step

module _ (p : ℕ) (h t u : List ℕ) (k top next : ℕ) (run : Running p h t u k top next) where
  -- the slices hold no more than these words
  pub row_below : Below (Zmod p) (length h - k) (poly p u)
  row_below i g = (rows_leading (Zmod p) (length h - 1) (poly p h) run.rows).below i (omega (arith, run.size.words, run.size.most))

  pub before_below : Below (Zmod p) (length h - k) (poly p t)
  before_below i g = rows_below (Zmod p) (length h - 1) (poly p h) run.rows i (omega (arith, run.size.words, run.size.most))

module _ (p : ℕ) (h t u : List ℕ) (k top next l b : ℕ) (P : Prime p) (run : Running p h t u k top next) (high : Highest p h u k l b) where
  pub stepped_none : b ≡ 0 → Ended p h u k
  stepped_none e = record {
    size = run.size;
    low_u = run.low_u;
    top = top;
    next = next;
    t = t;
    rows = run.rows;
    none = high.none e;
  }

  module _ (pos : 0 < b) (d : ℕ) (d_is : Residue p (remainder p h u (l - 1)) d) (t' : List ℕ) (kept : length t' ≡ length t) (low : Reduced p t') where
    stepped : RowsOf p h l b d u t' → Running p h u t' l b d
    stepped rows = record {
      size = record {
        degree = run.size.degree;
        some = run.size.some;
        few = run.size.few;
        words = run.size.words;
        room = omega (arith, kept, run.same, run.size.room);
        least = omega (arith, high.least, run.size.words);
        most = omega (arith, high.inside pos, run.size.most);
      };
      same = omega (arith, kept, run.same);
      low_h = run.low_h;
      low_t = run.low_u;
      low_u = low;
      top_below = (high.class pos).below;
      next_below = d_is.below;
      rows = rows;
    }

    pub stepped_divided : Rows (Zmod p) (length h - 1) (poly p h) l (mk p b) (remainder p h u (l - 1)) (poly p u) (poly p t') → Running p h u t' l b d
    stepped_divided rows = stepped (subst (λ x. Rows (Zmod p) (length h - 1) (poly p h) l (mk p b) x (poly p u) (poly p t')) (sym d_is.class) rows)

    pub stepped_two : l + 1 ≡ k → poly p t' ≡ cancelling p top next b d (poly p t) (poly p u) → Running p h u t' l b d
    stepped_two e is =
        stepped
        (subst (λ x. Rows (Zmod p) (length h - 1) (poly p h) x (mk p b) (mk p d) (poly p u) (poly p t')) (sym at_l)
        (subst (Rows (Zmod p) (length h - 1) (poly p h) (suc j) (mk p b) (mk p d) (poly p u)) (sym is)
        (turn (Zmod p) (length h - 1) (poly p h) (subst (λ x. RowsOf p h x top next t u) at_k run.rows) (mk p b) (mk p d) _ _ _
        (ap (remainder p h u) (sym at_l) ∙ sym (high.class pos).class) (sym d_is.class)
        (subst (Inverse (Zmod p)) (sym (high.class pos).class) (highest_unit P high pos)) refl refl refl)))
      where
        j : ℕ
        j = l - 1

        at_l : l ≡ suc j
        at_l = omega (arith, high.least, run.size.words, run.size.some)

        at_k : k ≡ suc (suc j)
        at_k = omega (arith, at_l)

-- ── the end

module _ (p : ℕ) (h u : List ℕ) (k : ℕ) (P : Prime p) (end : Ended p h u k) where
  abbrev R : CRing
  R = Zmod p

  abbrev n : ℕ
  n = length h - 1

  half : n / 2 ≡ length u - 1
  half = omega (arith, end.size.words, end.size.room)

  -- where the remainder before has the degree n/2, the last word is not 0
  pub ended_last : k ≡ length u - 1 → 0 < get_or u (length u - 1) 0
  ended_last e = go (dec_lt 0 (get_or u (length u - 1) 0))
    where
      unit : Inverse R (poly p u (n - k))
      unit = (rows_leading R n (poly p h) end.rows).unit

      go : Dec (0 < get_or u (length u - 1) 0) → 0 < get_or u (length u - 1) 0
      go (yes l) = l
      go (no l) =
          let at : n - k ≡ length u - 1 = omega (arith, end.size.words, end.size.room) in
          let null : get_or u (length u - 1) 0 ≡ 0 = omega arith in
          absurd ((Zmod_field P).apart (sym unit.1 ∙ ap (λ x. times p x unit.0) (ap (poly p u) at ∙ poly_at p u (length u - 1) ∙ ap (mk p) null)
          ∙ Ring.zero-mul R unit.0))

  pub ended_poles : (result : Option ℕ) → QuotientOf p u k result → PolesOf p h result
  ended_poles result q = record {
    r = end.rows.r';
    t = poly p u;
    found = rows_stop R n (poly p h) end.rows (n / 2) (omega (arith, end.size.words)) (omega (arith, end.size.words, end.size.least)) end.none;
    nonzero = rows_nonzero R n (poly p h) end.rows (Zmod_field P).apart;
    lowest = rows_coprime R n (poly p h) end.rows (n / 2) _ _ end.none;
    sum = go result q;
  }
    where
      go : (result : Option ℕ) → QuotientOf p u k result → SumOf p (n / 2) (poly p u) result
      go None q = (rows_leading R n (poly p h) end.rows).below (n / 2) (omega (arith, q, end.size.words, end.size.room, end.size.least))
      go (Some σ) q = (
        q.1,
        (λ e. mk_nonzero (prime_pos P) (get_or u (length u - 1) 0) (ended_last q.0) (end.low_u (length u - 1))
            (sym (poly_at p u (length u - 1)) ∙ ap (poly p u) (sym half) ∙ e)),
        ap (λ i. times p (mk p σ) (poly p u i)) half ∙ q.2 ∙ ap (λ i. minus p (poly p u (i - 1))) (sym half),
      )

-- ── the rows to begin with

pub blank_zeros : (p n : ℕ) → 0 < p → Reduced p (replicate n 0) × (poly p (replicate n 0) ≡ zeros (Zmod p))
blank_zeros p n pos = ((residues_zeros pos n).reduced, residues_poly (residues_zeros pos n) (λ i l. refl))

pub blank_one : (p n : ℕ) → 1 < p → 1 ≤ n → Reduced p (set (replicate n 0) 0 1) × (poly p (set (replicate n 0) 0 1) ≡ const (Zmod p) (mk p 1))
blank_one p n large some = (low, fun_ext λ i. poly_at p (set (replicate n 0) 0 1) i ∙ go i)
  where
    first : ◌≡◌ {A = ℕ} (get_or (set (replicate n 0) 0 1) 0 0) 1
    first = get_or-set_same (replicate n 0) 0 1 0 (omega (arith, length-replicate {A = ℕ} n 0))

    other : (i : ℕ) → ◌≡◌ {A = ℕ} (get_or (set (replicate n 0) 0 1) (suc i) 0) (get_or (replicate n 0) (suc i) 0)
    other i = get_or-set_other (replicate n 0) 0 (suc i) 1 0 (omega arith)

    go : (i : ℕ) → mk p (get_or (set (replicate n 0) 0 1) i 0) ≡ const (Zmod p) (mk p 1) i
    go zero = ap (mk p) first
    go (suc i) = ap (mk p) (other i) ∙ sym (poly_at p (replicate n 0) (suc i)) ∙ ap (λ f. f (suc i)) (blank_zeros p n (omega arith)).1

    low : Reduced p (set (replicate n 0) 0 1)
    low zero = omega (arith, first)
    low (suc i) = omega (arith, other i, (blank_zeros p n (omega arith)).0 (suc i))

-- ── one answer is right at most, for an even n

module _ (p : ℕ) (h : List ℕ) (P : Prime p) (even : (length h - 1) / 2 + (length h - 1) / 2 ≡ length h - 1) where
  abbrev F : CRing
  F = Zmod p

  abbrev a : ℕ
  a = (length h - 1) / 2

  modulus : Leading F (a + a) (pow (Series F) (ind F) (length h - 1))
  modulus = subst (λ k. Leading F k (pow (Series F) (ind F) (length h - 1))) (sym even) (leading F _ _ (monic_power F (ind F) (ind_monic F) (length h - 1)))

  -- where one denominator has degree n/2, any other is a constant times it
  module _ (x y : Option ℕ) (one : PolesOf p h x) (other : PolesOf p h y) (top : other.t a ≢ mk p 0) where
    leads : Leading F a other.t
    leads = record { below = other.found.t_below; unit = inverse P _ top }

    times_one : (c : F.Car) × (one.t ≡ conv F (const F c) other.t)
    times_one = proportional F _ _ a a modulus one.r one.t other.r other.t one.found other.found leads other.lowest

    abbrev c : F.Car
    c = times_one.0

    at : (i : ℕ) → one.t i ≡ times p c (other.t i)
    at i = ap (λ f. f i) times_one.1 ∙ conv_const F c other.t i

    top_too : one.t a ≢ mk p 0
    top_too e = product F (Zmod_field P) c (other.t a) (multiple_nonzero F c one.t other.t times_one.1 one.nonzero) top (sym (at a) ∙ e)

    same_sum : (σ σ' : F.Car) → times p σ (one.t a) ≡ minus p (one.t (a - 1)) → times p σ' (other.t a) ≡ minus p (other.t (a - 1)) → σ ≡ σ'
    same_sum σ σ' e e' =
        Ring.sub-zero F σ σ'
        (unit_cancel F (one.t a) (F.add σ (minus p σ')) (inverse P _ top_too)
        (solve3 F (λ t s u. t :* (s :- u)) (λ t s u. s :* t :- u :* t) tt (one.t a) σ σ'
        ∙ ap₂ (λ v w. F.add v (minus p w)) (e ∙ ap (minus p) (at (a - 1)))
        (ap (times p σ') (at a) ∙ solve3 F (λ s c t. s :* (c :* t)) (λ s c t. c :* (s :* t)) tt σ' c (other.t a) ∙ ap (times p c) e')
        ∙ solve2 F (λ c t. :- (c :* t) :- c :* :- t) (λ c t. :0) tt c (other.t (a - 1))))

  pub poles_unique : (x y : Option ℕ) → PolesOf p h x → PolesOf p h y → x ≡ y
  poles_unique None None one other = refl
  poles_unique None (Some σ) one other = absurd (top_too None (Some σ) one other other.sum.1 one.sum)
  poles_unique (Some σ) None one other = absurd (top_too None (Some σ) other one one.sum.1 other.sum)
  poles_unique (Some σ) (Some σ') one other =
      ap Some (mk_apart {p = p} (prime_pos P) σ σ' one.sum.0 other.sum.0
      (same_sum (Some σ) (Some σ') one other other.sum.1 (mk p σ) (mk p σ') one.sum.2 other.sum.2))
