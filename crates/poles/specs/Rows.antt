-- Two rows of Euclid's algorithm on xⁿ and H = h₀ xⁿ + h₁ xⁿ⁻¹ + .. + h_n, of whose remainders r = t H + s xⁿ nothing is stored but the two highest
-- coefficients: below xⁿ those of r are those of t H. `Rows k top next t t'`: r has degree k and begins with top and next, and r' is of smaller degree.
-- Assumes nothing.
use Rattle.std.specs.Prelude.{◌≢◌, ◌≡◌, refl, ℕ, suc, ◌+◌, ◌-◌, ◌≤◌, ◌<◌}
use Rattle.std.proofs.Common.{sym, ◌∙◌, ap, ap₂, arith}
use Rattle.std.proofs.Math.Path.{subst}
use Rattle.std.proofs.Math.Decide.{dec_lt}
use Rattle.ring.specs.Ring
use Rattle.ring.specs.Ring.{CRing, pow}
use Rattle.ring.specs.Field.{Inverse, unit_product}
use Rattle.ring.specs.Identity.{solve2, solve3}
use Rattle.ring.specs.Identity.Ex.{:0, ◌:+◌, ◌:*◌, :-◌}
use Rattle.series.specs.Series.{Series, Seq, conv, const, sums, scaled, zeros, head_then, conv_scalar}
use Rattle.series.specs.Degree.{Below, Leading, leading, below_drop}
use Rattle.series.specs.Indeterminate.{ind}
use Rattle.series.specs.Binomial.{monic_power, ind_monic, ind_power}
use Rattle.series.specs.Local.{conv_local}
use Rattle.series.specs.Reversal.{rev, rev_sub, rev_past, shift, conv_shift}
use Rattle.divisibility.specs.Coprime.{Coprime}
use Rattle.reconstruction.specs.Approximant.{Fits}
use Rattle.reconstruction.specs.Euclid as Euclid
use Rattle.reconstruction.proofs.Euclid as EuclidLaws
use Rattle.reconstruction.specs.Euclid.{Stage, Eliminated, eliminated_none, eliminated_more, eliminated_row}
use Rattle.euclid.specs.Combination.{linear, linear_poly, shifted_at, cancelled_two}

module _ (R : CRing) where
  -- c a + (y x + z) xˢ b
  abbrev pub combination : ℕ → R.Car → R.Car → R.Car → Seq R → Seq R → Seq R
  combination s c y z a b = sums R (scaled R c a) (shift R s (conv R (linear R y z) b))

  combination_is : (s : ℕ) (c y z : R.Car) (a b : Seq R)
      → sums R (conv R (const R c) a) (conv R (shift R s (linear R y z)) b) ≡ combination s c y z a b
  combination_is s c y z a b = ap₂ (sums R) (sym (conv_scalar R c a)) (conv_shift R s (linear R y z) b)

  module _ (n : ℕ) (h : Seq R) where
    abbrev pub H : Seq R
    H = rev R n h

    abbrev m : Seq R
    m = pow (Series R) (ind R) n

    pub record Rows (k : ℕ) (top next : R.Car) (t t' : Seq R) : Type 0 where
      pub r : Seq R
      pub r' : Seq R
      pub stage : Stage R m H n k (n - k) r r' t t'
      pub top_is : r k ≡ top
      pub next_is : r (k - 1) ≡ next

    -- what is below xⁿ in a row
    row_at : (r t s : Seq R) → r ≡ sums R (conv R t H) (conv R s m) → (i : ℕ) → i < n → r i ≡ conv R t H i
    row_at r t s e i l =
        ap (λ f. f i) e
        ∙ ap (R.add (conv R t H i))
        (conv_local R i s s m (zeros R) (λ j g. refl) (λ j g. ind_power R n j (λ e. omega arith)) ∙ ap (λ f. f i) (Ring.mul-zero (Series R) s))
        ∙ R.add-zero _

    -- xⁿ and H, with 0 and 1
    pub rows_start : 1 ≤ n → h 0 ≡ R.𝟘 → Rows n R.𝟙 R.𝟘 (zeros R) (const R R.𝟙)
    rows_start some first = record {
      r = m;
      r' = H;
      stage = subst (λ j. Stage R m H n n j m H (zeros R) (const R R.𝟙)) (omega arith)
          (Euclid.start R m H n (leading R n m (monic_power R (ind R) (ind_monic R) n))
          (below_drop R n H (λ i l. rev_past R n i h l) (rev_sub R n n h (omega arith) ∙ ap h (omega arith) ∙ first)));
      top_is = (monic_power R (ind R) (ind_monic R) n).one;
      next_is = ind_power R n (n - 1) (λ e. omega arith);
    }

    module _ {k : ℕ} {top next : R.Car} {t t' : Seq R} (rows : Rows k top next t t') where
      open rows use {r, r', stage}

      within : k ≤ n
      within = omega (arith, stage.degrees)

      remainder_at : (i : ℕ) → i < n → r' i ≡ conv R t' H i
      remainder_at = row_at r' t' stage.s' stage.row'

      -- a unit times what is left of r, and a multiple of r'
      eliminated_combination : (a x : Seq R) → Eliminated R m H n r r' t t' a x → (s : ℕ) (c y z : R.Car) → Inverse R c
          → Eliminated R m H n r r' t t' (combination s c y z a r') (combination s c y z x t')
      eliminated_combination a x done s c y z unit =
          subst (λ v. Eliminated R m H n r r' t t' v (combination s c y z x t')) (combination_is s c y z a r')
          (subst (Eliminated R m H n r r' t t' (sums R (conv R (const R c) a) (conv R (shift R s (linear R y z)) r'))) (combination_is s c y z x t')
          (eliminated_more R m H n r r' t t' a x done c unit (shift R s (linear R y z)) (linear_poly R s y z)))

      -- ── r' has degree l: its coefficients between l and k are 0

      module _ (l : ℕ) (l<k : l < k) (unit : Inverse R (conv R t' H l)) (gap : (i : ℕ) → l < i → i < k → conv R t' H i ≡ R.𝟘) where
        r'_degree : Leading R l r'
        r'_degree = record { below = λ i g. go i g (dec_lt i k); unit = subst (Inverse R) (sym (remainder_at l (omega (arith, within)))) unit }
          where
            go : (i : ℕ) → suc l ≤ i → Dec (i < k) → r' i ≡ R.𝟘
            go i g (yes e) = remainder_at i (omega (arith, within)) ∙ gap i (omega arith) e
            go i g (no e) = stage.r'_below i (omega arith)

        -- so the row that follows is one with a remainder of a smaller degree
        rows_step : (r'' t'' : Seq R) → Eliminated R m H n r r' t t' r'' t'' → Below R l r'' → Rows l (conv R t' H l) (conv R t' H (l - 1)) t' t''
        rows_step r'' t'' done below = record {
          r = r';
          r' = r'';
          stage = subst (λ j. Stage R m H n l j r' r'' t' t'') (omega (arith, within))
              (Euclid.step R m H n k (n - k) r r' t t' stage r'' t'' done l r'_degree l<k below);
          top_is = remainder_at l (omega (arith, within));
          next_is = remainder_at (l - 1) (omega (arith, within));
        }

        -- ── r' of a degree that is lower by more than one: r is divided one coefficient after the other

        -- what is left of r, with i + 1 coefficients at most of which w is the highest, and x in t's place
        pub record Reducing (i : ℕ) (w : R.Car) (x : Seq R) : Type 0 where
          pub left : Seq R
          pub done : Eliminated R m H n r r' t t' left x
          pub below : Below R (suc i) left
          pub w_is : left i ≡ w

        pub reducing_start : Reducing k top t
        reducing_start = record { left = r; done = eliminated_none R m H n r r' t t'; below = stage.r_degree.below; w_is = rows.top_is }

        module _ (i : ℕ) (w b z : R.Car) (x : Seq R) (now : Reducing i w x) (l≤i : l ≤ i) (i≤k : i ≤ k) (b_is : conv R t' H l ≡ b) (z_is : z ≡ R.neg w) where
          b_unit : Inverse R b
          b_unit = subst (Inverse R) b_is unit

          abbrev less_by : Seq R → Seq R → Seq R
          less_by = combination (i - l) b R.𝟘 z

          at : (j : ℕ) → less_by now.left r' ((i - l) + j) ≡ R.add (R.mul b (now.left ((i - l) + j))) (R.mul z (r' j))
          at j =
              shifted_at R (i - l) b R.𝟘 z now.left r' j
              ∙ solve3 R (λ x y z. x :+ (y :+ :0 :* z)) (λ x y z. x :+ y) tt (R.mul b (now.left ((i - l) + j))) (R.mul z (r' j)) (head_then R R.𝟘 r' j)

          past : Below R (suc i) (less_by now.left r')
          past j g =
              let e : (i - l) + (j - (i - l)) ≡ j = omega arith in
              ap (less_by now.left r') (sym e) ∙ at (j - (i - l))
              ∙ ap₂ (λ a c. R.add (R.mul b a) (R.mul z c)) (now.below _ (omega arith)) (r'_degree.below _ (omega arith))
              ∙ solve2 R (λ b z. b :* :0 :+ z :* :0) (λ b z. :0) tt b z

          highest : less_by now.left r' i ≡ R.𝟘
          highest =
              let e : (i - l) + l ≡ i = omega arith in
              ap (less_by now.left r') (sym e) ∙ at l
              ∙ ap₂ (λ a c. R.add (R.mul b a) (R.mul z c)) (ap now.left e ∙ now.w_is) (remainder_at l (omega (arith, within)) ∙ b_is)
              ∙ ap (λ a. R.add (R.mul b w) (R.mul a b)) z_is ∙ solve2 R (λ b w. b :* w :+ :- w :* b) (λ b w. :0) tt b w

          less : Below R i (less_by now.left r')
          less = below_drop R i _ past highest

          also : Eliminated R m H n r r' t t' (less_by now.left r') (less_by x t')
          also = eliminated_combination now.left x now.done (i - l) b R.𝟘 z b_unit

          -- one coefficient less,
          pub reducing_next : (j : ℕ) → i ≡ suc j → Reducing j (conv R (less_by x t') H j) (less_by x t')
          reducing_next j e = record {
            left = less_by now.left r';
            done = also;
            below = subst (λ a. Below R a (less_by now.left r')) e less;
            w_is = row_at (less_by now.left r') (less_by x t') _ (eliminated_row R m H n k (n - k) r r' t t' stage _ _ also) j (omega (arith, within));
          }

          -- until no more than those of r' are left
          pub reducing_end : i ≡ l → Rows l (conv R t' H l) (conv R t' H (l - 1)) t' (less_by x t')
          reducing_end e = rows_step (less_by now.left r') (less_by x t') also (subst (λ a. Below R a (less_by now.left r')) e less)

    -- ── r' of the degree k − 1: two coefficients of r are cancelled at once

    module _ {k : ℕ} {top next : R.Car} {t t' : Seq R} (rows : Rows (suc (suc k)) top next t t') (b₁ b₀ c y z : R.Car)
        (b₁_is : conv R t' H (suc k) ≡ b₁) (b₀_is : conv R t' H k ≡ b₀) (unit : Inverse R b₁) (c_is : c ≡ R.mul b₁ b₁)
        (y_is : y ≡ R.mul (R.neg top) b₁) (z_is : z ≡ R.add (R.mul top b₀) (R.mul (R.neg next) b₁)) where
      open rows use {r, r', stage}

      at₁ : r' (suc k) ≡ b₁
      at₁ = remainder_at rows (suc k) (omega (arith, within rows)) ∙ b₁_is

      at₀ : r' k ≡ b₀
      at₀ = remainder_at rows k (omega (arith, within rows)) ∙ b₀_is

      top_at : r (0 + suc (suc k)) ≡ top
      top_at = ap r (omega arith) ∙ rows.top_is

      next_at : r (0 + suc k) ≡ next
      next_at = ap r (omega arith) ∙ rows.next_is

      lower : Below R (suc k) (combination 0 c y z r r')
      lower i l =
          cancelled_two R 0 (suc k) r r' c y z stage.r'_below (λ i l. stage.r_degree.below i (omega arith)) (c_is ∙ ap (λ a. R.mul a a) (sym at₁))
          (y_is ∙ ap₂ (λ a b. R.mul (R.neg a) b) (sym top_at) (sym at₁))
          (z_is ∙ ap₂ R.add (ap₂ R.mul (sym top_at) (sym at₀)) (ap₂ (λ a b. R.mul (R.neg a) b) (sym next_at) (sym at₁))) i (omega arith)

      c_unit : Inverse R c
      c_unit = subst (Inverse R) (sym c_is) (unit_product R b₁ b₁ unit unit)

      pub turn : Rows (suc k) b₁ b₀ t' (combination 0 c y z t t')
      turn =
          subst (λ a. Rows (suc k) a b₀ t' (combination 0 c y z t t')) b₁_is
          (subst (λ a. Rows (suc k) (conv R t' H (suc k)) a t' (combination 0 c y z t t')) (ap (conv R t' H) (omega arith) ∙ b₀_is)
          (rows_step rows (suc k) (omega arith) (subst (Inverse R) (sym b₁_is) unit) (λ i g l. absurd (omega arith)) (combination 0 c y z r r')
          (combination 0 c y z t t') (eliminated_combination rows r t (eliminated_none R m H n r r' t t') 0 c y z c_unit) lower))

    -- ── the end: the coefficients of r' from a = n/2 on are 0

    module _ {k : ℕ} {top next : R.Car} {t t' : Seq R} (rows : Rows k top next t t') where
      open rows use {r', stage}

      pub rows_stop : (a : ℕ) → a + a ≡ n → a ≤ k → ((i : ℕ) → a ≤ i → i < k → conv R t' H i ≡ R.𝟘) → Fits R n h a r' t'
      rows_stop a whole least none = Euclid.stop R m H n k (n - k) rows.r r' t t' stage a a whole least (λ i l. go i l (dec_lt i k))
        where
          go : (i : ℕ) → a ≤ i → Dec (i < k) → r' i ≡ R.𝟘
          go i l (yes g) = remainder_at rows i (omega (arith, within rows)) ∙ none i l g
          go i l (no g) = stage.r'_below i (omega arith)

      -- in lowest terms
      pub rows_coprime : (a : ℕ) (whole : a + a ≡ n) (least : a ≤ k) (none : (i : ℕ) → a ≤ i → i < k → conv R t' H i ≡ R.𝟘)
          → Coprime R (rows_stop a whole least none).s t'
      unfolding rows_stop
      rows_coprime a whole least none =
          subst (λ s. Coprime R s t') (sym (EuclidLaws.stop_cofactor R m H n k (n - k) rows.r r' t t' stage a a whole least _))
          (Euclid.coprime R m H n k (n - k) rows.r r' t t' stage)

      pub rows_nonzero : R.𝟙 ≢ R.𝟘 → t' ≢ zeros R
      rows_nonzero = Euclid.nonzero R m H n k (n - k) rows.r r' t t' stage

      pub rows_leading : Leading R (n - k) t'
      rows_leading = stage.t'_degree

      pub rows_below : Below R (n - k) t
      rows_below = stage.t_below
