-- Divisibility by products modulo W: with q i = 1 modulo W, the number n i modulo W is the only one below W that may be n / q. One product decides for
-- n < W; for n = W high + low, with both halves below W, the quotient is found by halves too.
-- Assumes nothing.
use mathlib.Core.Path.{◌≡◌, sym, ap, ◌∙◌, subst}
use mathlib.Core.Logic.{◌↔◌}
use Prim.Native.Nat.{ℕ, ◌+◌, ◌-◌, ◌*◌, ◌/◌, ◌%◌, ◌≤◌, ◌<◌, ◌∣◌}
use native.Mathlib.Nat as N
use native.Mathlib.Decide.{dec_lt}
use native.Mathlib.Omega.{arith}
use Rattle.zmod.specs.Remainder.{mul_mod_right, mul_mod_left}
use Rattle.zmod.specs.Natural.{solve_n3, solve_n4}
use Rattle.ring.specs.Identity.Ex.{◌:+◌, ◌:*◌}

-- M is above every quotient that can be, and M q is not beyond W
module _ (W M q i : ℕ) (pos : 0 < q) (unit : (q * i) % W ≡ 1) (room : M * q ≤ W) where
  -- the factor q i goes
  factor : (m : ℕ) → m < W → (m * (q * i)) % W ≡ m
  factor m h = sym (mul_mod_right m (q * i) W) ∙ ap (λ x. (m * x) % W) unit ∙ ap (λ x. x % W) (N.mul-one m) ∙ N.mod-eq_of_lt h

  -- a multiple of q gives back its quotient, modulo W
  multiple : (e : ℕ) → (q * e * i) % W ≡ e % W
  multiple e =
      ap (λ x. x % W) (solve_n3 (λ q e i. q :* e :* i) (λ q e i. e :* (q :* i)) tt tt tt q e i)
      ∙ sym (mul_mod_right e (q * i) W) ∙ ap (λ x. (e * x) % W) unit ∙ ap (λ x. x % W) (N.mul-one e)

  -- what is found, times q, is the number again, modulo W
  again : (n : ℕ) → n < W → ((n * i) % W * q) % W ≡ n
  again n h =
      mul_mod_left (n * i) q W ∙ ap (λ x. x % W) (solve_n3 (λ q n i. n :* i :* q) (λ q n i. n :* (q :* i)) tt tt tt q n i) ∙ factor n h

  small : (e : ℕ) → e < M → e < W
  small e h = omega (arith, room, N.mul-le-mul_left M pos, N.mul-one M)

  divides_small : (n : ℕ) → n < M * q → q ∣ n → (n * i) % W < M
  divides_small n h dv =
      let prod : q * (n / q) ≡ n = N.mul-div_cancel' q dv in
      let low : n / q < M = (N.div-lt_iff_lt-mul pos).1 h in
      subst (λ x. x < M) (sym (ap (λ x. (x * i) % W) (sym prod) ∙ multiple (n / q) ∙ N.mod-eq_of_lt (small (n / q) low))) low

  -- a quotient below M is one
  exact : (n : ℕ) → n < W → (n * i) % W < M → (n * i) % W * q ≡ n
  exact n word h =
      let t = (n * i) % W in
      let below : t * q < M * q = N.mul-lt-mul_of_pos_right h pos in
      sym (N.mod-eq_of_lt (omega (arith, below, room))) ∙ again n word

  pub one_product : (n : ℕ) → n < M * q → (q ∣ n) ↔ ((n * i) % W < M)
  one_product n h = (divides_small n h, λ t. subst (λ x. q ∣ x) (exact n (omega (arith, h, room)) t) (N.dvd-mul_left q ((n * i) % W)))

  -- ── by halves
  module _ (high low m t rest : ℕ) (high_below : high < M * q) (low_below : low < W)
      (m_is : m ≡ (low * i) % W) (t_is : t ≡ (m * q) / W) (rest_is : rest ≡ (W + high - t) % W) where
    -- m times q has the lower half of n
    split : W * t + low ≡ m * q
    split =
        ap (λ x. W * x + low) t_is
        ∙ ap (λ x. W * ((m * q) / W) + x) (sym (again low low_below) ∙ ap (λ x. (x * q) % W) (sym m_is))
        ∙ N.div-add-mod (m * q) W

    t_below : t < q
    t_below =
        let mw : m < W = subst (λ x. x < W) (sym m_is) (N.mod-lt (low * i) (omega arith)) in
        let w : 0 < W = omega arith in
        subst (λ x. x < q) (sym t_is)
        ((N.div-lt_iff_lt-mul w).1 (subst (λ x. m * q < x) (N.mul_comm W q) (N.mul-lt-mul_of_pos_right mw pos)))

    module _ (dv : q ∣ W * high + low) where
      n : ℕ
      n = W * high + low

      e : ℕ
      e = n / q

      c : ℕ
      c = e / W

      prod : q * e ≡ n
      unfolding e n
      prod = N.mul-div_cancel' q dv

      m_quotient : m ≡ e % W
      unfolding n
      m_quotient =
          m_is ∙ ap (λ x. (x * i) % W) (sym (N.mul-add-mod_self_left W high low ∙ N.mod-eq_of_lt low_below))
          ∙ mul_mod_left n i W ∙ ap (λ x. (x * i) % W) (sym prod) ∙ multiple e

      upper : W * (c * q + t) ≡ W * high
      unfolding c n
      upper =
          let whole : W * c + m ≡ e = ap (λ x. W * c + x) m_quotient ∙ N.div-add-mod e W in
          let spread : q * (W * c + m) ≡ W * (c * q) + m * q
          = solve_n4 (λ W q c m. q :* (W :* c :+ m)) (λ W q c m. W :* (c :* q) :+ m :* q) tt tt tt W q c m in
          omega (arith, spread, ap (λ x. q * x) whole, prod, split, N.mul-add W (c * q) t)

      same : c * q + t ≡ high
      same = N.eq_of_mul-eq-mul_left W (omega arith) (c * q + t) high upper

      halves_small : (rest * i) % W < M
      halves_small =
          let cq : c * q < M * q = omega (arith, same) in
          let cm : c < M = N.lt_of_mul-lt-mul_right q cq in
          let r : rest ≡ q * c
          = rest_is ∙ ap (λ x. x % W) (omega (arith, same)) ∙ N.add-mod_left W (c * q) ∙ N.mod-eq_of_lt (omega (arith, cq, room)) ∙ N.mul_comm c q in
          subst (λ x. x < M) (sym (ap (λ x. (x * i) % W) r ∙ multiple c ∙ N.mod-eq_of_lt (small c cm))) cm

    module _ (h : (rest * i) % W < M) where
      k : ℕ
      k = (rest * i) % W

      kq : k * q ≡ rest
      unfolding k
      kq = exact rest (subst (λ x. x < W) (sym rest_is) (N.mod-lt (W + high - t) (omega arith))) h

      k_below : k < M
      unfolding k
      k_below = h

      small_halves : q ∣ W * high + low
      small_halves = go (dec_lt high t)
        where
          go : Dec (high < t) → q ∣ W * high + low
          go (yes l) =
              let r : rest ≡ W + high - t = rest_is ∙ N.mod-eq_of_lt (omega (arith, t_below)) in
              let past : (k + 1) * q ≤ M * q = N.mul-le-mul_right q (omega (arith, k_below)) in
              absurd (omega (arith, r, kq, past, room, t_below, N.add-mul k 1 q, N.one-mul q))
          go (no l) =
              let r : rest ≡ high - t
              = rest_is ∙ ap (λ x. x % W) (omega (arith, l)) ∙ N.add-mod_left W (high - t) ∙ N.mod-eq_of_lt (omega (arith, high_below, room)) in
              let up : high ≡ t + k * q = omega (arith, r, kq) in
              let e : (m + W * k) * q ≡ W * high + low
              = solve_n4 (λ W q m k. (m :+ W :* k) :* q) (λ W q m k. m :* q :+ W :* (k :* q)) tt tt tt W q m k
              ∙ ap (λ x. x + W * (k * q)) (sym split)
              ∙ omega (arith, N.mul-add W t (k * q), ap (λ x. W * x) up) in
              subst (λ x. q ∣ x) e (N.dvd-mul_left q (m + W * k))

    pub by_halves : (q ∣ W * high + low) ↔ ((rest * i) % W < M)
    by_halves = (halves_small, small_halves)
