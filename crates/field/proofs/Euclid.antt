-- Euclid's algorithm for the inverse of a modulo a prime p: what holds before each turn, `Turn`, at the start, after a turn, and what it gives at the end.
-- Assumes nothing.
use mathlib.Core.Path.{◌≡◌, sym, ◌∙◌, ap, ap₂, subst}
use Prim.Native.Nat.{ℕ, ◌+◌, ◌-◌, ◌*◌, ◌/◌, ◌%◌, ◌<◌, ◌≤◌, ◌∣◌}
use native.Mathlib.Nat as N
use native.Mathlib.Omega.{arith}
use Rattle.ring.specs.Identity.{solve1, solve3, solve5}
use Rattle.ring.specs.Identity.Ex.{:0, :1, ◌:+◌, ◌:-◌, ◌:*◌, :-◌}
use Rattle.zmod.specs.Zmod.{Zmod, mk, plus, times, minus, mk_add, mk_mul, mk_self}
use Rattle.zmod.specs.Prime.{Prime, prime_pos}
use Rattle.zmod.specs.Residues.{Residue}
use Rattle.field.specs.Inverse.{InverseOf}
use Rattle.field.proofs.Laws.{mk_minus}

-- x and y are remainders, −t a and u a up to the sign s
pub record Turn (p a x y t u s : ℕ) : Type 0 where
  pub positive : 0 < y
  pub falls : y < x
  pub most : x ≤ p
  pub whole : x * u + y * t ≡ p
  pub sign_positive : 0 < s
  pub sign_below : s < p
  pub before : mk p x ≡ minus p (times p (mk p s) (times p (mk p t) (mk p a)))
  pub now : mk p y ≡ times p (mk p s) (times p (mk p u) (mk p a))

pub start : {p : ℕ} (a : ℕ) → Prime p → 0 < a → a < p → Turn p a p a 0 1 1
start {p} a P pos low = record {
  positive = pos;
  falls = low;
  most = omega arith;
  whole = omega arith;
  sign_positive = omega arith;
  sign_below = P.above_one;
  before = mk_self (prime_pos P) ∙ solve1 (Zmod p) (λ a. :0) (λ a. :- (:1 :* (:0 :* a))) tt (mk p a);
  now = solve1 (Zmod p) (λ a. a) (λ a. :1 :* (:1 :* a)) tt (mk p a);
}

module _ {p a x y t u s : ℕ} (P : Prime p) (T : Turn p a x y t u s) where
  abbrev q : ℕ
  q = x / y

  abbrev r : ℕ
  r = x % y

  split : q * y + r ≡ x
  split = N.div-add-mod' x y

  -- the sum stays p
  whole_next : y * (t + q * u) + r * u ≡ p
  whole_next =
      omega (
        arith,
        T.whole,
        sym (ap (λ n. n * u) split) ∙ N.add-mul (q * y) r u,
        N.mul-add y t (q * u),
        sym (N.mul_assoc y q u) ∙ ap (λ n. n * u) (N.mul_comm y q),
      )

  pub multiple_most : t + q * u ≤ p
  multiple_most = omega (arith, whole_next, T.positive, N.mul-le-mul {n₁ = 1} {m₁ = t + q * u} {n₂ = y} {m₂ = t + q * u} T.positive (omega arith))

  module _ (more : 1 < y) where
    -- y does not divide p
    remains : 0 < r
    remains = N.pos_of_ne-zero λ e.
        P.undivided y more (omega (arith, T.falls, T.most))
        (subst (λ n. y ∣ n) (omega (arith, whole_next, ap (λ n. n * u) e ∙ N.zero-mul u)) (N.dvd-mul_right y (t + q * u)))

    now_next : mk p r ≡ times p (mk p (p - s)) (times p (mk p (t + q * u)) (mk p a))
    now_next =
        solve3 (Zmod p) (λ q y r. r) (λ q y r. q :* y :+ r :- q :* y) tt (mk p q) (mk p y) (mk p r)
        ∙ ap₂ (λ x y. plus p x (minus p (times p (mk p q) y)))
        (ap (λ z. plus p z (mk p r)) (sym (mk_mul p q y)) ∙ sym (mk_add p (q * y) r) ∙ ap (mk p) split ∙ T.before) T.now
        ∙ solve5 (Zmod p) (λ s t u q a. :- (s :* (t :* a)) :- q :* (s :* (u :* a))) (λ s t u q a. (:- s) :* ((t :+ q :* u) :* a)) tt (mk p s) (mk p t) (mk p u)
        (mk p q) (mk p a)
        ∙ ap₂ (λ s t. times p s (times p t (mk p a))) (sym (mk_minus p s T.sign_below))
        (ap (plus p (mk p t)) (sym (mk_mul p q u)) ∙ sym (mk_add p t (q * u)))

    pub next : Turn p a y r u (t + q * u) (p - s)
    next = record {
      positive = remains;
      falls = N.mod-lt x T.positive;
      most = omega (arith, T.falls, T.most);
      whole = whole_next;
      sign_positive = omega (arith, T.sign_below);
      sign_below = omega (arith, T.sign_positive, T.sign_below);
      before =
          T.now
          ∙ solve3 (Zmod p) (λ s u a. s :* (u :* a)) (λ s u a. :- ((:- s) :* (u :* a))) tt (mk p s) (mk p u) (mk p a)
          ∙ ap (λ z. minus p (times p z (times p (mk p u) (mk p a)))) (sym (mk_minus p s T.sign_below));
      now = now_next;
    }

  pub found : {i : ℕ} → y ≤ 1 → Residue p (times p (mk p s) (mk p u)) i → InverseOf p a i
  found last h = record {
    below = h.below;
    unit =
        ap (times p (mk p a)) h.class ∙ solve3 (Zmod p) (λ a s u. a :* (s :* u)) (λ a s u. s :* (u :* a)) tt (mk p a) (mk p s) (mk p u)
        ∙ sym T.now ∙ ap (mk p) (omega (arith, T.positive));
  }
