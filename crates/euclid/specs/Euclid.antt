-- Euclid's loop on two slices: `GcdDegree a b n`, n is the degree of a greatest common divisor; `Reached`, what holds of the words that are left.
-- Assumes nothing.
use Rattle.std.specs.Prelude.{◌≡◌, List, ℕ, ◌-◌, ◌<◌, length, take}
use Rattle.std.proofs.Common.{subst, arith, length-take}
use Rattle.ring.specs.Ring.{CRing}
use Rattle.series.specs.Series.{Seq}
use Rattle.zmod.specs.Zmod.{Zmod}
use Rattle.zmod.specs.Prime.{Prime}
use Rattle.zmod.specs.Residues.{poly, poly_past, Reduced, reduced_take}
use Rattle.series.specs.Degree.{below_zeros}
use Rattle.divisibility.specs.Congruence.{congruent_refl}
use Rattle.divisibility.specs.Gcd.{Gcd, gcd_step, gcd_zeros}
use Rattle.euclid.specs.Words.{Trimmed, Leads, take_poly, trimmed_leads, leads_leading}
use Rattle.euclid.specs.Pseudo.{PseudoRemainder, pseudo_keeps}

-- n is the degree of a greatest common divisor of a and b
abbrev pub GcdDegree : (R : CRing) (a b : Seq R) → ℕ → Type 0
GcdDegree R a b n = (c : Seq R) × Gcd R a b n c

gcd_sym : (R : CRing) (a b : Seq R) (n : ℕ) (c : Seq R) → Gcd R a b n c → Gcd R b a n c
gcd_sym R a b n c = gcd_step R b a b (congruent_refl R a b) n c

-- the words that are left of both: a's last one is not 0, nor b's if it has any, and the greatest common divisors of both are some of A and B
pub record Reached (p : ℕ) (A B : Seq (Zmod p)) (a b : List ℕ) : Type 0 where
  pub left : Leads p a
  pub reduced : Reduced p b
  pub right : 0 < length b → Leads p b
  pub keeps : (k : ℕ) (c : Seq (Zmod p)) → Gcd (Zmod p) (poly p a) (poly p b) k c → Gcd (Zmod p) A B k c

pub pseudo_degree : {p n k : ℕ} {b A : Seq (Zmod p)} {r : List ℕ} → PseudoRemainder p n b A r → GcdDegree (Zmod p) b (poly p r) k → GcdDegree (Zmod p) b A k
pseudo_degree {k = k} h (c, G) = (c, pseudo_keeps h k c G)

-- what a step leaves, and the words that are left then
module _ {p n : ℕ} {b A : Seq (Zmod p)} {r : List ℕ} (t : Trimmed r n) (h : PseudoRemainder p n b A r) where
  left_reduced : Reduced p (take n r)
  left_reduced = reduced_take r (omega (arith, h.reduced 0)) n h.reduced

  left_leads : 0 < length (take n r) → Leads p (take n r)
  left_leads pos = trimmed_leads p t h.reduced (omega (arith, length-take n r))

  left_keeps : (k : ℕ) (c : Seq (Zmod p)) → Gcd (Zmod p) b (poly p (take n r)) k c → Gcd (Zmod p) b A k c
  left_keeps k c G = pseudo_keeps h k c (subst (λ s. Gcd (Zmod p) b s k c) (take_poly p r h.below) G)

pub reached_first : {p n : ℕ} {B : Seq (Zmod p)} {a b : List ℕ} → Leads p a → Trimmed b n → PseudoRemainder p n (poly p a) B b
    → Reached p (poly p a) (poly p b) a (take n b)
reached_first {p} {n} {B} {a} {b} d t h = record {
  left = d;
  reduced = left_reduced t h;
  right = left_leads t h;
  keeps = λ k c G. subst (λ s. Gcd (Zmod p) (poly p a) s k c) (take_poly p b h.below) G;
}

pub reached_end : {p : ℕ} {A B : Seq (Zmod p)} {a b : List ℕ} → Prime p → Reached p A B a b → length b ≡ 0 → GcdDegree (Zmod p) A B (length a - 1)
reached_end {p} {A} {B} {a} {b} P h z = (
  _,
  h.keeps (length a - 1) _ (gcd_zeros (Zmod p) (length a - 1) (poly p a) (poly p b) (leads_leading P h.left)
      (below_zeros (Zmod p) (poly p b) (λ i l. poly_past p b i (omega arith)))),
)

-- a turn: a is divided by b, then b by what is left of a
module _ {p x : ℕ} {A B : Seq (Zmod p)} {a b a' : List ℕ} (h : Reached p A B a b) (t : Trimmed a' x)
    (first : PseudoRemainder p x (poly p b) (poly p a) a') where
  between : (k : ℕ) (c : Seq (Zmod p)) → Gcd (Zmod p) (poly p b) (poly p (take x a')) k c → Gcd (Zmod p) A B k c
  between k c G = h.keeps k c (gcd_sym (Zmod p) (poly p b) (poly p a) k c (left_keeps t first k c G))

  pub reached_between : Prime p → 0 < length b → x ≡ 0 → GcdDegree (Zmod p) A B (length b - 1)
  reached_between P more z = (
    _,
    between (length b - 1) _ (gcd_zeros (Zmod p) (length b - 1) (poly p b) (poly p (take x a')) (leads_leading P (h.right more))
        (below_zeros (Zmod p) _ (λ i l. poly_past p (take x a') i (omega (arith, length-take x a'))))),
  )

  pub reached_next : {y : ℕ} {b' : List ℕ} → 0 < x → Trimmed b' y → PseudoRemainder p y (poly p (take x a')) (poly p b) b'
      → Reached p A B (take x a') (take y b')
  reached_next pos u second = record {
    left = trimmed_leads p t first.reduced pos;
    reduced = left_reduced u second;
    right = left_leads u second;
    keeps = λ k c G. between k c (gcd_sym (Zmod p) (poly p (take x a')) (poly p b) k c (left_keeps u second k c G));
  }
