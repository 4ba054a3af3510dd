-- Fractions of polynomials: n / b with n coprime to b is in lowest terms. Every m / c that is the same fraction, m b = n c, is n / b with numerator and
-- denominator multiplied by one polynomial.
-- Assumes nothing.
use Rattle.std.specs.Prelude.{◌≡◌}
use Rattle.std.proofs.Common.{sym, ◌∙◌, ap}
use Rattle.ring.specs.Ring.{CRing}
use Rattle.ring.specs.Identity.{solve3}
use Rattle.ring.specs.Identity.Ex.{◌:*◌}
use Rattle.series.specs.Series.{Series, Seq, conv}
use Rattle.series.specs.Degree.{Poly, Regular, poly_mul, regular_cancel}
use Rattle.divisibility.specs.Divides.{Divides}
use Rattle.divisibility.specs.Coprime.{Coprime, bezout_sym, coprime_divides}

module _ (R : CRing) (n b m c : Seq R) (coprime : Coprime R n b) (poly_m : Poly R m) (poly_c : Poly R c) (same : conv R m b ≡ conv R n c) where
  pub denominator : Divides R b c
  denominator =
      coprime_divides R b n c poly_c (bezout_sym R n b _ coprime) (record { cofactor = m; poly = poly_m; is = CRing.mul_comm (Series R) b m ∙ same })

  pub numerator : Poly R n → Regular R b → conv R n denominator.cofactor ≡ m
  numerator poly_n regular =
      let k : Seq R = denominator.cofactor in
      regular_cancel R b (conv R n k) m regular (poly_mul R n k poly_n denominator.poly) poly_m
      (solve3 (Series R) (λ b n k. b :* (n :* k)) (λ b n k. n :* (b :* k)) tt b n k
      ∙ ap (conv R n) denominator.is ∙ sym same ∙ CRing.mul_comm (Series R) m b)
