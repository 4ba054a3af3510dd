-- Identities proved by computing, in every commutative ring: how `solve`, `ring` and `combine` are used.
-- Assumes nothing.
use Rattle.std.specs.Prelude.{◌≡◌, [], ◌∷◌}
use Rattle.ring.specs.Ring.{CRing, cast, pow}
use Rattle.ring.specs.Identity.{ring, at, solve2, combine2}
use Rattle.ring.specs.Identity.Ex.{var, num, :1, ◌:+◌, ◌:-◌, ◌:*◌, :-◌, ◌:^◌}

module _ (R : CRing) where
  open R use {Car, 𝟘, 𝟙, add as ◌⊕◌, mul as ◌⊗◌, neg}

  infixl 65 ◌⊕◌
  infixl 70 ◌⊗◌
  cubes : (a b : Car) → (a ⊕ neg b) ⊗ (a ⊗ a ⊕ a ⊗ b ⊕ b ⊗ b) ≡ a ⊗ a ⊗ a ⊕ neg (b ⊗ b ⊗ b)
  cubes = solve2 R (λ x y. (x :- y) :* (x :* x :+ x :* y :+ y :* y)) (λ x y. x :* x :* x :- y :* y :* y) tt

  -- more than eight variables, by `ring`
  square : (a b c : Car) → pow R (a ⊕ b ⊕ c) 2 ≡ pow R a 2 ⊕ pow R b 2 ⊕ pow R c 2 ⊕ cast R 2 ⊗ (a ⊗ b ⊕ b ⊗ c ⊕ c ⊗ a)
  square a b c =
      ring R (at R (a ∷ b ∷ c ∷ []))
      ((var 0 :+ var 1 :+ var 2) :^ 2)
      (var 0 :^ 2 :+ var 1 :^ 2 :+ var 2 :^ 2 :+ num 2 :* (var 0 :* var 1 :+ var 1 :* var 2 :+ var 2 :* var 0)) tt

  -- from hypotheses: if x² = 2 and y x = 1 then 2 y² = 1
  root : (x y : Car) → x ⊗ x ≡ cast R 2 → y ⊗ x ≡ 𝟙 → y ⊗ y ⊗ cast R 2 ≡ 𝟙
  root x y e f =
      combine2 R _ _ (neg (y ⊗ y)) _ _ (y ⊗ x ⊕ 𝟙) _ _ e f
      (solve2 R (λ x y. y :* y :* num 2 :- :1) (λ x y. :- (y :* y) :* (x :* x :- num 2) :+ (y :* x :+ :1) :* (y :* x :- :1)) tt x y)
