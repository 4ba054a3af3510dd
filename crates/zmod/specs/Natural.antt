-- Identities of the natural numbers, with `+`, `*` and `^`, by computing: the normaliser of rings, at the integers modulo a number above
-- both sides. (ℕ itself is no ring.)
-- Assumes nothing.
use Rattle.std.specs.Prelude.{◌≡◌, refl, Bool, true, false, List, [], ◌∷◌, ℕ, suc, ◌+◌, ◌*◌, ◌^◌, ◌<◌, ◌%◌, T, get_or}
use Rattle.std.proofs.Common.{sym, ◌∙◌, ap, ap₂, arith}
use Rattle.std.proofs.Math.Nat as N
use Rattle.ring.specs.Ring.{pow}
use Rattle.ring.specs.Test.{both, both_left, both_right}
use Rattle.ring.specs.Identity.{Ex, eval, ring, same}
use Rattle.ring.specs.Identity.Ex.{var, num, :0, :1, ◌:+◌, ◌:-◌, ◌:*◌, :-◌, ◌:^◌}
use Rattle.zmod.specs.Zmod.{Zmod, mk, mk_add, mk_mul, mk_pow, eq_mk, plus, times, cast_mk}

-- it has no difference
abbrev pub plain : Ex → Bool
plain (var i) = true
plain (num n) = true
plain :0 = true
plain :1 = true
plain (a :+ b) = both (plain a) (plain b)
plain (a :- b) = false
plain (a :* b) = both (plain a) (plain b)
plain (:- a) = false
plain (a :^ n) = plain a

abbrev pub eval_n : (ℕ → ℕ) → Ex → ℕ
eval_n ρ (var i) = ρ i
eval_n ρ (num n) = n
eval_n ρ :0 = 0
eval_n ρ :1 = 1
eval_n ρ (a :+ b) = eval_n ρ a + eval_n ρ b
eval_n ρ (a :- b) = 0
eval_n ρ (a :* b) = eval_n ρ a * eval_n ρ b
eval_n ρ (:- a) = 0
eval_n ρ (a :^ n) = eval_n ρ a ^ n

-- the class of an expression's value is the expression of the classes
pub agree : (p : ℕ) (ρ : ℕ → ℕ) (e : Ex) → T (plain e) → mk p (eval_n ρ e) ≡ eval (Zmod p) (λ i. mk p (ρ i)) e
agree p ρ (var i) t = refl
agree p ρ (num n) t = sym (cast_mk p n)
agree p ρ :0 t = refl
agree p ρ :1 t = refl
agree p ρ (a :+ b) t =
    mk_add p _ _ ∙ ap₂ (plus p) (agree p ρ a (both_left (plain a) (plain b) t)) (agree p ρ b (both_right (plain a) (plain b) t))
agree p ρ (a :- b) t = absurd t
agree p ρ (a :* b) t =
    mk_mul p _ _ ∙ ap₂ (times p) (agree p ρ a (both_left (plain a) (plain b) t)) (agree p ρ b (both_right (plain a) (plain b) t))
agree p ρ (:- a) t = absurd t
agree p ρ (a :^ n) t = mk_pow p (eval_n ρ a) n ∙ ap (λ x. pow (Zmod p) x n) (agree p ρ a t)

pub ring_n : (ρ : ℕ → ℕ) (a b : Ex) → T (plain a) → T (plain b) → T (same a b) → eval_n ρ a ≡ eval_n ρ b
ring_n ρ a b ta tb t =
    let p : ℕ = suc (eval_n ρ a + eval_n ρ b) in
    let pos : 0 < p = N.zero-lt-suc _ in
    let e : eval_n ρ a % p ≡ eval_n ρ b % p = eq_mk pos _ _ (agree p ρ a ta ∙ ring (Zmod p) (λ i. mk p (ρ i)) a b t ∙ sym (agree p ρ b tb)) in
    sym (N.mod-eq_of_lt (omega arith)) ∙ e ∙ N.mod-eq_of_lt (omega arith)

-- what the variables 0, 1, .. stand for
abbrev pub at : List ℕ → ℕ → ℕ
at l i = get_or l i 0

pub solve_n2 : (φ ψ : Ex → Ex → Ex) → T (plain (φ (var 0) (var 1))) → T (plain (ψ (var 0) (var 1))) → T (same (φ (var 0) (var 1)) (ψ (var 0) (var 1)))
    → (a b : ℕ) → eval_n (at (a ∷ b ∷ [])) (φ (var 0) (var 1)) ≡ eval_n (at (a ∷ b ∷ [])) (ψ (var 0) (var 1))
solve_n2 φ ψ r s t a b = ring_n (at (a ∷ b ∷ [])) (φ (var 0) (var 1)) (ψ (var 0) (var 1)) r s t

pub solve_n3 : (φ ψ : Ex → Ex → Ex → Ex) → T (plain (φ (var 0) (var 1) (var 2))) → T (plain (ψ (var 0) (var 1) (var 2))) → T
    (same (φ (var 0) (var 1) (var 2)) (ψ (var 0) (var 1) (var 2)))
    → (a b c : ℕ) → eval_n (at (a ∷ b ∷ c ∷ [])) (φ (var 0) (var 1) (var 2)) ≡ eval_n (at (a ∷ b ∷ c ∷ [])) (ψ (var 0) (var 1) (var 2))
solve_n3 φ ψ r s t a b c = ring_n (at (a ∷ b ∷ c ∷ [])) (φ (var 0) (var 1) (var 2)) (ψ (var 0) (var 1) (var 2)) r s t

pub solve_n4 : (φ ψ : Ex → Ex → Ex → Ex → Ex) → T (plain (φ (var 0) (var 1) (var 2) (var 3))) → T (plain (ψ (var 0) (var 1) (var 2) (var 3))) → T
    (same (φ (var 0) (var 1) (var 2) (var 3)) (ψ (var 0) (var 1) (var 2) (var 3)))
    → (a b c d : ℕ) → eval_n (at (a ∷ b ∷ c ∷ d ∷ [])) (φ (var 0) (var 1) (var 2) (var 3)) ≡ eval_n (at (a ∷ b ∷ c ∷ d ∷ [])) (ψ (var 0) (var 1) (var 2) (var 3))
solve_n4 φ ψ r s t a b c d = ring_n (at (a ∷ b ∷ c ∷ d ∷ [])) (φ (var 0) (var 1) (var 2) (var 3)) (ψ (var 0) (var 1) (var 2) (var 3)) r s t

pub solve_n5 : (φ ψ : Ex → Ex → Ex → Ex → Ex → Ex) → T (plain (φ (var 0) (var 1) (var 2) (var 3) (var 4))) → T
    (plain (ψ (var 0) (var 1) (var 2) (var 3) (var 4))) → T (same (φ (var 0) (var 1) (var 2) (var 3) (var 4)) (ψ (var 0) (var 1) (var 2) (var 3) (var 4)))
    → (a b c d e : ℕ) → eval_n (at (a ∷ b ∷ c ∷ d ∷ e ∷ [])) (φ (var 0) (var 1) (var 2) (var 3) (var 4)) ≡ eval_n (at (a ∷ b ∷ c ∷ d ∷ e ∷ []))
    (ψ (var 0) (var 1) (var 2) (var 3) (var 4))
solve_n5 φ ψ r s t a b c d e = ring_n (at (a ∷ b ∷ c ∷ d ∷ e ∷ [])) (φ (var 0) (var 1) (var 2) (var 3) (var 4)) (ψ (var 0) (var 1) (var 2) (var 3) (var 4)) r s t

pub solve_n6 : (φ ψ : Ex → Ex → Ex → Ex → Ex → Ex → Ex) → T (plain (φ (var 0) (var 1) (var 2) (var 3) (var 4) (var 5))) → T
    (plain (ψ (var 0) (var 1) (var 2) (var 3) (var 4) (var 5))) → T
    (same (φ (var 0) (var 1) (var 2) (var 3) (var 4) (var 5)) (ψ (var 0) (var 1) (var 2) (var 3) (var 4) (var 5)))
    → (a b c d e f : ℕ) → eval_n (at (a ∷ b ∷ c ∷ d ∷ e ∷ f ∷ [])) (φ (var 0) (var 1) (var 2) (var 3) (var 4) (var 5)) ≡ eval_n (at (a ∷ b ∷ c ∷ d ∷ e ∷ f ∷ []))
    (ψ (var 0) (var 1) (var 2) (var 3) (var 4) (var 5))
solve_n6 φ ψ r s t a b c d e f = ring_n (at (a ∷ b ∷ c ∷ d ∷ e ∷ f ∷ [])) (φ (var 0) (var 1) (var 2) (var 3) (var 4) (var 5))
    (ψ (var 0) (var 1) (var 2) (var 3) (var 4) (var 5)) r s t

-- an example
square : (a b c : ℕ) → (a + b) * (a + b) * c ≡ a * a * c + 2 * a * b * c + c * b ^ 2
square = solve_n3 (λ x y z. (x :+ y) :* (x :+ y) :* z) (λ x y z. x :* x :* z :+ num 2 :* x :* y :* z :+ z :* y :^ 2) tt tt tt
