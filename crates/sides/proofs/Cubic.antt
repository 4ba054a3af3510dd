-- f by its four words.
-- Assumes nothing.
use mathlib.Core.Path.{◌≡◌, sym, ◌∙◌, ap, ap₂, fun_ext}
use mathlib.Core.List.{List, [], ◌∷◌}
use Prim.Native.Nat.{ℕ, zero, suc, ◌<◌}
use Rattle.ring.specs.Ring
use Rattle.ring.specs.Identity.{solve3}
use Rattle.ring.specs.Identity.Ex.{:0, :1, ◌:+◌, ◌:*◌, ◌:^◌}
use Rattle.series.specs.Series.{Series, Seq, conv, sums, const, const_null, zeros, head_then}
use Rattle.series.specs.Indeterminate.{ind, conv_ind}
use Rattle.zmod.specs.Zmod.{Zmod, mk, plus}
use Rattle.zmod.specs.Residues.{Reduced, poly, poly_at}
use Rattle.isogeny.specs.Rules.{f}
use Rattle.sheet.specs.declared.Values.{Values}
use Rattle.sheet.specs.Values.{question}

pub poly_nil : (p : ℕ) → poly p [] ≡ zeros (Zmod p)
poly_nil p = fun_ext λ i. poly_at p [] i

pub poly_cons : (p a : ℕ) (xs : List ℕ) → poly p (a ∷ xs) ≡ sums (Zmod p) (const (Zmod p) (mk p a)) (conv (Zmod p) (ind (Zmod p)) (poly p xs))
poly_cons p a xs = fun_ext λ i. go i ∙ ap (λ s. plus p (const (Zmod p) (mk p a) i) (s i)) (sym (conv_ind (Zmod p) (poly p xs)))
  where
    go : (i : ℕ) → poly p (a ∷ xs) i ≡ plus p (const (Zmod p) (mk p a) i) (head_then (Zmod p) (mk p 0) (poly p xs) i)
    go zero = poly_at p (a ∷ xs) 0 ∙ sym ((Zmod p).add-zero (mk p a))
    go (suc i) = poly_at p (a ∷ xs) (suc i) ∙ sym (poly_at p xs i) ∙ sym (Ring.zero-add (Zmod p) (poly p xs i))

pub reduced_nil : {p : ℕ} → 0 < p → Reduced p []
reduced_nil h i = h

pub reduced_cons : {p : ℕ} (a : ℕ) (xs : List ℕ) → a < p → Reduced p xs → Reduced p (a ∷ xs)
reduced_cons a xs h k zero = h
reduced_cons a xs h k (suc i) = k i

module _ (v : Values) where
  abbrev p : ℕ
  p = v.p

  abbrev κ : ℕ → Seq (Zmod p)
  κ n = const (Zmod p) (mk p n)

  abbrev x : Seq (Zmod p)
  x = ind (Zmod p)

  pub f_words : poly p (v.b ∷ v.a ∷ 0 ∷ 1 ∷ []) ≡ f (Zmod p) (question v)
  unfolding f
  f_words =
      poly_cons p v.b (v.a ∷ 0 ∷ 1 ∷ [])
      ∙ ap (λ b. (Series (Zmod p)).add (κ v.b) (conv (Zmod p) x b))
      (poly_cons p v.a (0 ∷ 1 ∷ []) ∙ ap (λ b. (Series (Zmod p)).add (κ v.a) (conv (Zmod p) x b))
      (poly_cons p 0 (1 ∷ []) ∙ ap₂ (λ a b. (Series (Zmod p)).add a (conv (Zmod p) x b)) (fun_ext (const_null (Zmod p)))
      (poly_cons p 1 [] ∙ ap (λ b. (Series (Zmod p)).add (κ 1) (conv (Zmod p) x b)) (poly_nil p))))
      ∙ solve3 (Series (Zmod p)) (λ a b x. b :+ x :* (a :+ x :* (:0 :+ x :* (:1 :+ x :* :0)))) (λ a b x. x :^ 3 :+ a :* x :+ b) tt (κ v.a) (κ v.b) x
