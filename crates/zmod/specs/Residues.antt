-- What words stand for. `Residue p x r`: the number r is the residue of the element x of ℤ/p. `poly p xs`: the polynomial over ℤ/p whose coefficients
-- are the words of xs, the constant term first. `Residues p a xs`: the words of xs are the residues of the first coefficients of the polynomial a.
-- Contracts of code modulo p are stated with these three.
-- Assumes nothing.
use Rattle.std.specs.Prelude.{◌≡◌, refl, List, ◌++◌, ℕ, ◌≤◌, ◌<◌, ◌%◌, length, get_or, take, replicate}
use Rattle.std.proofs.Common.{sym, ◌∙◌, ap, subst, arith, length-take, ext_get_or, get_or-take, take_at}
use Rattle.std.proofs.Math.Path.{fun_ext}
use Rattle.std.proofs.Math.Nat as N
use Rattle.std.proofs.Math.Decide.{dec_lt}
use Rattle.std.proofs.lemmas.List.{length-replicate, get_or-replicate}
use Rattle.std.proofs.Math.ListN.{get_or-eq_default}
use Rattle.slices.specs.Filling.{Filled}
use Rattle.series.specs.Series.{Seq, conv, sums, scaled, zeros}
use Rattle.series.specs.Local.{conv_local}
use Rattle.series.specs.Degree.{Below}
use Rattle.zmod.specs.Zmod.{Elt, Zmod, val, mk, plus, times, mk-val, mk_mod, mk_apart, val-lt}

-- the number below p that is in the class x
pub record Residue (p : ℕ) (x : Elt p) (r : ℕ) : Type 0 where
  pub below : r < p
  pub class : mk p r ≡ x

-- there is one, and only one
pub residue_val : {p : ℕ} → 0 < p → (x : Elt p) → Residue p x (val p x)
residue_val {p} pos x = record { below = val-lt pos x; class = mk-val p x }

pub residue_unique : {p : ℕ} {x : Elt p} {r s : ℕ} → Residue p x r → Residue p x s → r ≡ s
residue_unique {p} {x} {r} {s} h k = mk_apart {p = p} (omega arith) r s h.below k.below (h.class ∙ sym k.class)

pub residue_mod : {p : ℕ} → 0 < p → (n : ℕ) → Residue p (mk p n) (n % p)
residue_mod pos n = record { below = N.mod-lt n pos; class = mk_mod pos n }

pub residue_self : {p : ℕ} (n : ℕ) → n < p → Residue p (mk p n) n
residue_self n h = record { below = h; class = refl }

pub residue_same : {p : ℕ} {x y : Elt p} {r : ℕ} → x ≡ y → Residue p x r → Residue p y r
residue_same e h = record { below = h.below; class = h.class ∙ e }

-- ── polynomials in slices

-- each word is below p; past the end a list reads 0
abbrev pub Reduced : ℕ → List ℕ → Type 0
Reduced p xs = (i : ℕ) → get_or xs i 0 < p

unfoldable pub poly : (p : ℕ) → List ℕ → Seq (Zmod p)
poly p xs i = mk p (get_or xs i 0)

pub poly_at : (p : ℕ) (xs : List ℕ) (i : ℕ) → poly p xs i ≡ mk p (get_or xs i 0)
unfolding poly
poly_at p xs i = refl

pub poly_past : (p : ℕ) (xs : List ℕ) → Below (Zmod p) (length xs) (poly p xs)
poly_past p xs i le = poly_at p xs i ∙ ap (mk p) (get_or-eq_default xs 0 le)

pub record Residues (p : ℕ) (a : Seq (Zmod p)) (xs : List ℕ) : Type 0 where
  pub reduced : Reduced p xs
  pub coefficients : (i : ℕ) → i < length xs → poly p xs i ≡ a i

-- a slice of residues holds its own polynomial's, and a whole polynomial if it is long enough
pub residues_self : {p : ℕ} {xs : List ℕ} → Reduced p xs → Residues p (poly p xs) xs
residues_self h = record { reduced = h; coefficients = λ i l. refl }

pub residues_poly : {p : ℕ} {a : Seq (Zmod p)} {xs : List ℕ} → Residues p a xs → Below (Zmod p) (length xs) a → poly p xs ≡ a
residues_poly {p} {a} {xs} h past = fun_ext λ i. go i (dec_lt i (length xs))
  where
    go : (i : ℕ) → Dec (i < length xs) → poly p xs i ≡ a i
    go i (yes l) = h.coefficients i l
    go i (no l) = poly_past p xs i (omega arith) ∙ sym (past i (omega arith))

pub residues_at : {p : ℕ} {a : Seq (Zmod p)} {xs : List ℕ} → Residues p a xs → (i : ℕ) → i < length xs → Residue p (a i) (get_or xs i 0)
residues_at {p} {a} {xs} h i l = record { below = h.reduced i; class = sym (poly_at p xs i) ∙ h.coefficients i l }

pub residues_same : {p : ℕ} {a b : Seq (Zmod p)} {xs : List ℕ} → a ≡ b → Residues p a xs → Residues p b xs
residues_same e h = record { reduced = h.reduced; coefficients = λ i l. h.coefficients i l ∙ ap (λ f. f i) e }

-- two slices of one length hold the same words
pub residues_unique : {p : ℕ} {a : Seq (Zmod p)} {xs ys : List ℕ} → length xs ≡ length ys → Residues p a xs → Residues p a ys → xs ≡ ys
residues_unique {p} {a} {xs} {ys} e h k =
    ext_get_or 0 xs ys e (λ i l. residue_unique {x = a i} (residues_at h i l) (residues_at k i (omega arith)))

-- what a loop that stores a residue a turn leaves in the slice
pub residues_filled : {p : ℕ} {a : Seq (Zmod p)} {xs : List ℕ} → 0 < p → Filled (λ j v. Residue p (a j) v) xs (length xs) → Residues p a xs
residues_filled {p} {a} {xs} pos all = record { reduced = λ i. go i (dec_lt i (length xs)); coefficients = λ i l. poly_at p xs i ∙ (all i l).class }
  where
    go : (i : ℕ) → Dec (i < length xs) → get_or xs i 0 < p
    go i (yes l) = (all i l).below
    go i (no l) = let z : get_or xs i 0 ≡ 0 = get_or-eq_default xs 0 (omega arith) in omega arith

-- the front of a slice
pub reduced_take : {p : ℕ} (xs : List ℕ) → 0 < p → (n : ℕ) → Reduced p xs → Reduced p (take n xs)
reduced_take {p} xs pos n h i = go (dec_lt i n)
  where
    go : Dec (i < n) → get_or (take n xs) i 0 < p
    go (yes l) = let e : get_or (take n xs) i 0 ≡ get_or xs i 0 = get_or-take n xs i 0 l in omega (arith, h i)
    go (no l) =
        let z : get_or (take n xs) i 0 ≡ 0 = get_or-eq_default (take n xs) 0 (omega (arith, length-take n xs)) in
        omega arith

-- ── what callers chain: a slice that was filled stands for its polynomial in what is made of it next

pub poly_below : (p : ℕ) (xs : List ℕ) (n : ℕ) → length xs ≤ n → Below (Zmod p) n (poly p xs)
poly_below p xs n le i l = poly_past p xs i (omega arith)

-- a and b need to agree only as far as the slice goes
pub residues_upto : {p : ℕ} {a b : Seq (Zmod p)} {xs : List ℕ} → ((i : ℕ) → i < length xs → a i ≡ b i) → Residues p a xs → Residues p b xs
residues_upto e h = record { reduced = h.reduced; coefficients = λ i l. h.coefficients i l ∙ e i l }

-- so an operand may be known by its front alone
pub residues_sums : {p : ℕ} {a : Seq (Zmod p)} {xs ys : List ℕ} (b : Seq (Zmod p)) → length ys ≤ length xs → Residues p a xs
    → Residues p (sums (Zmod p) (poly p xs) b) ys → Residues p (sums (Zmod p) a b) ys
residues_sums {p} b le h = residues_upto (λ i l. ap (λ x. plus p x (b i)) (h.coefficients i (omega arith)))

pub residues_scaled : {p : ℕ} {a : Seq (Zmod p)} {xs ys : List ℕ} (c : Elt p) → length ys ≤ length xs → Residues p a xs
    → Residues p (scaled (Zmod p) c (poly p xs)) ys → Residues p (scaled (Zmod p) c a) ys
residues_scaled {p} c le h = residues_upto (λ i l. ap (times p c) (h.coefficients i (omega arith)))

pub residues_conv : {p : ℕ} {a b : Seq (Zmod p)} {xs ys zs : List ℕ} → length zs ≤ length xs → length zs ≤ length ys → Residues p a xs → Residues p b ys
    → Residues p (conv (Zmod p) (poly p xs) (poly p ys)) zs → Residues p (conv (Zmod p) a b) zs
residues_conv {p} {a} {b} {xs} {ys} lx ly ha hb =
    residues_upto (λ i l. conv_local (Zmod p) i (poly p xs) a (poly p ys) b (λ j g. ha.coefficients j (omega arith)) (λ j g. hb.coefficients j (omega arith)))

-- the front of a slice, and a slice of zeros
pub residues_take : {p : ℕ} {a : Seq (Zmod p)} {xs : List ℕ} → 0 < p → (n : ℕ) → Residues p a xs → Residues p a (take n xs)
residues_take {p} {a} {xs} pos n h = record {
  reduced = reduced_take xs pos n h.reduced;
  coefficients = λ i l.
      poly_at p (take n xs) i ∙ ap (mk p) (get_or-take n xs i 0 (omega (arith, length-take n xs))) ∙ sym (poly_at p xs i)
      ∙ h.coefficients i (omega (arith, length-take n xs));
}

pub residues_zeros : {p : ℕ} → 0 < p → (n : ℕ) → Residues p (zeros (Zmod p)) (replicate n 0)
residues_zeros {p} pos n = residues_filled {a = zeros (Zmod p)} pos (λ j l.
    let e : get_or (replicate n 0) j 0 ≡ 0 = get_or-replicate n j 0 0 (omega (arith, length-replicate {A = ℕ} n 0)) in
    record { below = omega arith; class = ap (mk p) e })

-- a part that was lent, filled and came back: the front of the whole is what the part was filled with
pub residues_part : {p : ℕ} {a : Seq (Zmod p)} {part : List ℕ} (rest : List ℕ) (n : ℕ) → length part ≡ n → Residues p a part → Residues p a
    (take n (part ++ rest))
residues_part {p} {a} {part} rest n e h = subst (Residues p a) (sym (take_at part rest n e)) h
