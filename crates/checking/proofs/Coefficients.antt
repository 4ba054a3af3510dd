-- What holds of the coefficients of an accepted certificate, once they have been read out.
-- Assumes nothing.
use mathlib.Core.Path.{◌≡◌, sym, ◌∙◌, ap, subst}
use mathlib.Core.List.{List, ◌++◌, map}
use Prim.Native.Nat.{ℕ, ◌+◌, ◌*◌}
use native.Mathlib.Omega.{arith}
use lib.ListN.{length, get_or, take, drop}
use lib.Seq.{take_at}
use Rattle.questions.specs.Questions.{AllYes}
use Rattle.sheet.specs.declared.Form.TheVariants.{Certificate}
use Rattle.sheet.specs.declared.Values.{Values}
use Rattle.sheet.specs.Word.{value_of}
use Rattle.sheet.specs.Form.{certificate_words}
use Rattle.sheet.specs.Place.{place_of}
use Rattle.sheet.specs.Values.{values_of, half, gOf, n_of, abscissas_of}
use Rattle.sheet.specs.Asked.{asked}
use Rattle.sheet.specs.Ready.{HoldsG, HoldsN}
use Rattle.reading.specs.Accepted.{certificate_length, certificate_g, certificate_n}
use Rattle.promises.specs.Asked.{rules_ask, certificate_rules}

module _ (ws : List ℕ) (all : AllYes (asked Certificate ws)) (v : Values) (d : ℕ) (e : v ≡ values_of Certificate ws) (d_is : d ≡ half v) where
  d_half : d ≡ half (values_of Certificate ws)
  d_half = d_is ∙ ap half e

  pub long : length ws ≡ certificate_words d
  long = certificate_length ws all ∙ ap certificate_words (sym d_half)

  -- the words that were read are the sheet's g and N
  module _ (g : List ℕ) (i : ℕ) (i_is : i ≡ d + 1) (g_is : g ≡ map value_of (take i (drop 7 ws))) where
    pub g_words : g ≡ gOf Certificate ws
    g_words = g_is ∙ ap (λ k. map value_of (take k (drop 7 ws))) (i_is ∙ ap (λ k. k + 1) d_half)

    pub g_holds : HoldsG v g
    g_holds = subst (λ v. HoldsG v g) (sym e) (subst (HoldsG (values_of Certificate ws)) (sym g_words) (certificate_g ws all))

  module _ (n : List ℕ) (j : ℕ) (j_is : j ≡ 2 * d + 2) (n_is : n ≡ map value_of (take j (drop (d + 8) ws))) where
    pub n_words : n ≡ n_of Certificate ws
    n_words =
        n_is ∙ ap (λ k. map value_of (take k (drop (d + 8) ws))) (j_is ∙ ap (λ k. 2 * k + 2) d_half)
        ∙ ap (λ k. map value_of (take (2 * half (values_of Certificate ws) + 2) (drop k ws))) (ap (λ k. k + 8) d_half ∙ eight (half (values_of Certificate ws)))
      where
        eight : (k : ℕ) → k + 8 ≡ 7 + (k + 1)
        eight k = omega arith

    pub n_holds : HoldsN v n
    n_holds = subst (λ v. HoldsN v n) (sym e) (subst (HoldsN (values_of Certificate ws)) (sym n_words) (certificate_n ws all))

  -- and so is the count
  pub abscissas_read : (c : ℕ) → c ≡ value_of (get_or ws (place_of Certificate 10 d 0) 0) → c ≡ abscissas_of ws
  abscissas_read c c_is = c_is ∙ ap (λ k. value_of (get_or ws (place_of Certificate 10 k 0) 0)) d_half

-- what is asked of them is asked of the sheet
module _ (ws : List ℕ) (v : Values) (e : v ≡ values_of Certificate ws) (g n : List ℕ) (c : ℕ) where
  pub rules_read : g ≡ gOf Certificate ws → n ≡ n_of Certificate ws → c ≡ abscissas_of ws → rules_ask v g n c ≡ certificate_rules ws
  rules_read g_is n_is c_is = λ i. rules_ask (e i) (g_is i) (n_is i) (c_is i)

-- at the front of a longer slice
module _ (ws : List ℕ) (all : AllYes (asked Certificate ws)) (v : Values) (e : v ≡ values_of Certificate ws) (part rest : List ℕ) where
  pub front_g : part ≡ gOf Certificate ws → take (half v + 1) (part ++ rest) ≡ gOf Certificate ws
  front_g h = take_at part rest (half v + 1) (ap length h ∙ (certificate_g ws all).count ∙ ap (λ v. half v + 1) (sym e)) ∙ h

  pub front_n : part ≡ n_of Certificate ws → take (2 * half v + 2) (part ++ rest) ≡ n_of Certificate ws
  front_n h = take_at part rest (2 * half v + 2) (ap length h ∙ (certificate_n ws all).count ∙ ap (λ v. 2 * half v + 2) (sym e)) ∙ h
