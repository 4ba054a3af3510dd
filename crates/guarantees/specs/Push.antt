-- What a customer can cite of push: for every point of every certificate that passes one answer is right and no other, and an affine image is a point of
-- the codomain.
-- Assumes nothing.
use Rattle.std.specs.Prelude.{◌≡◌, refl, List, [], ◌∷◌, ℕ, suc, ◌<◌, Result, Ok, Err}
use Rattle.std.proofs.Common.{sym, ap₂, subst, inl, arith}
use Rattle.std.proofs.Math.Decide.{dec_lt}
use Rattle.series.specs.Degree.{Below}
use Rattle.zmod.specs.Zmod.{Zmod, mk, mk_apart, val, val-lt, mk-val, same?}
use Rattle.zmod.specs.Prime.{Prime, prime_pos}
use Rattle.zmod.specs.Residues.{poly_past}
use Rattle.isogeny.specs.Curve.{OnCurve}
use Rattle.isogeny.specs.Rules as Rules
use Rattle.isogeny.specs.Rules.{ℓ, g_at}
use Rattle.isogeny.proofs.Theorems as T
use Rattle.questions.specs.Questions.{AllYes}
use Rattle.questions.specs.Joined.{all_front, all_all, no_after}
use Rattle.questions.specs.Numbered.{yes_to}
use Rattle.questions.specs.Answers.{answers_unique}
use Rattle.sheet.specs.declared.Form.TheVariants.{Certificate}
use Rattle.sheet.specs.Values.{gOf, n_of, values_of, half}
use Rattle.reading.specs.Accepted.{certificate_g, certificate_n}
use Rattle.promises.specs.declared.Point.{Point}
use Rattle.promises.specs.declared.Point.TheVariants as point
use Rattle.questions.specs.Number.{outcome, same_outcome}
use Rattle.questions.specs.declared.refusal.Refusal.{Refusal}
use Rattle.questions.specs.declared.refusal.Refusal.TheVariants as refusal
use Rattle.promises.specs.Asked.{prime, put, g, n, OnDomain, check_asks, push_asks, Given}
use Rattle.promises.specs.Answer.{ToPoint, Goes, PushRight}
use Rattle.promises.specs.Certificates.{check_asked}

-- the questions that check asks
pub push_checked : (ws : List ℕ) (at : Point) → AllYes (push_asks ws at) → AllYes (check_asks ws)
push_checked ws at all = all_front (check_asks ws) ((12, Given (values_of Certificate ws) at) ∷ []) all

module _ (ws : List ℕ) (all : AllYes (check_asks ws)) where
  abbrev p : ℕ
  p = prime Certificate ws

  is_prime : Prime p
  is_prime = (yes_to (check_asks ws) 3 all).prime

  g_below : Below (Zmod p) (suc (half (values_of Certificate ws))) (g Certificate ws)
  g_below i l = poly_past p (gOf Certificate ws) i (omega (arith, (certificate_g ws (check_asked ws all)).count))

  n_below : Below (Zmod p) (suc (ℓ (Zmod p) (put Certificate ws))) (n Certificate ws)
  n_below i l = poly_past p (n_of Certificate ws) i (omega (arith, (certificate_n ws (check_asked ws all)).count))

  one_point : {x y u w u' w' : ℕ} → ToPoint (values_of Certificate ws) (gOf Certificate ws) (n_of Certificate ws) x y u w
      → ToPoint (values_of Certificate ws) (gOf Certificate ws) (n_of Certificate ws) x y u' w' → point.Affine u w ≡ point.Affine u' w'
  one_point {x} {y} {u} {w} {u'} {w'} h k =
      let same =
      T.image_unique is_prime (put Certificate ws) (g Certificate ws) (n Certificate ws) g_below n_below (mk p x) (mk p y) (mk p u) (mk p w) (mk p u') (mk p w')
      h.image k.image in
      ap₂ point.Affine (mk_apart (prime_pos is_prime) u u' h.u_below k.u_below same.0)
      (mk_apart (prime_pos is_prime) w w' h.w_below k.w_below same.1)

  -- each point goes to one
  pub goes_once : (at a b : Point) → Goes (values_of Certificate ws) (gOf Certificate ws) (n_of Certificate ws) at a
      → Goes (values_of Certificate ws) (gOf Certificate ws) (n_of Certificate ws) at b → a ≡ b
  goes_once (point.Affine x y) (point.Affine u w) (point.Affine u' w') h k = one_point h k
  goes_once (point.Affine x y) (point.Affine u w) point.Infinity h k = absurd (h.image.defined k)
  goes_once (point.Affine x y) point.Infinity (point.Affine u w) h k = absurd (k.image.defined h)
  goes_once (point.Affine x y) point.Infinity point.Infinity h k = refl
  goes_once point.Infinity (point.Affine u w) b h k = absurd h
  goes_once point.Infinity point.Infinity (point.Affine u w) h k = absurd k
  goes_once point.Infinity point.Infinity point.Infinity h k = refl

  -- ── every point has an answer

  on_domain? : (x y : ℕ) → Dec (OnDomain (values_of Certificate ws) x y)
  unfolding OnCurve
  on_domain? x y = go (dec_lt x p) (dec_lt y p) (same? p _ _)
    where
      go : Dec (x < p) → Dec (y < p)
          → Dec (OnCurve (Zmod p) (put Certificate ws).A (put Certificate ws).B (mk p x) (mk p y)) → Dec (OnDomain (values_of Certificate ws) x y)
      go (yes a) (yes b) (yes on) = yes (record { x_below = a; y_below = b; on = on })
      go (yes a) (yes b) (no off) = no (λ h. off h.on)
      go (yes a) (no b) on = no (λ h. b h.y_below)
      go (no a) b on = no (λ h. a h.x_below)

  affine_answer : (x y : ℕ) → OnDomain (values_of Certificate ws) x y → (r : Result Point Refusal) × PushRight ws (point.Affine x y) r
  affine_answer x y on = go (same? p (g_at (Zmod p) (put Certificate ws) (g Certificate ws) (mk p x)) (mk p 0))
    where
      asked_all : AllYes (push_asks ws (point.Affine x y))
      asked_all = all_all (check_asks ws) ((12, Given (values_of Certificate ws) (point.Affine x y)) ∷ []) all (on, tt)

      go : Dec (g_at (Zmod p) (put Certificate ws) (g Certificate ws) (mk p x) ≡ mk p 0) → (r : Result Point Refusal) × PushRight ws (point.Affine x y) r
      go (yes zero) = (Ok point.Infinity, (asked_all, zero))
      go (no nonzero) =
          let (u, w, h) =
          T.image_exists is_prime (put Certificate ws) (g Certificate ws) (n Certificate ws) g_below n_below (mk p x) (mk p y) nonzero in (
            Ok (point.Affine (val p u) (val p w)),
            (
              asked_all,
              record {
                u_below = val-lt (prime_pos is_prime) u;
                w_below = val-lt (prime_pos is_prime) w;
                image =
                    subst (λ w. Rules.Image (Zmod p) (put Certificate ws) (g Certificate ws) (n Certificate ws) (mk p x) (mk p y) (mk p (val p u)) w)
                    (sym (mk-val p w))
                    (subst (λ u. Rules.Image (Zmod p) (put Certificate ws) (g Certificate ws) (n Certificate ws) (mk p x) (mk p y) u w) (sym (mk-val p u)) h);
              },
            ),
          )

  -- Whatever the point, some answer is right.
  pub push_answers : (at : Point) → (r : Result Point Refusal) × PushRight ws at r
  push_answers point.Infinity =
      (Ok point.Infinity, (all_all (check_asks ws) ((12, Given (values_of Certificate ws) point.Infinity) ∷ []) all (tt, tt), tt))
  push_answers (point.Affine x y) = go (on_domain? x y)
    where
      go : Dec (OnDomain (values_of Certificate ws) x y) → (r : Result Point Refusal) × PushRight ws (point.Affine x y) r
      go (yes on) = affine_answer x y on
      go (no off) =
          (Err refusal.Point, no_after (check_asks ws) ((12, Given (values_of Certificate ws) (point.Affine x y)) ∷ []) 12 all (inl (refl, off)))

module _ (ws : List ℕ) (at : Point) where
  -- One answer is right at most.
  pub push_unique : (r r' : Result Point Refusal) → PushRight ws at r → PushRight ws at r' → r ≡ r'
  push_unique r r' h k =
      same_outcome r r'
      (answers_unique (push_asks ws at) (Goes (values_of Certificate ws) (gOf Certificate ws) (n_of Certificate ws) at)
      (λ all a b. goes_once ws (push_checked ws at all) at a b) (outcome r) (outcome r') h k)

  -- An affine image is a point of the codomain.
  pub push_on_codomain : (u w : ℕ) → PushRight ws at (Ok (point.Affine u w))
      → OnCurve (Zmod (prime Certificate ws)) (put Certificate ws).Ã (put Certificate ws).B̃ (mk (prime Certificate ws) u) (mk (prime Certificate ws) w)
  push_on_codomain u w (all, goes) = go at (yes_to (push_asks ws at) 12 all) goes
    where
      passes : AllYes (check_asks ws)
      passes = push_checked ws at all

      go : (at : Point) → Given (values_of Certificate ws) at → Goes (values_of Certificate ws) (gOf Certificate ws) (n_of Certificate ws) at (point.Affine u w)
          → OnCurve (Zmod (prime Certificate ws)) (put Certificate ws).Ã (put Certificate ws).B̃ (mk (prime Certificate ws) u) (mk (prime Certificate ws) w)
      go (point.Affine x y) on goes =
          T.push (is_prime ws passes) (put Certificate ws) (g Certificate ws) (n Certificate ws) (g_below ws passes) (n_below ws passes)
          (yes_to (check_asks ws) 10 passes) (mk (prime Certificate ws) x) (mk (prime Certificate ws) y) (mk (prime Certificate ws) u)
          (mk (prime Certificate ws) w)
          on.on goes.image
      go point.Infinity on goes = absurd goes
