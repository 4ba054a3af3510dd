-- Points under what compose writes: pushing a point through it is pushing it through the first certificate and then through the second, infinity and the
-- points of both kernels included, and a point that the first refuses is refused.
-- Assumes nothing.
use Rattle.std.specs.Prelude.{◌≡◌, refl, ◌↔◌, ◌⊎◌, List, [], ◌∷◌, ℕ, ◌<◌, length, take, Result, Ok, Err}
use Rattle.std.proofs.Common.{sym, subst, inl, inr}
use Rattle.ring.specs.Ring.{CRing, pow}
use Rattle.series.specs.Series.{Seq}
use Rattle.zmod.specs.Zmod.{Elt, Zmod, mk, times}
use Rattle.zmod.specs.Residues.{poly}
use Rattle.isogeny.specs.Curve.{OnCurve}
use Rattle.isogeny.specs.Rules as Rules
use Rattle.isogeny.specs.Rules.{Question, N, Meets, g_at, N_at}
use Rattle.composition.specs.Composite.{composite, composite_g}
use Rattle.composition.proofs.Theorems as T
use Rattle.questions.specs.Questions.{AllYes, FirstNo, not_both}
use Rattle.questions.specs.Joined.{no_after, all_all, no_split}
use Rattle.questions.specs.Numbered.{yes_to}
use Rattle.sheet.specs.declared.Form.TheVariants.{Certificate}
use Rattle.sheet.specs.declared.Values.{Values}
use Rattle.sheet.specs.Values.{gOf, n_of, values_of, question, half}
use Rattle.sheet.specs.Asked.{Curves}
use Rattle.sheet.specs.Ready.{Ready, half_least}
use Rattle.questions.specs.Number.{number}
use Rattle.questions.specs.declared.refusal.Refusal.{Refusal}
use Rattle.promises.specs.declared.Point.{Point}
use Rattle.promises.specs.declared.Point.TheVariants as point
use Rattle.promises.specs.Asked.{OnDomain, Given, ComposableValues, ProductAllowed, check_asks, push_asks}
use Rattle.promises.specs.Answer.{CertificateIn, composed, ComposeRight, ToPoint, Goes, PushRight}
use Rattle.promises.specs.Composed.{over, over_same, composable, composed_question, meets_over}
use Rattle.promises.specs.Certificates.{certificate_N, certificate_meets}
use Rattle.guarantees.specs.Certified.{written_values, written_g, written_n}
use Rattle.guarantees.specs.Push.{push_answers, push_unique, push_on_codomain}
use Rattle.guarantees.specs.Compose as C
use Rattle.guarantees.specs.ComposePush.{InTurn}

module _ (first second before after : List ℕ) (c : ℕ) (right : ComposeRight first second before after (Ok c)) where
  abbrev v : Values
  v = values_of Certificate first

  abbrev w : Values
  w = values_of Certificate second

  abbrev p : ℕ
  p = v.p

  abbrev R : CRing
  R = Zmod p

  abbrev g₁ : List ℕ
  g₁ = gOf Certificate first

  abbrev g₂ : List ℕ
  g₂ = gOf Certificate second

  abbrev n₁ : List ℕ
  n₁ = n_of Certificate first

  abbrev n₂ : List ℕ
  n₂ = n_of Certificate second

  abbrev held : CertificateIn (composed v w) before after c
  held = right.1.certificate

  -- the two questions, over the first one's p, and the composite's kernel polynomial
  abbrev q₁ : Question R
  q₁ = question v

  abbrev q₂ : Question R
  q₂ = question (over p w)

  abbrev G : Seq R
  G = composite_g R q₁ (half w) (poly p g₁) (poly p g₂)

  -- ── what has passed

  passes₁ : AllYes (check_asks first)
  passes₁ = C.first_passes first second (length before) right.0

  passes₂ : AllYes (check_asks second)
  passes₂ = C.second_passes first second (length before) right.0

  ready₁ : Ready v
  ready₁ = C.first_ready first second (length before) right.0

  ready₂ : Ready w
  ready₂ = C.second_ready first second (length before) right.0

  meet : ComposableValues v w
  meet = C.they_meet first second (length before) right.0

  allowed : ProductAllowed v w
  allowed = C.product_allowed first second (length before) right.0

  known : Ready (composed v w)
  known = C.composite_ready first second (length before) right.0

  curves : Curves Certificate (composed v w)
  curves = C.composite_curves first second (length before) right.0

  meets₁ : Meets R q₁ (poly p g₁)
  meets₁ = certificate_meets first passes₁

  meets₂ : Meets R q₂ (poly p g₂)
  meets₂ = meets_over v w ready₁ ready₂ meet allowed g₁ g₂ meets₁ (certificate_meets second passes₂)

  -- what is said of the second's values, over the first one's p
  at_p : (P : Values → Type 0) → P w → P (over p w)
  at_p P = subst P (sym (over_same w meet.p))

  N₁_is : poly p n₁ ≡ N R q₁ (poly p g₁)
  N₁_is = certificate_N first passes₁

  N₂_is : poly p n₂ ≡ N R q₂ (poly p g₂)
  N₂_is = at_p (λ w. poly w.p n₂ ≡ N (Zmod w.p) (question w) (poly w.p g₂)) (certificate_N second passes₂)

  -- ── from the composite of the laws to that on the sheet

  to_sheet : (P : Question R → Seq R → Type 0) → P (composite R q₁ q₂) G → P (question (composed v w)) (poly p held.g)
  to_sheet P h =
      subst (P (question (composed v w))) (sym right.1.g_is)
      (subst (λ q. P q G) (sym (composed_question v w ready₁ ready₂ meet allowed)) h)

  image_on_sheet : {a b a'' b'' : Elt p} → Rules.Image R (composite R q₁ q₂) G (N R (composite R q₁ q₂) G) a b a'' b''
      → Rules.Image R (question (composed v w)) (poly p held.g) (poly p held.n) a b a'' b''
  image_on_sheet {a} {b} {a''} {b''} h =
      subst (λ n. Rules.Image R (question (composed v w)) (poly p held.g) n a b a'' b'') (sym held.n_is)
      (to_sheet (λ q g. Rules.Image R q g (N R q g) a b a'' b'') h)

  -- ── the points

  first_image : {x y u t : ℕ} → ToPoint v g₁ n₁ x y u t → Rules.Image R q₁ (poly p g₁) (N R q₁ (poly p g₁)) (mk p x) (mk p y) (mk p u) (mk p t)
  first_image {x} {y} {u} {t} h = subst (λ n. Rules.Image R q₁ (poly p g₁) n (mk p x) (mk p y) (mk p u) (mk p t)) N₁_is h.image

  second_point : {x y u t : ℕ} → ToPoint w g₂ n₂ x y u t → ToPoint (over p w) g₂ n₂ x y u t
  second_point {x} {y} {u} {t} = at_p (λ w. ToPoint w g₂ n₂ x y u t)

  second_image : {x y u t : ℕ} → ToPoint w g₂ n₂ x y u t → Rules.Image R q₂ (poly p g₂) (N R q₂ (poly p g₂)) (mk p x) (mk p y) (mk p u) (mk p t)
  second_image {x} {y} {u} {t} h =
      subst (λ n. Rules.Image R q₂ (poly p g₂) n (mk p x) (mk p y) (mk p u) (mk p t)) N₂_is (second_point h).image

  -- g(u) = 0 where g₁(u) = 0, or g₂ is 0 at the abscissa to which u goes
  in_kernel : (u : Elt p) → (g_at R q₁ (poly p g₁) u ≡ mk p 0)
      ⊎ ((u' : Elt p) × (times p u' (pow R (g_at R q₁ (poly p g₁) u) 2) ≡ N_at R q₁ (N R q₁ (poly p g₁)) u) × (g_at R q₂ (poly p g₂) u' ≡ mk p 0))
      → g_at R (question (composed v w)) (poly p held.g) u ≡ mk p 0
  in_kernel u h =
      to_sheet (λ q g. g_at R q g u ≡ mk p 0)
      ((T.kernel ready₁.prime.prime q₁ q₂ (half_least v ready₁) (half_least w ready₂) (composable v w ready₁ ready₂ meet allowed)
      (poly p g₁) (poly p g₂) meets₁ meets₂ u).1 h)

  goes_on : (at between to : Point) → Goes v g₁ n₁ at between → Goes w g₂ n₂ between to → Goes (composed v w) held.g held.n at to
  goes_on point.Infinity point.Infinity point.Infinity h k = tt
  goes_on point.Infinity point.Infinity (point.Affine u t) h k = absurd k
  goes_on point.Infinity (point.Affine u t) to h k = absurd h
  goes_on (point.Affine x y) point.Infinity point.Infinity h k = in_kernel (mk p x) (inl h)
  goes_on (point.Affine x y) point.Infinity (point.Affine u t) h k = absurd k
  goes_on (point.Affine x y) (point.Affine u t) point.Infinity h k =
      in_kernel (mk p x)
      (inr (mk p u, (first_image h).abscissa, at_p (λ w. g_at (Zmod w.p) (question w) (poly w.p g₂) (mk w.p u) ≡ mk w.p 0) k))
  goes_on (point.Affine x y) (point.Affine u t) (point.Affine u' t') h k = record {
    u_below = (second_point k).u_below;
    w_below = (second_point k).w_below;
    image =
        image_on_sheet
        (T.push ready₁.prime.prime q₁ q₂ (half_least v ready₁) (half_least w ready₂) (composable v w ready₁ ready₂ meet allowed)
        (poly p g₁) (poly p g₂) meets₁ meets₂ (mk p x) (mk p y) (mk p u) (mk p t) (mk p u') (mk p t') (first_image h) (second_image k));
  }

  -- ── question 12

  -- of the composite it is that of the first
  given_on : (at : Point) → Given v at → Given (composed v w) at
  given_on (point.Affine x y) h = record { x_below = h.x_below; y_below = h.y_below; on = h.on }
  given_on point.Infinity h = tt

  given_back : (at : Point) → Given (composed v w) at → Given v at
  given_back (point.Affine x y) h = record { x_below = h.x_below; y_below = h.y_below; on = h.on }
  given_back point.Infinity h = tt

  -- and what comes from the first passes that of the second
  below : (at : Point) (u t : ℕ) → Goes v g₁ n₁ at (point.Affine u t) → (u < p) × (t < p)
  below (point.Affine x y) u t h = (h.u_below, h.w_below)
  below point.Infinity u t h = absurd h

  given_between : (at : Point) (u t : ℕ) → PushRight first at (Ok (point.Affine u t)) → Given w (point.Affine u t)
  given_between at u t h =
      let low = below at u t h.1 in
      subst (λ w. OnDomain w u t) (over_same w meet.p) (record { x_below = low.0; y_below = low.1; on = on })
    where
      on : OnCurve R (mk p w.a) (mk p w.b) (mk p u) (mk p t)
      on =
          subst (λ b. OnCurve R (mk p w.a) (mk p b) (mk p u) (mk p t)) meet.b
          (subst (λ a. OnCurve R (mk p a) (mk p v.btilde) (mk p u) (mk p t)) meet.a (push_on_codomain first at u t h))

  -- no point from there is refused
  none_refused : (at : Point) (q : Refusal) → Given w at → PushRight second at (Err q) → ⊥
  none_refused at q given h = not_both (push_asks second at) (number q) (all_all (check_asks second) ((12, Given w at) ∷ []) passes₂ (given, tt)) h

  -- ── the sheet that compose has written

  abbrev ws : List ℕ
  ws = take c after

  passes : AllYes (check_asks ws)
  passes = C.compose_certified first second before after c right

  sheet_values : values_of Certificate ws ≡ composed v w
  sheet_values = written_values (composed v w) known curves before after c held

  goes_on_sheet : (at to : Point) → Goes (composed v w) held.g held.n at to
      → Goes (values_of Certificate ws) (gOf Certificate ws) (n_of Certificate ws) at to
  goes_on_sheet at to h =
      subst (λ v. Goes v (gOf Certificate ws) (n_of Certificate ws) at to) (sym sheet_values)
      (subst (λ g. Goes (composed v w) g (n_of Certificate ws) at to) (sym (written_g (composed v w) known curves before after c held))
      (subst (λ n. Goes (composed v w) held.g n at to) (sym (written_n (composed v w) known curves before after c held)) h))

  goes_there : (at between to : Point) → AllYes (push_asks first at) → Goes v g₁ n₁ at between → Goes w g₂ n₂ between to
      → AllYes (push_asks ws at) × Goes (values_of Certificate ws) (gOf Certificate ws) (n_of Certificate ws) at to
  goes_there at between to all h k = (
    all_all (check_asks ws) ((12, Given (values_of Certificate ws) at) ∷ []) passes
        (subst (λ v. Given v at) (sym sheet_values) (given_on at (yes_to (push_asks first at) 12 all)), tt),
    goes_on_sheet at to (goes_on at between to h k),
  )

  refused_there : (at : Point) (q : Refusal) → PushRight first at (Err q) → PushRight ws at (Err q)
  refused_there at q h = go (no_split (check_asks first) ((12, Given v at) ∷ []) (number q) h)
    where
      go : FirstNo (check_asks first) (number q) ⊎ (AllYes (check_asks first) × FirstNo ((12, Given v at) ∷ []) (number q))
          → FirstNo (push_asks ws at) (number q)
      go (inl sooner) = absurd (not_both (check_asks first) (number q) passes₁ sooner)
      go (inr (_, inl (twelve, not))) =
          no_after (check_asks ws) ((12, Given (values_of Certificate ws) at) ∷ []) (number q) passes
          (inl (twelve, λ given. not (given_back at (subst (λ v. Given v at) sheet_values given))))
      go (inr (_, inr (_, none))) = absurd none

  -- ── the theorem

  in_turn_goes : (at : Point) (r : Result Point Refusal) → InTurn first second at r → PushRight ws at r
  in_turn_goes at (Ok (point.Affine u t)) (Ok (point.Affine u' t'), h, k) = goes_there at (point.Affine u' t') (point.Affine u t) h.0 h.1 k.1
  in_turn_goes at (Ok point.Infinity) (Ok (point.Affine u' t'), h, k) = goes_there at (point.Affine u' t') point.Infinity h.0 h.1 k.1
  in_turn_goes at (Err q) (Ok (point.Affine u' t'), h, k) = absurd (none_refused (point.Affine u' t') q (given_between at u' t' h) k)
  in_turn_goes at (Ok (point.Affine u t)) (Ok point.Infinity, h, k) = absurd k.1
  in_turn_goes at (Ok point.Infinity) (Ok point.Infinity, h, k) = goes_there at point.Infinity point.Infinity h.0 h.1 k.1
  in_turn_goes at (Err q) (Ok point.Infinity, h, k) = absurd (none_refused point.Infinity q tt k)
  in_turn_goes at r (Err q, h, k) = subst (PushRight ws at) (sym k) (refused_there at q h)

  -- every point has an answer in turn
  in_turn : (at : Point) → (r : Result Point Refusal) × InTurn first second at r
  in_turn at = let (between, h) = push_answers first passes₁ at in onward between h
    where
      onward : (between : Result Point Refusal) → PushRight first at between → (r : Result Point Refusal) × InTurn first second at r
      onward (Ok between) h = let (r, k) = push_answers second passes₂ between in (r, (Ok between, h, k))
      onward (Err q) h = (Err q, (Err q, h, refl))

  -- Pushing a point through what compose has written is pushing it through the first and then through the second: the one gives an answer exactly when the
  -- other does.
  pub compose_push : (at : Point) (r : Result Point Refusal) → PushRight (take c after) at r ↔ InTurn first second at r
  compose_push at r = (back, in_turn_goes at r)
    where
      back : PushRight ws at r → InTurn first second at r
      back h = let (r', k) = in_turn at in subst (InTurn first second at) (push_unique ws at r' r (in_turn_goes at r' k) h) k
