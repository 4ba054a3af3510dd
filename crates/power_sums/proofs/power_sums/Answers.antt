-- `power_sums::power_sums` meets its contract. Assumes nothing.
use Rattle.std.proofs.Common.{
  List,
  ap,
  arith,
  get_or,
  get_or-set_other,
  get_or-set_same,
  length,
  rules,
  set,
  subst,
  suc,
  sym,
  zero,
  ℕ,
  ◌*◌,
  ◌+◌,
  ◌-◌,
  ◌/◌,
  ◌<◌,
  ◌∙◌,
  ◌≡◌,
  ◌≤◌,
}
use Rattle.series.specs.Series.{Seq}
use Rattle.zmod.specs.Zmod.{Zmod, mk, cast_mk}
use Rattle.zmod.specs.Residues.{Residue, poly, residue_same}
use Rattle.isogeny.specs.Expansion.{power_sums_of}
use Rattle.isogeny.proofs.Sums.{sums_step, sums_obey}
use Rattle.sheet.specs.Values.{half}
use Rattle.expansion.specs.Stores.{solved_all}
use Rattle.power_sums.specs.Sums.{Newton, newton_step_zero, backwards_reduced, backwards_negated, weights_low, known_first, front_solved}
use Rattle.power_sums.proofs.power_sums.Goals as goal

-- the first word, and those that are known
front : (p d : ℕ) (g : Seq (Zmod p)) (s : List ℕ) (r known from : ℕ) → 1 ≤ length s → from ≤ known + 1 → Residue p (mk p (2 * d)) r
    → (1 ≤ known → (k : ℕ) → k ≤ known → Residue p (power_sums_of (Zmod p) d g k) (get_or s k 0))
    → (k : ℕ) → k < from → Residue p (power_sums_of (Zmod p) d g k) (get_or (set s 0 r) k 0)
front p d g s r known from long small first told zero l =
    subst (Residue p (power_sums_of (Zmod p) d g 0)) (sym (get_or-set_same s 0 r 0 long))
    (residue_same (sym (cast_mk p (2 * d)) ∙ sym (newton_step_zero (Zmod p) d g (power_sums_of (Zmod p) d g)) ∙ sym (sums_obey (Zmod p) d g 0)) first)
front p d g s r known from long small first told (suc k) l =
    subst (Residue p (power_sums_of (Zmod p) d g (suc k))) (sym (get_or-set_other s 0 (suc k) r 0 (omega arith))) (told (omega arith) (suc k) (omega arith))

pub known_rows-requires-clause-by_index : goal.known_rows-requires-clause-by_index
known_rows-requires-clause-by_index c =
    let a = c.args in
    let back = c.negated in
    let low = backwards_reduced a.v.values.p (half a.v.values) a.g.now back.new.e (search rules) c.requires.holds_g.count back.ensures in
    weights_low back.new.e c.weights.new.acc (length a.g.now - 1) (omega (arith, c.requires.holds_g.count, c.args.v.ready.degree)) c.weights.ensures
    (λ t. omega (arith, c.args.v.ready.prime, low t)) (λ t l. back.ensures.past t (omega (arith, c.requires.holds_g.count)))

pub returns : goal.returns
returns c =
    let a = c.args in
    let p = a.v.values.p in
    let back = c.negated in
    let G = poly p a.g.now in
    let d = length a.g.now - 1 in
    let half_is : half a.v.values ≡ d = omega (arith, c.requires.holds_g.count) in
    let n = backwards_negated p d a.g.now back.new.e (search rules) (omega (arith, c.requires.holds_g.count)) back.ensures in
    let s = c.sums_turns.new.s in
    let r = c.reduce in
    let degree : c.from.result ≡ 2 * d = omega (arith, c.from.ensures, c.requires.holds_g.count, c.args.v.ready.degree) in
    let first : Residue p (mk p (2 * d)) r.result = subst (λ n. Residue p (mk p n) r.result) degree r.ensures in
    let told = subst (λ m. 1 ≤ a.known → (k : ℕ) → k ≤ a.known → Residue p (power_sums_of (Zmod p) m G k) (get_or a.s.now k 0)) half_is
    c.requires.known_bound.2
    in
    let from = a.known / 4 * 4 + 1 in
    let known-front = front p d G a.s.now r.result a.known from (omega (arith, c.requires.s_len_bound, c.requires.known_bound)) (omega arith) first told in
    let due = (known_first p d G back.new.e c.weights.new.acc a.s.now r.result (omega (arith, c.requires.s_len_bound, c.requires.known_bound)) n
    c.weights.ensures first).due_from
    in
    let known = c.sums_turns.ensures G n (record {
      solved = front_solved p d G (set a.s.now 0 r.result) from known-front;
      due_from = c.known_rows.ensures.due G n (λ k l m. due k (omega arith) m);
    }) in
    let size : length (set a.s.now 0 r.result) ≡ length s = sym c.sums_turns.auto.s in
    record {
      reduced = solved_all p (Newton (Zmod p) d G) (search rules) s _ (omega (arith, size)) known.solved;
      coefficients = λ i l. sums_step (Zmod p) d G (poly p s) _ known.solved.equations i (omega (arith, size)) ∙ ap (λ m. power_sums_of (Zmod p) m G i)
          (sym half_is);
    }
