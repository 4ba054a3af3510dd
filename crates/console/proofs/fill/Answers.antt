-- What a read gave stands behind what stood at the front already.
use Rattle.std.proofs.Common.{rules, ◌≡◌, ℕ, ◌+◌, ◌-◌, ◌≤◌, List, ◌++◌, length, take, drop, sym, ap, ap₂, subst, ◌∙◌, le_refl, take-add, drop_at, length-take-le}
use Rattle.std.proofs.lemmas.List.{take-append-le}
use Rattle.std.proofs.lemmas.Slice.{take-put_mid_below}
use Rattle.std.specs.Io.KnownBytes.{Consumes}
use Rattle.std.proofs.KnownBytes.{Consumes-trans}
use Rattle.console.proofs.fill.Goals as goal

-- a part from a on, of which the first n elements count
joined : (a k n : ℕ) (xs ys : List ℕ) → a ≤ length xs → n ≤ length ys
    → take a xs ++ take n ys ≡ take (a + n) (take a xs ++ (ys ++ drop k (drop a xs)))
joined a k n xs ys within fits =
    let after = drop k (drop a xs) in
    sym
    (take-add a n (take a xs ++ (ys ++ after))
    ∙ ap₂ ◌++◌ (take-put_mid_below a k xs ys a (le_refl a) within)
    (ap (take n) (drop_at (take a xs) (ys ++ after) a (length-take-le a xs within)) ∙ take-append-le n ys after fits))

pub loop-done-preserved : goal.loop-done-preserved
loop-done-preserved g c =
    let kept = c.loop-done.kept in
    let done = c.loop-done.done in (
      search rules,
      search rules,
      subst (Consumes _ _) (joined done (length kept - done) c.in-Ok.n kept c.read.new.buf c.loop-done.invariant.0 c.in-Ok.ensures.bound.0)
          (Consumes-trans _ _ _ _ _ c.loop-done.invariant.2 c.in-Ok.ensures.bytes.0),
    )
