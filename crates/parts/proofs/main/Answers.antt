-- `parts::main` meets its contract. Assumes nothing.
use Rattle.std.proofs.Common.{ap, arith, refl, subst, sym, ◌*◌, ◌+◌, ◌-◌, ◌∙◌}
use Rattle.zmod.specs.Residues.{poly}
use Rattle.sheet.specs.declared.Values.{Values}
use Rattle.sheet.specs.Values.{half}
use Rattle.sheet.specs.Ready.{HoldsG}
use Rattle.text.specs.Text.{hex_lines}
use Rattle.marked.specs.Table.{first_g}
use Rattle.parts.specs.Parts.{Parts, parts_are, first_ready, first_holds}
use Rattle.parts.proofs.main.Goals as goal

pub new-v-requires : goal.new-v-requires
new-v-requires c = first_ready

pub products-requires : goal.products-requires
products-requires c =
    let same = sym c.new-v.ensures in
    record {
      holds_g = subst (λ (v : Values). HoldsG v first_g) same first_holds;
      e_len = (
        ap (λ (v : Values). half v + 7) same,
        ap (λ (v : Values). 2 * half v + 1) same,
        ap (λ (v : Values). half v) same,
        ap (λ (v : Values). 2 * half v + 1) same,
      );
      square_len = (
        ap (λ (v : Values). 2 * half v + 1) same,
        ap (λ (v : Values). 2 * half v) same,
        ap (λ (v : Values). 2 * half v - 1) same,
      );
    }

pub fill-requires : goal.fill-requires
fill-requires c =
    let hold = c.products.ensures in
    record {
      reduced = (hold.square_is.reduced, hold.slope_is.reduced, hold.bend_is.reduced);
      first_len = (refl, refl);
    }

pub print-requires : goal.print-requires
print-requires c =
    let filled = c.fill.ensures _ c.products.ensures in
    let are =
    parts_are _ _ _ (omega arith, omega arith, omega arith)
    (subst (λ (v : Values). Parts v (poly v.p first_g) c.fill.new.linear c.fill.new.first c.fill.new.second) c.new-v.ensures filled)
    in
    (c.lines-one.ensures ∙ ap hex_lines are.0, c.lines-two.ensures ∙ ap hex_lines are.1, c.lines-three.ensures ∙ ap hex_lines are.2)
