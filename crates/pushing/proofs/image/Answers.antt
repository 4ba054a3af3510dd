-- `pushing::image` meets its contract. Assumes nothing.
use Rattle.std.proofs.Common.{length-take-le, rules, sym, ◌∙◌}
use Rattle.pushing.proofs.image.Goals as goal

pub slice_bounds-image_in-end : goal.slice_bounds-image_in-end
slice_bounds-image_in-end c = sym (length-take-le _ _ (search rules))

pub slice_bounds-image_in-end-2 : goal.slice_bounds-image_in-end-2
slice_bounds-image_in-end-2 c = sym (length-take-le _ _ (search rules))

pub image_in-requires : goal.image_in-requires
image_in-requires c =
    record {
      holds = c.requires;
      powers_len = (length-take-le _ _ (search rules) ∙ c.count-k.ensures, length-take-le _ _ (search rules) ∙ c.count-k.ensures);
    }
