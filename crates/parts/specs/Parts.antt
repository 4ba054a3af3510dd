-- The parts of N in three lists, and what is printed of them for document 01's first marked sheet: the numbers that `marked` has in its table.
-- Assumes nothing.
use Rattle.std.specs.Prelude.{◌≡◌, refl, List, ℕ, zero, suc, ◌<◌, length, get_or}
use Rattle.std.proofs.Common.{sym, ◌∙◌, ap, lit<, lit≤}
use Rattle.series.specs.Series.{Seq}
use Rattle.zmod.specs.Zmod.{Zmod}
use Rattle.zmod.specs.Residues.{poly, Residues, residues_unique}
use Rattle.zmod.specs.Calculation.{prime_yes}
use Rattle.isogeny.specs.Rules.{linear_part_of, first_logarithmic_part_of, second_logarithmic_part_of}
use Rattle.sheet.specs.declared.Values.{Values}
use Rattle.sheet.specs.Values.{question}
use Rattle.sheet.specs.Ready.{Ready, HoldsG}
use Rattle.text.specs.Text.{hex_lines}
use Rattle.marked.specs.Row.{Claim, Listed}
use Rattle.marked.specs.Table.{first, first_g, part₁, part₂, part₃, first_parts}

-- what is printed: a line for each coefficient of each part
abbrev pub PartsText : List ℕ → List ℕ → List ℕ → Type 0
PartsText a b c = (a ≡ hex_lines part₁) × (b ≡ hex_lines part₂) × (c ≡ hex_lines part₃)

-- the residues of the first coefficients of each, as many as its list is long
pub record Parts (v : Values) (g : Seq (Zmod v.p)) (l m n : List ℕ) : Type 0 where
  pub linear : Residues v.p (linear_part_of (Zmod v.p) (question v) g) l
  pub first : Residues v.p (first_logarithmic_part_of (Zmod v.p) (question v) g) m
  pub second : Residues v.p (second_logarithmic_part_of (Zmod v.p) (question v) g) n

-- Of the marked sheet these are the marked lists.
pub parts_are : (l m n : List ℕ) → (length l ≡ 4) × (length m ≡ 4) × (length n ≡ 4) → Parts first (poly first.p first_g) l m n
    → (l ≡ part₁) × (m ≡ part₂) × (n ≡ part₃)
unfolding Claim
parts_are l m n four h = (
  alike first_parts.0 four.0 h.linear,
  alike first_parts.1 four.1 h.first,
  alike first_parts.2 four.2 h.second,
)
  where
    alike : {a : Seq (Zmod 1009)} {xs ys : List ℕ} → Listed first a ys → length xs ≡ 4 → Residues 1009 a xs → xs ≡ ys
    alike listed four residues =
        residues_unique (four ∙ sym listed.0) residues
        (record { reduced = listed.1.reduced; coefficients = λ i l. ap (λ s. s i) listed.1.same })

-- ── what the functions of `rules` ask of the sheet

pub first_ready : Ready first
first_ready = record {
  prime = record { prime = prime_yes 1009 tt; least = lit≤ tt; most = lit< tt };
  degree = record { odd = refl; least = lit≤ tt; most = lit≤ tt; small = lit< tt };
  below = record { a = lit< tt; b = lit< tt; atilde = lit< tt; btilde = lit< tt; sigma = lit< tt };
}

pub first_holds : HoldsG first first_g
first_holds = record { count = refl; reduced = below }
  where
    below : (i : ℕ) → get_or first_g i 0 < 1009
    below zero = lit< tt
    below (suc zero) = lit< tt
    below (suc (suc i)) = lit< tt
