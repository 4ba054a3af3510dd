-- What holds of a sheet that check lets pass: questions 2 to 7 by themselves, its values, and the rules of its g and N.
-- Assumes nothing.
use Rattle.std.specs.Prelude.{◌≡◌, List, ℕ}
use Rattle.std.proofs.Common.{sym, subst}
use Rattle.zmod.specs.Zmod.{Zmod}
use Rattle.isogeny.specs.Rules.{N, R3, Meets}
use Rattle.questions.specs.Questions.{AllYes}
use Rattle.questions.specs.Joined.{all_front}
use Rattle.questions.specs.Numbered.{yes_to}
use Rattle.sheet.specs.declared.Form.TheVariants.{Certificate}
use Rattle.sheet.specs.declared.Values.{Values}
use Rattle.sheet.specs.Values.{values_of}
use Rattle.sheet.specs.Asked.{asked}
use Rattle.sheet.specs.Ready.{Ready, ready}
use Rattle.promises.specs.Asked.{prime, put, g, n, certificate_rules, check_asks}

module _ (ws : List ℕ) (passes : AllYes (check_asks ws)) where
  abbrev p : ℕ
  p = prime Certificate ws

  pub check_asked : AllYes (asked Certificate ws)
  check_asked = all_front (asked Certificate ws) (certificate_rules ws) passes

  pub certificate_ready : Ready (values_of Certificate ws)
  certificate_ready = ready Certificate ws check_asked

  pub certificate_N : n Certificate ws ≡ N (Zmod p) (put Certificate ws) (g Certificate ws)
  certificate_N = (yes_to (check_asks ws) 9 passes).0

  pub certificate_meets : Meets (Zmod p) (put Certificate ws) (g Certificate ws)
  certificate_meets = record {
    r1 = yes_to (check_asks ws) 8 passes;
    r3 = subst (R3 (Zmod p) (put Certificate ws) (g Certificate ws)) certificate_N (yes_to (check_asks ws) 10 passes);
  }

-- the same of values that code has read from it
pub ready_of : (ws : List ℕ) (v : Values) → v ≡ values_of Certificate ws → AllYes (check_asks ws) → Ready v
ready_of ws v e passes = subst Ready (sym e) (certificate_ready ws passes)
