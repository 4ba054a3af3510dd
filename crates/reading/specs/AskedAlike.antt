-- Two sheets of one form that say the same once question 2 is answered with yes: questions 2 to 7 are answered alike.
-- Assumes nothing.
use Rattle.std.specs.Prelude.{◌≡◌, ℕ, ◌↔◌, List, refl}
use Rattle.std.proofs.Common.{sym, subst}
use Rattle.questions.specs.Alike.{Alike}
use Rattle.sheet.specs.declared.Form.{Form}
use Rattle.sheet.specs.declared.Values.{Values}
use Rattle.sheet.specs.Values.{values_of}
use Rattle.sheet.specs.Asked.{Asked2, Asked6, PrimeAllowed, DegreeAllowed, ValuesBelow, Curves, asked}

abbrev pub Degree : Values → Type 0
Degree v = DegreeAllowed v.degree v.p

module _ (form : Form) (us ws : List ℕ) (two : Asked2 form us ↔ Asked2 form ws) (same : Asked2 form ws → values_of form us ≡ values_of form ws)
    (six : Asked2 form ws → Degree (values_of form ws) → Asked6 form us ↔ Asked6 form ws) where
  to : (P : Values → Type 0) → Asked2 form us → P (values_of form us) → P (values_of form ws)
  to P headed h = subst P (same (two.0 headed)) h

  from : (P : Values → Type 0) → Asked2 form us → P (values_of form ws) → P (values_of form us)
  from P headed h = subst P (sym (same (two.0 headed))) h

  abbrev PrimeOf : Values → Type 0
  PrimeOf v = PrimeAllowed v.p

  pub asked_alike : Alike (asked form us) (asked form ws)
  asked_alike = (
    refl,
    two.0,
    two.1,
    λ h. (
      refl,
      to PrimeOf h,
      from PrimeOf h,
      λ _. (
        refl,
        to Degree h,
        from Degree h,
        λ a4.
            let alike6 = six (two.0 h) (to Degree h a4) in (
              refl,
              to ValuesBelow h,
              from ValuesBelow h,
              λ _. (refl, alike6.0, alike6.1, λ _. (refl, to (Curves form) h, from (Curves form) h, λ _. tt)),
            ),
      ),
    ),
  )
