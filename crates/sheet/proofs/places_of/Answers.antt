-- `sheet::places_of` meets its contract. Assumes nothing.
use Rattle.std.proofs.Common.{subst, sym}
use Rattle.sheet.specs.Place.{PlacesOf}
use Rattle.sheet.proofs.PlaceTable.{question, certificate, kernel, question_places, certificate_places, kernel_places}
use Rattle.sheet.proofs.places_of.Goals as goal

pub returns-in-Question : goal.returns-in-Question
returns-in-Question c = subst (λ form. PlacesOf form question) (sym c.in-Question.is) question_places

pub returns-in-Certificate : goal.returns-in-Certificate
returns-in-Certificate c = subst (λ form. PlacesOf form certificate) (sym c.in-Certificate.is) certificate_places

pub returns-in-Kernel : goal.returns-in-Kernel
returns-in-Kernel c = subst (λ form. PlacesOf form kernel) (sym c.in-Kernel.is) kernel_places
