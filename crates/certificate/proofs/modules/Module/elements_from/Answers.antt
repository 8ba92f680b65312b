use Rattle.std.proofs.Common.{rules, w32, FitsSigned, subst, ℤ, of_z, to_z}
use Rattle.std.proofs.lemmas.Int.{to_z-of_z}
use Rattle.certificate.specs.Runs.{has_element, IsRunCount}
use Rattle.certificate.proofs.BranchRunLaws.{elements_held}
use Rattle.certificate.proofs.modules.Module.elements_from.Goals as goal

pub returns-in-Some : goal.returns-in-Some
returns-in-Some c =
    let fits : FitsSigned w32 c.args.number = search rules in
    let has = λ (number : ℤ). has_element c.args.self.now c.args.context number c.args.element c.args.direction in
    subst (λ (number : ℤ). IsRunCount (has number) c.in-Some.run'.count) (to_z-of_z w32 c.args.number fits)
    (elements_held c.args.self.now c.args.context (to_z w32 (of_z w32 c.args.number)) c.args.element c.args.direction
    c.in-Some.run' c.in-Some.ensures)
