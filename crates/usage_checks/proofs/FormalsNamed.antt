-- Formals, each with what is known of it by its head.
use Rattle.std.proofs.Common.{◌≡◌, ℕ, ◌<◌, List, length, map, get_or, arith, sym, ap, ◌∙◌}
use Rattle.std.proofs.lemmas.List.{length-map, get_or-map}
use Rattle.occam_parser.specs.declared.tree.Formal as code_formal
use Rattle.occam_parser.specs.LineViews.{formal_of}
use Rattle.scalar_ranges.specs.Entries.{Entry}
use Rattle.program_uses.specs.declared.signature.Parameter as code_parameter
use Rattle.program_uses.specs.Declaring.{formal_meaning}
use Rattle.program_uses.specs.Signatures.{parameter_of}
use Rattle.program_uses.proofs.NextInTurn.{same_at}
use Rattle.usage_checks.specs.FormalRules.{parameter_for}

pub as_many : (outer : List Entry) (fs : List code_formal.Formal) (ps : List code_parameter.Parameter)
    → map parameter_of ps ≡ map (parameter_for outer) (map formal_of fs) → length ps ≡ length fs
as_many outer fs ps same =
    sym (length-map ps parameter_of) ∙ ap length same ∙ length-map (map formal_of fs) (parameter_for outer)
    ∙ length-map fs formal_of

pub stands_for : (outer : List Entry) (fs : List code_formal.Formal) (ps : List code_parameter.Parameter) (i : ℕ)
    (x : code_formal.Formal) (p : code_parameter.Parameter)
    → map parameter_of ps ≡ map (parameter_for outer) (map formal_of fs) → i < length fs → x ≡ get_or fs i x
    → p ≡ get_or ps i p → (parameter_of (get_or ps i p)).meaning ≡ formal_meaning outer (formal_of x)
stands_for outer fs ps i x p same low is at =
    let seen : formal_of x ≡ get_or (map formal_of fs) i (formal_of x) =
    sym (get_or-map formal_of fs i x (formal_of x) low ∙ ap formal_of (sym is)) in
    let alike = same_at parameter_of (parameter_for outer) ps (map formal_of fs) i p (formal_of x) same
    (omega (arith, as_many outer fs ps same)) at (omega (arith, length-map fs formal_of)) seen in
    ap (λ q. (parameter_of q).meaning) (sym at) ∙ ap (λ q. q.meaning) alike
