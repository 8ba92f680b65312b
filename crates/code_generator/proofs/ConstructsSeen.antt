-- What is said of a construct as the definition sees it is said of it as the tree has it.
use Rattle.std.proofs.Common.{◌≡◌, sym, ap, subst, ◌∙◌}
use Rattle.occam_parser.specs.declared.tree.Construct as code_construct
use Rattle.occam_parser.specs.Blocks.{Construct}
use Rattle.occam_parser.specs.BlockViews.{construct_of}

pub of_construct : (P : Construct → Type 0) {x : Construct} {c d : code_construct.Construct} → construct_of c ≡ x
    → d ≡ c → P x → P (construct_of d)
of_construct P view is h = subst P (sym view ∙ ap construct_of (sym is)) h

-- the same where it is said of the parts by another list that is theirs
pub of_parts : {X : Type 0} (P : Construct → Type 0) (make : X → Construct) {shown whole : X}
    {c d : code_construct.Construct} → shown ≡ whole → construct_of c ≡ make whole → d ≡ c → P (make shown)
    → P (construct_of d)
of_parts P make same view is h = of_construct P view is (subst P (ap make same) h)
