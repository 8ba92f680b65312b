-- Code whose workspace is that of the root.
use Rattle.std.proofs.Common.{◌≡◌, ap, ◌∙◌, pos, refl}
use Rattle.std.specs.Prelude.{ℤ, ◌-ℤ◌}
use Rattle.std.proofs.Math.IntN.{+ℤ_idr}
use Rattle.code_pieces.specs.declared.piece.Workspace.{Workspace}
use Rattle.code_pieces.specs.Pieces.{Piece, Direct, Jump, JumpUnless, LoopBack, Distance, StartBranch, Select}
use Rattle.code_pieces.specs.Pieces.{TableAddress, Row, Place, Within, Par}
use Rattle.code_pieces.specs.Laying.{workspace_behind}
use Rattle.code_pieces.specs.WellFormed.{IsOfOneProcess}

-- nothing is taken from a word
pub word_less_nothing : (n depth : ℤ) → depth ≡ pos 0 → n -ℤ depth ≡ n
word_less_nothing n depth e = ap (λ (d : ℤ). n -ℤ d) e ∙ +ℤ_idr n

-- the workspace is the same after a piece of one process
pub stays_in_root : (p : Piece) (w : Workspace) → IsOfOneProcess p → workspace_behind p w ≡ w
stays_in_root (Within other) w alone = absurd alone
stays_in_root (Par par) w alone = absurd alone
stays_in_root (Row l entries) w alone = refl
stays_in_root (Place l) w alone = refl
stays_in_root (Direct f n) w alone = refl
stays_in_root (Jump to) w alone = refl
stays_in_root (JumpUnless to) w alone = refl
stays_in_root (LoopBack head behind) w alone = refl
stays_in_root (Distance from to) w alone = refl
stays_in_root (StartBranch entry successor) w alone = refl
stays_in_root (Select targets) w alone = refl
stays_in_root (TableAddress values) w alone = refl
