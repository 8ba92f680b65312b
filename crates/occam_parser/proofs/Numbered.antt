-- A line among lines.
use Rattle.std.proofs.Common.{◌≡◌, ℕ, zero, suc, ◌<◌, List, [], ◌∷◌, length, inl, inr, sym, ap, arith}
use Rattle.std.specs.Prelude.{get_or}
use Rattle.occam_layout.specs.declared.token.Line.{Line}
use Rattle.occam_parser.specs.Blocks.{rows_of}
use Rattle.occam_parser.specs.LineFaults.{IsNumbered}

pub numbered : (lines : List Line) (i : ℕ) (line : Line) → i < length lines → line ≡ get_or lines i line
    → IsNumbered (rows_of lines) line.number
numbered [] i line h e = absurd (omega arith)
numbered (l ∷ lines) zero line h e = inl (ap (λ (x : Line). x.number) (sym e))
numbered (l ∷ lines) (suc i) line h e = inr (numbered lines i line (omega arith) e)
