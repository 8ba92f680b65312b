-- Where the frame of a process lies, the base of its joins is.
use Rattle.std.specs.Prelude.{◌≡◌, ℕ, ℤ, pos, ◌+ℤ◌, FitsSigned}
use Rattle.std.specs.Int.{w32, cast_unsigned}
use Rattle.module_format.specs.Contents.{Contents}
use Rattle.module_format.specs.Keeping.{Keeps}
use Rattle.machine_state.specs.BranchShares.{frame_base}
use Rattle.machine_state.specs.Holding.{Holding}
use Rattle.machine_state.specs.Memory.{data_start}
use Rattle.rulings.specs.Meaning.{HasFrame, words_in, word_of, place_in}

-- the base that a first start finds out, from the workspace and its depth
abbrev pub BasesAreFrames : Type 0
BasesAreFrames = (m : Contents) (context : ℕ) (h : Holding) (size : ℕ) (origin depth : ℤ) (workspace : ℕ) → Keeps m
    → FitsSigned w32 depth → HasFrame h size (words_in m context) origin depth workspace
    → pos (frame_base workspace depth) ≡ pos data_start +ℤ origin

-- the base as a word
abbrev pub FramesAreBases : Type 0
FramesAreBases = (m : Contents) (context : ℕ) (h : Holding) (size : ℕ) (origin depth : ℤ) (workspace base : ℕ) → Keeps m
    → HasFrame h size (words_in m context) origin depth workspace
    → base ≡ cast_unsigned w32 (word_of (pos data_start +ℤ place_in origin (pos 0)))
    → pos base ≡ pos data_start +ℤ origin
