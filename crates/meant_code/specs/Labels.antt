-- The labels that pieces place, how often, and on which side of who goes there.
use Rattle.std.specs.Prelude.{◌≡◌, ◌≤◌, ◌<◌, ⊤, ℕ, ◌+◌, nat_eq, ℤ, pos, List, [], ◌∷◌, ◌++◌, if◌then◌else◌}
use Rattle.std.specs.List.{AllByRecursion}
use Rattle.std.specs.Option.{option_to_list}
use Rattle.prefix_decoder.specs.declared.function.Fun.{Fun}
use Rattle.prefix_decoder.specs.declared.function.Fun.TheVariants as fun
use Rattle.code_pieces.specs.declared.words.TheConstants.{GREATEST_WORD}
use Rattle.code_pieces.specs.Pieces.{Piece, Direct, Jump, JumpUnless, LoopBack, TableAddress, Row}
use Rattle.code_pieces.specs.Placing.{label_in}
use Rattle.placed_code.specs.LaidCode.{labels_in}

-- ---- how often labels are placed

abbrev pub same : ℕ → ℕ → ℕ
same l m = if nat_eq l m then 1 else 0

-- how often a label is among others
abbrev pub times_in : ℕ → List ℕ → ℕ
times_in l [] = 0
times_in l (m ∷ ms) = same l m + times_in l ms

-- each label from the one up to the other, which is not among them, is there once, and no other label is
pub record EachOnce (from to : ℕ) (ls : List ℕ) : Type 0 where
  pub rises : from ≤ to
  pub inside : (l : ℕ) → from ≤ l → l < to → times_in l ls ≡ 1
  pub below : (l : ℕ) → l < from → times_in l ls ≡ 0
  pub above : (l : ℕ) → to ≤ l → times_in l ls ≡ 0

-- ---- kinds of pieces

-- a word of the frame, as far as words are counted
pub record IsCounted (e : ℤ) : Type 0 where
  pub word : ℕ
  pub is : e ≡ pos word
  pub few : word ≤ GREATEST_WORD

-- an instruction that names a word of the frame names one that is counted
abbrev pub NamesCounted : Fun → ℤ → Type 0
NamesCounted fun.LoadLocal e = IsCounted e
NamesCounted fun.StoreLocal e = IsCounted e
NamesCounted fun.LoadLocalPointer e = IsCounted e
NamesCounted f e = ⊤

-- an instruction, or what makes the address of a table
abbrev pub IsStraight : Piece → Type 0
IsStraight (Direct f e) = NamesCounted f e
IsStraight (TableAddress values) = ⊤
IsStraight p = ⊥

abbrev pub AreStraight : List Piece → Type 0
AreStraight ps = AllByRecursion IsStraight ps

-- of one process, at one workspace: nothing of a PAR or an ALT, and no place without a row
abbrev pub IsPlain : Piece → Type 0
IsPlain (Direct f e) = NamesCounted f e
IsPlain (TableAddress values) = ⊤
IsPlain (Jump to) = ⊤
IsPlain (JumpUnless to) = ⊤
IsPlain (LoopBack head behind) = ⊤
IsPlain (Row l entries) = ⊤
IsPlain p = ⊥

abbrev pub ArePlain : List Piece → Type 0
ArePlain ps = AllByRecursion IsPlain ps

-- ---- where labels are

-- Between these labels before a piece and these after it, it jumps forward, or goes back to a head at a turn's end.
abbrev pub Leads : List ℕ → List ℕ → Piece → Type 0
Leads before after (Jump to) = 1 ≤ times_in to after
Leads before after (JumpUnless to) = 1 ≤ times_in to after
Leads before after (LoopBack head behind) = (1 ≤ times_in head before) × (1 ≤ times_in behind after)
Leads before after p = ⊤

-- each piece of some does, where these labels are placed before them all, and these after
abbrev pub AllLead : List ℕ → List ℕ → List Piece → Type 0
AllLead before after [] = ⊤
AllLead before after (p ∷ ps) =
    Leads before (labels_in ps ++ after) p × AllLead (option_to_list (label_in p) ++ before) after ps
